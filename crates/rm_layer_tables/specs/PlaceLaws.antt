-- The indexes that name rows, and the rows that indexes name.
use Rattle.std.proofs.Common.{◌≡◌, ℕ, ◌+◌, ◌≤◌, Bool, true, false, cond, nat_eq, List, [], ◌∷◌, ◌++◌, length, take, drop, Option, Some, None, refl, sym, ap, ◌∙◌, arith}
use Rattle.std.proofs.lemmas.Bool.{eqb-true}
use Rattle.std.proofs.lemmas.List.{take_all, drop_all, take-append-le, drop-append-le, take-append-drop}
use Rattle.std.proofs.lemmas.Option.{none-some, same_Some}
use Rattle.std.specs.declared.cmp.Ordering.{Ordering}
use Rattle.rm_layer_tables.specs.Indexes.{ip_local, KeyForm, IsForm, with_mark, network_place, with_protocol, application_place, network_index, application_index}

module _ {K : Type 0} (form : KeyForm K) where
  -- the numbers of an index that names a key at a mark
  pub record NamesKey (numbers : List ℕ) (place : ℕ × K) : Type 0 where
    pub rest : List ℕ
    pub named : numbers ≡ place.0 ∷ ip_local ∷ rest
    pub is : form.key_of rest ≡ Some place.1

  -- and of one that names a protocol of it
  pub record NamesProtocol (numbers : List ℕ) (place : ℕ × (K × ℕ)) : Type 0 where
    pub rest : List ℕ
    pub named : numbers ≡ place.0 ∷ ip_local ∷ (rest ++ place.1.1 ∷ [])
    pub is : form.key_of rest ≡ Some place.1.0

  pub key_named : (numbers : List ℕ) (place : ℕ × K) → network_place form numbers ≡ Some place → NamesKey numbers place
  key_named [] place e = absurd (none-some place e)
  key_named (mark ∷ []) place e = absurd (none-some place e)
  key_named (mark ∷ protocol ∷ rest) place e = by_ip (nat_eq protocol ip_local) refl (form.key_of rest) refl e
    where
      by_ip : (t : Bool) → nat_eq protocol ip_local ≡ t → (o : Option K) → form.key_of rest ≡ o → cond t (with_mark form mark o) None ≡ Some place → NamesKey (mark ∷ protocol ∷ rest) place
      by_ip false f o g none = absurd (none-some place none)
      by_ip true f None g none = absurd (none-some place none)
      by_ip true f (Some key) g some =
          let same : (mark, key) ≡ place = same_Some _ _ some in
          let ip : protocol ≡ ip_local = eqb-true protocol ip_local f in
          record { rest = rest; named = λ d. (same d).0 ∷ ip d ∷ rest; is = g ∙ ap (λ (at : ℕ × K). Some at.1) same }

  pub protocol_named : (numbers : List ℕ) (place : ℕ × (K × ℕ)) → application_place form numbers ≡ Some place → NamesProtocol numbers place
  protocol_named [] place e = absurd (none-some place e)
  protocol_named (mark ∷ []) place e = absurd (none-some place e)
  protocol_named (mark ∷ protocol ∷ numbers) place e =
      by_ip (nat_eq protocol ip_local) refl (form.key_of (take form.count numbers)) refl (drop form.count numbers) refl e
    where
      by_ip : (t : Bool) → nat_eq protocol ip_local ≡ t → (o : Option K) → form.key_of (take form.count numbers) ≡ o → (behind : List ℕ) → drop form.count numbers ≡ behind
          → cond t (with_protocol form mark o behind) None ≡ Some place → NamesProtocol (mark ∷ protocol ∷ numbers) place
      by_ip false f o g behind h none = absurd (none-some place none)
      by_ip true f None g behind h none = absurd (none-some place none)
      by_ip true f (Some key) g [] h none = absurd (none-some place none)
      by_ip true f (Some key) g (local ∷ next ∷ more) h none = absurd (none-some place none)
      by_ip true f (Some key) g (local ∷ []) h some =
          let same : (mark, (key, local)) ≡ place = same_Some _ _ some in
          let ip : protocol ≡ ip_local = eqb-true protocol ip_local f in
          let whole : numbers ≡ take form.count numbers ++ local ∷ [] = sym (take-append-drop form.count numbers) ∙ ap (λ more. take form.count numbers ++ more) h in
          record {
            rest = take form.count numbers;
            named = ap (λ more. mark ∷ protocol ∷ more) whole ∙ (λ d. (same d).0 ∷ ip d ∷ (take form.count numbers ++ (same d).1.1 ∷ []));
            is = g ∙ ap (λ (at : ℕ × (K × ℕ)). Some at.1.0) same;
          }

  -- the indexes of a key that has numbers name it
  pub key_at : (mark : ℕ) (key : K) → form.key_of (form.numbers key) ≡ Some key → network_place form (network_index form mark key) ≡ Some (mark, key)
  key_at mark key is = ap (with_mark form mark) is

  module _ {cmp : K → K → Ordering} (laws : IsForm form cmp) where
    pub protocol_at : (mark : ℕ) (key : K) (protocol : ℕ) → form.key_of (form.numbers key) ≡ Some key → application_place form (application_index form mark (key, protocol)) ≡ Some (mark, (key, protocol))
    protocol_at mark key protocol is =
        let long : length (form.numbers key) ≡ form.count = laws.long (form.numbers key) key is in
        let few : form.count ≤ length (form.numbers key) = omega (arith, long) in
        let front : take form.count (form.numbers key ++ protocol ∷ []) ≡ form.numbers key = take-append-le form.count (form.numbers key) (protocol ∷ []) few ∙ take_all form.count (form.numbers key) (omega (arith, long)) in
        let behind : drop form.count (form.numbers key ++ protocol ∷ []) ≡ protocol ∷ [] =
        drop-append-le form.count (form.numbers key) (protocol ∷ []) few ∙ ap (λ none. none ++ protocol ∷ []) (drop_all form.count (form.numbers key) (omega (arith, long))) in
        rw (front, behind, is) refl
