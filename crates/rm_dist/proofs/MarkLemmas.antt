-- Counts, by marks.
use Rattle.std.proofs.Common.{◌≡◌, ℕ, zero, suc, ◌+◌, ◌%◌, ◌^◌, ◌<◌, ◌≤◌, List, [], ◌∷◌, ◌++◌, length, map, get_or, Bool, true, false, cond, ◌||◌, nat_eq, nat_lt, Option, Some, None, is_some, refl, sym, ap, subst, ◌∙◌, arith}
use Rattle.std.specs.List.{sum_by}
use Rattle.std.proofs.Math.Nat.{mod-add-mod}
use Rattle.std.proofs.lemmas.List.Sums.{sum_by-cons}
use Rattle.std.proofs.lemmas.Bool.Decides.{nat_tests}
use borrow.Author.Tests.{eqb-true}
use Rattle.rm_model.specs.Judgement.{count_below}
use Rattle.rm_status.proofs.Held.{count_none, count_one, count_or}
use Rattle.rm_path.specs.declared.identifier.ProtocolIdentifier.{ProtocolIdentifier}
use Rattle.rm_path.specs.declared.protocol.Protocol.{Protocol}
use Rattle.rm_dir.proofs.Counts.{count_under}
use Rattle.rm_dist.specs.declared.count.Count.{Count}
use Rattle.rm_dist.specs.Counts.{Rising, count_in, first_frame, marked, with_marks}
use Rattle.rm_dist.specs.DistStats.{are_some, packets_of, octets_of}
use Rattle.rm_dist.specs.Marks.{Mark, with_local}
use Rattle.rm_dist.specs.Resting.{has_local, is_local}
use Rattle.rm_dist.specs.Standing.{AreOfMarks, count_by}
use Rattle.rm_dist.proofs.CountLemmas.{bumped, marked_has, marked_rise, none_below}

-- one mark more of a local index
counted_more : (mark : Mark) (those : List Mark) → Some (bumped mark.local mark.octets (count_by mark.local those)) ≡ count_by mark.local (mark ∷ those)
counted_more mark [] = ap Some (alike mark.octets)
  where
    alike : (octets : ℕ) → first_frame mark.local octets ≡ record { local = mark.local; packets = 1; octets = (0 + octets) % 2 ^ 32 }
    alike octets = ap (λ n. record { local = mark.local; packets = 1; octets = n % 2 ^ 32 }) (plus_none octets)
      where
        plus_none : (n : ℕ) → n ≡ 0 + n
        plus_none n = omega arith
counted_more mark (first ∷ those) =
    ap Some (alike (length (first ∷ those)) (sum_by (λ one. one.octets) (first ∷ those)) (sum_by (λ one. one.octets) (mark ∷ first ∷ those)) (sum_by-cons (λ one. one.octets) mark (first ∷ those)))
  where
    one_more : (n : ℕ) → n + 1 ≡ suc n
    one_more n = omega arith

    turned : (m n all : ℕ) → all ≡ m + n → n + m ≡ all
    turned m n all same = omega (arith, same)

    alike : (n sum all : ℕ) → all ≡ mark.octets + sum
        → ◌≡◌ {A = Count} (record { local = mark.local; packets = (n % 2 ^ 32 + 1) % 2 ^ 32; octets = (sum % 2 ^ 32 + mark.octets) % 2 ^ 32 }) (record { local = mark.local; packets = suc n % 2 ^ 32; octets = all % 2 ^ 32 })
    alike n sum all same =
        ap {B = Count} (λ packets. record { local = mark.local; packets = packets; octets = (sum % 2 ^ 32 + mark.octets) % 2 ^ 32 }) (mod-add-mod n (2 ^ 32) 1 ∙ ap (λ k. k % 2 ^ 32) (one_more n))
        ∙ ap {B = Count} (λ octets. record { local = mark.local; packets = suc n % 2 ^ 32; octets = octets }) (mod-add-mod sum (2 ^ 32) mark.octets ∙ ap (λ k. k % 2 ^ 32) (turned mark.octets sum all same))

-- one mark more
pub one_marked : (counts : List Count) (some : List Mark) (mark : Mark) → Rising counts → AreOfMarks some counts → AreOfMarks (mark ∷ some) (marked counts mark.local mark.octets)
one_marked counts some mark rise are other = marked_has counts mark.local mark.octets other rise ∙ by_test (nat_eq mark.local other) refl
  where
    by_test : (t : Bool) → nat_eq mark.local other ≡ t
        → cond t (Some (bumped mark.local mark.octets (count_in counts mark.local))) (count_in counts other) ≡ count_by other (cond t (mark ∷ with_local other some) (with_local other some))
    by_test true e =
        let same : mark.local ≡ other = eqb-true mark.local other e in
        ap (λ o. Some (bumped mark.local mark.octets o)) (are mark.local) ∙ counted_more mark (with_local mark.local some) ∙ ap (λ local. count_by local (mark ∷ with_local local some)) same
    by_test false e = are other

-- the local index of each of some marks is that of a protocol in a slot
abbrev pub AllIn : List (Option Protocol) → List Mark → Type 0
AllIn slots [] = Unit {0}
AllIn slots (mark ∷ marks) = (has_local slots mark.local ≡ true) × AllIn slots marks

local_in : (slots : List (Option Protocol)) (some : List Mark) (local : ℕ) → AllIn slots some → are_some (with_local local some) ≡ true → has_local slots local ≡ true
local_in slots [] local all is = absurd (cc)
local_in slots (mark ∷ some) local all is = by_test (nat_eq mark.local local) refl is (local_in slots some local all.1)
  where
    by_test : (t : Bool) → nat_eq mark.local local ≡ t → are_some (cond t (mark ∷ with_local local some) (with_local local some)) ≡ true
        → (are_some (with_local local some) ≡ true → has_local slots local ≡ true) → has_local slots local ≡ true
    by_test true e is rest = subst (λ k. has_local slots k ≡ true) (eqb-true mark.local local e) all.0
    by_test false e is rest = rest is

counted_in : (slots : List (Option Protocol)) (some : List Mark) (counts : List Count) → AllIn slots some → AreOfMarks some counts → (local : ℕ) → is_some (count_in counts local) ≡ true → has_local slots local ≡ true
counted_in slots some counts all are local is = local_in slots some local all (by_test (are_some (with_local local some)) (sym (ap is_some (are local)) ∙ is))
  where
    by_test : (t : Bool) → is_some {T = Count} (cond t (Some (record { local = local; packets = packets_of (with_local local some); octets = octets_of (with_local local some) })) None) ≡ true → t ≡ true
    by_test true e = refl
    by_test false e = absurd (cc)

-- no more numbers pass one of two tests than pass the one and the other
count_either : (f g : ℕ → Bool) (n : ℕ) → count_below (λ i. f i || g i) n ≤ count_below f n + count_below g n
unfolding count_below
count_either f g zero = omega arith
count_either f g (suc n) = let rest = count_either f g n in let here = one (f n) (g n) in omega (arith, rest, here)
  where
    one : (a b : Bool) → cond (a || b) 1 0 ≤ cond a 1 0 + cond b 1 0
    one true true = omega arith
    one true false = omega arith
    one false b = omega arith

count_single : (k n : ℕ) → count_below (nat_eq k) n ≤ 1
count_single k n = by_test (nat_lt k n) refl
  where
    by_test : (t : Bool) → nat_lt k n ≡ t → count_below (nat_eq k) n ≤ 1
    by_test true e = let one = count_one k n (grind (arith, nat_tests)) in omega (arith, one)
    by_test false e = let none = count_none (nat_eq k) n (λ i below. grind (arith, nat_tests)) in omega (arith, none)

-- no more local indexes are those of slots than there are slots
few_locals : (slots : List (Option Protocol)) (bound : ℕ) → count_below (has_local slots) bound ≤ length slots
few_locals [] bound = let none = count_none (λ i. false) bound (λ i _. refl) in omega (arith, none)
few_locals (held ∷ slots) bound = by_held held (few_locals slots bound)
  where
    by_held : (one : Option Protocol) → count_below (has_local slots) bound ≤ length slots → count_below (λ n. is_local n one || has_local slots n) bound ≤ suc (length slots)
    by_held None rest = omega (arith, rest)
    by_held (Some protocol) rest =
        let both = count_either (nat_eq protocol.local) (has_local slots) bound in
        let one = count_single protocol.local bound in
        omega (arith, both, one, rest)

-- as many local indexes have a count as there are counts, below a bound of all
abbrev AllBelow : ℕ → List Count → Type 0
AllBelow n [] = Unit {0}
AllBelow n (count ∷ counts) = (count.local < n) × AllBelow n counts

as_many : (counts : List Count) (bound : ℕ) → Rising counts → AllBelow bound counts → length counts ≡ count_below (λ n. is_some (count_in counts n)) bound
as_many [] bound rise low = sym (count_none (λ n. false) bound (λ n _. refl))
as_many (count ∷ counts) bound rise low =
    let split : count_below (λ n. is_some (count_in (count ∷ counts) n)) bound ≡ count_below (λ n. nat_eq count.local n || is_some (count_in counts n)) bound = ap (λ p. count_below p bound) (λ d n. or_count (nat_eq count.local n) (count_in counts n) d) in
    let apart = count_or (nat_eq count.local) (λ n. is_some (count_in counts n)) bound (λ n e. let is = eqb-true count.local n e in ap is_some (none_below counts count.local n (omega (arith, is)) rise.0)) in
    omega (arith, split, apart, count_one count.local bound low.0, as_many counts bound rise.1 low.1)
  where
    or_count : (b : Bool) (o : Option Count) → is_some (cond b (Some count) o) ≡ (b || is_some o)
    or_count true o = refl
    or_count false o = refl

abbrev above_all : List Count → ℕ
above_all [] = 0
above_all (count ∷ counts) = suc (count.local + above_all counts)

all_below : (counts : List Count) (bound : ℕ) → above_all counts ≤ bound → AllBelow bound counts
all_below [] bound under = tt
all_below (count ∷ counts) bound under = (omega (arith, under), all_below counts bound (omega (arith, under)))

-- where one more local index is that of a slot, there is room for its count
pub room : (slots : List (Option Protocol)) → length slots ≤ 32 → (counts : List Count) → Rising counts → ((local : ℕ) → is_some (count_in counts local) ≡ true → has_local slots local ≡ true)
    → (local : ℕ) → has_local slots local ≡ true → (nat_lt (length counts) 32 || is_some (count_in counts local)) ≡ true
room slots few counts rise all local is = by_test (is_some (count_in counts local)) refl
  where
    either : (b : Bool) → (b || true) ≡ true
    either true = refl
    either false = refl

    bound : ℕ
    bound = suc (local + above_all counts)

    each : is_some (count_in counts local) ≡ false → (n : ℕ) → (nat_eq local n || is_some (count_in counts n)) ≡ true → has_local slots n ≡ true
    each none n so = by_same (nat_eq local n) refl so
      where
        by_same : (t : Bool) → nat_eq local n ≡ t → (t || is_some (count_in counts n)) ≡ true → has_local slots n ≡ true
        by_same true e so = subst (λ k. has_local slots k ≡ true) (eqb-true local n e) is
        by_same false e so = all n so

    by_test : (t : Bool) → is_some (count_in counts local) ≡ t → (nat_lt (length counts) 32 || is_some (count_in counts local)) ≡ true
    by_test true e = rw e (either (nat_lt (length counts) 32))
    by_test false e =
        let many = as_many counts bound rise (all_below counts bound (omega arith)) in
        let one = count_one local bound (omega arith) in
        let both = count_or (nat_eq local) (λ n. is_some (count_in counts n)) bound (λ n same. subst (λ k. is_some (count_in counts k) ≡ false) (eqb-true local n same) e) in
        let under = count_under (λ n. nat_eq local n || is_some (count_in counts n)) (has_local slots) bound (each e) in
        let all_few = few_locals slots bound in
        let less : nat_lt (length counts) 32 ≡ true = room_for (length counts) (omega (arith, many, one, both, under, all_few, few)) in
        rw less refl
      where
        room_for : (n : ℕ) → n < 32 → nat_lt n 32 ≡ true
        room_for n below = grind (arith, nat_tests)

-- the marks of some protocols, by their local indexes
abbrev pub marks_with : (ProtocolIdentifier → ℕ) → (octets : ℕ) → List ProtocolIdentifier → List Mark
marks_with local octets protocols = map (λ protocol. record { protocol = protocol; local = local protocol; octets = octets }) protocols

all_in_both : (slots : List (Option Protocol)) (one other : List Mark) → AllIn slots one → AllIn slots other → AllIn slots (one ++ other)
all_in_both slots [] other all also = also
all_in_both slots (mark ∷ one) other all also = (all.0, all_in_both slots one other all.1 also)

-- counts are those of marks, and their local indexes rise
pub record AreKept (some : List Mark) (counts : List Count) : Type 0 where
  pub rise : Rising counts
  pub are : AreOfMarks some counts

-- so all of some marks are counted
module _ (slots : List (Option Protocol)) (few : length slots ≤ 32) (local : ProtocolIdentifier → ℕ) (octets : ℕ) where
  pub all_marked : (protocols : List ProtocolIdentifier) (some : List Mark) (counts : List Count) → AreKept some counts → AllIn slots some → AllIn slots (marks_with local octets protocols)
      → AreKept (marks_with local octets protocols ++ some) (with_marks counts (map local protocols) octets)
  all_marked [] some counts kept all also = kept
  all_marked (protocol ∷ protocols) some counts kept all also =
      let rest = all_marked protocols some counts kept all also.1 in
      let more = all_in_both slots (marks_with local octets protocols) some also.1 all in
      let fits = room slots few (with_marks counts (map local protocols) octets) rest.rise (counted_in slots (marks_with local octets protocols ++ some) (with_marks counts (map local protocols) octets) more rest.are) (local protocol) also.0 in
      subst (AreKept (marks_with local octets (protocol ∷ protocols) ++ some)) (sym (ap (λ b. cond b (marked (with_marks counts (map local protocols) octets) (local protocol) octets) (with_marks counts (map local protocols) octets)) fits))
      (record {
        rise = marked_rise (with_marks counts (map local protocols) octets) (local protocol) octets rest.rise;
        are = one_marked (with_marks counts (map local protocols) octets) (marks_with local octets protocols ++ some) (record { protocol = protocol; local = local protocol; octets = octets }) rest.rise rest.are;
      })

-- a slot with a protocol of a local index, and none among those that were looked at
pub here_local : (slots : List (Option Protocol)) (local slot : ℕ) → is_local local (get_or slots slot None) ≡ true → has_local slots local ≡ true
here_local [] local slot is = absurd (cc)
here_local (first ∷ slots) local zero is = rw is refl
here_local (first ∷ slots) local (suc slot) is = either (is_local local first) (here_local slots local slot is)
  where
    either : (b : Bool) → has_local slots local ≡ true → (b || has_local slots local) ≡ true
    either true rest = refl
    either false rest = rest

pub none_local : (slots : List (Option Protocol)) (local : ℕ) → ((slot : ℕ) → slot < length slots → is_local local (get_or slots slot None) ≡ false) → has_local slots local ≡ false
none_local [] local none = refl
none_local (first ∷ slots) local none = rw (none 0 (omega arith)) (none_local slots local (λ slot within. none (suc slot) (omega arith)))

-- none of the slots up to one has it
pub record HasNone (slots : List (Option Protocol)) (local slot : ℕ) : Type 0 where
  pub none : (k : ℕ) → k < slot → is_local local (get_or slots k None) ≡ false
  pub count : 0 < slot → length slots ≡ 32

pub one_none : (slots : List (Option Protocol)) (local slot : ℕ) → HasNone slots local slot → is_local local (get_or slots slot None) ≡ false → length slots ≡ 32 → HasNone slots local (slot + 1)
one_none slots local slot is here count = record { none = each; count = λ some. count }
  where
    each : (k : ℕ) → k < slot + 1 → is_local local (get_or slots k None) ≡ false
    each k below = by_last (nat_eq k slot) refl
      where
        by_last : (t : Bool) → nat_eq k slot ≡ t → is_local local (get_or slots k None) ≡ false
        by_last true e = ap (λ n. is_local local (get_or slots n None)) (eqb-true k slot e) ∙ here
        by_last false e = is.none k (grind (arith, nat_tests))
