-- Octets that are put and messages that are sent, one after the other, and what an output has said by them.
use Rattle.std.proofs.Common.{◌≡◌, ◌⊎◌, inl, inr, ℕ, ◌+◌, min, List, [], ◌∷◌, ◌++◌, take, length, Option, Some, None, Result, Ok, Err, refl, sym, ap, subst, ◌∙◌, arith, append_assoc}
use Rattle.std.proofs.lemmas.Grind.{flat_map-append}
use Rattle.std.proofs.lemmas.List.{append-nil, take-append-le, take_all}
use Rattle.std.proofs.Math.Seq.{take-append-add, take-length}
use Rattle.std.proofs.lemmas.Bool.{cases_lt}
use Rattle.rm_edge.specs.Outside.{Adds, AddsFront, Puts, Rose, HasCause}
use Rattle.rm_edge.specs.Link.{Datagram, Stays}
use Rattle.rm_edge.specs.declared.outside.link.Peer.{Peer}
use Rattle.rm_probe.specs.declared.output.OutputFault.{OutputFault}
use Rattle.rm_probe.specs.declared.output.OutputFault.TheVariants.{Put, Send}
use Rattle.rm_probe.specs.declared.post.Addressee.{Addressee}
use Rattle.rm_probe.specs.declared.post.Addressee.TheVariants.{Manager, Asking}
use Rattle.rm_probe.specs.Output.{Shown, HasGrown, HasAdded, IsSaidFront, Says, TellsBehind, TellsInOrder, adds_none, front_none, nothing_added}
use Rattle.rm_probe.specs.Said.{Said, line_of, lines, messages, messages_of}

-- what failed last after a call of a kind
abbrev pub fault_after : {E : Type 0} → OutputFault → Result (Unit {0}) E → Option OutputFault
fault_after kind (Ok done) = None
fault_after kind (Err e) = Some kind

module _ {A : Type 0} where
  -- nothing was added to what is the same
  pub adds_same : (old new : Option (List A)) → new ≡ old → Adds old new []
  adds_same old new same = subst (λ (held : Option (List A)). Adds old held []) (sym same) (adds_none old)

  pub stays_adds : (old new : Option (List A)) → Stays old new → Adds old new []
  stays_adds None new stays = tt
  stays_adds (Some items) new stays = adds_same (Some items) new stays

  pub adds_then : (a b c : Option (List A)) (x y : List A) → Adds a b x → Adds b c y → Adds a c (x ++ y)
  adds_then None b c x y p q = tt
  adds_then (Some old) b c x y p q =
      let e : Adds (Some (old ++ x)) c y = rw p at q in
      e ∙ ap (λ (t : List A). Some t) (append_assoc old x y)

  pub adds_front : (a b : Option (List A)) (x : List A) → Adds a b x → AddsFront a b x
  adds_front a b x p = (length x, subst (λ (t : List A). Adds a b t) (sym (take-length x)) p)

  -- a whole piece, and then a front of another
  take_then : (k : ℕ) (xs ys : List A) → take (length xs + k) (xs ++ ys) ≡ xs ++ take k ys
  take_then k xs ys = take-append-add xs ys k

  pub front_then : (a b c : Option (List A)) (x y : List A) → Adds a b x → AddsFront b c y → AddsFront a c (x ++ y)
  front_then a b c x y p (n, q) = (length x + n, subst (λ (t : List A). Adds a c t) (sym (take_then n x y)) (adds_then a b c x (take n y) p q))

  -- a front of a list is one of a longer list
  pub take_longer : (n : ℕ) (x y : List A) → (k : ℕ) × (take k (x ++ y) ≡ take n x)
  take_longer n x y = (min n (length x), take-append-le (min n (length x)) x y (omega arith) ∙ take_least n x)
    where
      take_least : (n : ℕ) (x : List A) → take (min n (length x)) x ≡ take n x
      take_least n x = elim (cases_lt n (length x)) [
        | inl lt ↦ let e : min n (length x) ≡ n = omega arith in rw e refl
        | inr le ↦ let e : min n (length x) ≡ length x = omega arith in rw (e, take_all n x le) (take-length x)
      ]

  -- a front of a piece is one of a longer piece
  pub front_more : (a b : Option (List A)) (x y : List A) → AddsFront a b x → AddsFront a b (x ++ y)
  front_more a b x y (n, added) =
      let (k, same) = take_longer n x y in (k, subst (λ (t : List A). Adds a b t) (sym same) added)

  module _ (kind : OutputFault) where
    -- a call of that kind, where none had failed
    grown_by : {E : Type 0} (a b : Option (List A)) (before after : ℕ) (failed failed' : Option OutputFault) (x : List A) (result : Result (Unit {0}) E) → failed ≡ None
        → Puts a b x result → HasCause before after result → failed' ≡ fault_after kind result → HasGrown kind a b before after failed failed' x
    grown_by a b before after failed failed' x (Ok done) none puts cause is = record {
      whole = λ _. puts;
      front = adds_front a b x puts;
      later = cause.later;
      cause = λ e. absurd (let f = sym e ∙ is in cc);
      stays = λ fault e. absurd (let f = sym e ∙ none in cc);
    }
    grown_by a b before after failed failed' x (Err e) none puts cause is = record {
      whole = λ f. absurd (let g = sym f ∙ is in cc);
      front = puts;
      later = cause.later;
      cause = λ f. inr cause.failed;
      stays = λ fault f. absurd (let g = sym f ∙ none in cc);
    }

    -- a call of another kind adds nothing
    grown_still : (a b : Option (List A)) (before after : ℕ) (failed failed' : Option OutputFault) → failed ≡ None → b ≡ a → after ≡ before → (failed' ≡ Some kind → ⊥)
        → HasGrown kind a b before after failed failed' []
    grown_still a b before after failed failed' none same count other = record {
      whole = λ _. adds_same a b same;
      front = (0, adds_same a b same);
      later = omega (arith, count);
      cause = λ e. absurd (other e);
      stays = λ fault e. same;
    }

    -- what was to be added, where a call had failed
    grown_failed : (a : Option (List A)) (count : ℕ) (failed : Option OutputFault) (x : List A) (fault : OutputFault) → failed ≡ Some fault → HasGrown kind a a count count failed failed x
    grown_failed a count failed x fault is = record {
      whole = λ e. absurd (let f = sym e ∙ is in cc);
      front = (0, adds_none a);
      later = omega arith;
      cause = λ e. inl e;
      stays = λ fault e. refl;
    }

    -- some, and then more
    grown_then : (a b c : Option (List A)) (first before after : ℕ) (was failed failed' : Option OutputFault) (x y : List A) → ((fault : OutputFault) → was ≡ Some fault → failed ≡ Some fault)
        → ((fault : OutputFault) → failed ≡ Some fault → failed' ≡ Some fault) → HasGrown kind a b first before was failed x → HasGrown kind b c before after failed failed' y
        → HasGrown kind a c first after was failed' (x ++ y)
    grown_then a b c first before after was None failed' x y keeps later one two = record {
      whole = λ e. adds_then a b c x y (one.whole refl) (two.whole e);
      front = front_then a b c x y (one.whole refl) two.front;
      later = omega (arith, one.later, two.later);
      cause = λ e. elim (two.cause e) [ inl f ↦ absurd cc | inr rose ↦ inr (omega (arith, rose, one.later)) ];
      stays = λ fault e. absurd (let f = keeps fault e in cc);
    }
    grown_then a b c first before after was (Some fault) failed' x y keeps later one two = record {
      whole = λ e. absurd (let f = sym e ∙ later fault refl in cc);
      front = subst (λ (o : Option (List A)). AddsFront a o (x ++ y)) (sym (two.stays fault refl)) (front_more a b x y one.front);
      later = omega (arith, one.later, two.later);
      cause = λ e. elim (two.cause e) [ inl f ↦ risen (one.cause f) | inr rose ↦ inr (omega (arith, rose, one.later)) ];
      stays = λ other e. two.stays fault refl ∙ one.stays other e;
    }
      where
        risen : (was ≡ Some kind) ⊎ Rose first before → (was ≡ Some kind) ⊎ Rose first after
        risen (inl e) = inl e
        risen (inr rose) = inr (omega (arith, rose, two.later))

-- some, and then more
pub added_then : (a b c : Shown) (text line : List ℕ) (sent more : List Datagram) → HasAdded a b text sent → HasAdded b c line more → HasAdded a c (text ++ line) (sent ++ more)
added_then a b c text line sent more one two = record {
  puts = grown_then Put a.content b.content c.content a.puts b.puts c.puts a.failed b.failed c.failed text line one.stays two.stays one.puts two.puts;
  sends = grown_then Send a.sent b.sent c.sent a.sends b.sends c.sends a.failed b.failed c.failed sent more one.stays two.stays one.sends two.sends;
  stays = λ fault e. two.stays fault (one.stays fault e);
}

-- a put
pub put_adds : {E : Type 0} (old new : Shown) (line : List ℕ) (result : Result (Unit {0}) E) → old.failed ≡ None → Puts old.content new.content line result → HasCause old.puts new.puts result
    → new.sent ≡ old.sent → new.sends ≡ old.sends → new.failed ≡ fault_after Put result → HasAdded old new line []
put_adds old new line result none puts cause same count is = record {
  puts = grown_by Put old.content new.content old.puts new.puts old.failed new.failed line result none puts cause is;
  sends = grown_still Send old.sent new.sent old.sends new.sends old.failed new.failed none same count (λ e. not_sent result (sym is ∙ e));
  stays = λ fault e. absurd (let f = sym e ∙ none in cc);
}
  where
    not_sent : {E : Type 0} (result : Result (Unit {0}) E) → fault_after Put result ≡ Some Send → ⊥
    not_sent (Ok done) e = absurd cc
    not_sent (Err fault) e = absurd cc

-- a send
pub send_adds : {E : Type 0} (old new : Shown) (message : List Datagram) (result : Result (Unit {0}) E) → old.failed ≡ None → Puts old.sent new.sent message result → HasCause old.sends new.sends result
    → new.content ≡ old.content → new.puts ≡ old.puts → new.failed ≡ fault_after Send result → HasAdded old new [] message
send_adds old new message result none puts cause same count is = record {
  puts = grown_still Put old.content new.content old.puts new.puts old.failed new.failed none same count (λ e. not_put result (sym is ∙ e));
  sends = grown_by Send old.sent new.sent old.sends new.sends old.failed new.failed message result none puts cause is;
  stays = λ fault e. absurd (let f = sym e ∙ none in cc);
}
  where
    not_put : {E : Type 0} (result : Result (Unit {0}) E) → fault_after Send result ≡ Some Put → ⊥
    not_put (Ok done) e = absurd cc
    not_put (Err fault) e = absurd cc

-- nothing, where one had failed
pub failed_adds : (state : Shown) (text : List ℕ) (sent : List Datagram) (fault : OutputFault) → state.failed ≡ Some fault → HasAdded state state text sent
failed_adds state text sent fault is = record {
  puts = grown_failed Put state.content state.puts state.failed text fault is;
  sends = grown_failed Send state.sent state.sends state.failed sent fault is;
  stays = λ other e. e;
}

pub more_lines : (said more : List Said) → lines (said ++ more) ≡ lines said ++ lines more
more_lines said more = flat_map-append line_of said more

pub more_messages : (managers : List Peer) (asking : ℕ → List Peer) (said more : List Said) → messages managers asking (said ++ more) ≡ messages managers asking said ++ messages managers asking more
more_messages managers asking said more = flat_map-append (messages_of managers asking) said more

-- some things were added, and then others
pub added_more : (managers : List Peer) (asking : ℕ → List Peer) (a b c : Shown) (said more : List Said) → HasAdded a b (lines said) (messages managers asking said) → HasAdded b c (lines more) (messages managers asking more)
    → HasAdded a c (lines (said ++ more)) (messages managers asking (said ++ more))
added_more managers asking a b c said more first then =
    rw (more_lines said more, more_messages managers asking said more) (added_then a b c (lines said) (lines more) (messages managers asking said) (messages managers asking more) first then)

-- one thing, by its line and its messages
pub one_said : (managers : List Peer) (asking : ℕ → List Peer) (old new : Shown) (one : Said) → HasAdded old new (line_of one) (messages_of managers asking one)
    → HasAdded old new (lines (one ∷ [])) (messages managers asking (one ∷ []))
one_said managers asking old new one added = rw (append-nil (line_of one), append-nil (messages_of managers asking one)) added

-- one thing told in order is a front of it
pub one_front : (managers : List Peer) (asking : ℕ → List Peer) (old new : Shown) (one : Said) → TellsInOrder old new (line_of one) (messages_of managers asking one)
    → IsSaidFront managers asking old.content new.content old.sent new.sent (one ∷ []) []
one_front managers asking old new one tells = record { next = one ∷ []; rest = []; split = refl; one = omega arith; tells = by_order tells }
  where
    by_order : TellsInOrder old new (line_of one) (messages_of managers asking one)
        → TellsBehind old.content new.content old.sent new.sent [] [] (lines (one ∷ [])) (messages managers asking (one ∷ []))
    by_order (inl ((n, front), same)) =
        inl ((n, subst (λ (line : List ℕ). Adds old.content new.content (take n line)) (sym (append-nil (line_of one))) front), adds_same old.sent new.sent same)
    by_order (inr (whole, (n, front))) = inr (
      subst (λ (line : List ℕ). Adds old.content new.content line) (sym (append-nil (line_of one))) whole,
      (n, subst (λ (all : List Datagram). Adds old.sent new.sent (take n all)) (sym (append-nil (messages_of managers asking one))) front),
    )

-- a front is one of more that is said
pub front_longer : (managers : List Peer) (asking : ℕ → List Peer) (a b : Option (List ℕ)) (s t : Option (List Datagram)) (said told more : List Said) → IsSaidFront managers asking a b s t said told
    → IsSaidFront managers asking a b s t (said ++ more) told
front_longer managers asking a b s t said told more front = record {
  next = front.next;
  rest = front.rest ++ more;
  split = ap (λ (l : List Said). l ++ more) front.split ∙ append_assoc told (front.next ++ front.rest) more ∙ ap (λ (l : List Said). told ++ l) (append_assoc front.next front.rest more);
  one = front.one;
  tells = front.tells;
}

-- what was said whole, and then a front
pub said_then_front : (managers : List Peer) (asking : ℕ → List Peer) (a b c : Option (List ℕ)) (s t u : Option (List Datagram)) (said more told : List Said) → Adds a b (lines said) → Adds s t (messages managers asking said)
    → IsSaidFront managers asking b c t u more told → IsSaidFront managers asking a c s u (said ++ more) (said ++ told)
said_then_front managers asking a b c s t u said more told put sent front = record {
  next = front.next;
  rest = front.rest;
  split = ap (λ (l : List Said). said ++ l) front.split ∙ sym (append_assoc said told (front.next ++ front.rest));
  one = front.one;
  tells = by_tells front.tells;
}
  where
    puts : (line : List ℕ) → Adds b c (lines told ++ line) → Adds a c (lines (said ++ told) ++ line)
    puts line added =
        subst (λ (l : List ℕ). Adds a c l) (sym (append_assoc (lines said) (lines told) line) ∙ ap (λ (l : List ℕ). l ++ line) (sym (more_lines said told)))
        (adds_then a b c (lines said) (lines told ++ line) put added)

    sends : (some : List Datagram) → Adds t u (messages managers asking told ++ some) → Adds s u (messages managers asking (said ++ told) ++ some)
    sends some added =
        subst (λ (l : List Datagram). Adds s u l)
        (sym (append_assoc (messages managers asking said) (messages managers asking told) some) ∙ ap (λ (l : List Datagram). l ++ some) (sym (more_messages managers asking said told)))
        (adds_then s t u (messages managers asking said) (messages managers asking told ++ some) sent added)

    by_tells : TellsBehind b c t u (lines told) (messages managers asking told) (lines front.next) (messages managers asking front.next)
        → TellsBehind a c s u (lines (said ++ told)) (messages managers asking (said ++ told)) (lines front.next) (messages managers asking front.next)
    by_tells (inl ((n, put_so), sent_so)) =
        inl ((n, puts (take n (lines front.next)) put_so), subst (λ (l : List Datagram). Adds s u l) (sym (more_messages managers asking said told)) (adds_then s t u (messages managers asking said) (messages managers asking told) sent sent_so))
    by_tells (inr (put_so, (n, sent_so))) = inr (puts (lines front.next) put_so, (n, sends (take n (messages managers asking front.next)) sent_so))

-- a front, and then more, of which nothing was put or sent where a call had failed
fronts_more : (managers : List Peer) (asking : ℕ → List Peer) (a b c : Shown) (said more : List Said) → HasAdded a b (lines said) (messages managers asking said) → HasAdded b c (lines more) (messages managers asking more)
    → (told : List Said) × IsSaidFront managers asking a.content b.content a.sent b.sent said told
    → (b.failed ≡ None → (told : List Said) × IsSaidFront managers asking b.content c.content b.sent c.sent more told)
    → (told : List Said) × IsSaidFront managers asking a.content c.content a.sent c.sent (said ++ more) told
fronts_more managers asking a b c said more one two (told, first) then = by_failed b.failed refl
  where
    by_failed : (failed : Option OutputFault) → b.failed ≡ failed → (told : List Said) × IsSaidFront managers asking a.content c.content a.sent c.sent (said ++ more) told
    by_failed None well =
        let (later, front) = then well in
        (said ++ later, said_then_front managers asking a.content b.content c.content a.sent b.sent c.sent said more later (one.puts.whole well) (one.sends.whole well) front)
    by_failed (Some fault) is = (
      told,
      subst (λ (content : Option (List ℕ)). IsSaidFront managers asking a.content content a.sent c.sent (said ++ more) told) (sym (two.puts.stays fault is))
          (subst (λ (sent : Option (List Datagram)). IsSaidFront managers asking a.content b.content a.sent sent (said ++ more) told) (sym (two.sends.stays fault is))
          (front_longer managers asking a.content b.content a.sent b.sent said told more first)),
    )

module _ {P : Type 0} (peers : P → Addressee → List Peer) (same : P → P → Type 0) where
  -- an output has said nothing
  pub says_none : ((post : P) → same post post) → (post : P) (state : Shown) → Says peers same post post state state []
  says_none still post state = record {
    still = still post;
    adds = nothing_added state;
    order = λ none. ([], front_none (peers post Manager) (λ (number : ℕ). peers post Asking) state.content state.sent);
  }

  -- an output has said some things, and then others
  pub says_then : ((a b c : P) → same a b → same b c → same a c) → ((a b : P) → same a b → peers b ≡ peers a) → (p q r : P) (a b c : Shown) (said more : List Said)
      → Says peers same p q a b said → Says peers same q r b c more → Says peers same p r a c (said ++ more)
  says_then onward kept p q r a b c said more one two = record {
    still = onward p q r one.still two.still;
    adds = added_more (peers p Manager) (λ (number : ℕ). peers p Asking) a b c said more one.adds later_adds;
    order = λ none. fronts_more (peers p Manager) (λ (number : ℕ). peers p Asking) a b c said more one.adds later_adds (one.order none)
        (λ well. subst (λ (who : Addressee → List Peer). (told : List Said) × IsSaidFront (who Manager) (λ (number : ℕ). who Asking) b.content c.content b.sent c.sent more told) (kept p q one.still) (two.order well));
  }
    where
      later_adds : HasAdded b c (lines more) (messages (peers p Manager) (λ (number : ℕ). peers p Asking) more)
      later_adds = subst (λ (who : Addressee → List Peer). HasAdded b c (lines more) (messages (who Manager) (λ (number : ℕ). who Asking) more)) (kept p q one.still) two.adds

  -- an output that is the same one has said one thing more
  module _ {Name : Type 0} (still : (post : P) → same post post) (onward : (a b c : P) → same a b → same b c → same a c) (kept : (a b : P) → same a b → peers b ≡ peers a) (i j n : Name) (p q r : P) (a b c : Shown)
      (said : List Said) (before : (j ≡ i) × Says peers same p q a b said) (one : Said) (named : n ≡ j) where
    pub says_one : same q r → HasAdded b c (line_of one) (messages_of (peers q Manager) (λ (number : ℕ). peers q Asking) one)
        → (b.failed ≡ None → TellsInOrder b c (line_of one) (messages_of (peers q Manager) (λ (number : ℕ). peers q Asking) one)) → (n ≡ i) × Says peers same p r a c (said ++ one ∷ [])
    says_one alike added order = (
      named ∙ before.0,
      says_then onward kept p q r a b c said (one ∷ []) before.1
          (record {
            still = alike;
            adds = one_said (peers q Manager) (λ (number : ℕ). peers q Asking) b c one added;
            order = λ none. ([], one_front (peers q Manager) (λ (number : ℕ). peers q Asking) b c one (order none));
          }),
    )

    -- which no message tells
    pub says_put : messages_of (peers q Manager) (λ (number : ℕ). peers q Asking) one ≡ [] → r ≡ q → c.sent ≡ b.sent → HasAdded b c (line_of one) [] → (n ≡ i) × Says peers same p r a c (said ++ one ∷ [])
    says_put untold is unsent added =
        says_one (subst (λ (post : P). same q post) (sym is) (still q)) (subst (λ (ms : List Datagram). HasAdded b c (line_of one) ms) (sym untold) added) (λ none. inl (added.puts.front, unsent))
