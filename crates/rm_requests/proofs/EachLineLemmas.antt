-- The requests of a file are those of its lines, one each.
use Rattle.std.proofs.Common.{◌≡◌, ℕ, zero, suc, ◌+◌, ◌-◌, ◌<◌, ◌≤◌, List, [], ◌∷◌, length, take, Option, Some, None, Ok, Err, refl, sym, ap, subst, ◌∙◌, arith, inl, inr, get_or}
use Rattle.std.specs.Prelude.{map, ◌↔◌}
use Rattle.std.specs.List.Sorted.{IsNonDecreasingBy}
use Rattle.std.specs.Str.Lines.{lines}
use Rattle.std.proofs.lemmas.Bool.{cases_lt}
use Rattle.std.proofs.lemmas.List.{take-map, take-take}
use Rattle.std.proofs.lemmas.List.Sorted.{IsNonDecreasingBy-take}
use Rattle.rm_requests.specs.Lines.{TimedDatagram, request_of, AreOf, IsFirstWrong}
use Rattle.rm_requests.proofs.Steps.{with_first, requests_from, requests_of, wrong_first, falls_first, takes_first}

-- the same of lines behind a moment, below which none of theirs is
record AreBehind (last : ℕ) (texts : List (List ℕ)) (requests : List TimedDatagram) : Type 0 where
  each : map request_of texts ≡ map Some requests
  order : IsNonDecreasingBy (λ (request : TimedDatagram). request.moment) requests
  behind : (k : ℕ) (d : TimedDatagram) → k < length requests → last ≤ (get_or requests k d).moment

none_behind : (last : ℕ) → AreBehind last [] []
none_behind last = record { each = refl; order = λ i j d le within. absurd (omega (arith, within)); behind = λ k d within. absurd (omega (arith, within)) }

order_on : (request : TimedDatagram) (more : List TimedDatagram) → IsNonDecreasingBy (λ (request : TimedDatagram). request.moment) more
    → ((k : ℕ) (d : TimedDatagram) → k < length more → request.moment ≤ (get_or more k d).moment) → IsNonDecreasingBy (λ (request : TimedDatagram). request.moment) (request ∷ more)
order_on request more order behind zero zero d le within = omega arith
order_on request more order behind zero (suc j) d le within = behind j d (omega (arith, within))
order_on request more order behind (suc i) zero d le within = absurd (omega (arith, le))
order_on request more order behind (suc i) (suc j) d le within = order i j d (omega (arith, le)) (omega (arith, within))

behind_on : (last : ℕ) (request : TimedDatagram) (more : List TimedDatagram) → last ≤ request.moment
    → ((k : ℕ) (d : TimedDatagram) → k < length more → request.moment ≤ (get_or more k d).moment)
    → (k : ℕ) (d : TimedDatagram) → k < length (request ∷ more) → last ≤ (get_or (request ∷ more) k d).moment
behind_on last request more later behind zero d within = later
behind_on last request more later behind (suc k) d within = omega (arith, later, behind k d (omega (arith, within)))

one_more : (last : ℕ) (text : List ℕ) (texts : List (List ℕ)) (request : TimedDatagram) (more : List TimedDatagram) → request_of text ≡ Some request → last ≤ request.moment
    → AreBehind request.moment texts more → AreBehind last (text ∷ texts) (request ∷ more)
one_more last text texts request more is later rest = record {
  each = ap (λ (o : Option TimedDatagram). o ∷ map request_of texts) is ∙ ap (λ (os : List (Option TimedDatagram)). Some request ∷ os) rest.each;
  order = order_on request more rest.order rest.behind;
  behind = behind_on last request more later rest.behind;
}

-- what the first of some lines gives, and those behind it
record Begins (last : ℕ) (text : List ℕ) (texts : List (List ℕ)) (requests : List TimedDatagram) : Type 0 where
  request : TimedDatagram
  more : List TimedDatagram
  are : requests ≡ request ∷ more
  is : request_of text ≡ Some request
  later : last ≤ request.moment
  rest : AreBehind request.moment texts more

begins : (last : ℕ) (text : List ℕ) (texts : List (List ℕ)) (requests : List TimedDatagram) → AreBehind last (text ∷ texts) requests → Begins last text texts requests
begins last text texts [] are = absurd (let each = are.each in cc)
begins last text texts (request ∷ more) are =
    let each : request_of text ∷ map request_of texts ≡ Some request ∷ map Some more = are.each in record {
      request = request;
      more = more;
      are = refl;
      is = cc;
      later = are.behind 0 request (omega arith);
      rest = record {
        each = cc;
        order = λ i j d le within. are.order (suc i) (suc j) d (omega (arith, le)) (omega (arith, within));
        behind = λ k d within. are.order 0 (suc k) d (omega arith) (omega (arith, within));
      };
    }

-- lines behind a moment are read as requests exactly where they give them
reads : (number last : ℕ) (texts : List (List ℕ)) (requests : List TimedDatagram) → AreBehind last texts requests → requests_from number last texts ≡ Ok requests
unfolding requests_from
reads number last [] [] are = refl
reads number last [] (request ∷ more) are = absurd (let each = are.each in cc)
reads number last (text ∷ texts) requests are =
    let b = begins last text texts requests are in
    takes_first number last (text ∷ texts) text texts b.request refl b.is b.later ∙ ap (with_first b.request) (reads (number + 1) b.request.moment texts b.more b.rest) ∙ ap (λ (rs : List TimedDatagram). Ok rs) (sym b.are)

-- the first line that is wrong, counted from 0
record IsWrongFrom (last k : ℕ) (texts : List (List ℕ)) : Type 0 where
  within : k < length texts
  before : (requests : List TimedDatagram) × AreBehind last (take k texts) requests
  wrong : (requests : List TimedDatagram) → AreBehind last (take (suc k) texts) requests → ⊥

-- what reading lines comes to
data Outcome (number last : ℕ) (texts : List (List ℕ)) : Type 0 where
  all : (requests : List TimedDatagram) → requests_from number last texts ≡ Ok requests → AreBehind last texts requests → Outcome number last texts
  fails : (k : ℕ) → requests_from number last texts ≡ Err (number + k) → IsWrongFrom last k texts → Outcome number last texts

fails_first : (number last : ℕ) (text : List ℕ) (texts : List (List ℕ)) → requests_from number last (text ∷ texts) ≡ Err number
    → ((request : TimedDatagram) → request_of text ≡ Some request → request.moment < last) → Outcome number last (text ∷ texts)
fails_first number last text texts is wrong =
    fails 0 (is ∙ ap (λ (n : ℕ). Err n) (omega arith)) (record {
      within = omega arith;
      before = ([], none_behind last);
      wrong = λ requests are. let b = begins last text [] requests are in absurd (omega (arith, wrong b.request b.is, b.later));
    })

outcome : (number last : ℕ) (texts : List (List ℕ)) → Outcome number last texts
unfolding requests_from
outcome number last [] = all [] refl (none_behind last)
outcome number last (text ∷ texts) = by_request (λ request. outcome (number + 1) request.moment texts) (request_of text) refl
  where
    by_rest : (request : TimedDatagram) → request_of text ≡ Some request → last ≤ request.moment → Outcome (number + 1) request.moment texts → Outcome number last (text ∷ texts)
    by_rest request is later (all more read are) =
        all (request ∷ more) (takes_first number last (text ∷ texts) text texts request refl is later ∙ ap (with_first request) read) (one_more last text texts request more is later are)
    by_rest request is later (fails k read wrong) =
        let on : number + 1 + k ≡ number + suc k = omega arith in
        fails (suc k) (takes_first number last (text ∷ texts) text texts request refl is later ∙ ap (with_first request) read ∙ ap (λ (n : ℕ). Err n) on) (record {
          within = omega (arith, wrong.within);
          before = (request ∷ wrong.before.0, one_more last text (take k texts) request wrong.before.0 is later wrong.before.1);
          wrong = λ requests are.
              let b = begins last text (take (suc k) texts) requests are in
              let same : b.request ≡ request = (let e : Some b.request ≡ Some request = sym b.is ∙ is in cc) in
              wrong.wrong b.more (subst (λ (r : TimedDatagram). AreBehind r.moment (take (suc k) texts) b.more) same b.rest);
        })

    by_request : ((request : TimedDatagram) → Outcome (number + 1) request.moment texts) → (o : Option TimedDatagram) → request_of text ≡ o → Outcome number last (text ∷ texts)
    by_request behind None is =
        fails_first number last text texts (wrong_first number last (text ∷ texts) text texts refl is)
        (λ request other. absurd (let e : None ≡ Some request = sym is ∙ other in cc))
    by_request behind (Some request) is = elim (cases_lt request.moment last) [
      | inl falls ↦
          fails_first number last text texts (falls_first number last (text ∷ texts) text texts request refl is falls)
          (λ other is_other. let same : request ≡ other = (let e : Some request ≡ Some other = sym is ∙ is_other in cc) in omega (arith, ap (λ (r : TimedDatagram). r.moment) same, falls))
      | inr later ↦ by_rest request is later (behind request)
    ]

-- at the beginning of a file
from_start : (texts : List (List ℕ)) (requests : List TimedDatagram) → AreOf texts requests → AreBehind 0 texts requests
from_start texts requests are = record { each = are.each; order = are.order; behind = λ k d within. omega arith }

at_start : (texts : List (List ℕ)) (requests : List TimedDatagram) → AreBehind 0 texts requests → AreOf texts requests
at_start texts requests are = record { each = are.each; order = are.order }

found : (texts : List (List ℕ)) (requests : List TimedDatagram) → Outcome 1 0 texts → requests_from 1 0 texts ≡ Ok requests → AreOf texts requests
found texts requests (all others read are) e =
    let same : others ≡ requests = (let both : Ok others ≡ Ok requests = sym read ∙ e in cc) in
    subst (λ (rs : List TimedDatagram). AreOf texts rs) same (at_start texts others are)
found texts requests (fails k read wrong) e = absurd (let both : Err (1 + k) ≡ Ok requests = sym read ∙ e in cc)

pub are_the_lines : (bytes : List ℕ) (requests : List TimedDatagram) → (requests_of bytes ≡ Ok requests) ↔ AreOf (lines bytes) requests
are_the_lines bytes requests = (found (lines bytes) requests (outcome 1 0 (lines bytes)), λ are. reads 1 0 (lines bytes) requests (from_start (lines bytes) requests are))

fault : (texts : List (List ℕ)) (line : ℕ) → Outcome 1 0 texts → requests_from 1 0 texts ≡ Err line → IsFirstWrong line texts
fault texts line (all requests read are) e = absurd (let both : Ok requests ≡ Err line = sym read ∙ e in cc)
fault texts line (fails k read wrong) e =
    let same : 1 + k ≡ line = (let both : Err (1 + k) ≡ Err line = sym read ∙ e in cc) in
    let before : k ≡ line - 1 = omega (arith, same) in
    let here : suc k ≡ line = omega (arith, same) in record {
      some = omega (arith, same);
      within = omega (arith, same, wrong.within);
      before = subst (λ (n : ℕ). (requests : List TimedDatagram) × AreOf (take n texts) requests) before (wrong.before.0, at_start (take k texts) wrong.before.0 wrong.before.1);
      wrong = λ requests are. wrong.wrong requests (from_start (take (suc k) texts) requests (subst (λ (n : ℕ). AreOf (take n texts) requests) (sym here) are));
    }

-- lines that give requests have fronts that do
front_gives : (n : ℕ) (texts : List (List ℕ)) (requests : List TimedDatagram) → AreOf texts requests → AreOf (take n texts) (take n requests)
front_gives n texts requests are = record {
  each = sym (take-map request_of n texts) ∙ ap (take n) are.each ∙ take-map (λ (r : TimedDatagram). Some r) n requests;
  order = IsNonDecreasingBy-take (λ (request : TimedDatagram). request.moment) n requests are.order;
}

-- among lines that give requests there is no wrong one
pub none_wrong : (texts : List (List ℕ)) (line : ℕ) (requests : List TimedDatagram) → AreOf texts requests → IsFirstWrong line texts → ⊥
none_wrong texts line requests are first = first.wrong (take line requests) (front_gives line texts requests are)

-- of two lines that are the first wrong ones none is below the other
not_below : (texts : List (List ℕ)) (line other : ℕ) → IsFirstWrong line texts → IsFirstWrong other texts → line < other → ⊥
not_below texts line other first second below =
    let fronts : take line (take (other - 1) texts) ≡ take line texts = take-take line (other - 1) texts (omega (arith, below)) in
    first.wrong (take line second.before.0) (subst (λ (ts : List (List ℕ)). AreOf ts (take line second.before.0)) fronts (front_gives line (take (other - 1) texts) second.before.0 second.before.1))

pub one_first : (texts : List (List ℕ)) (line other : ℕ) → IsFirstWrong line texts → IsFirstWrong other texts → line ≡ other
one_first texts line other first second = elim (cases_lt line other) [
  | inl below ↦ absurd (not_below texts line other first second below)
  | inr above ↦ elim (cases_lt other line) [
    | inl over ↦ absurd (not_below texts other line second first over)
    | inr same ↦ omega (arith, above, same)
  ]
]

faulty : (texts : List (List ℕ)) (line : ℕ) → Outcome 1 0 texts → IsFirstWrong line texts → requests_from 1 0 texts ≡ Err line
faulty texts line (all requests read are) first = absurd (none_wrong texts line requests (at_start texts requests are) first)
faulty texts line (fails k read wrong) first =
    read ∙ ap (λ (n : ℕ). Err n) (one_first texts (1 + k) line (fault texts (1 + k) (fails k read wrong) read) first)

pub is_first_wrong : (bytes : List ℕ) (line : ℕ) → (requests_of bytes ≡ Err line) ↔ IsFirstWrong line (lines bytes)
is_first_wrong bytes line = (fault (lines bytes) line (outcome 1 0 (lines bytes)), faulty (lines bytes) line (outcome 1 0 (lines bytes)))

-- lines give one list of requests
pub one_list : (bytes : List ℕ) (requests others : List TimedDatagram) → AreOf (lines bytes) requests → AreOf (lines bytes) others → requests ≡ others
one_list bytes requests others are also = let both : Ok requests ≡ Ok others = sym ((are_the_lines bytes requests).1 are) ∙ (are_the_lines bytes others).1 also in cc
