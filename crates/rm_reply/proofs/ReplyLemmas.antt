-- How drafts are replies.
use Rattle.std.proofs.Common.{◌≡◌, ◌≤◌, ◌<◌, ℕ, List, [], ◌∷◌, ◌++◌, take, drop, length, refl, subst, arith, append_assoc}
use Rattle.rm_pdu.specs.Message.{Binding, Message}
use Rattle.rm_pdu.specs.Draft.{Drafted, drafted}
use Rattle.rm_reply.specs.Answered.{AreFirst, AreAnswers}
use Rattle.rm_reply.specs.Replies.{names_of, carrying, too_big, size_with, IsWholeReply, counting, non_repeaters, IsLongest, IsBulkReply}
use Rattle.rm_reply.specs.Fronts.{IsFront, AreRepetitions}
use Rattle.rm_reply.specs.Drafting.{IsDrafted, Puts, Stops, PutsLongest, DraftsOne}
use Rattle.rm_reply.proofs.NameLemmas.{all_names}
use Rattle.rm_reply.proofs.BulkLemmas.{HasOne, Lengthens, front_on, front_back, front_first, stops_longest}
use Rattle.rm_reply.proofs.PlaceLemmas.{longest_by_place}
use Rattle.rm_reply.proofs.SomeAnswers.{HasSome, answers_behind}

-- the response with no bindings yet
pub begun : (m : Message) (draft : Drafted) → draft ≡ drafted (carrying m []) → size_with m [] ≤ 1472 → IsDrafted m [] draft
begun m draft is short = record { is = is; short = short }

-- the answers to all names fit
pub whole_fits : (IsOne : List ℕ → Binding → Type 0) (m : Message) (count : ℕ) (draft : Drafted) → count ≡ length m.bindings → Puts IsOne (take count (names_of m.bindings)) m [] draft
    → DraftsOne (IsWholeReply IsOne m) draft
whole_fits IsOne m count draft all puts =
    let are = subst (λ (ns : List (List ℕ)). AreAnswers IsOne ns puts.answers) (all_names m.bindings count all) puts.are in
    let short : size_with m puts.answers ≤ 1472 = puts.is_drafted.short in
    (carrying m puts.answers, record { answers = puts.answers; are = are; fits = λ _. refl; long = λ long. absurd (omega (arith, short, long)) }, puts.is_drafted.is)

-- they don't, since those to the first names are too much
pub whole_stops : (IsOne : List ℕ → Binding → Type 0) → HasSome IsOne → Lengthens → (m : Message) (count : ℕ) (draft new : Drafted) → count ≡ length m.bindings
    → Stops IsOne (take count (names_of m.bindings)) m [] draft → new ≡ drafted (too_big m) → DraftsOne (IsWholeReply IsOne m) new
whole_stops IsOne some lengthen m count draft new all stops is =
    let part = stops.answers ++ stops.next ∷ [] in
    let first = subst (λ (ns : List (List ℕ)). AreFirst IsOne ns part) (all_names m.bindings count all) stops.first in
    let (more, are) = answers_behind IsOne some (names_of m.bindings) part first in
    let much : 1472 < size_with m part = stops.long in
    let longer : size_with m part ≤ size_with m (part ++ more) = lengthen (carrying m part) more in
    (too_big m, record { answers = part ++ more; are = are; fits = λ fits. absurd (omega (arith, much, longer, fits)); long = λ _. refl }, is)

-- a front of a list of which some names are repeated
abbrev pub Front : (List ℕ → Binding → Type 0) → List (List ℕ) → List (List ℕ) → ℕ → List Binding → Type 0
Front IsOne names repeated most list = IsFront IsOne names (λ answers rest. AreRepetitions IsOne most repeated rest) list

-- that is the list of the request
bulk_of : (IsOne : List ℕ → Binding → Type 0) (names repeated : List (List ℕ)) (most : ℕ) (m : Message) (list : List Binding) (draft : Drafted) → names ≡ take (non_repeaters m) (names_of m.bindings)
    → repeated ≡ drop (non_repeaters m) (names_of m.bindings) → most ≡ counting m.second → IsLongest (Front IsOne names repeated most) m list → draft ≡ drafted (carrying m list)
    → DraftsOne (IsBulkReply IsOne m) draft
bulk_of IsOne names repeated most m list draft first others times longest is =
    let one = subst (λ (ns : List (List ℕ)). IsLongest (Front IsOne ns repeated most) m list) first longest in
    let two = subst (λ (ns : List (List ℕ)). IsLongest (Front IsOne (take (non_repeaters m) (names_of m.bindings)) ns most) m list) others one in
    let all = subst (λ (n : ℕ). IsLongest (Front IsOne (take (non_repeaters m) (names_of m.bindings)) (drop (non_repeaters m) (names_of m.bindings)) n) m list) times two in
    (carrying m list, (list, longest_by_place IsOne m list all, refl), is)

-- the names that aren't repeated have too much
pub bulk_stops : (IsOne : List ℕ → Binding → Type 0) → HasOne IsOne → Lengthens → (names : List (List ℕ)) (m : Message) (draft : Drafted) → names ≡ take (non_repeaters m) (names_of m.bindings)
    → Stops IsOne names m [] draft → DraftsOne (IsBulkReply IsOne m) draft
bulk_stops IsOne one lengthen names m draft first stops =
    let repeated = drop (non_repeaters m) (names_of m.bindings) in
    let Follows : List Binding → List Binding → Type 0 = λ answers rest. AreRepetitions IsOne (counting m.second) repeated rest in
    bulk_of IsOne names repeated (counting m.second) m stops.answers draft first refl refl
    (record {
      part = front_first IsOne names Follows stops.answers stops.next stops.first;
      short = stops.is_drafted.short;
      longest = λ more front fits. stops_longest IsOne one lengthen names Follows m [] draft stops more front fits;
    }) stops.is_drafted.is

-- they fit, and repetitions came behind them
pub bulk_repeats : (IsOne : List ℕ → Binding → Type 0) (names repeated : List (List ℕ)) (most : ℕ) (m : Message) (draft new : Drafted) → names ≡ take (non_repeaters m) (names_of m.bindings)
    → repeated ≡ drop (non_repeaters m) (names_of m.bindings) → most ≡ counting m.second → (puts : Puts IsOne names m [] draft)
    → PutsLongest (AreRepetitions IsOne most repeated) m puts.answers new → DraftsOne (IsBulkReply IsOne m) new
bulk_repeats IsOne names repeated most m draft new first others times puts repeats =
    let Follows : List Binding → List Binding → Type 0 = λ answers rest. AreRepetitions IsOne most repeated rest in
    bulk_of IsOne names repeated most m (puts.answers ++ repeats.added) new first others times
    (record {
      part = front_on IsOne names Follows puts.answers repeats.added puts.are.first puts.are.all repeats.part;
      short = repeats.is_drafted.short;
      longest = λ more front fits.
          let whole = append_assoc puts.answers repeats.added more in
          repeats.longest more (front_back IsOne names Follows puts.answers (repeats.added ++ more) puts.are.all (subst (λ (bs : List Binding). IsFront IsOne names Follows bs) whole front))
          (subst (λ (bs : List Binding). size_with m bs ≤ 1472) whole fits);
    }) repeats.is_drafted.is

-- repetitions for the names from a place on
pub put_these : (IsOne : List ℕ → Binding → Type 0) (names : List (List ℕ)) (most : ℕ) (m : Message) (list : List Binding) (new : Drafted) (from : ℕ) → names ≡ drop from (names_of m.bindings)
    → PutsLongest (AreRepetitions IsOne most names) m list new → PutsLongest (AreRepetitions IsOne most (drop from (names_of m.bindings))) m list new
put_these IsOne names most m list new from these put = subst (λ (ns : List (List ℕ)). PutsLongest (AreRepetitions IsOne most ns) m list new) these put

-- as many repetitions as a request asks for
pub put_so_many : (IsOne : List ℕ → Binding → Type 0) (names : List (List ℕ)) (most : ℕ) (m : Message) (list : List Binding) (new : Drafted) → most ≡ counting m.second
    → PutsLongest (AreRepetitions IsOne most names) m list new → PutsLongest (AreRepetitions IsOne (counting m.second) names) m list new
put_so_many IsOne names most m list new times put = subst (λ (n : ℕ). PutsLongest (AreRepetitions IsOne n names) m list new) times put
