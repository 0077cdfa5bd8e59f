-- How the bindings of a SetRequest are read and returned.
use Rattle.std.proofs.Common.{◌≡◌, ◌+◌, ◌≤◌, ◌<◌, ℕ, suc, pos, Bool, true, false, List, [], ◌∷◌, ◌++◌, length, take, drop, Option, refl, ⊎_elim, sym, ap, subst, ◌∙◌, lit≤, arith}
use Rattle.std.specs.Prelude.{slice_get, IfSome, IsTrue, ◌↔◌, ◌||◌, not, nat_lt}
use Rattle.std.proofs.lemmas.Bool.Decides.{nat_tests, leb_tells}
use Rattle.std.proofs.lemmas.List.{take-append-drop, map-append, take_all, length-map}
use Rattle.rm_val.specs.Val.{Val}
use Rattle.rm_val.specs.ErrorStatus.{number_of}
use Rattle.rm_val.specs.declared.error.ErrorStatus.{ErrorStatus}
use Rattle.rm_val.specs.declared.error.ErrorStatus.TheVariants.{NoError, TooBig, NoSuchName, BadValue, ReadOnly, GenErr, NoAccess, WrongType, WrongLength, WrongEncoding, WrongValue, NoCreation, InconsistentValue, ResourceUnavailable, CommitFailed, UndoFailed, AuthorizationError, NotWritable, InconsistentName}
use Rattle.rm_model.specs.declared.verdict.Verdict.{Verdict}
use Rattle.rm_model.specs.declared.verdict.Verdict.TheVariants.{Fine, Wrong}
use Rattle.rm_model.specs.Journal.{Journal}
use Rattle.rm_model.specs.Judgement.{Bindings, IsFirstFault}
use Rattle.rm_group.specs.Alone.{IsWithin}
use Rattle.rm_pdu.specs.declared.kind.Kind.{Kind}
use Rattle.rm_pdu.specs.declared.kind.Kind.TheVariants.{Get, Next, Response, Set, Bulk, Inform, Trap, Report}
use Rattle.rm_pdu.specs.Parse.{is_request}
use Rattle.rm_pdu.specs.Message.{Binding, Message, message_octets}
use Rattle.rm_pdu.specs.Draft.{and_binding}
use Rattle.rm_reply.specs.Replies.{response_to, is_built}
use Rattle.rm_group.specs.Assignments.{giving}
use Rattle.rm_reply.specs.Sets.{given_by_one, given_by, returning, is_too_much, is_barred, telling, Judges, IsSetReply}
use Rattle.rm_reply.proofs.NameLemmas.{there, take_more}
use Rattle.rm_reply.proofs.BulkLemmas.{Lengthens}

-- the binding at a place has that name and that value
pub record IsAt (bindings : List Binding) (place : ℕ) (name : List ℕ) (value : Val) : Type 0 where
  pub within : place < length bindings
  pub name_is : IfSome (slice_get bindings place) (λ (b : Binding). name ≡ b.name)
  pub value_is : IfSome (slice_get bindings place) (λ (b : Binding). value ≡ b.value)

pub is_at : (bindings : List Binding) (place : ℕ) (name : List ℕ) (value : Val) → place < length bindings
    → IfSome (slice_get bindings place) (λ (b : Binding). name ≡ b.name) → IfSome (slice_get bindings place) (λ (b : Binding). value ≡ b.value) → IsAt bindings place name value
is_at bindings place name value within name_is value_is = record { within = within; name_is = name_is; value_is = value_is }

next_binding : (bindings : List Binding) (place : ℕ) (name : List ℕ) (value : Val) → IsAt bindings place name value → take (place + 1) bindings ≡ take place bindings ++ (record { name = name; value = value }) ∷ []
next_binding bindings place name value at =
    let (b, found) = there bindings place at.within in
    let named : name ≡ b.name = rw found at at.name_is in
    let valued : value ≡ b.value = rw found at at.value_is in
    let same : b ≡ record { name = name; value = value } = λ i. record { name = sym named i; value = sym valued i } in
    let one : place + 1 ≡ suc place = omega arith in
    ap (λ n. take n bindings) one ∙ take_more bindings place b found ∙ ap (λ (x : Binding). take place bindings ++ x ∷ []) same

-- one binding more behind those that are returned
pub and_next : (m : Message) (status : ErrorStatus) (index place : ℕ) (name : List ℕ) (value : Val) → IsAt m.bindings place name value
    → and_binding (response_to m status index (take place m.bindings)) name value ≡ response_to m status index (take (place + 1) m.bindings)
and_next m status index place name value at = ap (response_to m status index) (sym (next_binding m.bindings place name value at))

-- one binding more that is given
pub given_more : (bindings : List Binding) (given : Bindings) (place : ℕ) (name : List ℕ) (value : Val) → IsAt bindings place name value → given ≡ given_by (take place bindings)
    → given ++ giving name value ∷ [] ≡ given_by (take (place + 1) bindings)
given_more bindings given place name value at is =
    ap (λ (l : Bindings). l ++ giving name value ∷ []) is
    ∙ sym (map-append given_by_one (take place bindings) ((record { name = name; value = value }) ∷ []))
    ∙ ap given_by (sym (next_binding bindings place name value at))

pub given_all : (bindings : List Binding) (given : Bindings) (place : ℕ) → given ≡ given_by (take place bindings) → length bindings ≤ place → given ≡ given_by bindings
given_all bindings given place is all = is ∙ ap given_by (take_all place bindings all)

-- where the first bindings are too much, all of them are
pub all_too_much : Lengthens → (m : Message) (status : ErrorStatus) (index place : ℕ) → 1472 < length (message_octets (response_to m status index (take place m.bindings)))
    → 1472 < length (message_octets (returning m status index))
all_too_much lengthen m status index place long =
    let more = lengthen (response_to m status index (take place m.bindings)) (drop place m.bindings) in
    let whole : length (message_octets (response_to m status index (take place m.bindings ++ drop place m.bindings))) ≡ length (message_octets (returning m status index)) =
    ap (λ (l : List Binding). length (message_octets (response_to m status index l))) (take-append-drop place m.bindings) in
    omega (arith, long, more, whole)

pub all_returned : (m : Message) (status : ErrorStatus) (index place : ℕ) → length m.bindings ≤ place → response_to m status index (take place m.bindings) ≡ returning m status index
all_returned m status index place all = ap (response_to m status index) (take_all place m.bindings all)

-- the number of a status, which is small
pub record IsSmall (status : ErrorStatus) : Type 0 where
  pub number : ℕ
  pub is : number_of status ≡ pos number
  pub low : number ≤ 127

small : (status : ErrorStatus) → IsSmall status
small NoError = record { number = 0; is = refl; low = lit≤ tt }
small TooBig = record { number = 1; is = refl; low = lit≤ tt }
small NoSuchName = record { number = 2; is = refl; low = lit≤ tt }
small BadValue = record { number = 3; is = refl; low = lit≤ tt }
small ReadOnly = record { number = 4; is = refl; low = lit≤ tt }
small GenErr = record { number = 5; is = refl; low = lit≤ tt }
small NoAccess = record { number = 6; is = refl; low = lit≤ tt }
small WrongType = record { number = 7; is = refl; low = lit≤ tt }
small WrongLength = record { number = 8; is = refl; low = lit≤ tt }
small WrongEncoding = record { number = 9; is = refl; low = lit≤ tt }
small WrongValue = record { number = 10; is = refl; low = lit≤ tt }
small NoCreation = record { number = 11; is = refl; low = lit≤ tt }
small InconsistentValue = record { number = 12; is = refl; low = lit≤ tt }
small ResourceUnavailable = record { number = 13; is = refl; low = lit≤ tt }
small CommitFailed = record { number = 14; is = refl; low = lit≤ tt }
small UndoFailed = record { number = 15; is = refl; low = lit≤ tt }
small AuthorizationError = record { number = 16; is = refl; low = lit≤ tt }
small NotWritable = record { number = 17; is = refl; low = lit≤ tt }
small InconsistentName = record { number = 18; is = refl; low = lit≤ tt }

-- of the responses with small numbers that with the index 128 is longest
abbrev pub LongestAt128 : Type 0
LongestAt128 = (m : Message) (status index : ℕ) → status ≤ 127 → index ≤ 128
    → length (message_octets (record m { first = pos status; second = pos index })) ≤ length (message_octets (record m { first = pos 0; second = pos 128 }))

-- where it fits, all of them do
pub all_fit : LongestAt128 → (m : Message) (status : ErrorStatus) (index : ℕ) → index ≤ 128 → length (message_octets (returning m NoError 128)) ≤ 1472 → length (message_octets (returning m status index)) ≤ 1472
all_fit longest m status index few fits =
    let s = small status in
    let less = longest (returning m status index) s.number index s.low few in
    let same : length (message_octets (returning m status index)) ≡ length (message_octets (record (returning m status index) { first = pos s.number; second = pos index })) =
    ap (λ z. length (message_octets (record (returning m status index) { first = z }))) s.is in
    omega (arith, same, less, fits)

-- a verdict that isn't wrong is fine
pub if_not_wrong : (count : ℕ) (fault : ℕ → Option ErrorStatus) (verdict : Verdict) → ((status : ErrorStatus) (index : ℕ) → verdict ≡ Wrong status index → ⊥) → IsFirstFault count fault verdict
    → IsFirstFault count fault Fine
if_not_wrong count fault Fine not is = is
if_not_wrong count fault (Wrong status index) not is = absurd (not status index refl)

-- a wrong verdict names one of the bindings
pub wrong_within : (count : ℕ) (fault : ℕ → Option ErrorStatus) (status : ErrorStatus) (index : ℕ) → IsFirstFault count fault (Wrong status index) → index ≤ count
wrong_within count fault status index (place, within, is, here, rest) = omega (arith, within, is)

-- a verdict that names one of some bindings names one of more
within_more : (verdict : Verdict) (count most : ℕ) → IsWithin count verdict → count ≤ most → IsWithin most verdict
within_more Fine count most within fits = tt
within_more (Wrong status index) count most within fits = omega (arith, within, fits)

-- whether there is too much to be returned, by whether there are many bindings and whether they fit
pub much_by : (request : Message) (long err : Bool) → IsTrue long ↔ (128 < length request.bindings) → (long ≡ false → err ≡ nat_lt 1472 (length (message_octets (returning request NoError 128)))) → (long || err) ≡ is_too_much request
much_by request true err says by = let many : 128 < length request.bindings = says.0 refl in let is : nat_lt 128 (length request.bindings) ≡ true = grind (arith, nat_tests) in rw is refl
much_by request false err says by =
    let few : length request.bindings ≤ 128 = ⊎_elim (λ h. h.1) (λ h. absurd (let it : IsTrue false = says.1 h.1 in cc)) (leb_tells (length request.bindings) 128) in
    let is : nat_lt 128 (length request.bindings) ≡ false = grind (arith, nat_tests) in
    rw (is, by refl) refl

pub fits_where : (request : Message) → is_too_much request ≡ false → length (message_octets (returning request NoError 128)) ≤ 1472
fits_where request fits = ⊎_elim (λ h. h.1) (λ h. absurd (let is : nat_lt 1472 (length (message_octets (returning request NoError 128))) ≡ true = grind (arith, nat_tests) in any_other (nat_lt 128 (length request.bindings)) (rw is at fits))) (leb_tells (length (message_octets (returning request NoError 128))) 1472)
  where
    any_other : (b : Bool) → (b || true) ≡ false → ⊥
    any_other true h = cc
    any_other false h = cc

pub few_where : (request : Message) → is_too_much request ≡ false → length request.bindings ≤ 128
few_where request fits = ⊎_elim (λ h. h.1) (λ h. absurd (let is : nat_lt 128 (length request.bindings) ≡ true = grind (arith, nat_tests) in let e : true ≡ false = rw is at fits in cc)) (leb_tells (length request.bindings) 128)

module _ (alone : List ℕ → Val → Option ErrorStatus) (together : Bindings → ℕ → Option ErrorStatus) (reserves : Bindings → ℕ → Type 0) (may_write : Bool) (moment : ℕ) (journal : Journal) (request : Message) (fits : is_too_much request ≡ false) where
  -- the reply where the community may not write
  pub no_access : is_barred may_write request ≡ true → IsSetReply alone together reserves may_write moment journal request (returning request NoAccess 1) journal
  no_access barred = rw (fits, barred) (refl, refl)

  -- the reply that tells a verdict
  pub told : (verdict : Verdict) (after : Journal) → is_barred may_write request ≡ false → Judges alone together reserves moment journal (given_by request.bindings) verdict after
      → IsSetReply alone together reserves may_write moment journal request (telling request verdict) after
  told verdict after may judges = rw (fits, may) (verdict, judges, refl)

-- what the judgement of what a request gives comes to is that of the request
pub judges_asked : (alone : List ℕ → Val → Option ErrorStatus) (together : Bindings → ℕ → Option ErrorStatus) (reserves : Bindings → ℕ → Type 0) (moment : ℕ) (journal : Journal) (m : Message) (given : Bindings) (verdict : Verdict) (after : Journal)
    → given ≡ given_by m.bindings → Judges alone together reserves moment journal given verdict after → Judges alone together reserves moment journal (given_by m.bindings) verdict after
judges_asked alone together reserves moment journal m given verdict after is judges = subst (λ (bindings : Bindings). Judges alone together reserves moment journal bindings verdict after) is judges

-- it names one of at most 128 bindings
pub within_asked : (m : Message) (given : Bindings) (verdict : Verdict) → given ≡ given_by m.bindings → length m.bindings ≤ 128 → IsWithin (length given) verdict → IsWithin 128 verdict
within_asked m given verdict is few within = within_more verdict (length given) 128 within (omega (arith, few, ap length is, length-map m.bindings given_by_one))

-- a request that doesn't read is a SetRequest
pub set_kind : (kind : Kind) → is_request kind ≡ true → is_built kind ≡ false → kind ≡ Set
set_kind Set asks reads = refl
set_kind Get asks reads = cc
set_kind Next asks reads = cc
set_kind Bulk asks reads = cc
set_kind Response asks reads = cc
set_kind Inform asks reads = cc
set_kind Trap asks reads = cc
set_kind Report asks reads = cc
