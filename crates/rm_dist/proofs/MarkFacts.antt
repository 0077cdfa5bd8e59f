-- What is known of the marks of a row.
use Rattle.std.proofs.Common.{◌≡◌, ℕ, zero, suc, List, [], ◌∷◌, ◌++◌, map, Bool, true, false, cond, not, ◌&&◌, ◌||◌, nat_eq, Option, Some, None, is_some, find, refl, sym, ap, subst, ◌∙◌, arith}
use Rattle.std.proofs.lemmas.Bool.Decides.{nat_tests}
use Rattle.std.proofs.lemmas.Option.{none-some, same_Some}
use Rattle.rm_proto.specs.declared.known.Facts.{Facts}
use Rattle.rm_model.specs.Counting.{Counting}
use Rattle.rm_model.specs.FrameFacts.{frame_facts}
use Rattle.rm_model.specs.Journal.{Act, Journal, passes, assigns, samples}
use Rattle.rm_model.specs.ControlRows.{is_absent, is_valid}
use Rattle.rm_model.specs.declared.row.State.{State}
use Rattle.rm_model.specs.declared.row.State.TheVariants.{Absent, UnderCreation, Valid}
use Rattle.rm_path.specs.declared.identifier.ProtocolIdentifier.{ProtocolIdentifier}
use Rattle.rm_path.specs.declared.protocol.Protocol.{Protocol}
use Rattle.rm_path.specs.Layers.{layers_of, path_through}
use Rattle.rm_path.specs.Slots.{protocol_in}
use Rattle.rm_path.proofs.SlotLemmas.{some_slot}
use Rattle.rm_dir.specs.DirectoryIndex.{index_with, may_have_row}
use Rattle.rm_dir.specs.LocalIndexes.{local_index}
use Rattle.rm_dir.specs.Paths.{AreActiveAfter, is_active_after}
use Rattle.rm_dir.specs.ProtocolDir.{directory_state}
use Rattle.rm_dir.proofs.LocalLaws.{held_is}
use Rattle.rm_dist.specs.Control.{control_state, source_of}
use Rattle.rm_dist.specs.Marks.{Mark, is_counted, marks, marks_of, new_marks, of_active}
use Rattle.rm_dist.specs.Resting.{has_local, is_local}
use Rattle.rm_dist.proofs.MarkLemmas.{AllIn}

-- a protocol is active where its row is
pub active_is : (journal : Journal) (protocol : ProtocolIdentifier) → is_active_after journal protocol ≡ (may_have_row protocol && is_valid (directory_state journal (index_with protocol)))
active_is journal protocol = told _ (may_have_row protocol && is_valid (directory_state journal (index_with protocol)))
  where
    told : (known : Protocol) (b : Bool) → is_some (cond b (Some known) None) ≡ b
    told known true = refl
    told known false = refl

-- the local index of a row that is there is that which it had before an act
pub row_stays : (act : Act) (earlier : Journal) (protocol : ProtocolIdentifier) → is_active_after earlier protocol ≡ true → local_index (act ∷ earlier) (index_with protocol) ≡ local_index earlier (index_with protocol)
row_stays act earlier protocol active = rw (not_made (directory_state earlier (index_with protocol)) (second (may_have_row protocol) _ (sym (active_is earlier protocol) ∙ active))) refl
  where
    second : (a b : Bool) → (a && b) ≡ true → b ≡ true
    second true b is = is
    second false b is = absurd (cc)

    not_made : (state : State) → is_valid state ≡ true → (is_absent state && not (is_absent (directory_state (act ∷ earlier) (index_with protocol)))) ≡ false
    not_made Absent is = absurd (cc)
    not_made UnderCreation is = refl
    not_made Valid is = refl

-- a mark is of a protocol that is active after a journal, with its local index
pub record IsMarkOf (journal : Journal) (mark : Mark) : Type 0 where
  pub active : is_active_after journal mark.protocol ≡ true
  pub local_is : mark.local ≡ local_index journal (index_with mark.protocol)

abbrev pub AreMarksOf : Journal → List Mark → Type 0
AreMarksOf journal [] = Unit {0}
AreMarksOf journal (mark ∷ some) = IsMarkOf journal mark × AreMarksOf journal some

pub both_of : (journal : Journal) (some other : List Mark) → AreMarksOf journal some → AreMarksOf journal other → AreMarksOf journal (some ++ other)
both_of journal [] other all also = also
both_of journal (mark ∷ some) other all also = (all.0, both_of journal some other all.1 also)

-- those that last are of active protocols
after_act : (act : Act) (earlier : Journal) (some : List Mark) → AreMarksOf earlier some → AreMarksOf (act ∷ earlier) (of_active (act ∷ earlier) some)
after_act act earlier [] all = tt
after_act act earlier (mark ∷ some) all = by_test (is_active_after (act ∷ earlier) mark.protocol) refl (after_act act earlier some all.1)
  where
    by_test : (t : Bool) → is_active_after (act ∷ earlier) mark.protocol ≡ t → AreMarksOf (act ∷ earlier) (of_active (act ∷ earlier) some) → AreMarksOf (act ∷ earlier) (cond t (mark ∷ of_active (act ∷ earlier) some) (of_active (act ∷ earlier) some))
    by_test true e rest = (record { active = e; local_is = all.0.local_is ∙ sym (row_stays act earlier mark.protocol all.0.active) }, rest)
    by_test false e rest = rest

-- what is on a path is active
found_passes : (test : ProtocolIdentifier → Bool) (layer : List ProtocolIdentifier) (protocol : ProtocolIdentifier) → find test layer ≡ Some protocol → test protocol ≡ true
found_passes test [] protocol is = absurd (none-some protocol is)
found_passes test (first ∷ layer) protocol is = by_test (test first) refl is (found_passes test layer protocol)
  where
    by_test : (t : Bool) → test first ≡ t → cond t (Some first) (find test layer) ≡ Some protocol → (find test layer ≡ Some protocol → test protocol ≡ true) → test protocol ≡ true
    by_test true e is rest = ap test (sym (same_Some _ _ is)) ∙ e
    by_test false e is rest = rest is

path_marks : (journal : Journal) (octets : ℕ) (layers : List (List ProtocolIdentifier))
    → AreMarksOf journal (map (λ protocol. record { protocol = protocol; local = local_index journal (index_with protocol); octets = octets }) (path_through (is_active_after journal) layers))
path_marks journal octets [] = tt
path_marks journal octets (layer ∷ above) = by_found (find (is_active_after journal) layer) refl (path_marks journal octets above)
  where
    by_found : (found : Option ProtocolIdentifier) → find (is_active_after journal) layer ≡ found
        → AreMarksOf journal (map (λ protocol. record { protocol = protocol; local = local_index journal (index_with protocol); octets = octets }) (path_through (is_active_after journal) above))
        → AreMarksOf journal (map (λ protocol. record { protocol = protocol; local = local_index journal (index_with protocol); octets = octets }) (elim found [
          | None ↦ []
          | Some protocol ↦ protocol ∷ path_through (is_active_after journal) above
        ]))
    by_found None e rest = tt
    by_found (Some protocol) e rest = (record { active = found_passes (is_active_after journal) layer protocol e; local_is = refl }, rest)

pub marks_are : (facts : Facts) (journal : Journal) → AreMarksOf journal (marks_of facts journal)
marks_are facts journal = path_marks journal facts.length (layers_of facts)

module _ (settings : Counting) (row : ℕ) where
  pub new_are : (act : Act) (earlier : Journal) → AreMarksOf earlier (new_marks settings row act earlier)
  new_are (passes frame) earlier = by_test (is_counted (source_of earlier row) (frame_facts settings frame))
    where
      by_test : (t : Bool) → AreMarksOf earlier (cond t (marks_of (frame_facts settings frame) earlier) [])
      by_test true = marks_are (frame_facts settings frame) earlier
      by_test false = tt
  new_are (assigns moment values) earlier = tt
  new_are (samples moment alarm reading) earlier = tt

  -- the marks of a row are
  pub all_are : (journal : Journal) → AreMarksOf journal (marks settings row journal)
  all_are [] = tt
  all_are (act ∷ earlier) = by_test (is_valid (control_state (act ∷ earlier) row)) (all_are earlier)
    where
      by_test : (t : Bool) → AreMarksOf earlier (marks settings row earlier) → AreMarksOf (act ∷ earlier) (cond t (of_active (act ∷ earlier) (new_marks settings row act earlier ++ marks settings row earlier)) [])
      by_test true rest = after_act act earlier (new_marks settings row act earlier ++ marks settings row earlier) (both_of earlier (new_marks settings row act earlier) (marks settings row earlier) (new_are act earlier) rest)
      by_test false rest = tt

-- all last over an act that leaves the rows of the directory in their states
pub all_last : (act : Act) (journal : Journal) → ((index : List ℕ) → directory_state (act ∷ journal) index ≡ directory_state journal index)
    → (some : List Mark) → AreMarksOf journal some → of_active (act ∷ journal) some ≡ some
all_last act journal states [] all = refl
all_last act journal states (mark ∷ some) all =
    let active : is_active_after (act ∷ journal) mark.protocol ≡ true =
    active_is (act ∷ journal) mark.protocol ∙ ap (λ s. may_have_row mark.protocol && is_valid s) (states (index_with mark.protocol)) ∙ sym (active_is journal mark.protocol) ∙ all.0.active
    in
    rw active (ap (λ more. mark ∷ more) (all_last act journal states some all.1))

-- their local indexes are those of slots
in_slot : (slots : List (Option Protocol)) (slot : ℕ) (protocol : Protocol) → protocol_in slots slot ≡ Some protocol → has_local slots protocol.local ≡ true
in_slot [] slot protocol is = absurd (none-some protocol is)
in_slot (first ∷ slots) zero protocol is =
    let here : is_local protocol.local first ≡ true = ap (is_local protocol.local) is ∙ (let same : nat_eq protocol.local protocol.local ≡ true = grind (arith, nat_tests) in same) in
    rw here refl
in_slot (first ∷ slots) (suc slot) protocol is = either (is_local protocol.local first) (in_slot slots slot protocol is)
  where
    either : (b : Bool) → has_local slots protocol.local ≡ true → (b || has_local slots protocol.local) ≡ true
    either true rest = refl
    either false rest = rest

module _ (journal : Journal) (slots : List (Option Protocol)) (are : AreActiveAfter journal slots) where
  pub has_slot : (mark : Mark) → IsMarkOf journal mark → has_local slots mark.local ≡ true
  has_slot mark is =
      let slot = some_slot slots mark.protocol (are.each mark.protocol ∙ is.active) in
      let it = held_is journal slots are slot.0 mark.protocol slot.1 in
      subst (λ k. has_local slots k ≡ true) (it.3 ∙ sym is.local_is) (in_slot slots slot.0 it.0 it.1)

  pub all_in : (some : List Mark) → AreMarksOf journal some → AllIn slots some
  all_in [] all = tt
  all_in (mark ∷ some) all = (has_slot mark all.0, all_in some all.1)
