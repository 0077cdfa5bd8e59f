-- What a row sees of a journal goes by the directory, and what a frame is to it.
use Rattle.std.proofs.Common.{◌≡◌, ℕ, ◌/◌, ◌≤◌, Bool, true, false, cond, ◌&&◌, nat_eq, List, [], length, Option, Some, None, refl, sym, ap, ◌∙◌, arith}
use Rattle.std.proofs.Math.Bool.{and-true}
use Rattle.std.proofs.lemmas.List.{length-map}
use Rattle.rm_val.specs.Val.{Val, name}
use Rattle.rm_proto.specs.declared.datagram.IpPair.{IpPair}
use Rattle.rm_proto.specs.declared.known.Facts.{Facts}
use Rattle.rm_model.specs.Counting.{Counting}
use Rattle.rm_model.specs.FrameFacts.{frame_facts}
use Rattle.rm_model.specs.Interfaces.{interface_name, is_interface}
use Rattle.rm_model.specs.Journal.{Frame, Journal}
use Rattle.rm_layer_events.specs.Side.{IsSide, Reference}
use Rattle.rm_layer_slots.specs.On.{CountsBy}
use Rattle.rm_layer_slots.proofs.SideOn.{is_side}
use Rattle.rm_layer_tables.specs.Control.{control_set}
use Rattle.rm_layer_tables.specs.Layer.{Layer, NamesFew, references_to, locals_above_ip, ends_for, named_by, names_of, side_of}

module _ {K G : Type 0} (layer : Layer K G) (few : NamesFew layer) where
  few_by : (facts : Facts) (pair : Option IpPair) → length (named_by layer facts pair) ≤ 2
  few_by facts None = omega arith
  few_by facts (Some pair) = few facts pair

  few_if : (b : Bool) (tick : ℕ) (path : List ℕ) (named : List (K × G)) → length named ≤ 2 → length (cond b (references_to tick path named) []) ≤ 2
  few_if true tick path named less = let same : length (references_to tick path named) ≡ length named = length-map named _ in omega (arith, same, less)
  few_if false tick path named less = omega arith

  module _ (settings : Counting) (row : ℕ) where
    pub counts_by : CountsBy layer.kind (side_of layer settings row)
    counts_by = record {
      few = λ frame earlier.
          let facts = frame_facts settings frame in
          few_if (facts.good && is_interface (control_set layer.control earlier row 2) facts.interface) (frame.moment / 10) (locals_above_ip earlier facts) (named_by layer facts facts.ip) (few_by facts facts.ip);
      ip = λ journal. refl;
      on = λ local journal. refl;
      locals = λ journal. refl;
    }

    pub is_side_of : IsSide (side_of layer settings row)
    is_side_of = is_side layer.kind (side_of layer settings row) counts_by

module _ {K G : Type 0} (layer : Layer K G) (settings : Counting) (row : ℕ) (frame : Frame) (journal : Journal) (source : ℕ) (facts : Facts)
    (known : facts ≡ frame_facts settings frame) (of_row : name (interface_name source) ≡ control_set layer.control journal row 2) where
  abbrev if_so : Bool → List (Reference K G)
  if_so b = cond b (references_to (frame.moment / 10) (locals_above_ip journal facts) (named_by layer facts facts.ip)) []

  -- what a frame names to a row with this data source
  names_are : names_of layer settings row frame journal ≡ if_so (facts.good && nat_eq source facts.interface)
  names_are =
      ap (λ (one : Facts). cond (one.good && is_interface (control_set layer.control journal row 2) one.interface) (references_to (frame.moment / 10) (locals_above_ip journal one) (named_by layer one one.ip)) []) (sym known)
      ∙ ap (λ (value : Val). if_so (facts.good && is_interface value facts.interface)) (sym of_row)
      ∙ ap (λ b. if_so (facts.good && b)) (and-true (nat_eq source facts.interface))

  by_ends : (counts : Bool) → if_so counts ≡ references_to (frame.moment / 10) (locals_above_ip journal facts) (named_by layer facts (cond counts facts.ip None))
  by_ends true = refl
  by_ends false = refl

  -- it is what the addresses name by which the frame counts for the row
  pub named_of : (moment : ℕ) (path : List ℕ) (ends : Option IpPair) → moment ≡ frame.moment → path ≡ locals_above_ip journal facts → ends ≡ ends_for source facts
      → names_of layer settings row frame journal ≡ references_to (moment / 10) path (named_by layer facts ends)
  named_of moment path ends moment_is path_is ends_are =
      names_are
      ∙ by_ends (facts.good && nat_eq source facts.interface)
      ∙ (λ d. references_to (sym moment_is d / 10) (sym path_is d) (named_by layer facts (sym ends_are d)))
