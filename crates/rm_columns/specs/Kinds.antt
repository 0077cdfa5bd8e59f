-- What types of typed columns hold.
use Rattle.std.specs.Prelude.{◌≡◌, ℕ, ℤ, pos, List, Option, Some}
use Rattle.std.specs.Option.{option_map}
use Rattle.rm_val.specs.Val.{int, octets, name}
use Rattle.rm_model.specs.Interfaces.{interface_name}
use Rattle.rm_columns.specs.Numbering.{Numbering, variant}
use Rattle.rm_columns.specs.Values.{number_of, natural_in, octets_in, name_of, interface_in}
use Rattle.rm_columns.specs.Field.{FieldOf}
use Rattle.rm_columns.specs.Holds.{holds_texts, holds_numbers, holds_within, holds_names, holds_sources, UpTo}
use Rattle.rm_columns.specs.KindLaws.{text_shows, number_shows, of_within, name_shows, source_shows, natural_within, variant_shows}
use Rattle.arrayvec.specs.ArrayVec.{ArrayVec}

-- a text of at most so many octets
abbrev pub texts : ℕ → FieldOf (ArrayVec ℕ)
texts most = record {
  holds = holds_texts most;
  shown = λ text. Some (octets text.items);
  taken = λ value. record { items = octets_in value };
  shows = text_shows most;
}

-- a number
abbrev pub numbers : FieldOf ℤ
numbers = record { holds = holds_numbers; shown = λ number. Some (int number); taken = number_of; shows = number_shows }

-- a number from a least one to a greatest one, kept as one that isn't negative
abbrev pub naturals : ℕ → ℕ → FieldOf ℕ
naturals least greatest = record {
  holds = holds_within (pos least) (pos greatest);
  shown = λ number. Some (int (pos number));
  taken = natural_in;
  shows = of_within (λ value. Some (int (pos (natural_in value))) ≡ Some value) (pos least) (pos greatest) (natural_within least greatest);
}

-- a data source, by the number of its interface
abbrev pub sources : FieldOf ℕ
sources = record {
  holds = holds_sources;
  shown = λ interface. Some (name (interface_name interface));
  taken = interface_in;
  shows = source_shows;
}

-- a number and a name that may not be set yet
abbrev pub needed_numbers : FieldOf (Option ℤ)
needed_numbers = record { holds = holds_numbers; shown = λ number. option_map int number; taken = λ value. Some (number_of value); shows = number_shows }

abbrev pub needed_names : FieldOf (Option (List ℕ))
needed_names = record { holds = holds_names; shown = λ numbers. option_map name numbers; taken = λ value. Some (name_of value); shows = name_shows }

-- A type of so many variants, each with its number from 1.
module _ {E : Type 0} (numbering : Numbering E) (greatest : ℕ) (again : UpTo greatest (λ n. numbering.number_of (variant numbering n) ≡ n)) where
  abbrev pub variants : FieldOf E
  variants = record {
    holds = holds_within (pos 1) (pos greatest);
    shown = λ one. Some (int (pos (numbering.number_of one)));
    taken = λ value. variant numbering (natural_in value);
    shows = variant_shows numbering greatest again;
  }
