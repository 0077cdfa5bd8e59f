-- The two Sets by which a load makes row 1 of four control tables.
use Rattle.std.specs.Prelude.{ℕ, pos, List, [], ◌∷◌, map}
use Rattle.rm_val.specs.Val.{int}
use Rattle.rm_model.specs.Journal.{Assignment}
use Rattle.rm_model.specs.Judgement.{Bindings}
use Rattle.rm_pdu.specs.declared.kind.Kind.TheVariants.{Set}
use Rattle.rm_pdu.specs.Message.{Binding, Message}
use Rattle.rm_pdu.specs.Draft.{binding_of}
use Rattle.rm_load.specs.declared.table.Table.{Table}
use Rattle.rm_load.specs.declared.table.Table.TheVariants.{HostControl, MatrixControl, HlHostControl, HlMatrixControl}
use Rattle.rm_load.specs.Names.{name_in, status_column}

-- row 1 of a table is given a status
abbrev pub with_status : Table × ℕ → Assignment
with_status one = record { name = name_in one.0 (status_column one.0); value = int (pos one.1) }

-- the Set by which row 1 of each of some tables is given a status
abbrev pub with_statuses : List (Table × ℕ) → Bindings
with_statuses statuses = map with_status statuses

-- the statuses by which all four rows are made (createRequest of RFC 1757, and createAndGo of RFC 1903 where it is a RowStatus)
abbrev pub first_statuses : List (Table × ℕ)
first_statuses = (HostControl, 2) ∷ (MatrixControl, 2) ∷ (HlHostControl, 4) ∷ (HlMatrixControl, 4) ∷ []

-- the first Set gives these
abbrev pub first_set : Bindings
first_set = with_statuses first_statuses

-- the statuses by which those rows become valid that aren't active yet
abbrev pub second_statuses : List (Table × ℕ)
second_statuses = (HostControl, 1) ∷ (MatrixControl, 1) ∷ []

-- the second Set gives these
abbrev pub second_set : Bindings
second_set = with_statuses second_statuses

abbrev pub binding_for : Assignment → Binding
binding_for assignment = binding_of assignment.name assignment.value

-- the SetRequest of a community with these bindings, and its request-id
abbrev pub set_request : (community : List ℕ) (id : ℕ) → Bindings → Message
set_request community id bindings =
    record { community = community; kind = Set; id = pos id; first = pos 0; second = pos 0; bindings = map binding_for bindings }
