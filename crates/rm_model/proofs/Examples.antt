-- The life of one row of a sampled table, act by act: its status is column 12, its interval column 2, its owner column 11.
use Rattle.std.proofs.Common.{◌≡◌, ℕ, [], ◌∷◌, refl, true, false, Some, None}
use Rattle.std.specs.Prelude.{pos}
use Rattle.rm_val.specs.Val.{Val, int, octets}
use Rattle.rm_model.specs.declared.row.State.TheVariants.{Absent, UnderCreation, Valid}
use Rattle.rm_model.specs.declared.row.StatusKind.TheVariants.{EntryStatus, RowStatus}
use Rattle.rm_model.specs.Journal.{Assignments, Act, passes, assigns, samples, Journal, last_moment, frames_in}
use Rattle.rm_model.specs.ControlTable.{number, text, Column, ControlTable, no_rules}
use Rattle.rm_model.specs.Indexing.{one_number, by_one_number}
use Rattle.rm_model.specs.ControlRows.{no_rows, state_of, set_value, value_of, since, activated}

abbrev interval : Column
interval = record { number = 2; kind = number (record { least = pos 1; greatest = pos 9 } ∷ []); always = false; needed = true; default = int (pos 0) }

abbrev owner : Column
owner = record { number = 11; kind = text 127; always = true; needed = false; default = octets (7 ∷ []) }

abbrev table : ControlTable
table = record { entry = 1 ∷ 3 ∷ []; indexing = one_number; indexed = by_one_number; status = 12; status_kind = EntryStatus; most = 16; columns = interval ∷ owner ∷ []; go_together = λ values. true; rules = no_rules; is_sampled = true }

-- a Set of one column of row 5
abbrev gives : ℕ → Val → Assignments
gives column value = record { name = 1 ∷ 3 ∷ column ∷ 5 ∷ []; value = value } ∷ []

abbrev frame : ℕ → Act
frame moment = passes (record { interface = 1; moment = moment; number = moment; octets = []; original = 60 })

abbrev created : Journal
created = assigns 10 (gives 12 (int (pos 2))) ∷ []

abbrev prepared : Journal
prepared = assigns 20 (gives 2 (int (pos 3))) ∷ frame 15 ∷ created

abbrev made_valid : Journal
made_valid = frame 40 ∷ assigns 30 (gives 12 (int (pos 1))) ∷ prepared

-- valid once more is no new activation
abbrev again : Journal
again = frame 60 ∷ assigns 50 (gives 12 (int (pos 1))) ∷ made_valid

-- the variable of the sampled row is gone, and the row is made anew
abbrev gone : Journal
gone = samples 70 5 None ∷ samples 65 5 (Some (pos 8)) ∷ again

abbrev anew : Journal
anew = assigns 80 (gives 12 (int (pos 2))) ∷ gone

created-state : state_of table no_rows created (5 ∷ []) ≡ UnderCreation
created-state = refl

other-state : state_of table no_rows created (6 ∷ []) ≡ Absent
other-state = refl

prepared-value : value_of table no_rows prepared (5 ∷ []) 2 ≡ int (pos 3)
prepared-value = refl

default-value : value_of table no_rows prepared (5 ∷ []) 11 ≡ octets (7 ∷ [])
default-value = refl

valid-state : state_of table no_rows again (5 ∷ []) ≡ Valid
valid-state = refl

valid-activated : activated table no_rows again (5 ∷ []) ≡ 30
valid-activated = refl

valid-frames : frames_in (since table no_rows again (5 ∷ [])) ≡ frames_in (frame 60 ∷ frame 40 ∷ [])
valid-frames = refl

gone-state : state_of table no_rows gone (5 ∷ []) ≡ Absent
gone-state = refl

anew-state : state_of table no_rows anew (5 ∷ []) ≡ UnderCreation
anew-state = refl

anew-value : set_value table no_rows anew (5 ∷ []) 2 ≡ None
anew-value = refl

anew-since : since table no_rows anew (5 ∷ []) ≡ []
anew-since = refl

anew-moment : last_moment anew ≡ 80
anew-moment = refl

-- the same row in a table with RowStatus: made active, put out of service, made active once more, destroyed
abbrev row_table : ControlTable
row_table = record table { status_kind = RowStatus }

abbrev created_at_once : Journal
created_at_once = assigns 10 (gives 12 (int (pos 4))) ∷ []

abbrev out_of_service : Journal
out_of_service = assigns 20 (gives 12 (int (pos 2))) ∷ created_at_once

abbrev in_service : Journal
in_service = assigns 30 (gives 12 (int (pos 1))) ∷ out_of_service

created_at_once-state : state_of row_table no_rows created_at_once (5 ∷ []) ≡ Valid
created_at_once-state = refl

created_and_waits-state : state_of row_table no_rows (assigns 10 (gives 12 (int (pos 5))) ∷ []) (5 ∷ []) ≡ UnderCreation
created_and_waits-state = refl

out_of_service-state : state_of row_table no_rows out_of_service (5 ∷ []) ≡ UnderCreation
out_of_service-state = refl

in_service-activated : activated row_table no_rows in_service (5 ∷ []) ≡ 30
in_service-activated = refl

destroyed-state : state_of row_table no_rows (assigns 40 (gives 12 (int (pos 6))) ∷ in_service) (5 ∷ []) ≡ Absent
destroyed-state = refl

-- a valid row of a table with EntryStatus is put under creation, or made invalid
disabled-state : state_of table no_rows (assigns 60 (gives 12 (int (pos 3))) ∷ again) (5 ∷ []) ≡ UnderCreation
disabled-state = refl

invalid-state : state_of table no_rows (assigns 60 (gives 12 (int (pos 4))) ∷ again) (5 ∷ []) ≡ Absent
invalid-state = refl
