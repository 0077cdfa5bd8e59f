-- That the cells are finitely many.
use Rattle.std.specs.Prelude.{◌≡◌, ℕ, List, [], ◌∷◌, Bool, true, false, ◌&&◌, not, nat_le, map, refl}
use Rattle.std.specs.List.{Contains}
use Rattle.std.proofs.Common.{cond}
use Rattle.rm_model.specs.Counting.{Counting}
use Rattle.rm_model.specs.Journal.{Journal}
use Rattle.rm_model.specs.Cells.{cells_of}
use Rattle.rm_model.specs.Finite.{AreFinite}
use Rattle.rm_model.specs.Indexes.{indexes_of}
use Rattle.rm_model.specs.Interfaces.{up_to}
use Rattle.rm_model.specs.ControlRows.{is_absent}
use Rattle.rm_model.specs.declared.row.State.TheVariants.{Absent, Valid}
use Rattle.rm_model.proofs.Finite.{table_finite}
use Rattle.rm_model.proofs.Rows.{row_listed}
use Rattle.rm_model.proofs.Members.{in_map}
use Rattle.rm_model.proofs.UpTo.{numbers_listed}
use Rattle.rm_ether.specs.EtherStats.{ether_stats, ether_beginning, ether_table}

-- the indexes of the rows of the monitor
abbrev monitor_rows : Counting → List (List ℕ)
monitor_rows settings = map (λ number. number ∷ []) (up_to settings.interfaces)

not_absent : (b : Bool) → not (is_absent (cond b Valid Absent)) ≡ true → b ≡ true
not_absent true is = refl
not_absent false is = absurd (cc)

begins : (settings : Counting) (index : List ℕ) → not (is_absent ((ether_beginning settings).state index)) ≡ true → Contains (monitor_rows settings) index
begins settings [] is = absurd (cc)
begins settings (number ∷ []) is =
    in_map (λ number. number ∷ []) (up_to settings.interfaces) number
    (numbers_listed settings.interfaces number (not_absent (nat_le 1 number && nat_le number settings.interfaces) is))
begins settings (number ∷ next ∷ more) is = absurd (cc)

pub ether_finite : (settings : Counting) (journal : Journal) → AreFinite (cells_of (ether_table settings journal))
ether_finite settings journal =
    table_finite (ether_table settings journal) (indexes_of ether_stats (monitor_rows settings) journal)
    (row_listed ether_stats (ether_beginning settings) (monitor_rows settings) (begins settings) journal)
