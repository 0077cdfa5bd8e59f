-- The requests of a load are read as what they are.
use Rattle.std.proofs.Common.{ℕ, ◌<◌, ◌≤◌, ◌+◌, ◌*◌, ◌^◌, List, [], ◌∷◌, length, map, true, refl, arith}
use Rattle.std.specs.Prelude.{ℤ}
use Rattle.std.specs.List.{sum_by, AllByRecursion}
use Rattle.std.proofs.lemmas.List.Elements.{All-from_recursion}
use Rattle.rm_val.specs.Val.{int}
use Rattle.rm_pdu.specs.Draft.{binding_of, IsWritable, IsWritableBinding}
use Rattle.rm_pdu.specs.Message.{Message, binding_octets, message_octets}
use Rattle.rm_pdu.specs.Parse.{message, IsParse}
use Rattle.rm_pdu.specs.Spells.{Spells}
use Rattle.rm_load.specs.declared.table.Table.{Table}
use Rattle.rm_load.specs.declared.table.Table.TheVariants.{EtherStats, HostControl, MatrixControl, HlHostControl, HlMatrixControl}
use Rattle.rm_load.specs.Names.{group_of, name_in, status_column}
use Rattle.rm_load.specs.Sets.{with_status, with_statuses, first_statuses, first_set, second_statuses, second_set, binding_for, set_request}
use Rattle.rm_load.proofs.RequestLemmas.{statuses_fit}

low_group : (table : Table) → group_of table < 2 ^ 32
low_group EtherStats = omega arith
low_group HostControl = omega arith
low_group MatrixControl = omega arith
low_group HlHostControl = omega arith
low_group HlMatrixControl = omega arith

low_column : (table : Table) → status_column table < 2 ^ 32
low_column EtherStats = omega arith
low_column HostControl = omega arith
low_column MatrixControl = omega arith
low_column HlHostControl = omega arith
low_column HlMatrixControl = omega arith

-- a binding of a status has a spelling
status_writable : (one : Table × ℕ) → one.1 < 2 ^ 31 → IsWritableBinding (binding_for (with_status one))
status_writable one low = record {
  spellable = (omega arith, λ _. omega arith, omega arith);
  name_in_range = (
    All-from_recursion (λ n. n < 2 ^ 32) (name_in one.0 (status_column one.0))
        (omega arith, (omega arith, (omega arith, (omega arith, (omega arith, (omega arith, (omega arith, (low_group one.0, (omega arith, (omega arith, (low_column one.0, (omega arith, tt)))))))))))),
    omega arith,
  );
  spelling = tt;
  value_in_range = record { sfits = low };
}

-- each status is a number of 31 bits
abbrev AreLow : List (Table × ℕ) → Type 0
AreLow statuses = AllByRecursion (λ (one : Table × ℕ). one.1 < 2 ^ 31) statuses

statuses_writable : (statuses : List (Table × ℕ)) → AreLow statuses → AllByRecursion IsWritableBinding (map binding_for (with_statuses statuses))
statuses_writable [] low = tt
statuses_writable (one ∷ more) low = (status_writable one low.0, statuses_writable more low.1)

module _ (community : List ℕ) (short : length community ≤ 127)
    (adds : (m : Message) → length m.community ≤ 127 → length (message_octets m) ≤ 191 + sum_by (λ binding. length (binding_octets binding)) m.bindings)
    (numbers : (name : List ℕ) (z : ℤ) → length (binding_octets (binding_of name (int z))) ≤ 5 * length name + 23)
    (reads_back : (m : Message) → IsWritable m → Spells (message_octets m) m) where
  parse_of : (id : ℕ) → id < 2 ^ 31 → (statuses : List (Table × ℕ)) → length statuses ≤ 4 → AreLow statuses
      → IsParse true (message_octets (set_request community id (with_statuses statuses))) (message (set_request community id (with_statuses statuses)))
  parse_of id low statuses few are_low =
      let request = set_request community id (with_statuses statuses) in
      let fits = statuses_fit adds numbers statuses few request short refl in
      let writable : IsWritable request = record {
        id = record { sfits = low };
        first = record { sfits = omega arith };
        second = record { sfits = omega arith };
        bindings = All-from_recursion IsWritableBinding (map binding_for (with_statuses statuses)) (statuses_writable statuses are_low);
        short = omega (arith, fits);
      } in
      (omega (arith, fits), reads_back request writable, refl)

  pub first_parse : IsParse true (message_octets (set_request community 1 first_set)) (message (set_request community 1 first_set))
  first_parse = parse_of 1 (omega arith) first_statuses (omega arith) (omega arith, (omega arith, (omega arith, (omega arith, tt))))

  pub second_parse : IsParse true (message_octets (set_request community 2 second_set)) (message (set_request community 2 second_set))
  second_parse = parse_of 2 (omega arith) second_statuses (omega arith) (omega arith, (omega arith, tt))
