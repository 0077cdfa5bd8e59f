-- The requests of a load fit into a datagram, and are made a status at a time.
use Rattle.std.proofs.Common.{◌≡◌, ℕ, ◌<◌, ◌≤◌, ◌+◌, ◌*◌, List, [], ◌∷◌, ◌++◌, length, map, take, get_or, sym, ap, ◌∙◌, arith}
use Rattle.std.specs.Prelude.{ℤ, pos}
use Rattle.std.specs.List.{sum_by}
use Rattle.std.proofs.lemmas.List.{map_more, map_push}
use Rattle.std.proofs.lemmas.List.Sums.{sum_by-cons}
use Rattle.rm_val.specs.Val.{int}
use Rattle.rm_pdu.specs.Message.{Binding, Message, binding_octets, message_octets}
use Rattle.rm_pdu.specs.Draft.{binding_of, and_binding}
use Rattle.rm_load.specs.declared.table.Table.{Table}
use Rattle.rm_load.specs.declared.table.Table.TheVariants.{EtherStats}
use Rattle.rm_load.specs.Names.{name_in, status_column}
use Rattle.rm_load.specs.Sets.{binding_for, with_status, with_statuses, set_request}

-- the request by which row 1 of each of the first tables is given its status
abbrev pub front_request : (community : List ℕ) (id : ℕ) → List (Table × ℕ) → (count : ℕ) → Message
front_request community id statuses count = set_request community id (with_statuses (take count statuses))

-- the status at a place
abbrev pub status_at : List (Table × ℕ) → ℕ → Table × ℕ
status_at statuses place = get_or statuses place (EtherStats, 0)

-- with its binding behind the others it is the request for one table more
pub one_more : (community : List ℕ) (id : ℕ) (statuses : List (Table × ℕ)) (place : ℕ) → place < length statuses
    → and_binding (front_request community id statuses place) (with_status (status_at statuses place)).name (with_status (status_at statuses place)).value
    ≡ front_request community id statuses (place + 1)
one_more community id statuses place within =
    let bindings : map binding_for (with_statuses (take (place + 1) statuses)) ≡ map binding_for (with_statuses (take place statuses)) ++ binding_for (with_status (status_at statuses place)) ∷ [] =
    ap (map binding_for) (map_more with_status statuses place (EtherStats, 0) within) ∙ map_push binding_for (with_statuses (take place statuses)) (with_status (status_at statuses place)) in
    ap (λ (list : List Binding). record (set_request community id []) { bindings = list }) (sym bindings)

-- how many octets a binding has
abbrev size_of : Binding → ℕ
size_of binding = length (binding_octets binding)

module _ (adds : (m : Message) → length m.community ≤ 127 → length (message_octets m) ≤ 191 + sum_by (λ binding. length (binding_octets binding)) m.bindings)
    (numbers : (name : List ℕ) (z : ℤ) → length (binding_octets (binding_of name (int z))) ≤ 5 * length name + 23) where
  -- the binding of a status has at most 83
  status_size : (one : Table × ℕ) → size_of (binding_for (with_status one)) ≤ 83
  status_size one = numbers (name_in one.0 (status_column one.0)) (pos one.1)

  statuses_size : (statuses : List (Table × ℕ)) → sum_by size_of (map binding_for (with_statuses statuses)) ≤ 83 * length statuses
  statuses_size [] = omega arith
  statuses_size (one ∷ more) = omega (arith, sum_by-cons size_of (binding_for (with_status one)) (map binding_for (with_statuses more)), status_size one, statuses_size more)

  -- a message with the statuses of at most four tables fits
  pub statuses_fit : (statuses : List (Table × ℕ)) → length statuses ≤ 4 → (m : Message) → length m.community ≤ 127 → m.bindings ≡ map binding_for (with_statuses statuses)
      → length (message_octets m) ≤ 1472
  statuses_fit statuses few m short is = omega (arith, adds m short, ap (sum_by size_of) is, statuses_size statuses)
