-- The numbers of a name that the functions find are those of its groups.
use Rattle.std.proofs.Common.{◌≡◌, ℕ, zero, suc, ◌+◌, ◌-◌, ◌*◌, ◌%◌, ◌^◌, ◌<◌, ◌≤◌, inl, inr, Bool, true, false, cond, List, [], ◌∷◌, ◌++◌, length, slice_index, Option, Some, None, refl, sym, ap, ◌∙◌, subst, arith}
use Rattle.std.specs.Prelude.{nat_lt, nat_le, ◌==◌, All, option_map}
use Rattle.std.proofs.lemmas.Bool.{ltb-true, ltb-false, leb-true, lt-ltb, le-ltb, le-leb, lt-leb, ne_eqb, eqb-false}
use Rattle.std.proofs.lemmas.Option.{none-some, same_Some, cond_some}
use Rattle.std.proofs.lemmas.List.{append_assoc, append-nil, length-append, get_or_append_left}
use Rattle.std.proofs.lemmas.List.Elements.{All-nil, All-cons, All-head, All-tail}
use Rattle.rm_ber.specs.Grammar.{base_128, IsGroup, AreGroups, numbers_of, IsName}
use Rattle.rm_ber.specs.Reading.{group_from, group_at, after_group, groups_within, extended, name_from, name_in}
use Rattle.rm_ber.proofs.GrammarElements.{chosen}

-- a group that goes on with a number stands at the front of the octets, and then the rest
record GroupFrom (start n : ℕ) (rest bytes : List ℕ) : Type 0 where
  front : List ℕ
  last : ℕ
  is : bytes ≡ (front ++ last ∷ []) ++ rest
  marked : All (λ octet. 0x80 ≤ octet) front
  ends : last < 0x80
  number : n ≡ base_128 start (front ++ last ∷ [])
  below : n < 2 ^ 32

group_from_found : (start : ℕ) (bytes : List ℕ) (n : ℕ) (rest : List ℕ) → group_from start bytes ≡ Some (n, rest) → GroupFrom start n rest bytes
group_from_found start [] n rest e = absurd (none-some (n, rest) e)
group_from_found start (octet ∷ more) n rest e =
    let next = 128 * start + octet % 128 in
    elim (chosen (nat_lt start (2 ^ 25)) (cond (nat_lt octet 0x80) (Some (next, more)) (group_from next more)) None (Some (n, rest)) e) [
      | inr above ↦ absurd (none-some (n, rest) above.1)
      | inl low ↦ elim (chosen (nat_lt octet 0x80) (Some (next, more)) (group_from next more) (Some (n, rest)) low.1) [
        | inl last ↦
            let same = same_Some (next, more) (n, rest) last.1 in
            let small = ltb-true start (2 ^ 25) low.0 in
            let number : next ≡ n = ap (λ (p : ℕ × List ℕ). p.0) same in
            record {
              front = [];
              last = octet;
              is = ap (λ (p : ℕ × List ℕ). octet ∷ p.1) same;
              marked = All-nil (λ o. 0x80 ≤ o);
              ends = ltb-true octet 0x80 last.0;
              number = sym number;
              below = omega arith;
            }
        | inr goes_on ↦
            let later = group_from_found next more n rest goes_on.1 in
            record {
              front = octet ∷ later.front;
              last = later.last;
              is = ap (λ t. octet ∷ t) later.is;
              marked = All-cons (λ o. 0x80 ≤ o) octet later.front (ltb-false octet 0x80 goes_on.0) later.marked;
              ends = later.ends;
              number = later.number;
              below = later.below;
            }
      ]
    ]

-- the number only grows
base_grows : (n : ℕ) (octets : List ℕ) → n ≤ base_128 n octets
base_grows n [] = omega arith
base_grows n (octet ∷ more) = omega (arith, base_grows (128 * n + octet % 128) more)

group_from_finds : (start : ℕ) (front : List ℕ) (last : ℕ) (rest : List ℕ) → All (λ octet. 0x80 ≤ octet) front → last < 0x80 → base_128 start (front ++ last ∷ []) < 2 ^ 32
    → group_from start ((front ++ last ∷ []) ++ rest) ≡ Some (base_128 start (front ++ last ∷ []), rest)
group_from_finds start [] last rest marked ends below = rw (lt-ltb start (2 ^ 25) (omega arith), lt-ltb last 0x80 ends) refl
group_from_finds start (octet ∷ front) last rest marked ends below =
    let next = 128 * start + octet % 128 in
    let small : start < 2 ^ 25 = omega (arith, base_grows next (front ++ last ∷ [])) in
    let high = All-head (λ o. 0x80 ≤ o) octet front marked in
    rw (lt-ltb start (2 ^ 25) small, le-ltb octet 0x80 high) (group_from_finds next front last rest (All-tail (λ o. 0x80 ≤ o) octet front marked) ends below)

-- a group stands at the front of the octets, and then the rest
record GroupFirst (n : ℕ) (rest bytes : List ℕ) : Type 0 where
  group : List ℕ
  is_group : IsGroup group n
  is : bytes ≡ group ++ rest

group_some : (group : List ℕ) (n : ℕ) → IsGroup group n → 0 < length group
group_some group n h = omega (arith, ap length h.is, length-append h.front (h.last ∷ []))

-- what is found as a group is one
group_found : (bytes : List ℕ) (n : ℕ) (rest : List ℕ) → group_at bytes ≡ Some (n, rest) → GroupFirst n rest bytes
unfolding group_at
group_found bytes n rest e =
    elim (chosen (slice_index bytes 0 == 0x80) None (group_from 0 bytes) (Some (n, rest)) e) [
      | inl longer ↦ absurd (none-some (n, rest) longer.1)
      | inr other ↦
          let found = group_from_found 0 bytes n rest other.1 in
          let group = found.front ++ found.last ∷ [] in
          let some : 0 < length group = omega (arith, length-append found.front (found.last ∷ [])) in
          let first : slice_index bytes 0 ≡ slice_index group 0 = ap (λ t. slice_index t 0) found.is ∙ get_or_append_left group rest 0 0 some in
          record {
            group = group;
            is_group = record {
              front = found.front;
              last = found.last;
              is = refl;
              marked = found.marked;
              ends = found.ends;
              fewest = λ same. eqb-false (slice_index bytes 0) 0x80 other.0 (first ∙ same);
              number = found.number;
              below = found.below;
            };
            is = found.is;
          }
    ]

-- a group is found
group_finds : (group : List ℕ) (n : ℕ) (rest : List ℕ) → IsGroup group n → group_at (group ++ rest) ≡ Some (n, rest)
unfolding group_at
group_finds group n rest h =
    let first : slice_index (group ++ rest) 0 ≡ slice_index group 0 = get_or_append_left group rest 0 0 (group_some group n h) in
    let other : (slice_index (group ++ rest) 0 == 0x80) ≡ false = ne_eqb (slice_index (group ++ rest) 0) 0x80 (λ same. h.fewest (sym first ∙ same)) in
    let number : n ≡ base_128 0 (h.front ++ h.last ∷ []) = h.number ∙ ap (base_128 0) h.is in
    let below : base_128 0 (h.front ++ h.last ∷ []) < 2 ^ 32 = subst (λ m. m < 2 ^ 32) number h.below in
    let found : group_from 0 (group ++ rest) ≡ Some (n, rest) =
    ap (λ t. group_from 0 (t ++ rest)) h.is ∙ group_from_finds 0 h.front h.last rest h.marked h.ends below ∙ ap (λ m. Some (m, rest)) (sym number) in
    rw other found

-- a group takes some of the octets
pub group_shorter : (bytes : List ℕ) (n : ℕ) (rest : List ℕ) → Some (n, rest) ≡ group_at bytes → length rest < length bytes
group_shorter bytes n rest e =
    let first = group_found bytes n rest (sym e) in
    omega (arith, ap length first.is, length-append first.group rest, group_some first.group n first.is_group)

-- the groups that are found are those of the octets
groups_found : (most : ℕ) (bytes numbers : List ℕ) → groups_within most bytes ≡ Some numbers → AreGroups bytes numbers
unfolding groups_within
groups_found most [] numbers e = subst (AreGroups []) (same_Some [] numbers e) refl
groups_found zero (octet ∷ more) numbers e = absurd (none-some numbers e)
groups_found (suc most) (octet ∷ more) numbers e =
    (elim (group_at (octet ∷ more)) as (λ o. group_at (octet ∷ more) ≡ o → after_group (groups_within most) o ≡ Some numbers → AreGroups (octet ∷ more) numbers) [
      | None ↦ λ none broken. absurd (none-some numbers broken)
      | Some group ↦ λ found these.
          let first = group_found (octet ∷ more) group.0 group.1 found in
          (elim (groups_within most group.1) as (λ o. groups_within most group.1 ≡ o → option_map (λ ns. group.0 ∷ ns) o ≡ Some numbers → AreGroups (octet ∷ more) numbers) [
            | None ↦ λ none broken. absurd (none-some numbers broken)
            | Some others ↦ λ later all.
                subst (AreGroups (octet ∷ more)) (same_Some (group.0 ∷ others) numbers all)
                (first.group, group.1, first.is_group, first.is, groups_found most group.1 others later)
          ]) refl these
    ]) refl e

-- the groups of the octets are found
groups_find : (most : ℕ) (bytes numbers : List ℕ) → length bytes ≤ most → AreGroups bytes numbers → groups_within most bytes ≡ Some numbers
unfolding groups_within
groups_find most bytes [] enough are = rw are refl
groups_find zero bytes (n ∷ numbers) enough are =
    absurd (omega (arith, ap length are.3, length-append are.0 are.1, group_some are.0 n are.2))
groups_find (suc most) [] (n ∷ numbers) enough are =
    absurd (omega (arith, ap length are.3, length-append are.0 are.1, group_some are.0 n are.2))
groups_find (suc most) (octet ∷ more) (n ∷ numbers) enough are =
    let shorter : length are.1 ≤ most = omega (arith, ap length are.3, length-append are.0 are.1, group_some are.0 n are.2) in
    let first : group_at (octet ∷ more) ≡ Some (n, are.1) = ap group_at are.3 ∙ group_finds are.0 n are.1 are.2 in
    rw (first, groups_find most are.1 numbers shorter are.4) refl

-- one number more in front
extended-cons : (front : List ℕ) (n : ℕ) (numbers : Option (List ℕ)) → extended front (option_map (λ ns. n ∷ ns) numbers) ≡ extended (front ++ n ∷ []) numbers
extended-cons front n None = refl
extended-cons front n (Some numbers) = ap (λ all. cond (nat_le (length all) 128) (Some all) None) (sym (append_assoc front (n ∷ []) numbers))

-- no name has more than 128 numbers
extended-full : (front : List ℕ) (n : ℕ) (numbers : Option (List ℕ)) → 128 ≤ length front → extended front (option_map (λ ns. n ∷ ns) numbers) ≡ None
extended-full front n None full = refl
extended-full front n (Some numbers) full = rw (lt-leb (length (front ++ n ∷ numbers)) 128 (omega (arith, length-append front (n ∷ numbers)))) refl

-- with these numbers in front, the octets left give the name
pub record GroupsLeft (front rest : List ℕ) (name : Option (List ℕ)) : Type 0 where
  pub most : ℕ
  pub enough : length rest ≤ most
  pub are : extended front (groups_within most rest) ≡ name
  pub fits : length front ≤ 128

-- none is left
pub groups_end : (front rest : List ℕ) (name : Option (List ℕ)) → length rest ≡ 0 → GroupsLeft front rest name → Some front ≡ name
unfolding groups_within
groups_end front [] name none left =
    let fits : (nat_le (length (front ++ [])) 128) ≡ true = le-leb (length (front ++ [])) 128 (omega (arith, left.fits, ap length (append-nil front))) in
    let is : extended front (Some []) ≡ name = left.are in
    rw (fits, append-nil front) at is
groups_end front (octet ∷ more) name none left = absurd (omega arith)

-- what the octets left give, once the first group is read
groups_step : (most : ℕ) (front rest : List ℕ) (name : Option (List ℕ)) (n : ℕ) (more : List ℕ) → Some (n, more) ≡ group_at rest → length rest ≤ most
    → extended front (groups_within most rest) ≡ name → (fewer : ℕ) × (length more ≤ fewer) × (extended front (option_map (λ ns. n ∷ ns) (groups_within fewer more)) ≡ name)
unfolding groups_within
groups_step most front [] name n more first enough are = absurd (omega (arith, group_shorter [] n more first))
groups_step zero front (octet ∷ bytes) name n more first enough are = absurd (omega arith)
groups_step (suc most) front (octet ∷ bytes) name n more first enough are =
    (most, omega (arith, group_shorter (octet ∷ bytes) n more first), ap (λ o. extended front (after_group (groups_within most) o)) first ∙ are)

-- one group more is read
pub groups_more : (front longer rest : List ℕ) (name : Option (List ℕ)) (n : ℕ) (more : List ℕ) → Some (n, more) ≡ group_at rest → length front < 128 → longer ≡ front ++ n ∷ [] → GroupsLeft front rest name
    → GroupsLeft longer more name
groups_more front longer rest name n more first room is left =
    let step = groups_step left.most front rest name n more first left.enough left.are in
    let push : GroupsLeft (front ++ n ∷ []) more name = record {
      most = step.0;
      enough = step.1;
      are = sym (extended-cons front n (groups_within step.0 more)) ∙ step.2;
      fits = omega (arith, length-append front (n ∷ []));
    } in
    subst (λ ns. GroupsLeft ns more name) (sym is) push

-- there is no room for one group more
pub groups_full : (front rest : List ℕ) (name : Option (List ℕ)) (n : ℕ) (more : List ℕ) → Some (n, more) ≡ group_at rest → 128 ≤ length front → GroupsLeft front rest name → None ≡ name
groups_full front rest name n more first full left =
    let step = groups_step left.most front rest name n more first left.enough left.are in
    sym (extended-full front n (groups_within step.0 more) full) ∙ step.2

-- no group stands first
none_left : (most : ℕ) (front rest : List ℕ) (name : Option (List ℕ)) → None ≡ group_at rest → 0 < length rest → length rest ≤ most → extended front (groups_within most rest) ≡ name → None ≡ name
unfolding groups_within
none_left most front [] name broken some enough are = absurd (omega arith)
none_left zero front (octet ∷ bytes) name broken some enough are = absurd (omega arith)
none_left (suc most) front (octet ∷ bytes) name broken some enough are = ap (λ o. extended front (after_group (groups_within most) o)) broken ∙ are

pub groups_broken : (front rest : List ℕ) (name : Option (List ℕ)) → None ≡ group_at rest → 0 < length rest → GroupsLeft front rest name → None ≡ name
groups_broken front rest name broken some left = none_left left.most front rest name broken some left.enough left.are

-- the first group gives the first two numbers
first_numbers : (n : ℕ) (more : List ℕ) (b c : Bool) → cond b (0 ∷ n ∷ []) (cond c (1 ∷ (n - 40) ∷ []) (2 ∷ (n - 80) ∷ [])) ++ more ≡ cond b (0 ∷ n ∷ more) (cond c (1 ∷ (n - 40) ∷ more) (2 ∷ (n - 80) ∷ more))
first_numbers n more true c = refl
first_numbers n more false true = refl
first_numbers n more false false = refl

numbers_of-cons : (n : ℕ) (more : List ℕ) → numbers_of (n ∷ []) ++ more ≡ numbers_of (n ∷ more)
numbers_of-cons n more = first_numbers n more (nat_lt n 40) (nat_lt n 80)

-- what is found as a name is one
pub name_found : (content numbers : List ℕ) → name_in content ≡ Some numbers → IsName content numbers
unfolding name_in
name_found content numbers e =
    (elim (group_at content) as (λ o. group_at content ≡ o → name_from o ≡ Some numbers → IsName content numbers) [
      | None ↦ λ none broken. absurd (none-some numbers broken)
      | Some group ↦ λ found these.
          let first = group_found content group.0 group.1 found in
          let most = length group.1 in
          (elim (groups_within most group.1) as (λ o. groups_within most group.1 ≡ o → extended (numbers_of (group.0 ∷ [])) o ≡ Some numbers → IsName content numbers) [
            | None ↦ λ none broken. absurd (none-some numbers broken)
            | Some others ↦ λ later all.
                let name = numbers_of (group.0 ∷ []) ++ others in
                let parts = cond_some (nat_le (length name) 128) name numbers all in
                record {
                  groups = group.0 ∷ others;
                  are_groups = (first.group, group.1, first.is_group, first.is, groups_found most group.1 others later);
                  some = omega arith;
                  is = sym parts.1 ∙ numbers_of-cons group.0 others;
                  few = subst (λ ns. length ns ≤ 128) parts.1 (leb-true (length name) 128 parts.0);
                }
          ]) refl these
    ]) refl e

-- a name is found
name_of_groups : (content numbers groups : List ℕ) → AreGroups content groups → 1 ≤ length groups → numbers ≡ numbers_of groups → length numbers ≤ 128 → name_in content ≡ Some numbers
unfolding name_in
name_of_groups content numbers [] are some is few = absurd (omega arith)
name_of_groups content numbers (n ∷ others) are some is few =
    let first : group_at content ≡ Some (n, are.1) = ap group_at are.3 ∙ group_finds are.0 n are.1 are.2 in
    let later : groups_within (length are.1) are.1 ≡ Some others = groups_find (length are.1) are.1 others (omega arith) are.4 in
    let all : numbers_of (n ∷ []) ++ others ≡ numbers = numbers_of-cons n others ∙ sym is in
    let fits : (nat_le (length numbers) 128) ≡ true = le-leb (length numbers) 128 few in
    let extends : extended (numbers_of (n ∷ [])) (Some others) ≡ Some numbers = rw (all, fits) refl in
    ap name_from first ∙ ap (extended (numbers_of (n ∷ []))) later ∙ extends

pub name_finds : (content numbers : List ℕ) → IsName content numbers → name_in content ≡ Some numbers
name_finds content numbers h = name_of_groups content numbers h.groups h.are_groups h.some h.is h.few
