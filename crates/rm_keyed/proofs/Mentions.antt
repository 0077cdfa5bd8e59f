-- The mentions so far, and one more.
use Rattle.std.proofs.Common.{◌≡◌, ℕ, ◌<◌, ◌≤◌, ◌+◌, zero, suc, Bool, cond, List, [], ◌∷◌, refl, sym, ap, ◌∙◌, subst, arith}
use Rattle.rm_evicting.specs.Mention.{Mention, refers, strays, keys}
use Rattle.rm_evicting.specs.Held.{IsExact, AllBefore, is_eviction, last_delete}
use Rattle.rm_evicting.specs.Row.{credited, touched, takes_place}
use Rattle.rm_evicting.specs.Stands.{IsTotal, IsMeaning, Stands}
use Rattle.rm_evicting.proofs.Steps.{stands-refers, stands-strays, stands_nothing}
use Rattle.rm_evicting.proofs.RankLemmas.{takes_place-is}
use Rattle.rm_rows.specs.Table.{Table}
use Rattle.rm_keyed.specs.Entered.{Entered, IsOf}
use Rattle.rm_keyed.proofs.EachRow.{strayed, referred}

module _ {K C : Type 0} where
  later : (one other : ℕ) → one ≤ other → (mentions : List (Mention K C)) → AllBefore one mentions → AllBefore other mentions
  later one other le [] a = tt
  later one other le (refers key stamp tick gain ∷ earlier) a = let before : stamp < one = a.0 in (omega arith, later one other le earlier a.1)
  later one other le (strays key gain ∷ earlier) a = later one other le earlier a

module _ {K V : Type 0} (eq : K → K → Bool) (exact : IsExact eq) (blank : V) (plus : V → V → V) where
  adds : IsMeaning (IsTotal blank plus) blank plus
  adds = record { nothing = refl; more = λ gains gain value means. ap (λ v. plus v gain) means }

  abbrev StandsIn : List (Mention K V) → Table K V → Type 0
  StandsIn mentions table = Stands eq (IsTotal blank plus) table.capacity mentions table.rows

  -- nothing was mentioned
  pub is_of-nothing : (entered : Entered K V) → entered.rows.rows ≡ [] → entered.last_delete ≡ 0 → IsOf eq blank plus [] entered
  is_of-nothing entered rows deletes = record {
    rows = subst (λ rows. Stands eq (IsTotal blank plus) entered.rows.capacity [] rows) (sym rows) (stands_nothing eq exact (IsTotal blank plus) blank plus adds entered.rows.capacity);
    deletes = deletes;
    rising = tt;
    before = tt;
  }

  module _ (mentions : List (Mention K V)) (old new : Entered K V) (is : IsOf eq blank plus mentions old) where
    -- and then a key strayed by
    pub is_of-strays : (key : K) (gain : V)
        → new.rows ≡ strayed eq blank plus key gain old.rows
        → new.last_delete ≡ old.last_delete → new.stamps ≡ old.stamps
        → IsOf eq blank plus (strays key gain ∷ mentions) new
    is_of-strays key gain rows deletes stamps = record {
      rows = subst (StandsIn (strays key gain ∷ mentions)) (sym rows) (stands-strays eq exact (IsTotal blank plus) blank plus adds old.rows.capacity key gain mentions old.rows.rows is.rows);
      deletes = deletes ∙ is.deletes ∙ ap (λ (table : Table K V). last_delete eq table.capacity mentions) (sym rows);
      rising = is.rising;
      before = subst (λ limit. AllBefore limit mentions) (sym stamps) is.before;
    }

    -- and then a key was referred to
    pub is_of-refers : (key : K) (stamp tick : ℕ) (gain : V) → 1 ≤ old.rows.capacity → old.stamps ≤ stamp
        → new.rows ≡ referred eq blank plus key stamp tick gain old.rows
        → new.last_delete ≡ cond (takes_place eq old.rows.capacity key old.rows.rows) tick old.last_delete
        → new.stamps ≡ stamp + 1
        → IsOf eq blank plus (refers key stamp tick gain ∷ mentions) new
    is_of-refers key stamp tick gain some above rows deletes stamps = record {
      rows = subst (StandsIn (refers key stamp tick gain ∷ mentions)) (sym rows) (stepped old.rows.capacity some is.rows);
      deletes = deletes
          ∙ ap (λ b. cond b tick old.last_delete) (takes_place-is eq exact (IsTotal blank plus) old.rows.capacity mentions old.rows.rows is.rows key)
          ∙ ap (cond (is_eviction eq old.rows.capacity key (keys mentions)) tick) is.deletes
          ∙ ap (λ (table : Table K V). last_delete eq table.capacity (refers key stamp tick gain ∷ mentions)) (sym rows);
      rising = (before, is.rising);
      before = (omega arith, later stamp new.stamps (omega arith) mentions before);
    }
      where
        before : AllBefore stamp mentions
        before = later old.stamps stamp above mentions is.before

        stepped : (capacity : ℕ) → 1 ≤ capacity → Stands eq (IsTotal blank plus) capacity mentions old.rows.rows
            → Stands eq (IsTotal blank plus) capacity (refers key stamp tick gain ∷ mentions) (credited eq plus key gain (touched eq blank capacity key stamp tick old.rows.rows))
        stepped zero some stands = absurd (omega arith)
        stepped (suc n) some stands = stands-refers eq exact (IsTotal blank plus) blank plus adds n key stamp tick gain mentions old.rows.rows stands before is.rising
