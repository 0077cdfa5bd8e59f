-- What a frame mentions.
use Rattle.std.proofs.Common.{◌≡◌, ℕ, List, [], ◌∷◌, ◌++◌, Bool, true, false, cond, Some, Option, sym, ◌∙◌, ap}
use Rattle.rm_proto.specs.declared.known.Facts.{Facts}
use Rattle.rm_proto.specs.declared.ethernet.Pair.{Pair}
use Rattle.rm_evicting.specs.Mention.{refers, strays}
use Rattle.rm_keyed.specs.declared.address_pair.AddressPair.{AddressPair}
use Rattle.rm_keyed.specs.Addresses.{address_pair}
use Rattle.rm_matrix.specs.declared.pair_counts.PairCounts.{PairCounts}
use Rattle.rm_matrix.specs.Counts.{gain}
use Rattle.rm_matrix.specs.Mentions.{PairMention, mentioned_by, mentioned_in}

module _ (stamp tick : ℕ) (facts : Facts) (addresses : Pair) (is : facts.pair ≡ Some addresses)
    (pair : AddressPair) (made : pair ≡ address_pair addresses.source addresses.dest) (gained : PairCounts) (gains : gained ≡ gain facts) (mentions : List PairMention) where
  abbrev says : Bool → AddressPair → PairCounts → List PairMention
  says good pair gained = cond good (refers pair stamp tick gained ∷ []) (strays pair gained ∷ []) ++ mentions

  taken : (good : Bool) → facts.good ≡ good → says good pair gained ≡ mentioned_in stamp tick facts ++ mentions
  taken good known =
      (λ d. says (sym known d) (made d) (gains d))
      ∙ sym (ap (λ (o : Option Pair). mentioned_by stamp tick facts o ++ mentions) is)

  pub good_taken : facts.good ≡ true → (refers pair stamp tick gained ∷ mentions) ≡ mentioned_in stamp tick facts ++ mentions
  good_taken good = taken true good

  pub bad_taken : facts.good ≡ false → (strays pair gained ∷ mentions) ≡ mentioned_in stamp tick facts ++ mentions
  bad_taken bad = taken false bad
