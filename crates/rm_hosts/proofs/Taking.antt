-- What a frame mentions.
use Rattle.std.proofs.Common.{◌≡◌, ℕ, ◌+◌, List, [], ◌∷◌, ◌++◌, Bool, true, false, cond, Some, Option, sym, ◌∙◌, ap}
use Rattle.rm_proto.specs.declared.known.Facts.{Facts}
use Rattle.rm_proto.specs.declared.ethernet.Pair.{Pair}
use Rattle.rm_evicting.specs.Mention.{refers, strays}
use Rattle.rm_hosts.specs.declared.host_counts.HostCounts.{HostCounts}
use Rattle.rm_hosts.specs.Counts.{gain_in, gain_out}
use Rattle.rm_hosts.specs.Mentions.{HostMention, mentioned_by, mentioned_in}

module _ (stamp tick : ℕ) (facts : Facts) (pair : Pair) (is : facts.pair ≡ Some pair) (mentions : List HostMention) where
  says : (good : Bool) → facts.good ≡ good → mentioned_in stamp tick facts ++ mentions ≡ cond good (refers pair.dest (stamp + 1) tick (gain_in facts) ∷ refers pair.source stamp tick (gain_out facts) ∷ []) (strays pair.source (gain_out facts) ∷ []) ++ mentions
  says good known =
      ap (λ (o : Option Pair). mentioned_by stamp tick facts o ++ mentions) is
      ∙ ap (λ t. cond t (refers pair.dest (stamp + 1) tick (gain_in facts) ∷ refers pair.source stamp tick (gain_out facts) ∷ []) (strays pair.source (gain_out facts) ∷ []) ++ mentions) known

  module _ (sent : HostCounts) (sends : sent ≡ gain_out facts) where
    pub good_taken : facts.good ≡ true → (received : HostCounts) → received ≡ gain_in facts
        → (refers pair.dest (stamp + 1) tick received ∷ refers pair.source stamp tick sent ∷ mentions) ≡ mentioned_in stamp tick facts ++ mentions
    good_taken good received gets =
        (λ d. refers pair.dest (stamp + 1) tick (gets d) ∷ refers pair.source stamp tick (sends d) ∷ mentions) ∙ sym (says true good)

    pub bad_taken : facts.good ≡ false → (strays pair.source sent ∷ mentions) ≡ mentioned_in stamp tick facts ++ mentions
    bad_taken bad = (λ d. strays pair.source (sends d) ∷ mentions) ∙ sym (says false bad)
