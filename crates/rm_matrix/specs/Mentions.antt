-- The pairs of hosts that frames mention, the source of each first.
use Rattle.std.specs.Prelude.{ℕ, List, [], ◌∷◌, if◌then◌else◌, Option, Some, None}
use Rattle.rm_model.specs.Counting.{Counting}
use Rattle.rm_model.specs.Journal.{Journal}
use Rattle.rm_proto.specs.declared.known.Facts.{Facts}
use Rattle.rm_proto.specs.declared.ethernet.Pair.{Pair}
use Rattle.rm_evicting.specs.Mention.{Mention, refers, strays}
use Rattle.rm_keyed.specs.declared.address_pair.AddressPair.{AddressPair}
use Rattle.rm_keyed.specs.Addresses.{address_pair}
use Rattle.rm_keyed.specs.Mentions.{mentions_since}
use Rattle.rm_sourced.specs.Sourcing.{seen_mentions}
use Rattle.rm_matrix.specs.declared.pair_counts.PairCounts.{PairCounts}
use Rattle.rm_matrix.specs.Counts.{gain}
use Rattle.rm_matrix.specs.Control.{matrix_control}

-- a pair that is mentioned, and what its counts gain
abbrev pub PairMention : Type 0
PairMention = Mention AddressPair PairCounts

-- What a frame mentions, by the stamp of its reference and its tick: a good frame refers to the pair of its source and its destination; a
-- bad one is a stray mention of it; and one without addresses mentions none.
abbrev pub mentioned_by : (stamp tick : ℕ) → Facts → Option Pair → List PairMention
mentioned_by stamp tick facts None = []
mentioned_by stamp tick facts (Some pair) =
    if facts.good
    then refers (address_pair pair.source pair.dest) stamp tick (gain facts) ∷ []
    else strays (address_pair pair.source pair.dest) (gain facts) ∷ []

-- by its facts alone
abbrev pub mentioned_in : (stamp tick : ℕ) → Facts → List PairMention
mentioned_in stamp tick facts = mentioned_by stamp tick facts facts.pair

-- the mentions of a control row, the newest first: those of the frames of its data source, since it became valid
abbrev pub mentions_of : Counting → Journal → (row : ℕ) → List PairMention
mentions_of settings = mentions_since matrix_control (seen_mentions mentioned_in settings)
