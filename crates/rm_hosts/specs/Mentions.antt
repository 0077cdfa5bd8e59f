-- The hosts that frames mention, by their addresses.
use Rattle.std.specs.Prelude.{ℕ, ◌+◌, List, [], ◌∷◌, if◌then◌else◌, Option, Some, None}
use Rattle.rm_model.specs.Counting.{Counting}
use Rattle.rm_model.specs.Journal.{Journal}
use Rattle.rm_proto.specs.declared.known.Facts.{Facts}
use Rattle.rm_proto.specs.declared.ethernet.Pair.{Pair}
use Rattle.rm_acts.specs.Seen.{Seen}
use Rattle.rm_evicting.specs.Mention.{Mention, refers, strays}
use Rattle.rm_keyed.specs.Mentions.{mentions_since}
use Rattle.rm_sourced.specs.Sourcing.{seen_mentions}
use Rattle.rm_hosts.specs.declared.host_counts.HostCounts.{HostCounts}
use Rattle.rm_hosts.specs.Counts.{gain_in, gain_out}
use Rattle.rm_hosts.specs.Control.{host_control}

-- a host that is mentioned, by its address, and what its counts gain
abbrev pub HostMention : Type 0
HostMention = Mention (List ℕ) HostCounts

-- What a frame mentions, the newest first, by the stamp of its first reference and its tick: a good frame refers to its source, and then
-- to its destination; a bad one is a stray mention of its source; and one without addresses mentions none.
abbrev pub mentioned_by : (stamp tick : ℕ) → Facts → Option Pair → List HostMention
mentioned_by stamp tick facts None = []
mentioned_by stamp tick facts (Some pair) =
    if facts.good
    then refers pair.dest (stamp + 1) tick (gain_in facts) ∷ refers pair.source stamp tick (gain_out facts) ∷ []
    else strays pair.source (gain_out facts) ∷ []

-- by its facts alone, and of one that was seen
abbrev pub mentioned_in : (stamp tick : ℕ) → Facts → List HostMention
mentioned_in stamp tick facts = mentioned_by stamp tick facts facts.pair

abbrev pub mentioned : Counting → Seen → List HostMention
mentioned = seen_mentions mentioned_in

-- the mentions of a control row, the newest first: those of the frames of its data source, since it became valid
abbrev pub mentions_of : Counting → Journal → (row : ℕ) → List HostMention
mentions_of settings = mentions_since host_control (mentioned settings)
