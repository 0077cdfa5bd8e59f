-- Where messages go.
use Rattle.std.proofs.Common.{◌≡◌, List, [], ◌∷◌, ap, ◌∙◌}
use Rattle.rm_edge.specs.declared.outside.link.Peer.{Peer}
use Rattle.rm_probe.specs.declared.post.Addressee.{Addressee}
use Rattle.rm_probe.specs.declared.post.Addressee.TheVariants.{Manager, Asking}

-- the one peer to which what goes to an addressee is sent
abbrev pub addressed : Peer → Peer → Addressee → List Peer
addressed manager peer Manager = manager ∷ []
addressed manager peer Asking = peer ∷ []

pub same_peers : (m p n q : Peer) → n ≡ m → q ≡ p → addressed n q ≡ addressed m p
same_peers m p n q first second = ap (λ (r : Peer). addressed r q) first ∙ ap (λ (r : Peer). addressed m r) second
