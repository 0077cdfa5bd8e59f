use Rattle.std.proofs.Common.{◌≡◌, List, ℕ, length}
use Rattle.rm_ber.proofs.CanonicalGroups.{HasGroups}
use Rattle.rm_ber.proofs.sizes.name_content_size.Given as goal

-- the octets of the groups of the numbers so far
abbrev pub invariant-loop-place : goal.invariant-loop-place
invariant-loop-place l = (content : List ℕ) × HasGroups l.name l.place content × (l.size ≡ length content)
