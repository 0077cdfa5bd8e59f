use Rattle.std.proofs.Common.{◌≡◌}
use Rattle.rm_pdu.specs.Draft.{drafted}
use Rattle.rm_load.proofs.RequestLemmas.{front_request}
use Rattle.rm_load.proofs.requests.request.Given as goal

abbrev pub invariant-loop-table : goal.invariant-loop-table
invariant-loop-table l = l.draft ≡ drafted (front_request l.community l.id l.statuses l.table-index)
