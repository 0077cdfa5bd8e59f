use Rattle.rm_words.proofs.CaptureLemmas.{replay_without_captures, replay_without_options}
use Rattle.rm_words.proofs.command.read_replay.Goals as goal

pub returns-in_err-captures : goal.returns-in_err-captures
returns-in_err-captures c =
    rw c.from_residual-in_err-captures.ensures (replay_without_captures _ c.in_ok-capture.capture.now c.in_ok-capture.requests.now c.in_ok-capture.ensures c.in_err-captures.ensures)

pub returns-in_err-options : goal.returns-in_err-options
returns-in_err-options c = rw c.from_residual-in_err-options.ensures (replay_without_options _ c.in_err-options.ensures.read)
