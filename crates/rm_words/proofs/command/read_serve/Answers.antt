use Rattle.rm_words.proofs.CaptureLemmas.{serve_without_captures, serve_without_options}
use Rattle.rm_words.proofs.command.read_serve.Goals as goal

pub returns-in_err-captures : goal.returns-in_err-captures
returns-in_err-captures c =
    rw c.from_residual-in_err-captures.ensures
    (serve_without_captures _ c.in_ok-capture.capture.now c.in_ok-capture.port_text.now c.in_ok-capture.count_text.now c.in_ok-capture.ensures c.in_err-captures.ensures)

pub returns-in_err-options : goal.returns-in_err-options
returns-in_err-options c = rw c.from_residual-in_err-options.ensures (serve_without_options _ c.in_err-options.ensures.read)
