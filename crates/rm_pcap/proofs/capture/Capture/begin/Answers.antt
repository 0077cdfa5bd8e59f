use Rattle.std.proofs.Common.{◌∙◌, sym}
use Rattle.std.proofs.lemmas.Result.{err_from_is_err_and}
use Rattle.rm_pcap.proofs.CaptureLemmas.{begins_not, header_read}
use Rattle.rm_pcap.specs.View.{progress_of}
use Rattle.rm_pcap.proofs.capture.Capture.begin.Goals as goal

pub returns-in_err-form-clause-header : goal.returns-in_err-form-clause-header
returns-in_err-form-clause-header g c = λ bytes is.
    let p = err_from_is_err_and c.from_residual.result c.from_residual.ensures.1 in
    rw (p.1, p.2)
    (begins_not bytes c.in_err-form.field-0.0 c.in_err-form.ensures.kinds
    (sym (header_read bytes c.fill.new.into c.in-Ok.count c.fill.auto.into (c.in-Ok.ensures.octets bytes is)) ∙ sym c.in_err-form.ensures.judged))

pub returns-clause-header : goal.returns-clause-header
unfolding progress_of
returns-clause-header g c = λ bytes is.
    sym (header_read bytes c.fill.new.into c.in-Ok.count c.fill.auto.into (c.in-Ok.ensures.octets bytes is)) ∙ sym c.in_ok-form.ensures.judged
