use Rattle.std.proofs.Common.{ℕ, List, arith}
use Rattle.std.proofs.lemmas.Result.{err_from_is_err_and}
use Rattle.rm_agent.specs.Groups.{cells}
use Rattle.rm_model.specs.Journal.{Journal}
use Rattle.rm_probe.specs.Probe.{settings_of}
use Rattle.rm_summary.specs.Text.{line}
use Rattle.rm_summary.proofs.WriteLemmas.{adds_none}
use Rattle.rm_load.specs.declared.figure.Figure.{Figure}
use Rattle.rm_load.specs.Text.{figure_in, word_of}
use Rattle.rm_load.proofs.LineLemmas.{next_at, front_at}
use Rattle.rm_load.proofs.writing.write_figures.Goals as goal

pub loop-figure-init : goal.loop-figure-init
loop-figure-init g c = record { octets = λ journal stands. adds_none (g.K.Sink.content c.args.out.now); later = omega arith }

pub loop-figure-preserved : goal.loop-figure-preserved
loop-figure-preserved g c =
    let i = c.loop-figure.invariant in
    let line_of : Journal → Figure → List ℕ = λ journal one. line (word_of one) (figure_in (cells (settings_of c.args.probe.now) journal c.args.moment) one) in
    record {
      octets = λ journal stands.
          next_at (line_of journal) c.args.figures.now c.loop-figure.figure-index c.loop-figure-test.true _ _ _ (i.octets journal stands) (c.in_ok-put_figure.ensures.text journal stands);
      later = omega (arith, i.later, c.in_ok-put_figure.ensures.cause.later);
    }

pub returns-in_err-put_figure-clause-text : goal.returns-in_err-put_figure-clause-text
returns-in_err-put_figure-clause-text g c journal stands =
    let line_of : Figure → List ℕ = λ one. line (word_of one) (figure_in (cells (settings_of c.args.probe.now) journal c.args.moment) one) in
    let p = err_from_is_err_and c.from_residual.result c.from_residual.ensures.1 in
    rw p.1 (front_at line_of c.args.figures.now c.loop-figure.figure-index c.loop-figure-test.true _ _ _ (c.loop-figure.invariant.octets journal stands) (c.in_err-put_figure.ensures.text journal stands))
