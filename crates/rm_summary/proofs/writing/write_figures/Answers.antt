use Rattle.std.proofs.Common.{◌≡◌, get_or, ℕ, List, ap, ◌∙◌}
use Rattle.std.proofs.lemmas.Result.{err_from_is_err_and}
use Rattle.rm_summary.specs.declared.figure.Figure.TheVariants.{Frames}
use Rattle.rm_summary.specs.Text.{line, word_of}
use Rattle.rm_summary.specs.Counted.{figure_in}
use Rattle.rm_summary.proofs.WriteLemmas.{front_at}
use Rattle.rm_summary.proofs.writing.write_figures.Goals as goal

pub returns-in_err-put-clause-text : goal.returns-in_err-put-clause-text
returns-in_err-put-clause-text g c =
    let i = c.loop-figure.invariant in
    let p = err_from_is_err_and c.from_residual.result c.from_residual.ensures.1 in
    let at = get_or c.args.figures.now c.loop-figure.figure-index Frames in
    let is : c.deref.result.now ≡ line (word_of at) (figure_in c.args.counts.now at) = c.deref.ensures.0 ∙ c.line.ensures ∙ ap (λ (word : List ℕ). line word c.figure.result) c.word.ensures.is ∙ ap (line _) c.figure.ensures in
    rw p.1 (front_at (figure_in c.args.counts.now) c.args.figures.now c.loop-figure.figure-index _ _ _ _ c.loop-figure-test.true is i.octets c.in_err-put.ensures.octets)
