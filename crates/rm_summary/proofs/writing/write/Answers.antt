use Rattle.std.proofs.Common.{ℕ, List, ap, ◌∙◌}
use Rattle.std.proofs.lemmas.Result.{err_from_is_err_and}
use Rattle.rm_summary.specs.declared.figure.Figure.TheVariants.{Frames}
use Rattle.rm_summary.specs.Text.{figure_lines, figures, line}
use Rattle.rm_summary.specs.Counted.{ending_word, figure_in}
use Rattle.rm_summary.proofs.WriteLemmas.{front_more, puts_then}
use Rattle.rm_summary.proofs.writing.write.Goals as goal

pub returns-in_err-write_figures-clause-text : goal.returns-in_err-write_figures-clause-text
returns-in_err-write_figures-clause-text g c =
    let counts = c.args.summary.now.counts in
    let p = err_from_is_err_and c.from_residual.result c.from_residual.ensures.1 in
    rw p.1 (front_more _ _ (figure_lines (figure_in counts) figures) (line (ending_word c.args.summary.now.ending) (figure_in counts Frames)) c.in_err-write_figures.ensures.text)

pub returns-clause-text : goal.returns-clause-text
returns-clause-text g c =
    let counts = c.args.summary.now.counts in
    puts_then _ _ _ (figure_lines (figure_in counts) figures) (line (ending_word c.args.summary.now.ending) (figure_in counts Frames)) c.deref.result.now c.put.result
    (c.deref.ensures.0 ∙ c.line.ensures ∙ ap (λ (word : List ℕ). line word c.figure.result) c.word.ensures ∙ ap (line (ending_word c.args.summary.now.ending)) c.figure.ensures)
    c.in_ok-write_figures.ensures.text c.put.ensures.octets
