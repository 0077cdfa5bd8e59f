use Rattle.std.proofs.Common.{◌+◌, codes, ap, ◌∙◌}
use Rattle.std.proofs.lemmas.Result.{err_from_is_err_and}
use Rattle.rm_agent.specs.Groups.{cells}
use Rattle.rm_summary.specs.Text.{line}
use Rattle.rm_summary.proofs.WriteLemmas.{front_more, puts_then}
use Rattle.rm_load.specs.Acts.{acts_of}
use Rattle.rm_load.specs.Text.{figure_lines, figures}
use Rattle.rm_load.proofs.writing.write.Goals as goal

pub returns-in_err-write_figures-clause-text : goal.returns-in_err-write_figures-clause-text
returns-in_err-write_figures-clause-text g c settings start loaded =
    let p = err_from_is_err_and c.from_residual.result c.from_residual.ensures.1 in
    let put = c.in_err-write_figures.ensures.text (acts_of start c.args.count) loaded.stands in
    rw p.1 (front_more _ _ (figure_lines (cells settings (acts_of start c.args.count) (1001 + c.args.count)) figures) (line (codes "end") c.args.count) (rw (loaded.set_to, c.moment_behind.ensures) at put))

pub returns-clause-text : goal.returns-clause-text
returns-clause-text g c settings start loaded =
    let put = c.in_ok-write_figures.ensures.text (acts_of start c.args.count) loaded.stands in
    puts_then _ _ _ (figure_lines (cells settings (acts_of start c.args.count) (1001 + c.args.count)) figures) (line (codes "end") c.args.count) c.deref.result.now c.put.result
    (c.deref.ensures.0 ∙ c.line.ensures ∙ ap (line (codes "end")) c.from.ensures) (rw (loaded.set_to, c.moment_behind.ensures) at put) c.put.ensures.octets
