use Rattle.std.proofs.Common.{◌≡◌, ℕ, List, ap, subst, ◌∙◌}
use Rattle.rm_agent.specs.Groups.{cells}
use Rattle.rm_edge.specs.Outside.{Puts}
use Rattle.rm_probe.specs.Probe.{settings_of}
use Rattle.rm_summary.specs.Text.{line}
use Rattle.rm_load.specs.Text.{figure_in, number_shown, word_of}
use Rattle.rm_load.proofs.writing.put_figure.Goals as goal

pub returns-clause-text : goal.returns-clause-text
returns-clause-text g c journal stands =
    let values = cells (settings_of c.args.probe.now) journal c.args.moment in
    let number : c.number_shown-number.result ≡ figure_in values c.args.figure = c.number_shown-number.ensures ∙ ap number_shown (c.cell.ensures journal stands ∙ ap values c.variable.ensures) in
    let is : c.deref.result.now ≡ line (word_of c.args.figure) (figure_in values c.args.figure) =
    c.deref.ensures.0 ∙ c.line.ensures ∙ ap (λ (word : List ℕ). line word c.from.result) c.word.ensures.is ∙ ap (line (word_of c.args.figure)) (c.from.ensures ∙ number) in
    subst (λ (piece : List ℕ). Puts (g.K.Sink.content c.args.out.now) (g.K.Sink.content c.put.new.self) piece c.put.result) is c.put.ensures.octets
