-- The agent's groups may be asked at a moment where those may that collect what frames bring: nothing of the others ends by itself.
use Rattle.std.proofs.Common.{◌≡◌, ℕ, sym, subst}
use Rattle.rm_collectors.specs.Group.{IsAskable}
use Rattle.rm_collectors.specs.declared.collectors.Collectors.{Collectors}
use Rattle.rm_agent.specs.Members.{Groups, all_groups, collectors_of, sources}

pub sources_askable : (keeps : Groups) (moment : ℕ) → all_groups.askable keeps moment → sources.askable keeps.second.second.first moment
sources_askable keeps moment asked = asked.1.1.0

pub by_collectors : (keeps : Groups) (moment : ℕ) → IsAskable (collectors_of keeps) moment → all_groups.askable keeps moment
by_collectors keeps moment asked = (tt, (tt, (((tt, asked), (tt, (tt, tt))), tt)))

-- so they may be while these stay the same
pub still_askable : (keeps then : Groups) (moment : ℕ) → collectors_of then ≡ collectors_of keeps → all_groups.askable keeps moment → all_groups.askable then moment
still_askable keeps then moment same asked = by_collectors then moment (subst (λ (held : Collectors). IsAskable held moment) (sym same) asked.1.1.0.0.1)
