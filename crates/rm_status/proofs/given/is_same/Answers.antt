use Rattle.std.proofs.Common.{◌≡◌, Bool, true, false, sym, ◌∙◌, ap, refl, bytes_eq}
use Rattle.std.specs.Ordering.{is_eq}
use Rattle.std.proofs.lemmas.Map.Text.{is_eq-slice_cmp}
use Rattle.std.proofs.lemmas.Slice.Eq.{bytes_eq-Decides}
use Rattle.rm_status.proofs.given.is_same.Goals as goal

pub returns-then-ends_alike : goal.returns-then-ends_alike
returns-then-ends_alike c = c.is_eq.ensures ∙ ap is_eq c.compare.ensures.value ∙ is_eq-slice_cmp c.args.name.now c.args.other.now

pub returns-else-ends_alike : goal.returns-else-ends_alike
returns-else-ends_alike c =
    c.if-ends_alike.false ∙ elim (bytes_eq c.args.name.now c.args.other.now) as (λ b. bytes_eq c.args.name.now c.args.other.now ≡ b → false ≡ b) [
      | true ↦ λ same. sym c.if-ends_alike.false ∙ c.ends_alike.ensures ((bytes_eq-Decides c.args.name.now c.args.other.now).0 same)
      | false ↦ λ _. refl
    ] refl
