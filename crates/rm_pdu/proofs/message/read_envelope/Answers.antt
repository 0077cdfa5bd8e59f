use Rattle.std.proofs.Common.{◌≡◌, ℤ, pos, refl, sym, ◌∙◌, subst}
use Rattle.std.specs.Int.{w32}
use Rattle.std.proofs.lemmas.Int.{to_z-of_z}
use Rattle.rm_val.specs.Val.{int}
use Rattle.rm_ber.specs.Grammar.{ValueFirst}
use Rattle.rm_pdu.specs.Parse.{version, community, pdu}
use Rattle.rm_pdu.proofs.Steps.{breaks, moves, not_ok, not_both, no_version, no_community}
use Rattle.rm_pdu.proofs.message.read_envelope.Goals as goal

pub returns-in_err-version-clause-part : goal.returns-in_err-version-clause-part
returns-in_err-version-clause-part c = λ requests bytes outer at.
    breaks c.from_residual.result _ c.from_residual.ensures.1 c.in_err-version.ensures.place (no_version requests bytes outer c.args.content.now at (λ z rest first. not_both c.int.result c.in_err-version.field-0.0 z c.in_err-version.was (c.int.ensures.exact z rest first).0))

pub returns-in_err-community-clause-part : goal.returns-in_err-community-clause-part
returns-in_err-community-clause-part c = λ requests bytes outer at.
    let one : c.in_ok-version.version ≡ pos 1 = sym (to_z-of_z w32 c.in_ok-version.version c.in_ok-version.ensures.found.is_value.1.fits) ∙ c.is_read_version.ensures.0 cc in
    let first : ValueFirst (int (pos 1)) c.int.new.self.left c.args.content.now.left = subst (λ (z : ℤ). ValueFirst (int z) c.int.new.self.left c.args.content.now.left) one c.in_ok-version.ensures.found in
    let moved = moves requests bytes version community outer c.args.content.now c.int.new.self at (c.int.new.self.left, first, refl) c.in_ok-version.ensures.end in
    breaks c.from_residual-in_err-community.result _ c.from_residual-in_err-community.ensures.1 c.in_err-community.ensures.place (no_community requests bytes outer c.int.new.self moved (λ text rest stands. not_ok c.octets.result c.in_err-community.field-0.0 (λ found. found.now ≡ text) c.in_err-community.was (c.octets.ensures.exact text rest stands).0))

pub returns-clause-part : goal.returns-clause-part
returns-clause-part c = λ requests bytes outer at.
    let one : c.in_ok-version.version ≡ pos 1 = sym (to_z-of_z w32 c.in_ok-version.version c.in_ok-version.ensures.found.is_value.1.fits) ∙ c.is_read_version.ensures.0 cc in
    let first : ValueFirst (int (pos 1)) c.int.new.self.left c.args.content.now.left = subst (λ (z : ℤ). ValueFirst (int z) c.int.new.self.left c.args.content.now.left) one c.in_ok-version.ensures.found in
    let moved = moves requests bytes version community outer c.args.content.now c.int.new.self at (c.int.new.self.left, first, refl) c.in_ok-version.ensures.end in (
      moves requests bytes community pdu outer c.int.new.self c.octets.new.self moved (c.in_ok-community.community.now, c.octets.new.self.left, c.in_ok-community.ensures.found, refl) c.in_ok-community.ensures.end,
      (c.int.new.self.left, first, c.in_ok-community.ensures.found),
    )
