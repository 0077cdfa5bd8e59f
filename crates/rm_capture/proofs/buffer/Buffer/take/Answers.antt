use Rattle.std.proofs.Common.{◌≡◌, ◌∷◌, true, cond, refl, sym, ◌∙◌, subst, arith}
use Rattle.rm_capture.specs.Captured.{HasKept}
use Rattle.rm_capture.specs.Taking.{is_on_among}
use Rattle.rm_capture.proofs.buffer.Buffer.take.Goals as goal

pub returns-then-is_on : goal.returns-then-is_on
returns-then-is_on c =
    let on : is_on_among c.args.judged.now c.args.self.now.channel ≡ true = sym c.is_on.ensures ∙ c.if-is_on.true in
    record {
      channel = refl;
      granted = refl;
      started = refl;
      accepted = omega (arith, c.accept.ensures.accepted);
      kept = λ settings is_wrap size granted earlier frame of has.
          subst (λ t. HasKept c.accept.new.self settings is_wrap size granted (cond t (frame ∷ earlier) earlier)) (sym on) (c.accept.ensures.kept settings is_wrap size granted earlier frame of has);
    }
