use Rattle.std.proofs.Common.{◌≡◌, ℕ, ◌+◌, Some, None, cond, refl, arith}
use Rattle.rm_status.specs.Rows.{row_in}
use Rattle.rm_ether.proofs.Begins.{begun_all, begun_more, is_one, row_at, stands_at_first}
use Rattle.rm_ether.proofs.ether.Ether.new.Goals.{else-loop-number-test, then-loop-number-test+else-number-interfaces}
use Rattle.rm_ether.proofs.ether.Ether.new.Goals as goal

-- the loop ends with no interface at all, or after the last one
pub returns-clause-stands : goal.returns-clause-stands
returns-clause-stands c settings so_many =
    let interfaces = c.args.interfaces in
    let number = c.loop-number.number in
    let all : (i : ℕ) → row_in c.loop-number-test.rows i ≡ cond (is_one interfaces i) (Some (row_at i)) None =
    elim c.loop-number-test.branch [
      | else-loop-number-test w ↦
          let past : number ≡ interfaces + 1 = omega (arith, w.loop-number-test.false, c.loop-number.invariant.within) in
          rw w.rows-is (begun_all interfaces number c.loop-number.rows past c.loop-number.invariant.begun)
      | then-loop-number-test+else-number-interfaces w ↦
          let last : number + 1 ≡ interfaces + 1 = omega (arith, w.loop-number-test.true) in
          let more = begun_more number _ _ c.loop-number.invariant.begun (λ i. rw w.of_monitor.ensures at (w.insert.ensures.rows i)) w.insert.ensures.one_more in
          rw w.rows-is (begun_all interfaces (number + 1) w.insert.new.self last more)
    ] in
    stands_at_first settings interfaces so_many c.loop-number-test.rows all _ refl
