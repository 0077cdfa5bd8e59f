use Rattle.std.proofs.Common.{◌-◌, ◌+◌, ◌++◌, arith}
use Rattle.rm_reply.specs.Answered.{IsNextBinding}
use Rattle.rm_reply.proofs.BulkLemmas.{next_one, repeat_more, repeat_ends, repeat_stops, repeat_done}
use Rattle.rm_reply.proofs.reply.repeat.Goals as goal

-- src/reply.rt:91:13
pub returns-in_default : goal.returns-in_default
returns-in_default g c settings journal stands later askable m list drafted_so =
    let cells = g.G.Group.cells settings journal c.args.now in
    let before = c.loop.invariant.0 settings journal stands later askable m list drafted_so in
    repeat_stops (IsNextBinding cells) (next_one cells) c.bindings_lengthen.ensures c.args.most c.args.names.now m list (c.args.most - c.loop.counter) (c.args.most - (c.loop.counter + 1))
    c.loop.names c.loop.draft c.put_repetition.new.draft (omega (arith, c.loop-test.true)) before
    (c.in_default.ensures.put settings journal stands later askable m (list ++ before.answers) before.is_drafted)

-- src/reply.rt:94:13
pub returns-then-is_end : goal.returns-then-is_end
returns-then-is_end g c settings journal stands later askable m list drafted_so =
    let cells = g.G.Group.cells settings journal c.args.now in
    let before = c.loop.invariant.0 settings journal stands later askable m list drafted_so in
    repeat_ends (IsNextBinding cells) c.args.most c.args.names.now m list (c.args.most - c.loop.counter) (c.args.most - (c.loop.counter + 1))
    c.loop.names c.put_repetition.new.names c.in-Ok.is_end c.loop.draft c.put_repetition.new.draft (omega (arith, c.loop-test.true)) before
    (c.in-Ok.ensures.put settings journal stands later askable m (list ++ before.answers) before.is_drafted) c.if-is_end.true

-- src/reply.rt:89:5
pub loop-preserved : goal.loop-preserved
loop-preserved g c = (
  λ settings journal stands later askable m list drafted_so.
      let cells = g.G.Group.cells settings journal c.args.now in
      let before = c.loop.invariant.0 settings journal stands later askable m list drafted_so in
      repeat_more (IsNextBinding cells) c.args.most c.args.names.now m list (c.args.most - c.loop.counter) (c.args.most - (c.loop.counter + 1))
      c.loop.names c.put_repetition.new.names c.in-Ok.is_end c.loop.draft c.put_repetition.new.draft (omega (arith, c.loop-test.true)) before
      (c.in-Ok.ensures.put settings journal stands later askable m (list ++ before.answers) before.is_drafted) c.if-is_end.false,
  c.in-Ok.ensures.spelling,
)

-- src/reply.rt:76:1
pub returns : goal.returns
returns g c settings journal stands later askable m list drafted_so =
    repeat_done (IsNextBinding (g.G.Group.cells settings journal c.args.now)) c.args.most c.args.names.now m list (c.args.most - c.loop.counter) c.loop.names c.loop.draft
    (omega (arith, c.loop-test.false)) (c.loop.invariant.0 settings journal stands later askable m list drafted_so)
