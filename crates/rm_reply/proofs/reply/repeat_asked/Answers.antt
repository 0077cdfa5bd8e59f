use Rattle.std.proofs.Common.{drop}
use Rattle.rm_reply.specs.Replies.{names_of}
use Rattle.rm_reply.specs.Answered.{IsNextBinding}
use Rattle.rm_reply.proofs.ReplyLemmas.{put_so_many}
use Rattle.rm_reply.proofs.reply.repeat_asked.Goals as goal

pub returns-then-count-le-FEW_NAMES : goal.returns-then-count-le-FEW_NAMES
returns-then-count-le-FEW_NAMES g c settings journal stands later askable m list asked drafted_so =
    put_so_many (IsNextBinding (g.G.Group.cells settings journal c.args.now)) (drop c.args.from (names_of m.bindings)) c.repetitions-most.result m list c.repeat_listed.new.draft (c.repetitions-most.ensures m asked)
    (c.repeat_listed.ensures settings journal stands later askable m list asked drafted_so)

pub returns-then-count-le-SOME_NAMES : goal.returns-then-count-le-SOME_NAMES
returns-then-count-le-SOME_NAMES g c settings journal stands later askable m list asked drafted_so =
    put_so_many (IsNextBinding (g.G.Group.cells settings journal c.args.now)) (drop c.args.from (names_of m.bindings)) c.repetitions-most.result m list c.repeat_listed-then-count-le-SOME_NAMES.new.draft (c.repetitions-most.ensures m asked)
    (c.repeat_listed-then-count-le-SOME_NAMES.ensures settings journal stands later askable m list asked drafted_so)

pub returns : goal.returns
returns g c settings journal stands later askable m list asked drafted_so =
    put_so_many (IsNextBinding (g.G.Group.cells settings journal c.args.now)) (drop c.args.from (names_of m.bindings)) c.repetitions-most.result m list c.repeat_listed-2.new.draft (c.repetitions-most.ensures m asked)
    (c.repeat_listed-2.ensures settings journal stands later askable m list asked drafted_so)
