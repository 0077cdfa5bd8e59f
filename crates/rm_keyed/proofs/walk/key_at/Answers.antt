use Rattle.std.proofs.Common.{sym, ap, ◌∙◌, drop}
use Rattle.std.specs.Ordering.{is_eq}
use Rattle.rm_keyed.specs.Indexes.{key_with}
use Rattle.rm_keyed.proofs.IndexLemmas.{from_rises, is_none, none_from, other_from, key_is, same_numbers}
use Rattle.rm_keyed.proofs.walk.key_at.Goals as goal

pub least-requires : goal.least-requires
least-requires g c = record { upward = from_rises g.K.Ord.cmp g.K.Indexed.index g.met.K.Indexed.rises (drop c.args.from c.args.numbers.now) }

pub returns-in_err-key : goal.returns-in_err-key
returns-in_err-key g c =
    rw c.from_residual.ensures (is_none (key_with g.K.Indexed.index (g.O.KeyOrder.keys c.args.keys.now) (drop c.args.from c.args.numbers.now))
    (none_from g.K.Ord.cmp g.met.K.Ord.total g.met.K.Key.exact g.K.Indexed.index g.met.K.Indexed.rises (g.O.KeyOrder.keys c.args.keys.now) (drop c.args.from c.args.numbers.now) c.in_err-key.ensures))

pub returns-then-is_eq : goal.returns-then-is_eq
returns-then-is_eq g c =
    key_is g.K.Ord.cmp g.met.K.Ord.total g.met.K.Key.exact g.K.Indexed.index g.met.K.Indexed.rises (g.O.KeyOrder.keys c.args.keys.now) (drop c.args.from c.args.numbers.now) c.in_ok-key.key.now c.in_ok-key.ensures.0
    (same_numbers (g.K.Indexed.index c.in_ok-key.key.now) (drop c.args.from c.args.numbers.now) (ap is_eq (sym c.compare_index.ensures) ∙ sym c.is_eq.ensures ∙ c.if-is_eq.true))

pub returns-else-is_eq : goal.returns-else-is_eq
returns-else-is_eq g c =
    is_none (key_with g.K.Indexed.index (g.O.KeyOrder.keys c.args.keys.now) (drop c.args.from c.args.numbers.now))
    (other_from g.K.Ord.cmp g.met.K.Ord.total g.met.K.Key.exact g.K.Indexed.index g.met.K.Indexed.rises (g.O.KeyOrder.keys c.args.keys.now) (drop c.args.from c.args.numbers.now) c.in_ok-key.key.now c.in_ok-key.ensures
    (ap is_eq (sym c.compare_index.ensures) ∙ sym c.is_eq.ensures ∙ c.if-is_eq.false))
