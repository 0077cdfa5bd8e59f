use Rattle.std.proofs.Common.{ℕ, ◌+◌, refl, ap, ◌∙◌}
use Rattle.rm_summary.specs.Counted.{one_if}
use Rattle.rm_summary.proofs.CountLemmas.{octet_is}
use Rattle.rm_summary.proofs.counts.Counts.with.Goals as goal

pub returns : goal.returns
returns c = record {
  frames = refl;
  octets = ap (λ (n : ℕ). c.args.self.now.octets + n) c.from.ensures;
  good = ap (λ (n : ℕ). c.args.self.now.good + n) (c.from-2.ensures ∙ octet_is _);
  undersize = ap (λ (n : ℕ). c.args.self.now.undersize + n) (c.from-3.ensures ∙ octet_is _);
  oversize = ap (λ (n : ℕ). c.args.self.now.oversize + n) (c.from-4.ensures ∙ octet_is _);
  broadcast = ap (λ (n : ℕ). c.args.self.now.broadcast + n) (c.from-5.ensures ∙ octet_is _ ∙ ap one_if c.is_broadcast.ensures);
  multicast = ap (λ (n : ℕ). c.args.self.now.multicast + n) (c.from-6.ensures ∙ octet_is _ ∙ ap one_if c.is_multicast.ensures);
  ip = ap (λ (n : ℕ). c.args.self.now.ip + n) (c.from-7.ensures ∙ octet_is _ ∙ ap one_if c.is_some.ensures);
  first = c.first_with.ensures;
  last = refl;
}
