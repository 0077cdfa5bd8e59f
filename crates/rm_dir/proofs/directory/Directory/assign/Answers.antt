use Rattle.std.proofs.Common.{◌≡◌, ◌+◌, ◌-◌, ◌^◌, ◌||◌, nat_lt, cond, ◌∙◌, ap, arith}
use Rattle.rm_model.specs.Judgement.{count_below}
use Rattle.rm_status.proofs.Puts.{all_fine}
use Rattle.rm_dir.specs.ProtocolDir.{protocol_dir}
use Rattle.rm_dir.specs.Settling.{is_fresh_in, is_changed_in}
use Rattle.rm_dir.proofs.Settled.{asked_count, numbered_then, noted_then, rows_then, given_then, locals_then, changed_then}
use Rattle.rm_dir.proofs.directory.Directory.assign.Goals as goal

-- as many local indexes are needed as there are rows to be made
pub settle-settled-requires : goal.settle-settled-requires
settle-settled-requires g c =
    let asked = asked_count (g.A.Assigns.bindings c.args.set.now) c.args.self.now.rows c.commit.new.self c.len-before.ensures.rows c.len.ensures.rows c.commit.ensures c.args.self.now.numbered in
    let enough = c.requires.indexes in
    omega (arith, asked, enough)

pub invariant_of-self : goal.invariant_of-self
invariant_of-self g c =
    let bs = g.A.Assigns.bindings c.args.set.now in
    let asked = asked_count bs c.args.self.now.rows c.commit.new.self c.len-before.ensures.rows c.len.ensures.rows c.commit.ensures c.args.self.now.numbered in
    let enough = c.requires.indexes in
    let given = c.settle-settled.ensures.given in
    record {
      numbered = numbered_then bs c.args.self.now.rows c.commit.new.self c.settle-settled.new.rows c.args.self.now.given c.len-before.ensures.rows c.len.ensures.rows c.commit.ensures c.settle-settled.ensures.rows c.args.self.now.numbered (omega (arith, asked, enough));
      noted = noted_then bs c.args.self.now.rows c.commit.new.self c.settle-settled.new.rows c.args.self.now.given c.len-before.ensures.rows c.len.ensures.rows c.commit.ensures c.settle-settled.ensures.rows c.args.self.now.numbered;
      few = omega (arith, asked, enough, given);
      active = c.follow.ensures.active;
      apart = c.follow.ensures.apart;
    }

pub returns-clause-stands : goal.returns-clause-stands
returns-clause-stands g c journal values stands gives =
    let bs = g.A.Assigns.bindings c.args.set.now in
    let fine = all_fine protocol_dir bs c.requires.fine.alone in
    let given = c.settle-settled.ensures.given in
    let made : c.settle-settled.result.given - c.args.self.now.given ≡ count_below (is_fresh_in c.commit.new.self) (2 ^ 32) = omega (arith, given) in
    let changed =
    changed_then bs c.args.self.now.rows c.commit.new.self c.settle-settled.new.rows c.args.self.now.given c.len-before.ensures.rows c.len.ensures.rows c.commit.ensures c.settle-settled.ensures.rows c.args.self.now.numbered
    journal c.args.now values gives fine stands.rows c.args.self.now.noted stands.locals stands.given c.len-before.result c.len-after.result c.len-before.ensures.counted c.len-after.ensures.counted c.args.self.now.changed stands.changed
    in
    record {
      rows = rows_then bs c.args.self.now.rows c.commit.new.self c.settle-settled.new.rows c.args.self.now.given c.len-before.ensures.rows c.len.ensures.rows c.commit.ensures c.settle-settled.ensures.rows c.args.self.now.numbered journal c.args.now values gives fine stands.rows c.args.self.now.noted stands.locals stands.given;
      locals = locals_then bs c.args.self.now.rows c.commit.new.self c.settle-settled.new.rows c.args.self.now.given c.len-before.ensures.rows c.len.ensures.rows c.commit.ensures c.settle-settled.ensures.rows c.args.self.now.numbered journal c.args.now values gives fine stands.rows c.args.self.now.noted stands.locals stands.given;
      given = given ∙ given_then bs c.args.self.now.rows c.commit.new.self c.settle-settled.new.rows c.args.self.now.given c.len-before.ensures.rows c.len.ensures.rows c.commit.ensures c.settle-settled.ensures.rows c.args.self.now.numbered journal c.args.now values gives fine stands.rows c.args.self.now.noted stands.locals stands.given;
      changed =
          c.change_of-self.ensures
          ∙ ap (λ b. cond (b || nat_lt c.len-after.result (c.len-before.result + (c.settle-settled.result.given - c.args.self.now.given))) c.args.now c.args.self.now.changed) c.settle-settled.ensures.changed
          ∙ ap (λ k. cond (nat_lt 0 (count_below (is_changed_in c.commit.new.self) (2 ^ 32)) || nat_lt c.len-after.result (c.len-before.result + k)) c.args.now c.args.self.now.changed) made
          ∙ changed;
    }
