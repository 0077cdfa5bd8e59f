use Rattle.rm_pcap.proofs.HeadingLemmas.{record_said, none_said, follows_said}
use Rattle.rm_pcap.proofs.position.Position.record.Goals as goal

pub returns-in-Some-clause-numbers : goal.returns-in-Some-clause-numbers
returns-in-Some-clause-numbers c = λ octets is.
    rw c.from.ensures (record_said c.args.self.form c.args.self.start c.args.self.reach octets c.args.heading c.in-Some.last is c.in-Some.is)

pub returns-in-Some-clause-follows : goal.returns-in-Some-clause-follows
returns-in-Some-clause-follows c = λ octets is.
    rw c.from.ensures (follows_said c.args.self.form c.args.self.start c.args.self.reach octets c.args.heading c.in-Some.last is c.in-Some.is c.requires.sound)

pub returns-in-None-clause-numbers : goal.returns-in-None-clause-numbers
returns-in-None-clause-numbers c = λ octets is.
    none_said c.args.self.form c.args.self.start c.args.self.reach octets c.args.heading is c.in-None.is
