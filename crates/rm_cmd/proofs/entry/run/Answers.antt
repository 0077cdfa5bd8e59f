use Rattle.std.proofs.Common.{◌≡◌}
use Rattle.rm_edge.proofs.Keeping.{keeps_more}
use Rattle.rm_edge.specs.Uses.{clock_use, file_use, link_use, sink_use}
use Rattle.rm_words.specs.Grammar.{replay, serve, summary, decode, load}
use Rattle.rm_words.specs.Told.{command_of}
use Rattle.rm_probe.specs.declared.status.Status.TheVariants.{ReadFault}
use Rattle.rm_cmd.specs.Commands.{Does, IsFileOf}
use Rattle.rm_cmd.proofs.CommandLemmas.{of_each, done_or_none, loaded_or_none}
use Rattle.rm_cmd.proofs.entry.run.Goals as goal

pub returns-in-Some : goal.returns-in-Some
returns-in-Some g c =
    let does = of_each c.one_command.ensures c.args.words.now (command_of c.in-Some.command)
    (Does (file_use g.F.Shelf.held g.F.Shelf.faults c.args.shelf.now c.run_command.new.shelf) (sink_use g.K.Sink.content g.K.Sink.faults c.args.out.now c.run_command.new.out)
    (link_use g.L.Link.bound g.L.Link.received g.L.Link.sent g.L.Link.faults c.args.link.now c.run_command.new.link)
    (clock_use g.T.Clock.told c.args.clock.now c.run_command.new.clock) c.run_command.result)
    c.in-Some.ensures c.run_command.ensures.does in
    record {
      usage = ((λ e. absurd (c.run_command.ensures.command e)), (λ none. absurd (none _ c.in-Some.ensures)));
      ends = λ captures requests options is. (does (replay captures requests options) is).0;
      exact = λ captures requests options is. (does (replay captures requests options) is).1;
      complete = λ captures requests options is. (does (replay captures requests options) is).2;
      serves = λ captures port count trap_port options is. (does (serve captures port count trap_port options) is).0;
      serves_exactly = λ captures port count trap_port options is. (does (serve captures port count trap_port options) is).1;
      sums_up = λ capture lead keep_short is. does (summary capture lead keep_short) is;
      decodes = λ hex is. does (decode hex) is;
      decodes_whole = λ hex is. let (octets, same, how) = does (decode hex) is in (octets, same, done_or_none octets _ _ _ _ c.run_command.result how);
      loads = λ start count options is. does (load start count options) is;
      loads_whole = λ start count options is. loaded_or_none options start count _ c.run_command.result (does (load start count options) is);
      silent = c.run_command.ensures.silent;
      shelf = keeps_more g.F.Shelf.held g.F.Shelf.faults c.args.shelf.now c.run_command.new.shelf _ (IsFileOf c.args.words.now) _ (c.run_command.result ≡ ReadFault) c.run_command.ensures.shelf
          (λ each is. (_, c.in-Some.ensures, is)) (λ e. e);
      later = c.run_command.ensures.later;
      without_port = λ none. c.run_command.ensures.without_port (λ has. none (_, c.in-Some.ensures, has));
      link_fault = λ e. let (has, rose) = c.run_command.ensures.link_fault e in ((_, c.in-Some.ensures, has), rose);
    }
