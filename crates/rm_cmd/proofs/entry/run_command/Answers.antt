use Rattle.rm_words.specs.Told.{captures_of, options_of}
use Rattle.rm_cmd.proofs.CommandLemmas.{few_frames, many_replayed, many_served}
use Rattle.rm_cmd.proofs.entry.run_command.Goals as goal

pub run_replay-requires : goal.run_replay-requires
run_replay-requires g c =
    let (words, stands) = c.requires.stands in
    many_replayed words (captures_of c.in-Replay.captures) c.in-Replay.requests.now (options_of c.in-Replay.options) (rw c.in-Replay.is at stands)

pub run_serve-requires : goal.run_serve-requires
run_serve-requires g c =
    let (words, stands) = c.requires.stands in
    many_served words (captures_of c.in-Serve.captures) c.in-Serve.port c.in-Serve.count c.in-Serve.trap_port (options_of c.in-Serve.options) (rw c.in-Serve.is at stands)

pub run_load-requires : goal.run_load-requires
run_load-requires g c =
    let (words, stands) = c.requires.stands in
    few_frames words c.in-Load.start c.in-Load.count (options_of c.in-Load.options) (rw c.in-Load.is at stands)
