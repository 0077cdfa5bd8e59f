use Rattle.std.proofs.Common.{take, flat_map}
use Rattle.rm_decode.specs.Text.{binding_line, message_line}
use Rattle.rm_decode.proofs.LineLemmas.{appended_behind}
use Rattle.rm_decode.proofs.writing.push_message.Goals as goal

pub returns : goal.returns
returns c = λ m told.
    appended_behind c.push_bindings.result c.args.text.now.items c.push_header.new.text.items c.push_bindings.new.text.items
    (message_line m) (flat_map binding_line (take 128 m.bindings))
    (c.in_ok-push_header.ensures c.args.octets.now c.args.bindings.now m told) (c.push_bindings.ensures m.bindings told.kept)
