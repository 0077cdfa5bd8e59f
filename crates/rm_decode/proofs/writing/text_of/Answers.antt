use Rattle.std.proofs.Common.{ap, ◌∙◌, ◌++◌, ℕ, List, Vec, Global}
use Rattle.rm_pdu.specs.Answers.{parse_of}
use Rattle.rm_pdu.specs.Parse.{message}
use Rattle.rm_decode.specs.Text.{text_of}
use Rattle.rm_decode.proofs.LineLemmas.{told_of, fault_of}
use Rattle.rm_decode.proofs.writing.text_of.Goals.{in-Ok+in_ok-push_message-in-Ok, in-Err+in_ok-push_fault-in-Err}
use Rattle.rm_decode.proofs.writing.text_of.Goals as goal

pub push_message-requires : goal.push_message-requires
push_message-requires c =
    let (v, parse, is) = c.in-Ok.ensures.parse in
    let (m, whole, told) = told_of c.args.octets.now v c.in-Ok.message c.read_any.new.into parse is in
    (m, told)

pub returns : goal.returns
returns c = elim c.match-read_any.branch [
  | in-Ok+in_ok-push_message-in-Ok w ↦
      let (v, parse, is) = w.in-Ok.ensures.parse in
      let (m, whole, told) = told_of c.args.octets.now v w.in-Ok.message c.read_any.new.into parse is in
      record {
        text = (
          message m,
          whole,
          ap (λ (t : Vec ℕ Global). t.items) w.text-is ∙ w.in_ok-push_message-in-Ok.ensures m told ∙ ap (λ (t : List ℕ). t ++ text_of (message m)) c.new-text.ensures.items,
        );
      }
  | in-Err+in_ok-push_fault-in-Err w ↦
      let (v, parse, is) = w.in-Err.ensures.parse in
      record {
        text = (
          parse_of w.in-Err.fault,
          fault_of c.args.octets.now v w.in-Err.fault c.read_any.new.into parse is,
          ap (λ (t : Vec ℕ Global). t.items) w.text-is ∙ w.in_ok-push_fault-in-Err.ensures ∙ ap (λ (t : List ℕ). t ++ text_of (parse_of w.in-Err.fault)) c.new-text.ensures.items,
        );
      }
]
