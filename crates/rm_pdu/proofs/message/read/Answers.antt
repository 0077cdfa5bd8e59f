use Rattle.std.proofs.Common.{◌≤◌, ℕ, List, Bool, Ok, Err, length, refl, subst, arith}
use Rattle.rm_pdu.specs.declared.places.Offsets.{Offsets}
use Rattle.rm_pdu.specs.declared.message.Fault.{Fault}
use Rattle.rm_pdu.specs.declared.message.Fault.TheVariants.{TooLong, Malformed, Version, NotRequest}
use Rattle.rm_pdu.specs.Parse.{Parse, message, IsParse}
use Rattle.rm_pdu.specs.Reading.{Fails}
use Rattle.rm_pdu.specs.Answers.{parse_of, IsAnswer}
use Rattle.rm_pdu.proofs.message.read.Goals as goal

-- what a fault says is a parse, and the fault answers it
fails_parse : (requests : Bool) (bytes : List ℕ) (fault : Fault) → length bytes ≤ 8192 → Fails requests bytes fault → IsParse requests bytes (parse_of fault)
fails_parse requests bytes TooLong few is = is
fails_parse requests bytes (Malformed at) few is = (few, is)
fails_parse requests bytes (Version z) few is = (few, is)
fails_parse requests bytes (NotRequest tag) few is = (few, is.0, is.1)

fault_answers : (bytes : List ℕ) (fault : Fault) (places : List Offsets) → IsAnswer bytes (parse_of fault) (Err fault) places
fault_answers bytes TooLong places = refl
fault_answers bytes (Malformed at) places = refl
fault_answers bytes (Version z) places = refl
fault_answers bytes (NotRequest tag) places = refl

pub returns-in-Ok : goal.returns-in-Ok
returns-in-Ok c =
    let read = c.in-Ok.ensures in
    let few : length c.args.bytes.now ≤ 8192 = omega (arith, c.if-bytes-gt-MOST_OCTETS.false) in
    let is : IsParse c.args.requests c.args.bytes.now (message read.0) = (few, read.1, read.2) in
    record {
      parse = (message read.0, is, read.3);
      only = λ v other. subst (λ (w : Parse). IsAnswer c.args.bytes.now w (Ok c.in-Ok.message) c.read_whole.new.into) (c.one_parse.ensures c.args.requests c.args.bytes.now (message read.0) v is other) read.3;
      emptied = tt;
    }

pub returns-in-Err : goal.returns-in-Err
returns-in-Err c =
    let few : length c.args.bytes.now ≤ 8192 = omega (arith, c.if-bytes-gt-MOST_OCTETS.false) in
    let is = fails_parse c.args.requests c.args.bytes.now c.in-Err.fault few c.in-Err.ensures in
    let answers = fault_answers c.args.bytes.now c.in-Err.fault c.clear-in-Err.new.self in
    record {
      parse = (parse_of c.in-Err.fault, is, answers);
      only = λ v other. subst (λ (w : Parse). IsAnswer c.args.bytes.now w (Err c.in-Err.fault) c.clear-in-Err.new.self) (c.one_parse.ensures c.args.requests c.args.bytes.now (parse_of c.in-Err.fault) v is other) answers;
      emptied = c.clear-in-Err.ensures;
    }
