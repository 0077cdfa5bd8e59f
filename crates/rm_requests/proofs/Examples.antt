-- Request files worked out by hand.
use Rattle.std.proofs.Common.{◌≡◌, ℕ, List, [], ◌∷◌, ◌++◌, map, Some, None, Ok, Err, refl}
use Rattle.std.specs.Prelude.{codes}
use Rattle.std.specs.Str.Lines.{lines}
use Rattle.hex.specs.Hex.{decode_pairs}
use Rattle.rm_edge.specs.Digits.{number_in}
use Rattle.rm_requests.specs.Lines.{TimedDatagram, datagram_of, request_of, AreOf, IsFirstWrong}
use Rattle.rm_requests.proofs.Steps.{requests_from, requests_of}
use Rattle.rm_requests.proofs.EachLineLemmas.{are_the_lines, is_first_wrong}

abbrev request : ℕ → List ℕ → TimedDatagram
request moment datagram = record { moment = moment; datagram = datagram }

-- digits in either case, zeros in front of a moment, an end with a carriage return, one moment twice, a datagram with no octets, and a
-- last line without an end
abbrev good : List ℕ
good = codes "5 00fF" ++ (10 ∷ codes "007 0A") ++ (13 ∷ 10 ∷ codes "7 ")

abbrev given : List TimedDatagram
given = request 5 (0 ∷ 255 ∷ []) ∷ request 7 (10 ∷ []) ∷ request 7 [] ∷ []

good_lines : lines good ≡ codes "5 00fF" ∷ codes "007 0A" ∷ codes "7 " ∷ []
good_lines = refl

good_each : map request_of (lines good) ≡ map Some given
unfolding request_of datagram_of number_in decode_pairs
good_each = refl

good_read : requests_of good ≡ Ok given
unfolding requests_from request_of datagram_of number_in decode_pairs
good_read = refl

pub good_gives : AreOf (lines good) given
good_gives = (are_the_lines good given).0 good_read

-- The moment of the second line falls. The third isn't of the form, and isn't the first wrong one.
abbrev falling : List ℕ
falling = codes "5 00" ++ (10 ∷ codes "4 00") ++ (10 ∷ codes "6 0")

falling_each : map request_of (lines falling) ≡ Some (request 5 (0 ∷ [])) ∷ Some (request 4 (0 ∷ [])) ∷ None ∷ []
unfolding request_of datagram_of number_in decode_pairs
falling_each = refl

falling_read : requests_of falling ≡ Err 2
unfolding requests_from request_of datagram_of number_in decode_pairs
falling_read = refl

pub falling_wrong : IsFirstWrong 2 (lines falling)
falling_wrong = (is_first_wrong falling 2).0 falling_read
