-- The number of a protocol is that of no other.
use Rattle.std.proofs.Common.{◌≡◌, ℕ, ◌+◌, true, false, nat_eq, nat_lt, refl, sym, ap, ◌∙◌, arith}
use Rattle.std.proofs.lemmas.Bool.Decides.{nat_tests}
use Rattle.rm_path.specs.declared.identifier.ProtocolIdentifier.{ProtocolIdentifier}
use Rattle.rm_path.specs.declared.identifier.ProtocolIdentifier.TheVariants.{Ether2, Ether, Ip, Tcp, Udp}
use Rattle.rm_path.specs.Identifier.{number_of, identified, IsInRange, is_same}

-- the protocol with the number of one is that one
pub of_number : (protocol : ProtocolIdentifier) → IsInRange protocol → identified (number_of protocol) ≡ protocol
of_number Ether2 fits = refl
of_number (Ether type) fits =
    let low : nat_lt (65536 + type) 65536 ≡ false = grind (arith, nat_tests) in
    let high : nat_lt (65536 + type) 131072 ≡ true = grind (arith, nat_tests, fits) in
    rw (low, high) (ap Ether (omega arith))
of_number (Ip protocol) fits =
    let one : nat_lt (131072 + protocol) 65536 ≡ false = grind (arith, nat_tests) in
    let two : nat_lt (131072 + protocol) 131072 ≡ false = grind (arith, nat_tests) in
    let three : nat_lt (131072 + protocol) 196608 ≡ true = grind (arith, nat_tests, fits) in
    rw (one, two, three) (ap Ip (omega arith))
of_number (Tcp port) fits =
    let one : nat_lt (196608 + port) 65536 ≡ false = grind (arith, nat_tests) in
    let two : nat_lt (196608 + port) 131072 ≡ false = grind (arith, nat_tests) in
    let three : nat_lt (196608 + port) 196608 ≡ false = grind (arith, nat_tests) in
    let four : nat_lt (196608 + port) 262144 ≡ true = grind (arith, nat_tests, fits) in
    rw (one, two, three, four) (ap Tcp (omega arith))
of_number (Udp port) fits =
    let one : nat_lt (262144 + port) 65536 ≡ false = grind (arith, nat_tests) in
    let two : nat_lt (262144 + port) 131072 ≡ false = grind (arith, nat_tests) in
    let three : nat_lt (262144 + port) 196608 ≡ false = grind (arith, nat_tests) in
    let four : nat_lt (262144 + port) 262144 ≡ false = grind (arith, nat_tests) in
    rw (one, two, three, four) (ap Udp (omega arith))

-- protocols of one number are one
pub same_number : (one other : ProtocolIdentifier) → IsInRange one → IsInRange other → number_of one ≡ number_of other → one ≡ other
same_number one other a b same = sym (of_number one a) ∙ ap identified same ∙ of_number other b

equal : (m n : ℕ) → nat_eq m n ≡ true → m ≡ n
equal m n is = grind (arith, nat_tests)

-- what the test says
pub same_is : (one other : ProtocolIdentifier) → is_same one other ≡ true → one ≡ other
same_is Ether2 Ether2 is = refl
same_is (Ether m) (Ether n) is = ap Ether (equal m n is)
same_is (Ip m) (Ip n) is = ap Ip (equal m n is)
same_is (Tcp m) (Tcp n) is = ap Tcp (equal m n is)
same_is (Udp m) (Udp n) is = ap Udp (equal m n is)
same_is Ether2 (Ether n) is = absurd (cc)
same_is Ether2 (Ip n) is = absurd (cc)
same_is Ether2 (Tcp n) is = absurd (cc)
same_is Ether2 (Udp n) is = absurd (cc)
same_is (Ether m) Ether2 is = absurd (cc)
same_is (Ether m) (Ip n) is = absurd (cc)
same_is (Ether m) (Tcp n) is = absurd (cc)
same_is (Ether m) (Udp n) is = absurd (cc)
same_is (Ip m) Ether2 is = absurd (cc)
same_is (Ip m) (Ether n) is = absurd (cc)
same_is (Ip m) (Tcp n) is = absurd (cc)
same_is (Ip m) (Udp n) is = absurd (cc)
same_is (Tcp m) Ether2 is = absurd (cc)
same_is (Tcp m) (Ether n) is = absurd (cc)
same_is (Tcp m) (Ip n) is = absurd (cc)
same_is (Tcp m) (Udp n) is = absurd (cc)
same_is (Udp m) Ether2 is = absurd (cc)
same_is (Udp m) (Ether n) is = absurd (cc)
same_is (Udp m) (Ip n) is = absurd (cc)
same_is (Udp m) (Tcp n) is = absurd (cc)

itself : (n : ℕ) → nat_eq n n ≡ true
itself n = grind (arith, nat_tests)

-- each is the same as itself
pub is_itself : (one : ProtocolIdentifier) → is_same one one ≡ true
is_itself Ether2 = refl
is_itself (Ether n) = itself n
is_itself (Ip n) = itself n
is_itself (Tcp n) = itself n
is_itself (Udp n) = itself n
