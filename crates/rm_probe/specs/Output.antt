-- What an output has put and sent.
use Rattle.std.specs.Prelude.{◌≡◌, ◌⊎◌, ◌≤◌, ℕ, List, [], ◌++◌, length, take, Option, Some, None, Result, Ok, Err}
use Rattle.std.proofs.Common.{inl, refl, sym, ap, arith}
use Rattle.std.proofs.lemmas.List.{append-nil}
use Rattle.rm_edge.specs.Outside.{Adds, AddsFront, Rose}
use Rattle.rm_edge.specs.Link.{Datagram}
use Rattle.rm_edge.specs.declared.outside.link.Peer.{Peer}
use Rattle.rm_probe.specs.declared.post.Addressee.{Addressee}
use Rattle.rm_probe.specs.declared.post.Addressee.TheVariants.{Manager, Asking}
use Rattle.rm_probe.specs.Said.{Said, lines, messages}
use Rattle.rm_probe.specs.declared.output.OutputFault.{OutputFault}
use Rattle.rm_probe.specs.declared.output.OutputFault.TheVariants.{Put, Send}

-- the octets put and the datagrams sent, where they are told, how often puts and sends have failed, and what failed last
pub record Shown : Type 0 where
  pub content : Option (List ℕ)
  pub puts : ℕ
  pub sent : Option (List Datagram)
  pub sends : ℕ
  pub failed : Option OutputFault

-- an output, by what sinks hold and count, and by what posts send and count
abbrev pub shown : {K P : Type 0} → (K → Option (List ℕ)) → (K → ℕ) → (P → Option (List Datagram)) → (P → ℕ) → K → P → Option OutputFault → Shown
shown content puts sent sends sink post failed = record { content = content sink; puts = puts sink; sent = sent post; sends = sends post; failed = failed }

-- These were added to what was held, or a front of them where a call failed, which is one of a kind or of another. Nothing is added once
-- one has failed.
pub record HasGrown {A : Type 0} (kind : OutputFault) (old new : Option (List A)) (before after : ℕ) (failed failed' : Option OutputFault) (added : List A) : Type 0 where
  pub whole : failed' ≡ None → Adds old new added
  pub front : AddsFront old new added
  pub later : before ≤ after
  pub cause : failed' ≡ Some kind → (failed ≡ Some kind) ⊎ Rose before after
  pub stays : (fault : OutputFault) → failed ≡ Some fault → new ≡ old

-- octets were put and messages sent
pub record HasAdded (old new : Shown) (text : List ℕ) (messages : List Datagram) : Type 0 where
  pub puts : HasGrown Put old.content new.content old.puts new.puts old.failed new.failed text
  pub sends : HasGrown Send old.sent new.sent old.sends new.sends old.failed new.failed messages
  pub stays : (fault : OutputFault) → old.failed ≡ Some fault → new.failed ≡ Some fault

-- nothing is added where none is
pub adds_none : {A : Type 0} → (held : Option (List A)) → Adds held held []
adds_none {A} None = tt
adds_none {A} (Some items) = ap (λ (x : List A). Some x) (sym (append-nil items))

pub grown_none : {A : Type 0} → (kind : OutputFault) (held : Option (List A)) (count : ℕ) (failed : Option OutputFault) → HasGrown kind held held count count failed failed []
grown_none kind held count failed = record { whole = λ _. adds_none held; front = (0, adds_none held); later = omega arith; cause = λ e. inl e; stays = λ fault e. refl }

pub nothing_added : (state : Shown) → HasAdded state state [] []
nothing_added state = record {
  puts = grown_none Put state.content state.puts state.failed;
  sends = grown_none Send state.sent state.sends state.failed;
  stays = λ fault e. e;
}

-- what failed last, by the result of a call: one that fails says what
abbrev pub failed_by : {T : Type 0} → Result T OutputFault → Option OutputFault
failed_by (Ok done) = None
failed_by (Err fault) = Some fault

-- Behind lines that were put and messages that were sent, a front of a line was put and no message sent; or the line was put whole, and of the
-- messages that it tells the first were sent, maybe none.
abbrev pub TellsBehind : Option (List ℕ) → Option (List ℕ) → Option (List Datagram) → Option (List Datagram) → List ℕ → List Datagram → List ℕ → List Datagram → Type 0
TellsBehind content content_after sent sent_after text told line messages =
    (((n : ℕ) × Adds content content_after (text ++ take n line)) × Adds sent sent_after told)
    ⊎ (Adds content content_after (text ++ line) × ((n : ℕ) × Adds sent sent_after (told ++ take n messages)))

-- Of what was said the first things were told whole: their lines were put, and their messages sent. Of the next thing, if there is one, a front was
-- told, and of the rest nothing.
pub record IsSaidFront (managers : List Peer) (asking : ℕ → List Peer) (content content_after : Option (List ℕ)) (sent sent_after : Option (List Datagram)) (said told : List Said) : Type 0 where
  pub next : List Said
  pub rest : List Said
  pub split : said ≡ told ++ (next ++ rest)
  pub one : length next ≤ 1
  pub tells : TellsBehind content content_after sent sent_after (lines told) (messages managers asking told) (lines next) (messages managers asking next)

-- nothing is a front
pub front_none : (managers : List Peer) (asking : ℕ → List Peer) (content : Option (List ℕ)) (sent : Option (List Datagram)) → IsSaidFront managers asking content content sent sent [] []
front_none managers asking content sent = record { next = []; rest = []; split = refl; one = omega arith; tells = inl ((0, adds_none content), adds_none sent) }

-- An output has said this: its post is the same, the lines were put, and the messages sent, those to who asks to the one peer that the post has.
pub record Says {P : Type 0} (peers : P → Addressee → List Peer) (same : P → P → Type 0) (post post' : P) (old new : Shown) (said : List Said) : Type 0 where
  pub still : same post post'
  pub adds : HasAdded old new (lines said) (messages (peers post Manager) (λ (number : ℕ). peers post Asking) said)
  pub order : old.failed ≡ None → (told : List Said) × IsSaidFront (peers post Manager) (λ (number : ℕ). peers post Asking) old.content new.content old.sent new.sent said told

-- A line was put, or a front of it; and where it was put whole, a front of the messages that it tells was sent.
abbrev pub TellsInOrder : Shown → Shown → List ℕ → List Datagram → Type 0
TellsInOrder old new line messages = (AddsFront old.content new.content line × (new.sent ≡ old.sent)) ⊎ (Adds old.content new.content line × AddsFront old.sent new.sent messages)
