-- What a run has written, by what it has said.
use Rattle.std.proofs.Common.{◌≡◌, inl, inr, ℕ, List, ◌++◌, Some, None, Result, Ok, Err, refl, sym, ap, subst, ◌∙◌, arith}
use Rattle.rm_edge.specs.Outside.{AddsFront, Rose}
use Rattle.rm_edge.specs.Link.{Datagram}
use Rattle.rm_model.specs.Journal.{Frame}
use Rattle.rm_pcap.specs.Records.{Stop}
use Rattle.rm_requests.specs.Lines.{TimedDatagram}
use Rattle.rm_settings.specs.declared.settings.Settings.{Settings}
use Rattle.rm_probe.specs.Said.{Said, lines}
use Rattle.rm_probe.specs.Text.{IsRun, IsText}
use Rattle.rm_probe.specs.Output.{HasAdded, Shown}
use Rattle.rm_probe.specs.declared.output.OutputFault.TheVariants.{Put, Send}
use Rattle.rm_probe.specs.Ends.{IsSilent}
use Rattle.rm_probe.specs.Steps.{FailsBy, IsQuiet, SaysRun, Writes, ends_by}
use Rattle.rm_probe.specs.declared.status.Status.{Status}
use Rattle.rm_probe.specs.declared.status.Status.TheVariants.{Done, Usage, BadCapture, BadRequests, ReadFault, WriteFault, NoMemory, LinkFault, TooLong}
use Rattle.rm_probe.proofs.OutputLemmas.{front_more, more_lines}

module _ (a b : Shown) (said : List Said) (messages : List Datagram) (added : HasAdded a b (lines said) messages) (none : a.failed ≡ None) where
  -- a put failed
  pub put_rose : b.failed ≡ Some Put → Rose a.puts b.puts
  put_rose is = elim (added.puts.cause is) [ inl e ↦ absurd (let f = sym e ∙ none in cc) | inr rose ↦ rose ]

  -- a send failed
  pub send_rose : b.failed ≡ Some Send → Rose a.sends b.sends
  send_rose is = elim (added.sends.cause is) [ inl e ↦ absurd (let f = sym e ∙ none in cc) | inr rose ↦ rose ]

  pub write_rose : (result : Result (Unit {0}) Status) → FailsBy b.failed result → ends_by result ≡ WriteFault → Rose a.puts b.puts
  write_rose (Ok done) fails is = absurd cc
  write_rose (Err WriteFault) fails is = put_rose fails
  write_rose (Err LinkFault) fails is = absurd cc
  write_rose (Err ReadFault) fails is = absurd cc
  write_rose (Err Done) fails is = absurd cc
  write_rose (Err Usage) fails is = absurd cc
  write_rose (Err (BadCapture interface at)) fails is = absurd cc
  write_rose (Err (BadRequests at)) fails is = absurd cc
  write_rose (Err NoMemory) fails is = absurd cc
  write_rose (Err TooLong) fails is = absurd cc

  -- the first of what may be said is a front of the text
  text_front : (settings : Settings) (frames : List Frame) (stop : Stop) (requests : List TimedDatagram) (rest : List Said) → IsRun settings frames stop requests (said ++ rest)
      → (text : List ℕ) × IsText settings frames stop requests text × AddsFront a.content b.content text
  text_front settings frames stop requests rest is = (
    lines (said ++ rest),
    record { said = said ++ rest; is_run = is; whole = refl },
    subst (λ (t : List ℕ). AddsFront a.content b.content t) (sym (more_lines said rest)) (front_more a.content b.content (lines said) (lines rest) added.puts.front),
  )

  -- where nothing is sent
  pub writes_by : (a.sends ≡ 0) → (b.sends ≡ 0) → (settings : Settings) (frames : List Frame) (stop : Stop) (requests : List TimedDatagram) (result : Result (Unit {0}) Status) → FailsBy b.failed result
      → SaysRun settings frames stop requests said result → Writes settings frames stop requests a.content b.content (ends_by result)
  writes_by first last settings frames stop requests (Ok done) fails is = (lines said, record { said = said; is_run = is; whole = refl }, added.puts.whole fails)
  writes_by first last settings frames stop requests (Err WriteFault) fails (rest, is) = text_front settings frames stop requests rest is
  writes_by first last settings frames stop requests (Err ReadFault) fails (rest, is) = text_front settings frames stop requests rest is
  writes_by first last settings frames stop requests (Err LinkFault) fails (rest, is) = absurd (let rose = send_rose fails in omega (arith, rose, first, last))
  writes_by first last settings frames stop requests (Err Done) fails is = absurd is
  writes_by first last settings frames stop requests (Err Usage) fails is = absurd is
  writes_by first last settings frames stop requests (Err (BadCapture interface at)) fails is = absurd is
  writes_by first last settings frames stop requests (Err (BadRequests at)) fails is = absurd is
  writes_by first last settings frames stop requests (Err NoMemory) fails is = absurd is
  writes_by first last settings frames stop requests (Err TooLong) fails is = absurd is

  -- and then no link failed
  pub not_silent : (a.sends ≡ 0) → (b.sends ≡ 0) → (result : Result (Unit {0}) Status) → FailsBy b.failed result → (IsQuiet (ends_by result) → ⊥) → IsSilent (ends_by result) → ⊥
  not_silent first last (Ok done) fails loud silent = silent
  not_silent first last (Err LinkFault) fails loud silent = let rose = send_rose fails in omega (arith, rose, first, last)
  not_silent first last (Err Usage) fails loud silent = loud tt
  not_silent first last (Err NoMemory) fails loud silent = loud tt
  not_silent first last (Err Done) fails loud silent = silent
  not_silent first last (Err ReadFault) fails loud silent = silent
  not_silent first last (Err WriteFault) fails loud silent = silent
  not_silent first last (Err (BadCapture interface at)) fails loud silent = silent
  not_silent first last (Err (BadRequests at)) fails loud silent = silent
  not_silent first last (Err TooLong) fails loud silent = silent

-- a run that ends so
pub ends_read : (result : Result (Unit {0}) Status) → ends_by result ≡ ReadFault → result ≡ Err ReadFault
ends_read (Ok done) is = absurd cc
ends_read (Err status) is = ap Err is
