-- What is kept of a capture between the calls.
use Rattle.std.proofs.Common.{◌≡◌, ℕ, ◌+◌, ◌≤◌, List, length, take, drop, Option, Some, None, Err, refl, sym, ap, subst, ◌∙◌, arith}
use Rattle.std.proofs.lemmas.List.{length-take, drop-drop}
use Rattle.rm_edge.specs.Outside.{Held, File}
use Rattle.rm_pcap.specs.declared.fault.PcapFault.{PcapFault}
use Rattle.rm_pcap.specs.declared.fault.PcapFault.TheVariants.{Read, NoMemory}
use Rattle.rm_pcap.specs.declared.reach.Reach.{Reach}
use Rattle.rm_pcap.specs.declared.record.Record.{Record}
use Rattle.rm_pcap.specs.declared.record.Seen.{Seen}
use Rattle.rm_pcap.specs.declared.record.Seen.TheVariants.{Whole as SeenWhole, End as SeenEnd, Cut as SeenCut}
use Rattle.rm_pcap.specs.Header.{header_of}
use Rattle.rm_pcap.specs.Steps.{Found, Whole, Stops}
use Rattle.rm_pcap.specs.Progress.{Progress, Agrees, HasRead, IsLawfulFind, next_in, read_next, looking_at, passing}
use Rattle.rm_pcap.specs.Calls.{Looks, Passes, IsHeaderFault, BeginsAs}
use Rattle.rm_window.specs.Filling.{Fills, IsFront}
use Rattle.rm_pcap.specs.Seen.{found_of, Follows, FollowsSeen, IsAhead}
use Rattle.rm_pcap.proofs.FrontLemmas.{header_front}
use Rattle.rm_window.proofs.WindowLemmas.{front_behind}

-- a capture that doesn't begin by a fault of its header
pub begins_not : (bytes : List ℕ) (fault : PcapFault) → IsHeaderFault fault → header_of bytes ≡ Err fault → BeginsAs bytes (Err fault)
begins_not bytes Read is e = absurd is
begins_not bytes NoMemory is e = absurd is
begins_not bytes fault is e = e

-- the header that was read is judged as the file's
pub header_read : (bytes header : List ℕ) (count : ℕ) → length header ≡ 24 → Fills bytes 0 count header → header_of (take count header) ≡ header_of bytes
header_read bytes header count long fills = ap header_of (fills.are ∙ ap (λ (k : ℕ). take k bytes) long) ∙ header_front bytes

-- what was seen is lawful
pub lawful_find : (interface : ℕ) (reach : Reach) (octets : List ℕ) (seen : Seen) → FollowsSeen reach seen → IsLawfulFind reach (found_of interface reach octets seen)
lawful_find interface reach octets (SeenWhole whole) follows = record {
  captured = omega (arith, follows.captured, length-take whole.included (drop 16 octets));
  most = follows.most;
  number = follows.number;
  few = follows.few;
  moment = follows.later;
  last = refl;
  count = refl;
}
lawful_find interface reach octets SeenEnd follows = tt
lawful_find interface reach octets SeenCut follows = tt

pub follows_seen : (reach : Reach) (ahead : Option Seen) (seen : Seen) → IsAhead reach ahead → ahead ≡ Some seen → FollowsSeen reach seen
follows_seen reach ahead (SeenWhole whole) follows is = follows whole is
follows_seen reach ahead SeenEnd follows is = tt
follows_seen reach ahead SeenCut follows is = tt

-- it was found before
pub looks_again : (held : Held) (now : Progress) (found : Found) → now.ahead ≡ Some found → IsLawfulFind now.reach found → Looks held now now found
looks_again held now found is lawful = record {
  place = ap (λ (ahead : Option Found). let p : Progress = record now { ahead = ahead } in p) is;
  finds = record {
    lawful = lawful;
    again = λ was e. let s : Some found ≡ Some was = sym is ∙ e in cc;
    kept = λ none read. let s : Some found ≡ None = sym is ∙ none in absurd cc;
    stands = λ bytes file agrees. agrees.ahead found is;
    agrees = λ bytes file agrees. agrees;
  };
}

agrees_looking : (old : Progress) (found : Found) (octets bytes : List ℕ) → found ≡ next_in old bytes → IsFront octets (drop old.reach.at bytes) → Agrees (looking_at old found octets) bytes
agrees_looking old found octets bytes is front = record { ahead = λ was e. let s : was ≡ found = cc in s ∙ is; read = front }

-- it is found now
pub looks_new : (held : Held) (old new : Progress) (found : Found) → old.ahead ≡ None → new ≡ looking_at old found new.read → IsLawfulFind old.reach found
    → ((bytes : List ℕ) → held ≡ File bytes → IsFront old.read (drop old.reach.at bytes) → IsFront new.read (drop old.reach.at bytes) × (found ≡ next_in old bytes))
    → (HasRead old → found ≡ read_next old) → Looks held old new found
looks_new held old new found none place lawful stands all = record {
  place = place;
  finds = record {
    lawful = lawful;
    again = λ was e. let s : None ≡ Some was = sym none ∙ e in cc;
    kept = λ _. all;
    stands = λ bytes file agrees. (stands bytes file agrees.read).1;
    agrees = λ bytes file agrees.
        let there = stands bytes file agrees.read in subst (λ (p : Progress). Agrees p bytes) (sym place) (agrees_looking old found new.read bytes there.1 there.0);
  };
}

agrees_passing : (old : Progress) (found : Found) (octets bytes : List ℕ) → found ≡ next_in old bytes → IsFront octets (drop (passing old found octets).reach.at bytes)
    → Agrees (passing old found octets) bytes
agrees_passing old (Whole frame after) octets bytes is front = record { ahead = λ was e. cc; read = front }
agrees_passing old (Stops stop) octets bytes is front = agrees_looking old (Stops stop) octets bytes is front

-- what was found is passed
pub passes : (held : Held) (old mid new : Progress) (found : Found) → Looks held old mid found → new ≡ passing old found new.read
    → ((bytes : List ℕ) → IsFront mid.read (drop old.reach.at bytes) → IsFront new.read (drop (passing old found new.read).reach.at bytes)) → Passes held old new found
passes held old mid new found looks place behind = record {
  place = place;
  finds = record {
    lawful = looks.finds.lawful;
    again = looks.finds.again;
    kept = looks.finds.kept;
    stands = looks.finds.stands;
    agrees = λ bytes file agrees.
        let same : mid.reach ≡ old.reach = ap (λ (p : Progress). p.reach) looks.place in
        let front = subst (λ (r : Reach). IsFront mid.read (drop r.at bytes)) same (looks.finds.agrees bytes file agrees).read in
        subst (λ (p : Progress). Agrees p bytes) (sym place) (agrees_passing old found new.read bytes (looks.finds.stands bytes file agrees) (behind bytes front));
  };
}

-- what is next behind a record that was passed
pub behind_record : (reach : Reach) (seen : Record) (octets next bytes : List ℕ) → Follows reach seen → next ≡ drop (16 + seen.included) octets → 16 + seen.included ≤ length octets
    → IsFront octets (drop reach.at bytes) → IsFront next (drop seen.after.at bytes)
behind_record reach seen octets next bytes follows is within front =
    let n = 16 + seen.included in
    let behind : IsFront (drop n octets) (drop n (drop reach.at bytes)) = front_behind n octets (drop reach.at bytes) front within in
    let rest : drop n (drop reach.at bytes) ≡ drop seen.after.at bytes = drop-drop n reach.at bytes ∙ ap (λ (k : ℕ). drop k bytes) (sym follows.place) in
    subst (λ (t : List ℕ). IsFront t (drop seen.after.at bytes)) (sym is) (subst (λ (t : List ℕ). IsFront (drop n octets) t) rest behind)
