use Rattle.std.proofs.Common.{◌≡◌, ◌≤◌, ◌+◌, ◌∷◌, [], ◌++◌, length, map, ap, ◌∙◌, arith, vec_len}
use borrow.Rule.Slice.PartMut.{put_mid}
use Rattle.rm_ring.specs.Kept.{Kept, cost_of, stored}
use Rattle.rm_ring.specs.Runs.{start_of, with_packet}
use Rattle.rm_ring.specs.Laid.{packet_at}
use Rattle.rm_ring.proofs.StepLemmas.{front_within, all_cost, start_within, laid_more, shows_more}
use Rattle.rm_ring.proofs.ring.Ring.push.Goals as goal

pub take-start-requires-clause-front : goal.take-start-requires-clause-front
take-start-requires-clause-front g c =
    omega (arith, front_within _ _ _ _ _ _ c.self.invariant, c.requires.slice, ap (λ k. k.slice) c.self.view_is, c.self.invariant.storage, c.self.invariant.near)

pub write-requires : goal.write-requires
write-requires g c =
    let i = c.self.inside in
    let at : c.take-start.result ≡ start_of i.runs (length i.places.items) (vec_len i.octets) (length c.args.octets.now) =
    c.take-start.ensures.start ∙ ap (λ n. start_of i.runs n c.len-2.result (length c.args.octets.now)) c.len.ensures.len ∙ ap (λ n. start_of i.runs (length i.places.items) n (length c.args.octets.now)) c.len-2.ensures in
    let small : length c.args.octets.now ≤ i.slice = omega (arith, c.requires.slice, ap (λ k. k.slice) c.self.view_is) in
    let fits : cost_of (map (packet_at i.octets.items) i.places.items) + (length c.args.octets.now + 32) ≤ i.granted =
    omega (arith, c.requires.room, ap (λ k. k.granted) c.self.view_is, ap (λ k. cost_of k.packets) c.self.view_is) in
    omega (arith, c.deref_mut.ensures.len, start_within i.octets i.places i.runs i.granted i.left i.slice c.self.invariant c.args.info c.args.octets.now small fits c.take-start.result at)

pub overflow_sub-self : goal.overflow_sub-self
overflow_sub-self g c =
    let i = c.self.inside in
    omega (arith, c.requires.room, ap (λ k. k.granted) c.self.view_is, ap (λ k. cost_of k.packets) c.self.view_is, all_cost i.octets i.places i.runs i.granted i.left i.slice c.self.invariant)

pub invariant_of-self : goal.invariant_of-self
invariant_of-self g c =
    let i = c.self.inside in
    let at : c.take-start.result ≡ start_of i.runs (length i.places.items) (vec_len i.octets) (length c.args.octets.now) =
    c.take-start.ensures.start ∙ ap (λ n. start_of i.runs n c.len-2.result (length c.args.octets.now)) c.len.ensures.len ∙ ap (λ n. start_of i.runs (length i.places.items) n (length c.args.octets.now)) c.len-2.ensures in
    let runs : c.take-start.new.self ≡ with_packet i.runs (length i.places.items) (vec_len i.octets) (length c.args.octets.now) =
    c.take-start.ensures.runs ∙ ap (λ n. with_packet i.runs n c.len-2.result (length c.args.octets.now)) c.len.ensures.len ∙ ap (λ n. with_packet i.runs (length i.places.items) n (length c.args.octets.now)) c.len-2.ensures in
    let into : c.write.new.into ≡ put_mid c.take-start.result (length c.args.octets.now) i.octets.items c.args.octets.now =
    c.write.ensures ∙ ap (λ xs. put_mid c.take-start.result (length c.args.octets.now) xs c.args.octets.now) c.deref_mut.ensures.value in
    let small : length c.args.octets.now ≤ i.slice = omega (arith, c.requires.slice, ap (λ k. k.slice) c.self.view_is) in
    let fits : cost_of (map (packet_at i.octets.items) i.places.items) + (length c.args.octets.now + 32) ≤ i.granted =
    omega (arith, c.requires.room, ap (λ k. k.granted) c.self.view_is, ap (λ k. cost_of k.packets) c.self.view_is) in
    rw (into, c.push_back.ensures.items, runs) (laid_more i.octets i.places i.runs i.granted i.left i.slice c.self.invariant c.args.info c.args.octets.now small fits c.take-start.result at)

pub returns : goal.returns
returns g c =
    let i = c.self.inside in
    let at : c.take-start.result ≡ start_of i.runs (length i.places.items) (vec_len i.octets) (length c.args.octets.now) =
    c.take-start.ensures.start ∙ ap (λ n. start_of i.runs n c.len-2.result (length c.args.octets.now)) c.len.ensures.len ∙ ap (λ n. start_of i.runs (length i.places.items) n (length c.args.octets.now)) c.len-2.ensures in
    let into : c.write.new.into ≡ put_mid c.take-start.result (length c.args.octets.now) i.octets.items c.args.octets.now =
    c.write.ensures ∙ ap (λ xs. put_mid c.take-start.result (length c.args.octets.now) xs c.args.octets.now) c.deref_mut.ensures.value in
    let small : length c.args.octets.now ≤ i.slice = omega (arith, c.requires.slice, ap (λ k. k.slice) c.self.view_is) in
    let fits : cost_of (map (packet_at i.octets.items) i.places.items) + (length c.args.octets.now + 32) ≤ i.granted =
    omega (arith, c.requires.room, ap (λ k. k.granted) c.self.view_is, ap (λ k. cost_of k.packets) c.self.view_is) in
    rw (into, c.push_back.ensures.items) (shows_more i.octets i.places i.runs i.granted i.left i.slice c.self.invariant c.args.info c.args.octets.now small fits c.take-start.result at)
    ∙ ap (λ (k : Kept g.row.T.Denot). record k { packets = k.packets ++ stored c.args.info c.args.octets.now ∷ [] }) c.self.view_is
