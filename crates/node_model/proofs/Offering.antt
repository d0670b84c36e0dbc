-- Offer, got and skip: a session's claim begins and ends. Open: a session begins.
use Rattle.std.proofs.Common.{◌≡◌, ◌≢◌, ℕ, ◌+◌, ◌-◌, ◌≤◌, le_refl, Bool, if◌then◌else◌, List, [], ◌∷◌, Option, Some, None, refl, sym, ap, ◌∙◌, subst, inl, inr, arith}
use Rattle.ftn_addr.specs.Address.{Address}
use Rattle.node_model.specs.declared.words.Role.{Role}
use Rattle.node_model.specs.Items.{Done, Entry}
use Rattle.node_model.specs.Lists.{Member}
use Rattle.node_model.specs.Durable.{done_entry, all_done}
use Rattle.node_model.specs.Node.{Hold, Session, Node, peers, session_at, claim_in}
use Rattle.node_model.specs.Rows.{OpenRow, new_session}
use Rattle.node_model.specs.SendRows.{OfferFile, GotRow, SkipRow, unclaimed, left_reserved}
use Rattle.node_model.proofs.Lists.{by_line}
use Rattle.node_model.proofs.HoldChanges.{seat_queued, seat_drawn}
use Rattle.node_model.proofs.Seats.{ClaimFits, ClaimsApart, HoldsApart, PairFits, SeatsFit, NodeFits, seats_put}
use Rattle.node_model.proofs.Leaving.{places_put}
use Rattle.node_model.proofs.Queueing.{done_same, done_fits, queue_map, staged_map, store_queue}

none_apart : (o : Option ℕ) → ClaimsApart None o
none_apart o = tt

no_hold : (o : Option Hold) → HoldsApart None o
no_hold o = tt

-- a session without a claim
unclaimed_apart : (n : Node) (seat : ℕ) (s : Session) (skipped : List ℕ) → session_at n seat ≡ Some s → SeatsFit n → (k : ℕ) (w : Session) → k ≢ seat → session_at n k ≡ Some w → PairFits (record (unclaimed s) { skipped = skipped }) w
unclaimed_apart n seat s skipped has f k w apart at =
    let p = f.pairs seat k s w (λ same. apart (sym same)) has at in
    record { numbers = p.numbers; claims = none_apart w.claim; holds = p.holds }

-- an entry with another number stays as it is
stays_live : (number : ℕ) (queue : List Entry) (e : Entry) → Member e queue → e.number ≢ number → Member e (all_done number queue)
stays_live number [] e m other = absurd m
stays_live number (x ∷ xs) e (inl same) other = inl (same ∙ by_line x.number number (λ b. x ≡ (if b then record x { body = Done } else x)) (λ n. absurd (other (ap (λ (y : Entry). y.number) same ∙ n))) (λ _. refl))
stays_live number (x ∷ xs) e (inr m) other = inr (stays_live number xs e m other)

done_claim : (number : ℕ) (queue : List Entry) (others : List Address) (places : ℕ) (o : Option ℕ) → ClaimsApart (Some number) o → ClaimFits queue others places o → ClaimFits (all_done number queue) others places o
done_claim number queue others places None apart c = tt
done_claim number queue others places (Some other) apart c =
    record { entry = c.entry; there = stays_live number queue c.entry c.there (λ same. apart (sym same ∙ c.numbered)); numbered = c.numbered; bytes = c.bytes; live = c.live; for_peer = c.for_peer; place = c.place }

pub got-fits : (n m : Node) (seat number : ℕ) → GotRow seat number n m → NodeFits n → NodeFits m
got-fits n m seat number row f =
    let s = row.session in
    let mine = f.seats.each seat s row.has in
    let queue = all_done number n.state.queue in
    let sum = places_put n seat (Some s) (Some (unclaimed s)) row.has in
    let all = f.all in
    let room = f.room in
    let place : 1 ≤ s.claim_places = (subst (ClaimFits n.state.queue (peers s) s.claim_places) row.claimed mine.claim).place in
    subst NodeFits (sym row.after)
    (record {
      store = store_queue n.state queue n.staged n.staged n.drawn (queue_map (done_entry number) (done_same number) (done_fits number) n.state.queue f.store.queue) (staged_map (done_entry number) (done_same number) n.staged n.state.queue f.store.queue_staged) f.store;
      seats = seats_put n _ seat (Some (unclaimed s)) refl
          (λ k w apart at o.
          let p = f.seats.pairs seat k s w (λ same. apart (sym same)) row.has at in
          seat_queued queue n.begun n.settings n.state n.drawn w (done_claim number n.state.queue (peers w) w.claim_places w.claim (subst (λ c. ClaimsApart c w.claim) row.claimed p.claims) o.claim) o)
          (seat_queued queue n.begun n.settings n.state n.drawn (unclaimed s) tt (record { some = mine.some; begins = mine.begins; claim = tt; hold = mine.hold }), unclaimed_apart n seat s s.skipped row.has f.seats)
          f.seats;
      all = omega (arith, sum, all);
      room = omega (arith, sum, all, room, place);
    })

kept_back : (broken : Option ℕ) (places reserved : ℕ) → (reserved - places ≤ left_reserved broken places reserved) × (left_reserved broken places reserved ≤ reserved)
kept_back None places reserved = (le_refl _, omega arith)
kept_back (Some count) places reserved = (omega arith, le_refl _)

pub skip-fits : (n m : Node) (seat number : ℕ) → SkipRow seat number n m → NodeFits n → NodeFits m
skip-fits n m seat number row f =
    let s = row.session in
    let t : Session = record (unclaimed s) { skipped = number ∷ s.skipped } in
    let mine = f.seats.each seat s row.has in
    let sum = places_put n seat (Some s) (Some t) row.has in
    let all = f.all in
    let room = f.room in
    let back = kept_back n.broken s.claim_places n.reserved in
    let least = back.0 in
    let most = back.1 in
    subst NodeFits (sym row.after)
    (record {
      store = f.store;
      seats = seats_put n _ seat (Some t) refl
          (λ k w apart at o. o)
          (record { some = mine.some; begins = mine.begins; claim = tt; hold = mine.hold }, unclaimed_apart n seat s (number ∷ s.skipped) row.has f.seats)
          f.seats;
      all = omega (arith, sum, all, least);
      room = omega (arith, room, most);
    })

-- a claim on an entry that no other session has claimed
claims_apart : (n : Node) (number : ℕ) → ((k : ℕ) → claim_in (session_at n k) ≢ Some number) → (k : ℕ) (w : Session) → session_at n k ≡ Some w → (o : Option ℕ) → w.claim ≡ o → ClaimsApart (Some number) o
claims_apart n number free k w at None is = tt
claims_apart n number free k w at (Some other) is = λ same. free k (ap claim_in at ∙ (is ∙ ap Some (sym same)))

pub offer-fits : (n m : Node) (seat : ℕ) (e : Entry) → OfferFile seat e n m → NodeFits n → NodeFits m
offer-fits n m seat e row f =
    let s = row.session in
    let t : Session = record s { claim = Some e.number; claim_places = 1 } in
    let mine = f.seats.each seat s row.has in
    let sum = places_put n seat (Some s) (Some t) row.has in
    let all = f.all in
    let room = row.room in
    let c = row.candidate in
    subst NodeFits (sym row.after)
    (record {
      store = f.store;
      seats = seats_put n _ seat (Some t) refl
          (λ k w apart at o. o) (
            record { some = mine.some; begins = mine.begins; claim = record { entry = e; there = c.queued; numbered = refl; bytes = c.bytes; live = c.live; for_peer = c.for_peer; place = le_refl 1 }; hold = mine.hold },
            λ k w apart at. let p = f.seats.pairs seat k s w (λ same. apart (sym same)) row.has at in record { numbers = p.numbers; claims = claims_apart n e.number c.unclaimed k w at w.claim refl; holds = p.holds },
          )
          f.seats;
      all = omega (arith, sum, all);
      room = omega (arith, room);
    })

next_apart : (a b : ℕ) → b ≤ a → a + 1 ≢ b
next_apart a b less same = omega (arith, less, same)

pub open-fits : (n m : Node) (seat : ℕ) (role : Role) (list : List Address) (secure : Bool) (moment : ℕ) → OpenRow seat role list secure moment n m → NodeFits n → NodeFits m
open-fits n m seat role list secure moment row f =
    let t = new_session (n.begun + 1) role row.first row.others secure moment in
    let sum = places_put n seat None (Some t) row.none_yet in
    let all = f.all in
    subst NodeFits (sym row.after)
    (record {
      store = f.store;
      seats = seats_put n _ seat (Some t) refl
          (λ k w apart at o. seat_drawn n.begun (n.begun + 1) n.settings n.state n.drawn n.drawn w (omega arith) (le_refl _) o) (
            record { some = omega arith; begins = le_refl _; claim = tt; hold = tt },
            λ k w apart at. record { numbers = next_apart n.begun w.number (f.seats.each k w at).begins; claims = none_apart w.claim; holds = no_hold w.hold },
          )
          f.seats;
      all = omega (arith, sum, all);
      room = f.room;
    })
