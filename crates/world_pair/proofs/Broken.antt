-- Single durable changes, and stores that break.
use Rattle.std.proofs.Common.{◌≡◌, ◌≢◌, ℕ, Bool, true, List, [], ◌∷◌, Option, Some, None, refl, sym, ap, ◌∙◌, subst, ⊎_elim}
use Rattle.ftn_addr.specs.Address.{Address}
use Rattle.ftn_addr.specs.Key.{Key}
use Rattle.node_model.specs.Lists.{Member, Each, updated}
use Rattle.node_model.specs.Items.{Entry}
use Rattle.node_model.specs.Durable.{Durable, is_known}
use Rattle.node_model.specs.Node.{Hold, Session, Node, session_at, hold_in, claim_in}
use Rattle.node_model.specs.Rows.{refuses, unheld}
use Rattle.node_model.specs.Calls.{unheld_in}
use Rattle.node_model.specs.Talk.{Message}
use Rattle.world_pair.specs.Course.{Course}
use Rattle.world_pair.specs.World.{GivenFile, LineEnd, Finish, Place, addresses, with_end, with_state}
use Rattle.node_model.proofs.Lists.{updated_at, updated_apart, decide_line, none_some, some_inj, off}
use Rattle.world_pair.proofs.Outbound.{entry_done}
use Rattle.world_pair.proofs.Line.{line_later, line_gone, line_receives}
use Rattle.world_pair.proofs.Half.{on_lines}
use Rattle.world_pair.proofs.Seen.{Take, Take_file, Take_more, Take_whole, Drop_data, Take_got, Pass_got, Take_skip, Pass_skip, Take_get, Pass_get, Take_end}
use Rattle.world_pair.proofs.Quiet.{quiet_file, quiet_more, quiet_whole}
use Rattle.node_model.proofs.Moves.{got-moved, skip-moved}
use Rattle.world_pair.specs.Invariant.{Carries, EntryIs, FinishStood, InboxHolds, LineHolds, QueueHolds, SettledStands, session_of, sits_at, unless_broken, while_talking, working_hold, working_session_of}

-- A store breaks in a call of that seat, with that durable state; nothing is said of what the seat held.
pub record BreaksTo (seat : ℕ) (n : Node) (d : Durable) (m : Node) : Type 0 where
  pub unbroken : n.broken ≡ None
  pub count : ℕ
  pub broken : m.broken ≡ Some count
  pub state : m.state ≡ d
  pub settings : m.settings ≡ n.settings
  pub others : (k : ℕ) → k ≢ seat → session_at m k ≡ session_at n k
  pub own : unheld_in (session_at m seat) ≡ unheld_in (session_at n seat)

-- the same, seen from what the call had made
pub breaks_from : (seat : ℕ) (n x m : Node) → BreaksTo seat n m.state m → x.broken ≡ n.broken → x.settings ≡ n.settings → ((k : ℕ) → session_at x k ≡ session_at n k) → m.state ≡ x.state → BreaksTo seat x x.state m
breaks_from seat n x m b broken settings sessions state =
    record { unbroken = broken ∙ b.unbroken; count = b.count; broken = b.broken; state = state; settings = b.settings ∙ sym settings; others = λ k apart. b.others k apart ∙ sym (sessions k); own = b.own ∙ ap unheld_in (sym (sessions seat)) }

-- the sender's session is another with the same claim
line_claim : (files : List GivenFile) (dests : List Address) (from : Address) (queue : List Entry) (kept : Durable) (e : LineEnd) (s s' : Option Session) (f : LineEnd) (r : Option Session) → claim_in s' ≡ claim_in s → LineHolds files dests from queue kept e s f r → LineHolds files dests from queue kept e s' f r
line_claim files dests from queue kept e s s' f r same l =
    record { claims = λ t g a b. let c = l.claims t g a b in (same ∙ c.0, c.1); ended = l.ended; offered = l.offered; finished = l.finished; gots = l.gots; flow = l.flow; taken = l.taken }

-- the receiver is told nothing any more
deaf : (o : Option Course) (h : Hold) → hold_in (while_talking o None) ≡ Some h → ⊥
deaf None h e = none_some e
deaf (Some t) h e = none_some e

line_deaf : (files : List GivenFile) (dests : List Address) (from : Address) (queue : List Entry) (kept : Durable) (e : LineEnd) (s : Option Session) (f : LineEnd) (r : Option Session) (b : Option ℕ) (t : Option Session) (count : ℕ) → b ≡ Some count → LineHolds files dests from queue kept e s f r → LineHolds files dests from queue kept e s f (unless_broken b t)
line_deaf files dests from queue kept e s f r b t count broken l =
    subst (λ x. LineHolds files dests from queue kept e s f (unless_broken x t)) (sym broken)
    (record { claims = l.claims; ended = l.ended; offered = l.offered; finished = l.finished; gots = l.gots; flow = l.flow; taken = λ h a c. absurd (deaf f.course h c) })

-- sessions with the same claims and peers

claim_unheld : (o : Option Session) → claim_in (unheld_in o) ≡ claim_in o
claim_unheld None = refl
claim_unheld (Some s) = refl

unheld_was : (o : Option Session) (s : Session) → Some (unheld s) ≡ unheld_in o → (w : Session) × (o ≡ Some w) × (s.first ≡ w.first) × (s.others ≡ w.others)
unheld_was None s e = none_some (sym e)
unheld_was (Some w) s e = let same : unheld s ≡ unheld w = some_inj e in (w, refl, ap (λ (x : Session). x.first) same, ap (λ (x : Session). x.others) same)

pub claims_kept : (seat : ℕ) (n : Node) (d : Durable) (m : Node) → BreaksTo seat n d m → (k : ℕ) → claim_in (session_at m k) ≡ claim_in (session_at n k)
claims_kept seat n d m b k = ⊎_elim
    (λ (same : k ≡ seat). ap (λ j. claim_in (session_at m j)) same ∙ (sym (claim_unheld (session_at m seat)) ∙ (ap claim_in b.own ∙ (claim_unheld (session_at n seat) ∙ ap (λ j. claim_in (session_at n j)) (sym same)))))
    (λ (other : k ≢ seat). ap claim_in (b.others k other))
    (decide_line k seat)

session_was : (seat : ℕ) (n : Node) (d : Durable) (m : Node) → BreaksTo seat n d m → (k : ℕ) (s : Session) → session_at m k ≡ Some s → (w : Session) × (session_at n k ≡ Some w) × (s.first ≡ w.first) × (s.others ≡ w.others)
session_was seat n d m b k s has = ⊎_elim
    (λ (same : k ≡ seat). subst (λ j. (w : Session) × (session_at n j ≡ Some w) × (s.first ≡ w.first) × (s.others ≡ w.others)) (sym same) (unheld_was (session_at n seat) s (ap unheld_in (sym has ∙ ap (session_at m) same) ∙ b.own)))
    (λ (other : k ≢ seat). (s, sym (b.others k other) ∙ has, refl, refl))
    (decide_line k seat)

pub still_there : (seat : ℕ) (n : Node) (d : Durable) (m : Node) → BreaksTo seat n d m → (k : ℕ) → (s : Session) × (session_at n k ≡ Some s) → (s : Session) × (session_at m k ≡ Some s)
still_there seat n d m b k o = ⊎_elim
    (λ (same : k ≡ seat). go (session_at m k) refl (ap (λ j. unheld_in (session_at m j)) same ∙ (b.own ∙ (ap (λ j. unheld_in (session_at n j)) (sym same) ∙ ap unheld_in o.1))))
    (λ (other : k ≢ seat). (o.0, b.others k other ∙ o.1))
    (decide_line k seat)
  where
    go : (x : Option Session) → session_at m k ≡ x → unheld_in x ≡ Some (unheld o.0) → (s : Session) × (session_at m k ≡ Some s)
    go None e c = none_some c
    go (Some s) e c = (s, e)

sits_claim : (n m : Node) (o : Option ℕ) → ((k : ℕ) → claim_in (session_at m k) ≡ claim_in (session_at n k)) → claim_in (sits_at m o) ≡ claim_in (sits_at n o)
sits_claim n m None same = refl
sits_claim n m (Some k) same = same k

-- the sender's store breaks
pub broken_sends : (X Y : Place) (seat : ℕ) (d : Durable) (m : Node) → BreaksTo seat X.node d m → QueueHolds X.queued d.queue → Each (SettledStands (addresses Y) X.first Y.node.state) d.queue
    → ((number : ℕ) (key : Key) → EntryIs X.node.state.queue (addresses Y) number key → EntryIs d.queue (addresses Y) number key)
    → Carries X Y → Carries (record X { node = m }) Y
broken_sends X Y seat d m b outbound settled entries half =
    record {
      outbound = subst (λ (x : Durable). QueueHolds X.queued x.queue) (sym b.state) outbound;
      peers = λ k s has. let w = session_was seat X.node d m b k s has in let p = half.peers k w.0 w.1 in record { first_is = w.2 ∙ p.first_is; others_are = subst (Each (λ x. Member x Y.others)) (sym w.3) p.others_are };
      inbound = half.inbound;
      settled = subst (λ (x : Durable). Each (SettledStands (addresses Y) X.first Y.node.state) x.queue) (sym b.state) settled;
      lines = λ k. line_claim X.queued (addresses Y) X.first m.state.queue Y.node.state (X.ends k) (session_of X.node (X.ends k)) (session_of m (X.ends k)) (Y.ends k) (working_session_of Y.node (Y.ends k)) (sits_claim X.node m (X.ends k).seat (claims_kept seat X.node d m b))
          (line_later X.queued (addresses Y) X.first X.node.state.queue m.state.queue Y.node.state Y.node.state (X.ends k) (session_of X.node (X.ends k)) (Y.ends k) (working_session_of Y.node (Y.ends k)) (λ number key is. subst (λ (x : Durable). EntryIs x.queue (addresses Y) number key) (sym b.state) (entries number key is)) (λ _ known. known) (half.lines k));
    }

-- the receiver's store breaks
pub broken_receives : (X Y : Place) (seat : ℕ) (d : Durable) (m : Node) (refuse : Key → Bool) (holds : ℕ → Option Hold) → BreaksTo seat Y.node d m → InboxHolds X.queued (addresses Y) X.first refuse d holds → ((key : Key) → is_known X.first key Y.node.state ≡ true → is_known X.first key d ≡ true) → Carries X Y → Carries X (record Y { node = m })
broken_receives X Y seat d m refuse holds b inbound known half =
    let now : (key : Key) → is_known X.first key Y.node.state ≡ true → is_known X.first key m.state ≡ true = λ key k. subst (λ (x : Durable). is_known X.first key x ≡ true) (sym b.state) (known key k) in
    record {
      outbound = half.outbound;
      peers = half.peers;
      inbound = subst (λ (q : Durable × Option ℕ). InboxHolds X.queued (addresses Y) X.first (refuses m.settings) q.0 (λ k. hold_in (unless_broken q.1 (session_at m k)))) (λ i. (sym b.state i, sym b.broken i)) (record { once = inbound.once; items = inbound.items; marks = inbound.marks; each_hold = λ k h e. none_some e; apart = λ j k g h a c. none_some a });
      settled = settled now X.node.state.queue half.settled;
      lines = λ k. line_deaf X.queued (addresses Y) X.first X.node.state.queue m.state (X.ends k) (session_of X.node (X.ends k)) (Y.ends k) (working_session_of Y.node (Y.ends k)) m.broken (session_of m (Y.ends k)) b.count b.broken
          (line_later X.queued (addresses Y) X.first X.node.state.queue X.node.state.queue Y.node.state m.state (X.ends k) (session_of X.node (X.ends k)) (Y.ends k) (working_session_of Y.node (Y.ends k)) (λ _ _ is. is) now (half.lines k));
    }
  where
    settled : ((key : Key) → is_known X.first key Y.node.state ≡ true → is_known X.first key m.state ≡ true) → (queue : List Entry) → Each (SettledStands (addresses Y) X.first Y.node.state) queue → Each (SettledStands (addresses Y) X.first m.state) queue
    settled now [] h = tt
    settled now (e ∷ es) h = ((λ done. let a = h.0 done in (a.0, now e.key a.1)), settled now es h.1)

-- the durable state of a receiver alone changes
pub state_receives : (X Y : Place) (d : Durable) → InboxHolds X.queued (addresses Y) X.first (refuses Y.node.settings) d (working_hold Y.node) → ((key : Key) → is_known X.first key Y.node.state ≡ true → is_known X.first key d ≡ true) → Carries X Y → Carries X (record Y { node = with_state d Y.node })
state_receives X Y d inbound known half =
    record {
      outbound = half.outbound;
      peers = half.peers;
      inbound = inbound;
      settled = settled X.node.state.queue half.settled;
      lines = λ k. line_later X.queued (addresses Y) X.first X.node.state.queue X.node.state.queue Y.node.state d (X.ends k) (session_of X.node (X.ends k)) (Y.ends k) (working_session_of Y.node (Y.ends k)) (λ _ _ is. is) known (half.lines k);
    }
  where
    settled : (queue : List Entry) → Each (SettledStands (addresses Y) X.first Y.node.state) queue → Each (SettledStands (addresses Y) X.first d) queue
    settled [] h = tt
    settled (e ∷ es) h = ((λ done. let a = h.0 done in (a.0, known e.key a.1)), settled es h.1)

pub state_sends : (X Y : Place) (d : Durable) → d.queue ≡ X.node.state.queue → Carries X Y → Carries (record X { node = with_state d X.node }) Y
state_sends X Y d same half =
    record {
      outbound = subst (QueueHolds X.queued) (sym same) half.outbound;
      peers = half.peers;
      inbound = half.inbound;
      settled = subst (Each (SettledStands (addresses Y) X.first Y.node.state)) (sym same) half.settled;
      lines = λ k. subst (λ q. LineHolds X.queued (addresses Y) X.first q Y.node.state (X.ends k) (session_of X.node (X.ends k)) (Y.ends k) (working_session_of Y.node (Y.ends k))) (sym same) (half.lines k);
    }

-- an end says nothing more

pub end_sends : (X Y : Place) (line : ℕ) (seat : Option ℕ) (finish : Option Finish) → FinishStood X.first Y.node.state finish → Carries X Y → Carries (with_end line (record (X.ends line) { seat = seat; course = None; finish = finish }) X) Y
end_sends X Y line seat finish ok half =
    let e : LineEnd = record (X.ends line) { seat = seat; course = None; finish = finish } in
    record {
      outbound = half.outbound;
      peers = half.peers;
      inbound = half.inbound;
      settled = half.settled;
      lines = on_lines (LineHolds X.queued (addresses Y) X.first X.node.state.queue Y.node.state) line X.ends (updated X.ends line e) Y.ends Y.ends (λ k. session_of X.node (X.ends k)) (λ k. session_of X.node (updated X.ends line e k)) (λ k. working_session_of Y.node (Y.ends k)) (λ k. working_session_of Y.node (Y.ends k))
          (subst (λ x. LineHolds X.queued (addresses Y) X.first X.node.state.queue Y.node.state x (session_of X.node x) (Y.ends line) (working_session_of Y.node (Y.ends line))) (sym (updated_at X.ends line e))
          (line_gone X.queued (addresses Y) X.first X.node.state.queue Y.node.state (X.ends line) (session_of X.node (X.ends line)) (session_of X.node e) (Y.ends line) (working_session_of Y.node (Y.ends line)) finish seat ok (half.lines line)))
          (λ k other. (updated_apart X.ends line e k other, ap (session_of X.node) (updated_apart X.ends line e k other), refl, refl))
          half.lines;
    }

pub end_receives : (X Y : Place) (line : ℕ) (seat : Option ℕ) (finish : Option Finish) → Carries X Y → Carries X (with_end line (record (Y.ends line) { seat = seat; course = None; finish = finish }) Y)
end_receives X Y line seat finish half =
    let f : LineEnd = record (Y.ends line) { seat = seat; course = None; finish = finish } in
    let l = half.lines line in
    record {
      outbound = half.outbound;
      peers = half.peers;
      inbound = half.inbound;
      settled = half.settled;
      lines = on_lines (LineHolds X.queued (addresses Y) X.first X.node.state.queue Y.node.state) line X.ends X.ends Y.ends (updated Y.ends line f) (λ k. session_of X.node (X.ends k)) (λ k. session_of X.node (X.ends k)) (λ k. working_session_of Y.node (Y.ends k)) (λ k. working_session_of Y.node (updated Y.ends line f k))
          (subst (λ x. LineHolds X.queued (addresses Y) X.first X.node.state.queue Y.node.state (X.ends line) (session_of X.node (X.ends line)) x (working_session_of Y.node x)) (sym (updated_at Y.ends line f))
          (line_receives X.queued (addresses Y) X.first X.node.state.queue Y.node.state (X.ends line) (session_of X.node (X.ends line)) (Y.ends line) f (working_session_of Y.node (Y.ends line)) (working_session_of Y.node f) (X.ends line).outbox l.gots l.flow (λ h t _. off (sym t)) l))
          (λ k other. (refl, refl, updated_apart Y.ends line f k other, ap (working_session_of Y.node) (updated_apart Y.ends line f k other)))
          half.lines;
    }

-- entries stay the same files in a take
pub take_entries : (dests : List Address) (number : ℕ) (key : Key) (seat : ℕ) (n : Node) (t : Course) (m : Node) (u : Course) (sent : List Message) (w : Message) → Take seat n t m u sent w → EntryIs n.state.queue dests number key → EntryIs m.state.queue dests number key
take_entries dests number key seat n t m u sent w (Take_file {key = k} {offset = offset} answer _ row reply same) is = subst (λ q. EntryIs q dests number key) (sym (quiet_file n m seat k offset answer row).queue) is
take_entries dests number key seat n t m u sent w (Take_more {bytes = bytes} _ row none same) is = subst (λ q. EntryIs q dests number key) (sym (quiet_more n m seat bytes row).queue) is
take_entries dests number key seat n t m u sent w (Take_whole {bytes = bytes} _ row got same) is = subst (λ q. EntryIs q dests number key) (sym (quiet_whole n m seat bytes row).queue) is
take_entries dests number key seat n t m u sent w (Drop_data idle node none same) is = subst (λ (x : Node). EntryIs x.state.queue dests number key) (sym node) is
take_entries dests number key seat n t m u sent w (Take_got s under same row none change) is = subst (λ (x : Durable). EntryIs x.queue dests number key) (sym (got-moved n m seat s.number row).state_is) (entry_done n.state.queue dests s.number number key is)
take_entries dests number key seat n t m u sent w (Pass_got other node none same) is = subst (λ (x : Node). EntryIs x.state.queue dests number key) (sym node) is
take_entries dests number key seat n t m u sent w (Take_skip s under same row none change) is = subst (λ (x : Durable). EntryIs x.queue dests number key) (sym (skip-moved n m seat s.number row).state_is) is
take_entries dests number key seat n t m u sent w (Pass_skip other node none change) is = subst (λ (x : Node). EntryIs x.state.queue dests number key) (sym node) is
take_entries dests number key seat n t m u sent w (Take_get s under same fits node says_file change) is = subst (λ (x : Node). EntryIs x.state.queue dests number key) (sym node) is
take_entries dests number key seat n t m u sent w (Pass_get other node none same) is = subst (λ (x : Node). EntryIs x.state.queue dests number key) (sym node) is
take_entries dests number key seat n t m u sent w (Take_end node none change) is = subst (λ (x : Node). EntryIs x.state.queue dests number key) (sym node) is
