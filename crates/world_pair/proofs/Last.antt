-- A row after which an end says nothing more.
use Rattle.std.proofs.Common.{◌≡◌, ◌≢◌, ℕ, Bool, true, false, ◌&&◌, List, [], ◌∷◌, Option, Some, None, length, refl, sym, ap, ◌∙◌, subst, ⊎_elim}
use Rattle.std.proofs.lemmas.Bool.{and_parts}
use Rattle.ftn_addr.specs.Address.{Address}
use Rattle.ftn_addr.specs.Key.{Key}
use Rattle.node_model.specs.Lists.{Member, Each, updated}
use Rattle.node_model.specs.Durable.{Durable, is_known}
use Rattle.node_model.specs.Node.{Hold, Seat, Session, Settings, Node, session_at, hold_in, taking_in}
use Rattle.node_model.specs.Rows.{FileAnswer, Have, Refuse, Elsewhere, Go, Whole, From, Late, mark_any, unheld, refuses}
use Rattle.node_model.proofs.Lists.{updated_at, updated_apart, decide_line, none_some, some_inj, off}
use Rattle.node_model.proofs.Moves.{Moved, put_at, put_apart, released-moved}
use Rattle.node_model.specs.Calls.{Fault, Disk, Read, Full, No_memory, Call, Answer, Event, one, Queue_call, Offer_call, Read_call, Got_call, Skip_call, File_call, Data_call, Offered, Nothing, Came, Settled, Filed, More, Whole_now, Refused, FileRefused, Unmade, NotMade, NodeStep, one_read_more}
use Rattle.node_model.specs.Talk.{Message, File, Data, Got, Get, Skip, End, Sending, Part, part_at, is_idle, Talk, Outcome, Goes_on, Waits, Ends, RowEnd as Ending, Finished, Out_of_turn, Too_late, Too_much, Refused_by, Verdict, on, AfterFile, AfterData, Nothing_held, Drops, Exceeds, Fits, AfterSettling, Settles, Passes_got, Skips, Passes_skip, Resends, Passes_get, TakeRow, SendVerdict, Sent, Fails, Reads, Fills, Awaits, Asks, AfterRead, AfterOffer, AfterSend, Says, Fills_out, Awaits_answer, Says_end, Waits_for_end, Ends_by, TurnRow, Finishes, Rests, Gives}
use Rattle.world_pair.proofs.Seen.{surely}
use Rattle.world_pair.specs.Course.{Course, Makes, StaysOpen, is_disk, BreaksNone}
use Rattle.world_pair.specs.World.{LineEnd, Finish, Place, addresses, with_sent, says, hushed, at_line}
use Rattle.world_pair.proofs.Flow.{goes_silent, flow_weaker}
use Rattle.world_pair.proofs.Inbound.{inbound_fewer, inbound_mark_any, known_after_mark_any}
use Rattle.world_pair.proofs.Line.{line_later, line_gone, line_receives}
use Rattle.world_pair.proofs.Half.{Alone, works_so, works_apart, on_lines, sender_line, receiver_line, sender_stays, receiver_stays}
use Rattle.world_pair.proofs.Quiet.{queue_of_mark_any}
use Rattle.world_pair.proofs.Receives.{none_told}
use Rattle.world_pair.proofs.Inverts.{one_call, no_call}
use Rattle.world_pair.specs.Flow.{At, Flow, GoesOn, Idle, Mode}
use Rattle.world_pair.specs.Invariant.{Carries, EntryIs, FinishStood, GotStands, InboxHolds, LineHolds, Occupied, QueueHolds, SettledStands, session_of, sits_at, unless_broken, while_talking, working_hold, working_session, working_session_of}

-- at most the mark of what a seat holds is made, and its hold may end
pub record Parted (n m : Node) (seat : ℕ) : Type 0 where
  pub held : Option Hold
  pub was : (h : Hold) → held ≡ Some h → working_hold n seat ≡ Some h
  pub state_is : m.state ≡ mark_any held n.state
  pub settings : m.settings ≡ n.settings
  pub broken : m.broken ≡ n.broken
  pub fewer : (h : Hold) → working_hold m seat ≡ Some h → working_hold n seat ≡ Some h
  pub peers : (s : Session) → session_at m seat ≡ Some s → (old : Session) × (session_at n seat ≡ Some old) × (s.first ≡ old.first) × (s.others ≡ old.others)
  pub stays : Occupied n seat → Occupied m seat
  pub apart : (k : ℕ) → k ≢ seat → session_at m k ≡ session_at n k

pub parted_still : (n m : Node) (seat : ℕ) → m.state ≡ n.state → m.settings ≡ n.settings → m.broken ≡ n.broken → ((k : ℕ) → session_at m k ≡ session_at n k) → Parted n m seat
parted_still n m seat state settings broken same =
    record { held = None; was = λ h e. none_some e; state_is = state; settings = settings; broken = broken; fewer = λ h e. ap hold_in (sym (works_apart n m seat broken (same seat))) ∙ e; peers = λ s e. (s, sym (same seat) ∙ e, refl, refl); stays = λ o. (o.0, same seat ∙ o.1); apart = λ k _. same k }

pub parted_same : (n m : Node) (seat : ℕ) → m ≡ n → Parted n m seat
parted_same n m seat e = parted_still n m seat (ap (λ (x : Node). x.state) e) (ap (λ (x : Node). x.settings) e) (ap (λ (x : Node). x.broken) e) (λ k. ap (λ (x : Node). session_at x k) e)

pub parted_released : (n m : Node) (seat : ℕ) (s : Session) → n.broken ≡ None → session_at n seat ≡ Some s → Moved n m seat (Some (unheld s)) (mark_any s.hold n.state) → Parted n m seat
parted_released n m seat s unbroken has moved =
    record {
      held = s.hold;
      was = λ h e. ap hold_in (works_so n seat unbroken ∙ has) ∙ e;
      state_is = moved.state_is;
      settings = moved.settings;
      broken = moved.broken;
      fewer = λ h e. none_some (sym (none_told m.broken (session_at m seat) (ap hold_in moved.here)) ∙ e);
      peers = λ t e. let same : t ≡ unheld s = some_inj (sym e ∙ moved.here) in (s, has, ap (λ (x : Session). x.first) same, ap (λ (x : Session). x.others) same);
      stays = λ o. (unheld s, moved.here);
      apart = moved.apart;
    }

pub parted_sends : (X Y : Place) (line seat : ℕ) → Alone X.ends line seat → (m : Node) (finish : Option Finish) → Parted X.node m seat → FinishStood X.first Y.node.state finish → Carries X Y → Carries (at_line line (hushed finish (X.ends line)) m X) Y
parted_sends X Y line seat sits m finish p ok half =
    let queue : m.state.queue ≡ X.node.state.queue = ap (λ (x : Durable). x.queue) p.state_is ∙ queue_of_mark_any p.held X.node.state in
    sender_stays X Y line seat sits m (hushed finish (X.ends line)) Y.ends refl (λ _ _. refl) p.apart
    (subst (QueueHolds X.queued) (sym queue) half.outbound)
    (λ s has. let w = p.peers s has in let k = half.peers seat w.0 w.1 in record { first_is = w.2 ∙ k.first_is; others_are = subst (Each (λ x. Member x Y.others)) (sym w.3) k.others_are })
    (λ number key is. subst (λ l. EntryIs l (addresses Y) number key) (sym queue) is)
    (subst (Each (SettledStands (addresses Y) X.first Y.node.state)) (sym queue) half.settled)
    (line_gone X.queued (addresses Y) X.first m.state.queue Y.node.state (X.ends line) (session_at X.node seat) (session_at m seat) (Y.ends line) (working_session_of Y.node (Y.ends line)) finish (X.ends line).seat ok (subst (λ q. LineHolds X.queued (addresses Y) X.first q Y.node.state (X.ends line) (session_at X.node seat) (Y.ends line) (working_session_of Y.node (Y.ends line))) (sym queue) (sender_line X Y line seat sits half)))
    half

pub parted_receives : (X Y : Place) (line seat : ℕ) → Alone Y.ends line seat → (m : Node) (finish : Option Finish) → Parted Y.node m seat → Carries X Y → Carries X (at_line line (hushed finish (Y.ends line)) m Y)
parted_receives X Y line seat sits m finish p half =
    let i = half.inbound in
    let known : (key : Key) → is_known X.first key Y.node.state ≡ true → is_known X.first key m.state ≡ true = λ key known. subst (λ (d : Durable). is_known X.first key d ≡ true) (sym p.state_is) (known_after_mark_any X.first key Y.node.state p.held ∙ known) in
    let l = line_later X.queued (addresses Y) X.first X.node.state.queue X.node.state.queue Y.node.state m.state (X.ends line) (session_of X.node (X.ends line)) (Y.ends line) (working_session Y.node seat) (λ _ _ is. is) known (receiver_line X Y line seat sits half) in
    let inbound = inbound_fewer X.queued (addresses Y) X.first (refuses Y.node.settings) (mark_any p.held Y.node.state) (working_hold Y.node) (working_hold m)
    (λ k h e. ⊎_elim (λ (same : k ≡ seat). ap (working_hold Y.node) same ∙ p.fewer h (ap (working_hold m) (sym same) ∙ e)) (λ (other : k ≢ seat). ap hold_in (sym (works_apart Y.node m k p.broken (p.apart k other))) ∙ e) (decide_line k seat))
    (inbound_mark_any X.queued (addresses Y) X.first (refuses Y.node.settings) Y.node.state (working_hold Y.node) p.held (λ h e. i.each_hold seat h (p.was h e)) i) in
    receiver_stays X Y line seat sits m (hushed finish (Y.ends line)) X.ends refl (λ _ _. refl) p.broken p.apart
    (subst (λ (q : Settings × Durable). InboxHolds X.queued (addresses Y) X.first (refuses q.0) q.1 (working_hold m)) (λ j. (sym p.settings j, sym p.state_is j)) inbound)
    known
    (line_receives X.queued (addresses Y) X.first X.node.state.queue m.state (X.ends line) (session_of X.node (X.ends line)) (Y.ends line) (hushed finish (Y.ends line)) (working_session Y.node seat) (working_session m seat) (X.ends line).outbox l.gots l.flow (λ h t _. off (sym t)) l)
    half

-- what an end said is not said after all, and it says nothing more

gots_front : (from : Address) (kept : Durable) (dropped : Bool) (box sent : List Message) → Each (GotStands from kept) (with_sent dropped box sent) → Each (GotStands from kept) box
gots_front from kept true box sent a = a
gots_front from kept false [] sent a = tt
gots_front from kept false (m ∷ box) sent a = (a.0, gots_front from kept false box sent a.1)

pub hush_sends : (X Y Z : Place) (line : ℕ) (m : Node) (u : Course) (sent : List Message) (finish : Option Finish) → Carries X Y → Z.first ≡ Y.first → Z.others ≡ Y.others → (Z.ends line).course ≡ (Y.ends line).course → (Z.ends line).seat ≡ (Y.ends line).seat → Z.node ≡ Y.node → FinishStood X.first Z.node.state finish → Carries (at_line line (says (X.ends line) (Some u) sent) m X) Z → Carries (at_line line (hushed finish (X.ends line)) m X) Z
hush_sends X Y Z line m u sent finish old first others talk seat node ok half =
    let e : LineEnd = X.ends line in
    let said : LineEnd = says e (Some u) sent in
    let shut : LineEnd = hushed finish e in
    let l = half.lines line in
    let o = old.lines line in
    record {
      outbound = half.outbound;
      peers = half.peers;
      inbound = half.inbound;
      settled = half.settled;
      lines = on_lines (LineHolds X.queued (addresses Z) X.first m.state.queue Z.node.state) line (updated X.ends line said) (updated X.ends line shut) Z.ends Z.ends (λ k. session_of m (updated X.ends line said k)) (λ k. session_of m (updated X.ends line shut k)) (λ k. working_session_of Z.node (Z.ends k)) (λ k. working_session_of Z.node (Z.ends k))
          (subst (λ x. LineHolds X.queued (addresses Z) X.first m.state.queue Z.node.state x (session_of m x) (Z.ends line) (working_session_of Z.node (Z.ends line))) (sym (updated_at X.ends line shut))
          (record {
            claims = λ t g a. none_some a;
            ended = λ t a. none_some a;
            offered = λ t a. none_some a;
            finished = ok;
            gots = l.gots;
            flow = flow_weaker X.queued (addresses Z) (GoesOn e.dropped e.course) (GoesOn e.dropped None) (λ k _. goes_silent e.dropped k) Idle e.outbox (at_there Idle o.flow);
            taken = λ h a b. flow_weaker X.queued (addresses Z) (GoesOn e.dropped e.course) (GoesOn e.dropped None) (λ k _. goes_silent e.dropped k) (At h.key (length h.bytes)) e.outbox (at_there (At h.key (length h.bytes)) (o.taken h (ap taking_in (sym same_ear) ∙ a) (ap hold_in (sym same_ear) ∙ b)));
          }))
          (λ k other. let same = updated_apart X.ends line shut k other ∙ sym (updated_apart X.ends line said k other) in (same, ap (session_of m) same, refl, refl))
          half.lines;
    }
  where
    at_there : (mode : Mode) → Flow X.queued (addresses Y) (GoesOn (X.ends line).dropped (X.ends line).course) mode (X.ends line).outbox → Flow X.queued (addresses Z) (GoesOn (X.ends line).dropped (X.ends line).course) mode (X.ends line).outbox
    at_there mode h = subst (λ (d : Address × List Address). Flow X.queued (d.0 ∷ d.1) (GoesOn (X.ends line).dropped (X.ends line).course) mode (X.ends line).outbox) (λ i. (sym first i, sym others i)) h

    same_ear : while_talking (Z.ends line).course (working_session_of Z.node (Z.ends line)) ≡ while_talking (Y.ends line).course (working_session_of Y.node (Y.ends line))
    same_ear = λ i. while_talking (talk i) (unless_broken ((node i).broken) (sits_at (node i) (seat i)))

pub hush_receives : (X Y : Place) (line : ℕ) (m : Node) (u : Course) (sent : List Message) (finish : Option Finish) → Carries X (at_line line (says (Y.ends line) (Some u) sent) m Y) → Carries X (at_line line (hushed finish (Y.ends line)) m Y)
hush_receives X Y line m u sent finish half =
    let said : LineEnd = says (Y.ends line) (Some u) sent in
    let shut : LineEnd = hushed finish (Y.ends line) in
    let l : LineHolds X.queued (addresses Y) X.first X.node.state.queue m.state (X.ends line) (session_of X.node (X.ends line)) said (working_session_of m said) = subst (λ x. LineHolds X.queued (addresses Y) X.first X.node.state.queue m.state (X.ends line) (session_of X.node (X.ends line)) x (working_session_of m x)) (updated_at Y.ends line said) (half.lines line) in
    record {
      outbound = half.outbound;
      peers = half.peers;
      inbound = half.inbound;
      settled = half.settled;
      lines = on_lines (LineHolds X.queued (addresses Y) X.first X.node.state.queue m.state) line X.ends X.ends (updated Y.ends line said) (updated Y.ends line shut) (λ k. session_of X.node (X.ends k)) (λ k. session_of X.node (X.ends k)) (λ k. working_session_of m (updated Y.ends line said k)) (λ k. working_session_of m (updated Y.ends line shut k))
          (subst (λ x. LineHolds X.queued (addresses Y) X.first X.node.state.queue m.state (X.ends line) (session_of X.node (X.ends line)) x (working_session_of m x)) (sym (updated_at Y.ends line shut))
          (line_receives X.queued (addresses Y) X.first X.node.state.queue m.state (X.ends line) (session_of X.node (X.ends line)) said shut (working_session_of m said) (working_session_of m shut) (X.ends line).outbox (gots_front X.first m.state (Y.ends line).dropped (Y.ends line).outbox sent l.gots) l.flow (λ h t _. off (sym t)) l))
          (λ k other. let same = updated_apart Y.ends line shut k other ∙ sym (updated_apart Y.ends line said k other) in (refl, refl, same, ap (working_session_of m) same))
          half.lines;
    }

-- rows that end a session part it from its hold at most

parted_file : (seat fulls : ℕ) (n m : Node) → n.broken ≡ None → FileRefused seat fulls n m → Parted n m seat
parted_file seat fulls n m unbroken r =
    let e = r.after in
    parted_released n m seat r.session unbroken r.has (record { state_is = ap (λ (x : Node). x.state) e; settings = ap (λ (x : Node). x.settings) e; broken = ap (λ (x : Node). x.broken) e; here = ap (λ (x : Node). session_at x seat) e ∙ (released-moved n seat r.session).here; apart = λ k o. ap (λ (x : Node). session_at x k) e ∙ (released-moved n seat r.session).apart k o })

parted_unmade : (seat fulls : ℕ) (n : Node) (call : Call) (m : Node) → n.broken ≡ None → Unmade seat fulls n call m → Parted n m seat
parted_unmade seat fulls n (File_call key offset) m unbroken r = parted_file seat fulls n m unbroken r
parted_unmade seat fulls n (Queue_call files taken answered) m unbroken r = let e = r.after in parted_still n m seat (ap (λ (x : Node). x.state) e) (ap (λ (x : Node). x.settings) e) (ap (λ (x : Node). x.broken) e) (λ k. ap (λ (x : Node). session_at x k) e)
parted_unmade seat fulls n call m unbroken e = parted_still n m seat (ap (λ (x : Node). x.state) e) (ap (λ (x : Node). x.settings) e) (ap (λ (x : Node). x.broken) e) (λ k. ap (λ (x : Node). session_at x k) e)

parted_read : (seat count : ℕ) (n m : Node) → m ≡ record (one_read_more seat n) { faults = count } → Parted n m seat
parted_read seat count n m r = parted_still n m seat (ap (λ (x : Node). x.state) r) (ap (λ (x : Node). x.settings) r) (ap (λ (x : Node). x.broken) r) same
  where
    same : (k : ℕ) → session_at m k ≡ session_at n k
    same k = ap (λ (y : Node). session_at y k) r ∙ ⊎_elim
        (λ (e : k ≡ seat). ap (λ (j : ℕ). session_at (one_read_more seat n) j) e ∙ (ap (λ (x : Seat). x.session) (put_at seat _ n.seats) ∙ ap (λ (j : ℕ). session_at n j) (sym e)))
        (λ (o : k ≢ seat). ap (λ (x : Seat). x.session) (put_apart seat _ n.seats k o))
        (decide_line k seat)

parted_refused : (seat : ℕ) (n : Node) (call : Call) (fault : Fault) (m : Node) → (is_disk (Refused fault) ≡ true → m ≡ n) → NotMade seat n call fault m → Parted n m seat
parted_refused seat n call (Disk count) m calm r = parted_same n m seat (calm refl)
parted_refused seat n call (Read count) m calm r = parted_read seat count n m r.3
parted_refused seat n call Full m calm r = parted_unmade seat _ n call m r.0 r.2
parted_refused seat n call No_memory m calm r = parted_unmade seat _ n call m r.0 r.2

-- the chain of these events, from the chain of those they are
along : (seat : ℕ) (n m : Node) (es es' : List Event) → es ≡ es' → Makes seat n es m → Makes seat n es' m
along seat n m es es' e c = subst (λ (l : List Event). Makes seat n l m) e c

is_refused_disk : (n m : Node) (call : Call) (fault : Fault) (es : List Event) → es ≡ one call (Refused fault) → BreaksNone n es m → is_disk (Refused fault) ≡ true → m ≡ n
is_refused_disk n m call fault es e h = (subst (λ (l : List Event). BreaksNone n l m) e h).0

-- a row that goes on does not end
goes_on : {A : Type 0} (v : Verdict) (t : Talk) (said : List Message) (end : Ending) → v ≡ on t said → v.outcome ≡ Ends end → A
goes_on v t said end is e = absurd (subst StaysOpen (sym (ap (λ (w : Verdict). w.outcome) is) ∙ e) tt)

settling : (seat : ℕ) (n m : Node) (t : Talk) (call : Call) (es : List Event) (v : Verdict) (end : Ending) (answer : Answer) → es ≡ one call answer → AfterSettling t answer v → v.outcome ≡ Ends end → BreaksNone n es m → Makes seat n es m → Parted n m seat
settling seat n m t call es v end (Refused fault) asks then ends calm chain = parted_refused seat n call fault m (is_refused_disk n m call fault es asks calm) (one_call seat n m call (Refused fault) (along seat n m _ _ asks chain))
settling seat n m t call es v end Settled asks then ends calm chain = goes_on v _ _ end then ends
settling seat n m t call es v end answer asks then ends calm chain = absurd then

pub take_parts : (seat : ℕ) (n m : Node) (t : Talk) (message : Message) (es : List Event) (v : Verdict) (end : Ending) → TakeRow (part_at n seat) t message es v → v.outcome ≡ Ends end → BreaksNone n es m → Makes seat n es m → Parted n m seat
take_parts seat n m t (File key offset) es v end r ends calm chain = go r.answer r.asks (one_call seat n m (File_call key offset) r.answer (along seat n m _ _ r.asks chain)) r.then
  where
    filed : (x : FileAnswer) → NodeStep seat n (File_call key offset) (Filed x) m → AfterFile t key (Filed x) v → Parted n m seat
    filed Have step then = goes_on v t _ end then ends
    filed Refuse step then = goes_on v t _ end then ends
    filed Whole step then = goes_on v t _ end then ends
    filed Elsewhere step then = goes_on v t _ end then ends
    filed (From place) step then = goes_on v t _ end then ends
    filed Go step then = goes_on v t _ end then ends
    filed Late step then =
        let row = step.1 in
        let e = row.made in
        parted_released n m seat row.session (surely step.0) row.has (record { state_is = ap (λ (x : Node). x.state) e; settings = ap (λ (x : Node). x.settings) e; broken = ap (λ (x : Node). x.broken) e; here = ap (λ (x : Node). session_at x seat) e ∙ (released-moved n seat row.session).here; apart = λ k o. ap (λ (x : Node). session_at x k) e ∙ (released-moved n seat row.session).apart k o })

    go : (answer : Answer) → es ≡ one (File_call key offset) answer → NodeStep seat n (File_call key offset) answer m → AfterFile t key answer v → Parted n m seat
    go (Filed x) asks step then = filed x step then
    go (Refused fault) asks step then = parted_refused seat n (File_call key offset) fault m (is_refused_disk n m (File_call key offset) fault es asks calm) step
    go answer asks step then = absurd then
take_parts seat n m t (Data bytes) es v end (Nothing_held a b c) ends calm chain = goes_on v t _ end c ends
take_parts seat n m t (Data bytes) es v end (Drops p a b d c) ends calm chain = goes_on v t _ end c ends
take_parts seat n m t (Data bytes) es v end (Exceeds h a b c none d) ends calm chain = parted_same n m seat (no_call seat n m (along seat n m _ _ none chain))
take_parts seat n m t (Data bytes) es v end (Fits h a b c answer asks then) ends calm chain = go answer asks (one_call seat n m (Data_call bytes) answer (along seat n m _ _ asks chain)) then
  where
    go : (answer : Answer) → es ≡ one (Data_call bytes) answer → NodeStep seat n (Data_call bytes) answer m → AfterData t h.key answer v → Parted n m seat
    go More asks step then = goes_on v t _ end then ends
    go Whole_now asks step then = goes_on v t _ end then ends
    go (Refused fault) asks step then = parted_refused seat n (Data_call bytes) fault m (is_refused_disk n m (Data_call bytes) fault es asks calm) step
    go answer asks step then = absurd then
take_parts seat n m t (Got key) es v end (Passes_got a b c) ends calm chain = goes_on v t _ end c ends
take_parts seat n m t (Got key) es v end (Settles s a b answer asks then) ends calm chain = settling seat n m t (Got_call s.number) es v end answer asks then ends calm chain
take_parts seat n m t (Skip key) es v end (Passes_skip a b c) ends calm chain = goes_on v t _ end c ends
take_parts seat n m t (Skip key) es v end (Skips s a b answer asks then) ends calm chain = settling seat n m t (Skip_call s.number) es v end answer asks then ends calm chain
take_parts seat n m t (Get key offset) es v end (Passes_get a b c) ends calm chain = goes_on v t _ end c ends
take_parts seat n m t (Get key offset) es v end (Resends s a b c d e) ends calm chain = goes_on v _ _ end e ends
take_parts seat n m t End es v end r ends calm chain = goes_on v _ _ end r.1 ends

stays_open : {A : Type 0} (v w : Verdict) (end : Ending) → StaysOpen w.outcome → v ≡ w → v.outcome ≡ Ends end → A
stays_open v w end o is e = absurd (subst StaysOpen (sym (ap (λ (x : Verdict). x.outcome) is) ∙ e) o)

-- only a fault of the sender ends a turn in which it has its say
sent_parts : {A : Type 0} (t : Talk) (v : Verdict) (w : SendVerdict) (end : Ending) → v.outcome ≡ Ends end → ((fault : Fault) → w ≡ Fails fault → A) → AfterSend t v w → A
sent_parts t v w end ends fails (Says is) = stays_open v _ end tt is ends
sent_parts t v w end ends fails (Fills_out is) = stays_open v _ end tt is ends
sent_parts t v w end ends fails (Awaits_answer is) = stays_open v _ end tt is ends
sent_parts t v w end ends fails (Says_end may is) = stays_open v _ end tt is ends
sent_parts t v w end ends fails (Waits_for_end may is) = stays_open v _ end tt is ends
sent_parts t v w end ends fails (Ends_by {fault = fault} is) = fails fault refl

differs : {A : Type 0} (m : Message) (s : Sending) (fault : Fault) → Sent m s ≡ Fails fault → A
differs m s fault e = absurd (cc)

pub turn_parts : (seat : ℕ) (n m : Node) (block : ℕ) (t : Talk) (es : List Event) (v : Verdict) (end : Ending) → TurnRow block (part_at n seat) t es v → v.outcome ≡ Ends end → BreaksNone n es m → Makes seat n es m → Parted n m seat
turn_parts seat n m block t es v end (Finishes done none is) ends calm chain = parted_same n m seat (no_call seat n m (along seat n m _ _ none chain))
turn_parts seat n m block t es v end (Rests a b none is) ends calm chain = stays_open v _ end tt is ends
turn_parts seat n m block t es v end (Gives own w (Fills s a b none is) after) ends calm chain = parted_same n m seat (no_call seat n m (along seat n m _ _ none chain))
turn_parts seat n m block t es v end (Gives own w (Awaits s a c b none is) after) ends calm chain = parted_same n m seat (no_call seat n m (along seat n m _ _ none chain))
turn_parts seat n m block t es v end (Gives own w (Reads s a b answer asks read) after) ends calm chain = go answer asks (one_call seat n m (Read_call s.place block) answer (along seat n m _ _ asks chain)) read
  where
    go : (answer : Answer) → es ≡ one (Read_call s.place block) answer → NodeStep seat n (Read_call s.place block) answer m → AfterRead block s answer w → Parted n m seat
    go (Came bytes) asks step then = parted_same n m seat step.1.after
    go (Refused fault) asks step then = parted_refused seat n (Read_call s.place block) fault m (is_refused_disk n m (Read_call s.place block) fault es asks calm) step
    go answer asks step then = absurd then
turn_parts seat n m block t es v end (Gives own w (Asks none answer asks offered) after) ends calm chain = go answer asks (one_call seat n m Offer_call answer (along seat n m _ _ asks chain)) offered
  where
    go : (answer : Answer) → es ≡ one Offer_call answer → NodeStep seat n Offer_call answer m → AfterOffer answer w → Parted n m seat
    go (Offered number k) asks step then = sent_parts t v w end ends (λ fault e. differs _ _ fault (sym then ∙ e)) after
    go Nothing asks step then = parted_same n m seat step.1.after
    go (Refused fault) asks step then = parted_refused seat n Offer_call fault m (is_refused_disk n m Offer_call fault es asks calm) step
    go answer asks step then = absurd then

-- Finished comes only where the own end was said

abbrev is_finish : Outcome → Bool
is_finish (Ends Finished) = true
is_finish (Ends Out_of_turn) = false
is_finish (Ends Too_late) = false
is_finish (Ends Too_much) = false
is_finish (Ends (Refused_by fault)) = false
is_finish Goes_on = false
is_finish Waits = false

pub finish_own : (block : ℕ) (part : Option Part) (t : Talk) (es : List Event) (v : Verdict) → TurnRow block part t es v → v.outcome ≡ Ends Finished → t.own_end ≡ true
finish_own block part t es v (Finishes done none is) e = (and_parts t.own_end (t.peer_end && is_idle part) done).0
finish_own block part t es v (Rests a own none is) e = own
finish_own block part t es v (Gives own w row after) e = not_finished w after
  where
    other : (x : Verdict) → is_finish x.outcome ≡ false → v ≡ x → t.own_end ≡ true
    other x no_end is = off (sym (ap is_finish (sym (ap (λ (y : Verdict). y.outcome) is) ∙ e)) ∙ no_end)

    not_finished : (w : SendVerdict) → AfterSend t v w → t.own_end ≡ true
    not_finished w (Says is) = other _ refl is
    not_finished w (Fills_out is) = other _ refl is
    not_finished w (Awaits_answer is) = other _ refl is
    not_finished w (Says_end may is) = other _ refl is
    not_finished w (Waits_for_end may is) = other _ refl is
    not_finished w (Ends_by is) = other _ refl is
