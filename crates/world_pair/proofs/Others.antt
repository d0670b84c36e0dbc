-- The other events: queues, calls, drops, ends of sessions, stops.
use Rattle.std.proofs.Common.{◌≡◌, ◌≢◌, ℕ, Bool, true, List, [], ◌∷◌, ◌++◌, Option, Some, None, length, map, refl, sym, ap, ◌∙◌, subst, inl, inr, ⊎_elim}
use Rattle.ftn_addr.specs.Address.{Address}
use Rattle.ftn_addr.specs.Key.{Key}
use Rattle.node_model.specs.Lists.{Member, Each, updated}
use Rattle.node_model.specs.Items.{Entry}
use Rattle.node_model.specs.Durable.{Durable, is_known}
use Rattle.node_model.specs.Node.{Hold, Session, Settings, Opening, Node, session_at, hold_in, takes, taking_in}
use Rattle.node_model.specs.Rows.{LeaveRow, FileAnswer, Have, Refuse, Elsewhere, Go, Whole, From, Late, mark_any, released, unheld, grown, receipt_of, refuses}
use Rattle.node_model.specs.SendRows.{Slot, NewFile, QueueRow}
use Rattle.node_model.specs.declared.words.Role.{Role}
use Rattle.world_pair.specs.Course.{Course, first_course}
use Rattle.world_pair.proofs.Seen.{Answered, Take, Take_file, Take_more, Take_whole, Drop_data, Take_got, Pass_got, Take_skip, Pass_skip, Take_get, Pass_get, Take_end}
use Rattle.node_model.specs.Talk.{Sending}
use Rattle.node_model.specs.Talk.{Message, File, Data, Got, Get, Skip, End}
use Rattle.world_pair.specs.World.{GivenFile, LineEnd, Place, addresses, opened, gone, cut, with_outbox, at_line, with_end, after_stop, given_file}
use Rattle.node_model.proofs.Lists.{updated_at, updated_apart, decide_line, none_some, some_inj, off, Each-weaker}
use Rattle.world_pair.proofs.Flow.{goes_silent, flow_idle, flow_weaker}
use Rattle.world_pair.proofs.Inbound.{inbound_fewer, inbound_grows, inbound_mark_any, known_after, known_after_refusal, known_after_mark_any}
use Rattle.world_pair.proofs.Outbound.{outbound_grows, outbound_queues, entry_queues, settled_queues, enqueued_keeps, new_are_there}
use Rattle.node_model.proofs.Moves.{Moved, leave-moved, more-moved, whole-moved}
use Rattle.world_pair.proofs.Line.{line_later, line_grows, line_gone, line_cut, line_receives, gots_cut}
use Rattle.world_pair.proofs.Half.{Alone, works_so, works_apart, on_lines, sender_moves, receiver_moves}
use Rattle.world_pair.proofs.Quiet.{queue_of_mark_any}
use Rattle.world_pair.proofs.Receives.{none_told, known_at_stride}
use Rattle.world_pair.specs.Flow.{At, Flow, GoesOn, Idle, Mode}
use Rattle.world_pair.specs.Invariant.{Carries, EntryIs, FinishStood, GotStands, InboxHolds, LineHolds, OnItsWay, PeersAre, QueueHolds, SettledStands, session_of, while_talking, working_hold, working_session, working_session_of}

-- the end of a session

pub leave_sends : (X Y : Place) (line seat : ℕ) → Alone X.ends line seat → (m : Node) → LeaveRow seat X.node m → Carries X Y → Carries (at_line line (gone (X.ends line)) m X) Y
leave_sends X Y line seat sits m (inl row) half =
    let moved = leave-moved X.node m seat row in
    let queue : m.state.queue ≡ X.node.state.queue = ap (λ (x : Durable). x.queue) moved.state_is ∙ queue_of_mark_any row.session.hold X.node.state in
    let l = half.lines line in
    sender_moves X Y line seat m (gone (X.ends line)) Y.ends sits.others (λ _ _. refl) moved.apart
    (subst (QueueHolds X.queued) (sym queue) half.outbound)
    (λ s has. none_some (sym moved.here ∙ has))
    (λ number key is. subst (λ l. EntryIs l (addresses Y) number key) (sym queue) is)
    (subst (Each (SettledStands (addresses Y) X.first Y.node.state)) (sym queue) half.settled)
    (line_gone X.queued (addresses Y) X.first m.state.queue Y.node.state (X.ends line) (session_of X.node (X.ends line)) None (Y.ends line) (working_session_of Y.node (Y.ends line)) (X.ends line).finish None l.finished (subst (λ q. LineHolds X.queued (addresses Y) X.first q Y.node.state (X.ends line) (session_of X.node (X.ends line)) (Y.ends line) (working_session_of Y.node (Y.ends line))) (sym queue) l))
    half
leave_sends X Y line seat sits m (inr row) half =
    let l = half.lines line in
    subst (λ x. Carries (at_line line (gone (X.ends line)) x X) Y) (sym row.1)
    (sender_moves X Y line seat X.node (gone (X.ends line)) Y.ends sits.others (λ _ _. refl) (λ _ _. refl) half.outbound (half.peers seat) (λ _ _ is. is) half.settled
    (line_gone X.queued (addresses Y) X.first X.node.state.queue Y.node.state (X.ends line) (session_of X.node (X.ends line)) None (Y.ends line) (working_session_of Y.node (Y.ends line)) (X.ends line).finish None l.finished l)
    half)

pub leave_receives : (X Y : Place) (line seat : ℕ) → Alone Y.ends line seat → (m : Node) → Y.node.broken ≡ None → LeaveRow seat Y.node m → Carries X Y → Carries X (at_line line (gone (Y.ends line)) m Y)
leave_receives X Y line seat sits m unbroken (inl row) half =
    let i = half.inbound in
    let moved = leave-moved Y.node m seat row in
    let s = row.session in
    let known : (key : Key) → is_known X.first key Y.node.state ≡ true → is_known X.first key m.state ≡ true = λ key known. subst (λ (d : Durable). is_known X.first key d ≡ true) (sym moved.state_is) (known_after_mark_any X.first key Y.node.state s.hold ∙ known) in
    let l = line_later X.queued (addresses Y) X.first X.node.state.queue X.node.state.queue Y.node.state m.state (X.ends line) (session_of X.node (X.ends line)) (Y.ends line) (working_session_of Y.node (Y.ends line)) (λ _ _ is. is) known (half.lines line) in
    let inbound = inbound_fewer X.queued (addresses Y) X.first (refuses Y.node.settings) (mark_any s.hold Y.node.state) (working_hold Y.node) (working_hold m)
    (λ k h e. ⊎_elim (λ (same : k ≡ seat). none_some (sym (none_told m.broken (session_at m seat) (ap hold_in moved.here)) ∙ (ap (working_hold m) (sym same) ∙ e))) (λ (other : k ≢ seat). ap hold_in (sym (works_apart Y.node m k moved.broken (moved.apart k other))) ∙ e) (decide_line k seat))
    (inbound_mark_any X.queued (addresses Y) X.first (refuses Y.node.settings) Y.node.state (working_hold Y.node) s.hold (λ h e. i.each_hold seat h (ap hold_in (works_so Y.node seat unbroken ∙ row.has) ∙ e)) i) in
    receiver_moves X Y line seat m (gone (Y.ends line)) X.ends sits.others (λ _ _. refl) moved.broken moved.apart
    (subst (λ (q : Settings × Durable). InboxHolds X.queued (addresses Y) X.first (refuses q.0) q.1 (working_hold m)) (λ j. (sym moved.settings j, sym moved.state_is j)) inbound)
    known
    (line_receives X.queued (addresses Y) X.first X.node.state.queue m.state (X.ends line) (session_of X.node (X.ends line)) (Y.ends line) (gone (Y.ends line)) (working_session_of Y.node (Y.ends line)) (working_session_of m (gone (Y.ends line))) (X.ends line).outbox l.gots l.flow (λ h t _. off (sym t)) l)
    half
leave_receives X Y line seat sits m unbroken (inr row) half =
    let l = half.lines line in
    subst (λ x. Carries X (at_line line (gone (Y.ends line)) x Y)) (sym row.1)
    (receiver_moves X Y line seat Y.node (gone (Y.ends line)) X.ends sits.others (λ _ _. refl) refl (λ _ _. refl) half.inbound (λ _ known. known)
    (line_receives X.queued (addresses Y) X.first X.node.state.queue Y.node.state (X.ends line) (session_of X.node (X.ends line)) (Y.ends line) (gone (Y.ends line)) (working_session_of Y.node (Y.ends line)) (working_session_of Y.node (gone (Y.ends line))) (X.ends line).outbox l.gots l.flow (λ h t _. off (sym t)) l)
    half)

-- what a session that finishes has offered stands there
pub finish_ok : (X Y : Place) (line : ℕ) (t : Course) → (X.ends line).course ≡ Some t → t.now.own_end ≡ true → Carries X Y → FinishStood X.first Y.node.state (Some (record { offered = t.offered; met_skip = t.met_skip }))
finish_ok X Y line t talks own half =
    let l = half.lines line in
    λ no_skip. Each-weaker (OnItsWay t.now.sending X.first Y.node.state) (λ key. is_known X.first key Y.node.state ≡ true) (λ key o. ⊎_elim (λ (w : (g : Sending) × (t.now.sending ≡ Some g) × (g.key ≡ key)). none_some (sym (l.ended t talks own) ∙ w.1)) (λ (k : is_known X.first key Y.node.state ≡ true). k) o) t.offered (l.offered t talks no_skip)

-- a line drops

pub drops : (X Y : Place) (line mine theirs : ℕ) → Carries X Y → Carries (with_end line (cut mine (X.ends line)) X) (with_end line (cut theirs (Y.ends line)) Y)
drops X Y line mine theirs half =
    let l = half.lines line in
    let e = cut mine (X.ends line) in
    let f = cut theirs (Y.ends line) in
    let cut_line = line_cut X.queued (addresses Y) X.first X.node.state.queue Y.node.state (X.ends line) (session_of X.node (X.ends line)) (Y.ends line) (working_session_of Y.node (Y.ends line)) mine l in
    let both = line_receives X.queued (addresses Y) X.first X.node.state.queue Y.node.state e (session_of X.node (X.ends line)) (Y.ends line) f (working_session_of Y.node (Y.ends line)) (working_session_of Y.node (Y.ends line)) e.outbox (gots_cut X.first Y.node.state theirs (Y.ends line).outbox l.gots) cut_line.flow cut_line.taken cut_line in
    record {
      outbound = half.outbound;
      peers = half.peers;
      inbound = half.inbound;
      settled = half.settled;
      lines = on_lines (LineHolds X.queued (addresses Y) X.first X.node.state.queue Y.node.state) line X.ends (updated X.ends line e) Y.ends (updated Y.ends line f) (λ k. session_of X.node (X.ends k)) (λ k. session_of X.node (updated X.ends line e k)) (λ k. working_session_of Y.node (Y.ends k)) (λ k. working_session_of Y.node (updated Y.ends line f k))
          (subst (λ (q : LineEnd × LineEnd). LineHolds X.queued (addresses Y) X.first X.node.state.queue Y.node.state q.0 (session_of X.node q.0) q.1 (working_session_of Y.node q.1)) (λ i. (sym (updated_at X.ends line e) i, sym (updated_at Y.ends line f) i)) both)
          (λ k other. (updated_apart X.ends line e k other, ap (session_of X.node) (updated_apart X.ends line e k other), updated_apart Y.ends line f k other, ap (working_session_of Y.node) (updated_apart Y.ends line f k other)))
          half.lines;
    }

-- a session opens

line_opened : (files : List GivenFile) (dests : List Address) (from : Address) (queue : List Entry) (kept : Durable) (e e' : LineEnd) (s s' : Option Session) (f : LineEnd) (r : Option Session) (role : Role) → e'.course ≡ Some (first_course role) → e'.outbox ≡ e.outbox → e'.dropped ≡ e.dropped → e'.finish ≡ e.finish → LineHolds files dests from queue kept e s f r → LineHolds files dests from queue kept e' s' f r
line_opened files dests from queue kept e e' s s' f r role talks box lost finish l =
    record {
      claims = λ t g a b. none_some (ap (λ (x : Course). x.now.sending) (some_inj (sym talks ∙ a)) ∙ b);
      ended = λ t a own. ap (λ (x : Course). x.now.sending) (sym (some_inj (sym talks ∙ a)));
      offered = λ t a _. subst (λ (x : Course). Each (OnItsWay x.now.sending from kept) x.offered) (some_inj (sym talks ∙ a)) tt;
      finished = subst (FinishStood from kept) (sym finish) l.finished;
      gots = l.gots;
      flow = subst (Flow files dests (GoesOn e'.dropped e'.course) Idle) (sym box) (flow_weaker files dests (GoesOn e.dropped e.course) (GoesOn e'.dropped e'.course) (λ m _. goes m) Idle e.outbox l.flow);
      taken = λ h a b. subst (Flow files dests (GoesOn e'.dropped e'.course) (At h.key (length h.bytes))) (sym box) (flow_weaker files dests (GoesOn e.dropped e.course) (GoesOn e'.dropped e'.course) (λ m _. goes m) (At h.key (length h.bytes)) e.outbox (l.taken h a b));
    }
  where
    goes : (m : Mode) → GoesOn e'.dropped e'.course m
    goes Idle = tt
    goes (At k o) = λ _ v g a b. none_some (ap (λ (x : Course). x.now.sending) (some_inj (sym talks ∙ a)) ∙ b)

pub opens_sends : (X Y : Place) (line seat : ℕ) (m : Node) (role : Role) (s : Session) → ((k : ℕ) → k ≢ line → (X.ends k).seat ≢ Some seat) → Moved X.node m seat (Some s) X.node.state → PeersAre Y.first Y.others s → Carries X Y → Carries (at_line line (opened seat role (X.ends line)) m X) Y
opens_sends X Y line seat m role s others a peers half =
    let queue : m.state.queue ≡ X.node.state.queue = ap (λ (x : Durable). x.queue) a.state_is in
    sender_moves X Y line seat m (opened seat role (X.ends line)) Y.ends others (λ _ _. refl) a.apart
    (subst (QueueHolds X.queued) (sym queue) half.outbound)
    (λ t has. subst (PeersAre Y.first Y.others) (some_inj (sym a.here ∙ has)) peers)
    (λ number key is. subst (λ l. EntryIs l (addresses Y) number key) (sym queue) is)
    (subst (Each (SettledStands (addresses Y) X.first Y.node.state)) (sym queue) half.settled)
    (line_opened X.queued (addresses Y) X.first m.state.queue Y.node.state (X.ends line) (opened seat role (X.ends line)) (session_of X.node (X.ends line)) (session_at m seat) (Y.ends line) (working_session_of Y.node (Y.ends line)) role refl refl refl refl
    (subst (λ q. LineHolds X.queued (addresses Y) X.first q Y.node.state (X.ends line) (session_of X.node (X.ends line)) (Y.ends line) (working_session_of Y.node (Y.ends line))) (sym queue) (half.lines line)))
    half

pub opens_receives : (X Y : Place) (line seat : ℕ) (m : Node) (role : Role) (s : Session) → ((k : ℕ) → k ≢ line → (Y.ends k).seat ≢ Some seat) → Moved Y.node m seat (Some s) Y.node.state → s.hold ≡ None → Carries X Y → Carries X (at_line line (opened seat role (Y.ends line)) m Y)
opens_receives X Y line seat m role s others b free half =
    let known : (key : Key) → is_known X.first key Y.node.state ≡ true → is_known X.first key m.state ≡ true = λ key known. subst (λ (d : Durable). is_known X.first key d ≡ true) (sym b.state_is) known in
    let l = line_later X.queued (addresses Y) X.first X.node.state.queue X.node.state.queue Y.node.state m.state (X.ends line) (session_of X.node (X.ends line)) (Y.ends line) (working_session_of Y.node (Y.ends line)) (λ _ _ is. is) known (half.lines line) in
    receiver_moves X Y line seat m (opened seat role (Y.ends line)) X.ends others (λ _ _. refl) b.broken b.apart
    (subst (λ (q : Settings × Durable). InboxHolds X.queued (addresses Y) X.first (refuses q.0) q.1 (working_hold m)) (λ j. (sym b.settings j, sym b.state_is j))
    (inbound_fewer X.queued (addresses Y) X.first (refuses Y.node.settings) Y.node.state (working_hold Y.node) (working_hold m) (λ k h e. ⊎_elim (λ (same : k ≡ seat). none_some (sym (none_told m.broken (session_at m seat) (ap hold_in b.here ∙ free)) ∙ (ap (working_hold m) (sym same) ∙ e))) (λ (other : k ≢ seat). ap hold_in (sym (works_apart Y.node m k b.broken (b.apart k other))) ∙ e) (decide_line k seat)) half.inbound))
    known
    (line_receives X.queued (addresses Y) X.first X.node.state.queue m.state (X.ends line) (session_of X.node (X.ends line)) (Y.ends line) (opened seat role (Y.ends line)) (working_session_of Y.node (Y.ends line)) (working_session m seat) (X.ends line).outbox l.gots l.flow (λ h t _. off (sym t ∙ ap takes (none_told m.broken (session_at m seat) (ap hold_in b.here ∙ free)))) l)
    half

-- files are queued

pub queues_sends : (X Y : Place) (seat : ℕ) (files : List NewFile) (taken answered : Option ℕ) (slots : List Slot) (m : Node) → QueueRow seat files taken answered slots X.node m → Carries X Y → Carries (record X { node = m; queued = X.queued ++ map given_file files }) Y
queues_sends X Y seat files taken answered slots m row half =
    subst (λ x. Carries (record X { node = x; queued = X.queued ++ map given_file files }) Y) (sym row.after)
    (record {
      outbound = enqueued_keeps (QueueHolds more) (λ (f : NewFile). Member (given_file f) more) (λ q number f there above o. outbound_queues more q number f there above o) files slots X.node.state.queue row.queue row.queued (new_are_there X.queued files) (outbound_grows X.queued files X.node.state.queue row.sizes half.outbound);
      peers = half.peers;
      inbound = inbound_grows X.queued (map given_file files) (addresses Y) X.first (refuses Y.node.settings) Y.node.state (working_hold Y.node) half.inbound;
      settled = enqueued_keeps (Each (SettledStands (addresses Y) X.first Y.node.state)) (λ _. Unit {0}) (λ q number f _ above h. settled_queues (addresses Y) X.first Y.node.state q number f h) files slots X.node.state.queue row.queue row.queued (trivial files) half.settled;
      lines = λ k. line_grows X.queued (map given_file files) (addresses Y) X.first row.queue Y.node.state (X.ends k) (session_of X.node (X.ends k)) (Y.ends k) (working_session_of Y.node (Y.ends k))
          (line_later X.queued (addresses Y) X.first X.node.state.queue row.queue Y.node.state Y.node.state (X.ends k) (session_of X.node (X.ends k)) (Y.ends k) (working_session_of Y.node (Y.ends k)) (λ number key is. enqueued_keeps (λ q. EntryIs q (addresses Y) number key) (λ _. Unit {0}) (λ q fresh f _ above h. entry_queues q (addresses Y) fresh f number key above h) files slots X.node.state.queue row.queue row.queued (trivial files) is) (λ _ known. known) (half.lines k));
    })
  where
    more : List GivenFile
    more = X.queued ++ map given_file files

    trivial : (fs : List NewFile) → Each (λ (f : NewFile). Unit {0}) fs
    trivial [] = tt
    trivial (f ∷ fs) = (tt, trivial fs)

-- stops

line_stops : (files : List GivenFile) (dests : List Address) (from : Address) (queue queue' : List Entry) (kept : Durable) (e : LineEnd) (s s' : Option Session) (f : LineEnd) (r : Option Session) → LineHolds files dests from queue kept e s f r → LineHolds files dests from queue' kept (gone e) s' f r
line_stops files dests from queue queue' kept e s s' f r l =
    record {
      claims = λ t g a. none_some a;
      ended = λ t a. none_some a;
      offered = λ t a. none_some a;
      finished = l.finished;
      gots = l.gots;
      flow = flow_weaker files dests (GoesOn e.dropped e.course) (GoesOn e.dropped None) (λ m _. goes_silent e.dropped m) Idle e.outbox l.flow;
      taken = λ h a b. flow_weaker files dests (GoesOn e.dropped e.course) (GoesOn e.dropped None) (λ m _. goes_silent e.dropped m) (At h.key (length h.bytes)) e.outbox (l.taken h a b);
    }

pub stop_sends : (X Y : Place) (o : Opening) (m : Node) → QueueHolds X.queued m.state.queue → Each (SettledStands (addresses Y) X.first Y.node.state) m.state.queue → Carries X Y → Carries (after_stop o m X) Y
stop_sends X Y o m outbound settled half =
    record {
      outbound = outbound;
      peers = λ k s has. none_some has;
      inbound = half.inbound;
      settled = settled;
      lines = λ k. line_stops X.queued (addresses Y) X.first X.node.state.queue m.state.queue Y.node.state (X.ends k) (session_of X.node (X.ends k)) None (Y.ends k) (working_session_of Y.node (Y.ends k)) (half.lines k);
    }

inbound_none : (files : List GivenFile) (dests : List Address) (from : Address) (refuse refuse' : Key → Bool) (d : Durable) (holds : ℕ → Option Hold) → InboxHolds files dests from refuse d holds → InboxHolds files dests from refuse' d (λ _. None)
inbound_none files dests from refuse refuse' d holds i = record { once = i.once; items = i.items; marks = i.marks; each_hold = λ k h e. none_some e; apart = λ j k g h a. none_some a }

pub stop_receives : (X Y : Place) (o : Opening) (m : Node) (refuse : Key → Bool) (holds : ℕ → Option Hold) → InboxHolds X.queued (addresses Y) X.first refuse m.state holds → ((key : Key) → is_known X.first key Y.node.state ≡ true → is_known X.first key m.state ≡ true) → Carries X Y → Carries X (after_stop o m Y)
stop_receives X Y o m refuse holds inbound known half =
    record {
      outbound = half.outbound;
      peers = half.peers;
      inbound = inbound_none X.queued (addresses Y) X.first refuse (refuses o.settings) m.state holds inbound;
      settled = settled X.node.state.queue half.settled;
      lines = λ k.
          let l = line_later X.queued (addresses Y) X.first X.node.state.queue X.node.state.queue Y.node.state m.state (X.ends k) (session_of X.node (X.ends k)) (Y.ends k) (working_session_of Y.node (Y.ends k)) (λ _ _ is. is) known (half.lines k) in
          line_receives X.queued (addresses Y) X.first X.node.state.queue m.state (X.ends k) (session_of X.node (X.ends k)) (Y.ends k) (gone (Y.ends k)) (working_session_of Y.node (Y.ends k)) None (X.ends k).outbox l.gots l.flow (λ h t _. off (sym t)) l;
    }
  where
    settled : (queue : List Entry) → Each (SettledStands (addresses Y) X.first Y.node.state) queue → Each (SettledStands (addresses Y) X.first m.state) queue
    settled [] h = tt
    settled (e ∷ es) h = ((λ done. let a = h.0 done in (a.0, known e.key a.1)), settled es h.1)

-- a message that an ended session took is gone

idle_rest : (files : List GivenFile) (dests : List Address) (fin : Mode → Type 0) → fin Idle → (w : Message) (rest : List Message) → Flow files dests fin Idle (w ∷ rest) → Flow files dests fin Idle rest
idle_rest files dests fin i (File k o) rest h = flow_idle files dests fin i (At k o) rest h.1
idle_rest files dests fin i (Data b) rest h = h
idle_rest files dests fin i (Got k) rest h = h
idle_rest files dests fin i (Get k o) rest h = h
idle_rest files dests fin i (Skip k) rest h = h
idle_rest files dests fin i End rest h = h

pub front_gone : (X Y : Place) (line : ℕ) (w : Message) (rest : List Message) → (X.ends line).outbox ≡ w ∷ rest → (Y.ends line).course ≡ None → Carries X Y → Carries (with_end line (with_outbox rest (X.ends line)) X) Y
front_gone X Y line w rest front none half =
    let l = half.lines line in
    let e : LineEnd = with_outbox rest (X.ends line) in
    let idle = idle_rest X.queued (addresses Y) (GoesOn (X.ends line).dropped (X.ends line).course) tt w rest (subst (Flow X.queued (addresses Y) (GoesOn (X.ends line).dropped (X.ends line).course) Idle) front l.flow) in
    let l' = line_receives X.queued (addresses Y) X.first X.node.state.queue Y.node.state (X.ends line) (session_of X.node (X.ends line)) (Y.ends line) (Y.ends line) (working_session_of Y.node (Y.ends line)) (working_session_of Y.node (Y.ends line)) rest l.gots idle (λ h t _. off (sym t ∙ ap (λ (o : Option Course). taking_in (while_talking o (working_session_of Y.node (Y.ends line)))) none)) l in
    record {
      outbound = half.outbound;
      peers = half.peers;
      inbound = half.inbound;
      settled = half.settled;
      lines = on_lines (LineHolds X.queued (addresses Y) X.first X.node.state.queue Y.node.state) line X.ends (updated X.ends line e) Y.ends Y.ends (λ k. session_of X.node (X.ends k)) (λ k. session_of X.node (updated X.ends line e k)) (λ k. working_session_of Y.node (Y.ends k)) (λ k. working_session_of Y.node (Y.ends k))
          (subst (λ x. LineHolds X.queued (addresses Y) X.first X.node.state.queue Y.node.state x (session_of X.node x) (Y.ends line) (working_session_of Y.node (Y.ends line))) (sym (updated_at X.ends line e)) l')
          (λ k other. (updated_apart X.ends line e k other, ap (session_of X.node) (updated_apart X.ends line e k other), refl, refl))
          half.lines;
    }

pub front_taken : (X Y : Place) (line : ℕ) (w : Message) (rest : List Message) → (Y.ends line).outbox ≡ w ∷ rest → Carries X Y → Carries X (with_end line (with_outbox rest (Y.ends line)) Y)
front_taken X Y line w rest front half =
    let l = half.lines line in
    let f : LineEnd = with_outbox rest (Y.ends line) in
    let l' = line_receives X.queued (addresses Y) X.first X.node.state.queue Y.node.state (X.ends line) (session_of X.node (X.ends line)) (Y.ends line) f (working_session_of Y.node (Y.ends line)) (working_session_of Y.node (Y.ends line)) (X.ends line).outbox (subst (Each (GotStands X.first Y.node.state)) front l.gots).1 l.flow l.taken l in
    record {
      outbound = half.outbound;
      peers = half.peers;
      inbound = half.inbound;
      settled = half.settled;
      lines = on_lines (LineHolds X.queued (addresses Y) X.first X.node.state.queue Y.node.state) line X.ends X.ends Y.ends (updated Y.ends line f) (λ k. session_of X.node (X.ends k)) (λ k. session_of X.node (X.ends k)) (λ k. working_session_of Y.node (Y.ends k)) (λ k. working_session_of Y.node (updated Y.ends line f k))
          (subst (λ x. LineHolds X.queued (addresses Y) X.first X.node.state.queue Y.node.state (X.ends line) (session_of X.node (X.ends line)) x (working_session_of Y.node x)) (sym (updated_at Y.ends line f)) l')
          (λ k other. (refl, refl, updated_apart Y.ends line f k other, ap (working_session_of Y.node) (updated_apart Y.ends line f k other)))
          half.lines;
    }

-- what is settled stays so in a take

known_answered : (from : Address) (key : Key) (n m : Node) (seat : ℕ) (s : Session) (k : Key) (offset : ℕ) (answer : FileAnswer) → Answered seat s k offset answer n m → is_known from key n.state ≡ true → is_known from key m.state ≡ true
known_answered from key n m seat s k offset Have a known = subst (λ (x : Node). is_known from key x.state ≡ true) (sym a.1) known
known_answered from key n m seat s k offset Refuse a known = subst (λ (x : Node). is_known from key x.state ≡ true) (sym a.1) (known_after_refusal from key n.state (record { from = s.first; key = k }) known)
known_answered from key n m seat s k offset Elsewhere a known = subst (λ (x : Node). is_known from key x.state ≡ true) (sym a.1) known
known_answered from key n m seat s k offset Go a known = subst (λ (x : Node). is_known from key x.state ≡ true) (sym a.1.2) known
known_answered from key n m seat s k offset Whole a known = subst (λ (x : Node). is_known from key x.state ≡ true) (sym a.1.2) (known_after from key n.state _ known)
known_answered from key n m seat s k offset (From place) a known = subst (λ (x : Node). is_known from key x.state ≡ true) (sym a.1.2) known
known_answered from key n m seat s k offset Late a known = subst (λ (x : Node). is_known from key x.state ≡ true) (sym a.1) known

pub known_take : (from : Address) (key : Key) (n m : Node) (seat : ℕ) (t u : Course) (sent : List Message) (w : Message) → Take seat n t m u sent w → is_known from key n.state ≡ true → is_known from key m.state ≡ true
known_take from key n m seat t u sent w (Take_file {key = k} {offset = offset} answer _ row reply same) known = known_answered from key (released seat row.session n) m seat (unheld row.session) k offset answer (row.applies, row.made) (known_after_mark_any from key n.state row.session.hold ∙ known)
known_take from key n m seat t u sent w (Take_more {bytes = bytes} _ row none same) known = subst (λ (d : Durable). is_known from key d ≡ true) (sym (more-moved n m seat bytes row).state_is) (known_at_stride from key (grown row.hold bytes) n.state ∙ known)
known_take from key n m seat t u sent w (Take_whole {bytes = bytes} _ row got same) known = subst (λ (d : Durable). is_known from key d ≡ true) (sym (whole-moved n m seat bytes row).state_is) (known_after from key n.state (receipt_of row.hold.number row.session row.hold.key (row.hold.bytes ++ bytes)) known)
known_take from key n m seat t u sent w (Drop_data idle node none same) known = subst (λ (x : Node). is_known from key x.state ≡ true) (sym node) known
known_take from key n m seat t u sent w (Take_got s under same row none change) known = subst (λ (x : Node). is_known from key x.state ≡ true) (sym row.after) known
known_take from key n m seat t u sent w (Pass_got other node none same) known = subst (λ (x : Node). is_known from key x.state ≡ true) (sym node) known
known_take from key n m seat t u sent w (Take_skip s under same row none change) known = subst (λ (x : Node). is_known from key x.state ≡ true) (sym row.after) known
known_take from key n m seat t u sent w (Pass_skip other node none change) known = subst (λ (x : Node). is_known from key x.state ≡ true) (sym node) known
known_take from key n m seat t u sent w (Take_get s under same fits node says_file change) known = subst (λ (x : Node). is_known from key x.state ≡ true) (sym node) known
known_take from key n m seat t u sent w (Pass_get other node none same) known = subst (λ (x : Node). is_known from key x.state ≡ true) (sym node) known
known_take from key n m seat t u sent w (Take_end node none change) known = subst (λ (x : Node). is_known from key x.state ≡ true) (sym node) known
