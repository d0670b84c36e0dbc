-- The events of a node, as the receiver of files.
use Rattle.std.proofs.Common.{◌≡◌, ◌≢◌, ℕ, ◌+◌, if◌then◌else◌, Bool, true, false, List, [], ◌∷◌, ◌++◌, Option, Some, None, length, take, drop, refl, sym, ap, ◌∙◌, subst, inl, inr, ⊎_elim, length-append, take_all, take-add, le_of_eq}
use Rattle.ftn_addr.specs.Address.{Address}
use Rattle.ftn_addr.specs.Key.{Key}
use Rattle.node_model.specs.Lists.{Member, Each, updated}
use Rattle.node_model.specs.Items.{Entry}
use Rattle.node_model.specs.Items.{Receipt}
use Rattle.node_model.specs.Items.{Refusal}
use Rattle.node_model.specs.Items.{Mark}
use Rattle.node_model.specs.Durable.{Durable, is_known, marked, with_mark, with_receipt, with_refusal}
use Rattle.node_model.specs.Node.{Hold, Session, Settings, Node, session_at, hold_in, takes, taking_in}
use Rattle.node_model.specs.Rows.{FileAnswer, Have, Refuse, Elsewhere, Go, Whole, From, Late, Acceptable, FileRow, DataMore, DataWhole, hold_from, mark_any, mark_for, at_stride, marked_at_stride, released, unheld, grown, receipt_of, refuses}
use Rattle.world_pair.specs.Course.{Course}
use Rattle.world_pair.proofs.Seen.{Answered, OwnTurn, Sends, Offers, Ends, Goes, Waits, Take, Take_file, Take_more, Take_whole, Drop_data, Take_got, Pass_got, Take_skip, Pass_skip, Take_get, Pass_get, Take_end, Reply}
use Rattle.node_model.specs.Talk.{Message, File, Data, Got, Get, Skip, End}
use Rattle.world_pair.specs.World.{GivenFile, LineEnd, Place, addresses, at_line, with_end, with_outbox, says}
use Rattle.world_pair.specs.Law.{WasQueued, KeysAgree}
use Rattle.node_model.proofs.Lists.{updated_at, updated_apart, decide_line, none_some, some_inj, off, Each-member, is_same_at}
use Rattle.world_pair.proofs.Flow.{flow_idle}
use Rattle.world_pair.proofs.Inbound.{inbound_fewer, inbound_holds, inbound_mark_any, inbound_at_stride, inbound_receipt, inbound_refusal, known_after, known_after_refusal, known_now, known_now_refused, known_after_mark_any, front_of_mark}
use Rattle.node_model.proofs.Moves.{Moved, moved, offer-moved, got-moved, skip-moved, released-moved, more-moved, whole-moved}
use Rattle.world_pair.proofs.Line.{heard, talking, line_later, line_receives, gots_say}
use Rattle.world_pair.proofs.Half.{Alone, works_so, works_apart, hold_stands, receiver_line, receiver_stays}
use Rattle.world_pair.specs.Flow.{At, Flow, Front, GoesOn, HasFile, Idle, Mode, Section}
use Rattle.world_pair.specs.Invariant.{Carries, GotStands, InboxHolds, LineHolds, PartHolds, ReceiptHolds, session_of, unless_broken, working_hold, working_session}

-- a row that changes nothing of what is received
pub record Aside (n m : Node) (seat : ℕ) : Type 0 where
  pub inbox : m.state.inbox ≡ n.state.inbox
  pub refused : m.state.refused ≡ n.state.refused
  pub marks : m.state.marks ≡ n.state.marks
  pub settings : m.settings ≡ n.settings
  pub broken : m.broken ≡ n.broken
  pub hold : working_hold m seat ≡ working_hold n seat
  pub apart : (k : ℕ) → k ≢ seat → session_at m k ≡ session_at n k

pub aside_same : (n m : Node) (seat : ℕ) → m ≡ n → Aside n m seat
aside_same n m seat e =
    record {
      inbox = ap (λ (x : Node). x.state.inbox) e;
      refused = ap (λ (x : Node). x.state.refused) e;
      marks = ap (λ (x : Node). x.state.marks) e;
      settings = ap (λ (x : Node). x.settings) e;
      broken = ap (λ (x : Node). x.broken) e;
      hold = ap (λ (x : Node). working_hold x seat) e;
      apart = λ k _. ap (λ (x : Node). session_at x k) e;
    }

-- holds that are equal are told alike
told_alike : (b c : Option ℕ) (s t : Option Session) → c ≡ b → hold_in t ≡ hold_in s → hold_in (unless_broken c t) ≡ hold_in (unless_broken b s)
told_alike None c s t same e = subst (λ x. hold_in (unless_broken x t) ≡ hold_in s) (sym same) e
told_alike (Some count) c s t same e = subst (λ x. hold_in (unless_broken x t) ≡ None) (sym same) refl

pub aside_moved : (n m : Node) (seat : ℕ) (was s : Session) (d : Durable) → session_at n seat ≡ Some was → Moved n m seat (Some s) d → d.inbox ≡ n.state.inbox → d.refused ≡ n.state.refused → d.marks ≡ n.state.marks → s.hold ≡ was.hold → Aside n m seat
aside_moved n m seat was s d has moved inbox refused marks hold =
    record {
      inbox = ap (λ (x : Durable). x.inbox) moved.state_is ∙ inbox;
      refused = ap (λ (x : Durable). x.refused) moved.state_is ∙ refused;
      marks = ap (λ (x : Durable). x.marks) moved.state_is ∙ marks;
      settings = moved.settings;
      broken = moved.broken;
      hold = told_alike n.broken m.broken (session_at n seat) (session_at m seat) moved.broken (ap hold_in moved.here ∙ (hold ∙ ap hold_in (sym has)));
      apart = moved.apart;
    }

pub other_queue : (files : List GivenFile) (dests : List Address) (from : Address) (refuse : Key → Bool) (d : Durable) (queue : List Entry) (holds : ℕ → Option Hold) → InboxHolds files dests from refuse d holds → InboxHolds files dests from refuse (record d { queue = queue }) holds
other_queue files dests from refuse d queue holds i =
    record { once = i.once; items = i.items; marks = i.marks; each_hold = λ k h e. let o = i.each_hold k h e in record { from_is = o.from_is; unknown = o.unknown; wanted = o.wanted; front = o.front }; apart = i.apart }

pub inbound_aside : (files : List GivenFile) (dests : List Address) (from : Address) (n m : Node) (seat : ℕ) → Aside n m seat → InboxHolds files dests from (refuses n.settings) n.state (working_hold n) → InboxHolds files dests from (refuses m.settings) m.state (working_hold m)
inbound_aside files dests from n m seat a i =
    let fewer = inbound_fewer files dests from (refuses n.settings) n.state (working_hold n) (working_hold m) (λ k h e. ⊎_elim (λ (same : k ≡ seat). ap (working_hold n) same ∙ (sym a.hold ∙ (ap (working_hold m) (sym same) ∙ e))) (λ (other : k ≢ seat). ap hold_in (sym (works_apart n m k a.broken (a.apart k other))) ∙ e) (decide_line k seat)) i in
    let queue = other_queue files dests from (refuses n.settings) n.state m.state.queue (working_hold m) fewer in
    subst (λ (q : Settings × List Receipt × List Refusal × List Mark). InboxHolds files dests from (refuses q.0) (record { queue = m.state.queue; inbox = q.1; refused = q.2; marks = q.3 }) (working_hold m)) (λ i. (sym a.settings i, sym a.inbox i, sym a.refused i, sym a.marks i)) queue

pub known_aside : (from : Address) (key : Key) (n m : Node) (seat : ℕ) → Aside n m seat → is_known from key n.state ≡ true → is_known from key m.state ≡ true
known_aside from key n m seat a known = subst (λ (q : List Receipt × List Refusal). is_known from key (record { queue = m.state.queue; inbox = q.0; refused = q.1; marks = m.state.marks }) ≡ true) (λ i. (sym a.inbox i, sym a.refused i)) known

no_gots : (from : Address) (kept : Durable) (sent : List Message) (m : Message) → sent ≡ m ∷ [] → GotStands from kept m → Each (GotStands from kept) sent
no_gots from kept sent m e ok = subst (Each (GotStands from kept)) (sym e) (ok, tt)

-- the end of the receiver says something, while nothing is received
pub receiver_aside : (X Y : Place) (line seat : ℕ) (sits : Alone Y.ends line seat) (m : Node) (t : Course) (u : Option Course) (sent : List Message) → (Y.ends line).course ≡ Some t → Aside Y.node m seat → Each (GotStands X.first m.state) sent → Carries X Y → Carries X (at_line line (says (Y.ends line) u sent) m Y)
receiver_aside X Y line seat sits m t u sent talks a gots half =
    let l = receiver_line X Y line seat sits half in
    let known : (key : Key) → is_known X.first key Y.node.state ≡ true → is_known X.first key m.state ≡ true = λ key. known_aside X.first key Y.node m seat a in
    let l' = line_later X.queued (addresses Y) X.first X.node.state.queue X.node.state.queue Y.node.state m.state (X.ends line) (session_of X.node (X.ends line)) (Y.ends line) (working_session Y.node seat) (λ _ _ is. is) known l in
    receiver_stays X Y line seat sits m (says (Y.ends line) u sent) X.ends refl (λ _ _. refl) a.broken a.apart
    (inbound_aside X.queued (addresses Y) X.first Y.node m seat a half.inbound)
    known
    (line_receives X.queued (addresses Y) X.first X.node.state.queue m.state (X.ends line) (session_of X.node (X.ends line)) (Y.ends line) (says (Y.ends line) u sent) (working_session Y.node seat) (working_session m seat) (X.ends line).outbox
    (gots_say X.first m.state (Y.ends line).dropped (Y.ends line).outbox sent l'.gots gots)
    l.flow
    (heard u (working_session m seat) _ (λ h taking holds. l.taken h (ap taking_in (sym (talking (Y.ends line).course t (working_session Y.node seat) talks)) ∙ (sym (ap takes a.hold) ∙ taking)) (ap hold_in (sym (talking (Y.ends line).course t (working_session Y.node seat) talks)) ∙ (sym a.hold ∙ holds))))
    l')
    half

pub turn_receives : (X Y : Place) (line seat : ℕ) (sits : Alone Y.ends line seat) (m : Node) (t u : Course) (sent : List Message) → (Y.ends line).course ≡ Some t → OwnTurn seat Y.node t m u sent → Carries X Y → Carries X (at_line line (says (Y.ends line) (Some u) sent) m Y)
turn_receives X Y line seat sits m t u sent talks (Waits same_node same_talk nothing) half = receiver_aside X Y line seat sits m t (Some u) sent talks (aside_same Y.node m seat same_node) (subst (Each (GotStands X.first m.state)) (sym nothing) tt) half
turn_receives X Y line seat sits m t u sent talks (Goes s new under number key place same_node change nothing) half = receiver_aside X Y line seat sits m t (Some u) sent talks (aside_same Y.node m seat same_node) (subst (Each (GotStands X.first m.state)) (sym nothing) tt) half
turn_receives X Y line seat sits m t u sent talks (Ends none_under_way open_still row change says_end) half = receiver_aside X Y line seat sits m t (Some u) sent talks (aside_same Y.node m seat row.after) (no_gots X.first m.state sent End says_end tt) half
turn_receives X Y line seat sits m t u sent talks (Sends s bytes under_way unfinished room row change says_data) half = receiver_aside X Y line seat sits m t (Some u) sent talks (aside_same Y.node m seat row.after) (no_gots X.first m.state sent (Data bytes) says_data tt) half
turn_receives X Y line seat sits m t u sent talks (Offers e none_under_way open_still row change says_file) half = receiver_aside X Y line seat sits m t (Some u) sent talks (aside_moved Y.node m seat row.session _ _ row.has (offer-moved Y.node m seat e row) refl refl refl refl) (no_gots X.first m.state sent (File e.key 0) says_file tt) half

-- the bytes

-- what goes on from the front of a file is its front
pub joined : (files : List GivenFile) (dests : List Address) (key : Key) (part more : List ℕ) → ((f g : GivenFile) → Member f files → Member g files → Member f.dest dests → Member g.dest dests → f.key ≡ g.key → f.bytes ≡ g.bytes) → Front files dests key part → Section files dests key (length part) more → Front files dests key (part ++ more)
joined files dests key part more agree front section =
    let same : section.bytes ≡ front.bytes = sym section.queued.bytes_are ∙ (agree section.queued.file front.queued.file section.queued.queued front.queued.queued section.queued.dest front.queued.dest (section.queued.key_is ∙ sym front.queued.key_is) ∙ front.queued.bytes_are) in
    let next : take (length more) (drop (length part) front.bytes) ≡ more = subst (λ b. take (length more) (drop (length part) b) ≡ more) same section.is in
    record {
      bytes = front.bytes;
      queued = front.queued;
      is = ap (λ n. take n front.bytes) (length-append part more) ∙ (take-add (length part) (length more) front.bytes ∙ (ap (λ b. b ++ take (length more) (drop (length part) front.bytes)) front.is ∙ ap (λ b. part ++ b) next));
    }

-- a front of the whole size is the file
pub whole_front : (files : List GivenFile) (dests : List Address) (key : Key) (part : List ℕ) → Each (λ (f : GivenFile). length f.bytes ≡ f.key.size) files → Front files dests key part → length part ≡ key.size → WasQueued files dests key part
whole_front files dests key part sizes front size =
    let f = front.queued.file in
    let long : length f.bytes ≡ f.key.size = Each-member (λ (x : GivenFile). length x.bytes ≡ x.key.size) f files sizes front.queued.queued in
    let same : length front.bytes ≡ length part = ap length (sym front.queued.bytes_are) ∙ (long ∙ (ap (λ (k : Key). k.size) front.queued.key_is ∙ sym size)) in
    let all : front.bytes ≡ part = sym (take_all (length part) front.bytes (le_of_eq same)) ∙ front.is in
    record { file = f; queued = front.queued.queued; dest = front.queued.dest; key_is = front.queued.key_is; bytes_are = front.queued.bytes_are ∙ all }

-- a file comes

pub record Gained (files : List GivenFile) (dests : List Address) (from : Address) (n m : Node) (seat : ℕ) (sent : List Message) (T : Hold → Type 0) : Type 0 where
  pub inbound : InboxHolds files dests from (refuses m.settings) m.state (working_hold m)
  pub known : (key : Key) → is_known from key n.state ≡ true → is_known from key m.state ≡ true
  pub gots : Each (GotStands from m.state) sent
  pub broken : m.broken ≡ n.broken
  pub apart : (k : ℕ) → k ≢ seat → session_at m k ≡ session_at n k
  pub taken : (h : Hold) → takes (working_hold m seat) ≡ true → working_hold m seat ≡ Some h → T h

abbrev pub GoesAt : Key → ℕ → Hold → Type 0
GoesAt key offset h = (h.key ≡ key) × (length h.bytes ≡ offset)

-- a session that holds nothing is told so
pub none_told : (b : Option ℕ) (s : Option Session) → hold_in s ≡ None → hold_in (unless_broken b s) ≡ None
none_told None s e = e
none_told (Some count) s e = refl

idle_here : (n : Node) (seat : ℕ) (s : Session) → session_at n seat ≡ Some s → s.hold ≡ None → working_hold n seat ≡ None
idle_here n seat s has idle = none_told n.broken (session_at n seat) (ap hold_in has ∙ idle)

is_idle : (n : Node) (seat : ℕ) (s : Session) → session_at n seat ≡ Some s → s.hold ≡ None → {P : Type 0} → takes (working_hold n seat) ≡ true → P
is_idle n seat s has idle yes_taking = off (sym yes_taking ∙ ap takes (idle_here n seat s has idle))

gained_same : (files : List GivenFile) (dests : List Address) (from : Address) (n m : Node) (seat : ℕ) (s : Session) (sent : List Message) (T : Hold → Type 0) → session_at n seat ≡ Some s → s.hold ≡ None → Each (GotStands from n.state) sent → InboxHolds files dests from (refuses n.settings) n.state (working_hold n) → m ≡ n → Gained files dests from n m seat sent T
gained_same files dests from n m seat s sent T has idle gots i e = subst (λ x. Gained files dests from n x seat sent T) (sym e) (record { inbound = i; known = λ _ known. known; gots = gots; broken = refl; apart = λ _ _. refl; taken = λ h a _. is_idle n seat s has idle a })

-- a seat takes a hold with the bytes of the mark
gained_hold : (files : List GivenFile) (dests : List Address) (n x : Node) (seat number : ℕ) (s s' : Session) (key : Key) (taking : Bool) (sent : List Message) (T : Hold → Type 0)
    → n.broken ≡ None → HasFile files dests key → InboxHolds files dests s.first (refuses n.settings) n.state (working_hold n) → Acceptable seat s key n
    → Moved n x seat (Some s') n.state → s'.hold ≡ Some (hold_from number s.first key taking n.state)
    → Each (GotStands s.first x.state) sent → (taking ≡ true → T (hold_from number s.first key taking n.state)) → Gained files dests s.first n x seat sent T
gained_hold files dests n x seat number s s' key taking sent T unbroken file i ok moved holds gots taken =
    let new : Hold = hold_from number s.first key taking n.state in
    let here : working_hold x seat ≡ Some new = ap hold_in (works_so x seat (moved.broken ∙ unbroken)) ∙ (ap hold_in moved.here ∙ holds) in
    let front : PartHolds files dests s.first n.state (refuses n.settings) new = record { from_is = refl; unknown = ok.unknown; wanted = ok.wanted; front = front_of_mark files dests s.first key n.state i.marks file } in
    let inbound = inbound_holds files dests s.first (refuses n.settings) n.state (working_hold n) (working_hold x) seat new front
    (λ k h other e same. ok.free (record { other = k; apart = other; hold = h; holds = hold_stands n.broken (session_at n k) h e; same = is_same_at s.first key h.from h.key (sym (i.each_hold k h e).from_is) (sym same) }))
    (λ k h e. ⊎_elim (λ (same : k ≡ seat). inl (same, some_inj (sym e ∙ (ap (working_hold x) same ∙ here)))) (λ (other : k ≢ seat). inr (other, ap hold_in (sym (works_apart n x k moved.broken (moved.apart k other))) ∙ e)) (decide_line k seat))
    i in
    record {
      inbound = subst (λ (q : Settings × Durable). InboxHolds files dests s.first (refuses q.0) q.1 (working_hold x)) (λ j. (sym moved.settings j, sym moved.state_is j)) inbound;
      known = λ k known. subst (λ (d : Durable). is_known s.first k d ≡ true) (sym moved.state_is) known;
      gots = gots;
      broken = moved.broken;
      apart = moved.apart;
      taken = λ h a b. subst T (some_inj (sym here ∙ b)) (taken (sym (ap takes here) ∙ a));
    }

answered_gains : (files : List GivenFile) (dests : List Address) (n m : Node) (seat : ℕ) (s : Session) (key : Key) (offset : ℕ) (answer : FileAnswer) (sent : List Message)
    → n.broken ≡ None → Each (λ (f : GivenFile). length f.bytes ≡ f.key.size) files → HasFile files dests key → session_at n seat ≡ Some s → s.hold ≡ None
    → InboxHolds files dests s.first (refuses n.settings) n.state (working_hold n) → Answered seat s key offset answer n m → Reply answer key sent → Gained files dests s.first n m seat sent (GoesAt key offset)
answered_gains files dests n m seat s key offset Have sent unbroken sizes file has free i a reply =
    gained_same files dests s.first n m seat s sent (GoesAt key offset) has free (no_gots s.first n.state sent (Got key) reply a.0) i a.1
answered_gains files dests n m seat s key offset Elsewhere sent unbroken sizes file has free i a reply =
    gained_same files dests s.first n m seat s sent (GoesAt key offset) has free (no_gots s.first n.state sent (Skip key) reply tt) i a.1
answered_gains files dests n m seat s key offset Late sent unbroken sizes file has free i a reply = absurd reply
answered_gains files dests n m seat s key offset Refuse sent unbroken sizes file has free i a reply =
    let r : Refusal = record { from = s.first; key = key } in
    let inbound = inbound_refusal files dests s.first (refuses n.settings) n.state (working_hold n) r a.0.1 i in
    subst (λ x. Gained files dests s.first n x seat sent (GoesAt key offset)) (sym a.1)
    (record {
      inbound = inbound;
      known = λ k. known_after_refusal s.first k n.state r;
      gots = no_gots s.first (with_refusal r n.state) sent (Got key) reply (known_now_refused s.first n.state r refl);
      broken = refl;
      apart = λ _ _. refl;
      taken = λ h t _. is_idle n seat s has free t;
    })
answered_gains files dests n m seat s key offset Whole sent unbroken sizes file has free i a reply =
    let number = a.1.0 in
    let bytes = marked s.first key n.state in
    let r : Receipt = receipt_of number s key bytes in
    let front : Front files dests key bytes = front_of_mark files dests s.first key n.state i.marks file in
    let item : ReceiptHolds files dests s.first r = record { from_is = refl; bytes = bytes; kept = refl; queued = whole_front files dests key bytes sizes front (sym a.0.1 ∙ a.0.2) } in
    let inbound = inbound_receipt files dests s.first (refuses n.settings) n.state (working_hold n) r item a.0.0.unknown
    (λ k h e same. ⊎_elim (λ (at : k ≡ seat). none_some (sym (idle_here n seat s has free) ∙ (ap (working_hold n) (sym at) ∙ e))) (λ (other : k ≢ seat). a.0.0.free (record { other = k; apart = other; hold = h; holds = hold_stands n.broken (session_at n k) h e; same = is_same_at s.first key h.from h.key (sym (i.each_hold k h e).from_is) same })) (decide_line k seat))
    i in
    subst (λ x. Gained files dests s.first n x seat sent (GoesAt key offset)) (sym a.1.2)
    (record {
      inbound = inbound;
      known = λ k. known_after s.first k n.state r;
      gots = no_gots s.first (with_receipt r n.state) sent (Got key) reply (known_now s.first n.state r refl);
      broken = refl;
      apart = λ _ _. refl;
      taken = λ h t _. is_idle n seat s has free t;
    })
answered_gains files dests n m seat s key offset Go sent unbroken sizes file has free i a reply =
    gained_hold files dests n m seat a.1.0 s _ key true sent (GoesAt key offset) unbroken file i a.0.0 (moved n m seat _ n.state (ap (λ (x : Node). x.state) a.1.2) (ap (λ (x : Node). x.settings) a.1.2) (ap (λ (x : Node). x.broken) a.1.2) (ap (λ (x : Node). x.seats) a.1.2)) refl (subst (Each (GotStands s.first m.state)) (sym reply) tt) (λ _. (refl, sym a.0.1))
answered_gains files dests n m seat s key offset (From place) sent unbroken sizes file has free i a reply =
    gained_hold files dests n m seat a.1.0 s _ key false sent (GoesAt key offset) unbroken file i a.0.0 (moved n m seat _ n.state (ap (λ (x : Node). x.state) a.1.2) (ap (λ (x : Node). x.settings) a.1.2) (ap (λ (x : Node). x.broken) a.1.2) (ap (λ (x : Node). x.seats) a.1.2)) refl (no_gots s.first m.state sent (Get key place) reply tt) (λ t. off (sym t))

-- the mark row and the end of the hold, before the answer
released_inbound : (files : List GivenFile) (dests : List Address) (from : Address) (n : Node) (seat : ℕ) (s : Session) → n.broken ≡ None → session_at n seat ≡ Some s → InboxHolds files dests from (refuses n.settings) n.state (working_hold n) → InboxHolds files dests from (refuses n.settings) (released seat s n).state (working_hold (released seat s n))
released_inbound files dests from n seat s unbroken has i =
    let out = released-moved n seat s in
    inbound_fewer files dests from (refuses n.settings) (mark_any s.hold n.state) (working_hold n) (working_hold (released seat s n))
    (λ k h e. ⊎_elim (λ (same : k ≡ seat). none_some (sym (idle_here (released seat s n) seat (unheld s) out.here refl) ∙ (ap (working_hold (released seat s n)) (sym same) ∙ e))) (λ (other : k ≢ seat). ap hold_in (sym (works_apart n (released seat s n) k out.broken (out.apart k other))) ∙ e) (decide_line k seat))
    (inbound_mark_any files dests from (refuses n.settings) n.state (working_hold n) s.hold (λ h e. i.each_hold seat h (ap hold_in (works_so n seat unbroken ∙ has) ∙ e)) i)

file_gains : (files : List GivenFile) (dests : List Address) (from : Address) (n m : Node) (seat : ℕ) (key : Key) (offset : ℕ) (answer : FileAnswer) (sent : List Message)
    → n.broken ≡ None → Each (λ (f : GivenFile). length f.bytes ≡ f.key.size) files → HasFile files dests key → (row : FileRow seat key offset answer n m) → row.session.first ≡ from
    → InboxHolds files dests from (refuses n.settings) n.state (working_hold n) → Reply answer key sent → Gained files dests from n m seat sent (GoesAt key offset)
file_gains files dests from n m seat key offset answer sent unbroken sizes file row first i reply =
    let s = row.session in
    let mid = released seat s n in
    let out = released-moved n seat s in
    let gains = answered_gains files dests mid m seat (unheld s) key offset answer sent unbroken sizes file out.here refl (subst (λ a. InboxHolds files dests a (refuses n.settings) mid.state (working_hold mid)) (sym first) (released_inbound files dests from n seat s unbroken row.has i)) (row.applies, row.made) reply in
    let g : Gained files dests from mid m seat sent (GoesAt key offset) = subst (λ a. Gained files dests a mid m seat sent (GoesAt key offset)) first gains in
    record {
      inbound = g.inbound;
      known = λ k known. g.known k (known_after_mark_any from k n.state s.hold ∙ known);
      gots = g.gots;
      broken = g.broken;
      apart = λ k other. g.apart k other ∙ out.apart k other;
      taken = g.taken;
    }

pub known_at_stride : (from : Address) (key : Key) (h : Hold) (d : Durable) → is_known from key (marked_at_stride h d) ≡ is_known from key d
known_at_stride from key h d = go (at_stride h d)
  where
    go : (b : Bool) → is_known from key (if b then with_mark (mark_for h) d else d) ≡ is_known from key d
    go true = refl
    go false = refl

more_gains : (files : List GivenFile) (dests : List Address) (from : Address) (n m : Node) (seat : ℕ) (bytes : List ℕ) (row : DataMore seat bytes n m)
    → n.broken ≡ None
    → ((f g : GivenFile) → Member f files → Member g files → Member f.dest dests → Member g.dest dests → f.key ≡ g.key → f.bytes ≡ g.bytes)
    → Section files dests row.hold.key (length row.hold.bytes) bytes → InboxHolds files dests from (refuses n.settings) n.state (working_hold n) → Gained files dests from n m seat [] (GoesAt row.hold.key (length row.hold.bytes + length bytes))
more_gains files dests from n m seat bytes row unbroken agree section i =
    let h = row.hold in
    let now : working_hold n seat ≡ Some h = ap hold_in (works_so n seat unbroken) ∙ (ap hold_in row.has ∙ row.holds) in
    let was = i.each_hold seat h now in
    let new : Hold = grown h bytes in
    let ok : PartHolds files dests from n.state (refuses n.settings) new = record { from_is = was.from_is; unknown = was.unknown; wanted = was.wanted; front = joined files dests h.key h.bytes bytes agree was.front section } in
    let moved = more-moved n m seat bytes row in
    let here : working_hold m seat ≡ Some new = ap hold_in (works_so m seat (moved.broken ∙ unbroken)) ∙ ap hold_in moved.here in
    let held_on = inbound_holds files dests from (refuses n.settings) n.state (working_hold n) (working_hold m) seat new ok
    (λ k g other e same. other (i.apart k seat g h e now same))
    (λ k g e. ⊎_elim (λ (same : k ≡ seat). inl (same, some_inj (sym e ∙ (ap (working_hold m) same ∙ here)))) (λ (other : k ≢ seat). inr (other, ap hold_in (sym (works_apart n m k moved.broken (moved.apart k other))) ∙ e)) (decide_line k seat))
    i in
    let marked_now = inbound_at_stride files dests from (refuses n.settings) n.state (working_hold m) new (at_stride new n.state) was.from_is ok.front held_on in
    record {
      inbound = subst (λ (q : Settings × Durable). InboxHolds files dests from (refuses q.0) q.1 (working_hold m)) (λ j. (sym moved.settings j, sym moved.state_is j)) marked_now;
      known = λ k known. subst (λ (d : Durable). is_known from k d ≡ true) (sym moved.state_is) (known_at_stride from k new n.state ∙ known);
      gots = tt;
      broken = moved.broken;
      apart = moved.apart;
      taken = λ g _ b. let same : new ≡ g = some_inj (sym here ∙ b) in subst (GoesAt h.key (length h.bytes + length bytes)) same (refl, length-append h.bytes bytes);
    }

whole_gains : (files : List GivenFile) (dests : List Address) (from : Address) (n m : Node) (seat : ℕ) (bytes : List ℕ) (sent : List Message) (T : Hold → Type 0) (row : DataWhole seat bytes n m)
    → n.broken ≡ None
    → row.session.first ≡ from
    → Each (λ (f : GivenFile). length f.bytes ≡ f.key.size) files
    → ((f g : GivenFile) → Member f files → Member g files → Member f.dest dests → Member g.dest dests → f.key ≡ g.key → f.bytes ≡ g.bytes)
    → Section files dests row.hold.key (length row.hold.bytes) bytes → InboxHolds files dests from (refuses n.settings) n.state (working_hold n) → sent ≡ Got row.hold.key ∷ [] → Gained files dests from n m seat sent T
whole_gains files dests from n m seat bytes sent T row unbroken first sizes agree section i says_got =
    let h = row.hold in
    let now : working_hold n seat ≡ Some h = ap hold_in (works_so n seat unbroken) ∙ (ap hold_in row.has ∙ row.holds) in
    let was = i.each_hold seat h now in
    let r = receipt_of h.number row.session h.key (h.bytes ++ bytes) in
    let front = joined files dests h.key h.bytes bytes agree was.front section in
    let item : ReceiptHolds files dests from r = record { from_is = first; bytes = h.bytes ++ bytes; kept = refl; queued = whole_front files dests h.key (h.bytes ++ bytes) sizes front (length-append h.bytes bytes ∙ row.whole) } in
    let moved = whole-moved n m seat bytes row in
    let gone_now : working_hold m seat ≡ None = idle_here m seat (unheld row.session) moved.here refl in
    let less = inbound_fewer files dests from (refuses n.settings) n.state (working_hold n) (working_hold m)
    (λ k g e. ⊎_elim (λ (same : k ≡ seat). none_some (sym gone_now ∙ (ap (working_hold m) (sym same) ∙ e))) (λ (other : k ≢ seat). ap hold_in (sym (works_apart n m k moved.broken (moved.apart k other))) ∙ e) (decide_line k seat))
    i in
    let inbound = inbound_receipt files dests from (refuses n.settings) n.state (working_hold m) r item was.unknown
    (λ k g e same. ⊎_elim (λ (at : k ≡ seat). none_some (sym gone_now ∙ (ap (working_hold m) (sym at) ∙ e))) (λ (other : k ≢ seat). other (i.apart k seat g h (ap hold_in (sym (works_apart n m k moved.broken (moved.apart k other))) ∙ e) now (sym same))) (decide_line k seat))
    less in
    record {
      inbound = subst (λ (q : Settings × Durable). InboxHolds files dests from (refuses q.0) q.1 (working_hold m)) (λ j. (sym moved.settings j, sym moved.state_is j)) inbound;
      known = λ k known. subst (λ (d : Durable). is_known from k d ≡ true) (sym moved.state_is) (known_after from k n.state r known);
      gots = no_gots from m.state sent (Got h.key) says_got (subst (λ (d : Durable). is_known from h.key d ≡ true) (sym moved.state_is) (known_now from n.state r first));
      broken = moved.broken;
      apart = moved.apart;
      taken = λ g t _. off (sym t ∙ ap takes gone_now);
    }

-- an end takes a message and gains something of its sender
receives : (X Y : Place) (line seat : ℕ) (sits : Alone Y.ends line seat) (m : Node) (u : Option Course) (sent rest : List Message)
    → Gained X.queued (addresses Y) X.first Y.node m seat sent (λ h. Flow X.queued (addresses Y) (GoesOn (X.ends line).dropped (X.ends line).course) (At h.key (length h.bytes)) rest)
    → Flow X.queued (addresses Y) (GoesOn (X.ends line).dropped (X.ends line).course) Idle rest
    → Carries X Y → Carries (with_end line (with_outbox rest (X.ends line)) X) (at_line line (says (Y.ends line) u sent) m Y)
receives X Y line seat sits m u sent rest g idle half =
    let l = receiver_line X Y line seat sits half in
    let l' = line_later X.queued (addresses Y) X.first X.node.state.queue X.node.state.queue Y.node.state m.state (X.ends line) (session_of X.node (X.ends line)) (Y.ends line) (working_session Y.node seat) (λ _ _ is. is) g.known l in
    let e : LineEnd = with_outbox rest (X.ends line) in
    receiver_stays X Y line seat sits m (says (Y.ends line) u sent) (updated X.ends line e) refl (updated_apart X.ends line e) g.broken g.apart g.inbound g.known
    (subst (λ x. LineHolds X.queued (addresses Y) X.first X.node.state.queue m.state x (session_of X.node x) (says (Y.ends line) u sent) (working_session m seat)) (sym (updated_at X.ends line e))
    (line_receives X.queued (addresses Y) X.first X.node.state.queue m.state (X.ends line) (session_of X.node (X.ends line)) (Y.ends line) (says (Y.ends line) u sent) (working_session Y.node seat) (working_session m seat) rest
    (gots_say X.first m.state (Y.ends line).dropped (Y.ends line).outbox sent l'.gots g.gots)
    idle (heard u (working_session m seat) _ g.taken) l'))
    half

-- a take by which nothing is gained
takes_aside : (X Y : Place) (line seat : ℕ) (sits : Alone Y.ends line seat) (m : Node) (u : Option Course) (sent rest : List Message) → Aside Y.node m seat → Each (GotStands X.first m.state) sent
    → Flow X.queued (addresses Y) (GoesOn (X.ends line).dropped (X.ends line).course) Idle rest
    → ((h : Hold) → taking_in (working_session Y.node seat) ≡ true → hold_in (working_session Y.node seat) ≡ Some h → Flow X.queued (addresses Y) (GoesOn (X.ends line).dropped (X.ends line).course) (At h.key (length h.bytes)) rest)
    → Carries X Y → Carries (with_end line (with_outbox rest (X.ends line)) X) (at_line line (says (Y.ends line) u sent) m Y)
takes_aside X Y line seat sits m u sent rest a gots idle taken half =
    receives X Y line seat sits m u sent rest
    (record {
      inbound = inbound_aside X.queued (addresses Y) X.first Y.node m seat a half.inbound;
      known = λ k. known_aside X.first k Y.node m seat a;
      gots = gots;
      broken = a.broken;
      apart = a.apart;
      taken = λ h t b. taken h (sym (ap takes a.hold) ∙ t) (sym a.hold ∙ b);
    })
    idle half

drops_told : (b : Option ℕ) (s : Option Session) → taking_in s ≡ false → taking_in (unless_broken b s) ≡ false
drops_told None s e = e
drops_told (Some count) s e = refl

pub take_receives : (X Y : Place) (line seat : ℕ) (sits : Alone Y.ends line seat) (m : Node) (t u : Course) (sent rest : List Message) (message : Message) → (Y.ends line).course ≡ Some t → (X.ends line).outbox ≡ message ∷ rest → Take seat Y.node t m u sent message → KeysAgree X Y → ((s : Session) → session_at Y.node seat ≡ Some s → s.first ≡ X.first) → Carries X Y → Carries (with_end line (with_outbox rest (X.ends line)) X) (at_line line (says (Y.ends line) (Some u) sent) m Y)
take_receives X Y line seat sits m t u sent rest message talks front take agree first half = go message take front
  where
    fin : Mode → Type 0
    fin = GoesOn (X.ends line).dropped (X.ends line).course

    idle : (w : Message) → (X.ends line).outbox ≡ w ∷ rest → Flow X.queued (addresses Y) (GoesOn (X.ends line).dropped (X.ends line).course) Idle (w ∷ rest)
    idle w f = subst (Flow X.queued (addresses Y) (GoesOn (X.ends line).dropped (X.ends line).course) Idle) f (receiver_line X Y line seat sits half).flow

    taken : (w : Message) → (X.ends line).outbox ≡ w ∷ rest → (h : Hold) → taking_in (working_session Y.node seat) ≡ true → hold_in (working_session Y.node seat) ≡ Some h → Flow X.queued (addresses Y) (GoesOn (X.ends line).dropped (X.ends line).course) (At h.key (length h.bytes)) (w ∷ rest)
    taken w f h a b = subst (Flow X.queued (addresses Y) (GoesOn (X.ends line).dropped (X.ends line).course) (At h.key (length h.bytes))) f ((receiver_line X Y line seat sits half).taken h (ap taking_in (sym (talking (Y.ends line).course t (working_session Y.node seat) talks)) ∙ a) (ap hold_in (sym (talking (Y.ends line).course t (working_session Y.node seat) talks)) ∙ b))

    nothing : (kept : Durable) → sent ≡ [] → Each (GotStands X.first kept) sent
    nothing kept e = subst (Each (GotStands X.first kept)) (sym e) tt

    go : (w : Message) → Take seat Y.node t m u sent w → (X.ends line).outbox ≡ w ∷ rest → Carries (with_end line (with_outbox rest (X.ends line)) X) (at_line line (says (Y.ends line) (Some u) sent) m Y)
    go (File key offset) (Take_file answer unbroken row reply same) f =
        let flow = idle (File key offset) f in
        let g = file_gains X.queued (addresses Y) X.first Y.node m seat key offset answer sent unbroken half.outbound.sizes flow.0 row (first row.session row.has) half.inbound reply in
        receives X Y line seat sits m (Some u) sent rest
        (record { inbound = g.inbound; known = g.known; gots = g.gots; broken = g.broken; apart = g.apart; taken = λ h a b. let at = g.taken h a b in subst (λ (q : Key × ℕ). Flow X.queued (addresses Y) (GoesOn (X.ends line).dropped (X.ends line).course) (At q.0 q.1) rest) (λ i. (sym at.0 i, sym at.1 i)) flow.1 })
        (flow_idle X.queued (addresses Y) (GoesOn (X.ends line).dropped (X.ends line).course) tt (At key offset) rest flow.1) half
    go (Data bytes) (Take_more unbroken row none same) f =
        let now = ap hold_in (works_so Y.node seat unbroken) ∙ (ap hold_in row.has ∙ row.holds) in
        let flow = taken (Data bytes) f row.hold (ap takes now ∙ row.taking) now in
        let g = more_gains X.queued (addresses Y) X.first Y.node m seat bytes row unbroken agree flow.0 half.inbound in
        subst (λ x. Carries (with_end line (with_outbox rest (X.ends line)) X) (at_line line (says (Y.ends line) (Some u) x) m Y)) (sym none)
        (receives X Y line seat sits m (Some u) [] rest
        (record { inbound = g.inbound; known = g.known; gots = g.gots; broken = g.broken; apart = g.apart; taken = λ h a b. let at = g.taken h a b in subst (λ (q : Key × ℕ). Flow X.queued (addresses Y) (GoesOn (X.ends line).dropped (X.ends line).course) (At q.0 q.1) rest) (λ i. (sym at.0 i, sym at.1 i)) flow.1 })
        (idle (Data bytes) f) half)
    go (Data bytes) (Take_whole unbroken row got same) f =
        let now = ap hold_in (works_so Y.node seat unbroken) ∙ (ap hold_in row.has ∙ row.holds) in
        let flow = taken (Data bytes) f row.hold (ap takes now ∙ row.taking) now in
        receives X Y line seat sits m (Some u) sent rest
        (whole_gains X.queued (addresses Y) X.first Y.node m seat bytes sent (λ h. Flow X.queued (addresses Y) (GoesOn (X.ends line).dropped (X.ends line).course) (At h.key (length h.bytes)) rest) row unbroken (first row.session row.has) half.outbound.sizes agree flow.0 half.inbound got)
        (idle (Data bytes) f) half
    go (Data bytes) (Drop_data dropping node none same) f = takes_aside X Y line seat sits m (Some u) sent rest (aside_same Y.node m seat node) (nothing m.state none) (idle (Data bytes) f) (λ h a b. off (sym a ∙ drops_told Y.node.broken (session_at Y.node seat) dropping)) half
    go (Got key) (Take_got s under same row none change) f = takes_aside X Y line seat sits m (Some u) sent rest (aside_moved Y.node m seat row.session _ _ row.has (got-moved Y.node m seat s.number row) refl refl refl refl) (nothing m.state none) (idle (Got key) f) (taken (Got key) f) half
    go (Got key) (Pass_got other node none same) f = takes_aside X Y line seat sits m (Some u) sent rest (aside_same Y.node m seat node) (nothing m.state none) (idle (Got key) f) (taken (Got key) f) half
    go (Skip key) (Take_skip s under same row none change) f = takes_aside X Y line seat sits m (Some u) sent rest (aside_moved Y.node m seat row.session _ _ row.has (skip-moved Y.node m seat s.number row) refl refl refl refl) (nothing m.state none) (idle (Skip key) f) (taken (Skip key) f) half
    go (Skip key) (Pass_skip other node none change) f = takes_aside X Y line seat sits m (Some u) sent rest (aside_same Y.node m seat node) (nothing m.state none) (idle (Skip key) f) (taken (Skip key) f) half
    go (Get key offset) (Take_get s under same fits node says_file change) f = takes_aside X Y line seat sits m (Some u) sent rest (aside_same Y.node m seat node) (no_gots X.first m.state sent (File key offset) says_file tt) (idle (Get key offset) f) (taken (Get key offset) f) half
    go (Get key offset) (Pass_get other node none same) f = takes_aside X Y line seat sits m (Some u) sent rest (aside_same Y.node m seat node) (nothing m.state none) (idle (Get key offset) f) (taken (Get key offset) f) half
    go End (Take_end node none change) f = takes_aside X Y line seat sits m (Some u) sent rest (aside_same Y.node m seat node) (nothing m.state none) (idle End f) (taken End f) half
