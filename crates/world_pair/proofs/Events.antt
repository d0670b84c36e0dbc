-- Each event keeps the invariant.
use Rattle.std.proofs.Common.{map, [], ◌++◌, ◌≡◌, ◌≢◌, ◌⊎◌, ⊎_elim, ℕ, Bool, true, List, ◌∷◌, Option, Some, None, refl, sym, ap, ◌∙◌, subst, inl, inr}
use Rattle.ftn_addr.specs.Address.{Address}
use Rattle.ftn_addr.specs.Key.{Key}
use Rattle.node_model.specs.Lists.{Member, Each, updated}
use Rattle.node_model.specs.Durable.{Durable, is_known}
use Rattle.node_model.specs.Node.{Node, session_at, hold_in}
use Rattle.node_model.specs.SendRows.{NewFile, Slot, QueueRow, ActRow, GiveRow}
use Rattle.node_model.specs.Calls.{Call, Answer, Queue_call, Knock_call, Open_call, Offer_call, Read_call, Got_call, Skip_call, File_call, Data_call, Leave_call, Act_call, Give_call, Queued, Acted, Given, Held, Nothing, Made, marked_first}
use Rattle.world_pair.proofs.Later.{append_none}
use Rattle.world_pair.proofs.Broken.{breaks_from}
use Rattle.node_model.specs.Rows.{mark_any, refuses}
use Rattle.node_model.specs.Talk.{part_at, Outcome, Goes_on, Waits, Ends, Finished, Out_of_turn, Too_late, Too_much, Refused_by}
use Rattle.world_pair.specs.Course.{Course, course_after, skipped, StaysOpen}
use Rattle.world_pair.specs.World.{with_end, with_outbox, with_state, says, hushed, cut, LineEnd, Finish, Place, addresses, at_line, after_stop, gone, Occurs, Queues, Opens, Turns, Takes, Turns_last, Takes_last, Leaves, finish_after, Acts, Gives, Idles, Drops, Stops_at_mark, Breaks, Breaks_behind, ActsAlone, given_by, given_file, Takes_breaking, Still, Leaves_broken, SomeOf, None_left, Takes_one, Leaves_one, Stops, Stops_after_take}
use Rattle.world_pair.specs.Law.{KeysAgree}
use Rattle.node_model.proofs.Lists.{updated_at, Each-weaker, none_some}
use Rattle.world_pair.proofs.Inbound.{inbound_mark_any, known_after_mark_any}
use Rattle.node_model.proofs.Moves.{open-moved}
use Rattle.world_pair.proofs.Broken.{BreaksTo}
use Rattle.world_pair.proofs.Faults.{Fault, Nothing_made, Mark_made, All_made, fault_of, breaks_to, breaks_of}
use Rattle.world_pair.proofs.Seen.{surely}
use Rattle.node_model.specs.Node.{Hold}
use Rattle.world_pair.proofs.Half.{Alone, works_so}
use Rattle.world_pair.proofs.Broken.{broken_sends, broken_receives, state_sends, state_receives, still_there, end_sends, end_receives, take_entries}
use Rattle.world_pair.proofs.Seats.{alone, nobody, seated_fewer, seated_end, seated_row, seated_opens, seated_leaves, seat_updated, turn_stays, take_stays, leave_apart}
use Rattle.world_pair.proofs.Quiet.{queue_of_mark_any}
use Rattle.world_pair.proofs.Sends.{turn_sends, take_sends}
use Rattle.world_pair.proofs.Inverts.{own_turn, take_of}
use Rattle.world_pair.proofs.Last.{parted_sends, parted_receives, hush_sends, hush_receives, take_parts, turn_parts, finish_own}
use Rattle.world_pair.proofs.Receives.{turn_receives, take_receives}
use Rattle.world_pair.proofs.Flags.{queues_receives, acts_sends, acts_receives, gives_sends, gives_receives, still_sends, still_receives}
use Rattle.world_pair.proofs.Others.{leave_sends, leave_receives, finish_ok, drops, opens_sends, opens_receives, queues_sends, stop_sends, stop_receives, front_gone, front_taken, known_take}
use Rattle.world_pair.specs.Invariant.{EntryIs, FinishStood, InboxHolds, Invariant, QueueHolds, Seated, SettledStands, working_hold}

some_are : (all some : List Address) → SomeOf all some → Each (λ a. Member a all) some
some_are all some None_left = tt
some_are all some (Takes_one {a = a} {all = xs} {some = ys} h) = (inl refl, Each-weaker (λ x. Member x xs) (λ x. (x ≡ a) ⊎ Member x xs) (λ x m. inr m) ys (some_are xs ys h))
some_are all some (Leaves_one {a = a} {all = xs} {some = ys} h) = Each-weaker (λ x. Member x xs) (λ x. (x ≡ a) ⊎ Member x xs) (λ x m. inr m) ys (some_are xs ys h)

finish_after_ok : (from : Address) (kept : Durable) (t : Course) (old : Option Finish) (o : Outcome) → (o ≡ Ends Finished → FinishStood from kept (Some (record { offered = t.offered; met_skip = t.met_skip }))) → FinishStood from kept old → FinishStood from kept (finish_after o t old)
finish_after_ok from kept t old (Ends Finished) done was = done refl
finish_after_ok from kept t old (Ends Out_of_turn) done was = was
finish_after_ok from kept t old (Ends Too_late) done was = was
finish_after_ok from kept t old (Ends Too_much) done was = was
finish_after_ok from kept t old (Ends (Refused_by fault)) done was = was
finish_after_ok from kept t old Goes_on done was = was
finish_after_ok from kept t old Waits done was = was

-- the same places
pub both : {p p' q q' : Place} → p' ≡ p → q' ≡ q → Invariant p q → Invariant p' q'
both a b h = subst (λ (x : Place × Place). Invariant x.0 x.1) (λ i. (sym a i, sym b i)) h

head_is : (a b : Address) (xs ys : List Address) → a ∷ xs ≡ b ∷ ys → a ≡ b
head_is a b xs ys e = cc

tail_is : (a b : Address) (xs ys : List Address) → a ∷ xs ≡ b ∷ ys → xs ≡ ys
tail_is a b xs ys e = cc

fewer_seats : (ends : ℕ → LineEnd) (line k seat : ℕ) → (updated ends line (gone (ends line)) k).seat ≡ Some seat → (ends k).seat ≡ Some seat
fewer_seats ends line k seat e = ⊎_elim (λ (c : (k ≡ line) × (None ≡ Some seat)). none_some c.1) (λ (c : (k ≢ line) × ((ends k).seat ≡ Some seat)). c.1) (seat_updated ends line (gone (ends line)) k seat e)

nobody_sits : (n : Node) (ends : ℕ → LineEnd) → Seated n (λ k. gone (ends k))
nobody_sits n ends = record { open_there = λ line seat e. none_some e; apart = λ j k seat a b. none_some a }

pub still_same : (n m : Node) → m ≡ n → Still n m
still_same n m e = record { state = ap (λ (x : Node). x.state) e; settings = ap (λ (x : Node). x.settings) e; broken = ap (λ (x : Node). x.broken) e; sessions = λ k. ap (λ (x : Node). session_at x k) e }

still_keeps : (me peer : Place) (n : Node) → Still me.node n → Invariant me peer → Invariant (record me { node = n }) peer
still_keeps me peer n still h =
    record {
      out = still_sends me peer n still h.out;
      back = still_receives peer me n still h.back;
      sits = seated_fewer me.node n me.ends me.ends (λ _ _ e. e) (λ k other _ o. (o.0, still.sessions other ∙ o.1)) h.sits;
      sits_there = h.sits_there;
    }

-- the mark of what a seat holds
mark_keeps : (me peer : Place) (seat : ℕ) → me.node.broken ≡ None → Invariant me peer → Invariant (record me { node = with_state (marked_first seat me.node) me.node }) peer
mark_keeps me peer seat unbroken h =
    let hold = hold_in (session_at me.node seat) in
    let i = h.back.inbound in
    record {
      out = state_sends me peer (mark_any hold me.node.state) (queue_of_mark_any hold me.node.state) h.out;
      back = state_receives peer me (mark_any hold me.node.state) (inbound_mark_any peer.queued (addresses me) peer.first (refuses me.node.settings) me.node.state (working_hold me.node) hold (λ g e. i.each_hold seat g (ap hold_in (works_so me.node seat unbroken) ∙ e)) i) (λ key known. known_after_mark_any peer.first key me.node.state hold ∙ known) h.back;
      sits = seated_fewer me.node (with_state (mark_any hold me.node.state) me.node) me.ends me.ends (λ _ _ e. e) (λ k other _ o. o) h.sits;
      sits_there = h.sits_there;
    }

-- a store that breaks with its state as it was
break_keeps : (me peer : Place) (seat : ℕ) (n : Node) → BreaksTo seat me.node me.node.state n → Invariant me peer → Invariant (record me { node = n }) peer
break_keeps me peer seat n breaks h =
    record {
      out = broken_sends me peer seat me.node.state n breaks h.out.outbound h.out.settled (λ _ _ is. is) h.out;
      back = broken_receives peer me seat me.node.state n (refuses me.node.settings) (working_hold me.node) breaks h.back.inbound (λ _ known. known) h.back;
      sits = seated_fewer me.node n me.ends me.ends (λ _ _ e. e) (λ k other _ o. still_there seat me.node me.node.state n breaks other o) h.sits;
      sits_there = h.sits_there;
    }

-- the calls of no session
queue_keeps : (me peer : Place) (seat : ℕ) (files : List NewFile) (taken answered : Option ℕ) (slots : List Slot) (n : Node) → QueueRow seat files taken answered slots me.node n → Invariant me peer → Invariant (record me { node = n; queued = me.queued ++ map given_file files }) peer
queue_keeps me peer seat files taken answered slots n row h =
    record {
      out = queues_sends me peer seat files taken answered slots n row h.out;
      back = queues_receives peer me seat files taken answered slots n _ row h.back;
      sits = seated_fewer me.node n me.ends me.ends (λ _ _ e. e) (λ k other _ o. (o.0, ap (λ (x : Node). session_at x other) row.after ∙ o.1)) h.sits;
      sits_there = h.sits_there;
    }

act_keeps : (me peer : Place) (seat number : ℕ) (dest : Address) (n : Node) → ActRow seat dest number me.node n → Invariant me peer → Invariant (record me { node = n }) peer
act_keeps me peer seat number dest n row h =
    record {
      out = acts_sends me peer seat number dest n row h.out;
      back = acts_receives peer me seat number dest n row h.back;
      sits = seated_fewer me.node n me.ends me.ends (λ _ _ e. e) (λ k other _ o. (o.0, ap (λ (x : Node). session_at x other) row.after ∙ o.1)) h.sits;
      sits_there = h.sits_there;
    }

give_keeps : (me peer : Place) (number : ℕ) (n : Node) → GiveRow number me.node n → Invariant me peer → Invariant (record me { node = n }) peer
give_keeps me peer number n row h =
    record {
      out = gives_sends me peer number n row h.out;
      back = gives_receives peer me number n row h.back;
      sits = seated_fewer me.node n me.ends me.ends (λ _ _ e. e) (λ k other _ o. (o.0, ap (λ (x : Node). session_at x other) row.after ∙ o.1)) h.sits;
      sits_there = h.sits_there;
    }

no_more_files : (me peer : Place) (n : Node) → Invariant (record me { node = n }) peer → Invariant (record me { node = n; queued = me.queued ++ [] }) peer
no_more_files me peer n h = subst (λ q. Invariant (record me { node = n; queued = q }) peer) (append_none me.queued) h

-- the store breaks behind such a call
behind_keeps : (me peer : Place) (seat : ℕ) (call : Call) (answer : Answer) (x n : Node) → ActsAlone call → Made seat me.node call answer x → BreaksTo seat me.node n.state n → n.state ≡ x.state → Invariant me peer → Invariant (record me { node = n; queued = me.queued ++ given_by call }) peer
behind_keeps me peer seat (Queue_call files taken answered) (Queued slots) x n a row to state h =
    let e = row.after in
    break_keeps (record me { node = x; queued = me.queued ++ map given_file files }) peer seat n (breaks_from seat me.node x n to (ap (λ (y : Node). y.broken) e) (ap (λ (y : Node). y.settings) e) (λ k. ap (λ (y : Node). session_at y k) e) state) (queue_keeps me peer seat files taken answered slots x row h)
behind_keeps me peer seat (Act_call dest) (Acted number) x n a row to state h =
    let e = row.after in
    no_more_files me peer n (break_keeps (record me { node = x }) peer seat n (breaks_from seat me.node x n to (ap (λ (y : Node). y.broken) e) (ap (λ (y : Node). y.settings) e) (λ k. ap (λ (y : Node). session_at y k) e) state) (act_keeps me peer seat number dest x row h))
behind_keeps me peer seat (Act_call dest) Nothing x n a row to state h =
    let e = row.after in
    no_more_files me peer n (break_keeps me peer seat n (record { unbroken = to.unbroken; count = to.count; broken = to.broken; state = state ∙ ap (λ (y : Node). y.state) e; settings = to.settings; others = to.others; own = to.own }) h)
behind_keeps me peer seat Give_call (Given number) x n a row to state h =
    let e = row.after in
    no_more_files me peer n (break_keeps (record me { node = x }) peer seat n (breaks_from seat me.node x n to (ap (λ (y : Node). y.broken) e) (ap (λ (y : Node). y.settings) e) (λ k. ap (λ (y : Node). session_at y k) e) state) (give_keeps me peer number x row h))
behind_keeps me peer seat Give_call (Held number) x n a row to state h =
    let e = row.after in
    no_more_files me peer n (break_keeps me peer seat n (record { unbroken = to.unbroken; count = to.count; broken = to.broken; state = state ∙ ap (λ (y : Node). y.state) e; settings = to.settings; others = to.others; own = to.own }) h)
behind_keeps me peer seat Give_call Nothing x n a row to state h =
    let e = row.after in
    no_more_files me peer n (break_keeps me peer seat n (record { unbroken = to.unbroken; count = to.count; broken = to.broken; state = state ∙ ap (λ (y : Node). y.state) e; settings = to.settings; others = to.others; own = to.own }) h)
behind_keeps me peer seat (Knock_call role) answer x n a row to state h = absurd a
behind_keeps me peer seat (Open_call role peers secure moment) answer x n a row to state h = absurd a
behind_keeps me peer seat Offer_call answer x n a row to state h = absurd a
behind_keeps me peer seat (Read_call place room) answer x n a row to state h = absurd a
behind_keeps me peer seat (Got_call number) answer x n a row to state h = absurd a
behind_keeps me peer seat (Skip_call number) answer x n a row to state h = absurd a
behind_keeps me peer seat (File_call key offset) answer x n a row to state h = absurd a
behind_keeps me peer seat (Data_call bytes) answer x n a row to state h = absurd a
behind_keeps me peer seat Leave_call answer x n a row to state h = absurd a
behind_keeps me peer seat call answer x n a row to state h = absurd row

-- an event keeps all that
pub event_keeps : (me peer me' peer' : Place) → Occurs me peer me' peer' → KeysAgree me peer → KeysAgree peer me → Invariant me peer → Invariant me' peer'
event_keeps me peer me' peer' (Queues seat files taken answered slots n step a b) agree back h = both a b (queue_keeps me peer seat files taken answered slots n step.1 h)
event_keeps me peer me' peer' (Opens line seat number n role theirs secure moment unused_here to_peer step a b) agree back h =
    let opens = step.1.1 in
    let at_me = open-moved me.node n seat role (peer.first ∷ theirs) secure moment opens in
    let heads : peer.first ≡ opens.first = head_is peer.first opens.first theirs opens.others opens.has_first in
    let tails : theirs ≡ opens.others = tail_is peer.first opens.first theirs opens.others opens.has_first in
    let nobody_there = nobody me.node me.ends seat opens.none_yet h.sits in
    both a b (record {
      out = opens_sends me peer line seat n role _ (λ k _. nobody_there k) at_me (record { first_is = sym heads; others_are = subst (Each (λ x. Member x peer.others)) tails (some_are peer.others theirs to_peer) }) h.out;
      back = opens_receives peer me line seat n role _ (λ k _. nobody_there k) at_me refl h.back;
      sits = seated_opens me.node n me.ends line seat role _ _ opens.none_yet at_me h.sits;
      sits_there = h.sits_there;
    })
event_keeps me peer me' peer' (Turns line seat n t u sent here talks made a b) agree back h =
    let at = alone me.node me.ends line seat here h.sits in
    let turn = own_turn seat me.node t n u sent made in
    let stays = turn_stays seat me.node t n u sent turn in
    both a b (record {
      out = turn_sends me peer line seat at n t u sent talks turn h.out;
      back = turn_receives peer me line seat at n t u sent talks turn h.back;
      sits = seated_row me.node n me.ends line seat (says (me.ends line) (Some u) sent) refl stays.1 stays.0 h.sits;
      sits_there = h.sits_there;
    })
event_keeps me peer me' peer' (Takes line seat n t u sent rest w here talks front made a b) agree back h =
    let at = alone me.node me.ends line seat here h.sits in
    let take = take_of seat me.node t n u sent w made in
    let stays = take_stays seat me.node t n u sent w take in
    both a b (record {
      out = take_sends me peer line seat at n t u sent rest w talks front take h.out;
      back = take_receives peer me line seat at n t u sent rest w talks front take back (λ s has. (h.out.peers seat s has).first_is) h.back;
      sits = seated_row me.node n me.ends line seat (says (me.ends line) (Some u) sent) refl stays.1 stays.0 h.sits;
      sits_there = seated_end peer.node peer.ends line (with_outbox rest (peer.ends line)) refl h.sits_there;
    })
event_keeps me peer me' peer' (Turns_last line seat n t here talks last a b) agree back h = both a b (go last.verdict.outcome refl)
  where
    finish : Option Finish
    finish = finish_after last.verdict.outcome t (me.ends line).finish

    at : Alone me.ends line seat
    at = alone me.node me.ends line seat here h.sits

    ok : FinishStood me.first peer.node.state finish
    ok = finish_after_ok me.first peer.node.state t (me.ends line).finish last.verdict.outcome (λ done. finish_ok me peer line t talks (finish_own last.block (part_at me.node seat) t.now last.events last.verdict last.row done) h.out) (h.out.lines line).finished

    says_no_more : StaysOpen last.verdict.outcome → Invariant (at_line line (hushed finish (me.ends line)) n me) peer
    says_no_more open_still =
        let u = course_after t last.events t.met_skip last.verdict.after in
        let said = last.verdict.said in
        let turn = own_turn seat me.node t n u said (record { block = last.block; some = last.some; events = last.events; verdict = last.verdict; row = last.row; chain = last.chain; open_still = open_still; said = refl; after = refl }) in
        let stays = turn_stays seat me.node t n u said turn in
        record {
          out = hush_sends me peer peer line n u said finish h.out refl refl refl refl refl ok (turn_sends me peer line seat at n t u said talks turn h.out);
          back = hush_receives peer me line n u said finish (turn_receives peer me line seat at n t u said talks turn h.back);
          sits = seated_row me.node n me.ends line seat (hushed finish (me.ends line)) refl stays.1 stays.0 h.sits;
          sits_there = h.sits_there;
        }

    go : (o : Outcome) → last.verdict.outcome ≡ o → Invariant (at_line line (hushed finish (me.ends line)) n me) peer
    go (Ends end) e =
        let parted = turn_parts seat me.node n last.block t.now last.events last.verdict end last.row e last.breaks_none last.chain in
        record {
          out = parted_sends me peer line seat at n finish parted ok h.out;
          back = parted_receives peer me line seat at n finish parted h.back;
          sits = seated_row me.node n me.ends line seat (hushed finish (me.ends line)) refl parted.apart parted.stays h.sits;
          sits_there = h.sits_there;
        }
    go Goes_on e = says_no_more (subst StaysOpen (sym e) tt)
    go Waits e = says_no_more (subst StaysOpen (sym e) tt)
event_keeps me peer me' peer' (Takes_last line seat n t rest w here talks front last a b) agree back h = both a b (go last.verdict.outcome refl)
  where
    at : Alone me.ends line seat
    at = alone me.node me.ends line seat here h.sits

    finish : Option Finish
    finish = (me.ends line).finish

    peer'' : Place
    peer'' = with_end line (with_outbox rest (peer.ends line)) peer

    there : Seated peer.node peer''.ends
    there = seated_end peer.node peer.ends line (with_outbox rest (peer.ends line)) refl h.sits_there

    says_no_more : StaysOpen last.verdict.outcome → Invariant (at_line line (hushed finish (me.ends line)) n me) peer''
    says_no_more open_still =
        let u = course_after t last.events (skipped w t.met_skip) last.verdict.after in
        let said = last.verdict.said in
        let take = take_of seat me.node t n u said w (record { events = last.events; verdict = last.verdict; row = last.row; chain = last.chain; open_still = open_still; said = refl; after = refl }) in
        let stays = take_stays seat me.node t n u said w take in
        record {
          out = hush_sends me peer peer'' line n u said finish h.out refl refl (ap (λ (x : LineEnd). x.course) (updated_at peer.ends line (with_outbox rest (peer.ends line)))) (ap (λ (x : LineEnd). x.seat) (updated_at peer.ends line (with_outbox rest (peer.ends line)))) refl (h.out.lines line).finished (take_sends me peer line seat at n t u said rest w talks front take h.out);
          back = hush_receives peer'' me line n u said finish (take_receives peer me line seat at n t u said rest w talks front take back (λ s has. (h.out.peers seat s has).first_is) h.back);
          sits = seated_row me.node n me.ends line seat (hushed finish (me.ends line)) refl stays.1 stays.0 h.sits;
          sits_there = there;
        }

    go : (o : Outcome) → last.verdict.outcome ≡ o → Invariant (at_line line (hushed finish (me.ends line)) n me) peer''
    go (Ends end) e =
        let parted = take_parts seat me.node n t.now w last.events last.verdict end last.row e last.breaks_none last.chain in
        let me'' = at_line line (hushed finish (me.ends line)) n me in
        record {
          out = front_taken me'' peer line w rest front (parted_sends me peer line seat at n finish parted (h.out.lines line).finished h.out);
          back = front_gone peer me'' line w rest front (ap (λ (x : LineEnd). x.course) (updated_at me.ends line (hushed finish (me.ends line)))) (parted_receives peer me line seat at n finish parted h.back);
          sits = seated_row me.node n me.ends line seat (hushed finish (me.ends line)) refl parted.apart parted.stays h.sits;
          sits_there = there;
        }
    go Goes_on e = says_no_more (subst StaysOpen (sym e) tt)
    go Waits e = says_no_more (subst StaysOpen (sym e) tt)
event_keeps me peer me' peer' (Leaves line seat n here step a b) agree back h =
    let row = step.1 in
    let at = alone me.node me.ends line seat here h.sits in
    both a b (record {
      out = leave_sends me peer line seat at n row h.out;
      back = leave_receives peer me line seat at n (surely step.0) row h.back;
      sits = seated_leaves me.node n me.ends line seat here (leave_apart me.node n seat row) h.sits;
      sits_there = h.sits_there;
    })
event_keeps me peer me' peer' (Acts seat number dest n step a b) agree back h = both a b (act_keeps me peer seat number dest n step.1 h)
event_keeps me peer me' peer' (Gives seat number n step a b) agree back h = both a b (give_keeps me peer number n step.1 h)
event_keeps me peer me' peer' (Idles seat call answer n step still a b) agree back h = both a b (still_keeps me peer n still h)
event_keeps me peer me' peer' (Drops line mine theirs a b) agree back h =
    both a b (record {
      out = drops me peer line mine theirs h.out;
      back = drops peer me line theirs mine h.back;
      sits = seated_end me.node me.ends line (cut mine (me.ends line)) refl h.sits;
      sits_there = seated_end peer.node peer.ends line (cut theirs (peer.ends line)) refl h.sits_there;
    })
event_keeps me peer me' peer' (Stops o fits a b) agree back h =
    both a b (record {
      out = stop_sends me peer o me.node h.out.outbound h.out.settled h.out;
      back = stop_receives peer me o me.node (refuses me.node.settings) (working_hold me.node) h.back.inbound (λ _ known. known) h.back;
      sits = nobody_sits _ me.ends;
      sits_there = h.sits_there;
    })
event_keeps me peer me' peer' (Stops_at_mark seat o unbroken fits a b) agree back h =
    let marked = mark_keeps me peer seat unbroken h in
    let d = marked_first seat me.node in
    both a b (record {
      out = stop_sends (record me { node = with_state d me.node }) peer o (with_state d me.node) marked.out.outbound marked.out.settled marked.out;
      back = stop_receives peer (record me { node = with_state d me.node }) o (with_state d me.node) (refuses me.node.settings) (working_hold (with_state d me.node)) marked.back.inbound (λ _ known. known) marked.back;
      sits = nobody_sits _ me.ends;
      sits_there = h.sits_there;
    })
event_keeps me peer me' peer' (Breaks seat call count n (works, inl r) states a b) agree back h = both a b (still_keeps me peer n (still_same me.node n r.1) h)
event_keeps me peer me' peer' (Breaks seat call count n (works, inr breaks) (inl state) a b) agree back h = both a b (break_keeps me peer seat n (breaks_to seat me.node call count n me.node.state breaks state) h)
event_keeps me peer me' peer' (Breaks seat call count n (works, inr breaks) (inr state) a b) agree back h =
    let d = marked_first seat me.node in
    let to = breaks_to seat me.node call count n d breaks state in
    both a b (break_keeps (record me { node = with_state d me.node }) peer seat n (record { unbroken = to.unbroken; count = to.count; broken = to.broken; state = to.state; settings = to.settings; others = to.others; own = to.own }) (mark_keeps me peer seat breaks.unbroken h))
event_keeps me peer me' peer' (Breaks_behind seat call answer count made n alone_call unbroken row (works, inl r) state a b) agree back h = none_some (sym unbroken ∙ r.0)
event_keeps me peer me' peer' (Breaks_behind seat call answer count made n alone_call unbroken row (works, inr breaks) state a b) agree back h =
    both a b (behind_keeps me peer seat call answer made n alone_call row (breaks_to seat me.node call count n n.state breaks refl) state h)
event_keeps me peer me' peer' (Takes_breaking line seat n t rest w here talks front breaking a b) agree back h = both a b (go (fault_of seat me.node t n w breaking.events breaking.verdict breaking.row breaking.chain breaking.disk))
  where
    mid : Place
    mid = record me { node = n }

    me'' : Place
    me'' = at_line line (hushed (me.ends line).finish (me.ends line)) n me

    breaks : BreaksTo seat me.node n.state n
    breaks = breaks_of seat me.node t n w breaking

    -- what that leaves, with the durable state that it passes
    leaves : (refuse : Key → Bool) (holds : ℕ → Option Hold) → QueueHolds me.queued n.state.queue → Each (SettledStands (addresses peer) me.first peer.node.state) n.state.queue → ((number : ℕ) (key : Key) → EntryIs me.node.state.queue (addresses peer) number key → EntryIs n.state.queue (addresses peer) number key) → InboxHolds peer.queued (addresses me) peer.first refuse n.state holds → ((key : Key) → is_known peer.first key me.node.state ≡ true → is_known peer.first key n.state ≡ true) → Invariant me'' (with_end line (with_outbox rest (peer.ends line)) peer)
    leaves refuse holds outbound settled entries inbound known =
        let out' = broken_sends me peer seat n.state n breaks outbound settled entries h.out in
        let back' = broken_receives peer me seat n.state n refuse holds breaks inbound known h.back in
        record {
          out = front_taken me'' peer line w rest front (end_sends mid peer line (me.ends line).seat (me.ends line).finish (h.out.lines line).finished out');
          back = front_gone peer me'' line w rest front (ap (λ (z : LineEnd). z.course) (updated_at me.ends line (hushed (me.ends line).finish (me.ends line)))) (end_receives peer mid line (me.ends line).seat (me.ends line).finish back');
          sits = seated_end n me.ends line (hushed (me.ends line).finish (me.ends line)) refl (seated_fewer me.node n me.ends me.ends (λ _ _ e. e) (λ k other _ o. still_there seat me.node n.state n breaks other o) h.sits);
          sits_there = seated_end peer.node peer.ends line (with_outbox rest (peer.ends line)) refl h.sits_there;
        }

    at_state : (d : Durable) → n.state ≡ d → (refuse : Key → Bool) (holds : ℕ → Option Hold) → QueueHolds me.queued d.queue → Each (SettledStands (addresses peer) me.first peer.node.state) d.queue → ((number : ℕ) (key : Key) → EntryIs me.node.state.queue (addresses peer) number key → EntryIs d.queue (addresses peer) number key) → InboxHolds peer.queued (addresses me) peer.first refuse d holds → ((key : Key) → is_known peer.first key me.node.state ≡ true → is_known peer.first key d ≡ true) → Invariant me'' (with_end line (with_outbox rest (peer.ends line)) peer)
    at_state d e refuse holds outbound settled entries inbound known =
        leaves refuse holds (subst (λ (x : Durable). QueueHolds me.queued x.queue) (sym e) outbound) (subst (λ (x : Durable). Each (SettledStands (addresses peer) me.first peer.node.state) x.queue) (sym e) settled)
        (λ number key is. subst (λ (x : Durable). EntryIs x.queue (addresses peer) number key) (sym e) (entries number key is))
        (subst (λ (x : Durable). InboxHolds peer.queued (addresses me) peer.first refuse x holds) (sym e) inbound) (λ key k. subst (λ (x : Durable). is_known peer.first key x ≡ true) (sym e) (known key k))

    go : Fault seat me.node t n.state w → Invariant me'' (with_end line (with_outbox rest (peer.ends line)) peer)
    go (Nothing_made e) = at_state me.node.state e (refuses me.node.settings) (working_hold me.node) h.out.outbound h.out.settled (λ _ _ is. is) h.back.inbound (λ _ k. k)
    go (Mark_made e) =
        let hold = hold_in (session_at me.node seat) in
        let queue : (mark_any hold me.node.state).queue ≡ me.node.state.queue = queue_of_mark_any hold me.node.state in
        let i = h.back.inbound in
        at_state (mark_any hold me.node.state) e (refuses me.node.settings) (working_hold me.node) (subst (QueueHolds me.queued) (sym queue) h.out.outbound) (subst (Each (SettledStands (addresses peer) me.first peer.node.state)) (sym queue) h.out.settled)
        (λ number key is. subst (λ q. EntryIs q (addresses peer) number key) (sym queue) is)
        (inbound_mark_any peer.queued (addresses me) peer.first (refuses me.node.settings) me.node.state (working_hold me.node) hold (λ g c. i.each_hold seat g (ap hold_in (works_so me.node seat breaking.unbroken) ∙ c)) i) (λ key known. known_after_mark_any peer.first key me.node.state hold ∙ known)
    go (All_made x u sent made e) =
        let at = alone me.node me.ends line seat here h.sits in
        let take = take_of seat me.node t x u sent w made in
        let sends = take_sends me peer line seat at x t u sent rest w talks front take h.out in
        let receives = take_receives peer me line seat at x t u sent rest w talks front take back (λ s has. (h.out.peers seat s has).first_is) h.back in
        at_state x.state e (refuses x.settings) (working_hold x) sends.outbound sends.settled (λ number key is. take_entries (addresses peer) number key seat me.node t x u sent w take is) receives.inbound (λ key known. known_take peer.first key me.node x seat t u sent w take known)
event_keeps me peer me' peer' (Leaves_broken line count broken a b) agree back h =
    both a b (record {
      out = end_sends me peer line None (me.ends line).finish (h.out.lines line).finished h.out;
      back = end_receives peer me line None (me.ends line).finish h.back;
      sits = seated_fewer me.node me.node me.ends (updated me.ends line (gone (me.ends line))) (fewer_seats me.ends line) (λ k other _ o. o) h.sits;
      sits_there = h.sits_there;
    })
event_keeps me peer me' peer' (Stops_after_take o line seat n t u sent rest w here talks front made fits a b) agree back h =
    let at = alone me.node me.ends line seat here h.sits in
    let take = take_of seat me.node t n u sent w made in
    let sends = take_sends me peer line seat at n t u sent rest w talks front take h.out in
    let receives = take_receives peer me line seat at n t u sent rest w talks front take back (λ s has. (h.out.peers seat s has).first_is) h.back in
    let outbound : QueueHolds me.queued n.state.queue = sends.outbound in
    let settled : Each (SettledStands (addresses peer) me.first peer.node.state) n.state.queue = sends.settled in
    let inbound : InboxHolds peer.queued (addresses me) peer.first (refuses n.settings) n.state (working_hold n) = receives.inbound in
    both a b (record {
      out = front_taken (after_stop o n me) peer line w rest front (stop_sends me peer o n outbound settled h.out);
      back = front_gone peer (after_stop o n me) line w rest front refl (stop_receives peer me o n (refuses n.settings) (working_hold n) inbound (λ key known. known_take peer.first key me.node n seat t u sent w take known) h.back);
      sits = nobody_sits _ me.ends;
      sits_there = seated_end peer.node peer.ends line (with_outbox rest (peer.ends line)) refl h.sits_there;
    })
