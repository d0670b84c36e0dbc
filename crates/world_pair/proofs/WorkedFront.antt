-- The worked run, to the stop: one byte goes across, the line drops, and the receiver stops at its mark.
use Rattle.std.proofs.Common.{◌≡◌, ◌≢◌, ℕ, zero, suc, true, false, [], ◌∷◌, Some, None, refl, sym, subst, inl, inr, le_refl, ⊎_elim, lit<, lit≤}
use Rattle.node_model.specs.declared.words.Role.TheVariants.{Calls, Answers}
use Rattle.node_model.specs.Items.{Entry}
use Rattle.node_model.specs.Node.{Hold, session_at, claim_in, hold_in}
use Rattle.node_model.specs.Rows.{Go, FileRow}
use Rattle.node_model.specs.SendRows.{New, No_more, Fresh, live_entry, Candidate, Precedes}
use Rattle.node_model.specs.Calls.{marked_first}
use Rattle.node_model.specs.Talk.{File, Data}
use Rattle.world_pair.specs.Course.{Course, first_course}
use Rattle.world_pair.specs.World.{Place, with_state, after_stop, given_file, Occurs, None_left, Queues, Opens, Leaves, Drops, Stops_at_mark, At_x, At_y, Reaches}
use Rattle.world_pair.specs.WorkedRun.{sender, receiver, file, new_file, opened_again, worked_beginning}
use Rattle.world_pair.proofs.WorkedNodes.{open_in, held_in, queueing, claiming, released_in, going, growing, two, calling, left, dropped, at_place}
use Rattle.world_pair.proofs.Building.{said, heard, offering, sending_now, offers_file, sends_data, takes_file, takes_more}
use Rattle.node_model.proofs.Lists.{none_some}

abbrev pub entry : Entry
entry = live_entry 1 new_file

abbrev x_begins : Place
x_begins = worked_beginning.x

abbrev y_begins : Place
y_begins = worked_beginning.y

abbrev x_queued : Place
x_queued =
    record x_begins { node = queueing (new_file ∷ []) (New 1 ∷ []) (entry ∷ []) x_begins.node; queued = given_file new_file ∷ [] }

queues : Occurs x_begins y_begins x_queued y_begins
queues = Queues 0 (new_file ∷ []) None None (New 1 ∷ []) x_queued.node (inl refl, record { queue = entry ∷ []; sizes = (refl, tt); queued = Fresh 1 refl tt No_more; room = lit≤ tt; staged = 1; numbers = (le_refl _, tt); risen = lit≤ tt; few = lit≤ tt; after = refl }) refl refl

abbrev x_called : Place
x_called = calling 0 3 Calls y_begins [] x_queued

calls : Occurs x_queued y_begins x_called y_begins
calls = Opens 0 3 1 x_called.node Calls [] false 0 refl None_left (inl refl, (refl, record { first = receiver; others = []; has_first = refl; none_yet = refl; few = lit< tt; after = refl })) refl refl

abbrev y_answered : Place
y_answered = calling 0 1 Answers x_called [] y_begins

answers : Occurs y_begins x_called y_answered x_called
answers = Opens 0 1 1 y_answered.node Answers [] false 0 refl None_left (inl refl, (refl, record { first = sender; others = []; has_first = refl; none_yet = refl; few = lit< tt; after = refl })) refl refl

-- the file is offered

abbrev pub first_offer : Course
first_offer = offering (first_course Calls) 1 file

abbrev x_offered : Place
x_offered = said 0 first_offer (File file 0 ∷ []) (claiming 3 1 x_called.node) x_called

nobody_claims : (seat : ℕ) → claim_in (session_at x_called.node seat) ≢ Some 1
nobody_claims zero c = none_some c
nobody_claims (suc zero) c = none_some c
nobody_claims (suc (suc zero)) c = none_some c
nobody_claims (suc (suc (suc zero))) c = none_some c
nobody_claims (suc (suc (suc (suc j)))) c = none_some c

only_one : (g : Entry) → Candidate x_called.node (open_in 3 x_called.node) g → Precedes entry g
only_one g c = subst (Precedes entry) (⊎_elim (λ (s : g ≡ entry). sym s) (λ n. absurd n) c.queued) (inr (refl, le_refl _))

offers : Occurs x_called y_answered x_offered y_answered
offers = offers_file x_called y_answered 0 3 1 file x_offered.node (first_course Calls) (record { sits = refl; knows = refl }) refl refl (inl refl, (entry, refl, refl, record { session = open_in 3 x_called.node; has = refl; free = refl; candidate = record { queued = inl refl; bytes = 7 ∷ 8 ∷ []; live = refl; for_peer = inl refl; unclaimed = nobody_claims; unskipped = λ m. m }; least = only_one; room = lit≤ tt; after = refl }))

-- it is let in

abbrev y_let_in : Place
y_let_in = said 0 (first_course Answers) [] (going 1 0 y_answered.node) y_answered

no_hold : (seat : ℕ) (h : Hold) → hold_in (session_at (released_in 1 y_answered.node) seat) ≡ Some h → ⊥
no_hold zero h c = none_some c
no_hold (suc zero) h c = none_some c
no_hold (suc (suc j)) h c = none_some c

let_in : FileRow 1 file 0 Go y_answered.node y_let_in.node
let_in =
    record {
      session = open_in 1 y_answered.node;
      has = refl;
      applies = (record { unknown = refl; wanted = refl; free = λ h. no_hold h.other h.hold h.holds }, refl, lit< tt);
      room = lit≤ tt;
      made = (1, record { its_own = λ m c. none_some c; unmarked = λ _. tt; unreceived = tt; unheld = λ seat h c. absurd (no_hold seat h c); some = lit≤ tt; next = lit≤ tt; few = lit≤ tt }, refl);
    }

lets_in : Occurs y_answered x_offered y_let_in (heard 0 [] x_offered)
lets_in = takes_file y_answered x_offered 0 1 file 0 Go [] [] y_let_in.node (first_course Answers) (record { sits = refl; knows = refl }) refl refl (inl refl, let_in)

-- one byte goes across

abbrev x_sent_one : Place
x_sent_one = said 0 (sending_now first_offer (Some (at_place 1 1))) (Data (7 ∷ []) ∷ []) x_offered.node (heard 0 [] x_offered)

sends_one : Occurs (heard 0 [] x_offered) y_let_in x_sent_one y_let_in
sends_one = sends_data (heard 0 [] x_offered) y_let_in 0 3 1 (at_place 1 0) (7 ∷ []) x_offered.node first_offer (record { sits = refl; knows = refl }) refl refl (lit< tt) (lit< tt) refl (inl refl, record { entry = entry; content = 7 ∷ 8 ∷ []; claimed = refl; queued = inl refl; live = refl; section = refl; after = refl })

abbrev y_took_one : Place
y_took_one = said 0 (first_course Answers) [] (growing 1 (7 ∷ []) y_let_in.node) y_let_in

takes_one : Occurs y_let_in x_sent_one y_took_one (heard 0 [] x_sent_one)
takes_one = takes_more y_let_in x_sent_one 0 1 (7 ∷ []) [] (record { key = file; left = 2; taking = true }) y_took_one.node (first_course Answers) (record { sits = refl; knows = refl }) refl refl refl (lit≤ tt) (inl refl, record { session = open_in 1 y_let_in.node; has = refl; hold = held_in 1 y_let_in.node; holds = refl; taking = refl; short = lit< tt; after = refl })

-- the second is sent, and is lost: the line drops

abbrev x_sent_two : Place
x_sent_two = said 0 (sending_now first_offer (Some (at_place 1 2))) (Data (8 ∷ []) ∷ []) x_offered.node (heard 0 [] x_sent_one)

sends_two : Occurs (heard 0 [] x_sent_one) y_took_one x_sent_two y_took_one
sends_two = sends_data (heard 0 [] x_sent_one) y_took_one 0 3 1 (at_place 1 1) (8 ∷ []) x_offered.node (sending_now first_offer (Some (at_place 1 1))) (record { sits = refl; knows = refl }) refl refl (lit< tt) (lit< tt) refl (inl refl, record { entry = entry; content = 7 ∷ 8 ∷ []; claimed = refl; queued = inl refl; live = refl; section = refl; after = refl })

abbrev x_dropped : Place
x_dropped = dropped 0 x_sent_two

abbrev y_dropped : Place
y_dropped = dropped 0 y_took_one

drops : Occurs x_sent_two y_took_one x_dropped y_dropped
drops = Drops 0 0 0 refl refl

-- the receiver marks what it holds, and stops before it has left

abbrev pub y_stopped : Place
y_stopped = after_stop opened_again (with_state (marked_first 1 y_dropped.node) y_dropped.node) y_dropped

stops : Occurs y_dropped x_dropped y_stopped x_dropped
stops = Stops_at_mark 1 opened_again refl (record { records = lit≤ tt; staged = tt; marks = (le_refl _, tt); receipts = tt; few = lit≤ tt }) refl refl

abbrev pub x_left : Place
x_left = left 0 3 x_dropped

leaves : Occurs x_dropped y_stopped x_left y_stopped
leaves = Leaves 0 3 x_left.node refl (inl refl, inl (record { session = open_in 3 x_dropped.node; has = refl; after = refl })) refl refl

-- eleven events
pub front : Reaches 11 worked_beginning (two x_left y_stopped)
front =
    (two x_dropped y_stopped, (two x_dropped y_dropped, (two x_sent_two y_took_one, (two (heard 0 [] x_sent_one) y_took_one, (two x_sent_one y_let_in, (two (heard 0 [] x_offered) y_let_in, (two x_offered y_answered, (two x_called y_answered, (two x_called y_begins, (two x_queued y_begins, (worked_beginning, refl, At_x queues), At_x calls), At_y answers), At_x offers), At_y lets_in), At_x sends_one), At_y takes_one), At_x sends_two), At_x drops), At_y stops), At_x leaves)
