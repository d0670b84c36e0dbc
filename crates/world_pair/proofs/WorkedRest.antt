-- The worked run, from the stop on: on a second line, which the receiver calls, the file is taken on from its mark, and
-- both ends finish.
use Rattle.std.proofs.Common.{◌≡◌, ◌≢◌, ℕ, zero, suc, true, false, [], ◌∷◌, Some, None, refl, sym, ap, ◌∙◌, subst, inl, inr, le_refl, ⊎_elim, lit<, lit≤}
use Rattle.node_model.specs.declared.words.Role.TheVariants.{Calls, Answers}
use Rattle.node_model.specs.Items.{Entry, Mark, Done}
use Rattle.node_model.specs.Node.{Hold, session_at, claim_in, hold_in}
use Rattle.node_model.specs.Rows.{Go, From, FileRow}
use Rattle.node_model.specs.SendRows.{Candidate, Precedes}
use Rattle.node_model.specs.Talk.{File, Data, Get, Got, End, Ends, Finished}
use Rattle.world_pair.specs.Course.{Course, first_course}
use Rattle.world_pair.specs.World.{Place, hushed, finish_after, at_line, Occurs, None_left, Opens, World, At_x, At_y, Reaches, Begins}
use Rattle.world_pair.specs.WorkedRun.{sender, receiver, file, opened_empty, worked_beginning, WentAcross}
use Rattle.world_pair.proofs.WorkedNodes.{open_in, held_in, claiming, settling, released_in, going, asking, whole, two, calling, at_place}
use Rattle.world_pair.proofs.Building.{said, heard, offering, sending_now, own_ended, peer_ended, offers_file, sends_data, ends_batch, finishes, takes_file, takes_whole, takes_got, takes_get, takes_end}
use Rattle.world_pair.proofs.WorkedFront.{entry, x_left, y_stopped, front}
use Rattle.node_model.proofs.Lists.{none_some, some_inj}

abbrev y_called : Place
y_called = calling 1 1 Calls x_left [] y_stopped

calls_back : Occurs y_stopped x_left y_called x_left
calls_back = Opens 1 1 1 y_called.node Calls [] false 0 refl None_left (inl refl, (refl, record { first = sender; others = []; has_first = refl; none_yet = refl; few = lit< tt; after = refl })) refl refl

abbrev x_answered : Place
x_answered = calling 1 3 Answers y_called [] x_left

answers : Occurs x_left y_called x_answered y_called
answers = Opens 1 3 2 x_answered.node Answers [] false 0 refl None_left (inl refl, (refl, record { first = receiver; others = []; has_first = refl; none_yet = refl; few = lit< tt; after = refl })) refl refl

-- the file is offered from its start, and asked for from the mark

abbrev offer : Course
offer = offering (first_course Answers) 1 file

abbrev x_offered : Place
x_offered = said 1 offer (File file 0 ∷ []) (claiming 3 1 x_answered.node) x_answered

nobody_claims : (seat : ℕ) → claim_in (session_at x_answered.node seat) ≢ Some 1
nobody_claims zero c = none_some c
nobody_claims (suc zero) c = none_some c
nobody_claims (suc (suc zero)) c = none_some c
nobody_claims (suc (suc (suc zero))) c = none_some c
nobody_claims (suc (suc (suc (suc j)))) c = none_some c

only_one : (g : Entry) → Candidate x_answered.node (open_in 3 x_answered.node) g → Precedes entry g
only_one g c = subst (Precedes entry) (⊎_elim (λ (s : g ≡ entry). sym s) (λ n. absurd n) c.queued) (inr (refl, le_refl _))

offers : Occurs x_answered y_called x_offered y_called
offers = offers_file x_answered y_called 1 3 1 file x_offered.node (first_course Answers) (record { sits = refl; knows = refl }) refl refl (inl refl, (entry, refl, refl, record { session = open_in 3 x_answered.node; has = refl; free = refl; candidate = record { queued = inl refl; bytes = 7 ∷ 8 ∷ []; live = refl; for_peer = inl refl; unclaimed = nobody_claims; unskipped = λ m. m }; least = only_one; room = lit≤ tt; after = refl }))

abbrev y_asked : Place
y_asked = said 1 (first_course Calls) (Get file 1 ∷ []) (asking 1 1 y_called.node) y_called

no_hold : (seat : ℕ) (h : Hold) → hold_in (session_at (released_in 1 y_called.node) seat) ≡ Some h → ⊥
no_hold zero h c = none_some c
no_hold (suc zero) h c = none_some c
no_hold (suc (suc j)) h c = none_some c

asked : FileRow 1 file 0 (From 1) y_called.node y_asked.node
asked =
    record {
      session = open_in 1 y_called.node;
      has = refl;
      applies = (record { unknown = refl; wanted = refl; free = λ h. no_hold h.other h.hold h.holds }, refl, (λ (c : zero ≡ suc zero). absurd (cc)), λ m. m);
      room = lit≤ tt;
      made = (1, record { its_own = λ m c. ap (λ (x : Mark). x.number) (sym (some_inj c)); unmarked = λ c. none_some (sym c); unreceived = tt; unheld = λ seat h c. absurd (no_hold seat h c); some = lit≤ tt; next = lit≤ tt; few = lit≤ tt }, refl);
    }

asks_on : Occurs y_called x_offered y_asked (heard 1 [] x_offered)
asks_on = takes_file y_called x_offered 1 1 file 0 (From 1) (Get file 1 ∷ []) [] y_asked.node (first_course Calls) (record { sits = refl; knows = refl }) refl refl (inl refl, asked)

-- the sender goes on from there, and its data is taken

abbrev x_went_on : Place
x_went_on = said 1 (sending_now offer (Some (at_place 1 1))) (File file 1 ∷ []) x_offered.node (heard 1 [] x_offered)

goes_back : Occurs (heard 1 [] x_offered) y_asked x_went_on (heard 1 [] y_asked)
goes_back = takes_get (heard 1 [] x_offered) y_asked 1 3 (at_place 1 0) 1 [] offer (record { sits = refl; knows = refl }) refl refl (lit≤ tt)

abbrev y_let_in : Place
y_let_in = said 1 (first_course Calls) [] (going 1 1 y_asked.node) (heard 1 [] y_asked)

no_hold_then : (seat : ℕ) (h : Hold) → hold_in (session_at (released_in 1 y_asked.node) seat) ≡ Some h → ⊥
no_hold_then zero h c = none_some c
no_hold_then (suc zero) h c = none_some c
no_hold_then (suc (suc j)) h c = none_some c

let_in : FileRow 1 file 1 Go y_asked.node y_let_in.node
let_in =
    record {
      session = open_in 1 y_asked.node;
      has = refl;
      applies = (record { unknown = refl; wanted = refl; free = λ h. no_hold_then h.other h.hold h.holds }, refl, lit< tt);
      room = lit≤ tt;
      made = (1, record { its_own = λ m c. ap (λ (x : Mark). x.number) (sym (some_inj c)); unmarked = λ c. none_some (sym c); unreceived = tt; unheld = λ seat h c. absurd (no_hold_then seat h c); some = lit≤ tt; next = lit≤ tt; few = lit≤ tt }, refl);
    }

lets_in : Occurs (heard 1 [] y_asked) x_went_on y_let_in (heard 1 [] x_went_on)
lets_in = takes_file (heard 1 [] y_asked) x_went_on 1 1 file 1 Go [] [] y_let_in.node (first_course Calls) (record { sits = refl; knows = refl }) refl refl (inl refl, let_in)

abbrev x_sent : Place
x_sent = said 1 (sending_now offer (Some (at_place 1 2))) (Data (8 ∷ []) ∷ []) x_offered.node (heard 1 [] x_went_on)

sends : Occurs (heard 1 [] x_went_on) y_let_in x_sent y_let_in
sends = sends_data (heard 1 [] x_went_on) y_let_in 1 3 4096 (at_place 1 1) (8 ∷ []) x_offered.node (sending_now offer (Some (at_place 1 1))) (record { sits = refl; knows = refl }) refl refl (lit< tt) (lit< tt) refl (inl refl, record { entry = entry; content = 7 ∷ 8 ∷ []; claimed = refl; queued = inl refl; live = refl; section = refl; after = refl })

abbrev y_took : Place
y_took = said 1 (first_course Calls) (Got file ∷ []) (whole 1 (8 ∷ []) y_let_in.node) y_let_in

takes : Occurs y_let_in x_sent y_took (heard 1 [] x_sent)
takes = takes_whole y_let_in x_sent 1 1 (8 ∷ []) [] (record { key = file; left = 1; taking = true }) y_took.node (first_course Calls) (record { sits = refl; knows = refl }) refl refl refl (lit≤ tt) (inl refl, record { session = open_in 1 y_let_in.node; has = refl; hold = held_in 1 y_let_in.node; holds = refl; taking = refl; whole = refl; after = refl })

-- the entry is settled

abbrev sent_all : Course
sent_all = sending_now offer None

abbrev x_settled : Place
x_settled = said 1 sent_all [] (settling 3 1 x_sent.node) (heard 1 [] x_sent)

settles : Occurs (heard 1 [] x_sent) y_took x_settled (heard 1 [] y_took)
settles = takes_got (heard 1 [] x_sent) y_took 1 3 (at_place 1 2) [] x_settled.node (sending_now offer (Some (at_place 1 2))) (record { sits = refl; knows = refl }) refl refl (inl refl, record { session = open_in 3 x_sent.node; has = refl; claimed = refl; after = refl })

-- the caller has nothing to send and ends its batch; the other side follows, and both finish

abbrev y_ended : Place
y_ended = said 1 (own_ended (first_course Calls)) (End ∷ []) y_took.node (heard 1 [] y_took)

ends_first : Occurs (heard 1 [] y_took) x_settled y_ended x_settled
ends_first = ends_batch (heard 1 [] y_took) x_settled 1 1 y_took.node (first_course Calls) (record { sits = refl; knows = refl }) refl refl refl (inl refl, record { session = open_in 1 y_took.node; has = refl; free = refl; none = λ g c. c.queued; after = refl })

abbrev x_heard_end : Place
x_heard_end = said 1 (peer_ended sent_all) [] x_settled.node x_settled

hears_end : Occurs x_settled y_ended x_heard_end (heard 1 [] y_ended)
hears_end = takes_end x_settled y_ended 1 3 [] sent_all (record { sits = refl; knows = refl }) refl

abbrev x_ended : Place
x_ended = said 1 (own_ended (peer_ended sent_all)) (End ∷ []) x_settled.node x_heard_end

no_live : (g : Entry) → Candidate x_settled.node (open_in 3 x_settled.node) g → ⊥
no_live g c = ⊎_elim (λ (s : g ≡ record entry { body = Done }). absurd (let live = ap (λ (x : Entry). x.body) (sym s) ∙ c.live in cc)) (λ n. absurd n) c.queued

ends_too : Occurs x_heard_end (heard 1 [] y_ended) x_ended (heard 1 [] y_ended)
ends_too = ends_batch x_heard_end (heard 1 [] y_ended) 1 3 x_settled.node (peer_ended sent_all) (record { sits = refl; knows = refl }) refl refl refl (inl refl, record { session = open_in 3 x_settled.node; has = refl; free = refl; none = no_live; after = refl })

abbrev x_finished : Place
x_finished = at_line 1 (hushed (finish_after (Ends Finished) (own_ended (peer_ended sent_all)) None) (x_ended.ends 1)) x_settled.node x_ended

finishes_here : Occurs x_ended (heard 1 [] y_ended) x_finished (heard 1 [] y_ended)
finishes_here = finishes x_ended (heard 1 [] y_ended) 1 3 (own_ended (peer_ended sent_all)) (record { sits = refl; knows = refl }) refl

abbrev y_heard_end : Place
y_heard_end = said 1 (peer_ended (own_ended (first_course Calls))) [] y_took.node (heard 1 [] y_ended)

hears_too : Occurs (heard 1 [] y_ended) x_finished y_heard_end (heard 1 [] x_finished)
hears_too = takes_end (heard 1 [] y_ended) x_finished 1 1 [] (own_ended (first_course Calls)) (record { sits = refl; knows = refl }) refl

abbrev y_finished : Place
y_finished = at_line 1 (hushed (finish_after (Ends Finished) (peer_ended (own_ended (first_course Calls))) None) (y_heard_end.ends 1)) y_took.node y_heard_end

finishes_there : Occurs y_heard_end (heard 1 [] x_finished) y_finished (heard 1 [] x_finished)
finishes_there = finishes y_heard_end (heard 1 [] x_finished) 1 1 (peer_ended (own_ended (first_course Calls))) (record { sits = refl; knows = refl }) refl

run : Reaches 26 worked_beginning (two (heard 1 [] x_finished) y_finished)
run =
    (two (heard 1 [] x_finished) y_heard_end, (two x_finished (heard 1 [] y_ended), (two x_ended (heard 1 [] y_ended), (two x_heard_end (heard 1 [] y_ended), (two x_settled y_ended, (two x_settled (heard 1 [] y_took), (two (heard 1 [] x_sent) y_took, (two x_sent y_let_in, (two (heard 1 [] x_went_on) y_let_in, (two x_went_on (heard 1 [] y_asked), (two (heard 1 [] x_offered) y_asked, (two x_offered y_called, (two x_answered y_called, (two x_left y_called, (two x_left y_stopped, front, At_y calls_back), At_x answers), At_x offers), At_y asks_on), At_x goes_back), At_y lets_in), At_x sends), At_y takes), At_x settles), At_y ends_first), At_x hears_end), At_x ends_too), At_x finishes_here), At_y hears_too), At_y finishes_there)

pub begins : Begins worked_beginning
begins =
    record { x_opening = opened_empty; y_opening = opened_empty; x_opens = record { records = lit≤ tt; staged = tt; marks = tt; receipts = tt; few = lit≤ tt }; y_opens = record { records = lit≤ tt; staged = tt; marks = tt; receipts = tt; few = lit≤ tt }; at_x = refl; at_y = refl }

pub went_across : Begins worked_beginning × ((last : World) × Reaches 26 worked_beginning last × WentAcross last)
went_across =
    (begins, (two (heard 1 [] x_finished) y_finished, run, record { settled = refl; received = refl; dropped = refl; stopped = refl; went_on = refl; sender_finished = refl; receiver_finished = refl }))
