-- The third session: it brings the file across, and both entries are settled.
use Rattle.std.proofs.Common.{◌≡◌, ◌≢◌, ℕ, zero, suc, true, false, [], ◌∷◌, Some, None, refl, sym, ap, ◌∙◌, subst, inl, inr, le_refl, lit<, lit≤}
use Rattle.node_model.specs.declared.words.Role.TheVariants.{Calls, Answers}
use Rattle.node_model.specs.Lists.{Member}
use Rattle.node_model.specs.Items.{Entry, Done}
use Rattle.node_model.specs.Node.{Hold, session_at, claim_in, hold_in}
use Rattle.node_model.specs.Rows.{Go, Have, FileRow}
use Rattle.node_model.specs.SendRows.{Candidate, Precedes}
use Rattle.node_model.specs.Talk.{File, Data, Got, End, Ends, Finished}
use Rattle.world_pair.specs.Course.{Course, first_course}
use Rattle.world_pair.specs.World.{Place, hushed, finish_after, at_line, Occurs, None_left, Takes_one, Opens, World, At_x, At_y, Reaches, Begins}
use Rattle.world_pair.specs.WorkedRun.{sender, receiver, file, opened_empty}
use Rattle.world_pair.specs.MixedRun.{point}
use Rattle.world_pair.specs.CrossingRun.{crossing_beginning, CrossedOnce}
use Rattle.world_pair.proofs.WorkedNodes.{open_in, held_in, claiming, settling, released_in, going, whole, two, calling, at_place}
use Rattle.world_pair.proofs.Building.{said, heard, offering, sending_now, own_ended, peer_ended, offers_file, sends_data, ends_batch, finishes, takes_file, takes_whole, takes_got, takes_end}
use Rattle.world_pair.proofs.CrossingFront.{node_entry, point_entry, x_left, y_left, front}
use Rattle.node_model.proofs.Lists.{none_some}

abbrev x_called : Place
x_called = calling 2 3 Calls y_left (point ∷ []) x_left

calls : Occurs x_left y_left x_called y_left
calls = Opens 2 3 3 x_called.node Calls (point ∷ []) false 0 refl (Takes_one None_left) (inl refl, (refl, record { first = receiver; others = point ∷ []; has_first = refl; none_yet = refl; few = lit< tt; after = refl })) refl refl

abbrev y_answered : Place
y_answered = calling 2 1 Answers x_called [] y_left

answers : Occurs y_left x_called y_answered x_called
answers = Opens 2 1 3 y_answered.node Answers [] false 0 refl None_left (inl refl, (refl, record { first = sender; others = []; has_first = refl; none_yet = refl; few = lit< tt; after = refl })) refl refl

-- the file goes across

abbrev offer : Course
offer = offering (first_course Calls) 1 file

abbrev x_offered : Place
x_offered = said 2 offer (File file 0 ∷ []) (claiming 3 1 x_called.node) x_called

nobody_claims : (number seat : ℕ) → claim_in (session_at x_called.node seat) ≢ Some number
nobody_claims number zero c = none_some c
nobody_claims number (suc zero) c = none_some c
nobody_claims number (suc (suc zero)) c = none_some c
nobody_claims number (suc (suc (suc zero))) c = none_some c
nobody_claims number (suc (suc (suc (suc zero)))) c = none_some c
nobody_claims number (suc (suc (suc (suc (suc j))))) c = none_some c

node_first : (g : Entry) → Candidate x_called.node (open_in 3 x_called.node) g → Precedes node_entry g
node_first g c = go c.queued
  where
    go : Member g (node_entry ∷ point_entry ∷ []) → Precedes node_entry g
    go (inl s) = subst (Precedes node_entry) (sym s) (inr (refl, le_refl _))
    go (inr (inl s)) = subst (Precedes node_entry) (sym s) (inr (refl, lit≤ tt))
    go (inr (inr none)) = absurd none

offers : Occurs x_called y_answered x_offered y_answered
offers = offers_file x_called y_answered 2 3 1 file x_offered.node (first_course Calls) (record { sits = refl; knows = refl }) refl refl (inl refl, (node_entry, refl, refl, record { session = open_in 3 x_called.node; has = refl; free = refl; candidate = record { queued = inl refl; bytes = 7 ∷ 8 ∷ []; live = refl; for_peer = inl refl; unclaimed = nobody_claims 1; unskipped = λ m. m }; least = node_first; room = lit≤ tt; after = refl }))

abbrev y_let_in : Place
y_let_in = said 2 (first_course Answers) [] (going 1 0 y_answered.node) y_answered

no_hold : (seat : ℕ) (h : Hold) → hold_in (session_at (released_in 1 y_answered.node) seat) ≡ Some h → ⊥
no_hold zero h c = none_some c
no_hold (suc zero) h c = none_some c
no_hold (suc (suc zero)) h c = none_some c
no_hold (suc (suc (suc j))) h c = none_some c

let_in : FileRow 1 file 0 Go y_answered.node y_let_in.node
let_in =
    record {
      session = open_in 1 y_answered.node;
      has = refl;
      applies = (record { unknown = refl; wanted = refl; free = λ h. no_hold h.other h.hold h.holds }, refl, lit< tt);
      room = lit≤ tt;
      made = (1, record { its_own = λ m c. none_some c; unmarked = λ _. tt; unreceived = tt; unheld = λ seat h c. absurd (no_hold seat h c); some = lit≤ tt; next = lit≤ tt; few = lit≤ tt }, refl);
    }

lets_in : Occurs y_answered x_offered y_let_in (heard 2 [] x_offered)
lets_in = takes_file y_answered x_offered 2 1 file 0 Go [] [] y_let_in.node (first_course Answers) (record { sits = refl; knows = refl }) refl refl (inl refl, let_in)

abbrev x_sent : Place
x_sent = said 2 (sending_now offer (Some (at_place 1 2))) (Data (7 ∷ 8 ∷ []) ∷ []) x_offered.node (heard 2 [] x_offered)

sends : Occurs (heard 2 [] x_offered) y_let_in x_sent y_let_in
sends = sends_data (heard 2 [] x_offered) y_let_in 2 3 4096 (at_place 1 0) (7 ∷ 8 ∷ []) x_offered.node offer (record { sits = refl; knows = refl }) refl refl (lit< tt) (lit< tt) refl (inl refl, record { entry = node_entry; content = 7 ∷ 8 ∷ []; claimed = refl; queued = inl refl; live = refl; section = refl; after = refl })

abbrev y_took : Place
y_took = said 2 (first_course Answers) (Got file ∷ []) (whole 1 (7 ∷ 8 ∷ []) y_let_in.node) y_let_in

takes : Occurs y_let_in x_sent y_took (heard 2 [] x_sent)
takes = takes_whole y_let_in x_sent 2 1 (7 ∷ 8 ∷ []) [] (record { key = file; left = 2; taking = true }) y_took.node (first_course Answers) (record { sits = refl; knows = refl }) refl refl refl (lit≤ tt) (inl refl, record { session = open_in 1 y_let_in.node; has = refl; hold = held_in 1 y_let_in.node; holds = refl; taking = refl; whole = refl; after = refl })

abbrev x_settled : Place
x_settled = said 2 (sending_now offer None) [] (settling 3 1 x_sent.node) (heard 2 [] x_sent)

settles : Occurs (heard 2 [] x_sent) y_took x_settled (heard 2 [] y_took)
settles = takes_got (heard 2 [] x_sent) y_took 2 3 (at_place 1 2) [] x_settled.node (sending_now offer (Some (at_place 1 2))) (record { sits = refl; knows = refl }) refl refl (inl refl, record { session = open_in 3 x_sent.node; has = refl; claimed = refl; after = refl })

-- the other entry is the same file, which the receiver has

abbrev offer_again : Course
offer_again = offering (sending_now offer None) 2 file

abbrev x_offered_again : Place
x_offered_again = said 2 offer_again (File file 0 ∷ []) (claiming 3 2 x_settled.node) x_settled

nobody_claims_then : (seat : ℕ) → claim_in (session_at x_settled.node seat) ≢ Some 2
nobody_claims_then zero c = none_some c
nobody_claims_then (suc zero) c = none_some c
nobody_claims_then (suc (suc zero)) c = none_some c
nobody_claims_then (suc (suc (suc zero))) c = none_some c
nobody_claims_then (suc (suc (suc (suc zero)))) c = none_some c
nobody_claims_then (suc (suc (suc (suc (suc j))))) c = none_some c

only_point : (g : Entry) → Candidate x_settled.node (open_in 3 x_settled.node) g → Precedes point_entry g
only_point g c = go c.queued
  where
    go : Member g (record node_entry { body = Done } ∷ point_entry ∷ []) → Precedes point_entry g
    go (inl s) = absurd (let live = ap (λ (x : Entry). x.body) (sym s) ∙ c.live in cc)
    go (inr (inl s)) = subst (Precedes point_entry) (sym s) (inr (refl, le_refl _))
    go (inr (inr none)) = absurd none

offers_again : Occurs x_settled (heard 2 [] y_took) x_offered_again (heard 2 [] y_took)
offers_again = offers_file x_settled (heard 2 [] y_took) 2 3 2 file x_offered_again.node (sending_now offer None) (record { sits = refl; knows = refl }) refl refl (inl refl, (point_entry, refl, refl, record { session = open_in 3 x_settled.node; has = refl; free = refl; candidate = record { queued = inr (inl refl); bytes = 7 ∷ 8 ∷ []; live = refl; for_peer = inr (inl refl); unclaimed = nobody_claims_then; unskipped = λ m. m }; least = only_point; room = lit≤ tt; after = refl }))

abbrev y_has : Place
y_has = said 2 (first_course Answers) (Got file ∷ []) (released_in 1 y_took.node) (heard 2 [] y_took)

has_it : FileRow 1 file 0 Have y_took.node y_has.node
has_it = record { session = open_in 1 y_took.node; has = refl; applies = refl; room = lit≤ tt; made = refl }

has : Occurs (heard 2 [] y_took) x_offered_again y_has (heard 2 [] x_offered_again)
has = takes_file (heard 2 [] y_took) x_offered_again 2 1 file 0 Have (Got file ∷ []) [] y_has.node (first_course Answers) (record { sits = refl; knows = refl }) refl refl (inl refl, has_it)

abbrev done : Course
done = sending_now offer_again None

abbrev x_done : Place
x_done = said 2 done [] (settling 3 2 x_offered_again.node) (heard 2 [] x_offered_again)

settles_again : Occurs (heard 2 [] x_offered_again) y_has x_done (heard 2 [] y_has)
settles_again = takes_got (heard 2 [] x_offered_again) y_has 2 3 (at_place 2 0) [] x_done.node offer_again (record { sits = refl; knows = refl }) refl refl (inl refl, record { session = open_in 3 x_offered_again.node; has = refl; claimed = refl; after = refl })

-- both finish

no_live : (g : Entry) → Candidate x_done.node (open_in 3 x_done.node) g → ⊥
no_live g c = go c.queued
  where
    go : Member g (record node_entry { body = Done } ∷ record point_entry { body = Done } ∷ []) → ⊥
    go (inl s) = absurd (let live = ap (λ (x : Entry). x.body) (sym s) ∙ c.live in cc)
    go (inr (inl s)) = absurd (let live = ap (λ (x : Entry). x.body) (sym s) ∙ c.live in cc)
    go (inr (inr none)) = none

abbrev x_ended : Place
x_ended = said 2 (own_ended done) (End ∷ []) x_done.node x_done

ends_first : Occurs x_done (heard 2 [] y_has) x_ended (heard 2 [] y_has)
ends_first = ends_batch x_done (heard 2 [] y_has) 2 3 x_done.node done (record { sits = refl; knows = refl }) refl refl refl (inl refl, record { session = open_in 3 x_done.node; has = refl; free = refl; none = no_live; after = refl })

abbrev y_heard_end : Place
y_heard_end = said 2 (peer_ended (first_course Answers)) [] y_has.node (heard 2 [] y_has)

hears_end : Occurs (heard 2 [] y_has) x_ended y_heard_end (heard 2 [] x_ended)
hears_end = takes_end (heard 2 [] y_has) x_ended 2 1 [] (first_course Answers) (record { sits = refl; knows = refl }) refl

abbrev y_ended : Place
y_ended = said 2 (own_ended (peer_ended (first_course Answers))) (End ∷ []) y_has.node y_heard_end

ends_too : Occurs y_heard_end (heard 2 [] x_ended) y_ended (heard 2 [] x_ended)
ends_too = ends_batch y_heard_end (heard 2 [] x_ended) 2 1 y_has.node (peer_ended (first_course Answers)) (record { sits = refl; knows = refl }) refl refl refl (inl refl, record { session = open_in 1 y_has.node; has = refl; free = refl; none = λ g c. c.queued; after = refl })

abbrev y_finished : Place
y_finished = at_line 2 (hushed (finish_after (Ends Finished) (own_ended (peer_ended (first_course Answers))) None) (y_ended.ends 2)) y_ended.node y_ended

finishes_there : Occurs y_ended (heard 2 [] x_ended) y_finished (heard 2 [] x_ended)
finishes_there = finishes y_ended (heard 2 [] x_ended) 2 1 (own_ended (peer_ended (first_course Answers))) (record { sits = refl; knows = refl }) refl

abbrev x_heard_end : Place
x_heard_end = said 2 (peer_ended (own_ended done)) [] x_done.node (heard 2 [] x_ended)

hears_too : Occurs (heard 2 [] x_ended) y_finished x_heard_end (heard 2 [] y_finished)
hears_too = takes_end (heard 2 [] x_ended) y_finished 2 3 [] (own_ended done) (record { sits = refl; knows = refl }) refl

abbrev x_finished : Place
x_finished = at_line 2 (hushed (finish_after (Ends Finished) (peer_ended (own_ended done)) None) (x_heard_end.ends 2)) x_heard_end.node x_heard_end

finishes_here : Occurs x_heard_end (heard 2 [] y_finished) x_finished (heard 2 [] y_finished)
finishes_here = finishes x_heard_end (heard 2 [] y_finished) 2 3 (peer_ended (own_ended done)) (record { sits = refl; knows = refl }) refl

run : Reaches 37 crossing_beginning (two x_finished (heard 2 [] y_finished))
run =
    (two x_heard_end (heard 2 [] y_finished), (two (heard 2 [] x_ended) y_finished, (two (heard 2 [] x_ended) y_ended, (two (heard 2 [] x_ended) y_heard_end, (two x_ended (heard 2 [] y_has), (two x_done (heard 2 [] y_has), (two (heard 2 [] x_offered_again) y_has, (two x_offered_again (heard 2 [] y_took), (two x_settled (heard 2 [] y_took), (two (heard 2 [] x_sent) y_took, (two x_sent y_let_in, (two (heard 2 [] x_offered) y_let_in, (two x_offered y_answered, (two x_called y_answered, (two x_called y_left, (two x_left y_left, front, At_x calls), At_y answers), At_x offers), At_y lets_in), At_x sends), At_y takes), At_x settles), At_x offers_again), At_y has), At_x settles_again), At_x ends_first), At_y hears_end), At_y ends_too), At_y finishes_there), At_x hears_too), At_x finishes_here)

begins : Begins crossing_beginning
begins =
    record { x_opening = opened_empty; y_opening = opened_empty; x_opens = record { records = lit≤ tt; staged = tt; marks = tt; receipts = tt; few = lit≤ tt }; y_opens = record { records = lit≤ tt; staged = tt; marks = tt; receipts = tt; few = lit≤ tt }; at_x = refl; at_y = refl }

pub crossed_once : Begins crossing_beginning × ((last : World) × Reaches 37 crossing_beginning last × CrossedOnce last)
crossed_once =
    (begins, (two x_finished (heard 2 [] y_finished), run, record { received = refl; settled = refl; dropped = refl; skipped = refl; finished = refl }))
