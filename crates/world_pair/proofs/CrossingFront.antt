-- The crossing sessions: the second is told to skip what the first holds, and finishes; then the first drops.
use Rattle.std.proofs.Common.{◌≡◌, ◌≢◌, ℕ, zero, suc, false, [], ◌∷◌, Some, None, refl, sym, ap, ◌∙◌, subst, inl, inr, le_refl, lit<, lit≤}
use Rattle.ftn_addr.specs.Address.{Address}
use Rattle.node_model.specs.declared.words.Role.TheVariants.{Calls, Answers}
use Rattle.node_model.specs.Lists.{Member}
use Rattle.node_model.specs.Items.{Entry}
use Rattle.node_model.specs.Node.{Hold, session_at, claim_in, hold_in}
use Rattle.node_model.specs.Rows.{Go, Elsewhere, FileRow}
use Rattle.node_model.specs.SendRows.{New, No_more, Fresh, live_entry, Candidate, Precedes}
use Rattle.node_model.specs.Talk.{File, Skip, End, Ends, Finished}
use Rattle.world_pair.specs.Course.{Course, first_course}
use Rattle.world_pair.specs.World.{Place, hushed, finish_after, at_line, given_file, Occurs, None_left, Takes_one, Leaves_one, Queues, Opens, Leaves, Drops, At_x, At_y, Reaches}
use Rattle.world_pair.specs.WorkedRun.{sender, receiver, file}
use Rattle.world_pair.specs.MixedRun.{point}
use Rattle.world_pair.specs.CrossingRun.{to_node, to_point, crossing_beginning}
use Rattle.world_pair.proofs.WorkedNodes.{open_in, held_in, queueing, claiming, skipping, released_in, going, two, calling, left, dropped, at_place}
use Rattle.world_pair.proofs.Building.{said, heard, offering, met_skip_now, own_ended, peer_ended, offers_file, ends_batch, finishes, takes_file, takes_skip, takes_end}
use Rattle.node_model.proofs.Lists.{none_some}

abbrev pub node_entry : Entry
node_entry = live_entry 1 to_node

abbrev pub point_entry : Entry
point_entry = live_entry 2 to_point

abbrev x_begins : Place
x_begins = crossing_beginning.x

abbrev y_begins : Place
y_begins = crossing_beginning.y

abbrev x_queued : Place
x_queued =
    record x_begins { node = queueing (to_node ∷ to_point ∷ []) (New 1 ∷ New 2 ∷ []) (node_entry ∷ point_entry ∷ []) x_begins.node; queued = given_file to_node ∷ given_file to_point ∷ [] }

queues : Occurs x_begins y_begins x_queued y_begins
queues = Queues 0 (to_node ∷ to_point ∷ []) None None (New 1 ∷ New 2 ∷ []) x_queued.node (inl refl, record { queue = node_entry ∷ point_entry ∷ []; sizes = (refl, (refl, tt)); queued = Fresh 1 refl tt (Fresh 2 refl (lit< tt, tt) No_more); room = lit≤ tt; staged = 2; numbers = (lit≤ tt, (lit≤ tt, tt)); risen = lit≤ tt; few = lit≤ tt; after = refl }) refl refl

-- two calls, the first with the first address alone

abbrev x_called : Place
x_called = calling 0 3 Calls y_begins [] x_queued

calls : Occurs x_queued y_begins x_called y_begins
calls = Opens 0 3 1 x_called.node Calls [] false 0 refl (Leaves_one None_left) (inl refl, (refl, record { first = receiver; others = []; has_first = refl; none_yet = refl; few = lit< tt; after = refl })) refl refl

abbrev y_answered : Place
y_answered = calling 0 1 Answers x_called [] y_begins

answers : Occurs y_begins x_called y_answered x_called
answers = Opens 0 1 1 y_answered.node Answers [] false 0 refl None_left (inl refl, (refl, record { first = sender; others = []; has_first = refl; none_yet = refl; few = lit< tt; after = refl })) refl refl

abbrev x_called_again : Place
x_called_again = calling 1 4 Calls y_answered (point ∷ []) x_called

calls_again : Occurs x_called y_answered x_called_again y_answered
calls_again = Opens 1 4 2 x_called_again.node Calls (point ∷ []) false 0 refl (Takes_one None_left) (inl refl, (refl, record { first = receiver; others = point ∷ []; has_first = refl; none_yet = refl; few = lit< tt; after = refl })) refl refl

abbrev y_answered_again : Place
y_answered_again = calling 1 2 Answers x_called_again [] y_answered

answers_again : Occurs y_answered x_called_again y_answered_again x_called_again
answers_again = Opens 1 2 2 y_answered_again.node Answers [] false 0 refl None_left (inl refl, (refl, record { first = sender; others = []; has_first = refl; none_yet = refl; few = lit< tt; after = refl })) refl refl

-- the first session offers the one entry, and the file is let in

abbrev x_offered : Place
x_offered = said 0 (offering (first_course Calls) 1 file) (File file 0 ∷ []) (claiming 3 1 x_called_again.node) x_called_again

nobody_claims : (number seat : ℕ) → claim_in (session_at x_called_again.node seat) ≢ Some number
nobody_claims number zero c = none_some c
nobody_claims number (suc zero) c = none_some c
nobody_claims number (suc (suc zero)) c = none_some c
nobody_claims number (suc (suc (suc zero))) c = none_some c
nobody_claims number (suc (suc (suc (suc zero)))) c = none_some c
nobody_claims number (suc (suc (suc (suc (suc j))))) c = none_some c

only_node : (g : Entry) → Candidate x_called_again.node (open_in 3 x_called_again.node) g → Precedes node_entry g
only_node g c = go c.queued c.for_peer
  where
    go : Member g (node_entry ∷ point_entry ∷ []) → Member g.dest (receiver ∷ []) → Precedes node_entry g
    go (inl s) d = subst (Precedes node_entry) (sym s) (inr (refl, le_refl _))
    go (inr (inl s)) (inl d) = absurd (let p : suc zero ≡ zero = ap (λ (a : Address). a.point) (ap (λ (x : Entry). x.dest) (sym s) ∙ d) in cc)
    go (inr (inl s)) (inr none) = absurd none
    go (inr (inr none)) d = absurd none

offers : Occurs x_called_again y_answered_again x_offered y_answered_again
offers = offers_file x_called_again y_answered_again 0 3 1 file x_offered.node (first_course Calls) (record { sits = refl; knows = refl }) refl refl (inl refl, (node_entry, refl, refl, record { session = open_in 3 x_called_again.node; has = refl; free = refl; candidate = record { queued = inl refl; bytes = 7 ∷ 8 ∷ []; live = refl; for_peer = inl refl; unclaimed = nobody_claims 1; unskipped = λ m. m }; least = only_node; room = lit≤ tt; after = refl }))

abbrev y_let_in : Place
y_let_in = said 0 (first_course Answers) [] (going 1 0 y_answered_again.node) y_answered_again

no_hold : (seat : ℕ) (h : Hold) → hold_in (session_at (released_in 1 y_answered_again.node) seat) ≡ Some h → ⊥
no_hold zero h c = none_some c
no_hold (suc zero) h c = none_some c
no_hold (suc (suc zero)) h c = none_some c
no_hold (suc (suc (suc j))) h c = none_some c

let_in : FileRow 1 file 0 Go y_answered_again.node y_let_in.node
let_in =
    record {
      session = open_in 1 y_answered_again.node;
      has = refl;
      applies = (record { unknown = refl; wanted = refl; free = λ h. no_hold h.other h.hold h.holds }, refl, lit< tt);
      room = lit≤ tt;
      made = (1, record { its_own = λ m c. none_some c; unmarked = λ _. tt; unreceived = tt; unheld = λ seat h c. absurd (no_hold seat h c); some = lit≤ tt; next = lit≤ tt; few = lit≤ tt }, refl);
    }

lets_in : Occurs y_answered_again x_offered y_let_in (heard 0 [] x_offered)
lets_in = takes_file y_answered_again x_offered 0 1 file 0 Go [] [] y_let_in.node (first_course Answers) (record { sits = refl; knows = refl }) refl refl (inl refl, let_in)

-- the second offers the other, which is the same file: it is held elsewhere

abbrev x_crossed : Place
x_crossed = said 1 (offering (first_course Calls) 2 file) (File file 0 ∷ []) (claiming 4 2 (heard 0 [] x_offered).node) (heard 0 [] x_offered)

one_is_claimed : (seat : ℕ) → claim_in (session_at x_offered.node seat) ≢ Some 2
one_is_claimed zero c = none_some c
one_is_claimed (suc zero) c = none_some c
one_is_claimed (suc (suc zero)) c = none_some c
one_is_claimed (suc (suc (suc zero))) c = absurd (let e : Some (suc zero) ≡ Some (suc (suc zero)) = c in cc)
one_is_claimed (suc (suc (suc (suc zero)))) c = none_some c
one_is_claimed (suc (suc (suc (suc (suc j))))) c = none_some c

only_point : (g : Entry) → Candidate x_offered.node (open_in 4 x_offered.node) g → Precedes point_entry g
only_point g c = go c.queued
  where
    go : Member g (node_entry ∷ point_entry ∷ []) → Precedes point_entry g
    go (inl s) = absurd (c.unclaimed 3 (ap (λ (x : Entry). Some x.number) (sym s)))
    go (inr (inl s)) = subst (Precedes point_entry) (sym s) (inr (refl, le_refl _))
    go (inr (inr none)) = absurd none

crosses : Occurs (heard 0 [] x_offered) y_let_in x_crossed y_let_in
crosses = offers_file (heard 0 [] x_offered) y_let_in 1 4 2 file x_crossed.node (first_course Calls) (record { sits = refl; knows = refl }) refl refl (inl refl, (point_entry, refl, refl, record { session = open_in 4 x_offered.node; has = refl; free = refl; candidate = record { queued = inr (inl refl); bytes = 7 ∷ 8 ∷ []; live = refl; for_peer = inr (inl refl); unclaimed = one_is_claimed; unskipped = λ m. m }; least = only_point; room = lit≤ tt; after = refl }))

abbrev y_skipped : Place
y_skipped = said 1 (first_course Answers) (Skip file ∷ []) (released_in 2 y_let_in.node) y_let_in

held_there : FileRow 2 file 0 Elsewhere y_let_in.node y_skipped.node
held_there =
    record {
      session = open_in 2 y_let_in.node;
      has = refl;
      applies = (refl, refl, record { other = 1; apart = λ (e : suc zero ≡ suc (suc zero)). absurd (cc); hold = held_in 1 (released_in 2 y_let_in.node); holds = refl; same = refl });
      room = lit≤ tt;
      made = refl;
    }

skips : Occurs y_let_in x_crossed y_skipped (heard 1 [] x_crossed)
skips = takes_file y_let_in x_crossed 1 2 file 0 Elsewhere (Skip file ∷ []) [] y_skipped.node (first_course Answers) (record { sits = refl; knows = refl }) refl refl (inl refl, held_there)

-- so the second session finishes, with a skip

abbrev crossed : Course
crossed = met_skip_now (offering (first_course Calls) 2 file)

abbrev x_met_skip : Place
x_met_skip = said 1 crossed [] (skipping 4 2 x_crossed.node) (heard 1 [] x_crossed)

meets_skip : Occurs (heard 1 [] x_crossed) y_skipped x_met_skip (heard 1 [] y_skipped)
meets_skip = takes_skip (heard 1 [] x_crossed) y_skipped 1 4 (at_place 2 0) [] x_met_skip.node (offering (first_course Calls) 2 file) (record { sits = refl; knows = refl }) refl refl (inl refl, record { session = open_in 4 x_crossed.node; has = refl; claimed = refl; after = refl })

nothing_else : (g : Entry) → Candidate x_met_skip.node (open_in 4 x_met_skip.node) g → ⊥
nothing_else g c = go c.queued
  where
    go : Member g (node_entry ∷ point_entry ∷ []) → ⊥
    go (inl s) = c.unclaimed 3 (ap (λ (x : Entry). Some x.number) (sym s))
    go (inr (inl s)) = c.unskipped (inl (ap (λ (x : Entry). x.number) s))
    go (inr (inr none)) = none

abbrev x_ended : Place
x_ended = said 1 (own_ended crossed) (End ∷ []) x_met_skip.node x_met_skip

ends_first : Occurs x_met_skip (heard 1 [] y_skipped) x_ended (heard 1 [] y_skipped)
ends_first = ends_batch x_met_skip (heard 1 [] y_skipped) 1 4 x_met_skip.node crossed (record { sits = refl; knows = refl }) refl refl refl (inl refl, record { session = open_in 4 x_met_skip.node; has = refl; free = refl; none = nothing_else; after = refl })

abbrev y_heard_end : Place
y_heard_end = said 1 (peer_ended (first_course Answers)) [] y_skipped.node (heard 1 [] y_skipped)

hears_end : Occurs (heard 1 [] y_skipped) x_ended y_heard_end (heard 1 [] x_ended)
hears_end = takes_end (heard 1 [] y_skipped) x_ended 1 2 [] (first_course Answers) (record { sits = refl; knows = refl }) refl

abbrev y_ended : Place
y_ended = said 1 (own_ended (peer_ended (first_course Answers))) (End ∷ []) y_skipped.node y_heard_end

ends_too : Occurs y_heard_end (heard 1 [] x_ended) y_ended (heard 1 [] x_ended)
ends_too = ends_batch y_heard_end (heard 1 [] x_ended) 1 2 y_skipped.node (peer_ended (first_course Answers)) (record { sits = refl; knows = refl }) refl refl refl (inl refl, record { session = open_in 2 y_skipped.node; has = refl; free = refl; none = λ g c. c.queued; after = refl })

abbrev y_finished : Place
y_finished = at_line 1 (hushed (finish_after (Ends Finished) (own_ended (peer_ended (first_course Answers))) None) (y_ended.ends 1)) y_ended.node y_ended

finishes_there : Occurs y_ended (heard 1 [] x_ended) y_finished (heard 1 [] x_ended)
finishes_there = finishes y_ended (heard 1 [] x_ended) 1 2 (own_ended (peer_ended (first_course Answers))) (record { sits = refl; knows = refl }) refl

abbrev x_heard_end : Place
x_heard_end = said 1 (peer_ended (own_ended crossed)) [] x_met_skip.node (heard 1 [] x_ended)

hears_too : Occurs (heard 1 [] x_ended) y_finished x_heard_end (heard 1 [] y_finished)
hears_too = takes_end (heard 1 [] x_ended) y_finished 1 4 [] (own_ended crossed) (record { sits = refl; knows = refl }) refl

abbrev x_finished : Place
x_finished = at_line 1 (hushed (finish_after (Ends Finished) (peer_ended (own_ended crossed)) None) (x_heard_end.ends 1)) x_heard_end.node x_heard_end

finishes_here : Occurs x_heard_end (heard 1 [] y_finished) x_finished (heard 1 [] y_finished)
finishes_here = finishes x_heard_end (heard 1 [] y_finished) 1 4 (peer_ended (own_ended crossed)) (record { sits = refl; knows = refl }) refl

-- both ends of it leave; the first line drops, and its ends leave

abbrev x_left_second : Place
x_left_second = left 1 4 x_finished

leaves_second : Occurs x_finished (heard 1 [] y_finished) x_left_second (heard 1 [] y_finished)
leaves_second = Leaves 1 4 x_left_second.node refl (inl refl, inl (record { session = open_in 4 x_finished.node; has = refl; after = refl })) refl refl

abbrev y_left_second : Place
y_left_second = left 1 2 (heard 1 [] y_finished)

leaves_there : Occurs (heard 1 [] y_finished) x_left_second y_left_second x_left_second
leaves_there = Leaves 1 2 y_left_second.node refl (inl refl, inl (record { session = open_in 2 y_finished.node; has = refl; after = refl })) refl refl

drops : Occurs x_left_second y_left_second (dropped 0 x_left_second) (dropped 0 y_left_second)
drops = Drops 0 0 0 refl refl

abbrev pub y_left : Place
y_left = left 0 1 (dropped 0 y_left_second)

leaves_first : Occurs (dropped 0 y_left_second) (dropped 0 x_left_second) y_left (dropped 0 x_left_second)
leaves_first = Leaves 0 1 y_left.node refl (inl refl, inl (record { session = open_in 1 y_left_second.node; has = refl; after = refl })) refl refl

abbrev pub x_left : Place
x_left = left 0 3 (dropped 0 x_left_second)

leaves_too : Occurs (dropped 0 x_left_second) y_left x_left y_left
leaves_too = Leaves 0 3 x_left.node refl (inl refl, inl (record { session = open_in 3 x_left_second.node; has = refl; after = refl })) refl refl

pub front : Reaches 21 crossing_beginning (two x_left y_left)
front =
    (two (dropped 0 x_left_second) y_left, (two (dropped 0 x_left_second) (dropped 0 y_left_second), (two x_left_second y_left_second, (two x_left_second (heard 1 [] y_finished), (two x_finished (heard 1 [] y_finished), (two x_heard_end (heard 1 [] y_finished), (two (heard 1 [] x_ended) y_finished, (two (heard 1 [] x_ended) y_ended, (two (heard 1 [] x_ended) y_heard_end, (two x_ended (heard 1 [] y_skipped), (two x_met_skip (heard 1 [] y_skipped), (two (heard 1 [] x_crossed) y_skipped, (two x_crossed y_let_in, (two (heard 0 [] x_offered) y_let_in, (two x_offered y_answered_again, (two x_called_again y_answered_again, (two x_called_again y_answered, (two x_called y_answered, (two x_called y_begins, (two x_queued y_begins, (crossing_beginning, refl, At_x queues), At_x calls), At_y answers), At_x calls_again), At_y answers_again), At_x offers), At_y lets_in), At_x crosses), At_y skips), At_x meets_skip), At_x ends_first), At_y hears_end), At_y ends_too), At_y finishes_there), At_x hears_too), At_x finishes_here), At_x leaves_second), At_y leaves_there), At_x drops), At_y leaves_first), At_x leaves_too)
