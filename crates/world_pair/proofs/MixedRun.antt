-- The run in which a receipt is neither of two files.
use Rattle.std.proofs.Common.{◌≡◌, ◌≢◌, ◌⊎◌, ℕ, zero, suc, true, false, List, [], ◌∷◌, Some, None, refl, sym, ap, ◌∙◌, subst, inl, inr, le_refl, lit<, lit≤}
use Rattle.ftn_addr.specs.Address.{Address}
use Rattle.node_model.specs.declared.words.Role.TheVariants.{Calls, Answers}
use Rattle.node_model.specs.Lists.{Member}
use Rattle.node_model.specs.Items.{Entry, Mark}
use Rattle.node_model.specs.Node.{Hold, session_at, claim_in, hold_in}
use Rattle.node_model.specs.Rows.{Go, From, FileRow}
use Rattle.node_model.specs.SendRows.{New, No_more, Fresh, live_entry, Candidate, Precedes}
use Rattle.node_model.specs.Calls.{marked_first}
use Rattle.node_model.specs.Talk.{File, Data, Get, Got}
use Rattle.world_pair.specs.Course.{Course, first_course}
use Rattle.world_pair.specs.World.{Place, with_state, after_stop, given_file, Occurs, None_left, Takes_one, Leaves_one, Queues, Opens, Leaves, Stops_at_mark, World, At_x, At_y, Reaches, Begins}
use Rattle.world_pair.specs.Law.{IsWhole, OneReceipt}
use Rattle.world_pair.specs.WorkedRun.{sender, receiver, file, opened_empty, opened_again}
use Rattle.world_pair.specs.MixedRun.{point, for_point, for_node, mixed_beginning, ReceivesMixed}
use Rattle.world_pair.proofs.WorkedNodes.{open_in, held_in, queueing, claiming, released_in, going, asking, growing, whole, two, calling, left, at_place}
use Rattle.world_pair.proofs.Building.{said, heard, offering, sending_now, offers_file, sends_data, takes_file, takes_more, takes_whole, takes_get}
use Rattle.node_model.proofs.Lists.{none_some, some_inj}

abbrev first_entry : Entry
first_entry = live_entry 1 for_point

abbrev second_entry : Entry
second_entry = live_entry 2 for_node

abbrev x_begins : Place
x_begins = mixed_beginning.x

abbrev y_begins : Place
y_begins = mixed_beginning.y

-- both files are queued, and a session opens with both addresses

abbrev x_queued : Place
x_queued =
    record x_begins { node = queueing (for_point ∷ for_node ∷ []) (New 1 ∷ New 2 ∷ []) (first_entry ∷ second_entry ∷ []) x_begins.node; queued = given_file for_point ∷ given_file for_node ∷ [] }

queues : Occurs x_begins y_begins x_queued y_begins
queues = Queues 0 (for_point ∷ for_node ∷ []) None None (New 1 ∷ New 2 ∷ []) x_queued.node (inl refl, record { queue = first_entry ∷ second_entry ∷ []; sizes = (refl, (refl, tt)); queued = Fresh 1 refl tt (Fresh 2 refl (lit< tt, tt) No_more); room = lit≤ tt; staged = 2; numbers = (lit≤ tt, (lit≤ tt, tt)); risen = lit≤ tt; few = lit≤ tt; after = refl }) refl refl

abbrev x_called : Place
x_called = calling 0 3 Calls y_begins (point ∷ []) x_queued

calls : Occurs x_queued y_begins x_called y_begins
calls = Opens 0 3 1 x_called.node Calls (point ∷ []) false 0 refl (Takes_one None_left) (inl refl, (refl, record { first = receiver; others = point ∷ []; has_first = refl; none_yet = refl; few = lit< tt; after = refl })) refl refl

abbrev y_answered : Place
y_answered = calling 0 1 Answers x_called [] y_begins

answers : Occurs y_begins x_called y_answered x_called
answers = Opens 0 1 1 y_answered.node Answers [] false 0 refl None_left (inl refl, (refl, record { first = sender; others = []; has_first = refl; none_yet = refl; few = lit< tt; after = refl })) refl refl

-- the first is offered, and one byte of it goes across

abbrev first_offer : Course
first_offer = offering (first_course Calls) 1 file

abbrev x_offered : Place
x_offered = said 0 first_offer (File file 0 ∷ []) (claiming 3 1 x_called.node) x_called

nobody_claims : (number seat : ℕ) → claim_in (session_at x_called.node seat) ≢ Some number
nobody_claims number zero c = none_some c
nobody_claims number (suc zero) c = none_some c
nobody_claims number (suc (suc zero)) c = none_some c
nobody_claims number (suc (suc (suc zero))) c = none_some c
nobody_claims number (suc (suc (suc (suc j)))) c = none_some c

first_one : (g : Entry) → Candidate x_called.node (open_in 3 x_called.node) g → Precedes first_entry g
first_one g c = go c.queued
  where
    go : Member g (first_entry ∷ second_entry ∷ []) → Precedes first_entry g
    go (inl s) = subst (Precedes first_entry) (sym s) (inr (refl, le_refl _))
    go (inr (inl s)) = subst (Precedes first_entry) (sym s) (inr (refl, lit≤ tt))
    go (inr (inr none)) = absurd none

offers : Occurs x_called y_answered x_offered y_answered
offers = offers_file x_called y_answered 0 3 1 file x_offered.node (first_course Calls) (record { sits = refl; knows = refl }) refl refl (inl refl, (first_entry, refl, refl, record { session = open_in 3 x_called.node; has = refl; free = refl; candidate = record { queued = inl refl; bytes = 0 ∷ 0 ∷ []; live = refl; for_peer = inr (inl refl); unclaimed = nobody_claims 1; unskipped = λ m. m }; least = first_one; room = lit≤ tt; after = refl }))

abbrev y_let_in : Place
y_let_in = said 0 (first_course Answers) [] (going 1 0 y_answered.node) y_answered

no_hold : (seat : ℕ) (h : Hold) → hold_in (session_at (released_in 1 y_answered.node) seat) ≡ Some h → ⊥
no_hold zero h c = none_some c
no_hold (suc zero) h c = none_some c
no_hold (suc (suc j)) h c = none_some c

let_in : FileRow 1 file 0 Go y_answered.node y_let_in.node
let_in =
    record {
      session = open_in 1 y_answered.node;
      has = refl;
      applies = (record { unknown = refl; wanted = refl; free = λ h. no_hold h.other h.hold h.holds }, refl, lit< tt);
      room = lit≤ tt;
      made = (1, record { its_own = λ m c. none_some c; unmarked = λ _. tt; unreceived = tt; unheld = λ seat h c. absurd (no_hold seat h c); some = lit≤ tt; next = lit≤ tt; few = lit≤ tt }, refl);
    }

lets_in : Occurs y_answered x_offered y_let_in (heard 0 [] x_offered)
lets_in = takes_file y_answered x_offered 0 1 file 0 Go [] [] y_let_in.node (first_course Answers) (record { sits = refl; knows = refl }) refl refl (inl refl, let_in)

abbrev x_sent_one : Place
x_sent_one = said 0 (sending_now first_offer (Some (at_place 1 1))) (Data (0 ∷ []) ∷ []) x_offered.node (heard 0 [] x_offered)

sends_one : Occurs (heard 0 [] x_offered) y_let_in x_sent_one y_let_in
sends_one = sends_data (heard 0 [] x_offered) y_let_in 0 3 1 (at_place 1 0) (0 ∷ []) x_offered.node first_offer (record { sits = refl; knows = refl }) refl refl (lit< tt) (lit< tt) refl (inl refl, record { entry = first_entry; content = 0 ∷ 0 ∷ []; claimed = refl; queued = inl refl; live = refl; section = refl; after = refl })

abbrev y_took_one : Place
y_took_one = said 0 (first_course Answers) [] (growing 1 (0 ∷ []) y_let_in.node) y_let_in

takes_one : Occurs y_let_in x_sent_one y_took_one (heard 0 [] x_sent_one)
takes_one = takes_more y_let_in x_sent_one 0 1 (0 ∷ []) [] (record { key = file; left = 2; taking = true }) y_took_one.node (first_course Answers) (record { sits = refl; knows = refl }) refl refl refl (lit≤ tt) (inl refl, record { session = open_in 1 y_let_in.node; has = refl; hold = held_in 1 y_let_in.node; holds = refl; taking = refl; short = lit< tt; after = refl })

-- the receiver stops, and the next session opens with its first address alone

abbrev y_stopped : Place
y_stopped = after_stop opened_again (with_state (marked_first 1 y_took_one.node) y_took_one.node) y_took_one

stops : Occurs y_took_one (heard 0 [] x_sent_one) y_stopped (heard 0 [] x_sent_one)
stops = Stops_at_mark 1 opened_again refl (record { records = lit≤ tt; staged = tt; marks = (le_refl _, tt); receipts = tt; few = lit≤ tt }) refl refl

abbrev x_left : Place
x_left = left 0 3 (heard 0 [] x_sent_one)

leaves : Occurs (heard 0 [] x_sent_one) y_stopped x_left y_stopped
leaves = Leaves 0 3 x_left.node refl (inl refl, inl (record { session = open_in 3 x_offered.node; has = refl; after = refl })) refl refl

abbrev y_called : Place
y_called = calling 1 1 Calls x_left [] y_stopped

calls_back : Occurs y_stopped x_left y_called x_left
calls_back = Opens 1 1 1 y_called.node Calls [] false 0 refl None_left (inl refl, (refl, record { first = sender; others = []; has_first = refl; none_yet = refl; few = lit< tt; after = refl })) refl refl

abbrev x_answered : Place
x_answered = calling 1 3 Answers y_called [] x_left

answers_back : Occurs x_left y_called x_answered y_called
answers_back = Opens 1 3 2 x_answered.node Answers [] false 0 refl (Leaves_one None_left) (inl refl, (refl, record { first = receiver; others = []; has_first = refl; none_yet = refl; few = lit< tt; after = refl })) refl refl

-- so the second is offered, and it is asked for from the mark of the first

abbrev second_offer : Course
second_offer = offering (first_course Answers) 2 file

abbrev x_offered_second : Place
x_offered_second = said 1 second_offer (File file 0 ∷ []) (claiming 3 2 x_answered.node) x_answered

nobody_claims_then : (number seat : ℕ) → claim_in (session_at x_answered.node seat) ≢ Some number
nobody_claims_then number zero c = none_some c
nobody_claims_then number (suc zero) c = none_some c
nobody_claims_then number (suc (suc zero)) c = none_some c
nobody_claims_then number (suc (suc (suc zero))) c = none_some c
nobody_claims_then number (suc (suc (suc (suc j)))) c = none_some c

only_second : (g : Entry) → Candidate x_answered.node (open_in 3 x_answered.node) g → Precedes second_entry g
only_second g c = go c.queued c.for_peer
  where
    go : Member g (first_entry ∷ second_entry ∷ []) → Member g.dest (receiver ∷ []) → Precedes second_entry g
    go (inl s) (inl d) = absurd (let p : suc zero ≡ zero = ap (λ (a : Address). a.point) (ap (λ (x : Entry). x.dest) (sym s) ∙ d) in cc)
    go (inl s) (inr none) = absurd none
    go (inr (inl s)) d = subst (Precedes second_entry) (sym s) (inr (refl, le_refl _))
    go (inr (inr none)) d = absurd none

offers_second : Occurs x_answered y_called x_offered_second y_called
offers_second = offers_file x_answered y_called 1 3 2 file x_offered_second.node (first_course Answers) (record { sits = refl; knows = refl }) refl refl (inl refl, (second_entry, refl, refl, record { session = open_in 3 x_answered.node; has = refl; free = refl; candidate = record { queued = inr (inl refl); bytes = 1 ∷ 1 ∷ []; live = refl; for_peer = inl refl; unclaimed = nobody_claims_then 2; unskipped = λ m. m }; least = only_second; room = lit≤ tt; after = refl }))

abbrev y_asked : Place
y_asked = said 1 (first_course Calls) (Get file 1 ∷ []) (asking 1 1 y_called.node) y_called

no_hold_then : (seat : ℕ) (h : Hold) → hold_in (session_at (released_in 1 y_called.node) seat) ≡ Some h → ⊥
no_hold_then zero h c = none_some c
no_hold_then (suc zero) h c = none_some c
no_hold_then (suc (suc j)) h c = none_some c

asked : FileRow 1 file 0 (From 1) y_called.node y_asked.node
asked =
    record {
      session = open_in 1 y_called.node;
      has = refl;
      applies = (record { unknown = refl; wanted = refl; free = λ h. no_hold_then h.other h.hold h.holds }, refl, (λ (c : zero ≡ suc zero). absurd (cc)), λ m. m);
      room = lit≤ tt;
      made = (1, record { its_own = λ m c. ap (λ (x : Mark). x.number) (sym (some_inj c)); unmarked = λ c. none_some (sym c); unreceived = tt; unheld = λ seat h c. absurd (no_hold_then seat h c); some = lit≤ tt; next = lit≤ tt; few = lit≤ tt }, refl);
    }

asks_on : Occurs y_called x_offered_second y_asked (heard 1 [] x_offered_second)
asks_on = takes_file y_called x_offered_second 1 1 file 0 (From 1) (Get file 1 ∷ []) [] y_asked.node (first_course Calls) (record { sits = refl; knows = refl }) refl refl (inl refl, asked)

abbrev x_went_on : Place
x_went_on = said 1 (sending_now second_offer (Some (at_place 2 1))) (File file 1 ∷ []) x_offered_second.node (heard 1 [] x_offered_second)

goes_back : Occurs (heard 1 [] x_offered_second) y_asked x_went_on (heard 1 [] y_asked)
goes_back = takes_get (heard 1 [] x_offered_second) y_asked 1 3 (at_place 2 0) 1 [] second_offer (record { sits = refl; knows = refl }) refl refl (lit≤ tt)

abbrev y_goes : Place
y_goes = said 1 (first_course Calls) [] (going 1 1 y_asked.node) (heard 1 [] y_asked)

no_hold_at_last : (seat : ℕ) (h : Hold) → hold_in (session_at (released_in 1 y_asked.node) seat) ≡ Some h → ⊥
no_hold_at_last zero h c = none_some c
no_hold_at_last (suc zero) h c = none_some c
no_hold_at_last (suc (suc j)) h c = none_some c

goes : FileRow 1 file 1 Go y_asked.node y_goes.node
goes =
    record {
      session = open_in 1 y_asked.node;
      has = refl;
      applies = (record { unknown = refl; wanted = refl; free = λ h. no_hold_at_last h.other h.hold h.holds }, refl, lit< tt);
      room = lit≤ tt;
      made = (1, record { its_own = λ m c. ap (λ (x : Mark). x.number) (sym (some_inj c)); unmarked = λ c. none_some (sym c); unreceived = tt; unheld = λ seat h c. absurd (no_hold_at_last seat h c); some = lit≤ tt; next = lit≤ tt; few = lit≤ tt }, refl);
    }

goes_on : Occurs (heard 1 [] y_asked) x_went_on y_goes (heard 1 [] x_went_on)
goes_on = takes_file (heard 1 [] y_asked) x_went_on 1 1 file 1 Go [] [] y_goes.node (first_course Calls) (record { sits = refl; knows = refl }) refl refl (inl refl, goes)

abbrev x_sent : Place
x_sent = said 1 (sending_now second_offer (Some (at_place 2 2))) (Data (1 ∷ []) ∷ []) x_offered_second.node (heard 1 [] x_went_on)

sends : Occurs (heard 1 [] x_went_on) y_goes x_sent y_goes
sends = sends_data (heard 1 [] x_went_on) y_goes 1 3 4096 (at_place 2 1) (1 ∷ []) x_offered_second.node (sending_now second_offer (Some (at_place 2 1))) (record { sits = refl; knows = refl }) refl refl (lit< tt) (lit< tt) refl (inl refl, record { entry = second_entry; content = 1 ∷ 1 ∷ []; claimed = refl; queued = inr (inl refl); live = refl; section = refl; after = refl })

abbrev y_took : Place
y_took = said 1 (first_course Calls) (Got file ∷ []) (whole 1 (1 ∷ []) y_goes.node) y_goes

takes : Occurs y_goes x_sent y_took (heard 1 [] x_sent)
takes = takes_whole y_goes x_sent 1 1 (1 ∷ []) [] (record { key = file; left = 1; taking = true }) y_took.node (first_course Calls) (record { sits = refl; knows = refl }) refl refl refl (lit≤ tt) (inl refl, record { session = open_in 1 y_goes.node; has = refl; hold = held_in 1 y_goes.node; holds = refl; taking = refl; whole = refl; after = refl })

run : Reaches 17 mixed_beginning (two (heard 1 [] x_sent) y_took)
run =
    (two x_sent y_goes, (two (heard 1 [] x_went_on) y_goes, (two x_went_on (heard 1 [] y_asked), (two (heard 1 [] x_offered_second) y_asked, (two x_offered_second y_called, (two x_answered y_called, (two x_left y_called, (two x_left y_stopped, (two (heard 0 [] x_sent_one) y_stopped, (two (heard 0 [] x_sent_one) y_took_one, (two x_sent_one y_let_in, (two (heard 0 [] x_offered) y_let_in, (two x_offered y_answered, (two x_called y_answered, (two x_called y_begins, (two x_queued y_begins, (mixed_beginning, refl, At_x queues), At_x calls), At_y answers), At_x offers), At_y lets_in), At_x sends_one), At_y takes_one), At_y stops), At_x leaves), At_y calls_back), At_x answers_back), At_x offers_second), At_y asks_on), At_x goes_back), At_y goes_on), At_x sends), At_y takes)

begins : Begins mixed_beginning
begins =
    record { x_opening = opened_empty; y_opening = opened_empty; x_opens = record { records = lit≤ tt; staged = tt; marks = tt; receipts = tt; few = lit≤ tt }; y_opens = record { records = lit≤ tt; staged = tt; marks = tt; receipts = tt; few = lit≤ tt }; at_x = refl; at_y = refl }

-- no queued file has these bytes
no_such : (w : List ℕ) → w ≡ 0 ∷ 1 ∷ [] → (f : List ℕ) → f ≡ w → (f ≡ 0 ∷ 0 ∷ []) ⊎ (f ≡ 1 ∷ 1 ∷ []) → ⊥
no_such w is f same (inl zeros) = absurd (cc)
no_such w is f same (inr ones) = absurd (cc)

not_whole : OneReceipt (heard 1 [] x_sent) y_took → ⊥
not_whole law = go law.whole.0
  where
    go : IsWhole (heard 1 [] x_sent) y_took (record { number = 1; from = sender; key = file; bytes = Some (0 ∷ 1 ∷ []); secure = false; answered = false; given = false }) → ⊥
    go r = at r.queued.queued
      where
        at : Member r.queued.file (given_file for_point ∷ given_file for_node ∷ []) → ⊥
        at (inl e) = no_such r.bytes (sym (some_inj r.kept)) r.queued.file.bytes r.queued.bytes_are (inl (ap (λ x. x.bytes) e))
        at (inr (inl e)) = no_such r.bytes (sym (some_inj r.kept)) r.queued.file.bytes r.queued.bytes_are (inr (ap (λ x. x.bytes) e))
        at (inr (inr none)) = absurd none

pub receives_mixed : Begins mixed_beginning × ((last : World) × Reaches 17 mixed_beginning last × ReceivesMixed last × (OneReceipt last.x last.y → ⊥))
receives_mixed = (begins, (two (heard 1 [] x_sent) y_took, run, refl, not_whole))
