-- A file is offered to a hub's session: what it held is released, and what is done with the file is the row of its answer.
use Rattle.std.proofs.Common.{◌≡◌, ℕ, Bool, true, false, Option, Some, None, refl, sym, ◌∙◌, ap, subst}
use Rattle.ftn_addr.specs.Address.{Address}
use Rattle.ftn_addr.specs.Key.{Key}
use Rattle.node_model.specs.declared.desk.FileIn.{FileIn}
use Rattle.node_model.specs.declared.desk.FileIn.TheVariants as F
use Rattle.node_model.specs.Node.{Session, Node}
use Rattle.node_model.specs.Rows.{FileAnswer, FileRow, FileMade, Applies, HasRoom, wanted_places, mark_length, unheld, released, refuses}
use Rattle.node_model.specs.Stores.{Stored, StoreState, StoreTied}
use Rattle.node_model.specs.Stores as T
use Rattle.node_model.proofs.Lists.{is_false, is_same_true}
use Rattle.hub_core.specs.Hubs.{Taking, Sitting, HubState, HubFits, chair_in, with_sitting, session_over, hold_over, node_with}
use Rattle.hub_core.specs.Steps.{HeldBy, MayBeTaken, Judged, MayOpen, Answered, answered_state, word_of, ended, chair_holds, part_under, is_file, mark_len, places_from, taken_up, was_missed}
use Rattle.hub_core.proofs.Breaking.{OthersApart}
use Rattle.hub_core.proofs.Ends.{Sits, unheld_sitting, ended_stored, released_is, marked_by}
use Rattle.hub_core.proofs.JudgeSteps.{judged_applies}
use Rattle.hub_core.proofs.Marking.{ended_fits}
use Rattle.hub_core.proofs.Nodes.{session_is, chair_apart, sits_at, sits_apart}
use Rattle.hub_core.proofs.Numbers.{IsFree}
use Rattle.hub_core.proofs.Sittings.{sit_twice}

-- a session with its turn at a store that keeps this
pub record Offered (a : Stored) (s : StoreState) (k : HubState) (seat : ℕ) (x : Sitting) : Type 0 where
  pub sits : Sits a s (with_sitting seat (Some x) k) seat x
  pub tied : StoreTied (ended x.first x.hold s)
  pub whole : s.counts.broken ≡ None

-- the same seats, once nothing is held
pub unheld_hub : (k : HubState) (seat : ℕ) (x : Sitting) → with_sitting seat (Some (unheld_sitting x)) (with_sitting seat (Some x) k) ≡ with_sitting seat (Some (unheld_sitting x)) k
unheld_hub k seat x = sit_twice k seat (Some (unheld_sitting x)) (Some x)

pub ended_seat : (from : Address) (o : Option Taking) (s : StoreState) → (ended from o s).seat ≡ s.seat
ended_seat from None s = refl
ended_seat from (Some t) s = go (T.is_ahead (part_under from t) s)
  where
    go : (b : Bool) → (marked_by b (part_under from t) s).seat ≡ s.seat
    go true = refl
    go false = refl

-- Who else holds it.

pub apart_by : (k : HubState) (seat : ℕ) (from : Address) (key : Key) (o : Option Sitting) → (HeldBy k.chairs seat from key → ⊥) → OthersApart (is_file from key) (with_sitting seat o k) seat
apart_by k seat from key o free = λ j y t apart at held. is_false _ (λ same. free (record {
  other = j;
  apart = apart;
  holds = subst (λ (z : Option Sitting). Rattle.hub_core.specs.Steps.sitting_holds from key z ≡ true) (sym (sym (sits_apart k seat o j apart) ∙ at)) (subst (λ (z : Option Taking). Rattle.hub_core.specs.Steps.sits_on from key y.first z ≡ true) (sym held) same);
}))

-- no session holds a file that the settings refuse
pub apart_refused : (a : Stored) (s : StoreState) (h : HubState) (seat : ℕ) (from : Address) (key : Key) → HubFits a s h → refuses h.settings key ≡ true → OthersApart (is_file from key) h seat
apart_refused a s h seat from key f refused = λ j y t apart at held. is_false _ (λ same.
    let e = is_same_true from key y.first t.key same in
    let wanted = (f.sound.holds.each j (session_over a.stock y) _ (session_is a s h j y at) (ap (hold_over a.stock y.first) held)).wanted in
    off (subst (λ (q : Key). refuses h.settings q ≡ true) e.1 refused) wanted)
  where
    off : {X : Type 0} {b : Bool} → b ≡ true → b ≡ false → X
    off {X} {b} t e = absurd (cc)

pub free_for : (a : Stored) (s : StoreState) (k : HubState) (seat : ℕ) (x : Sitting) (key : Key) → Offered a s k seat x → OthersApart (is_file x.first key) (with_sitting seat (Some (unheld_sitting x)) (with_sitting seat (Some x) k)) seat → IsFree (ended_stored x.first x.hold s a) (ended x.first x.hold s) (with_sitting seat (Some (unheld_sitting x)) (with_sitting seat (Some x) k)) seat (unheld_sitting x) key
free_for a s k seat x key o away = record {
  fits = ended_fits a s (with_sitting seat (Some x) k) seat x o.sits;
  sits = sits_at (with_sitting seat (Some x) k) seat (Some (unheld_sitting x));
  unheld = refl;
  seat_is = ended_seat x.first x.hold s ∙ o.sits.seat_is;
  tied = o.tied;
  away = away;
}

-- what is judged doesn't depend on the seat's own session
held_put : (k : HubState) (seat : ℕ) (from : Address) (key : Key) (o : Option Sitting) → HeldBy k.chairs seat from key → HeldBy (with_sitting seat o k).chairs seat from key
held_put k seat from key o by = record { other = by.other; apart = by.apart; holds = ap (chair_holds from key) (chair_apart seat (record (chair_in k.chairs seat) { sitting = o }) k.chairs by.other by.apart) ∙ by.holds }

put_held : (k : HubState) (seat : ℕ) (from : Address) (key : Key) (o : Option Sitting) → HeldBy (with_sitting seat o k).chairs seat from key → HeldBy k.chairs seat from key
put_held k seat from key o by = record { other = by.other; apart = by.apart; holds = sym (ap (chair_holds from key) (chair_apart seat (record (chair_in k.chairs seat) { sitting = o }) k.chairs by.other by.apart)) ∙ by.holds }

taken_put : (seat : ℕ) (x : Sitting) (key : Key) (s : StoreState) (k : HubState) (o : Option Sitting) → MayBeTaken seat x key s k → MayBeTaken seat x key s (with_sitting seat o k)
taken_put seat x key s k o m = record { unknown = m.unknown; wanted = m.wanted; free = λ by. m.free (put_held k seat x.first key o by) }

pub judged_put : (seat : ℕ) (x : Sitting) (key : Key) (offset : ℕ) (word : FileIn) (s : StoreState) (k : HubState) (o : Option Sitting) → Judged seat x key offset word s k → Judged seat x key offset word s (with_sitting seat o k)
judged_put seat x key offset F.Have s k o j = j
judged_put seat x key offset F.Refuse s k o j = j
judged_put seat x key offset F.Elsewhere s k o j = (j.0, j.1, held_put k seat x.first key o j.2)
judged_put seat x key offset F.Go s k o j = (taken_put seat x key s k o j.0, j.1, j.2)
judged_put seat x key offset F.Whole s k o j = (taken_put seat x key s k o j.0, j.1, j.2)
judged_put seat x key offset (F.From place) s k o j = (taken_put seat x key s k o j.0, j.1, j.2, j.3)
judged_put seat x key offset F.Late s k o j = (taken_put seat x key s k o j.0, j.1, j.2)

-- The row.

pub file_row : (seat : ℕ) (sess : Session) (key : Key) (offset : ℕ) (answer : FileAnswer) (n m new : Node) → Rattle.node_model.specs.Node.session_at n seat ≡ Some sess → m ≡ released seat sess n → Applies seat (unheld sess) key offset answer m → HasRoom m (wanted_places answer (mark_length sess key m) key.size) → FileMade seat (unheld sess) key answer m new → FileRow seat key offset answer n new
file_row seat sess key offset answer n m new has is applies room made = record {
  session = sess;
  has = has;
  applies = subst (Applies seat (unheld sess) key offset answer) is applies;
  room = subst (λ (x : Node). HasRoom x (wanted_places answer (mark_length sess key x) key.size)) is room;
  made = subst (λ (x : Node). FileMade seat (unheld sess) key answer x new) is made;
}

-- the row of a judged file, where the node that is released has this store
abbrev pub released_node : Stored → StoreState → HubState → ℕ → Sitting → Node
released_node a s k seat x =
    node_with (ended_stored x.first x.hold s a) (ended x.first x.hold s) (with_sitting seat (Some (unheld_sitting x)) (with_sitting seat (Some x) k))

pub offered_row : (a : Stored) (s : StoreState) (k : HubState) (seat : ℕ) (x : Sitting) (key : Key) (offset : ℕ) (word : FileIn) (new : Node) → Offered a s k seat x → Judged seat (unheld_sitting x) key offset word (ended x.first x.hold s) k → HasRoom (released_node a s k seat x) (wanted_places (word_of word) (mark_length (session_over a.stock x) key (released_node a s k seat x)) key.size) → FileMade seat (unheld (session_over a.stock x)) key (word_of word) (released_node a s k seat x) new → FileRow seat key offset (word_of word) (node_with a s (with_sitting seat (Some x) k)) new
offered_row a s k seat x key offset word new o j room made =
    let h = with_sitting seat (Some x) k in
    let f = ended_fits a s h seat x o.sits in
    file_row seat (session_over a.stock x) key offset (word_of word) (node_with a s h) (released_node a s k seat x) new
    (session_is a s h seat x o.sits.sits)
    (released_is a s h seat x o.sits)
    (judged_applies (ended_stored x.first x.hold s a) (ended x.first x.hold s) (with_sitting seat (Some (unheld_sitting x)) h) seat (unheld_sitting x) key offset word f.stock f.sound.inbox (judged_put seat (unheld_sitting x) key offset word (ended x.first x.hold s) h (Some (unheld_sitting x)) (judged_put seat (unheld_sitting x) key offset word (ended x.first x.hold s) k (Some x) j)))
    room made
