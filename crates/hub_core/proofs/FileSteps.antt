-- Each answer to a file is a step of the hub's node.
use Rattle.std.proofs.Common.{◌≡◌, ℕ, true, false, ◌∷◌, Option, Some, None, option_map, refl, sym, ◌∙◌, ap, subst, inl, arith}
use Rattle.ftn_addr.specs.Key.{Key}
use Rattle.node_model.specs.declared.desk.FileIn.{FileIn}
use Rattle.node_model.specs.declared.desk.FileIn.TheVariants as F
use Rattle.node_model.specs.Rows.{FileAnswer, FileRow, FileMade, HasRoom, Have, Refuse, Elsewhere, Go, Whole, From, Late, wanted_places, mark_length, places_for, unheld, released, reason}
use Rattle.node_model.specs.Calls.{File_call, Filed, NodeStep, Counts}
use Rattle.node_model.specs.Sound.{Sound}
use Rattle.node_model.specs.Stocks.{part_number}
use Rattle.node_model.specs.Stores.{Stored, StoreState}
use Rattle.node_model.proofs.StepSound.{step_sound}
use Rattle.hub_core.specs.Hubs.{Sitting, Chair, HubState, HubFits, chair_in, with_sitting, session_over, node_with}
use Rattle.hub_core.specs.Steps.{Judged, MayOpen, HasOne, RefusesFile, ReceivesWhole, TakesUp, NotesMissed, Answered, word_of, ended, mark_len, places_from, taken_up, opened_under, received_whole, file_refused_under}
use Rattle.hub_core.proofs.Ends.{unheld_sitting, ended_stored, ended_content, ended_counts}
use Rattle.hub_core.proofs.Filing.{Offered, unheld_hub, apart_by, apart_refused, free_for, offered_row, released_node}
use Rattle.hub_core.proofs.Marking.{ended_fits, ended_sizes}
use Rattle.hub_core.proofs.Nodes.{chair_at}
use Rattle.hub_core.proofs.Numbers.{IsFree, part_numbered}
use Rattle.hub_core.proofs.Opening.{opened_stored, held_up, holding_is, opened_fits}
use Rattle.hub_core.proofs.Receiving.{received_stored, received_content, whole_is, received_fits}
use Rattle.hub_core.proofs.Refusing.{refused_stored, refused_is, refused_fits}
use Rattle.hub_core.proofs.Stepping.{Stepped}
use Rattle.hub_core.proofs.Telling.{mark_len_is}

pub map_twice : (f g : Stored → Stored) (c : Option Stored) → option_map f (option_map g c) ≡ option_map (λ a. f (g a)) c
map_twice f g None = refl
map_twice f g (Some a) = refl

-- the hub's seats once nothing is held
abbrev pub ended_hub : HubState → ℕ → Sitting → HubState
ended_hub k seat x = with_sitting seat (Some (unheld_sitting x)) (with_sitting seat (Some x) k)

-- the seat's counts stay
pub busy_put : (h : HubState) (seat : ℕ) (o : Option Sitting) → (chair_in (with_sitting seat o h).chairs seat).busy ≡ (chair_in h.chairs seat).busy
busy_put h seat o = ap (λ (c : Chair). c.busy) (chair_at seat (record (chair_in h.chairs seat) { sitting = o }) h.chairs)

pub reads_put : (h : HubState) (seat : ℕ) (o : Option Sitting) → (chair_in (with_sitting seat o h).chairs seat).reads ≡ (chair_in h.chairs seat).reads
reads_put h seat o = ap (λ (c : Chair). c.reads) (chair_at seat (record (chair_in h.chairs seat) { sitting = o }) h.chairs)

-- a file that got its answer
pub filed_stepped : (a : Stored) (s : StoreState) (k : HubState) (seat : ℕ) (x : Sitting) (key : Key) (offset : ℕ) (answer : FileAnswer) (f : Stored → Stored) (t : StoreState) (g : HubState) → Offered a s k seat x → t.content ≡ option_map f (ended x.first x.hold s).content → FileRow seat key offset answer (node_with a s (with_sitting seat (Some x) k)) (node_with (f (ended_stored x.first x.hold s a)) t g) → (Sound (node_with (f (ended_stored x.first x.hold s a)) t g) → HubFits (f (ended_stored x.first x.hold s a)) t g) → t.counts ≡ s.counts → (chair_in g.chairs seat).busy ≡ (chair_in (with_sitting seat (Some x) k).chairs seat).busy → (chair_in g.chairs seat).reads ≡ (chair_in (with_sitting seat (Some x) k).chairs seat).reads → Stepped seat (File_call key offset) (Filed answer) s (with_sitting seat (Some x) k) a t g
filed_stepped a s k seat x key offset answer f t g o content row fits counts busy reads =
    let h = with_sitting seat (Some x) k in
    let step : NodeStep seat (node_with a s h) (File_call key offset) (Filed answer) (node_with (f (ended_stored x.first x.hold s a)) t g) = (inl o.whole, row) in
    record {
      change = λ z. f (ended_stored x.first x.hold s z);
      content = content ∙ (ap (option_map f) (ended_content x.first x.hold s) ∙ map_twice f (ended_stored x.first x.hold s) s.content);
      step = step;
      fits = fits (step_sound seat (node_with a s h) (File_call key offset) (Filed answer) (node_with (f (ended_stored x.first x.hold s a)) t g) step (λ unbroken. o.sits.fits.sound) (ap (λ (c : Counts). c.broken) counts ∙ o.whole));
      counts = (busy, reads);
    }

-- No call of the store.

itself : (c : Option Stored) → c ≡ option_map (λ (a : Stored). a) c
itself None = refl
itself (Some a) = refl

pub room_now : (a : Stored) (s : StoreState) (k : HubState) (seat : ℕ) (x : Sitting) → Offered a s k seat x → HasRoom (released_node a s k seat x) 0
room_now a s k seat x o =
    let room = (ended_fits a s (with_sitting seat (Some x) k) seat x o.sits).sound.places.room in
    omega (arith, room)

pub still_stepped : (a : Stored) (s : StoreState) (k : HubState) (seat : ℕ) (x : Sitting) (key : Key) (offset : ℕ) (word : FileIn) → Offered a s k seat x → Judged seat (unheld_sitting x) key offset word (ended x.first x.hold s) k → HasRoom (released_node a s k seat x) (wanted_places (word_of word) (mark_length (session_over a.stock x) key (released_node a s k seat x)) key.size) → FileMade seat (unheld (session_over a.stock x)) key (word_of word) (released_node a s k seat x) (released_node a s k seat x) → Stepped seat (File_call key offset) (Filed (word_of word)) s (with_sitting seat (Some x) k) a (ended x.first x.hold s) (ended_hub k seat x)
still_stepped a s k seat x key offset word o j room made =
    filed_stepped a s k seat x key offset (word_of word) (λ z. z) (ended x.first x.hold s) (ended_hub k seat x) o (itself (ended x.first x.hold s).content)
    (offered_row a s k seat x key offset word (released_node a s k seat x) o j room made)
    (λ sound. ended_fits a s (with_sitting seat (Some x) k) seat x o.sits)
    (ended_counts x.first x.hold s) (busy_put (with_sitting seat (Some x) k) seat (Some (unheld_sitting x))) (reads_put (with_sitting seat (Some x) k) seat (Some (unheld_sitting x)))

-- Refuse.

refused_free : (a : Stored) (s : StoreState) (k : HubState) (seat : ℕ) (x : Sitting) (key : Key) (offset : ℕ) → Offered a s k seat x → Judged seat (unheld_sitting x) key offset F.Refuse (ended x.first x.hold s) k → IsFree (ended_stored x.first x.hold s a) (ended x.first x.hold s) (ended_hub k seat x) seat (unheld_sitting x) key
refused_free a s k seat x key offset o j =
    free_for a s k seat x key o (apart_refused (ended_stored x.first x.hold s a) (ended x.first x.hold s) (ended_hub k seat x) seat x.first key (ended_fits a s (with_sitting seat (Some x) k) seat x o.sits) j.1)

pub refused_row : (a : Stored) (s : StoreState) (k : HubState) (seat : ℕ) (x : Sitting) (key : Key) (offset : ℕ) → Offered a s k seat x → Judged seat (unheld_sitting x) key offset F.Refuse (ended x.first x.hold s) k → HasOne (ended x.first x.hold s) → FileRow seat key offset Refuse (node_with a s (with_sitting seat (Some x) k)) (node_with (refused_stored x.first key x.number (reason k.settings key) (ended x.first x.hold s) (ended_stored x.first x.hold s a)) (file_refused_under x.first key x.number (reason k.settings key) (ended x.first x.hold s)) (ended_hub k seat x))
refused_row a s k seat x key offset o j room =
    let s1 = ended x.first x.hold s in
    let a1 = ended_stored x.first x.hold s a in
    offered_row a s k seat x key offset F.Refuse _ o j room (refused_is a1 s1 (ended_hub k seat x) seat (unheld_sitting x) key (reason k.settings key) (refused_free a s k seat x key offset o j))

pub refused_stepped : (a : Stored) (s : StoreState) (k : HubState) (seat : ℕ) (x : Sitting) (key : Key) (offset : ℕ) → Offered a s k seat x → Judged seat (unheld_sitting x) key offset F.Refuse (ended x.first x.hold s) k → HasOne (ended x.first x.hold s) → Stepped seat (File_call key offset) (Filed Refuse) s (with_sitting seat (Some x) k) a (file_refused_under x.first key x.number (reason k.settings key) (ended x.first x.hold s)) (ended_hub k seat x)
refused_stepped a s k seat x key offset o j room =
    let s1 = ended x.first x.hold s in
    let a1 = ended_stored x.first x.hold s a in
    let why = reason k.settings key in
    filed_stepped a s k seat x key offset Refuse (refused_stored x.first key x.number why s1) (file_refused_under x.first key x.number why s1) (ended_hub k seat x) o refl
    (refused_row a s k seat x key offset o j room)
    (refused_fits a1 s1 (ended_hub k seat x) seat (unheld_sitting x) key why (refused_free a s k seat x key offset o j))
    (ended_counts x.first x.hold s) (busy_put (with_sitting seat (Some x) k) seat (Some (unheld_sitting x))) (reads_put (with_sitting seat (Some x) k) seat (Some (unheld_sitting x)))

-- Whole.

pub taken_free : (a : Stored) (s : StoreState) (k : HubState) (seat : ℕ) (x : Sitting) (key : Key) → Offered a s k seat x → Rattle.hub_core.specs.Steps.MayBeTaken seat (unheld_sitting x) key (ended x.first x.hold s) k → IsFree (ended_stored x.first x.hold s a) (ended x.first x.hold s) (ended_hub k seat x) seat (unheld_sitting x) key
taken_free a s k seat x key o m =
    free_for a s k seat x key o (subst (λ (h : HubState). Rattle.hub_core.proofs.Breaking.OthersApart (Rattle.hub_core.specs.Steps.is_file x.first key) h seat) (sym (unheld_hub k seat x)) (apart_by k seat x.first key (Some (unheld_sitting x)) m.free))

pub whole_row : (a : Stored) (s : StoreState) (k : HubState) (seat : ℕ) (x : Sitting) (key : Key) (offset : ℕ) → Offered a s k seat x → Judged seat (unheld_sitting x) key offset F.Whole (ended x.first x.hold s) k → MayOpen x.first key 1 (ended x.first x.hold s) → FileRow seat key offset Whole (node_with a s (with_sitting seat (Some x) k)) (node_with (received_stored x.first key x.number x.secure (ended x.first x.hold s) (ended_stored x.first x.hold s a)) (received_whole x.first key x.number x.secure (ended x.first x.hold s)) (ended_hub k seat x))
whole_row a s k seat x key offset o j may =
    let s1 = ended x.first x.hold s in
    let a1 = ended_stored x.first x.hold s a in
    let free = taken_free a s k seat x key o j.0 in
    offered_row a s k seat x key offset F.Whole _ o j may.room (part_number x.first key s1.drawn s1.stock, part_numbered a1 s1 (ended_hub k seat x) seat (unheld_sitting x) key free may.few, whole_is a1 s1 (ended_hub k seat x) seat (unheld_sitting x) key free)

pub whole_stepped : (a : Stored) (s : StoreState) (k : HubState) (seat : ℕ) (x : Sitting) (key : Key) (offset : ℕ) → Offered a s k seat x → Judged seat (unheld_sitting x) key offset F.Whole (ended x.first x.hold s) k → MayOpen x.first key 1 (ended x.first x.hold s) → Stepped seat (File_call key offset) (Filed Whole) s (with_sitting seat (Some x) k) a (received_whole x.first key x.number x.secure (ended x.first x.hold s)) (ended_hub k seat x)
whole_stepped a s k seat x key offset o j may =
    let s1 = ended x.first x.hold s in
    let a1 = ended_stored x.first x.hold s a in
    filed_stepped a s k seat x key offset Whole (received_stored x.first key x.number x.secure s1) (received_whole x.first key x.number x.secure s1) (ended_hub k seat x) o (received_content x.first key x.number x.secure s1)
    (whole_row a s k seat x key offset o j may)
    (received_fits a1 s1 (ended_hub k seat x) seat (unheld_sitting x) key (taken_free a s k seat x key o j.0))
    (ended_counts x.first x.hold s) (busy_put (with_sitting seat (Some x) k) seat (Some (unheld_sitting x))) (reads_put (with_sitting seat (Some x) k) seat (Some (unheld_sitting x)))

-- Go and From.

pub mark_is : (a : Stored) (s : StoreState) (k : HubState) (seat : ℕ) (x : Sitting) (key : Key) → Offered a s k seat x → mark_len x.first key (ended x.first x.hold s) ≡ mark_length (session_over a.stock x) key (released_node a s k seat x)
mark_is a s k seat x key o = mark_len_is (ended_stored x.first x.hold s a) (ended x.first x.hold s) x.first key (ended_sizes a s x.first x.hold o.sits.fits.stock)

held_counts : (k : HubState) (seat : ℕ) (x y : Sitting) → ((chair_in (with_sitting seat (Some y) (ended_hub k seat x)).chairs seat).busy ≡ (chair_in (with_sitting seat (Some x) k).chairs seat).busy) × ((chair_in (with_sitting seat (Some y) (ended_hub k seat x)).chairs seat).reads ≡ (chair_in (with_sitting seat (Some x) k).chairs seat).reads)
held_counts k seat x y =
    (busy_put (ended_hub k seat x) seat (Some y) ∙ busy_put (with_sitting seat (Some x) k) seat (Some (unheld_sitting x)), reads_put (ended_hub k seat x) seat (Some y) ∙ reads_put (with_sitting seat (Some x) k) seat (Some (unheld_sitting x)))

pub go_stepped : (a : Stored) (s : StoreState) (k : HubState) (seat : ℕ) (x : Sitting) (key : Key) (offset : ℕ) → Offered a s k seat x → Judged seat (unheld_sitting x) key offset F.Go (ended x.first x.hold s) k → MayOpen x.first key (places_from x.first key (ended x.first x.hold s)) (ended x.first x.hold s) → Stepped seat (File_call key offset) (Filed Go) s (with_sitting seat (Some x) k) a (opened_under x.first key (places_from x.first key (ended x.first x.hold s)) (ended x.first x.hold s)) (with_sitting seat (Some (held_up (unheld_sitting x) key true x.missed (ended x.first x.hold s))) (ended_hub k seat x))
go_stepped a s k seat x key offset o j may =
    let s1 = ended x.first x.hold s in
    let a1 = ended_stored x.first x.hold s a in
    let h1 = ended_hub k seat x in
    let x1 = unheld_sitting x in
    let y = held_up x1 key true x.missed s1 in
    let free = taken_free a s k seat x key o j.0 in
    let places : places_for (mark_length (session_over a.stock x) key (released_node a s k seat x)) key.size ≡ places_from x.first key s1 = ap (λ (n : ℕ). places_for n key.size) (sym (mark_is a s k seat x key o)) in
    let wanted = places_from x.first key s1 in
    let room : HasRoom (released_node a s k seat x) (places_for (mark_length (session_over a.stock x) key (released_node a s k seat x)) key.size) = subst (λ (n : ℕ). HasRoom (released_node a s k seat x) n) (sym places) may.room in
    let made = holding_is a1 s1 h1 seat x1 key true x.missed wanted free refl in
    let counts = held_counts k seat x y in
    filed_stepped a s k seat x key offset Go (opened_stored x.first key s1) (opened_under x.first key wanted s1) (with_sitting seat (Some y) h1) o refl
    (offered_row a s k seat x key offset F.Go _ o j room (part_number x.first key s1.drawn s1.stock, part_numbered a1 s1 h1 seat x1 key free may.few, made ∙ ap (λ (n : ℕ). Rattle.node_model.specs.Rows.holding seat (Rattle.node_model.specs.Rows.hold_from (part_number x.first key s1.drawn s1.stock) x.first key true a1.stock.state) n (session_over a1.stock x1) (released_node a s k seat x)) (sym places)))
    (opened_fits a1 s1 h1 seat x1 key true x.missed wanted free)
    (ended_counts x.first x.hold s) counts.0 counts.1

pub from_stepped : (a : Stored) (s : StoreState) (k : HubState) (seat : ℕ) (x : Sitting) (key : Key) (offset place : ℕ) → Offered a s k seat x → Judged seat (unheld_sitting x) key offset (F.From place) (ended x.first x.hold s) k → MayOpen x.first key (places_from x.first key (ended x.first x.hold s)) (ended x.first x.hold s) → Stepped seat (File_call key offset) (Filed (From place)) s (with_sitting seat (Some x) k) a (opened_under x.first key (places_from x.first key (ended x.first x.hold s)) (ended x.first x.hold s)) (with_sitting seat (Some (held_up (unheld_sitting x) key false (key ∷ x.missed) (ended x.first x.hold s))) (ended_hub k seat x))
from_stepped a s k seat x key offset place o j may =
    let s1 = ended x.first x.hold s in
    let a1 = ended_stored x.first x.hold s a in
    let h1 = ended_hub k seat x in
    let x1 = unheld_sitting x in
    let y = held_up x1 key false (key ∷ x.missed) s1 in
    let free = taken_free a s k seat x key o j.0 in
    let places : places_for (mark_length (session_over a.stock x) key (released_node a s k seat x)) key.size ≡ places_from x.first key s1 = ap (λ (n : ℕ). places_for n key.size) (sym (mark_is a s k seat x key o)) in
    let here : places_for place key.size ≡ places_from x.first key s1 = ap (λ (n : ℕ). places_for n key.size) j.1 in
    let wanted = places_from x.first key s1 in
    let room : HasRoom (released_node a s k seat x) (places_for (mark_length (session_over a.stock x) key (released_node a s k seat x)) key.size) = subst (λ (n : ℕ). HasRoom (released_node a s k seat x) n) (sym places) may.room in
    let made = holding_is a1 s1 h1 seat x1 key false (key ∷ x.missed) wanted free refl in
    let counts = held_counts k seat x y in
    filed_stepped a s k seat x key offset (From place) (opened_stored x.first key s1) (opened_under x.first key wanted s1) (with_sitting seat (Some y) h1) o refl
    (offered_row a s k seat x key offset (F.From place) _ o j room (part_number x.first key s1.drawn s1.stock, part_numbered a1 s1 h1 seat x1 key free may.few, made ∙ ap (λ (n : ℕ). Rattle.node_model.specs.Rows.holding seat (Rattle.node_model.specs.Rows.hold_from (part_number x.first key s1.drawn s1.stock) x.first key false a1.stock.state) n (session_over a1.stock (record x1 { missed = key ∷ x.missed })) (released_node a s k seat x)) (sym here)))
    (opened_fits a1 s1 h1 seat x1 key false (key ∷ x.missed) wanted free)
    (ended_counts x.first x.hold s) counts.0 counts.1
