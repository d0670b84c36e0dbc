-- Each step of any seat keeps a node sound.
use Rattle.std.proofs.Common.{◌≡◌, ◌≢◌, ℕ, ◌≤◌, le_refl, Option, Some, None, refl, sym, ap, ◌∙◌, subst, inl, inr, ⊎_elim, arith}
use Rattle.node_model.specs.Durable.{given_receipt}
use Rattle.node_model.specs.Node.{Session, Seat, Node, seat_in, put_seat, session_at}
use Rattle.node_model.specs.Rows.{released}
use Rattle.node_model.specs.SendRows.{GiveRow}
use Rattle.node_model.specs.Calls.{Call, Answer, Fault, Queue_call, Knock_call, Open_call, Offer_call, Read_call, Got_call, Skip_call, File_call, Data_call, Leave_call, Act_call, Give_call, Queued, Let_in, Busy, Begun, Offered, Nothing, Came, Acted, Given, Held, Settled, Filed, More, Whole_now, Refused, Disk, Read, Full, No_memory, IsSkip, Works, Made, Unmade, NotMade, NodeStep}
use Rattle.node_model.specs.Sound.{places_of, IsSound}
use Rattle.node_model.proofs.Lists.{decide_line}
use Rattle.node_model.proofs.Moves.{put_at, put_apart}
use Rattle.node_model.proofs.Changes.{given_flags}
use Rattle.node_model.proofs.StoreChanges.{store_flagged}
use Rattle.node_model.proofs.HoldChanges.{seat_flagged, store_drawn}
use Rattle.node_model.proofs.Seats.{NodeFits, fits, sound, seats_same}
use Rattle.node_model.proofs.Leaving.{released_fits, leave-fits, sum_put}
use Rattle.node_model.proofs.Offering.{offer-fits, got-fits, skip-fits, open-fits}
use Rattle.node_model.proofs.Receiving.{data_more-fits, data_whole-fits}
use Rattle.node_model.proofs.Filing.{file-fits}
use Rattle.node_model.proofs.Queueing.{queue-fits, act-fits}

-- a seat's counts aren't of its session
pub counted_fits : (n : Node) (seat : ℕ) (v : Seat) (faults : ℕ) → v.session ≡ session_at n seat → NodeFits n → NodeFits (record n { seats = put_seat seat v n.seats; faults = faults })
counted_fits n seat v faults same f =
    let sum = sum_put seat v n.seats in
    let alike : places_of v ≡ places_of (seat_in n.seats seat) = ap (λ (s : Option Session). places_of (record { busy = 0; reads = 0; session = s })) same in
    let all = f.all in
    record {
      store = f.store;
      seats = seats_same n _ (λ k. at k) (λ k s e o. o) f.seats;
      all = omega (arith, sum, alike, all);
      room = f.room;
    }
  where
    at : (k : ℕ) → (seat_in (put_seat seat v n.seats) k).session ≡ session_at n k
    at k =
        ⊎_elim
        (λ (here : k ≡ seat). ap (λ j. (seat_in (put_seat seat v n.seats) j).session) here ∙ (ap (λ (x : Seat). x.session) (put_at seat v n.seats) ∙ (same ∙ ap (session_at n) (sym here))))
        (λ (apart : k ≢ seat). ap (λ (x : Seat). x.session) (put_apart seat v n.seats k apart))
        (decide_line k seat)

-- other counts
plain_fits : (n : Node) (fulls last : ℕ) → NodeFits n → NodeFits (record n { fulls = fulls; last_given = last })
plain_fits n fulls last f = record { store = f.store; seats = seats_same n _ (λ k. refl) (λ k s at o. o) f.seats; all = f.all; room = f.room }

staged_fits : (n : Node) (fulls staged : ℕ) → n.staged ≤ staged → NodeFits n → NodeFits (record n { fulls = fulls; staged = staged })
staged_fits n fulls staged next_count f = record { store = store_drawn n.state n.staged staged n.drawn n.drawn next_count (le_refl _) f.store.drawn_few f.store; seats = seats_same n _ (λ k. refl) (λ k s at o. o) f.seats; all = f.all; room = f.room }

give-fits : (n m : Node) (number : ℕ) → GiveRow number n m → NodeFits n → NodeFits m
give-fits n m number row f =
    subst NodeFits (sym row.after)
    (record {
      store = store_flagged (given_receipt number) (given_flags number) n.state n.staged n.drawn f.store;
      seats = seats_same n _ (λ k. refl) (λ k s at o. seat_flagged (given_receipt number) (given_flags number) n.begun n.settings n.state n.drawn s o) f.seats;
      all = f.all;
      room = f.room;
    })

pub made-fits : (seat : ℕ) (old new : Node) (call : Call) (answer : Answer) → Made seat old call answer new → NodeFits old → NodeFits new
made-fits seat old new (Queue_call files taken answered) (Queued slots) m f = queue-fits old new seat files taken answered slots m f
made-fits seat old new (Knock_call role) Let_in m f = subst NodeFits (sym m.after) f
made-fits seat old new (Knock_call role) Busy m f = subst NodeFits (sym m.after) (counted_fits old seat _ old.faults refl f)
made-fits seat old new (Open_call role peers secure moment) (Begun number) m f = open-fits old new seat role peers secure moment m.1 f
made-fits seat old new Offer_call (Offered number key) m f = offer-fits old new seat m.0 m.3 f
made-fits seat old new Offer_call Nothing m f = subst NodeFits (sym m.after) f
made-fits seat old new (Read_call place room) (Came bytes) m f = subst NodeFits (sym m.after) f
made-fits seat old new (Got_call number) Settled m f = got-fits old new seat number m f
made-fits seat old new (Skip_call number) Settled m f = skip-fits old new seat number m f
made-fits seat old new (File_call key offset) (Filed answer) m f = file-fits old new seat key offset answer m f
made-fits seat old new (Data_call bytes) More m f = data_more-fits old new seat bytes m f
made-fits seat old new (Data_call bytes) Whole_now m f = data_whole-fits old new seat bytes m f
made-fits seat old new Leave_call Settled m f = leave-fits old new seat m f
made-fits seat old new (Act_call dest) (Acted number) m f = act-fits old new seat dest number m f
made-fits seat old new (Act_call dest) Nothing m f = subst NodeFits (sym m.after) f
made-fits seat old new Give_call (Given number) m f = give-fits old new number m f
made-fits seat old new Give_call (Held number) m f = subst NodeFits (sym m.after) (plain_fits old old.fulls number f)
made-fits seat old new Give_call Nothing m f = subst NodeFits (sym m.after) f
made-fits seat old new call answer m f = absurd m

pub unmade-fits : (seat fulls : ℕ) (old : Node) (call : Call) (new : Node) → Unmade seat fulls old call new → NodeFits old → NodeFits new
unmade-fits seat fulls old (File_call key offset) new u f =
    subst NodeFits (sym u.after) (plain_fits (released seat u.session old) fulls old.last_given (released_fits old seat u.session u.has f))
unmade-fits seat fulls old (Queue_call files taken answered) new u f = subst NodeFits (sym u.after) (staged_fits old fulls u.staged u.risen f)
unmade-fits seat fulls old call new u f = subst NodeFits (sym u) (plain_fits old fulls old.last_given f)

-- The same of soundness.

both_broken : {A : Type 0} (b : Option ℕ) (count : ℕ) → b ≡ Some count → b ≡ None → A
both_broken b count some none = absurd (cc)

not_made_sound : (seat : ℕ) (old : Node) (call : Call) (fault : Fault) (new : Node) → NotMade seat old call fault new → IsSound old → IsSound new
not_made_sound seat old call (Disk count) new (may, inl same) s = subst IsSound (sym same.1) s
not_made_sound seat old call (Disk count) new (may, inr b) s = λ none. both_broken new.broken count b.broken none
not_made_sound seat old call (Read count) new r s = λ none. sound new (subst NodeFits (sym r.3) (counted_fits old seat _ count refl (fits old (s r.1))))
not_made_sound seat old call Full new r s = λ none. sound new (unmade-fits seat _ old call new r.2 (fits old (s r.0)))
not_made_sound seat old call No_memory new r s = λ none. sound new (unmade-fits seat _ old call new r.2 (fits old (s r.0)))

-- a skip works at a broken store too, and leaves it so
skip_sound : (seat : ℕ) (old : Node) (call : Call) (answer : Answer) (new : Node) → IsSkip call → Made seat old call answer new → IsSound old → IsSound new
skip_sound seat old (Skip_call number) Settled new skips m s =
    λ none. sound new (skip-fits old new seat number m (fits old (s (sym (ap (λ (n : Node). n.broken) m.after) ∙ none))))
skip_sound seat old (Skip_call number) answer new skips m s = absurd m
skip_sound seat old call answer new skips m s = absurd skips

pub made_sound : (seat : ℕ) (old : Node) (call : Call) (answer : Answer) (new : Node) → Works old call → Made seat old call answer new → IsSound old → IsSound new
made_sound seat old call answer new (inl unbroken) m s = λ none. sound new (made-fits seat old new call answer m (fits old (s unbroken)))
made_sound seat old call answer new (inr skips) m s = skip_sound seat old call answer new skips m s

pub step_sound : (seat : ℕ) (old : Node) (call : Call) (answer : Answer) (new : Node) → NodeStep seat old call answer new → IsSound old → IsSound new
step_sound seat old call (Refused fault) new r s = not_made_sound seat old call fault new r s
step_sound seat old call answer new m s = made_sound seat old call answer new m.0 m.1 s
