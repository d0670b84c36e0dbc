-- What a slot keeps, and where the pass of its seat is (own).
use Rattle.std.specs.Prelude.{◌≡◌, ◌≤◌, ℕ, List, [], Result, Ok, Err, Some, length, slice_get}
use Rattle.atomic_table.specs.Seated.{TableId}
use Rattle.binkp_link.specs.Lines.{LineState}
use Rattle.mail_conf.specs.ConfView.{conf_text}
use Rattle.turn_gate.specs.declared.grows.Grows.{Ghosts}
use Rattle.turn_gate.specs.declared.pass.Pass.{Pass}
use Rattle.turn_gate.specs.Passes.{view}
use Rattle.shared_desk.specs.Seen.{Sight}
use Rattle.session_threads.specs.declared.sessions.Done.{Done}
use Rattle.session_threads.specs.declared.sessions.HeldWhole.{HeldWhole}
use Rattle.session_threads.specs.declared.slots.InThread.{InThread}
use Rattle.session_threads.specs.declared.slots.Slot.{Slot}
use Rattle.session_threads.specs.declared.slots.Slot.TheVariants as S
use Rattle.session_threads.specs.Held.{IsHeld, IsHomeAt, begun_so}
use Rattle.session_threads.specs.Slots.{Is_with, Rests_here, Taken_out, Whereabouts}

module _ {L T G X E P : Type 0} {g : Ghosts T X E P} where
  abbrev pub whereabouts : (L → LineState) → Slot L T G X E P g → Whereabouts X
  whereabouts state S.Lent = Taken_out
  whereabouts state (S.Idle pass) = Rests_here (view pass).left
  whereabouts state (S.Runs run) = Is_with (begun_so state (conf_text run.was.conf.value) run.was.begun.value)

  -- a session promised what the other one did
  pub record IsSame (p q : HeldWhole L T G X E P g) : Type 0 where
    pub begun : p.begun.value ≡ q.begun.value
    pub conf : p.conf.value ≡ q.conf.value

module _ {L T G X E P : Type 0} {g : Ghosts T X E P} (state : L → LineState) (s : Sight X) (name : TableId) where
  -- the thread promised this, or it was kept
  abbrev pub Promised : {H : Type 0} → (H → HeldWhole L T G X E P g) → HeldWhole L T G X E P g → Result H (Done L T X E P g) → Type 0
  Promised promise was (Ok handle) = IsSame (promise handle) was
  Promised promise was (Err done) = IsHeld state s name (conf_text was.conf.value) was.begun.value done

  -- a session that was begun with the pass of that seat
  pub record Runs_at (k : ℕ) (run : InThread L T G X E P g) : Type 0 where
    pub seat_is : (view run.was.begun.value.pass).seat ≡ k
    pub place : run.place ≡ run.was.begun.value.place
    pub promised : Promised (λ handle. handle.promise) run.was run.thread

  -- the pass that is here is one of the gate of that name, and it is the seat's; so was that of a session that runs
  abbrev pub SlotKeeps : ℕ → Slot L T G X E P g → Type 0
  SlotKeeps k S.Lent = Unit {0}
  SlotKeeps k (S.Idle pass) = IsHomeAt s name k pass
  SlotKeeps k (S.Runs run) = Runs_at k run

  -- so each slot keeps, by its place
  abbrev pub SlotsKeep : List (Slot L T G X E P g) → Type 0
  SlotsKeep slots = (k : ℕ) (slot : Slot L T G X E P g) → slice_get slots k ≡ Some slot → SlotKeeps k slot

  -- there is room for all passes beside them
  pub record KeepsAll (slots : List (Slot L T G X E P g)) (home : List (Pass T X E P g)) (room : ℕ) : Type 0 where
    pub each : SlotsKeep slots
    pub none : home ≡ []
    pub fits : length slots ≤ room
