-- The messages under way to a receiver, and what their data are sections of (own).
use Rattle.std.specs.Prelude.{◌≡◌, ℕ, ◌+◌, Bool, false, List, [], ◌∷◌, Option, Some, length, take, drop}
use Rattle.ftn_addr.specs.Address.{Address}
use Rattle.ftn_addr.specs.Key.{Key}
use Rattle.node_model.specs.Talk.{Sending, Message, File, Data, Got, Get, Skip, End}
use Rattle.world_pair.specs.Course.{Course}
use Rattle.world_pair.specs.World.{GivenFile}
use Rattle.world_pair.specs.Law.{WasQueued}

-- what the next data go on from: nothing, so that they are dropped; or a file at a place
pub data Mode : Type 0 where
  Idle : Mode
  At : (key : Key) (place : ℕ) → Mode

-- a file was queued under that key
pub record HasFile (files : List GivenFile) (dests : List Address) (key : Key) : Type 0 where
  pub bytes : List ℕ
  pub queued : WasQueued files dests key bytes

-- bytes are those of a queued file from that place on
pub record Section (files : List GivenFile) (dests : List Address) (key : Key) (place : ℕ) (part : List ℕ) : Type 0 where
  pub bytes : List ℕ
  pub queued : WasQueued files dests key bytes
  pub is : take (length part) (drop place bytes) ≡ part

-- bytes are the front of a queued file
pub record Front (files : List GivenFile) (dests : List Address) (key : Key) (part : List ℕ) : Type 0 where
  pub bytes : List ℕ
  pub queued : WasQueued files dests key bytes
  pub is : take (length part) bytes ≡ part

-- Each file under way was queued; the data behind it are its sections from its place on, one after another, and so are
-- those in front, where the receiver goes on from a file. The end fact holds of what the last of these goes on from.
abbrev pub Flow : List GivenFile → List Address → (Mode → Type 0) → Mode → List Message → Type 0
Flow files dests fin mode [] = fin mode
Flow files dests fin mode (File k o ∷ ms) = HasFile files dests k × Flow files dests fin (At k o) ms
Flow files dests fin (At k o) (Data b ∷ ms) = Section files dests k o b × Flow files dests fin (At k (o + length b)) ms
Flow files dests fin Idle (Data b ∷ ms) = Flow files dests fin Idle ms
Flow files dests fin mode (Got k ∷ ms) = Flow files dests fin mode ms
Flow files dests fin mode (Get k o ∷ ms) = Flow files dests fin mode ms
Flow files dests fin mode (Skip k ∷ ms) = Flow files dests fin mode ms
Flow files dests fin mode (End ∷ ms) = Flow files dests fin mode ms

-- the end fact: on a line that hasn't dropped the sender's next section goes on from there
abbrev pub GoesOn : Bool → Option Course → Mode → Type 0
GoesOn dropped course Idle = Unit {0}
GoesOn dropped course (At k o) = dropped ≡ false → (c : Course) (s : Sending) → course ≡ Some c
    → c.now.sending ≡ Some s → (s.key ≡ k) × (s.place ≡ o)
