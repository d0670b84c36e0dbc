-- What a line's calls do to its counts and, where it tells them, to its bytes (own).
use Rattle.std.specs.Prelude.{◌≡◌, ℕ, ◌<◌, ◌≤◌, Bool, true, false, List, [], ◌++◌, length, take, Option, Some, None}
use Rattle.ftn_addr.specs.Counts.{next_count}
use Rattle.binkp_link.specs.declared.link.ReadAnswer.{ReadAnswer}
use Rattle.binkp_link.specs.declared.link.ReadAnswer.TheVariants as R
use Rattle.binkp_link.specs.declared.link.WriteAnswer.{WriteAnswer}
use Rattle.binkp_link.specs.declared.link.WriteAnswer.TheVariants as W

-- the bytes taken from a line, those sent on it, and those still to come
pub record LineBytes : Type 0 where
  pub taken : List ℕ
  pub sent : List ℕ
  pub coming : List ℕ

-- a line: how often it failed, how many Quiets came since a byte last moved, how often it ended, whether its last call
-- moved no byte, whether this side closed it, and its bytes where it tells them
pub record LineState : Type 0 where
  pub faults : ℕ
  pub calm : ℕ
  pub ends : ℕ
  pub idle : Bool
  pub closed : Bool
  pub bytes : Option LineBytes

-- closed on this side
abbrev pub shut : LineState → LineState
shut line = record line { closed = true }

-- These bytes were taken and those were sent, on a line that tells them. Whether it tells them is changed by no call.
abbrev pub Moves : List ℕ → List ℕ → Option LineBytes → Option LineBytes → Type 0
Moves took gave None None = Unit {0}
Moves took gave (Some old) (Some new) = (old.coming ≡ took ++ new.coming) × (new.taken ≡ old.taken ++ took) × (new.sent ≡ old.sent ++ gave)
Moves took gave None (Some new) = ⊥
Moves took gave (Some old) None = ⊥

abbrev pub NothingComes : Option LineBytes → Type 0
NothingComes None = Unit {0}
NothingComes (Some bytes) = bytes.coming ≡ []

-- the bytes that came, and those that went
abbrev pub came : ReadAnswer → List ℕ → List ℕ
came (R.Came n) buffer = take n buffer
came _ buffer = []

abbrev pub went : WriteAnswer → List ℕ → List ℕ
went (W.Wrote n) bytes = take n bytes
went _ bytes = []

-- when a read may answer so
abbrev pub MayRead : Bool → ReadAnswer → List ℕ → Option LineBytes → Type 0
MayRead wait (R.Came n) buffer bytes = (0 < n) × (n ≤ length buffer)
MayRead wait R.End buffer bytes = NothingComes bytes
MayRead wait R.NotYet buffer bytes = wait ≡ false
MayRead wait R.Quiet buffer bytes = wait ≡ true
MayRead wait R.Failed buffer bytes = Unit {0}

abbrev pub calm_after_read : ReadAnswer → ℕ → ℕ
calm_after_read (R.Came n) calm = 0
calm_after_read R.Quiet calm = next_count calm
calm_after_read _ calm = calm

abbrev pub faults_after_read : ReadAnswer → ℕ → ℕ
faults_after_read R.Failed faults = next_count faults
faults_after_read _ faults = faults

abbrev pub ends_after_read : ReadAnswer → ℕ → ℕ
ends_after_read R.End ends = next_count ends
ends_after_read _ ends = ends

abbrev pub idle_after_read : ReadAnswer → Bool
idle_after_read (R.Came n) = false
idle_after_read _ = true

pub record IsRead (wait : Bool) (old : LineState) (answer : ReadAnswer) (buffer : List ℕ) (new : LineState) : Type 0 where
  pub may : MayRead wait answer buffer old.bytes
  pub moves : Moves (came answer buffer) [] old.bytes new.bytes
  pub calm : new.calm ≡ calm_after_read answer old.calm
  pub faults : new.faults ≡ faults_after_read answer old.faults
  pub ends : new.ends ≡ ends_after_read answer old.ends
  pub idle : new.idle ≡ idle_after_read answer
  pub was_open : old.closed ≡ false
  pub is_open : new.closed ≡ false

abbrev pub MayWrite : WriteAnswer → List ℕ → Type 0
MayWrite (W.Wrote n) bytes = (0 < n) × (n ≤ length bytes)
MayWrite W.Quiet bytes = Unit {0}
MayWrite W.Failed bytes = Unit {0}

abbrev pub calm_after_write : WriteAnswer → ℕ → ℕ
calm_after_write (W.Wrote n) calm = 0
calm_after_write W.Quiet calm = next_count calm
calm_after_write W.Failed calm = calm

abbrev pub faults_after_write : WriteAnswer → ℕ → ℕ
faults_after_write W.Failed faults = next_count faults
faults_after_write _ faults = faults

abbrev pub idle_after_write : WriteAnswer → Bool
idle_after_write (W.Wrote n) = false
idle_after_write _ = true

pub record IsWrite (old : LineState) (answer : WriteAnswer) (bytes : List ℕ) (new : LineState) : Type 0 where
  pub may : MayWrite answer bytes
  pub moves : Moves [] (went answer bytes) old.bytes new.bytes
  pub calm : new.calm ≡ calm_after_write answer old.calm
  pub faults : new.faults ≡ faults_after_write answer old.faults
  pub ends : new.ends ≡ old.ends
  pub idle : new.idle ≡ idle_after_write answer
  pub was_open : old.closed ≡ false
  pub is_open : new.closed ≡ false

-- What a sink's calls do to its count and, where it tells them, to its bytes.

pub record SinkState : Type 0 where
  pub faults : ℕ
  pub bytes : Option (List ℕ)

abbrev pub Adds : List ℕ → Option (List ℕ) → Option (List ℕ) → Type 0
Adds added None None = Unit {0}
Adds added (Some old) (Some new) = new ≡ old ++ added
Adds added None (Some new) = ⊥
Adds added (Some old) None = ⊥

-- all bytes were put, or a front of them and the count rose
pub record PutsAll (bytes : List ℕ) (old new : SinkState) : Type 0 where
  pub adds : Adds bytes old.bytes new.bytes
  pub faults : new.faults ≡ old.faults

pub record PutsFront (bytes : List ℕ) (old new : SinkState) : Type 0 where
  pub many : ℕ
  pub adds : Adds (take many bytes) old.bytes new.bytes
  pub faults : new.faults ≡ next_count old.faults
