-- Scripts of reads and writes, and the calls that play them (own).
use Rattle.std.specs.Prelude.{◌≡◌, ℕ, ◌+◌, ◌-◌, ◌<◌, ◌≤◌, Bool, true, false, nat_lt, min, List, [], ◌∷◌, length, take, drop, flat_map, Option, Some, None, if◌then◌else◌}
use Rattle.binkp_link.specs.declared.link.ReadAnswer.{ReadAnswer}
use Rattle.binkp_link.specs.declared.link.ReadAnswer.TheVariants as R
use Rattle.binkp_link.specs.declared.link.WriteAnswer.{WriteAnswer}
use Rattle.binkp_link.specs.declared.link.WriteAnswer.TheVariants as W
use Rattle.binkp_link.specs.declared.acts.ReadAct.{ReadAct}
use Rattle.binkp_link.specs.declared.acts.ReadAct.TheVariants as A
use Rattle.binkp_link.specs.declared.acts.WriteAct.{WriteAct}
use Rattle.binkp_link.specs.declared.acts.WriteAct.TheVariants as B

-- an act of a script of reads, without where its bytes lie in memory
pub data Act : Type 0 where
  Bytes : (bytes : List ℕ) → Act
  Not_yet : Act
  Quiet : Act
  Failed : Act

abbrev pub act_of : ReadAct → Act
act_of (A.Bytes bytes) = Bytes bytes.list
act_of A.NotYet = Not_yet
act_of A.Quiet = Quiet
act_of A.Failed = Failed

abbrev pub act_bytes : Act → List ℕ
act_bytes (Bytes bytes) = bytes
act_bytes _ = []

-- the bytes that a script gives
abbrev pub script_bytes : List Act → List ℕ
script_bytes acts = flat_map act_bytes acts

-- an act of bytes has at least one
abbrev pub GivesSome : Act → Type 0
GivesSome (Bytes bytes) = 0 < length bytes
GivesSome Not_yet = Unit {0}
GivesSome Quiet = Unit {0}
GivesSome Failed = Unit {0}

abbrev pub AllGiveSome : List Act → Type 0
AllGiveSome [] = Unit {0}
AllGiveSome (act ∷ acts) = GivesSome act × AllGiveSome acts

abbrev pub first_act : List Act → Option Act
first_act [] = None
first_act (act ∷ acts) = Some act

abbrev pub first_bytes : List Act → List ℕ
first_bytes [] = []
first_bytes (act ∷ acts) = act_bytes act

-- what is left of a script whose first act gave so many bytes
abbrev pub without_front : ℕ → List Act → List Act
without_front n (Bytes bytes ∷ acts) = Bytes (drop n bytes) ∷ acts
without_front n acts = acts

-- So many bytes of the first act are given, and an act is over once all its bytes are.
abbrev pub played : ℕ → List Act → List Act
played n [] = []
played n (act ∷ acts) = if nat_lt n (length (act_bytes act)) then without_front n (act ∷ acts) else acts

-- the place in an act of that length after n more bytes, where it has more
abbrev pub place_on : ℕ → ℕ → ℕ → Option ℕ
place_on len place n = if nat_lt n (len - place) then Some (place + n) else None

-- a script of reads: the bytes that it gave, and the acts left
pub record Script : Type 0 where
  pub taken : List ℕ
  pub left : List Act

abbrev pub past_not_yet : List Act → List Act
past_not_yet [] = []
past_not_yet (Not_yet ∷ acts) = past_not_yet acts
past_not_yet (Bytes bytes ∷ acts) = Bytes bytes ∷ acts
past_not_yet (Quiet ∷ acts) = Quiet ∷ acts
past_not_yet (Failed ∷ acts) = Failed ∷ acts

-- a waiting read passes over each NotYet
abbrev pub heeded : Bool → List Act → List Act
heeded true acts = past_not_yet acts
heeded false acts = acts

-- what a read answers, the bytes that it gives, and the acts left
pub record ReadTurn : Type 0 where
  pub answer : ReadAnswer
  pub bytes : List ℕ
  pub left : List Act

abbrev pub gives : ReadAnswer → List Act → ReadTurn
gives answer left = record { answer = answer; bytes = []; left = left }

-- A read of at most so many bytes plays the first act. One that doesn't wait leaves a Quiet, and past the last act is the end.
abbrev pub turn_at : Bool → ℕ → List Act → ReadTurn
turn_at wait room [] = gives R.End []
turn_at wait room (Bytes bytes ∷ acts) =
    record { answer = R.Came (min (length bytes) room); bytes = take (min (length bytes) room) bytes; left = played (min (length bytes) room) (Bytes bytes ∷ acts) }
turn_at wait room (Not_yet ∷ acts) = gives R.NotYet acts
turn_at true room (Quiet ∷ acts) = gives R.Quiet acts
turn_at false room (Quiet ∷ acts) = gives R.NotYet (Quiet ∷ acts)
turn_at wait room (Failed ∷ acts) = gives R.Failed acts

abbrev pub read_turn : Bool → ℕ → List Act → ReadTurn
read_turn wait room acts = turn_at wait room (heeded wait acts)

-- a read did what its script says
pub record PlaysRead (turn : ReadTurn) (answer : ReadAnswer) (bytes : List ℕ) (left : List Act) : Type 0 where
  pub answer_is : answer ≡ turn.answer
  pub bytes_are : bytes ≡ turn.bytes
  pub left_is : left ≡ turn.left

-- an act that takes bytes takes at least one
abbrev pub TakesSome : WriteAct → Type 0
TakesSome (B.Take most) = 0 < most
TakesSome B.Quiet = Unit {0}
TakesSome B.Failed = Unit {0}

abbrev pub AllTakeSome : List WriteAct → Type 0
AllTakeSome [] = Unit {0}
AllTakeSome (act ∷ acts) = TakesSome act × AllTakeSome acts

abbrev pub first_write : List WriteAct → Option WriteAct
first_write [] = None
first_write (act ∷ acts) = Some act

-- the last act of a script of writes repeats
abbrev pub after_write_act : List WriteAct → List WriteAct
after_write_act [] = []
after_write_act (act ∷ []) = act ∷ []
after_write_act (act ∷ next ∷ acts) = next ∷ acts

-- With no act a write takes all, and a Take takes at most its number.
abbrev pub write_answer : Option WriteAct → ℕ → WriteAnswer
write_answer None len = W.Wrote len
write_answer (Some (B.Take most)) len = W.Wrote (min len most)
write_answer (Some B.Quiet) len = W.Quiet
write_answer (Some B.Failed) len = W.Failed

-- a write of so many bytes takes at least one and at most all
abbrev pub CanAnswer : WriteAnswer → ℕ → Type 0
CanAnswer (W.Wrote n) len = (0 < n) × (n ≤ len)
CanAnswer W.Quiet len = Unit {0}
CanAnswer W.Failed len = Unit {0}

-- A write did what its script says. One that finds no memory fails, and plays no act.
pub data PlaysWrite (left : List WriteAct) (len : ℕ) (answer : WriteAnswer) (new : List WriteAct) : Type 0 where
  Plays : answer ≡ write_answer (first_write left) len → new ≡ after_write_act left → PlaysWrite left len answer new
  No_memory : answer ≡ W.Failed → new ≡ left → PlaysWrite left len answer new
