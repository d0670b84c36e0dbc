-- What a session writes, frame by frame: each M_GOT names a file that its node has, and M_EOB stands behind all that it
-- offers (own, after FTS-1026).
use Rattle.std.specs.Prelude.{◌≡◌, ℕ, ◌≤◌, Bool, true, List, [], ◌∷◌, ◌++◌, Some, length}
use Rattle.std.specs.List.{flat_map}
use Rattle.ftn_addr.specs.Frames.{FrameText, Command, Data, frame_bytes}
use Rattle.ftn_addr.specs.Key.{Key}
use Rattle.ftn_addr.specs.declared.limits.TheConstants.{MAX_FRAME_DATA}
use Rattle.binkp_args.specs.Command.{Got}
use Rattle.binkp_args.specs.Writing.{argument_of}
use Rattle.node_model.specs.Durable.{is_known}
use Rattle.node_model.specs.Lists.{Each}
use Rattle.node_model.specs.Node.{Session, session_at}
use Rattle.node_model.specs.Calls.{Knows, Tells, Counts_alone, DeskState, Turned, CallsBeside, Turns}
use Rattle.session_run.specs.Machine.{World, Phase, Over, Draining, Closed}
use Rattle.session_run.specs.Settled.{BatchEnded}

-- the seat's session has a file of its peer received or refused, where the desk tells its node
abbrev pub HasFile : ℕ → Knows → Key → Type 0
HasFile seat (Tells n) key = (s : Session) × (session_at n seat ≡ Some s) × (is_known s.first key n.state ≡ true)
HasFile seat (Counts_alone c) key = Unit {0}

-- one of these calls of the desk left the file received or refused, or found it so
pub record Acknowledged (alone : Bool) (desk : DeskState) (es : List Turned) (key : Key) : Type 0 where
  pub earlier : List Turned
  pub turn : Turned
  pub later : List Turned
  pub is : es ≡ (earlier ++ turn ∷ []) ++ later
  pub asks : DeskState
  pub chain : Turns alone desk earlier asks
  pub answers : DeskState
  pub call : CallsBeside alone asks turn answers
  pub has : HasFile asks.seat call.rows.answers key

-- A frame that may be written after these calls: an M_GOT names a file that they acknowledge, and with M_EOB the last of
-- their offers found nothing. Data fits its header, so that the top bit of a header tells a command, and bytes spell one
-- list of frames alone, but for frames of no data.
abbrev pub MayStand : Bool → DeskState → List Turned → FrameText → Type 0
MayStand alone desk es (Data bytes) = length bytes ≤ MAX_FRAME_DATA
MayStand alone desk es (Command number args) =
    (number ≡ 6 → (key : Key) × (args ≡ argument_of (Got key)) × Acknowledged alone desk es key)
    × (number ≡ 5 → BatchEnded alone desk es)

-- only what a session wrote last may be cut off, for want of memory
abbrev pub CutAt : Phase → List ℕ → Type 0
CutAt (Over end) cut = Unit {0}
CutAt (Draining mute end) cut = Unit {0}
CutAt (Closed end) cut = Unit {0}
CutAt phase cut = cut ≡ []

-- At a moment of a session: the output so far is a front of these frames, and each of them may stand behind the calls so
-- far.
pub record Written (alone : Bool) (desk : DeskState) (w : World) : Type 0 where
  pub cut : List ℕ
  pub cut_at : CutAt w.phase cut
  pub frames : List FrameText
  pub spelled : w.output ++ cut ≡ flat_map frame_bytes frames
  pub stand : Each (MayStand alone desk w.events) frames
