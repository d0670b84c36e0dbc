-- What a session settles, and when it says that it has no more to send (own, after FTS-1026).
use Rattle.std.specs.Prelude.{◌≡◌, ℕ, Bool, List, [], ◌∷◌, ◌++◌, Ok}
use Rattle.ftn_addr.specs.Address.{Address}
use Rattle.ftn_addr.specs.Frames.{FrameText, Command}
use Rattle.ftn_addr.specs.Key.{Key}
use Rattle.binkp_args.specs.Command.{CommandText, Got, command_of}
use Rattle.node_model.specs.Lists.{Each}
use Rattle.node_model.specs.Calls.{Call, Offer_call, Got_call, Answer, Offered, Nothing, Settled, KnownStep, DeskState, Turned, CallsBeside, Turns}

-- One of these calls of the desk was that one, with that answer. Where the desk tells its node, its row says of which entry.
pub record Asked (alone : Bool) (desk : DeskState) (es : List Turned) (call : Call) (answer : Answer) : Type 0 where
  pub earlier : List Turned
  pub turn : Turned
  pub later : List Turned
  pub is : es ≡ (earlier ++ turn ∷ []) ++ later
  pub asked : turn.asked ≡ record { call = call; answer = answer }
  pub asks : DeskState
  pub chain : Turns alone desk earlier asks
  pub answers : DeskState
  pub beside : CallsBeside alone asks turn answers
  pub row : KnownStep asks.seat beside.rows.asks call answer beside.rows.answers

-- one of these frames of the peer's says that
pub record Heard (home : Address) (frames : List FrameText) (said : CommandText) : Type 0 where
  pub earlier : List FrameText
  pub number : ℕ
  pub args : List ℕ
  pub later : List FrameText
  pub is : frames ≡ (earlier ++ Command number args ∷ []) ++ later
  pub says : command_of home number args ≡ Ok said

-- the entry with that number was offered to the peer in this session, under this key, and the peer has acknowledged the key
pub record SettledBy (alone : Bool) (desk : DeskState) (es : List Turned) (home : Address) (frames : List FrameText) (number : ℕ) : Type 0 where
  pub key : Key
  pub offered : Asked alone desk es Offer_call (Offered number key)
  pub heard : Heard home frames (Got key)

-- a call that settles an entry
abbrev pub MaySettle : (alone : Bool) (desk : DeskState) (es : List Turned) (home : Address) (frames : List FrameText) → Turned → Type 0
MaySettle alone desk es home frames turn =
    (number : ℕ) → turn.asked ≡ record { call = Got_call number; answer = Settled } → SettledBy alone desk es home frames number

-- nothing is asked for that could be offered
abbrev pub OffersNone : Turned → Type 0
OffersNone turn = turn.asked.call ≡ Offer_call → ⊥

-- The last of the offers among these calls found nothing: where the desk tells its node, no live entry for the peers was
-- unclaimed and unskipped then.
pub record BatchEnded (alone : Bool) (desk : DeskState) (es : List Turned) : Type 0 where
  pub nothing : Asked alone desk es Offer_call Nothing
  pub last : Each OffersNone nothing.later
