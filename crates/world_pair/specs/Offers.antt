-- What a session offered, and where its batch ends (own).
use Rattle.std.specs.Prelude.{◌≡◌, ◌≢◌, ◌⊎◌, ℕ, true, false, List, [], ◌∷◌, Option, Some, None}
use Rattle.node_model.specs.Lists.{Member, Each}
use Rattle.node_model.specs.Items.{Entry, Done}
use Rattle.node_model.specs.Node.{Session, Node, peers, session_at, claim_in}
use Rattle.node_model.specs.SendRows.{is_queued, Candidate}
use Rattle.node_model.specs.Talk.{End}
use Rattle.world_pair.specs.Course.{Course, TurnMade}
use Rattle.world_pair.specs.World.{GivenFile, Finish, LineEnd, Place, at_line, says, World, Reaches, Begins}
use Rattle.world_pair.specs.Law.{KeysAgree, StandsThere}
use Rattle.world_pair.specs.Invariant.{session_of}

abbrev pub skipped_in : Option Session → List ℕ
skipped_in None = []
skipped_in (Some s) = s.skipped

-- an entry with that number is settled
abbrev pub IsDone : List Entry → ℕ → Type 0
IsDone queue number = (e : Entry) × Member e queue × (e.number ≡ number) × (e.body ≡ Done)

-- an offered entry is claimed now, settled, or noted as skipped
abbrev pub Accounted : List Entry → Option Session → ℕ → Type 0
Accounted queue s number = (claim_in s ≡ Some number) ⊎ (IsDone queue number ⊎ Member number (skipped_in s))

-- Of a session that may say more: nothing is claimed where no file is under way, each entry that it offered is accounted
-- for, and none is noted as skipped where no Skip was taken.
pub record OffersHold (queue : List Entry) (s : Option Session) (c : Course) : Type 0 where
  pub unclaimed : c.now.sending ≡ None → claim_in s ≡ None
  pub each : Each (Accounted queue s) c.numbers
  pub unskipped : c.met_skip ≡ false → skipped_in s ≡ []

-- so of each end of a node
abbrev pub EachOffers : Node → (ℕ → LineEnd) → Type 0
EachOffers n ends = (line : ℕ) (c : Course) → (ends line).course ≡ Some c
    → OffersHold n.state.queue (session_of n (ends line)) c

-- each file that was queued has an entry of its address and key
abbrev pub EachQueued : List GivenFile → List Entry → Type 0
EachQueued files queue = Each (λ (f : GivenFile). is_queued f.dest f.key queue ≡ true) files

-- what a place accounts for
pub record Accounts (p : Place) : Type 0 where
  pub queued : EachQueued p.queued p.node.state.queue
  pub offers : EachOffers p.node p.ends

-- The end of a batch.

-- The session has no claim, and no live entry for its peers is unclaimed and unskipped.
pub record NothingLeft (seat : ℕ) (n : Node) : Type 0 where
  pub session : Session
  pub has : session_at n seat ≡ Some session
  pub free : session.claim ≡ None
  pub none : (e : Entry) → Candidate n session e → ⊥

-- the end of a line makes its turn, and that ends its batch; its peer stays as it is
pub record BatchEnds (line : ℕ) (me peer me' peer' : Place) : Type 0 where
  pub seat : ℕ
  pub node : Node
  pub was : Course
  pub course : Course
  pub sits : (me.ends line).seat ≡ Some seat
  pub talks : (me.ends line).course ≡ Some was
  pub turn : TurnMade seat me.node was node course (End ∷ [])
  pub after : me' ≡ at_line line (says (me.ends line) (Some course) (End ∷ [])) node me
  pub peer_stays : peer' ≡ peer

-- Each entry for the peers of that line's session stands at the receiver, but for those that another session claimed: if
-- the session took no Skip.
abbrev pub AllStands : ℕ → Place → Place → Place → Type 0
AllStands line then sender receiver =
    (seat : ℕ) (s : Session) (c : Course) (e : Entry) → (then.ends line).seat ≡ Some seat
    → session_at then.node seat ≡ Some s → (then.ends line).course ≡ Some c → c.met_skip ≡ false
    → Member e then.node.state.queue → Member e.dest (peers s)
    → ((k : ℕ) → k ≢ seat → claim_in (session_at then.node k) ≢ Some e.number) → StandsThere sender receiver e.key

-- In a run where an end ended its batch between the worlds u and u', all that it could have offered then stands at the
-- other node from then on.
abbrev pub CompletenessLaw : Type 0
CompletenessLaw =
    (n m line : ℕ) (w u u' v : World) → Begins w → Reaches n w u → Reaches m u' v → KeysAgree v.x v.y
    → KeysAgree v.y v.x
    → (BatchEnds line u.x u.y u'.x u'.y → AllStands line u.x v.x v.y) × (BatchEnds line u.y u.x u'.y u'.x → AllStands line u.y v.y v.x)

-- In the run from w to v the end of that line, at the side that is looked at, ended its batch.
pub record EndedBatch (line : ℕ) (own peer : World → Place) (w v : World) : Type 0 where
  pub before : ℕ
  pub then : World
  pub reached : Reaches before w then
  pub next : World
  pub batch : BatchEnds line (own then) (peer then) (own next) (peer next)
  pub after : ℕ
  pub goes_on : Reaches after next v

-- The session that finished at that end without a skip ended its batch in the run; and all that it could have offered then
-- stands at the other node.
abbrev pub FinishedDelivers : ℕ → (World → Place) → (World → Place) → World → World → Type 0
FinishedDelivers line own peer w v =
    (f : Finish) → ((own v).ends line).finish ≡ Some f → f.met_skip ≡ false
    → (ended : EndedBatch line own peer w v) × (ended.batch.was.met_skip ≡ false) × AllStands line (own ended.then) (own v) (peer v)

abbrev pub FinishedLaw : Type 0
FinishedLaw =
    (n line : ℕ) (w v : World) → Begins w → Reaches n w v → KeysAgree v.x v.y → KeysAgree v.y v.x
    → FinishedDelivers line (λ (u : World). u.x) (λ (u : World). u.y) w v
    × FinishedDelivers line (λ (u : World). u.y) (λ (u : World). u.x) w v
