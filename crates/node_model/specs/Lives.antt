-- Lives of a node: steps of any of its seats, whatever is called and answered, and stops at any moment (own).
use Rattle.std.specs.Prelude.{◌≡◌, ◌⊎◌, ℕ, ◌≤◌, List, [], ◌∷◌}
use Rattle.node_model.specs.declared.words.TheConstants.{MOST_RECORDS}
use Rattle.ftn_addr.specs.declared.limits.TheConstants.{MAX_NUMBER}
use Rattle.node_model.specs.Items.{Entry, Receipt, Mark}
use Rattle.node_model.specs.Lists.{Each}
use Rattle.node_model.specs.Durable.{Durable}
use Rattle.node_model.specs.Node.{Node, Opening, stopped}
use Rattle.node_model.specs.Calls.{Call, Answer, Passes, NodeStep, Knows, Tells, Counts_alone}

-- a seat's call is answered, the node stops between two calls, or it stops inside a call with that state left; each stop
-- with what the node is opened with again
pub data Happening : Type 0 where
  Steps : (seat : ℕ) (call : Call) (answer : Answer) → Happening
  Stops : (opening : Opening) → Happening
  Stops_inside : (seat : ℕ) (call : Call) (left : Durable) (opening : Opening) → Happening

-- What a node is opened with fits what it kept: no more records than a ledger has, and no number above the greatest that
-- counts as drawn.
pub record OpensWith (d : Durable) (o : Opening) : Type 0 where
  pub records : o.records ≤ MOST_RECORDS
  pub staged : Each (λ (e : Entry). e.number ≤ o.staged) d.queue
  pub marks : Each (λ (m : Mark). m.number ≤ o.drawn) d.marks
  pub receipts : Each (λ (r : Receipt). r.number ≤ o.drawn) d.inbox
  pub few : o.drawn ≤ MAX_NUMBER

abbrev pub Happens : Node → Happening → Node → Type 0
Happens old (Steps seat call answer) new = NodeStep seat old call answer new
Happens old (Stops opening) new = OpensWith old.state opening × (new ≡ stopped opening old)
Happens old (Stops_inside seat call left opening) new =
    Passes seat old call left × OpensWith left opening × (new ≡ stopped opening (record old { state = left }))

-- these lead from old to new, one after another
abbrev pub Lives : Node → List Happening → Node → Type 0
Lives old [] new = new ≡ old
Lives old (e ∷ es) new = (mid : Node) × Happens old e mid × Lives mid es new

-- the durable states that a node passes in what happens
abbrev pub HappensPast : Node → Happening → Durable → Type 0
HappensPast old (Steps seat call answer) d = Passes seat old call d
HappensPast old (Stops opening) d = d ≡ old.state
HappensPast old (Stops_inside seat call left opening) d = Passes seat old call d

-- the durable states that it passes in its life, that at the end among them: those that a stop may leave
abbrev pub LivesPast : (old : Node) (events : List Happening) (new : Node) → Lives old events new → Durable → Type 0
LivesPast old [] new life d = d ≡ new.state
LivesPast old (e ∷ es) new (mid, happens, rest) d = HappensPast old e d ⊎ LivesPast mid es new rest d

-- what a desk tells before and after: a life leads from the one to the other, where it tells its node's state
abbrev pub KnownLives : Knows → Knows → Type 0
KnownLives (Tells old) (Tells new) = (events : List Happening) × Lives old events new
KnownLives (Tells old) (Counts_alone new) = ⊥
KnownLives (Counts_alone old) new = Unit {0}

-- a durable state that the desk's node passes in some life, where it tells its state
abbrev pub KnownPast : Knows → Durable → Type 0
KnownPast (Tells old) d = (events : List Happening) × (new : Node) × (life : Lives old events new) × LivesPast old events new life d
KnownPast (Counts_alone old) d = Unit {0}
