-- What a node does while it serves: it takes its outbound in, answers who calls, gives what it received, and calls whom it has mail for,
-- until it is told to stop (own).
use Rattle.std.specs.Prelude.{◌≡◌, ◌⊎◌, ℕ, ◌+◌, ◌<◌, ◌≤◌, Bool, false, true, List, [], Option, Some, None, IsSome, length, map, slice_get}
use Rattle.disk_model.specs.World.{World}
use Rattle.ftn_addr.specs.Address.{Address, address}
use Rattle.binkp_link.specs.Lines.{LineState, SinkState}
use Rattle.binkp_link.specs.LineSources.{Dialling, Gave, IsDialled, IsNext, LinesState, LinesTold, dialling, handed_back}
use Rattle.binkp_link.specs.declared.line_source.Dialled.TheVariants as A
use Rattle.binkp_link.specs.declared.line_source.NextLine.TheVariants as N
use Rattle.call_hosts.specs.Hosts.{host_at}
use Rattle.call_sched.specs.NextCall as S
use Rattle.call_sched.specs.declared.words.Next.{Next}
use Rattle.call_sched.specs.declared.words.Next.TheVariants.{Call, WaitUntil, Nothing}
use Rattle.call_sched.specs.declared.words.Try.{Try}
use Rattle.call_sched.specs.declared.words.Wanted.{Wanted}
use Rattle.hub_core.specs.declared.places.Seats.{Seats}
use Rattle.mail_conf.specs.Conf.{ConfText}
use Rattle.node_store.specs.Stored.{Holding}
use Rattle.nodelist_comp.specs.Node.{ListedNode}
use Rattle.outbound_round.specs.Round.{RoundTold}
use Rattle.session_auth.specs.Sides.{Side, Answers, Calls}
use Rattle.session_lines.specs.Lines.{session_line}
use Rattle.session_run.specs.Reports.{ReportText}
use Rattle.binkp_serve.specs.declared.watch.Watch.{Watch}
use Rattle.binkp_serve.specs.declared.words.ServeEnd.{ServeEnd}
use Rattle.binkp_serve.specs.declared.words.ServeEnd.TheVariants as E
use Rattle.binkp_serve.specs.declared.words.TheConstants.{MOST_LINES, PAUSE}
use Rattle.binkp_serve.specs.Calling.{IsTried, items_of, queue_of, waits}
use Rattle.binkp_serve.specs.Rests.{GivesReceived, HoldsSession, Reached, Rest, StaysReceived, TakesOutbound, rest_of, standing}
use Rattle.binkp_serve.specs.Telling.{TellsLine, TellsNews, news_in}

-- What a node that serves remembers: the last call of each address, when it last took its outbound in and what it said of that, how many
-- lines it was given, and whether memory was short.
pub record Memory : Type 0 where
  pub tries : List Try
  pub looked : ℕ
  pub said : List ℕ
  pub lines : ℕ
  pub short : Bool

abbrev pub memory_of : Watch → Memory
memory_of w = record { tries = w.tries.items; looked = w.looked; said = w.said.list; lines = w.lines; short = w.short }

-- a node that serves
pub record Server (D : Type 0) : Type 0 where
  pub rest : Rest D
  pub lines : LinesState
  pub out : SinkState
  pub memory : Memory

abbrev pub server : {D : Type 0} → Holding D → Seats → ℕ → LinesState → SinkState → Watch → Server D
server store seats seat lines out watch = record { rest = rest_of store seats seat; lines = lines; out = out; memory = memory_of watch }

-- memory was short
abbrev pub fell_short : {D : Type 0} → Server D → Server D
fell_short s = record s { memory = record s.memory { short = true } }

abbrev pub broken_in : {D : Type 0} → Server D → Option ℕ
broken_in s = s.rest.store.memory.broken

-- of a store that is whole this is done, and of another nothing
pub data If_whole {D : Type 0} (does : Server D → Server D → Type 0) (old new : Server D) : Type 0 where
  Is_whole : broken_in old ≡ None → does old new → If_whole does old new
  Is_broken : IsSome (broken_in old) → new ≡ old → If_whole does old new

-- A take-in is due a minute behind the last one; and where the clock went back.
abbrev pub IsDue : (looked now : ℕ) → Type 0
IsDue looked now = (now < looked) ⊎ (looked + PAUSE ≤ now)

-- a node that begins to serve
abbrev pub at_start : {D : Type 0} → Rest D → LinesState → SinkState → Server D
at_start rest lines out = record { rest = rest; lines = lines; out = out; memory = record { tries = []; looked = 0; said = []; lines = 0; short = false } }

-- a store that is broken at the end, that is its end
abbrev pub end_with : Option ℕ → ServeEnd → ServeEnd
end_with None end = end
end_with (Some count) end = E.Disk count

-- nobody is to be called
abbrev pub IsNobody : Next → Type 0
IsNobody (Call place) = ⊥
IsNobody next = Unit {0}

-- Lines that were given have places from 0 on; all of them were handed back.

abbrev pub AreBackTold : ℕ → Option LinesTold → Type 0
AreBackTold given None = Unit {0}
AreBackTold given (Some told) = (place : ℕ) → place < given → (line : LineState) × (slice_get told.handed place ≡ Some (Some line))

abbrev pub HasPlaces : ℕ → Option LinesTold → Type 0
HasPlaces given None = Unit {0}
HasPlaces given (Some told) = length told.handed ≡ given

pub record AreBack (given : ℕ) (lines : LinesState) : Type 0 where
  pub count : lines.counts.given ≡ given
  pub places : HasPlaces given lines.told
  pub back : AreBackTold given lines.told

abbrev pub self : LineState → LineState
self line = line

module _ {D : Type 0} (tells : Bool) (content : D → World) (faults : D → ℕ) (moment : D → ℕ) (images : D → ℕ → World → Type 0) (conf : ConfText) where
  -- the outbound is taken in, and what there is to tell of that is told
  pub record Looks (now : ℕ) (old new : Server D) : Type 0 where
    pub round : RoundTold
    pub takes : TakesOutbound tells content faults moment images conf now round old.rest new.rest
    pub says : TellsNews (news_in round) old.memory.said old.out old.memory.short new.memory.said new.out new.memory.short
    pub lines : new.lines ≡ old.lines
    pub memory : new.memory ≡ record old.memory { looked = now; said = new.memory.said; short = new.memory.short }

  -- the same, where that is due
  pub data Looks_again (now : ℕ) (old new : Server D) : Type 0 where
    Is_due : IsDue old.memory.looked now → Looks now old new → Looks_again now old new
    Not_due : (IsDue old.memory.looked now → ⊥) → new ≡ old → Looks_again now old new

  -- received files are given
  pub record Gives (old new : Server D) : Type 0 where
    pub gives : GivesReceived tells content faults moment images conf old.rest new.rest
    pub same : new ≡ record old { rest = new.rest }

  -- A line was given, at the next place. A whole session is held over it, the line is handed back, and the session's line is told.
  pub record Holds_line (side : Side) (lines : LinesState) (old new : Server D) : Type 0 where
    pub line : LineState
    pub given : LinesState
    pub gave : Gave line lines given
    pub challenge : List ℕ
    pub now : ℕ
    pub report : ReportText
    pub line' : LineState
    pub holds : HoldsSession tells content faults moment images side conf challenge now line report line' old.rest new.rest
    pub back : new.lines ≡ handed_back old.memory.lines line' given
    pub says : TellsLine (session_line report) old.out old.memory.short new.out new.memory.short
    pub memory : new.memory ≡ record old.memory { lines = old.memory.lines + 1; short = new.memory.short }

  -- A host is dialled once: no line could be had, or a session is held over it.
  pub data Dials (peer : Address) (host : Dialling) (old new : Server D) : Type 0 where
    No_line : IsDialled self A.Failed host.host host.port old.lines new.lines → new ≡ record old { lines = new.lines } → Dials peer host old new
    A_line : Holds_line (Calls peer) (dialling host.host host.port old.lines) old new → Dials peer host old new

  abbrev pub Giving : Server D → Server D → Type 0
  Giving = If_whole Gives

  module _ (index : Option (List ListedNode)) where
    -- A node is called: the call is noted, the host of the settings or else of the index is dialled, and what was received is given. Or
    -- there was no memory for that, and nobody is dialled.
    pub data Calls_one (peer : Address) (now : ℕ) (old new : Server D) : Type 0 where
      No_room : new ≡ fell_short old → Calls_one peer now old new
      Is_called : (host : Dialling) → host_at conf index peer ≡ Some host → (tries : List Try) → IsTried peer now old.memory.tries tries
          → (mid : Server D) → Dials peer host (record old { memory = record old.memory { tries = tries } }) mid → Giving mid new → Calls_one peer now old new

    -- Whom to call next is judged of all files that wait, and by all calls that were made. Where no calls are to be made nobody is
    -- called; nor where there was no memory for that judgement.
    pub data Calls_next (now : ℕ) (old new : Server D) : Type 0 where
      No_clients : conf.max_clients ≡ 0 → new ≡ old → Calls_next now old new
      No_list : new ≡ fell_short old → Calls_next now old new
      Nobody : (wanted : List Wanted) → map waits wanted ≡ items_of conf index (queue_of (standing tells content faults moment images old.rest)) → (next : Next) → S.IsNext now wanted old.memory.tries next → IsNobody next → new ≡ old → Calls_next now old new
      Somebody : (wanted : List Wanted) → map waits wanted ≡ items_of conf index (queue_of (standing tells content faults moment images old.rest)) → (place : ℕ) → S.IsNext now wanted old.memory.tries (Call place)
          → (item : Wanted) → slice_get wanted place ≡ Some item → Calls_one (address item.addr) now old new → Calls_next now old new

    -- One turn: a caller is answered, and what was received is given. Or nobody called for a while: the outbound is taken in where that is
    -- due, what was received is given, and the next node is called.
    pub data Turn (old new : Server D) : Type 0 where
      Answers_one : (mid : Server D) → Holds_line Answers old.lines old mid → Giving mid new → Turn old new
      Pauses : (now : ℕ) (lines : LinesState) → IsNext self N.Nothing old.lines lines → (looked given : Server D) → Looks_again now (record old { lines = lines }) looked → Giving looked given
          → If_whole (Calls_next now) given new → Turn old new

    -- turns, one behind another, each over a whole store and with a place for a line
    pub data Turns (old : Server D) : Server D → Type 0 where
      No_turn : Turns old old
      One_more : {mid new : Server D} → Turns old mid → broken_in mid ≡ None → mid.memory.lines < MOST_LINES → Turn mid new → Turns old new

    -- What ends it: the store is broken; or so many lines were given; or the end is answered, or a failure, where the next caller is asked
    -- for.
    pub data Ends (old : Server D) : ServeEnd → Server D → Type 0 where
      By_disk : (count : ℕ) → broken_in old ≡ Some count → Ends old (E.Disk count) old
      By_count : broken_in old ≡ None → MOST_LINES ≤ old.memory.lines → Ends old E.Count old
      By_stop : broken_in old ≡ None → (lines : LinesState) → IsNext self N.Stop old.lines lines → Ends old E.Stop (record old { lines = lines })
      By_lines : broken_in old ≡ None → (lines : LinesState) → IsNext self N.Failed old.lines lines → Ends old E.Lines (record old { lines = lines })

    -- from one to another by turns, and then its end
    pub record TurnsTo (old : Server D) (end : ServeEnd) (new : Server D) : Type 0 where
      pub last : Server D
      pub turns : Turns old last
      pub ends : Ends last end new

    -- It takes its outbound in before it first asks for a caller, and gives what it received before it ends. The node behind it was reached
    -- by rows from the one before it, and what was received stays so, at each moment.
    pub record Serves (old : Server D) (end : ServeEnd) (short : Bool) (rest : Rest D) (lines : LinesState) (out : SinkState) : Type 0 where
      pub now : ℕ
      pub first : Server D
      pub looks : Looks now old first
      pub was : ServeEnd
      pub ended : Server D
      pub turns : TurnsTo first was ended
      pub new : Server D
      pub gives : Giving ended new
      pub is : end ≡ end_with (broken_in new) was
      pub reached : Reached tells content faults moment images old.rest rest
      pub stays : StaysReceived (standing tells content faults moment images old.rest) (standing tells content faults moment images rest)
      pub short_is : short ≡ new.memory.short
      pub rest_is : rest ≡ new.rest
      pub lines_is : lines ≡ new.lines
      pub out_is : out ≡ new.out
