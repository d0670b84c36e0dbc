-- What is told while a node serves: each text once, as what it tells of ends (own).
use Rattle.std.specs.Prelude.{◌≡◌, ◌≢◌, ℕ, Bool, true, List, [], ◌++◌, Option, Some, None, codes}
use Rattle.binkp_link.specs.Lines.{PutsAll, PutsFront, SinkState}
use Rattle.outbound_round.specs.Round.{RoundTold}
use Rattle.outbound_round.specs.declared.words.RoundFault.{RoundFault}
use Rattle.outbound_round.specs.declared.words.RoundFault.TheVariants as RF

-- a text was put, whole or a front of it
pub data Puts (text : List ℕ) (out out' : SinkState) : Type 0 where
  All_put : PutsAll text out out' → Puts text out out'
  Front_put : PutsFront text out out' → Puts text out out'

-- A line was put. Or there was no memory for it: none was, and that is noted.
pub data TellsLine (line : List ℕ) (out : SinkState) (short : Bool) (out' : SinkState) (short' : Bool) : Type 0 where
  Is_told : Puts line out out' → short' ≡ short → TellsLine line out short out' short'
  No_room : out' ≡ out → short' ≡ true → TellsLine line out short out' short'

-- what is told of the fault that ended a take-in
abbrev pub fault_line : Option RoundFault → List ℕ
fault_line None = []
fault_line (Some RF.Disk) = []
fault_line (Some RF.Full) = codes "binkp: the ledger is full: mail stays in the outbound\n"
fault_line (Some RF.NoMemory) = codes "binkp: out of memory: mail stays in the outbound\n"

-- what there is to tell of a take-in
abbrev pub news_in : RoundTold → List ℕ
news_in round = round.lines ++ fault_line round.fault

-- What there is to tell is told where it isn't what was said last, so that what stays so isn't told each minute. Nothing to tell is told
-- by no put.
pub data TellsNews (news said : List ℕ) (out : SinkState) (short : Bool) (said' : List ℕ) (out' : SinkState) (short' : Bool) : Type 0 where
  Is_old : news ≡ said → said' ≡ said → out' ≡ out → short' ≡ short → TellsNews news said out short said' out' short'
  Is_new : news ≢ said → said' ≡ news → Puts news out out' → short' ≡ short → TellsNews news said out short said' out' short'
  No_words : said' ≡ said → out' ≡ out → short' ≡ true → TellsNews news said out short said' out' short'
