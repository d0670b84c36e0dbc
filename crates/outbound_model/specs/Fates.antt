-- What becomes of the lines of a flow file, and of a packet or a request (FTS-5005; own).
use Rattle.std.specs.Prelude.{◌≡◌, ◌⊎◌, ℕ, ◌-◌, ◌<◌, ◌≤◌, ◌==◌, Bool, ◌||◌, List, [], ◌∷◌, ◌++◌, length, map, drop, codes, Option, Some, None, option_map, if◌then◌else◌}
use Rattle.std.specs.Str.{IsUtf8}
use Rattle.ftn_addr.specs.Address.{Address}
use Rattle.ftn_addr.specs.Case.{same_word}
use Rattle.ftn_addr.specs.Key.{Key}
use Rattle.ftn_addr.specs.declared.limits.TheConstants.{MAX_NAME, MAX_SIZE}
use Rattle.ftn_addr.specs.declared.source_file.Action.{Action}
use Rattle.ftn_addr.specs.declared.source_file.Action.TheVariants.{Leave}
use Rattle.bso_outbound.specs.declared.kind.Kind.{Kind}
use Rattle.bso_outbound.specs.declared.kind.Kind.TheVariants.{Flow, Mail, Request}
use Rattle.bso_outbound.specs.Kinds.{ending}
use Rattle.bso_outbound.specs.Digits.{eight_digits as point_digits}
use Rattle.bso_outbound.specs.Names.{node_digits}
use Rattle.bso_outbound.specs.Paths.{last_part}
use Rattle.flow_file.specs.Item.{FlowItem, Send, Passed, flow_items}
use Rattle.node_model.specs.declared.words.Flavour.{Flavour}
use Rattle.node_model.specs.declared.words.Flavour.TheVariants.{Normal}
use Rattle.node_model.specs.Items.{Entry}
use Rattle.node_model.specs.Outside.{OutFile, OutFiles, eight_digits}
use Rattle.node_model.specs.Stocks.{NewEntry, entry_with, queued_as}
use Rattle.outbound_model.specs.declared.fate.Fate.{Fate}
use Rattle.outbound_model.specs.declared.fate.Fate.TheVariants as F

-- the number under which an address has a key in the queue
abbrev pub number_at : Address → Key → List Entry → Option ℕ
number_at dest key queue = option_map (λ (e : Entry). e.number) (queued_as dest key queue)

-- a new file behind the queue
abbrev pub with_new : NewEntry → List ℕ → List Entry → List Entry
with_new f bytes queue = queue ++ entry_with f bytes ∷ []

-- Lines of a flow file.

-- a busy or a call mark of an outbound (FTS-5005), with ASCII case ignored
abbrev pub names_mark : List ℕ → Bool
names_mark path = same_word (drop (length path - 4) path) (codes ".bsy") || same_word (drop (length path - 4) path) (codes ".csy")

-- a line with the path of a mark is passed over
abbrev pub unless_mark : FlowItem → FlowItem
unless_mark Passed = Passed
unless_mark (Send action path) = if names_mark path then Passed else Send action path

abbrev pub lines_of : List ℕ → List FlowItem
lines_of bytes = map unless_mark (flow_items bytes)

-- a path of at most 1,024 bytes, in UTF-8, behind whose last `/` stands a name of 1 to 200 bytes
pub record CanQueue (path : List ℕ) : Type 0 where
  pub some : 0 < length (last_part path)
  pub short : length (last_part path) ≤ MAX_NAME
  pub within : length path ≤ 1024
  pub text : IsUtf8 path

abbrev pub key_in : List ℕ → OutFile → Key
key_in path f = record { name = last_part path; size = length f.bytes; time = f.time }

-- a line that sends the file under a path: for whom, with which flavour and action
abbrev pub sent_entry : Address → Flavour → Action → List ℕ → OutFile → ℕ → NewEntry
sent_entry dest flavour action path f number = record { number = number; dest = dest; key = key_in path f; flavour = flavour; source = path; action = action }

-- what becomes of it, by the outside file, and the queue behind it
abbrev pub Sends : Address → Flavour → Action → List ℕ → Option OutFile → List Entry → Fate → List Entry → Type 0
Sends dest flavour action path file queue F.Missing after = ((CanQueue path → ⊥) ⊎ (file ≡ None)) × (after ≡ queue)
Sends dest flavour action path file queue F.Over after = CanQueue path × ((f : OutFile) × (file ≡ Some f) × (MAX_SIZE < length f.bytes)) × (after ≡ queue)
Sends dest flavour action path file queue (F.Again n) after = CanQueue path × ((f : OutFile) × (file ≡ Some f) × (number_at dest (key_in path f) queue ≡ Some n)) × (after ≡ queue)
Sends dest flavour action path file queue (F.Queued n) after =
    CanQueue path × (f : OutFile) × (file ≡ Some f) × (number_at dest (key_in path f) queue ≡ None) × (after ≡ with_new (sent_entry dest flavour action path f n) f.bytes queue)
Sends dest flavour action path file queue F.Passed after = ⊥

abbrev pub LineDoes : Address → Flavour → OutFiles → List Entry → FlowItem → Fate → List Entry → Type 0
LineDoes dest flavour outside queue Passed fate after = (fate ≡ F.Passed) × (after ≡ queue)
LineDoes dest flavour outside queue (Send action path) fate after = Sends dest flavour action path (outside path) queue fate after

-- one fate a line, in order, and the queue behind them
abbrev pub Lines : Address → Flavour → OutFiles → List Entry → List FlowItem → List Fate → List Entry → Type 0
Lines dest flavour outside queue [] [] after = after ≡ queue
Lines dest flavour outside queue (i ∷ is) (f ∷ fs) after = (mid : List Entry) × LineDoes dest flavour outside queue i f mid × Lines dest flavour outside mid is fs after
Lines dest flavour outside queue [] (f ∷ fs) after = ⊥
Lines dest flavour outside queue (i ∷ is) [] after = ⊥

-- Packets and requests: one file each, without lines.

abbrev pub flavour_of : Kind → Flavour
flavour_of (Flow flavour) = flavour
flavour_of (Mail flavour) = flavour
flavour_of Request = Normal

-- a packet is called by its queue number, in eight digits
abbrev pub packet_name : ℕ → List ℕ
packet_name number = eight_digits number ++ codes ".pkt"

-- and a request as in the outbound, without its folder
abbrev pub request_name : Address → List ℕ
request_name dest =
    (if dest.point == 0 then node_digits (dest.net, dest.node) else point_digits dest.point) ++ ending Request

abbrev pub whole_name : Kind → Address → ℕ → List ℕ
whole_name (Flow flavour) dest number = []
whole_name (Mail flavour) dest number = packet_name number
whole_name Request dest number = request_name dest

-- the time of its key is the moment of the take-in
abbrev pub whole_entry : Kind → Address → (moment size : ℕ) → ℕ → NewEntry
whole_entry kind dest moment size number =
    record { number = number; dest = dest; key = record { name = whole_name kind dest number; size = size; time = moment }; flavour = flavour_of kind; source = []; action = Leave }

abbrev pub WholeDoes : Kind → Address → ℕ → List ℕ → List Entry → Fate → List Entry → Type 0
WholeDoes kind dest moment bytes queue (F.Queued n) after =
    (length bytes ≤ MAX_SIZE) × (number_at dest (whole_entry kind dest moment (length bytes) n).key queue ≡ None) × (after ≡ with_new (whole_entry kind dest moment (length bytes) n) bytes queue)
WholeDoes kind dest moment bytes queue (F.Again n) after =
    (length bytes ≤ MAX_SIZE) × ((number : ℕ) × (number_at dest (whole_entry kind dest moment (length bytes) number).key queue ≡ Some n)) × (after ≡ queue)
WholeDoes kind dest moment bytes queue F.Over after = (MAX_SIZE < length bytes) × (after ≡ queue)
WholeDoes kind dest moment bytes queue F.Missing after = ⊥
WholeDoes kind dest moment bytes queue F.Passed after = ⊥

abbrev pub Whole : Kind → Address → ℕ → List ℕ → List Entry → List Fate → List Entry → Type 0
Whole kind dest moment bytes queue (fate ∷ []) after = WholeDoes kind dest moment bytes queue fate after
Whole kind dest moment bytes queue [] after = ⊥
Whole kind dest moment bytes queue (fate ∷ more ∷ fates) after = ⊥

-- what becomes of a take with these bytes
abbrev pub Brings : Kind → Address → ℕ → OutFiles → List ℕ → List Entry → List Fate → List Entry → Type 0
Brings (Flow flavour) dest moment outside bytes queue fates after = Lines dest flavour outside queue (lines_of bytes) fates after
Brings (Mail flavour) dest moment outside bytes queue fates after = Whole (Mail flavour) dest moment bytes queue fates after
Brings Request dest moment outside bytes queue fates after = Whole Request dest moment bytes queue fates after
