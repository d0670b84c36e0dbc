-- The fold of a ledger's records: the state that they leave, one record after another (own).
use Rattle.std.specs.Prelude.{ℕ, ◌-◌, ◌==◌, Bool, true, false, not, ◌&&◌, ◌||◌, nat_lt, nat_le, nat_eq, IsTrue, List, [], ◌∷◌, ◌++◌, length, map, drop, filter, codes, Option, Some, None, option_map, option_and_then, if◌then◌else◌}
use Rattle.std.specs.Char.{to_ascii_lowercase}
use Rattle.std.specs.Cmp.Lexicographic.{pointwise}
use Rattle.std.specs.List.{list_all, list_any}
use Rattle.ftn_addr.specs.Address.{Address}
use Rattle.ftn_addr.specs.Files.{is_same}
use Rattle.ftn_addr.specs.Key.{Key}
use Rattle.ledger_rec.specs.Items.{Entry, Receipt, Refusal, PartMark, Hold}
use Rattle.ledger_rec.specs.Record.{NewFileText, ReceivedText, RefusedText, MarkText, RecordText, Queue, Done, Received, Refused, Mark, Taken, Acted, Answered}

-- What is queued, received, refused and marked; then the numbers of all parts and receipts so far, and
-- the takes that are recorded.
pub record State : Type 0 where
  pub queue : List Entry
  pub inbox : List Receipt
  pub refused : List Refusal
  pub marks : List PartMark
  pub parts : List ℕ
  pub takes : List ℕ

abbrev pub nothing_folded : State
nothing_folded = record { queue = []; inbox = []; refused = []; marks = []; parts = []; takes = [] }

abbrev pub is_among : ℕ → List ℕ → Bool
is_among number numbers = list_any (λ n. n == number) numbers

abbrev pub is_received : Address → Key → List Receipt → Bool
is_received from key inbox = list_any (λ (r : Receipt). is_same from key r.from r.key) inbox

abbrev pub is_refused : Address → Key → List Refusal → Bool
is_refused from key refused = list_any (λ (r : Refusal). is_same from key r.from r.key) refused

-- received or refused
abbrev pub is_known : Address → Key → State → Bool
is_known from key s = is_received from key s.inbox || is_refused from key s.refused

abbrev pub is_marked : Address → Key → List PartMark → Bool
is_marked from key marks = list_any (λ (m : PartMark). is_same from key m.from m.key) marks

-- the number is that of a marked part of the sender and key
abbrev pub is_part_of : ℕ → Address → Key → List PartMark → Bool
is_part_of number from key marks = list_any (λ (m : PartMark). m.number == number && is_same from key m.from m.key) marks

-- The number is above all earlier ones, and its address has no earlier entry of that key.
abbrev pub may_queue : NewFileText → List Entry → Bool
may_queue r queue =
    list_all (λ (e : Entry). nat_lt e.number r.number) queue && not (list_any (λ (e : Entry). is_same r.dest r.key e.dest e.key) queue)

-- The sender and key stand in neither inbox nor refused; the receipt is a marked part of them, or isn't used.
abbrev pub may_receive : ReceivedText → State → Bool
may_receive r s =
    not (is_known r.from r.key s) && (is_part_of r.receipt r.from r.key s.marks || not (is_among r.receipt s.parts))

abbrev pub may_refuse : RefusedText → State → Bool
may_refuse r s = not (is_known r.from r.key s)

-- the part is marked for the sender and key, with a length that isn't greater
abbrev pub goes_on : MarkText → List PartMark → Bool
goes_on r marks = list_any (λ (m : PartMark). m.number == r.part && (is_same r.from r.key m.from m.key && nat_le m.len r.len)) marks

-- the part isn't used, and the sender and key have no mark and no receipt or refusal
abbrev pub begins : MarkText → State → Bool
begins r s = not (is_among r.part s.parts) && (not (is_marked r.from r.key s.marks) && not (is_known r.from r.key s))

-- the length is 1 up to the size
abbrev pub may_mark : MarkText → State → Bool
may_mark r s = nat_lt 0 r.len && (nat_le r.len r.key.size && (goes_on r s.marks || begins r s))

-- a file whose name ends with `.req`, with the case of ASCII letters ignored, is a request
abbrev pub is_request : List ℕ → Bool
is_request name = pointwise nat_eq (map to_ascii_lowercase (drop (length name - 4) name)) (codes ".req")

abbrev pub is_live : ℕ → Entry → Bool
is_live number e = e.number == number && e.live

-- an action that wasn't done
abbrev pub waits_for_action : ℕ → Entry → Bool
waits_for_action number e = e.number == number && (nat_lt 0 e.action && not e.acted)

-- a received request that wasn't answered
abbrev pub waits_for_answer : ℕ → Receipt → Bool
waits_for_answer number r = r.number == number && (is_request r.key.name && not r.answered)

-- the first that passes the test is changed; none where none passes
abbrev pub changed : {A : Type 0} → (A → Bool) → (A → A) → List A → Option (List A)
changed p f [] = None
changed p f (x ∷ xs) = if p x then Some (f x ∷ xs) else option_map (λ ys. x ∷ ys) (changed p f xs)

abbrev pub settled : Entry → Entry
settled e = record e { live = false }

abbrev pub acted_on : Entry → Entry
acted_on e = record e { acted = true }

abbrev pub answered : Receipt → Receipt
answered r = record r { answered = true }

abbrev pub new_entry : NewFileText → Entry
new_entry r = record { number = r.number; dest = r.dest; key = r.key; flavour = r.flavour; source = r.source; action = r.action; acted = false; live = true }

abbrev pub new_receipt : ReceivedText → Receipt
new_receipt r = record { number = r.receipt; from = r.from; key = r.key; secure = r.secure; answered = false }

abbrev pub new_refusal : RefusedText → Refusal
new_refusal r = record { from = r.from; key = r.key }

abbrev pub new_mark : MarkText → PartMark
new_mark r = record { number = r.part; from = r.from; key = r.key; len = r.len }

-- the marks of others
abbrev pub unmarked : Address → Key → List PartMark → List PartMark
unmarked from key marks = filter (λ (m : PartMark). not (is_same from key m.from m.key)) marks

-- a mark at its place among marks that rise by part
abbrev pub in_place : PartMark → List PartMark → List PartMark
in_place m [] = m ∷ []
in_place m (x ∷ xs) = if nat_lt m.number x.number then m ∷ x ∷ xs else x ∷ in_place m xs

-- the number is used from now on
abbrev pub with_number : ℕ → List ℕ → List ℕ
with_number n numbers = if is_among n numbers then numbers else numbers ++ n ∷ []

abbrev pub with_queued : NewFileText → State → State
with_queued r s = record s { queue = s.queue ++ new_entry r ∷ [] }

-- a file is received, and its mark goes
abbrev pub with_receipt : ReceivedText → State → State
with_receipt r s =
    record s { inbox = s.inbox ++ new_receipt r ∷ []; marks = unmarked r.from r.key s.marks; parts = with_number r.receipt s.parts }

-- a file is refused, and its mark goes
abbrev pub with_refusal : RefusedText → State → State
with_refusal r s = record s { refused = s.refused ++ new_refusal r ∷ []; marks = unmarked r.from r.key s.marks }

-- the sender and key have this mark and no other
abbrev pub with_mark : MarkText → State → State
with_mark r s = record s { marks = in_place (new_mark r) (unmarked r.from r.key s.marks); parts = with_number r.part s.parts }

abbrev pub with_take : ℕ → State → State
with_take take s = record s { takes = s.takes ++ take ∷ [] }

-- the numbers of a record that must not be 0
abbrev pub numbers : RecordText → List ℕ
numbers (Queue r) = r.number ∷ []
numbers (Done number session) = number ∷ session ∷ []
numbers (Received r) = r.receipt ∷ r.session ∷ []
numbers (Refused r) = r.session ∷ []
numbers (Mark r) = r.part ∷ []
numbers (Taken take) = take ∷ []
numbers (Acted number) = number ∷ []
numbers (Answered receipt) = receipt ∷ []

abbrev pub if_may : Bool → State → Option State
if_may may s = if may then Some s else None

-- the state after a record whose numbers aren't 0; none where it breaks a rule
abbrev pub after : State → RecordText → Option State
after s (Queue r) = if_may (may_queue r s.queue) (with_queued r s)
after s (Done number session) = option_map (λ queue. record s { queue = queue }) (changed (is_live number) settled s.queue)
after s (Received r) = if_may (may_receive r s) (with_receipt r s)
after s (Refused r) = if_may (may_refuse r s) (with_refusal r s)
after s (Mark r) = if_may (may_mark r s) (with_mark r s)
after s (Taken take) = if_may (not (is_among take s.takes)) (with_take take s)
after s (Acted number) = option_map (λ queue. record s { queue = queue }) (changed (waits_for_action number) acted_on s.queue)
after s (Answered number) = option_map (λ inbox. record s { inbox = inbox }) (changed (waits_for_answer number) answered s.inbox)

-- one step of the fold
abbrev pub fold_step : State → RecordText → Option State
fold_step s r = if list_all (λ n. nat_lt 0 n) (numbers r) then after s r else None

-- the state after these records, one step after another; none where one of them breaks a rule
abbrev pub fold_all : State → List RecordText → Option State
fold_all s [] = Some s
fold_all s (r ∷ rs) = option_and_then (λ t. fold_all t rs) (fold_step s r)

abbrev pub is_held : Address → Key → List Hold → Bool
is_held from key holds = list_any (λ (h : Hold). is_same from key h.from h.key) holds

-- one hold of the sender and key less, where there is one
abbrev pub without_hold : Address → Key → List Hold → List Hold
without_hold from key [] = []
without_hold from key (h ∷ hs) = if is_same from key h.from h.key then hs else h ∷ without_hold from key hs

-- a record that is folded without new memory where there is room
abbrev pub IsPrepared : RecordText → List Hold → Type 0
IsPrepared (Queue r) holds = ⊥
IsPrepared (Done number session) holds = Unit {0}
IsPrepared (Received r) holds = IsTrue (is_held r.from r.key holds)
IsPrepared (Refused r) holds = ⊥
IsPrepared (Mark r) holds = IsTrue (is_held r.from r.key holds)
IsPrepared (Taken take) holds = Unit {0}
IsPrepared (Acted number) holds = Unit {0}
IsPrepared (Answered number) holds = Unit {0}

-- the state of the records so far, what is held, and how many more records fit
pub record Folding : Type 0 where
  pub state : State
  pub holds : List Hold
  pub room : ℕ
