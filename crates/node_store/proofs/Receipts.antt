-- The receipt of an open part: the step of the fold, and the worlds that have its file.
use Rattle.std.proofs.Common.{◌≡◌, ◌≢◌, ◌⊎◌, ⊎_elim, ℕ, ◌≤◌, ◌==◌, List, [], ◌∷◌, ◌++◌, length, map, Option, Some, None, Bool, true, false, not, ◌&&◌, ◌||◌, nat_lt, refl, sym, ◌∙◌, ap, arith}
use Rattle.std.specs.Prelude.{if◌then◌else◌}
use Rattle.std.specs.List.{AllByRecursion}
use Rattle.std.proofs.lemmas.Bool.Decides.{Decides-ltb}
use Rattle.ftn_addr.specs.Address.{Address}
use Rattle.ftn_addr.specs.Files.{is_same}
use Rattle.ftn_addr.specs.Key.{Key}
use Rattle.disk_model.specs.World.{World}
use Rattle.ledger_rec.specs.Fold.{State, is_known, is_part_of, is_among, unmarked, may_receive, new_receipt, with_receipt, fold_step, after, if_may}
use Rattle.ledger_rec.specs.Items.{Receipt, PartMark}
use Rattle.ledger_rec.specs.Record.{Received}
use Rattle.node_model.specs.Durable as D
use Rattle.node_model.specs.Durable.{DurableOf, Durable}
use Rattle.node_model.specs.Items as N
use Rattle.node_model.specs.Lists.{without}
use Rattle.node_model.specs.Stocks.{part_in, receipt_from, part_committed, by_some, by_part}
use Rattle.node_model.proofs.Lists.{and_both, or_true, or_true_right, some_inj}
use Rattle.node_store.specs.Books.{Books}
use Rattle.node_store.specs.Contents.{Contents, receipt_by, durable_by}
use Rattle.node_store.specs.Names.{in_name}
use Rattle.node_store.specs.Stored.{Part, Memory, front_of, told_in, is_orderly, told_parts, part_by, stock_by, received_text, without_part}
use Rattle.node_store.specs.Tied.{orderly_true}
use Rattle.node_store.specs.Worlds.{bytes_of, or_else, gift_of, is_absent, contents_in, durable_in, HasLength, HasFront, HasNoOther, HasFiles}
use Rattle.node_store.proofs.ClosedParts.{parts_left, orderly_left}
use Rattle.node_store.proofs.Mirrors.{receipt_mirrored}
use Rattle.node_store.proofs.TellAlike.{front_whole}

-- lists

pub all-append : {A : Type 0} (P : A → Type 0) (xs : List A) (y : A) → AllByRecursion P xs → P y → AllByRecursion P (xs ++ y ∷ [])
all-append P [] y all last = (last, tt)
all-append P (x ∷ xs) y all last = (all.0, all-append P xs y all.1 last)

pub all_marks_left : (P : PartMark → Type 0) (from : Address) (key : Key) (ms : List PartMark) → AllByRecursion P ms → AllByRecursion P (unmarked from key ms)
all_marks_left P from key [] all = tt
all_marks_left P from key (m ∷ ms) all = go (is_same from key m.from m.key) (all_marks_left P from key ms all.1)
  where
    go : (b : Bool) → AllByRecursion P (unmarked from key ms) → AllByRecursion P (if not b then m ∷ unmarked from key ms else unmarked from key ms)
    go true rest = rest
    go false rest = (all.0, rest)

pub above_zero : (n : ℕ) → 1 ≤ n → nat_lt 0 n ≡ true
above_zero n some = (Decides-ltb 0 n).1 (omega (arith, some))

-- the fold takes the receipt
pub received_step : (s : State) (q : Part) (session : ℕ) (secure : Bool) → 1 ≤ q.number → session ≢ 0 → is_known q.from q.key s ≡ false → (is_part_of q.number q.from q.key s.marks ≡ true) ⊎ (is_among q.number s.parts ≡ false)
    → fold_step s (Received (received_text q session secure)) ≡ Some (with_receipt (received_text q session secure) s)
received_step s q session secure some in_session unknown number =
    let r = received_text q session secure in
    let numbered = and_both (nat_lt 0 q.number) (nat_lt 0 session && true) (above_zero q.number some) (and_both (nat_lt 0 session) true (above_zero session (omega (arith, in_session))) refl) in
    let free : (is_part_of q.number q.from q.key s.marks || not (is_among q.number s.parts)) ≡ true =
    ⊎_elim (λ marked. or_true (is_part_of q.number q.from q.key s.marks) (not (is_among q.number s.parts)) marked) (λ unused. or_true_right (is_part_of q.number q.from q.key s.marks) (not (is_among q.number s.parts)) (ap not unused)) number in
    let may : may_receive r s ≡ true = and_both (not (is_known q.from q.key s)) (is_part_of q.number q.from q.key s.marks || not (is_among q.number s.parts)) (ap not unknown) free in
    ap (λ (b : Bool). if b then after s (Received r) else None) numbered ∙ ap (λ (b : Bool). if_may b (with_receipt r s)) may

-- A part that came whole, whose file stands.
module _ (told : World) (given : List ℕ) (s : State) (q : Part) (session : ℕ) (secure : Bool) (ungiven : is_among q.number given ≡ false) (all : q.have ≡ q.key.size) where
  -- a world with that file has those of the fold with the receipt
  pub files_received : (c : World) → HasLength (in_name q.number) q.have c → HasFiles s c → HasFiles (with_receipt (received_text q session secure) s) c
  files_received c body has = record {
    live = has.live;
    marked = all_marks_left (λ (m : PartMark). HasFront (in_name m.number) m.len c) q.from q.key s.marks has.marked;
    received = all-append (λ (r : Receipt). HasNoOther (in_name r.number) r.key.size c) s.inbox (new_receipt (received_text q session secure)) has.received
        (λ b own. ap length (some_inj (sym own ∙ body.1)) ∙ body.2 ∙ all);
  }

  same_receipt : (c : World) → HasLength (in_name q.number) q.have told → c.own (in_name q.number) ≡ told.own (in_name q.number)
      → receipt_by (contents_in c) (new_receipt (received_text q session secure)) ≡ receipt_by (told_in told given) (new_receipt (received_text q session secure))
  same_receipt c body own =
      let there : c.own (in_name q.number) ≡ Some body.0 = own ∙ body.1 in
      let front : front_of q.key.size (bytes_of (told.own (in_name q.number))) ≡ body.0 =
      ap (λ (f : Option (List ℕ)). front_of q.key.size (bytes_of f)) body.1 ∙ front_whole q.key.size body.0 (body.2 ∙ all) in
      let bytes : or_else (c.own (in_name q.number)) (gift_of (in_name q.number) q.key.size c.gifts) ≡ (if is_among q.number given then or_else (told.own (in_name q.number)) (gift_of (in_name q.number) q.key.size told.gifts) else Some (front_of q.key.size (bytes_of (told.own (in_name q.number))))) =
      ap (λ (f : Option (List ℕ)). or_else f (gift_of (in_name q.number) q.key.size c.gifts)) there ∙ ap Some (sym front)
      ∙ sym (ap (λ (b : Bool). if b then or_else (told.own (in_name q.number)) (gift_of (in_name q.number) q.key.size told.gifts) else Some (front_of q.key.size (bytes_of (told.own (in_name q.number))))) ungiven) in
      let is_given : is_absent (c.own (in_name q.number)) ≡ (is_absent (told.own (in_name q.number)) && is_among q.number given) = ap is_absent there ∙ sym (ap (λ (f : Option (List ℕ)). is_absent f && is_among q.number given) body.1) in
      λ i. record { number = q.number; from = q.from; key = q.key; bytes = bytes i; secure = secure; answered = false; given = is_given i }

  -- and it has the told state with the receipt
  pub durable_received : (c : World) → HasLength (in_name q.number) q.have told → c.own (in_name q.number) ≡ told.own (in_name q.number) → durable_in c s ≡ durable_by (told_in told given) s
      → durable_in c (with_receipt (received_text q session secure) s) ≡ durable_by (told_in told given) (with_receipt (received_text q session secure) s)
  durable_received c body own same =
      let r = received_text q session secure in
      receipt_mirrored (contents_in c) r s
      ∙ (λ i. D.with_receipt (same_receipt c body own i) (same i))
      ∙ sym (receipt_mirrored (told_in told given) r s)

-- the receipt has what the part has, and isn't given
pub record IsWholeIn {B : Type 0} (c : Contents B) (q : Part) : Type 0 where
  pub given : c.given q.number ≡ false
  pub received : c.received q.number q.key.size ≡ Some (c.front q.number q.have)

-- What is told then, whatever the contents.
module _ {B : Type 0} (c : Contents B) (m : Memory) (b : Books) (q : Part) (session : ℕ) (secure : Bool) where
  pub stock_committed : IsWholeIn c q → is_orderly m.drawn m.parts ≡ true → part_in q.number (map (part_by c) (told_parts m.drawn m.parts)) ≡ Some (part_by c q) → b.folding.state ≡ with_receipt (received_text q session secure) m.books.folding.state
      → stock_by c (record m { books = b; parts = without_part q.number m.parts }) ≡ by_part q.number (λ p stock. part_committed p secure stock) (stock_by c m)
  stock_committed has orderly found folded =
      let r = received_text q session secure in
      let s = m.books.folding.state in
      let now : receipt_by c (new_receipt r) ≡ receipt_from (part_by c q) secure = λ i. record { number = q.number; from = q.from; key = q.key; bytes = has.received i; secure = secure; answered = false; given = has.given i } in
      let state : durable_by c b.folding.state ≡ D.with_receipt (receipt_from (part_by c q) secure) (durable_by c s) =
      ap (durable_by c) folded ∙ receipt_mirrored c r s ∙ ap (λ (x : N.ReceiptOf B). D.with_receipt x (durable_by c s)) now in
      let parts : map (part_by c) (told_parts m.drawn (without_part q.number m.parts)) ≡ without (λ (x : N.MarkOf B). x.number == q.number) (map (part_by c) (told_parts m.drawn m.parts)) =
      ap (λ (b : Bool). map (part_by c) (if b then without_part q.number m.parts else [])) (orderly_left q.number m.drawn m.parts orderly)
      ∙ parts_left c q.number m.parts (orderly_true m.drawn m.parts orderly).0
      ∙ sym (ap (λ (b : Bool). without (λ (x : N.MarkOf B). x.number == q.number) (map (part_by c) (if b then m.parts else []))) orderly) in
      (λ i. record { state = state i; parts = parts i; staged = (stock_by c m).staged })
      ∙ sym (ap (λ (o : Option (N.MarkOf B)). by_some o (λ p stock. part_committed p secure stock) (stock_by c m)) found)
