-- Which received files are to be given, and which comes next in a round by receipts (own).
use Rattle.std.specs.Prelude.{◌≡◌, ℕ, ◌-◌, ◌==◌, ◌≤◌, Bool, true, not, ◌&&◌, ◌||◌, nat_lt, List, Option, Some, None, if◌then◌else◌}
use Rattle.file_index.specs.Sets.{IsAbove}
use Rattle.ledger_rec.specs.Fold.{is_among, is_request}
use Rattle.ledger_rec.specs.Items.{Receipt}
use Rattle.node_model.specs.Items.{ReceiptOf}
use Rattle.node_model.specs.Lists.{Member}
use Rattle.node_model.specs.SendRows.{NextGiven, may_go}
use Rattle.node_store.specs.Stored.{has_receipt}

-- a receipt with that number stands, and its file wasn't given
abbrev pub is_kept : List ℕ → List Receipt → ℕ → Bool
is_kept given inbox number = has_receipt number inbox && not (is_among number given)

-- it is no request, or was answered
abbrev pub is_ready : Receipt → Bool
is_ready r = not (is_request r.key.name) || r.answered

-- it passes the test, and its file wasn't given
abbrev pub is_left : (Receipt → Bool) → List ℕ → Receipt → Bool
is_left test given r = test r && not (is_among r.number given)

-- its file may be given, and wasn't
abbrev pub is_due : List ℕ → Receipt → Bool
is_due given r = is_left is_ready given r

-- above that number, or below it, where there is one
abbrev pub is_above : Option ℕ → ℕ → Bool
is_above None n = true
is_above (Some at) n = nat_lt at n

abbrev pub is_below : Option ℕ → ℕ → Bool
is_below None n = true
is_below (Some least) n = nat_lt n least

-- the number before that one, if any
abbrev pub number_before : ℕ → Option ℕ
number_before n = if n == 0 then None else Some (n - 1)

-- the least receipt above that one that passes the test, and whose file wasn't given
pub record FirstLeft (test : Receipt → Bool) (given : List ℕ) (inbox : List Receipt) (after : Option ℕ) (number : ℕ) : Type 0 where
  pub receipt : Receipt
  pub there : Member receipt inbox
  pub is : receipt.number ≡ number
  pub due : is_left test given receipt ≡ true
  pub above : IsAbove after number
  pub least : (r : Receipt) → Member r inbox → is_left test given r ≡ true → IsAbove after r.number → number ≤ r.number

abbrev pub NextLeft : (Receipt → Bool) → List ℕ → List Receipt → Option ℕ → Option ℕ → Type 0
NextLeft test given inbox after None = (r : Receipt) → Member r inbox → is_left test given r ≡ true → IsAbove after r.number → ⊥
NextLeft test given inbox after (Some number) = FirstLeft test given inbox after number

-- the next file that may go, in a round by receipts behind that number
abbrev pub NextToGive : ℕ → List (ReceiptOf ℕ) → Option ℕ → Type 0
NextToGive last inbox None = (r : ReceiptOf ℕ) → Member r inbox → may_go r ≡ true → ⊥
NextToGive last inbox (Some number) = NextGiven number last inbox
