-- Which received files are looked for, and the next request of a sender that waits for its answer (own).
use Rattle.std.specs.Prelude.{◌≡◌, ℕ, ◌≤◌, Bool, true, not, ◌&&◌, List, Option, Some, None}
use Rattle.file_index.specs.Sets.{IsAbove}
use Rattle.ftn_addr.specs.Address.{Address, address, same_address}
use Rattle.ledger_rec.specs.Fold as F
use Rattle.ledger_rec.specs.Items.{Receipt}
use Rattle.node_model.specs.Items.{ReceiptOf}
use Rattle.node_model.specs.Lists.{Member}
use Rattle.node_model.specs.SendRows.{is_request}
use Rattle.node_store.specs.Giving.{is_ready}
use Rattle.node_store.specs.declared.sought.Sought.{Sought}
use Rattle.node_store.specs.declared.sought.Sought.TheVariants.{ToGive, RequestsOf}

-- a request of that sender that wasn't answered
abbrev pub is_asked_by : Address → Receipt → Bool
is_asked_by from r = same_address from r.from && (F.is_request r.key.name && not r.answered)

abbrev pub is_sought : Sought → Receipt → Bool
is_sought ToGive r = is_ready r
is_sought (RequestsOf from) r = is_asked_by (address from.now) r

-- a request of that sender that waits for its answer: it was neither answered nor given
abbrev pub waits_for_answer : Address → ReceiptOf ℕ → Bool
waits_for_answer from r = (same_address from r.from && (is_request r.key && not r.answered)) && not r.given

-- the request of that sender that waits under the least receipt above that one; its bytes are there
pub record FirstWaiting (from : Address) (inbox : List (ReceiptOf ℕ)) (after : Option ℕ) (number : ℕ) : Type 0 where
  pub receipt : ReceiptOf ℕ
  pub there : Member receipt inbox
  pub is : receipt.number ≡ number
  pub waits : waits_for_answer from receipt ≡ true
  pub some : receipt.bytes ≡ Some receipt.key.size
  pub above : IsAbove after number
  pub least : (r : ReceiptOf ℕ) → Member r inbox → waits_for_answer from r ≡ true → IsAbove after r.number → number ≤ r.number

abbrev pub NextWaiting : Address → List (ReceiptOf ℕ) → Option ℕ → Option ℕ → Type 0
NextWaiting from inbox after None = (r : ReceiptOf ℕ) → Member r inbox → waits_for_answer from r ≡ true → IsAbove after r.number → ⊥
NextWaiting from inbox after (Some number) = FirstWaiting from inbox after number
