-- What the invariant says of the laws.
use Rattle.std.proofs.Common.{◌≡◌, Bool, true, false, if◌then◌else◌, List, [], ◌∷◌, Option, Some, None, refl}
use Rattle.ftn_addr.specs.Address.{Address, same_address}
use Rattle.ftn_addr.specs.Files.{is_same}
use Rattle.node_model.specs.Lists.{Each, some_passes}
use Rattle.node_model.specs.Items.{Receipt}
use Rattle.world_pair.specs.World.{Finish, Place, addresses}
use Rattle.world_pair.specs.Law.{history, IsWhole, OneReceipt, FinishStands, Delivers, OneReceiptLaw, PairLaw}
use Rattle.node_model.specs.Receipts.{OnceEach}
use Rattle.node_model.specs.Sound.{Distinct, same_receipt}
use Rattle.node_model.proofs.Distinct.{each_none}
use Rattle.node_model.proofs.Lists.{Each-weaker, or_false, both_false}
use Rattle.world_pair.specs.Invariant.{Carries, FinishStood, ReceiptHolds}
use Rattle.world_pair.proofs.Runs.{run_keeps}

history_new : (from : Address) (r : Receipt) (rs : List Receipt) → some_passes (λ (q : Receipt). is_same r.from r.key q.from q.key) rs ≡ false → some_passes (λ (q : Receipt). is_same r.from r.key q.from q.key) (history from rs) ≡ false
history_new from r [] e = refl
history_new from r (q ∷ rs) e =
    let h = or_false (is_same r.from r.key q.from q.key) (some_passes (λ (x : Receipt). is_same r.from r.key x.from x.key) rs) e in
    go (same_address from q.from) h.0 (history_new from r rs h.1)
  where
    go : (b : Bool) → is_same r.from r.key q.from q.key ≡ false → some_passes (λ (x : Receipt). is_same r.from r.key x.from x.key) (history from rs) ≡ false → some_passes (λ (x : Receipt). is_same r.from r.key x.from x.key) (if b then q ∷ history from rs else history from rs) ≡ false
    go true this rest = both_false _ _ this rest
    go false this rest = rest

history_once : (from : Address) (rs : List Receipt) → Distinct same_receipt rs → Distinct same_receipt (history from rs)
history_once from [] h = tt
history_once from (r ∷ rs) h = go (same_address from r.from) (history_once from rs h.1)
  where
    go : (b : Bool) → Distinct same_receipt (history from rs) → Distinct same_receipt (if b then r ∷ history from rs else history from rs)
    go true rest = (history_new from r rs h.0, rest)
    go false rest = rest

history_each : (P : Receipt → Type 0) (from : Address) (rs : List Receipt) → Each P rs → Each P (history from rs)
history_each P from [] h = tt
history_each P from (r ∷ rs) h = go (same_address from r.from) (history_each P from rs h.1)
  where
    go : (b : Bool) → Each P (history from rs) → Each P (if b then r ∷ history from rs else history from rs)
    go true rest = (h.0, rest)
    go false rest = rest

-- receipts of which no two are the same
once_each : (rs : List Receipt) → Distinct same_receipt rs → OnceEach rs
once_each [] d = tt
once_each (r ∷ rs) d = (each_none (λ (q : Receipt). is_same r.from r.key q.from q.key) rs d.0, once_each rs d.1)

one_receipt : (X Y : Place) → Carries X Y → OneReceipt X Y
one_receipt X Y h =
    record {
      once = once_each (history X.first Y.node.state.inbox) (history_once X.first Y.node.state.inbox h.inbound.once);
      whole = history_each (IsWhole X Y) X.first Y.node.state.inbox (Each-weaker (ReceiptHolds X.queued (addresses Y) X.first) (IsWhole X Y) (λ r o. record { bytes = o.bytes; kept = o.kept; queued = o.queued }) Y.node.state.inbox h.inbound.items);
    }

pair : (X Y : Place) → Carries X Y → Delivers X Y
pair X Y h = record { settled = h.settled; finished = λ line. go (X.ends line).finish (Y.ends line).finish (h.lines line).finished }
  where
    go : (mine theirs : Option Finish) → FinishStood X.first Y.node.state mine → FinishStands mine theirs X Y
    go None theirs ok = tt
    go (Some f) None ok = tt
    go (Some f) (Some g) ok = λ no_skip _. ok no_skip

pub one_receipt_law-holds : OneReceiptLaw
one_receipt_law-holds n w v opens reached agree back = let h = run_keeps n w v opens reached agree back in (one_receipt v.x v.y h.out, one_receipt v.y v.x h.back)

pub pair_law-holds : PairLaw
pair_law-holds n w v opens reached agree back = let h = run_keeps n w v opens reached agree back in (pair v.x v.y h.out, pair v.y v.x h.back)
