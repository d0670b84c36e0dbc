-- What is known of a request that waits for its answer.
use Rattle.std.proofs.Common.{◌≡◌, ℕ, Bool, true, false, not, ◌&&◌, Option, Some, None, option_map, refl, sym, ap, subst}
use Rattle.ftn_addr.specs.Address.{Address, same_address}
use Rattle.ftn_addr.specs.Limits.{IsAddress}
use Rattle.hub_core.specs.Hubs.{HubState, IsReady, Sitting, sitting_at}
use Rattle.hub_core.specs.Opening.{shown}
use Rattle.node_model.specs.StoreWords.{IsOpenRequest}
use Rattle.node_model.specs.Stores.{IsKept, StoreStand, StoreState}
use Rattle.node_model.specs.SendRows.{is_request}
use Rattle.node_model.proofs.Lists.{and_true, some_inj}
use Rattle.node_store.specs.Seeking.{FirstWaiting}

isnt : (b : Bool) → not b ≡ true → b ≡ false
isnt false is = refl
isnt true is = absurd (cc)

module _ (from : Address) (s : StoreState) (after : Option ℕ) (number : ℕ) (w : FirstWaiting from s.stock.state.inbox after number) where
  asked : (same_address from w.receipt.from && (is_request w.receipt.key && not w.receipt.answered)) ≡ true
  asked = (and_true (same_address from w.receipt.from && (is_request w.receipt.key && not w.receipt.answered)) (not w.receipt.given) w.waits).0

  unanswered : (is_request w.receipt.key && not w.receipt.answered) ≡ true
  unanswered = (and_true (same_address from w.receipt.from) (is_request w.receipt.key && not w.receipt.answered) asked).1

  pub waiting_kept : IsKept number s
  waiting_kept = record {
    receipt = w.receipt;
    there = w.there;
    numbered = w.is;
    kept = isnt w.receipt.given (and_true (same_address from w.receipt.from && (is_request w.receipt.key && not w.receipt.answered)) (not w.receipt.given) w.waits).1;
    some = w.some;
  }

  pub waiting_open : IsOpenRequest (Some number) s.stock.state.inbox
  waiting_open =
      let both = and_true (is_request w.receipt.key) (not w.receipt.answered) unanswered in
      (w.receipt, w.there, w.is, both.0, isnt w.receipt.answered both.1)

-- the address of a session's peer is within its limits
pub peer_within : (w : StoreStand) (h : HubState) (seat : ℕ) (addr : Address) (moment : ℕ) → w.state.counts.broken ≡ None → IsReady w h seat → Some (addr, moment) ≡ option_map shown (sitting_at h seat) → IsAddress addr
peer_within w h seat addr moment whole ready is = go (sitting_at h seat) refl is
  where
    go : (o : Option Sitting) → sitting_at h seat ≡ o → Some (addr, moment) ≡ option_map shown o → IsAddress addr
    go None at is = absurd (cc)
    go (Some x) at is =
        let same : addr ≡ x.first = ap (λ (p : Address × ℕ). p.0) (some_inj is) in
        subst IsAddress (sym same) ((ready.fitted whole).fits.sittings seat x at).first
