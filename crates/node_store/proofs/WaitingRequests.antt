-- The next request that waits for its answer, as the store tells it.
use Rattle.std.proofs.Common.{◌≡◌, ℕ, ◌≤◌, Bool, true, false, not, ◌&&◌, if◌then◌else◌, List, map, length, Option, Some, None, option_map, refl, sym, ◌∙◌, ap, subst}
use Rattle.disk_model.specs.World.{World}
use Rattle.file_index.specs.Sets.{IsAbove}
use Rattle.ftn_addr.specs.Address.{Address, same_address}
use Rattle.ledger_rec.specs.Fold.{is_among}
use Rattle.ledger_rec.specs.Items.{Receipt}
use Rattle.node_model.specs.Items.{ReceiptOf}
use Rattle.node_model.specs.Lists.{Member}
use Rattle.node_model.proofs.Lists.{and_true}
use Rattle.node_store.specs.Contents.{Contents, receipt_by}
use Rattle.node_store.specs.Giving.{NextLeft, is_left}
use Rattle.node_store.specs.Names.{in_name}
use Rattle.node_store.specs.Seeking.{NextWaiting, is_asked_by, waits_for_answer}
use Rattle.node_store.specs.Stored.{sizes_in}
use Rattle.node_store.specs.Worlds.{gift_of, or_else}
use Rattle.node_store.proofs.Found.{seen_from, seen_there}
use Rattle.node_store.proofs.GivenFiles.{and_false}
use Rattle.node_store.proofs.Requests.{request_same}

-- what wasn't given has its bytes
pub ungiven_whole : (tells : Bool) (w : World) (given : List ℕ) (number size : ℕ) → is_among number given ≡ false → (sizes_in tells w given).received number size ≡ Some size
ungiven_whole tells w given number size is =
    let lost = option_map length (or_else (w.own (in_name number)) (gift_of (in_name number) size w.gifts)) in
    ap (λ (b : Bool). if tells && b then lost else Some size) is ∙ ap (λ (b : Bool). if b then lost else Some size) (and_false tells)

isnt : (b : Bool) → not b ≡ true → b ≡ false
isnt false is = refl
isnt true is = absurd (cc)

module _ (c : Contents ℕ) (given : List ℕ) (same : c.given ≡ (λ n. is_among n given)) (from : Address) where
  waits_is : (r : Receipt) → waits_for_answer from (receipt_by c r) ≡ is_left (is_asked_by from) given r
  waits_is r =
      ap (λ (b : Bool). (same_address from r.from && (b && not r.answered)) && not (c.given r.number)) (request_same r.key.name)
      ∙ ap (λ (f : ℕ → Bool). is_asked_by from r && not (f r.number)) same

  asked : (r : Receipt) (x : ReceiptOf ℕ) → x ≡ receipt_by c r → waits_for_answer from x ≡ true → is_left (is_asked_by from) given r ≡ true
  asked r x is waits = sym (waits_is r) ∙ (ap (waits_for_answer from) (sym is) ∙ waits)

  pub next_waiting : (inbox : List Receipt) (after next : Option ℕ) → ((number size : ℕ) → is_among number given ≡ false → c.received number size ≡ Some size) → NextLeft (is_asked_by from) given inbox after next → NextWaiting from (map (receipt_by c) inbox) after next
  next_waiting inbox after None some none = λ r there waits above.
      let s = seen_from (receipt_by c) r inbox there in
      none s.0 s.1 (asked s.0 r s.2 waits) (subst (λ (x : ReceiptOf ℕ). IsAbove after x.number) s.2 above)
  next_waiting inbox after (Some number) some h = record {
    receipt = receipt_by c h.receipt;
    there = seen_there (receipt_by c) h.receipt inbox h.there;
    is = h.is;
    waits = waits_is h.receipt ∙ h.due;
    some = some h.receipt.number h.receipt.key.size (isnt (is_among h.receipt.number given) (and_true (is_asked_by from h.receipt) _ h.due).1);
    above = h.above;
    least = λ r there waits above.
        let s = seen_from (receipt_by c) r inbox there in
        subst (λ (x : ReceiptOf ℕ). number ≤ x.number) (sym s.2) (h.least s.0 s.1 (asked s.0 r s.2 waits) (subst (λ (x : ReceiptOf ℕ). IsAbove after x.number) s.2 above));
  }
