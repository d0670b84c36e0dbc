-- The key of an entry with a number.
use Rattle.std.proofs.Common.{◌≡◌, ℕ, ◌==◌, List, map, Some, refl, sym, ◌∙◌, ap, subst}
use Rattle.std.specs.Prelude.{IsSome, find}
use Rattle.ftn_addr.specs.Key.{key_of}
use Rattle.ftn_addr.specs.Limits.{IsKey}
use Rattle.ledger_rec.specs.Fold.{State}
use Rattle.ledger_rec.specs.Items.{Entry, entry}
use Rattle.ledger_rec.specs.Payloads.{fold_of}
use Rattle.ledger_rec.specs.declared.items.QueueItem.{QueueItem}
use Rattle.node_model.specs.Items as N
use Rattle.node_model.specs.Lists.{Member}
use Rattle.node_model.specs.StoreWords.{HasEntry, KeyOf}
use Rattle.node_model.proofs.Lists.{Each-member}
use Rattle.node_store.specs.Contents.{Contents, entry_by}
use Rattle.node_store.proofs.Found.{seen_from, seen_there, is_found, found_is}
use Rattle.node_store.proofs.Listed.{IsListed, listed_fold}

module _ (number : ℕ) (items : List QueueItem) (queue : List Entry) (x : QueueItem) (same : map entry items ≡ queue) (found : find (λ (e : QueueItem). e.number == number) items ≡ Some x) where
  there : Member (entry x) queue
  there = subst (Member (entry x)) same (seen_there entry x items (found_is (λ (e : QueueItem). e.number) number x items found).0)

-- where there is one, one is found
pub entry_there : (c : Contents ℕ) (number : ℕ) (items : List QueueItem) (queue : List Entry) → map entry items ≡ queue → HasEntry number (map (entry_by c) queue) → IsSome (find (λ (e : QueueItem). e.number == number) items)
entry_there c number items queue same has =
    let e = seen_from (entry_by c) has.0 queue has.1 in
    let x = seen_from entry e.0 items (subst (Member e.0) (sym same) e.1) in
    let f = is_found (λ (i : QueueItem). i.number) number x.0 items x.1 (sym (ap (λ (i : Entry). i.number) x.2) ∙ sym (ap (λ (i : N.EntryOf ℕ). i.number) e.2) ∙ has.2) in
    subst IsSome (sym f.1) refl

pub key_there : (c : Contents ℕ) (number : ℕ) (items : List QueueItem) (queue : List Entry) (x : QueueItem) → map entry items ≡ queue → find (λ (e : QueueItem). e.number == number) items ≡ Some x → KeyOf number (key_of x.key) (map (entry_by c) queue)
key_there c number items queue x same found =
    (entry_by c (entry x), seen_there (entry_by c) (entry x) queue (there number items queue x same found), (found_is (λ (e : QueueItem). e.number) number x items found).1, refl)

pub key_limits : (number : ℕ) (items : List QueueItem) (payloads : List (List ℕ)) (s : State) (x : QueueItem) → fold_of payloads ≡ Some s → map entry items ≡ s.queue → find (λ (e : QueueItem). e.number == number) items ≡ Some x → IsKey (key_of x.key)
key_limits number items payloads s x folds same found =
    (Each-member IsListed (entry x) s.queue (listed_fold payloads s folds) (there number items s.queue x same found)).key
