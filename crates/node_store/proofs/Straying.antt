-- Which own files belong to nothing.
use Rattle.std.proofs.Common.{◌≡◌, ◌≢◌, ℕ, ◌<◌, ◌^◌, ◌==◌, ◌&&◌, ◌||◌, not, List, [], ◌∷◌, map, Bool, true, false, refl, sym, ◌∙◌, subst}
use Rattle.std.specs.Prelude.{IsTrue}
use Rattle.std.specs.List.{list_any}
use Rattle.std.proofs.lemmas.Bool.Decides.{Decides-eqb}
use Rattle.ledger_rec.specs.Items.{entry, receipt, part_mark}
use Rattle.ledger_rec.specs.declared.items.InboxItem.{InboxItem}
use Rattle.ledger_rec.specs.declared.items.MarkItem.{MarkItem}
use Rattle.ledger_rec.specs.declared.items.QueueItem.{QueueItem}
use Rattle.node_model.proofs.Lists.{off}
use Rattle.node_store.specs.Names.{in_name, out_name}
use Rattle.node_store.specs.Strays.{IsUnqueued, IsUnmarked, IsUnreceived, IsStrayOut, IsStrayIn}
use Rattle.node_store.proofs.NameLaws.{one_in_name, one_out_name}

or_none : (a b : Bool) → a || b ≡ false → (a ≡ false) × (b ≡ false)
or_none true b e = off e
or_none false b e = (refl, e)

none_or : (a b : Bool) → a ≡ false → b ≡ false → a || b ≡ false
none_or true b e f = off e
none_or false b e f = f

not_is : (b : Bool) → not b ≡ true → b ≡ false
not_is true e = off (sym e)
not_is false e = refl

is_not : (b : Bool) → b ≡ false → not b ≡ true
is_not true e = off e
is_not false e = refl

differs : (k n : ℕ) → (k == n) ≡ false → k ≢ n
differs k n e same = off (sym ((Decides-eqb k n).1 same) ∙ e)

apart : (k n : ℕ) → k ≢ n → (k == n) ≡ false
apart k n other = go (k == n) refl
  where
    go : (b : Bool) → (k == n) ≡ b → (k == n) ≡ false
    go true e = absurd (other ((Decides-eqb k n).0 e))
    go false e = e

-- live entries

unqueued_one : (live : Bool) (k n : ℕ) → live && k == n ≡ false → live ≡ true → k ≢ n
unqueued_one true k n e is = differs k n e
unqueued_one false k n e is = off (sym is)

one_unqueued : (live : Bool) (k n : ℕ) → (live ≡ true → k ≢ n) → live && k == n ≡ false
one_unqueued true k n other = apart k n (other refl)
one_unqueued false k n other = refl

none_queued : (n : ℕ) (qs : List QueueItem) → list_any (λ (e : QueueItem). e.live && e.number == n) qs ≡ false → IsUnqueued n (map entry qs)
none_queued n [] e = tt
none_queued n (q ∷ qs) e = let h = or_none (q.live && q.number == n) (list_any (λ (x : QueueItem). x.live && x.number == n) qs) e in (unqueued_one q.live q.number n h.0, none_queued n qs h.1)

queued_none : (n : ℕ) (qs : List QueueItem) → IsUnqueued n (map entry qs) → list_any (λ (e : QueueItem). e.live && e.number == n) qs ≡ false
queued_none n [] all = refl
queued_none n (q ∷ qs) all = none_or (q.live && q.number == n) (list_any (λ (x : QueueItem). x.live && x.number == n) qs) (one_unqueued q.live q.number n all.0) (queued_none n qs all.1)

-- marks and receipts

none_marked : (n : ℕ) (ms : List MarkItem) → list_any (λ (m : MarkItem). m.part == n) ms ≡ false → IsUnmarked n (map part_mark ms)
none_marked n [] e = tt
none_marked n (m ∷ ms) e = let h = or_none (m.part == n) (list_any (λ (x : MarkItem). x.part == n) ms) e in (differs m.part n h.0, none_marked n ms h.1)

marked_none : (n : ℕ) (ms : List MarkItem) → IsUnmarked n (map part_mark ms) → list_any (λ (m : MarkItem). m.part == n) ms ≡ false
marked_none n [] all = refl
marked_none n (m ∷ ms) all = none_or (m.part == n) (list_any (λ (x : MarkItem). x.part == n) ms) (apart m.part n all.0) (marked_none n ms all.1)

none_received : (n : ℕ) (rs : List InboxItem) → list_any (λ (r : InboxItem). r.receipt == n) rs ≡ false → IsUnreceived n (map receipt rs)
none_received n [] e = tt
none_received n (r ∷ rs) e = let h = or_none (r.receipt == n) (list_any (λ (x : InboxItem). x.receipt == n) rs) e in (differs r.receipt n h.0, none_received n rs h.1)

received_none : (n : ℕ) (rs : List InboxItem) → IsUnreceived n (map receipt rs) → list_any (λ (r : InboxItem). r.receipt == n) rs ≡ false
received_none n [] all = refl
received_none n (r ∷ rs) all = none_or (r.receipt == n) (list_any (λ (x : InboxItem). x.receipt == n) rs) (apart r.receipt n all.0) (received_none n rs all.1)

-- the tests say what they test

pub stray_out : (name : List ℕ) (n : ℕ) (queued : Bool) (qs : List QueueItem) → n < 2 ^ 32 → name ≡ out_name n → queued ≡ list_any (λ (e : QueueItem). e.live && e.number == n) qs
    → (IsTrue (not queued) → IsStrayOut (map entry qs) name) × (IsStrayOut (map entry qs) name → IsTrue (not queued))
stray_out name n queued qs small named is = (
  λ none. record { number = n; four_bytes = small; named = named; unqueued = none_queued n qs (sym is ∙ not_is queued none) },
  λ stray.
      let same : stray.number ≡ n = one_out_name stray.number n (sym stray.named ∙ named) in
      is_not queued (is ∙ queued_none n qs (subst (λ (k : ℕ). IsUnqueued k (map entry qs)) same stray.unqueued)),
)

module _ (name : List ℕ) (n : ℕ) (marked : Bool) (ms : List MarkItem) (rs : List InboxItem) (named : name ≡ in_name n) (is : marked ≡ list_any (λ (m : MarkItem). m.part == n) ms) where
  pub stray_in : (received : Bool) → n < 2 ^ 32 → not marked ≡ true → received ≡ list_any (λ (r : InboxItem). r.receipt == n) rs
      → (IsTrue (not received) → IsStrayIn (map part_mark ms) (map receipt rs) name) × (IsStrayIn (map part_mark ms) (map receipt rs) name → IsTrue (not received))
  stray_in received small unmarked there = (
    λ none. record { number = n; four_bytes = small; named = named; unmarked = none_marked n ms (sym is ∙ not_is marked unmarked); unreceived = none_received n rs (sym there ∙ not_is received none) },
    λ stray.
        let same : stray.number ≡ n = one_in_name stray.number n (sym stray.named ∙ named) in
        is_not received (there ∙ received_none n rs (subst (λ (k : ℕ). IsUnreceived k (map receipt rs)) same stray.unreceived)),
  )

  pub no_stray_in : not marked ≡ false → (IsTrue (not marked) → IsStrayIn (map part_mark ms) (map receipt rs) name) × (IsStrayIn (map part_mark ms) (map receipt rs) name → IsTrue (not marked))
  no_stray_in there = (
    λ none. off (sym none ∙ there),
    λ stray.
        let same : stray.number ≡ n = one_in_name stray.number n (sym stray.named ∙ named) in
        is_not marked (is ∙ marked_none n ms (subst (λ (k : ℕ). IsUnmarked k (map part_mark ms)) same stray.unmarked)),
  )
