-- Data comes for a held file: what the store keeps then, with the bytes and without them.
use Rattle.std.proofs.Common.{◌≡◌, ◌≢◌, ℕ, ◌+◌, ◌<◌, nat_le, Bool, true, false, cond, ◌==◌, List, [], ◌++◌, Some, length, refl, sym, ◌∙◌, ap, subst, arith, length-append}
use borrow.Author.Tests.{leb-true}
use Rattle.std.proofs.lemmas.Bool.Decides.{Decides-ltb}
use Rattle.ftn_addr.specs.Address.{Address}
use Rattle.ftn_addr.specs.Files.{is_same}
use Rattle.ftn_addr.specs.Key.{Key}
use Rattle.node_model.specs.Items.{Mark, MarkOf, Receipt}
use Rattle.node_model.specs.Lists.{Member, Each}
use Rattle.node_model.specs.Durable.{Durable, marked}
use Rattle.node_model.specs.Node.{Hold, hold_in}
use Rattle.node_model.specs.Rows.{stride, at_stride, grown}
use Rattle.node_model.specs.Stocks.{Sizes, sizes, part_put, put_part, body_of, bytes_of_part}
use Rattle.node_model.specs.Stores.{Stored, StoreState, stored_after, with_bytes}
use Rattle.node_model.proofs.StockMaps.{part_put-map}
use Rattle.hub_core.specs.Hubs.{Taking, Sitting, HubState, HubFits, PartFits, sitting_at, hold_over}
use Rattle.hub_core.specs.HubLaws.{HeldTold, held_part}
use Rattle.hub_core.specs.Steps.{part_under, more_taking, reaches, marked_if, put_marked, mark_len}
use Rattle.hub_core.proofs.Ends.{marked_by}
use Rattle.hub_core.proofs.Nodes.{session_is}
use Rattle.hub_core.proofs.Putting.{own_put}
use Rattle.hub_core.proofs.Telling.{mark_len_is}

abbrev pub put_stored : ℕ → List ℕ → ℕ → Stored → Stored
put_stored number bytes seat a = stored_after (part_put number (λ b. b ++ bytes)) seat [] a

-- two seats hold different parts
pub parts_apart : (a : Stored) (s : StoreState) (h : HubState) (j k : ℕ) (x y : Sitting) (t u : Taking) → HubFits a s h → j ≢ k → sitting_at h j ≡ Some x → x.hold ≡ Some t → sitting_at h k ≡ Some y → y.hold ≡ Some u → t.part ≢ u.part
parts_apart a s h j k x y t u f apart sx tx sy uy = λ same.
    apart (f.sound.parts.held_apart j k _ _ (ap hold_in (session_is a s h j x sx) ∙ ap (hold_over a.stock x.first) tx) (ap hold_in (session_is a s h k y sy) ∙ ap (hold_over a.stock y.first) uy) same)

-- the held part, with more bytes
pub put_told : (a : Stored) (from : Address) (t : Taking) (bytes : List ℕ) (seat : ℕ) → HeldTold a from t → HeldTold (put_stored t.part bytes seat a) from (more_taking (length bytes) t)
put_told a from t bytes seat told =
    let own = own_put t.part (λ (b : List ℕ). b ++ bytes) a.stock.parts (held_part a from t) told.is in
    let body : body_of t.part (put_stored t.part bytes seat a).stock ≡ body_of t.part a.stock ++ bytes = ap bytes_of_part own in
    record {
      is = own ∙ ap (λ (b : List ℕ). Some (record { number = t.part; from = from; key = t.key; bytes = b })) (sym body);
      len = ap length body ∙ (length-append (body_of t.part a.stock) bytes ∙ ap (λ (n : ℕ). n + length bytes) told.len);
    }

pub put_body : (a : Stored) (from : Address) (t : Taking) (bytes : List ℕ) (seat : ℕ) → HeldTold a from t → body_of t.part (put_stored t.part bytes seat a).stock ≡ body_of t.part a.stock ++ bytes
put_body a from t bytes seat told = ap bytes_of_part (own_put t.part (λ (b : List ℕ). b ++ bytes) a.stock.parts (held_part a from t) told.is)

pub put_sizes : (a : Stored) (s : StoreState) (number : ℕ) (bytes : List ℕ) → s.stock ≡ sizes a.stock → (with_bytes number bytes s).stock ≡ sizes (put_stored number bytes s.seat a).stock
put_sizes a s number bytes is =
    ap (λ (st : Sizes). part_put number (λ n. n + length bytes) st) is
    ∙ sym (part_put-map length number (λ b. b ++ bytes) (λ n. n + length bytes) (λ b. length-append b bytes) a.stock)

-- At a stride.

stride_some : (size : ℕ) → 0 < stride size
stride_some size = omega arith

pub put_marked_is : (from : Address) (t : Taking) (bytes : List ℕ) (s : StoreState) → put_marked from t bytes s ≡ marked_by (reaches from (more_taking (length bytes) t) (with_bytes t.part bytes s)) (part_under from (more_taking (length bytes) t)) (with_bytes t.part bytes s)
put_marked_is from t bytes s = go (reaches from t' s') refl
  where
    t' : Taking
    t' = more_taking (length bytes) t

    s' : StoreState
    s' = with_bytes t.part bytes s

    go : (b : Bool) → reaches from (more_taking (length bytes) t) (with_bytes t.part bytes s) ≡ b → marked_if b (part_under from (more_taking (length bytes) t)) (with_bytes t.part bytes s) ≡ marked_by b (part_under from (more_taking (length bytes) t)) (with_bytes t.part bytes s)
    go false is = refl
    go true is =
        let far = leb-true (mark_len from t.key (with_bytes t.part bytes s) + stride t.key.size) (t.have + length bytes) is in
        let some = stride_some t.key.size in
        let less : mark_len from t.key (with_bytes t.part bytes s) < t.have + length bytes = omega (arith, far, some) in
        ap (λ (b : Bool). marked_by b (part_under from (more_taking (length bytes) t)) (with_bytes t.part bytes s)) ((Decides-ltb (mark_len from t.key (with_bytes t.part bytes s)) (t.have + length bytes)).1 less)

-- the store is at the stride where the node is
pub stride_is : (a : Stored) (s : StoreState) (from : Address) (t : Taking) (bytes : List ℕ) (h : Hold) → s.stock ≡ sizes a.stock → HeldTold a from t → h.from ≡ from → h.key ≡ t.key → h.bytes ≡ body_of t.part a.stock → reaches from (more_taking (length bytes) t) (with_bytes t.part bytes s) ≡ at_stride (grown h bytes) a.stock.state
stride_is a s from t bytes h is told f k b =
    let len : t.have + length bytes ≡ length (h.bytes ++ bytes) = ap (λ (n : ℕ). n + length bytes) (sym told.len ∙ ap length (sym b)) ∙ sym (length-append h.bytes bytes) in
    let mark : mark_len from t.key s ≡ length (marked h.from h.key a.stock.state) = mark_len_is a s from t.key is ∙ ap (λ (q : Address × Key). length (marked q.0 q.1 a.stock.state)) (λ i. (sym f i, sym k i)) in
    λ i. nat_le (mark i + stride (sym k i).size) (len i)

-- Open parts that stay what they are.

put_same : (number : ℕ) (n : ℕ) (q : MarkOf ℕ) → ((put_part number (λ m. m + n) q).number ≡ q.number) × ((put_part number (λ m. m + n) q).from ≡ q.from) × ((put_part number (λ m. m + n) q).key ≡ q.key)
put_same number n q = go (q.number == number)
  where
    go : (b : Bool) → ((cond b (record q { bytes = q.bytes + n }) q).number ≡ q.number) × ((cond b (record q { bytes = q.bytes + n }) q).from ≡ q.from) × ((cond b (record q { bytes = q.bytes + n }) q).key ≡ q.key)
    go true = (refl, refl, refl)
    go false = (refl, refl, refl)

-- what fits a part fits one of its number and file
pub fits_same : (d : Durable) (q p : MarkOf ℕ) → p.number ≡ q.number → p.from ≡ q.from → p.key ≡ q.key → PartFits d q → PartFits d p
fits_same d q p number from key f = record {
  marks = subst (λ (w : ℕ × (Address × Key)). Each (λ (m : Mark). (m.number ≡ w.0 → is_same w.1.0 w.1.1 m.from m.key ≡ true) × (is_same w.1.0 w.1.1 m.from m.key ≡ true → m.number ≡ w.0)) d.marks) (λ i. (sym number i, (sym from i, sym key i))) f.marks;
  receipts = subst (λ (n : ℕ). Each (λ (r : Receipt). r.number ≢ n) d.inbox) (sym number) f.receipts;
}

-- a part of the stock with more bytes comes from one of before
pub record ComesFrom (s : StoreState) (p : MarkOf ℕ) : Type 0 where
  pub q : MarkOf ℕ
  pub there : Member q s.stock.parts
  pub number : p.number ≡ q.number
  pub from : p.from ≡ q.from
  pub key : p.key ≡ q.key

pub put_from : (s : StoreState) (number : ℕ) (bytes : List ℕ) (p : MarkOf ℕ) → Member p (with_bytes number bytes s).stock.parts → ComesFrom s p
put_from s number bytes p there =
    let w = Rattle.hub_core.proofs.Finding.map_member (put_part number (λ (m : ℕ). m + length bytes)) s.stock.parts p there in
    let e = put_same number (length bytes) w.0 in
    record { q = w.0; there = w.1; number = ap (λ (x : MarkOf ℕ). x.number) w.2 ∙ e.0; from = ap (λ (x : MarkOf ℕ). x.from) w.2 ∙ e.1; key = ap (λ (x : MarkOf ℕ). x.key) w.2 ∙ e.2 }
