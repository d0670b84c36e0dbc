-- Worlds whose files are alike tell the same.
use Rattle.std.proofs.Common.{◌≡◌, ℕ, ◌≤◌, List, [], ◌∷◌, ◌++◌, length, take, map, replicate, Option, Some, Bool, true, false, refl, sym, ◌∙◌, ap, arith}
use Rattle.std.specs.Prelude.{◌&&◌, if◌then◌else◌}
use Rattle.std.specs.List.{AllByRecursion}
use Rattle.std.proofs.Math.Seq.{take-append_seam}
use Rattle.std.proofs.lemmas.List.{take-append-le, length-take}
use Rattle.disk_model.specs.World as W
use Rattle.disk_model.specs.World.{World}
use Rattle.ledger_rec.specs.Fold.{State, is_among}
use Rattle.ledger_rec.specs.Items.{Entry, Receipt, PartMark}
use Rattle.node_model.specs.Items as N
use Rattle.node_store.specs.Contents.{entry_by, receipt_by, refusal_of, mark_by, durable_by}
use Rattle.node_store.specs.Names.{in_name, out_name}
use Rattle.node_model.specs.StoreStates.{shelf_of}
use Rattle.node_store.specs.Stored.{Memory, front_of, told_in, stored_in}
use Rattle.node_store.specs.Worlds.{bytes_of, or_else, gift_of, is_absent, gift_told, outside_in, HasFront, HasFiles}
use Rattle.node_store.proofs.Alike.{AreAlike, SameFront, takes_alike}

-- a front that is there is taken as it is
pub front_there : (n : ℕ) (b : List ℕ) → n ≤ length b → front_of n b ≡ take n b
front_there n b le = take-append-le n b (replicate n 0) le

pub front_whole : (n : ℕ) (b : List ℕ) → length b ≡ n → front_of n b ≡ b
front_whole n b len = ap (λ (i : ℕ). take i (b ++ replicate n 0)) (sym len) ∙ take-append_seam b (replicate n 0)

module _ (given : List ℕ) (d c : World) where
  entry_told : (e : Entry) → (e.live ≡ true → c.own (out_name e.number) ≡ d.own (out_name e.number)) → entry_by (told_in c given) e ≡ entry_by (told_in d given) e
  entry_told e same = ap (λ (b : N.Body). record (entry_by (told_in d given) e) { body = b }) (go e.live same)
    where
      go : (b : Bool) → (b ≡ true → c.own (out_name e.number) ≡ d.own (out_name e.number))
          → (if b then N.Live (front_of e.key.size (bytes_of (c.own (out_name e.number)))) else N.Done) ≡ (if b then N.Live (front_of e.key.size (bytes_of (d.own (out_name e.number)))) else N.Done)
      go true now = ap (λ (f : Option (List ℕ)). N.Live (front_of e.key.size (bytes_of f))) (now refl)
      go false now = refl

  pub entries_told : (es : List Entry) → AllByRecursion (λ (e : Entry). e.live ≡ true → c.own (out_name e.number) ≡ d.own (out_name e.number)) es → map (entry_by (told_in c given)) es ≡ map (entry_by (told_in d given)) es
  entries_told [] same = refl
  entries_told (e ∷ es) same = λ i. entry_told e same.0 i ∷ entries_told es same.1 i

  receipts_told : c.gifts ≡ d.gifts → (rs : List Receipt) → AllByRecursion (λ (r : Receipt). c.own (in_name r.number) ≡ d.own (in_name r.number)) rs → map (receipt_by (told_in c given)) rs ≡ map (receipt_by (told_in d given)) rs
  receipts_told gifts [] same = refl
  receipts_told gifts (r ∷ rs) same = λ i.
      record { number = r.number; from = r.from; key = r.key; bytes = if is_among r.number given then or_else (same.0 i) (gift_of (in_name r.number) r.key.size (gifts i)) else Some (front_of r.key.size (bytes_of (same.0 i))); secure = r.secure; answered = r.answered; given = is_absent (same.0 i) && is_among r.number given }
      ∷ receipts_told gifts rs same.1 i

  mark_told : (m : PartMark) → HasFront (in_name m.number) m.len d → SameFront (in_name m.number) m.len d c → mark_by (told_in c given) m ≡ mark_by (told_in d given) m
  mark_told m front same =
      let new = same front.0 front.1 front.2 in
      let long : m.len ≤ length new.0 = omega (arith, ap length new.2, length-take m.len new.0, length-take m.len front.0, front.2) in
      ap (λ (b : List ℕ). record (mark_by (told_in d given) m) { bytes = b })
      (ap (λ (f : Option (List ℕ)). front_of m.len (bytes_of f)) new.1 ∙ front_there m.len new.0 long ∙ new.2
      ∙ sym (front_there m.len front.0 front.2) ∙ sym (ap (λ (f : Option (List ℕ)). front_of m.len (bytes_of f)) front.1))

  pub marks_told : (ms : List PartMark) → AllByRecursion (λ (m : PartMark). HasFront (in_name m.number) m.len d) ms → AllByRecursion (λ (m : PartMark). SameFront (in_name m.number) m.len d c) ms → map (mark_by (told_in c given)) ms ≡ map (mark_by (told_in d given)) ms
  marks_told [] fronts same = refl
  marks_told (m ∷ ms) fronts same = λ i. mark_told m fronts.0 same.0 i ∷ marks_told ms fronts.1 same.1 i

  pub durable_told : (s : State) → HasFiles s d → AreAlike s d c → durable_by (told_in c given) s ≡ durable_by (told_in d given) s
  durable_told s has a = λ i. record {
    queue = entries_told s.queue a.live i;
    inbox = receipts_told a.gifts s.inbox a.received i;
    refused = map refusal_of s.refused;
    marks = marks_told s.marks has.marked a.marked i;
  }

-- and so the same shelf is told
pub shelf_told : (m : Memory) (d c : World) → HasFiles m.books.folding.state d → AreAlike m.books.folding.state d c → shelf_of (stored_in c m) ≡ shelf_of (stored_in d m)
shelf_told m d c has a =
    let state = durable_told m.given d c m.books.folding.state has a in
    let takes = takes_alike d c a.takes in
    let outside = ap (λ (f : List ℕ → Option W.OutFile). outside_in (record d { outside = f })) a.outside in
    λ i. record { state = state i; recorded = m.books.folding.state.takes; takes = takes i; outside = outside i; gifts = map gift_told (a.gifts i) }
