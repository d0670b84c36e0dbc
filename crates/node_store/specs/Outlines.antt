-- What a store tells without the bytes is what it tells with them, but for the bytes.
use Rattle.std.proofs.Common.{◌≡◌, ℕ, zero, suc, List, [], ◌∷◌, ◌++◌, map, length, replicate, Option, Some, Bool, true, false, refl, sym, ◌∙◌, ap, arith, length-append}
use Rattle.std.specs.Prelude.{option_map, ◌&&◌, if◌then◌else◌}
use Rattle.std.proofs.lemmas.List.{length-take-le}
use Rattle.disk_model.specs.World.{World}
use Rattle.ledger_rec.specs.Fold.{State, is_among}
use Rattle.ledger_rec.specs.Items.{Entry, Receipt, PartMark}
use Rattle.node_model.specs.Durable.{body_map, entry_map, receipt_map, mark_map, durable_map}
use Rattle.node_model.specs.Items.{BodyOf, Live, Done, EntryOf, ReceiptOf, MarkOf}
use Rattle.node_model.specs.Stocks.{StagedOf, staged_map, stock_map, sizes}
use Rattle.node_store.specs.Contents.{Contents, entry_by, receipt_by, refusal_of, mark_by, durable_by}
use Rattle.node_store.specs.Names.{in_name, out_name}
use Rattle.node_store.specs.Stored.{Part, Put, Memory, front_of, told_in, sizes_in, told_parts, part_by, staged_by, stock_by}
use Rattle.node_store.specs.Worlds.{bytes_of, or_else, gift_of, is_absent}

length-zeros : (n : ℕ) → length {A = ℕ} (replicate n 0) ≡ n
length-zeros zero = refl
length-zeros (suc n) = ap suc (length-zeros n)

pub length-front : (n : ℕ) (b : List ℕ) → length (front_of n b) ≡ n
length-front n b = length-take-le n (b ++ replicate n 0) (omega (arith, length-append b (replicate n 0), length-zeros n))

-- contents, seen by a view of each
abbrev pub contents_map : {A B : Type 0} → (A → B) → Contents A → Contents B
contents_map f c =
    record { queued = λ n size. f (c.queued n size); received = λ n size. option_map f (c.received n size); front = λ n len. f (c.front n len); given = c.given }

module _ {A B : Type 0} (f : A → B) (c : Contents A) where
  entry_seen : (e : Entry) → entry_map f (entry_by c e) ≡ entry_by (contents_map f c) e
  entry_seen e = ap (λ (b : BodyOf B). record (entry_by (contents_map f c) e) { body = b }) (go e.live)
    where
      go : (b : Bool) → body_map f (if b then Live (c.queued e.number e.key.size) else Done) ≡ (if b then Live (f (c.queued e.number e.key.size)) else Done)
      go true = refl
      go false = refl

  entries_seen : (es : List Entry) → map (entry_map f) (map (entry_by c) es) ≡ map (entry_by (contents_map f c)) es
  entries_seen [] = refl
  entries_seen (e ∷ es) = ap (λ (x : EntryOf B). x ∷ map (entry_map f) (map (entry_by c) es)) (entry_seen e) ∙ ap (λ (l : List (EntryOf B)). entry_by (contents_map f c) e ∷ l) (entries_seen es)

  receipts_seen : (rs : List Receipt) → map (receipt_map f) (map (receipt_by c) rs) ≡ map (receipt_by (contents_map f c)) rs
  receipts_seen [] = refl
  receipts_seen (r ∷ rs) = ap (λ (l : List (ReceiptOf B)). receipt_by (contents_map f c) r ∷ l) (receipts_seen rs)

  marks_seen : (ms : List PartMark) → map (mark_map f) (map (mark_by c) ms) ≡ map (mark_by (contents_map f c)) ms
  marks_seen [] = refl
  marks_seen (m ∷ ms) = ap (λ (l : List (MarkOf B)). mark_by (contents_map f c) m ∷ l) (marks_seen ms)

  pub durable_seen : (s : State) → durable_map f (durable_by c s) ≡ durable_by (contents_map f c) s
  durable_seen s = λ i. record { queue = entries_seen s.queue i; inbox = receipts_seen s.inbox i; refused = map refusal_of s.refused; marks = marks_seen s.marks i }

  parts_seen : (ps : List Part) → map (mark_map f) (map (part_by c) ps) ≡ map (part_by (contents_map f c)) ps
  parts_seen [] = refl
  parts_seen (p ∷ ps) = ap (λ (l : List (MarkOf B)). part_by (contents_map f c) p ∷ l) (parts_seen ps)

  staged_seen : (ps : List Put) → map (staged_map f) (map (staged_by c) ps) ≡ map (staged_by (contents_map f c)) ps
  staged_seen [] = refl
  staged_seen (p ∷ ps) = ap (λ (l : List (StagedOf B)). staged_by (contents_map f c) p ∷ l) (staged_seen ps)

  pub stock_seen : (m : Memory) → stock_map f (stock_by c m) ≡ stock_by (contents_map f c) m
  stock_seen m = λ i. record { state = durable_seen m.books.folding.state i; parts = parts_seen (told_parts m.drawn m.parts) i; staged = staged_seen m.staged i }

-- the told bytes are as many as memory says
received_size : (b : Bool) (gift : Option (List ℕ)) (size : ℕ) (own : List ℕ) → option_map length (if b then gift else Some (front_of size own)) ≡ (if true && b then option_map length gift else Some size)
received_size true gift size own = refl
received_size false gift size own = ap Some (length-front size own)

pub told_sizes : (w : World) (given : List ℕ) → contents_map length (told_in w given) ≡ sizes_in true w given
told_sizes w given = λ i. record {
  queued = λ n size. length-front size (bytes_of (w.own (out_name n))) i;
  received = λ n size. received_size (is_among n given) (or_else (w.own (in_name n)) (gift_of (in_name n) size w.gifts)) size (bytes_of (w.own (in_name n))) i;
  front = λ n len. length-front len (bytes_of (w.own (in_name n))) i;
  given = λ n. is_absent (w.own (in_name n)) && is_among n given;
}

pub told_outline : (w : World) (m : Memory) → stock_by (sizes_in true w m.given) m ≡ sizes (stock_by (told_in w m.given) m)
told_outline w m = sym (stock_seen length (told_in w m.given) m ∙ ap (λ (c : Contents ℕ). stock_by c m) (told_sizes w m.given))
