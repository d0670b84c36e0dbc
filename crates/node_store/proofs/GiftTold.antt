-- What is told after a gift.
use Rattle.std.proofs.Common.{◌≡◌, ◌≢◌, inl, inr, ℕ, ◌==◌, ◌<◌, ◌^◌, List, [], ◌∷◌, ◌++◌, length, map, Option, Some, None, Bool, true, false, ◌&&◌, ◌||◌, refl, sym, ◌∙◌, ap, append-nil, add-zero}
use Rattle.std.specs.Prelude.{option_map, if◌then◌else◌}
use Rattle.std.specs.List.{AllByRecursion}
use Rattle.std.proofs.lemmas.Bool.{cases_eq}
use Rattle.std.proofs.lemmas.Bool.Decides.{Decides-eqb}
use Rattle.disk_model.specs.World.{World}
use Rattle.ledger_rec.specs.Fold.{State, is_among}
use Rattle.ledger_rec.specs.Items.{Receipt, PartMark}
use Rattle.node_model.specs.Durable as D
use Rattle.node_model.specs.Durable.{Durable, durable_map, receipt_map, given_receipt, all_given}
use Rattle.node_model.specs.Giving.{gift_made, given}
use Rattle.node_model.specs.Items as N
use Rattle.node_model.specs.Stocks.{sizes, on_state}
use Rattle.node_model.specs.StoreStates.{stored_after}
use Rattle.node_model.proofs.StockMaps.{on_state-map}
use Rattle.node_store.specs.Contents.{receipt_by, refusal_of, durable_by, with_given}
use Rattle.node_store.specs.Names.{in_name}
use Rattle.node_store.specs.Outlines.{told_outline}
use Rattle.node_store.specs.Stored.{Part, Put, Memory, front_of, told_in, sizes_in, told_parts, is_orderly, part_by, staged_by, stock_by, stored_in, state_of}
use Rattle.node_store.specs.Worlds.{bytes_of, or_else, gift_of, is_absent, HasFiles}
use Rattle.node_store.proofs.GiftWorld.{GaveAway, other_in, other_out, gone_in, was_in, gift_here, gift_other, takes_given, outside_given, gifts_given, live_same, marks_same, sized_here}
use Rattle.node_store.proofs.Mirrors.{eqb_apart, given_mirrored}
use Rattle.node_store.proofs.TellAlike.{front_whole, entries_told, marks_told}

-- one more among those that were given

pub among_here : (n k : ℕ) (ns : List ℕ) → k ≡ n → is_among k (ns ++ n ∷ []) ≡ true
among_here n k [] is = ap (λ (b : Bool). b || false) ((Decides-eqb n k).1 (sym is))
among_here n k (x ∷ xs) is = or_later (x == k) (is_among k (xs ++ n ∷ [])) (among_here n k xs is)
  where
    or_later : (a b : Bool) → b ≡ true → (a || b) ≡ true
    or_later true b e = refl
    or_later false b e = e

pub among_other : (n k : ℕ) (ns : List ℕ) → k ≢ n → is_among k (ns ++ n ∷ []) ≡ is_among k ns
among_other n k [] other = ap (λ (b : Bool). b || false) (eqb_apart n k (λ same. other (sym same)))
among_other n k (x ∷ xs) other = ap (λ (b : Bool). (x == k) || b) (among_other n k xs other)

-- the number of bytes of what is given
given_sized : (n : ℕ) (d : Durable) → durable_map length (D.with_given n d) ≡ D.with_given n (durable_map length d)
given_sized n d = ap (λ (l : List (N.ReceiptOf ℕ)). record (durable_map length d) { inbox = l }) (all d.inbox)
  where
    one : (r : N.Receipt) → receipt_map length (given_receipt n r) ≡ given_receipt n (receipt_map length r)
    one r = go (r.number == n)
      where
        go : (b : Bool) → receipt_map length (if b then record r { given = true } else r) ≡ (if b then record (receipt_map length r) { given = true } else receipt_map length r)
        go true = refl
        go false = refl

    all : (rs : List N.Receipt) → map (receipt_map length) (all_given n rs) ≡ all_given n (map (receipt_map length) rs)
    all [] = refl
    all (r ∷ rs) = λ i. one r i ∷ all rs i

-- of a disk that doesn't tell, the list alone counts
pub untold : (n : ℕ) (d c : World) (given : List ℕ) (s : State) → durable_by (sizes_in false c (given ++ n ∷ [])) s ≡ D.with_given n (durable_by (sizes_in false d given) s)
untold n d c given s =
    ap (λ (l : List (N.ReceiptOf ℕ)). record (durable_by (sizes_in false d given) s) { inbox = l }) (all s.inbox) ∙ given_mirrored (sizes_in false d given) n s
  where
    flag : (k : ℕ) → is_among k (given ++ n ∷ []) ≡ (if k == n then true else is_among k given)
    flag k = elim (cases_eq k n) [
      | inl same ↦ among_here n k given same ∙ sym (ap (λ (b : Bool). if b then true else is_among k given) ((Decides-eqb k n).1 same))
      | inr other ↦ among_other n k given other ∙ sym (ap (λ (b : Bool). if b then true else is_among k given) (eqb_apart k n other))
    ]

    all : (rs : List Receipt) → map (receipt_by (sizes_in false c (given ++ n ∷ []))) rs ≡ map (receipt_by (with_given n (sizes_in false d given))) rs
    all [] = refl
    all (r ∷ rs) = λ i. record { number = r.number; from = r.from; key = r.key; bytes = Some r.key.size; secure = r.secure; answered = r.answered; given = flag r.number i } ∷ all rs i

module _ (n : ℕ) (folder name : List ℕ) (time : ℕ) (bytes : List ℕ) (d c : World) (g : GaveAway n folder name time bytes d c) (given : List ℕ) (ungiven : is_among n given ≡ false) where
  -- receipts

  received : (k size : ℕ) → (k ≡ n → length bytes ≡ size)
      → (if is_among k (given ++ n ∷ []) then or_else (c.own (in_name k)) (gift_of (in_name k) size c.gifts) else Some (front_of size (bytes_of (c.own (in_name k)))))
      ≡ (if is_among k given then or_else (d.own (in_name k)) (gift_of (in_name k) size d.gifts) else Some (front_of size (bytes_of (d.own (in_name k)))))
  received k size long = elim (cases_eq k n) [
    | inl same ↦
        ap (λ (b : Bool). if b then or_else (c.own (in_name k)) (gift_of (in_name k) size c.gifts) else Some (front_of size (bytes_of (c.own (in_name k))))) (among_here n k given same)
        ∙ ap (λ (o : Option (List ℕ)). or_else o (gift_of (in_name k) size c.gifts)) (gone_in n folder name time bytes d c g k same)
        ∙ gift_here n folder name time bytes d c g k size same (long same)
        ∙ sym (
        ap (λ (b : Bool). if b then or_else (d.own (in_name k)) (gift_of (in_name k) size d.gifts) else Some (front_of size (bytes_of (d.own (in_name k))))) (ap (λ (i : ℕ). is_among i given) same ∙ ungiven)
        ∙ ap (λ (o : Option (List ℕ)). Some (front_of size (bytes_of o))) (was_in n folder name time bytes d c g k same)
        ∙ ap Some (front_whole size bytes (long same)))
    | inr other ↦
        let among = among_other n k given other in
        let own = other_in n folder name time bytes d c g k other in
        let gift = gift_other n folder name time bytes d c g k size other in
        λ i. if among i then or_else (own i) (gift i) else Some (front_of size (bytes_of (own i)))
  ]

  flag : (k : ℕ) → (is_absent (c.own (in_name k)) && is_among k (given ++ n ∷ [])) ≡ (if k == n then true else is_absent (d.own (in_name k)) && is_among k given)
  flag k = elim (cases_eq k n) [
    | inl same ↦
        (λ i. is_absent (gone_in n folder name time bytes d c g k same i) && among_here n k given same i)
        ∙ sym (ap (λ (b : Bool). if b then true else is_absent (d.own (in_name k)) && is_among k given) ((Decides-eqb k n).1 same))
    | inr other ↦
        (λ i. is_absent (other_in n folder name time bytes d c g k other i) && among_other n k given other i)
        ∙ sym (ap (λ (b : Bool). if b then true else is_absent (d.own (in_name k)) && is_among k given) (eqb_apart k n other))
  ]

  receipts : (rs : List Receipt) → AllByRecursion (λ (r : Receipt). r.number ≡ n → length bytes ≡ r.key.size) rs
      → map (receipt_by (told_in c (given ++ n ∷ []))) rs ≡ map (receipt_by (with_given n (told_in d given))) rs
  receipts [] long = refl
  receipts (r ∷ rs) long = λ i.
      record { number = r.number; from = r.from; key = r.key; bytes = received r.number r.key.size long.0 i; secure = r.secure; answered = r.answered; given = flag r.number i } ∷ receipts rs long.1 i

  -- parts and staged files

  parts : (ps : List Part) → AllByRecursion (λ (p : Part). p.number ≢ n) ps → map (part_by (told_in c (given ++ n ∷ []))) ps ≡ map (part_by (told_in d given)) ps
  parts [] other = refl
  parts (p ∷ ps) other = λ i.
      record { number = p.number; from = p.from; key = p.key; bytes = front_of p.have (bytes_of (other_in n folder name time bytes d c g p.number other.0 i)) } ∷ parts ps other.1 i

  staged : (ps : List Put) → map (staged_by (told_in c (given ++ n ∷ []))) ps ≡ map (staged_by (told_in d given)) ps
  staged [] = refl
  staged (p ∷ ps) = λ i. record { number = p.number; content = front_of p.size (bytes_of (other_out n folder name time bytes d c g p.number i)) } ∷ staged ps i

  module _ (s : State) (marks : AllByRecursion (λ (m : PartMark). m.number ≢ n) s.marks) (has : HasFiles s d) where
    durable : durable_by (told_in c (given ++ n ∷ [])) s ≡ D.with_given n (durable_by (told_in d given) s)
    durable =
        (λ i. record {
          queue = entries_told given d c s.queue (live_same n folder name time bytes d c g s marks has) i;
          inbox = receipts s.inbox (sized_here n folder name time bytes d c g s marks has) i;
          refused = map refusal_of s.refused;
          marks = marks_told given d c s.marks has.marked (marks_same n folder name time bytes d c g s marks has) i;
        })
        ∙ given_mirrored (told_in d given) n s

-- no open part has that number
pub record IsApart (n : ℕ) (m : Memory) : Type 0 where
  pub parts : AllByRecursion (λ (p : Part). p.number ≢ n) m.parts
  pub marks : AllByRecursion (λ (k : PartMark). k.number ≢ n) m.books.folding.state.marks
  pub ungiven : is_among n m.given ≡ false

-- the memory of a receipt more that was given, or may have been
abbrev pub with_noted : ℕ → Memory → Memory
with_noted n m = record m { given = m.given ++ n ∷ [] }

module _ (n : ℕ) (folder name : List ℕ) (time : ℕ) (bytes : List ℕ) (m : Memory) (apart : IsApart n m) where
  module _ (d c : World) (g : GaveAway n folder name time bytes d c) (has : HasFiles m.books.folding.state d) where
    pub parts_told : map (part_by (told_in c (m.given ++ n ∷ []))) (told_parts m.drawn m.parts) ≡ map (part_by (told_in d m.given)) (told_parts m.drawn m.parts)
    parts_told = go (is_orderly m.drawn m.parts)
      where
        go : (b : Bool) → map (part_by (told_in c (m.given ++ n ∷ []))) (if b then m.parts else []) ≡ map (part_by (told_in d m.given)) (if b then m.parts else [])
        go true = parts n folder name time bytes d c g m.given apart.ungiven m.parts apart.parts
        go false = refl

    stock_told : stock_by (told_in c (m.given ++ n ∷ [])) m ≡ on_state (D.with_given n) (stock_by (told_in d m.given) m)
    stock_told = λ i. record {
      state = durable n folder name time bytes d c g m.given apart.ungiven m.books.folding.state apart.marks has i;
      parts = parts_told i;
      staged = staged n folder name time bytes d c g m.given apart.ungiven m.staged i;
    }

    pub stored_given : n < 2 ^ 32 → stored_in c (with_noted n m) ≡ gift_made (record { receipt = n; folder = folder; name = name; bytes = bytes }) time (stored_after (on_state (D.with_given n)) m.seat [] (stored_in d m))
    stored_given lt = λ i. record {
      stock = stock_told i;
      recorded = m.books.folding.state.takes;
      takes = takes_given n folder name time bytes d c g i;
      outside = outside_given n folder name time bytes d c g i;
      gifts = gifts_given n folder name time bytes d c g lt i;
      log = sym (append-nil (stored_in d m).log) i;
    }

  -- how many bytes there are, of a disk that tells or doesn't
  pub sizes_given : (tells : Bool) (d c : World) → (tells ≡ true → GaveAway n folder name time bytes d c) → (tells ≡ true → HasFiles m.books.folding.state d)
      → stock_by (sizes_in tells c (m.given ++ n ∷ [])) m ≡ on_state (D.with_given n) (stock_by (sizes_in tells d m.given) m)
  sizes_given true d c gave has =
      told_outline c (with_noted n m) ∙ ap sizes (stock_told d c (gave refl) (has refl))
      ∙ on_state-map length (D.with_given n) (D.with_given n) (stock_by (told_in d m.given) m) (given_sized n (stock_by (told_in d m.given) m).state)
      ∙ ap (on_state (D.with_given n)) (sym (told_outline d m))
  sizes_given false d c gave has = ap (λ (x : D.Outline). record (stock_by (sizes_in false d m.given) m) { state = x }) (untold n d c m.given m.books.folding.state)

  -- the state after a gift
  pub state_given : (tells : Bool) (d c : World) (faults faults' : ℕ) → n < 2 ^ 32 → (tells ≡ true → GaveAway n folder name time bytes d c) → (tells ≡ true → HasFiles m.books.folding.state d) → faults' ≡ faults
      → state_of tells c faults' (record (with_noted n m) { last_given = n }) ≡ given (record { receipt = n; folder = folder; name = name; bytes = bytes }) time (state_of tells d faults m)
  state_given tells d c faults faults' lt gave has calm =
      let stock = sizes_given tells d c gave has in
      let content = go tells (λ t. stored_given d c (gave t) (has t) lt) in
      let records = sym (add-zero (state_of tells d faults m).records) in
      let appended = sym (add-zero (state_of tells d faults m).appended) in
      λ i. record {
        content = content i;
        stock = stock i;
        recorded = m.books.folding.state.takes;
        records = records i;
        reserved = m.books.reserved;
        staged = m.last_staged;
        drawn = m.drawn;
        seat = m.seat;
        appended = appended i;
        last_given = n;
        counts = record { faults = calm i; fulls = m.fulls; broken = m.broken };
      }
    where
      go : (b : Bool) → (b ≡ true → stored_in c (with_noted n m) ≡ gift_made (record { receipt = n; folder = folder; name = name; bytes = bytes }) time (stored_after (on_state (D.with_given n)) m.seat [] (stored_in d m)))
          → (if b then Some (stored_in c (with_noted n m)) else None) ≡ option_map (gift_made (record { receipt = n; folder = folder; name = name; bytes = bytes }) time) (option_map (stored_after (on_state (D.with_given n)) m.seat []) (if b then Some (stored_in d m) else None))
      go true is = ap Some (is refl)
      go false is = refl
