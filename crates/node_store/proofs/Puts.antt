-- Bytes are put behind those of an open part: what is told then.
use Rattle.std.proofs.Common.{◌≡◌, ℕ, ◌+◌, ◌==◌, List, [], ◌∷◌, ◌++◌, length, drop, map, Option, Some, None, Bool, true, false, ◌&&◌, inl, inr, refl, sym, ◌∙◌, ap, subst, arith, length-append, append-nil, add-zero}
use Rattle.std.specs.Prelude.{option_map, if◌then◌else◌}
use Rattle.std.specs.List.{AllByRecursion, list_all}
use Rattle.std.proofs.lemmas.Bool.{cases_eq}
use Rattle.std.proofs.lemmas.Bool.Decides.{Decides-eqb}
use Rattle.std.proofs.lemmas.List.{take_all, drop_all}
use Rattle.disk_model.specs.World as W
use Rattle.disk_model.specs.World.{World}
use Rattle.disk_model.specs.Changes.{OnOwn, Rewrites, Holds}
use Rattle.ledger_rec.specs.Fold.{is_among}
use Rattle.node_model.specs.Items.{Mark, MarkOf}
use Rattle.node_model.specs.Stocks.{put_part, part_put}
use Rattle.node_model.specs.StoreStates.{stored_after}
use Rattle.node_model.specs.Stores.{with_bytes}
use Rattle.node_model.proofs.Lists.{some_inj, off}
use Rattle.node_store.specs.Contents.{Contents, durable_by}
use Rattle.node_store.specs.Names.{in_name, out_name}
use Rattle.node_store.specs.Stored.{Part, Put, Memory, front_of, told_in, sizes_in, are_apart, is_drawn, is_orderly, told_parts, part_by, staged_by, stock_by, stored_in, state_of, grown, AreGone, HasBodies}
use Rattle.node_store.specs.Worlds.{bytes_of, or_else, gift_of, is_absent, outside_in, gift_told, HasLength, HasFiles}
use Rattle.node_store.proofs.Alike.{AreAlike, takes_alike, all_by}
use Rattle.node_store.proofs.GivenFiles.{SameGiven, and_false, both_gone}
use Rattle.node_store.proofs.NameLaws.{one_in_name, in_not_out}
use Rattle.node_store.proofs.TellAlike.{front_whole, durable_told}

-- parts in order stay so

module _ (number n : ℕ) where
  all_apart_grown : (p : Part) (qs : List Part) → list_all (are_apart (grown number n p)) (map (grown number n) qs) ≡ list_all (are_apart p) qs
  all_apart_grown p [] = refl
  all_apart_grown p (q ∷ qs) = ap (λ (b : Bool). are_apart p q && b) (all_apart_grown p qs)

  pub orderly_grown : (drawn : ℕ) (ps : List Part) → is_orderly drawn (map (grown number n) ps) ≡ is_orderly drawn ps
  orderly_grown drawn [] = refl
  orderly_grown drawn (p ∷ ps) = λ i. is_drawn drawn p && (all_apart_grown p ps i && orderly_grown drawn ps i)

  pub told_grown : (drawn : ℕ) (ps : List Part) → told_parts drawn (map (grown number n) ps) ≡ map (grown number n) (told_parts drawn ps)
  told_grown drawn ps = ap (λ (b : Bool). if b then map (grown number n) ps else []) (orderly_grown drawn ps) ∙ go (is_orderly drawn ps)
    where
      go : (b : Bool) → (if b then map (grown number n) ps else []) ≡ map (grown number n) (if b then ps else [])
      go true = refl
      go false = refl

  -- how many bytes each has
  sizes_grown : (tells : Bool) (w : World) (given : List ℕ) (ps : List Part) → map (part_by (sizes_in tells w given)) (map (grown number n) ps) ≡ map (put_part number (λ k. k + n)) (map (part_by (sizes_in tells w given)) ps)
  sizes_grown tells w given [] = refl
  sizes_grown tells w given (p ∷ ps) = λ i. one (p.number == number) i ∷ sizes_grown tells w given ps i
    where
      one : (b : Bool) → ◌≡◌ {A = MarkOf ℕ} (record { number = p.number; from = p.from; key = p.key; bytes = if b then p.have + n else p.have }) (if b then record { number = p.number; from = p.from; key = p.key; bytes = p.have + n } else record { number = p.number; from = p.from; key = p.key; bytes = p.have })
      one true = refl
      one false = refl

-- what was given is gone after a put too
pub given_put : (number at : ℕ) (bytes : List ℕ) (d c : World) → OnOwn (Rewrites (in_name number) (Holds at bytes)) d c → (given : List ℕ) → AreGone given d → AreGone given c
given_put number at bytes d c step given gone = all_by (λ n. d.own (in_name n) ≡ None) (λ n. c.own (in_name n) ≡ None) one given gone
  where
    one : (n : ℕ) → d.own (in_name n) ≡ None → c.own (in_name n) ≡ None
    one n none = elim (cases_eq n number) [
      | inl same ↦ let named : in_name n ≡ in_name number = ap in_name same in ap c.own named ∙ step.own.absent (ap d.own (sym named) ∙ none)
      | inr other ↦ step.own.others (in_name n) (λ e. other (one_in_name n number e)) ∙ none
    ]

-- of a disk that tells, the gifts and the files that may have been given matter for the numbers of bytes
pub same_sizes : (tells : Bool) (w v : World) (given : List ℕ) → (tells ≡ true → v.gifts ≡ w.gifts) → (tells ≡ true → SameGiven given w v) → sizes_in tells v given ≡ sizes_in tells w given
same_sizes true w v given gifts same = λ i. record { queued = λ n size. size; received = λ n size. sized n size (is_among n given) refl i; front = λ n len. len; given = λ n. flag n (is_among n given) refl i }
  where
    sized : (n size : ℕ) (b : Bool) → is_among n given ≡ b
        → (if b then option_map length (or_else (v.own (in_name n)) (gift_of (in_name n) size v.gifts)) else Some size) ≡ (if b then option_map length (or_else (w.own (in_name n)) (gift_of (in_name n) size w.gifts)) else Some size)
    sized n size true is = λ i. option_map length (or_else (same refl n is i) (gift_of (in_name n) size (gifts refl i)))
    sized n size false is = refl

    flag : (n : ℕ) (b : Bool) → is_among n given ≡ b → (is_absent (v.own (in_name n)) && b) ≡ (is_absent (w.own (in_name n)) && b)
    flag n true is = ap (λ (o : Option (List ℕ)). is_absent o && true) (same refl n is)
    flag n false is = and_false (is_absent (v.own (in_name n))) ∙ sym (and_false (is_absent (w.own (in_name n))))
same_sizes false w v given gifts same = refl

-- the bytes
holds_behind : (at : ℕ) (bytes b c : List ℕ) → length b ≡ at → Holds at bytes b c → c ≡ b ++ bytes
holds_behind at bytes b c len is =
    is ∙ ap (λ (l : List ℕ). l ++ bytes ++ drop (at + length bytes) b) (take_all at b (omega (arith, len)))
    ∙ ap (λ (l : List ℕ). b ++ bytes ++ l) (drop_all (at + length bytes) b (omega (arith, len))) ∙ nothing_behind b bytes
  where
    nothing_behind : (xs ys : List ℕ) → xs ++ ys ++ [] ≡ xs ++ ys
    nothing_behind xs ys = append-nil (xs ++ ys)

pub one_length : (name : List ℕ) (n k : ℕ) (w : World) → HasLength name n w → HasLength name k w → n ≡ k
one_length name n k w a b = sym a.2 ∙ ap length (some_inj (sym a.1 ∙ b.1)) ∙ b.2

module _ (number at : ℕ) (bytes : List ℕ) (told told' : World) (body : HasLength (in_name number) at told) (step : OnOwn (Rewrites (in_name number) (Holds at bytes)) told told') where
  after : told'.own (in_name number) ≡ Some (body.0 ++ bytes)
  after =
      let f = step.own.file body.0 body.1 in
      f.1 ∙ ap Some (holds_behind at bytes body.0 f.0 body.2 f.2)

  part_grown : (given : List ℕ) (p : Part) → HasLength (in_name p.number) p.have told → part_by (told_in told' given) (grown number (length bytes) p) ≡ put_part number (λ b. b ++ bytes) (part_by (told_in told given) p)
  part_grown given p has = go (p.number == number) refl
    where
      same : p.number ≡ number → front_of (p.have + length bytes) (bytes_of (told'.own (in_name p.number))) ≡ front_of p.have (bytes_of (told.own (in_name p.number))) ++ bytes
      same is =
          let have : p.have ≡ at = one_length (in_name number) p.have at told (subst (λ (k : ℕ). HasLength (in_name k) p.have told) is has) body in
          ap (λ (k : ℕ). front_of (p.have + length bytes) (bytes_of (told'.own (in_name k)))) is
          ∙ ap (λ (f : Option (List ℕ)). front_of (p.have + length bytes) (bytes_of f)) after
          ∙ front_whole (p.have + length bytes) (body.0 ++ bytes) (omega (arith, length-append body.0 bytes, body.2, have))
          ∙ ap (λ (l : List ℕ). l ++ bytes) (sym (ap (λ (k : ℕ). front_of p.have (bytes_of (told.own (in_name k)))) is ∙ ap (λ (f : Option (List ℕ)). front_of p.have (bytes_of f)) body.1 ∙ front_whole p.have body.0 (body.2 ∙ sym have)))

      go : (b : Bool) → (p.number == number) ≡ b
          → ◌≡◌ {A = Mark} (record { number = p.number; from = p.from; key = p.key; bytes = front_of (if b then p.have + length bytes else p.have) (bytes_of (told'.own (in_name p.number))) })
          (if b then record { number = p.number; from = p.from; key = p.key; bytes = front_of p.have (bytes_of (told.own (in_name p.number))) ++ bytes } else record { number = p.number; from = p.from; key = p.key; bytes = front_of p.have (bytes_of (told.own (in_name p.number))) })
      go true is = ap (λ (b : List ℕ). record { number = p.number; from = p.from; key = p.key; bytes = b }) (same ((Decides-eqb p.number number).0 is))
      go false is =
          ap (λ (f : Option (List ℕ)). record { number = p.number; from = p.from; key = p.key; bytes = front_of p.have (bytes_of f) })
          (step.own.others (in_name p.number) (λ e. absurd (ne ((Decides-eqb p.number number).1 (one_in_name p.number number e)) is)))
        where
          ne : (p.number == number) ≡ true → (p.number == number) ≡ false → ⊥
          ne a b = off (sym a ∙ b)

  pub has_longer : (p : Part) → HasLength (in_name p.number) p.have told → p.number ≡ number → HasLength (in_name p.number) (p.have + length bytes) told'
  has_longer p has is =
      let have : p.have ≡ at = one_length (in_name number) p.have at told (subst (λ (k : ℕ). HasLength (in_name k) p.have told) is has) body in
      (body.0 ++ bytes, ap (λ (k : ℕ). told'.own (in_name k)) is ∙ after, omega (arith, length-append body.0 bytes, body.2, have))

  parts_grown : (given : List ℕ) (ps : List Part) → AllByRecursion (λ (p : Part). HasLength (in_name p.number) p.have told) ps
      → map (part_by (told_in told' given)) (map (grown number (length bytes)) ps) ≡ map (put_part number (λ b. b ++ bytes)) (map (part_by (told_in told given)) ps)
  parts_grown given [] has = refl
  parts_grown given (p ∷ ps) has = λ i. part_grown given p has.0 i ∷ parts_grown given ps has.1 i

  staged_same : (given : List ℕ) (ps : List Put) → map (staged_by (told_in told' given)) ps ≡ map (staged_by (told_in told given)) ps
  staged_same given [] = refl
  staged_same given (p ∷ ps) = λ i.
      record { number = p.number; content = front_of p.size (bytes_of (step.own.others (out_name p.number) (λ e. in_not_out number p.number (sym e)) i)) } ∷ staged_same given ps i

-- What a put makes of the state that is told.
module _ (tells : Bool) (told told' : World) (number at : ℕ) (bytes : List ℕ) (m : Memory)
    (body : tells ≡ true → HasLength (in_name number) at told) (has : tells ≡ true → HasBodies m told) (step : tells ≡ true → OnOwn (Rewrites (in_name number) (Holds at bytes)) told told')
    (files : tells ≡ true → HasFiles m.books.folding.state told) (alike : tells ≡ true → AreAlike m.books.folding.state told told') where
  abbrev pub put_memory : Memory
  put_memory = record m { parts = map (grown number (length bytes)) m.parts }

  told_bodies : (t : tells ≡ true) → AllByRecursion (λ (p : Part). HasLength (in_name p.number) p.have told) (told_parts m.drawn m.parts)
  told_bodies t = go (is_orderly m.drawn m.parts) (has t).parts
    where
      go : (b : Bool) → AllByRecursion (λ (p : Part). HasLength (in_name p.number) p.have told) m.parts → AllByRecursion (λ (p : Part). HasLength (in_name p.number) p.have told) (if b then m.parts else [])
      go true all = all
      go false all = tt

  pub stored_put : (t : tells ≡ true) → stored_in told' put_memory ≡ record (stored_in told m) { stock = part_put number (λ b. b ++ bytes) (stored_in told m).stock; log = (stored_in told m).log ++ [] }
  stored_put t =
      let a = alike t in
      let parts = ap (map (part_by (told_in told' m.given))) (told_grown number (length bytes) m.drawn m.parts) ∙ parts_grown number at bytes told told' (body t) (step t) m.given (told_parts m.drawn m.parts) (told_bodies t) in
      let state = durable_told m.given told told' m.books.folding.state (files t) a in
      let takes = takes_alike told told' a.takes in
      let outside = ap (λ (f : List ℕ → Option W.OutFile). outside_in (record told { outside = f })) a.outside in
      let log = sym (append-nil (stored_in told m).log) in
      λ i. record {
        stock = record { state = state i; parts = parts i; staged = staged_same number at bytes told told' (body t) (step t) m.given m.staged i };
        recorded = m.books.folding.state.takes;
        takes = takes i;
        outside = outside i;
        gifts = map gift_told (a.gifts i);
        log = log i;
      }

  pub put_told : (faults faults' : ℕ) → faults' ≡ faults → state_of tells told' faults' put_memory ≡ with_bytes number bytes (state_of tells told faults m)
  put_told faults faults' same =
      let sized = same_sizes tells told told' m.given (λ t. (alike t).gifts) (λ t. both_gone m.given told told' (has t).given (given_put number at bytes told told' (step t) m.given (has t).given)) in
      let parts = ap (map (part_by (sizes_in tells told m.given))) (told_grown number (length bytes) m.drawn m.parts) ∙ sizes_grown number (length bytes) tells told m.given (told_parts m.drawn m.parts) in
      let stock : stock_by (sizes_in tells told' m.given) put_memory ≡ part_put number (λ k. k + length bytes) (stock_by (sizes_in tells told m.given) m) =
      ap (λ (c : Contents ℕ). stock_by c put_memory) sized ∙ (λ i. record { state = durable_by (sizes_in tells told m.given) m.books.folding.state; parts = parts i; staged = map (staged_by (sizes_in tells told m.given)) m.staged }) in
      let content = go tells stored_put in
      let records = sym (add-zero (state_of tells told faults m).records) in
      let appended = sym (add-zero (state_of tells told faults m).appended) in
      λ i. record (state_of tells told faults m) {
        content = content i;
        stock = stock i;
        records = records i;
        appended = appended i;
        counts = record { faults = same i; fulls = m.fulls; broken = m.broken };
      }
    where
      go : (b : Bool) → (b ≡ true → stored_in told' put_memory ≡ record (stored_in told m) { stock = part_put number (λ b. b ++ bytes) (stored_in told m).stock; log = (stored_in told m).log ++ [] })
          → (if b then Some (stored_in told' put_memory) else None) ≡ option_map (stored_after (part_put number (λ b. b ++ bytes)) m.seat []) (if b then Some (stored_in told m) else None)
      go true is = ap Some (is refl)
      go false is = refl
