-- The files of receipts that were given, where worlds change.
use Rattle.std.proofs.Common.{◌≡◌, ℕ, ◌==◌, List, [], ◌∷◌, Option, None, Bool, true, false, not, ◌&&◌, ◌||◌, refl, sym, ◌∙◌, ap, inl, inr}
use Rattle.std.specs.List.{AllByRecursion}
use Rattle.std.proofs.lemmas.Bool.Decides.{Decides-eqb}
use Rattle.disk_model.specs.World.{World}
use Rattle.ledger_rec.specs.Fold.{State, is_among}
use Rattle.ledger_rec.specs.Items.{Receipt}
use Rattle.node_model.proofs.Lists.{off, or_cases}
use Rattle.node_store.specs.Names.{in_name}
use Rattle.node_store.specs.Stored.{AreGone, has_receipt}
use Rattle.node_store.specs.Worlds.{is_absent}
use Rattle.node_store.proofs.Alike.{AreAlike}

pub and_false : (a : Bool) → (a && false) ≡ false
and_false true = refl
and_false false = refl

-- the files of those that may have been given are the same
abbrev pub SameGiven : List ℕ → World → World → Type 0
SameGiven given d c = (n : ℕ) → is_among n given ≡ true → c.own (in_name n) ≡ d.own (in_name n)

pub gone_at : (w : World) (given : List ℕ) → AreGone given w → (n : ℕ) → is_among n given ≡ true → w.own (in_name n) ≡ None
gone_at w [] gone n among = off (sym among)
gone_at w (k ∷ ks) gone n among = elim (or_cases (k == n) (is_among n ks) among) [
  | inl here ↦ ap (λ (i : ℕ). w.own (in_name i)) (sym ((Decides-eqb k n).0 here)) ∙ gone.0
  | inr later ↦ gone_at w ks gone.1 n later
]

-- they are gone in both
pub both_gone : (given : List ℕ) (d c : World) → AreGone given d → AreGone given c → SameGiven given d c
both_gone given d c was is n among = gone_at c given is n among ∙ sym (gone_at d given was n among)

-- receipts whose files are alike
pub same_alike : (s : State) (d c : World) (given : List ℕ) → AllByRecursion (λ n. has_receipt n s.inbox ≡ true) given → AreAlike s d c → SameGiven given d c
same_alike s d c given receipts alike n among = at s.inbox (received given receipts among) alike.received
  where
    received : (ks : List ℕ) → AllByRecursion (λ k. has_receipt k s.inbox ≡ true) ks → is_among n ks ≡ true → has_receipt n s.inbox ≡ true
    received [] all there = off (sym there)
    received (k ∷ ks) all there = elim (or_cases (k == n) (is_among n ks) there) [
      | inl here ↦ ap (λ (i : ℕ). has_receipt i s.inbox) (sym ((Decides-eqb k n).0 here)) ∙ all.0
      | inr later ↦ received ks all.1 later
    ]

    at : (rs : List Receipt) → has_receipt n rs ≡ true → AllByRecursion (λ (r : Receipt). c.own (in_name r.number) ≡ d.own (in_name r.number)) rs → c.own (in_name n) ≡ d.own (in_name n)
    at [] there all = off (sym there)
    at (r ∷ rs) there all = elim (or_cases (r.number == n) (has_receipt n rs) there) [
      | inl here ↦ let same : r.number ≡ n = (Decides-eqb r.number n).0 here in sym (ap (λ (i : ℕ). c.own (in_name i)) same) ∙ all.0 ∙ ap (λ (i : ℕ). d.own (in_name i)) same
      | inr later ↦ at rs later all.1
    ]

-- where the files are the same, they are gone as before
pub still_gone : (given : List ℕ) (d c : World) → AreGone given d → ((n : ℕ) → is_among n given ≡ true → c.own (in_name n) ≡ d.own (in_name n)) → AreGone given c
still_gone given d c gone same = go given gone (λ n among. same n among)
  where
    or_later : (a b : Bool) → b ≡ true → (a || b) ≡ true
    or_later true b is = refl
    or_later false b is = is

    or_here : (n : ℕ) (ns : List ℕ) → is_among n (n ∷ ns) ≡ true
    or_here n ns = ap (λ (b : Bool). b || is_among n ns) ((Decides-eqb n n).1 refl)

    go : (ns : List ℕ) → AreGone ns d → ((n : ℕ) → is_among n ns ≡ true → c.own (in_name n) ≡ d.own (in_name n)) → AreGone ns c
    go [] all keeps = tt
    go (n ∷ ns) all keeps = (keeps n (or_here n ns) ∙ all.0, go ns all.1 (λ k among. keeps k (or_later (n == k) (is_among k ns) among)))

-- Of what is gone, a told flag is that of the list.
pub flags_listed : (tells : Bool) (w : World) (given : List ℕ) → (tells ≡ true → AreGone given w) → ◌≡◌ {A = ℕ → Bool} (λ n. (not tells || is_absent (w.own (in_name n))) && is_among n given) (λ n. is_among n given)
flags_listed tells w given gone = λ i n. go tells refl n (is_among n given) refl i
  where
    go : (b : Bool) → tells ≡ b → (n : ℕ) (among : Bool) → is_among n given ≡ among → ((not b || is_absent (w.own (in_name n))) && among) ≡ among
    go false t n among is = refl
    go true t n true is = ap (λ (o : Option (List ℕ)). is_absent o && true) (gone_at w given (gone t) n is)
    go true t n false is = and_false (is_absent (w.own (in_name n)))
