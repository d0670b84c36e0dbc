-- A store that was opened tells what the disk's content opens to.
use Rattle.std.proofs.Common.{◌≡◌, ◌⊎◌, inl, inr, ℕ, ◌≤◌, ◌==◌, ◌||◌, List, [], ◌∷◌, ◌++◌, length, take, map, replicate, Option, Some, None, Bool, true, false, refl, sym, ◌∙◌, ap, subst}
use Rattle.std.specs.Prelude.{◌&&◌, if◌then◌else◌}
use Rattle.std.specs.List.{AllByRecursion}
use Rattle.std.proofs.Math.Seq.{take-append_seam}
use Rattle.std.proofs.lemmas.List.{take-append-le}
use Rattle.std.proofs.lemmas.Bool.{cases_Bool}
use Rattle.std.proofs.lemmas.Bool.Decides.{Decides-eqb}
use Rattle.disk_model.specs.World.{World}
use Rattle.ledger_rec.specs.Fold.{State, is_among}
use Rattle.ledger_rec.specs.Items.{Entry, Receipt, PartMark}
use Rattle.ledger_rec.specs.Payloads.{fold_of}
use Rattle.node_model.specs.Durable.{DurableOf}
use Rattle.node_model.specs.Items as N
use Rattle.node_model.specs.Lists.{Member}
use Rattle.node_model.proofs.Lists.{off, or_cases, eqb_refl, some_inj}
use Rattle.node_store.specs.Contents.{entry_by, receipt_by, mark_by, durable_by}
use Rattle.node_store.specs.Keeping.{given_in}
use Rattle.node_store.specs.Names.{in_name, out_name}
use Rattle.node_store.specs.Opening.{IsTidied, Recovers}
use Rattle.node_store.specs.Stored.{front_of, told_in, AreGone}
use Rattle.node_store.specs.Worlds.{bytes_of, or_else, gift_of, is_absent, contents_in, durable_in, shelf_in, HasLength, HasFront, HasNoOther, HasFiles, LedgerOf, OpensAs}
use Rattle.node_store.proofs.Recovering.{opened_is, opens_so}

-- The bytes that are told are those of the files.

front_whole : (n : ℕ) (b : List ℕ) → length b ≡ n → front_of n b ≡ b
front_whole n b is = ap (λ (k : ℕ). take k (b ++ replicate n 0)) (sym is) ∙ take-append_seam b (replicate n 0)

front_part : (n : ℕ) (b : List ℕ) → n ≤ length b → front_of n b ≡ take n b
front_part n b le = take-append-le n b (replicate n 0) le

module _ (f : World) (given : List ℕ) where
  told_entry : (e : Entry) → (e.live ≡ true → HasLength (out_name e.number) e.key.size f) → entry_by (contents_in f) e ≡ entry_by (told_in f given) e
  told_entry e has = ap (λ (b : N.Body). record (entry_by (contents_in f) e) { body = b }) (go e.live has)
    where
      whole : HasLength (out_name e.number) e.key.size f → bytes_of (f.own (out_name e.number)) ≡ front_of e.key.size (bytes_of (f.own (out_name e.number)))
      whole h = ap bytes_of h.1 ∙ sym (ap (λ (o : Option (List ℕ)). front_of e.key.size (bytes_of o)) h.1 ∙ front_whole e.key.size h.0 h.2)

      go : (b : Bool) → (b ≡ true → HasLength (out_name e.number) e.key.size f) → (if b then N.Live (bytes_of (f.own (out_name e.number))) else N.Done) ≡ (if b then N.Live (front_of e.key.size (bytes_of (f.own (out_name e.number)))) else N.Done)
      go true h = ap N.Live (whole (h refl))
      go false h = refl

  told_queue : (es : List Entry) → AllByRecursion (λ (e : Entry). e.live ≡ true → HasLength (out_name e.number) e.key.size f) es → map (entry_by (contents_in f)) es ≡ map (entry_by (told_in f given)) es
  told_queue [] has = refl
  told_queue (e ∷ es) has = λ i. told_entry e has.0 i ∷ told_queue es has.1 i

  told_mark : (m : PartMark) → HasFront (in_name m.number) m.len f → mark_by (contents_in f) m ≡ mark_by (told_in f given) m
  told_mark m has =
      ap (λ (b : List ℕ). record (mark_by (contents_in f) m) { bytes = b })
      (ap (λ (o : Option (List ℕ)). take m.len (bytes_of o)) has.1 ∙ sym (ap (λ (o : Option (List ℕ)). front_of m.len (bytes_of o)) has.1 ∙ front_part m.len has.0 has.2))

  told_marks : (ms : List PartMark) → AllByRecursion (λ (m : PartMark). HasFront (in_name m.number) m.len f) ms → map (mark_by (contents_in f)) ms ≡ map (mark_by (told_in f given)) ms
  told_marks [] has = refl
  told_marks (m ∷ ms) has = λ i. told_mark m has.0 i ∷ told_marks ms has.1 i

  told_receipt : (r : Receipt) → is_among r.number given ≡ is_absent (f.own (in_name r.number)) → HasNoOther (in_name r.number) r.key.size f → receipt_by (contents_in f) r ≡ receipt_by (told_in f given) r
  told_receipt r is has = λ i.
      record { number = r.number; from = r.from; key = r.key; bytes = go (f.own (in_name r.number)) refl (is_among r.number given) is i; secure = r.secure; answered = r.answered; given = flag (is_absent (f.own (in_name r.number))) (is_among r.number given) is i }
    where
      flag : (a b : Bool) → b ≡ a → a ≡ (a && b)
      flag true b same = sym same
      flag false b same = refl

      go : (o : Option (List ℕ)) → f.own (in_name r.number) ≡ o → (b : Bool) → b ≡ is_absent (f.own (in_name r.number)) → or_else (f.own (in_name r.number)) (gift_of (in_name r.number) r.key.size f.gifts)
          ≡ (if b then or_else (f.own (in_name r.number)) (gift_of (in_name r.number) r.key.size f.gifts) else Some (front_of r.key.size (bytes_of (f.own (in_name r.number)))))
      go o at true same = refl
      go None at false same = off (sym (same ∙ ap is_absent at))
      go (Some b) at false same =
          ap (λ (o : Option (List ℕ)). or_else o (gift_of (in_name r.number) r.key.size f.gifts)) at
          ∙ ap Some (sym (ap (λ (o : Option (List ℕ)). front_of r.key.size (bytes_of o)) at ∙ front_whole r.key.size b (has b at)))

  told_inbox : (all rs : List Receipt) → ((r : Receipt) → Member r all → is_among r.number given ≡ is_absent (f.own (in_name r.number))) → ((r : Receipt) → Member r rs → Member r all)
      → AllByRecursion (λ (r : Receipt). HasNoOther (in_name r.number) r.key.size f) rs → map (receipt_by (contents_in f)) rs ≡ map (receipt_by (told_in f given)) rs
  told_inbox all [] is within has = refl
  told_inbox all (r ∷ rs) is within has = λ i. told_receipt r (is r (within r (inl refl))) has.0 i ∷ told_inbox all rs is (λ x there. within x (inr there)) has.1 i

-- the receipts that count as given are those whose files don't stand

pub given_gone : (f : World) (rs : List Receipt) → AreGone (given_in f rs) f
given_gone f [] = tt
given_gone f (r ∷ rs) = go (f.own (in_name r.number)) refl (given_gone f rs)
  where
    go : (o : Option (List ℕ)) → f.own (in_name r.number) ≡ o → AreGone (given_in f rs) f → AreGone (if is_absent (f.own (in_name r.number)) then r.number ∷ given_in f rs else given_in f rs) f
    go None at rest = subst (λ (b : Bool). AreGone (if b then r.number ∷ given_in f rs else given_in f rs) f) (sym (ap is_absent at)) (at, rest)
    go (Some bytes) at rest = subst (λ (b : Bool). AreGone (if b then r.number ∷ given_in f rs else given_in f rs) f) (sym (ap is_absent at)) rest

or_later : (a b : Bool) → b ≡ true → a || b ≡ true
or_later true b is = refl
or_later false b is = is

absent_among : (f : World) (n : ℕ) (rs : List Receipt) → is_among n (given_in f rs) ≡ true → is_absent (f.own (in_name n)) ≡ true
absent_among f n [] is = off (sym is)
absent_among f n (r ∷ rs) is = go (is_absent (f.own (in_name r.number))) refl is (absent_among f n rs)
  where
    go : (b : Bool) → is_absent (f.own (in_name r.number)) ≡ b → is_among n (if b then r.number ∷ given_in f rs else given_in f rs) ≡ true → (is_among n (given_in f rs) ≡ true → is_absent (f.own (in_name n)) ≡ true) → is_absent (f.own (in_name n)) ≡ true
    go true gone is rest = elim (or_cases (r.number == n) (is_among n (given_in f rs)) is) [
      | inl here ↦ ap (λ (k : ℕ). is_absent (f.own (in_name k))) (sym ((Decides-eqb r.number n).0 here)) ∙ gone
      | inr later ↦ rest later
    ]
    go false there is rest = rest is

among_absent : (f : World) (r : Receipt) (rs : List Receipt) → Member r rs → is_absent (f.own (in_name r.number)) ≡ true → is_among r.number (given_in f rs) ≡ true
among_absent f r [] there gone = absurd there
among_absent f r (x ∷ rs) (inl same) gone =
    let gone_x : is_absent (f.own (in_name x.number)) ≡ true = ap (λ (y : Receipt). is_absent (f.own (in_name y.number))) (sym same) ∙ gone in
    ap (λ (b : Bool). is_among r.number (if b then x.number ∷ given_in f rs else given_in f rs)) gone_x
    ∙ ap (λ (b : Bool). b || is_among r.number (given_in f rs)) (ap (λ (y : Receipt). y.number == r.number) (sym same) ∙ eqb_refl r.number)
among_absent f r (x ∷ rs) (inr later) gone = go (is_absent (f.own (in_name x.number))) (among_absent f r rs later gone)
  where
    go : (b : Bool) → is_among r.number (given_in f rs) ≡ true → is_among r.number (if b then x.number ∷ given_in f rs else given_in f rs) ≡ true
    go true rest = or_later (x.number == r.number) (is_among r.number (given_in f rs)) rest
    go false rest = rest

among_given : (f : World) (rs : List Receipt) (r : Receipt) → Member r rs → is_among r.number (given_in f rs) ≡ is_absent (f.own (in_name r.number))
among_given f rs r there = elim (cases_Bool (is_absent (f.own (in_name r.number)))) [
  | inl gone ↦ among_absent f r rs there gone ∙ sym gone
  | inr stands ↦ elim (cases_Bool (is_among r.number (given_in f rs))) [
    | inl among ↦ off (sym (absent_among f r.number rs among) ∙ stands)
    | inr free ↦ free ∙ sym stands
  ]
]

pub told_same : (f : World) (s : State) (given : List ℕ) → HasFiles s f → given ≡ given_in f s.inbox → durable_in f s ≡ durable_by (told_in f given) s
told_same f s given has is = λ i. record {
  queue = told_queue f given s.queue has.live i;
  inbox = told_inbox f given s.inbox s.inbox (λ r there. ap (is_among r.number) is ∙ among_given f s.inbox r there) (λ r there. there) has.received i;
  refused = (durable_in f s).refused;
  marks = told_marks f given s.marks has.marked i;
}

-- The same receipts count as given where the durable state is the same.

given_first : {B : Type 0} → List (N.ReceiptOf B) → Bool
given_first [] = true
given_first (r ∷ rs) = r.given

behind : {B : Type 0} → List (N.ReceiptOf B) → List (N.ReceiptOf B)
behind [] = []
behind (r ∷ rs) = rs

given_from : (f e : World) (rs : List Receipt) → map (receipt_by (contents_in e)) rs ≡ map (receipt_by (contents_in f)) rs → given_in e rs ≡ given_in f rs
unfolding given_first behind
given_from f e [] same = refl
given_from f e (r ∷ rs) same =
    let head : is_absent (e.own (in_name r.number)) ≡ is_absent (f.own (in_name r.number)) = ap given_first same in
    let tail = given_from f e rs (ap behind same) in
    λ i. if head i then r.number ∷ tail i else tail i

module _ (payloads : List (List ℕ)) (s : State) (folds : fold_of payloads ≡ Some s) where
  -- where one world opens and the other is what is left of it
  pub recovered_state : (f e : World) → LedgerOf payloads f → HasFiles s f → LedgerOf payloads e → Recovers f e → HasFiles s e × IsTidied (shelf_in f s) (shelf_in e s)
  recovered_state f e was has now r =
      let after = r (shelf_in f s) (opens_so payloads s folds f was has) in
      let is = opened_is payloads s folds e after.0 now after.1 in
      (is.0, subst (IsTidied (shelf_in f s)) is.1 after.2)

  pub given_recovered : (f e : World) → LedgerOf payloads f → HasFiles s f → LedgerOf payloads e → Recovers f e → given_in e s.inbox ≡ given_in f s.inbox
  given_recovered f e was has now r = given_from f e s.inbox (ap (λ (d : DurableOf (List ℕ)). d.inbox) (recovered_state f e was has now r).1.state)

  -- what the disk read before opens too
  pub found_opens : (w f : World) → LedgerOf payloads w → (f ≡ w) ⊎ (payloads ≡ []) → HasFiles s f → OpensAs w (shelf_in w s)
  found_opens w f ledger (inl same) has = opens_so payloads s folds w ledger (subst (HasFiles s) same has)
  found_opens w f ledger (inr none) has =
      opens_so payloads s folds w ledger (subst (λ (t : State). HasFiles t w) (some_inj (ap fold_of (sym none) ∙ folds)) (record { live = tt; marked = tt; received = tt }))
