-- Own files that fit, one after another, and those that don't.
use Rattle.std.proofs.Common.{◌≡◌, ◌⊎◌, not, true≢false, inl, inr, ℕ, zero, suc, ◌+◌, ◌<◌, ◌==◌, List, [], ◌∷◌, ◌++◌, length, map, take, get_or, Result, Ok, Err, Bool, true, false, refl, sym, ◌∙◌, ap, subst, arith}
use Rattle.std.specs.Prelude.{OnOk, IfErr, if◌then◌else◌}
use Rattle.std.proofs.lemmas.List.{take_more}
use Rattle.ftn_addr.specs.Counts.{Increased}
use Rattle.disk_model.specs.World.{World}
use Rattle.disk_model.specs.Changes.{Every, SameAt}
use Rattle.ledger_rec.specs.Items.{Entry, Receipt, PartMark}
use Rattle.std.proofs.lemmas.Bool.Decides.{Decides-eqb}
use Rattle.node_model.specs.Lists.{Member}
use Rattle.node_model.proofs.Lists.{or_true, or_true_right}
use Rattle.node_store.specs.Keeping.{AreReceipts, Beside, HasReason, Finds, IsKeptEntry, HasBadEntry, HasBadMark, HasBadReceipt, given_in}
use Rattle.node_store.specs.Names.{in_name, out_name}
use Rattle.node_store.specs.Stored.{has_receipt}
use Rattle.node_store.specs.Worlds.{HasLength, HasFront, HasNoOther, is_absent}
use Rattle.node_store.specs.declared.opening.fault.StoreOpenFault.{StoreOpenFault}
use Rattle.node_store.specs.declared.opening.fault.StoreOpenFault.TheVariants.{Disk, LedgerBad, FileBad, NoMemory}
use Rattle.node_store.proofs.Untouched.{beside-map}

-- what is said of a result says less

pub on_ok_map : {T E : Type 0} (r : Result T E) (P Q : Type 0) → (P → Q) → OnOk r P → OnOk r Q
on_ok_map (Ok v) P Q f h = f h
on_ok_map (Err e) P Q f h = tt

pub if_err_map : {T E : Type 0} (r : Result T E) (P Q : E → Type 0) → ((e : E) → P e → Q e) → IfErr r P → IfErr r Q
if_err_map (Ok v) P Q f h = tt
if_err_map (Err e) P Q f h = f e h

pub finds_map : (P Q : List ℕ → Type 0) → ((n : List ℕ) → P n → Q n) → (e : StoreOpenFault) → Finds P e → Finds Q e
finds_map P Q f Disk h = tt
finds_map P Q f (LedgerBad place) h = absurd h
finds_map P Q f (FileBad name) h = f name h
finds_map P Q f NoMemory h = absurd h

-- a fault behind calls that were made
pub reason_err : {T U : Type 0} (before mid now : ℕ) (fault : StoreOpenFault) → mid ≡ before → HasReason {T = T} mid now (Err fault) → HasReason {T = U} before now (Err fault)
reason_err before mid now fault same h = record { later = omega (arith, h.later, same); calm = tt; failed = λ is. subst (λ (k : ℕ). Increased k now) same (h.failed is) }

-- want of memory behind calls that were made
pub reason_memory : {T : Type 0} (before now : ℕ) → now ≡ before → HasReason {T = T} before now (Err NoMemory)
reason_memory before now same = record { later = omega (arith, same); calm = tt; failed = λ is. absurd (cc is) }

-- the item at a place is one of them
pub member_at : {A B : Type 0} (view : A → B) (xs : List A) (i : ℕ) (x : A) → i < length xs → x ≡ get_or xs i x → Member (view x) (map view xs)
member_at view [] i x lt is = absurd (omega (arith, lt))
member_at view (y ∷ ys) zero x lt is = inl (ap view is)
member_at view (y ∷ ys) (suc i) x lt is = inr (member_at view ys i x (omega (arith, lt)) is)

only_one : {A : Type 0} (x y : A) → Member x (y ∷ []) → x ≡ y
only_one x y (inl is) = is
only_one x y (inr none) = absurd none

pub more_bad_entries : (read : World → Type 0) (e : Entry) (es : List Entry) (name : List ℕ) → Member e es → HasBadEntry read (e ∷ []) name → HasBadEntry read es name
more_bad_entries read e es name there h =
    record { e = h.e; there = subst (λ (x : Entry). Member x es) (sym (only_one h.e e h.there)) there; live = h.live; named = h.named; bad = h.bad }

-- the file of a live entry
module _ {D : Type 0} (files : D → World → Type 0) (moment : D → ℕ) (images : D → ℕ → World → Type 0) (e : Entry) (name : List ℕ) (named : name ≡ out_name e.number) (new : D) where
  pub kept_live : {T : Type 0} (r : Result T StoreOpenFault) → OnOk r (Beside files moment images (λ f c. HasLength name e.key.size f × SameAt name f c) new) → OnOk r (Beside files moment images (IsKeptEntry e) new)
  kept_live r h =
      on_ok_map r (Beside files moment images (λ f c. HasLength name e.key.size f × SameAt name f c) new) (Beside files moment images (IsKeptEntry e) new)
      (beside-map files moment images (λ f c. HasLength name e.key.size f × SameAt name f c) (IsKeptEntry e) new (λ f c read both live. subst (λ (n : List ℕ). HasLength n e.key.size f × SameAt n f c) named both)) h

  pub bad_live : {T : Type 0} (r : Result T StoreOpenFault) → e.live ≡ true → IfErr r (Finds (λ bad. (bad ≡ name) × Every (files new) (λ f. HasLength name e.key.size f → ⊥))) → IfErr r (Finds (HasBadEntry (files new) (e ∷ [])))
  bad_live r live h =
      if_err_map r (Finds (λ bad. (bad ≡ name) × Every (files new) (λ f. HasLength name e.key.size f → ⊥))) (Finds (HasBadEntry (files new) (e ∷ [])))
      (finds_map (λ bad. (bad ≡ name) × Every (files new) (λ f. HasLength name e.key.size f → ⊥)) (HasBadEntry (files new) (e ∷ []))
      (λ n b. record { e = e; there = inl refl; live = live; named = b.0 ∙ named; bad = λ f read has. b.1 f read (subst (λ (k : List ℕ). HasLength k e.key.size f) b.0 has) })) h

pub bad_mark : (read : World → Type 0) (m : PartMark) (ms : List PartMark) (name : List ℕ) → name ≡ in_name m.number → Member m ms
    → (fault : StoreOpenFault) → Finds (λ bad. (bad ≡ name) × Every read (λ f. HasFront name m.len f → ⊥)) fault → Finds (HasBadMark read ms) fault
bad_mark read m ms name named there =
    finds_map (λ bad. (bad ≡ name) × Every read (λ f. HasFront name m.len f → ⊥)) (HasBadMark read ms)
    (λ n b. record { m = m; there = there; named = b.0 ∙ named; bad = λ f is has. b.1 f is (subst (λ (k : List ℕ). HasFront k m.len f) b.0 has) })

pub bad_receipt : (read : World → Type 0) (r : Receipt) (rs : List Receipt) (name : List ℕ) → name ≡ in_name r.number → Member r rs
    → (fault : StoreOpenFault) → Finds (λ bad. (bad ≡ name) × Every read (λ f. HasNoOther name r.key.size f → ⊥)) fault → Finds (HasBadReceipt read rs) fault
bad_receipt read r rs name named there =
    finds_map (λ bad. (bad ≡ name) × Every read (λ f. HasNoOther name r.key.size f → ⊥)) (HasBadReceipt read rs)
    (λ n b. record { r = r; there = there; named = b.0 ∙ named; bad = λ f is has. b.1 f is (subst (λ (k : List ℕ). HasNoOther k r.key.size f) b.0 has) })

-- the receipts that were given

given_append : (w : World) (rs : List Receipt) (r : Receipt) → given_in w (rs ++ r ∷ []) ≡ given_in w rs ++ given_in w (r ∷ [])
given_append w [] r = refl
given_append w (x ∷ rs) r = go (given_append w rs r) (is_absent (w.own (in_name x.number)))
  where
    go : given_in w (rs ++ r ∷ []) ≡ given_in w rs ++ given_in w (r ∷ []) → (b : Bool) → (if b then x.number ∷ given_in w (rs ++ r ∷ []) else given_in w (rs ++ r ∷ [])) ≡ (if b then x.number ∷ given_in w rs else given_in w rs) ++ given_in w (r ∷ [])
    go rest true = ap (λ (l : List ℕ). x.number ∷ l) rest
    go rest false = rest

map_append_one : {A B : Type 0} (view : A → B) (xs : List A) (x : A) → map view (xs ++ x ∷ []) ≡ map view xs ++ view x ∷ []
map_append_one view [] x = refl
map_append_one view (y ∷ ys) x = ap (λ l. view y ∷ l) (map_append_one view ys x)

pub given_more : {A : Type 0} (view : A → Receipt) (xs : List A) (i : ℕ) (x : A) (w : World) (given new : List ℕ) → i < length xs → x ≡ get_or xs i x → given ≡ given_in w (map view (take i xs)) → new ≡ given ++ given_in w (view x ∷ [])
    → new ≡ given_in w (map view (take (i + 1) xs))
given_more {A} view xs i x w given new lt is so_far pushed =
    pushed ∙ ap (λ (l : List ℕ). l ++ given_in w (view x ∷ [])) so_far ∙ sym (given_append w (map view (take i xs)) (view x)) ∙ ap (given_in w) (sym (map_append_one view (take i xs) x))
    ∙ ap (λ (l : List A). given_in w (map view l)) (sym (take_more xs i x lt ∙ ap (λ (y : A). take i xs ++ y ∷ []) (sym is)))

-- a file that stands, or doesn't
pub given_one : (w : World) (r : Receipt) (name : List ℕ) (there : Bool) → name ≡ in_name r.number → there ≡ not (is_absent (w.own name)) → given_in w (r ∷ []) ≡ (if there then [] else r.number ∷ [])
given_one w r name there named is = go (is_absent (w.own (in_name r.number))) there (is ∙ ap (λ (n : List ℕ). not (is_absent (w.own n))) named)
  where
    go : (b there : Bool) → there ≡ not b → (if b then r.number ∷ [] else []) ≡ (if there then [] else r.number ∷ [])
    go true true is = absurd (true≢false is)
    go true false is = refl
    go false true is = refl
    go false false is = absurd (true≢false (sym is))

pub more_bad_receipts : (read : World → Type 0) (r : Receipt) (rs : List Receipt) (name : List ℕ) → Member r rs → HasBadReceipt read (r ∷ []) name → HasBadReceipt read rs name
more_bad_receipts read r rs name there h =
    record { r = h.r; there = subst (λ (x : Receipt). Member x rs) (sym (only_one h.r r h.there)) there; named = h.named; bad = h.bad }

-- of a receipt that may have wanted memory
pub or_memory : (P Q : List ℕ → Type 0) → ((n : List ℕ) → P n → Q n) → (e : StoreOpenFault) → (e ≡ NoMemory) ⊎ Finds P e → (e ≡ NoMemory) ⊎ Finds Q e
or_memory P Q f e (inl none) = inl none
or_memory P Q f e (inr h) = inr (finds_map P Q f e h)

pub append-nothing : (l : List ℕ) → l ++ [] ≡ l
append-nothing [] = refl
append-nothing (y ∷ l) = ap (λ (k : List ℕ). y ∷ k) (append-nothing l)

-- one number more, which is a receipt of these files
pub receipt_there : (r : Receipt) (rs : List Receipt) → Member r rs → has_receipt r.number rs ≡ true
receipt_there r [] there = absurd there
receipt_there r (x ∷ xs) (inl same) = or_true (x.number == r.number) (has_receipt r.number xs) ((Decides-eqb x.number r.number).1 (ap (λ (y : Receipt). y.number) (sym same)))
receipt_there r (x ∷ xs) (inr later) = or_true_right (x.number == r.number) (has_receipt r.number xs) (receipt_there r xs later)

pub receipts_more : (rs : List Receipt) (r : Receipt) (given : List ℕ) → Member r rs → AreReceipts given rs → AreReceipts (given ++ r.number ∷ []) rs
receipts_more rs r [] there is = (receipt_there r rs there, tt)
receipts_more rs r (n ∷ ns) there is = (is.0, receipts_more rs r ns there is.1)
