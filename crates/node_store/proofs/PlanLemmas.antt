-- Files that are planned one behind another.
use Rattle.std.proofs.Common.{◌≡◌, ℕ, zero, suc, ◌+◌, ◌<◌, ◌≤◌, List, [], ◌∷◌, ◌++◌, length, get_or, map, replicate, Option, Some, None, Bool, true, false, refl, sym, ◌∙◌, ap, subst, arith}
use Rattle.std.specs.Prelude.{find, option_map, if◌then◌else◌, ◌||◌}
use Rattle.std.specs.List.{AllByRecursion, list_any}
use Rattle.std.proofs.lemmas.List.{append-nil, append_assoc}
use Rattle.std.proofs.lemmas.List.Folds.{list_any-append}
use Rattle.file_index.specs.Filed.{Files}
use Rattle.file_index.specs.declared.files.FileIndex.{FileIndex}
use Rattle.ftn_addr.specs.Files.{is_same}
use Rattle.ftn_addr.specs.declared.source_file.Action.{Action}
use Rattle.ftn_addr.specs.declared.source_file.Action.TheVariants.{Leave, Delete, Cut}
use Rattle.ledger_rec.specs.Batch.{queue_records}
use Rattle.ledger_rec.specs.Fold.{new_entry}
use Rattle.ledger_rec.specs.Indexed.{is_queued}
use Rattle.ledger_rec.specs.Items.{Entry}
use Rattle.ledger_file.specs.Text.{ArePayloads}
use Rattle.ledger_rec.specs.Limits.{Fits, HasNumbers, IsNewFile}
use Rattle.ledger_rec.specs.Record.{NewFileText, RecordText, Queue}
use Rattle.ledger_rec.specs.Spelling.{AreRecords, spelling}
use Rattle.node_model.specs.declared.words.Flavour.{Flavour}
use Rattle.node_model.specs.declared.words.Flavour.TheVariants.{Immediate, Crash, Direct, Normal, Hold}
use Rattle.node_model.proofs.Lists.{Each-append}
use Rattle.node_model.specs.Stocks.{NewEntry}
use Rattle.node_model.specs.StoreWords.{FitsQueue}
use Rattle.node_store.specs.Logs.{action_number, flavour_number}
use Rattle.node_store.specs.Planned.{HasFiles, new_text, queue_with, fresh_with}
use Rattle.node_store.proofs.Mirrors.{map-append}

-- what is found of a view is the view of what passes there
pub find_mapped : {A B : Type 0} (p : B → Bool) (f : A → B) (xs : List A) → find p (map f xs) ≡ option_map f (find (λ x. p (f x)) xs)
find_mapped p f [] = refl
find_mapped p f (x ∷ xs) = go (p (f x)) (find_mapped p f xs)
  where
    go : (b : Bool) → find p (map f xs) ≡ option_map f (find (λ y. p (f y)) xs)
        → (if b then Some (f x) else find p (map f xs)) ≡ option_map f (if b then Some x else find (λ y. p (f y)) xs)
    go true rest = refl
    go false rest = rest

pub mapped_twice : {A B C : Type 0} (g : B → C) (f : A → B) (o : Option A) → option_map g (option_map f o) ≡ option_map (λ x. g (f x)) o
mapped_twice g f None = refl
mapped_twice g f (Some x) = refl

-- in the front, else behind
pub found_behind : {A : Type 0} (p : A → Bool) (xs ys : List A) → find p xs ≡ None → find p (xs ++ ys) ≡ find p ys
found_behind p [] ys is = refl
found_behind p (z ∷ zs) ys is = go (p z) is (found_behind p zs ys)
  where
    go : (b : Bool) → (if b then Some z else find p zs) ≡ None → (find p zs ≡ None → find p (zs ++ ys) ≡ find p ys) → (if b then Some z else find p (zs ++ ys)) ≡ find p ys
    go true is rest = absurd (let e : Some z ≡ None = is in cc)
    go false is rest = rest is

-- whether a list has one that passes tells where it is found

pub found_in_front : {A : Type 0} (p : A → Bool) (xs ys : List A) → list_any p xs ≡ true → find p xs ≡ find p (xs ++ ys)
found_in_front p [] ys any = absurd (let e : false ≡ true = any in cc)
found_in_front p (z ∷ zs) ys any = go (p z) any (found_in_front p zs ys)
  where
    go : (b : Bool) → (b || list_any p zs) ≡ true → (list_any p zs ≡ true → find p zs ≡ find p (zs ++ ys)) → (if b then Some z else find p zs) ≡ (if b then Some z else find p (zs ++ ys))
    go true any rest = refl
    go false any rest = rest any

pub not_found : {A : Type 0} (p : A → Bool) (xs : List A) → list_any p xs ≡ false → None ≡ find p xs
not_found p [] any = refl
not_found p (z ∷ zs) any = go (p z) any (not_found p zs)
  where
    go : (b : Bool) → (b || list_any p zs) ≡ false → (list_any p zs ≡ false → None ≡ find p zs) → None ≡ (if b then Some z else find p zs)
    go true any rest = absurd (let e : true ≡ false = any in cc)
    go false any rest = rest any

-- one file more in the index

or_false : (b : Bool) → b ≡ (b || false)
or_false true = refl
or_false false = refl

pub one_more : (index : FileIndex) (files : List NewFileText) (f : NewEntry) → Files index (λ dest key. is_queued dest key (map new_entry files) || is_same dest key f.dest f.key) → HasFiles index (files ++ new_text f ∷ [])
one_more index files f noted whole dest key =
    let e = new_entry (new_text f) in
    let p = λ (x : Entry). is_same dest key x.dest x.key in
    noted whole dest key
    ∙ ap (λ (b : Bool). list_any p (map new_entry files) || b) (or_false (p e))
    ∙ sym (list_any-append p (map new_entry files) (e ∷ []))
    ∙ ap (list_any p) (sym (map-append new_entry files (new_text f ∷ [])))

-- what holds of each holds of that at a place
pub all_at : {A : Type 0} (P : A → Type 0) (xs : List A) (i : ℕ) (x : A) → AllByRecursion P xs → i < length xs → x ≡ get_or xs i x → P x
all_at P [] i x all lt is = absurd (omega (arith, lt))
all_at P (y ∷ ys) zero x all lt is = subst P (sym is) all.0
all_at P (y ∷ ys) (suc i) x all lt is = all_at P ys i x all.1 (omega (arith, lt)) is

pub replicate-last : {A : Type 0} (n : ℕ) (x : A) → replicate (n + 1) x ≡ replicate n x ++ x ∷ []
replicate-last zero x = refl
replicate-last (suc n) x = ap (λ (k : ℕ). replicate k x) (let k : suc n + 1 ≡ suc (n + 1) = omega arith in k) ∙ ap (λ l. x ∷ l) (replicate-last n x)

-- one file more
pub next_queue : (f : NewEntry) (o : Option Entry) (q : List Entry) (fresh : List NewFileText) → queue_with f o (q ++ map new_entry fresh) ≡ q ++ map new_entry (fresh ++ fresh_with f o)
next_queue f (Some e) q fresh = ap (λ (l : List NewFileText). q ++ map new_entry l) (sym (append-nil fresh))
next_queue f None q fresh = append_assoc q (map new_entry fresh) (new_entry (new_text f) ∷ []) ∙ ap (λ (l : List Entry). q ++ l) (sym (map-append new_entry fresh (new_text f ∷ [])))

low_action : (a : Action) → action_number a ≤ 2
low_action Leave = omega arith
low_action Delete = omega arith
low_action Cut = omega arith

low_flavour : (f : Flavour) → flavour_number f ≤ 4
low_flavour Immediate = omega arith
low_flavour Crash = omega arith
low_flavour Direct = omega arith
low_flavour Normal = omega arith
low_flavour Hold = omega arith

pub new_fits : (f : NewEntry) → FitsQueue f → IsNewFile (new_text f)
new_fits f fits = record { dest = fits.dest; key = fits.key; source = fits.source; action = low_action f.action; flavour = low_flavour f.flavour }

-- the records of a file that is new, or isn't
pub fresh_records : (f : NewEntry) (o : Option Entry) → FitsQueue f → HasNumbers (Queue (new_text f)) → AreRecords (queue_records (fresh_with f o))
fresh_records f (Some e) fits numbers = tt
fresh_records f None fits numbers = ((numbers, new_fits f fits), tt)

-- records that are spelled are payloads
pub are_payloads : ((r : RecordText) → 0 < length (spelling r)) → ((r : RecordText) → Fits r → length (spelling r) ≤ 1400) → (rs : List RecordText) → AreRecords rs → ArePayloads (map spelling rs)
are_payloads some short [] all = tt
are_payloads some short (r ∷ rs) all =
    let low = some r in
    (record { some = omega (arith, low); most = short r all.0.1 }, are_payloads some short rs all.1)

pub spelled_both : (fs gs : List NewFileText) → map spelling (queue_records (fs ++ gs)) ≡ map spelling (queue_records fs) ++ map spelling (queue_records gs)
spelled_both fs gs = ap (map spelling) (map-append (λ (f : NewFileText). Queue f) fs gs) ∙ map-append spelling (queue_records fs) (queue_records gs)

pub records_both : (fs gs : List NewFileText) → AreRecords (queue_records fs) → AreRecords (queue_records gs) → AreRecords (queue_records (fs ++ gs))
records_both fs gs a b = subst AreRecords (sym (map-append (λ (f : NewFileText). Queue f) fs gs)) (Each-append _ (queue_records fs) (queue_records gs) a b)
