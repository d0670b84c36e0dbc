-- The indices, once the lists change.
use Rattle.std.proofs.Common.{◌≡◌, ℕ, Bool, true, false, ◌&&◌, ◌||◌, List, [], ◌∷◌, ◌++◌, map, Option, Some, None, Result, Ok, Err, refl, sym, ap, subst, ◌∙◌, inl, inr, arith}
use Rattle.std.specs.Prelude.{nat_lt, option_map, if◌then◌else◌}
use Rattle.std.specs.List.{list_all, list_any}
use Rattle.std.proofs.lemmas.Bool.{cases_Bool, and_parts}
use Rattle.std.proofs.lemmas.Bool.Decides.{nat_tests}
use Rattle.ftn_addr.specs.Address.{Address}
use Rattle.ftn_addr.specs.Files.{is_same}
use Rattle.ftn_addr.specs.Key.{Key}
use Rattle.file_index.specs.Filed.{Files}
use Rattle.file_index.specs.Numbered.{Numbers}
use Rattle.file_index.specs.declared.files.FileIndex.{FileIndex}
use Rattle.file_index.specs.declared.numbers.NumberIndex.{NumberIndex}
use Rattle.ledger_rec.specs.Fold.{State, is_received, is_refused, changed, new_entry, new_receipt, new_refusal, with_queued, with_receipt, with_refusal, with_number}
use Rattle.ledger_rec.specs.Indexed.{Agrees, is_queued, are_below, is_empty}
use Rattle.ledger_rec.specs.Items.{Entry, Receipt, Refusal}
use Rattle.ledger_rec.specs.Record.{NewFileText, ReceivedText, RefusedText}
use Rattle.ledger_rec.specs.Lists.{Steps}
use Rattle.ledger_rec.specs.declared.fault.FoldFault.{FoldFault}
use Rattle.ledger_rec.specs.declared.fault.FoldFault.TheVariants.{BadFold, NoMemory}
use Rattle.ledger_rec.specs.declared.index.Index.{Index}

pub agrees_same : (x y : Index) (s t : State) → y ≡ x → t ≡ s → Agrees x s → Agrees y t
agrees_same x y s t index state agrees = subst (λ (z : Index). Agrees z t) (sym index) (subst (λ (u : State). Agrees x u) (sym state) agrees)

-- the same of files of which the same is true
pub files_alike : (x : FileIndex) (p q : Address → Key → Bool) → ((a : Address) (k : Key) → p a k ≡ q a k) → Files x p → Files x q
files_alike x p q alike files = λ whole a k. files whole a k ∙ alike a k

-- the same of one list
numbers_alike : (x : NumberIndex) (ms ns : List ℕ) → ms ≡ ns → Numbers x ms → Numbers x ns
numbers_alike x ms ns same numbers = subst (λ (l : List ℕ). Numbers x l) same numbers

-- one item more

pub any_more : {A : Type 0} (p : A → Bool) (xs : List A) (x : A) → list_any p (xs ++ x ∷ []) ≡ (list_any p xs || p x)
any_more p [] x = none (p x)
  where
    none : (b : Bool) → (b || false) ≡ b
    none true = refl
    none false = refl
any_more p (y ∷ xs) x = elim (cases_Bool (p y)) as (λ _. list_any p ((y ∷ xs) ++ x ∷ []) ≡ (list_any p (y ∷ xs) || p x)) [
  | inl here ↦ rw here refl
  | inr there ↦ rw there (any_more p xs x)
]

pub map_more : {A B : Type 0} (f : A → B) (xs : List A) (x : A) → map f xs ++ f x ∷ [] ≡ map f (xs ++ x ∷ [])
map_more f [] x = refl
map_more f (y ∷ xs) x = ap (λ ys. f y ∷ ys) (map_more f xs x)

all_more : {A : Type 0} (p : A → Bool) (xs : List A) (x : A) → list_all p (xs ++ x ∷ []) ≡ (list_all p xs && p x)
all_more p [] x = one (p x)
  where
    one : (b : Bool) → (b && true) ≡ b
    one true = refl
    one false = refl
all_more p (y ∷ xs) x = elim (cases_Bool (p y)) as (λ _. list_all p ((y ∷ xs) ++ x ∷ []) ≡ (list_all p (y ∷ xs) && p x)) [
  | inl here ↦ rw here (all_more p xs x)
  | inr there ↦ rw there refl
]

pub not_empty : {A : Type 0} (xs : List A) (x : A) → is_empty (xs ++ x ∷ []) ≡ false
not_empty [] x = refl
not_empty (y ∷ xs) x = refl

-- numbers below a number are below a greater one
below_more : (m n : ℕ) → nat_lt m n ≡ true → (es : List Entry) → are_below m es ≡ true → are_below n es ≡ true
below_more m n low [] below = refl
below_more m n low (e ∷ es) below =
    let parts = and_parts (nat_lt e.number m) (are_below m es) below in
    let first = parts.0 in
    let here : nat_lt e.number n ≡ true = grind (arith, nat_tests) in
    rw (here, below_more m n low es parts.1) refl

pub below_last : (r : NewFileText) (es : List Entry) (n : ℕ) → are_below r.number es ≡ true → are_below n (es ++ new_entry r ∷ []) ≡ (is_empty (es ++ new_entry r ∷ []) || nat_lt r.number n)
below_last r es n rising =
    all_more (λ (e : Entry). nat_lt e.number n) es (new_entry r)
    ∙ elim (cases_Bool (nat_lt r.number n)) as (λ _. (are_below n es && nat_lt r.number n) ≡ (false || nat_lt r.number n)) [
      | inl low ↦ rw (below_more r.number n low es rising, low) refl
      | inr high ↦ rw high (none (are_below n es))
    ]
    ∙ ap (λ (b : Bool). b || nat_lt r.number n) (sym (not_empty es (new_entry r)))
  where
    none : (b : Bool) → (b && false) ≡ false
    none true = refl
    none false = refl

-- a file more in the queue
pub agrees_queued : (x y : Index) (s : State) (r : NewFileText) → Agrees x s → are_below r.number s.queue ≡ true
    → Files y.queued (λ dest key. is_queued dest key s.queue || is_same dest key r.dest r.key)
    → Numbers y.numbers (map (λ (e : Entry). e.number) s.queue ++ r.number ∷ [])
    → y.greatest ≡ r.number → y.received ≡ x.received → y.refused ≡ x.refused → y.receipts ≡ x.receipts → y.parts ≡ x.parts → y.takes ≡ x.takes
    → Agrees y (with_queued r s)
agrees_queued x y s r agrees rising queued numbers greatest received refused receipts parts takes = record {
  received = subst (λ (f : FileIndex). Files f (λ from key. is_received from key s.inbox)) (sym received) agrees.received;
  refused = subst (λ (f : FileIndex). Files f (λ from key. is_refused from key s.refused)) (sym refused) agrees.refused;
  queued = files_alike y.queued _ _ (λ a k. sym (any_more (λ (e : Entry). is_same a k e.dest e.key) s.queue (new_entry r))) queued;
  numbers = numbers_alike y.numbers _ _ (map_more (λ (e : Entry). e.number) s.queue (new_entry r)) numbers;
  receipts = subst (λ (f : NumberIndex). Numbers f (map (λ (i : Receipt). i.number) s.inbox)) (sym receipts) agrees.receipts;
  parts = subst (λ (f : NumberIndex). Numbers f s.parts) (sym parts) agrees.parts;
  takes = subst (λ (f : NumberIndex). Numbers f s.takes) (sym takes) agrees.takes;
  below = λ n. below_last r s.queue n rising ∙ ap (λ (g : ℕ). is_empty (s.queue ++ new_entry r ∷ []) || nat_lt g n) (sym greatest);
}

-- a file more in the inbox
pub agrees_received : (x y : Index) (s : State) (r : ReceivedText) → Agrees x s
    → Files y.received (λ from key. is_received from key s.inbox || is_same from key r.from r.key)
    → Numbers y.receipts (map (λ (i : Receipt). i.number) s.inbox ++ r.receipt ∷ [])
    → Numbers y.parts (with_number r.receipt s.parts)
    → y.refused ≡ x.refused → y.queued ≡ x.queued → y.numbers ≡ x.numbers → y.takes ≡ x.takes → y.greatest ≡ x.greatest
    → Agrees y (with_receipt r s)
agrees_received x y s r agrees received receipts parts refused queued numbers takes greatest = record {
  received = files_alike y.received _ _ (λ a k. sym (any_more (λ (i : Receipt). is_same a k i.from i.key) s.inbox (new_receipt r))) received;
  refused = subst (λ (f : FileIndex). Files f (λ from key. is_refused from key s.refused)) (sym refused) agrees.refused;
  queued = subst (λ (f : FileIndex). Files f (λ dest key. is_queued dest key s.queue)) (sym queued) agrees.queued;
  numbers = subst (λ (f : NumberIndex). Numbers f (map (λ (e : Entry). e.number) s.queue)) (sym numbers) agrees.numbers;
  receipts = numbers_alike y.receipts _ _ (map_more (λ (i : Receipt). i.number) s.inbox (new_receipt r)) receipts;
  parts = parts;
  takes = subst (λ (f : NumberIndex). Numbers f s.takes) (sym takes) agrees.takes;
  below = λ n. agrees.below n ∙ ap (λ (g : ℕ). is_empty s.queue || nat_lt g n) (sym greatest);
}

-- a file more that is refused
pub agrees_refused : (x y : Index) (s : State) (r : RefusedText) → Agrees x s
    → Files y.refused (λ from key. is_refused from key s.refused || is_same from key r.from r.key)
    → y.received ≡ x.received → y.queued ≡ x.queued → y.numbers ≡ x.numbers → y.receipts ≡ x.receipts → y.parts ≡ x.parts → y.takes ≡ x.takes → y.greatest ≡ x.greatest
    → Agrees y (with_refusal r s)
agrees_refused x y s r agrees refused received queued numbers receipts parts takes greatest = record {
  received = subst (λ (f : FileIndex). Files f (λ from key. is_received from key s.inbox)) (sym received) agrees.received;
  refused = files_alike y.refused _ _ (λ a k. sym (any_more (λ (i : Refusal). is_same a k i.from i.key) s.refused (new_refusal r))) refused;
  queued = subst (λ (f : FileIndex). Files f (λ dest key. is_queued dest key s.queue)) (sym queued) agrees.queued;
  numbers = subst (λ (f : NumberIndex). Numbers f (map (λ (e : Entry). e.number) s.queue)) (sym numbers) agrees.numbers;
  receipts = subst (λ (f : NumberIndex). Numbers f (map (λ (i : Receipt). i.number) s.inbox)) (sym receipts) agrees.receipts;
  parts = subst (λ (f : NumberIndex). Numbers f s.parts) (sym parts) agrees.parts;
  takes = subst (λ (f : NumberIndex). Numbers f s.takes) (sym takes) agrees.takes;
  below = λ n. agrees.below n ∙ ap (λ (g : ℕ). is_empty s.queue || nat_lt g n) (sym greatest);
}

-- one item changed: what doesn't read the change is the same

pub mapped_some : {A B : Type 0} (f : A → B) (o : Option A) (b : B) → option_map f o ≡ Some b → (a : A) × (o ≡ Some a) × (f a ≡ b)
mapped_some f None b is = absurd (cc is)
mapped_some f (Some a) b is = (a, refl, cc is)

pub changed_map : {A B : Type 0} (p : A → Bool) (f : A → A) (g : A → B) → ((x : A) → g (f x) ≡ g x) → (xs ys : List A) → changed p f xs ≡ Some ys → map g ys ≡ map g xs
changed_map p f g same [] ys is = absurd (cc is)
changed_map p f g same (x ∷ xs) ys is = elim (cases_Bool (p x)) as (λ _. map g ys ≡ map g (x ∷ xs)) [
  | inl here ↦ (let now : Some (f x ∷ xs) ≡ Some ys = sym (ap (λ (b : Bool). if b then Some (f x ∷ xs) else option_map (λ zs. x ∷ zs) (changed p f xs)) here) ∙ is in
      let it : f x ∷ xs ≡ ys = cc now in
      sym (ap (map g) it) ∙ ap (λ y. y ∷ map g xs) (same x))
  | inr there ↦ (let now : option_map (λ zs. x ∷ zs) (changed p f xs) ≡ Some ys = sym (ap (λ (b : Bool). if b then Some (f x ∷ xs) else option_map (λ zs. x ∷ zs) (changed p f xs)) there) ∙ is in
      let rest = mapped_some (λ zs. x ∷ zs) (changed p f xs) ys now in
      sym (ap (map g) rest.2) ∙ ap (λ zs. g x ∷ zs) (changed_map p f g same xs rest.0 rest.1))
]

-- what is told of a queued file for the indices
abbrev pub Named : Type 0
Named = ℕ × Address × Key

abbrev pub named : Entry → Named
named e = (e.number, e.dest, e.key)

any_map : {X Y : Type 0} (p : Y → Bool) (h : X → Y) (xs : List X) → list_any p (map h xs) ≡ list_any (λ x. p (h x)) xs
any_map p h [] = refl
any_map p h (x ∷ xs) = rw (any_map p h xs) refl

all_map : {X Y : Type 0} (p : Y → Bool) (h : X → Y) (xs : List X) → list_all p (map h xs) ≡ list_all (λ x. p (h x)) xs
all_map p h [] = refl
all_map p h (x ∷ xs) = rw (all_map p h xs) refl

map_map : {A B C : Type 0} (f : B → C) (g : A → B) (xs : List A) → map f (map g xs) ≡ map (λ x. f (g x)) xs
map_map f g [] = refl
map_map f g (x ∷ xs) = ap (λ ys. f (g x) ∷ ys) (map_map f g xs)

empty_map : {A B : Type 0} (g : A → B) (xs : List A) → is_empty (map g xs) ≡ is_empty xs
empty_map g [] = refl
empty_map g (x ∷ xs) = refl

-- a queue of the same names
pub agrees_names : (x : Index) (s : State) (queue : List Entry) → map named queue ≡ map named s.queue → Agrees x s → Agrees x (record s { queue = queue })
agrees_names x s queue same agrees = record {
  received = agrees.received;
  refused = agrees.refused;
  queued = files_alike x.queued _ _ (λ a k.
      sym (any_map (λ (n : Named). is_same a k n.1 n.2) named s.queue) ∙ ap (list_any (λ (n : Named). is_same a k n.1 n.2)) (sym same) ∙ any_map (λ (n : Named). is_same a k n.1 n.2) named queue) agrees.queued;
  numbers = numbers_alike x.numbers _ _ (sym (map_map (λ (n : Named). n.0) named s.queue) ∙ ap (map (λ (n : Named). n.0)) (sym same) ∙ map_map (λ (n : Named). n.0) named queue) agrees.numbers;
  receipts = agrees.receipts;
  parts = agrees.parts;
  takes = agrees.takes;
  below = λ n.
      sym (all_map (λ (m : Named). nat_lt m.0 n) named queue) ∙ ap (list_all (λ (m : Named). nat_lt m.0 n)) same ∙ all_map (λ (m : Named). nat_lt m.0 n) named s.queue
      ∙ agrees.below n
      ∙ ap (λ (b : Bool). b || nat_lt x.greatest n) (sym (empty_map named s.queue) ∙ ap is_empty (sym same) ∙ empty_map named queue);
}

-- what is told of a received file for the indices
abbrev pub Filed : Type 0
Filed = ℕ × Address × Key

abbrev pub filed : Receipt → Filed
filed r = (r.number, r.from, r.key)

-- an inbox of the same names
pub agrees_filed : (x : Index) (s : State) (inbox : List Receipt) → map filed inbox ≡ map filed s.inbox → Agrees x s → Agrees x (record s { inbox = inbox })
agrees_filed x s inbox same agrees = record {
  received = files_alike x.received _ _ (λ a k.
      sym (any_map (λ (n : Filed). is_same a k n.1 n.2) filed s.inbox) ∙ ap (list_any (λ (n : Filed). is_same a k n.1 n.2)) (sym same) ∙ any_map (λ (n : Filed). is_same a k n.1 n.2) filed inbox) agrees.received;
  refused = agrees.refused;
  queued = agrees.queued;
  numbers = agrees.numbers;
  receipts = numbers_alike x.receipts _ _ (sym (map_map (λ (n : Filed). n.0) filed s.inbox) ∙ ap (map (λ (n : Filed). n.0)) (sym same) ∙ map_map (λ (n : Filed). n.0) filed inbox) agrees.receipts;
  parts = agrees.parts;
  takes = agrees.takes;
  below = agrees.below;
}

-- where the queue goes such a step, or stays, its names stay
pub names_stay : (result : Result (Unit {0}) FoldFault) (p : Entry → Bool) (f : Entry → Entry) → ((e : Entry) → named (f e) ≡ named e) → (old new : List Entry) → Steps result (changed p f old) old new → map named new ≡ map named old
names_stay (Ok done) p f same old new step = changed_map p f named same old new step
names_stay (Err BadFold) p f same old new step = ap (map named) step.1
names_stay (Err NoMemory) p f same old new step = ap (map named) step

pub filed_stay : (result : Result (Unit {0}) FoldFault) (p : Receipt → Bool) (f : Receipt → Receipt) → ((r : Receipt) → filed (f r) ≡ filed r) → (old new : List Receipt) → Steps result (changed p f old) old new → map filed new ≡ map filed old
filed_stay (Ok done) p f same old new step = changed_map p f filed same old new step
filed_stay (Err BadFold) p f same old new step = ap (map filed) step.1
filed_stay (Err NoMemory) p f same old new step = ap (map filed) step
