-- What a store's calls do to its stock, seen with the bytes and without them: each change of a stock goes along with a
-- view of its contents.
use Rattle.std.proofs.Common.{◌≡◌, ℕ, Bool, true, false, not, ◌||◌, ◌==◌, cond, nat_lt, List, [], ◌∷◌, Option, Some, None, refl, sym, ◌∙◌, ap, map, option_map}
use Rattle.std.proofs.lemmas.List.{map_push}
use Rattle.ftn_addr.specs.Address.{Address}
use Rattle.ftn_addr.specs.Files.{is_same}
use Rattle.ftn_addr.specs.Key.{Key}
use Rattle.node_model.specs.declared.words.Known.TheVariants.{New as Not_known, Received, Refused}
use Rattle.node_model.specs.Items.{Done, EntryOf, ReceiptOf, Refusal, MarkOf}
use Rattle.node_model.specs.Lists.{some_passes, without, first_that}
use Rattle.node_model.specs.Durable.{DurableOf, is_refused, mark_of, mark_map, entry_map, receipt_map, durable_map, unmarked, in_place, with_receipt, with_refusal, with_mark, with_done, done_entry}
use Rattle.node_model.specs.Stocks.{StockOf, staged_map, stock_map, known_in, part_in, part_of, next_part, part_number, begins_with, part_opened, put_part, part_put, part_closed, receipt_from, part_committed, by_some, by_part, part_marked, on_state, file_refused, file_staged}

-- lists

pub without-map : {A B : Type 0} (f : A → B) (p : B → Bool) (xs : List A) → without p (map f xs) ≡ map f (without (λ x. p (f x)) xs)
without-map f p [] = refl
without-map {A} {B} f p (x ∷ xs) = go (p (f x)) (without-map f p xs)
  where
    go : (b : Bool) → without p (map f xs) ≡ map f (without (λ x. p (f x)) xs) → cond (not b) (f x ∷ without p (map f xs)) (without p (map f xs)) ≡ map f (cond (not b) (x ∷ without (λ x. p (f x)) xs) (without (λ x. p (f x)) xs))
    go true e = e
    go false e = ap (λ rest. f x ∷ rest) e

pub first-map : {A B : Type 0} (f : A → B) (p : B → Bool) (xs : List A) → first_that p (map f xs) ≡ option_map f (first_that (λ x. p (f x)) xs)
first-map f p [] = refl
first-map {A} {B} f p (x ∷ xs) = go (p (f x)) (first-map f p xs)
  where
    go : (b : Bool) → first_that p (map f xs) ≡ option_map f (first_that (λ x. p (f x)) xs) → cond b (Some (f x)) (first_that p (map f xs)) ≡ option_map f (cond b (Some x) (first_that (λ x. p (f x)) xs))
    go true e = refl
    go false e = e

pub some-map : {A B : Type 0} (f : A → B) (p : B → Bool) (xs : List A) → some_passes p (map f xs) ≡ some_passes (λ x. p (f x)) xs
some-map f p [] = refl
some-map f p (x ∷ xs) = ap (λ rest. p (f x) || rest) (some-map f p xs)

pub map-map_as : {A B C D : Type 0} (f : B → C) (g : A → B) (h : D → C) (k : A → D) → ((x : A) → f (g x) ≡ h (k x)) → (xs : List A) → map f (map g xs) ≡ map h (map k xs)
map-map_as f g h k e [] = refl
map-map_as f g h k e (x ∷ xs) = ap (λ y. y ∷ map f (map g xs)) (e x) ∙ ap (λ rest. h (k x) ∷ rest) (map-map_as f g h k e xs)

-- marks

pub unmarked-map : {A B : Type 0} (f : A → B) (from : Address) (key : Key) (ms : List (MarkOf A)) → map (mark_map f) (unmarked from key ms) ≡ unmarked from key (map (mark_map f) ms)
unmarked-map {A} {B} f from key ms = sym (without-map (mark_map f) (λ (m : MarkOf B). is_same from key m.from m.key) ms)

pub in_place-map : {A B : Type 0} (f : A → B) (m : MarkOf A) (ms : List (MarkOf A)) → map (mark_map f) (in_place m ms) ≡ in_place (mark_map f m) (map (mark_map f) ms)
in_place-map f m [] = refl
in_place-map {A} {B} f m (x ∷ ms) = go (nat_lt m.number x.number) (in_place-map f m ms)
  where
    go : (b : Bool) → map (mark_map f) (in_place m ms) ≡ in_place (mark_map f m) (map (mark_map f) ms) → map (mark_map f) (cond b (m ∷ x ∷ ms) (x ∷ in_place m ms)) ≡ cond b (mark_map f m ∷ mark_map f x ∷ map (mark_map f) ms) (mark_map f x ∷ in_place (mark_map f m) (map (mark_map f) ms))
    go true e = refl
    go false e = ap (λ rest. mark_map f x ∷ rest) e

pub mark_of-map : {A B : Type 0} (f : A → B) (from : Address) (key : Key) (d : DurableOf A) → mark_of from key (durable_map f d) ≡ option_map (mark_map f) (mark_of from key d)
mark_of-map {A} {B} f from key d = first-map (mark_map f) (λ (m : MarkOf B). is_same from key m.from m.key) d.marks

pub part_of-map : {A B : Type 0} (f : A → B) (from : Address) (key : Key) (ms : List (MarkOf A)) → part_of from key (map (mark_map f) ms) ≡ option_map (mark_map f) (part_of from key ms)
part_of-map {A} {B} f from key ms = first-map (mark_map f) (λ (m : MarkOf B). is_same from key m.from m.key) ms

pub part_in-map : {A B : Type 0} (f : A → B) (number : ℕ) (ms : List (MarkOf A)) → part_in number (map (mark_map f) ms) ≡ option_map (mark_map f) (part_in number ms)
part_in-map {A} {B} f number ms = first-map (mark_map f) (λ (m : MarkOf B). m.number == number) ms

pub next_part-map : {A B : Type 0} (f : A → B) (m p : Option (MarkOf A)) (drawn : ℕ) → next_part (option_map (mark_map f) m) (option_map (mark_map f) p) drawn ≡ next_part m p drawn
next_part-map f (Some m) p drawn = refl
next_part-map f None (Some p) drawn = refl
next_part-map f None None drawn = refl

pub part_number-map : {A B : Type 0} (f : A → B) (from : Address) (key : Key) (drawn : ℕ) (s : StockOf A) → part_number from key drawn (stock_map f s) ≡ part_number from key drawn s
part_number-map f from key drawn s =
    rw (mark_of-map f from key s.state, part_of-map f from key s.parts) (next_part-map f (mark_of from key s.state) (part_of from key s.parts) drawn)

pub begins_with-map : {A B : Type 0} (f : A → B) (none : A) (m : Option (MarkOf A)) → f (begins_with none m) ≡ begins_with (f none) (option_map (mark_map f) m)
begins_with-map f none None = refl
begins_with-map f none (Some m) = refl

-- what is known

pub known_in-map : {A B : Type 0} (f : A → B) (from : Address) (key : Key) (d : DurableOf A) → known_in from key (durable_map f d) ≡ known_in from key d
known_in-map {A} {B} f from key d =
    ap (λ b. cond b Received (cond (is_refused from key d) Refused Not_known)) (some-map (receipt_map f) (λ (r : ReceiptOf B). is_same from key r.from r.key) d.inbox)

-- the durable changes

pub with_receipt-map : {A B : Type 0} (f : A → B) (r : ReceiptOf A) (d : DurableOf A) → durable_map f (with_receipt r d) ≡ with_receipt (receipt_map f r) (durable_map f d)
with_receipt-map f r d = rw (map_push (receipt_map f) d.inbox r, unmarked-map f r.from r.key d.marks) refl

pub with_refusal-map : {A B : Type 0} (f : A → B) (r : Refusal) (d : DurableOf A) → durable_map f (with_refusal r d) ≡ with_refusal r (durable_map f d)
with_refusal-map f r d = rw (unmarked-map f r.from r.key d.marks) refl

pub with_mark-map : {A B : Type 0} (f : A → B) (m : MarkOf A) (d : DurableOf A) → durable_map f (with_mark m d) ≡ with_mark (mark_map f m) (durable_map f d)
with_mark-map f m d = rw (in_place-map f m (unmarked m.from m.key d.marks), unmarked-map f m.from m.key d.marks) refl

pub done-map : {A B : Type 0} (f : A → B) (number : ℕ) (e : EntryOf A) → entry_map f (done_entry number e) ≡ done_entry number (entry_map f e)
done-map {A} {B} f number e = go (e.number == number)
  where
    go : (b : Bool) → entry_map f (cond b (record e { body = Done }) e) ≡ cond b (record (entry_map f e) { body = Done }) (entry_map f e)
    go true = refl
    go false = refl

pub with_done-map : {A B : Type 0} (f : A → B) (number : ℕ) (d : DurableOf A) → durable_map f (with_done number d) ≡ with_done number (durable_map f d)
with_done-map f number d =
    ap (λ queue. record (durable_map f d) { queue = queue }) (map-map_as (entry_map f) (done_entry number) (done_entry number) (entry_map f) (done-map f number) d.queue)

-- the changes of a stock

pub on_state-map : {A B : Type 0} (f : A → B) (g : DurableOf A → DurableOf A) (h : DurableOf B → DurableOf B) (s : StockOf A) → durable_map f (g s.state) ≡ h (durable_map f s.state) → stock_map f (on_state g s) ≡ on_state h (stock_map f s)
on_state-map f g h s e = ap (λ state. record (stock_map f s) { state = state }) e

pub part_opened-map : {A B : Type 0} (f : A → B) (from : Address) (key : Key) (number : ℕ) (none : A) (s : StockOf A) → stock_map f (part_opened from key number none s) ≡ part_opened from key number (f none) (stock_map f s)
part_opened-map f from key number none s =
    ap (λ parts. record (stock_map f s) { parts = parts }) (map_push (mark_map f) (unmarked from key s.parts) _ ∙ rw (unmarked-map f from key s.parts, begins_with-map f none (mark_of from key s.state), ← mark_of-map f from key s.state) refl)

pub put-map : {A B : Type 0} (f : A → B) (number : ℕ) (more : A → A) (more_of : B → B) → ((a : A) → f (more a) ≡ more_of (f a)) → (p : MarkOf A) → mark_map f (put_part number more p) ≡ put_part number more_of (mark_map f p)
put-map {A} {B} f number more more_of e p = go (p.number == number)
  where
    go : (b : Bool) → mark_map f (cond b (record p { bytes = more p.bytes }) p) ≡ cond b (record (mark_map f p) { bytes = more_of (f p.bytes) }) (mark_map f p)
    go true = ap (λ bytes. record (mark_map f p) { bytes = bytes }) (e p.bytes)
    go false = refl

pub part_put-map : {A B : Type 0} (f : A → B) (number : ℕ) (more : A → A) (more_of : B → B) → ((a : A) → f (more a) ≡ more_of (f a)) → (s : StockOf A) → stock_map f (part_put number more s) ≡ part_put number more_of (stock_map f s)
part_put-map f number more more_of e s =
    ap (λ parts. record (stock_map f s) { parts = parts }) (map-map_as (mark_map f) (put_part number more) (put_part number more_of) (mark_map f) (put-map f number more more_of e) s.parts)

pub part_closed-map : {A B : Type 0} (f : A → B) (number : ℕ) (s : StockOf A) → stock_map f (part_closed number s) ≡ part_closed number (stock_map f s)
part_closed-map {A} {B} f number s =
    ap (λ parts. record (stock_map f s) { parts = parts }) (sym (without-map (mark_map f) (λ (m : MarkOf B). m.number == number) s.parts))

pub part_committed-map : {A B : Type 0} (f : A → B) (p : MarkOf A) (secure : Bool) (s : StockOf A) → stock_map f (part_committed p secure s) ≡ part_committed (mark_map f p) secure (stock_map f s)
part_committed-map {A} {B} f p secure s =
    ap (λ (t : StockOf B). record t { state = durable_map f (with_receipt (receipt_from p secure) s.state) }) (part_closed-map f p.number s) ∙ ap (λ state. record (part_closed p.number (stock_map f s)) { state = state }) (with_receipt-map f (receipt_from p secure) s.state)

pub part_marked-map : {A B : Type 0} (f : A → B) (p : MarkOf A) (s : StockOf A) → stock_map f (part_marked p s) ≡ part_marked (mark_map f p) (stock_map f s)
part_marked-map f p s = ap (λ state. record (stock_map f s) { state = state }) (with_mark-map f p s.state)

-- a change by an open part
pub by_part-map : {A B : Type 0} (f : A → B) (number : ℕ) (g : MarkOf A → StockOf A → StockOf A) (h : MarkOf B → StockOf B → StockOf B) → ((p : MarkOf A) (s : StockOf A) → stock_map f (g p s) ≡ h (mark_map f p) (stock_map f s)) → (s : StockOf A) → stock_map f (by_part number g s) ≡ by_part number h (stock_map f s)
by_part-map {A} {B} f number g h e s = go (part_in number s.parts) ∙ ap (λ o. by_some o h (stock_map f s)) (sym (part_in-map f number s.parts))
  where
    go : (o : Option (MarkOf A)) → stock_map f (by_some o g s) ≡ by_some (option_map (mark_map f) o) h (stock_map f s)
    go None = refl
    go (Some p) = e p s

pub file_refused-map : {A B : Type 0} (f : A → B) (r : Refusal) (s : StockOf A) → stock_map f (file_refused r s) ≡ file_refused r (stock_map f s)
file_refused-map f r s = rw (unmarked-map f r.from r.key s.state.marks, unmarked-map f r.from r.key s.parts) refl

pub file_staged-map : {A B : Type 0} (f : A → B) (number : ℕ) (content : A) (s : StockOf A) → stock_map f (file_staged number content s) ≡ file_staged number (f content) (stock_map f s)
file_staged-map f number content s =
    ap (λ staged. record (stock_map f s) { staged = staged }) (map_push (staged_map f) s.staged _)
