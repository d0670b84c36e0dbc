-- The calls on open parts.
use Rattle.std.proofs.Common.{◌≡◌, ◌≢◌, ℕ, zero, suc, ◌+◌, ◌-◌, ◌<◌, ◌≤◌, Bool, true, false, ◌==◌, cond, nat_lt, List, [], ◌∷◌, ◌++◌, Option, Some, None, IsSome, refl, sym, ◌∙◌, ap, subst, arith, length, get_or, set, take, map, option_map, append-nil, position, IsTrue, ◌↔◌}
use Rattle.std.specs.List.{remove}
use Rattle.std.proofs.lemmas.Bool.Decides.{Decides-ltb, Decides-eqb}
use Rattle.std.proofs.lemmas.List.{length-append, length_push, take-append-le, length-take-le}
use Rattle.std.specs.List.{position_or_len}
use Rattle.ftn_addr.specs.Address.{Address}
use Rattle.ftn_addr.specs.Key.{Key}
use Rattle.ftn_addr.specs.Files.{is_same}
use Rattle.node_model.specs.Items.{Mark, MarkOf, Receipt, Refusal}
use Rattle.node_model.specs.Lists.{Each, first_that, without}
use Rattle.node_model.specs.Durable.{Durable, in_place, mark_of, mark_map, unmarked, with_mark, with_receipt}
use Rattle.node_model.specs.Node.{Logged, Mark_record, Received_record, Refused_record}
use Rattle.node_model.specs.Rows.{by}
use Rattle.node_model.specs.Stocks.{Stock, sizes, part_in, begins_with, put_part, part_put, receipt_from, part_committed, part_marked, by_some, by_part, file_refused}
use Rattle.node_model.specs.Stores.{StoreKept, StoreDoes, Part_put, Part_mark, Commit, Refuse_file, Well, changed, placed as with_place, with_bytes, is_ahead, marked_part, committed, refused}
use Rattle.node_model.proofs.Lists.{off, eqb_refl, is_same_refl, Each-weaker}
use Rattle.node_model.proofs.Distinct.{apart_numbers}
use Rattle.node_model.proofs.StockMaps.{first-map, without-map, part_in-map, mark_of-map, begins_with-map, part_put-map, part_marked-map, part_committed-map, by_part-map, file_refused-map}
use Rattle.mem_store.proofs.Kept.{told, still, grew, changed_is}
use Rattle.mem_store.proofs.Lookups.{rest_marks, numbers_apart, mark_there}
use Rattle.mem_store.proofs.Marking.{marks_at, marks_set, unmarked-marks}
use Rattle.mem_store.proofs.Orderly.{SameFile, orderly_set, orderly_close, orderly_receive}
use Rattle.mem_store.proofs.Places.{first_passes, position_is, first_one, without_one}
use Rattle.mem_store.specs.Comings.{Coming, part_of, mark_in, placed, marks_of}
use Rattle.mem_store.specs.ListStates.{ListState, called, durable_of, stock_of, state_of, stand_of}
use Rattle.mem_store.specs.Outsiders.{outside_of}
use Rattle.mem_store.specs.Orders.{IsOrderly, told_parts}
use Rattle.mem_store.specs.Told.{told_are}

abbrev pub InOrder : ListState → Type 0
InOrder s = IsOrderly s.queue s.inbox s.parts s.drawn

-- a part at its place
pub record PartAt (s : ListState) (i : ℕ) (x : Coming) : Type 0 where
  pub order : InOrder s
  pub within : i < length s.parts
  pub is : x ≡ get_or s.parts i x

pub all_told : (s : ListState) → InOrder s → told_parts s.drawn s.parts ≡ map part_of s.parts
all_told s o = told_are s.drawn s.parts o.apart o.numbers

map-set : {A B : Type 0} (f : A → B) (xs : List A) (i : ℕ) (y : A) → map f (set xs i y) ≡ set (map f xs) i (f y)
map-set f [] i y = refl
map-set f (x ∷ xs) zero y = refl
map-set f (x ∷ xs) (suc i) y = ap (λ rest. f x ∷ rest) (map-set f xs i y)

map-remove : {A B : Type 0} (f : A → B) (xs : List A) (i : ℕ) → i < length xs → map f (remove xs i) ≡ remove (map f xs) i
map-remove f [] i lt = absurd (omega (arith, lt))
map-remove f (x ∷ xs) zero lt = refl
map-remove f (x ∷ xs) (suc i) lt = ap (λ rest. f x ∷ rest) (map-remove f xs i (omega arith))

map_set_same : {A B : Type 0} (f : A → B) (xs : List A) (i : ℕ) (x y : A) → i < length xs → x ≡ get_or xs i x → f y ≡ f x → map f (set xs i y) ≡ map f xs
map_set_same f [] i x y lt e same = refl
map_set_same f (z ∷ zs) zero x y lt e same = ap (λ w. w ∷ map f zs) (same ∙ ap f e)
map_set_same f (z ∷ zs) (suc i) x y lt e same = ap (λ rest. f z ∷ rest) (map_set_same f zs i x y (omega arith) e same)

fail_number : (number : ℕ) (x : Coming) (qs : List Coming) → x.number ≡ number → Each (λ (q : Coming). q.number ≢ x.number) qs → Each (λ (q : Coming). (q.number == number) ≡ false) qs
fail_number number x qs is all = Each-weaker (λ (q : Coming). q.number ≢ x.number) (λ (q : Coming). (q.number == number) ≡ false) (λ q ne. apart_numbers q.number number (λ e. ne (e ∙ sym is))) qs all

is_number : (number : ℕ) (x : Coming) → x.number ≡ number → (x.number == number) ≡ true
is_number number x is = subst (λ n. (x.number == n) ≡ true) is (eqb_refl x.number)

-- the part is found under its number
pub part_found : (s : ListState) (number i : ℕ) (x : Coming) → PartAt s i x → x.number ≡ number → part_in number (told_parts s.drawn s.parts) ≡ Some (part_of x)
part_found s number i x at is =
    ap (part_in number) (all_told s at.order) ∙ (first-map part_of (λ (m : Mark). m.number == number) s.parts ∙ ap (option_map part_of) (first_one (λ (p : Coming). p.number == number) s.parts i x at.within at.is (is_number number x is) (fail_number number x (remove s.parts i) is (numbers_apart s.parts i x at.order.apart at.within at.is))))

pub part_sized : (s : ListState) (number i : ℕ) (x : Coming) → PartAt s i x → x.number ≡ number → part_in number (sizes (stock_of s)).parts ≡ Some (mark_map length (part_of x))
part_sized s number i x at is = part_in-map length number (told_parts s.drawn s.parts) ∙ ap (option_map (mark_map length)) (part_found s number i x at is)

-- a part that is open stands somewhere
pub part_stands : (s : ListState) (number : ℕ) (p : MarkOf ℕ) → InOrder s → part_in number (sizes (stock_of s)).parts ≡ Some p → IsSome (first_that (λ (q : Coming). q.number == number) s.parts)
part_stands s number p o is =
    some (first_that (λ (q : Coming). q.number == number) s.parts) (sym (part_in-map length number (told_parts s.drawn s.parts) ∙ ap (λ (ms : List Mark). option_map (mark_map length) (part_in number ms)) (all_told s o) ∙ ap (option_map (mark_map length)) (first-map part_of (λ (m : Mark). m.number == number) s.parts)) ∙ is)
  where
    some : (q : Option Coming) → option_map (mark_map length) (option_map part_of q) ≡ Some p → IsSome q
    some None e = absurd (cc)
    some (Some q) e = refl

some_is : {A : Type 0} {x y : A} → Some x ≡ Some y → x ≡ y
some_is e = cc

-- what is told of it is it
pub part_is : (s : ListState) (number i : ℕ) (x : Coming) (p : MarkOf ℕ) → PartAt s i x → x.number ≡ number → part_in number (sizes (stock_of s)).parts ≡ Some p → mark_map length (part_of x) ≡ p
part_is s number i x p at number_is is = some_is (sym (part_sized s number i x at number_is) ∙ is)

-- the stock of a store
stock : Durable → List Mark → ListState → Stock
stock d parts s = record { state = d; parts = parts; staged = s.staged }

-- Putting.

front-same : (marked : ℕ) (bytes more : List ℕ) → marked ≤ length bytes → take marked (bytes ++ more) ≡ take marked bytes
front-same marked bytes more le = take-append-le marked bytes more le

mark_same : (x y : Coming) → SameFile y x → y.marked ≡ x.marked → take x.marked y.bytes ≡ take x.marked x.bytes → mark_in y ≡ mark_in x
mark_same x y s marked bytes =
    rw (s.number, s.from, s.key, marked, bytes) refl

pub marks_kept : (s : ListState) (i : ℕ) (x y : Coming) → PartAt s i x → SameFile y x → mark_in y ≡ mark_in x → marks_of (set s.parts i y) ≡ marks_of s.parts
marks_kept s i x y at same mark =
    let rest = numbers_apart s.parts i x at.order.apart at.within at.is in
    marks_set s.parts i y at.within (subst (λ n. Each (λ (q : Coming). q.number ≢ n) (remove s.parts i)) (sym same.number) rest) ∙ (ap (λ (m : Option Mark). placed m (marks_of (remove s.parts i))) mark ∙ sym (marks_at s.parts i x at.within at.is rest))

put_same : (x y : Coming) (bytes : List ℕ) → y ≡ record x { bytes = x.bytes ++ bytes } → SameFile y x
put_same x y bytes is = record { number = ap (λ (p : Coming). p.number) is; from = ap (λ (p : Coming). p.from) is; key = ap (λ (p : Coming). p.key) is }

pub order_put : (s : ListState) (i : ℕ) (bytes : List ℕ) (x y : Coming) → PartAt s i x → y ≡ record x { bytes = x.bytes ++ bytes } → IsOrderly s.queue s.inbox (set s.parts i y) s.drawn
order_put s i bytes x y at is = orderly_set s.queue s.inbox s.parts s.drawn i x y at.order at.within at.is (put_same x y bytes is)

pub puts : (s : ListState) (number i : ℕ) (bytes : List ℕ) (x y : Coming) → PartAt s i x → x.number ≡ number → x.marked ≤ length x.bytes → y ≡ record x { bytes = x.bytes ++ bytes } → StoreKept (stand_of s) (Part_put number bytes) Well (stand_of (record s { parts = set s.parts i y }))
puts s number i bytes x y at number_is within is =
    let t : ListState = record s { parts = set s.parts i y } in
    let same = put_same x y bytes is in
    let mark : mark_in y ≡ mark_in x = mark_same x y same (ap (λ (p : Coming). p.marked) is) (ap (λ (p : Coming). take x.marked p.bytes) is ∙ front-same x.marked x.bytes bytes within) in
    let durable : durable_of t ≡ durable_of s = ap (λ (marks : List Mark). record (durable_of s) { marks = marks }) (marks_kept s i x y at same mark) in
    let put : put_part number (λ b. b ++ bytes) (part_of x) ≡ part_of y =
    ap (λ b. cond b (record (part_of x) { bytes = x.bytes ++ bytes }) (part_of x)) (is_number number x number_is) ∙ ap part_of (sym is) in
    let told_after : told_parts s.drawn (set s.parts i y) ≡ map part_of (set s.parts i y) = all_told t (order_put s i bytes x y at is) in
    let changed_parts : map (put_part number (λ b. b ++ bytes)) (map part_of s.parts) ≡ map part_of (set s.parts i y) =
    each_put s.parts i x y at.within at.is number bytes put (fail_number number x (remove s.parts i) number_is (numbers_apart s.parts i x at.order.apart at.within at.is)) in
    let parts : told_parts s.drawn (set s.parts i y) ≡ map (put_part number (λ b. b ++ bytes)) (told_parts s.drawn s.parts) = told_after ∙ sym (ap (map (put_part number (λ b. b ++ bytes))) (all_told s at.order) ∙ changed_parts) in
    let all : stock_of t ≡ part_put number (λ b. b ++ bytes) (stock_of s) = λ j. record { state = durable j; parts = parts j; staged = s.staged } in
    let made : state_of t ≡ with_bytes number bytes (state_of s) =
    (ap (λ (z : Stock). told z s.log s) all ∙ ap (λ (log : List Logged). told (part_put number (λ b. b ++ bytes) (stock_of s)) log s) (sym (append-nil s.log))) ∙ changed_is (stock_of s) s.log s (part_put number (λ n. n + length bytes)) (part_put number (λ b. b ++ bytes)) [] (part_put-map length number (λ b. b ++ bytes) (λ n. n + length bytes) (λ b. length-append b bytes) (stock_of s)) in
    still s t (Part_put number bytes) Well made refl (ap (λ (d : Durable). record { state = d; recorded = s.recorded; takes = λ name. None; outside = outside_of s.outside; gifts = s.gifts }) durable)
  where
    each_put : (ps : List Coming) (i : ℕ) (x y : Coming) → i < length ps → x ≡ get_or ps i x → (number : ℕ) (bytes : List ℕ) → put_part number (λ b. b ++ bytes) (part_of x) ≡ part_of y → Each (λ (q : Coming). (q.number == number) ≡ false) (remove ps i) → map (put_part number (λ b. b ++ bytes)) (map part_of ps) ≡ map part_of (set ps i y)
    each_put [] i x y lt e number bytes put all = absurd (omega (arith, lt))
    each_put (p ∷ ps) zero x y lt e number bytes put all = ap (λ (m : Mark). m ∷ map (put_part number (λ b. b ++ bytes)) (map part_of ps)) (ap (λ (q : Coming). put_part number (λ b. b ++ bytes) (part_of q)) (sym e) ∙ put) ∙ ap (λ (ms : List Mark). part_of y ∷ ms) (rest ps all)
      where
        rest : (qs : List Coming) → Each (λ (q : Coming). (q.number == number) ≡ false) qs → map (put_part number (λ b. b ++ bytes)) (map part_of qs) ≡ map part_of qs
        rest [] all = refl
        rest (q ∷ qs) all = ap (λ b. cond b (record (part_of q) { bytes = q.bytes ++ bytes }) (part_of q) ∷ map (put_part number (λ b. b ++ bytes)) (map part_of qs)) all.0 ∙ ap (λ (ms : List Mark). part_of q ∷ ms) (rest qs all.1)
    each_put (p ∷ ps) (suc i) x y lt e number bytes put all =
        ap (λ b. cond b (record (part_of p) { bytes = p.bytes ++ bytes }) (part_of p) ∷ map (put_part number (λ b. b ++ bytes)) (map part_of ps)) all.0 ∙ ap (λ (ms : List Mark). part_of p ∷ ms) (each_put ps i x y (omega arith) e number bytes put all.1)

-- What a call sees.

-- a part that was told before the call was counted is told after that
pub seen : (s old : ListState) (number : ℕ) (p : MarkOf ℕ) → s ≡ called old → part_in number (sizes (stock_of old)).parts ≡ Some p → part_in number (sizes (stock_of s)).parts ≡ Some p
seen s old number p same is = subst (λ (z : ListState). part_in number (sizes (stock_of z)).parts ≡ Some p) (sym same) is

pub at_place : (s : ListState) (i : ℕ) (x : Coming) (parts : List Coming) → InOrder s → parts ≡ s.parts → i < length parts → x ≡ get_or s.parts i x → PartAt s i x
at_place s i x parts o same lt is = record { order = o; within = subst (λ (ps : List Coming). i < length ps) same lt; is = is }

pub number_at : (s : ListState) (number i : ℕ) (x : Coming) (parts : List Coming) → parts ≡ s.parts → i ≡ position_or_len (λ (p : Coming). p.number == number) parts → i < length parts → x ≡ get_or s.parts i x → x.number ≡ number
number_at s number i x parts same first lt is =
    (Decides-eqb x.number number).0 (first_passes (λ (p : Coming). p.number == number) s.parts i x (subst (λ (ps : List Coming). i ≡ position_or_len (λ (p : Coming). p.number == number) ps) same first) (subst (λ (ps : List Coming). i < length ps) same lt) is)

pub fits_there : (s : ListState) (number i : ℕ) (x : Coming) (p : MarkOf ℕ) (more : ℕ) → PartAt s i x → x.number ≡ number → part_in number (sizes (stock_of s)).parts ≡ Some p → p.bytes + more ≤ p.key.size → length x.bytes + more ≤ x.key.size
fits_there s number i x p more at number_is is fits = subst (λ (q : MarkOf ℕ). q.bytes + more ≤ q.key.size) (sym (part_is s number i x p at number_is is)) fits

-- Marking.

same_part : (x y : Coming) → y ≡ record x { marked = length x.bytes } → SameFile y x
same_part x y is = record { number = ap (λ (p : Coming). p.number) is; from = ap (λ (p : Coming). p.from) is; key = ap (λ (p : Coming). p.key) is }

take-all : (bytes : List ℕ) → take (length bytes) bytes ≡ bytes
take-all [] = refl
take-all (b ∷ bytes) = ap (λ rest. b ∷ rest) (take-all bytes)

some_eqb : (n : ℕ) → 0 < n → (n == 0) ≡ false
some_eqb n lt = apart_numbers n 0 (λ e. omega (arith, e, lt))

-- all that a part has is its mark
mark_whole : (x y : Coming) → y ≡ record x { marked = length x.bytes } → 0 < length x.bytes → mark_in y ≡ Some (part_of x)
mark_whole x y is lt = ap mark_in is ∙ (ap (λ b. cond b None (Some (record { number = x.number; from = x.from; key = x.key; bytes = take (length x.bytes) x.bytes }))) (some_eqb (length x.bytes) lt) ∙ ap (λ (bytes : List ℕ). Some (record { number = x.number; from = x.from; key = x.key; bytes = bytes })) (take-all x.bytes))

pub begins_is : (x : Coming) → begins_with [] (mark_in x) ≡ take x.marked x.bytes
begins_is x = go (x.marked == 0) refl
  where
    go : (b : Bool) → (x.marked == 0) ≡ b → begins_with [] (mark_in x) ≡ take x.marked x.bytes
    go true e = ap (λ c. begins_with [] (cond c None (Some (record { number = x.number; from = x.from; key = x.key; bytes = take x.marked x.bytes })))) e ∙ ap (λ n. take n x.bytes) (sym ((Decides-eqb x.marked 0).0 e))
    go false e = ap (λ c. begins_with [] (cond c None (Some (record { number = x.number; from = x.from; key = x.key; bytes = take x.marked x.bytes })))) e

-- how much the mark of a part's sender and key has
pub marked_told : (s : ListState) (from : Address) (key : Key) (i : ℕ) (x : Coming) → PartAt s i x → is_same from key x.from x.key ≡ true → x.marked ≤ length x.bytes → begins_with 0 (mark_of from key (sizes (stock_of s)).state) ≡ x.marked
marked_told s from key i x at same within =
    ap (begins_with 0) (mark_of-map length from key (durable_of s)) ∙ (sym (begins_with-map length [] (mark_of from key (durable_of s))) ∙ (ap (λ (o : Option Mark). length (begins_with [] o)) (mark_there from key s.parts i x at.order.apart at.within at.is same) ∙ (ap length (begins_is x) ∙ length-take-le x.marked x.bytes within)))

-- one that has no more than its mark stays
pub marks_nothing : (s : ListState) (number i : ℕ) (x : Coming) → PartAt s i x → x.number ≡ number → x.marked ≤ length x.bytes → length x.bytes ≤ x.marked → StoreKept (stand_of s) (Part_mark number) Well (stand_of s)
marks_nothing s number i x at number_is within least =
    let told_mark = marked_told s x.from x.key i x at (is_same_refl x.from x.key) within in
    let behind : is_ahead (mark_map length (part_of x)) (state_of s) ≡ false = ap (λ n. nat_lt n (length x.bytes)) told_mark ∙ not_less x.marked (length x.bytes) least in
    still s s (Part_mark number) Well (mark_map length (part_of x), part_sized s number i x at number_is, sym (ap (λ b. cond b (with_place (changed (by_part x.number (λ part z. part_marked part z)) (by_part x.number (λ part z. part_marked part z)) (Mark_record x.number x.from x.key (length x.bytes) ∷ []) (state_of s))) (state_of s)) behind)) refl refl
  where
    not_less : (a b : ℕ) → b ≤ a → nat_lt a b ≡ false
    not_less a b le = go (nat_lt a b) refl
      where
        go : (c : Bool) → nat_lt a b ≡ c → nat_lt a b ≡ false
        go true e = let lt : a < b = (Decides-ltb a b).0 e in absurd (omega (arith, lt, le))
        go false e = e

pub order_mark : (s : ListState) (i : ℕ) (x y : Coming) → PartAt s i x → y ≡ record x { marked = length x.bytes } → IsOrderly s.queue s.inbox (set s.parts i y) s.drawn
order_mark s i x y at is = orderly_set s.queue s.inbox s.parts s.drawn i x y at.order at.within at.is (same_part x y is)

abbrev marked_after : ListState → ℕ → Coming → Coming → ListState
marked_after s i x y = record s { parts = set s.parts i y; log = s.log ++ by s.seat (Mark_record x.number x.from x.key (length x.bytes)); reserved = s.reserved - 1 }

pub marks : (s : ListState) (number i : ℕ) (x y : Coming) → PartAt s i x → x.number ≡ number → x.marked ≤ length x.bytes → x.marked < length x.bytes → y ≡ record x { marked = length x.bytes } → StoreKept (stand_of s) (Part_mark number) Well (stand_of (marked_after s i x y))
marks s number i x y at number_is within more is =
    let t = marked_after s i x y in
    let p = part_of x in
    let same = same_part x y is in
    let rest = numbers_apart s.parts i x at.order.apart at.within at.is in
    let placed_marks : marks_of (set s.parts i y) ≡ in_place p (unmarked x.from x.key (marks_of s.parts)) =
    marks_set s.parts i y at.within (subst (λ n. Each (λ (q : Coming). q.number ≢ n) (remove s.parts i)) (sym same.number) rest) ∙ (ap (λ (m : Option Mark). placed m (marks_of (remove s.parts i))) (mark_whole x y is (omega (arith, more))) ∙ ap (in_place p) (sym (rest_marks x.from x.key s.parts i x at.order.apart at.within at.is (is_same_refl x.from x.key)))) in
    let durable : durable_of t ≡ with_mark p (durable_of s) = ap (λ (ms : List Mark). record (durable_of s) { marks = ms }) placed_marks in
    let parts : told_parts s.drawn (set s.parts i y) ≡ told_parts s.drawn s.parts = all_told t (order_mark s i x y at is) ∙ (map_set_same part_of s.parts i x y at.within at.is (ap part_of is) ∙ sym (all_told s at.order)) in
    let found = part_found s x.number i x at refl in
    let all : stock_of t ≡ by_part x.number (λ part z. part_marked part z) (stock_of s) =
    (λ j. record { state = durable j; parts = parts j; staged = s.staged }) ∙ sym (ap (λ (o : Option Mark). by_some o (λ part z. part_marked part z) (stock_of s)) found) in
    let change : state_of t ≡ with_place (changed (by_part x.number (λ part z. part_marked part z)) (by_part x.number (λ part z. part_marked part z)) (Mark_record x.number x.from x.key (length x.bytes) ∷ []) (state_of s)) =
    ap (λ (z : Stock). told z t.log (record s { reserved = s.reserved - 1 })) all ∙ changed_is (stock_of s) s.log (record s { reserved = s.reserved - 1 }) (by_part x.number (λ part z. part_marked part z)) (by_part x.number (λ part z. part_marked part z)) (Mark_record x.number x.from x.key (length x.bytes) ∷ []) (by_part-map length x.number (λ part z. part_marked part z) (λ part z. part_marked part z) (λ q z. part_marked-map length q z) (stock_of s)) in
    let told_mark = marked_told s x.from x.key i x at (is_same_refl x.from x.key) within in
    let ahead : is_ahead (mark_map length p) (state_of s) ≡ true = ap (λ n. nat_lt n (length x.bytes)) told_mark ∙ (Decides-ltb x.marked (length x.bytes)).1 more in
    let made : state_of t ≡ marked_part (mark_map length p) (state_of s) =
    change ∙ sym (ap (λ b. cond b (with_place (changed (by_part x.number (λ part z. part_marked part z)) (by_part x.number (λ part z. part_marked part z)) (Mark_record x.number x.from x.key (length x.bytes) ∷ []) (state_of s))) (state_of s)) ahead) in
    let does : StoreDoes (state_of s) (Part_mark number) Well (state_of t) = (mark_map length p, part_sized s number i x at number_is, made) in
    grew s t (Part_mark number) Well does does (omega (arith, length_push s.log (record { seat = s.seat; entry = Mark_record x.number x.from x.key (length x.bytes) }))) refl

-- Committing.

pub order_commit : (s : ListState) (i : ℕ) (x : Coming) (r : Receipt) (secure : Bool) → PartAt s i x → r ≡ receipt_from (part_of x) secure → IsOrderly s.queue (s.inbox ++ r ∷ []) (remove s.parts i) s.drawn
order_commit s i x r secure at is = orderly_receive s.queue s.inbox s.parts s.drawn i x r at.order at.within at.is (ap (λ (q : Receipt). q.number) is)

abbrev committed_after : ListState → ℕ → Coming → Receipt → ℕ → Bool → ListState
committed_after s i x r session secure = record s { inbox = s.inbox ++ r ∷ []; parts = remove s.parts i; log = s.log ++ by s.seat (Received_record x.number x.from x.key session secure); reserved = s.reserved - 1 }

pub commits : (s : ListState) (number i session : ℕ) (secure : Bool) (x : Coming) (r : Receipt) → PartAt s i x → x.number ≡ number → r ≡ receipt_from (part_of x) secure → StoreKept (stand_of s) (Commit number session secure) Well (stand_of (committed_after s i x r session secure))
commits s number i session secure x r at number_is is =
    let t = committed_after s i x r session secure in
    let p = part_of x in
    let durable : durable_of t ≡ with_receipt (receipt_from p secure) (durable_of s) =
    let gone = sym (rest_marks x.from x.key s.parts i x at.order.apart at.within at.is (is_same_refl x.from x.key)) in
    λ j. record { queue = s.queue; inbox = s.inbox ++ is j ∷ []; refused = s.refused; marks = gone j } in
    let left : told_parts s.drawn (remove s.parts i) ≡ without (λ (m : Mark). m.number == x.number) (told_parts s.drawn s.parts) =
    all_told t (order_commit s i x r secure at is) ∙ (ap (map part_of) (sym (without_one (λ (q : Coming). q.number == x.number) s.parts i x at.within at.is (is_number x.number x refl) (fail_number x.number x (remove s.parts i) refl (numbers_apart s.parts i x at.order.apart at.within at.is)))) ∙ (sym (without-map part_of (λ (m : Mark). m.number == x.number) s.parts) ∙ ap (without (λ (m : Mark). m.number == x.number)) (sym (all_told s at.order)))) in
    let all : stock_of t ≡ by_part x.number (λ part z. part_committed part secure z) (stock_of s) =
    (λ j. record { state = durable j; parts = left j; staged = s.staged }) ∙ sym (ap (λ (o : Option Mark). by_some o (λ part z. part_committed part secure z) (stock_of s)) (part_found s x.number i x at refl)) in
    let made : state_of t ≡ committed (mark_map length p) session secure (state_of s) =
    ap (λ (z : Stock). told z t.log (record s { reserved = s.reserved - 1 })) all ∙ changed_is (stock_of s) s.log (record s { reserved = s.reserved - 1 }) (by_part x.number (λ part z. part_committed part secure z)) (by_part x.number (λ part z. part_committed part secure z)) (Received_record x.number x.from x.key session secure ∷ []) (by_part-map length x.number (λ part z. part_committed part secure z) (λ part z. part_committed part secure z) (λ q z. part_committed-map length q secure z) (stock_of s)) in
    let does : StoreDoes (state_of s) (Commit number session secure) Well (state_of t) = (mark_map length p, part_sized s number i x at number_is, made) in
    grew s t (Commit number session secure) Well does does (omega (arith, length_push s.log (record { seat = s.seat; entry = Received_record x.number x.from x.key session secure }))) refl

-- Refusing.

pub order_refuse : (s : ListState) (from : Address) (key : Key) → InOrder s → IsOrderly s.queue s.inbox (without (λ (p : Coming). is_same from key p.from p.key) s.parts) s.drawn
order_refuse s from key o = orderly_close s.queue s.inbox s.parts s.drawn (λ (p : Coming). is_same from key p.from p.key) o

abbrev refused_after : ListState → Address → Key → ℕ → ℕ → Refusal → ListState
refused_after s from key session reason r = record s { refused = s.refused ++ r ∷ []; parts = without (λ (p : Coming). is_same from key p.from p.key) s.parts; log = s.log ++ by s.seat (Refused_record from key session reason); reserved = s.reserved - 1 }

pub refuses_file : (s : ListState) (from : Address) (key : Key) (session reason : ℕ) (r : Refusal) → InOrder s → r ≡ record { from = from; key = key } → StoreKept (stand_of s) (Refuse_file from key session reason) Well (stand_of (refused_after s from key session reason r))
refuses_file s from key session reason r o is =
    let t = refused_after s from key session reason r in
    let q : Refusal = record { from = from; key = key } in
    let left : told_parts s.drawn t.parts ≡ unmarked from key (told_parts s.drawn s.parts) =
    all_told t (order_refuse s from key o) ∙ (sym (without-map part_of (λ (m : Mark). is_same from key m.from m.key) s.parts) ∙ ap (unmarked from key) (sym (all_told s o))) in
    let all : stock_of t ≡ file_refused q (stock_of s) =
    let gone = sym (unmarked-marks from key s.parts) in
    λ j. record { state = record { queue = s.queue; inbox = s.inbox; refused = s.refused ++ is j ∷ []; marks = gone j }; parts = left j; staged = s.staged } in
    let does : state_of t ≡ refused q session reason (state_of s) =
    ap (λ (z : Stock). told z t.log (record s { reserved = s.reserved - 1 })) all ∙ changed_is (stock_of s) s.log (record s { reserved = s.reserved - 1 }) (file_refused q) (file_refused q) (Refused_record from key session reason ∷ []) (file_refused-map length q (stock_of s)) in
    grew s t (Refuse_file from key session reason) Well does does (omega (arith, length_push s.log (record { seat = s.seat; entry = Refused_record from key session reason }))) refl

-- whether a part has more than its mark

pub is_more : (b : Bool) (m n : ℕ) → (IsTrue b ↔ (m < n)) → b ≡ true → m < n
is_more true m n h e = h.0 refl
is_more false m n h e = off (sym e)

pub is_no_more : (b : Bool) (m n : ℕ) → (IsTrue b ↔ (m < n)) → b ≡ false → n ≤ m
is_no_more true m n h e = off e
is_no_more false m n h e = low (λ lt. off (sym (h.1 lt)))
  where
    low : (m < n → ⊥) → n ≤ m
    low k = omega (arith, k)

same_default : {X : Type 0} (xs : List X) (i : ℕ) (d e : X) → i < length xs → get_or xs i d ≡ get_or xs i e
same_default [] i d e lt = absurd (omega (arith, lt))
same_default (x ∷ xs) zero d e lt = refl
same_default (x ∷ xs) (suc i) d e lt = same_default xs i d e (omega arith)

-- a part that is read twice is one
pub one_part : (ps : List Coming) (i : ℕ) (x y : Coming) → i < length ps → x ≡ get_or ps i x → y ≡ get_or ps i y → x ≡ y
one_part ps i x y lt a b = a ∙ (same_default ps i x y lt ∙ sym b)

-- A part that is found is one that is told.

pub part_here : (s : ListState) (number i : ℕ) (x : Coming) (parts : List Coming) (found : Option ℕ) → InOrder s → parts ≡ s.parts → found ≡ position (λ (p : Coming). p.number == number) parts → found ≡ Some i → x ≡ get_or s.parts i x → part_in number (sizes (stock_of s)).parts ≡ Some (mark_map length (part_of x))
part_here s number i x parts found o same is some x_is =
    let there = position_is (λ (p : Coming). p.number == number) s.parts i (ap (position (λ (p : Coming). p.number == number)) (sym same) ∙ (sym is ∙ some)) in
    let at : PartAt s i x = record { order = o; within = there.1; is = x_is } in
    part_sized s number i x at ((Decides-eqb x.number number).0 (first_passes (λ (p : Coming). p.number == number) s.parts i x there.0 there.1 x_is))
