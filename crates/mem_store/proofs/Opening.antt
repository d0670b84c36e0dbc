-- A part is opened: again, or under a new number.
use Rattle.std.proofs.Common.{◌≡◌, ◌≢◌, ℕ, zero, suc, ◌+◌, max, ◌<◌, ◌≤◌, true, false, ◌==◌, cond, List, [], ◌∷◌, ◌++◌, Option, Some, None, refl, sym, ◌∙◌, ap, subst, arith, length, get_or, take, map, option_map, append-nil, position}
use Rattle.std.specs.List.{remove}
use Rattle.std.proofs.lemmas.List.{map_push, length-take-le}
use Rattle.ftn_addr.specs.Address.{Address}
use Rattle.ftn_addr.specs.Key.{Key}
use Rattle.ftn_addr.specs.Files.{is_same}
use Rattle.ftn_addr.specs.declared.limits.TheConstants.{MAX_NUMBER}
use Rattle.node_model.specs.declared.store.StoreFault.TheVariants.{Full}
use Rattle.node_model.specs.Items.{Mark}
use Rattle.node_model.specs.Lists.{Each}
use Rattle.node_model.specs.Durable.{mark_of, mark_map, unmarked}
use Rattle.node_model.specs.Node.{Logged}
use Rattle.node_model.specs.Stocks.{Stock, sizes, part_of as part_of_file, next_part, part_number, draws_number, begins_with, part_opened}
use Rattle.node_model.specs.Stores.{StoreKept, StoreDoes, Part_open, Part_opened, Refuses, changed, shelf_of}
use Rattle.node_model.proofs.Lists.{is_same_true, Each-weaker}
use Rattle.node_model.proofs.StockMaps.{first-map, without-map, part_of-map, mark_of-map, part_number-map, part_opened-map}
use Rattle.mem_store.proofs.Kept.{told, still, changed_is}
use Rattle.mem_store.proofs.Lookups.{numbers_apart, mark_there, no_mark}
use Rattle.mem_store.proofs.Marking.{marks_at, marks_push, mark_is}
use Rattle.mem_store.proofs.Orderly.{SameFile, apart_rest, orderly_again, orderly_open}
use Rattle.mem_store.proofs.PartCalls.{InOrder, PartAt, all_told, marked_told, begins_is}
use Rattle.mem_store.proofs.Places.{first_passes, position_is, no_position, each_at, first_one, first_none, without_one, without_all}
use Rattle.mem_store.specs.Comings.{Coming, part_of, mark_in, placed, marks_of, back_to_mark}
use Rattle.mem_store.specs.ListStates.{ListState, found_full, durable_of, stock_of, stored_of, state_of, stand_of}
use Rattle.mem_store.specs.Outsiders.{outside_of}
use Rattle.mem_store.specs.Orders.{Apart, IsDrawn, IsOrderly, told_parts}

others_fail : (s : ListState) (from : Address) (key : Key) (i : ℕ) (x : Coming) → PartAt s i x → is_same from key x.from x.key ≡ true → Each (λ (q : Coming). is_same from key q.from q.key ≡ false) (remove s.parts i)
others_fail s from key i x at same =
    let h = is_same_true from key x.from x.key same in
    Each-weaker (Apart x) (λ (q : Coming). is_same from key q.from q.key ≡ false) (λ q a. rw (h.0, h.1) a.1) (remove s.parts i) (apart_rest s.parts i x at.order.apart at.within at.is)

file_found : (s : ListState) (from : Address) (key : Key) (i : ℕ) (x : Coming) → PartAt s i x → is_same from key x.from x.key ≡ true → part_of_file from key (told_parts s.drawn s.parts) ≡ Some (part_of x)
file_found s from key i x at same =
    ap (part_of_file from key) (all_told s at.order) ∙ (first-map part_of (λ (m : Mark). is_same from key m.from m.key) s.parts ∙ ap (option_map part_of) (first_one (λ (p : Coming). is_same from key p.from p.key) s.parts i x at.within at.is same (others_fail s from key i x at same)))

-- an open part keeps its number
number_again : (s : ListState) (from : Address) (key : Key) (i : ℕ) (x : Coming) → PartAt s i x → is_same from key x.from x.key ≡ true → part_number from key s.drawn (sizes (stock_of s)) ≡ x.number
number_again s from key i x at same =
    part_number-map length from key s.drawn (stock_of s) ∙ (ap (λ (o : Option Mark). next_part o (part_of_file from key (told_parts s.drawn s.parts)) s.drawn) (mark_there from key s.parts i x at.order.apart at.within at.is same) ∙ (ap (λ (o : Option Mark). next_part (mark_in x) o s.drawn) (file_found s from key i x at same) ∙ go (mark_in x) refl))
  where
    go : (o : Option Mark) → mark_in x ≡ o → next_part o (Some (part_of x)) s.drawn ≡ x.number
    go None is = refl
    go (Some m) is = (mark_is x m is).number

take-take : (n : ℕ) (bytes : List ℕ) → n ≤ length bytes → take n (take n bytes) ≡ take n bytes
take-take n bytes le = subst (λ k. take k (take n bytes) ≡ take n bytes) (length-take-le n bytes le) (all (take n bytes))
  where
    all : (xs : List ℕ) → take (length xs) xs ≡ xs
    all [] = refl
    all (x ∷ xs) = ap (λ rest. x ∷ rest) (all xs)

mark_again : (x : Coming) → x.marked ≤ length x.bytes → mark_in (back_to_mark x) ≡ mark_in x
mark_again x within = ap (λ (bytes : List ℕ). cond (x.marked == 0) None (Some (record { number = x.number; from = x.from; key = x.key; bytes = bytes }))) (take-take x.marked x.bytes within)

same_again : (x : Coming) → SameFile (back_to_mark x) x
same_again x = record { number = refl; from = refl; key = refl }

pub order_again : (s : ListState) (i : ℕ) (x : Coming) → PartAt s i x → IsOrderly s.queue s.inbox (remove s.parts i ++ back_to_mark x ∷ []) s.drawn
order_again s i x at = orderly_again s.queue s.inbox s.parts s.drawn i x (back_to_mark x) at.order at.within at.is (same_again x)

abbrev again_after : ListState → ℕ → Coming → ListState
again_after s i x = record s { parts = remove s.parts i ++ back_to_mark x ∷ [] }

-- the stock after an opening under that number
abbrev OpenedAs : (s t : ListState) (from : Address) (key : Key) (number : ℕ) → Type 0
OpenedAs s t from key number =
    state_of t ≡ record (changed (part_opened from key number 0) (part_opened from key number []) [] (state_of s)) { drawn = max s.drawn number }

opened_as : (s t : ListState) (from : Address) (key : Key) (number : ℕ) → stock_of t ≡ part_opened from key number [] (stock_of s) → (drawn : ℕ) → t ≡ record s { parts = t.parts; drawn = drawn } → drawn ≡ max s.drawn number → OpenedAs s t from key number
opened_as s t from key number all drawn is risen =
    ap (λ (z : Stock). told z t.log t) all ∙ (ap (λ (z : ListState). told (part_opened from key number [] (stock_of s)) z.log z) is ∙ (ap (λ (log : List Logged). told (part_opened from key number [] (stock_of s)) log (record s { drawn = drawn })) (sym (append-nil s.log)) ∙ (changed_is (stock_of s) s.log (record s { drawn = drawn }) (part_opened from key number 0) (part_opened from key number []) [] (part_opened-map length from key number [] (stock_of s)) ∙ ap (λ n. record (changed (part_opened from key number 0) (part_opened from key number []) [] (state_of s)) { drawn = n }) risen)))

shelf_same : (s t : ListState) → durable_of t ≡ durable_of s → t.recorded ≡ s.recorded → t.outside ≡ s.outside → t.gifts ≡ s.gifts → shelf_of (stored_of t) ≡ shelf_of (stored_of s)
shelf_same s t durable recorded outside gifts =
    λ j. record { state = durable j; recorded = recorded j; takes = λ name. None; outside = outside_of (outside j); gifts = gifts j }

pub opens_again : (s : ListState) (from : Address) (key : Key) (i : ℕ) (x : Coming) → PartAt s i x → is_same from key x.from x.key ≡ true → x.marked ≤ length x.bytes → s.drawn ≤ MAX_NUMBER → StoreKept (stand_of s) (Part_open from key) (Part_opened x.number x.marked) (stand_of (again_after s i x))
opens_again s from key i x at same within few =
    let t = again_after s i x in
    let h = is_same_true from key x.from x.key same in
    let y = back_to_mark x in
    let rest = numbers_apart s.parts i x at.order.apart at.within at.is in
    let marks : marks_of t.parts ≡ marks_of s.parts =
    marks_push (remove s.parts i) y rest ∙ (ap (λ (o : Option Mark). placed o (marks_of (remove s.parts i))) (mark_again x within) ∙ sym (marks_at s.parts i x at.within at.is rest)) in
    let durable : durable_of t ≡ durable_of s = ap (λ (ms : List Mark). record (durable_of s) { marks = ms }) marks in
    let left : map part_of (remove s.parts i) ≡ unmarked from key (told_parts s.drawn s.parts) =
    ap (map part_of) (sym (without_one (λ (p : Coming). is_same from key p.from p.key) s.parts i x at.within at.is same (others_fail s from key i x at same))) ∙ (sym (without-map part_of (λ (m : Mark). is_same from key m.from m.key) s.parts) ∙ ap (unmarked from key) (sym (all_told s at.order))) in
    let begins : begins_with [] (mark_of from key (durable_of s)) ≡ take x.marked x.bytes = ap (begins_with []) (mark_there from key s.parts i x at.order.apart at.within at.is same) ∙ begins_is x in
    let parts : told_parts s.drawn t.parts ≡ unmarked from key (told_parts s.drawn s.parts) ++ record { number = x.number; from = from; key = key; bytes = begins_with [] (mark_of from key (durable_of s)) } ∷ [] =
    all_told t (order_again s i x at) ∙ (map_push part_of (remove s.parts i) y ∙ last left h.0 h.1 begins) in
    let number = number_again s from key i x at same in
    let drawn_enough : x.number ≤ s.drawn = (each_at (IsDrawn s.drawn) s.parts i x at.order.numbers at.within at.is).1 in
    let all : stock_of t ≡ part_opened from key x.number [] (stock_of s) = λ j. record { state = durable j; parts = parts j; staged = s.staged } in
    let made : OpenedAs s t from key x.number = opened_as s t from key x.number all s.drawn refl (omega (arith, drawn_enough)) in
    let does : StoreDoes (state_of s) (Part_open from key) (Part_opened x.number x.marked) (state_of t) =
    (sym number, sym (marked_told s from key i x at same within), omega (arith, drawn_enough, few), subst (OpenedAs s t from key) (sym number) made) in
    still s t (Part_open from key) (Part_opened x.number x.marked) does refl (shelf_same s t durable refl refl refl)
  where
    last : {left all : List Mark} → left ≡ all → from ≡ x.from → key ≡ x.key → begins_with [] (mark_of from key (durable_of s)) ≡ take x.marked x.bytes → left ++ part_of (back_to_mark x) ∷ [] ≡ all ++ record { number = x.number; from = from; key = key; bytes = begins_with [] (mark_of from key (durable_of s)) } ∷ []
    last e f k b = let f' = sym f in let k' = sym k in let b' = sym b in λ j. e j ++ record { number = x.number; from = f' j; key = k' j; bytes = b' j } ∷ []

-- A new part.

pub order_open : (s : ListState) (from : Address) (key : Key) (y : Coming) → InOrder s → y ≡ record { number = s.drawn + 1; from = from; key = key; bytes = []; marked = 0 } → Each (λ (p : Coming). is_same from key p.from p.key ≡ false) s.parts → IsOrderly s.queue s.inbox (s.parts ++ y ∷ []) (s.drawn + 1)
order_open s from key y o is none =
    orderly_open s.queue s.inbox s.parts s.drawn y o (ap (λ (p : Coming). p.number) is) (subst (λ (z : Coming). Each (λ (p : Coming). is_same z.from z.key p.from p.key ≡ false) s.parts) (sym is) none)

no_file : (s : ListState) (from : Address) (key : Key) → InOrder s → Each (λ (p : Coming). is_same from key p.from p.key ≡ false) s.parts → part_of_file from key (told_parts s.drawn s.parts) ≡ None
no_file s from key o none =
    ap (part_of_file from key) (all_told s o) ∙ (first-map part_of (λ (m : Mark). is_same from key m.from m.key) s.parts ∙ ap (option_map part_of) (first_none (λ (p : Coming). is_same from key p.from p.key) s.parts none))

number_new : (s : ListState) (from : Address) (key : Key) → InOrder s → Each (λ (p : Coming). is_same from key p.from p.key ≡ false) s.parts → part_number from key s.drawn (sizes (stock_of s)) ≡ s.drawn + 1
number_new s from key o none =
    part_number-map length from key s.drawn (stock_of s) ∙ (ap (λ (p : Option Mark). next_part p (part_of_file from key (told_parts s.drawn s.parts)) s.drawn) (no_mark from key s.parts none) ∙ ap (λ (p : Option Mark). next_part None p s.drawn) (no_file s from key o none))

abbrev new_after : ListState → Coming → ListState
new_after s y = record s { parts = s.parts ++ y ∷ []; drawn = s.drawn + 1 }

pub opens_new : (s : ListState) (from : Address) (key : Key) (y : Coming) → InOrder s → y ≡ record { number = s.drawn + 1; from = from; key = key; bytes = []; marked = 0 } → Each (λ (p : Coming). is_same from key p.from p.key ≡ false) s.parts → s.drawn + 1 ≤ MAX_NUMBER → StoreKept (stand_of s) (Part_open from key) (Part_opened (s.drawn + 1) 0) (stand_of (new_after s y))
opens_new s from key y o is none few =
    let t = new_after s y in
    let rest : Each (λ (q : Coming). q.number ≢ y.number) s.parts = Each-weaker (IsDrawn s.drawn) (λ (q : Coming). q.number ≢ y.number) (λ q d same. omega (arith, d.1, same, ap (λ (p : Coming). p.number) is)) s.parts o.numbers in
    let marks : marks_of t.parts ≡ marks_of s.parts = marks_push s.parts y rest ∙ ap (λ (p : Coming). placed (mark_in p) (marks_of s.parts)) is in
    let durable : durable_of t ≡ durable_of s = ap (λ (ms : List Mark). record (durable_of s) { marks = ms }) marks in
    let left : map part_of s.parts ≡ unmarked from key (told_parts s.drawn s.parts) =
    ap (map part_of) (sym (without_all (λ (p : Coming). is_same from key p.from p.key) s.parts none)) ∙ (sym (without-map part_of (λ (m : Mark). is_same from key m.from m.key) s.parts) ∙ ap (unmarked from key) (sym (all_told s o))) in
    let begins : begins_with [] (mark_of from key (durable_of s)) ≡ [] = ap (begins_with []) (no_mark from key s.parts none) in
    let parts : told_parts (s.drawn + 1) t.parts ≡ unmarked from key (told_parts s.drawn s.parts) ++ record { number = s.drawn + 1; from = from; key = key; bytes = begins_with [] (mark_of from key (durable_of s)) } ∷ [] =
    all_told t (order_open s from key y o is none) ∙ (map_push part_of s.parts y ∙ last left (ap part_of is) begins) in
    let number = number_new s from key o none in
    let all : stock_of t ≡ part_opened from key (s.drawn + 1) [] (stock_of s) = λ j. record { state = durable j; parts = parts j; staged = s.staged } in
    let made : OpenedAs s t from key (s.drawn + 1) = opened_as s t from key (s.drawn + 1) all (s.drawn + 1) refl (omega arith) in
    let empty : 0 ≡ begins_with 0 (mark_of from key (sizes (stock_of s)).state) = sym (ap (begins_with 0) (mark_of-map length from key (durable_of s) ∙ ap (option_map (mark_map length)) (no_mark from key s.parts none))) in
    let does : StoreDoes (state_of s) (Part_open from key) (Part_opened (s.drawn + 1) 0) (state_of t) =
    (sym number, empty, few, subst (OpenedAs s t from key) (sym number) made) in
    still s t (Part_open from key) (Part_opened (s.drawn + 1) 0) does refl (shelf_same s t durable refl refl refl)
  where
    last : {left all : List Mark} → left ≡ all → part_of y ≡ record { number = s.drawn + 1; from = from; key = key; bytes = [] } → begins_with [] (mark_of from key (durable_of s)) ≡ [] → left ++ part_of y ∷ [] ≡ all ++ record { number = s.drawn + 1; from = from; key = key; bytes = begins_with [] (mark_of from key (durable_of s)) } ∷ []
    last {all = all} e f b = let b' = sym b in (λ j. e j ++ f j ∷ []) ∙ (λ j. all ++ record { number = s.drawn + 1; from = from; key = key; bytes = b' j } ∷ [])

-- no number is left
pub opens_full : (s : ListState) (from : Address) (key : Key) → InOrder s → Each (λ (p : Coming). is_same from key p.from p.key ≡ false) s.parts → s.drawn ≡ MAX_NUMBER → StoreKept (stand_of s) (Part_open from key) (Refuses Full) (stand_of (found_full s))
opens_full s from key o none full =
    let mark : mark_of from key (sizes (stock_of s)).state ≡ None = mark_of-map length from key (durable_of s) ∙ ap (option_map (mark_map length)) (no_mark from key s.parts none) in
    let part : part_of_file from key (sizes (stock_of s)).parts ≡ None = part_of-map length from key (told_parts s.drawn s.parts) ∙ ap (option_map (mark_map length)) (no_file s from key o none) in
    let draws : draws_number (mark_of from key (sizes (stock_of s)).state) (part_of_file from key (sizes (stock_of s)).parts) ≡ true = (λ j. draws_number (mark j) (part j)) in
    still s (found_full s) (Part_open from key) (Refuses Full) ((draws, full), refl) refl refl

same_default : {X : Type 0} (xs : List X) (i : ℕ) (d e : X) → i < length xs → get_or xs i d ≡ get_or xs i e
same_default [] i d e lt = absurd (omega (arith, lt))
same_default (x ∷ xs) zero d e lt = refl
same_default (x ∷ xs) (suc i) d e lt = same_default xs i d e (omega arith)

-- the part at a place
pub part_at : List Coming → ℕ → Coming
part_at parts i = get_or parts i (record { number = 0; from = record { zone = 0; net = 0; node = 0; point = 0; domain = [] }; key = record { name = []; size = 0; time = 0 }; bytes = []; marked = 0 })

pub part_at-is : (parts : List Coming) (i : ℕ) → i < length parts → part_at parts i ≡ get_or parts i (part_at parts i)
unfolding part_at
part_at-is parts i lt = same_default parts i _ _ lt

-- what a call sees of a part of that sender and key

pub file_at : (s : ListState) (from : Address) (key : Key) (i : ℕ) (parts : List Coming) (found : Option ℕ) → InOrder s → parts ≡ s.parts → found ≡ position (λ (p : Coming). is_same from key p.from p.key) parts → found ≡ Some i → PartAt s i (part_at s.parts i) × (is_same from key (part_at s.parts i).from (part_at s.parts i).key ≡ true)
file_at s from key i parts found o same is some =
    let there = position_is (λ (p : Coming). is_same from key p.from p.key) s.parts i (ap (position (λ (p : Coming). is_same from key p.from p.key)) (sym same) ∙ (sym is ∙ some)) in
    let x_is = part_at-is s.parts i there.1 in
    (record { order = o; within = there.1; is = x_is }, first_passes (λ (p : Coming). is_same from key p.from p.key) s.parts i (part_at s.parts i) there.0 there.1 x_is)

pub no_file_at : (s : ListState) (from : Address) (key : Key) (parts : List Coming) (found : Option ℕ) → parts ≡ s.parts → found ≡ position (λ (p : Coming). is_same from key p.from p.key) parts → found ≡ None → Each (λ (p : Coming). is_same from key p.from p.key ≡ false) s.parts
no_file_at s from key parts found same is none =
    no_position (λ (p : Coming). is_same from key p.from p.key) s.parts (ap (position (λ (p : Coming). is_same from key p.from p.key)) (sym same) ∙ (sym is ∙ none))

pub file_there : (s : ListState) (from : Address) (key : Key) (i : ℕ) (x : Coming) (parts : List Coming) (found : Option ℕ) → InOrder s → parts ≡ s.parts → found ≡ position (λ (p : Coming). is_same from key p.from p.key) parts → found ≡ Some i → x ≡ get_or s.parts i x → PartAt s i x × (is_same from key x.from x.key ≡ true)
file_there s from key i x parts found o same is some x_is =
    let there = position_is (λ (p : Coming). is_same from key p.from p.key) s.parts i (ap (position (λ (p : Coming). is_same from key p.from p.key)) (sym same) ∙ (sym is ∙ some)) in
    (record { order = o; within = there.1; is = x_is }, first_passes (λ (p : Coming). is_same from key p.from p.key) s.parts i x there.0 there.1 x_is)
