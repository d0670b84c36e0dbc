-- How a script of reads is played, act by act.
use Rattle.std.proofs.Common.{◌≡◌, ◌≢◌, ℕ, ◌+◌, ◌-◌, ◌<◌, ◌≤◌, Bool, true, false, List, [], ◌∷◌, ◌++◌, length, map, take, drop, Some, None, IsSome, nat_lt, get_or, arith, rules, refl, sym, ◌∙◌, ap, subst}
use Rattle.std.specs.Prelude.{min}
use Rattle.std.proofs.lemmas.List.{get_or-map, drop_more, take_more, length-drop, drop-drop, append_assoc, append-nil, take-append-drop, length-map}
use Rattle.std.proofs.lemmas.Bool.{cond_below, cond_above, cond_both, ltb-false}
use Rattle.std.proofs.lemmas.Grind.{flat_map-append}
use Rattle.std.proofs.Math.Seq.{take-add, take-nil}
use Rattle.std.proofs.Math.ListN.{drop_of_length-le}
use Rattle.binkp_link.specs.declared.acts.ReadAct.{ReadAct}
use Rattle.binkp_link.specs.Scripts.{Act, Bytes, Not_yet, Quiet, Failed, Script, act_of, act_bytes, script_bytes, AllGiveSome, first_act, first_bytes, without_front, past_not_yet, heeded, place_on, played, turn_at, read_turn, PlaysRead}
use Rattle.binkp_link.specs.Lines.{MayRead}
use Rattle.binkp_link.specs.declared.link.ReadAnswer.{ReadAnswer}

-- the act at a place is the first of those left
pub acts_at : (acts items : List ReadAct) (i : ℕ) (a act : ReadAct) → acts ≡ items → i < length acts → a ≡ get_or acts i a → a ≡ act → drop i (map act_of items) ≡ act_of act ∷ drop (i + 1) (map act_of items)
acts_at acts items i a act e below is a_is =
    let below_map : i < length (map act_of acts) = omega (arith, below, length-map acts act_of) in
    let P : List ReadAct → Type 0 = λ x. drop i (map act_of x) ≡ act_of act ∷ drop (i + 1) (map act_of x) in
    subst P e (drop_more (map act_of acts) i (act_of a) below_map ∙ ap (λ (x : Act). x ∷ drop (i + 1) (map act_of acts)) (get_or-map act_of acts i a (act_of a) below ∙ ap act_of (sym is ∙ a_is)))

-- the place in an act of bytes is before its end
pub place_within : (acts rest : List Act) (place : ℕ) (bytes : List ℕ) → acts ≡ Bytes bytes ∷ rest → AllGiveSome (without_front place acts) → place < length bytes
place_within acts rest place bytes e some =
    let P : List Act → Type 0 = λ x. AllGiveSome (without_front place x) in
    let has : 0 < length (drop place bytes) = (subst P e some).0 in
    omega (arith, has, length-drop place bytes)

-- what comes next, seen from the acts left
pub next_is : (acts rest : List Act) (act : Act) (place : ℕ) (taken : List ℕ) (script : Script) → acts ≡ act ∷ rest → record { taken = taken; left = without_front place acts } ≡ script → first_act (without_front place (act ∷ rest)) ≡ first_act script.left
next_is acts rest act place taken script e view =
    ap (λ (x : List Act). first_act (without_front place x)) (sym e) ∙ ap (λ (s : Script). first_act s.left) view

-- Without a byte given, the act is as it was.
pub without_none : (acts : List Act) → without_front 0 acts ≡ acts
without_none [] = refl
without_none (Bytes bytes ∷ acts) = refl
without_none (Not_yet ∷ acts) = refl
without_none (Quiet ∷ acts) = refl
without_none (Failed ∷ acts) = refl

-- An act that has more bytes goes on.
pub goes_on : (acts : List Act) (place n : ℕ) → n < length (first_bytes acts) - place → without_front (place + n) acts ≡ played n (without_front place acts)
goes_on [] place n more = absurd (omega (arith, more))
goes_on (Bytes bytes ∷ acts) place n more =
    let below : n < length (drop place bytes) = omega (arith, more, length-drop place bytes) in
    ap (λ (x : List ℕ). Bytes x ∷ acts) (sym (drop-drop n place bytes)) ∙ cond_below n (length (drop place bytes)) _ _ below
goes_on (Not_yet ∷ acts) place n more = absurd (omega (arith, more))
goes_on (Quiet ∷ acts) place n more = absurd (omega (arith, more))
goes_on (Failed ∷ acts) place n more = absurd (omega (arith, more))

pub goes_on_some : (acts : List Act) (place n : ℕ) → n < length (first_bytes acts) - place → AllGiveSome (without_front place acts) → AllGiveSome (without_front (place + n) acts)
goes_on_some [] place n more some = absurd (omega (arith, more))
goes_on_some (Bytes bytes ∷ acts) place n more some = (omega (arith, more, length-drop (place + n) bytes), some.1)
goes_on_some (Not_yet ∷ acts) place n more some = absurd (omega (arith, more))
goes_on_some (Quiet ∷ acts) place n more some = absurd (omega (arith, more))
goes_on_some (Failed ∷ acts) place n more some = absurd (omega (arith, more))

-- the bytes given of an act, and n more of those that it has left
pub more_taken : (act : Act) (acts : List Act) (place n : ℕ) → take (place + n) (act_bytes act) ≡ take place (act_bytes act) ++ take n (first_bytes (without_front place (act ∷ acts)))
more_taken (Bytes bytes) acts place n = take-add place n bytes
more_taken Not_yet acts place n = grind (arith, rules, take-nil)
more_taken Quiet acts place n = grind (arith, rules, take-nil)
more_taken Failed acts place n = grind (arith, rules, take-nil)

pub goes_on_taken : (before : List ℕ) (acts : List Act) (place n : ℕ) → n < length (first_bytes acts) - place → before ++ take (place + n) (first_bytes acts) ≡ (before ++ take place (first_bytes acts)) ++ take n (first_bytes (without_front place acts))
goes_on_taken before [] place n more = absurd (omega (arith, more))
goes_on_taken before (act ∷ acts) place n more =
    ap (λ (x : List ℕ). before ++ x) (more_taken act acts place n) ∙ sym (append_assoc before _ _)

-- An act that has none left is over.
pub is_over : (act : Act) (acts : List Act) (place n : ℕ) → length (act_bytes act) - place ≤ n → acts ≡ played n (without_front place (act ∷ acts))
is_over (Bytes bytes) acts place n none = cond_above n (length (drop place bytes)) _ _ _ (omega (arith, none, length-drop place bytes)) refl
is_over Not_yet acts place n none = cond_above n 0 _ _ _ (omega arith) refl
is_over Quiet acts place n none = cond_above n 0 _ _ _ (omega arith) refl
is_over Failed acts place n none = cond_above n 0 _ _ _ (omega arith) refl

pub is_over_some : (act : Act) (acts : List Act) (place : ℕ) → AllGiveSome (without_front place (act ∷ acts)) → AllGiveSome acts
is_over_some (Bytes bytes) acts place some = some.1
is_over_some Not_yet acts place some = some.1
is_over_some Quiet acts place some = some.1
is_over_some Failed acts place some = some.1

absurd_some : IsSome (first_act []) → ⊥
absurd_some some = cc

-- past the end no act is left
pub is_within : (items : List Act) (i place : ℕ) → IsSome (first_act (without_front place (drop i items))) → i < length items
is_within items i place some =
    let past : length items ≤ i → ⊥ = λ h. let P : List Act → Type 0 = λ x. IsSome (first_act (without_front place x)) in absurd_some (subst P (drop_of_length-le items h) some) in
    omega (arith, past)

-- no place where an act has no more bytes
pub none_on : (len place n : ℕ) → None ≡ place_on len place n → len - place ≤ n
none_on len place n is =
    let no : n < len - place → ⊥ = λ h. let some : None ≡ Some (place + n) = is ∙ sym (cond_below n (len - place) (Some (place + n)) None h) in cc in
    omega (arith, no)

-- the act that comes next, and those behind it
pub next_at : (items : List Act) (i : ℕ) → i < length items → drop i items ≡ get_or items i Quiet ∷ drop (i + 1) items
next_at items i below = drop_more items i Quiet below

pub act_over : (items : List Act) (i place n : ℕ) → i < length items → None ≡ place_on (length (first_bytes (drop i items))) place n → length (act_bytes (get_or items i Quiet)) - place ≤ n
act_over items i place n below none =
    let P : List Act → Type 0 = λ x. None ≡ place_on (length (first_bytes x)) place n in
    none_on _ place n (subst P (next_at items i below) none)

pub passes_left : (items : List Act) (i place n : ℕ) → IsSome (first_act (without_front place (drop i items))) → None ≡ place_on (length (first_bytes (drop i items))) place n → without_front 0 (drop (i + 1) items) ≡ played n (without_front place (drop i items))
passes_left items i place n some none =
    let below = is_within items i place some in
    let P : List Act → Type 0 = λ x. without_front 0 (drop (i + 1) items) ≡ played n (without_front place x) in
    subst P (sym (next_at items i below)) (without_none (drop (i + 1) items) ∙ is_over (get_or items i Quiet) (drop (i + 1) items) place n (act_over items i place n below none))

pub passes_some : (items : List Act) (i place : ℕ) → IsSome (first_act (without_front place (drop i items))) → AllGiveSome (without_front place (drop i items)) → AllGiveSome (without_front 0 (drop (i + 1) items))
passes_some items i place some all =
    let below = is_within items i place some in
    let P : List Act → Type 0 = λ x. AllGiveSome (without_front place x) in
    let Q : List Act → Type 0 = λ x. AllGiveSome x in
    subst Q (sym (without_none (drop (i + 1) items))) (is_over_some (get_or items i Quiet) (drop (i + 1) items) place (subst P (next_at items i below) all))

take_all : (n : ℕ) (xs : List ℕ) → length xs ≤ n → take n xs ≡ xs
take_all n xs h = sym (append-nil (take n xs)) ∙ ap (λ (x : List ℕ). take n xs ++ x) (sym (drop_of_length-le xs h)) ∙ take-append-drop n xs

-- one more act is over
script_more : (items : List Act) (i : ℕ) → i < length items → script_bytes (take (i + 1) items) ≡ script_bytes (take i items) ++ act_bytes (get_or items i Quiet)
script_more items i below =
    ap script_bytes (take_more items i Quiet below) ∙ flat_map-append act_bytes (take i items) (get_or items i Quiet ∷ []) ∙ ap (λ (x : List ℕ). script_bytes (take i items) ++ x) (append-nil (act_bytes (get_or items i Quiet)))

-- the rest of an act's bytes end it
ends_act : (act : Act) (acts : List Act) (place n : ℕ) → length (act_bytes act) - place ≤ n → act_bytes act ≡ take place (act_bytes act) ++ take n (first_bytes (without_front place (act ∷ acts)))
ends_act act acts place n none = sym (take_all (place + n) (act_bytes act) (omega (arith, none))) ∙ more_taken act acts place n

pub passes_taken : (items : List Act) (i place n : ℕ) → IsSome (first_act (without_front place (drop i items))) → None ≡ place_on (length (first_bytes (drop i items))) place n → script_bytes (take (i + 1) items) ++ take 0 (first_bytes (drop (i + 1) items)) ≡ (script_bytes (take i items) ++ take place (first_bytes (drop i items))) ++ take n (first_bytes (without_front place (drop i items)))
passes_taken items i place n some none =
    let below = is_within items i place some in
    let act = get_or items i Quiet in
    let before = script_bytes (take i items) in
    let P : List Act → Type 0 = λ x. script_bytes (take (i + 1) items) ++ [] ≡ (before ++ take place (first_bytes x)) ++ take n (first_bytes (without_front place x)) in
    subst P (sym (next_at items i below)) (append-nil _ ∙ script_more items i below ∙ ap (λ (x : List ℕ). before ++ x) (ends_act act (drop (i + 1) items) place n (act_over items i place n below none)) ∙ sym (append_assoc before _ _))

-- the bytes of the act at a place
pub bytes_at : (acts : List ReadAct) (i : ℕ) (a : ReadAct) → i < length acts → a ≡ get_or acts i a → act_bytes (act_of a) ≡ first_bytes (drop i (map act_of acts))
bytes_at acts i a below is = ap first_bytes (sym (acts_at acts acts i a a refl below is refl))

-- the place in an act, by whether it has more bytes
pub place_more : (len place n : ℕ) → n < len - place → Some (place + n) ≡ place_on len place n
place_more len place n more = cond_below n (len - place) (Some (place + n)) None more

pub place_none : (len place n : ℕ) → len - place ≤ n → None ≡ place_on len place n
place_none len place n none = cond_above n (len - place) (Some (place + n)) None None none refl

pub some_below : (len place n next : ℕ) → Some next ≡ place_on len place n → n < len - place
some_below len place n next is =
    let no : len - place ≤ n → ⊥ = λ h. let wrong : Some next ≡ None = is ∙ sym (place_none len place n h) in cc in
    omega (arith, no)

pub some_place : (len place n next : ℕ) → Some next ≡ place_on len place n → next ≡ place + n
some_place len place n next is =
    let same : Some next ≡ Some (place + n) = is ∙ sym (place_more len place n (some_below len place n next is)) in cc

-- a NotYet that comes next is passed over
pub passes_not_yet : (acts : List Act) → Some Not_yet ≡ first_act acts → past_not_yet (played 0 acts) ≡ past_not_yet acts
passes_not_yet [] is = absurd (cc)
passes_not_yet (Bytes bytes ∷ acts) is = absurd (cc)
passes_not_yet (Not_yet ∷ acts) is = refl
passes_not_yet (Quiet ∷ acts) is = absurd (cc)
passes_not_yet (Failed ∷ acts) is = absurd (cc)

pub fewer_not_yet : (acts : List Act) → Some Not_yet ≡ first_act acts → length (played 0 acts) < length acts
fewer_not_yet [] is = absurd (cc)
fewer_not_yet (Bytes bytes ∷ acts) is = absurd (cc)
fewer_not_yet (Not_yet ∷ acts) is = omega arith
fewer_not_yet (Quiet ∷ acts) is = absurd (cc)
fewer_not_yet (Failed ∷ acts) is = absurd (cc)

-- another act isn't passed over
pub stays : (acts : List Act) → first_act acts ≢ Some Not_yet → acts ≡ past_not_yet acts
stays [] other = refl
stays (Bytes bytes ∷ acts) other = refl
stays (Not_yet ∷ acts) other = absurd (other refl)
stays (Quiet ∷ acts) other = refl
stays (Failed ∷ acts) other = refl

-- What a read gives and the bytes of the acts left are the bytes that were to come.
pub played_bytes : (act : Act) (acts : List Act) (n : ℕ) → n ≤ length (act_bytes act) → script_bytes (act ∷ acts) ≡ take n (act_bytes act) ++ script_bytes (played n (act ∷ acts))
played_bytes (Bytes bytes) acts n within =
    let P : List Act → Type 0 = λ x. bytes ++ script_bytes acts ≡ take n bytes ++ script_bytes x in
    cond_both (nat_lt n (length bytes)) (Bytes (drop n bytes) ∷ acts) acts P
    (λ e. ap (λ (x : List ℕ). x ++ script_bytes acts) (sym (take-append-drop n bytes)) ∙ append_assoc (take n bytes) (drop n bytes) (script_bytes acts))
    (λ e. let over : length bytes ≤ n = omega (arith, ltb-false n (length bytes) e) in ap (λ (x : List ℕ). x ++ script_bytes acts) (sym (take_all n bytes over)))
played_bytes Not_yet acts n within =
    let over : acts ≡ played n (Not_yet ∷ acts) = cond_above n 0 _ _ _ (omega arith) refl in
    let none : List ℕ = [] in
    sym (ap (λ (x : List ℕ). x ++ script_bytes acts) (take-nil n)) ∙ ap (λ (x : List Act). take n none ++ script_bytes x) over
played_bytes Quiet acts n within =
    let over : acts ≡ played n (Quiet ∷ acts) = cond_above n 0 _ _ _ (omega arith) refl in
    let none : List ℕ = [] in
    sym (ap (λ (x : List ℕ). x ++ script_bytes acts) (take-nil n)) ∙ ap (λ (x : List Act). take n none ++ script_bytes x) over
played_bytes Failed acts n within =
    let over : acts ≡ played n (Failed ∷ acts) = cond_above n 0 _ _ _ (omega arith) refl in
    let none : List ℕ = [] in
    sym (ap (λ (x : List ℕ). x ++ script_bytes acts) (take-nil n)) ∙ ap (λ (x : List Act). take n none ++ script_bytes x) over

turn_bytes : (wait : Bool) (room : ℕ) (acts : List Act) → script_bytes acts ≡ (turn_at wait room acts).bytes ++ script_bytes (turn_at wait room acts).left
turn_bytes wait room [] = refl
turn_bytes wait room (Bytes bytes ∷ acts) = played_bytes (Bytes bytes) acts (min (length bytes) room) (omega arith)
turn_bytes wait room (Not_yet ∷ acts) = refl
turn_bytes true room (Quiet ∷ acts) = refl
turn_bytes false room (Quiet ∷ acts) = refl
turn_bytes wait room (Failed ∷ acts) = refl

past_bytes : (acts : List Act) → script_bytes acts ≡ script_bytes (past_not_yet acts)
past_bytes [] = refl
past_bytes (Bytes bytes ∷ acts) = refl
past_bytes (Not_yet ∷ acts) = past_bytes acts
past_bytes (Quiet ∷ acts) = refl
past_bytes (Failed ∷ acts) = refl

heeded_bytes : (wait : Bool) (acts : List Act) → script_bytes acts ≡ script_bytes (heeded wait acts)
heeded_bytes true acts = past_bytes acts
heeded_bytes false acts = refl

pub read_bytes : (wait : Bool) (room : ℕ) (acts left : List Act) (answer : ReadAnswer) (gave : List ℕ) → PlaysRead (read_turn wait room acts) answer gave left → script_bytes acts ≡ gave ++ script_bytes left
read_bytes wait room acts left answer gave plays =
    heeded_bytes wait acts ∙ turn_bytes wait room (heeded wait acts) ∙ ap (λ (x : List ℕ). x ++ script_bytes (read_turn wait room acts).left) (sym plays.bytes_are) ∙ ap (λ (x : List Act). gave ++ script_bytes x) (sym plays.left_is)

-- A script answers as a read may.
waiting_may : (room : ℕ) (acts : List Act) (buffer taken sent coming : List ℕ) → 0 < room → length buffer ≡ room → AllGiveSome (past_not_yet acts) → coming ≡ script_bytes acts → MayRead true (turn_at true room (past_not_yet acts)).answer buffer (Some (record { taken = taken; sent = sent; coming = coming }))
waiting_may room [] buffer taken sent coming some len all is = is
waiting_may room (Bytes bytes ∷ acts) buffer taken sent coming some len all is = (omega (arith, some, all.0), omega (arith, len))
waiting_may room (Not_yet ∷ acts) buffer taken sent coming some len all is = waiting_may room acts buffer taken sent coming some len all is
waiting_may room (Quiet ∷ acts) buffer taken sent coming some len all is = refl
waiting_may room (Failed ∷ acts) buffer taken sent coming some len all is = tt

asking_may : (room : ℕ) (acts : List Act) (buffer taken sent coming : List ℕ) → 0 < room → length buffer ≡ room → AllGiveSome acts → coming ≡ script_bytes acts → MayRead false (turn_at false room acts).answer buffer (Some (record { taken = taken; sent = sent; coming = coming }))
asking_may room [] buffer taken sent coming some len all is = is
asking_may room (Bytes bytes ∷ acts) buffer taken sent coming some len all is = (omega (arith, some, all.0), omega (arith, len))
asking_may room (Not_yet ∷ acts) buffer taken sent coming some len all is = refl
asking_may room (Quiet ∷ acts) buffer taken sent coming some len all is = refl
asking_may room (Failed ∷ acts) buffer taken sent coming some len all is = tt

turn_may : (wait : Bool) (room : ℕ) (acts : List Act) (buffer taken sent coming : List ℕ) → 0 < room → length buffer ≡ room → AllGiveSome (heeded wait acts) → coming ≡ script_bytes acts → MayRead wait (read_turn wait room acts).answer buffer (Some (record { taken = taken; sent = sent; coming = coming }))
turn_may true room acts buffer taken sent coming some len all is = waiting_may room acts buffer taken sent coming some len all is
turn_may false room acts buffer taken sent coming some len all is = asking_may room acts buffer taken sent coming some len all is

pub read_may : (wait : Bool) (room : ℕ) (acts left : List Act) (answer : ReadAnswer) (buffer gave taken sent coming : List ℕ) → 0 < room → length buffer ≡ room → AllGiveSome (heeded wait acts) → coming ≡ script_bytes acts → PlaysRead (read_turn wait room acts) answer gave left → MayRead wait answer buffer (Some (record { taken = taken; sent = sent; coming = coming }))
read_may wait room acts left answer buffer gave taken sent coming some len all is plays =
    let P : ReadAnswer → Type 0 = λ x. MayRead wait x buffer (Some (record { taken = taken; sent = sent; coming = coming })) in
    subst P (sym plays.answer_is) (turn_may wait room acts buffer taken sent coming some len all is)
