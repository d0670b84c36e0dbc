-- A file in memory: what is taken back is what was there.
use Rattle.std.proofs.Common.{◌≡◌, ℕ, ◌+◌, ◌-◌, ◌≤◌, ◌<◌, min, List, [], ◌∷◌, ◌++◌, length, get_or, take, drop, map, true, inl, inr, refl, sym, ◌∙◌, ap, arith, length-append, length-drop, append_assoc, take-append-drop}
use Rattle.std.specs.Prelude.{nat_le, nat_lt, ◌&&◌, ◌||◌, Bool, if◌then◌else◌}
use Rattle.std.specs.List.{list_any}
use Rattle.std.proofs.lemmas.Bool.{le-leb, cases_lt}
use Rattle.std.proofs.lemmas.List.{append-nil, map-append, take_at, drop_at, take_all, drop_all, take-take, take-append-le, length-take-le, drop-drop, take_more}
use Rattle.mem_disk.specs.Kept.{splice, written_over, shortened, is_open, spoiled}
use Rattle.mem_disk.specs.Undo.{taken_back, all_taken_back, range_of, kept_file}
use Rattle.mem_disk.specs.declared.file.Change.{Change}

all_taken_back-append : (cs : List Change) (c : Change) (b : List ℕ) → all_taken_back (cs ++ c ∷ []) b ≡ all_taken_back cs (taken_back c b)
all_taken_back-append [] c b = refl
all_taken_back-append (d ∷ cs) c b = ap (taken_back d) (all_taken_back-append cs c b)

changed_to : (b b' : List ℕ) (cs : List Change) (c : Change) → taken_back c b' ≡ b → kept_file b' (cs ++ c ∷ []) ≡ record { written = b'; synced = all_taken_back cs b; ranges = map range_of cs ++ range_of c ∷ [] }
changed_to b b' cs c back =
    let synced : all_taken_back (cs ++ c ∷ []) b' ≡ all_taken_back cs b = all_taken_back-append cs c b' ∙ ap (all_taken_back cs) back in
    let ranges : map range_of (cs ++ c ∷ []) ≡ map range_of cs ++ range_of c ∷ [] = map-append range_of cs (c ∷ []) in
    rw (synced, ranges) refl

cut_back : (b : List ℕ) (len : ℕ) → len ≤ length b → take len (take len b) ++ drop len b ++ drop (len + 0) (take len b) ≡ b
cut_back b len le =
    let nothing : drop (len + 0) (take len b) ≡ [] = drop_all (len + 0) (take len b) (omega (arith, length-take-le len b le)) in
    ap (λ (l : List ℕ). take len (take len b) ++ drop len b ++ l) nothing ∙ append-nil (take len (take len b) ++ drop len b)
    ∙ ap (λ (l : List ℕ). l ++ drop len b) (take-take len len b (omega arith)) ∙ take-append-drop len b

pub file_cut : (b : List ℕ) (cs : List Change) (len : ℕ) (b' : List ℕ) (cs' : List Change) → len ≤ length b → b' ≡ take len b
    → cs' ≡ cs ++ record { at = len; len = 0; old = drop len b } ∷ [] → kept_file b' cs' ≡ shortened len (kept_file b cs)
file_cut b cs len b' cs' le is pushed =
    let c : Change = record { at = len; len = 0; old = drop len b } in
    let fits : nat_le len (length b) ≡ true = le-leb len (length b) le in
    ap (λ (l : List ℕ). kept_file l cs') is ∙ ap (λ (l : List Change). kept_file (take len b) l) pushed ∙ changed_to b (take len b) cs c (cut_back b len le) ∙ sym (rw fits refl)

-- a write over what is there, behind what was added at the end
spliced : (b bytes : List ℕ) (at over : ℕ) → at ≤ length b → over ≡ min (length bytes) (length b - at) → splice at (take over bytes) (b ++ drop over bytes) ≡ splice at bytes b
spliced b bytes at over le is = elim (cases_lt (length b) (at + length bytes)) [
  | inl past ↦
      let all : at + over ≡ length b = omega (arith, is) in
      let size : length (take over bytes) ≡ over = length-take-le over bytes (omega (arith, is)) in
      let back : drop (at + length (take over bytes)) (b ++ drop over bytes) ≡ drop over bytes = drop_at b (drop over bytes) (at + length (take over bytes)) (omega (arith, all, size)) in
      let none : drop (at + length bytes) b ≡ [] = drop_all (at + length bytes) b (omega arith) in
      ap (λ (l : List ℕ). l ++ take over bytes ++ drop (at + length (take over bytes)) (b ++ drop over bytes)) (take-append-le at b (drop over bytes) le)
      ∙ ap (λ (l : List ℕ). take at b ++ take over bytes ++ l) back
      ∙ append_assoc (take at b) (take over bytes) (drop over bytes)
      ∙ ap (λ (l : List ℕ). take at b ++ l) (take-append-drop over bytes)
      ∙ sym (ap (λ (l : List ℕ). take at b ++ bytes ++ l) none ∙ append-nil (take at b ++ bytes))
  | inr within ↦
      let all : over ≡ length bytes = omega (arith, is) in
      let same : take over bytes ≡ bytes = take_all over bytes (omega (arith, all)) in
      let none : drop over bytes ≡ [] = drop_all over bytes (omega (arith, all)) in
      ap (λ (l : List ℕ). splice at (take over bytes) (b ++ l)) none ∙ ap (λ (l : List ℕ). splice at (take over bytes) l) (append-nil b) ∙ ap (λ (l : List ℕ). splice at l b) same
]

write_back : (b bytes : List ℕ) (at over : ℕ) → at ≤ length b → over ≡ min (length bytes) (length b - at)
    → take at (splice at bytes b) ++ take over (drop at b) ++ drop (at + length bytes) (splice at bytes b) ≡ b
write_back b bytes at over le is =
    let front : length (take at b) ≡ at = length-take-le at b le in
    let first : take at (splice at bytes b) ≡ take at b = ap (λ (l : List ℕ). take at l) (append_assoc (take at b) bytes (drop (at + length bytes) b)) ∙ take_at (take at b) (bytes ++ drop (at + length bytes) b) at front in
    let both : length (take at b ++ bytes) ≡ at + length bytes = omega (arith, length-append (take at b) bytes, front) in
    let last : drop (at + length bytes) (splice at bytes b) ≡ drop (at + length bytes) b = drop_at (take at b ++ bytes) (drop (at + length bytes) b) (at + length bytes) both in
    let behind : take over (drop at b) ++ drop (at + length bytes) b ≡ drop at b = rest in
    ap (λ (l : List ℕ). l ++ take over (drop at b) ++ drop (at + length bytes) (splice at bytes b)) first
    ∙ ap (λ (l : List ℕ). take at b ++ take over (drop at b) ++ l) last
    ∙ append_assoc (take at b) (take over (drop at b)) (drop (at + length bytes) b)
    ∙ ap (λ (l : List ℕ). take at b ++ l) behind
    ∙ take-append-drop at b
  where
    rest : take over (drop at b) ++ drop (at + length bytes) b ≡ drop at b
    rest = elim (cases_lt (length b) (at + length bytes)) [
      | inl past ↦
          let none : drop (at + length bytes) b ≡ [] = drop_all (at + length bytes) b (omega arith) in
          let all : take over (drop at b) ≡ drop at b = take_all over (drop at b) (omega (arith, is, length-drop at b)) in
          ap (λ (l : List ℕ). take over (drop at b) ++ l) none ∙ append-nil (take over (drop at b)) ∙ all
      | inr within ↦
          let all : over ≡ length bytes = omega (arith, is) in
          ap (λ (l : List ℕ). take over (drop at b) ++ l) (sym (drop-drop (length bytes) at b)) ∙ ap (λ (n : ℕ). take n (drop at b) ++ drop (length bytes) (drop at b)) all
          ∙ take-append-drop (length bytes) (drop at b)
    ]

pub written_in : (b bytes : List ℕ) (at over : ℕ) (more wide front now : List ℕ) → at ≤ length b → over ≡ min (length bytes) (length b - at)
    → more ≡ drop over bytes → wide ≡ b ++ more → front ≡ take over bytes → now ≡ splice at front wide → now ≡ splice at bytes b
written_in b bytes at over more wide front now le is m w f n =
    n ∙ ap (λ (l : List ℕ). splice at l wide) f ∙ ap (λ (l : List ℕ). splice at (take over bytes) l) (w ∙ ap (λ (l : List ℕ). b ++ l) m) ∙ spliced b bytes at over le is

pub file_written : (b : List ℕ) (cs : List Change) (at : ℕ) (bytes : List ℕ) (b' : List ℕ) (cs' : List Change) → at ≤ length b
    → b' ≡ splice at bytes b
    → cs' ≡ cs ++ record { at = at; len = length bytes; old = take (min (length bytes) (length b - at)) (drop at b) } ∷ [] → kept_file b' cs' ≡ written_over at bytes (kept_file b cs)
file_written b cs at bytes b' cs' le now pushed =
    let over = min (length bytes) (length b - at) in
    let c : Change = record { at = at; len = length bytes; old = take over (drop at b) } in
    let fits : nat_le at (length b) ≡ true = le-leb at (length b) le in
    ap (λ (l : List ℕ). kept_file l cs') now ∙ ap (λ (l : List Change). kept_file (splice at bytes b) l) pushed ∙ changed_to b (splice at bytes b) cs c (write_back b bytes at over le refl) ∙ sym (rw fits refl)

pub all_of_rest : (b : List ℕ) (n : ℕ) → take (length b - n) (drop n b) ≡ drop n b
all_of_rest b n = take_all (length b - n) (drop n b) (omega (arith, length-drop n b))

pub open_ranges : (cs : List Change) (k : ℕ) → list_any (λ c. nat_le c.at k && nat_lt k (c.at + c.len)) cs ≡ is_open (map range_of cs) k
open_ranges [] k = refl
open_ranges (c ∷ cs) k = ap (λ (b : Bool). (nat_le c.at k && nat_lt k (c.at + c.len)) || b) (open_ranges cs k)

spoiled_push : (how : ℕ → ℕ) (R : List (ℕ × ℕ)) (k : ℕ) (xs : List ℕ) (x : ℕ) → spoiled how R k (xs ++ x ∷ []) ≡ spoiled how R k xs ++ (if is_open R (k + length xs) then how x else x) ∷ []
spoiled_push how R k [] x = ap (λ (i : ℕ). (if is_open R i then how x else x) ∷ []) (omega arith)
spoiled_push how R k (y ∷ ys) x =
    ap (λ (l : List ℕ). (if is_open R k then how y else y) ∷ l)
    (spoiled_push how R (k + 1) ys x ∙ ap (λ (i : ℕ). spoiled how R (k + 1) ys ++ (if is_open R i then how x else x) ∷ []) (omega arith))

pub spoiled_more : (how : ℕ → ℕ) (R : List (ℕ × ℕ)) (xs : List ℕ) (i : ℕ) → i < length xs
    → spoiled how R 0 (take (i + 1) xs) ≡ spoiled how R 0 (take i xs) ++ (if is_open R i then how (get_or xs i 0) else get_or xs i 0) ∷ []
spoiled_more how R xs i lt =
    ap (spoiled how R 0) (take_more xs i 0 lt) ∙ spoiled_push how R 0 (take i xs) (get_or xs i 0)
    ∙ ap (λ (n : ℕ). spoiled how R 0 (take i xs) ++ (if is_open R n then how (get_or xs i 0) else get_or xs i 0) ∷ []) (omega (arith, length-take-le i xs (omega arith)))

-- one change less is left to be taken back
pub taken_back_last : (cs : List Change) (n : ℕ) (c : Change) (b : List ℕ) → n < length cs → c ≡ get_or cs n c → all_taken_back (take (n + 1) cs) b ≡ all_taken_back (take n cs) (taken_back c b)
taken_back_last cs n c b lt is =
    ap (λ (l : List Change). all_taken_back l b) (take_more cs n c lt ∙ ap (λ (x : Change). take n cs ++ x ∷ []) (sym is)) ∙ all_taken_back-append (take n cs) c b
