-- What stands under each name in the image that a number picks.
use Rattle.std.proofs.Common.{◌≡◌, inl, inr, ℕ, suc, ◌+◌, ◌-◌, List, [], ◌∷◌, length, take, map, Option, Some, None, Bool, true, false, refl, sym, ◌∙◌, ap, arith}
use Rattle.std.specs.Prelude.{option_map, nat_eq}
use Rattle.std.specs.Ordering.{nat_cmp, match_ordering}
use Rattle.std.specs.declared.cmp.Ordering.{Ordering}
use Rattle.std.specs.declared.cmp.Ordering.TheVariants.{Less, Equal, Greater}
use Rattle.std.specs.Cmp.Lexicographic.{slice_cmp}
use Rattle.std.proofs.lemmas.Bool.{cases_Bool}
use Rattle.disk_model.specs.World.{Files}
use Rattle.mem_disk.specs.Kept.{Kept, settled, chosen}
use Rattle.mem_disk.specs.Holding.{Holding, is_named, is_call, first_calls, under, adding, with_own, shown, picked}
use Rattle.mem_disk.specs.EntryLaws.{under-adding, named_is}
use Rattle.mem_disk.specs.Picks.{digit_for, rest_for, digit_of, stopped_files, either}
use Rattle.mem_disk.specs.declared.call.Call.{Call}

pub under-stopped : (q : List ℕ) (pick : ℕ) (es : List (List ℕ × Kept)) → under q (stopped_files pick es) ≡ option_map (λ f. settled (chosen (digit_of pick es q) f)) (under q es)
under-stopped q pick [] = refl
under-stopped q pick (e ∷ es) = elim (cases_Bool (is_named q e.0)) [
  | inl holds ↦ rw holds refl
  | inr fails ↦ rw fails (under-stopped q (rest_for pick e.1) es)
]

-- the world of the files so chosen
pub stopped_shown : (pick : ℕ) (h : Holding) (own : List (List ℕ × Kept)) → ((q : List ℕ) → under q own ≡ under q (stopped_files pick h.own)) → shown (with_own own h) ≡ picked (digit_of pick h.own) h
stopped_shown pick h own same =
    ap (λ (files : Files). record { own = files; outside = λ path. under path h.outside; gifts = h.gifts }) (λ i q. at q i)
  where
    written : (q : List ℕ) (o : Option Kept) → option_map (λ f. f.written) (option_map (λ f. settled (chosen (digit_of pick h.own q) f)) o) ≡ option_map (λ f. chosen (digit_of pick h.own q) f) o
    written q None = refl
    written q (Some f) = refl

    at : (q : List ℕ) → option_map (λ f. f.written) (under q own) ≡ option_map (λ f. chosen (digit_of pick h.own q) f) (under q h.own)
    at q = ap (option_map (λ f. f.written)) (same q ∙ under-stopped q pick h.own) ∙ written q (under q h.own)

-- one file more was chosen
pub one_chosen : (q name : List ℕ) (pick : ℕ) (file : Kept) (rest files own : List (List ℕ × Kept)) (v : Kept) → own ≡ (name, file) ∷ rest → under name rest ≡ None → v ≡ settled (chosen (digit_for pick file) file)
    → either (under q (stopped_files pick own)) (under q files) ≡ either (under q (stopped_files (rest_for pick file) rest)) (under q (adding name v files))
one_chosen q name pick file rest files own v is none made =
    ap (λ (l : List (List ℕ × Kept)). either (under q (stopped_files pick l)) (under q files)) is ∙ by_name (is_named q name) refl
    ∙ sym (ap (λ (w : Kept). either (under q (stopped_files (rest_for pick file) rest)) (under q (adding name w files))) made)
  where
    w : Kept
    w = settled (chosen (digit_for pick file) file)

    X : Option Kept
    X = under q (stopped_files (rest_for pick file) rest)

    gone : is_named q name ≡ true → under q (stopped_files (rest_for pick file) rest) ≡ None
    gone here = under-stopped q (rest_for pick file) rest ∙ ap (option_map (λ f. settled (chosen (digit_of (rest_for pick file) rest q) f))) (ap (λ (n : List ℕ). under n rest) (named_is q name here) ∙ none)

    by_name : (b : Bool) → is_named q name ≡ b
        → either (under q ((name, settled (chosen (digit_for pick file) file)) ∷ stopped_files (rest_for pick file) rest)) (under q files)
        ≡ either (under q (stopped_files (rest_for pick file) rest)) (under q (adding name (settled (chosen (digit_for pick file) file)) files))
    by_name true here =
        let now = under-adding q name (settled (chosen (digit_for pick file) file)) files in
        let none_here = gone here in
        rw here (sym (ap (λ (o : Option Kept). either o (under q (adding name (settled (chosen (digit_for pick file) file)) files))) none_here ∙ now ∙ rw here refl))
    by_name false past =
        let now = under-adding q name (settled (chosen (digit_for pick file) file)) files in
        rw past (ap (either (under q (stopped_files (rest_for pick file) rest))) (sym (now ∙ rw past refl)))

-- files that are all synced, with one synced file more
settle : List (List ℕ × Kept) → List (List ℕ × Kept)
settle es = map (λ e. (e.0, settled e.1.written)) es

pub calm_adding : (name b : List ℕ) (es : List (List ℕ × Kept)) → map (λ e. (e.0, settled e.1.written)) es ≡ es → map (λ e. (e.0, settled e.1.written)) (adding name (settled b) es) ≡ adding name (settled b) es
calm_adding name b es is = adds es ∙ ap (adding name (settled b)) is
  where
    by_order : (o : Ordering) (e : List ℕ × Kept) (es : List (List ℕ × Kept)) → map (λ e. (e.0, settled e.1.written)) (adding name (settled b) es) ≡ adding name (settled b) (map (λ e. (e.0, settled e.1.written)) es)
        → map (λ e. (e.0, settled e.1.written)) (match_ordering o ((name, settled b) ∷ e ∷ es) ((e.0, settled b) ∷ es) (e ∷ adding name (settled b) es))
        ≡ match_ordering o ((name, settled b) ∷ (e.0, settled e.1.written) ∷ map (λ e. (e.0, settled e.1.written)) es) ((e.0, settled b) ∷ map (λ e. (e.0, settled e.1.written)) es)
        ((e.0, settled e.1.written) ∷ adding name (settled b) (map (λ e. (e.0, settled e.1.written)) es))
    by_order Less e es rest = refl
    by_order Equal e es rest = refl
    by_order Greater e es rest = ap (λ (l : List (List ℕ × Kept)). (e.0, settled e.1.written) ∷ l) rest

    adds : (es : List (List ℕ × Kept)) → map (λ e. (e.0, settled e.1.written)) (adding name (settled b) es) ≡ adding name (settled b) (map (λ e. (e.0, settled e.1.written)) es)
    adds [] = refl
    adds (e ∷ es) = by_order (slice_cmp nat_cmp name e.0) e es (adds es)

-- the first calls are a front of all
pub first_calls_front : (n : ℕ) (xs : List Call) → first_calls n xs ≡ take (length (first_calls n xs)) xs
first_calls_front n [] = refl
first_calls_front n (x ∷ xs) = elim (cases_Bool (is_call x)) [
  | inl call ↦ elim (cases_Bool (nat_eq n 0)) [
    | inl none ↦ rw call (rw none refl)
    | inr some ↦ rw call (rw some (front x xs (first_calls (n - 1) xs) (first_calls_front (n - 1) xs)))
  ]
  | inr other ↦ rw other (front x xs (first_calls n xs) (first_calls_front n xs))
]
  where
    front : (y : Call) (ys fs : List Call) → fs ≡ take (length fs) ys → y ∷ fs ≡ take (length (y ∷ fs)) (y ∷ ys)
    front y ys fs is =
        let more : length fs + 1 ≡ length (y ∷ fs) = omega arith in
        ap (λ (l : List Call). y ∷ l) is ∙ one y ys (length fs) ∙ ap (λ (k : ℕ). take k (y ∷ ys)) more
      where
        one : (z : Call) (zs : List Call) (k : ℕ) → z ∷ take k zs ≡ take (k + 1) (z ∷ zs)
        one z zs k = let same : suc k ≡ k + 1 = omega arith in ap (λ (n : ℕ). take n (z ∷ zs)) same
