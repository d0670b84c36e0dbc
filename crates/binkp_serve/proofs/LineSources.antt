-- The places of the lines that a source gives, one behind another.
use Rattle.std.proofs.Common.{◌≡◌, ◌⊎◌, inl, inr, ℕ, zero, suc, ◌+◌, ◌<◌, ◌≤◌, arith, List, [], ◌∷◌, ◌++◌, length, Option, Some, None, option_map, refl, sym, ◌∙◌, ap, subst}
use Rattle.std.specs.Prelude.{slice_get, slice_set}
use Rattle.std.proofs.lemmas.Bool.{cases_lt}
use Rattle.std.proofs.lemmas.List.{length_push}
use Rattle.ftn_addr.specs.Counts.{next_count}
use Rattle.binkp_link.specs.Lines.{LineBytes, LineState}
use Rattle.binkp_link.specs.LineSources.{Gave, GaveTold, IsOut, IsOutTold, LinesState, LinesTold, dialling, gave, handed_back, missed}
use Rattle.binkp_serve.specs.Serving.{AreBack, AreBackTold, HasPlaces}

-- one more, where there are few
few_more : (n : ℕ) → n < 65536 → next_count n ≡ n + 1
few_more n few = omega (arith, few)

-- Items of a list, with one more behind it or one changed.

last_there : {A : Type 0} (xs : List A) (x : A) (n : ℕ) → length xs ≡ n → slice_get (xs ++ x ∷ []) n ≡ Some x
last_there [] x zero is = refl
last_there [] x (suc n) is = absurd (omega (arith, is))
last_there (y ∷ xs) x zero is = absurd (omega (arith, is))
last_there (y ∷ xs) x (suc n) is = last_there xs x n (omega (arith, is))

set_last : {A : Type 0} (xs : List A) (x y : A) (n : ℕ) → length xs ≡ n → slice_set (xs ++ x ∷ []) n y ≡ xs ++ y ∷ []
set_last [] x y zero is = refl
set_last [] x y (suc n) is = absurd (omega (arith, is))
set_last (z ∷ xs) x y zero is = absurd (omega (arith, is))
set_last (z ∷ xs) x y (suc n) is = ap (λ (l : List _). z ∷ l) (set_last xs x y n (omega (arith, is)))

before_last : {A : Type 0} (xs : List A) (x : A) (k : ℕ) → k < length xs → slice_get (xs ++ x ∷ []) k ≡ slice_get xs k
before_last [] x k within = absurd (omega (arith, within))
before_last (y ∷ xs) x zero within = refl
before_last (y ∷ xs) x (suc k) within = before_last xs x k (omega (arith, within))

one_more : {A : Type 0} (xs : List A) (x : A) → length (xs ++ x ∷ []) ≡ length xs + 1
one_more xs x = length_push xs x

-- A line that was just given is out, at the next place.

out_told : (n : ℕ) (bytes : Option LineBytes) (old new : Option LinesTold) → HasPlaces n old → GaveTold bytes old new → IsOutTold n new
out_told n bytes None None places told = tt
out_told n (Some bytes) (Some old) (Some new) places told =
    subst (λ (t : LinesTold). slice_get t.handed n ≡ Some None) (sym told) (last_there old.handed None n places)
out_told n None (Some old) (Some new) places told = absurd told
out_told n bytes None (Some new) places told = absurd told
out_told n bytes (Some old) None places told = absurd told

pub next_out : (n : ℕ) (line : LineState) (old new : LinesState) → n < 65536 → AreBack n old → Gave line old new → IsOut n new
next_out n line old new few back given = record {
  given = let more = few_more n few in let count = ap (λ (c : _). c.given) given.counts ∙ ap next_count back.count in omega (arith, more, count);
  told = out_told n line.bytes old.told new.told back.places given.told;
}

-- Once it is handed back, all are back.

places_then : (n : ℕ) (line : LineState) (bytes : Option LineBytes) (old new : Option LinesTold) → HasPlaces n old → GaveTold bytes old new → HasPlaces (n + 1) (option_map (λ (t : LinesTold). record t { handed = slice_set t.handed n (Some line) }) new)
places_then n line bytes None None places told = tt
places_then n line (Some bytes) (Some old) (Some new) places told =
    ap (λ (t : LinesTold). length (slice_set t.handed n (Some line))) told ∙ (ap length (set_last old.handed None (Some line) n places) ∙ (one_more old.handed (Some line) ∙ ap (λ (k : ℕ). k + 1) places))
places_then n line None (Some old) (Some new) places told = absurd told
places_then n line bytes None (Some new) places told = absurd told
places_then n line bytes (Some old) None places told = absurd told

each_then : (n : ℕ) (line : LineState) (handed : List (Option LineState)) → length handed ≡ n → ((place : ℕ) → place < n → (l : LineState) × (slice_get handed place ≡ Some (Some l)))
    → (place : ℕ) → place < n + 1 → (place < n) ⊎ (n ≤ place) → (l : LineState) × (slice_get (handed ++ Some line ∷ []) place ≡ Some (Some l))
each_then n line handed is each place within (inl before) = let was = each place before in (was.0, before_last handed (Some line) place (omega (arith, before, is)) ∙ was.1)
each_then n line handed is each place within (inr behind) = (line, last_there handed (Some line) place (omega (arith, is, within, behind)))

back_then : (n : ℕ) (line : LineState) (bytes : Option LineBytes) (old new : Option LinesTold) → HasPlaces n old → AreBackTold n old → GaveTold bytes old new → AreBackTold (n + 1) (option_map (λ (t : LinesTold). record t { handed = slice_set t.handed n (Some line) }) new)
back_then n line bytes None None places back told = tt
back_then n line (Some bytes) (Some old) (Some new) places back told = λ place within.
    subst (λ (h : List (Option LineState)). (l : LineState) × (slice_get h place ≡ Some (Some l))) (sym (ap (λ (t : LinesTold). slice_set t.handed n (Some line)) told ∙ set_last old.handed None (Some line) n places))
    (each_then n line old.handed places back place within (cases_lt place n))
back_then n line None (Some old) (Some new) places back told = absurd told
back_then n line bytes None (Some new) places back told = absurd told
back_then n line bytes (Some old) None places back told = absurd told

pub one_back : (n : ℕ) (line line' : LineState) (old mid : LinesState) → n < 65536 → AreBack n old → Gave line old mid → AreBack (n + 1) (handed_back n line' mid)
one_back n line line' old mid few back given = record {
  count = ap (λ (c : _). c.given) given.counts ∙ (ap next_count back.count ∙ few_more n few);
  places = places_then n line' line.bytes old.told mid.told back.places given.told;
  back = back_then n line' line.bytes old.told mid.told back.places back.back given.told;
}

-- Where a host was dialled the same lines are back.

dialled_places : (n : ℕ) (host : List ℕ) (port : ℕ) (told : Option LinesTold) → HasPlaces n told → HasPlaces n (option_map (λ (t : LinesTold). record t { dialled = t.dialled ++ record { host = host; port = port } ∷ [] }) told)
dialled_places n host port None places = tt
dialled_places n host port (Some t) places = places

dialled_back : (n : ℕ) (host : List ℕ) (port : ℕ) (told : Option LinesTold) → AreBackTold n told → AreBackTold n (option_map (λ (t : LinesTold). record t { dialled = t.dialled ++ record { host = host; port = port } ∷ [] }) told)
dialled_back n host port None back = tt
dialled_back n host port (Some t) back = back

pub dialling_back : (n : ℕ) (host : List ℕ) (port : ℕ) (lines : LinesState) → AreBack n lines → AreBack n (dialling host port lines)
dialling_back n host port lines back = record { count = back.count; places = dialled_places n host port lines.told back.places; back = dialled_back n host port lines.told back.back }

-- a dial that gave no line
pub missed_back : (n : ℕ) (lines : LinesState) → AreBack n lines → AreBack n (missed lines)
missed_back n lines back = record { count = back.count; places = back.places; back = back.back }

pub failed_back : (n : ℕ) (host : List ℕ) (port : ℕ) (old new : LinesState) → AreBack n old → (new ≡ missed (dialling host port old)) ⊎ (new ≡ missed old) → AreBack n new
failed_back n host port old new back (inl is) = subst (AreBack n) (sym is) (missed_back n (dialling host port old) (dialling_back n host port old back))
failed_back n host port old new back (inr is) = subst (AreBack n) (sym is) (missed_back n old back)

-- nobody called
pub nothing_back : (n : ℕ) (old new : LinesState) → AreBack n old → new ≡ record old { counts = record old.counts { nothings = next_count old.counts.nothings } } → AreBack n new
nothing_back n old new back is = subst (AreBack n) (sym is) (record { count = back.count; places = back.places; back = back.back })
