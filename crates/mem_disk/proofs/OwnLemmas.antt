-- Own files: what a query found is what a read gives.
use Rattle.std.proofs.Common.{◌≡◌, ℕ, ◌+◌, ◌≤◌, List, length, take, drop, map, Option, Some, None, true, refl, sym, ◌∙◌, ap, subst, arith}
use Rattle.std.specs.Prelude.{option_map, is_some, IsSome, IfSome, Contains, nat_le}
use Rattle.std.specs.Ordering.{nat_cmp, eq_by_cmp}
use Rattle.std.specs.Cmp.{eq_by_cmp_equiv}
use Rattle.std.specs.Cmp.Lexicographic.{slice_cmp, nat_list_cmp_total}
use Rattle.std.proofs.lemmas.Map.Views.{Contains-keys_from_lookup, IsSome-lookup_from_Contains}
use Rattle.std.proofs.lemmas.Bool.{le-leb}
use Rattle.disk_model.specs.World.{Files}
use Rattle.disk_model.specs.Changes.{Stands, Rewrites, Holds}
use Rattle.disk_model.specs.Folders.{Ascend, ListsFiles}
use Rattle.mem_disk.specs.Kept.{Kept, splice, written_over, shortened}
use Rattle.mem_disk.specs.Holding.{Holding, under, amending, shown}
use Rattle.mem_disk.specs.EntryLaws.{named_is}
use Rattle.mem_disk.specs.StopLaws.{own_by, rewritten}

pub stands_of : (o : Option Kept) → is_some o ≡ true → (b : List ℕ) × (option_map (λ f. f.written) o ≡ Some b) × (0 ≤ length b)
stands_of None is = absurd (cc is)
stands_of (Some f) is = (f.written, refl, omega arith)

pub lists_files : (es : List (List ℕ × Kept)) (names : List (List ℕ)) → names ≡ map (λ e. e.0) es → Ascend names → ListsFiles (λ n. option_map (λ f. f.written) (under n es)) names
lists_files es names is ascend = record {
  ascend = ascend;
  all = λ name bytes stands. subst (λ (l : List (List ℕ)). Contains l name) (sym is) (Contains-keys_from_lookup {eq = eq_by_cmp (slice_cmp nat_cmp)} named_is name es (some (under name es) bytes stands));
  only = λ name among. found (under name es) (IsSome-lookup_from_Contains {eq = eq_by_cmp (slice_cmp nat_cmp)} (eq_by_cmp_equiv nat_list_cmp_total) name es (subst (λ (l : List (List ℕ)). Contains l name) is among));
}
  where
    some : (o : Option Kept) (bytes : List ℕ) → option_map (λ f. f.written) o ≡ Some bytes → IsSome o
    some None bytes is = cc is
    some (Some f) bytes is = refl

    found : (o : Option Kept) → IsSome o → (bytes : List ℕ) × (option_map (λ f. f.written) o ≡ Some bytes)
    found None is = absurd (cc is)
    found (Some f) is = (f.written, refl)

pub read_of : (o : Option Kept) (at n : ℕ) (out : List ℕ) → IfSome o (λ f. at + n ≤ length f.written → out ≡ take n (drop at f.written))
    → (b : List ℕ) → option_map (λ f. f.written) o ≡ Some b → at + n ≤ length b → out ≡ take n (drop at b)
read_of None at n out told b is le = absurd (cc is)
read_of (Some f) at n out told b is le =
    let same : f.written ≡ b = cc is in
    told (subst (λ (l : List ℕ). at + n ≤ length l) (sym same) le) ∙ ap (λ (l : List ℕ). take n (drop at l)) same

-- a write and a cut that were done as a whole
pub holds_all : (h : Holding) (name bytes : List ℕ) (at : ℕ) → Stands name at (shown h) → Rewrites name (Holds at bytes) (own_by (λ _. 1) h.own) (own_by (λ _. 1) (amending name (written_over at bytes) h.own))
holds_all h name bytes at stands = rewritten (λ _. 1) name (written_over at bytes) (Holds at bytes) h.own law
  where
    law : (f : Kept) → under name h.own ≡ Some f → (written_over at bytes f).written ≡ splice at bytes f.written
    law f is =
        let same : stands.0 ≡ f.written = cc (sym stands.1 ∙ ap (option_map (λ (k : Kept). k.written)) is) in
        let le : at ≤ length f.written = subst (λ (l : List ℕ). at ≤ length l) same stands.2 in
        let fits : nat_le at (length f.written) ≡ true = le-leb at (length f.written) le in
        rw fits refl

pub cuts_all : (h : Holding) (name : List ℕ) (len : ℕ) → Stands name len (shown h) → Rewrites name (λ b c. c ≡ take len b) (own_by (λ _. 1) h.own) (own_by (λ _. 1) (amending name (shortened len) h.own))
cuts_all h name len stands = rewritten (λ _. 1) name (shortened len) (λ b c. c ≡ take len b) h.own law
  where
    law : (f : Kept) → under name h.own ≡ Some f → (shortened len f).written ≡ take len f.written
    law f is =
        let same : stands.0 ≡ f.written = cc (sym stands.1 ∙ ap (option_map (λ (k : Kept). k.written)) is) in
        let le : len ≤ length f.written = subst (λ (l : List ℕ). len ≤ length l) same stands.2 in
        let fits : nat_le len (length f.written) ≡ true = le-leb len (length f.written) le in
        rw fits refl

pub rewrites_same : (name : List ℕ) (R : List ℕ → List ℕ → Type 0) → ((b : List ℕ) → R b b) → (f : Files) → Rewrites name R f f
rewrites_same name R same f = record { file = λ b is. (b, is, same b); absent = λ none. none; others = λ n other. refl }
