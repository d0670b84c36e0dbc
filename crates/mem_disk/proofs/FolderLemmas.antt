-- The names in a folder, and whether a path is in use.
use Rattle.std.proofs.Common.{◌≡◌, ◌≢◌, ◌⊎◌, inl, inr, ℕ, ◌+◌, ◌<◌, List, [], ◌∷◌, ◌++◌, length, get_or, take, drop, map, Some, Bool, true, false, cond, refl, sym, ◌∙◌, ap, arith, take-append-drop}
use Rattle.std.specs.Prelude.{◌||◌, ◌&&◌, not, nat_eq, Result, Ok, Err, IfOk}
use Rattle.std.specs.Str.{bytes_eq}
use Rattle.std.specs.List.{list_any, before_first}
use Rattle.std.proofs.lemmas.Slice.Eq.{bytes_eq-Decides}
use Rattle.std.proofs.lemmas.Map.Text.{is_eq-slice_cmp}
use Rattle.std.proofs.lemmas.Bool.{cases_Bool}
use Rattle.std.proofs.lemmas.List.{map_more, take_at, drop_at}
use Rattle.std.proofs.lemmas.List.Folds.{list_any-append}
use Rattle.mem_disk.specs.Holding.{is_named}
use Rattle.std.specs.Ordering.{nat_cmp, eq_by_cmp}
use Rattle.std.specs.Cmp.{eq_by_cmp_equiv}
use Rattle.std.specs.Cmp.Lexicographic.{slice_cmp, nat_list_cmp_total}
use Rattle.std.proofs.lemmas.Map.Views.{Contains-from_any, list_any-from_Contains}
use Rattle.std.proofs.lemmas.Bool.Decides.{nat_tests}
use Rattle.std.proofs.lemmas.Bool.{and_parts}
use Rattle.std.proofs.lemmas.List.{append-nil, append_assoc, take_all, drop_all}
use Rattle.std.proofs.lemmas.List.Sums.{take_while-cons}
use Rattle.disk_model.specs.World.{OutFile}
use Rattle.disk_model.specs.Folders.{front_of, begins_below, is_at_or_below, entry_of, leads_to, IsInUse, IsEntryName, Ascend, ListsFolder}
use Rattle.mem_disk.specs.Holding.{under}
use Rattle.mem_disk.specs.EntryLaws.{named_same, named_is, named_turned}

or_true : (a : Bool) → (a || true) ≡ true
or_true true = refl
or_true false = refl

or_false : (a : Bool) → (a || false) ≡ a
or_false true = refl
or_false false = refl

-- a name that was put into a set
pub name_added : (q name key : List ℕ) (was now : Bool) → key ≡ name → bytes_eq name [] ≡ false → now ≡ cond (is_named key q) true was → now ≡ (was || (not (bytes_eq name []) && bytes_eq q name))
name_added q name key was now is some set =
    let test : is_named key q ≡ bytes_eq q name = named_turned key q ∙ is_eq-slice_cmp q key ∙ ap (bytes_eq q) is in
    set ∙ ap (λ (t : Bool). cond t true was) test ∙ either (bytes_eq q name) ∙ sym (rw some refl)
  where
    either : (t : Bool) → cond t true was ≡ (was || t)
    either true = sym (or_true was)
    either false = sym (or_false was)

pub none_added : (q name : List ℕ) (was : Bool) → bytes_eq name [] ≡ true → was ≡ (was || (not (bytes_eq name []) && bytes_eq q name))
none_added q name was empty = sym (rw empty (or_false was))

-- one path more
pub one_more : {X Y : Type 0} (f : X → Y) (p : Y → Bool) (xs : List X) (i : ℕ) (x : X) → i < length xs → x ≡ get_or xs i x
    → list_any p (map f (take (i + 1) xs)) ≡ (list_any p (map f (take i xs)) || p (f x))
one_more f p xs i x lt is =
    ap (list_any p) (map_more f xs i x lt) ∙ list_any-append p (map f (take i xs)) (f (get_or xs i x) ∷ [])
    ∙ ap (λ (b : Bool). list_any p (map f (take i xs)) || b) (or_false (p (f (get_or xs i x))) ∙ ap (λ (y : _). p (f y)) (sym is))

slash_is : (b : ℕ) → nat_eq b 47 ≡ true → b ≡ 47
slash_is b is = grind (arith, nat_tests)

-- what stands at a path or below it
below_of : (path at : List ℕ) → is_at_or_below path at ≡ true → (at ≡ path) ⊎ ((rest : List ℕ) × (at ≡ path ++ 47 ∷ rest))
below_of path at is = elim (cases_Bool (bytes_eq (take (length path) at) path)) [
  | inl holds ↦
      let front : take (length path) at ≡ path = (bytes_eq-Decides (take (length path) at) path).0 holds in
      let whole : path ++ drop (length path) at ≡ at = ap (λ (l : List ℕ). l ++ drop (length path) at) (sym front) ∙ take-append-drop (length path) at in
      let cut : is_at_or_below path at ≡ begins_below (drop (length path) at) = rw holds refl in
      by_rest (drop (length path) at) whole (sym cut ∙ is)
  | inr fails ↦ let cut : is_at_or_below path at ≡ false = rw fails refl in absurd (cc (cut, is))
]
  where
    by_rest : (rest : List ℕ) → path ++ rest ≡ at → begins_below rest ≡ true → (at ≡ path) ⊎ ((r : List ℕ) × (at ≡ path ++ 47 ∷ r))
    by_rest [] whole below = inl (sym whole ∙ append-nil path)
    by_rest (b ∷ bs) whole below = inr (bs, sym whole ∙ ap (λ (n : ℕ). path ++ n ∷ bs) (slash_is b below))

below_from : (path at : List ℕ) → (at ≡ path) ⊎ ((rest : List ℕ) × (at ≡ path ++ 47 ∷ rest)) → is_at_or_below path at ≡ true
below_from path at (inl is) =
    let front : bytes_eq (take (length path) path) path ≡ true = (bytes_eq-Decides (take (length path) path) path).1 (take_all (length path) path (omega arith)) in
    ap (is_at_or_below path) is ∙ rw front (ap begins_below (drop_all (length path) path (omega arith)))
below_from path at (inr found) =
    let all = path ++ 47 ∷ found.0 in
    let front : bytes_eq (take (length path) all) path ≡ true = (bytes_eq-Decides (take (length path) all) path).1 (take_at path (47 ∷ found.0) (length path) refl) in
    ap (is_at_or_below path) found.1 ∙ rw front (ap begins_below (drop_at path (47 ∷ found.0) (length path) refl))

any_key : {X : Type 0} (p : List ℕ → Bool) (es : List (List ℕ × X)) → list_any p (map (λ e. e.0) es) ≡ true → (k : List ℕ) × (f : X) × (under k es ≡ Some f) × (p k ≡ true)
any_key {X} p [] is = absurd (cc is)
any_key {X} p (e ∷ es) is = elim (cases_Bool (p e.0)) [
  | inl holds ↦ let same = named_same e.0 in (e.0, e.1, rw same refl, holds)
  | inr fails ↦
      let cut : list_any p (map (λ (x : List ℕ × X). x.0) (e ∷ es)) ≡ list_any p (map (λ (x : List ℕ × X). x.0) es) = rw fails refl in
      let rest = any_key p es (sym cut ∙ is) in
      elim (cases_Bool (is_named rest.0 e.0)) [
        | inl here ↦ (rest.0, e.1, rw here refl, rest.3)
        | inr past ↦ (rest.0, rest.1, rw past rest.2, rest.3)
      ]
]

key_any : {X : Type 0} (p : List ℕ → Bool) (es : List (List ℕ × X)) (k : List ℕ) (f : X) → under k es ≡ Some f → p k ≡ true → list_any p (map (λ e. e.0) es) ≡ true
key_any p [] k f is holds = absurd (cc is)
key_any p (e ∷ es) k f is holds = elim (cases_Bool (is_named k e.0)) [
  | inl here ↦ let first : p e.0 ≡ true = ap p (sym (named_is k e.0 here)) ∙ holds in rw first refl
  | inr past ↦
      let cut : under k (e ∷ es) ≡ under k es = rw past refl in
      let rest = key_any p es k f (sym cut ∙ is) holds in
      rw rest (or_true (p e.0))
]

pub in_use : (path : List ℕ) (es : List (List ℕ × OutFile)) → list_any (is_at_or_below path) (map (λ e. e.0) es) ≡ true → IsInUse path (λ p. under p es)
in_use path es is =
    let found = any_key (is_at_or_below path) es is in
    record { at = found.0; file = found.1; stands = found.2; under = below_of path found.0 found.3 }

pub not_in_use : (path : List ℕ) (es : List (List ℕ × OutFile)) → list_any (is_at_or_below path) (map (λ e. e.0) es) ≡ false → IsInUse path (λ p. under p es) → ⊥
not_in_use path es is used = cc (key_any (is_at_or_below path) es used.at used.file used.stands (below_from path used.at used.under), is)

first-cons : (b : ℕ) (bs : List ℕ) → before_first (λ x. nat_eq x 47) (b ∷ bs) ≡ cond (not (nat_eq b 47)) (b ∷ before_first (λ x. nat_eq x 47) bs) []
first-cons b bs = take_while-cons (λ x. not (nat_eq x 47)) b bs

-- the name in front of a '/'
before_name : (name rest : List ℕ) → list_any (λ b. nat_eq b 47) name ≡ false → (rest ≡ name) ⊎ ((r : List ℕ) × (rest ≡ name ++ 47 ∷ r)) → before_first (λ b. nat_eq b 47) rest ≡ name
before_name [] rest one (inl is) = ap (before_first (λ b. nat_eq b 47)) is
before_name [] rest one (inr found) = ap (before_first (λ b. nat_eq b 47)) found.1 ∙ first-cons 47 found.0
before_name (b ∷ bs) rest one end = elim (cases_Bool (nat_eq b 47)) [
  | inl holds ↦ let cut : list_any (λ x. nat_eq x 47) (b ∷ bs) ≡ true = rw holds refl in absurd (cc (cut, one))
  | inr fails ↦
      let cut : list_any (λ x. nat_eq x 47) (b ∷ bs) ≡ list_any (λ x. nat_eq x 47) bs = rw fails refl in
      by_end fails (λ r part. before_name bs r (sym cut ∙ one) part) end
]
  where
    by_end : nat_eq b 47 ≡ false → ((r : List ℕ) → (r ≡ bs) ⊎ ((q : List ℕ) × (r ≡ bs ++ 47 ∷ q)) → before_first (λ x. nat_eq x 47) r ≡ bs)
        → (rest ≡ b ∷ bs) ⊎ ((r : List ℕ) × (rest ≡ b ∷ bs ++ 47 ∷ r)) → before_first (λ x. nat_eq x 47) rest ≡ b ∷ bs
    by_end fails more (inl is) = ap (before_first (λ x. nat_eq x 47)) is ∙ first-cons b bs ∙ rw fails (ap (λ (l : List ℕ). b ∷ l) (more bs (inl refl)))
    by_end fails more (inr found) =
        ap (before_first (λ x. nat_eq x 47)) found.1 ∙ first-cons b (bs ++ 47 ∷ found.0) ∙ rw fails (ap (λ (l : List ℕ). b ∷ l) (more (bs ++ 47 ∷ found.0) (inr (found.0, refl))))

before_parts : (rest : List ℕ) → (list_any (λ b. nat_eq b 47) (before_first (λ b. nat_eq b 47) rest) ≡ false)
    × ((rest ≡ before_first (λ b. nat_eq b 47) rest) ⊎ ((r : List ℕ) × (rest ≡ before_first (λ b. nat_eq b 47) rest ++ 47 ∷ r)))
before_parts [] = (refl, inl refl)
before_parts (b ∷ bs) = elim (cases_Bool (nat_eq b 47)) [
  | inl holds ↦
      let none : before_first (λ x. nat_eq x 47) (b ∷ bs) ≡ [] = first-cons b bs ∙ rw holds refl in
      (ap (list_any (λ x. nat_eq x 47)) none, inr (bs, ap (λ (n : ℕ). n ∷ bs) (slash_is b holds) ∙ ap (λ (l : List ℕ). l ++ 47 ∷ bs) (sym none)))
  | inr fails ↦
      let more : before_first (λ x. nat_eq x 47) (b ∷ bs) ≡ b ∷ before_first (λ x. nat_eq x 47) bs = first-cons b bs ∙ rw fails refl in
      let rest = before_parts bs in (
        ap (list_any (λ x. nat_eq x 47)) more ∙ rw fails rest.0,
        elim rest.1 [
          | inl all ↦ inl (ap (λ (l : List ℕ). b ∷ l) all ∙ sym more)
          | inr some ↦ inr (some.0, ap (λ (l : List ℕ). b ∷ l) some.1 ∙ ap (λ (l : List ℕ). l ++ 47 ∷ some.0) (sym more))
        ],
      )
]

entry_here : (front name at : List ℕ) → IsEntryName name → (at ≡ front ++ name) ⊎ ((rest : List ℕ) × (at ≡ front ++ name ++ 47 ∷ rest)) → entry_of front at ≡ name
entry_here front name at entry end = elim end [
  | inl is ↦ ap (entry_of front) is ∙ behind name (inl refl)
  | inr found ↦ ap (entry_of front) (found.1 ∙ append_assoc front name (47 ∷ found.0)) ∙ behind (name ++ 47 ∷ found.0) (inr (found.0, refl))
]
  where
    behind : (rest : List ℕ) → (rest ≡ name) ⊎ ((r : List ℕ) × (rest ≡ name ++ 47 ∷ r)) → entry_of front (front ++ rest) ≡ name
    behind rest part =
        let first : bytes_eq (take (length front) (front ++ rest)) front ≡ true = (bytes_eq-Decides (take (length front) (front ++ rest)) front).1 (take_at front rest (length front) refl) in
        rw first (ap (before_first (λ b. nat_eq b 47)) (drop_at front rest (length front) refl) ∙ before_name name rest entry.one part)

entry_parts : (front name at : List ℕ) → leads_to front name at ≡ true → IsEntryName name × ((at ≡ front ++ name) ⊎ ((rest : List ℕ) × (at ≡ front ++ name ++ 47 ∷ rest)))
entry_parts front name at leads =
    let both = and_parts (not (bytes_eq (entry_of front at) [])) (bytes_eq name (entry_of front at)) leads in
    let is : name ≡ entry_of front at = (bytes_eq-Decides name (entry_of front at)).0 both.1 in
    let some : name ≢ [] = λ none. cc (both.0, (bytes_eq-Decides (entry_of front at) []).1 (sym is ∙ none)) in
    elim (cases_Bool (bytes_eq (take (length front) at) front)) [
      | inl holds ↦
          let here : name ≡ before_first (λ b. nat_eq b 47) (drop (length front) at) = is ∙ rw holds refl in
          let parts = before_parts (drop (length front) at) in
          let first : take (length front) at ≡ front = (bytes_eq-Decides (take (length front) at) front).0 holds in
          let whole : at ≡ front ++ drop (length front) at = sym (take-append-drop (length front) at) ∙ ap (λ (l : List ℕ). l ++ drop (length front) at) first in (
            record { some = some; one = ap (list_any (λ b. nat_eq b 47)) here ∙ parts.0 },
            elim parts.1 [
              | inl all ↦ inl (whole ∙ ap (λ (l : List ℕ). front ++ l) (all ∙ sym here))
              | inr more ↦ inr (more.0, whole ∙ ap (λ (l : List ℕ). front ++ l) (more.1 ∙ ap (λ (l : List ℕ). l ++ 47 ∷ more.0) (sym here)) ∙ sym (append_assoc front name (47 ∷ more.0)))
            ],
          )
      | inr fails ↦ absurd (some (is ∙ rw fails refl))
    ]

pub lists_folder : (folder : List ℕ) (es : List (List ℕ × OutFile)) (names : List (List ℕ)) → ((q : List ℕ) → list_any (is_named q) names ≡ list_any (leads_to (front_of folder) q) (map (λ e. e.0) es))
    → Ascend names → ListsFolder folder (λ p. under p es) names
lists_folder folder es names same ascend = record {
  ascend = ascend;
  all = λ name entry used.
      let here : entry_of (front_of folder) used.at ≡ name = entry_here (front_of folder) name used.at entry used.under in
      Contains-from_any {eq = eq_by_cmp (slice_cmp nat_cmp)} named_is name names (same name ∙ key_any (leads_to (front_of folder) name) es used.at used.file used.stands (leads name used.at here entry.some));
  only = λ name among.
      let found = any_key (leads_to (front_of folder) name) es (sym (same name) ∙ list_any-from_Contains {eq = eq_by_cmp (slice_cmp nat_cmp)} (eq_by_cmp_equiv nat_list_cmp_total) name names among) in
      let parts = entry_parts (front_of folder) name found.0 found.3 in
      (parts.0, record { at = found.0; file = found.1; stands = found.2; under = parts.1 });
}
  where
    leads : (name at : List ℕ) → entry_of (front_of folder) at ≡ name → name ≢ [] → leads_to (front_of folder) name at ≡ true
    leads name at here some =
        let same_name : bytes_eq name (entry_of (front_of folder) at) ≡ true = (bytes_eq-Decides name (entry_of (front_of folder) at)).1 (sym here) in
        elim (cases_Bool (bytes_eq (entry_of (front_of folder) at) [])) [
          | inl empty ↦ absurd (some (sym here ∙ (bytes_eq-Decides (entry_of (front_of folder) at) []).0 empty))
          | inr full ↦ rw full (rw same_name refl)
        ]

pub if_ok : {T E : Type 0} (r : Result T E) (P Q : T → Type 0) → IfOk r P → ((x : T) → P x → Q x) → IfOk r Q
if_ok (Ok x) P Q is leads = leads x is
if_ok (Err e) P Q is leads = tt
