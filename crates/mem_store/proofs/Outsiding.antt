-- Files of other programs as they lie, and what that means of each path.
use Rattle.std.proofs.Common.{◌≡◌, ◌⊎◌, inl, inr, ℕ, Bool, true, false, not, cond, zero, suc, ◌<◌, get_or, position, option_map, List, [], ◌∷◌, ◌++◌, Option, Some, None, refl, sym, ◌∙◌, ap, arith, length, take, drop, take-append-drop}
use Rattle.std.specs.Prelude.{nat_eq}
use Rattle.std.specs.List.{list_any}
use Rattle.std.specs.Str.{bytes_eq}
use Rattle.std.proofs.lemmas.Slice.Eq.{bytes_eq-Decides}
use Rattle.std.proofs.lemmas.Bool.{cases_Bool}
use Rattle.std.proofs.lemmas.Bool.Decides.{nat_tests}
use Rattle.std.proofs.lemmas.List.{append-nil, take_at, drop_at, take_all, drop_all}
use Rattle.node_model.specs.Items.{Entry}
use Rattle.node_model.specs.Lists.{without, first_that}
use Rattle.node_model.specs.Outside.{OutFile, OutFiles, put_at, IsInUse, has_key, acted_on, source_acted}
use Rattle.node_model.proofs.Lists.{off}
use Rattle.mem_store.proofs.Places.{found_at, found_none}
use Rattle.mem_store.specs.Outsiders.{Placed, outside_of, begins_below, is_at_or_below}

same_path : (a b : List ℕ) → bytes_eq a b ≡ true → a ≡ b
same_path a b e = (bytes_eq-Decides a b).0 e

path_same : (a : List ℕ) → bytes_eq a a ≡ true
path_same a = (bytes_eq-Decides a a).1 refl

-- Removing.

cond_same : (b : Bool) (o : Option OutFile) → o ≡ cond b o o
cond_same true o = refl
cond_same false o = refl

gone_at : (path : List ℕ) (files : List Placed) (q : List ℕ) → outside_of (without (λ (f : Placed). bytes_eq path f.path) files) q ≡ put_at path None (outside_of files) q
gone_at path [] q = cond_same (bytes_eq q path) None
gone_at path (f ∷ files) q = step (bytes_eq path f.path) refl (gone_at path files q)
  where
    other : (c : Bool) → bytes_eq path f.path ≡ true → bytes_eq q path ≡ c → cond c None (outside_of files q) ≡ cond c None (cond (bytes_eq q f.path) (Some f.file) (outside_of files q))
    other true here at = refl
    other false here at = ap (λ b. cond b (Some f.file) (outside_of files q)) (sym (sym (ap (bytes_eq q) (same_path path f.path here)) ∙ at))

    later : (c d : Bool) → bytes_eq path f.path ≡ false → bytes_eq q path ≡ c → bytes_eq q f.path ≡ d → cond d (Some f.file) (cond c None (outside_of files q)) ≡ cond c None (cond d (Some f.file) (outside_of files q))
    later true true apart at here =
        off (sym ((bytes_eq-Decides path f.path).1 (sym (same_path q path at) ∙ same_path q f.path here)) ∙ apart)
    later true false apart at here = refl
    later false d apart at here = refl

    step : (b : Bool) → bytes_eq path f.path ≡ b → outside_of (without (λ (g : Placed). bytes_eq path g.path) files) q ≡ put_at path None (outside_of files) q → outside_of (cond (not b) (f ∷ without (λ (g : Placed). bytes_eq path g.path) files) (without (λ (g : Placed). bytes_eq path g.path) files)) q ≡ cond (bytes_eq q path) None (cond (bytes_eq q f.path) (Some f.file) (outside_of files q))
    step true here rest = rest ∙ other (bytes_eq q path) here refl
    step false apart rest =
        ap (λ (o : Option OutFile). cond (bytes_eq q f.path) (Some f.file) o) rest ∙ later (bytes_eq q path) (bytes_eq q f.path) apart refl refl

-- without the files at a path nothing stands under it
pub outside_without : (path : List ℕ) (files : List Placed) → outside_of (without (λ (f : Placed). bytes_eq path f.path) files) ≡ put_at path None (outside_of files)
outside_without path files = λ i q. gone_at path files q i

-- Putting.

abbrev or_else : Option OutFile → Option OutFile → Option OutFile
or_else None o = o
or_else (Some f) o = Some f

behind_at : (files : List Placed) (f : Placed) (q : List ℕ) → outside_of (files ++ f ∷ []) q ≡ or_else (outside_of files q) (cond (bytes_eq q f.path) (Some f.file) None)
behind_at [] f q = refl
behind_at (g ∷ files) f q = step (bytes_eq q g.path) (behind_at files f q)
  where
    step : (b : Bool) → outside_of (files ++ f ∷ []) q ≡ or_else (outside_of files q) (cond (bytes_eq q f.path) (Some f.file) None) → cond b (Some g.file) (outside_of (files ++ f ∷ []) q) ≡ or_else (cond b (Some g.file) (outside_of files q)) (cond (bytes_eq q f.path) (Some f.file) None)
    step true rest = refl
    step false rest = rest

put_there : (files without_it : List Placed) (f : Placed) (q : List ℕ) → outside_of without_it q ≡ put_at f.path None (outside_of files) q → outside_of (without_it ++ f ∷ []) q ≡ put_at f.path (Some f.file) (outside_of files) q
put_there files without_it f q is = behind_at without_it f q ∙ (ap (λ (o : Option OutFile). or_else o (cond (bytes_eq q f.path) (Some f.file) None)) is ∙ go (bytes_eq q f.path) (outside_of files q))
  where
    go : (b : Bool) (o : Option OutFile) → or_else (cond b None o) (cond b (Some f.file) None) ≡ cond b (Some f.file) o
    go true o = refl
    go false None = refl
    go false (Some g) = refl

-- a file behind those without its path stands under its path
pub outside_put : (files without_it : List Placed) (f : Placed) → outside_of without_it ≡ put_at f.path None (outside_of files) → outside_of (without_it ++ f ∷ []) ≡ put_at f.path (Some f.file) (outside_of files)
outside_put files without_it f is = λ i q. put_there files without_it f q (λ j. is j q) i

-- Finding.

outside_is : (path : List ℕ) (files : List Placed) → outside_of files path ≡ option_map (λ (f : Placed). f.file) (first_that (λ (f : Placed). bytes_eq path f.path) files)
outside_is path [] = refl
outside_is path (f ∷ files) = elim (bytes_eq path f.path) as (λ b. cond b (Some f.file) (outside_of files path) ≡ option_map (λ (g : Placed). g.file) (cond b (Some f) (first_that (λ (g : Placed). bytes_eq path g.path) files))) [ true ↦ refl | false ↦ outside_is path files ]

pub outside_found : (path : List ℕ) (files : List Placed) (i : ℕ) (x : Placed) → position (λ (f : Placed). bytes_eq path f.path) files ≡ Some i → x ≡ get_or files i x → outside_of files path ≡ Some x.file
outside_found path files i x there is =
    outside_is path files ∙ ap (option_map (λ (f : Placed). f.file)) (found_at (λ (f : Placed). bytes_eq path f.path) files i x there is)

pub outside_none : (path : List ℕ) (files : List Placed) → position (λ (f : Placed). bytes_eq path f.path) files ≡ None → outside_of files path ≡ None
outside_none path files none =
    outside_is path files ∙ ap (option_map (λ (f : Placed). f.file)) (found_none (λ (f : Placed). bytes_eq path f.path) files none)

pub same_there : {X : Type 0} (xs : List X) (i : ℕ) (a b : X) → i < length xs → a ≡ get_or xs i a → b ≡ get_or xs i b → a ≡ b
same_there [] i a b lt e h = absurd (omega (arith, lt))
same_there (x ∷ xs) zero a b lt e h = e ∙ sym h
same_there (x ∷ xs) (suc i) a b lt e h = same_there xs i a b (omega arith) e h

-- In use.

slash_is : (b : ℕ) → nat_eq b 47 ≡ true → b ≡ 47
slash_is b is = grind (arith, nat_tests)

-- what stands at a path or below it
below_of : (path at : List ℕ) → is_at_or_below path at ≡ true → (at ≡ path) ⊎ ((rest : List ℕ) × (at ≡ path ++ 47 ∷ rest))
below_of path at is = elim (cases_Bool (bytes_eq (take (length path) at) path)) [
  | inl holds ↦
      let front : take (length path) at ≡ path = (bytes_eq-Decides (take (length path) at) path).0 holds in
      let whole : path ++ drop (length path) at ≡ at = ap (λ (l : List ℕ). l ++ drop (length path) at) (sym front) ∙ take-append-drop (length path) at in
      let cut : is_at_or_below path at ≡ begins_below (drop (length path) at) = rw holds refl in
      by_rest (drop (length path) at) whole (sym cut ∙ is)
  | inr fails ↦ let cut : is_at_or_below path at ≡ false = rw fails refl in absurd (cc (cut, is))
]
  where
    by_rest : (rest : List ℕ) → path ++ rest ≡ at → begins_below rest ≡ true → (at ≡ path) ⊎ ((r : List ℕ) × (at ≡ path ++ 47 ∷ r))
    by_rest [] whole below = inl (sym whole ∙ append-nil path)
    by_rest (b ∷ bs) whole below = inr (bs, sym whole ∙ ap (λ (n : ℕ). path ++ n ∷ bs) (slash_is b below))

below_from : (path at : List ℕ) → (at ≡ path) ⊎ ((rest : List ℕ) × (at ≡ path ++ 47 ∷ rest)) → is_at_or_below path at ≡ true
below_from path at (inl is) =
    let front : bytes_eq (take (length path) path) path ≡ true = (bytes_eq-Decides (take (length path) path) path).1 (take_all (length path) path (omega arith)) in
    ap (is_at_or_below path) is ∙ rw front (ap begins_below (drop_all (length path) path (omega arith)))
below_from path at (inr found) =
    let all = path ++ 47 ∷ found.0 in
    let front : bytes_eq (take (length path) all) path ≡ true = (bytes_eq-Decides (take (length path) all) path).1 (take_at path (47 ∷ found.0) (length path) refl) in
    ap (is_at_or_below path) found.1 ∙ rw front (ap begins_below (drop_at path (47 ∷ found.0) (length path) refl))

-- one of the files passes a test of its path
some_path : (p : List ℕ → Bool) (files : List Placed) → list_any (λ (f : Placed). p f.path) files ≡ true → (at : List ℕ) × (file : OutFile) × (outside_of files at ≡ Some file) × (p at ≡ true)
some_path p [] is = off (sym is)
some_path p (f ∷ files) is = elim (cases_Bool (p f.path)) [
  | inl holds ↦ (f.path, f.file, ap (λ b. cond b (Some f.file) (outside_of files f.path)) (path_same f.path), holds)
  | inr fails ↦
      let cut : list_any (λ (g : Placed). p g.path) (f ∷ files) ≡ list_any (λ (g : Placed). p g.path) files = rw fails refl in
      let rest = some_path p files (sym cut ∙ is) in
      elim (cases_Bool (bytes_eq rest.0 f.path)) [
        | inl here ↦ (rest.0, f.file, ap (λ b. cond b (Some f.file) (outside_of files rest.0)) here, rest.3)
        | inr past ↦ (rest.0, rest.1, ap (λ b. cond b (Some f.file) (outside_of files rest.0)) past ∙ rest.2, rest.3)
      ]
]

path_some : (p : List ℕ → Bool) (files : List Placed) (at : List ℕ) (file : OutFile) → outside_of files at ≡ Some file → p at ≡ true → list_any (λ (f : Placed). p f.path) files ≡ true
path_some p [] at file is holds = absurd (cc is)
path_some p (f ∷ files) at file is holds = elim (cases_Bool (bytes_eq at f.path)) [
  | inl here ↦ let first : p f.path ≡ true = ap p (sym (same_path at f.path here)) ∙ holds in rw first refl
  | inr past ↦
      let cut : outside_of (f ∷ files) at ≡ outside_of files at = rw past refl in
      let rest = path_some p files at file (sym cut ∙ is) holds in
      elim (cases_Bool (p f.path)) [ inl this ↦ rw this refl | inr that ↦ rw that rest ]
]

pub used : (path : List ℕ) (files : List Placed) → list_any (λ (f : Placed). is_at_or_below path f.path) files ≡ true → IsInUse path (outside_of files)
used path files is =
    let found = some_path (is_at_or_below path) files is in
    record { at = found.0; file = found.1; stands = found.2; under = below_of path found.0 found.3 }

pub unused : (path : List ℕ) (files : List Placed) → list_any (λ (f : Placed). is_at_or_below path f.path) files ≡ false → IsInUse path (outside_of files) → ⊥
unused path files is u =
    off (sym (path_some (is_at_or_below path) files u.at u.file u.stands (below_from path u.at u.under)) ∙ is)

-- A source that is acted on.

-- an action as it is done to the files
pub acted_is : (e : Entry) (time : ℕ) (old new : OutFiles) → has_key e.key (old e.source) ≡ true → new ≡ put_at e.source (acted_on e.action time (old e.source)) old → new ≡ source_acted e time old
acted_is e time old new has is =
    is ∙ ap (λ b. cond b (put_at e.source (acted_on e.action time (old e.source)) old) old) (sym has)

pub put_same : (path : List ℕ) (outside : OutFiles) → put_at path (outside path) outside ≡ outside
put_same path outside = λ i q. go q (bytes_eq q path) refl i
  where
    go : (q : List ℕ) (b : Bool) → bytes_eq q path ≡ b → cond b (outside path) (outside q) ≡ outside q
    go q true is = ap outside (sym (same_path q path is))
    go q false is = refl
