-- What was found of one path after another.
use Rattle.std.proofs.Common.{◌≡◌, ◌≢◌, ◌⊎◌, inl, inr, ⊎_elim, ℕ, ◌==◌, true, false, suc, zero, ◌<◌, List, [], ◌∷◌, ◌++◌, length, get_or, map, take, ◌+◌, Some, None, sym, ◌∙◌, ap, subst, arith, append_assoc}
use Rattle.std.specs.Prelude.{Contains}
use Rattle.std.specs.List.Sorted.{IsPermutation}
use Rattle.std.proofs.lemmas.List.{map-append, take_more}
use Rattle.std.proofs.lemmas.List.Sorted.{Contains-permutation, IsPermutation-map}
use Rattle.ftn_addr.specs.Address.{Address, same_address}
use Rattle.ftn_addr.specs.Limits.{IsAddress}
use Rattle.bso_outbound.specs.declared.kind.Kind.{Kind}
use Rattle.bso_outbound.specs.Reading.{AddressOf}
use Rattle.bso_outbound.proofs.Bases.{one_name}
use Rattle.node_model.specs.Lists.{Member}
use Rattle.node_model.specs.Outside.{OutFiles}
use Rattle.node_model.proofs.Lists.{Member-append, Member-append_cases, Member-append_right, and_both, off}
use Rattle.node_model.proofs.SameFiles.{bytes-refl, number-refl}
use Rattle.outbound_places.specs.Outbound.{IsAmong, IsAt, IsIn, IsNamed, Lists}
use Rattle.outbound_intake.specs.declared.words.Found.{Found}
use Rattle.outbound_intake.specs.Files.{AddsFor, AreFor, FileAt, FindsFor, IsInOne, NamesFile, StandsSo, file_of, files_of}

same_address-refl : (a : Address) → same_address a a ≡ true
same_address-refl a =
    and_both (a.zone == a.zone) _ (number-refl a.zone) (and_both (a.net == a.net) _ (number-refl a.net) (and_both (a.node == a.node) _ (number-refl a.node) (and_both (a.point == a.point) _ (number-refl a.point) (bytes-refl a.domain))))

pub other_address : (a b : Address) → same_address a b ≡ false → a ≢ b
other_address a b other same = off (sym (subst (λ (x : Address). same_address a x ≡ true) same (same_address-refl a)) ∙ other)

module _ (base : List ℕ) (default : ℕ) (domain : List ℕ) (dest : Address) where
  -- For whom a file is.

  -- for nobody
  pub for_nobody : (path : List ℕ) → IsAddress dest → AddressOf base default domain path None → FileAt base default domain dest path None
  for_nobody path within none kind n = none (dest, kind) (within, n.of_domain) n.named

  pub for_other : (path : List ℕ) (a : Address) (k : Kind) → IsAddress dest → AddressOf base default domain path (Some (a, k)) → a ≢ dest → FileAt base default domain dest path None
  for_other path a k within is other kind n = other (sym (one_name base domain default dest a kind k (within, n.of_domain) is.0 (sym n.named ∙ is.1)).0)

  pub for_it : (path : List ℕ) (a : Address) (k : Kind) → AddressOf base default domain path (Some (a, k)) → a ≡ dest → NamesFile base default domain dest k path
  for_it path a k is same = subst (λ (x : Address). NamesFile base default domain x k path) same (record { of_domain = is.0.1; named = is.1 })

  -- one name is of one kind
  one_kind : (path : List ℕ) (j k : Kind) → IsAddress dest → NamesFile base default domain dest j path → NamesFile base default domain dest k path → j ≡ k
  one_kind path j k within n m = (one_name base domain default dest dest j k (within, n.of_domain) (within, m.of_domain) (sym n.named ∙ m.named)).1

  -- What was added.

  pub adds_none : (old : List (List ℕ × Kind)) → AddsFor base default domain dest old old
  adds_none old file there = inl there

  pub adds_one : (old new : List Found) (f : Found) (path : List ℕ) → FileAt base default domain dest path (Some f) → new ≡ old ++ f ∷ [] → AddsFor base default domain dest (files_of old) (files_of new)
  adds_one old new f path at is file there =
      ⊎_elim (λ before. inl before)
      (λ (last : Member file (file_of f ∷ [])). ⊎_elim
      (λ (same : file ≡ file_of f). inr (subst (λ (x : List ℕ × Kind). NamesFile base default domain dest x.1 x.0) (sym same) (subst (NamesFile base default domain dest f.kind) (sym at.0) at.1)))
      (λ none. absurd none) last)
      (Member-append_cases file (files_of old) (file_of f ∷ []) (subst (Member file) (ap files_of is ∙ map-append file_of old (f ∷ [])) there))

  pub adds_on : (a b c : List (List ℕ × Kind)) → AddsFor base default domain dest a b → AddsFor base default domain dest b c → AddsFor base default domain dest a c
  adds_on a b c first second file there = ⊎_elim (λ (before : Member file b). first file before) (λ named. inr named) (second file there)

  pub adds_all : (new : List (List ℕ × Kind)) → AddsFor base default domain dest [] new → AreFor base default domain dest new
  adds_all new adds file there = ⊎_elim (λ (none : Member file []). absurd none) (λ named. named) (adds file there)

  -- What was found.

  -- the same paths by other words
  pub finds_so : (P Q : List ℕ → Type 0) (a b : List (List ℕ × Kind)) → ((path : List ℕ) → Q path → P path) → FindsFor base default domain dest P a b → FindsFor base default domain dest Q a b
  finds_so P Q a b to x = record { kept = x.kept; all = λ path kind of named. x.all path kind (to path of) named }

  pub finds_on : (P Q : List ℕ → Type 0) (a b c : List (List ℕ × Kind)) → FindsFor base default domain dest P a b → FindsFor base default domain dest Q b c → FindsFor base default domain dest (λ path. P path ⊎ Q path) a c
  finds_on P Q a b c x y = record {
    kept = λ file there. y.kept file (x.kept file there);
    all = λ path kind of named. ⊎_elim (λ (p : P path). y.kept (path, kind) (x.all path kind p named)) (λ (q : Q path). y.all path kind q named) of;
  }

  pub finds_nothing : (P : List ℕ → Type 0) (a : List (List ℕ × Kind)) → ((path : List ℕ) → P path → ⊥) → FindsFor base default domain dest P a a
  finds_nothing P a none = record { kept = λ file there. there; all = λ path kind of named. absurd (none path of) }

  -- a path that is not for the address, and one that is
  pub finds_no_file : (folder name : List ℕ) (old : List (List ℕ × Kind)) → FileAt base default domain dest (folder ++ 47 ∷ name) None → FindsFor base default domain dest (IsAt folder name) old old
  finds_no_file folder name old none = record {
    kept = λ file there. there;
    all = λ path kind at named. absurd (none kind (subst (NamesFile base default domain dest kind) at named));
  }

  pub finds_file : (folder name : List ℕ) (old new : List Found) (f : Found) → IsAddress dest → FileAt base default domain dest (folder ++ 47 ∷ name) (Some f) → new ≡ old ++ f ∷ [] → FindsFor base default domain dest (IsAt folder name) (files_of old) (files_of new)
  finds_file folder name old new f within at is = record {
    kept = λ file there. subst (Member file) (sym (ap files_of is ∙ map-append file_of old (f ∷ []))) (Member-append file (files_of old) (file_of f ∷ []) there);
    all = λ path kind here named.
        let kind_is : kind ≡ f.kind = one_kind (folder ++ 47 ∷ name) kind f.kind within (subst (NamesFile base default domain dest kind) here named) at.1 in
        let path_is : path ≡ f.path.list = here ∙ sym at.0 in
        let same : (path, kind) ≡ file_of f = ap (λ (p : List ℕ). (p, kind)) path_is ∙ ap (λ (k : Kind). (f.path.list, k)) kind_is in
        subst (Member (path, kind)) (sym (ap files_of is ∙ map-append file_of old (f ∷ []))) (Member-append_right (path, kind) (files_of old) (file_of f ∷ []) (inl same));
  }

  -- names in a folder, one after another
  pub finds_more : (folder : List ℕ) (names : List (List ℕ)) (name : List ℕ) (a b c : List (List ℕ × Kind)) → FindsFor base default domain dest (IsAmong folder names) a b → FindsFor base default domain dest (IsAt folder name) b c → FindsFor base default domain dest (IsAmong folder (names ++ name ∷ [])) a c
  finds_more folder names name a b c x y =
      finds_so (λ path. IsAmong folder names path ⊎ IsAt folder name path) (IsAmong folder (names ++ name ∷ [])) a c
      (λ path of. ⊎_elim
      (λ (before : Member of.0 names). inl (of.0, before, of.2))
      (λ (last : Member of.0 (name ∷ [])). ⊎_elim (λ (same : of.0 ≡ name). inr (subst (λ (n : List ℕ). IsAt folder n path) same of.2)) (λ none. absurd none) last)
      (Member-append_cases of.0 names (name ∷ []) of.1))
      (finds_on (IsAmong folder names) (IsAt folder name) a b c x y)

  -- a folder by its names
  pub finds_folder : (outside : OutFiles) (folder : List ℕ) (names : List (List ℕ)) (a b : List (List ℕ × Kind)) → IsNamed folder → Lists folder outside names → FindsFor base default domain dest (IsAmong folder names) a b
      → FindsFor base default domain dest (StandsSo outside (IsIn folder)) a b
  finds_folder outside folder names a b named listed x = finds_so (IsAmong folder names) (StandsSo outside (IsIn folder)) a b
      (λ path of. (of.0.0, listed.all of.0.0 of.0.1 (record { at = path; file = of.1.0; stands = of.1.1; under = inl (of.0.2 ∙ sym (ap (λ (l : List ℕ). l ++ of.0.0) named ∙ append_assoc folder (47 ∷ []) of.0.0)) }), of.0.2)) x

  -- folders, one after another
  pub finds_folders : (outside : OutFiles) (folders : List (List ℕ)) (folder : List ℕ) (a b c : List (List ℕ × Kind)) → FindsFor base default domain dest (StandsSo outside (IsInOne folders)) a b
      → FindsFor base default domain dest (StandsSo outside (IsIn folder)) b c → FindsFor base default domain dest (StandsSo outside (IsInOne (folders ++ folder ∷ []))) a c
  finds_folders outside folders folder a b c x y =
      finds_so (λ path. StandsSo outside (IsInOne folders) path ⊎ StandsSo outside (IsIn folder) path) (StandsSo outside (IsInOne (folders ++ folder ∷ []))) a c
      (λ path of. ⊎_elim
      (λ (before : Member of.0.0 folders). inl ((of.0.0, before, of.0.2), of.1))
      (λ (last : Member of.0.0 (folder ∷ [])). ⊎_elim (λ (same : of.0.0 ≡ folder). inr (subst (λ (f : List ℕ). IsIn f path) same of.0.2, of.1)) (λ none. absurd none) last)
      (Member-append_cases of.0.0 folders (folder ∷ []) of.0.1))
      (finds_on (StandsSo outside (IsInOne folders)) (StandsSo outside (IsIn folder)) a b c x y)

-- The same files in another order.

contained : {A : Type 0} (xs : List A) (x : A) (k : ℕ) → k < length xs → get_or xs k x ≡ x → Member x xs
contained [] x k lt is = absurd (omega (arith, lt))
contained (y ∷ xs) x zero lt is = inl (sym is)
contained (y ∷ xs) x (suc k) lt is = inr (contained xs x k (omega (arith, lt)) is)

containing : {A : Type 0} (xs : List A) (x : A) → Member x xs → Contains xs x
containing [] x there = absurd there
containing (y ∷ xs) x (inl is) = (0, omega arith, sym is)
containing (y ∷ xs) x (inr there) = let h = containing xs x there in (suc h.0, omega (arith, h.1), h.2)

pub member_there : {A : Type 0} (xs ys : List A) (x : A) → IsPermutation xs ys → Member x xs → Member x ys
member_there xs ys x same there = let h = Contains-permutation xs ys x same (containing xs x there) in contained ys x h.0 h.1 h.2

pub files_there : (old new : List Found) (file : List ℕ × Kind) → IsPermutation old new → Member file (files_of old) → Member file (files_of new)
files_there old new file same there = member_there (files_of old) (files_of new) file (IsPermutation-map file_of old new same) there

-- Items of a list.

-- the items up to a place, and the one there
pub taken_more : {A B : Type 0} (view : A → B) (xs : List A) (i : ℕ) (x : A) → i < length xs → x ≡ get_or xs i x → map view (take (i + 1) xs) ≡ map view (take i xs) ++ view x ∷ []
taken_more {A} view xs i x lt is = ap (map view) (take_more xs i x lt ∙ ap (λ (y : A). take i xs ++ y ∷ []) (sym is)) ∙ map-append view (take i xs) (x ∷ [])

-- the item at a place is one of them
pub there_at : {A B : Type 0} (view : A → B) (xs : List A) (i : ℕ) (x : A) → i < length xs → x ≡ get_or xs i x → Member (view x) (map view xs)
there_at view [] i x lt is = absurd (omega (arith, lt))
there_at view (y ∷ xs) zero x lt is = inl (ap view is)
there_at view (y ∷ xs) (suc i) x lt is = inr (there_at view xs i x (omega (arith, lt)) is)
