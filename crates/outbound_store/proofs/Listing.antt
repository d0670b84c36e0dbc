-- What is listed of a folder, in the words of the outbound.
use Rattle.std.proofs.Common.{◌≡◌, ℕ, ◌<◌, suc, zero, ◌==◌, not, nat_eq, Bool, true, false, List, [], ◌∷◌, length, get_or, Option, Some, None, refl, sym, ap, inl, inr, arith, subst}
use Rattle.std.specs.Prelude.{Contains, option_map}
use Rattle.std.specs.List.{list_any}
use Rattle.disk_model.specs.Folders.{ListsFolder}
use Rattle.disk_model.specs.World as W
use Rattle.node_model.specs.Lists.{Member}
use Rattle.node_model.specs.Outside.{OutFile, OutFiles}
use Rattle.node_model.proofs.Lists.{and_true, and_both, none_some, off, or_false, both_false}
use Rattle.node_store.specs.Asking.{ListsOutside}
use Rattle.node_store.specs.Worlds.{out_file_of}
use Rattle.bso_outbound.specs.Reading.{no_slash}
use Rattle.outbound_places.specs.Outbound.{Lists}

-- an element of a list

contained : {A : Type 0} (xs : List A) (x : A) (k : ℕ) → k < length xs → get_or xs k x ≡ x → Member x xs
contained [] x k lt is = absurd (omega (arith, lt))
contained (y ∷ xs) x zero lt is = inl (sym is)
contained (y ∷ xs) x (suc k) lt is = inr (contained xs x k (omega (arith, lt)) is)

containing : {A : Type 0} (xs : List A) (x : A) → Member x xs → Contains xs x
containing [] x there = absurd there
containing (y ∷ xs) x (inl is) = (0, omega arith, sym is)
containing (y ∷ xs) x (inr there) = let h = containing xs x there in (suc h.0, omega (arith, h.1), h.2)

-- a name without a slash

without : (name : List ℕ) → no_slash name ≡ true → list_any (λ b. nat_eq b 47) name ≡ false
without [] part = refl
without (b ∷ name) part =
    let parts = and_true (not (b == 47)) (no_slash name) part in
    both_false (nat_eq b 47) (list_any (λ b. nat_eq b 47) name) (not_true (b == 47) parts.0) (without name parts.1)
  where
    not_true : (t : Bool) → not t ≡ true → t ≡ false
    not_true true e = off (sym e)
    not_true false e = refl

no_slashes : (name : List ℕ) → list_any (λ b. nat_eq b 47) name ≡ false → no_slash name ≡ true
no_slashes [] none = refl
no_slashes (b ∷ name) none =
    let parts = or_false (nat_eq b 47) (list_any (λ b. nat_eq b 47) name) none in
    and_both (not (b == 47)) (no_slash name) (ap not parts.0) (no_slashes name parts.1)

-- what stands under a path
stands_in : (files : List ℕ → Option W.OutFile) (path : List ℕ) (file : OutFile) → option_map out_file_of (files path) ≡ Some file → (f : W.OutFile) × (files path ≡ Some f)
stands_in files path file is = go (files path) refl is
  where
    go : (o : Option W.OutFile) → files path ≡ o → option_map out_file_of o ≡ Some file → (f : W.OutFile) × (files path ≡ Some f)
    go None same none = none_some none
    go (Some f) same is = (f, same)

-- the names in a folder
listed : (files : List ℕ → Option W.OutFile) (folder : List ℕ) (names : List (List ℕ)) → ListsFolder folder files names → Lists folder (λ path. option_map out_file_of (files path)) names
listed files folder names lists = record {
  all = λ name entry used.
      let f = stands_in files used.at used.file used.stands in
      let h = lists.all name (record { some = entry.some; one = without name entry.one }) (record { at = used.at; file = f.0; stands = f.1; under = used.under }) in
      contained names name h.0 h.1 h.2;
  only = λ name there.
      let entry = (lists.only name (containing names name there)).0 in
      record { some = entry.some; one = no_slashes name entry.one };
}

pub lists_outside : (folder : List ℕ) (outside : OutFiles) (names : List (List ℕ)) → ListsOutside folder outside names → Lists folder outside names
lists_outside folder outside names is =
    subst (λ (o : OutFiles). Lists folder o names) (sym is.are) (listed is.files folder names is.lists)
