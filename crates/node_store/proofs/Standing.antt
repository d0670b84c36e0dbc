-- The takes that an opening finds are those that stand.
use Rattle.std.proofs.Common.{◌≡◌, ◌⊎◌, inl, inr, ℕ, ◌≤◌, max, List, [], ◌∷◌, ◌++◌, filter, fold, length, take, get_or, ◌+◌, ◌<◌, Option, Some, None, Bool, true, false, not, refl, sym, ◌∙◌, ap, subst, arith, append-nil, append_assoc}
use Rattle.std.specs.Prelude.{IsSome, if◌then◌else◌}
use Rattle.std.specs.List.{AllByRecursion}
use Rattle.disk_model.specs.World.{World}
use Rattle.std.proofs.lemmas.List.{take_more}
use Rattle.disk_model.specs.Changes.{Every, Follows, Stands}
use Rattle.disk_model.specs.Moments.{Leaves, Now}
use Rattle.disk_model.specs.Folders.{ListsFiles}
use Rattle.ledger_rec.specs.Fold.{State, is_among}
use Rattle.ledger_rec.specs.Payloads.{fold_of}
use Rattle.ledger_file.specs.Ledger.{LedgerIs}
use Rattle.node_model.specs.Lists.{Member}
use Rattle.node_model.specs.StoreStates.{Shelf}
use Rattle.node_model.proofs.Lists.{off, some_inj}
use Rattle.node_store.specs.Clearing.{Restores}
use Rattle.node_store.specs.Names.{AreDistinct, take_number}
use Rattle.node_store.specs.Opening.{IsTidied, Recovers}
use Rattle.node_store.specs.Standing.{StandSo, behind, found_as, found_takes, found_under}
use Rattle.node_store.specs.Strays.{HasNoStray}
use Rattle.node_store.specs.Keeping.{IsUntouched}
use Rattle.node_store.specs.Tending.{IsTended, Mirrors}
use Rattle.node_store.specs.Takes.{AreStanding, IsLeft, Takes, own_names, with_found}
use Rattle.node_store.specs.Worlds.{HasFiles, OpensAs, if_take, shelf_in, takes_in}
use Rattle.node_store.specs.declared.takes.TakeName.{TakeName}
use Rattle.node_store.proofs.Greatest.{numbers_below}
use Rattle.node_store.proofs.Listed.{all_last}
use Rattle.node_store.proofs.ListedItems.{contained, containing, distinct}
use Rattle.node_store.proofs.Passed.{distinct_passed, member_passed, passed_member}
use Rattle.node_store.proofs.Recovering.{leaves-same, leaves-then, opened_is, opens_so, restores-refl}
use Rattle.node_store.proofs.Rest.{reads-then}
use Rattle.node_store.proofs.Untouched.{beside-later, untouched-now, untouched-then}

module _ (recorded : List ℕ) where
  -- it is the name of a take whose number isn't recorded
  abbrev pub new_as : Option ℕ → Bool
  new_as None = false
  new_as (Some take) = not (is_among take recorded)

  abbrev pub is_new : List ℕ → Bool
  is_new name = new_as (take_number name)

  -- their names are those of such takes

  own_more : (left : List TakeName) (x : TakeName) → own_names (left ++ x ∷ []) ≡ own_names left ++ x.own ∷ []
  own_more [] x = refl
  own_more (y ∷ left) x = ap (λ (l : List (List ℕ)). y.own ∷ l) (own_more left x)

  own_found : (names : List (List ℕ)) (t : Takes) → own_names (fold (λ u name. found_under recorded name u) t names).left ≡ own_names t.left ++ filter is_new names
  own_found [] t = sym (append-nil (own_names t.left))
  own_found (name ∷ names) t = own_found names (found_under recorded name t) ∙ one (take_number name)
    where
      rest : List (List ℕ)
      rest = filter is_new names

      picked : (n : ℕ) (b : Bool) → own_names (if b then t else with_found n name t).left ++ rest ≡ own_names t.left ++ (if not b then name ∷ rest else rest)
      picked n true = refl
      picked n false = ap (λ (l : List (List ℕ)). l ++ rest) (own_more t.left (record { take = n; own = name; recorded = false })) ∙ append_assoc (own_names t.left) (name ∷ []) rest

      one : (o : Option ℕ) → own_names (found_as recorded name o t).left ++ rest ≡ own_names t.left ++ (if new_as o then name ∷ rest else rest)
      one None = refl
      one (Some n) = picked n (is_among n recorded)

  -- each of them is such a take, and no number is above the last

  record Sofar (t : Takes) : Type 0 where
    below : AllByRecursion (λ n. n ≤ t.last) recorded
    left : AllByRecursion (IsLeft t.last recorded) t.left

  numbers_rise : (last more : ℕ) → last ≤ more → (ns : List ℕ) → AllByRecursion (λ n. n ≤ last) ns → AllByRecursion (λ n. n ≤ more) ns
  numbers_rise last more le [] all = tt
  numbers_rise last more le (n ∷ ns) all = (let low = all.0 in omega (arith, low, le), numbers_rise last more le ns all.1)

  left_rise : (last more : ℕ) → last ≤ more → (xs : List TakeName) → AllByRecursion (IsLeft last recorded) xs → AllByRecursion (IsLeft more recorded) xs
  left_rise last more le [] all = tt
  left_rise last more le (x ∷ xs) all = (record { named = all.0.named; below = (let low = all.0.below in omega (arith, low, le)); noted = all.0.noted }, left_rise last more le xs all.1)

  picked_found : (name : List ℕ) (n : ℕ) (b : Bool) (t : Takes) → take_number name ≡ Some n → is_among n recorded ≡ b → Sofar t → Sofar (if b then t else with_found n name t)
  picked_found name n true t is among so = so
  picked_found name n false t is free so = record {
    below = numbers_rise t.last (max t.last n) (omega arith) recorded so.below;
    left = all_last (IsLeft (max t.last n) recorded) t.left (record { take = n; own = name; recorded = false }) (left_rise t.last (max t.last n) (omega arith) t.left so.left) (record { named = is; below = omega arith; noted = sym free });
  }

  one_found : (name : List ℕ) (o : Option ℕ) (t : Takes) → take_number name ≡ o → Sofar t → Sofar (found_as recorded name o t)
  one_found name None t is so = so
  one_found name (Some n) t is so = picked_found name n (is_among n recorded) t is refl so

  all_found : (names : List (List ℕ)) (t : Takes) → Sofar t → Sofar (fold (λ u name. found_under recorded name u) t names)
  all_found [] t so = so
  all_found (name ∷ names) t so = all_found names (found_under recorded name t) (one_found name (take_number name) t refl so)

-- what is new in a name
new_is : (recorded : List ℕ) (name : List ℕ) (o : Option ℕ) → take_number name ≡ o → is_new recorded name ≡ true → (take : ℕ) × (o ≡ Some take) × (is_among take recorded ≡ false)
new_is recorded name None is new = off (sym (sym (ap (new_as recorded) is) ∙ new))
new_is recorded name (Some n) is new = (n, refl, go (is_among n recorded) refl)
  where
    go : (b : Bool) → is_among n recorded ≡ b → is_among n recorded ≡ false
    go true among = off (sym (sym (ap (new_as recorded) is ∙ ap not among) ∙ new))
    go false free = free

-- a take that stands has a number and a file
stands_so : (w : World) (name : List ℕ) (o : Option ℕ) (file : Option (List ℕ)) → take_number name ≡ o → w.own name ≡ file → IsSome (takes_in w name) → (take : ℕ) × (bytes : List ℕ) × (o ≡ Some take) × (file ≡ Some bytes)
stands_so w name None file is own some = off (sym (subst IsSome (ap (λ (o : Option ℕ). if_take o (w.own name)) is) some))
stands_so w name (Some n) None is own some = off (sym (subst IsSome (ap (λ (o : Option ℕ). if_take o (w.own name)) is ∙ own) some))
stands_so w name (Some n) (Some bytes) is own some = (n, bytes, refl, refl)

module _ (payloads : List (List ℕ)) (s : State) (folds : fold_of payloads ≡ Some s) (names : List (List ℕ)) where
  -- of a disk that listed these names, and lost no more than what is recorded
  pub standing_now : (d c : World) → ListsFiles d.own names → LedgerIs payloads d → LedgerIs payloads c → HasFiles s d → Recovers d c → HasNoStray s c → AreStanding (filter (is_new s.takes) names) (takes_in c)
  standing_now d c lists was now has recovers none name = (λ there. onward there (tidied.takes name), λ some. back some (tidied.takes name))
    where
      after : (shelf : Shelf) × OpensAs c shelf × IsTidied (shelf_in d s) shelf
      after = recovers (shelf_in d s) (opens_so payloads s folds d (inl was) has)

      tidied : IsTidied (shelf_in d s) (shelf_in c s)
      tidied = subst (IsTidied (shelf_in d s)) (opened_is payloads s folds c after.0 (inl now) after.1).1 after.2

      onward : Member name (filter (is_new s.takes) names) → (takes_in c name ≡ takes_in d name) ⊎ ((take : ℕ) × (take_number name ≡ Some take) × (is_among take s.takes ≡ true) × (takes_in c name ≡ None)) → IsSome (takes_in c name)
      onward there (inl same) =
          let m = passed_member (is_new s.takes) names name there in
          let file = lists.only name (containing names name m.0) in
          let new = new_is s.takes name (take_number name) refl m.1 in
          subst IsSome (sym (same ∙ ap (λ (o : Option ℕ). if_take o (d.own name)) new.1 ∙ file.1)) refl
      onward there (inr gone) =
          let m = passed_member (is_new s.takes) names name there in
          let new = new_is s.takes name (take_number name) refl m.1 in
          off (sym (sym new.2 ∙ ap (λ (n : ℕ). is_among n s.takes) (some_inj (sym new.1 ∙ gone.1)) ∙ gone.2))

      back : IsSome (takes_in c name) → (takes_in c name ≡ takes_in d name) ⊎ ((take : ℕ) × (take_number name ≡ Some take) × (is_among take s.takes ≡ true) × (takes_in c name ≡ None)) → Member name (filter (is_new s.takes) names)
      back some (inr gone) = off (sym (subst IsSome gone.3 some))
      back some (inl same) =
          let here = stands_so c name (take_number name) (c.own name) refl refl some in
          let there = stands_so d name (take_number name) (d.own name) refl refl (subst IsSome same some) in
          let h = lists.all name there.1 there.3 in
          member_passed (is_new s.takes) names name (contained names name h.0 h.1 h.2) (unrecorded here (is_among here.0 s.takes) refl)
        where
          unrecorded : (here : (take : ℕ) × (bytes : List ℕ) × (take_number name ≡ Some take) × (c.own name ≡ Some bytes)) → (b : Bool) → is_among here.0 s.takes ≡ b → is_new s.takes name ≡ true
          unrecorded here true among = absurd (none name here.1 here.3 (inr (inr (inr (record { take = here.0; named = here.2; recorded = among })))))
          unrecorded here false free = ap (new_as s.takes) here.2 ∙ ap not free

  -- the takes that were found are those that stand
  pub stand_so : (read : World → Type 0) (t : Takes) → t ≡ found_takes s.takes names → Every read (λ w. AreDistinct names) → Every read (λ w. AreStanding (filter (is_new s.takes) names) (takes_in w)) → StandSo read s t
  stand_so read t is apart standing =
      let so = all_found s.takes names (behind s.takes) (record { below = numbers_below 0 s.takes; left = tt }) in
      let own : own_names (found_takes s.takes names).left ≡ filter (is_new s.takes) names = own_found s.takes names (behind s.takes) in
      subst (StandSo read s) (sym is) (record {
        recorded = so.below;
        left = so.left;
        apart = λ w now. subst AreDistinct (sym own) (distinct_passed (is_new s.takes) names (apart w now));
        standing = λ w now. subst (λ (l : List (List ℕ)). AreStanding l (takes_in w)) (sym own) (standing w now);
      })

-- One name after another.

fold_last : (recorded : List ℕ) (names : List (List ℕ)) (t : Takes) (name : List ℕ) → fold (λ u n. found_under recorded n u) t (names ++ name ∷ []) ≡ found_under recorded name (fold (λ u n. found_under recorded n u) t names)
fold_last recorded [] t name = refl
fold_last recorded (n ∷ names) t name = fold_last recorded names (found_under recorded n t) name

pub found_more : (recorded : List ℕ) (names : List (List ℕ)) (i : ℕ) (name : List ℕ) → i < length names → name ≡ get_or names i name
    → found_under recorded name (fold (λ u n. found_under recorded n u) (behind recorded) (take i names)) ≡ fold (λ u n. found_under recorded n u) (behind recorded) (take (i + 1) names)
found_more recorded names i name lt is =
    sym (ap (fold (λ u n. found_under recorded n u) (behind recorded)) (take_more names i name lt ∙ ap (λ (n : List ℕ). take i names ++ n ∷ []) (sym is)) ∙ fold_last recorded (take i names) (behind recorded) name)

-- each name that is listed stands
pub listed_stands : (w : World) (names : List (List ℕ)) (i : ℕ) (name : List ℕ) → i < length names → name ≡ get_or names i name → ListsFiles w.own names → Stands name 0 w
listed_stands w names i name lt is lists = let h = lists.only name (i, lt, sym is) in (h.0, h.1, omega arith)

module _ {D : Type 0} (files : D → World → Type 0) (moment : D → ℕ) (images : D → ℕ → World → Type 0) (tells : Bool) (content : D → World) (as_read : (d : D) (w : World) → files d w → Now moment images d w)
    (payloads : List (List ℕ)) (s : State) (names : List (List ℕ)) (mid new : D) (was : IsTended files moment images payloads s mid) (tended : IsTended files moment images payloads s new) where
  -- the disk of which these names were listed, once strays were removed
  pub takes_stand : (t : Takes) → t ≡ found_takes s.takes names → ((w : World) → files mid w → ListsFiles w.own names) → Follows Restores (files mid) (files new) → Every (files new) (HasNoStray s) → StandSo (files new) s t
  takes_stand t is lists read none =
      stand_so payloads s was.folds names (files new) t is (λ c now. let p = read c now in distinct names (lists p.0 p.1).ascend) (λ c now.
      let p = read c now in
      standing_now payloads s was.folds names p.0 c (lists p.0 p.1) (was.ledger p.0 (as_read mid p.0 p.1)) (tended.ledger c (as_read new c now)) (was.fits p.0 p.1) p.2.recovers (none c now))

-- an untouched disk is as it was looked through
pub untouched_tended : {D : Type 0} (files : D → World → Type 0) (moment : D → ℕ) (images : D → ℕ → World → Type 0) (payloads : List (List ℕ)) (s : State) (old new : D) → IsUntouched files moment images old new → IsTended files moment images payloads s old
    → IsTended files moment images payloads s new
untouched_tended files moment images payloads s old new u was = record {
  folds = was.folds;
  ledger = λ c now. was.ledger c (untouched-now files moment images old new u c now);
  fits = λ f read. was.fits f (u.read f read);
  same = beside-later files moment images (Mirrors s) old new u was.same;
}

-- parts were cut, names listed and takes kept, and strays removed
module _ {D : Type 0} (files : D → World → Type 0) (moment : D → ℕ) (images : D → ℕ → World → Type 0) (old cut listed kept new : D) (u : IsUntouched files moment images cut listed) (v : IsUntouched files moment images listed kept) where
  pub tidied_stop : Leaves moment images Restores old cut → Leaves moment images Restores kept new → Leaves moment images Restores old new
  tidied_stop first last = leaves-then moment images old cut new first (leaves-then moment images cut kept new (leaves-same moment images cut kept (untouched-then files moment images cut listed kept u v).stop) last)

  pub tidied_reads : Follows Restores (files old) (files cut) → Follows Restores (files kept) (files new) → Follows Restores (files old) (files new)
  tidied_reads first last = reads-then (files old) (files cut) (files new) first (reads-then (files cut) (files kept) (files new) (λ w read. (w, u.read w (v.read w read), restores-refl w)) last)
