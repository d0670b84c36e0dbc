-- A take more, and a take less.
use Rattle.std.proofs.Common.{◌≡◌, ◌≢◌, inl, inr, ℕ, ◌+◌, ◌≤◌, ◌<◌, ◌==◌, ◌||◌, List, [], ◌∷◌, ◌++◌, Option, Some, None, Bool, true, false, refl, sym, ◌∙◌, ap, subst, arith}
use Rattle.std.specs.Prelude.{IsSome, filter, not, option_map, if◌then◌else◌}
use Rattle.std.specs.List.{AllByRecursion}
use Rattle.std.specs.Str.{bytes_eq}
use Rattle.std.proofs.lemmas.Bool.Decides.{Decides-eqb}
use Rattle.std.proofs.lemmas.Slice.Eq.{bytes_eq-Decides, slice_eq-Decides}
use Rattle.disk_model.specs.Answers.{MovedOf}
use Rattle.disk_model.specs.Changes.{Every, IsFree}
use Rattle.disk_model.specs.World as W
use Rattle.disk_model.specs.World.{World}
use Rattle.disk_model.specs.declared.answers.Moved.{Moved}
use Rattle.disk_model.specs.declared.answers.Moved.TheVariants.{Done, Absent}
use Rattle.ledger_rec.specs.Fold.{is_among}
use Rattle.node_model.specs.Lists.{Each, Member}
use Rattle.node_model.specs.Outside.{OutFile}
use Rattle.node_model.specs.StoreStates.{Stored, StoreState, IfTold}
use Rattle.node_model.proofs.Lists.{off, some_inj}
use Rattle.node_store.specs.Names.{AreDistinct, is_one, take_number}
use Rattle.node_store.specs.Takes.{AreStanding, AreTakesOf, IsLeft, Takes, own_names, with_moved, without_take}
use Rattle.node_store.specs.Taking.{HasMoved, IsFreshTake, put_take, take_gone, taken_so, with_around}
use Rattle.node_store.specs.Stored.{Memory, state_of}
use Rattle.node_store.specs.Worlds.{if_take, out_file_of}
use Rattle.node_store.specs.declared.takes.TakeName.{TakeName}
use Rattle.node_store.proofs.Listed.{all_last}
use Rattle.node_store.proofs.Passed.{distinct_passed, member_passed, passed_member}

-- The number behind the last is no take's.

unequal : (n k : ℕ) → n < k → (n == k) ≡ false
unequal n k below = go (n == k) refl
  where
    go : (b : Bool) → (n == k) ≡ b → (n == k) ≡ false
    go true same = let e = (Decides-eqb n k).0 same in absurd (omega (arith, below, e))
    go false other = other

neither : (a b : Bool) → a ≡ false → b ≡ false → (a || b) ≡ false
neither true b e f = off e
neither false b e f = f

unrecorded : (k last : ℕ) → last < k → (ns : List ℕ) → AllByRecursion (λ n. n ≤ last) ns → is_among k ns ≡ false
unrecorded k last above [] all = refl
unrecorded k last above (n ∷ ns) all =
    let low = all.0 in
    neither (n == k) (is_among k ns) (unequal n k (omega (arith, above, low))) (unrecorded k last above ns all.1)

numbered : (last : ℕ) (recorded : List ℕ) (own : List ℕ) (xs : List TakeName) → AllByRecursion (IsLeft last recorded) xs → Member own (own_names xs) → (take : ℕ) × (take_number own ≡ Some take) × (take ≤ last)
numbered last recorded own [] all there = absurd there
numbered last recorded own (x ∷ xs) all (inl here) = (x.take, ap take_number here ∙ all.0.named, all.0.below)
numbered last recorded own (x ∷ xs) all (inr there) = numbered last recorded own xs all.1 there

unnamed : (t : Takes) (s : StoreState) → AreTakesOf t s → (own : List ℕ) (take : ℕ) → t.last < take → take_number own ≡ Some take → Member own (own_names t.left) → ⊥
unnamed t s is own take above named there =
    let n = numbered t.last s.recorded own t.left is.left there in
    let e = some_inj (sym n.1 ∙ named) in
    let low = n.2 in
    omega (arith, above, low, e)

pub fresh : (t : Takes) (s : StoreState) → AreTakesOf t s → IsFreshTake (t.last + 1) s
fresh t s is = record {
  unrecorded = unrecorded (t.last + 1) t.last (omega arith) s.recorded is.recorded;
  free = go s.content is.standing;
}
  where
    go : (c : Option Stored) → IfTold c (λ a. AreDistinct (own_names t.left) × AreStanding (own_names t.left) a.takes) → IfTold c (λ a. (own : List ℕ) → take_number own ≡ Some (t.last + 1) → a.takes own ≡ None)
    go None told = tt
    go (Some a) told = λ own named. here own named (a.takes own) refl
      where
        here : (own : List ℕ) → take_number own ≡ Some (t.last + 1) → (o : Option (List ℕ)) → a.takes own ≡ o → a.takes own ≡ None
        here own named None is_none = is_none
        here own named (Some bytes) is_some = absurd (unnamed t s is own (t.last + 1) (omega arith) named ((told.1 own).1 (subst IsSome (sym is_some) refl)))

module _ (t : Takes) (old : StoreState) (is : AreTakesOf t old) where
  -- an outside file was taken under the next number

  own_more : (left : List TakeName) (x : TakeName) → own_names (left ++ x ∷ []) ≡ own_names left ++ x.own ∷ []
  own_more [] x = refl
  own_more (y ∷ left) x = ap (λ (l : List (List ℕ)). y.own ∷ l) (own_more left x)

  member_more : (names : List (List ℕ)) (name x : List ℕ) → Member name names → Member name (names ++ x ∷ [])
  member_more [] name x there = absurd there
  member_more (y ∷ names) name x (inl here) = inl here
  member_more (y ∷ names) name x (inr there) = inr (member_more names name x there)

  member_last : (names : List (List ℕ)) (x : List ℕ) → Member x (names ++ x ∷ [])
  member_last [] x = inl refl
  member_last (y ∷ names) x = inr (member_last names x)

  member_before : (names : List (List ℕ)) (name x : List ℕ) → Member name (names ++ x ∷ []) → name ≢ x → Member name names
  member_before [] name x (inl here) other = absurd (other here)
  member_before [] name x (inr there) other = absurd there
  member_before (y ∷ names) name x (inl here) other = inl here
  member_before (y ∷ names) name x (inr there) other = inr (member_before names name x there other)

  each_last : (x : List ℕ) (names : List (List ℕ)) (own : List ℕ) → Each (λ (other : List ℕ). other ≢ x) names → own ≢ x → Each (λ (other : List ℕ). other ≢ x) (names ++ own ∷ [])
  each_last x [] own all one = (one, tt)
  each_last x (y ∷ names) own all one = (all.0, each_last x names own all.1 one)

  distinct_last : (names : List (List ℕ)) (own : List ℕ) → AreDistinct names → (Member own names → ⊥) → AreDistinct (names ++ own ∷ [])
  distinct_last [] own apart new = (tt, tt)
  distinct_last (y ∷ names) own apart new = (each_last y names own apart.0 (λ same. new (inl same)), distinct_last names own apart.1 (λ there. new (inr there)))

  left_rise : (xs : List TakeName) → AllByRecursion (IsLeft t.last old.recorded) xs → AllByRecursion (IsLeft (t.last + 1) old.recorded) xs
  left_rise [] all = tt
  left_rise (x ∷ xs) all = (record { named = all.0.named; below = (let low = all.0.below in omega (arith, low)); noted = all.0.noted }, left_rise xs all.1)

  numbers_rise : (ns : List ℕ) → AllByRecursion (λ n. n ≤ t.last) ns → AllByRecursion (λ n. n ≤ t.last + 1) ns
  numbers_rise [] all = tt
  numbers_rise (n ∷ ns) all = (let low = all.0 in omega (arith, low), numbers_rise ns all.1)

  -- under one name this stands, and the same under every other
  put_here : (own : List ℕ) (file : Option (List ℕ)) (takes : List ℕ → Option (List ℕ)) → put_take own file takes own ≡ file
  put_here own file takes = ap (λ (b : Bool). if b then file else takes own) ((bytes_eq-Decides own own).1 refl)

  put_other : (own : List ℕ) (file : Option (List ℕ)) (takes : List ℕ → Option (List ℕ)) (name : List ℕ) → name ≢ own → put_take own file takes name ≡ takes name
  put_other own file takes name other = go (bytes_eq name own) refl
    where
      go : (b : Bool) → bytes_eq name own ≡ b → (if bytes_eq name own then file else takes name) ≡ takes name
      go true same = absurd (other ((bytes_eq-Decides name own).0 same))
      go false apart = ap (λ (b : Bool). if b then file else takes name) apart

  pub takes_moved : (path own : List ℕ) (moved : Moved) (new : StoreState) → take_number own ≡ Some (t.last + 1) → IfTold old.content (λ a. HasMoved moved (a.outside path)) → new ≡ with_around (taken_so path own moved) old → AreTakesOf (with_moved own moved t) new
  takes_moved path own Absent new named told after = subst (AreTakesOf t) (sym after) (record { recorded = is.recorded; left = is.left; standing = go old.content is.standing })
    where
      go : (c : Option Stored) → IfTold c (λ a. AreDistinct (own_names t.left) × AreStanding (own_names t.left) a.takes) → IfTold (with_around (taken_so path own Absent) (record old { content = c })).content (λ a. AreDistinct (own_names t.left) × AreStanding (own_names t.left) a.takes)
      go None standing = tt
      go (Some a) standing = standing
  takes_moved path own Done new named told after = subst (AreTakesOf (with_moved own Done t)) (sym after) (record {
    recorded = numbers_rise old.recorded is.recorded;
    left = all_last (IsLeft (t.last + 1) old.recorded) t.left _ (left_rise t.left is.left) (record { named = named; below = omega arith; noted = sym (unrecorded (t.last + 1) t.last (omega arith) old.recorded is.recorded) });
    standing = go old.content told is.standing;
  })
    where
      go : (c : Option Stored) → IfTold c (λ a. HasMoved Done (a.outside path)) → IfTold c (λ a. AreDistinct (own_names t.left) × AreStanding (own_names t.left) a.takes) → IfTold (with_around (taken_so path own Done) (record old { content = c })).content (λ a. AreDistinct (own_names (with_moved own Done t).left) × AreStanding (own_names (with_moved own Done t).left) a.takes)
      go None there standing = tt
      go (Some a) there standing = subst (λ (l : List (List ℕ)). AreDistinct l × AreStanding l (put_take own (option_map (λ (f : OutFile). f.bytes) (a.outside path)) a.takes)) (sym (own_more t.left _))
          (distinct_last (own_names t.left) own standing.0 (unnamed t old is own (t.last + 1) (omega arith) named), λ name. one name (bytes_eq name own) refl)
        where
          file : Option (List ℕ)
          file = option_map (λ (f : OutFile). f.bytes) (a.outside path)

          some : (o : Option OutFile) → IsSome o → IsSome (option_map (λ (f : OutFile). f.bytes) o)
          some None none = off (sym none)
          some (Some f) is = refl

          one : (name : List ℕ) (b : Bool) → bytes_eq name own ≡ b → (Member name (own_names t.left ++ own ∷ []) → IsSome (put_take own file a.takes name)) × (IsSome (put_take own file a.takes name) → Member name (own_names t.left ++ own ∷ []))
          one name true same =
              let e = (bytes_eq-Decides name own).0 same in (
                λ m. subst IsSome (sym (ap (put_take own file a.takes) e ∙ put_here own file a.takes)) (some (a.outside path) there),
                λ s. subst (λ (n : List ℕ). Member n (own_names t.left ++ own ∷ [])) (sym e) (member_last (own_names t.left) own),
              )
          one name false apart =
              let other : name ≢ own = λ e. off (sym ((bytes_eq-Decides name own).1 e) ∙ apart) in (
                λ m. subst IsSome (sym (put_other own file a.takes name other)) ((standing.1 name).0 (member_before (own_names t.left) name own m other)),
                λ s. member_more (own_names t.left) name own ((standing.1 name).1 (subst IsSome (put_other own file a.takes name other) s)),
              )

  -- a take was removed

  own_picked : (b : Bool) (x : TakeName) (rest : List TakeName) (names : List (List ℕ)) → own_names rest ≡ names → own_names (if b then x ∷ rest else rest) ≡ (if b then x.own ∷ names else names)
  own_picked true x rest names is = ap (λ (l : List (List ℕ)). x.own ∷ l) is
  own_picked false x rest names is = is

  own_without : (own : List ℕ) (xs : List TakeName) → own_names (filter (λ (x : TakeName). not (is_one x.own own)) xs) ≡ filter (λ (n : List ℕ). not (is_one n own)) (own_names xs)
  own_without own [] = refl
  own_without own (x ∷ xs) = own_picked (not (is_one x.own own)) x (filter (λ (x : TakeName). not (is_one x.own own)) xs) (filter (λ (n : List ℕ). not (is_one n own)) (own_names xs)) (own_without own xs)

  left_picked : (b : Bool) (x : TakeName) (rest : List TakeName) → IsLeft t.last old.recorded x → AllByRecursion (IsLeft t.last old.recorded) rest → AllByRecursion (IsLeft t.last old.recorded) (if b then x ∷ rest else rest)
  left_picked true x rest one all = (one, all)
  left_picked false x rest one all = all

  left_without : (own : List ℕ) (xs : List TakeName) → AllByRecursion (IsLeft t.last old.recorded) xs → AllByRecursion (IsLeft t.last old.recorded) (filter (λ (x : TakeName). not (is_one x.own own)) xs)
  left_without own [] all = tt
  left_without own (x ∷ xs) all = left_picked (not (is_one x.own own)) x (filter (λ (x : TakeName). not (is_one x.own own)) xs) all.0 (left_without own xs all.1)

  pub takes_removed : (own : List ℕ) (new : StoreState) → new ≡ with_around (take_gone own tt) old → AreTakesOf (without_take own t) new
  takes_removed own new after = subst (AreTakesOf (without_take own t)) (sym after) (record {
    recorded = is.recorded;
    left = left_without own t.left is.left;
    standing = go old.content is.standing;
  })
    where
      other : List ℕ → Bool
      other n = not (is_one n own)

      itself : (n : List ℕ) → other n ≡ true → n ≢ own
      itself n passed same = off (sym (sym (ap not ((slice_eq-Decides Decides-eqb n own (is_one n own) refl).1 same)) ∙ passed))

      passes : (n : List ℕ) → n ≢ own → other n ≡ true
      passes n apart = go (is_one n own) refl
        where
          go : (b : Bool) → is_one n own ≡ b → other n ≡ true
          go true same = absurd (apart ((slice_eq-Decides Decides-eqb n own (is_one n own) refl).0 same))
          go false e = ap not e

      go : (c : Option Stored) → IfTold c (λ a. AreDistinct (own_names t.left) × AreStanding (own_names t.left) a.takes) → IfTold (with_around (take_gone own tt) (record old { content = c })).content (λ a. AreDistinct (own_names (without_take own t).left) × AreStanding (own_names (without_take own t).left) a.takes)
      go None standing = tt
      go (Some a) standing = subst (λ (l : List (List ℕ)). AreDistinct l × AreStanding l (put_take own None a.takes)) (sym (own_without own t.left)) (
        distinct_passed other (own_names t.left) standing.0,
        λ name. (
          λ there.
              let m = passed_member other (own_names t.left) name there in
              subst IsSome (sym (put_other own None a.takes name (itself name m.1))) ((standing.1 name).0 m.0),
          λ some. back name some (bytes_eq name own) refl,
        ),
      )
        where
          back : (name : List ℕ) → IsSome (put_take own None a.takes name) → (b : Bool) → bytes_eq name own ≡ b → Member name (filter other (own_names t.left))
          back name some true same = off (sym (subst IsSome (ap (λ (b : Bool). if b then None else a.takes name) same) some))
          back name some false apart =
              let differs : name ≢ own = λ e. off (sym ((bytes_eq-Decides name own).1 e) ∙ apart) in
              member_passed other (own_names t.left) name ((standing.1 name).1 (subst IsSome (put_other own None a.takes name differs) some)) (passes name differs)

-- what the disk is asked and answers, of a store that tells
module _ {D : Type 0} (tells : Bool) (content : D → World) (files : D → World → Type 0) where
  pub free_name : ((d : D) (w : World) → files d w → (tells ≡ true) × (w ≡ content d)) → (disk : D) (faults : ℕ) (m : Memory) (t : Takes) → AreTakesOf t (state_of tells (content disk) faults m) → (own : List ℕ) → take_number own ≡ Some (t.last + 1) → Every (files disk) (IsFree own)
  free_name reads disk faults m t is own named w read = let r = reads disk w read in subst (IsFree own) (sym r.1) (go tells r.0 is)
    where
      go : (b : Bool) → b ≡ true → AreTakesOf t (state_of b (content disk) faults m) → IsFree own (content disk)
      go true e is = sym (ap (λ (o : Option ℕ). if_take o ((content disk).own own)) named) ∙ (fresh t (state_of true (content disk) faults m) is).free own named
      go false e is = off (sym e)

  pub has_moved : (tells ≡ true → (d : D) → files d (content d)) → (disk : D) (faults : ℕ) (m : Memory) (path : List ℕ) (moved : Moved) → Every (files disk) (λ w. MovedOf moved (w.outside path)) → IfTold (state_of tells (content disk) faults m).content (λ a. HasMoved moved (a.outside path))
  has_moved told disk faults m path moved answers = go tells (λ t. answers (content disk) (told t disk))
    where
      outside : (v : Moved) (file : Option W.OutFile) → MovedOf v file → HasMoved v (option_map out_file_of file)
      outside Done file is = subst IsSome (sym (ap (option_map out_file_of) is.1)) refl
      outside Absent file is = ap (option_map out_file_of) is

      go : (b : Bool) → (b ≡ true → MovedOf moved ((content disk).outside path)) → IfTold (state_of b (content disk) faults m).content (λ a. HasMoved moved (a.outside path))
      go true is = outside moved ((content disk).outside path) (is refl)
      go false is = tt
