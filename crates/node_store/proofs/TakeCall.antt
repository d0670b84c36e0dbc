-- A call that takes a file, or removes a take: what it tells, and what a stop leaves.
use Rattle.std.proofs.Common.{◌≡◌, inl, ℕ, ◌≤◌, ◌<◌, ◌+◌, ⊎_elim, Option, Some, None, Result, Ok, Err, Bool, true, false, refl, sym, ◌∙◌, ap, subst, arith}
use Rattle.std.specs.Prelude.{option_map, if◌then◌else◌}
use Rattle.std.proofs.lemmas.Bool.{cases_lt}
use Rattle.disk_model.specs.World.{World}
use Rattle.disk_model.specs.Changes.{Every}
use Rattle.disk_model.specs.Moments.{Now}
use Rattle.ftn_addr.specs.Moments.{MomentsGrew}
use Rattle.ftn_addr.specs.Counts.{Increased}
use Rattle.node_model.specs.declared.store.StoreFault.{StoreFault}
use Rattle.node_model.specs.StoreStates.{Shelf, Stored, StoreState, shelf_of}
use Rattle.node_model.specs.Stores.{IsShelf, OpensShelf}
use Rattle.node_model.proofs.Lists.{off}
use Rattle.node_store.specs.Stored.{Memory, IsKept, IsSound, stock_by, sizes_in, stored_in, state_of, left_of}
use Rattle.node_store.specs.Taking.{Around, FailsToTake, MadeOf, Takes, TookSo, around, made_so, shelf_around, stored_around, with_around}
use Rattle.node_store.specs.Worlds.{HasFiles, OpensAs, shelf_in}
use Rattle.node_store.proofs.Calls.{standing, is_told, kept_opens}
use Rattle.node_store.proofs.Openings.{opens_to}
use Rattle.node_store.proofs.TakeWorld.{IsBeside, around_in, bodies_stay, files_stay, ledger_stays, shelf_same, sizes_same, stored_same}

-- what one step of such a call does to a world; of a disk that tells, to what is around
pub record TakesOne (tells : Bool) (f : Around → Around) (d c : World) : Type 0 where
  pub one : IsBeside d c
  pub is : tells ≡ true → around_in c ≡ f (around_in d)

-- nothing may have been made yet
pub nothing : {T : Type 0} (result : Result T StoreFault) → MadeOf result None
nothing (Ok answer) = tt
nothing (Err fault) = tt

pub unchanged : (tells : Bool) (c : World) → TakesOne tells (λ a. a) c c
unchanged tells c = record { one = record { ledger = refl; outs = λ n. refl; ins = λ n. refl; gifts = refl }; is = λ t. refl }

module _ {D T : Type 0} (tells : Bool) (content : D → World) (faults moment : D → ℕ) (images : D → ℕ → World → Type 0) (old new : D) (m : Memory) (sound : IsSound tells content moment images old m) (whole : m.broken ≡ None)
    (does : T → Around → Around) (made : Option T) (read : tells ≡ true → TakesOne tells (made_so does made) (content old) (content new)) where
  abbrev was : Stored
  was = stored_in (content old) m

  abbrev before : StoreState
  before = state_of tells (content old) (faults old) m

  -- what is told

  stored_now : tells ≡ true → stored_in (content new) m ≡ stored_around (made_so does made (around was)) was
  stored_now t = let r = read t in stored_same (content old) (content new) r.one m ∙ ap (λ (a : Around). stored_around a was) (r.is t)

  state_now : (count : ℕ) → faults new ≡ count → state_of tells (content new) (faults new) m ≡ record (with_around (made_so does made) before) { counts = record { faults = count; fulls = m.fulls; broken = m.broken } }
  state_now count is =
      let sized = go tells (λ t. sizes_same (content old) (content new) (read t).one tells m.given) in
      let stored = here tells stored_now in
      λ i. record before { content = stored i; stock = stock_by (sized i) m; counts = record { faults = is i; fulls = m.fulls; broken = m.broken } }
    where
      go : (b : Bool) → (b ≡ true → sizes_in b (content new) m.given ≡ sizes_in b (content old) m.given) → sizes_in b (content new) m.given ≡ sizes_in b (content old) m.given
      go true same = same refl
      go false same = refl

      here : (b : Bool) → (b ≡ true → stored_in (content new) m ≡ stored_around (made_so does made (around was)) was)
          → (if b then Some (stored_in (content new) m) else None) ≡ option_map (λ (a : Stored). stored_around (made_so does made (around a)) a) (if b then Some was else None)
      here true same = ap Some (same refl)
      here false same = refl

  pub takes_done : (t : T) → made ≡ Some t → faults new ≡ faults old → state_of tells (content new) (faults new) m ≡ with_around (does t) before
  takes_done t is calm = state_now (faults old) calm ∙ ap (λ (o : Option T). with_around (made_so does o) before) is

  -- the disk failed
  pub takes_failed : Increased (faults old) (faults new) → FailsToTake does before (state_of tells (content new) (faults new) (record m { broken = Some (faults new) }))
  takes_failed rose = record {
    rose = rose;
    made = made;
    same = ap (λ (s : StoreState). record s { counts = record s.counts { broken = Some (faults new) } }) (state_now (faults new) refl);
  }

  -- what a stop leaves
  module _ (grew : MomentsGrew (moment old) (images old) (moment new) (images new)) (allowed : Option T → Type 0)
      (left : (c : World) → Now moment images new c → (d : World) × Now moment images old d × ((o : Option T) × allowed o × TakesOne tells (made_so does o) d c)) where
    abbrev after : Option T → Stored
    after o = stored_around (made_so does o (around was)) was

    -- one image
    one_image : (o : Option T) (d c : World) → IsKept tells (content old) m d → TakesOne tells (made_so does o) d c → tells ≡ true → HasFiles m.books.folding.state c × (shelf_in c m.books.folding.state ≡ shelf_of (after o))
    one_image o d c kept t tell =
        let e : around_in d ≡ around was = ap (λ (x : Shelf). record { takes = x.takes; outside = x.outside }) (kept.same tell) in (
          files_stay d c t.one m.books.folding.state (kept.files tell),
          shelf_same d c t.one m.books.folding.state ∙ (λ i. shelf_around ((t.is tell ∙ ap (made_so does o) e) i) (kept.same tell i)),
        )

    opens_one : (tell : tells ≡ true) (o : Option T) (d c : World) → IsKept tells (content old) m d → TakesOne tells (made_so does o) d c → OpensAs c (shelf_in c m.books.folding.state)
    opens_one tell o d c kept t =
        record { payloads = m.books.payloads; ledger = inl (ledger_stays d c t.one m.books.payloads kept.ledger); state = m.books.folding.state; folds = sound.memory.books.folds; files = (one_image o d c kept t tell).0; is = refl }

    is_after : (tell : tells ≡ true) (o : Option T) (d : Shelf) → d ≡ shelf_of (after o) → IsShelf (with_around (made_so does o) before).content d
    is_after tell o d is = go tells tell
      where
        go : (b : Bool) → b ≡ true → IsShelf (option_map (λ (a : Stored). stored_around (made_so does o (around a)) a) (if b then Some was else None)) d
        go true t = is
        go false t = off (sym t)

    kept_now : ((o : Option T) → allowed o → o ≡ made) → Every (Now moment images new) (IsKept tells (content new) m)
    kept_now only c image =
        let l = left c image in
        let o = l.2.0 in
        let t = l.2.2 in
        let kept = sound.kept whole l.0 l.1 in
        record {
          ledger = ledger_stays l.0 c t.one m.books.payloads kept.ledger;
          files = λ tell. (one_image o l.0 c kept t tell).0;
          same = λ tell. (one_image o l.0 c kept t tell).1 ∙ ap (λ (x : Option T). shelf_of (after x)) (only o l.2.1) ∙ sym (ap shelf_of (stored_now tell));
        }

    -- what is answered, after a memory that says as much, where at each moment since the beginning some of it was made
    pub takes_many : (result : Result T StoreFault) (m' : Memory)
        → ((k : ℕ) (c : World) → moment old ≤ k → k ≤ moment new → images new k c → (d : World) × Now moment images old d × ((o : Option T) × MadeOf result o × TakesOne tells (made_so does o) d c))
        → (m'.broken ≡ None → (o : Option T) → allowed o → o ≡ made)
        → (tells ≡ true → shelf_of (stored_in (content new) m') ≡ shelf_of (stored_in (content new) m)) → TookSo does result before (state_of tells (content new) (faults new) m')
        → Takes does result (standing tells content faults moment images old m) (standing tells content faults moment images new m')
    takes_many result m' each only same answers = record {
      made = answers;
      grew = record { later = grew.later; before = λ k o le l. (l.0, l.1, grew.before k l.1 le l.2, l.3) };
      since = λ k o from to l.
          let x = each k l.1 from to l.2 in
          let kept = sound.kept whole x.0 x.1 in
          opens_to (λ (d : Shelf). (x : Option T) × MadeOf result x × IsShelf (with_around (made_so does x) before).content d) l.1 (shelf_in l.1 m.books.folding.state)
          (opens_one l.0 x.2.0 x.0 l.1 kept x.2.2)
          (x.2.0, x.2.1, is_after l.0 x.2.0 (shelf_in l.1 m.books.folding.state) (one_image x.2.0 x.0 l.1 kept x.2.2 l.0).1) o l.3;
      now = λ still o l.
          let now = kept_opens tells l.0 (content new) m sound.memory.books.folds l.1 (kept_now (only still) l.1 l.2) in
          opens_to (IsShelf (state_of tells (content new) (faults new) m').content) l.1 (shelf_in l.1 m.books.folding.state) now.0
          (is_told tells l.0 (content new) (faults new) m' (shelf_in l.1 m.books.folding.state) (now.1 ∙ sym (same l.0))) o l.3;
    }

    -- the same of a call that makes one moment more
    pub takes_call : moment new ≤ moment old + 1 → (result : Result T StoreFault) (m' : Memory) → ((o : Option T) → allowed o → MadeOf result o) → (m'.broken ≡ None → (o : Option T) → allowed o → o ≡ made)
        → (tells ≡ true → shelf_of (stored_in (content new) m') ≡ shelf_of (stored_in (content new) m)) → TookSo does result before (state_of tells (content new) (faults new) m')
        → Takes does result (standing tells content faults moment images old m) (standing tells content faults moment images new m')
    takes_call next result m' allows only same answers = takes_many result m' each only same answers
      where
        each : (k : ℕ) (c : World) → moment old ≤ k → k ≤ moment new → images new k c → (d : World) × Now moment images old d × ((o : Option T) × MadeOf result o × TakesOne tells (made_so does o) d c)
        each k c from to image = ⊎_elim
            (λ (past : moment old < k).
            let at : k ≡ moment new = omega (arith, past, to, next) in
            let x = left c (subst (λ (i : ℕ). images new i c) at image) in
            (x.0, x.1, (x.2.0, allows x.2.0 x.2.1, x.2.2)))
            (λ (le : k ≤ moment old).
            let at : k ≡ moment old = omega (arith, from, le) in
            (c, subst (λ (i : ℕ). images old i c) at (grew.before k c le image), (None, nothing result, unchanged tells c)))
            (cases_lt (moment old) k)

    -- each image at its end, also of a broken store
    pub left_now : (m' : Memory) → ((o : Option T) → allowed o → o ≡ made) → (tells ≡ true → shelf_of (stored_in (content new) m') ≡ shelf_of (stored_in (content new) m)) → (o : Option Shelf) → left_of tells (images new) (moment new) o
        → OpensShelf (IsShelf (state_of tells (content new) (faults new) m').content) o
    left_now m' only same o l =
        let now = kept_opens tells l.0 (content new) m sound.memory.books.folds l.1 (kept_now only l.1 l.2) in
        opens_to (IsShelf (state_of tells (content new) (faults new) m').content) l.1 (shelf_in l.1 m.books.folding.state) now.0
        (is_told tells l.0 (content new) (faults new) m' (shelf_in l.1 m.books.folding.state) (now.1 ∙ sym (same l.0))) o l.3

    pub takes_sound : ((o : Option T) → allowed o → o ≡ made) → IsSound tells content moment images new m
    takes_sound only = record {
      memory = sound.memory;
      kept = λ still. kept_now only;
      bodies = λ still t. bodies_stay (content old) (content new) (read t).one m (sound.bodies whole t);
    }
