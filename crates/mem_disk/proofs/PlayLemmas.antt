-- From the step of a noted call to the step that a clause names.
use Rattle.std.proofs.Common.{◌≡◌, ◌⊎◌, inl, Option, Some, None, true, Result, Ok, Err, refl, sym, ◌∙◌, ap, subst}
use Rattle.std.specs.Prelude.{IfOk, OnOk, MatchResult, is_some}
use Rattle.ftn_addr.specs.declared.refusals.NoMemory.{NoMemory}
use Rattle.disk_model.specs.World.{Files, World}
use Rattle.disk_model.specs.Changes.{Every, Follows, Same, AtOnce, OnOwn}
use Rattle.disk_model.specs.Moments.{Steps, Together}
use Rattle.disk_model.proofs.MomentLemmas.{steps_map, made_in_both, none_in_both}
use Rattle.mem_disk.specs.Holding.{Holding, play, shown}
use Rattle.mem_disk.specs.MemoryDisk.{may, mem_files, mem_moment, mem_images, Plays}
use Rattle.mem_disk.specs.declared.call.Call.{Call}
use Rattle.mem_disk.specs.declared.disk.MemDisk.{MemDisk}

-- where the step of a done call and no step at all both are R
pub plays_is : {T E : Type 0} (call : Result Call NoMemory) (result : Result T E) (x : Call) (R : World → World → Type 0) (read d c : World) → IfOk call (λ it. it ≡ x)
    → (may x read d c → R d c) → ((w : World) → R w w) → Plays call result read d c → R d c
plays_is (Ok y) (Ok v) x R read d c is made none step = made (subst (λ (z : Call). may z read d c) is step)
plays_is (Ok y) (Err e) x R read d c is made none step = subst (λ (w : World). R d w) (sym step) (none d)
plays_is (Err f) (Ok v) x R read d c is made none step = absurd step
plays_is (Err f) (Err e) x R read d c is made none step = subst (λ (w : World). R d w) (sym step) (none d)

-- the same for a call that happens at once
pub plays_at_once : {T E : Type 0} (call : Result Call NoMemory) (result : Result T E) (x : Call) (step : T → World → World → Type 0) (read d c : World) → IfOk call (λ it. it ≡ x)
    → ((answer : T) → may x read d c → step answer d c) → Plays call result read d c → AtOnce result step d c
plays_at_once (Ok y) (Ok v) x step read d c is made played = made v (subst (λ (z : Call). may z read d c) is played)
plays_at_once (Ok y) (Err e) x step read d c is made played = inl played
plays_at_once (Err f) (Ok v) x step read d c is made played = absurd played
plays_at_once (Err f) (Err e) x step read d c is made played = inl played

pub follows_map : (R S : World → World → Type 0) (old new : World → Type 0) → ((d c : World) → old d → R d c → S d c) → Follows R old new → Follows S old new
follows_map R S old new leads follows c now = let was = follows c now in (was.0, was.1, leads was.0 c was.1 was.2)

-- what nothing changed in is as before
pub follows_same : (old new : World → Type 0) → Follows Same old new → Every new old
follows_same old new follows c now = let was = follows c now in subst old (sym was.2) was.1

pub told_by : (d : MemDisk) (P : World → Type 0) → P (shown d.held) → Every (mem_files d) P
told_by d P is w now = subst P (sym now) is

pub own_same : (step : Files → Files → Type 0) → ((f : Files) → step f f) → (w : World) → OnOwn step w w
own_same step same w = record { own = same w.own; outside = refl; gifts = refl }

-- what is read after a call that was made
pub done_follows : {T E : Type 0} (old new : MemDisk) (result : Result T E) (h : Holding) (R : World → World → Type 0) → OnOk result (new.held ≡ h) → R (shown old.held) (shown h)
    → OnOk result (Follows R (mem_files old) (mem_files new))
done_follows old new (Ok v) h R is step = λ c now. (shown old.held, refl, subst (R (shown old.held)) (sym (now ∙ ap shown is)) step)
done_follows old new (Err e) h R is step = tt

pub done_of : {T E : Type 0} (call : Result Call NoMemory) (result : Result T E) (x : Call) (old new : MemDisk) → IfOk call (λ it. it ≡ x)
    → OnOk result (MatchResult call (λ it. new.held ≡ play it old.held) (λ _. ⊥)) → OnOk result (new.held ≡ play x old.held)
done_of (Ok y) (Ok v) x old new is done = done ∙ ap (λ (z : Call). play z old.held) is
done_of (Ok y) (Err e) x old new is done = tt
done_of (Err f) (Ok v) x old new is done = absurd done
done_of (Err f) (Err e) x old new is done = tt

-- nothing changed, in a call that may have failed
pub at_once_unchanged : {T : Type 0} (step : T → World → World → Type 0) (old new : World → Type 0) → Every new old → Follows (λ d c. (c ≡ d) ⊎ ((answer : T) × step answer d c)) old new
at_once_unchanged step old new every w now = (w, every w now, inl refl)

pub at_once_failed : {T : Type 0} (step : T → World → World → Type 0) (old new : World → Type 0) → Follows (λ d c. c ≡ d) old new → Follows (λ d c. (c ≡ d) ⊎ ((answer : T) × step answer d c)) old new
at_once_failed step old new follows w now = let was = follows w now in (was.0, was.1, inl was.2)

-- a file that was found
pub found_of : {X : Type 0} (o : Option X) → is_some o ≡ true → (x : X) × (o ≡ Some x)
found_of None is = absurd (cc is)
found_of (Some x) is = (x, refl)

-- Of a call that happens at once: it was noted; it passed, and what it answers does nothing; or it failed.
module _ {T E : Type 0} (step : T → World → World → Type 0) (old new : MemDisk) where
  pub noted_both : (answer : T) (x : Call) → ((d c : World) → may x (shown old.held) d c → step answer d c) → Follows (may x (shown old.held)) (mem_files old) (mem_files new)
      → Steps mem_moment mem_images (may x (shown old.held)) old new → Together {T = T} {E = E} mem_files mem_moment mem_images (Ok answer) step old new
  noted_both answer x leads read stop =
      made_in_both mem_files mem_moment mem_images step old new answer (follows_map (may x (shown old.held)) (step answer) (mem_files old) (mem_files new) (λ d c was is. leads d c is) read)
      (steps_map mem_moment mem_images (may x (shown old.held)) (step answer) old new leads stop)

  pub passed_both : (answer : T) → ((d c : World) → c ≡ d → step answer d c) → Every (mem_files new) (mem_files old) → Steps mem_moment mem_images Same old new
      → Together {T = T} {E = E} mem_files mem_moment mem_images (Ok answer) step old new
  passed_both answer leads read stop =
      made_in_both mem_files mem_moment mem_images step old new answer (λ c now. (c, read c now, leads c c refl)) (steps_map mem_moment mem_images Same (step answer) old new leads stop)

  pub failed_both : (e : E) → Follows Same (mem_files old) (mem_files new) → Steps mem_moment mem_images Same old new → Together {T = T} {E = E} mem_files mem_moment mem_images (Err e) step old new
  failed_both e read stop = none_in_both mem_files mem_moment mem_images step old new e (follows_same (mem_files old) (mem_files new) read) stop

  pub unnoted_both : (e : E) → Every (mem_files new) (mem_files old) → Steps mem_moment mem_images Same old new → Together {T = T} {E = E} mem_files mem_moment mem_images (Err e) step old new
  unnoted_both e read stop = none_in_both mem_files mem_moment mem_images step old new e read stop
