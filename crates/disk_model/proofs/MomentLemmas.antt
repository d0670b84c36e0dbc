-- From call to call: what a caller of a disk says of a run of its calls.
use Rattle.std.specs.Prelude.{◌≡◌, ◌⊎◌, ℕ, ◌+◌, ◌<◌, ◌≤◌, Option, Some, None, Result, Ok, Err, IfOk}
use Rattle.std.proofs.Common.{inl, inr, ⊎_elim, refl, sym, subst, arith}
use Rattle.std.proofs.lemmas.Bool.{cases_lt}
use Rattle.ftn_addr.proofs.MomentsGrow.{moments_grew-refl, moments_grew-then}
use Rattle.disk_model.specs.World.{World}
use Rattle.disk_model.specs.Changes.{Every, Follows, Same, AtOnce}
use Rattle.disk_model.specs.Moments.{Steps, Leaves, StepOf, Together}

module _ {D : Type 0} (moment : D → ℕ) (images : D → ℕ → World → Type 0) where
  -- before the first call
  pub started : (step : World → World → Type 0) (old : D) → ((c : World) → images old (moment old) c → step c c) → Leaves moment images step old old
  started step old same = record {
    grew = moments_grew-refl (moment old) (images old);
    each = λ k c from to left.
        let now : images old (moment old) c = subst (λ (m : ℕ). images old m c) (omega arith) left in
        (c, now, same c now);
  }

  -- one call more, after which a stop leaves what the step allows
  pub goes_on : (R step : World → World → Type 0) (old mid new : D) → Leaves moment images step old mid → Steps moment images R mid new
      → Follows step (images old (moment old)) (images new (moment new)) → Leaves moment images step old new
  goes_on R step old mid new so_far time here = record {
    grew = moments_grew-then (moment old) (images old) (moment mid) (images mid) (moment new) (images new) so_far.grew time.grew;
    each = λ k c from to left. ⊎_elim
        (λ (before : k ≤ moment mid). so_far.each k c from before (time.grew.before k c before left))
        (λ (now : k ≡ moment new). here c (subst (λ (m : ℕ). images new m c) now left))
        (last k (moment mid) (moment new) to time.next);
  }
    where
      last : (k a b : ℕ) → k ≤ b → b ≤ a + 1 → (k ≤ a) ⊎ (k ≡ b)
      last k a b to next = ⊎_elim (λ (past : a < k). inr (omega arith)) (λ (le : k ≤ a). inl le) (cases_lt a k)

  -- one run after another
  pub runs_on : (R S T : World → World → Type 0) (old mid new : D) → Leaves moment images R old mid → Leaves moment images S mid new
      → ((d c : World) → images old (moment old) d → R d c → T d c)
      → ((d e c : World) → images old (moment old) d → images mid (moment mid) e → R d e → S e c → T d c) → Leaves moment images T old new
  runs_on R S T old mid new first second stays steps = record {
    grew = moments_grew-then (moment old) (images old) (moment mid) (images mid) (moment new) (images new) first.grew second.grew;
    each = λ k c from to left. ⊎_elim
        (λ (before : k ≤ moment mid).
        let was = first.each k c from before (second.grew.before k c before left) in
        (was.0, was.1, stays was.0 c was.1 was.2))
        (λ (after : moment mid ≤ k).
        let was = second.each k c after to left in
        let first_was = first.each (moment mid) was.0 first.grew.later (omega arith) was.1 in
        (first_was.0, first_was.1, steps first_was.0 was.0 c first_was.1 was.1 first_was.2 was.2))
        (either k (moment mid));
  }
    where
      either : (a b : ℕ) → (a ≤ b) ⊎ (b ≤ a)
      either a b = ⊎_elim (λ (past : a < b). inl (omega arith)) (λ (le : b ≤ a). inr le) (cases_lt a b)

  -- the same run, of which less is said
  pub weakened : (R T : World → World → Type 0) (old new : D) → ((d c : World) → images old (moment old) d → R d c → T d c) → Leaves moment images R old new → Leaves moment images T old new
  weakened R T old new leads run = record {
    grew = run.grew;
    each = λ k c from to left. let was = run.each k c from to left in (was.0, was.1, leads was.0 c was.1 was.2);
  }

  -- a call that changes nothing
  pub same_now : (old new : D) → Steps moment images Same old new → (c : World) → images new (moment new) c → images old (moment old) c
  same_now old new call c now = let was = call.now c now in subst (images old (moment old)) (sym was.2) was.1

  -- the same call, of which less is said
  pub steps_map : (R T : World → World → Type 0) (old new : D) → ((d c : World) → R d c → T d c) → Steps moment images R old new → Steps moment images T old new
  steps_map R T old new leads call = record {
    grew = call.grew;
    next = call.next;
    now = λ c left. let was = call.now c left in (was.0, was.1, leads was.0 c was.2);
  }

-- what a call did at once, of a read and of a stop alone
module _ {D T E : Type 0} (files : D → World → Type 0) (moment : D → ℕ) (images : D → ℕ → World → Type 0) (step : T → World → World → Type 0) (old new : D) where
  at_once : (result : Result T E) (made : Option T) → IfOk result (λ answer. made ≡ Some answer) → (d c : World) → StepOf step made d c → AtOnce result step d c
  at_once (Ok answer) made is d c done = subst (λ (m : Option T). StepOf step m d c) is done
  at_once (Err e) None is d c done = inl done
  at_once (Err e) (Some answer) is d c done = inr (answer, done)

  pub read_at_once : (result : Result T E) → Together files moment images result step old new → Follows (AtOnce result step) (files old) (files new)
  read_at_once result both c now = let was = both.read c now in (was.0, was.1, at_once result both.made both.answered was.0 c was.2)

  pub stop_at_once : (result : Result T E) → Together files moment images result step old new → Steps moment images (AtOnce result step) old new
  stop_at_once result both = steps_map moment images (StepOf step both.made) (AtOnce result step) old new (at_once result both.made both.answered) both.stop

  -- what was made is in both, and where nothing was made nothing is
  pub made_in_both : (answer : T) → Follows (step answer) (files old) (files new) → Steps moment images (step answer) old new → Together {T = T} {E = E} files moment images (Ok answer) step old new
  made_in_both answer read stop = record { made = Some answer; answered = refl; read = read; stop = stop }

  pub none_in_both : (e : E) → Every (files new) (files old) → Steps moment images Same old new → Together {T = T} {E = E} files moment images (Err e) step old new
  none_in_both e same stop = record { made = None; answered = tt; read = λ c now. (c, same c now, refl); stop = stop }
