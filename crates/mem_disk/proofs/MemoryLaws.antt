-- A disk in memory is a disk.
use Rattle.std.proofs.Common.{◌≡◌, inl, inr, ℕ, ◌+◌, List, [], ◌∷◌, ◌++◌, length, take, refl, sym, ◌∙◌, ap, subst, arith, length-append, length-take, Result, Ok, Err}
use Rattle.std.specs.Prelude.{◌/◌, IfOk, OnOk, MatchResult}
use Rattle.std.proofs.lemmas.List.{take-append-le}
use Rattle.ftn_addr.specs.declared.refusals.NoMemory.{NoMemory}
use Rattle.disk_model.specs.World.{World}
use Rattle.disk_model.specs.Changes.{Follows, OnOwn, Rewrites, Torn}
use Rattle.disk_model.specs.Moments.{Steps, AtRest}
use Rattle.disk_model.proofs.TornLemmas.{torn_same, torn_within}
use Rattle.mem_disk.specs.Holding.{Holding, in_part, play, replay, shown}
use Rattle.mem_disk.specs.MemoryDisk.{may, run, left, Tells, mem_files, mem_moment, mem_images, Added, Unnoted, NotedAs, Plays}
use Rattle.mem_disk.specs.ReadLaw.{now_of, of_now}
use Rattle.mem_disk.specs.StopLaws.{whole}
use Rattle.mem_disk.specs.declared.call.Call.{Call}
use Rattle.mem_disk.specs.declared.call.Call.TheVariants.{Nothing, Wrote}
use Rattle.mem_disk.specs.declared.disk.MemDisk.{MemDisk}

pub replay_add : (h : Holding) (xs : List Call) (x : Call) → replay h (xs ++ x ∷ []) ≡ play x (replay h xs)
replay_add h [] x = refl
replay_add h (y ∷ ys) x = replay_add (play y h) ys x

-- a disk in memory tells its content, whatever was called
pub mem_tells : (d : MemDisk) → Tells d
mem_tells d = (shown d.held, refl)

-- the last call is one step more
run_last : (images : World → Type 0) (h : Holding) (xs : List Call) (x : Call) (c : World) → run images h (xs ++ x ∷ []) c → (d : World) × run images h xs d × may x (shown (replay h xs)) d c
run_last images h [] x c is = is
run_last images h (y ∷ ys) x c is = run_last (λ after. (d : World) × images d × may y (shown h) d after) (play y h) ys x c is

module _ (old new : MemDisk) where
  pub added_steps : (x : Call) (R : World → World → Type 0) → Added x old new → ((d c : World) → may x (shown old.held) d c → R d c) → Steps mem_moment mem_images R old new
  added_steps x R is leads = record {
    grew = record {
      later = omega (arith, size);
      before = λ k c le was.
          let short : take k new.log.items ≡ take k old.log.items = ap (λ (l : List Call). take k l) is.log ∙ take-append-le k old.log.items (x ∷ []) le in
          subst (λ (h : Holding). left h (take k old.log.items) c) is.first (subst (λ (l : List Call). left new.first l c) short was);
    };
    next = omega (arith, size);
    now = λ c was.
        let after = subst (λ (l : List Call). left old.first l c) is.log (subst (λ (h : Holding). left h new.log.items c) is.first (now_of new c was)) in
        let before = run_last (λ w. w ≡ shown old.first) old.first old.log.items x c after in
        (before.0, of_now old before.0 before.1, leads before.0 c (subst (λ (h : Holding). may x (shown h) before.0 c) (sym old.replayed) before.2));
  }
    where
      size : length new.log.items ≡ length old.log.items + 1
      size = omega (arith, ap length is.log, length-append old.log.items (x ∷ []))

  pub unnoted_steps : (R : World → World → Type 0) → Unnoted old new → ((c : World) → R c c) → Steps mem_moment mem_images R old new
  unnoted_steps R is same = record {
    grew = record { later = omega (arith, ap length is.log); before = λ k c le was. back k c was };
    next = omega (arith, ap length is.log);
    now = λ c was. (c, of_now old c (subst (λ (l : List Call). left old.first l c) is.log (subst (λ (h : Holding). left h new.log.items c) is.first (now_of new c was))), same c);
  }
    where
      back : (k : ℕ) (c : World) → mem_images new k c → mem_images old k c
      back k c was = subst (λ (l : List Call). left old.first (take k l) c) is.log (subst (λ (h : Holding). left h (take k new.log.items) c) is.first was)

  reads : (R : World → World → Type 0) (h : Holding) → new.held ≡ h → R (shown old.held) (shown h) → Follows R (mem_files old) (mem_files new)
  reads R h is step c now = (shown old.held, refl, subst (R (shown old.held)) (sym (now ∙ ap shown is)) step)

  pub plays_steps : {T E : Type 0} (call : Result Call NoMemory) (result : Result T E) → IfOk call (λ x. in_part x ≡ Nothing) → NotedAs call result old new → Steps mem_moment mem_images (Plays call result (shown old.held)) old new
  plays_steps (Ok x) (Ok v) none_left noted = added_steps x (may x (shown old.held)) noted (λ d c step. step)
  plays_steps (Ok x) (Err e) none_left (inl noted) = added_steps Nothing (λ d c. c ≡ d) (subst (λ (y : Call). Added y old new) none_left noted) (λ d c step. step)
  plays_steps (Ok x) (Err e) none_left (inr same) = unnoted_steps (λ d c. c ≡ d) same (λ c. refl)
  plays_steps (Err f) (Ok v) none_left none = absurd (cc none.0)
  plays_steps (Err f) (Err e) none_left none = unnoted_steps (λ d c. c ≡ d) none.1 (λ c. refl)

  pub plays_reads : {T E : Type 0} (call : Result Call NoMemory) (result : Result T E) → IfOk call (λ x. in_part x ≡ Nothing) → NotedAs call result old new → Follows (Plays call result (shown old.held)) (mem_files old) (mem_files new)
  plays_reads (Ok x) (Ok v) none_left noted = reads (may x (shown old.held)) (play x old.held) noted.held (whole x old.held)
  plays_reads (Ok x) (Err e) none_left (inl noted) = reads (λ d c. c ≡ d) old.held (noted.held ∙ ap (λ (y : Call). play y old.held) none_left) refl
  plays_reads (Ok x) (Err e) none_left (inr same) = reads (λ d c. c ≡ d) old.held same.held refl
  plays_reads (Err f) (Ok v) none_left none = absurd (cc none.0)
  plays_reads (Err f) (Err e) none_left none = reads (λ d c. c ≡ d) old.held none.1.held refl

  pub plays_done : {T E : Type 0} (call : Result Call NoMemory) (result : Result T E) → NotedAs call result old new → OnOk result (MatchResult call (λ x. new.held ≡ play x old.held) (λ _. ⊥))
  plays_done (Ok x) (Ok v) noted = noted.held
  plays_done (Ok x) (Err e) noted = tt
  plays_done (Err f) (Ok v) none = absurd (cc none.0)
  plays_done (Err f) (Err e) none = tt

-- a disk that made no call
pub rest_of : (first held : Holding) (log : List Call) → log ≡ [] → held ≡ first → (c w : World) → left first (take (length log) log) c → w ≡ shown held → c ≡ w
rest_of first held log none same c w now is =
    let before : c ≡ shown first = subst (λ (l : List Call). left first (take (length l) l) c) none now in
    before ∙ sym (is ∙ ap shown same)

pub at_rest : (d : MemDisk) → d.log.items ≡ [] → AtRest mem_files mem_moment mem_images d
at_rest d none = rest_of d.first d.held d.log.items none (d.replayed ∙ ap (replay d.first) none)

-- A write, which may be made, or fail with its first half, or find no memory.
module _ (name bytes : List ℕ) (at : ℕ) where
  abbrev pub Rewritten : World → World → Type 0
  Rewritten = OnOwn (Rewrites name (Torn at (length bytes)))

  widened : (d c : World) → OnOwn (Rewrites name (Torn at (length (take (length bytes / 2) bytes)))) d c → Rewritten d c
  widened d c step = record {
    own = record {
      file = λ b is. let file = step.own.file b is in (file.0, file.1, torn_within at (length (take (length bytes / 2) bytes)) (length bytes) b file.0 (omega (arith, length-take (length bytes / 2) bytes)) file.2);
      absent = step.own.absent;
      others = step.own.others;
    };
    outside = step.outside;
    gifts = step.gifts;
  }

  kept_as : (w : World) → Rewritten w w
  kept_as w = record { own = record { file = λ b is. (b, is, torn_same at (length bytes) b); absent = λ none. none; others = λ n other. refl }; outside = refl; gifts = refl }

  pub wrote_steps : {T E : Type 0} (old new : MemDisk) (call : Result Call NoMemory) (result : Result T E) → IfOk call (λ x. x ≡ Wrote name at bytes) → NotedAs call result old new → Steps mem_moment mem_images Rewritten old new
  wrote_steps old new (Ok x) (Ok v) is noted = added_steps old new (Wrote name at bytes) Rewritten (subst (λ (y : Call). Added y old new) is noted) (λ d c step. step)
  wrote_steps old new (Ok x) (Err e) is (inl noted) =
      added_steps old new (Wrote name at (take (length bytes / 2) bytes)) Rewritten (subst (λ (y : Call). Added (in_part y) old new) is noted) widened
  wrote_steps old new (Ok x) (Err e) is (inr same) = unnoted_steps old new Rewritten same kept_as
  wrote_steps old new (Err f) (Ok v) is none = absurd (cc none.0)
  wrote_steps old new (Err f) (Err e) is none = unnoted_steps old new Rewritten none.1 kept_as

  pub wrote_reads : {T E : Type 0} (old new : MemDisk) (call : Result Call NoMemory) (result : Result T E) → IfOk call (λ x. x ≡ Wrote name at bytes) → NotedAs call result old new → Follows Rewritten (mem_files old) (mem_files new)
  wrote_reads old new (Ok x) (Ok v) is noted = reads old new Rewritten (play (Wrote name at bytes) old.held) (noted.held ∙ ap (λ (y : Call). play y old.held) is) (whole (Wrote name at bytes) old.held)
  wrote_reads old new (Ok x) (Err e) is (inl noted) =
      let part = Wrote name at (take (length bytes / 2) bytes) in
      reads old new Rewritten (play part old.held) (noted.held ∙ ap (λ (y : Call). play (in_part y) old.held) is) (widened (shown old.held) (shown (play part old.held)) (whole part old.held))
  wrote_reads old new (Ok x) (Err e) is (inr same) = reads old new Rewritten old.held same.held (kept_as (shown old.held))
  wrote_reads old new (Err f) (Ok v) is none = absurd (cc none.0)
  wrote_reads old new (Err f) (Err e) is none = reads old new Rewritten old.held none.1.held (kept_as (shown old.held))

  pub wrote_held : {T E : Type 0} (old new : MemDisk) (call : Result Call NoMemory) (result : Result T E) → IfOk call (λ x. x ≡ Wrote name at bytes) → NotedAs call result old new → OnOk result (new.held ≡ play (Wrote name at bytes) old.held)
  wrote_held old new (Ok x) (Ok v) is noted = noted.held ∙ ap (λ (y : Call). play y old.held) is
  wrote_held old new (Ok x) (Err e) is noted = tt
  wrote_held old new (Err f) (Ok v) is none = absurd (cc none.0)
  wrote_held old new (Err f) (Err e) is none = tt
