-- Staging a copy of an outside file.
use Rattle.std.proofs.Common.{◌≡◌, ◌≢◌, ℕ, ◌+◌, ◌<◌, ◌≤◌, List, length, replicate, Option, Some, None, Result, Ok, Err, Bool, true, false, refl, sym, ◌∙◌, ap, subst, arith}
use Rattle.std.specs.Prelude.{option_map}
use Rattle.ftn_addr.specs.declared.limits.TheConstants.{MAX_SIZE}
use Rattle.ftn_addr.specs.declared.refusals.Failed.{Failed}
use Rattle.disk_model.specs.World.{World}
use Rattle.disk_model.specs.Answers.{stat_of, CopiedOf, Copies, CopiesInPart}
use Rattle.disk_model.specs.Changes.{Every, Follows, Only}
use Rattle.disk_model.specs.Moments.{Steps, Leaves}
use Rattle.disk_model.specs.declared.answers.Copied.{Copied}
use Rattle.disk_model.specs.declared.answers.Copied.TheVariants.{Copied as CopiedAll, Absent as NoSource, Over as TooLong}
use Rattle.disk_model.specs.declared.answers.OutStat.{OutStat as DiskStat}
use Rattle.disk_model.proofs.MomentLemmas.{started, goes_on}
use Rattle.node_model.specs.StoreStates.{IfTold}
use Rattle.node_model.specs.Stores.{IsCopied, IsOver}
use Rattle.node_model.proofs.Lists.{some_inj, off}
use Rattle.node_store.specs.Stored.{Memory, stored_in, state_of}
use Rattle.node_store.specs.Worlds.{out_file_of}
use Rattle.node_store.proofs.ReadCall.{if_told}

only_same : (name : List ℕ) (d c : World) → c ≡ d → Only name d c
only_same name d c same = record { others = λ n other. ap (λ (w : World). w.own n) same; outside = ap (λ (w : World). w.outside) same; gifts = ap (λ (w : World). w.gifts) same }

-- a copy changes its own file alone
only_left : (result : Result Copied Failed) (own : List ℕ) (most : ℕ) (d c : World) → CopiesInPart result own most d c → Only own d c
only_left (Ok (CopiedAll stat)) own most d c step = record { others = step.own.others; outside = step.outside; gifts = step.gifts }
only_left (Ok NoSource) own most d c same = only_same own d c same
only_left (Ok TooLong) own most d c step = record { others = step.own.others; outside = step.outside; gifts = step.gifts }
only_left (Err e) own most d c step = record { others = step.own.others; outside = step.outside; gifts = step.gifts }

only_read : (result : Result Copied Failed) (path own : List ℕ) (most : ℕ) (d c : World) → Copies result path own most d c → Only own d c
only_read (Ok (CopiedAll stat)) path own most d c step = record { others = step.2.own.others; outside = step.2.outside; gifts = step.2.gifts }
only_read (Ok NoSource) path own most d c same = only_same own d c same
only_read (Ok TooLong) path own most d c step = record { others = step.own.others; outside = step.outside; gifts = step.gifts }
only_read (Err e) path own most d c step = record { others = step.own.others; outside = step.outside; gifts = step.gifts }

pub copy_reads : (result : Result Copied Failed) (path own : List ℕ) (most : ℕ) (old new : World → Type 0) → Follows (Copies result path own most) old new → Follows (Only own) old new
copy_reads result path own most old new follows c now = let was = follows c now in (was.0, was.1, only_read result path own most was.0 c was.2)

pub copy_leaves : {D : Type 0} (moment : D → ℕ) (images : D → ℕ → World → Type 0) (result : Result Copied Failed) (own : List ℕ) (most : ℕ) (old new : D) → Steps moment images (CopiesInPart result own most) old new → Leaves moment images (Only own) old new
copy_leaves moment images result own most old new call =
    goes_on moment images (CopiesInPart result own most) (Only own) old old new (started moment images (Only own) old (λ c now. only_same own c c refl)) call
    (λ c now. let was = call.now c now in (was.0, was.1, only_left result own most was.0 c was.2))

-- what a copy says, over a disk that tells or doesn't
module _ {D : Type 0} (tells : Bool) (content : D → World) (files : D → World → Type 0) (faults : D → ℕ) (old new : D) (m : Memory) (path own : List ℕ)
    (reads : (d : D) (w : World) → files d w → (tells ≡ true) × (w ≡ content d)) (told : tells ≡ true → (d : D) → files d (content d)) where
  -- the bytes that were copied, or as many
  pub record IsCopy (stat : DiskStat) : Type 0 where
    pub bytes : List ℕ
    pub size : stat.size ≡ length bytes
    pub written : tells ≡ true → (content new).own own ≡ Some bytes
    pub there : tells ≡ true → (stored_in (content old) m).outside path ≡ Some (record { bytes = bytes; time = stat.time })

  pub copied : (stat : DiskStat) → Every (files old) (λ w. CopiedOf (CopiedAll stat) MAX_SIZE (w.outside path)) → Follows (Copies (Ok (CopiedAll stat)) path own MAX_SIZE) (files old) (files new) → IsCopy stat
  copied stat of follows = go tells refl
    where
      go : (b : Bool) → tells ≡ b → IsCopy stat
      go true t =
          let was = follows (content new) (told t new) in
          let is = (reads old was.0 was.1).1 in
          let source = of was.0 was.1 in
          let f = was.2.0 in
          let same : source.0 ≡ f = some_inj (sym source.1 ∙ was.2.1) in
          let stat_is : stat ≡ stat_of f = source.2 ∙ ap stat_of same in
          record {
            bytes = f.bytes;
            size = ap (λ (x : DiskStat). x.size) stat_is;
            written = λ _. was.2.2.own.here;
            there = λ _.
                ap (λ (w : World). option_map out_file_of (w.outside path)) (sym is) ∙ ap (option_map out_file_of) was.2.1
                ∙ ap (λ (time : ℕ). Some (record { bytes = f.bytes; time = time })) (sym (ap (λ (x : DiskStat). x.time) stat_is));
          }
      go false f =
          let n = stat.size in
          record { bytes = replicate n 0; size = sym (zeros n); written = λ t. off (sym t ∙ f); there = λ t. off (sym t ∙ f) }
        where
          zeros : (n : ℕ) → length {A = ℕ} (replicate n 0) ≡ n
          zeros Rattle.std.proofs.Common.zero = refl
          zeros (Rattle.std.proofs.Common.suc n) = ap Rattle.std.proofs.Common.suc (zeros n)

  pub is_copied : (stat : DiskStat) (c : IsCopy stat) → stat.size ≤ MAX_SIZE → IsCopied path (record { size = stat.size; time = stat.time }) c.bytes (state_of tells (content old) (faults old) m)
  is_copied stat c low = record {
    size = c.size;
    within = let s = c.size in omega (arith, low, s);
    there = if_told tells (stored_in (content old) m) (λ a. a.outside path ≡ Some (record { bytes = c.bytes; time = stat.time })) c.there;
  }

  pub is_absent : Every (files old) (λ w. CopiedOf NoSource MAX_SIZE (w.outside path)) → IfTold (state_of tells (content old) (faults old) m).content (λ s. s.outside path ≡ None)
  is_absent none = if_told tells (stored_in (content old) m) (λ s. s.outside path ≡ None) (λ t. ap (option_map out_file_of) (none (content old) (told t old)))

  pub is_over : Every (files old) (λ w. CopiedOf TooLong MAX_SIZE (w.outside path)) → IfTold (state_of tells (content old) (faults old) m).content (IsOver path)
  is_over long = if_told tells (stored_in (content old) m) (IsOver path) (λ t.
      let f = long (content old) (told t old) in
      record { file = out_file_of f.0; there = ap (option_map out_file_of) f.1; over = f.2 })

  -- a disk that tells doesn't copy so much
  pub is_untold : (stat : DiskStat) → MAX_SIZE < stat.size → Every (files old) (λ w. CopiedOf (CopiedAll stat) MAX_SIZE (w.outside path)) → IfTold (state_of tells (content old) (faults old) m).content (IsOver path)
  is_untold stat long of = if_told tells (stored_in (content old) m) (IsOver path) (λ t.
      let f = of (content old) (told t old) in
      let size = ap (λ (x : DiskStat). x.size) f.2 in
      let low = f.3 in
      absurd (omega (arith, long, size, low)))
