-- What was received stays while a command without a session runs.
use Rattle.std.proofs.Common.{◌≡◌, ℕ, ◌≤◌, ◌<◌, Bool, true, false, Option, Some, None, refl, sym, ap, subst, ⊎_elim}
use Rattle.std.specs.Prelude.{if◌then◌else◌}
use Rattle.std.proofs.lemmas.Bool.{cases_lt}
use Rattle.disk_model.specs.Changes.{Every}
use Rattle.disk_model.specs.Moments.{Leaves, Now}
use Rattle.disk_model.specs.World.{World}
use Rattle.mail_conf.specs.Conf.{ConfText}
use Rattle.node_model.specs.Durable.{Durable}
use Rattle.node_model.specs.StoreStates.{IfTold, Shelf, Stored, shelf_of}
use Rattle.node_model.specs.Stores.{OpensShelf}
use Rattle.node_store.specs.Opening.{IsTidied, Recovers}
use Rattle.node_store.specs.Stored.{Holding, stored_in}
use Rattle.node_store.specs.Worlds.{Opens}
use Rattle.node_store.proofs.Openings.{one_shelf, opens_to, opens_weaker}
use Rattle.outbound_store.specs.GoesOn.{SameReceived}
use Rattle.outbound_store.proofs.GoesOnLemmas.{same_then}
use Rattle.command_base.specs.Opening.{HasOpened}
use Rattle.command_words.specs.Forms.{Command}
use Rattle.still_commands.specs.Came.{Told}
use Rattle.still_commands.specs.Receipts.{KeepsReceived, OpensSo}
use Rattle.still_commands.specs.Still.{Before_takes, Runs_still, Taken_in, TakesIn}
use Rattle.still_commands.proofs.KeptLists.{still_recovers}

-- what was tidied alone
tidied_same : (a b : Shelf) → IsTidied a b → SameReceived a b
tidied_same a b t = record {
  inbox = ap (λ (d : Durable). d.inbox) t.state;
  refused = ap (λ (d : Durable). d.refused) t.state;
  marks = ap (λ (d : Durable). d.marks) t.state;
  gifts = t.gifts;
}

told_is : {A : Type 0} (tells : Bool) (a : A) → tells ≡ true → (if tells then Some a else None) ≡ Some a
told_is true a telling = refl
told_is false a telling = absurd (let clash : false ≡ true = telling in cc)

-- a world that recovers from one that opens so
recovers_so : (s : Shelf) (v w : World) → OpensSo s v → Recovers v w → (e : Option Shelf) → Opens w e → OpensShelf (SameReceived s) e
recovers_so s v w before recovers e op =
    let after = recovers before.0 before.1 in
    opens_to (SameReceived s) w after.0 after.1 (same_then s before.0 after.0 before.2 (tidied_same before.0 after.0 after.2)) e op

module _ {D : Type 0} (tells : Bool) (content : D → World) (faults : D → ℕ) (moment : D → ℕ) (images : D → ℕ → World → Type 0) where
  leaves_so : (s : Shelf) (disk disk' : D) → Leaves moment images Recovers disk disk' → Every (Now moment images disk) (OpensSo s)
      → (k : ℕ) (w : World) (e : Option Shelf) → moment disk ≤ k → k ≤ moment disk' → images disk' k w → Opens w e → OpensShelf (SameReceived s) e
  leaves_so s disk disk' leaves all k w e from to image op =
      let was = leaves.each k w from to image in
      recovers_so s was.0 w (all was.0 was.1) was.2 e op

  -- where all opens as before
  pub recovers_keep : (disk disk' : D) → Leaves moment images Recovers disk disk' → KeepsReceived content moment images disk disk'
  recovers_keep disk disk' leaves = λ s reads all k w e from to image op. leaves_so s disk disk' leaves all k w e from to image op

  -- what the store tells that was opened
  opened_so : (s : Shelf) (disk : D) (opened : Holding D) → tells ≡ true → HasOpened tells content faults moment images disk opened → OpensSo s (content disk)
      → SameReceived s (shelf_of (stored_in (content opened.disk) opened.memory))
  opened_so s disk opened telling h before =
      let is = h.told telling in
      let same : SameReceived s is.shelf = subst (SameReceived s) (sym (one_shelf (content disk) before.0 is.shelf before.1 is.opens)) before.2 in
      same_then s is.shelf (shelf_of (stored_in (content opened.disk) opened.memory)) same (tidied_same is.shelf (shelf_of (stored_in (content opened.disk) opened.memory)) is.tidied)

  -- where an outbound was taken in over a store that was opened
  pub takes_keep : (files : D → World → Type 0) (conf : ConfText) (now : ℕ) (disk : D) (opened : Holding D) (told : Told) (disk' : D) → tells ≡ true
      → HasOpened tells content faults moment images disk opened → TakesIn files tells content faults moment images conf now opened told disk' → KeepsReceived content moment images disk disk'
  takes_keep files conf now disk opened told disk' telling h takes = λ s reads all k w e from to image op.
      let left = takes.left in
      let kept = stored_in (content opened.disk) opened.memory in
      let here : images left.disk k w = subst (λ (x : D). images x k w) takes.disk_is image in
      let until : k ≤ moment left.disk = subst (λ (x : D). k ≤ moment x) takes.disk_is to in
      ⊎_elim
      (λ (after : moment opened.disk < k).
      let since : OpensShelf (SameReceived (shelf_of kept)) e = subst (λ (c : Option Stored). IfTold c (λ a. OpensShelf (SameReceived (shelf_of a)) e)) (told_is tells kept telling) (takes.goes_on.since k e after until (telling, w, here, op)) in
      opens_weaker (SameReceived (shelf_of kept)) (SameReceived s) (λ x same. same_then s (shelf_of kept) x (opened_so s disk opened telling h reads) same) e since)
      (λ (before : k ≤ moment opened.disk).
      let seen = takes.goes_on.moments.before k e before (telling, w, here, op) in
      leaves_so s disk opened.disk (h.stop telling) all k seen.1 e from before seen.2 seen.3)
      (cases_lt (moment opened.disk) k)

module _ {D : Type 0} (files : D → World → Type 0) (tells : Bool) (content : D → World) (faults : D → ℕ) (moment : D → ℕ) (images : D → ℕ → World → Type 0)
    (reads : (d : D) (w : World) → files d w → (tells ≡ true) × (w ≡ content d)) (tell : tells ≡ true → (d : D) → files d (content d)) where
  pub runs_keep : (command : Command) (now : ℕ) (disk : D) (told : Told) (disk' : D) → tells ≡ true
      → Runs_still files tells content faults moment images command now disk told disk' → KeepsReceived content moment images disk disk'
  runs_keep command now disk told disk' t (Before_takes over) =
      recovers_keep tells content faults moment images disk disk' (still_recovers files tells content faults moment images command disk told reads tell t disk' over).stop
  runs_keep command now disk told disk' t (Taken_in conf settings form opened h takes) = takes_keep tells content faults moment images files conf now disk opened told disk' t h takes
