use Rattle.std.proofs.Common.{◌≡◌, List, ℕ, Some, Ok, Err, Result, ◌∙◌, ap, subst}
use Rattle.std.specs.Prelude.{OnOk}
use Rattle.disk_model.specs.Changes.{OnOutside, Puts}
use Rattle.disk_model.specs.Moments.{Steps}
use Rattle.mem_disk.specs.Holding.{play, shown}
use Rattle.mem_disk.specs.StopLaws.{whole}
use Rattle.mem_disk.specs.MemoryDisk.{may, mem_moment, mem_images, Added}
use Rattle.mem_disk.proofs.MemoryLaws.{added_steps}
use Rattle.mem_disk.specs.declared.call.Call.{Call}
use Rattle.mem_disk.specs.declared.call.Call.TheVariants.{Placed}
use Rattle.mem_disk.specs.declared.disk.MemDisk.{MemDisk}
use Rattle.mem_disk.proofs.PlayLemmas.{done_follows}
use Rattle.mem_disk.proofs.disk.MemDisk.put_out.Goals as goal

steps_at : {T E : Type 0} (old new : MemDisk) (x y : Call) (result : Result T E) → x ≡ y → OnOk result (Added x old new) → OnOk result (Steps mem_moment mem_images (may y (shown old.held)) old new)
steps_at old new x y (Ok v) is added = added_steps old new x (may y (shown old.held)) added (λ d c step. subst (λ (z : Call). may z (shown old.held) d c) is step)
steps_at old new x y (Err e) is added = tt

held_at : {T E : Type 0} (old new : MemDisk) (x y : Call) (result : Result T E) → x ≡ y → OnOk result (Added x old new) → OnOk result (new.held ≡ play y old.held)
held_at old new x y (Ok v) is added = added.held ∙ ap (λ (z : Call). play z old.held) is
held_at old new x y (Err e) is added = tt

pub returns-clause-stop : goal.returns-clause-stop
returns-clause-stop c =
    let is = ap (λ (p : List ℕ). Placed p c.in_ok-bytes.bytes c.args.time) c.in_ok-path.ensures ∙ ap (λ (b : List ℕ). Placed c.args.path.now.list b c.args.time) c.in_ok-bytes.ensures in
    steps_at c.args.self.now c.add.new.self (Placed c.in_ok-path.path c.in_ok-bytes.bytes c.args.time) (Placed c.args.path.now.list c.args.bytes.now c.args.time) c.add.result is c.add.ensures.ok

pub returns-clause-read : goal.returns-clause-read
returns-clause-read c =
    let old = c.args.self.now in
    let y = Placed c.args.path.now.list c.args.bytes.now c.args.time in
    let is = ap (λ (p : List ℕ). Placed p c.in_ok-bytes.bytes c.args.time) c.in_ok-path.ensures ∙ ap (λ (b : List ℕ). Placed c.args.path.now.list b c.args.time) c.in_ok-bytes.ensures in
    done_follows old c.add.new.self c.add.result (play y old.held) (OnOutside (Puts c.args.path.now.list (Some (record { bytes = c.args.bytes.now; time = c.args.time }))))
    (held_at old c.add.new.self (Placed c.in_ok-path.path c.in_ok-bytes.bytes c.args.time) y c.add.result is c.add.ensures.ok) (whole y old.held)
