-- One step of the fold, and its room.
use Rattle.std.proofs.Common.{◌≡◌, ℕ, true, max, List, Option, Result, Ok, Err, refl, ap, arith}
use Rattle.std.specs.Prelude.{nat_lt}
use Rattle.std.specs.List.{list_all}
use Rattle.ledger_rec.specs.Fold.{State, after, changed, fold_step, is_live, numbers, settled}
use Rattle.ledger_rec.specs.Items.{Entry}
use Rattle.ledger_rec.specs.Lists.{HasRoom, Steps}
use Rattle.ledger_rec.specs.Record.{RecordText, Done}
use Rattle.ledger_rec.specs.declared.fault.FoldFault.{FoldFault}
use Rattle.ledger_rec.specs.declared.fault.FoldFault.TheVariants.{BadFold, NoMemory}
use Rattle.ledger_rec.specs.declared.lists.Lists.{Lists}

pub numbered_step : (s : State) (r : RecordText) → list_all (λ n. nat_lt 0 n) (numbers r) ≡ true → fold_step s r ≡ after s r
numbered_step s r numbered = rw numbered refl

-- where the queue goes a step, so does the state
pub done_step : (result : Result (Unit {0}) FoldFault) (number session : ℕ) (s : State) (queue : List Entry) → Steps result (changed (is_live number) settled s.queue) s.queue queue → Steps result (after s (Done number session)) s (record s { queue = queue })
done_step (Ok done) number session s queue goes = rw goes refl
done_step (Err BadFold) number session s queue goes = (rw goes.0 refl, ap (λ (q : List Entry). record s { queue = q }) goes.1)
done_step (Err NoMemory) number session s queue goes = ap (λ (q : List Entry). record s { queue = q }) goes

pub room_for_both : (a b : ℕ) (l : Lists) → HasRoom a l → HasRoom b l → HasRoom (max a b) l
room_for_both a b l one two =
    let queue_one = one.queue in let queue_two = two.queue in
    let inbox_one = one.inbox in let inbox_two = two.inbox in
    let refused_one = one.refused in let refused_two = two.refused in
    let marks_one = one.marks in let marks_two = two.marks in
    let parts_one = one.parts in let parts_two = two.parts in
    let takes_one = one.takes in let takes_two = two.takes in
    record {
      queue = omega (arith, queue_one, queue_two);
      inbox = omega (arith, inbox_one, inbox_two);
      refused = omega (arith, refused_one, refused_two);
      marks = omega (arith, marks_one, marks_two);
      parts = omega (arith, parts_one, parts_two);
      takes = omega (arith, takes_one, takes_two);
    }

-- nothing changes at an error
pub step_kept : {X : Type 0} (e : FoldFault) (step : Option X) (old new : X) → Steps (Err e) step old new → new ≡ old
step_kept BadFold step old new goes = goes.1
step_kept NoMemory step old new goes = goes
