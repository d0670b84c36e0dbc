-- A desk that was left has no session, unless its store is broken.
use Rattle.std.proofs.Common.{◌≡◌, ◌∙◌, ℕ, Bool, false, List, [], Some, None, Result, Ok, Err, sym, ap, subst, inl, inr}
use Rattle.node_model.specs.declared.desk.DeskFault.{DeskFault}
use Rattle.node_model.specs.declared.desk.DeskFault.TheVariants as D
use Rattle.node_model.specs.Calls.{Leave_call, Fault, Disk, Read, Full, No_memory, Refused, Event, Counts, counts_of, Caused, Knows, Beside, EndsRefused, OwnRow, Made_row, Missing}
use Rattle.node_model.specs.Desks.{DeskPart, settled_answer, part_after}
use Rattle.node_model.specs.Images.{Stand, Kept}

caused_broken : (old new : Counts) (fault : Fault) → Caused old Leave_call (Refused fault) new → new.broken ≡ None → ⊥
caused_broken old new (Disk count) (may, inl same) whole = let clash : Some count ≡ None = sym same.0 ∙ ap (λ (c : Counts). c.broken) (sym same.1) ∙ whole in cc
caused_broken old new (Disk count) (may, inr broke) whole = let clash : Some count ≡ None = ap (λ (c : Counts). c.broken) (sym broke.2) ∙ whole in cc
caused_broken old new fault caused whole = caused.0

own_broken : (seat : ℕ) (before : List Event) (old new : Knows) (fault : Fault) → before ≡ [] → OwnRow seat before old (record { call = Leave_call; answer = Refused fault }) new → (counts_of new).broken ≡ None → ⊥
own_broken seat before old new fault none (Made_row made caused step) whole = caused_broken (counts_of old) (counts_of new) fault caused whole
own_broken seat before old new fault none (Missing other refused is same) whole = subst (λ (es : List Event). EndsRefused es other) none refused

-- where leaving is refused, the store is broken
refused_broken : (alone : Bool) (old new : Stand) (fault : Fault) → Kept alone old Leave_call (Refused fault) new → (counts_of new.state.knows).broken ≡ None → ⊥
refused_broken alone old new fault k whole =
    let r = k.made.rows in
    let none : Beside old.state.seat r.answers [] new.state.knows = subst (λ (es : List Event). Beside old.state.seat r.answers es new.state.knows) r.beside.1 r.after in
    own_broken old.state.seat k.rows_before r.asks r.answers fault r.beside.0 r.own (ap (λ (x : Knows). (counts_of x).broken) (sym none) ∙ whole)

pub left_free : (alone : Bool) (old new : Stand) (answer : Result (Unit {0}) DeskFault) (p q : DeskPart) → Kept alone old Leave_call (settled_answer answer) new → q ≡ part_after p Leave_call (settled_answer answer) → (counts_of new.state.knows).broken ≡ None → q.open_now ≡ false
left_free alone old new (Ok done) p q k is whole = ap (λ (x : DeskPart). x.open_now) is
left_free alone old new (Err (D.Disk count)) p q k is whole = absurd (refused_broken alone old new (Disk count) k whole)
left_free alone old new (Err (D.Read count)) p q k is whole = absurd (refused_broken alone old new (Read count) k whole)
left_free alone old new (Err D.Full) p q k is whole = absurd (refused_broken alone old new Full k whole)
left_free alone old new (Err D.NoMemory) p q k is whole = absurd (refused_broken alone old new No_memory k whole)
