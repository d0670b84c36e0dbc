use Rattle.std.proofs.Common.{ℕ, true, false, [], ◌∷◌, ap, refl, Some}
use Rattle.node_model.specs.Calls.{Filed, Refused}
use Rattle.node_model.specs.Rows.{Go, Whole, Have, Refuse, Elsewhere, From, Late}
use Rattle.node_model.specs.Talk.{Got, Get, Skip, on, ends, Too_late, Refused_by}
use Rattle.node_model.specs.Desks.{fault_of}
use Rattle.ftn_addr.specs.Key.{key_of}
use Rattle.session_recv.proofs.Takes.{did_file, quiet, acknowledged, passed_over, asked_again}
use Rattle.session_recv.proofs.holding.Receiver.take_file.Goals as goal

pub returns-in-Ok-Go-clause-row : goal.returns-in-Ok-Go-clause-row
returns-in-Ok-Go-clause-row g c = λ t.
    let went = rw c.in-Ok-Go.field-0-is at c.in-Ok-Go.ensures in
    did_file t _ _ (Filed Go) (on t []) _ _ _ _ _ _ _ _ _ _ refl went.made (ap (λ (n : ℕ). Some (record { key = key_of c.args.key; left = n; taking = true })) c.saturating_sub-left.ensures) refl (quiet _ (on t []) _ refl refl)

pub returns-in-Ok-Whole-clause-row : goal.returns-in-Ok-Whole-clause-row
returns-in-Ok-Whole-clause-row g c = λ t.
    let went = rw c.in-Ok-Whole.field-0-is at c.in-Ok-Whole.ensures in
    did_file t _ _ (Filed Whole) (on t (Got (key_of c.args.key) ∷ [])) _ _ _ _ _ _ _ _ _ _ refl went.made refl c.saturating_add-received.ensures (acknowledged t (key_of c.args.key) _ _ _ c.acknowledge.ensures)

pub returns-in-Ok-Have-clause-row : goal.returns-in-Ok-Have-clause-row
returns-in-Ok-Have-clause-row g c = λ t.
    let went = rw c.in-Ok-Have.field-0-is at c.in-Ok-Have.ensures in
    did_file t _ _ (Filed Have) (on t (Got (key_of c.args.key) ∷ [])) _ _ _ _ _ _ _ _ _ _ refl went.made refl refl (acknowledged t (key_of c.args.key) _ _ _ c.acknowledge-in-Ok-Have.ensures)

pub returns-in-Ok-Refuse-clause-row : goal.returns-in-Ok-Refuse-clause-row
returns-in-Ok-Refuse-clause-row g c = λ t.
    let went = rw c.in-Ok-Refuse.field-0-is at c.in-Ok-Refuse.ensures in
    did_file t _ _ (Filed Refuse) (on t (Got (key_of c.args.key) ∷ [])) _ _ _ _ _ _ _ _ _ _ refl went.made refl refl (acknowledged t (key_of c.args.key) _ _ _ c.acknowledge-in-Ok-Refuse.ensures)

pub returns-in-Ok-Elsewhere-clause-row : goal.returns-in-Ok-Elsewhere-clause-row
returns-in-Ok-Elsewhere-clause-row g c = λ t.
    let went = rw c.in-Ok-Elsewhere.field-0-is at c.in-Ok-Elsewhere.ensures in
    did_file t _ _ (Filed Elsewhere) (on t (Skip (key_of c.args.key) ∷ [])) _ _ _ _ _ _ _ _ _ _ refl went.made refl refl (passed_over t (key_of c.args.key) _ _ _ c.pass_over.ensures)

pub returns-in-Ok-From-clause-row : goal.returns-in-Ok-From-clause-row
returns-in-Ok-From-clause-row g c = λ t.
    let went = rw c.in-Ok-From.field-0-is at c.in-Ok-From.ensures in
    did_file t _ _ (Filed (From c.in-Ok-From.place)) (on t (Get (key_of c.args.key) c.in-Ok-From.place ∷ [])) _ _ _ _ _ _ _ _ _ _ refl went.made (ap (λ (n : ℕ). Some (record { key = key_of c.args.key; left = n; taking = false })) c.saturating_sub-left-in-Ok-From.ensures) refl (asked_again t (key_of c.args.key) c.in-Ok-From.place _ _ _ c.ask_from-step.ensures)

pub returns-in-Ok-Late-clause-row : goal.returns-in-Ok-Late-clause-row
returns-in-Ok-Late-clause-row g c = λ t.
    let went = rw c.in-Ok-Late.field-0-is at c.in-Ok-Late.ensures in
    did_file t _ _ (Filed Late) (ends t Too_late) _ _ _ _ _ _ _ _ _ _ refl went.made refl refl (quiet _ (ends t Too_late) _ refl refl)

pub returns-in-Err-clause-row : goal.returns-in-Err-clause-row
returns-in-Err-clause-row g c = λ t.
    did_file t _ _ (Refused (fault_of c.in-Err.fault)) (ends t (Refused_by (fault_of c.in-Err.fault))) _ _ _ _ _ _ _ _ _ _ refl c.in-Err.ensures.made refl refl (quiet _ (ends t (Refused_by (fault_of c.in-Err.fault))) _ refl refl)
