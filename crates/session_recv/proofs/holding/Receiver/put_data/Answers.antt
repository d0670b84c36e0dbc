use Rattle.std.proofs.Common.{[], ◌∷◌, refl}
use Rattle.node_model.specs.Calls.{More, Whole_now, Refused}
use Rattle.node_model.specs.Talk.{Got, on, ends, Refused_by}
use Rattle.node_model.specs.Desks.{fault_of}
use Rattle.ftn_addr.specs.Key.{key_of}
use Rattle.session_recv.proofs.Takes.{did_data, quiet, acknowledged}
use Rattle.session_recv.proofs.holding.Receiver.put_data.Goals as goal

pub data_in-requires-clause-fits : goal.data_in-requires-clause-fits
data_in-requires-clause-fits g c = record { held = _; is = c.requires.held; taking = refl; fits = c.requires.fits }

pub returns-in-Ok-More-clause-row : goal.returns-in-Ok-More-clause-row
returns-in-Ok-More-clause-row g c = λ t.
    let went = rw c.in-Ok-More.field-0-is at c.in-Ok-More.ensures in
    did_data t _ _ More (on t []) _ _ _ _ _ _ _ _ _ _ refl refl c.requires.fits refl went.made refl refl (quiet _ (on t []) _ refl refl)

pub returns-in-Ok-Whole-clause-row : goal.returns-in-Ok-Whole-clause-row
returns-in-Ok-Whole-clause-row g c = λ t.
    let went = rw c.in-Ok-Whole.field-0-is at c.in-Ok-Whole.ensures in
    did_data t _ _ Whole_now (on t (Got (key_of c.args.held.key) ∷ [])) _ _ _ _ _ _ _ _ _ _ refl refl c.requires.fits refl went.made refl c.saturating_add-received.ensures (acknowledged t (key_of c.args.held.key) _ _ _ c.acknowledge.ensures)

pub returns-in-Err-clause-row : goal.returns-in-Err-clause-row
returns-in-Err-clause-row g c = λ t.
    did_data t _ _ (Refused (fault_of c.in-Err.fault)) (ends t (Refused_by (fault_of c.in-Err.fault))) _ _ _ _ _ _ _ _ _ _ refl refl c.requires.fits refl c.in-Err.ensures.made refl refl (quiet _ (ends t (Refused_by (fault_of c.in-Err.fault))) _ refl refl)
