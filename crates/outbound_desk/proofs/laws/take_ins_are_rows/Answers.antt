use Rattle.outbound_desk.proofs.Steps.{stepped_taken}
use Rattle.outbound_desk.proofs.laws.take_ins_are_rows.Goals as goal

pub returns : goal.returns
returns g c = λ h seat now none turn f drawn step. stepped_taken h seat (g.S.Store.stand c.args.old.now) (g.S.Store.stand c.args.new.now) now none turn f drawn step
