-- The calls of the desk, with the rows beside them, lead along a run from its first state to its last.
use Rattle.std.proofs.Common.{Bool, [], ◌∷◌, refl, sym, subst}
use Rattle.node_model.specs.Calls.{DeskState, turned, Turns, Knock_call, Leave_call}
use Rattle.node_model.proofs.Rans.{joined}
use Rattle.binkp_link.specs.Lines.{LineState}
use Rattle.session_core.specs.Stages.{Setting}
use Rattle.session_run.specs.Reports.{ReportText}
use Rattle.session_run.specs.Machine.{World, Step, greets, takes_frame, makes_turn, passes_turn, writes, passes_write, reads, passes_read, gives_up, leaves, drains, closes, Reach, here, next, opening}
use Rattle.session_run.specs.Laws.{WholeRun}

abbrev pub Leads : Bool → DeskState → World → Type 0
Leads alone desk w = Turns alone desk w.events w.desk

step_leads : (alone : Bool) (desk : DeskState) (w v : World) → Leads alone desk w → Step alone w v → Leads alone desk v
step_leads alone desk w v c (greets s) =
    subst (Leads alone desk) (sym s.is) (joined alone desk w.events w.desk (turned (Knock_call s.role) s.answer s.rows_before s.rows_after ∷ []) s.desk c (s.desk, s.call, refl)).chain
step_leads alone desk w v c (takes_frame s) = subst (Leads alone desk) (sym s.is) (joined alone desk w.events w.desk s.events s.desk c s.chain).chain
step_leads alone desk w v c (leaves s) =
    subst (Leads alone desk) (sym s.is) (joined alone desk w.events w.desk (turned Leave_call s.answer s.rows_before s.rows_after ∷ []) s.desk c (s.desk, s.call, refl)).chain
step_leads alone desk w v c (makes_turn s) = subst (Leads alone desk) (sym s.is) (joined alone desk w.events w.desk s.events s.desk c s.chain).chain
step_leads alone desk w v c (passes_turn s) = subst (Leads alone desk) (sym s.is) c
step_leads alone desk w v c (writes s) = subst (Leads alone desk) (sym s.is) c
step_leads alone desk w v c (passes_write s) = subst (Leads alone desk) (sym s.is) c
step_leads alone desk w v c (reads s) = subst (Leads alone desk) (sym s.is) c
step_leads alone desk w v c (passes_read s) = subst (Leads alone desk) (sym s.is) c
step_leads alone desk w v c (gives_up s) = subst (Leads alone desk) (sym s.is) c
step_leads alone desk w v c (drains s) = subst (Leads alone desk) (sym s.is) c
step_leads alone desk w v c (closes s) = subst (Leads alone desk) (sym s.is) c

run_leads : (alone : Bool) (desk : DeskState) (w v : World) → Leads alone desk w → Reach alone w v → Leads alone desk v
run_leads alone desk w v c here = c
run_leads alone desk w v c (next {u} r s) = step_leads alone desk u v (run_leads alone desk w u c r) s

-- from the first state of a session's desk to its last
pub whole_leads : (alone : Bool) (setting : Setting) (line : LineState) (desk : DeskState) (report : ReportText) (line' : LineState) (desk' : DeskState) (x : WholeRun alone setting line desk report line' desk') → Turns alone desk x.last.events x.last.desk
whole_leads alone setting line desk report line' desk' x = run_leads alone desk (opening setting line desk) x.last refl x.run
