-- Sessions that were begun with the passes of slots.
use Rattle.std.proofs.Common.{◌≡◌, ℕ, false, List, Result, Ok, Err, Some, IfErr, IfOk, slice_get, slice_set, ◌⊎◌, inl, inr, sym, ap, ◌∙◌, subst}
use Rattle.atomic_table.specs.Seated.{TableId}
use Rattle.binkp_link.specs.Lines.{LineState}
use Rattle.mail_conf.specs.Conf.{ConfText}
use Rattle.mail_conf.specs.ConfView.{conf_text}
use Rattle.mail_conf.specs.declared.conf.Conf.{Conf}
use Rattle.node_model.specs.Calls.{counts_of}
use Rattle.session_auth.specs.Sides.{side_of}
use Rattle.session_core.specs.Stages.{setting_of}
use Rattle.session_run.specs.Courses.{IsFree}
use Rattle.session_run.specs.declared.report.Report.{Report}
use Rattle.session_run.specs.Laws.{IsSession}
use Rattle.session_run.specs.Reports.{report_text}
use Rattle.turn_gate.specs.declared.grows.Grows.{Ghosts}
use Rattle.turn_gate.specs.Passes.{view}
use Rattle.shared_desk.specs.Seen.{Sight, stand}
use Rattle.session_threads.specs.declared.over.Over.{Over}
use Rattle.session_threads.specs.declared.sessions.Begun.{Begun}
use Rattle.session_threads.specs.declared.sessions.Done.{Done}
use Rattle.session_threads.specs.declared.sessions.HeldWhole.{HeldWhole}
use Rattle.session_threads.specs.declared.slots.InThread.{InThread}
use Rattle.session_threads.specs.declared.slots.Slot.{Slot}
use Rattle.session_threads.specs.declared.slots.Slot.TheVariants as S
use Rattle.session_threads.proofs.Places.{each_set, length_set}
use Rattle.turn_gate.specs.declared.pass.Pass.{Pass}
use Rattle.session_threads.specs.Held.{IsHeld, begun_so}
use Rattle.session_threads.specs.Kept.{KeepsAll, Promised, SlotKeeps, whereabouts}
use Rattle.session_threads.specs.Lent.{IsOver, IsPassHere}
use Rattle.session_threads.specs.Slots.{Is_with, Rests_here, Taken_out, Whereabouts}

module _ {L T G X E P : Type 0} {g : Ghosts T X E P} (state : L → LineState) (s : Sight X) (name : TableId) where
  -- the thread promised what the slot notes, or that was kept
  pub promised : {H : Type 0} (promise : H → HeldWhole L T G X E P g) (was : HeldWhole L T G X E P g) (b : Begun L T X E P g) (conf : Conf) (r : Result H (Done L T X E P g))
      → was.begun.value ≡ b → was.conf.value ≡ conf
      → IfOk r (λ handle. ((promise handle).begun.value ≡ b) × ((promise handle).conf.value ≡ conf)) → IfErr r (λ done. IsHeld state s name (conf_text conf) b done)
      → Promised state s name promise was r
  promised promise was b conf (Ok handle) begun by ok err = record { begun = ok.0 ∙ sym begun; conf = ok.1 ∙ sym by }
  promised promise was b conf (Err done) begun by ok err =
      subst (λ x. IsHeld state s name (conf_text was.conf.value) x done) (sym begun) (subst (λ c. IsHeld state s name (conf_text c) b done) (sym by) err)

  -- a slot that is replaced by one that keeps
  pub kept_set : (slots new : List (Slot L T G X E P g)) (home : List (Pass T X E P g)) (room k : ℕ) (slot : Slot L T G X E P g) → KeepsAll state s name slots home room → new ≡ slice_set slots k slot → SlotKeeps state s name k slot → KeepsAll state s name new home room
  kept_set slots new home room k slot all is keeps = record {
    each = rw is (each_set (SlotKeeps state s name) slots k slot all.each keeps);
    none = all.none;
    fits = rw (is, length_set slots k slot) all.fits;
  }

module _ {L T X E P : Type 0} {g : Ghosts T X E P} where
  -- a session that was held at the seat is over there
  pub over : (state : L → LineState) (s : Sight X) (name : TableId) (conf : ConfText) (b : Begun L T X E P g) (d : Done L T X E P g) (o : Over L) (k : ℕ) (old new : List (Whereabouts X))
      → IsHeld state s name conf b d → (view b.pass).seat ≡ k → o.place ≡ b.place → o.report ≡ d.report → o.line ≡ d.line
      → slice_get old k ≡ Some (Is_with (begun_so state conf b)) → new ≡ slice_set old k (Rests_here (view d.pass).left) → IsOver state s k old o new
  over state s name conf b d o k old new held seat place report line was is =
      let setting = setting_of (side_of b.side) conf b.challenge b.moment in
      let there : (view d.pass).seat ≡ k = held.seat ∙ seat in
      let from = (view b.pass).left in
      let left = (view d.pass).left in
      record {
        session = begun_so state conf b;
        left = left;
        was = was;
        is = is;
        place = place;
        whole =
            subst (λ (l : L). IsSession false setting (state b.line) (stand s k from) (report_text o.report) (state l) (stand s k left)) (sym line)
            (subst (λ (r : Report). IsSession false setting (state b.line) (stand s k from) (report_text r) (state d.line) (stand s k left)) (sym report)
            (subst (λ (i : ℕ). IsSession false setting (state b.line) (stand s k from) (report_text d.report) (state d.line) (stand s i left)) there
            (subst (λ (i : ℕ). IsSession false setting (state b.line) (stand s i from) (report_text d.report) (state d.line) (stand s (view d.pass).seat left)) seat held.session)));
        free = subst (λ (i : ℕ). IsFree (counts_of (s.knows i left)).broken (s.part i left)) there held.free;
      }

module _ {L T G X E P : Type 0} {g : Ghosts T X E P} (state : L → LineState) where
  -- a slot whose pass is here isn't lent, and no session runs there
  pub here_alone : (slot : Slot L T G X E P g) (w : Whereabouts X) (left : X) → w ≡ whereabouts state slot → w ≡ Rests_here left → (slot ≡ S.Lent) ⊎ ((run : InThread L T G X E P g) × (slot ≡ S.Runs run)) → ⊥
  here_alone slot w left seen is (inl lent) = let no : Taken_out ≡ Rests_here left = sym (seen ∙ ap (whereabouts state) lent) ∙ is in cc
  here_alone slot w left seen is (inr (run, runs)) =
      let no : Is_with (begun_so state (conf_text run.was.conf.value) run.was.begun.value) ≡ Rests_here left = sym (seen ∙ ap (whereabouts state) runs) ∙ is in cc

  -- the pass of such a slot
  pub pass_here : (s : Sight X) (name : TableId) (k : ℕ) (slot : Slot L T G X E P g) (p : Pass T X E P g) (slots : List (Whereabouts X)) → slot ≡ S.Idle p → SlotKeeps state s name k slot → slice_get slots k ≡ Some (whereabouts state slot) → IsPassHere s name slots k p
  pass_here s name k slot p slots is keeps at = record {
    at_home = subst (SlotKeeps state s name k) is keeps;
    was = subst (λ (x : Slot L T G X E P g). slice_get slots k ≡ Some (whereabouts state x)) is at;
  }
