use Rattle.std.proofs.Common.{◌∙◌, ap, sym, List, arith}
use Rattle.binkp_link.specs.declared.acts.WriteAct.{WriteAct}
use Rattle.binkp_link.specs.Scripts.{after_write_act}
use Rattle.binkp_link.proofs.PlaysWrites.{next_write, last_write, next_some}
use Rattle.binkp_link.proofs.write_script.WriteScript.pass.Goals as goal

pub invariant_of-self : goal.invariant_of-self
invariant_of-self c = next_some c.self.inside.acts.items c.self.inside.over (omega (arith, c.if-saturating_sub-gt1.true, c.saturating_sub.ensures, c.len.ensures)) c.self.invariant

pub returns-then-saturating_sub-gt1 : goal.returns-then-saturating_sub-gt1
returns-then-saturating_sub-gt1 c =
    next_write c.self.inside.acts.items c.self.inside.over (omega (arith, c.if-saturating_sub-gt1.true, c.saturating_sub.ensures, c.len.ensures)) ∙ ap (λ (x : List WriteAct). after_write_act x) c.self.view_is

pub returns-else-saturating_sub-gt1 : goal.returns-else-saturating_sub-gt1
returns-else-saturating_sub-gt1 c =
    sym c.self.view_is ∙ last_write c.self.inside.acts.items c.self.inside.over (omega (arith, c.if-saturating_sub-gt1.false, c.saturating_sub.ensures, c.len.ensures)) ∙ ap (λ (x : List WriteAct). after_write_act x) c.self.view_is
