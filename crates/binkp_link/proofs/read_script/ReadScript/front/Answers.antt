use Rattle.std.proofs.Common.{◌∙◌, ap, arith, List, ℕ, Some, drop, length}
use Rattle.binkp_link.specs.Scripts.{Bytes}
use Rattle.binkp_link.proofs.Plays.{acts_at, place_within, next_is}
use Rattle.binkp_link.proofs.read_script.ReadScript.front.Goals as goal

pub split_at-requires : goal.split_at-requires
split_at-requires c =
    let at = acts_at c.deref.result.now c.self.inside.acts.items c.self.inside.over _ _ c.deref.ensures.value c.in-Some-Bytes.ensures.lookup.3.0 c.in-Some-Bytes.ensures.lookup.1 c.in-Some-Bytes.field-0-is in
    omega (arith, ap length c.as_slice.ensures, place_within _ _ _ _ at c.self.invariant)

pub returns-in-Some-Bytes-clause-act : goal.returns-in-Some-Bytes-clause-act
returns-in-Some-Bytes-clause-act c =
    let at = acts_at c.deref.result.now c.self.inside.acts.items c.self.inside.over _ _ c.deref.ensures.value c.in-Some-Bytes.ensures.lookup.3.0 c.in-Some-Bytes.ensures.lookup.1 c.in-Some-Bytes.field-0-is in
    ap (λ (x : List ℕ). Some (Bytes x)) (c.split_at.ensures.back ∙ ap (λ (x : List ℕ). drop c.self.inside.place x) c.as_slice.ensures) ∙ next_is _ _ _ c.self.inside.place _ c.args.self.now at c.self.view_is

pub returns-in-Some-NotYet-clause-act : goal.returns-in-Some-NotYet-clause-act
returns-in-Some-NotYet-clause-act c =
    let at = acts_at c.deref.result.now c.self.inside.acts.items c.self.inside.over _ _ c.deref.ensures.value c.in-Some-NotYet.ensures.lookup.3.0 c.in-Some-NotYet.ensures.lookup.1 c.in-Some-NotYet.field-0-is in
    next_is _ _ _ c.self.inside.place _ c.args.self.now at c.self.view_is

pub returns-in-Some-Quiet-clause-act : goal.returns-in-Some-Quiet-clause-act
returns-in-Some-Quiet-clause-act c =
    let at = acts_at c.deref.result.now c.self.inside.acts.items c.self.inside.over _ _ c.deref.ensures.value c.in-Some-Quiet.ensures.lookup.3.0 c.in-Some-Quiet.ensures.lookup.1 c.in-Some-Quiet.field-0-is in
    next_is _ _ _ c.self.inside.place _ c.args.self.now at c.self.view_is

pub returns-in-Some-Failed-clause-act : goal.returns-in-Some-Failed-clause-act
returns-in-Some-Failed-clause-act c =
    let at = acts_at c.deref.result.now c.self.inside.acts.items c.self.inside.over _ _ c.deref.ensures.value c.in-Some-Failed.ensures.lookup.3.0 c.in-Some-Failed.ensures.lookup.1 c.in-Some-Failed.field-0-is in
    next_is _ _ _ c.self.inside.place _ c.args.self.now at c.self.view_is
