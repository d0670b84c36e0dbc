use Rattle.std.proofs.Common.{ℕ, refl, sym, ◌∙◌, ap, subst}
use Rattle.std.specs.Prelude.{is_some}
use Rattle.binkp_serve.specs.Serving.{AreBack, Is_broken, Is_whole, Pauses}
use Rattle.binkp_serve.proofs.Options.{is_none}
use Rattle.binkp_serve.proofs.Rested.{rests_then}
use Rattle.binkp_serve.proofs.serving.pause.Goals as goal

pub returns-then-is_some-clause-turn : goal.returns-then-is_some-clause-turn
returns-then-is_some-clause-turn g c = λ before next.
    Pauses c.now-now.result _ next _ _ (c.look_again.ensures.looks _) (c.give.ensures.gives (g.N.Lines.state c.args.lines.now) (g.O.Sink.state c.look_again.new.out) c.look_again.new.watch) (Is_broken ((sym (ap is_some c.broken.ensures) ∙ sym c.is_some.ensures ∙ c.if-is_some.true)) refl)

pub returns-then-is_some-clause-rests : goal.returns-then-is_some-clause-rests
returns-then-is_some-clause-rests g c = rests_then g.D.Disk.tells g.D.Disk.content g.D.Disk.fault_count g.D.Disk.moment g.D.Disk.images _ _ _ _ _ c.look_again.ensures.rests c.give.ensures.rests

pub returns-then-is_some-clause-back : goal.returns-then-is_some-clause-back
returns-then-is_some-clause-back g c = subst (λ (n : ℕ). AreBack n (g.N.Lines.state c.args.lines.now)) (sym c.look_again.ensures.lines) c.requires.back

pub call_next-requires-clause-whole : goal.call_next-requires-clause-whole
call_next-requires-clause-whole g c = λ ks outlives. is_none _ (sym (ap is_some c.broken.ensures) ∙ sym c.is_some.ensures ∙ c.if-is_some.false)

pub call_next-requires-clause-back : goal.call_next-requires-clause-back
call_next-requires-clause-back g c = λ ks outlives. subst (λ (n : ℕ). AreBack n (g.N.Lines.state c.args.lines.now)) (sym c.look_again.ensures.lines) c.requires.back

pub returns-clause-turn : goal.returns-clause-turn
returns-clause-turn g c = λ before next.
    Pauses c.now-now.result _ next _ _ (c.look_again.ensures.looks _) (c.give.ensures.gives (g.N.Lines.state c.args.lines.now) (g.O.Sink.state c.look_again.new.out) c.look_again.new.watch)
    (Is_whole (is_none _ (sym (ap is_some c.broken.ensures) ∙ sym c.is_some.ensures ∙ c.if-is_some.false)) c.call_next.ensures.calls)

pub returns-clause-rests : goal.returns-clause-rests
returns-clause-rests g c =
    rests_then g.D.Disk.tells g.D.Disk.content g.D.Disk.fault_count g.D.Disk.moment g.D.Disk.images _ _ _ _ _
    (rests_then g.D.Disk.tells g.D.Disk.content g.D.Disk.fault_count g.D.Disk.moment g.D.Disk.images _ _ _ _ _ c.look_again.ensures.rests c.give.ensures.rests) c.call_next.ensures.rests
