use Rattle.std.proofs.Common.{refl, sym, ◌∙◌, ap}
use Rattle.std.specs.Prelude.{is_some}
use Rattle.binkp_serve.specs.Serving.{Is_broken, Is_whole}
use Rattle.binkp_serve.proofs.Rested.{rests_none}
use Rattle.binkp_serve.proofs.Options.{is_none}
use Rattle.binkp_serve.proofs.serving.give.Goals as goal

pub returns-then-is_some-clause-gives : goal.returns-then-is_some-clause-gives
returns-then-is_some-clause-gives g c = λ lines out watch. Is_broken ((sym (ap is_some c.broken.ensures) ∙ sym c.is_some.ensures ∙ c.if-is_some.true)) refl

pub returns-then-is_some-clause-rests : goal.returns-then-is_some-clause-rests
returns-then-is_some-clause-rests g c = rests_none g.D.Disk.tells g.D.Disk.content g.D.Disk.fault_count g.D.Disk.moment g.D.Disk.images _ _ c.requires.at_rest

pub give_received-requires-clause-whole : goal.give_received-requires-clause-whole
give_received-requires-clause-whole g c = is_none _ (sym (ap is_some c.broken.ensures) ∙ sym c.is_some.ensures ∙ c.if-is_some.false)

pub returns-clause-gives : goal.returns-clause-gives
returns-clause-gives g c = λ lines out watch. Is_whole (is_none _ (sym (ap is_some c.broken.ensures) ∙ sym c.is_some.ensures ∙ c.if-is_some.false)) (record { gives = c.give_received.ensures.gives; same = refl })
