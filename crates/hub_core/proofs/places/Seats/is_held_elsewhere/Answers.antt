use Rattle.std.proofs.Common.{sym, ◌∙◌}
use Rattle.ftn_addr.specs.Key.{key_of}
use Rattle.hub_core.specs.Hubs.{hub_state, sitting_of}
use Rattle.hub_core.proofs.HoldSteps.{held_there, held_nowhere, no_some}
use Rattle.hub_core.proofs.places.Seats.is_held_elsewhere.Goals as goal

pub returns-clause-held : goal.returns-clause-held
returns-clause-held c = λ some.
    held_there c.args.holds.now (hub_state c.args.self.now) c.args.seat (sitting_of c.args.session.now) (key_of c.args.key.now) c.requires.unheld c.requires.finds (sym c.has.ensures ∙ some)

pub returns-clause-free : goal.returns-clause-free
returns-clause-free c = λ none.
    held_nowhere c.args.holds.now (hub_state c.args.self.now) c.args.seat (sitting_of c.args.session.now) (key_of c.args.key.now) c.requires.finds (sym c.has.ensures ∙ none)

pub returns-clause-none : goal.returns-clause-none
returns-clause-none c = λ none.
    no_some _ (sym c.has.ensures ∙ none)
