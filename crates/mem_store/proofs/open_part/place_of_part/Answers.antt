use Rattle.std.proofs.Common.{◌==◌, refl, sym, ◌∙◌}
use Rattle.mem_store.specs.Comings.{Coming}
use Rattle.mem_store.proofs.Places.{stands, position-stands, position_is}
use Rattle.mem_store.proofs.open_part.place_of_part.Goals as goal

pub unwrap-requires : goal.unwrap-requires
unwrap-requires c =
    rw (c.position_of_part.ensures, position-stands _ _ (stands (λ (p : Coming). p.number == c.args.number) c.args.parts.now c.requires)) refl

pub returns-clause-first : goal.returns-clause-first
returns-clause-first c = (position_is (λ (p : Coming). p.number == c.args.number) c.args.parts.now c.unwrap.result (sym c.position_of_part.ensures ∙ c.unwrap.ensures)).0

pub returns-clause-within : goal.returns-clause-within
returns-clause-within c = (position_is (λ (p : Coming). p.number == c.args.number) c.args.parts.now c.unwrap.result (sym c.position_of_part.ensures ∙ c.unwrap.ensures)).1
