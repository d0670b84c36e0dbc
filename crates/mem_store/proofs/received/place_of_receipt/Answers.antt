use Rattle.std.proofs.Common.{◌==◌, refl, sym, ◌∙◌}
use Rattle.node_model.specs.Items.{Receipt}
use Rattle.mem_store.proofs.Places.{stands, position-stands, position_is}
use Rattle.mem_store.proofs.received.place_of_receipt.Goals as goal

pub unwrap-requires : goal.unwrap-requires
unwrap-requires c =
    rw (c.position_of_receipt.ensures, position-stands _ _ (stands (λ (r : Receipt). r.number == c.args.number) c.args.inbox.now c.requires)) refl

pub returns-clause-first : goal.returns-clause-first
returns-clause-first c = (position_is (λ (r : Receipt). r.number == c.args.number) c.args.inbox.now c.unwrap.result (sym c.position_of_receipt.ensures ∙ c.unwrap.ensures)).0

pub returns-clause-within : goal.returns-clause-within
returns-clause-within c = (position_is (λ (r : Receipt). r.number == c.args.number) c.args.inbox.now c.unwrap.result (sym c.position_of_receipt.ensures ∙ c.unwrap.ensures)).1
