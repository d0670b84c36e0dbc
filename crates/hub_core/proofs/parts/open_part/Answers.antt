use Rattle.std.proofs.Common.{◌∙◌, ap}
use Rattle.node_model.specs.Stocks.{part_number}
use Rattle.node_model.specs.Stores.{StoreState, opened}
use Rattle.ftn_addr.specs.Address.{address}
use Rattle.ftn_addr.specs.Key.{key_of}
use Rattle.hub_core.specs.Steps.{mark_len}
use Rattle.hub_core.proofs.parts.open_part.Goals as goal

pub returns-in-Ok-clause-ok : goal.returns-in-Ok-clause-ok
returns-in-Ok-clause-ok g c =
    let from = address c.args.from.now in
    let key = key_of c.args.key.now in
    let reserved = c.in_ok-reserve.ensures.made in
    let made = c.in-Ok.ensures.made in
    record {
      number_is = made.0 ∙ ap (λ (s : StoreState). part_number from key s.drawn s.stock) reserved.1;
      len_is = made.1 ∙ ap (mark_len from key) reserved.1;
      few = made.2;
      room = reserved.0;
      after = made.3 ∙ ap (opened from key) reserved.1;
    }
