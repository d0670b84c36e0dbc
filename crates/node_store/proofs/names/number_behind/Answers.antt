use Rattle.std.proofs.Common.{arith, sym, ◌∙◌, ap}
use Rattle.node_model.proofs.Lists.{off}
use Rattle.node_model.proofs.SameFiles.{same_bytes, bytes-refl}
use Rattle.node_store.specs.Names.{is_one, hex_value}
use Rattle.node_store.proofs.NumberNames.{other_length, other_front, behind}
use Rattle.node_store.proofs.names.number_behind.Goals as goal

pub returns-then-name-front : goal.returns-then-name-front
returns-then-name-front c = other_length c.args.front.now c.args.name.now (omega arith)

pub returns-then-not-is_one : goal.returns-then-not-is_one
returns-then-not-is_one c = other_front c.args.front.now c.args.name.now
    (λ same. off (sym (ap (λ l. is_one l c.args.front.now) (c.split_at.ensures.front ∙ same) ∙ bytes-refl c.args.front.now) ∙ sym c.is_one.ensures ∙ c.if-not-is_one.true))

pub returns : goal.returns
returns c = behind c.args.front.now c.args.name.now c.value.result
    (c.value.ensures ∙ ap hex_value c.split_at.ensures.back)
    (sym c.split_at.ensures.front ∙ same_bytes c.split_at.result.0.now c.args.front.now (sym c.is_one.ensures ∙ c.if-not-is_one.false))
    (omega arith)
