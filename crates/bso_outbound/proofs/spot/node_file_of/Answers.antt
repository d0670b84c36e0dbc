use Rattle.std.proofs.Common.{sym, ◌∙◌, arith}
use Rattle.bso_outbound.specs.declared.kind.Kind.{Kind}
use Rattle.bso_outbound.specs.Kinds.{ending}
use Rattle.bso_outbound.specs.Names.{node_digits}
use Rattle.bso_outbound.specs.Reading.{IsNode}
use Rattle.bso_outbound.proofs.Numbers.{length-node}
use Rattle.bso_outbound.proofs.Readings.{any_second, other_length, in_turn, whole}
use Rattle.bso_outbound.proofs.SpotNames.{NodeFile, node_file, length-file}
use Rattle.bso_outbound.proofs.spot.node_file_of.Goals as goal

pub returns-then-name-ne12 : goal.returns-then-name-ne12
returns-then-name-ne12 c = other_length NodeFile node_file c.args.name.now (λ file fits is. omega (arith, is, length-file file.0 file.1))

pub returns : goal.returns
returns c =
    any_second IsNode node_file c.args.name.now c.zip.result
    (in_turn IsNode (λ (_ : Kind). Unit {0}) node_digits ending c.args.name.now c.split_at.result.0.now c.split_at.result.1.now (whole 8 c.args.name.now _ _ c.split_at.ensures.front c.split_at.ensures.back)
    (λ p fits. c.split_at.ensures.front_len ∙ sym (length-node p)) c.node_of.result c.kind_of.result c.zip.result c.node_of.ensures c.kind_of.ensures c.zip.ensures)
