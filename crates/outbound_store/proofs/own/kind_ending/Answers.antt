use Rattle.std.proofs.Common.{◌≡◌, ◌∙◌, false, get_or, sym}
use Rattle.std.specs.Str.{bytes_eq}
use Rattle.bso_outbound.specs.declared.kind.Kind.TheVariants.{Flow}
use Rattle.bso_outbound.specs.Kinds.{ending}
use Rattle.node_model.specs.declared.words.Flavour.TheVariants.{Immediate}
use Rattle.outbound_model.specs.OwnNames.{kinds}
use Rattle.outbound_store.proofs.OwnLemmas.{kinds_more}
use Rattle.outbound_store.proofs.own.kind_ending.Goals as goal

pub loop-kind-preserved : goal.loop-kind-preserved
loop-kind-preserved c =
    let other : bytes_eq c.args.end.now (ending (get_or kinds c.loop-kind.kind-index (Flow Immediate))) ≡ false = sym c.ends_so.ensures ∙ c.if-ends_so.false in
    sym (kinds_more c.args.end.now kinds c.loop-kind.kind-index (Flow Immediate) c.loop-kind-test.true other) ∙ c.loop-kind.invariant
