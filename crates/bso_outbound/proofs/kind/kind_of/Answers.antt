use Rattle.std.proofs.Common.{◌≡◌, ℕ, List, sym, ap, ◌∙◌, get_or}
use Rattle.ftn_addr.specs.Case.{same_word}
use Rattle.node_model.specs.declared.words.Flavour.TheVariants.{Immediate}
use Rattle.bso_outbound.specs.declared.kind.Kind.TheVariants.{Flow}
use Rattle.bso_outbound.specs.declared.kind.TheConstants.{KINDS}
use Rattle.bso_outbound.specs.Kinds.{ending}
use Rattle.bso_outbound.proofs.KindNames.{none_more}
use Rattle.bso_outbound.proofs.Texts.{other_word_is}
use Rattle.bso_outbound.proofs.kind.kind_of.Goals as goal

pub loop-kind-preserved : goal.loop-kind-preserved
loop-kind-preserved c =
    let kind = get_or KINDS c.loop-kind.kind-index (Flow Immediate) in
    let end : c.ending_of.result ≡ ending kind = c.ending_of.ensures in
    none_more c.args.end.now c.loop-kind.kind-index (Flow Immediate) c.loop-kind-test.true c.loop-kind.invariant (other_word_is c.args.end.now (ending kind) (ap (λ (l : List ℕ). same_word c.args.end.now l) (sym end) ∙ sym c.if-is_same_word.ensures))
