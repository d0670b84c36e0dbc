use Rattle.std.proofs.Common.{List, not, ◌∙◌, ap, rules}
use Rattle.std.proofs.lemmas.Fn.{filter_same}
use Rattle.node_store.specs.Names.{is_one}
use Rattle.node_store.specs.Takes.{without_take}
use Rattle.node_store.specs.declared.takes.TakeName.{TakeName}
use Rattle.node_store.proofs.takes.StandingTakes.removed.Goals as goal

pub returns : goal.returns
returns c =
    let left = filter_same _ (λ (t : TakeName). not (is_one t.own c.args.own.now)) _ (λ x b f' k. search rules) _ _ c.retain.ensures.filtered in
    ap (λ (l : List TakeName). record { left = l; last = c.self.inside.last; drawn = c.self.inside.drawn }) left ∙ ap (without_take c.args.own.now) c.self.view_is
