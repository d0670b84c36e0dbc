use Rattle.std.proofs.Common.{List, ◌++◌, ◌∷◌, [], ◌∙◌, ap, sym, subst, take}
use Rattle.std.proofs.lemmas.List.{take_more}
use Rattle.node_store.specs.declared.takes.TakeName.{TakeName}
use Rattle.outbound_places.specs.Outbound.{Adds, OneOf}
use Rattle.outbound_places.proofs.Added.{grows-then, one_added}
use Rattle.outbound_addresses.specs.Own.{IsTakeOf}
use Rattle.outbound_addresses.proofs.own.note_takes.Goals as goal

pub loop-taken-preserved : goal.loop-taken-preserved
loop-taken-preserved c =
    let i = c.loop-taken.taken-index in
    let x = c.taken-item.result in
    let more = take_more c.args.takes.now i x c.loop-taken-test.true ∙ ap (λ (y : TakeName). take i c.args.takes.now ++ y ∷ []) (sym c.taken-item.is) in
    record {
      grows = grows-then c.args.found.now c.loop-taken.found c.note_take.new.found c.loop-taken.invariant.grows c.in-Ok.ensures.grows;
      adds = subst (λ (l : List TakeName). Adds (OneOf IsTakeOf l) c.args.found.now c.note_take.new.found) (sym more)
          (one_added IsTakeOf (take i c.args.takes.now) x c.args.found.now c.loop-taken.found c.note_take.new.found c.loop-taken.invariant.adds c.in-Ok.ensures.adds c.in-Ok.ensures.grows);
    }
