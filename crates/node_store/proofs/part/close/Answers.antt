use Rattle.std.proofs.Common.{◌≡◌, ◌∙◌, Some, None, ap, sym}
use Rattle.std.specs.Prelude.{position}
use Rattle.node_model.proofs.Lists.{some_inj}
use Rattle.node_store.specs.Stored.{closed_in}
use Rattle.node_store.proofs.ClosedParts.{has_number, found_at, removed_at, somewhere}
use Rattle.node_store.proofs.part.close.Goals as goal

pub returns-clause-closed : goal.returns-clause-closed
returns-clause-closed c = λ p found.
    let at : position (has_number c.args.number) c.args.parts.now.items ≡ Some c.in-Some.place = ap (position (has_number c.args.number)) (sym c.as_slice.ensures.value) ∙ sym c.place_of.ensures ∙ c.in-Some.is in
    let is : c.remove.result ≡ p = c.remove.ensures.value ∙ some_inj (sym (found_at c.args.number c.args.parts.now.items c.in-Some.place c.remove.result at) ∙ found) in
    c.closed.ensures ∙ ap (closed_in c.args.session c.args.secure) is

pub returns-clause-others : goal.returns-clause-others
returns-clause-others c =
    let at : position (has_number c.args.number) c.args.parts.now.items ≡ Some c.in-Some.place = ap (position (has_number c.args.number)) (sym c.as_slice.ensures.value) ∙ sym c.place_of.ensures ∙ c.in-Some.is in
    c.remove.ensures.items ∙ removed_at c.args.number c.args.parts.now.items c.in-Some.place c.remove.result at

pub unreachable-requires : goal.unreachable-requires
unreachable-requires c =
    let none : position (has_number c.args.number) c.args.parts.now.items ≡ None = ap (position (has_number c.args.number)) (sym c.as_slice.ensures.value) ∙ sym c.place_of.ensures ∙ c.in-None.is in
    somewhere c.args.number c.args.parts.now.items c.requires none
