use Rattle.std.proofs.Common.{◌≡◌, List, [], ◌∷◌, ◌++◌, sym, ◌∙◌, ap}
use Rattle.std.specs.Prelude.{position}
use Rattle.node_store.specs.Beginnings.{has_file, without_file}
use Rattle.node_store.specs.Stored.{Part}
use Rattle.node_store.proofs.FirstParts.{first_removed, none_found, none_without}
use Rattle.node_store.proofs.beginning.put_in_place.Goals as goal
use Rattle.node_store.proofs.beginning.put_in_place.Goals.{in-Some, in_default}

pub returns : goal.returns
returns c =
    let test = has_file c.args.part.from c.args.part.key in
    let items = c.args.parts.now.items in
    let there : c.file_of.result ≡ position test items = c.file_of.ensures ∙ (λ i. position (has_file (c.part.view_is i).from (c.part.view_is i).key) (c.as_slice.ensures.value i)) in
    let left : c.match-file_of.parts.items ≡ without_file c.args.part.from c.args.part.key items = elim c.match-file_of.branch [
      | in-Some w ↦ ap (λ (v : _). v.items) w.parts-is ∙ w.remove.ensures.items ∙ first_removed test items w.in-Some.place w.remove.result (sym there ∙ w.in-Some.is)
      | in_default w ↦ ap (λ (v : _). v.items) w.parts-is ∙ sym (none_without test items (none_found test items (sym there ∙ w.in_default.is)))
    ] in
    c.in-Ok.ensures.items ∙ ap (λ (l : List Part). l ++ c.args.part ∷ []) left
