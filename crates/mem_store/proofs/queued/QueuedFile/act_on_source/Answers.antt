use Rattle.std.proofs.Common.{◌≡◌, List, true, [], Some, sym, ◌∙◌, ap, subst}
use Rattle.ftn_addr.specs.declared.source_file.Action.{Action}
use Rattle.node_model.specs.Items.{Entry}
use Rattle.node_model.specs.Outside.{has_key, acted_on, put_at, source_acted}
use Rattle.mem_store.specs.contracts.queued.QueuedFile.{the_view}
use Rattle.mem_store.specs.Outsiders.{Placed, outside_of, without_path}
use Rattle.mem_store.proofs.Outsiding.{acted_is, outside_put, outside_without}
use Rattle.mem_store.proofs.queued.QueuedFile.act_on_source.Goals as goal

pub returns-in-Delete : goal.returns-in-Delete
returns-in-Delete c =
    let e = the_view c.self.inside in
    let old = outside_of c.args.files.now.items in
    let new = outside_of c.remove_file.new.files.items in
    let has : has_key e.key (old e.source) ≡ true = subst (λ (fs : List Placed). has_key e.key (outside_of fs e.source) ≡ true) c.as_slice.ensures.value (sym c.has_source.ensures ∙ c.if-not-has_source.false) in
    let gone : new ≡ put_at e.source (acted_on e.action c.args.empty.file.time (old e.source)) old = ap outside_of (c.remove_file.ensures.items ∙ ap (λ p. without_path p c.args.files.now.items) c.as_slice-in-Delete.ensures) ∙ (outside_without e.source c.args.files.now.items ∙ ap (λ (a : Action). put_at e.source (acted_on a c.args.empty.file.time (old e.source)) old) (sym c.in-Delete.is)) in
    subst (λ (x : Entry). new ≡ source_acted x c.args.empty.file.time old) c.self.view_is (acted_is e c.args.empty.file.time old new has gone)

pub returns-in-Cut : goal.returns-in-Cut
returns-in-Cut c =
    let e = the_view c.self.inside in
    let f = c.args.empty in
    let old = outside_of c.args.files.now.items in
    let new = outside_of c.put_file.new.files.items in
    let has : has_key e.key (old e.source) ≡ true = subst (λ (fs : List Placed). has_key e.key (outside_of fs e.source) ≡ true) c.as_slice.ensures.value (sym c.has_source.ensures ∙ c.if-not-has_source.false) in
    let path : f.path ≡ e.source = c.requires.path ∙ ap (λ (x : Entry). x.source) (sym c.self.view_is) in
    let file : f.file ≡ record { bytes = []; time = f.file.time } = λ j. record { bytes = c.requires.empty j; time = f.file.time } in
    let cut : new ≡ put_at e.source (acted_on e.action f.file.time (old e.source)) old = ap outside_of c.put_file.ensures ∙ (outside_put c.args.files.now.items (without_path f.path c.args.files.now.items) f (outside_without f.path c.args.files.now.items) ∙ ((λ j. put_at (path j) (Some (file j)) old) ∙ ap (λ (a : Action). put_at e.source (acted_on a f.file.time (old e.source)) old) (sym c.in-Cut.is))) in
    subst (λ (x : Entry). new ≡ source_acted x f.file.time old) c.self.view_is (acted_is e f.file.time old new has cut)
