use Rattle.std.proofs.Common.{◌≡◌, ◌∙◌, map, ap, sym, subst}
use Rattle.std.specs.List.{list_any}
use Rattle.disk_model.specs.Folders.{front_of, leads_to, ListsFolder}
use Rattle.mem_disk.specs.Holding.{under}
use Rattle.mem_disk.proofs.FolderLemmas.{lists_folder, if_ok}
use Rattle.mem_disk.proofs.yard_calls.listed.Goals as goal

pub returns : goal.returns
returns c =
    let folder = c.args.folder.now in
    let outside = c.args.held.now.outside in
    if_ok c.in_order.result (λ names. map (λ name. name.list) names.items ≡ c.in_ok-found.found.keys) (λ names. ListsFolder folder (λ path. under path outside) (map (λ name. name.list) names.items)) c.in_order.ensures
    (λ names is. subst (ListsFolder folder (λ path. under path outside)) (sym is)
    (lists_folder folder outside c.in_ok-found.found.keys
    (λ q. c.in_ok-found.ensures.names q ∙ ap (λ ps. list_any (leads_to (front_of folder) q) (map (λ path. path.now) ps)) c.deref.ensures.value ∙ ap (list_any (leads_to (front_of folder) q)) c.in_ok-paths.ensures)
    c.in_ok-found.ensures.ascend))
