use Rattle.std.proofs.Common.{◌≡◌, ◌<◌, List, [], ℕ, Bool, length, sym, ◌∙◌, ap, rules}
use Rattle.std.specs.Prelude.{◌||◌, ◌&&◌, not}
use Rattle.std.specs.Str.{bytes_eq}
use Rattle.std.specs.List.{list_any}
use Rattle.disk_model.specs.Folders.{front_of, entry_of, leads_to}
use Rattle.mem_disk.specs.Holding.{is_named}
use Rattle.mem_disk.proofs.FolderLemmas.{one_more}
use Rattle.mem_disk.proofs.outside_files.names_in.Goals as goal

pub loop-path-preserved : goal.loop-path-preserved
loop-path-preserved c =
    let front = front_of c.args.folder.now in
    let path = c.path-item.result in
    let lt : c.loop-path.path-index < length c.args.paths.now = search rules in
    let e : c.entry_of.result.now ≡ entry_of front path.now =
    c.entry_of.ensures ∙ ap (λ (f : List ℕ). entry_of f c.as_slice.result.now) (c.deref.ensures.value ∙ c.loop-path.invariant.front) ∙ ap (entry_of front) c.as_slice.ensures in
    record {
      names = λ q. c.in_ok-add_name.ensures.names q
          ∙ ap (λ (x : List ℕ). list_any (is_named q) c.loop-path.found.keys || (not (bytes_eq x []) && bytes_eq q x)) e
          ∙ ap (λ (b : Bool). b || leads_to front q path.now) (c.loop-path.invariant.names q)
          ∙ sym (one_more (λ p. p.now) (leads_to front q) c.args.paths.now c.loop-path.path-index path lt c.path-item.is);
      front = c.loop-path.invariant.front;
      ascend = c.in_ok-add_name.ensures.ascend c.loop-path.invariant.ascend;
    }
