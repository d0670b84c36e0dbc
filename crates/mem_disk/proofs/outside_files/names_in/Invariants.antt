use Rattle.std.proofs.Common.{◌≡◌, ℕ, List, map, take}
use Rattle.std.specs.List.{list_any}
use Rattle.disk_model.specs.Folders.{front_of, leads_to, Ascend}
use Rattle.mem_disk.specs.Holding.{is_named}
use Rattle.mem_disk.proofs.outside_files.names_in.Given as goal

abbrev pub invariant-loop-path : goal.invariant-loop-path
invariant-loop-path l = record {
  names : (q : List ℕ) → list_any (is_named q) l.found.keys ≡ list_any (leads_to (front_of l.folder) q) (map (λ path. path.now) (take l.path-index l.paths));
  front : l.front.items ≡ front_of l.folder;
  ascend : Ascend l.found.keys;
}
