use Rattle.std.proofs.Common.{◌≡◌, ℕ, List, drop, map}
use Rattle.std.specs.Prelude.{option_map}
use Rattle.std.specs.Option.{option_or}
use Rattle.file_request.specs.Files.{found}
use Rattle.file_request.specs.Share.{name_in, path_of}
use Rattle.file_request.proofs.files.add_share.Given as goal

abbrev pub invariant-loop-name : goal.invariant-loop-name
invariant-loop-name l =
    (word : List ℕ) → option_or (found l.files word) (option_map (path_of l.share.folder.list) (name_in word (map (λ name. name.list) (drop l.name-index l.share.names.items)))) ≡ option_or (found l.fn.files word) (option_map (path_of l.share.folder.list) (name_in word (map (λ name. name.list) l.share.names.items)))
