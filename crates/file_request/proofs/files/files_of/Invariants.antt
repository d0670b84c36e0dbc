use Rattle.std.proofs.Common.{◌≡◌, ℕ, List, drop, map}
use Rattle.std.specs.Option.{option_or}
use Rattle.file_request.specs.Files.{found}
use Rattle.file_request.specs.Share.{path_in}
use Rattle.file_request.specs.Views.{shared}
use Rattle.file_request.proofs.files.files_of.Given as goal

abbrev pub invariant-loop-share : goal.invariant-loop-share
invariant-loop-share l =
    (word : List ℕ) → option_or (found l.files word) (path_in word (map shared (drop l.share-index l.shares))) ≡ path_in word (map shared l.shares)
