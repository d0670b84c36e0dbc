-- Shares, and the file that a word asks for (own).
use Rattle.std.specs.Prelude.{ℕ, Bool, ◌&&◌, nat_le, List, [], ◌∷◌, ◌++◌, length, find, Option, Some, None}
use Rattle.ftn_addr.specs.Case.{same_word}
use Rattle.ftn_addr.specs.declared.limits.TheConstants.{MAX_NAME}

-- a folder, and the names of the files in it that may be requested
pub record SharedFolder : Type 0 where
  pub folder : List ℕ
  pub names : List (List ℕ)

-- a name of at most 200 bytes, with the case of letters ignored
abbrev pub is_asked : List ℕ → List ℕ → Bool
is_asked word name = nat_le (length name) MAX_NAME && same_word name word

-- the first name that the word asks for
abbrev pub name_in : List ℕ → List (List ℕ) → Option (List ℕ)
name_in word names = find (is_asked word) names

abbrev pub path_of : List ℕ → List ℕ → List ℕ
path_of folder name = folder ++ 47 ∷ name

-- the path where a name was found, or else what the later shares give
abbrev pub path_or : List ℕ → Option (List ℕ) → Option (List ℕ) → Option (List ℕ)
path_or folder (Some name) others = Some (path_of folder name)
path_or folder None others = others

-- the path of the file that a word asks for, from the first share that has one
abbrev pub path_in : List ℕ → List SharedFolder → Option (List ℕ)
path_in word [] = None
path_in word (share ∷ shares) = path_or share.folder (name_in word share.names) (path_in word shares)
