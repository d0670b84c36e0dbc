-- Which frames a stream of bytes has (FTS-1026).
use Rattle.std.specs.Prelude.{◌≡◌, ℕ, ◌+◌, ◌*◌, ◌%◌, ◌<◌, List, [], ◌∷◌, ◌++◌, length, Option}
use Rattle.std.specs.List.{All, flat_map, filter_map}
use Rattle.ftn_addr.specs.Frames.{FrameText, Block, spelling, frame_of}

-- the frame that a block stands for, if it stands for one
abbrev pub frame_in : Block → Option FrameText
frame_in block = frame_of block.command block.body

-- The stream begins with the spellings of blocks that stand for these frames, and rest follows them.
pub record Begins (stream : List ℕ) (frames : List FrameText) (rest : List ℕ) : Type 0 where
  pub blocks : List Block
  pub whole : stream ≡ flat_map spelling blocks ++ rest
  pub short : All (λ block. length block.body < 32768) blocks
  pub found : frames ≡ filter_map frame_in blocks

-- less than a whole block: no header, or fewer bytes behind it than it says
abbrev pub IsPartial : List ℕ → Type 0
IsPartial [] = Unit {0}
IsPartial (high ∷ []) = Unit {0}
IsPartial (high ∷ low ∷ body) = length body < high % 128 * 256 + low

-- The stream is these frames, and then less than a whole block.
pub record Splits (stream : List ℕ) (frames : List FrameText) (rest : List ℕ) : Type 0 where
  pub begins : Begins stream frames rest
  pub partial : IsPartial rest

-- New has the frames of the stream behind the old ones, and rest is what the stream has no whole block for.
pub record Feeds (old : List FrameText) (stream : List ℕ) (new : List FrameText) (rest : List ℕ) : Type 0 where
  pub frames : List FrameText
  pub appended : new ≡ old ++ frames
  pub splits : Splits stream frames rest
