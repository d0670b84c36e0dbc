-- The most bytes of data in a frame of the file under way.
use Rattle.std.specs.Prelude.{ℕ}
use Rattle.session_core.specs.declared.stage.Stage.{Stage}
use Rattle.session_core.specs.declared.stage.Stage.TheVariants as K

-- that of the sending half, and at the login that of the setting
abbrev pub block_at : ℕ → Stage → ℕ
block_at block K.LogsIn = block
block_at block (K.Talks talking) = talking.sender.block
