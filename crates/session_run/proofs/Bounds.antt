-- What a session holds stays bounded.
use Rattle.std.proofs.Common.{◌≡◌, ◌⊎◌, ℕ, ◌+◌, ◌*◌, ◌≤◌, List, [], codes, length, ap, inl, inr, arith}
use Rattle.binkp_args.specs.Command.{Bsy}
use Rattle.session_core.specs.Says.{too_many}
use Rattle.session_recv.specs.Replies.{command_bytes}
use Rattle.session_run.specs.declared.run.Run.{Run}
use Rattle.session_run.specs.declared.unsent.TheConstants.{MOST_LEFT, MOST_TO_READ, MOST_TO_TURN}
use Rattle.session_run.specs.Runs.{IsBounded}

-- the frames that a piece makes whole are few, and none where it is empty
pub fed_bounded : (run : Run) (frames after : ℕ) → IsBounded run → 3 * frames ≤ length run.piece.list + 2 → after ≤ length run.out + 1100 * frames → after ≤ MOST_LEFT
fed_bounded run frames after bounded few grew = go bounded.fed
  where
    go : (run.piece.list ≡ []) ⊎ (length run.out ≤ MOST_TO_READ) → after ≤ MOST_LEFT
    go (inl none) = let empty : length run.piece.list ≡ 0 = ap length none in omega (arith, bounded.left)
    go (inr little) = omega (arith, bounded.short)

-- and so is an own turn
pub gave_bounded : (before after : ℕ) → before ≤ MOST_TO_TURN → after ≤ before + 32800 → after ≤ MOST_LEFT
gave_bounded before after few grew = omega arith

bsy_short : (text : List ℕ) → length text ≤ 22 → length (command_bytes (Bsy text)) ≤ 25
bsy_short text short = omega arith

pub many_short : length too_many ≤ 25
unfolding too_many
many_short = bsy_short (codes "too many servers") (omega arith)
