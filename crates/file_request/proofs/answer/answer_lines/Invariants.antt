use Rattle.std.proofs.Common.{◌≡◌, ◌+◌, ◌≤◌, ◌++◌, length, map, take, vec_len}
use Rattle.file_request.specs.Answer.{all_asked, full_lines}
use Rattle.file_request.specs.Views.{shared}
use Rattle.file_request.proofs.answer.answer_lines.Given as goal

abbrev pub invariant-loop-line : goal.invariant-loop-line
invariant-loop-line l = record {
  files : take 64 (map (λ file. file.list) l.files.items ++ all_asked (map shared l.shares) l.rest) ≡ take 64 (all_asked (map shared l.shares) l.bytes);
  room : vec_len l.files ≤ 64;
  each : l.passed + vec_len l.files + length (full_lines l.rest) ≡ length (full_lines l.bytes);
  bound : l.passed + vec_len l.files + length l.rest ≤ length l.bytes;
}

abbrev pub decreases-loop-line : goal.decreases-loop-line
decreases-loop-line l = length l.rest
