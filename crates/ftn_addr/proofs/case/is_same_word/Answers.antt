use Rattle.std.proofs.Common.{map}
use Rattle.std.specs.Char.{to_ascii_lowercase}
use Rattle.std.specs.Str.{bytes_eq}
use Rattle.std.proofs.lemmas.Bool.Decides.{same_from_decides}
use Rattle.std.proofs.lemmas.Slice.Eq.{bytes_eq-Decides}
use Rattle.ftn_addr.proofs.case.is_same_word.Goals as goal

pub returns : goal.returns
returns c =
    same_from_decides _ (bytes_eq (map to_ascii_lowercase c.args.a.now) (map to_ascii_lowercase c.args.b.now)) c.eq_ignore_ascii_case.ensures.test (bytes_eq-Decides _ _)
