use Rattle.std.proofs.Common.{◌+◌, length, sym, ◌∙◌, arith}
use Rattle.std.proofs.lemmas.Bool.{eqb-false}
use Rattle.std.proofs.lemmas.Slice.{between_to_end}
use Rattle.ftn_addr.proofs.FirstLine.{last_line, line_at}
use Rattle.ftn_addr.proofs.line.first_line.Goals as goal

pub returns-in-Some-clause-line : goal.returns-in-Some-clause-line
returns-in-Some-clause-line c =
    let text = c.args.text.now in
    let first = line_at text c.in-Some.end (sym c.line_feed.ensures ∙ c.in-Some.is) in
    rw (between_to_end text (c.in-Some.end + 1) (length text) (omega arith), c.without_return.ensures) first

pub returns-in-None-clause-line : goal.returns-in-None-clause-line
returns-in-None-clause-line c =
    let filled = eqb-false (length c.args.text.now) 0 (sym c.is_empty.ensures ∙ c.if-is_empty.false) in
    last_line c.args.text.now (omega (arith, filled)) (sym c.line_feed.ensures ∙ c.in-None.is)
