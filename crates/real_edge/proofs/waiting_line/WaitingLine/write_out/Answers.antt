use Rattle.std.proofs.Common.{◌≡◌, ◌∙◌, ◌≤◌, ◌-◌, Option, List, ℕ, drop, length, take, subst, sym, arith}
use Rattle.std.proofs.lemmas.List.{length-drop}
use Rattle.std.specs.Io.KnownBytes.{Appends}
use Rattle.real_edge.proofs.WrittenLemmas.{appends_on, rest_is, written_none}
use Rattle.real_edge.proofs.waiting_line.WaitingLine.write_out.Goals as goal

pub loop-sent-preserved : goal.loop-sent-preserved
loop-sent-preserved g c =
    let bytes = c.args.bytes.now in
    let sent = c.loop-sent.sent in
    let n = c.in-Wrote.n in
    let contents = g.O.Write.contents in
    let some = c.in-Wrote.ensures in
    let fits = subst (λ (l : List ℕ). n ≤ length l) (rest_is sent bytes) some.may.1 in
    let put = subst (λ (l : List ℕ). Appends (contents c.loop-sent.self.output) (contents c.write_some.new.self.output) (take n l)) (rest_is sent bytes) some.output in (
      omega (arith, fits, length-drop sent bytes, c.loop-sent.invariant.0),
      some.input ∙ c.loop-sent.invariant.1,
      some.tally ∙ c.loop-sent.invariant.2,
      appends_on (contents c.args.self.now.output) (contents c.loop-sent.self.output) (contents c.write_some.new.self.output) sent n bytes c.loop-sent.invariant.3 put,
    )

pub returns-in_default-2 : goal.returns-in_default-2
returns-in_default-2 g c =
    let contents = g.O.Write.contents in
    let bytes = c.args.bytes.now in
    let sent = c.loop-sent.sent in record {
      may = (omega (arith, c.if-sent-eq0.false), c.loop-sent.invariant.0);
      output = written_none (contents c.args.self.now.output) (contents c.loop-sent.self.output) (contents c.write_some.new.self.output) c.write_some.result (take sent bytes) (take (length bytes - sent) (drop sent bytes)) c.in_default.not-Wrote c.loop-sent.invariant.3 c.write_some.ensures.output;
      input = c.write_some.ensures.input ∙ c.loop-sent.invariant.1;
      tally = c.write_some.ensures.tally ∙ c.loop-sent.invariant.2;
    }
