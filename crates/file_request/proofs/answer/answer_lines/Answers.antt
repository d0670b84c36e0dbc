use Rattle.std.proofs.Common.{◌≡◌, ◌<◌, ◌∷◌, ◌++◌, length, map, take, false, eqb, None, Some, [], sym, ap, ◌∙◌, arith}
use Rattle.std.specs.Prelude.{option_map}
use Rattle.std.specs.Str.Lines.{lines}
use Rattle.std.proofs.lemmas.List.{length-map, map-append}
use Rattle.file_request.specs.Answer.{all_asked, asked_by}
use Rattle.file_request.specs.Views.{shared}
use Rattle.file_request.proofs.FilesByName.{known_asked}
use Rattle.file_request.proofs.OneLine.{after_last, asked_more, full_more, none_given, one_given, room_for}
use Rattle.file_request.proofs.answer.answer_lines.Goals as goal

pub loop-line-preserved-in-None : goal.loop-line-preserved-in-None
loop-line-preserved-in-None c =
    let shares = map shared c.args.shares.now in
    let paths = map (λ file. file.list) c.loop-line.files.items in
    let filled : eqb (length c.in-Some.line.now) 0 ≡ false = sym c.is_empty.ensures ∙ c.if-not-is_empty.true in
    let first : lines c.loop-line.rest.now ≡ c.in-Some.line.now ∷ lines c.in-Some.after.now = c.in-Some.ensures.line in
    let asked = asked_more shares c.loop-line.rest.now c.in-Some.line.now c.in-Some.after.now first filled in
    let full = ap length (full_more c.loop-line.rest.now c.in-Some.line.now c.in-Some.after.now first filled) in
    let known = known_asked c.in_ok-known.known shares c.in_ok-known.ensures c.in-Some.line.now in
    let none : length paths < 64 → asked_by shares c.in-Some.line.now ≡ None = λ room. sym known ∙ sym (c.in_ok-path.ensures.asked (omega (arith, length-map c.loop-line.files.items (λ file. file.list), c.loop-line.files.ok.0, c.len.ensures))) ∙ ap (option_map (λ path. path.list)) c.in-None.is in
    record {
      files = none_given paths (all_asked shares c.in-Some.after.now) _ none ∙ ap (λ more. take 64 (paths ++ more)) (sym asked) ∙ c.loop-line.invariant.files;
      room = c.loop-line.invariant.room;
      each = omega (arith, full, c.loop-line.invariant.each);
      bound = omega (arith, c.in-Some.ensures.shorter, c.loop-line.invariant.bound);
    }

pub returns : goal.returns
returns c =
    let paths = map (λ file. file.list) c.loop-line.files.items in
    let count = length-map c.loop-line.files.items (λ file. file.list) in
    after_last (map shared c.args.shares.now) paths c.loop-line.passed c.loop-line.rest.now c.args.bytes.now c.in_default.ensures.line c.loop-line.invariant.files (omega (arith, count, c.loop-line.files.ok.0, c.loop-line.invariant.room)) (omega (arith, count, c.loop-line.files.ok.0, c.loop-line.invariant.each))

pub loop-line-preserved-in_ok-push-in-Some-2 : goal.loop-line-preserved-in_ok-push-in-Some-2
loop-line-preserved-in_ok-push-in-Some-2 c =
    let shares = map shared c.args.shares.now in
    let paths = map (λ file. file.list) c.loop-line.files.items in
    let path = c.in-Some-2.path in
    let filled : eqb (length c.in-Some.line.now) 0 ≡ false = sym c.is_empty.ensures ∙ c.if-not-is_empty.true in
    let first : lines c.loop-line.rest.now ≡ c.in-Some.line.now ∷ lines c.in-Some.after.now = c.in-Some.ensures.line in
    let asked = asked_more shares c.loop-line.rest.now c.in-Some.line.now c.in-Some.after.now first filled in
    let full = ap length (full_more c.loop-line.rest.now c.in-Some.line.now c.in-Some.after.now first filled) in
    let known = known_asked c.in_ok-known.known shares c.in_ok-known.ensures c.in-Some.line.now in
    let room = room_for c.len.result c.in_ok-path.field-0 path c.in-Some-2.is c.in_ok-path.ensures.full in
    let given : asked_by shares c.in-Some.line.now ≡ Some path.list = sym known ∙ sym (c.in_ok-path.ensures.asked room) ∙ ap (option_map (λ path. path.list)) c.in-Some-2.is in
    let pushed : map (λ file. file.list) c.push.new.self.items ≡ paths ++ path.list ∷ [] = ap (map (λ file. file.list)) c.in_ok-push-in-Some-2.ensures.items ∙ map-append (λ file. file.list) c.loop-line.files.items (path ∷ []) in
    record {
      files = ap (λ ps. take 64 (ps ++ all_asked shares c.in-Some.after.now)) pushed ∙ ap (take 64) (one_given paths (all_asked shares c.in-Some.after.now) path.list _ given ∙ ap (λ more. paths ++ more) (sym asked)) ∙ c.loop-line.invariant.files;
      room = omega (arith, room, c.len.ensures, c.in_ok-push-in-Some-2.ensures.len);
      each = omega (arith, full, c.loop-line.invariant.each, c.in_ok-push-in-Some-2.ensures.len);
      bound = omega (arith, c.in-Some.ensures.shorter, c.loop-line.invariant.bound, c.in_ok-push-in-Some-2.ensures.len);
    }
