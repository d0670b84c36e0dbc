use Rattle.std.proofs.Common.{◌≡◌, ℕ, min, ◌++◌, length, take, drop, sym, ◌∙◌, ap, arith, length-drop}
use Rattle.std.proofs.Math.Seq.{take-append_seam}
use Rattle.std.proofs.lemmas.List.{length-take, take_min}
use Rattle.node_store.proofs.reading.read_some.Goals as goal

pub returns-clause-told : goal.returns-clause-told
returns-clause-told g c = λ w read b is long.
    let out = c.args.out.now in
    let new = c.read_at.new.out in
    let xs = drop c.args.at b in
    let n = c.min-count.result in
    let count : n ≡ min (length out) (length xs) = omega (arith, c.min-count.ensures, c.saturating_sub.ensures, length-drop c.args.at b, long) in
    let came : new ≡ take n xs = c.in_ok-read_at.ensures.told w read b is ∙ ap (λ (k : ℕ). take k xs) (let k : length (take n out) ≡ n = omega (arith, length-take n out, count) in k) in
    let whole : length new ≡ n = omega (arith, ap length came, length-take n xs, count) in
    ap (λ (k : ℕ). take k (new ++ drop n out)) (sym whole) ∙ take-append_seam new (drop n out) ∙ came ∙ ap (λ (k : ℕ). take k xs) count ∙ take_min (length out) xs
