-- One block more of a copy.
use Rattle.std.proofs.Common.{◌≡◌, ℕ, ◌+◌, ◌≤◌, List, ◌++◌, length, take, Option, Some, None, sym, ◌∙◌, ap, arith, append_assoc, length-append}
use Rattle.std.proofs.lemmas.List.{length-take-le}
use Rattle.std.specs.Io.KnownBytes.{Consumes, Appends}
use Rattle.real_edge.specs.Copying.{Copied}

consumes_more : (a b c : Option (List ℕ)) (xs ys : List ℕ) → Consumes a b xs → Consumes b c ys → Consumes a c (xs ++ ys)
consumes_more None b c xs ys first second = tt
consumes_more (Some a) None c xs ys first second = absurd first
consumes_more (Some a) (Some b) None xs ys first second = absurd second
consumes_more (Some a) (Some b) (Some c) xs ys first second = first ∙ ap (λ (l : List ℕ). xs ++ l) second ∙ sym (append_assoc xs ys c)

pub appends_more : (a b c : Option (List ℕ)) (xs ys : List ℕ) → Appends a b xs → Appends b c ys → Appends a c (xs ++ ys)
appends_more None b c xs ys first second = tt
appends_more (Some a) None c xs ys first second = absurd first
appends_more (Some a) (Some b) None xs ys first second = absurd second
appends_more (Some a) (Some b) (Some c) xs ys first second = second ∙ ap (λ (l : List ℕ). l ++ ys) first ∙ append_assoc a xs ys

pub copied_more : (left rest rest' held holds holds' : Option (List ℕ)) (n m total : ℕ) (block : List ℕ) → Copied left rest held holds n → Consumes rest rest' (take m block) → Appends holds holds' (take m block)
    → m ≤ length block → total ≡ n + m → Copied left rest' held holds' total
copied_more left rest rest' held holds holds' n m total block so_far read written fits is = record {
  bytes = so_far.bytes ++ take m block;
  read = consumes_more left rest rest' so_far.bytes (take m block) so_far.read read;
  written = appends_more held holds holds' so_far.bytes (take m block) so_far.written written;
  counted = omega (arith, is, so_far.counted, length-append so_far.bytes (take m block), length-take-le m block fits);
}
