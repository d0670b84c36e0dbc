-- A piece makes few frames whole, whatever was held before it.
use Rattle.std.proofs.Common.{◌≡◌, ℕ, ◌+◌, ◌*◌, ◌<◌, ◌≤◌, Bool, true, false, leb, List, [], ◌∷◌, ◌++◌, length, take, drop, refl, sym, ap, ◌∙◌, inl, inr, arith}
use Rattle.std.specs.List.{All, flat_map, filter_map, cons_option}
use Rattle.std.proofs.lemmas.Bool.{cases_Bool, leb-true, leb-false}
use Rattle.std.proofs.lemmas.List.{append_assoc, take_at, take-append-le, take-append-drop, length-append}
use Rattle.ftn_addr.specs.Frames.{FrameText, Block, spelling, frame_of}
use Rattle.binkp_frame.specs.Stream.{frame_in, IsPartial, Splits, Feeds}
use Rattle.binkp_frame.proofs.OneReading.{no_block}

-- a block that stands for a frame has three bytes at least
one_more : (b : Block) (frames : List FrameText) → 3 * length (cons_option (frame_in b) frames) ≤ length (spelling b) + 3 * length frames
one_more b frames = omega (arith, go b.command b.body)
  where
    go : (command : Bool) (body : List ℕ) → 3 * length (cons_option (frame_of command body) frames) ≤ (2 + length body) + 3 * length frames
    go command [] = omega arith
    go true (number ∷ args) = omega arith
    go false (byte ∷ bytes) = omega arith

-- and stands for one frame at most
at_most_one : (b : Block) (frames : List FrameText) → 3 * length (cons_option (frame_in b) frames) ≤ 3 + 3 * length frames
at_most_one b frames = go b.command b.body
  where
    go : (command : Bool) (body : List ℕ) → 3 * length (cons_option (frame_of command body) frames) ≤ 3 + 3 * length frames
    go command [] = omega arith
    go true (number ∷ args) = omega arith
    go false (byte ∷ bytes) = omega arith

in_blocks : (blocks : List Block) → 3 * length (filter_map frame_in blocks) ≤ length (flat_map spelling blocks)
in_blocks [] = omega arith
in_blocks (b ∷ blocks) = omega (arith, one_more b (filter_map frame_in blocks), in_blocks blocks, length-append (spelling b) (flat_map spelling blocks))

-- a stream that begins with less than a whole block has more in its first block
past_held : (b : Block) (rest piece behind : List ℕ) → length b.body < 32768 → IsPartial rest → rest ++ piece ≡ spelling b ++ behind → length rest < length (spelling b)
past_held b rest piece behind short partial e =
    elim (cases_Bool (leb (length (spelling b)) (length rest))) as (λ _. length rest < length (spelling b)) [
      | inl t ↦ absurd (whole (leb-true _ _ t))
      | inr t ↦ leb-false _ _ t
    ]
  where
    whole : length (spelling b) ≤ length rest → ⊥
    whole within =
        let front : take (length (spelling b)) rest ≡ spelling b = sym (take-append-le (length (spelling b)) rest piece within) ∙ ap (take (length (spelling b))) e ∙ take_at (spelling b) behind (length (spelling b)) refl in
        no_block b rest (drop (length (spelling b)) rest) short partial (sym (take-append-drop (length (spelling b)) rest) ∙ ap (λ (x : List ℕ). x ++ drop (length (spelling b)) rest) front)

pub few_frames : (rest piece left : List ℕ) (frames : List FrameText) → IsPartial rest → Splits (rest ++ piece) frames left → 3 * length frames ≤ length piece + 2
few_frames rest piece left frames partial s = rw s.begins.found (go s.begins.blocks s.begins.short s.begins.whole)
  where
    go : (blocks : List Block) → All (λ block. length block.body < 32768) blocks → rest ++ piece ≡ flat_map spelling blocks ++ left → 3 * length (filter_map frame_in blocks) ≤ length piece + 2
    go [] short e = omega arith
    go (b ∷ blocks) short e =
        let behind : rest ++ piece ≡ spelling b ++ (flat_map spelling blocks ++ left) = e ∙ append_assoc (spelling b) (flat_map spelling blocks) left in
        let first : length rest < length (spelling b) = past_held b rest piece (flat_map spelling blocks ++ left) (short 0 b (omega arith)) partial behind in
        let sizes : length rest + length piece ≡ length (spelling b) + (length (flat_map spelling blocks) + length left) = sym (length-append rest piece) ∙ ap length behind ∙ length-append (spelling b) (flat_map spelling blocks ++ left) ∙ ap (λ (n : ℕ). length (spelling b) + n) (length-append (flat_map spelling blocks) left) in
        let others : 3 * length (filter_map frame_in blocks) ≤ length (flat_map spelling blocks) = in_blocks blocks in
        let first_one : 3 * length (cons_option (frame_in b) (filter_map frame_in blocks)) ≤ 3 + 3 * length (filter_map frame_in blocks) = at_most_one b (filter_map frame_in blocks) in
        omega arith

pub few_added : (old new : List FrameText) (rest piece left : List ℕ) → IsPartial rest → Feeds old (rest ++ piece) new left → 3 * length new ≤ 3 * length old + length piece + 2
few_added old new rest piece left partial f = omega (arith, few_frames rest piece left f.frames partial f.splits, ap length f.appended, length-append old f.frames)
