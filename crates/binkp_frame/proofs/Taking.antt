-- The steps of taking the frames of a stream one after another.
use Rattle.std.proofs.Common.{◌≡◌, ℕ, ◌+◌, ◌-◌, ◌<◌, List, [], ◌∷◌, ◌++◌, length, drop, Option, Some, None, refl, sym, ap, ◌∙◌, arith}
use Rattle.std.specs.Option.{option_to_list}
use Rattle.std.specs.List.{flat_map, filter_map, cons_option}
use Rattle.std.proofs.lemmas.List.{append_assoc, append-nil, drop_at, length-append}
use Rattle.std.proofs.lemmas.List.Concat.{flat_map-append}
use Rattle.std.proofs.lemmas.List.Elements.{All-push, filter_map-append}
use Rattle.ftn_addr.specs.Frames.{FrameText, Block, spelling}
use Rattle.binkp_frame.specs.Stream.{frame_in, Begins, Feeds, IsPartial}

-- what was taken of the stream so far
pub record Taken (old : List FrameText) (stream : List ℕ) (new : List FrameText) (rest : List ℕ) : Type 0 where
  pub frames : List FrameText
  pub appended : new ≡ old ++ frames
  pub begins : Begins stream frames rest

filter_map_single : (block : Block) → filter_map frame_in (block ∷ []) ≡ option_to_list (frame_in block)
filter_map_single block = cases (frame_in block)
  where
    cases : (frame : Option FrameText) → cons_option frame [] ≡ option_to_list frame
    cases None = refl
    cases (Some frame) = refl

pub nothing_taken : (old : List FrameText) (stream : List ℕ) → Taken old stream old stream
nothing_taken old stream = record { frames = []; appended = sym (append-nil old); begins = record { blocks = []; whole = refl; short = λ k d h. absurd (omega arith); found = refl } }

pub one_more : (old : List FrameText) (stream : List ℕ) (new newer : List FrameText) (rest after : List ℕ) (block : Block) → length block.body < 32768 → rest ≡ spelling block ++ after → newer ≡ new ++ option_to_list (frame_in block) → Taken old stream new rest → Taken old stream newer after
one_more old stream new newer rest after block short front adds t =
    let single : flat_map spelling (block ∷ []) ≡ spelling block = append-nil (spelling block) in
    let whole : stream ≡ flat_map spelling (t.begins.blocks ++ block ∷ []) ++ after = t.begins.whole ∙ ap (λ (x : List ℕ). flat_map spelling t.begins.blocks ++ x) front ∙ sym (append_assoc (flat_map spelling t.begins.blocks) (spelling block) after) ∙ ap (λ (x : List ℕ). x ++ after) (ap (λ (x : List ℕ). flat_map spelling t.begins.blocks ++ x) (sym single) ∙ sym (flat_map-append spelling t.begins.blocks (block ∷ []))) in
    let found : t.frames ++ option_to_list (frame_in block) ≡ filter_map frame_in (t.begins.blocks ++ block ∷ []) = ap (λ (x : List FrameText). x ++ option_to_list (frame_in block)) t.begins.found ∙ ap (λ (x : List FrameText). filter_map frame_in t.begins.blocks ++ x) (sym (filter_map_single block)) ∙ sym (filter_map-append frame_in t.begins.blocks (block ∷ [])) in
    record { frames = t.frames ++ option_to_list (frame_in block); appended = adds ∙ ap (λ (x : List FrameText). x ++ option_to_list (frame_in block)) t.appended ∙ append_assoc old t.frames (option_to_list (frame_in block)); begins = record { blocks = t.begins.blocks ++ block ∷ []; whole = whole; short = All-push (λ (b : Block). length b.body < 32768) t.begins.blocks block t.begins.short short; found = found } }

pub all_taken : (old : List FrameText) (stream : List ℕ) (new : List FrameText) (rest : List ℕ) → IsPartial rest → Taken old stream new rest → Feeds old stream new (drop (length stream - length rest) stream)
all_taken old stream new rest partial t =
    let front = flat_map spelling t.begins.blocks in
    let sizes : length stream ≡ length front + length rest = ap length t.begins.whole ∙ length-append front rest in
    let left : drop (length stream - length rest) stream ≡ rest = ap (drop (length stream - length rest)) t.begins.whole ∙ drop_at front rest (length stream - length rest) (omega arith) in
    rw left (record { frames = t.frames; appended = t.appended; splits = record { begins = t.begins; partial = partial } })

pub extends_more : {X : Type 0} (old mid new : List X) → (more : List X) × (mid ≡ old ++ more) → (more : List X) × (new ≡ mid ++ more) → (more : List X) × (new ≡ old ++ more)
extends_more {X} old mid new a b = (a.0 ++ b.0, b.1 ∙ ap (λ (x : List X). x ++ b.0) a.1 ∙ append_assoc old a.0 b.0)
