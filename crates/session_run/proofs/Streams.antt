-- A stream of frames: the first of them, the next one, and the one that the code's run stands for.
use Rattle.std.proofs.Common.{◌≡◌, ◌∙◌, ◌+◌, ◌-◌, ◌^◌, ◌<◌, ◌≤◌, min, ℕ, List, [], ◌∷◌, ◌++◌, length, Option, Some, None, refl, sym, ap, subst, arith, append_assoc, length-append, drop, get_or, zero, suc, add-one}
use Rattle.std.specs.List.{All, flat_map, filter_map, cons_option}
use Rattle.std.proofs.lemmas.List.{take_at, length-map}
use Rattle.std.proofs.lemmas.List.Elements.{All-take}
use Rattle.std.proofs.lemmas.List.Concat.{flat_map-append}
use Rattle.ftn_addr.specs.Frames.{FrameText, Block, spelling}
use Rattle.binkp_frame.specs.Stream.{Begins, Splits, Feeds, frame_in}
use Rattle.binkp_frame.specs.Views.{frame_text, frame_texts}
use Rattle.binkp_frame.specs.declared.frame.Frame.{Frame}
use Rattle.session_run.specs.declared.run.Run.{Run}
use Rattle.session_core.specs.declared.session.Session.{Session}
use Rattle.session_core.specs.Sessions.{frame_number}
use Rattle.session_core.specs.Replies.{stage_in}
use Rattle.session_run.specs.Machine.{World}
use Rattle.session_run.specs.Runs.{Stream}

-- the blocks of the first frames
front_blocks : (blocks : List Block) (frames : List FrameText) (frame : FrameText) (more : List FrameText) → frames ++ frame ∷ more ≡ filter_map frame_in blocks → (front : List Block) × (back : List Block) × (blocks ≡ front ++ back) × (frames ++ frame ∷ [] ≡ filter_map frame_in front)
front_blocks [] [] frame more e = absurd (let clash : frame ∷ more ≡ [] = e in cc)
front_blocks [] (x ∷ frames) frame more e = absurd (let clash : x ∷ (frames ++ frame ∷ more) ≡ [] = e in cc)
front_blocks (b ∷ bs) frames frame more e = go (frame_in b) frames e refl (λ fs h. front_blocks bs fs frame more h)
  where
    go : (found : Option FrameText) (fs : List FrameText) → fs ++ frame ∷ more ≡ cons_option found (filter_map frame_in bs) → frame_in b ≡ found → ((gs : List FrameText) → gs ++ frame ∷ more ≡ filter_map frame_in bs → (front : List Block) × (back : List Block) × (bs ≡ front ++ back) × (gs ++ frame ∷ [] ≡ filter_map frame_in front)) → (front : List Block) × (back : List Block) × (b ∷ bs ≡ front ++ back) × (fs ++ frame ∷ [] ≡ filter_map frame_in front)
    go None fs h is ih =
        let x = ih fs h in
        (b ∷ x.0, x.1, ap (λ (l : List Block). b ∷ l) x.2, x.3 ∙ ap (λ (o : Option FrameText). cons_option o (filter_map frame_in x.0)) (sym is))
    go (Some g) [] h is ih =
        let same : frame ≡ g = cc in
        (b ∷ [], bs, refl, ap (λ (f : FrameText). f ∷ []) same ∙ ap (λ (o : Option FrameText). cons_option o []) (sym is))
    go (Some g) (f ∷ fs) h is ih =
        let same : f ≡ g = cc in
        let rest : fs ++ frame ∷ more ≡ filter_map frame_in bs = cc in
        let x = ih fs rest in
        (b ∷ x.0, x.1, ap (λ (l : List Block). b ∷ l) x.2, ap (λ (l : List FrameText). f ∷ l) x.3 ∙ ap (λ (k : FrameText). k ∷ filter_map frame_in x.0) same ∙ ap (λ (o : Option FrameText). cons_option o (filter_map frame_in x.0)) (sym is))

-- a stream that begins with frames begins with the first of them
pub begins_front : (stream rest : List ℕ) (frames : List FrameText) (frame : FrameText) (more : List FrameText) → Begins stream (frames ++ frame ∷ more) rest → (left : List ℕ) × Begins stream (frames ++ frame ∷ []) left
begins_front stream rest frames frame more b =
    let x = front_blocks b.blocks frames frame more b.found in
    let short : All (λ block. length block.body < 32768) (x.0 ++ x.1) = subst (λ (l : List Block). All (λ block. length block.body < 32768) l) x.2 b.short in
    let front : All (λ block. length block.body < 32768) x.0 = subst (λ (l : List Block). All (λ block. length block.body < 32768) l) (take_at x.0 x.1 (length x.0) refl) (All-take (λ (block : Block). length block.body < 32768) (length x.0) (x.0 ++ x.1) short) in (
      flat_map spelling x.1 ++ rest,
      record {
        blocks = x.0;
        whole = b.whole ∙ ap (λ (l : List Block). flat_map spelling l ++ rest) x.2 ∙ ap (λ (l : List ℕ). l ++ rest) (flat_map-append spelling x.0 x.1) ∙ append_assoc (flat_map spelling x.0) (flat_map spelling x.1) rest;
        short = front;
        found = x.3;
      },
    )

-- more bytes behind
pub begins_more : (stream rest more : List ℕ) (frames : List FrameText) → Begins stream frames rest → Begins (stream ++ more) frames (rest ++ more)
begins_more stream rest more frames b = record { blocks = b.blocks; whole = ap (λ (x : List ℕ). x ++ more) b.whole ∙ append_assoc (flat_map spelling b.blocks) rest more; short = b.short; found = b.found }

-- that pieces add up
abbrev pub AddUp : Type 0
AddUp = (old mid new : List FrameText) (stream piece rest left : List ℕ) → Feeds old stream mid rest → Feeds mid (rest ++ piece) new left → Feeds old (stream ++ piece) new left

-- the stream, where session, decoder and piece are as they were
pub stream_same : (run run' : Run) (pending : List FrameText) (w v : World) → v.stage ≡ w.stage → v.frames ≡ w.frames → v.taken ≡ w.taken → run'.session ≡ run.session → run'.decoder ≡ run.decoder → run'.piece.list ≡ run.piece.list → Stream run pending w → Stream run' pending v
stream_same run run' pending w v stage frames taken session decoder piece st = record {
  stage_is = stage ∙ st.stage_is ∙ ap stage_in (sym session);
  number_is = ap (λ (x : Session). x.frames) session ∙ st.number_is ∙ ap frame_number (sym frames);
  fed = st.fed;
  whole = taken ∙ st.whole ∙ ap (λ (x : List ℕ). st.fed ++ x) (sym piece);
  splits = subst (λ (x : List ℕ). Splits st.fed (v.frames ++ pending) x) (sym decoder) (subst (λ (fs : List FrameText). Splits st.fed (fs ++ pending) run.decoder) (sym frames) st.splits);
}

pub next_number : (frames : List FrameText) (frame : FrameText) (n n' : ℕ) → n ≡ frame_number frames → n' ≡ min (n + 1) (2 ^ 64 - 1) → n' ≡ frame_number (frames ++ frame ∷ [])
next_number frames frame n n' e f = let long : length (frames ++ frame ∷ []) ≡ length frames + 1 = length-append frames (frame ∷ []) in omega arith

-- the next of the pending frames
pub next_pending : (frames : List Frame) (i : ℕ) (item : Frame) → i < length frames → item ≡ get_or frames i item → drop i (frame_texts frames) ≡ frame_text item ∷ drop (i + 1) (frame_texts frames)
next_pending frames i item within is = rw add-one (go frames i within is)
  where
    go : (xs : List Frame) (k : ℕ) → k < length xs → item ≡ get_or xs k item → drop k (frame_texts xs) ≡ frame_text item ∷ drop (suc k) (frame_texts xs)
    go [] k lt e = absurd (omega arith)
    go (x ∷ xs) zero lt e = ap (λ (y : Frame). frame_text y ∷ frame_texts xs) (sym e)
    go (x ∷ xs) (suc k) lt e = go xs k (omega arith) e

-- nothing is pending behind the last
pub none_pending : (frames : List Frame) (i : ℕ) → length frames ≤ i → drop i (frame_texts frames) ≡ []
none_pending frames i h = go (frame_texts frames) i (omega (arith, length-map frames frame_text))
  where
    go : (xs : List FrameText) (k : ℕ) → length xs ≤ k → drop k xs ≡ []
    go [] zero h = refl
    go [] (suc k) h = refl
    go (x ∷ xs) zero h = absurd (omega arith)
    go (x ∷ xs) (suc k) h = go xs k (omega arith)

pub is_nothing : (xs : List ℕ) → length xs ≡ 0 → xs ≡ []
is_nothing [] e = refl
is_nothing (x ∷ xs) e = absurd (omega arith)
