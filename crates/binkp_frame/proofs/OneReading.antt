-- A stream has one reading, pieces add up, and what is sent is read.
use Rattle.std.proofs.Common.{◌≡◌, ℕ, suc, ◌+◌, ◌*◌, ◌/◌, ◌%◌, ◌<◌, ◌≤◌, List, [], ◌∷◌, ◌++◌, length, take, drop, Bool, true, false, cond, refl, sym, ap, ◌∙◌, arith}
use Rattle.std.specs.List.{All, flat_map, filter_map}
use Rattle.std.proofs.lemmas.List.{append_assoc, append-nil, take_at, drop_at, length-append}
use Rattle.std.proofs.lemmas.List.Concat.{flat_map-append}
use Rattle.std.proofs.lemmas.List.Elements.{All-append, All-push, filter_map-append}
use Rattle.ftn_addr.specs.Frames.{FrameText, Command, Data, Block, CanSend, block_of, spelling, frame_bytes}
use Rattle.binkp_frame.specs.Stream.{frame_in, Splits, Feeds, IsPartial}

-- lists of one length before two ends
same_fronts : (a b x y : List ℕ) → length a ≡ length b → a ++ x ≡ b ++ y → (a ≡ b) × (x ≡ y)
same_fronts a b x y sizes e =
    (sym (take_at a x (length a) refl) ∙ ap (take (length a)) e ∙ take_at b y (length a) (sym sizes), sym (drop_at a x (length a) refl) ∙ ap (drop (length a)) e ∙ drop_at b y (length a) (sym sizes))

-- the numbers that a header spells
same_heads : (b c : Bool) (m n : ℕ) → m < 32768 → n < 32768 → cond b 128 0 + m / 256 ≡ cond c 128 0 + n / 256 → m % 256 ≡ n % 256 → (b ≡ c) × (m ≡ n)
same_heads true true m n sm sn high low = (refl, omega arith)
same_heads true false m n sm sn high low = absurd (omega arith)
same_heads false true m n sm sn high low = absurd (omega arith)
same_heads false false m n sm sn high low = (refl, omega arith)

pub one_block : (b c : Block) (x y : List ℕ) → length b.body < 32768 → length c.body < 32768 → spelling b ++ x ≡ spelling c ++ y → (b ≡ c) × (x ≡ y)
one_block b c x y sb sc e =
    let high : cond b.command 128 0 + length b.body / 256 ≡ cond c.command 128 0 + length c.body / 256 = cc in
    let low : length b.body % 256 ≡ length c.body % 256 = cc in
    let bodies : b.body ++ x ≡ c.body ++ y = cc in
    let heads = same_heads b.command c.command (length b.body) (length c.body) sb sc high low in
    let parts = same_fronts b.body c.body x y heads.1 bodies in
    let with_command : Bool → Block = λ x. record { command = x; body = b.body } in
    let with_body : List ℕ → Block = λ x. record { command = c.command; body = x } in
    (ap with_command heads.0 ∙ ap with_body parts.0, parts.1)

-- a header promises the length
header_promise : (b : Bool) (n m : ℕ) → n < 32768 → n + m < (cond b 128 0 + n / 256) % 128 * 256 + n % 256 → ⊥
header_promise true n m small h = omega arith
header_promise false n m small h = omega arith

-- less than a whole frame begins as no block
pub no_block : (b : Block) (r x : List ℕ) → length b.body < 32768 → IsPartial r → r ≡ spelling b ++ x → ⊥
no_block b r x sb partial e =
    let less : length (b.body ++ x) < (cond b.command 128 0 + length b.body / 256) % 128 * 256 + length b.body % 256 = rw e at partial in
    header_promise b.command (length b.body) (length x) sb (rw length-append at less)

pub one_reading : (bs cs : List Block) (r q : List ℕ) → All (λ b. length b.body < 32768) bs → All (λ b. length b.body < 32768) cs → IsPartial r → IsPartial q → flat_map spelling bs ++ r ≡ flat_map spelling cs ++ q → (bs ≡ cs) × (r ≡ q)
one_reading [] [] r q sb sc pr pq e = (refl, e)
one_reading [] (c ∷ cs) r q sb sc pr pq e = absurd (no_block c r (flat_map spelling cs ++ q) (sc 0 c (omega arith)) pr (e ∙ append_assoc (spelling c) (flat_map spelling cs) q))
one_reading (b ∷ bs) [] r q sb sc pr pq e = absurd (no_block b q (flat_map spelling bs ++ r) (sb 0 b (omega arith)) pq (sym e ∙ append_assoc (spelling b) (flat_map spelling bs) r))
one_reading (b ∷ bs) (c ∷ cs) r q sb sc pr pq e =
    let first = one_block b c (flat_map spelling bs ++ r) (flat_map spelling cs ++ q) (sb 0 b (omega arith)) (sc 0 c (omega arith)) (sym (append_assoc (spelling b) (flat_map spelling bs) r) ∙ e ∙ append_assoc (spelling c) (flat_map spelling cs) q) in
    let more = one_reading bs cs r q (λ k d h. sb (suc k) d (omega arith)) (λ k d h. sc (suc k) d (omega arith)) pr pq first.1 in
    (ap (λ (x : Block). x ∷ bs) first.0 ∙ ap (λ (xs : List Block). c ∷ xs) more.0, more.1)

-- the frames and the rest are determined by the bytes
pub only_split : (stream : List ℕ) (frames others : List FrameText) (rest left : List ℕ) → Splits stream frames rest → Splits stream others left → (frames ≡ others) × (rest ≡ left)
only_split stream frames others rest left s o =
    let same = one_reading s.begins.blocks o.begins.blocks rest left s.begins.short o.begins.short s.partial o.partial (sym s.begins.whole ∙ o.begins.whole) in
    (s.begins.found ∙ ap (filter_map frame_in) same.0 ∙ sym o.begins.found, same.1)

-- what a first and a second piece give, together
pub feeds_on : (old mid new : List FrameText) (stream piece rest left : List ℕ) → Feeds old stream mid rest → Feeds mid (rest ++ piece) new left → Feeds old (stream ++ piece) new left
feeds_on old mid new stream piece rest left a b =
    let first = a.splits.begins in
    let second = b.splits.begins in
    let behind = λ (x : List ℕ). flat_map spelling first.blocks ++ x in
    let whole : stream ++ piece ≡ flat_map spelling (first.blocks ++ second.blocks) ++ left = ap (λ (x : List ℕ). x ++ piece) first.whole ∙ append_assoc (flat_map spelling first.blocks) rest piece ∙ ap behind second.whole ∙ sym (append_assoc (flat_map spelling first.blocks) (flat_map spelling second.blocks) left) ∙ ap (λ (x : List ℕ). x ++ left) (sym (flat_map-append spelling first.blocks second.blocks)) in
    let found : a.frames ++ b.frames ≡ filter_map frame_in (first.blocks ++ second.blocks) = rw (first.found, second.found) (sym (filter_map-append frame_in first.blocks second.blocks)) in
    let appended : new ≡ old ++ (a.frames ++ b.frames) = b.appended ∙ ap (λ (x : List FrameText). x ++ b.frames) a.appended ∙ append_assoc old a.frames b.frames in
    record { frames = a.frames ++ b.frames; appended = appended; splits = record { begins = record { blocks = first.blocks ++ second.blocks; whole = whole; short = All-append (λ (block : Block). length block.body < 32768) first.blocks second.blocks first.short second.short; found = found }; partial = b.splits.partial } }

-- one frame that is sent is one frame that is read
sent : (frame : FrameText) → CanSend frame → (frame ∷ [] ≡ filter_map frame_in (block_of frame ∷ [])) × (length (block_of frame).body < 32768)
sent (Command number args) can = (refl, omega arith)
sent (Data []) can = absurd (omega arith)
sent (Data (byte ∷ bytes)) can = (refl, let within : length (byte ∷ bytes) ≤ 32767 = can.1 in omega arith)

pub reads_sent : (frame : FrameText) → CanSend frame → Splits (frame_bytes frame) (frame ∷ []) []
reads_sent frame can =
    let s = sent frame can in
    record { begins = record { blocks = block_of frame ∷ []; whole = simp append-nil; short = All-push (λ (block : Block). length block.body < 32768) [] (block_of frame) (λ k d h. absurd (omega arith)) s.1; found = s.0 }; partial = tt }
