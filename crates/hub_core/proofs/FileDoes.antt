-- A file is offered at a hub's desk: what the call is told by, whatever it answers.
use Rattle.std.proofs.Common.{◌≡◌, ℕ, ◌-◌, true, false, [], ◌∷◌, Option, Some, refl, sym, ◌∙◌, ap, subst, inl, inr}
use Rattle.std.specs.Prelude.{Ok}
use Rattle.ftn_addr.specs.Key.{Key}
use Rattle.node_model.specs.declared.desk.FileIn.{FileIn}
use Rattle.node_model.specs.declared.desk.FileIn.TheVariants as F
use Rattle.node_model.specs.Node.{Hold, Node, session_at, hold_in}
use Rattle.node_model.specs.Rows.{FileAnswer, Refuse, Whole, mark_any, reason}
use Rattle.node_model.specs.Calls.{Call, Answer, File_call, Filed, Marked, After_it, Counts}
use Rattle.node_model.specs.Desks.{file_answer, part_after, held_after}
use Rattle.node_model.specs.Stores.{Shelf, Stored, StoreState, StoreStand, StoreTied, IsShelf}
use Rattle.hub_core.specs.Hubs.{Sitting, HubState, with_sitting, node_with, seat_part, sitting_part, taken_part}
use Rattle.hub_core.specs.HubCalls.{ShelfPasses, HasTurn, Does}
use Rattle.hub_core.specs.Steps.{Leaves, StaysSettled, OneOf, OneMade, Judged, MayBeMade, Answered, answered_state, word_of, ended}
use Rattle.hub_core.proofs.Ends.{Sits, unheld_sitting, ended_stored, ended_content, ended_counts, released_is}
use Rattle.hub_core.proofs.FileSteps.{ended_hub, still_stepped, room_now, refused_stepped, whole_stepped, go_stepped, from_stepped}
use Rattle.hub_core.proofs.Filing.{Offered, ended_seat, unheld_hub}
use Rattle.hub_core.proofs.Keeping.{leaves_as, leaves_then}
use Rattle.hub_core.proofs.Nodes.{session_is, sits_at}
use Rattle.hub_core.proofs.Owning.{own_again}
use Rattle.hub_core.proofs.Sittings.{sit_twice}
use Rattle.hub_core.proofs.Stepping.{Stepped, passes_by}
use Rattle.hub_core.proofs.Turning.{fitted_now, sits_now, before_passes, made_does}

-- What held was released, and the file was judged.
pub record Offers (v v1 : StoreStand) (k : HubState) (seat : ℕ) (x : Sitting) (key : Key) (offset : ℕ) (word : FileIn) : Type 0 where
  pub turn : HasTurn v (with_sitting seat (Some x) k) seat
  pub tied : StoreTied v.state
  pub tied_on : StoreTied v1.state
  pub ends : v1.state ≡ ended x.first x.hold v.state
  pub leaves : Leaves (OneOf (v.state.content ∷ (ended x.first x.hold v.state).content ∷ [])) v v1
  pub settled : StaysSettled v v1
  pub judged : Judged seat (unheld_sitting x) key offset word v1.state k

pub offered : (v v1 : StoreStand) (k : HubState) (seat : ℕ) (x : Sitting) (key : Key) (offset : ℕ) (word : FileIn) (o : Offers v v1 k seat x key offset word) → Offered (fitted_now v (with_sitting seat (Some x) k) seat o.turn).keeps v.state k seat x
offered v v1 k seat x key offset word o = record {
  sits = sits_now v (with_sitting seat (Some x) k) seat x o.turn o.tied (sits_at k seat (Some x));
  tied = subst StoreTied o.ends o.tied_on;
  whole = o.turn.whole;
}

pub judged_ended : (v v1 : StoreStand) (k : HubState) (seat : ℕ) (x : Sitting) (key : Key) (offset : ℕ) (word : FileIn) → Offers v v1 k seat x key offset word → Judged seat (unheld_sitting x) key offset word (ended x.first x.hold v.state) k
judged_ended v v1 k seat x key offset word o = subst (λ (s : StoreState). Judged seat (unheld_sitting x) key offset word s k) o.ends o.judged

-- Images.

marked_is : (a : Stored) (s : StoreState) (k : HubState) (seat : ℕ) (x : Sitting) → Sits a s (with_sitting seat (Some x) k) seat x → (ended_stored x.first x.hold s a).stock.state ≡ mark_any (hold_in (session_at (node_with a s (with_sitting seat (Some x) k)) seat)) a.stock.state
marked_is a s k seat x o =
    ap (λ (n : Node). n.state) (released_is a s (with_sitting seat (Some x) k) seat x o)
    ∙ ap (λ (h : Option Hold). mark_any h a.stock.state) (sym (ap hold_in (session_is a s (with_sitting seat (Some x) k) seat x o.sits)))

pub ended_passes : (v : StoreStand) (k : HubState) (seat : ℕ) (x : Sitting) (key : Key) (offset : ℕ) (b : HasTurn v (with_sitting seat (Some x) k) seat) → Sits (fitted_now v (with_sitting seat (Some x) k) seat b).keeps v.state (with_sitting seat (Some x) k) seat x → (d : Shelf) → IsShelf (ended x.first x.hold v.state).content d → ShelfPasses v.state.content v.state (with_sitting seat (Some x) k) seat (File_call key offset) d
ended_passes v k seat x key offset b o d is =
    let f = fitted_now v (with_sitting seat (Some x) k) seat b in
    passes_by v.state.content (ended_stored x.first x.hold v.state) v.state (with_sitting seat (Some x) k) seat (File_call key offset) f.keeps d f.tells (Marked b.whole refl (marked_is f.keeps v.state k seat x o)) (subst (λ (c : Option Stored). IsShelf c d) (ended_content x.first x.hold v.state) is)

pub first_passes : (v : StoreStand) (k : HubState) (seat : ℕ) (x : Sitting) (key : Key) (offset : ℕ) (b : HasTurn v (with_sitting seat (Some x) k) seat) → Sits (fitted_now v (with_sitting seat (Some x) k) seat b).keeps v.state (with_sitting seat (Some x) k) seat x → (d : Shelf) → OneOf (v.state.content ∷ (ended x.first x.hold v.state).content ∷ []) d → ShelfPasses v.state.content v.state (with_sitting seat (Some x) k) seat (File_call key offset) d
first_passes v k seat x key offset b o d (inl is) = before_passes v.state.content v.state (with_sitting seat (Some x) k) seat (File_call key offset) d is
first_passes v k seat x key offset b o d (inr (inl is)) = ended_passes v k seat x key offset b o d is
first_passes v k seat x key offset b o d (inr (inr none)) = absurd none

-- a stop may leave what the step makes
step_passes : (v : StoreStand) (h : HubState) (seat : ℕ) (key : Key) (offset : ℕ) (answer : FileAnswer) (b : HasTurn v h seat) (t : StoreState) (g : HubState) → Stepped seat (File_call key offset) (Filed answer) v.state h (fitted_now v h seat b).keeps t g → (d : Shelf) → IsShelf t.content d → ShelfPasses v.state.content v.state h seat (File_call key offset) d
step_passes v h seat key offset answer b t g step d is =
    let f = fitted_now v h seat b in
    passes_by v.state.content step.change v.state h seat (File_call key offset) f.keeps d f.tells (After_it b.whole (Filed answer) (node_with (step.change f.keeps) t g) step.step.1 refl) (subst (λ (c : Option Stored). IsShelf c d) step.content is)

made_passes : (v v1 : StoreStand) (k : HubState) (seat : ℕ) (x : Sitting) (key : Key) (offset : ℕ) (word : FileIn) (o : Offers v v1 k seat x key offset word) (d : Shelf) → MayBeMade word key (unheld_sitting x) (ended x.first x.hold v.state) → IsShelf (answered_state word key (reason k.settings key) (unheld_sitting x) (ended x.first x.hold v.state)).content d → ShelfPasses v.state.content v.state (with_sitting seat (Some x) k) seat (File_call key offset) d
made_passes v v1 k seat x key offset F.Refuse o d may is =
    step_passes v (with_sitting seat (Some x) k) seat key offset Refuse o.turn _ _ (refused_stepped (fitted_now v (with_sitting seat (Some x) k) seat o.turn).keeps v.state k seat x key offset (offered v v1 k seat x key offset F.Refuse o) (judged_ended v v1 k seat x key offset F.Refuse o) may) d is
made_passes v v1 k seat x key offset F.Whole o d may is =
    step_passes v (with_sitting seat (Some x) k) seat key offset Whole o.turn _ _ (whole_stepped (fitted_now v (with_sitting seat (Some x) k) seat o.turn).keeps v.state k seat x key offset (offered v v1 k seat x key offset F.Whole o) (judged_ended v v1 k seat x key offset F.Whole o) may) d is
made_passes v v1 k seat x key offset F.Have o d may is = absurd may
made_passes v v1 k seat x key offset F.Elsewhere o d may is = absurd may
made_passes v v1 k seat x key offset F.Late o d may is = absurd may
made_passes v v1 k seat x key offset F.Go o d may is = absurd may
made_passes v v1 k seat x key offset (F.From place) o d may is = absurd may

pub second_passes : (v v1 : StoreStand) (k : HubState) (seat : ℕ) (x : Sitting) (key : Key) (offset : ℕ) (word : FileIn) (o : Offers v v1 k seat x key offset word) (d : Shelf) → OneMade v1.state.content (MayBeMade word key (unheld_sitting x) v1.state) (answered_state word key (reason k.settings key) (unheld_sitting x) v1.state).content d → ShelfPasses v.state.content v.state (with_sitting seat (Some x) k) seat (File_call key offset) d
second_passes v v1 k seat x key offset word o d p =
    go (subst (λ (s : StoreState). OneMade s.content (MayBeMade word key (unheld_sitting x) s) (answered_state word key (reason k.settings key) (unheld_sitting x) s).content d) o.ends p)
  where
    go : OneMade (ended x.first x.hold v.state).content (MayBeMade word key (unheld_sitting x) (ended x.first x.hold v.state)) (answered_state word key (reason k.settings key) (unheld_sitting x) (ended x.first x.hold v.state)).content d → ShelfPasses v.state.content v.state (with_sitting seat (Some x) k) seat (File_call key offset) d
    go (inl is) = ended_passes v k seat x key offset o.turn (offered v v1 k seat x key offset word o).sits d is
    go (inr made) = made_passes v v1 k seat x key offset word o d made.0 made.1

pub file_leaves : (v v1 w : StoreStand) (k : HubState) (seat : ℕ) (x : Sitting) (key : Key) (offset : ℕ) (word : FileIn) (o : Offers v v1 k seat x key offset word) → Leaves (OneMade v1.state.content (MayBeMade word key (unheld_sitting x) v1.state) (answered_state word key (reason k.settings key) (unheld_sitting x) v1.state).content) v1 w → Leaves (ShelfPasses v.state.content v.state (with_sitting seat (Some x) k) seat (File_call key offset)) v w
file_leaves v v1 w k seat x key offset word o l =
    leaves_then (ShelfPasses v.state.content v.state (with_sitting seat (Some x) k) seat (File_call key offset)) v v1 w
    (leaves_as _ _ v v1 (first_passes v k seat x key offset o.turn (offered v v1 k seat x key offset word o).sits) o.leaves)
    (leaves_as _ _ v1 w (second_passes v v1 k seat x key offset word o) l)

-- The part of the desk.

pub part_filed : (k : HubState) (seat : ℕ) (x y : Sitting) (key : Key) (offset : ℕ) (answer : Answer) → taken_part y.hold ≡ held_after (taken_part x.hold) (File_call key offset) answer → y.claim ≡ x.claim → seat_part (with_sitting seat (Some y) k) seat ≡ part_after (seat_part (with_sitting seat (Some x) k) seat) (File_call key offset) answer
part_filed k seat x y key offset answer is claimed =
    ap sitting_part (sits_at k seat (Some y))
    ∙ ((λ i. record { open_now = true; claim = claimed i; held = is i })
    ∙ sym (ap (λ (o : Option Sitting). part_after (sitting_part o) (File_call key offset) answer) (sits_at k seat (Some x))))

-- The step.

pub at_end : (k : HubState) (seat : ℕ) (x y : Sitting) → y ≡ unheld_sitting x → ended_hub k seat x ≡ with_sitting seat (Some y) k
at_end k seat x y same = unheld_hub k seat x ∙ ap (λ (z : Sitting). with_sitting seat (Some z) k) (sym same)

at_hold : (k : HubState) (seat : ℕ) (x y z : Sitting) → z ≡ y → with_sitting seat (Some y) (ended_hub k seat x) ≡ with_sitting seat (Some z) k
at_hold k seat x y z same =
    sit_twice (with_sitting seat (Some x) k) seat (Some y) (Some (unheld_sitting x)) ∙ (sit_twice k seat (Some y) (Some x) ∙ ap (λ (u : Sitting). with_sitting seat (Some u) k) (sym same))

pub placed_at : (seat : ℕ) (call : Call) (answer : Answer) (s : StoreState) (h : HubState) (a : Stored) (t t' : StoreState) (g g' : HubState) → t' ≡ t → g ≡ g' → Stepped seat call answer s h a t g → Stepped seat call answer s h a t' g'
placed_at seat call answer s h a t t' g g' e f step =
    subst (λ (u : StoreState). Stepped seat call answer s h a u g') (sym e) (subst (λ (u : HubState). Stepped seat call answer s h a t u) f step)

pub answered_stepped : (a : Stored) (s : StoreState) (k : HubState) (seat : ℕ) (x : Sitting) (key : Key) (offset : ℕ) (word : FileIn) (t : StoreState) (y : Sitting) → Offered a s k seat x → Judged seat (unheld_sitting x) key offset word (ended x.first x.hold s) k → Answered word key (reason k.settings key) (ended x.first x.hold s) (unheld_sitting x) t y → Stepped seat (File_call key offset) (Filed (word_of word)) s (with_sitting seat (Some x) k) a t (with_sitting seat (Some y) k)
answered_stepped a s k seat x key offset F.Have t y o j r =
    placed_at seat _ _ s (with_sitting seat (Some x) k) a (ended x.first x.hold s) t (ended_hub k seat x) _ r.0 (at_end k seat x y r.1) (still_stepped a s k seat x key offset F.Have o j (room_now a s k seat x o) refl)
answered_stepped a s k seat x key offset F.Elsewhere t y o j r =
    placed_at seat _ _ s (with_sitting seat (Some x) k) a (ended x.first x.hold s) t (ended_hub k seat x) _ r.0 (at_end k seat x y r.1) (still_stepped a s k seat x key offset F.Elsewhere o j (room_now a s k seat x o) refl)
answered_stepped a s k seat x key offset F.Late t y o j r =
    placed_at seat _ _ s (with_sitting seat (Some x) k) a (ended x.first x.hold s) t (ended_hub k seat x) _ r.0 (at_end k seat x y r.1) (still_stepped a s k seat x key offset F.Late o j (room_now a s k seat x o) refl)
answered_stepped a s k seat x key offset F.Refuse t y o j r =
    placed_at seat _ _ s (with_sitting seat (Some x) k) a _ t (ended_hub k seat x) _ r.0.after (at_end k seat x y r.1) (refused_stepped a s k seat x key offset o j r.0.room)
answered_stepped a s k seat x key offset F.Whole t y o j r =
    placed_at seat _ _ s (with_sitting seat (Some x) k) a _ t (ended_hub k seat x) _ r.0.after (at_end k seat x y r.1) (whole_stepped a s k seat x key offset o j r.0.may)
answered_stepped a s k seat x key offset F.Go t y o j r =
    placed_at seat _ _ s (with_sitting seat (Some x) k) a _ t _ _ r.after (at_hold k seat x _ y r.holds) (go_stepped a s k seat x key offset o j r.may)
answered_stepped a s k seat x key offset (F.From place) t y o j r =
    placed_at seat _ _ s (with_sitting seat (Some x) k) a _ t _ _ r.after (at_hold k seat x _ y r.holds) (from_stepped a s k seat x key offset place o j r.may)

-- what is held then
pub answered_held : (k : HubState) (seat : ℕ) (x : Sitting) (key : Key) (offset : ℕ) (word : FileIn) (s t : StoreState) (y : Sitting) → Judged seat (unheld_sitting x) key offset word s k → Answered word key (reason k.settings key) s (unheld_sitting x) t y → taken_part y.hold ≡ held_after (taken_part x.hold) (File_call key offset) (Filed (word_of word))
answered_held k seat x key offset F.Have s t y j r = ap (λ (z : Sitting). taken_part z.hold) r.1
answered_held k seat x key offset F.Elsewhere s t y j r = ap (λ (z : Sitting). taken_part z.hold) r.1
answered_held k seat x key offset F.Late s t y j r = ap (λ (z : Sitting). taken_part z.hold) r.1
answered_held k seat x key offset F.Refuse s t y j r = ap (λ (z : Sitting). taken_part z.hold) r.1
answered_held k seat x key offset F.Whole s t y j r = ap (λ (z : Sitting). taken_part z.hold) r.1
answered_held k seat x key offset F.Go s t y j r =
    ap (λ (z : Sitting). taken_part z.hold) r.holds ∙ ap (λ (n : ℕ). Some (record { key = key; left = key.size - n; taking = true })) (sym j.1)
answered_held k seat x key offset (F.From place) s t y j r =
    ap (λ (z : Sitting). taken_part z.hold) r.holds ∙ ap (λ (n : ℕ). Some (record { key = key; left = key.size - n; taking = false })) (sym j.1)

-- and what is claimed
answered_claim : (key : Key) (word : FileIn) (reason : ℕ) (s t : StoreState) (x y : Sitting) → Answered word key reason s x t y → y.claim ≡ x.claim
answered_claim key F.Have reason s t x y r = ap (λ (z : Sitting). z.claim) r.1
answered_claim key F.Elsewhere reason s t x y r = ap (λ (z : Sitting). z.claim) r.1
answered_claim key F.Late reason s t x y r = ap (λ (z : Sitting). z.claim) r.1
answered_claim key F.Refuse reason s t x y r = ap (λ (z : Sitting). z.claim) r.1
answered_claim key F.Whole reason s t x y r = ap (λ (z : Sitting). z.claim) r.1
answered_claim key F.Go reason s t x y r = ap (λ (z : Sitting). z.claim) r.holds
answered_claim key (F.From place) reason s t x y r = ap (λ (z : Sitting). z.claim) r.holds

pub answer_is : (word : FileIn) → file_answer (Ok word) ≡ Filed (word_of word)
answer_is F.Have = refl
answer_is F.Elsewhere = refl
answer_is F.Late = refl
answer_is F.Refuse = refl
answer_is F.Whole = refl
answer_is F.Go = refl
answer_is (F.From place) = refl

answered_counts : (word : FileIn) (key : Key) (reason : ℕ) (s t : StoreState) (x y : Sitting) → Answered word key reason s x t y → t.counts ≡ s.counts
answered_counts F.Have key reason s t x y r = ap (λ (u : StoreState). u.counts) r.0
answered_counts F.Elsewhere key reason s t x y r = ap (λ (u : StoreState). u.counts) r.0
answered_counts F.Late key reason s t x y r = ap (λ (u : StoreState). u.counts) r.0
answered_counts F.Refuse key reason s t x y r = ap (λ (u : StoreState). u.counts) r.0.after
answered_counts F.Whole key reason s t x y r = ap (λ (u : StoreState). u.counts) r.0.after
answered_counts F.Go key reason s t x y r = ap (λ (u : StoreState). u.counts) r.after
answered_counts (F.From place) key reason s t x y r = ap (λ (u : StoreState). u.counts) r.after

answered_seat : (word : FileIn) (key : Key) (reason : ℕ) (s t : StoreState) (x y : Sitting) → Answered word key reason s x t y → t.seat ≡ s.seat
answered_seat F.Have key reason s t x y r = ap (λ (u : StoreState). u.seat) r.0
answered_seat F.Elsewhere key reason s t x y r = ap (λ (u : StoreState). u.seat) r.0
answered_seat F.Late key reason s t x y r = ap (λ (u : StoreState). u.seat) r.0
answered_seat F.Refuse key reason s t x y r = ap (λ (u : StoreState). u.seat) r.0.after
answered_seat F.Whole key reason s t x y r = ap (λ (u : StoreState). u.seat) r.0.after
answered_seat F.Go key reason s t x y r = ap (λ (u : StoreState). u.seat) r.after
answered_seat (F.From place) key reason s t x y r = ap (λ (u : StoreState). u.seat) r.after

-- The file got its answer.
pub file_does : (v v1 w : StoreStand) (k : HubState) (seat : ℕ) (x y : Sitting) (key : Key) (offset : ℕ) (word : FileIn) → Offers v v1 k seat x key offset word → Answered word key (reason k.settings key) v1.state (unheld_sitting x) w.state y → Leaves (OneMade v1.state.content (MayBeMade word key (unheld_sitting x) v1.state) (answered_state word key (reason k.settings key) (unheld_sitting x) v1.state).content) v1 w → StaysSettled v1 w → Does v (with_sitting seat (Some x) k) seat (File_call key offset) (file_answer (Ok word)) w (with_sitting seat (Some y) k)
file_does v v1 w k seat x y key offset word o r l settled =
    let h = with_sitting seat (Some x) k in
    let f = fitted_now v h seat o.turn in
    let counts1 : v1.state.counts ≡ v.state.counts = ap (λ (s : StoreState). s.counts) o.ends ∙ ended_counts x.first x.hold v.state in
    let counts : w.state.counts ≡ v.state.counts = answered_counts word key (reason k.settings key) v1.state w.state (unheld_sitting x) y r ∙ counts1 in
    let whole1 = ap (λ (c : Counts). c.broken) counts1 ∙ o.turn.whole in
    subst (λ (z : Answer). Does v h seat (File_call key offset) z w (with_sitting seat (Some y) k)) (sym (answer_is word))
    (made_does v w h (with_sitting seat (Some y) k) seat (File_call key offset) (Filed (word_of word)) o.turn (inl o.turn.whole, counts)
    (answered_stepped f.keeps v.state k seat x key offset word w.state y (offered v v1 k seat x key offset word o) (judged_ended v v1 k seat x key offset word o) (subst (λ (s : StoreState). Answered word key (reason k.settings key) s (unheld_sitting x) w.state y) o.ends r))
    (file_leaves v v1 w k seat x key offset word o l)
    (settled (o.settled (o.turn.ready.settled o.turn.whole) whole1) (ap (λ (c : Counts). c.broken) counts ∙ o.turn.whole))
    (part_filed k seat x y key offset (Filed (word_of word)) (answered_held k seat x key offset word v1.state w.state y o.judged r) (answered_claim key word (reason k.settings key) v1.state w.state (unheld_sitting x) y r))
    (own_again seat (Some x) (Some y) k w (answered_seat word key (reason k.settings key) v1.state w.state (unheld_sitting x) y r ∙ (ap (λ (s : StoreState). s.seat) o.ends ∙ (ended_seat x.first x.hold v.state ∙ o.turn.seat_is)))))
