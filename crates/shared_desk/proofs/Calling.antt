-- A call of the desk that goes round, told as one turn and as a call of the desk behind the gate.
use Rattle.std.proofs.Common.{◌≡◌, ℕ, Bool, true, false, [], ◌∷◌, Option, refl, sym, ◌∙◌, ap, subst}
use Rattle.node_model.specs.Calls.{Answer, Call, DeskState, Read_call, counts_of, turned}
use Rattle.node_model.specs.Desks.{DeskPart, part_after}
use Rattle.node_model.specs.Durable.{Durable}
use Rattle.node_model.specs.Images.{Kept, Stand}
use Rattle.node_model.proofs.Rans.{ran_one}
use Rattle.shared_desk.specs.Seen.{CallBehind, Found, IsOwn, SeatTurn, SitsAt, Sight, Within, stand}
use Rattle.shared_desk.proofs.Sharing.{kept_behind}

with_images : (alone : Bool) (s t : DeskState) (m n : ℕ) (A A' B B' : ℕ → Option Durable → Type 0) (call : Call) (answer : Answer)
    → ((k : ℕ) (d : Option Durable) → A k d → A' k d) → ((k : ℕ) (d : Option Durable) → B' k d → B k d)
    → Kept alone (record { state = s; moment = m; images = A }) call answer (record { state = t; moment = n; images = B })
    → Kept alone (record { state = s; moment = m; images = A' }) call answer (record { state = t; moment = n; images = B' })
with_images alone s t m n A A' B B' call answer to back k = record {
  rows_before = k.rows_before;
  rows_after = k.rows_after;
  made = k.made;
  later = k.later;
  before = λ x d early i. to x d (k.before x d early (back x d i));
  since = λ x d after until i. k.since x d after until (back x d i);
  now = λ settles after whole d i. k.now settles after whole d (back n d i);
}

kept_same : (s s' t t' : DeskState) (m m' n n' : ℕ) (A B : ℕ → Option Durable → Type 0) (call : Call) (answer : Answer)
    → s ≡ s' → t ≡ t' → m ≡ m' → n ≡ n'
    → Kept true (record { state = s; moment = m; images = A }) call answer (record { state = t; moment = n; images = B })
    → Kept true (record { state = s'; moment = m'; images = A }) call answer (record { state = t'; moment = n'; images = B })
kept_same s s' t t' m m' n n' A B call answer ss tt' mm nn k =
    subst (λ (x : ℕ). Kept true (record { state = s'; moment = m'; images = A }) call answer (record { state = t'; moment = x; images = B })) nn
    (subst (λ (x : ℕ). Kept true (record { state = s'; moment = x; images = A }) call answer (record { state = t'; moment = n; images = B })) mm
    (subst (λ (x : DeskState). Kept true (record { state = s'; moment = m; images = A }) call answer (record { state = x; moment = n; images = B })) tt'
    (subst (λ (x : DeskState). Kept true (record { state = x; moment = m; images = A }) call answer (record { state = t; moment = n; images = B })) ss k)))

-- what two desks at a seat tell of a call, the seat sees
seen_so : {X : Type 0} (s : Sight X) (k : ℕ) (a b : X) (p q : Stand) (v w : DeskPart) (call : Call) (answer : Answer) → SitsAt s k a p v → SitsAt s k b q w → Kept true p call answer q → Kept true (stand s k a) call answer (stand s k b)
seen_so s k a b p q v w call answer at to kept =
    with_images true _ _ _ _ p.images (s.images a) q.images (s.images b) call answer at.to to.back
    (kept_same p.state _ q.state _ p.moment _ q.moment _ p.images q.images call answer at.state to.state at.moment to.moment kept)

call_behind : {X : Type 0} (s : Sight X) (k j : ℕ) (left a b : X) (p q : Stand) (v w : DeskPart) (call : Call) (answer : Answer)
    → Found s k left a → SitsAt s k a p v → IsOwn s k a j b → SitsAt s j b q w → Within (counts_of (s.knows k a))
    → Kept true p call answer q → w ≡ part_after v call answer → CallBehind s k left a b call answer
call_behind s k j left a b p q v w call answer found at own to within kept part =
    let here : SitsAt s k b q w = subst (λ (i : ℕ). SitsAt s i b q w) own.stays to in
    let seen = seen_so s k a b p q v w call answer at here kept in
    record {
      turn = record { events = turned call answer seen.rows_before seen.rows_after ∷ []; ran = ran_one true (stand s k a) call answer (stand s k b) seen; within = within; others = own.others };
      made = kept_behind (stand s k left) (stand s k a) (stand s k b) call answer found.shared seen;
      part = sym here.part_is ∙ (part ∙ ap (λ (x : DeskPart). part_after x call answer) (at.part_is ∙ found.part));
      ready = here.ready;
    }

-- what goes round has the part that the seat left
pub part_found : {X : Type 0} (s : Sight X) (j k : ℕ) (left a : X) (p : Stand) (v : DeskPart) → SitsAt s j a p v → j ≡ k → Found s k left a → v ≡ s.part k left
part_found s j k left a p v at is found = at.part_is ∙ (ap (λ (i : ℕ). s.part i a) is ∙ found.part)

-- The call is told by the seat and the state that the pass has then.
pub record Said {X : Type 0} (s : Sight X) (k : ℕ) (left : X) (call : Call) (answer : Answer) (j : ℕ) (now : X) : Type 0 where
  pub made : Kept false (stand s k left) call answer (stand s j now)
  pub part : s.part j now ≡ part_after (s.part k left) call answer
  pub ready : s.ready j now

said : {X : Type 0} (s : Sight X) (k j : ℕ) (left a b now : X) (call : Call) (answer : Answer) → CallBehind s k left a b call answer → j ≡ k → now ≡ b → Said s k left call answer j now
said s k j left a b now call answer c seat same =
    subst (λ x. Said s k left call answer j x) (sym same) (subst (λ (i : ℕ). Said s k left call answer i b) (sym seat) (record { made = c.made; part = c.part; ready = c.ready }))

turn_from : {X : Type 0} (s : Sight X) (k j : ℕ) (a x b : X) → SeatTurn s k a b → j ≡ k → x ≡ a → SeatTurn s j x b
turn_from s k j a x b turn seat same = subst (λ y. SeatTurn s j y b) (sym same) (subst (λ (i : ℕ). SeatTurn s i a b) (sym seat) turn)

module _ {X D : Type 0} (s : Sight X) (state : D → X) (at : D → ℕ) (st : D → Stand) (part : D → DeskPart) (ready : D → Type 0) (rule : D → D → Type 0) where
  -- A desk that goes round came to the seat k, which had left the hub in the state `left`, and made a call there. What it is asked
  -- may depend on its part, which is the one that the seat left.
  behind : ((d : D) → ready d → SitsAt s (at d) (state d) (st d) (part d))
      → ((d e : D) → ready d → ready e → rule d e → IsOwn s (at d) (state d) (at e) (state e))
      → (alone : Bool) → alone ≡ true → (k : ℕ) (left : X) (d e : D) (call : DeskPart → Call) (answer : Answer)
      → ready d → at d ≡ k → Found s k left (state d) → Within (counts_of (s.knows k (state d)))
      → ready e → rule d e → Kept alone (st d) (call (part d)) answer (st e) → part e ≡ part_after (part d) (call (part d)) answer
      → CallBehind s k left (state d) (state e) (call (s.part k left)) answer
  behind sits own alone is k left d e call answer r here found within q same kept after =
      let was = sits d r in
      let known = part_found s (at d) k left (state d) (st d) (part d) was here found in
      let kept' : Kept true (st d) (call (s.part k left)) answer (st e) = subst (λ (p : DeskPart). Kept true (st d) (call p) answer (st e)) known (subst (λ (b : Bool). Kept b (st d) (call (part d)) answer (st e)) is kept) in
      let after' : part e ≡ part_after (part d) (call (s.part k left)) answer = after ∙ ap (λ (p : DeskPart). part_after (part d) (call p) answer) known in
      call_behind s k (at e) left (state d) (state e) (st d) (st e) (part d) (part e) (call (s.part k left)) answer found
      (subst (λ (i : ℕ). SitsAt s i (state d) (st d) (part d)) here was)
      (subst (λ (i : ℕ). IsOwn s i (state d) (at e) (state e)) here (own d e r q same))
      (sits e q) within kept' after'

  -- it is one turn, of the seat and from the state that the pass has inside
  pub turns : ((d : D) → ready d → SitsAt s (at d) (state d) (st d) (part d))
      → ((d e : D) → ready d → ready e → rule d e → IsOwn s (at d) (state d) (at e) (state e))
      → (alone : Bool) → alone ≡ true → (k : ℕ) (left : X) (d e : D) (call : DeskPart → Call) (answer : Answer)
      → ready d → at d ≡ k → Found s k left (state d) → Within (counts_of (s.knows k (state d)))
      → ready e → rule d e → Kept alone (st d) (call (part d)) answer (st e) → part e ≡ part_after (part d) (call (part d)) answer
      → (j : ℕ) (x : X) → j ≡ k → x ≡ state d → SeatTurn s j x (state e)
  turns sits own alone is k left d e call answer r here found within q same kept after j x seat taken =
      turn_from s k j (state d) x (state e) (behind sits own alone is k left d e call answer r here found within q same kept after).turn seat taken

  -- and what the desk behind the gate says of it
  pub says : ((d : D) → ready d → SitsAt s (at d) (state d) (st d) (part d))
      → ((d e : D) → ready d → ready e → rule d e → IsOwn s (at d) (state d) (at e) (state e))
      → (alone : Bool) → alone ≡ true → (k : ℕ) (left : X) (d e : D) (call : DeskPart → Call) (answer : Answer)
      → ready d → at d ≡ k → Found s k left (state d) → Within (counts_of (s.knows k (state d)))
      → ready e → rule d e → Kept alone (st d) (call (part d)) answer (st e) → part e ≡ part_after (part d) (call (part d)) answer
      → (j : ℕ) (now : X) → j ≡ k → now ≡ state e → Said s k left (call (s.part k left)) answer j now
  says sits own alone is k left d e call answer r here found within q same kept after j now seat left_so =
      said s k j left (state d) (state e) now (call (s.part k left)) answer (behind sits own alone is k left d e call answer r here found within q same kept after) seat left_so

  -- its part is that of the seat
  pub part_there : ((d : D) → ready d → SitsAt s (at d) (state d) (st d) (part d))
      → ((d e : D) → ready d → ready e → rule d e → IsOwn s (at d) (state d) (at e) (state e))
      → (k : ℕ) (d e : D) → ready d → at d ≡ k → ready e → rule d e → (j : ℕ) (now : X) → j ≡ k → now ≡ state e → part e ≡ s.part j now
  part_there sits own k d e r here q same j now seat left_so =
      (sits e q).part_is ∙ (ap (λ (i : ℕ). s.part i (state e)) ((own d e r q same).stays ∙ (here ∙ sym seat)) ∙ ap (λ x. s.part j x) (sym left_so))

-- a read changes no part
pub after_read : (p : DeskPart) (place room : ℕ) (answer : Answer) → part_after p (Read_call place room) answer ≡ p
after_read p place room answer = refl
