-- A call at a desk that tells its node, with the rows beside it, as steps of that node.
use Rattle.std.proofs.Common.{◌≡◌, ◌⊎◌, ◌∙◌, ℕ, Bool, true, false, List, [], ◌∷◌, Option, refl, sym, ap, subst, inl, inr}
use Rattle.node_model.specs.Node.{Session, Node, hold_in}
use Rattle.node_model.specs.Calls.{Call, Offer_call, Read_call, Got_call, Skip_call, File_call, Data_call, Answer, Event, KnownStep, NodeStep, OtherSteps, Drifts, Knows, Tells, Counts_alone, DeskState, Turned, asked_of, Beside, EndsRefused, OwnRow, Made_row, Missing, AllTakeIn, OneQueue, StandBeside, Rowed, CallsBeside, Turns}
use Rattle.node_model.specs.Images.{AllSettle}
use Rattle.node_model.specs.Talk.{Part, part_of, part_at}
use Rattle.session_recv.specs.Replies.{held_along}
use Rattle.world_pair.specs.Course.{Makes}
use Rattle.world_pair.specs.FromDesk.{at_desk}
use Rattle.world_pair.proofs.FromDesk.{others_apart}
use Rattle.world_pair.proofs.Short.{InSession, Short, No_call, One_call}
use Rattle.binkp_mailer.specs.OneNode.{Misses_step, CallHappens, NoneBroke}
use Rattle.binkp_mailer.proofs.HeldParts.{Answers_it, call_part, behind_part}

drift_tells : (alone : Bool) (seat : ℕ) (n : Node) (k : Knows) → Drifts alone seat (Tells n) k → (mid : Node) × (k ≡ Tells mid) × ((steps : ℕ) × OtherSteps steps seat n mid)
drift_tells true seat n k d = (n, d, (0, refl))
drift_tells false seat n (Tells m) d = (m, refl, d)
drift_tells false seat n (Counts_alone c) d = absurd d

step_tells : (seat : ℕ) (n : Node) (call : Call) (answer : Answer) (k : Knows) → KnownStep seat (Tells n) call answer k → (m : Node) × (k ≡ Tells m) × NodeStep seat n call answer m
step_tells seat n call answer (Tells m) s = (m, refl, s)
step_tells seat n call answer (Counts_alone c) s = absurd s

beside_tells : (seat : ℕ) (n : Node) (es : List Event) (k : Knows) → Beside seat (Tells n) es k → (m : Node) × (k ≡ Tells m) × Makes seat n es m
beside_tells seat n [] k same = (n, same, refl)
beside_tells seat n (e ∷ es) k (mid, caused, step, rest) =
    let a = step_tells seat n e.call e.answer mid step in
    let b = beside_tells seat a.0 es k (subst (λ (x : Knows). Beside seat x es k) a.1 rest) in
    (b.0, b.1, (a.0, a.2, b.2))

own_tells : (seat : ℕ) (before : List Event) (n : Node) (asked : Event) (k : Knows) → OwnRow seat before (Tells n) asked k → (m : Node) × (k ≡ Tells m) × (NodeStep seat n asked.call asked.answer m ⊎ Misses_step before asked.answer n m)
own_tells seat before n asked k (Made_row made caused step) = let s = step_tells seat n asked.call asked.answer k step in (s.0, s.1, inl s.2)
own_tells seat before n asked k (Missing fault refused is same) = (n, same, inr (record { fault = fault; refused = refused; answered = is; same = refl }))

-- other seats step; then the rows before the call, its own, and those behind it
pub record TurnedAt (seat : ℕ) (n : Node) (e : Turned) (desk : DeskState) : Type 0 where
  pub steps : ℕ
  pub mid : Node
  pub others : OtherSteps steps seat n mid
  pub asks : Node
  pub rows : Makes seat mid e.before asks
  pub answers : Node
  pub own : NodeStep seat asks e.asked.call e.asked.answer answers ⊎ Misses_step e.before e.asked.answer asks answers
  pub last : Node
  pub behind : Makes seat answers e.after last
  pub beside : StandBeside e.asked.call e.before e.after
  pub is : desk ≡ at_desk seat last

pub turned_at : (alone : Bool) (seat : ℕ) (n : Node) (e : Turned) (desk : DeskState) → CallsBeside alone (at_desk seat n) e desk → TurnedAt seat n e desk
turned_at alone seat n e desk c =
    let d = drift_tells alone seat n c.mid c.drift in
    let r : Rowed seat (Tells d.0) e desk.knows = subst (λ (k : Knows). Rowed seat k e desk.knows) d.1 c.rows in
    let asks = beside_tells seat d.0 e.before r.asks r.before in
    let own = own_tells seat e.before asks.0 e.asked r.answers (subst (λ (k : Knows). OwnRow seat e.before k e.asked r.answers) asks.1 r.own) in
    let after = beside_tells seat own.0 e.after desk.knows (subst (λ (k : Knows). Beside seat k e.after desk.knows) own.1 r.after) in
    record {
      steps = d.2.0;
      mid = d.0;
      others = d.2.1;
      asks = asks.0;
      rows = asks.2;
      answers = own.0;
      own = own.2;
      last = after.0;
      behind = after.2;
      beside = r.beside;
      is = λ i. record { seat = c.seat i; knows = after.1 i };
    }

-- Calls that no row of a session makes: nothing stands behind them.

pub none_takes : (es : List Event) → es ≡ [] → AllTakeIn es
none_takes es e = subst AllTakeIn (sym e) tt

none_behind : (seat : ℕ) (n m : Node) (es : List Event) → es ≡ [] → Makes seat n es m → m ≡ n
none_behind seat n m es none rows = subst (λ (l : List Event). Makes seat n l m) none rows

pub call_happens : (seat : ℕ) (n : Node) (e : Turned) (desk : DeskState) (t : TurnedAt seat n e desk) → AllTakeIn e.before → e.after ≡ [] → CallHappens seat n e.asked.call e.asked.answer t.last
call_happens seat n e desk t takes_in none =
    record {
      steps = t.steps;
      mid = t.mid;
      others = t.others;
      before = e.before;
      takes_in = takes_in;
      asks = t.asks;
      rows = t.rows;
      own = subst (λ (m : Node). NodeStep seat t.asks e.asked.call e.asked.answer m ⊎ Misses_step e.before e.asked.answer t.asks m) (sym (none_behind seat t.answers t.last e.after none t.behind)) t.own;
    }

-- Calls of a session's rows: what is held after them.

record NoneBefore (before after : List Event) : Type 0 where
  first : before ≡ []
  behind : (after ≡ []) ⊎ OneQueue after

none_before : (call : Call) (before after : List Event) → InSession call → StandBeside call before after → NoneBefore before after
none_before Offer_call before after s b = record { first = b.0; behind = inl b.1 }
none_before (Read_call place room) before after s b = record { first = b.0; behind = inl b.1 }
none_before (Got_call number) before after s b = record { first = b.0; behind = inl b.1 }
none_before (Skip_call number) before after s b = record { first = b.0; behind = inl b.1 }
none_before (File_call key offset) before after s b = record { first = b.0; behind = inr b.1 }
none_before (Data_call bytes) before after s b = record { first = b.0; behind = inr b.1 }
none_before call before after s b = absurd s

pub turned_part : (seat : ℕ) (n : Node) (e : Turned) (desk : DeskState) (t : TurnedAt seat n e desk) → InSession e.asked.call → Answers_it e.asked.answer → AllSettle e.after → part_at t.last seat ≡ held_along (part_at n seat) (e.asked ∷ [])
turned_part seat n e desk t within answers settle = behind_part seat t.answers e.after t.last none.behind settle t.behind ∙ own t.own
  where
    none : NoneBefore e.before e.after
    none = none_before e.asked.call e.before e.after within t.beside

    asks : t.asks ≡ t.mid
    asks = none_behind seat t.mid t.asks e.before none.first t.rows

    as_before : part_at t.asks seat ≡ part_at n seat
    as_before = ap (λ (m : Node). part_at m seat) asks ∙ ap (λ (s : Option Session). part_of (hold_in s)) (others_apart t.steps seat n t.mid t.others)

    own : NodeStep seat t.asks e.asked.call e.asked.answer t.answers ⊎ Misses_step e.before e.asked.answer t.asks t.answers → part_at t.answers seat ≡ held_along (part_at n seat) (e.asked ∷ [])
    own (inl step) = call_part seat t.asks e.asked.call e.asked.answer t.answers within answers step ∙ ap (λ (p : Option Part). held_along p (e.asked ∷ [])) as_before
    own (inr miss) = absurd (subst (λ (l : List Event). EndsRefused l miss.fault) none.first miss.refused)

-- The calls of a row, one at most.

-- each answers something
abbrev pub AllAnswer : List Event → Type 0
AllAnswer [] = Unit {0}
AllAnswer (e ∷ es) = Answers_it e.answer × AllAnswer es

pub record RowLeaves (seat : ℕ) (n : Node) (es : List Event) (desk : DeskState) : Type 0 where
  pub last : Node
  pub is : desk ≡ at_desk seat last
  pub held : AllAnswer es → part_at last seat ≡ held_along (part_at n seat) es

pub none_asked : (es : List Turned) → asked_of es ≡ [] → es ≡ []
none_asked [] e = refl
none_asked (x ∷ xs) e = absurd (cc)

pub record OneAsked (es : List Turned) (call : Call) (answer : Answer) : Type 0 where
  pub one : Turned
  pub is : es ≡ one ∷ []
  pub asked : one.asked ≡ record { call = call; answer = answer }

pub one_asked : (es : List Turned) (call : Call) (answer : Answer) → asked_of es ≡ record { call = call; answer = answer } ∷ [] → OneAsked es call answer
one_asked [] call answer e = absurd (cc)
one_asked (x ∷ []) call answer e = record { one = x; is = refl; asked = head x.asked (record { call = call; answer = answer }) e }
  where
    head : (a b : Event) → a ∷ [] ≡ b ∷ [] → a ≡ b
    head a b same = cc
one_asked (x ∷ y ∷ ys) call answer e = absurd (tail x.asked (record { call = call; answer = answer }) y.asked (asked_of ys) e)
  where
    tail : (a b c : Event) (rest : List Event) → a ∷ c ∷ rest ≡ b ∷ [] → ⊥
    tail a b c rest same = absurd (cc)

pub row_leaves : (alone : Bool) (seat : ℕ) (n : Node) (es : List Turned) (desk : DeskState) → Short (asked_of es) → Turns alone (at_desk seat n) es desk → NoneBroke es → RowLeaves seat n (asked_of es) desk
row_leaves alone seat n es desk (No_call none) chain calm =
    let is : desk ≡ at_desk seat n = subst (λ (l : List Turned). Turns alone (at_desk seat n) l desk) (none_asked es none) chain in
    record { last = n; is = is; held = λ _. ap (held_along (part_at n seat)) (sym none) }
row_leaves alone seat n es desk (One_call call answer within is) chain calm =
    subst (λ (l : List Turned). RowLeaves seat n (asked_of l) desk) (sym one.is) (go (subst (λ (l : List Turned). Turns alone (at_desk seat n) l desk) one.is chain) (subst NoneBroke one.is calm))
  where
    one : OneAsked es call answer
    one = one_asked es call answer is

    go : Turns alone (at_desk seat n) (one.one ∷ []) desk → NoneBroke (one.one ∷ []) → RowLeaves seat n (one.one.asked ∷ []) desk
    go (mid, made, end) settle =
        let t = turned_at alone seat n one.one mid made in
        record { last = t.last; is = end ∙ t.is; held = λ answers. turned_part seat n one.one mid t (subst (λ (e : Event). InSession e.call) (sym one.asked) within) answers.0 settle.0 }
