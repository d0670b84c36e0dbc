-- What a session holds is marked as it leaves.
use Rattle.std.proofs.Common.{◌≡◌, ◌∙◌, ℕ, Bool, true, false, List, length, take, Option, Some, None, refl, sym, ap, subst, inl, inr}
use Rattle.std.specs.Prelude.{if◌then◌else◌}
use Rattle.std.proofs.lemmas.Bool.{ltb-false}
use Rattle.std.proofs.lemmas.List.{take_all}
use Rattle.node_model.specs.Durable.{Durable, bytes_of_mark, marked, with_mark}
use Rattle.node_model.specs.Node.{Hold, Node, hold_in}
use Rattle.node_model.specs.Rows.{is_ahead, mark_any, mark_for, mark_held}
use Rattle.node_model.specs.Sound.{IsSound}
use Rattle.node_model.specs.Calls.{Leave_call, Settled, Event, NodeStep, Knows, Tells, Counts_alone, KnownStep, DeskState, Turned, Beside, StandBeside}
use Rattle.node_model.specs.Lives.{KnownLives}
use Rattle.node_model.proofs.CallsLive.{turns_live}
use Rattle.node_model.proofs.Lives.{life_sound}
use Rattle.node_model.proofs.Marks.{mark_own}
use Rattle.session_run.specs.Resumption.{IsMarked, IsMarkedTold, LeavesMarked, TellsSound}
use Rattle.session_run.proofs.RanPast.{drift_lives, lives_on}

-- what begins with its mark is no longer than that, or is marked
held_marked : (h : Hold) (d : Durable) → take (length (marked h.from h.key d)) h.bytes ≡ marked h.from h.key d → marked h.from h.key (mark_held h d) ≡ h.bytes
held_marked h d begins = go (is_ahead h d) refl
  where
    go : (b : Bool) → is_ahead h d ≡ b → marked h.from h.key (if b then with_mark (mark_for h) d else d) ≡ h.bytes
    go true e = ap bytes_of_mark (mark_own (mark_for h) d)
    go false e = sym begins ∙ take_all (length (marked h.from h.key d)) h.bytes (ltb-false (length (marked h.from h.key d)) (length h.bytes) e)

pub leaves_marked : (seat : ℕ) (old new : Node) → IsSound old → NodeStep seat old Leave_call Settled new → IsMarked seat old new
leaves_marked seat old new sound (inl whole, inl r) = λ hold held.
    let holds : r.session.hold ≡ Some hold = sym (ap hold_in r.has) ∙ held in
    let ok = (sound whole).holds.each seat r.session hold r.has holds in
    ap (λ (n : Node). marked hold.from hold.key n.state) r.after ∙ ap (λ (o : Option Hold). marked hold.from hold.key (mark_any o old.state)) holds ∙ held_marked hold old.state ok.begins
leaves_marked seat old new sound (inl whole, inr r) = λ hold held. absurd (let clash : None ≡ Some hold = sym (ap hold_in r.0) ∙ held in cc)
leaves_marked seat old new sound (inr skips, made) = absurd skips

-- The same along a desk's calls.

told_marked : (seat : ℕ) (first old new : Knows) → KnownLives first old → TellsSound first → KnownStep seat old Leave_call Settled new → IsMarkedTold seat old new
told_marked seat (Tells n) (Tells old) (Tells new) life sound step = leaves_marked seat old new (life_sound n life.0 old life.1 sound) step
told_marked seat (Tells n) (Tells old) (Counts_alone c) life sound step = absurd step
told_marked seat (Tells n) (Counts_alone c) new life sound step = absurd life
told_marked seat (Counts_alone c) old new life sound step = absurd sound

pub all_marked : (alone : Bool) (desk : DeskState) (es : List Turned) → LeavesMarked alone desk es
all_marked alone desk es = λ sound left.
    let rows = left.beside.rows in
    let none : StandBeside Leave_call left.turn.before left.turn.after = subst (λ (e : Event). StandBeside e.call left.turn.before left.turn.after) left.asked rows.beside in
    let same : rows.asks ≡ left.beside.mid = subst (λ (bs : List Event). Beside left.asks.seat left.beside.mid bs rows.asks) none.0 rows.before in
    let there : KnownLives desk.knows left.beside.mid = lives_on desk.knows left.asks.knows left.beside.mid (turns_live alone desk left.earlier left.asks left.chain) (drift_lives alone left.asks.seat left.asks.knows left.beside.mid left.beside.drift) in
    told_marked left.asks.seat desk.knows rows.asks rows.answers (subst (KnownLives desk.knows) (sym same) there) sound left.row
