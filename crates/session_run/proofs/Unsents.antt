-- What a session says stands behind what is left to write, with what was written in front of that.
use Rattle.std.proofs.Common.{◌≡◌, ◌∙◌, ℕ, ◌+◌, ◌*◌, ◌≤◌, Bool, List, ◌++◌, length, drop, ap, sym, inl, inr, arith, length-append}
use Rattle.std.proofs.lemmas.List.{drop-append-le, length-drop}
use Rattle.node_model.specs.Calls.{Event}
use Rattle.node_model.specs.Images.{Stand}
use Rattle.session_core.specs.Givings.{Gave}
use Rattle.session_core.specs.Takings.{Took}
use Rattle.session_core.specs.Stages.{Stage, Told}
use Rattle.session_core.specs.Sessions.{Reply, Turn}
use Rattle.session_core.specs.Replies.{MadeRow, MadeTurn, Writes, WritesTurn}

-- half of it at the most was written, and more may stand behind
pub half_front : (start : ℕ) (out out' : List ℕ) → 2 * start ≤ length out → length out ≤ length out' → 2 * start ≤ length out'
half_front start out out' half more = omega arith

-- a refusal is short
pub left_short : (seen : List ℕ) (start : ℕ) (out out' : List ℕ) → seen ≡ drop start out → 2 * start ≤ length out → length out' ≤ length out + 25 → length (drop start out') ≤ length seen + 40000
left_short seen start out out' is half short = omega (arith, ap length is, length-drop start out, length-drop start out')

within : (start : ℕ) (out : List ℕ) → 2 * start ≤ length out → start ≤ length out
within start out half = omega arith

pub writes_left : (seen : List ℕ) (start : ℕ) (out out' output : List ℕ) (goal took : Took) → seen ≡ drop start out → 2 * start ≤ length out → Writes out out' output goal took → Writes seen (drop start out') output goal took
writes_left seen start out out' output goal took is half w =
    record { written = w.written; said = w.said; grew = ap (drop start) w.grew ∙ drop-append-le start out w.written (within start out half) ∙ ap (λ (x : List ℕ). x ++ w.written) (sym is) }

pub writes_more : (out out' output : List ℕ) (goal took : Took) → Writes out out' output goal took → length out ≤ length out'
writes_more out out' output goal took w = omega (arith, ap length w.grew, length-append out w.written)

turn_left : (seen : List ℕ) (start : ℕ) (out out' output : List ℕ) (goal gave : Gave) → seen ≡ drop start out → 2 * start ≤ length out → WritesTurn out out' output goal gave → WritesTurn seen (drop start out') output goal gave
turn_left seen start out out' output goal gave is half w =
    record { written = w.written; said = w.said; grew = ap (drop start) w.grew ∙ drop-append-le start out w.written (within start out half) ∙ ap (λ (x : List ℕ). x ++ w.written) (sym is) }

pub row_left : (seen : List ℕ) (start : ℕ) (P : List Event → Reply → Type 0) (alone : Bool) (old new : Stand) (was now : Told) (stage : Stage) (out out' : List ℕ) (took : Took) → seen ≡ drop start out → 2 * start ≤ length out → MadeRow P alone old new was now stage out out' took → MadeRow P alone old new was now stage seen (drop start out') took
row_left seen start P alone old new was now stage out out' took is half (inl m) =
    let d = m.did in
    inl (record {
      did = record { events = d.events; reply = d.reply; row = d.row; ran = d.ran; stage_is = d.stage_is; writes = writes_left seen start out out' d.reply.output d.reply.took took is half d.writes };
      told_is = m.told_is;
    })
row_left seen start P alone old new was now stage out out' took is half (inr g) = inr (record { ran = g.ran; told_is = g.told_is; out_is = ap (drop start) g.out_is ∙ sym is; is = g.is })

pub row_more : (P : List Event → Reply → Type 0) (alone : Bool) (old new : Stand) (was now : Told) (stage : Stage) (out out' : List ℕ) (took : Took) → MadeRow P alone old new was now stage out out' took → length out ≤ length out'
row_more P alone old new was now stage out out' took (inl m) = writes_more out out' m.did.reply.output m.did.reply.took took m.did.writes
row_more P alone old new was now stage out out' took (inr g) = omega (arith, ap length g.out_is)

pub given_left : (seen : List ℕ) (start : ℕ) (P : List Event → Turn → Type 0) (alone : Bool) (old new : Stand) (before after : Stage) (out out' : List ℕ) (gave : Gave) → seen ≡ drop start out → 2 * start ≤ length out → MadeTurn P alone old new before after out out' gave → MadeTurn P alone old new before after seen (drop start out') gave
given_left seen start P alone old new before after out out' gave is half (inl d) =
    inl (record { events = d.events; turn = d.turn; row = d.row; ran = d.ran; stage_is = d.stage_is; writes = turn_left seen start out out' d.turn.output d.turn.gave gave is half d.writes })
given_left seen start P alone old new before after out out' gave is half (inr n) = inr (record { owes = n.owes; ran = n.ran; out_is = ap (drop start) n.out_is ∙ sym is; is = n.is })

pub given_more : (P : List Event → Turn → Type 0) (alone : Bool) (old new : Stand) (before after : Stage) (out out' : List ℕ) (gave : Gave) → MadeTurn P alone old new before after out out' gave → length out ≤ length out'
given_more P alone old new before after out out' gave (inl d) = omega (arith, ap length d.writes.grew, length-append out d.writes.written)
given_more P alone old new before after out out' gave (inr n) = omega (arith, ap length n.out_is)
