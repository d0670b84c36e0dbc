-- A call of the desk that was made, with its row.
use Rattle.std.proofs.Common.{◌≡◌, ◌∙◌, ℕ, Bool, List, [], ◌∷◌, ◌++◌, sym, ap, subst, append_assoc}
use Rattle.std.proofs.lemmas.List.{append-nil}
use Rattle.node_model.specs.Calls.{Call, Answer, Event, one, Knows, KnownStep, DeskState, Turned, asked_of, OwnRow, Made_row, Missing, IsMade, Turns}
use Rattle.session_run.specs.Settled.{Asked}

-- what isn't refused has its row
pub own_step : (seat : ℕ) (before : List Event) (old : Knows) (asked : Event) (new : Knows) → IsMade asked.answer → OwnRow seat before old asked new → KnownStep seat old asked.call asked.answer new
own_step seat before old asked new m (Made_row all caused step) = step
own_step seat before old asked new m (Missing fault refused is same) = absurd (subst IsMade is m)

-- the one call of a row, behind earlier calls
unfoldable pub asked_last : (alone : Bool) (desk a b : DeskState) (old : List Turned) (e : Turned) (call : Call) (answer : Answer) → IsMade answer → Turns alone desk old a → Turns alone a (e ∷ []) b → asked_of (e ∷ []) ≡ one call answer → Asked alone desk (old ++ e ∷ []) call answer
asked_last alone desk a b old e call answer m before (mid, made, same) is =
    let first : e.asked ≡ record { call = call; answer = answer } = cc in
    let own = own_step a.seat e.before made.rows.asks e.asked made.rows.answers (subst (λ (x : Event). IsMade x.answer) (sym first) m) made.rows.own in
    record {
      earlier = old;
      turn = e;
      later = [];
      is = sym (append-nil (old ++ e ∷ []));
      asked = first;
      asks = a;
      chain = before;
      answers = mid;
      beside = made;
      row = subst (λ (x : Event). KnownStep a.seat made.rows.asks x.call x.answer made.rows.answers) first own;
    }

pub asked_by : (alone : Bool) (desk a b : DeskState) (old es : List Turned) (call : Call) (answer : Answer) → IsMade answer → Turns alone desk old a → Turns alone a es b → asked_of es ≡ one call answer → Asked alone desk (old ++ es) call answer
asked_by alone desk a b old [] call answer m before c is = absurd (let clash : [] ≡ one call answer = is in cc)
asked_by alone desk a b old (e ∷ []) call answer m before c is = asked_last alone desk a b old e call answer m before c is
asked_by alone desk a b old (e ∷ f ∷ es) call answer m before c is = absurd (let clash : e.asked ∷ (f.asked ∷ asked_of es) ≡ one call answer = is in cc)

-- further calls take none away
unfoldable pub asked_on : (alone : Bool) (desk : DeskState) (es more : List Turned) (call : Call) (answer : Answer) → Asked alone desk es call answer → Asked alone desk (es ++ more) call answer
asked_on alone desk es more call answer a =
    record { earlier = a.earlier; turn = a.turn; later = a.later ++ more; is = ap (λ (x : List Turned). x ++ more) a.is ∙ append_assoc (a.earlier ++ a.turn ∷ []) a.later more; asked = a.asked; asks = a.asks; chain = a.chain; answers = a.answers; beside = a.beside; row = a.row }
