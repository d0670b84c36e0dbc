-- What is told before and after a call, and what a stop may leave.
use Rattle.std.proofs.Common.{◌≡◌, ℕ, ◌+◌, ◌<◌, List, ◌++◌, Option, Some, None, refl, sym, ◌∙◌, ap, subst, arith, length}
use Rattle.std.proofs.lemmas.List.{length-append, length-map}
use Rattle.node_model.specs.Node.{Logged, Record}
use Rattle.node_model.specs.Rows.{all_by}
use Rattle.node_model.specs.Stocks.{Stock, Sizes, sizes}
use Rattle.node_model.specs.Stores.{Shelf, StoreState, StoreStand, StoreCall, StoreAnswer, StoreDoes, StoreMade, StoreKept, StorePasses, After_it, OpensShelf, IsShelf, shelf_of, changed}
use Rattle.mem_store.specs.ListStates.{ListState, called, moment_of, stored_of, state_of, stand_of}
use Rattle.mem_store.specs.Outsiders.{outside_of}

opens_to : (t : ListState) (d : Option Shelf) → d ≡ Some (shelf_of (stored_of t)) → OpensShelf (IsShelf (state_of t).content) d
opens_to t d is = subst (OpensShelf (IsShelf (state_of t).content)) (sym is) refl

-- nothing durable changed
pub still : (s t : ListState) (call : StoreCall) (answer : StoreAnswer) → StoreMade (state_of s) call answer (state_of t) → t.log ≡ s.log → shelf_of (stored_of t) ≡ shelf_of (stored_of s) → StoreKept (stand_of s) call answer (stand_of t)
still s t call answer made log shelf =
    let same : moment_of t ≡ moment_of s = λ i. length (log i) + length (shelf i).gifts in
    record {
      made = made;
      later = omega (arith, same);
      before = λ k d within image. (image.0 ∙ same, image.1 ∙ ap Some shelf);
      since = λ k d after within image. absurd (omega (arith, after, image.0, same));
      now = λ well d image. opens_to t d image.1;
    }

-- a moment passed
pub passed : (s t : ListState) (call : StoreCall) (answer : StoreAnswer) → StoreMade (state_of s) call answer (state_of t) → StoreDoes (state_of s) call answer (state_of t) → moment_of s < moment_of t → StoreKept (stand_of s) call answer (stand_of t)
passed s t call answer made does longer =
    record {
      made = made;
      later = omega (arith, longer);
      before = λ k d within image. absurd (omega (arith, within, image.0, longer));
      since = λ k d after within image. subst (OpensShelf (StorePasses (state_of s) call)) (sym image.1) (After_it answer (state_of t) does refl);
      now = λ well d image. opens_to t d image.1;
    }

-- the log grew
pub grew : (s t : ListState) (call : StoreCall) (answer : StoreAnswer) → StoreMade (state_of s) call answer (state_of t) → StoreDoes (state_of s) call answer (state_of t) → length s.log < length t.log → t.gifts ≡ s.gifts → StoreKept (stand_of s) call answer (stand_of t)
grew s t call answer made does longer same =
    let kept : length t.gifts ≡ length s.gifts = ap length same in
    passed s t call answer made does (omega (arith, longer, kept))

-- a counted call tells what was told before it
pub from_called : (old mid : ListState) (call : StoreCall) (answer : StoreAnswer) (new : StoreStand) → mid ≡ called old → StoreKept (stand_of mid) call answer new → StoreKept (stand_of old) call answer new
from_called old mid call answer new is k = subst (λ (stand : StoreStand). StoreKept stand call answer new) (ap stand_of is) k

-- what is told with that stock and log
abbrev pub told : Stock → List Logged → ListState → StoreState
told stock log s =
    record { content = Some (record { stock = stock; recorded = s.recorded; takes = λ name. None; outside = outside_of s.outside; gifts = s.gifts; log = log }); stock = sizes stock; recorded = s.recorded; records = length log; reserved = s.reserved; staged = s.last_staged; drawn = s.drawn; seat = s.seat; appended = length log; last_given = s.last_given; counts = s.counts }

pub length-all_by : (log : List Logged) (seat : ℕ) (rs : List Record) → length (log ++ all_by seat rs) ≡ length log + length rs
length-all_by log seat rs = length-append log (all_by seat rs) ∙ ap (λ n. length log + n) (length-map rs (λ (r : Record). record { seat = seat; entry = r }))

-- a change of the stock with records behind the log is the same seen with the bytes and without them
pub changed_is : (stock : Stock) (log : List Logged) (s : ListState) (f : Sizes → Sizes) (g : Stock → Stock) (rs : List Record) → sizes (g stock) ≡ f (sizes stock) → told (g stock) (log ++ all_by s.seat rs) s ≡ changed f g rs (told stock log s)
changed_is stock log s f g rs same =
    let long = length-all_by log s.seat rs in
    λ i. record { content = Some (record { stock = g stock; recorded = s.recorded; takes = λ name. None; outside = outside_of s.outside; gifts = s.gifts; log = log ++ all_by s.seat rs }); stock = same i; recorded = s.recorded; records = long i; reserved = s.reserved; staged = s.last_staged; drawn = s.drawn; seat = s.seat; appended = long i; last_given = s.last_given; counts = s.counts }
