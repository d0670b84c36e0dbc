-- Rows of the receiving half that were made.
use Rattle.std.proofs.Common.{◌≡◌, ◌≤◌, ◌<◌, ◌∙◌, ℕ, Bool, true, List, [], ◌∷◌, ◌++◌, length, Option, Some, Result, refl, sym, ap, subst, inl, inr, arith}
use Rattle.std.proofs.lemmas.List.{append-nil}
use Rattle.ftn_addr.specs.Key.{Key}
use Rattle.node_model.specs.Calls.{File_call, Data_call, Answer, Event, turned}
use Rattle.node_model.specs.Images.{Stand, Kept}
use Rattle.node_model.specs.Talk.{Message, Get, Got, Skip, Talk, Part, Verdict, on, AfterFile, FileTaken, AfterData, DataTaken, Fits}
use Rattle.node_model.specs.Desks.{held_after}
use Rattle.node_model.specs.declared.desk.DeskFault.{DeskFault}
use Rattle.session_recv.specs.declared.receiver.RecvStep.{RecvStep}
use Rattle.session_recv.specs.Replies.{SaysOnly, DidTake, WritesStep, received_after, step_outcome, replies_bytes}
use Rattle.node_model.proofs.Rans.{ran_none, ran_one}

pub did_file : (t : Talk) (key : Key) (offset : ℕ) (x : Answer) (v : Verdict) (alone : Bool) (old new : Stand) (held held' : Option Part) (count count' : ℕ) (out out' : List ℕ) (step : Result RecvStep DeskFault) → AfterFile t key x v → Kept alone old (File_call key offset) x new → held' ≡ held_after held (File_call key offset) x → count' ≡ received_after count (File_call key offset) x → WritesStep out out' v step → DidTake (FileTaken t key offset) alone old new held held' count count' out out' step
did_file t key offset x v alone old new held held' count count' out out' step after kept is counts writes =
    record { events = turned (File_call key offset) x kept.rows_before kept.rows_after ∷ []; verdict = v; row = record { answer = x; asks = refl; then = after }; ran = ran_one alone old _ x new kept; held_is = is; count_is = counts; writes = writes }

pub did_data : (t : Talk) (p : Part) (bytes : List ℕ) (x : Answer) (v : Verdict) (alone : Bool) (old new : Stand) (held held' : Option Part) (count count' : ℕ) (out out' : List ℕ) (step : Result RecvStep DeskFault) → held ≡ Some p → p.taking ≡ true → length bytes ≤ p.left → AfterData t p.key x v → Kept alone old (Data_call bytes) x new → held' ≡ held_after held (Data_call bytes) x → count' ≡ received_after count (Data_call bytes) x → WritesStep out out' v step → DidTake (DataTaken held t bytes) alone old new held held' count count' out out' step
did_data t p bytes x v alone old new held held' count count' out out' step has taking fits after kept is counts writes =
    record { events = turned (Data_call bytes) x kept.rows_before kept.rows_after ∷ []; verdict = v; row = Fits p has taking fits x refl after; ran = ran_one alone old _ x new kept; held_is = is; count_is = counts; writes = writes }

-- nothing is said
pub quiet : (out : List ℕ) (v : Verdict) (step : Result RecvStep DeskFault) → step_outcome step ≡ v.outcome → v.said ≡ [] → WritesStep out out v step
quiet out v step is none = inl (is, subst (λ (m : List Message). out ≡ out ++ replies_bytes m) (sym none) (sym (append-nil out)))

-- a row that makes no call and says nothing
pub did_plain : (P : List Event → Verdict → Type 0) (v : Verdict) (alone : Bool) (s : Stand) (held : Option Part) (count : ℕ) (out : List ℕ) (step : Result RecvStep DeskFault) → P [] v → step_outcome step ≡ v.outcome → v.said ≡ [] → DidTake P alone s s held held count count out out step
did_plain P v alone s held count out step row is none =
    record { events = []; verdict = v; row = row; ran = ran_none alone s; held_is = refl; count_is = refl; writes = quiet out v step is none }

-- that message is all that is said
pub answered : (t : Talk) (message : Message) (out out' : List ℕ) (step : Result RecvStep DeskFault) → 0 < length (replies_bytes (message ∷ [])) → SaysOnly message out out' step → WritesStep out out' (on t (message ∷ [])) step
answered t message out out' step some (inl did) = inl (ap step_outcome did.0, did.1)
answered t message out out' step some (inr did) = inr (did.0, some, did.1)

pub acknowledged : (t : Talk) (key : Key) (out out' : List ℕ) (step : Result RecvStep DeskFault) → SaysOnly (Got key) out out' step → WritesStep out out' (on t (Got key ∷ [])) step
acknowledged t key out out' step did = answered t (Got key) out out' step (omega arith) did

pub passed_over : (t : Talk) (key : Key) (out out' : List ℕ) (step : Result RecvStep DeskFault) → SaysOnly (Skip key) out out' step → WritesStep out out' (on t (Skip key ∷ [])) step
passed_over t key out out' step did = answered t (Skip key) out out' step (omega arith) did

pub asked_again : (t : Talk) (key : Key) (place : ℕ) (out out' : List ℕ) (step : Result RecvStep DeskFault) → SaysOnly (Get key place) out out' step → WritesStep out out' (on t (Get key place ∷ [])) step
asked_again t key place out out' step did = answered t (Get key place) out out' step (omega arith) did

-- the same, with what is held seen otherwise
pub held_as : (P : List Event → Verdict → Type 0) (alone : Bool) (old new : Stand) (count count' : ℕ) (out out' : List ℕ) (step : Result RecvStep DeskFault) {b c d : Option Part} → c ≡ d → DidTake P alone old new b c count count' out out' step → DidTake P alone old new b d count count' out out' step
held_as P alone old new count count' out out' step f did =
    record { events = did.events; verdict = did.verdict; row = did.row; ran = did.ran; held_is = sym f ∙ did.held_is; count_is = did.count_is; writes = did.writes }
