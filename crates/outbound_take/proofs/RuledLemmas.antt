-- Calls of which a store says the same, one behind another.
use Rattle.std.proofs.Common.{◌≡◌, List, [], ◌∷◌, ◌++◌, refl, sym, subst}
use Rattle.outbound_take.specs.Ruled.{Ruled, Through}

pub ruled_none : {T : Type 0} (rule : T → T → Type 0) (old new : T) → old ≡ new → Ruled rule old new
ruled_none {T} rule old new same = record { mids = []; through = sym same }

pub ruled_one : {T : Type 0} (rule : T → T → Type 0) (old new : T) → rule old new → Ruled rule old new
ruled_one {T} rule old new call = record { mids = new ∷ []; through = (call, refl) }

through_on : {T : Type 0} (rule : T → T → Type 0) (old mid new : T) (before after : List T) → Through rule old before mid → Through rule mid after new → Through rule old (before ++ after) new
through_on {T} rule old mid new [] after first second = subst (λ (s : T). Through rule s after new) first second
through_on {T} rule old mid new (s ∷ ss) after first second = (first.0, through_on rule s mid new ss after first.1 second)

pub ruled_on : {T : Type 0} (rule : T → T → Type 0) (old mid new : T) → Ruled rule old mid → Ruled rule mid new → Ruled rule old new
ruled_on {T} rule old mid new first second = record { mids = first.mids ++ second.mids; through = through_on rule old mid new first.mids second.mids first.through second.through }

pub ruled_call : {T : Type 0} (rule : T → T → Type 0) (old mid new : T) → Ruled rule old mid → rule mid new → Ruled rule old new
ruled_call {T} rule old mid new first call = ruled_on rule old mid new first (ruled_one rule mid new call)

-- What holds of each call, of none, and of two behind each other where it holds of both, holds of all of them.
pub ruled_all : {T : Type 0} (rule P : T → T → Type 0) → ((s : T) → P s s) → ((s t u : T) → P s t → P t u → P s u) → ((s t : T) → rule s t → P s t) → (old new : T) → Ruled rule old new → P old new
ruled_all {T} rule P none on each old new calls = along old calls.mids calls.through
  where
    along : (s : T) (mids : List T) → Through rule s mids new → P s new
    along s [] same = subst (λ (t : T). P s t) (sym same) (none s)
    along s (t ∷ ts) through = on s t new (each s t through.0) (along t ts through.1)
