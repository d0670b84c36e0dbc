-- What is said in order.
use Rattle.std.proofs.Common.{◌≡◌, ℕ, List, [], ◌∷◌, ◌++◌, Result, Ok, Err, ap, ◌∙◌, sym, append_assoc}
use Rattle.std.specs.Prelude.{OnOk}
use Rattle.std.proofs.lemmas.Grind.{flat_map-append}
use Rattle.binkp_args.specs.Command.{CommandText}
use Rattle.session_auth.specs.Says.{command_bytes, said_bytes}

-- first this, and then the rest
pub said_then : (old mid new : List ℕ) (first rest : List CommandText) → mid ≡ old ++ said_bytes first → new ≡ mid ++ said_bytes rest → new ≡ old ++ said_bytes (first ++ rest)
said_then old mid new first rest begun ended =
    ended ∙ (ap (λ (x : List ℕ). x ++ said_bytes rest) begun ∙ (append_assoc old (said_bytes first) (said_bytes rest) ∙ ap (λ (x : List ℕ). old ++ x) (sym (flat_map-append command_bytes first rest))))

pub on_ok : {A E : Type 0} (r : Result A E) (P Q : Type 0) → (P → Q) → OnOk r P → OnOk r Q
on_ok (Ok x) P Q f p = f p
on_ok (Err e) P Q f p = p

-- first one command, and then the rest
pub said_one_then : (old mid new : List ℕ) (first : CommandText) (rest : List CommandText) → mid ≡ old ++ said_bytes (first ∷ []) → new ≡ mid ++ said_bytes rest → new ≡ old ++ said_bytes (first ∷ rest)
said_one_then old mid new first rest begun ended = said_then old mid new (first ∷ []) rest begun ended
