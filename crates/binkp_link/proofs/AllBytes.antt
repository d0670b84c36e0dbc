-- What a script gave and what it has left are the bytes of all its acts.
use Rattle.std.proofs.Common.{◌≡◌, ◌∙◌, ℕ, zero, suc, List, [], ◌∷◌, ◌++◌, take, drop, sym, ap}
use Rattle.std.proofs.Math.Seq.{take-nil}
use Rattle.std.proofs.lemmas.List.{append_assoc, take-append-drop}
use Rattle.binkp_link.specs.Scripts.{Act, Bytes, Not_yet, Quiet, Failed, act_bytes, first_bytes, script_bytes, without_front}

here : (place : ℕ) (act : Act) (acts : List Act) → take place (act_bytes act) ++ script_bytes (without_front place (act ∷ acts)) ≡ script_bytes (act ∷ acts)
here place (Bytes bytes) acts = sym (append_assoc (take place bytes) (drop place bytes) (script_bytes acts)) ∙ ap (λ (x : List ℕ). x ++ script_bytes acts) (take-append-drop place bytes)
here place Not_yet acts = ap (λ (x : List ℕ). x ++ script_bytes acts) (take-nil place)
here place Quiet acts = ap (λ (x : List ℕ). x ++ script_bytes acts) (take-nil place)
here place Failed acts = ap (λ (x : List ℕ). x ++ script_bytes acts) (take-nil place)

pub given_and_left : (acts : List Act) (over place : ℕ) → (script_bytes (take over acts) ++ take place (first_bytes (drop over acts))) ++ script_bytes (without_front place (drop over acts)) ≡ script_bytes acts
given_and_left [] zero place = ap (λ (x : List ℕ). x ++ []) (take-nil place)
given_and_left [] (suc over) place = ap (λ (x : List ℕ). x ++ []) (take-nil place)
given_and_left (act ∷ acts) zero place = here place act acts
given_and_left (act ∷ acts) (suc over) place =
    ap (λ (x : List ℕ). x ++ script_bytes (without_front place (drop over acts))) (append_assoc (act_bytes act) (script_bytes (take over acts)) (take place (first_bytes (drop over acts))))
    ∙ append_assoc (act_bytes act) (script_bytes (take over acts) ++ take place (first_bytes (drop over acts))) (script_bytes (without_front place (drop over acts)))
    ∙ ap (λ (x : List ℕ). act_bytes act ++ x) (given_and_left acts over place)
