-- How a name is kept: filled with zeros to 64 bytes.
use Rattle.std.proofs.Common.{◌≡◌, ℕ, ◌-◌, List, ◌++◌, length, take, drop, true, refl, sym, ◌∙◌, ap}
use Rattle.std.specs.Prelude.{nat_le, ◌&&◌, replicate}
use Rattle.std.specs.List.{list_all}
use Rattle.std.proofs.lemmas.Bool.{and_parts}
use Rattle.std.proofs.lemmas.List.{take_at, drop-replicate}
use Rattle.disk_model.specs.Name.{is_name_byte, is_name, padded, IsKept}

pub kept_of : (name new all : List ℕ) → new ≡ name → all ≡ replicate 64 0 → is_name name ≡ true → IsKept (length name) (new ++ drop (length name) all)
kept_of name new all same zeros valid =
    let rest : new ++ drop (length name) all ≡ padded name = ap (λ (l : List ℕ). l ++ drop (length name) all) same ∙ ap (λ (l : List ℕ). name ++ drop (length name) l) zeros ∙ ap (λ (l : List ℕ). name ++ l) (drop-replicate (length name) 64 0) in
    let front : take (length name) (new ++ drop (length name) all) ≡ name = ap (λ (l : List ℕ). take (length name) l) rest ∙ take_at name (replicate (64 - length name) 0) (length name) refl in
    record {
      within = ap length front;
      short = short_of;
      filled = rest ∙ sym (ap padded front);
      valid = ap is_name front ∙ valid;
    }
  where
    short_of : nat_le (length name) 64 ≡ true
    short_of = let both = and_parts (nat_le 1 (length name) && nat_le (length name) 64) (list_all is_name_byte name) valid in (and_parts (nat_le 1 (length name)) (nat_le (length name) 64) both.0).1
