-- The records and the node call the same files requests.
use Rattle.std.proofs.Common.{◌≡◌, ℕ, ◌-◌, Bool, true, false, ◌&&◌, nat_le, List, [], ◌∷◌, length, map, drop, refl, sym, ◌∙◌, ap, ⊎_elim, arith, ◌<◌}
use Rattle.std.specs.Prelude.{nat_eq, codes}
use Rattle.std.specs.Char.{to_ascii_lowercase}
use Rattle.std.specs.Cmp.Lexicographic.{pointwise}
use Rattle.std.proofs.lemmas.List.{length-map, length-drop}
use Rattle.std.proofs.lemmas.Bool.Decides.{Decides-eqb, leb_tells}
use Rattle.std.proofs.lemmas.Slice.Eq.{slice_eq-Decides}
use Rattle.ledger_rec.specs.Fold as F
use Rattle.node_model.specs.Rows.{ends_with}
use Rattle.node_model.proofs.Lists.{off}

-- the end of a name, in lower case
abbrev ending : List ℕ → List ℕ
ending name = map to_ascii_lowercase (drop (length name - 4) name)

abbrev ends : List ℕ → Bool
ends name = pointwise nat_eq (ending name) (codes ".req")

-- a name of fewer bytes doesn't end so
too_short : (name : List ℕ) → length name < 4 → ends name ≡ true → ⊥
too_short name short is =
    let same : ending name ≡ codes ".req" = (slice_eq-Decides Decides-eqb (ending name) (codes ".req") (ends name) refl).0 is in
    let long : length (ending name) ≡ 4 = ap length same in
    let ending_len : length (ending name) ≡ length name - (length name - 4) = length-map (drop (length name - 4) name) to_ascii_lowercase ∙ length-drop (length name - 4) name in
    omega (arith, long, ending_len, short)

pub request_same : (name : List ℕ) → ends_with name (46 ∷ 114 ∷ 101 ∷ 113 ∷ []) ≡ F.is_request name
request_same name = go (nat_le 4 (length name)) refl (ends name) refl
  where
    low : nat_le 4 (length name) ≡ false → length name < 4
    low is = ⊎_elim (λ l. off (sym l.0 ∙ is)) (λ r. omega (arith, r.1)) (leb_tells 4 (length name))

    go : (b : Bool) → nat_le 4 (length name) ≡ b → (e : Bool) → ends name ≡ e → (nat_le 4 (length name) && ends name) ≡ ends name
    go true long e is = ap (λ (b : Bool). b && ends name) long
    go false short true is = absurd (too_short name (low short) is)
    go false short false is = ap (λ (b : Bool). b && ends name) short ∙ sym is
