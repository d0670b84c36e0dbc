-- What each write of the gate's protocol may leave of one file.
use Rattle.std.proofs.Common.{◌≡◌, ℕ, ◌+◌, ◌≤◌, List, [], ◌∷◌, ◌++◌, length, get_or, take, drop, refl, sym, ◌∙◌, ap, arith, append_assoc, length-append, take-append-drop}
use Rattle.std.proofs.lemmas.List.{take_at, drop_at, drop_more, length-take-le}
use Rattle.disk_model.specs.Changes.{Holds, Torn}
use Rattle.ledger_file.specs.Gate.{IsShut, Published, Opened}

-- the block stands behind the gate
pub record Staged (gate : ℕ) (block b c : List ℕ) : Type 0 where
  pub more : List ℕ
  pub is : c ≡ take (gate + 1) b ++ (block ++ more)

module _ (gate : ℕ) (b : List ℕ) (s : IsShut gate b) where
  pub front : take gate b ≡ s.front
  front = ap (λ (l : List ℕ). take gate l) s.is ∙ take_at s.front (s.byte ∷ s.rest) gate s.place

  pub front_and_byte : take (gate + 1) b ≡ s.front ++ s.byte ∷ []
  front_and_byte =
      ap (λ (l : List ℕ). take (gate + 1) l) (s.is ∙ sym (append_assoc s.front (s.byte ∷ []) s.rest))
      ∙ take_at (s.front ++ s.byte ∷ []) s.rest (gate + 1) (omega (arith, length-append s.front (s.byte ∷ []), s.place))

  pub long : gate + 1 ≤ length b
  long = omega (arith, ap length s.is, length-append s.front (s.byte ∷ s.rest), s.place)

  -- behind a closed gate anything may be torn
  pub torn_behind : (block : List ℕ) (n : ℕ) (c : List ℕ) → Torn (gate + 1) n b c → Published gate block b c
  torn_behind block n c torn = record {
    byte = s.byte;
    rest = drop (gate + 1) c;
    is = sym (take-append-drop (gate + 1) c)
        ∙ ap (λ (l : List ℕ). l ++ drop (gate + 1) c) (torn.before ∙ front_and_byte)
        ∙ append_assoc s.front (s.byte ∷ []) (drop (gate + 1) c)
        ∙ ap (λ (l : List ℕ). l ++ s.byte ∷ drop (gate + 1) c) (sym front);
    whole = λ open_gate. absurd (s.shut open_gate);
  }

  -- once the block is on the disk, a torn gate leaves it there
  pub torn_gate : (block m c : List ℕ) → Staged gate block b m → Torn gate 1 m c → Published gate block b c
  torn_gate block m c staged torn =
      let parts : m ≡ (s.front ++ s.byte ∷ []) ++ (block ++ staged.more) = staged.is ∙ ap (λ (l : List ℕ). l ++ (block ++ staged.more)) front_and_byte in
      let size : length (s.front ++ s.byte ∷ []) ≡ gate + 1 = omega (arith, length-append s.front (s.byte ∷ []), s.place) in
      let total : gate + 1 ≤ length m = omega (arith, ap length parts, length-append (s.front ++ s.byte ∷ []) (block ++ staged.more), size) in
      let ahead : take gate m ≡ s.front = ap (λ (l : List ℕ). take gate l) (parts ∙ append_assoc s.front (s.byte ∷ []) (block ++ staged.more)) ∙ take_at s.front (s.byte ∷ (block ++ staged.more)) gate s.place in
      let behind : drop (gate + 1) m ≡ block ++ staged.more = ap (λ (l : List ℕ). drop (gate + 1) l) parts ∙ drop_at (s.front ++ s.byte ∷ []) (block ++ staged.more) (gate + 1) size in
      let byte = get_or c gate 0 in
      let rest : drop gate c ≡ byte ∷ (block ++ staged.more) = drop_more c gate 0 (omega (arith, torn.no_shorter)) ∙ ap (λ (l : List ℕ). byte ∷ l) (torn.after ∙ behind) in
      record {
        byte = byte;
        rest = block ++ staged.more;
        is = sym (take-append-drop gate c) ∙ ap (λ (l : List ℕ). l ++ drop gate c) (torn.before ∙ ahead ∙ sym front) ∙ ap (λ (l : List ℕ). take gate b ++ l) rest;
        whole = λ open_gate. (staged.more, refl);
      }

-- the block is on the disk: what stands there is what was written, and its front is what was there
pub is_staged : (gate : ℕ) (block b c b₀ : List ℕ) (n : ℕ) → Torn (gate + 1) n b c → IsShut gate b₀ → Holds (gate + 1) block b₀ c → Staged gate block b c
is_staged gate block b c b₀ n torn s holds =
    let more = drop (gate + 1 + length block) b₀ in
    let parts : c ≡ take (gate + 1) b₀ ++ (block ++ more) = holds ∙ append_assoc (take (gate + 1) b₀) block more in
    let size : length (take (gate + 1) b₀) ≡ gate + 1 = length-take-le (gate + 1) b₀ (long gate b₀ s) in
    let ahead : take (gate + 1) c ≡ take (gate + 1) b₀ = ap (λ (l : List ℕ). take (gate + 1) l) parts ∙ take_at (take (gate + 1) b₀) (block ++ more) (gate + 1) size in
    record { more = more; is = parts ∙ ap (λ (l : List ℕ). l ++ (block ++ more)) (sym ahead ∙ torn.before) }

-- the open gate is on the disk
pub is_opened : (gate : ℕ) (block b c b₀ m : List ℕ) → IsShut gate b → Published gate block b c → IsShut gate b₀ → Staged gate block b₀ m → Holds gate (1 ∷ []) m c → Opened gate block b c
is_opened gate block b c b₀ m s p s₀ staged holds =
    let size : length (take gate b) ≡ gate = length-take-le gate b (omega (arith, long gate b s)) in
    let parts : m ≡ (s₀.front ++ s₀.byte ∷ []) ++ (block ++ staged.more) = staged.is ∙ ap (λ (l : List ℕ). l ++ (block ++ staged.more)) (front_and_byte gate b₀ s₀) in
    let total : gate + 1 ≤ length m = omega (arith, ap length parts, length-append (s₀.front ++ s₀.byte ∷ []) (block ++ staged.more), length-append s₀.front (s₀.byte ∷ []), s₀.place) in
    let size_m : length (take gate m) ≡ gate = length-take-le gate m (omega (arith, total)) in
    let written : c ≡ take gate m ++ 1 ∷ drop (gate + 1) m = holds ∙ append_assoc (take gate m) (1 ∷ []) (drop (gate + 1) m) in
    let back : drop gate c ≡ 1 ∷ drop (gate + 1) m = ap (λ (l : List ℕ). drop gate l) written ∙ drop_at (take gate m) (1 ∷ drop (gate + 1) m) gate size_m in
    let back_p : drop gate c ≡ p.byte ∷ p.rest = ap (λ (l : List ℕ). drop gate l) p.is ∙ drop_at (take gate b) (p.byte ∷ p.rest) gate size in
    let is_open : p.byte ≡ 1 = cc in
    let whole = p.whole is_open in
    record { more = whole.0; is = p.is ∙ ap (λ (x : ℕ). take gate b ++ x ∷ p.rest) is_open ∙ ap (λ (l : List ℕ). take gate b ++ 1 ∷ l) whole.1 }

pub same_as_shut : (gate : ℕ) (block b : List ℕ) → IsShut gate b → Published gate block b b
same_as_shut gate block b s = record {
  byte = s.byte;
  rest = s.rest;
  is = s.is ∙ ap (λ (l : List ℕ). l ++ s.byte ∷ s.rest) (sym (front gate b s));
  whole = λ open_gate. absurd (s.shut open_gate);
}
