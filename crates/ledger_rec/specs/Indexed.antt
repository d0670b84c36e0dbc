-- What the ordered indices have, beside a state's lists (own).
use Rattle.std.specs.Prelude.{◌≡◌, ℕ, Bool, true, false, ◌||◌, nat_lt, List, [], ◌∷◌, map}
use Rattle.std.specs.List.{list_all, list_any}
use Rattle.ftn_addr.specs.Address.{Address}
use Rattle.ftn_addr.specs.Files.{is_same}
use Rattle.ftn_addr.specs.Key.{Key}
use Rattle.file_index.specs.Filed.{Files}
use Rattle.file_index.specs.Numbered.{Numbers}
use Rattle.ledger_rec.specs.Fold.{State, is_received, is_refused}
use Rattle.ledger_rec.specs.Items.{Entry, Receipt}
use Rattle.ledger_rec.specs.declared.index.Index.{Index}

abbrev pub is_queued : Address → Key → List Entry → Bool
is_queued dest key queue = list_any (λ (e : Entry). is_same dest key e.dest e.key) queue

-- every queued file has a lower number
abbrev pub are_below : ℕ → List Entry → Bool
are_below number queue = list_all (λ (e : Entry). nat_lt e.number number) queue

abbrev pub is_empty : {A : Type 0} → List A → Bool
is_empty [] = true
is_empty (x ∷ xs) = false

-- each index that is whole has what its list has, and the greatest number of the queue is told
pub record Agrees (x : Index) (s : State) : Type 0 where
  pub received : Files x.received (λ from key. is_received from key s.inbox)
  pub refused : Files x.refused (λ from key. is_refused from key s.refused)
  pub queued : Files x.queued (λ dest key. is_queued dest key s.queue)
  pub numbers : Numbers x.numbers (map (λ (e : Entry). e.number) s.queue)
  pub receipts : Numbers x.receipts (map (λ (r : Receipt). r.number) s.inbox)
  pub parts : Numbers x.parts s.parts
  pub takes : Numbers x.takes s.takes
  pub below : (n : ℕ) → are_below n s.queue ≡ (is_empty s.queue || nat_lt x.greatest n)
