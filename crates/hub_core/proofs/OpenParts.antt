-- Open parts after another part was opened, put to, marked, closed or refused.
use Rattle.std.proofs.Common.{◌≡◌, ◌≢◌, ℕ, Bool, true, false, ◌==◌, List, [], Some, refl, sym, ◌∙◌, ap, subst, length}
use Rattle.std.proofs.lemmas.Bool.Decides.{Decides-eqb}
use Rattle.ftn_addr.specs.Address.{Address}
use Rattle.ftn_addr.specs.Files.{is_same}
use Rattle.ftn_addr.specs.Key.{Key}
use Rattle.node_model.specs.Items.{Mark, MarkOf}
use Rattle.node_model.specs.Lists.{Member}
use Rattle.node_model.specs.Durable.{mark_map, unmarked}
use Rattle.node_model.specs.Stocks.{StockOf, sizes, part_in, part_opened}
use Rattle.node_model.specs.Stores.{Stored, StoreState, StoreTied}
use Rattle.hub_core.proofs.Finding.{first-without, first-push_other, member_map}
use Rattle.hub_core.specs.HubLaws.{parts_are}

pub same_number : (m n : ℕ) → (m == n) ≡ true → m ≡ n
same_number m n e = (Decides-eqb m n).0 e

pub number_same : (m n : ℕ) → m ≡ n → (m == n) ≡ true
number_same m n e = subst (λ (k : ℕ). (m == k) ≡ true) e (go m)
  where
    go : (k : ℕ) → (k == k) ≡ true
    go k = (Decides-eqb k k).1 refl

pub number_apart : (m n : ℕ) → m ≢ n → (m == n) ≡ false
number_apart m n apart = go (m == n) refl
  where
    go : (b : Bool) → (m == n) ≡ b → (m == n) ≡ false
    go true t = absurd (apart (same_number m n t))
    go false t = t

-- the part of another number is found as before
pub other_opened : {B : Type 0} (from : Address) (key : Key) (number : ℕ) (none : B) (s : StockOf B) (n : ℕ) → n ≢ number → ((x : MarkOf B) → Member x s.parts → x.number ≡ n → is_same from key x.from x.key ≡ false) → part_in n (part_opened from key number none s).parts ≡ part_in n s.parts
other_opened {B} from key number none s n apart others =
    first-push_other (λ (p : MarkOf B). p.number == n) (unmarked from key s.parts) _ (number_apart number n (λ same. apart (sym same)))
    ∙ first-without (λ (p : MarkOf B). is_same from key p.from p.key) (λ (p : MarkOf B). p.number == n) s.parts (λ x there is. others x there (same_number x.number n is))

pub sized : (a : Stored) (s : StoreState) (x : Mark) → s.stock ≡ sizes a.stock → Member x a.stock.parts → Member (mark_map length x) s.stock.parts
sized a s x is there = subst (λ (ps : List (MarkOf ℕ)). Member (mark_map length x) ps) (sym (parts_are a s is)) (member_map (mark_map length) a.stock.parts x there)

-- two open parts of one number are one
pub one_part : (s : StoreState) (p q : MarkOf ℕ) → StoreTied s → Member p s.stock.parts → Member q s.stock.parts → p.number ≡ q.number → p ≡ q
one_part s p q tied a b same =
    let x = (tied.parts p a).0 in
    let y = (tied.parts q b).0 in
    some_same (sym x ∙ (ap (λ (n : ℕ). part_in n s.stock.parts) same ∙ y))
  where
    some_same : {A : Type 0} {u v : A} → Some u ≡ Some v → u ≡ v
    some_same e = cc

-- no part of that number is of another file
pub number_of : (a : Stored) (s : StoreState) (from : Address) (key : Key) (p : MarkOf ℕ) → s.stock ≡ sizes a.stock → StoreTied s → Member p s.stock.parts → is_same from key p.from p.key ≡ false → (x : Mark) → Member x a.stock.parts → x.number ≡ p.number → is_same from key x.from x.key ≡ false
number_of a s from key p is tied there apart x there' same =
    let one : mark_map length x ≡ p = one_part s (mark_map length x) p tied (sized a s x is there') there same in
    subst (λ (q : MarkOf ℕ). is_same from key q.from q.key ≡ false) (sym one) apart

-- the bytes of other parts stay, where a part is opened
pub stays_opened : (a : Stored) (s : StoreState) (from : Address) (key : Key) (number : ℕ) (p : MarkOf ℕ) → s.stock ≡ sizes a.stock → StoreTied s → Member p s.stock.parts → is_same from key p.from p.key ≡ false → p.number ≢ number → part_in p.number (part_opened from key number [] a.stock).parts ≡ part_in p.number a.stock.parts
stays_opened a s from key number p is tied there apart other =
    other_opened from key number [] a.stock p.number other (number_of a s from key p is tied there apart)
