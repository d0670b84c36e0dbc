-- The number under which a part is opened is its file's own, or one that nothing has.
use Rattle.std.proofs.Common.{◌≡◌, ◌≢◌, ℕ, ◌+◌, ◌≤◌, Bool, true, false, cond, ◌==◌, List, [], ◌∷◌, Option, Some, None, length, option_map, refl, sym, ◌∙◌, ap, subst, inl, inr, arith, ⊎_elim}
use Rattle.ftn_addr.specs.Address.{Address}
use Rattle.ftn_addr.specs.Files.{is_same}
use Rattle.ftn_addr.specs.Key.{Key}
use Rattle.ftn_addr.specs.declared.limits.TheConstants.{MAX_NUMBER}
use Rattle.node_model.specs.Items.{Mark, MarkOf, Receipt}
use Rattle.node_model.specs.Lists.{Member, Each, first_that}
use Rattle.node_model.specs.Durable.{mark_of, mark_map, unmarked}
use Rattle.node_model.specs.Node.{Hold, Node, session_at, hold_in}
use Rattle.node_model.specs.Rows.{PartNumber}
use Rattle.node_model.specs.Stocks.{StockOf, part_in, part_of, next_part, part_number, part_opened, begins_with}
use Rattle.node_model.specs.Stores.{Stored, StoreState, StoreTied}
use Rattle.node_model.proofs.Lists.{is_same_true, is_same_at, decide_line}
use Rattle.hub_core.specs.Hubs.{Taking, Sitting, HubState, HubFits, IfHeld, sitting_at, session_over, hold_over, node_with}
use Rattle.hub_core.specs.HubLaws.{session_of}
use Rattle.hub_core.specs.Steps.{part_under, is_file}
use Rattle.hub_core.proofs.Finding.{found, first-none, first-push_own, left_there}
use Rattle.hub_core.proofs.OpenParts.{one_part, same_number, number_apart}
use Rattle.hub_core.proofs.Telling.{marks_are}
use Rattle.hub_core.proofs.Breaking.{OthersApart}

-- a session that holds nothing, and a file that no other seat's session holds, over a store that keeps this
pub record IsFree (a : Stored) (s : StoreState) (h : HubState) (seat : ℕ) (x : Sitting) (key : Key) : Type 0 where
  pub fits : HubFits a s h
  pub sits : sitting_at h seat ≡ Some x
  pub unheld : x.hold ≡ None
  pub seat_is : s.seat ≡ seat
  pub tied : StoreTied s
  pub away : OthersApart (is_file x.first key) h seat

off : {X : Type 0} {b : Bool} → b ≡ true → b ≡ false → X
off {X} {b} t f = absurd (cc)

pub each_at : {A : Type 0} (P : A → Type 0) (xs : List A) (m : A) → Member m xs → Each P xs → P m
each_at P [] m there each = absurd there
each_at P (x ∷ xs) m (inl same) each = subst P (sym same) each.0
each_at P (x ∷ xs) m (inr there) each = each_at P xs m there each.1

-- what isn't found fails for each
none_passes : {A : Type 0} (q : A → Bool) (xs : List A) → first_that q xs ≡ None → Each (λ x. q x ≡ false) xs
none_passes q [] none = tt
none_passes {A} q (x ∷ xs) none = go (q x) refl none (none_passes q xs)
  where
    go : (b : Bool) → q x ≡ b → cond b (Some x) (first_that q xs) ≡ None → (first_that q xs ≡ None → Each (λ y. q y ≡ false) xs) → (q x ≡ false) × Each (λ y. q y ≡ false) xs
    go true is n rest = absurd (cc)
    go false is n rest = (is, rest n)

pub each_as : {A : Type 0} (P Q : A → Type 0) (xs : List A) → ((x : A) → Member x xs → P x → Q x) → Each P xs → Each Q xs
each_as P Q [] f all = tt
each_as P Q (x ∷ xs) f all = (f x (inl refl) all.0, each_as P Q xs (λ y m. f y (inr m)) all.1)

-- an open part of another file has another number
same_file : (from : Address) (key : Key) (p : MarkOf ℕ) (m : Address) (k : Key) → is_same from key m k ≡ true → is_same p.from p.key m k ≡ true → is_same from key p.from p.key ≡ true
same_file from key p m k e f =
    let x = is_same_true from key m k e in
    let y = is_same_true p.from p.key m k f in
    is_same_at from key p.from p.key (x.0 ∙ sym y.0) (x.1 ∙ sym y.1)

pub number_new : (a : Stored) (s : StoreState) (h : HubState) (from : Address) (key : Key) (p : MarkOf ℕ) → HubFits a s h → StoreTied s → Member p s.stock.parts → is_same from key p.from p.key ≡ false → p.number ≢ part_number from key s.drawn s.stock
number_new a s h from key p f tied there apart =
    subst (λ (o : Option (MarkOf ℕ)). p.number ≢ next_part o (part_of from key s.stock.parts) s.drawn) (sym (marks_are a s from key f.stock)) (go (mark_of from key a.stock.state) refl (part_of from key s.stock.parts) refl)
  where
    go : (om : Option Mark) → mark_of from key a.stock.state ≡ om → (oq : Option (MarkOf ℕ)) → part_of from key s.stock.parts ≡ oq → p.number ≢ next_part (option_map (mark_map length) om) oq s.drawn
    go (Some m) is oq at = λ same.
        let w = found (λ (x : Mark). is_same from key x.from x.key) a.stock.state.marks m is in
        let agree = each_at (λ (x : Mark). (x.number ≡ p.number → is_same p.from p.key x.from x.key ≡ true) × (is_same p.from p.key x.from x.key ≡ true → x.number ≡ p.number)) a.stock.state.marks m w.there (f.parts p there).marks in
        off (same_file from key p m.from m.key w.passes (agree.0 (sym same))) apart
    go None is (Some q) at = λ same.
        let w = found (λ (x : MarkOf ℕ). is_same from key x.from x.key) s.stock.parts q at in
        let one = one_part s p q tied there w.there same in
        off (subst (λ (x : MarkOf ℕ). is_same from key x.from x.key ≡ true) (sym one) w.passes) apart
    go None is None at = λ same. let few = (tied.parts p there).3 in absurd (omega (arith, few, same))

-- the part that is opened is found under its number
pub own_opened : {B : Type 0} (from : Address) (key : Key) (number : ℕ) (none : B) (s : StockOf B) → ((x : MarkOf B) → Member x s.parts → is_same from key x.from x.key ≡ false → x.number ≢ number) → part_in number (part_opened from key number none s).parts ≡ Some (record { number = number; from = from; key = key; bytes = begins_with none (mark_of from key s.state) })
own_opened {B} from key number none s others =
    first-push_own (λ (p : MarkOf B). p.number == number) (unmarked from key s.parts) _
    (first-none (λ (p : MarkOf B). p.number == number) (unmarked from key s.parts) (λ x m. let l = left_there (λ (p : MarkOf B). is_same from key p.from p.key) s.parts x m in number_apart x.number number (others x l.0 l.1)))
    (Rattle.hub_core.proofs.OpenParts.number_same number number refl)

-- what another seat holds isn't that file
held_apart : (a : Stored) (s : StoreState) (h : HubState) (seat : ℕ) (x : Sitting) (key : Key) → IsFree a s h seat x key → (k : ℕ) (w : Hold) → hold_in (session_at (node_with a s h) k) ≡ Some w → is_same x.first key w.from w.key ≡ false
held_apart a s h seat x key free k w at = sitting k w (sitting_at h k) refl (ap hold_in (sym (session_of a s h k)) ∙ at)
  where
    hold : (y : Sitting) → k ≢ seat → sitting_at h k ≡ Some y → (o : Option Taking) → y.hold ≡ o → hold_over a.stock y.first o ≡ Some w → is_same x.first key w.from w.key ≡ false
    hold y apart sits None is at = absurd (cc)
    hold y apart sits (Some t) is at =
        let held : hold_over a.stock y.first (Some t) ≡ Some w = at in
        let e = free.away k y t apart sits is in
        subst (λ (g : Hold). is_same x.first key g.from g.key ≡ false) (some_same held) e
      where
        some_same : {A : Type 0} {u v : A} → Some u ≡ Some v → u ≡ v
        some_same e = cc

    own : (y : Sitting) → k ≡ seat → sitting_at h k ≡ Some y → hold_over a.stock y.first y.hold ≡ Some w → ⊥
    own y here sits at =
        let same : Some y ≡ Some x = sym sits ∙ (ap (sitting_at h) here ∙ free.sits) in
        let none : y.hold ≡ None = ap (λ (o : Option Sitting). held_in o) same ∙ free.unheld in
        let gone : hold_over a.stock y.first y.hold ≡ None = ap (hold_over a.stock y.first) none in
        absurd (cc)
      where
        held_in : Option Sitting → Option Taking
        held_in None = None
        held_in (Some z) = z.hold

    sitting : (k' : ℕ) (w' : Hold) (o : Option Sitting) → sitting_at h k ≡ o → hold_in (option_map (session_over a.stock) o) ≡ Some w → is_same x.first key w.from w.key ≡ false
    sitting k' w' None sits at = absurd (cc)
    sitting k' w' (Some y) sits at = ⊎_elim (λ (here : k ≡ seat). absurd (own y here sits at)) (λ (apart : k ≢ seat). hold y apart sits y.hold refl at) (decide_line k seat)

-- where its number is an open part's
held_number : (a : Stored) (s : StoreState) (h : HubState) (k : ℕ) (w : Hold) (q : MarkOf ℕ) → HubFits a s h → StoreTied s → Member q s.stock.parts → hold_in (session_at (node_with a s h) k) ≡ Some w → w.number ≡ q.number → (w.from ≡ q.from) × (w.key ≡ q.key)
held_number a s h k w q f tied there at same = sitting (sitting_at h k) refl (ap hold_in (sym (session_of a s h k)) ∙ at)
  where
    some_same : {A : Type 0} {u v : A} → Some u ≡ Some v → u ≡ v
    some_same e = cc

    hold : (y : Sitting) → sitting_at h k ≡ Some y → (o : Option Taking) → y.hold ≡ o → IfHeld s y.first o → hold_over a.stock y.first o ≡ Some w → (w.from ≡ q.from) × (w.key ≡ q.key)
    hold y sits None is held at = absurd (cc)
    hold y sits (Some t) is held at =
        let e = some_same at in
        let number : t.part ≡ q.number = ap (λ (g : Hold). g.number) e ∙ same in
        let one : part_under y.first t ≡ q = some_same (sym held.part ∙ (ap (λ (n : ℕ). part_in n s.stock.parts) number ∙ (tied.parts q there).0)) in
        (sym (ap (λ (g : Hold). g.from) e) ∙ ap (λ (p : MarkOf ℕ). p.from) one, sym (ap (λ (g : Hold). g.key) e) ∙ ap (λ (p : MarkOf ℕ). p.key) one)

    sitting : (o : Option Sitting) → sitting_at h k ≡ o → hold_in (option_map (session_over a.stock) o) ≡ Some w → (w.from ≡ q.from) × (w.key ≡ q.key)
    sitting None sits at = absurd (cc)
    sitting (Some y) sits at = hold y sits y.hold refl (f.sittings k y sits).hold at

sure : {A : Type 0} {u v : A} → Some u ≡ Some v → u ≡ v
sure e = cc

never : {A : Type 0} {u : A} → None ≡ Some u → ⊥
never e = cc

-- a mark that is of a part's file is of the same
same_mark : (from : Address) (key : Key) (q : MarkOf ℕ) (m : Mark) → is_same from key q.from q.key ≡ true → is_same q.from q.key m.from m.key ≡ true → is_same from key m.from m.key ≡ true
same_mark from key q m e f =
    let x = is_same_true from key q.from q.key e in
    let y = is_same_true q.from q.key m.from m.key f in
    is_same_at from key m.from m.key (x.0 ∙ y.0) (x.1 ∙ y.1)

both_each : {A : Type 0} (P Q : A → Type 0) (xs : List A) → Each P xs → Each Q xs → Each (λ x. P x × Q x) xs
both_each P Q [] a b = tt
both_each P Q (x ∷ xs) a b = ((a.0, b.0), both_each P Q xs a.1 b.1)

pub part_numbered : (a : Stored) (s : StoreState) (h : HubState) (seat : ℕ) (x : Sitting) (key : Key) → IsFree a s h seat x key → part_number x.first key s.drawn s.stock ≤ MAX_NUMBER → PartNumber (node_with a s h) x.first key (part_number x.first key s.drawn s.stock)
part_numbered a s h seat x key free few =
    subst (PartNumber n x.first key) (sym number)
    (go (mark_of x.first key a.stock.state) refl (part_of x.first key s.stock.parts) refl (subst (λ (k : ℕ). k ≤ MAX_NUMBER) number few))
  where
    n : Node
    n = node_with a s h

    number : part_number x.first key s.drawn s.stock ≡ next_part (option_map (mark_map length) (mark_of x.first key a.stock.state)) (part_of x.first key s.stock.parts) s.drawn
    number = ap (λ (o : Option (MarkOf ℕ)). next_part o (part_of x.first key s.stock.parts) s.drawn) (marks_are a s x.first key free.fits.stock)

    go : (om : Option Mark) → mark_of x.first key a.stock.state ≡ om → (oq : Option (MarkOf ℕ)) → part_of x.first key s.stock.parts ≡ oq → next_part (option_map (mark_map length) om) oq s.drawn ≤ MAX_NUMBER → PartNumber (node_with a s h) x.first key (next_part (option_map (mark_map length) om) oq s.drawn)
    go (Some m) is oq at few =
        let f = free.fits in
        let w = found (λ (y : Mark). is_same x.first key y.from y.key) a.stock.state.marks m is in
        let drawn = each_at (λ (y : Mark). (1 ≤ y.number) × (y.number ≤ s.drawn)) a.stock.state.marks m w.there f.sound.parts.marks_drawn in
        record {
          its_own = λ q e. ap (λ (y : Mark). y.number) (sure (sym e ∙ is));
          unmarked = λ none. absurd (never (sym none ∙ is));
          unreceived = each_as (λ (r : Receipt). m.number ≢ r.number) (λ (r : Receipt). r.number ≢ m.number) a.stock.state.inbox (λ r there e same. e (sym same)) (each_at (λ (y : Mark). Each (λ (r : Receipt). y.number ≢ r.number) a.stock.state.inbox) a.stock.state.marks m w.there f.sound.parts.apart);
          unheld = λ k g held same. off (same_file x.first key (record { number = 0; from = g.from; key = g.key; bytes = 0 }) m.from m.key w.passes ((each_at (λ (y : Mark). (y.number ≡ g.number → is_same g.from g.key y.from y.key ≡ true) × (is_same g.from g.key y.from y.key ≡ true → y.number ≡ g.number)) a.stock.state.marks m w.there (f.sound.parts.held_mark k g held)).0 (sym same))) (held_apart a s h seat x key free k g held);
          some = drawn.0;
          next = let few' = drawn.1 in omega (arith, few');
          few = few;
        }
    go None is (Some q) at few =
        let f = free.fits in
        let w = found (λ (y : MarkOf ℕ). is_same x.first key y.from y.key) s.stock.parts q at in
        let fit = f.parts q w.there in
        let drawn = free.tied.parts q w.there in
        record {
          its_own = λ m e. absurd (never (sym is ∙ e));
          unmarked = λ none. each_as (λ (y : Mark). (is_same x.first key y.from y.key ≡ false) × ((y.number ≡ q.number → is_same q.from q.key y.from y.key ≡ true) × (is_same q.from q.key y.from y.key ≡ true → y.number ≡ q.number))) (λ (y : Mark). y.number ≢ q.number) a.stock.state.marks
              (λ y there e same. off (same_mark x.first key q y w.passes (e.1.0 same)) e.0)
              (both_each (λ (y : Mark). is_same x.first key y.from y.key ≡ false) _ a.stock.state.marks (none_passes (λ (y : Mark). is_same x.first key y.from y.key) a.stock.state.marks is) fit.marks);
          unreceived = fit.receipts;
          unheld = λ k g held same. let e = held_number a s h k g q f free.tied w.there held same in off (subst (λ (u : Address × Key). is_same x.first key u.0 u.1 ≡ true) (λ i. (sym e.0 i, sym e.1 i)) w.passes) (held_apart a s h seat x key free k g held);
          some = drawn.2;
          next = let few' = drawn.3 in omega (arith, few');
          few = few;
        }
    go None is None at few =
        let f = free.fits in
        record {
          its_own = λ m e. absurd (never (sym is ∙ e));
          unmarked = λ none. each_as (λ (y : Mark). (1 ≤ y.number) × (y.number ≤ s.drawn)) (λ (y : Mark). y.number ≢ s.drawn + 1) a.stock.state.marks (λ y there e same. let few' = e.1 in absurd (omega (arith, few', same))) f.sound.parts.marks_drawn;
          unreceived = each_as (λ (r : Receipt). (1 ≤ r.number) × (r.number ≤ s.drawn)) (λ (r : Receipt). r.number ≢ s.drawn + 1) a.stock.state.inbox (λ r there e same. let few' = e.1 in absurd (omega (arith, few', same))) f.sound.parts.receipts_drawn;
          unheld = λ k g held same. let few' = (f.sound.parts.holds_drawn k g held).1 in absurd (omega (arith, few', same));
          some = omega arith;
          next = omega arith;
          few = few;
        }
