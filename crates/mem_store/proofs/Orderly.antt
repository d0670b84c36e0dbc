-- A `ListStore` stays in order in each of its calls.
use Rattle.std.proofs.Common.{◌≡◌, ◌≢◌, ℕ, zero, suc, ◌+◌, ◌<◌, ◌≤◌, Bool, true, false, not, cond, List, [], ◌∷◌, ◌++◌, sym, ◌∙◌, subst, arith, length, get_or, set}
use Rattle.std.specs.List.{remove}
use Rattle.ftn_addr.specs.Files.{is_same}
use Rattle.node_model.specs.Items.{Entry, Receipt}
use Rattle.node_model.specs.Lists.{Each, without}
use Rattle.node_model.proofs.Lists.{Each-append, Each-weaker, Each-without, is_same_flip}
use Rattle.mem_store.proofs.Places.{each_at, each_set, each_remove, one_set, one_push}
use Rattle.mem_store.specs.Comings.{Coming}
use Rattle.mem_store.specs.Orders.{Apart, AllApart, IsDrawn, IsOrderly}

-- a part of the same number, sender and key
pub record SameFile (y x : Coming) : Type 0 where
  pub number : y.number ≡ x.number
  pub from : y.from ≡ x.from
  pub key : y.key ≡ x.key

pub flip : (p q : Coming) → Apart p q → Apart q p
flip p q a = ((λ e. a.0 (sym e)), is_same_flip p.from p.key q.from q.key a.1)

alike : (y x q : Coming) → SameFile y x → Apart x q → Apart y q
alike y x q s a = ((λ e. a.0 (sym s.number ∙ e)), rw (s.from, s.key) a.1)

pub apart_rest : (ps : List Coming) (i : ℕ) (x : Coming) → AllApart ps → i < length ps → x ≡ get_or ps i x → Each (Apart x) (remove ps i)
apart_rest [] i x apart lt e = absurd (omega (arith, lt))
apart_rest (p ∷ ps) zero x apart lt e = subst (λ (z : Coming). Each (Apart z) ps) (sym e) apart.0
apart_rest (p ∷ ps) (suc i) x apart lt e =
    (flip p x (each_at (Apart p) ps i x apart.0 (omega arith) e), apart_rest ps i x apart.1 (omega arith) e)

apart_set : (ps : List Coming) (i : ℕ) (x y : Coming) → AllApart ps → i < length ps → x ≡ get_or ps i x → SameFile y x → AllApart (set ps i y)
apart_set [] i x y apart lt e s = tt
apart_set (p ∷ ps) zero x y apart lt e s =
    (Each-weaker (Apart p) (Apart y) (λ q a. alike y x q s (subst (λ (z : Coming). Apart z q) (sym e) a)) ps apart.0, apart.1)
apart_set (p ∷ ps) (suc i) x y apart lt e s =
    (each_set (Apart p) ps i y apart.0 (flip y p (alike y x p s (flip p x (each_at (Apart p) ps i x apart.0 (omega arith) e)))), apart_set ps i x y apart.1 (omega arith) e s)

apart_remove : (ps : List Coming) (i : ℕ) → i < length ps → AllApart ps → AllApart (remove ps i)
apart_remove [] i lt apart = absurd (omega (arith, lt))
apart_remove (p ∷ ps) zero lt apart = apart.1
apart_remove (p ∷ ps) (suc i) lt apart = (each_remove (Apart p) ps i (omega arith) apart.0, apart_remove ps i (omega arith) apart.1)

apart_push : (ps : List Coming) (y : Coming) → AllApart ps → Each (Apart y) ps → AllApart (ps ++ y ∷ [])
apart_push [] y apart all = (tt, tt)
apart_push (p ∷ ps) y apart all = (Each-append (Apart p) ps (y ∷ []) apart.0 (flip y p all.0, tt), apart_push ps y apart.1 all.1)

apart_without : (t : Coming → Bool) (ps : List Coming) → AllApart ps → AllApart (without t ps)
apart_without t [] apart = tt
apart_without t (p ∷ ps) apart = go (t p) (apart_without t ps apart.1)
  where
    go : (b : Bool) → AllApart (without t ps) → AllApart (cond (not b) (p ∷ without t ps) (without t ps))
    go true rest = rest
    go false rest = (Each-without (Apart p) t ps apart.0, rest)

abbrev Unreceived : List Receipt → Coming → Type 0
Unreceived inbox p = Each (λ (r : Receipt). r.number ≢ p.number) inbox

same_drawn : (drawn : ℕ) (y x : Coming) → SameFile y x → IsDrawn drawn x → IsDrawn drawn y
same_drawn drawn y x s d = subst (λ n. (1 ≤ n) × (n ≤ drawn)) (sym s.number) d

same_unreceived : (inbox : List Receipt) (y x : Coming) → SameFile y x → Unreceived inbox x → Unreceived inbox y
same_unreceived inbox y x s u = subst (λ n. Each (λ (r : Receipt). r.number ≢ n) inbox) (sym s.number) u

-- another part of that number, sender and key
pub orderly_set : (queue : List Entry) (inbox : List Receipt) (ps : List Coming) (drawn i : ℕ) (x y : Coming) → IsOrderly queue inbox ps drawn → i < length ps → x ≡ get_or ps i x → SameFile y x → IsOrderly queue inbox (set ps i y) drawn
orderly_set queue inbox ps drawn i x y o lt e s =
    record {
      apart = apart_set ps i x y o.apart lt e s;
      numbers = each_set (IsDrawn drawn) ps i y o.numbers (same_drawn drawn y x s (each_at (IsDrawn drawn) ps i x o.numbers lt e));
      entries = o.entries;
      receipts = o.receipts;
      receipts_drawn = o.receipts_drawn;
      unreceived = each_set (Unreceived inbox) ps i y o.unreceived (same_unreceived inbox y x s (each_at (Unreceived inbox) ps i x o.unreceived lt e));
    }

-- the part goes behind the others
pub orderly_again : (queue : List Entry) (inbox : List Receipt) (ps : List Coming) (drawn i : ℕ) (x y : Coming) → IsOrderly queue inbox ps drawn → i < length ps → x ≡ get_or ps i x → SameFile y x → IsOrderly queue inbox (remove ps i ++ y ∷ []) drawn
orderly_again queue inbox ps drawn i x y o lt e s =
    record {
      apart = apart_push (remove ps i) y (apart_remove ps i lt o.apart) (Each-weaker (Apart x) (Apart y) (λ q a. alike y x q s a) (remove ps i) (apart_rest ps i x o.apart lt e));
      numbers = Each-append (IsDrawn drawn) (remove ps i) (y ∷ []) (each_remove (IsDrawn drawn) ps i lt o.numbers) (same_drawn drawn y x s (each_at (IsDrawn drawn) ps i x o.numbers lt e), tt);
      entries = o.entries;
      receipts = o.receipts;
      receipts_drawn = o.receipts_drawn;
      unreceived = Each-append (Unreceived inbox) (remove ps i) (y ∷ []) (each_remove (Unreceived inbox) ps i lt o.unreceived) (same_unreceived inbox y x s (each_at (Unreceived inbox) ps i x o.unreceived lt e), tt);
    }

-- a part under the next number
pub orderly_open : (queue : List Entry) (inbox : List Receipt) (ps : List Coming) (drawn : ℕ) (y : Coming) → IsOrderly queue inbox ps drawn → y.number ≡ drawn + 1 → Each (λ (p : Coming). is_same y.from y.key p.from p.key ≡ false) ps → IsOrderly queue inbox (ps ++ y ∷ []) (drawn + 1)
orderly_open queue inbox ps drawn y o is none =
    record {
      apart = apart_push ps y o.apart (both ps o.numbers none);
      numbers = Each-append (IsDrawn (drawn + 1)) ps (y ∷ []) (Each-weaker (IsDrawn drawn) (IsDrawn (drawn + 1)) (λ p d. (d.0, omega (arith, d.1))) ps o.numbers) ((omega (arith, is), omega (arith, is)), tt);
      entries = o.entries;
      receipts = o.receipts;
      receipts_drawn = Each-weaker (λ (r : Receipt). r.number ≤ drawn) (λ (r : Receipt). r.number ≤ drawn + 1) (λ r le. omega (arith, le)) inbox o.receipts_drawn;
      unreceived = Each-append (Unreceived inbox) ps (y ∷ []) o.unreceived (Each-weaker (λ (r : Receipt). r.number ≤ drawn) (λ (r : Receipt). r.number ≢ y.number) (λ r le same. omega (arith, le, same, is)) inbox o.receipts_drawn, tt);
    }
  where
    both : (qs : List Coming) → Each (IsDrawn drawn) qs → Each (λ (p : Coming). is_same y.from y.key p.from p.key ≡ false) qs → Each (Apart y) qs
    both [] a b = tt
    both (q ∷ qs) a b = (((λ same. omega (arith, a.0.1, same, is)), b.0), both qs a.1 b.1)

-- parts are closed
pub orderly_close : (queue : List Entry) (inbox : List Receipt) (ps : List Coming) (drawn : ℕ) (t : Coming → Bool) → IsOrderly queue inbox ps drawn → IsOrderly queue inbox (without t ps) drawn
orderly_close queue inbox ps drawn t o =
    record {
      apart = apart_without t ps o.apart;
      numbers = Each-without (IsDrawn drawn) t ps o.numbers;
      entries = o.entries;
      receipts = o.receipts;
      receipts_drawn = o.receipts_drawn;
      unreceived = Each-without (Unreceived inbox) t ps o.unreceived;
    }

-- a part is a receipt now
pub orderly_receive : (queue : List Entry) (inbox : List Receipt) (ps : List Coming) (drawn i : ℕ) (x : Coming) (r : Receipt) → IsOrderly queue inbox ps drawn → i < length ps → x ≡ get_or ps i x → r.number ≡ x.number → IsOrderly queue (inbox ++ r ∷ []) (remove ps i) drawn
orderly_receive queue inbox ps drawn i x r o lt e is =
    record {
      apart = apart_remove ps i lt o.apart;
      numbers = each_remove (IsDrawn drawn) ps i lt o.numbers;
      entries = o.entries;
      receipts = one_push (λ (q : Receipt). q.number) inbox r o.receipts (subst (λ n. Each (λ (q : Receipt). q.number ≢ n) inbox) (sym is) (each_at (Unreceived inbox) ps i x o.unreceived lt e));
      receipts_drawn = Each-append (λ (q : Receipt). q.number ≤ drawn) inbox (r ∷ []) o.receipts_drawn (subst (λ n. n ≤ drawn) (sym is) (each_at (IsDrawn drawn) ps i x o.numbers lt e).1, tt);
      unreceived = both (remove ps i) (each_remove (Unreceived inbox) ps i lt o.unreceived) (apart_rest ps i x o.apart lt e);
    }
  where
    both : (qs : List Coming) → Each (Unreceived inbox) qs → Each (Apart x) qs → Each (Unreceived (inbox ++ r ∷ [])) qs
    both [] a b = tt
    both (q ∷ qs) a b = (Each-append (λ (w : Receipt). w.number ≢ q.number) inbox (r ∷ []) a.0 ((λ same. b.0.0 (sym is ∙ same)), tt), both qs a.1 b.1)

-- a queued file is settled
pub orderly_settle : (queue : List Entry) (inbox : List Receipt) (ps : List Coming) (drawn i : ℕ) (x y : Entry) → IsOrderly queue inbox ps drawn → i < length queue → x ≡ get_or queue i x → y.number ≡ x.number → IsOrderly (set queue i y) inbox ps drawn
orderly_settle queue inbox ps drawn i x y o lt e s =
    record {
      apart = o.apart;
      numbers = o.numbers;
      entries = one_set (λ (q : Entry). q.number) queue i x y o.entries lt e s;
      receipts = o.receipts;
      receipts_drawn = o.receipts_drawn;
      unreceived = o.unreceived;
    }
