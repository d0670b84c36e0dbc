-- Reading own names, and the nearest of takes.
use Rattle.std.proofs.Common.{◌≡◌, ◌⊎◌, inl, inr, ⊎_elim, ℕ, zero, suc, ◌+◌, ◌*◌, ◌<◌, ◌≤◌, ◌^◌, ◌==◌, Bool, true, false, List, [], ◌∷◌, ◌++◌, map, take, drop, length, get_or, Option, Some, None, refl, sym, ◌∙◌, ap, subst, arith}
use Rattle.std.proofs.Math.Nat.{pow-succ'}
use Rattle.std.specs.Prelude.{if◌then◌else◌}
use Rattle.std.specs.Str.{bytes_eq}
use Rattle.std.proofs.lemmas.Bool.Decides.{Decides-eqb}
use Rattle.std.proofs.lemmas.List.{drop_all, drop_more, map_push, take_more}
use Rattle.ftn_addr.specs.Address.{Address}
use Rattle.ftn_addr.specs.declared.limits.TheConstants.{MAX_NUMBER}
use Rattle.bso_outbound.specs.declared.kind.Kind.{Kind}
use Rattle.bso_outbound.specs.Kinds.{ending}
use Rattle.node_model.specs.Lists.{Each, first_that}
use Rattle.node_model.proofs.Lists.{Each-weaker, Member-append, Member-append_right, none_some, off}
use Rattle.node_store.specs.declared.takes.TakeName.{TakeName}
use Rattle.outbound_model.specs.OwnNames.{IsFor, digit_value, kind_of, kinds, number_of, spelled, value_behind}
use Rattle.outbound_take.specs.declared.outgoing.TakeLeft.{TakeLeft}
use Rattle.outbound_take.specs.Calls.{FirstFor, IfFor, IsFirst, owns}
use Rattle.outbound_take.specs.Plans.{Answers}
use Rattle.outbound_take.specs.Stand.{Left}
use Rattle.outbound_store.specs.Held.{left_of}

-- one digit more
value_last : (v : ℕ) (bytes : List ℕ) (b : ℕ) → value_behind v (bytes ++ b ∷ []) ≡ value_behind v bytes * 16 + digit_value b
value_last v [] b = refl
value_last v (x ∷ bytes) b = value_last (v * 16 + digit_value x) bytes b

pub value_more : (digits : List ℕ) (i d : ℕ) → i < length digits → value_behind 0 (take (i + 1) digits) ≡ value_behind 0 (take i digits) * 16 + digit_value (get_or digits i d)
value_more digits i d lt = ap (value_behind 0) (take_more digits i d lt) ∙ value_last 0 (take i digits) (get_or digits i d)

pub value_low : (i v d : ℕ) → v < 256 ^ i → d ≤ 168 → v * 16 + d < 256 ^ (i + 1)
value_low i v d low small =
    let p = pow-succ' 256 i in
    let e : 256 ^ (i + 1) ≡ 256 * 256 ^ i = ap (λ (k : ℕ). 256 ^ k) (let s : i + 1 ≡ suc i = omega arith in s) ∙ p in
    omega (arith, e, low, small)

pub value_fits : (i v d : ℕ) → i < 4 → v < 256 ^ i → d ≤ 168 → v * 16 + d < 2 ^ 32
value_fits zero v d lt low small = omega (arith, low, small)
value_fits (suc zero) v d lt low small = omega (arith, low, small)
value_fits (suc (suc zero)) v d lt low small = omega (arith, low, small)
value_fits (suc (suc (suc zero))) v d lt low small = omega (arith, low, small)
value_fits (suc (suc (suc (suc i)))) v d lt low small = absurd (omega (arith, lt))

-- Kinds.

pub kinds_more : (end : List ℕ) (xs : List Kind) (i : ℕ) (d : Kind) → i < length xs → bytes_eq end (ending (get_or xs i d)) ≡ false → first_that (λ kind. bytes_eq end (ending kind)) (drop i xs) ≡ first_that (λ kind. bytes_eq end (ending kind)) (drop (i + 1) xs)
kinds_more end xs i d lt other =
    ap (first_that (λ kind. bytes_eq end (ending kind))) (drop_more xs i d lt)
    ∙ ap (λ (b : Bool). if b then Some (get_or xs i d) else first_that (λ kind. bytes_eq end (ending kind)) (drop (i + 1) xs)) other

pub kind_short : (own : List ℕ) → length own < 26 → None ≡ kind_of own
unfolding kind_of
kind_short own short = ap (λ (end : List ℕ). first_that (λ kind. bytes_eq end (ending kind)) kinds) (sym (drop_all 26 own (omega (arith, short))))

pub kind_behind : (bytes own end : List ℕ) (kind : Option Kind) → bytes ≡ own → end ≡ drop 26 bytes → kind ≡ first_that (λ k. bytes_eq end (ending k)) kinds → kind ≡ kind_of own
unfolding kind_of
kind_behind bytes own end kind same at is =
    is ∙ ap (λ (e : List ℕ). first_that (λ k. bytes_eq e (ending k)) kinds) (at ∙ ap (drop 26) same)

-- Whether a take is for an address.

pub for_zone : (a : Address) (own : List ℕ) → (spelled 10 4 own ≡ a.zone → ⊥) → IsFor a own → ⊥
unfolding IsFor
for_zone a own other is = other is.0

pub for_net : (a : Address) (own : List ℕ) → (spelled 14 4 own ≡ a.net → ⊥) → IsFor a own → ⊥
unfolding IsFor
for_net a own other is = other is.1

pub for_node : (a : Address) (own : List ℕ) → (spelled 18 4 own ≡ a.node → ⊥) → IsFor a own → ⊥
unfolding IsFor
for_node a own other is = other is.2

pub for_all : (a : Address) (own : List ℕ) (n : ℕ) (same : Bool) → spelled 10 4 own ≡ a.zone → spelled 14 4 own ≡ a.net → spelled 18 4 own ≡ a.node → spelled 22 4 own ≡ n → same ≡ (n == a.point) → Answers (IsFor a own) same
unfolding IsFor
for_all a own n same zone net node point is = go same is
  where
    go : (b : Bool) → b ≡ (n == a.point) → Answers (IsFor a own) b
    go true e = (zone, net, node, point ∙ (Decides-eqb n a.point).0 (sym e))
    go false e = λ all. off (sym ((Decides-eqb n a.point).1 (sym point ∙ all.3)) ∙ sym e)

-- The nearest of some takes and of more.

module _ (dest : Address) (from : ℕ) where
  each_owns : (P : List ℕ → Type 0) (left more : List Left) → Each P (owns left) → Each P (owns more) → Each P (owns (left ++ more))
  each_owns P [] more a b = b
  each_owns P (x ∷ left) more a b = (a.0, each_owns P left more a.1 b)

  abbrev Behind : ℕ → List ℕ → Type 0
  Behind n own = IfFor dest (λ m. (m < from) ⊎ (n ≤ m)) own

  below_behind : (n : ℕ) (left : List Left) → Each (IfFor dest (λ m. m < from)) (owns left) → Each (Behind n) (owns left)
  below_behind n left all = Each-weaker (IfFor dest (λ m. m < from)) (Behind n) (λ own h kind is. inl (h kind is)) (owns left) all

  behind_lower : (n m : ℕ) → n ≤ m → (left : List Left) → Each (Behind m) (owns left) → Each (Behind n) (owns left)
  behind_lower n m le left all =
      Each-weaker (Behind m) (Behind n) (λ own h kind is. ⊎_elim (λ (below : number_of own < from). inl below) (λ (above : m ≤ number_of own). inr (omega (arith, le, above))) (h kind is)) (owns left) all

  with_more : (t : TakeLeft) (left more : List Left) → IsFirst dest from t left → Each (Behind t.take) (owns more) → IsFirst dest from t (left ++ more)
  with_more t left more is all = record {
    named = is.named;
    stands = Member-append (record { own = t.own; recorded = t.recorded }) left more is.stands;
    numbered = is.numbered;
    above = is.above;
    within = is.within;
    first = each_owns (Behind t.take) left more is.first all;
  }

  with_before : (t : TakeLeft) (left more : List Left) → IsFirst dest from t more → Each (Behind t.take) (owns left) → IsFirst dest from t (left ++ more)
  with_before t left more is all = record {
    named = is.named;
    stands = Member-append_right (record { own = t.own; recorded = t.recorded }) left more is.stands;
    numbered = is.numbered;
    above = is.above;
    within = is.within;
    first = each_owns (Behind t.take) left more all is.first;
  }

  pub none_first : (other : Option TakeLeft) (left more : List Left) → FirstFor dest from None left → FirstFor dest from other more → FirstFor dest from other (left ++ more)
  none_first None left more a b = each_owns (IfFor dest (λ m. m < from)) left more a b
  none_first (Some t) left more a b = with_before t left more b (below_behind t.take left a)

  pub none_other : (near : TakeLeft) (left more : List Left) → IsFirst dest from near left → FirstFor dest from None more → IsFirst dest from near (left ++ more)
  none_other near left more a b = with_more near left more a (below_behind near.take more b)

  pub other_nearer : (near other : TakeLeft) (left more : List Left) → other.take < near.take → IsFirst dest from near left → IsFirst dest from other more → IsFirst dest from other (left ++ more)
  other_nearer near other left more lt a b = with_before other left more b (behind_lower other.take near.take (omega (arith, lt)) left a.first)

  pub near_nearer : (near other : TakeLeft) (left more : List Left) → near.take ≤ other.take → IsFirst dest from near left → IsFirst dest from other more → IsFirst dest from near (left ++ more)
  near_nearer near other left more le a b = with_more near left more a (behind_lower near.take other.take le more b.first)

  -- One take.

  pub not_above : (t : TakeName) → number_of t.own ≡ t.take → (from ≤ t.take → ⊥) → FirstFor dest from None (left_of t ∷ [])
  not_above t is low = (λ kind named. below, tt)
    where
      below : number_of t.own < from
      below = omega (arith, is, low)

  pub not_for : (t : TakeName) → (IsFor dest t.own → ⊥) → FirstFor dest from None (left_of t ∷ [])
  not_for t other = (λ kind named. absurd (other named.addressed), tt)

  pub no_kind : (t : TakeName) → kind_of t.own ≡ None → FirstFor dest from None (left_of t ∷ [])
  no_kind t none = (λ kind named. none_some (sym none ∙ named.named), tt)

  pub one_left : (t : TakeName) (kind : Kind) → number_of t.own ≡ t.take → from ≤ t.take → t.take ≤ MAX_NUMBER → IsFor dest t.own → kind_of t.own ≡ Some kind → FirstFor dest from (Some (record { take = t.take; own = t.own; kind = kind; recorded = t.recorded })) (left_of t ∷ [])
  one_left t kind is above within addressed named = record {
    named = record { addressed = addressed; named = named };
    stands = inl refl;
    numbered = is;
    above = above;
    within = within;
    first = (λ k h. inr (omega (arith, is)), tt);
  }

  -- one take more of a list
  pub first_more : (takes : List TakeName) (i : ℕ) (x : TakeName) (first other result : Option TakeLeft) → i < length takes → x ≡ get_or takes i x → FirstFor dest from first (map left_of (take i takes))
      → FirstFor dest from other (left_of x ∷ []) → ((left more : List Left) → FirstFor dest from first left → FirstFor dest from other more → FirstFor dest from result (left ++ more)) → FirstFor dest from result (map left_of (take (i + 1) takes))
  first_more takes i x first other result lt is a b both =
      subst (FirstFor dest from result) (sym (ap (map left_of) (take_more takes i x lt ∙ ap (λ (y : TakeName). take i takes ++ y ∷ []) (sym is)) ∙ map_push left_of (take i takes) x)) (both (map left_of (take i takes)) (left_of x ∷ []) a b)
