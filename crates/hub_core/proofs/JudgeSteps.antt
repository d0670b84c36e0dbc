-- What a hub judges of a file is the answer that applies at its node.
use Rattle.std.proofs.Common.{◌≡◌, ◌⊎◌, ℕ, ◌≤◌, Bool, true, false, cond, ◌||◌, not, List, [], ◌∷◌, Option, Some, None, length, option_map, refl, sym, ◌∙◌, ap, subst, inl, inr, arith}
use Rattle.std.specs.List.{list_any}
use Rattle.ftn_addr.specs.Address.{Address}
use Rattle.ftn_addr.specs.Files.{is_same}
use Rattle.ftn_addr.specs.Key.{Key, same_key}
use Rattle.node_model.specs.declared.words.Known.{Known}
use Rattle.node_model.specs.declared.words.Known.TheVariants.{New, Received, Refused}
use Rattle.node_model.specs.declared.desk.FileIn.{FileIn}
use Rattle.node_model.specs.declared.desk.FileIn.TheVariants as F
use Rattle.node_model.specs.Items.{Mark}
use Rattle.node_model.specs.Lists.{Member, Each}
use Rattle.node_model.specs.Durable.{Durable, is_known, is_received, is_refused, marked, mark_of, bytes_of_mark}
use Rattle.node_model.specs.Node.{Hold, hold_in}
use Rattle.node_model.specs.Rows.{HeldElsewhere, Acceptable, Applies}
use Rattle.node_model.specs.Sound.{SoundInbox}
use Rattle.node_model.specs.Stocks.{Sizes, sizes, known_in}
use Rattle.node_model.specs.Stores.{Stored, StoreState}
use Rattle.node_model.proofs.Lists.{is_same_true, is_same_refl}
use Rattle.node_model.proofs.StockMaps.{known_in-map}
use Rattle.hub_core.specs.Hubs.{Taking, Sitting, HubState, sitting_at, session_over, hold_over, node_with}
use Rattle.hub_core.specs.HubLaws.{session_of}
use Rattle.hub_core.specs.Steps.{HeldBy, MayBeTaken, Judged, word_of, is_new, sitting_holds, sits_on}
use Rattle.hub_core.proofs.Finding.{found}
use Rattle.hub_core.proofs.Telling.{mark_len_is}

-- known

new_is : (from : Address) (key : Key) (d : Durable) → is_new (known_in from key d) ≡ not (is_known from key d)
new_is from key d = go (is_received from key d) (is_refused from key d)
  where
    go : (a b : Bool) → is_new (cond a Received (cond b Refused New)) ≡ not (a || b)
    go true b = refl
    go false true = refl
    go false false = refl

pub known_is : (a : Stored) (s : StoreState) (from : Address) (key : Key) → s.stock ≡ sizes a.stock → is_new (known_in from key s.stock.state) ≡ not (is_known from key a.stock.state)
known_is a s from key is =
    ap (λ (t : Sizes). is_new (known_in from key t.state)) is ∙ (ap is_new (known_in-map length from key a.stock.state) ∙ new_is from key a.stock.state)

not_true : (b : Bool) → not b ≡ true → b ≡ false
not_true true e = absurd (cc)
not_true false e = refl

not_false : (b : Bool) → not b ≡ false → b ≡ true
not_false true e = refl
not_false false e = absurd (cc)

pub unknown_is : (a : Stored) (s : StoreState) (from : Address) (key : Key) → s.stock ≡ sizes a.stock → is_new (known_in from key s.stock.state) ≡ true → is_known from key a.stock.state ≡ false
unknown_is a s from key is new = not_true _ (sym (known_is a s from key is) ∙ new)

pub store_new : (k : Known) → is_new k ≡ true → k ≡ New
store_new New e = refl
store_new Received e = absurd (let clash : false ≡ true = e in cc)
store_new Refused e = absurd (let clash : false ≡ true = e in cc)

-- held elsewhere

record HoldsHere (from : Address) (key : Key) (o : Option Sitting) : Type 0 where
  pub x : Sitting
  pub is : o ≡ Some x
  pub t : Taking
  pub holds : x.hold ≡ Some t
  pub same : is_same from key x.first t.key ≡ true

holds_here : (from : Address) (key : Key) (o : Option Sitting) → sitting_holds from key o ≡ true → HoldsHere from key o
holds_here from key None e = absurd (let clash : false ≡ true = e in cc)
holds_here from key (Some x) e = go x.hold refl e
  where
    go : (o : Option Taking) → x.hold ≡ o → sits_on from key x.first o ≡ true → HoldsHere from key (Some x)
    go None is e = absurd (let clash : false ≡ true = e in cc)
    go (Some t) is e = record { x = x; is = refl; t = t; holds = is; same = e }

pub held_elsewhere : (a : Stored) (s : StoreState) (h : HubState) (seat : ℕ) (from : Address) (key : Key) → HeldBy h.chairs seat from key → HeldElsewhere (node_with a s h) seat from key
held_elsewhere a s h seat from key by =
    let w = holds_here from key (sitting_at h by.other) by.holds in
    record {
      other = by.other;
      apart = by.apart;
      hold = record { number = w.t.part; from = w.x.first; key = w.t.key; bytes = Rattle.node_model.specs.Stocks.body_of w.t.part a.stock; stored = true; taking = w.t.taking };
      holds = ap hold_in (session_of a s h by.other ∙ ap (option_map (session_over a.stock)) w.is) ∙ ap (hold_over a.stock w.x.first) w.holds;
      same = w.same;
    }

pub by_held : (a : Stored) (s : StoreState) (h : HubState) (seat : ℕ) (from : Address) (key : Key) → HeldElsewhere (node_with a s h) seat from key → HeldBy h.chairs seat from key
by_held a s h seat from key e =
    record { other = e.other; apart = e.apart; holds = go (sitting_at h e.other) (ap hold_in (sym (session_of a s h e.other)) ∙ e.holds) }
  where
    deep : (first : Address) (t : Option Taking) → hold_over a.stock first t ≡ Some e.hold → sits_on from key first t ≡ true
    deep first None is = absurd (cc)
    deep first (Some t) is =
        let f : first ≡ e.hold.from = ap (λ (o : Option Hold). from_in o first) is in
        let k : t.key ≡ e.hold.key = ap (λ (o : Option Hold). key_in o t.key) is in
        subst (λ (q : Address × Key). is_same from key q.0 q.1 ≡ true) (λ i. (sym f i, sym k i)) e.same
      where
        from_in : Option Hold → Address → Address
        from_in None d = d
        from_in (Some g) d = g.from

        key_in : Option Hold → Key → Key
        key_in None d = d
        key_in (Some g) d = g.key

    go : (o : Option Sitting) → hold_in (option_map (session_over a.stock) o) ≡ Some e.hold → sitting_holds from key o ≡ true
    go None is = absurd (cc)
    go (Some x) is = deep x.first x.hold is

-- marks

each_member : (P : Mark → Type 0) (xs : List Mark) (m : Mark) → Member m xs → Each P xs → P m
each_member P [] m there each = absurd there
each_member P (x ∷ xs) m (inl same) each = subst P (sym same) each.0
each_member P (x ∷ xs) m (inr there) each = each_member P xs m there each.1

pub mark_fits : (d : Durable) (from : Address) (key : Key) → SoundInbox d → length (marked from key d) ≤ key.size
mark_fits d from key sound = go (mark_of from key d) refl
  where
    go : (o : Option Mark) → mark_of from key d ≡ o → length (bytes_of_mark o) ≤ key.size
    go None is = omega arith
    go (Some m) is =
        let f = found (λ (x : Mark). is_same from key x.from x.key) d.marks m is in
        let same = is_same_true from key m.from m.key f.passes in
        subst (λ (k : Key). length m.bytes ≤ k.size) (sym same.1) (each_member (λ (x : Mark). length x.bytes ≤ x.key.size) d.marks m f.there sound.mark_sizes)

-- missed

some_address : Address
some_address = record { zone = 0; net = 0; node = 0; point = 0; domain = [] }

key_same : (k l : Key) → same_key k l ≡ true → k ≡ l
unfolding some_address
key_same k l e = (is_same_true some_address k some_address l e).1

key_itself : (k : Key) → same_key k k ≡ true
unfolding some_address
key_itself k = is_same_refl some_address k

missed_there : (key : Key) (ks : List Key) → list_any (λ k. same_key key k) ks ≡ true → Member key ks
missed_there key [] e = absurd (let clash : false ≡ true = e in cc)
missed_there key (k ∷ ks) e = go (same_key key k) refl e (missed_there key ks)
  where
    go : (b : Bool) → same_key key k ≡ b → (b || list_any (λ l. same_key key l) ks) ≡ true → (list_any (λ l. same_key key l) ks ≡ true → Member key ks) → (key ≡ k) ⊎ Member key ks
    go true is e rest = inl (key_same key k is)
    go false is e rest = inr (rest e)

there_missed : (key : Key) (ks : List Key) → list_any (λ k. same_key key k) ks ≡ false → Member key ks → ⊥
there_missed key [] e m = m
there_missed key (k ∷ ks) e (inl same) = clash (same_key key k) (subst (λ (l : Key). same_key key l ≡ true) same (key_itself key)) e
  where
    clash : (b : Bool) → b ≡ true → (b || list_any (λ l. same_key key l) ks) ≡ false → ⊥
    clash true t e = cc
    clash false t e = cc
there_missed key (k ∷ ks) e (inr m) = there_missed key ks (rest (same_key key k) e) m
  where
    rest : (b : Bool) → (b || list_any (λ l. same_key key l) ks) ≡ false → list_any (λ l. same_key key l) ks ≡ false
    rest true e = absurd (cc)
    rest false e = e

-- the answer

taken_is : (a : Stored) (s : StoreState) (h : HubState) (seat : ℕ) (x : Sitting) (key : Key) → s.stock ≡ sizes a.stock → MayBeTaken seat x key s h → Acceptable seat (session_over a.stock x) key (node_with a s h)
taken_is a s h seat x key is m =
    record { unknown = unknown_is a s x.first key is m.unknown; wanted = m.wanted; free = λ held. m.free (by_held a s h seat x.first key held) }

pub judged_applies : (a : Stored) (s : StoreState) (h : HubState) (seat : ℕ) (x : Sitting) (key : Key) (offset : ℕ) (word : FileIn) → s.stock ≡ sizes a.stock → SoundInbox a.stock.state → Judged seat x key offset word s h → Applies seat (session_over a.stock x) key offset (word_of word) (node_with a s h)
judged_applies a s h seat x key offset F.Have is sound j = not_false _ (sym (known_is a s x.first key is) ∙ j)
judged_applies a s h seat x key offset F.Refuse is sound j = (unknown_is a s x.first key is j.0, j.1)
judged_applies a s h seat x key offset F.Elsewhere is sound j = (unknown_is a s x.first key is j.0, j.1, held_elsewhere a s h seat x.first key j.2)
judged_applies a s h seat x key offset F.Go is sound j = (taken_is a s h seat x key is j.0, j.1 ∙ mark_len_is a s x.first key is, j.2)
judged_applies a s h seat x key offset F.Whole is sound j =
    let len = j.1 ∙ mark_len_is a s x.first key is in
    let fits = mark_fits a.stock.state x.first key sound in
    let far = j.2 in
    (taken_is a s h seat x key is j.0, len, omega (arith, len, fits, far))
judged_applies a s h seat x key offset (F.From place) is sound j =
    (taken_is a s h seat x key is j.0, j.1 ∙ mark_len_is a s x.first key is, j.2, there_missed key x.missed j.3)
judged_applies a s h seat x key offset F.Late is sound j =
    (taken_is a s h seat x key is j.0, (λ same. j.1 (same ∙ sym (mark_len_is a s x.first key is))), missed_there key x.missed j.2)
