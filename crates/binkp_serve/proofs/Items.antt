-- One item for each entry that waits, one entry after another.
use Rattle.std.proofs.Common.{◌≡◌, ℕ, zero, suc, ◌+◌, ◌<◌, length, take, get_or, Bool, true, false, cond, if◌then◌else◌, List, [], ◌∷◌, ◌++◌, map, Some, None, refl, sym, ◌∙◌, ap, subst}
use Rattle.std.specs.Prelude.{Option, filter, is_some, slice_get}
use Rattle.std.proofs.lemmas.List.{map-append, map_more}
use Rattle.ftn_addr.specs.Address.{Address, address}
use Rattle.call_hosts.specs.Hosts.{host_at}
use Rattle.call_sched.specs.declared.words.Wanted.{Wanted}
use Rattle.ledger_rec.specs.Items as F
use Rattle.ledger_rec.specs.declared.items.QueueItem.{QueueItem}
use Rattle.mail_conf.specs.Conf.{ConfText}
use Rattle.node_model.specs.Items.{Done, EntryOf, Live}
use Rattle.node_model.specs.Stocks.{is_live}
use Rattle.node_model.proofs.Lists.{some_inj}
use Rattle.node_store.specs.Contents.{Contents, entry_by}
use Rattle.nodelist_comp.specs.Node.{ListedNode}
use Rattle.binkp_serve.specs.Calling.{Waits, item_of, items_of, waits}

-- the items of these entries of a fold
abbrev pub items_in : ConfText → Option (List ListedNode) → Contents ℕ → List F.Entry → List Waits
items_in conf index c queue = map (item_of conf index) (filter (λ (e : EntryOf ℕ). is_live e.body) (map (entry_by c) queue))

live_is : (c : Contents ℕ) (e : F.Entry) → is_live (entry_by c e).body ≡ e.live
live_is c e = go e.live
  where
    go : (b : Bool) → is_live (if b then Live (c.queued e.number e.key.size) else Done) ≡ b
    go true = refl
    go false = refl

filter_more : {A : Type 0} (p : A → Bool) (xs ys : List A) → filter p (xs ++ ys) ≡ filter p xs ++ filter p ys
filter_more p [] ys = refl
filter_more {A} p (x ∷ xs) ys = go (p x) (filter_more p xs ys)
  where
    go : (b : Bool) → filter p (xs ++ ys) ≡ filter p xs ++ filter p ys → cond b (x ∷ filter p (xs ++ ys)) (filter p (xs ++ ys)) ≡ cond b (x ∷ filter p xs) (filter p xs) ++ filter p ys
    go true more = ap (λ (l : List A). x ∷ l) more
    go false more = more

-- one entry more
pub item_more : (conf : ConfText) (index : Option (List ListedNode)) (c : Contents ℕ) (queue : List F.Entry) (e : F.Entry) → items_in conf index c (queue ++ e ∷ []) ≡ items_in conf index c queue ++ items_of conf index (entry_by c e ∷ [])
item_more conf index c queue e =
    let p = λ (x : EntryOf ℕ). is_live x.body in
    ap (λ (l : List (EntryOf ℕ)). map (item_of conf index) (filter p l)) (map-append (entry_by c) queue (e ∷ []))
    ∙ (ap (map (item_of conf index)) (filter_more p (map (entry_by c) queue) (entry_by c e ∷ [])) ∙ map-append (item_of conf index) (filter p (map (entry_by c) queue)) (filter p (entry_by c e ∷ [])))

-- one that waits
pub item_waits : (conf : ConfText) (index : Option (List ListedNode)) (c : Contents ℕ) (e : F.Entry) → e.live ≡ true → items_of conf index (entry_by c e ∷ []) ≡ item_of conf index (entry_by c e) ∷ []
item_waits conf index c e live = ap (λ (b : Bool). map (item_of conf index) (cond b (entry_by c e ∷ []) [])) (live_is c e ∙ live)

-- one that is settled
pub item_passed : (conf : ConfText) (index : Option (List ListedNode)) (c : Contents ℕ) (e : F.Entry) → e.live ≡ false → items_of conf index (entry_by c e ∷ []) ≡ []
item_passed conf index c e done = ap (λ (b : Bool). map (item_of conf index) (cond b (entry_by c e ∷ []) [])) (live_is c e ∙ done)

-- A file of the list may be called for where there is a host for its address.

hosted : (conf : ConfText) (index : Option (List ListedNode)) (es : List (EntryOf ℕ)) (ws : List Wanted) (k : ℕ) (item : Wanted) → map waits ws ≡ map (item_of conf index) es → slice_get ws k ≡ Some item → item.callable ≡ is_some (host_at conf index (address item.addr))
hosted conf index es [] k item are there = absurd (let clash : None ≡ Some item = there in cc)
hosted conf index [] (w ∷ ws) k item are there = absurd (let clash : waits w ∷ map waits ws ≡ [] = are in cc)
hosted conf index (e ∷ es) (w ∷ ws) zero item are there =
    let one : waits w ≡ item_of conf index e = cc in
    subst (λ (x : Wanted). x.callable ≡ is_some (host_at conf index (address x.addr))) (some_inj there)
    (ap (λ (x : Waits). x.callable) one ∙ ap (λ (a : Address). is_some (host_at conf index a)) (sym (ap (λ (x : Waits). x.dest) one)))
hosted conf index (e ∷ es) (w ∷ ws) (suc k) item are there =
    let others : map waits ws ≡ map (item_of conf index) es = cc in
    hosted conf index es ws k item others there

pub item_has_host : (conf : ConfText) (index : Option (List ListedNode)) (queue : List (EntryOf ℕ)) (wanted : List Wanted) (place : ℕ) (item : Wanted) → map waits wanted ≡ items_of conf index queue → slice_get wanted place ≡ Some item → item.callable ≡ true → is_some (host_at conf index (address item.addr)) ≡ true
item_has_host conf index queue wanted place item are there callable = sym (hosted conf index (filter (λ (e : EntryOf ℕ). is_live e.body) queue) wanted place item are there) ∙ callable

-- one entry more of a queue
pub taken_more : (queue : List QueueItem) (i : ℕ) (x : QueueItem) → i < length queue → x ≡ get_or queue i x → map F.entry (take (i + 1) queue) ≡ map F.entry (take i queue) ++ F.entry x ∷ []
taken_more queue i x within is = map_more F.entry queue i x within ∙ ap (λ (y : QueueItem). map F.entry (take i queue) ++ F.entry y ∷ []) (sym is)
