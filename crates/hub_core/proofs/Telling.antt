-- What a store tells with the bytes, where it is known without them: a held part, and how long a mark is.
use Rattle.std.proofs.Common.{◌≡◌, [], Option, Some, None, length, option_map, nat_lt, refl, sym, ◌∙◌, ap}
use Rattle.ftn_addr.specs.Address.{Address}
use Rattle.ftn_addr.specs.Key.{Key}
use Rattle.node_model.specs.Items.{Mark}
use Rattle.node_model.specs.Durable.{Durable, durable_map, mark_map, mark_of, marked, bytes_of_mark}
use Rattle.node_model.specs.Node.{Hold}
use Rattle.node_model.specs.Rows.{is_ahead}
use Rattle.node_model.specs.Stocks.{Sizes, sizes, begins_with}
use Rattle.node_model.specs.Stores.{Stored, StoreState}
use Rattle.node_model.specs.Stores as T
use Rattle.node_model.proofs.StockMaps.{mark_of-map, begins_with-map}
use Rattle.hub_core.specs.Hubs.{Taking}
use Rattle.hub_core.specs.Steps.{part_under, mark_len}

begins_marked : (m : Option Mark) → begins_with [] m ≡ bytes_of_mark m
begins_marked None = refl
begins_marked (Some m) = refl

-- what a part begins with is what is marked
pub begins_is : (from : Address) (key : Key) (d : Durable) → begins_with [] (mark_of from key d) ≡ marked from key d
begins_is from key d = begins_marked (mark_of from key d)

state_is : (a : Stored) (s : StoreState) → s.stock ≡ sizes a.stock → s.stock.state ≡ durable_map length a.stock.state
state_is a s is = ap (λ (t : Sizes). t.state) is

pub marks_are : (a : Stored) (s : StoreState) (from : Address) (key : Key) → s.stock ≡ sizes a.stock → mark_of from key s.stock.state ≡ option_map (mark_map length) (mark_of from key a.stock.state)
marks_are a s from key is = ap (mark_of from key) (state_is a s is) ∙ mark_of-map length from key a.stock.state

pub mark_len_is : (a : Stored) (s : StoreState) (from : Address) (key : Key) → s.stock ≡ sizes a.stock → mark_len from key s ≡ length (marked from key a.stock.state)
mark_len_is a s from key is =
    ap (begins_with 0) (marks_are a s from key is)
    ∙ (sym (begins_with-map length [] (mark_of from key a.stock.state)) ∙ ap length (begins_is from key a.stock.state))

-- a part is ahead of its mark in the store where the hold is in the node
pub ahead_is : (a : Stored) (s : StoreState) (from : Address) (t : Taking) (h : Hold) → s.stock ≡ sizes a.stock → h.from ≡ from → h.key ≡ t.key → length h.bytes ≡ t.have → T.is_ahead (part_under from t) s ≡ is_ahead h a.stock.state
ahead_is a s from t h is f k len =
    λ i. nat_lt ((mark_len_is a s from t.key is ∙ ap (λ (q : Address × Key). length (marked q.0 q.1 a.stock.state)) (λ j. (sym f j, sym k j))) i) (sym len i)
