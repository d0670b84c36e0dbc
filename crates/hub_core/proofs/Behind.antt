-- The disk failed in a call behind a mark: it failed in both together.
use Rattle.std.proofs.Common.{◌≡◌, ℕ, Bool, true, false, List, [], ◌++◌, Option, Some, None, option_map, refl, sym, ◌∙◌, ap, subst, append_assoc}
use Rattle.std.proofs.lemmas.List.{append-nil}
use Rattle.ftn_addr.specs.Address.{Address}
use Rattle.ftn_addr.specs.Counts.{Increased}
use Rattle.node_model.specs.Items.{Mark, MarkOf}
use Rattle.node_model.specs.Lists.{Member}
use Rattle.node_model.specs.Node.{Logged}
use Rattle.node_model.specs.Calls.{Logs, Counts}
use Rattle.node_model.specs.Stocks.{part_in}
use Rattle.node_model.specs.Stores.{Shelf, Stored, StoreState, TellsOn, shelf_of}
use Rattle.node_model.specs.Stores as T
use Rattle.node_model.proofs.Lists.{Each-append}
use Rattle.hub_core.specs.Hubs.{Taking}
use Rattle.hub_core.specs.Steps.{Broke, Stays, ended, part_under}
use Rattle.hub_core.proofs.Ends.{ended_stored, ended_content, ended_counts, marked_stored}
use Rattle.hub_core.proofs.Filing.{ended_seat}
use Rattle.hub_core.proofs.LeaveSteps.{ended_stored_parts}
use Rattle.hub_core.proofs.Marking.{ended_parts}

-- the log goes on with a mark of the seat at most
ended_log : (a : Stored) (s : StoreState) (from : Address) (o : Option Taking) → Logs s.seat a.log (ended_stored from o s a).log
ended_log a s from None = record { rest = []; grows = sym (append-nil a.log); own = tt }
ended_log a s from (Some t) = go (T.is_ahead (part_under from t) s)
  where
    go : (b : Bool) → Logs s.seat a.log (marked_stored b (part_under from t) s.seat a).log
    go true = record { rest = _; grows = refl; own = (refl, tt) }
    go false = record { rest = []; grows = sym (append-nil a.log); own = tt }

logs_then : (seat : ℕ) (a b c : List Logged) → Logs seat a b → Logs seat b c → Logs seat a c
logs_then seat a b c x y = record {
  rest = x.rest ++ y.rest;
  grows = y.grows ∙ (ap (λ (l : List Logged). l ++ y.rest) x.grows ∙ append_assoc a x.rest y.rest);
  own = Each-append (λ (r : Logged). r.seat ≡ seat) x.rest y.rest x.own y.own;
}

pub broke_behind : (P : Shelf → Type 0) (loses : MarkOf ℕ → Bool) (s t : StoreState) (from : Address) (o : Option Taking) → Broke P loses (ended from o s) t → Broke P loses s t
broke_behind P loses s t from o b = record {
  rose = subst (λ (c : Counts). Increased c.faults t.counts.faults) counts b.rose;
  counts = b.counts ∙ ap (λ (c : Counts). record c { faults = t.counts.faults; broken = Some t.counts.faults }) counts;
  content = go s.content t.content (subst (λ (c : Option Stored). TellsOn (λ a z. P (shelf_of z) × Logs (ended from o s).seat a.log z.log × ((p : MarkOf ℕ) → Stays loses (ended from o s) p → part_in p.number z.stock.parts ≡ part_in p.number a.stock.parts)) c t.content) (ended_content from o s) b.content);
  seat = b.seat ∙ ended_seat from o s;
}
  where
    counts : (ended from o s).counts ≡ s.counts
    counts = ended_counts from o s

    go : (c e : Option Stored) → TellsOn (λ a z. P (shelf_of z) × Logs (ended from o s).seat a.log z.log × ((p : MarkOf ℕ) → Stays loses (ended from o s) p → part_in p.number z.stock.parts ≡ part_in p.number a.stock.parts)) (option_map (ended_stored from o s) c) e → TellsOn (λ a z. P (shelf_of z) × Logs s.seat a.log z.log × ((p : MarkOf ℕ) → Stays loses s p → part_in p.number z.stock.parts ≡ part_in p.number a.stock.parts)) c e
    go None None on = tt
    go None (Some z) on = absurd on
    go (Some a) None on = absurd on
    go (Some a) (Some z) on = (
      on.0,
      logs_then s.seat a.log (ended_stored from o s a).log z.log (ended_log a s from o) (subst (λ (n : ℕ). Logs n (ended_stored from o s a).log z.log) (ended_seat from o s) on.1),
      λ p stays.
          on.2 p (subst (λ (ps : List (MarkOf ℕ)). Member p ps) (sym (ended_parts from o s)) stays.0, stays.1)
          ∙ ap (λ (ps : List Mark). part_in p.number ps) (ended_stored_parts a s from o),
    )
