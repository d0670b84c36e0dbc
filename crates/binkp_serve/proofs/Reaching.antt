-- Rows of a seat, one behind another.
use Rattle.std.proofs.Common.{◌≡◌, ◌⊎◌, inl, inr, ℕ, true, List, [], ◌∷◌, ◌++◌, Option, Some, None, refl, sym, ◌∙◌, ap, subst, arith}
use Rattle.ftn_addr.specs.Counts.{CountGrew, Increased}
use Rattle.ftn_addr.proofs.CountsGrow.{count_grew-increased, count_grew-refl, count_grew-then, increased-then, then-increased}
use Rattle.binkp_link.specs.Lines.{LineState}
use Rattle.hub_core.specs.Hubs.{HubState, hub_stand}
use Rattle.node_model.specs.Calls.{Answer, Beside, Call, CallsBeside, Caused, Counts, DeskState, Event, Knows, Made_row, Missing, OwnRow, Rowed, Turned, Turns, counts_of}
use Rattle.node_model.specs.Calls as C
use Rattle.node_model.specs.StoreStates.{StoreStand}
use Rattle.node_model.proofs.Lists.{some_inj}
use Rattle.outbound_desk.proofs.Joining.{told_by}
use Rattle.outbound_desk.proofs.Rows.{joined}
use Rattle.session_core.specs.Stages.{Setting}
use Rattle.session_run.proofs.Chains.{whole_leads}
use Rattle.session_run.specs.Laws.{IsSession}
use Rattle.session_run.specs.Reports.{ReportText}

-- some rows of a seat lead from the one to the other
abbrev pub Rows : ℕ → Knows → Knows → Type 0
Rows seat old new = (events : List Event) × Beside seat old events new

pub rows_none : (seat : ℕ) (k : Knows) → Rows seat k k
rows_none seat k = ([], refl)

pub rows_then : (seat : ℕ) (a b c : Knows) → Rows seat a b → Rows seat b c → Rows seat a c
rows_then seat a b c first second = (first.0 ++ second.0, (joined seat a first.0 b first.1 second.0 c second.1).rows)

-- A call of a session, with the rows beside it.

own_rows : (seat : ℕ) (before : List Event) (old : Knows) (asked : Event) (new : Knows) → OwnRow seat before old asked new → Rows seat old new
own_rows seat before old asked new (Made_row made caused step) = (asked ∷ [], (new, caused, step, refl))
own_rows seat before old asked new (Missing fault ends is same) = ([], same)

rowed : (seat : ℕ) (old : Knows) (e : Turned) (new : Knows) → Rowed seat old e new → Rows seat old new
rowed seat old e new r =
    rows_then seat old r.asks new (e.before, r.before)
    (rows_then seat r.asks r.answers new (own_rows seat e.before r.asks e.asked r.answers r.own) (e.after, r.after))

call_rows : (old : DeskState) (e : Turned) (new : DeskState) → CallsBeside true old e new → Rows old.seat old.knows new.knows
call_rows old e new call = subst (λ (k : Knows). Rows old.seat k new.knows) call.drift (rowed old.seat call.mid e new.knows call.rows)

record TurnRows (old new : DeskState) : Type 0 where
  rows : Rows old.seat old.knows new.knows
  seat : new.seat ≡ old.seat

turns_rows : (old : DeskState) (es : List Turned) (new : DeskState) → Turns true old es new → TurnRows old new
turns_rows old [] new same = record { rows = ([], ap (λ (d : DeskState). d.knows) same); seat = ap (λ (d : DeskState). d.seat) same }
turns_rows old (e ∷ es) new (mid, call, rest) =
    let r = turns_rows mid es new rest in
    record {
      rows = rows_then old.seat old.knows mid.knows new.knows (call_rows old e mid call) (subst (λ (k : ℕ). Rows k mid.knows new.knows) call.seat r.rows);
      seat = r.seat ∙ call.seat;
    }

-- A whole session.

pub record SessionRows (h g : HubState) (seat seat' : ℕ) (s t : StoreStand) : Type 0 where
  pub rows : Rows seat (told_by h seat s) (told_by g seat' t)
  pub same : seat' ≡ seat

pub session_rows : (setting : Setting) (line line' : LineState) (report : ReportText) (s t : StoreStand) (h g : HubState) (seat seat' : ℕ) → IsSession true setting line (hub_stand s h seat) report line' (hub_stand t g seat') → SessionRows h g seat seat' s t
session_rows setting line line' report s t h g seat seat' x =
    let r = turns_rows (hub_stand s h seat).state x.whole.last.events x.whole.last.desk (whole_leads true setting line (hub_stand s h seat).state report line' (hub_stand t g seat').state x.whole) in
    record {
      rows = subst (λ (k : Knows). Rows seat (told_by h seat s) k) (sym x.whole.desk_is.drift) r.rows;
      same = x.whole.desk_is.seat ∙ r.seat;
    }

-- What rows do to the counts: none falls, and a store that was whole breaks at a count to which its faults rose.

record Counted (a b : Counts) : Type 0 where
  grew : CountGrew a.faults b.faults
  broke : (count : ℕ) → b.broken ≡ Some count → (a.broken ≡ Some count) ⊎ (Increased a.faults count × CountGrew count b.faults)

counted_same : (a b : Counts) → b.faults ≡ a.faults → b.broken ≡ a.broken → Counted a b
counted_same a b faults broken = record {
  grew = subst (CountGrew a.faults) (sym faults) (count_grew-refl a.faults);
  broke = λ count is. inl (sym broken ∙ is);
}

disk_so : (a : Counts) (count : ℕ) (b : Counts) → ((a.broken ≡ Some count) × (b ≡ a)) ⊎ ((a.broken ≡ None) × Increased a.faults count × (b ≡ record a { faults = count; broken = Some count })) → Counted a b
disk_so a count b (inl x) = counted_same a b (ap (λ (c : Counts). c.faults) x.1) (ap (λ (c : Counts). c.broken) x.1)
disk_so a count b (inr x) = record {
  grew = subst (CountGrew a.faults) (sym (ap (λ (c : Counts). c.faults) x.2)) (count_grew-increased a.faults count x.1);
  broke = λ n at.
      let same : count ≡ n = some_inj (sym (ap (λ (c : Counts). c.broken) x.2) ∙ at) in
      inr (subst (Increased a.faults) same x.1, subst (CountGrew n) (sym (ap (λ (c : Counts). c.faults) x.2 ∙ same)) (count_grew-refl n));
}

read_so : (a : Counts) (count : ℕ) (b : Counts) → Increased a.faults count → b ≡ record a { faults = count } → Counted a b
read_so a count b rose is = record {
  grew = subst (CountGrew a.faults) (sym (ap (λ (c : Counts). c.faults) is)) (count_grew-increased a.faults count rose);
  broke = λ n at. inl (sym (ap (λ (c : Counts). c.broken) is) ∙ at);
}

same_so : (a b : Counts) → b ≡ a → Counted a b
same_so a b is = counted_same a b (ap (λ (c : Counts). c.faults) is) (ap (λ (c : Counts). c.broken) is)

counted_so : (a : Counts) (call : Call) (answer : Answer) (b : Counts) → Caused a call answer b → Counted a b
counted_so a call (C.Refused (C.Disk count)) b x = disk_so a count b x.1
counted_so a call (C.Refused (C.Read count)) b x = read_so a count b x.2 x.3
counted_so a call (C.Refused C.Full) b x = counted_same a b (ap (λ (c : Counts). c.faults) x.3) (ap (λ (c : Counts). c.broken) x.3)
counted_so a call (C.Refused C.No_memory) b x = same_so a b x.2
counted_so a call answer b x = same_so a b x.1

counted_then : (a b c : Counts) → Counted a b → Counted b c → Counted a c
counted_then a b c x y = record {
  grew = count_grew-then a.faults b.faults c.faults x.grew y.grew;
  broke = λ count is. go count (y.broke count is);
}
  where
    go : (count : ℕ) → (b.broken ≡ Some count) ⊎ (Increased b.faults count × CountGrew count c.faults) → (a.broken ≡ Some count) ⊎ (Increased a.faults count × CountGrew count c.faults)
    go count (inr (rose, grew)) = inr (then-increased a.faults b.faults count x.grew rose, grew)
    go count (inl was) = again (x.broke count was)
      where
        again : (a.broken ≡ Some count) ⊎ (Increased a.faults count × CountGrew count b.faults) → (a.broken ≡ Some count) ⊎ (Increased a.faults count × CountGrew count c.faults)
        again (inl is) = inl is
        again (inr (rose, grew)) = inr (rose, count_grew-then count b.faults c.faults grew y.grew)

beside_counted : (seat : ℕ) (a : Knows) (es : List Event) (b : Knows) → Beside seat a es b → Counted (counts_of a) (counts_of b)
beside_counted seat a [] b same = counted_same (counts_of a) (counts_of b) (ap (λ (k : Knows). (counts_of k).faults) same) (ap (λ (k : Knows). (counts_of k).broken) same)
beside_counted seat a (e ∷ es) b (mid, caused, step, rest) = counted_then (counts_of a) (counts_of mid) (counts_of b) (counted_so (counts_of a) e.call e.answer (counts_of mid) caused) (beside_counted seat mid es b rest)

pub broke_since : (seat : ℕ) (a : Knows) (es : List Event) (b : Knows) (count : ℕ) → Beside seat a es b → (counts_of a).broken ≡ None → (counts_of b).broken ≡ Some count → Increased (counts_of a).faults count × CountGrew count (counts_of b).faults
broke_since seat a es b count rows whole broken = go ((beside_counted seat a es b rows).broke count broken)
  where
    go : ((counts_of a).broken ≡ Some count) ⊎ (Increased (counts_of a).faults count × CountGrew count (counts_of b).faults) → Increased (counts_of a).faults count × CountGrew count (counts_of b).faults
    go (inl was) = absurd (let clash : None ≡ Some count = sym whole ∙ was in cc)
    go (inr since) = since
