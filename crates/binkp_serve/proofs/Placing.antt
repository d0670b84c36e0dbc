-- A node that serves calls for all that waits, unless a line came, a dial failed, memory was short or its store broke.
use Rattle.std.proofs.Common.{◌≡◌, ◌≢◌, ◌⊎◌, inl, inr, ℕ, zero, suc, ◌+◌, ◌<◌, ◌≤◌, arith, le_refl, Bool, true, false, List, [], ◌∷◌, length, map, Option, Some, None, Result, Ok, Err, refl, sym, ◌∙◌, ap, subst}
use Rattle.std.specs.Prelude.{IsSome, slice_get}
use Rattle.disk_model.specs.World.{World}
use Rattle.ftn_addr.specs.Address.{Address, address}
use Rattle.ftn_addr.specs.Counts.{Increased, next_count}
use Rattle.binkp_link.specs.Lines.{LineState, SinkState}
use Rattle.binkp_link.specs.LineSources.{Dialling, IsDialled, IsNext, LinesState, dialling, handed_back, missed}
use Rattle.binkp_link.specs.declared.line_source.Dialled.TheVariants as A
use Rattle.binkp_link.specs.declared.line_source.NextLine.TheVariants as N
use Rattle.call_sched.specs.NextCall as S
use Rattle.call_sched.specs.NextCall.{MayCall}
use Rattle.call_sched.specs.declared.words.Next.{Next}
use Rattle.call_sched.specs.declared.words.Next.TheVariants.{Call, WaitUntil, Nothing}
use Rattle.call_sched.specs.declared.words.Try.{Try}
use Rattle.call_sched.specs.declared.words.Wanted.{Wanted}
use Rattle.inbound_files.specs.Giving.{All_dealt_with, Deals_with, GivesFiles, None_left, None_yet, One_more as Deals_more, One_refused}
use Rattle.inbound_files.proofs.Kept.{still_whole}
use Rattle.mail_conf.specs.Conf.{ConfText}
use Rattle.node_model.specs.Calls.{Counts}
use Rattle.node_model.specs.Items.{EntryOf}
use Rattle.node_model.specs.Lists.{Member}
use Rattle.node_model.specs.StoreStates.{StoreState, StoreStand}
use Rattle.node_model.specs.Stores.{By_seat, Gave_so, Give_next, Refuses, StoreDoes, StoreKept, Well}
use Rattle.node_model.specs.declared.store.Gave.{Gave}
use Rattle.node_model.specs.declared.store.Gave.TheVariants.{Given, Held, Nothing as Gave_nothing}
use Rattle.node_model.specs.declared.store.StoreFault.{StoreFault}
use Rattle.node_model.specs.declared.store.StoreFault.TheVariants as SF
use Rattle.node_model.specs.declared.words.Flavour.{Flavour}
use Rattle.node_model.specs.declared.words.Flavour.TheVariants.{Hold}
use Rattle.node_store.specs.Stored.{Holding, stand_of}
use Rattle.nodelist_comp.specs.Node.{ListedNode}
use Rattle.session_auth.specs.Sides.{Side}
use Rattle.binkp_serve.specs.Calling.{Waits, items_of, queue_of, waits}
use Rattle.binkp_serve.specs.Placing.{LeavesNobody, NobodyCounts}
use Rattle.binkp_serve.specs.Rests.{GivesReceived, Rest, standing}
use Rattle.binkp_serve.specs.Serving.{A_line, Answers_one, By_count, By_disk, By_lines, By_stop, Calls_next, Calls_one, Dials, Ends, Giving, Gives, Holds_line, If_whole, Is_broken, Is_called, Is_due, IsNobody, Is_whole, Looks, Looks_again, Memory, No_clients, No_line, No_list, No_room, No_turn, Nobody, Not_due, One_more, Pauses, Server, Serves, Somebody, Turn, Turns, TurnsTo, at_start, broken_in, fell_short, self}
use Rattle.binkp_serve.specs.Telling.{Is_new, Is_old, Is_told, No_room as No_line_room, No_words, TellsLine, TellsNews}
use Rattle.binkp_serve.specs.declared.words.ServeEnd.{ServeEnd}

-- Counts.

abbrev Grew : ℕ → ℕ → Type 0
Grew a b = a ≤ b

next_grows : (n : ℕ) → n ≤ next_count n
next_grows n = omega arith

rises : (a n m : ℕ) → a ≤ n → m ≡ next_count n → Increased a m
rises a n m grew is = omega (arith, grew, is)

-- behind an increase there is one
rose_then : (a n m : ℕ) → Increased a n → n ≤ m → Increased a m
rose_then a n m rose grew = omega (arith, rose, grew)

-- What waits stays where files are given.

gave_queue : (inbound nonsecure : List ℕ) (s t : StoreState) (gave : Gave) → StoreDoes s (Give_next inbound nonsecure) (Gave_so gave) t → t.stock.state.queue ≡ s.stock.state.queue
gave_queue inbound nonsecure s t (Given number) does = ap (λ (x : StoreState). x.stock.state.queue) does.after
gave_queue inbound nonsecure s t (Held number) does = ap (λ (x : StoreState). x.stock.state.queue) does.after
gave_queue inbound nonsecure s t Gave_nothing does = ap (λ (x : StoreState). x.stock.state.queue) does.1

deals_queue : {S : Type 0} (stand : S → StoreStand) (inbound nonsecure : List ℕ) (old : S) (n : ℕ) (new : S) → Deals_with stand inbound nonsecure old n new → (stand new).state.stock.state.queue ≡ (stand old).state.stock.state.queue
deals_queue stand inbound nonsecure old _ _ None_yet = refl
deals_queue stand inbound nonsecure old _ new (Deals_more {n} {mid} deals gave dealt kept) =
    gave_queue inbound nonsecure (stand mid).state (stand new).state gave kept.made ∙ deals_queue stand inbound nonsecure old n mid deals

refused_queue : (inbound nonsecure : List ℕ) (old new : StoreStand) (fault : StoreFault) → StoreKept old (Give_next inbound nonsecure) (Refuses fault) new → new.state.counts.broken ≡ None → new.state.stock.state.queue ≡ old.state.stock.state.queue
refused_queue inbound nonsecure old new SF.Disk kept whole =
    absurd (let clash : None ≡ Some new.state.counts.faults = sym whole ∙ ap (λ (c : Counts). c.broken) kept.made.counts in cc)
refused_queue inbound nonsecure old new SF.Read kept whole = absurd kept.made.0
refused_queue inbound nonsecure old new SF.Full kept whole = absurd kept.made.0
refused_queue inbound nonsecure old new SF.NoMemory kept whole = ap (λ (x : StoreState). x.stock.state.queue) kept.made.1

round_queue : {S : Type 0} (stand : S → StoreStand) (inbound nonsecure : List ℕ) (files : ℕ) (old : S) {r : Result (Unit {0}) StoreFault} {new : S} → GivesFiles stand inbound nonsecure files old r new → (stand new).state.counts.broken ≡ None → (stand new).state.stock.state.queue ≡ (stand old).state.stock.state.queue
round_queue stand inbound nonsecure files old (All_dealt_with {new} deals) whole = deals_queue stand inbound nonsecure old files new deals
round_queue stand inbound nonsecure files old (None_left {n} {mid} {new} deals less kept) whole =
    gave_queue inbound nonsecure (stand mid).state (stand new).state Gave_nothing kept.made ∙ deals_queue stand inbound nonsecure old n mid deals
round_queue stand inbound nonsecure files old (One_refused {n} {mid} {new} deals less fault kept) whole =
    refused_queue inbound nonsecure (stand mid) (stand new) fault kept whole ∙ deals_queue stand inbound nonsecure old n mid deals

-- Memory that was short stays so.

line_short : {line : List ℕ} {out out' : _} (short short' : Bool) → TellsLine line out short out' short' → short' ≡ false → short ≡ false
line_short short short' (Is_told puts same) none = sym same ∙ none
line_short short short' (No_line_room same so) none = absurd (let clash : true ≡ false = sym so ∙ none in cc)

news_short : {news said said' : List ℕ} {out out' : _} (short short' : Bool) → TellsNews news said out short said' out' short' → short' ≡ false → short ≡ false
news_short short short' (Is_old a b c same) none = sym same ∙ none
news_short short short' (Is_new a b c same) none = sym same ∙ none
news_short short short' (No_words a b so) none = absurd (let clash : true ≡ false = sym so ∙ none in cc)

-- Of no call yet nobody waits for the time to come.

member_at : (xs : List Wanted) (w : Waits) → Member w (map waits xs) → (k : ℕ) × (x : Wanted) × (slice_get xs k ≡ Some x) × (waits x ≡ w)
member_at [] w there = absurd there
member_at (x ∷ xs) w (inl is) = (0, x, refl, sym is)
member_at (x ∷ xs) w (inr behind) = let found = member_at xs w behind in (suc found.0, found.1, found.2, found.3)

may_at_once : (now : ℕ) (item : Wanted) → S.Counts item → MayCall now [] item
may_at_once now item counts = (counts.0, counts.1, omega arith)

nobody_waits : (now : ℕ) (wanted : List Wanted) (next : Next) → S.IsNext now wanted [] next → IsNobody next → (k : ℕ) (other : Wanted) → slice_get wanted k ≡ Some other → S.Counts other → ⊥
nobody_waits now wanted (Call place) is nobody = absurd nobody
nobody_waits now wanted (WaitUntil moment) is nobody = λ k other there counts. is.none is.place is.item is.there (may_at_once now is.item is.counts)
nobody_waits now wanted Nothing is nobody = is

module _ {D : Type 0} (tells : Bool) (content : D → World) (faults : D → ℕ) (moment : D → ℕ) (images : D → ℕ → World → Type 0) (conf : ConfText) (index : Option (List ListedNode)) where
  abbrev St : Rest D → StoreStand
  St = standing tells content faults moment images

  abbrev Left : Server D → Type 0
  Left s = NobodyCounts conf index (St s.rest)

  -- what waits is the same
  same_left : (s t : Server D) → queue_of (St t.rest) ≡ queue_of (St s.rest) → Left s → Left t
  same_left s t same left = λ w there. left w (subst (λ (q : List (EntryOf ℕ)). Member w (items_of conf index q)) same there)

  -- Each step lets no count fall.
  record Steps (s t : Server D) : Type 0 where
    given : s.lines.counts.given ≤ t.lines.counts.given
    misses : s.lines.counts.misses ≤ t.lines.counts.misses
    short : t.memory.short ≡ false → s.memory.short ≡ false

  step_none : (s : Server D) → Steps s s
  step_none s = record { given = le_refl s.lines.counts.given; misses = le_refl s.lines.counts.misses; short = λ none. none }

  step_then : (s t u : Server D) → Steps s t → Steps t u → Steps s u
  step_then s t u x y = record {
    given = le_then s.lines.counts.given t.lines.counts.given u.lines.counts.given x.given y.given;
    misses = le_then s.lines.counts.misses t.lines.counts.misses u.lines.counts.misses x.misses y.misses;
    short = λ none. x.short (y.short none);
  }
    where
      le_then : (a b c : ℕ) → a ≤ b → b ≤ c → a ≤ c
      le_then a b c p q = omega (arith, p, q)

  step_same : (s t : Server D) → t ≡ s → Steps s t
  step_same s t is = subst (Steps s) (sym is) (step_none s)

  -- the outbound is taken in
  looks_step : (now : ℕ) (s t : Server D) → Looks tells content faults moment images conf now s t → Steps s t
  looks_step now s t x = record {
    given = subst (λ (l : LinesState). s.lines.counts.given ≤ l.counts.given) (sym x.lines) (le_refl s.lines.counts.given);
    misses = subst (λ (l : LinesState). s.lines.counts.misses ≤ l.counts.misses) (sym x.lines) (le_refl s.lines.counts.misses);
    short = news_short s.memory.short t.memory.short x.says;
  }

  looks_tries : (now : ℕ) (s t : Server D) → Looks tells content faults moment images conf now s t → t.memory.tries ≡ s.memory.tries
  looks_tries now s t x = ap (λ (m : Memory). m.tries) x.memory

  again_step : (now : ℕ) (s t : Server D) → Looks_again tells content faults moment images conf now s t → Steps s t × (t.memory.tries ≡ s.memory.tries)
  again_step now s t (Is_due due x) = (looks_step now s t x, looks_tries now s t x)
  again_step now s t (Not_due due is) = (step_same s t is, ap (λ (x : Server D). x.memory.tries) is)

  -- received files are given
  record Same (s t : Server D) : Type 0 where
    steps : Steps s t
    lines : t.lines ≡ s.lines
    tries : t.memory.tries ≡ s.memory.tries
    queue : broken_in t ≡ None → queue_of (St t.rest) ≡ queue_of (St s.rest)
    whole : broken_in t ≡ None → broken_in s ≡ None

  giving_same : (s t : Server D) → Giving tells content faults moment images conf s t → Same s t
  giving_same s t (Is_broken broken is) = record { steps = step_same s t is; lines = ap (λ (x : Server D). x.lines) is; tries = ap (λ (x : Server D). x.memory.tries) is; queue = λ _. ap (λ (x : Server D). queue_of (St x.rest)) is; whole = λ none. sym (ap (λ (x : Server D). broken_in x) is) ∙ none }
  giving_same s t (Is_whole whole x) = record {
    steps = subst (λ (u : Server D). Steps s u) (sym x.same) (record { given = le_refl s.lines.counts.given; misses = le_refl s.lines.counts.misses; short = λ none. none });
    lines = ap (λ (u : Server D). u.lines) x.same;
    tries = ap (λ (u : Server D). u.memory.tries) x.same;
    queue = λ none. round_queue (stand_of tells content faults moment images) _ _ _ x.gives.turned x.gives.gives none ∙ ap (λ (u : StoreState). u.stock.state.queue) x.gives.turns.made;
    whole = λ _. whole;
  }

  -- a line was given
  held_rose : (side : Side) (lines : LinesState) (s t : Server D) → lines.counts ≡ s.lines.counts → Holds_line tells content faults moment images conf side lines s t → (t.lines.counts.given ≡ next_count s.lines.counts.given) × Steps s t
  held_rose side lines s t same x =
      let given : t.lines.counts.given ≡ next_count s.lines.counts.given = ap (λ (l : LinesState). l.counts.given) x.back ∙ (ap (λ (c : _). c.given) x.gave.counts ∙ ap (λ (c : _). next_count c.given) same) in
      let misses : t.lines.counts.misses ≡ s.lines.counts.misses = ap (λ (l : LinesState). l.counts.misses) x.back ∙ (ap (λ (c : _). c.misses) x.gave.counts ∙ ap (λ (c : _). c.misses) same) in (
        given,
        record {
          given = let grows = next_grows s.lines.counts.given in omega (arith, grows, given);
          misses = omega (arith, misses);
          short = line_short s.memory.short t.memory.short x.says;
        },
      )

  -- A dial raises one of these counts.
  record Dialled (s t : Server D) : Type 0 where
    steps : Steps s t
    rose : (t.lines.counts.given ≡ next_count s.lines.counts.given) ⊎ (t.lines.counts.misses ≡ next_count s.lines.counts.misses)

  missed_is : (host : List ℕ) (port : ℕ) (old new : LinesState) → IsDialled self A.Failed host port old new → (new.counts.misses ≡ next_count old.counts.misses) × (new.counts.given ≡ old.counts.given)
  missed_is host port old new (inl is) = (ap (λ (l : LinesState). l.counts.misses) is, ap (λ (l : LinesState). l.counts.given) is)
  missed_is host port old new (inr is) = (ap (λ (l : LinesState). l.counts.misses) is, ap (λ (l : LinesState). l.counts.given) is)

  dials_rose : (peer : Address) (host : Dialling) (s t : Server D) → Dials tells content faults moment images conf peer host s t → Dialled s t
  dials_rose peer host s t (No_line failed is) =
      let m = missed_is host.host host.port s.lines t.lines failed in
      record {
        steps = record {
          given = let same = m.1 in omega (arith, same);
          misses = let grows = next_grows s.lines.counts.misses in let rose = m.0 in omega (arith, grows, rose);
          short = λ none. sym (ap (λ (x : Server D). x.memory.short) is) ∙ none;
        };
        rose = inr m.0;
      }
  dials_rose peer host s t (A_line x) = let r = held_rose _ (dialling host.host host.port s.lines) s t refl x in record { steps = r.1; rose = inl r.0 }

  -- What a call comes to: memory was short, or a count rose.
  record Called (s t : Server D) : Type 0 where
    steps : Steps s t
    either : (t.memory.short ≡ true) ⊎ (Increased s.lines.counts.given t.lines.counts.given ⊎ Increased s.lines.counts.misses t.lines.counts.misses)

  fell : (s t : Server D) → t ≡ fell_short s → Called s t
  fell s t is = subst (Called s) (sym is) (record { steps = record { given = le_refl s.lines.counts.given; misses = le_refl s.lines.counts.misses; short = λ none. absurd (let clash : true ≡ false = none in cc) }; either = inl refl })

  called_one : (peer : Address) (now : ℕ) (s t : Server D) → Calls_one tells content faults moment images conf index peer now s t → Called s t
  called_one peer now s t (No_room is) = fell s t is
  called_one peer now s t (Is_called host at tries tried mid dials gives) =
      let noted : Server D = record s { memory = record s.memory { tries = tries } } in
      let d = dials_rose peer host noted mid dials in
      let g = giving_same mid t gives in
      record {
        steps = let x = step_then noted mid t d.steps g.steps in record { given = x.given; misses = x.misses; short = x.short };
        either = inr (go noted mid d.rose g.steps);
      }
    where
      go : (n m : Server D) → (m.lines.counts.given ≡ next_count n.lines.counts.given) ⊎ (m.lines.counts.misses ≡ next_count n.lines.counts.misses) → Steps m t → Increased n.lines.counts.given t.lines.counts.given ⊎ Increased n.lines.counts.misses t.lines.counts.misses
      go n m (inl is) y = inl (rose_then n.lines.counts.given m.lines.counts.given t.lines.counts.given (rises n.lines.counts.given n.lines.counts.given m.lines.counts.given (le_refl n.lines.counts.given) is) y.given)
      go n m (inr is) y = inr (rose_then n.lines.counts.misses m.lines.counts.misses t.lines.counts.misses (rises n.lines.counts.misses n.lines.counts.misses m.lines.counts.misses (le_refl n.lines.counts.misses) is) y.misses)

  -- Whom to call next: nobody, or one of the things that come of a call.
  called_next : (now : ℕ) (s t : Server D) → conf.max_clients ≢ 0 → s.memory.tries ≡ [] → Calls_next tells content faults moment images conf index now s t → ((t ≡ s) × Left s) ⊎ Called s t
  called_next now s t some none (No_clients closed is) = absurd (some closed)
  called_next now s t some none (No_list is) = inr (fell s t is)
  called_next now s t some none (Nobody wanted are next first nobody is) =
      inl (
        is,
        λ w there callable flavour.
            let at = member_at wanted w (subst (Member w) (sym are) there) in
            nobody_waits now wanted next (subst (λ (l : List Try). S.IsNext now wanted l next) none first) nobody at.0 at.1 at.2
            (ap (λ (x : Waits). x.callable) at.3 ∙ callable, λ holds. flavour (sym (ap (λ (x : Waits). x.flavour) at.3) ∙ holds)),
      )
  called_next now s t some none (Somebody wanted are place first item there calls) = inr (called_one (address item.addr) now s t calls)

  next_steps : (now : ℕ) (s t : Server D) → Calls_next tells content faults moment images conf index now s t → Steps s t
  next_steps now s t (No_clients closed is) = step_same s t is
  next_steps now s t (No_list is) = (fell s t is).steps
  next_steps now s t (Nobody wanted are next first nobody is) = step_same s t is
  next_steps now s t (Somebody wanted are place first item there calls) = (called_one (address item.addr) now s t calls).steps

  if_next_steps : (now : ℕ) (s t : Server D) → If_whole (Calls_next tells content faults moment images conf index now) s t → Steps s t
  if_next_steps now s t (Is_broken broken is) = step_same s t is
  if_next_steps now s t (Is_whole whole calls) = next_steps now s t calls

  -- Since the first take-in no count fell, and where none rose, nobody was called, and behind a pause nobody is left.
  abbrev Quiet : Server D → Server D → Type 0
  Quiet first s = (s.memory.tries ≡ first.memory.tries) × ((s.lines.counts.nothings ≡ first.lines.counts.nothings) ⊎ Left s)

  record Since (first s : Server D) : Type 0 where
    steps : Steps first s
    quiet : (Increased first.lines.counts.given s.lines.counts.given → ⊥) → (Increased first.lines.counts.misses s.lines.counts.misses → ⊥) → s.memory.short ≡ false → broken_in s ≡ None → Quiet first s

  since_none : (first : Server D) → Since first first
  since_none first = record { steps = step_none first; quiet = λ a b c d. (refl, inl refl) }

  no_rise : (a n m : ℕ) → (Increased a m → ⊥) → n ≤ m → Increased a n → ⊥
  no_rise a n m none grew rose = none (rose_then a n m rose grew)

  rose_from : (a n m : ℕ) → a ≤ n → Increased n m → Increased a m
  rose_from a n m grew rose = omega (arith, grew, rose)

  broken_not : (b : Option ℕ) → IsSome b → b ≡ None → ⊥
  broken_not None some none = let clash : false ≡ true = some in cc
  broken_not (Some n) some none = let clash : Some n ≡ None = none in cc

  -- A pause, behind which it is said whom to call.
  quiet_next : (now : ℕ) (first s t : Server D) → conf.max_clients ≢ 0 → first.memory.tries ≡ [] → Steps first s → s.memory.tries ≡ first.memory.tries → If_whole (Calls_next tells content faults moment images conf index now) s t
      → (Increased first.lines.counts.given t.lines.counts.given → ⊥) → (Increased first.lines.counts.misses t.lines.counts.misses → ⊥) → t.memory.short ≡ false → broken_in t ≡ None → Quiet first t
  quiet_next now first s t some untried steps tries (Is_broken broken is) no_line no_miss short whole = absurd (broken_not (broken_in s) broken (sym (ap (λ (x : Server D). broken_in x) is) ∙ whole))
  quiet_next now first s t some untried steps tries (Is_whole whole' calls) no_line no_miss short whole = go (called_next now s t some (tries ∙ untried) calls)
    where
      go : ((t ≡ s) × Left s) ⊎ Called s t → Quiet first t
      go (inl (is, left)) = (ap (λ (x : Server D). x.memory.tries) is ∙ tries, inr (subst (λ (x : Server D). Left x) (sym is) left))
      go (inr x) = absurd (which x.either)
        where
          which : (t.memory.short ≡ true) ⊎ (Increased s.lines.counts.given t.lines.counts.given ⊎ Increased s.lines.counts.misses t.lines.counts.misses) → ⊥
          which (inl is) = let clash : true ≡ false = sym is ∙ short in cc
          which (inr (inl rose)) = no_line (rose_from first.lines.counts.given s.lines.counts.given t.lines.counts.given steps.given rose)
          which (inr (inr rose)) = no_miss (rose_from first.lines.counts.misses s.lines.counts.misses t.lines.counts.misses steps.misses rose)

  since_turn : (first s t : Server D) → conf.max_clients ≢ 0 → first.memory.tries ≡ [] → broken_in s ≡ None → Since first s → Turn tells content faults moment images conf index s t → Since first t
  since_turn first s t some untried whole since (Answers_one mid holds gives) =
      let h = held_rose _ s.lines s mid refl holds in
      let g = giving_same mid t gives in
      record {
        steps = step_then first s t since.steps (step_then s mid t h.1 g.steps);
        quiet = λ no_line no_miss short whole'. absurd (no_line (rose_then first.lines.counts.given mid.lines.counts.given t.lines.counts.given (rises first.lines.counts.given s.lines.counts.given mid.lines.counts.given since.steps.given h.0) g.steps.given));
      }
  since_turn first s t some untried whole since (Pauses now lines nothing looked given looks gives calls) = record {
    steps = step_then first given t before behind;
    quiet = λ no_line no_miss short whole'.
        quiet_next now first given t some untried before
        (tries ∙ (since.quiet (no_rise first.lines.counts.given s.lines.counts.given t.lines.counts.given no_line from.given) (no_rise first.lines.counts.misses s.lines.counts.misses t.lines.counts.misses no_miss from.misses) (from.short short) whole).0)
        calls no_line no_miss short whole';
  }
    where
      paused : Server D
      paused = record s { lines = lines }

      pause : Steps s paused
      pause = record {
        given = let same : lines.counts.given ≡ s.lines.counts.given = ap (λ (x : LinesState). x.counts.given) nothing in omega (arith, same);
        misses = let same : lines.counts.misses ≡ s.lines.counts.misses = ap (λ (x : LinesState). x.counts.misses) nothing in omega (arith, same);
        short = λ none. none;
      }

      again : Steps paused looked × (looked.memory.tries ≡ paused.memory.tries)
      again = again_step now paused looked looks

      gave : Same looked given
      gave = giving_same looked given gives

      tries : given.memory.tries ≡ s.memory.tries
      tries = gave.tries ∙ again.1

      till : Steps s given
      till = step_then s paused given pause (step_then paused looked given again.0 gave.steps)

      before : Steps first given
      before = step_then first s given since.steps till

      behind : Steps given t
      behind = if_next_steps now given t calls

      from : Steps s t
      from = step_then s given t till behind

  since_turns : (first s : Server D) → conf.max_clients ≢ 0 → first.memory.tries ≡ [] → Turns tells content faults moment images conf index first s → Since first s
  since_turns first _ some untried No_turn = since_none first
  since_turns first s some untried (One_more {mid} turns whole few turn) = since_turn first mid s some untried whole (since_turns first mid some untried turns) turn

  -- The end of it.

  record Ended (s t : Server D) : Type 0 where
    given : t.lines.counts.given ≡ s.lines.counts.given
    misses : t.lines.counts.misses ≡ s.lines.counts.misses
    nothings : t.lines.counts.nothings ≡ s.lines.counts.nothings
    memory : t.memory ≡ s.memory
    rest : t.rest ≡ s.rest

  ended : (s t : Server D) (end : ServeEnd) → Ends tells content faults moment images conf index s end t → Ended s t
  ended s _ _ (By_disk count broken) = record { given = refl; misses = refl; nothings = refl; memory = refl; rest = refl }
  ended s _ _ (By_count whole many) = record { given = refl; misses = refl; nothings = refl; memory = refl; rest = refl }
  ended s _ _ (By_stop whole lines is) = record { given = ap (λ (x : LinesState). x.counts.given) is; misses = ap (λ (x : LinesState). x.counts.misses) is; nothings = ap (λ (x : LinesState). x.counts.nothings) is; memory = refl; rest = refl }
  ended s _ _ (By_lines whole lines is) = record { given = ap (λ (x : LinesState). x.counts.given) is; misses = ap (λ (x : LinesState). x.counts.misses) is; nothings = ap (λ (x : LinesState). x.counts.nothings) is; memory = refl; rest = refl }

  pub leaves_nobody : (rest : Rest D) (lines : LinesState) (out : SinkState) (end : ServeEnd) (short : Bool) (rest' : Rest D) (lines' : LinesState) (out' : SinkState) → Serves tells content faults moment images conf index (at_start rest lines out) end short rest' lines' out' → LeavesNobody tells content faults moment images conf index lines short rest' lines'
  leaves_nobody rest lines out end short rest' lines' out' x paused no_line no_miss some not_short whole = go (since.quiet never_given never_missed last_short last_whole).1
    where
      last : Server D
      last = x.turns.last

      since : Since x.first last
      since = since_turns x.first last some (looks_tries x.now (at_start rest lines out) x.first x.looks) x.turns.turns

      e : Ended last x.ended
      e = ended last x.ended x.was x.turns.ends

      g : Same x.ended x.new
      g = giving_same x.ended x.new x.gives

      -- the counts of the first and of the last
      at_first : x.first.lines ≡ lines
      at_first = x.looks.lines

      at_last : x.ended.lines ≡ lines'
      at_last = sym g.lines ∙ sym x.lines_is

      never_given : Increased x.first.lines.counts.given last.lines.counts.given → ⊥
      never_given rose = no_line (subst (λ (l : LinesState). Increased l.counts.given lines'.counts.given) at_first (subst (λ (n : ℕ). Increased x.first.lines.counts.given n) (sym e.given ∙ ap (λ (l : LinesState). l.counts.given) at_last) rose))

      never_missed : Increased x.first.lines.counts.misses last.lines.counts.misses → ⊥
      never_missed rose = no_miss (subst (λ (l : LinesState). Increased l.counts.misses lines'.counts.misses) at_first (subst (λ (n : ℕ). Increased x.first.lines.counts.misses n) (sym e.misses ∙ ap (λ (l : LinesState). l.counts.misses) at_last) rose))

      last_short : last.memory.short ≡ false
      last_short = sym (ap (λ (m : Memory). m.short) e.memory) ∙ g.steps.short (sym x.short_is ∙ not_short)

      new_whole : broken_in x.new ≡ None
      new_whole = ap (λ (r : Rest D). r.store.memory.broken) (sym x.rest_is) ∙ whole

      last_whole : broken_in last ≡ None
      last_whole = sym (ap (λ (r : Rest D). r.store.memory.broken) e.rest) ∙ g.whole new_whole

      go : (last.lines.counts.nothings ≡ x.first.lines.counts.nothings) ⊎ Left last → NobodyCounts conf index (St rest')
      go (inl same) = absurd (paused (ap (λ (l : LinesState). l.counts.nothings) (sym at_last) ∙ (e.nothings ∙ (same ∙ ap (λ (l : LinesState). l.counts.nothings) at_first))))
      go (inr left) =
          subst (λ (r : Rest D). NobodyCounts conf index (St r)) (sym x.rest_is)
          (same_left x.ended x.new (g.queue new_whole) (same_left last x.ended (ap (λ (r : Rest D). queue_of (St r)) e.rest) left))
