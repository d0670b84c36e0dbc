-- Acting: a source is acted on, where it is as it was taken, and that is recorded.
use Rattle.std.proofs.Common.{◌≡◌, inl, inr, ℕ, ◌<◌, ◌≤◌, Bool, true, false, not, List, [], ◌∷◌, map, length, Option, Some, None, option_map, refl, sym, ◌∙◌, ap, subst}
use Rattle.std.specs.Prelude.{if◌then◌else◌}
use Rattle.std.proofs.lemmas.Bool.{cases_Bool}
use Rattle.ftn_addr.specs.Address.{Address}
use Rattle.ftn_addr.specs.declared.source_file.Action.{Action}
use Rattle.ftn_addr.specs.declared.source_file.Action.TheVariants.{Leave, Delete, Cut}
use Rattle.node_model.specs.declared.store.StoreFault.TheVariants.{Disk}
use Rattle.node_model.specs.Durable.{all_acted, entry_map}
use Rattle.node_model.specs.Items.{Entry, EntryOf}
use Rattle.node_model.specs.Lists.{Each, Member}
use Rattle.node_model.specs.Outside.{OutFile, OutFiles, acted_on, has_key, put_at, source_acted}
use Rattle.node_model.specs.SendRows.{NextActed, leaves, waits_for_action}
use Rattle.node_model.specs.Stocks.{Sizes, sizes}
use Rattle.node_model.specs.StoreStates.{IfTold, Shelf, Stored, StoreState, StoreStand, shelf_of}
use Rattle.node_model.specs.Stores.{StoreAnswer, StoreDoes, StoreKept, StorePasses, Before_it, Source_first, After_it, Act_next, IsShelf, OpensShelf, Staged_as, Copied_as, Slots, Part_opened, Came, Gave_so, Acted_on, Well, Refuses, TellsOn, acted, with_source_acted}
use Rattle.node_model.proofs.Lists.{and_true, none_some, off, some_inj}
use Rattle.outbound_model.specs.Lives.{Along, Reaches}
use Rattle.outbound_model.specs.Outbound.{Outbound, outbound_of}
use Rattle.outbound_model.specs.Steps.{ActsOn, Acts, Hits, Step, Acted, Hit}
use Rattle.outbound_model.proofs.Putting.{puts}
use Rattle.outbound_take.specs.Calls.{IsAction}
use Rattle.outbound_take.specs.Stand.{Left, OpensTo, Same, Worked, Works, brought}
use Rattle.outbound_store.specs.Seen.{seen}
use Rattle.outbound_store.proofs.Acting.{decide_next, one_next}
use Rattle.outbound_store.proofs.SeenKept.{Changes, changes_same, keeps_same, out_in, out_of, tells_weaker, told_opens}

-- A run of actions of a store, by their steps.

pub record Along_them (steps : List Step) (settles : Type 0) (a : Stored) (n : Option Stored) : Type 0 where
  pub end : Stored
  pub tells : n ≡ Some end
  pub along : Along (out_of a) steps (out_of end)
  pub reaches : settles → Reaches (out_of a) steps (out_of end)

pub record Runs (settles : Type 0) (old new : StoreStand) (a : Stored) : Type 0 where
  pub steps : List Step
  pub actions : Each IsAction steps
  pub none : brought steps ≡ []
  pub ends : Along_them steps settles a new.state.content
  pub since : (x : Option Shelf) (k : ℕ) → old.moment < k → k ≤ new.moment → new.images k x → OpensShelf (λ y. Along (out_of a) steps (outbound_of y)) x

opens : (P : Outbound → Type 0) (x : Option Shelf) → OpensShelf (λ y. P (outbound_of y)) x → (d : Option Outbound) → d ≡ option_map outbound_of x → OpensTo P d
opens P None shut d is = absurd shut
opens P (Some x) p d is = subst (OpensTo P) (sym is) p

opens_kept : (o : Option Stored) (x : Option Shelf) → OpensShelf (IsShelf o) x → (a : Stored) → o ≡ Some a → OpensShelf (λ y. outbound_of y ≡ out_of a) x
opens_kept o None h a is = absurd h
opens_kept None (Some x) h a is = absurd h
opens_kept (Some b) (Some x) h a is = ap outbound_of h ∙ ap out_of (some_inj is)

told_in : (o : Option Stored) (s : Outbound) → out_in o ≡ Some s → (a : Stored) × (o ≡ Some a) × (out_of a ≡ s)
told_in None s is = none_some is
told_in (Some a) s is = (a, refl, some_inj is)

pub works_seen : (settles : Type 0) (old new : StoreStand) (l m : List Left) (p q : Option ℕ) → old.moment ≤ new.moment → ((k : ℕ) (d : Option Shelf) → k ≤ old.moment → new.images k d → old.images k d)
    → (old.state.content ≡ None → new.state.content ≡ None) → ((a : Stored) → old.state.content ≡ Some a → Runs settles old new a) → (settles → (d : Option Shelf) → new.images new.moment d → OpensShelf (IsShelf new.state.content) d)
    → Works IsAction settles [] (seen old l p) (seen new m q)
works_seen settles old new l m p q later before silent runs now = record {
  later = later;
  before = λ k d le (x, image, is). (x, before k x le image, is);
  silent = λ none. quiet old.state.content refl none;
  made = λ s tells. let t = told_in old.state.content s tells in made s t.0 t.1 t.2;
}
  where
    quiet : (o : Option Stored) → old.state.content ≡ o → out_in o ≡ None → out_in new.state.content ≡ None
    quiet None is none = ap out_in (silent is)
    quiet (Some a) is none = none_some (sym none)

    made : (s : Outbound) (a : Stored) → old.state.content ≡ Some a → out_of a ≡ s → Worked IsAction settles [] s (seen old l p) (seen new m q)
    made s a is at =
        let r = runs a is in
        let e = r.ends in
        record {
          steps = r.steps;
          ours = r.actions;
          end = out_of e.end;
          tells = ap out_in e.tells;
          is_along = subst (λ (z : Outbound). Along z r.steps (out_of e.end)) at e.along;
          since = λ k d after until (x, image, eq). subst (λ (z : Outbound). OpensTo (Along z r.steps) d) at (opens (Along (out_of a) r.steps) x (r.since x k after until image) d eq);
          ends = λ h. subst (λ (z : Outbound). Reaches z r.steps (out_of e.end)) at (e.reaches h);
          brings = λ h. r.none;
          now = λ h d (x, image, eq). opens (λ z. z ≡ out_of e.end) x (opens_kept new.state.content x (now h x image) e.end e.tells) d eq;
        }

-- One action.

abbrev hit_out : EntryOf ℕ → ℕ → Stored → Outbound
hit_out e time a = record { queue = a.stock.state.queue; recorded = a.recorded; takes = a.takes; outside = source_acted e time a.outside }

abbrev act_out : EntryOf ℕ → ℕ → Stored → Outbound
act_out e time a = record { queue = all_acted e.number a.stock.state.queue; recorded = a.recorded; takes = a.takes; outside = source_acted e time a.outside }

acts_on : (action : Action) (path : List ℕ) (time : ℕ) (file : Option OutFile) (old : OutFiles) → leaves action ≡ false → ActsOn action path old (put_at path (acted_on action time file) old)
acts_on Leave path time file old acts = off acts
acts_on Delete path time file old acts = puts path None old
acts_on Cut path time file old acts = (time, puts path (Some (record { bytes = []; time = time })) old)

not_true : (b : Bool) → not b ≡ true → b ≡ false
not_true true e = off (sym e)
not_true false e = refl

-- an entry that is seen without its bytes has them
bytes_of_entry : (queue : List Entry) (e : EntryOf ℕ) → Member e (map (entry_map length) queue) → (f : Entry) × Member f queue × (e ≡ entry_map length f)
bytes_of_entry [] e there = absurd there
bytes_of_entry (x ∷ queue) e (inl is) = (x, inl refl, is)
bytes_of_entry (x ∷ queue) e (inr there) =
    let h = bytes_of_entry queue e there in
    (h.0, inr h.1, h.2)

acted_key : (e : EntryOf ℕ) (time : ℕ) (outside : OutFiles) → has_key e.key (outside e.source) ≡ true → source_acted e time outside ≡ put_at e.source (acted_on e.action time (outside e.source)) outside
acted_key e time outside has = ap (λ (b : Bool). if b then put_at e.source (acted_on e.action time (outside e.source)) outside else outside) has

changed_key : (e : EntryOf ℕ) (time : ℕ) (outside : OutFiles) → has_key e.key (outside e.source) ≡ false → source_acted e time outside ≡ outside
changed_key e time outside other = ap (λ (b : Bool). if b then put_at e.source (acted_on e.action time (outside e.source)) outside else outside) other

module _ (a : Stored) (e : EntryOf ℕ) (there : Member e (sizes a.stock).state.queue) (waits : waits_for_action e ≡ true) where
  hits : (time : ℕ) → has_key e.key (a.outside e.source) ≡ true → Hits e.number (out_of a) (hit_out e time a)
  hits time has =
      let f = bytes_of_entry a.stock.state.queue e there in
      let both = and_true (not e.acted) (not (leaves e.action)) waits in
      record {
        entry = f.0;
        queued = f.1;
        is = sym (ap (λ (x : EntryOf ℕ). x.number) f.2);
        undone = sym (ap (λ (x : EntryOf ℕ). x.acted) f.2) ∙ not_true e.acted both.0;
        was = subst (λ (x : EntryOf ℕ). has_key x.key (a.outside x.source) ≡ true) f.2 has;
        acts = subst (λ (x : EntryOf ℕ). ActsOn x.action x.source a.outside (source_acted e time a.outside)) f.2
            (subst (ActsOn e.action e.source a.outside) (sym (acted_key e time a.outside has)) (acts_on e.action e.source time (a.outside e.source) a.outside (not_true (leaves e.action) both.1)));
        queue = refl;
        recorded = refl;
        takes = refl;
      }

  acts : (time : ℕ) → Acts e.number (hit_out e time a) (act_out e time a)
  acts time = record { queue = refl; recorded = refl; takes = refl; outside = refl }

  unhit : (time : ℕ) → has_key e.key (a.outside e.source) ≡ false → hit_out e time a ≡ out_of a
  unhit time other = ap (λ (o : OutFiles). record { queue = a.stock.state.queue; recorded = a.recorded; takes = a.takes; outside = o }) (changed_key e time a.outside other)

  -- the steps of one action, and what they lead to
  pub record OneAction : Type 0 where
    pub steps : List Step
    pub actions : Each IsAction steps
    pub none : brought steps ≡ []
    pub at_first : Along (out_of a) steps (out_of a)
    pub at_hit : (time : ℕ) → Along (out_of a) steps (hit_out e time a)
    pub at_end : (time : ℕ) → Reaches (out_of a) steps (act_out e time a)

  pub one_action : OneAction
  one_action = elim (cases_Bool (has_key e.key (a.outside e.source))) [
    | inl has ↦ record {
      steps = Acted e.number ∷ Hit e.number ∷ [];
      actions = (tt, (tt, tt));
      none = refl;
      at_first = inr (inr refl);
      at_hit = λ time. inr (inl (out_of a, refl, hits time has));
      at_end = λ time. (hit_out e time a, (out_of a, refl, hits time has), acts time);
    }
    | inr other ↦ record {
      steps = Acted e.number ∷ [];
      actions = (tt, tt);
      none = refl;
      at_first = inr refl;
      at_hit = λ time. inr (unhit time other);
      at_end = λ time. (out_of a, refl, subst (λ (s : Outbound). Acts e.number s (act_out e time a)) (unhit time other) (acts time));
    }
  ]

-- A call of the store.

-- what must hold of its queue: entries with one number are one
pub record ActReady (old : StoreState) : Type 0 where
  pub outline : IfTold old.content (λ a. old.stock ≡ sizes a.stock)
  pub one : IfTold old.content (λ a. (x y : EntryOf ℕ) → Member x old.stock.state.queue → Member y old.stock.state.queue → x.number ≡ y.number → x ≡ y)

at_some : (o : Option Stored) (a : Stored) (P : Stored → Type 0) → o ≡ Some a → IfTold o P → P a
at_some o a P is h = subst (λ (c : Option Stored). IfTold c P) is h

reached : (s : Outbound) (es : List Step) (t : Outbound) → Reaches s es t → Along s es t
reached s [] t path = path
reached s (e ∷ es) t path = inl path

module _ (dest : Address) (old : StoreState) (ready : ActReady old) (a : Stored) (is : old.content ≡ Some a) where
  outlined : old.stock ≡ sizes a.stock
  outlined = at_some old.content a (λ a. old.stock ≡ sizes a.stock) is ready.outline

  module _ (number : ℕ) (next : NextActed dest number old.stock.state.queue) where
    pub there : Member next.entry (sizes a.stock).state.queue
    there = subst (λ (s : Sizes). Member next.entry s.state.queue) outlined next.there

    pub the_action : OneAction a next.entry there next.waits
    the_action = one_action a next.entry there next.waits

    same_entry : (m : ℕ) (other : NextActed dest m old.stock.state.queue) → other.entry ≡ next.entry
    same_entry m other =
        let same = one_next dest old.stock.state.queue m number other next in
        at_some old.content a (λ a. (x y : EntryOf ℕ) → Member x old.stock.state.queue → Member y old.stock.state.queue → x.number ≡ y.number → x ≡ y) is ready.one other.entry next.entry other.there next.there (other.is ∙ same ∙ sym next.is)

    hit_along : (e : EntryOf ℕ) → e ≡ next.entry → (time : ℕ) → Along (out_of a) the_action.steps (hit_out e time a)
    hit_along e same time = subst (λ (x : EntryOf ℕ). Along (out_of a) the_action.steps (hit_out x time a)) (sym same) (the_action.at_hit time)

    pub act_reaches : (e : EntryOf ℕ) → e ≡ next.entry → (time : ℕ) → Reaches (out_of a) the_action.steps (act_out e time a)
    act_reaches e same time = subst (λ (x : EntryOf ℕ). Reaches (out_of a) the_action.steps (act_out x time a)) (sym same) (the_action.at_end time)

    pub acted_content : (e : EntryOf ℕ) (time : ℕ) (new : StoreState) → new ≡ acted e time old → (b : Stored) × (new.content ≡ Some b) × (out_of b ≡ act_out e time a)
    acted_content e time new after = (
      _,
      ap (λ (s : StoreState). s.content) after ∙ ap (λ (o : Option Stored). (acted e time (record old { content = o })).content) is,
      refl,
    )

    pub passes : (x : Shelf) → StorePasses old (Act_next dest) x → Along (out_of a) the_action.steps (outbound_of x)
    passes x (Before_it shelf) =
        let same : outbound_of x ≡ out_of a = ap outbound_of (subst (λ (o : Option Stored). IsShelf o x) is shelf) in
        subst (Along (out_of a) the_action.steps) (sym same) the_action.at_first
    passes x (Source_first (m, other, time, shelf)) =
        let same : outbound_of x ≡ hit_out other.entry time a = ap outbound_of (subst (λ (o : Option Stored). IsShelf (with_source_acted other.entry time (record old { content = o })).content x) is shelf) in
        subst (Along (out_of a) the_action.steps) (sym same) (hit_along other.entry (same_entry m other) time)
    passes x (After_it answer new does shelf) = after answer does
      where
        after : (answer : StoreAnswer) → StoreDoes old (Act_next dest) answer new → Along (out_of a) the_action.steps (outbound_of x)
        after (Acted_on (Some m)) d =
            let made = acted_content d.next.entry d.time new d.after in
            let same : outbound_of x ≡ act_out d.next.entry d.time a = ap outbound_of (subst (λ (o : Option Stored). IsShelf o x) made.1 shelf) ∙ made.2 in
            subst (Along (out_of a) the_action.steps) (sym same) (reached (out_of a) the_action.steps (act_out d.next.entry d.time a) (act_reaches d.next.entry (same_entry m d.next) d.time))
        after (Acted_on None) d = absurd (d.0 next.entry next.there next.addressed next.waits)
        after (Staged_as n) d = absurd d
        after (Copied_as s) d = absurd d
        after (Slots slots) d = absurd d
        after (Part_opened part len) d = absurd d
        after (Came came) d = absurd d
        after (Gave_so gave) d = absurd d
        after Well d = absurd d
        after (Refuses fault) d = absurd d

  abbrev Idle : Type 0
  Idle = (e : EntryOf ℕ) → Member e old.stock.state.queue → e.dest ≡ dest → waits_for_action e ≡ true → ⊥

  -- where none waits nothing is done
  pub idle_passes : Idle → (x : Shelf) → StorePasses old (Act_next dest) x → outbound_of x ≡ out_of a
  idle_passes idle x (Before_it shelf) = ap outbound_of (subst (λ (o : Option Stored). IsShelf o x) is shelf)
  idle_passes idle x (Source_first (m, other, time, shelf)) = absurd (idle other.entry other.there other.addressed other.waits)
  idle_passes idle x (After_it answer new does shelf) = after answer does
    where
      after : (answer : StoreAnswer) → StoreDoes old (Act_next dest) answer new → outbound_of x ≡ out_of a
      after (Acted_on (Some m)) d = absurd (idle d.next.entry d.next.there d.next.addressed d.next.waits)
      after (Acted_on None) d = ap outbound_of (subst (λ (o : Option Stored). IsShelf o x) (ap (λ (s : StoreState). s.content) d.1 ∙ is) shelf)
      after (Staged_as n) d = absurd d
      after (Copied_as s) d = absurd d
      after (Slots slots) d = absurd d
      after (Part_opened part len) d = absurd d
      after (Came came) d = absurd d
      after (Gave_so gave) d = absurd d
      after Well d = absurd d
      after (Refuses fault) d = absurd d

opens_weaker : (P Q : Shelf → Type 0) → ((x : Shelf) → P x → Q x) → (d : Option Shelf) → OpensShelf P d → OpensShelf Q d
opens_weaker P Q f None h = absurd h
opens_weaker P Q f (Some x) h = f x h

end_of : (P : Shelf → Type 0) (o n : Option Stored) → TellsOn (λ a b. P (shelf_of b)) o n → (a : Stored) → o ≡ Some a → (b : Stored) × (n ≡ Some b) × P (shelf_of b)
end_of P None n t a is = none_some is
end_of P (Some c) None t a is = absurd t
end_of P (Some c) (Some b) t a is = (b, refl, t)

silent_of : (P : Shelf → Type 0) (o n : Option Stored) → TellsOn (λ a b. P (shelf_of b)) o n → o ≡ None → n ≡ None
silent_of P None None t is = refl
silent_of P None (Some b) t is = absurd t
silent_of P (Some a) n t is = none_some (sym is)

module _ (dest : Address) (old new : StoreStand) (l m : List Left) (p q : Option ℕ) (ready : ActReady old.state) where
  abbrev Steps_kept : Type 0
  Steps_kept = (k : ℕ) (d : Option Shelf) → old.moment < k → k ≤ new.moment → new.images k d → OpensShelf (StorePasses old.state (Act_next dest)) d

  -- an action that was done, or of which it isn't said
  runs : (settles : Type 0) → Steps_kept → TellsOn (λ a b. StorePasses old.state (Act_next dest) (shelf_of b)) old.state.content new.state.content → (a : Stored) → old.state.content ≡ Some a
      → (settles → (number : ℕ) × (next : NextActed dest number old.state.stock.state.queue) × (time : ℕ) × (new.state ≡ acted next.entry time old.state)) → Runs settles old new a
  runs settles since tells a is done = elim (decide_next dest old.state.stock.state.queue) [
    | inl found ↦
        let number = found.0 in
        let next = found.1 in
        let action = the_action dest old.state ready a is number next in
        let end = end_of (StorePasses old.state (Act_next dest)) old.state.content new.state.content tells a is in
        record {
          steps = action.steps;
          actions = action.actions;
          none = action.none;
          ends = record {
            end = end.0;
            tells = end.1;
            along = passes dest old.state ready a is number next (shelf_of end.0) end.2;
            reaches = λ s. let d = done s in
                let made = acted_content dest old.state ready a is number next d.1.entry d.2 new.state d.3 in
                let same : out_of end.0 ≡ act_out d.1.entry d.2 a = ap out_of (some_inj (sym end.1 ∙ made.1)) ∙ made.2 in
                subst (Reaches (out_of a) action.steps) (sym same) (act_reaches dest old.state ready a is number next d.1.entry (same_entry dest old.state ready a is number next d.0 d.1) d.2);
          };
          since = λ x k after until image. opens_weaker (StorePasses old.state (Act_next dest)) (λ y. Along (out_of a) action.steps (outbound_of y)) (passes dest old.state ready a is number next) x (since k x after until image);
        }
    | inr idle ↦
        let end = end_of (StorePasses old.state (Act_next dest)) old.state.content new.state.content tells a is in
        let same = idle_passes dest old.state ready a is idle (shelf_of end.0) end.2 in
        record {
          steps = [];
          actions = tt;
          none = refl;
          ends = record { end = end.0; tells = end.1; along = same; reaches = λ s. same };
          since = λ x k after until image. opens_weaker (StorePasses old.state (Act_next dest)) (λ y. outbound_of y ≡ out_of a) (idle_passes dest old.state ready a is idle) x (since k x after until image);
        }
  ]

  lost : Steps_kept → old.moment ≤ new.moment → ((k : ℕ) (d : Option Shelf) → k ≤ old.moment → new.images k d → old.images k d) → TellsOn (λ a b. StorePasses old.state (Act_next dest) (shelf_of b)) old.state.content new.state.content → Works IsAction ⊥ [] (seen old l p) (seen new m q)
  lost since later before tells =
      works_seen ⊥ old new l m p q later before (silent_of (StorePasses old.state (Act_next dest)) old.state.content new.state.content tells) (λ a is. runs ⊥ since tells a is (λ never. absurd never)) (λ never. absurd never)

  -- where the disk failed
  pub act_lost : StoreKept old (Act_next dest) (Refuses Disk) new → Works IsAction ⊥ [] (seen old l p) (seen new m q)
  act_lost kept = lost kept.since kept.later kept.before (tells_weaker _ (λ a b. StorePasses old.state (Act_next dest) (shelf_of b)) (λ a b h. h.0) old.state.content new.state.content kept.made.content)

  -- an action was done
  pub act_done : (settles : Type 0) (number : ℕ) → StoreKept old (Act_next dest) (Acted_on (Some number)) new → (settles → new.state.counts.broken ≡ None) → Works IsAction settles [] (seen old l p) (seen new m q)
  act_done settles number kept whole =
      works_seen settles old new l m p q kept.later kept.before (silent_of (StorePasses old.state (Act_next dest)) old.state.content new.state.content tells)
      (λ a is. runs settles kept.since tells a is (λ s. (number, kept.made.next, kept.made.time, kept.made.after)))
      (λ s. kept.now (whole s))
    where
      tells : TellsOn (λ a b. StorePasses old.state (Act_next dest) (shelf_of b)) old.state.content new.state.content
      tells = go old.state.content refl new.state.content refl (ap (λ (s : StoreState). s.content) kept.made.after)
        where
          go : (o : Option Stored) → old.state.content ≡ o → (n : Option Stored) → new.state.content ≡ n → n ≡ (acted kept.made.next.entry kept.made.time (record old.state { content = o })).content → TellsOn (λ a b. StorePasses old.state (Act_next dest) (shelf_of b)) o n
          go None is None at e = tt
          go None is (Some b) at e = none_some (sym e)
          go (Some a) is None at e = none_some e
          go (Some a) is (Some b) at e = After_it (Acted_on (Some number)) new.state kept.made (subst (λ (c : Option Stored). IsShelf c (shelf_of b)) (sym at) refl)

  -- nothing was to be done
  pub act_none : (settles : Type 0) → StoreKept old (Act_next dest) (Acted_on None) new → (settles → new.state.counts.broken ≡ None) → Changes Same settles old new
  act_none settles kept whole =
      changes_same settles old new kept.later kept.before (keeps_same old.state.content new.state.content (ap (λ (s : StoreState). s.content) kept.made.1))
      (λ k d after until image. told_opens old.state.content (StorePasses old.state (Act_next dest)) (λ a x. outbound_of x ≡ out_of a) passed d (kept.since k d after until image))
      (λ s. kept.now (whole s))
    where
      if_by : (o : Option Stored) (P : Stored → Type 0) → ((a : Stored) → o ≡ Some a → P a) → IfTold o P
      if_by None P f = tt
      if_by (Some a) P f = f a refl

      passed : (x : Shelf) → StorePasses old.state (Act_next dest) x → IfTold old.state.content (λ a. outbound_of x ≡ out_of a)
      passed x h = if_by old.state.content (λ a. outbound_of x ≡ out_of a) (λ a is. idle_passes dest old.state ready a is kept.made.0 x h)
