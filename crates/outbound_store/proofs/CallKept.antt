-- Calls of a store after which it keeps what it kept, whatever they answered.
use Rattle.std.proofs.Common.{◌≡◌, Option, Some, None, ◌∙◌, ap}
use Rattle.node_model.specs.declared.store.StoreFault.TheVariants.{Disk, Read, Full, NoMemory}
use Rattle.node_model.specs.StoreStates.{IfTold, Shelf, Stored, StoreState, StoreStand, shelf_of}
use Rattle.node_model.specs.Stores.{StoreCall, StoreAnswer, StoreKept, StorePasses, Before_it, Source_first, After_it, StoreDoes, StoreMade, IsShelf, Staged_as, Copied_as, Slots, Part_opened, Came, Gave_so, Acted_on, Well, Refuses, TellsOn, ActsFirst}
use Rattle.outbound_model.specs.Outbound.{outbound_of}
use Rattle.outbound_take.specs.Stand.{Same}
use Rattle.outbound_store.proofs.SeenKept.{Changes, KeepsOut, changes_same, keeps_same, out_of, shelf_told, told_opens}

-- whatever the call does, the outbound stays
pub record Stays (old : StoreState) (call : StoreCall) : Type 0 where
  pub acts : (x : Shelf) → ActsFirst old call x → ⊥
  pub does : (answer : StoreAnswer) (new : StoreState) → StoreDoes old call answer new → KeepsOut old.content new.content

kept_shelf : (o n : Option Stored) (x : Shelf) → KeepsOut o n → IsShelf n x → IfTold o (λ a. outbound_of x ≡ out_of a)
kept_shelf None n x keeps is = tt
kept_shelf (Some a) None x keeps is = absurd is
kept_shelf (Some a) (Some b) x keeps is = ap outbound_of is ∙ keeps

pub passes_same : (old : StoreState) (call : StoreCall) → Stays old call → (x : Shelf) → StorePasses old call x → IfTold old.content (λ a. outbound_of x ≡ out_of a)
passes_same old call stays x (Before_it is) = shelf_told old.content x is
passes_same old call stays x (Source_first first) = absurd (stays.acts x first)
passes_same old call stays x (After_it answer new does is) = kept_shelf old.content new.content x (stays.does answer new does) is

broken_keeps : (P : Shelf → Type 0) (A B : Stored → Stored → Type 0) (o n : Option Stored) → ((x : Shelf) → P x → IfTold o (λ a. outbound_of x ≡ out_of a)) → TellsOn (λ a b. P (shelf_of b) × A a b × B a b) o n → KeepsOut o n
broken_keeps P A B None None f t = tt
broken_keeps P A B None (Some b) f t = absurd t
broken_keeps P A B (Some a) None f t = absurd t
broken_keeps P A B (Some a) (Some b) f t = f (shelf_of b) t.0

pub made_keeps : (old : StoreState) (call : StoreCall) (answer : StoreAnswer) (new : StoreState) → Stays old call → StoreMade old call answer new → KeepsOut old.content new.content
made_keeps old call (Refuses Disk) new stays made = broken_keeps (StorePasses old call) _ _ old.content new.content (passes_same old call stays) made.content
made_keeps old call (Refuses Read) new stays made = keeps_same old.content new.content (ap (λ (s : StoreState). s.content) made.2)
made_keeps old call (Refuses Full) new stays made = keeps_same old.content new.content (ap (λ (s : StoreState). s.content) made.1)
made_keeps old call (Refuses NoMemory) new stays made = keeps_same old.content new.content (ap (λ (s : StoreState). s.content) made.1)
made_keeps old call (Staged_as n) new stays made = stays.does (Staged_as n) new made
made_keeps old call (Copied_as s) new stays made = stays.does (Copied_as s) new made
made_keeps old call (Slots slots) new stays made = stays.does (Slots slots) new made
made_keeps old call (Part_opened part len) new stays made = stays.does (Part_opened part len) new made
made_keeps old call (Came bytes) new stays made = stays.does (Came bytes) new made
made_keeps old call (Gave_so gave) new stays made = stays.does (Gave_so gave) new made
made_keeps old call (Acted_on number) new stays made = stays.does (Acted_on number) new made
made_keeps old call Well new stays made = stays.does Well new made

pub stays_kept : (call : StoreCall) (answer : StoreAnswer) (settles : Type 0) (old new : StoreStand) → Stays old.state call → StoreKept old call answer new → (settles → new.state.counts.broken ≡ None) → Changes Same settles old new
stays_kept call answer settles old new stays kept whole =
    changes_same settles old new kept.later kept.before (made_keeps old.state call answer new.state stays kept.made)
    (λ k d after until image. told_opens old.state.content (StorePasses old.state call) (λ a x. outbound_of x ≡ out_of a) (passes_same old.state call stays) d (kept.since k d after until image))
    (λ h. kept.now (whole h))
