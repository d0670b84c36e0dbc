-- The calls of a take-in, one behind another.
use Rattle.std.proofs.Common.{◌≡◌, ◌≢◌, ◌⊎◌, inl, inr, ⊎_elim, ℕ, true, false, List, [], ◌∷◌, ◌++◌, Option, Some, None, option_map, Result, Ok, Err, refl, sym, ◌∙◌, ap, subst}
use Rattle.std.specs.Global.{Vec}
use Rattle.std.specs.Prelude.{MatchOption}
use Rattle.std.specs.Str.{bytes_eq}
use Rattle.std.proofs.lemmas.Bool.{cases_Bool}
use Rattle.std.proofs.lemmas.List.{append-nil}
use Rattle.std.proofs.lemmas.Slice.Eq.{bytes_eq-Decides}
use Rattle.ftn_addr.specs.Address.{Address}
use Rattle.bso_outbound.specs.declared.kind.Kind.{Kind}
use Rattle.disk_model.specs.declared.answers.Moved.{Moved as Move}
use Rattle.disk_model.specs.declared.answers.Moved.TheVariants.{Done as MoveDone, Absent as NoFile}
use Rattle.disk_model.specs.declared.answers.Marking.{Marking}
use Rattle.disk_model.specs.declared.answers.Marking.TheVariants.{Made as MarkMade, Exists as MarkExists}
use Rattle.node_model.specs.declared.store.StoreFault.{StoreFault}
use Rattle.node_model.specs.declared.store.StoreFault.TheVariants.{Disk, Read, Full, NoMemory}
use Rattle.node_model.specs.Outside.{OutFile}
use Rattle.outbound_model.specs.declared.fate.Fate.{Fate}
use Rattle.outbound_model.specs.Outbound.{Outbound}
use Rattle.outbound_model.specs.OwnNames.{IsFor}
use Rattle.outbound_model.specs.Steps.{Step, Moved, Queued, Dropped, Hit, Acted, Marked, Unmarked, Changed, Made, Moves, Drops, Unmarks}
use Rattle.outbound_take.specs.Stand.{TakeStand, Kept, Same, Works, Tried, Settles, IsCalm, told}
use Rattle.outbound_take.specs.Calls.{TakesFile, MarksAt, UnmarksAt, IsAction}
use Rattle.outbound_take.specs.Ours.{IsOurs, OurWorks, queued_as}
use Rattle.outbound_take.proofs.WorkLemmas.{Leads, Nothing, One, kept_works, works_on, works_weaker, works_files, same_works, calm_after, works_none}

abbrev Files : Type 0
Files = List (Option Kind × List Fate)

pub our_on : (dest : Address) (moment : ℕ) (A B : Type 0) (files more : Files) (old mid new : TakeStand) → OurWorks dest moment A files old mid → A → OurWorks dest moment B more mid new → OurWorks dest moment B (files ++ more) old new
our_on dest moment A B files more old mid new first settled second = works_on (IsOurs dest moment None) A B files more old mid new first settled second

-- behind it nothing more is queued
pub our_last : (dest : Address) (moment : ℕ) (A B : Type 0) (files : Files) (old mid new : TakeStand) → OurWorks dest moment A files old mid → A → OurWorks dest moment B [] mid new → OurWorks dest moment B files old new
our_last dest moment A B files old mid new first settled second =
    works_files (IsOurs dest moment None) B (files ++ []) files old new (append-nil files) (works_on (IsOurs dest moment None) A B files [] old mid new first settled second)

pub our_none : (dest : Address) (moment : ℕ) (A : Type 0) (s : TakeStand) → IsCalm s → OurWorks dest moment A [] s s
our_none dest moment A s calm = works_none (IsOurs dest moment None) A s calm

pub our_calm : (dest : Address) (moment : ℕ) (A : Type 0) (files : Files) (old new : TakeStand) → OurWorks dest moment A files old new → A → IsCalm new
our_calm dest moment A files old new w settled = calm_after (IsOurs dest moment None) A files old new w settled

pub our_same : (dest : Address) (moment : ℕ) (A : Type 0) (old new : TakeStand) → Kept Same A old new → OurWorks dest moment A [] old new
our_same dest moment A old new k = same_works (IsOurs dest moment None) A old new k

pub our_actions : (dest : Address) (moment : ℕ) (A : Type 0) (old new : TakeStand) → Works IsAction A [] old new → OurWorks dest moment A [] old new
our_actions dest moment A old new w = works_weaker IsAction (IsOurs dest moment None) A A [] old new ours (λ a. a) w
  where
    ours : (e : Step) → IsAction e → IsOurs dest moment None e
    ours (Hit n) h = tt
    ours (Acted n) h = tt
    ours (Moved p o b) h = absurd h
    ours (Queued o b d m f) h = absurd h
    ours (Dropped o) h = absurd h
    ours (Marked p t) h = absurd h
    ours (Unmarked p t) h = absurd h
    ours Changed h = absurd h

abbrev bytes_at : Option OutFile → List ℕ
bytes_at None = []
bytes_at (Some f) = f.bytes

-- the file that was moved is the one that stood
moves_it : (path own bytes : List ℕ) (s t : Outbound) → Moves path own bytes s t → Moves path own (bytes_at (s.outside path)) s t
moves_it path own bytes s t m = subst (λ (b : List ℕ). Moves path own b s t) (sym (ap bytes_at m.was ∙ m.bytes_are)) m

pub our_take : (dest : Address) (moment : ℕ) (path own : List ℕ) (result : Result Move StoreFault) (old new : TakeStand) → IsFor dest own → Kept (Tried result (TakesFile path own)) (Settles result) old new → OurWorks dest moment (Settles result) [] old new
our_take dest moment path own result old new whom k = kept_works (IsOurs dest moment None) (Tried result (TakesFile path own)) (Settles result) [] old new (λ s tells. leads s result) k
  where
    moved : (s t : Outbound) (x : Move) → TakesFile path own x s t → (t ≡ s) ⊎ Moves path own (bytes_at (s.outside path)) s t
    moved s t MoveDone h = inr (moves_it path own h.0 s t h.1)
    moved s t NoFile h = inl h.1

    leads : (s : Outbound) (r : Result Move StoreFault) → Leads (IsOurs dest moment None) (Tried r (TakesFile path own)) (Settles r) [] s
    leads s (Ok MoveDone) = One (Moved path own (bytes_at (s.outside path))) whom (λ a. refl) (λ a t h. moves_it path own h.0 s t h.1) (λ t h. moved s t MoveDone h)
    leads s (Ok NoFile) = Nothing refl (λ t h. h.1)
    leads s (Err Disk) = One (Moved path own (bytes_at (s.outside path))) whom (λ a. absurd a) (λ a. absurd a) (λ t h. ⊎_elim (λ (same : t ≡ s). inl same) (λ (x : (m : Move) × TakesFile path own m s t). moved s t x.0 x.1) h)
    leads s (Err Read) = Nothing refl (λ t h. h)
    leads s (Err Full) = Nothing refl (λ t h. h)
    leads s (Err NoMemory) = Nothing refl (λ t h. h)

pub our_drop : (dest : Address) (moment : ℕ) (own : List ℕ) (result : Result (Unit {0}) StoreFault) (old new : TakeStand) → IsFor dest own → Kept (Tried result (λ _. Drops own)) (Settles result) old new → OurWorks dest moment (Settles result) [] old new
our_drop dest moment own result old new whom k = kept_works (IsOurs dest moment None) (Tried result (λ _. Drops own)) (Settles result) [] old new (λ s tells. leads s result) k
  where
    leads : (s : Outbound) (r : Result (Unit {0}) StoreFault) → Leads (IsOurs dest moment None) (Tried r (λ _. Drops own)) (Settles r) [] s
    leads s (Ok done) = One (Dropped own) whom (λ a. refl) (λ a t h. h) (λ t h. inr h)
    leads s (Err Disk) = One (Dropped own) whom (λ a. absurd a) (λ a. absurd a) (λ t h. ⊎_elim (λ (same : t ≡ s). inl same) (λ (x : (u : Unit {0}) × Drops own s t). inr x.1) h)
    leads s (Err Read) = Nothing refl (λ t h. h)
    leads s (Err Full) = Nothing refl (λ t h. h)
    leads s (Err NoMemory) = Nothing refl (λ t h. h)

pub our_mark : (dest : Address) (moment : ℕ) (path text : List ℕ) (result : Result Marking StoreFault) (old new : TakeStand) → Kept (Tried result (MarksAt path text)) (Settles result) old new → Works (IsOurs dest moment (Some text)) (Settles result) [] old new
our_mark dest moment path text result old new k = kept_works (IsOurs dest moment (Some text)) (Tried result (MarksAt path text)) (Settles result) [] old new (λ s tells. leads s result) k
  where
    marked : (s t : Outbound) (x : Marking) → MarksAt path text x s t → (t ≡ s) ⊎ Made (Marked path text) s t
    marked s t MarkMade h = inr h
    marked s t MarkExists h = inl h.1

    leads : (s : Outbound) (r : Result Marking StoreFault) → Leads (IsOurs dest moment (Some text)) (Tried r (MarksAt path text)) (Settles r) [] s
    leads s (Ok MarkMade) = One (Marked path text) refl (λ a. refl) (λ a t h. h) (λ t h. inr h)
    leads s (Ok MarkExists) = Nothing refl (λ t h. h.1)
    leads s (Err Disk) = One (Marked path text) refl (λ a. absurd a) (λ a. absurd a) (λ t h. ⊎_elim (λ (same : t ≡ s). inl same) (λ (x : (m : Marking) × MarksAt path text m s t). marked s t x.0 x.1) h)
    leads s (Err Read) = Nothing refl (λ t h. h)
    leads s (Err Full) = Nothing refl (λ t h. h)
    leads s (Err NoMemory) = Nothing refl (λ t h. h)

-- whether a file holds the text
holds : (o : Option (List ℕ)) (text : List ℕ) → (o ≡ Some text) ⊎ (o ≢ Some text)
holds None text = inr (λ same. cc)
holds (Some bytes) text = pick (cases_Bool (bytes_eq bytes text))
  where
    pick : (bytes_eq bytes text ≡ true) ⊎ (bytes_eq bytes text ≡ false) → (Some bytes ≡ Some text) ⊎ (Some bytes ≢ Some text)
    pick (inl same) = inl (ap Some ((bytes_eq-Decides bytes text).0 same))
    pick (inr other) = inr (λ same. let e : bytes ≡ text = cc in let f : bytes_eq bytes text ≡ true = (bytes_eq-Decides bytes text).1 e in cc)

pub our_unmark : (dest : Address) (moment : ℕ) (path text : List ℕ) (result : Result (Unit {0}) StoreFault) (old new : TakeStand) → Kept (Tried result (λ _. UnmarksAt path text)) (Settles result) old new → Works (IsOurs dest moment (Some text)) (Settles result) [] old new
our_unmark dest moment path text result old new k = kept_works (IsOurs dest moment (Some text)) (Tried result (λ _. UnmarksAt path text)) (Settles result) [] old new (λ s tells. leads s result (holds (option_map (λ (f : OutFile). f.bytes) (s.outside path)) text)) k
  where
    unmarked : (s t : Outbound) → UnmarksAt path text s t → (t ≡ s) ⊎ Unmarks path text s t
    unmarked s t (inl un) = inr un
    unmarked s t (inr h) = inl h.1

    leads : (s : Outbound) (r : Result (Unit {0}) StoreFault) → ((option_map (λ (f : OutFile). f.bytes) (s.outside path) ≡ Some text) ⊎ (option_map (λ (f : OutFile). f.bytes) (s.outside path) ≢ Some text)) → Leads (IsOurs dest moment (Some text)) (Tried r (λ _. UnmarksAt path text)) (Settles r) [] s
    leads s (Ok done) (inl own) = One (Unmarked path text) refl (λ a. refl) (λ a t h. ⊎_elim (λ (un : Unmarks path text s t). un) (λ (x : (option_map (λ (f : OutFile). f.bytes) (s.outside path) ≢ Some text) × (t ≡ s)). absurd (x.0 own)) h) (λ t h. unmarked s t h)
    leads s (Ok done) (inr other) = Nothing refl (λ t h. ⊎_elim (λ (un : Unmarks path text s t). absurd (other un.own)) (λ (x : (option_map (λ (f : OutFile). f.bytes) (s.outside path) ≢ Some text) × (t ≡ s)). x.1) h)
    leads s (Err Disk) which = One (Unmarked path text) refl (λ a. absurd a) (λ a. absurd a) (λ t h. ⊎_elim (λ (same : t ≡ s). inl same) (λ (x : (u : Unit {0}) × UnmarksAt path text s t). unmarked s t x.1) h)
    leads s (Err Read) which = Nothing refl (λ t h. h)
    leads s (Err Full) which = Nothing refl (λ t h. h)
    leads s (Err NoMemory) which = Nothing refl (λ t h. h)

pub our_files : (dest : Address) (moment : ℕ) (A : Type 0) (files more : Files) (old new : TakeStand) → files ≡ more → OurWorks dest moment A files old new → OurWorks dest moment A more old new
our_files dest moment A files more old new same w = works_files (IsOurs dest moment None) A files more old new same w

pub our_silent : (dest : Address) (moment : ℕ) (A : Type 0) (files : Files) (old new : TakeStand) → OurWorks dest moment A files old new → told old ≡ None → told new ≡ None
our_silent dest moment A files old new w = w.silent

-- what was queued, once it is known whether the take was over
pub queued_some : (dest : Address) (moment : ℕ) (A : Type 0) (kind : Kind) (o : Option (Vec Fate)) (fates : Vec Fate) (old new : TakeStand) → o ≡ Some fates → OurWorks dest moment A (queued_as kind o) old new → OurWorks dest moment A ((Some kind, fates.items) ∷ []) old new
queued_some dest moment A kind o fates old new is w = subst (λ (x : Option (Vec Fate)). OurWorks dest moment A (queued_as kind x) old new) is w

pub queued_none : (dest : Address) (moment : ℕ) (A : Type 0) (kind : Kind) (o : Option (Vec Fate)) (old new : TakeStand) → o ≡ None → OurWorks dest moment A (queued_as kind o) old new → OurWorks dest moment A [] old new
queued_none dest moment A kind o old new is w = subst (λ (x : Option (Vec Fate)). OurWorks dest moment A (queued_as kind x) old new) is w

pub match_some : {T : Type 0} (o : Option T) (x : T) (P : Type 0) (Q : T → Type 0) → o ≡ Some x → MatchOption o P Q → Q x
match_some {T} o x P Q is h = subst (λ (y : Option T). MatchOption y P Q) is h

pub match_none : {T : Type 0} (o : Option T) (P : Type 0) (Q : T → Type 0) → o ≡ None → MatchOption o P Q → P
match_none {T} o P Q is h = subst (λ (y : Option T). MatchOption y P Q) is h

-- beside marks of that text
pub our_marked : (dest : Address) (moment : ℕ) (text : List ℕ) (A : Type 0) (files : Files) (old new : TakeStand) → OurWorks dest moment A files old new → Works (IsOurs dest moment (Some text)) A files old new
our_marked dest moment text A files old new w = works_weaker (IsOurs dest moment None) (IsOurs dest moment (Some text)) A A files old new ours (λ a. a) w
  where
    ours : (e : Step) → IsOurs dest moment None e → IsOurs dest moment (Some text) e
    ours (Hit n) h = tt
    ours (Acted n) h = tt
    ours (Moved p o b) h = h
    ours (Queued o b d m f) h = h
    ours (Dropped o) h = h
    ours (Marked p t) h = absurd h
    ours (Unmarked p t) h = absurd h
    ours Changed h = absurd h
