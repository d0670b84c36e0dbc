-- A file that was just staged in a store that was just opened may be queued alone.
use Rattle.std.proofs.Common.{◌≡◌, ℕ, ◌+◌, ◌<◌, ◌≤◌, arith, Bool, true, List, [], ◌∷◌, ◌++◌, length, map, Some, None, Result, Ok, refl, sym, ap, subst, ◌∙◌}
use Rattle.std.specs.Prelude.{◌==◌, if◌then◌else◌}
use Rattle.std.proofs.lemmas.Bool.Decides.{Decides-eqb}
use Rattle.node_model.specs.Durable.{entry_map}
use Rattle.node_model.specs.Items.{Entry, EntryOf}
use Rattle.node_model.specs.Lists.{Each}
use Rattle.node_model.specs.Node.{Settings, plain_settings}
use Rattle.node_model.specs.Stocks.{NewEntry, StagedOf, staged_in}
use Rattle.node_model.specs.StoreStates.{StoreState}
use Rattle.node_model.specs.Stores.{with_staged, Stage, Stage_copy, StoreMade, StoreDoes, Staged_as, Copied_as, staged_answer, copy_answer}
use Rattle.node_model.specs.StoreWords.{FitsQueue, IsNewBatch}
use Rattle.node_model.specs.declared.store.OutStat.{OutStat}
use Rattle.node_model.specs.declared.store.Staged.{Staged}
use Rattle.node_model.specs.declared.store.Staged.TheVariants.{Copied}
use Rattle.node_model.specs.declared.store.StoreFault.{StoreFault}
use Rattle.node_store.specs.Finding.{IsNewMemory}
use Rattle.node_store.specs.Sounds.{KeepsSound}
use Rattle.node_store.specs.Stored.{Holding, Memory, state_of, stand_of}
use Rattle.mem_disk.specs.Holding.{shown}
use Rattle.mem_disk.specs.MemoryDisk.{mem_images, mem_moment}
use Rattle.mem_disk.specs.declared.disk.MemDisk.{MemDisk}
use Rattle.disk_model.specs.World.{World}

all_below : (n : ℕ) (es : List Entry) → Each (λ (e : Entry). e.number ≤ n) es → Each (λ (e : EntryOf ℕ). e.number < n + 1) (map (entry_map length) es)
all_below n [] all = tt
all_below n (e ∷ es) all = (omega (arith, all.0), all_below n es all.1)

abbrev one_staged : ℕ → ℕ → StagedOf ℕ
one_staged n k = record { number = n; content = k }

picks_it : (b : Bool) (x : StagedOf ℕ) → b ≡ true → (if b then Some x else None) ≡ Some x
picks_it b x e = ap (λ (c : Bool). if c then Some x else None) e

found_alone : (n k : ℕ) (staged : List (StagedOf ℕ)) → staged ≡ one_staged n k ∷ [] → staged_in n staged ≡ Some (one_staged n k)
found_alone n k staged is = subst (λ (xs : List (StagedOf ℕ)). staged_in n xs ≡ Some (one_staged n k)) (sym is) (picks_it (n == n) (one_staged n k) ((Decides-eqb n n).1 refl))

pub staged_batch : (settings : Settings) (s t : StoreState) (bytes : List ℕ) (number : ℕ) (f : NewEntry) → KeepsSound settings s → s.stock.staged ≡ []
    → number ≡ s.staged + 1 → t ≡ with_staged bytes s → f.number ≡ number → f.key.size ≡ length bytes → FitsQueue f → IsNewBatch None None (f ∷ []) t
staged_batch settings s t bytes number f k none number_is is at size fits =
    subst (IsNewBatch None None (f ∷ [])) (sym is) (record {
      limits = (fits, tt);
      staged = (subst (λ (n : ℕ). (x : StagedOf ℕ) × (staged_in n (with_staged bytes s).stock.staged ≡ Some x) × (x.content ≡ f.key.size)) (sym (at ∙ number_is)) was, tt);
      rise = (tt, tt);
      above = (subst (λ (n : ℕ). Each (λ (e : EntryOf ℕ). e.number < n) s.stock.state.queue) (sym (at ∙ number_is)) below, tt);
      take = tt;
      request = tt;
    })
  where
    alone : (with_staged bytes s).stock.staged ≡ one_staged (s.staged + 1) (length bytes) ∷ []
    alone = ap (λ (xs : List (StagedOf ℕ)). xs ++ one_staged (s.staged + 1) (length bytes) ∷ []) none

    was : (x : StagedOf ℕ) × (staged_in (s.staged + 1) (with_staged bytes s).stock.staged ≡ Some x) × (x.content ≡ f.key.size)
    was = (one_staged (s.staged + 1) (length bytes), found_alone (s.staged + 1) (length bytes) (with_staged bytes s).stock.staged alone, sym size)

    below : Each (λ (e : EntryOf ℕ). e.number < s.staged + 1) s.stock.state.queue
    below = subst (λ (q : List (EntryOf ℕ)). Each (λ (e : EntryOf ℕ). e.number < s.staged + 1) q) (sym (ap (λ x. x.state.queue) k.stock)) (all_below s.staged k.keeps.stock.state.queue k.sound.parts.queue_staged)

-- a store that was just opened has nothing staged
pub nothing_staged : (tells : Bool) (w : World) (faults : ℕ) (m : Memory) → IsNewMemory m → (state_of tells w faults m).stock.staged ≡ []
nothing_staged tells w faults m new = ap (λ (x : Memory). (state_of tells w faults x).stock.staged) new.3

-- a file was staged, where that was answered
pub was_staged : (s t : StoreState) (bytes : List ℕ) (result : Result ℕ StoreFault) (number : ℕ) → StoreMade s (Stage bytes) (staged_answer result) t → result ≡ Ok number → StoreDoes s (Stage bytes) (Staged_as number) t
was_staged s t bytes result number made is = subst (λ (r : Result ℕ StoreFault). StoreMade s (Stage bytes) (staged_answer r) t) is made

-- what a store over a disk in memory tells
abbrev pub told_state : Holding MemDisk → StoreState
told_state s = (stand_of true (λ (d : MemDisk). shown d.held) (λ (d : MemDisk). d.faults) mem_moment mem_images s).state

pub new_batch : (s t : Holding MemDisk) (bytes : List ℕ) (result : Result ℕ StoreFault) (number : ℕ) (f : NewEntry) → IsNewMemory s.memory → ((settings : Settings) → KeepsSound settings (told_state s))
    → StoreMade (told_state s) (Stage bytes) (staged_answer result) (told_state t) → result ≡ Ok number → f.number ≡ number → f.key.size ≡ length bytes → FitsQueue f → IsNewBatch None None (f ∷ []) (told_state t)
new_batch s t bytes result number f new sound made is at size fits =
    let does = was_staged (told_state s) (told_state t) bytes result number made is in
    staged_batch plain_settings (told_state s) (told_state t) bytes number f (sound plain_settings) (nothing_staged true (shown s.disk.held) s.disk.faults s.memory new) does.0 does.2 at size fits

-- the same of the copy of an outside file
was_copied : (s t : StoreState) (path : List ℕ) (result : Result Staged StoreFault) (number : ℕ) (stat : OutStat) → StoreMade s (Stage_copy path) (copy_answer result) t → result ≡ Ok (Copied number stat) → StoreDoes s (Stage_copy path) (Copied_as (Copied number stat)) t
was_copied s t path result number stat made is = subst (λ (r : Result Staged StoreFault). StoreMade s (Stage_copy path) (copy_answer r) t) is made

pub new_copy : (s t : Holding MemDisk) (path : List ℕ) (result : Result Staged StoreFault) (number : ℕ) (stat : OutStat) (f : NewEntry) → IsNewMemory s.memory → ((settings : Settings) → KeepsSound settings (told_state s))
    → StoreMade (told_state s) (Stage_copy path) (copy_answer result) (told_state t) → result ≡ Ok (Copied number stat) → f.number ≡ number → f.key.size ≡ stat.size → FitsQueue f → IsNewBatch None None (f ∷ []) (told_state t)
new_copy s t path result number stat f new sound made is at size fits =
    let does = was_copied (told_state s) (told_state t) path result number stat made is in
    let bytes = does.2.0 in
    staged_batch plain_settings (told_state s) (told_state t) bytes number f (sound plain_settings) (nothing_staged true (shown s.disk.held) s.disk.faults s.memory new) does.0 does.2.2 at (size ∙ does.2.1.size) fits
