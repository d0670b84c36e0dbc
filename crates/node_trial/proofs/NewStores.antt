-- A store that was just opened over a disk in memory fits a hub without seats.
use Rattle.std.proofs.Common.{◌≡◌, ℕ, true, List, [], Some, refl, sym, ap, subst}
use Rattle.disk_model.specs.Changes.{Every}
use Rattle.disk_model.specs.Moments.{AtRest, Now}
use Rattle.disk_model.specs.World.{World}
use Rattle.node_model.specs.Items.{MarkOf}
use Rattle.node_model.specs.Lists.{Member}
use Rattle.node_model.specs.Node.{Settings}
use Rattle.node_model.specs.StoreStates.{shelf_of}
use Rattle.node_model.specs.Stores.{IsShelf}
use Rattle.hub_core.specs.Hubs.{Fitted, IsSettled}
use Rattle.hub_core.specs.Opening.{no_seats}
use Rattle.hub_core.proofs.Closing.{no_sitting, not_some}
use Rattle.mem_disk.specs.Holding.{shown}
use Rattle.mem_disk.specs.MemoryDisk.{mem_files, mem_images, mem_moment}
use Rattle.mem_disk.specs.declared.disk.MemDisk.{MemDisk}
use Rattle.node_store.specs.Finding.{IsNewMemory}
use Rattle.node_store.specs.Opening.{IsReady}
use Rattle.node_store.specs.Sounds.{KeepsSound}
use Rattle.node_store.specs.Stored.{Holding, Memory, state_of, stored_in}
use Rattle.node_store.specs.Worlds.{OpensAs}
use Rattle.node_store.proofs.Openings.{opens_to}
use Rattle.node_trial.specs.Parties.{FitsHub, stand_in}

-- a disk at rest may be opened, since each world is ready for itself
rests_ready : (disk : MemDisk) → ((w : World) → IsReady w w) → AtRest mem_files mem_moment mem_images disk → Every (Now mem_moment mem_images disk) (IsReady (shown disk.held))
rests_ready disk itself rest = λ c now. subst (IsReady (shown disk.held)) (sym (rest c (shown disk.held) now refl)) (itself (shown disk.held))

pub opens_ready : (disk : MemDisk) → ((w : World) → IsReady w w) → AtRest mem_files mem_moment mem_images disk → true ≡ true → Every (Now mem_moment mem_images disk) (IsReady (shown disk.held))
opens_ready disk itself rest tells = rests_ready disk itself rest

nothing_open : (m : Memory) (w : World) (faults : ℕ) → IsNewMemory m → (state_of true w faults m).stock.parts ≡ []
nothing_open m w faults new = ap (λ (x : Memory). (state_of true w faults x).stock.parts) new.3

no_member : {A : Type 0} (ps : List (MarkOf ℕ)) (p : MarkOf ℕ) → ps ≡ [] → Member p ps → A
no_member ps p none there = absurd (subst (Member p) none there)

new_fitted : (s : Holding MemDisk) (settings : Settings) → KeepsSound settings (stand_in s).state → IsNewMemory s.memory → Fitted (stand_in s).state (no_seats settings)
new_fitted s settings k new = record {
  keeps = k.keeps;
  tells = k.tells;
  fits = record {
    stock = k.stock;
    sittings = λ n x at. not_some _ x (no_sitting settings n) at;
    parts = λ p there. no_member _ p (nothing_open s.memory (shown s.disk.held) s.disk.faults new) there;
    sound = k.sound;
  };
}

new_settled : (s : Holding MemDisk) → Every (Now mem_moment mem_images s.disk) (λ w. OpensAs w (shelf_of (stored_in (shown s.disk.held) s.memory))) → IsSettled (stand_in s)
new_settled s opens = λ d image.
    let stored = stored_in (shown s.disk.held) s.memory in
    opens_to (IsShelf (Some stored)) image.1 (shelf_of stored) (opens image.1 image.2) refl d image.3

pub new_fits : (s : Holding MemDisk) → ((settings : Settings) → KeepsSound settings (stand_in s).state) → IsNewMemory s.memory
    → (true ≡ true → Every (Now mem_moment mem_images s.disk) (λ w. OpensAs w (shelf_of (stored_in (shown s.disk.held) s.memory)))) → FitsHub s
new_fits s sound new opens = λ settings. record { fitted = λ unbroken. new_fitted s settings (sound settings) new; settled = λ unbroken. new_settled s (opens refl) }
