-- A store that was just opened fits a hub without seats.
use Rattle.std.proofs.Common.{◌≡◌, ℕ, Bool, true, false, List, [], Option, Some, None, refl, sym, ap, subst}
use Rattle.std.specs.Prelude.{if◌then◌else◌}
use Rattle.disk_model.specs.Changes.{Every}
use Rattle.disk_model.specs.Moments.{Now}
use Rattle.disk_model.specs.World.{World}
use Rattle.node_model.specs.Items.{MarkOf}
use Rattle.node_model.specs.Lists.{Member}
use Rattle.node_model.specs.Node.{Settings}
use Rattle.node_model.specs.StoreStates.{Stored, shelf_of}
use Rattle.node_model.specs.Stores.{IsShelf, OpensShelf}
use Rattle.node_store.specs.Finding.{IsNewMemory}
use Rattle.node_store.specs.Sounds.{KeepsSound}
use Rattle.node_store.specs.Stored.{Holding, Memory, stand_of, state_of, stored_in}
use Rattle.node_store.specs.Worlds.{OpensAs}
use Rattle.node_store.proofs.Openings.{opens_to}
use Rattle.hub_core.specs.Hubs.{Fitted, IsSettled}
use Rattle.hub_core.specs.Opening.{IsWhole, no_seats}
use Rattle.hub_core.proofs.Closing.{no_sitting, not_some}

nothing_open : (m : Memory) (tells : Bool) (w : World) (faults : ℕ) → IsNewMemory m → (state_of tells w faults m).stock.parts ≡ []
nothing_open m tells w faults new = ap (λ (x : Memory). (state_of tells w faults x).stock.parts) new.3

no_member : {A : Type 0} (ps : List (MarkOf ℕ)) (p : MarkOf ℕ) → ps ≡ [] → Member p ps → A
no_member ps p none there = absurd (subst (Member p) none there)

told_is : {A : Type 0} (tells : Bool) (a : A) → tells ≡ true → (if tells then Some a else None) ≡ Some a
told_is true a telling = refl
told_is false a telling = absurd (let clash : false ≡ true = telling in cc)

module _ {D : Type 0} (tells : Bool) (content : D → World) (faults : D → ℕ) (moment : D → ℕ) (images : D → ℕ → World → Type 0) where
  new_fitted : (s : Holding D) (settings : Settings) → KeepsSound settings (stand_of tells content faults moment images s).state → IsNewMemory s.memory → Fitted (stand_of tells content faults moment images s).state (no_seats settings)
  new_fitted s settings k new = record {
    keeps = k.keeps;
    tells = k.tells;
    fits = record {
      stock = k.stock;
      sittings = λ n x at. not_some _ x (no_sitting settings n) at;
      parts = λ p there. no_member _ p (nothing_open s.memory tells (content s.disk) (faults s.disk) new) there;
      sound = k.sound;
    };
  }

  new_settled : (s : Holding D) → (tells ≡ true → Every (Now moment images s.disk) (λ w. OpensAs w (shelf_of (stored_in (content s.disk) s.memory)))) → IsSettled (stand_of tells content faults moment images s)
  new_settled s opens = λ d image.
      let stored = stored_in (content s.disk) s.memory in
      subst (λ (c : Option Stored). OpensShelf (IsShelf c) d) (sym (told_is tells stored image.0))
      (opens_to (IsShelf (Some stored)) image.1 (shelf_of stored) (opens image.0 image.1 image.2) refl d image.3)

  pub new_whole : (s : Holding D) (settings : Settings) → KeepsSound settings (stand_of tells content faults moment images s).state → IsNewMemory s.memory
      → (tells ≡ true → Every (Now moment images s.disk) (λ w. OpensAs w (shelf_of (stored_in (content s.disk) s.memory)))) → IsWhole (stand_of tells content faults moment images s) (no_seats settings)
  new_whole s settings k new opens = record { fitted = λ unbroken. new_fitted s settings k new; settled = λ unbroken. new_settled s opens }
