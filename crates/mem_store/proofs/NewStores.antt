-- A new store in memory fits a new hub.
use Rattle.std.proofs.Common.{refl, subst, sym}
use Rattle.node_model.specs.Node.{Settings, blank}
use Rattle.node_model.specs.Stores.{OpensShelf, IsShelf}
use Rattle.node_model.proofs.Lives.{blank_sound}
use Rattle.mem_store.specs.ListStates.{nothing_listed, stand_of, stored_of}
use Rattle.hub_core.specs.Opening.{no_seats, IsWhole}
use Rattle.hub_core.proofs.Closing.{no_sitting, not_some, unseated_sound}

pub new_fits : (settings : Settings) → IsWhole (stand_of nothing_listed) (no_seats settings)
new_fits settings = record {
  fitted = λ unbroken. record {
    keeps = stored_of nothing_listed;
    tells = refl;
    fits = record {
      stock = refl;
      sittings = λ k x at. not_some _ x (no_sitting settings k) at;
      parts = λ p there. absurd there;
      sound = unseated_sound settings blank blank_sound;
    };
  };
  settled = λ unbroken d image. subst (λ e. OpensShelf (IsShelf (stand_of nothing_listed).state.content) e) (sym image.1) refl;
}
