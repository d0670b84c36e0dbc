-- The source of a queued file is acted on (own).
use Rattle.std.specs.Prelude.{◌≡◌, ℕ, Bool, true}
use Rattle.disk_model.specs.World.{World}
use Rattle.ledger_rec.specs.Items.{Entry}
use Rattle.node_model.specs.Outside.{source_acted}
use Rattle.node_store.specs.Contents.{entry_by}
use Rattle.node_store.specs.Worlds.{contents_in, outside_in}

-- the same is outside in both worlds
abbrev pub SameOutside : World → World → Type 0
SameOutside f c = outside_in c ≡ outside_in f

-- Nothing but what is outside changed; and where the disk tells, the entry's action was done to its source at that time, unless
-- that changed since it was taken.
pub record ActsOn (tells : Bool) (e : Entry) (time : ℕ) (d c : World) : Type 0 where
  pub own : c.own ≡ d.own
  pub gifts : c.gifts ≡ d.gifts
  pub outside : tells ≡ true → outside_in c ≡ source_acted (entry_by (contents_in d) e) time (outside_in d)
