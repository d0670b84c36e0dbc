-- When a node that serves leaves nobody uncalled (own).
use Rattle.std.specs.Prelude.{◌≡◌, ◌≢◌, ℕ, Bool, true, false, List, Option, None}
use Rattle.disk_model.specs.World.{World}
use Rattle.ftn_addr.specs.Counts.{Increased}
use Rattle.binkp_link.specs.LineSources.{LinesState}
use Rattle.mail_conf.specs.Conf.{ConfText}
use Rattle.node_model.specs.Lists.{Member}
use Rattle.node_model.specs.StoreStates.{StoreStand}
use Rattle.node_model.specs.declared.words.Flavour.TheVariants.{Hold}
use Rattle.nodelist_comp.specs.Node.{ListedNode}
use Rattle.binkp_serve.specs.Calling.{Waits, items_of, queue_of}
use Rattle.binkp_serve.specs.Rests.{Rest, standing}

-- nothing waits for an address that may be called, but to be fetched
abbrev pub NobodyCounts : ConfText → Option (List ListedNode) → StoreStand → Type 0
NobodyCounts conf index store = (w : Waits) → Member w (items_of conf index (queue_of store)) → w.callable ≡ true → w.flavour ≢ Hold → ⊥

-- Where nobody called for a while, and neither a line was given nor a dial failed, nothing waits that a call was to be made for; unless
-- no calls are to be made, memory was short, or the store broke.
abbrev pub LeavesNobody : {D : Type 0} → Bool → (D → World) → (D → ℕ) → (D → ℕ) → (D → ℕ → World → Type 0) → ConfText → Option (List ListedNode) → LinesState → (short : Bool) → Rest D → LinesState → Type 0
LeavesNobody tells content faults moment images conf index lines short rest lines' =
    lines'.counts.nothings ≢ lines.counts.nothings → (Increased lines.counts.given lines'.counts.given → ⊥) → (Increased lines.counts.misses lines'.counts.misses → ⊥)
    → conf.max_clients ≢ 0 → short ≡ false → rest.store.memory.broken ≡ None → NobodyCounts conf index (standing tells content faults moment images rest)
