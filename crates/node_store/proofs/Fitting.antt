-- Files that fit what the ledger says, and files that are given.
use Rattle.std.proofs.Common.{◌≡◌, ℕ, List, true, sym, subst}
use Rattle.disk_model.specs.World.{World}
use Rattle.ledger_rec.specs.Fold.{State}
use Rattle.ledger_rec.specs.Items.{Entry, Receipt, PartMark}
use Rattle.node_model.specs.Durable as D
use Rattle.node_model.proofs.Lists.{Each-member}
use Rattle.node_store.specs.Contents.{durable_by, with_given}
use Rattle.node_store.specs.Names.{in_name, out_name}
use Rattle.node_store.specs.Worlds.{contents_in, durable_in, HasLength, HasFront, HasNoOther, HasFiles, IsBadFile, Of_entry, Of_mark, Of_receipt}
use Rattle.node_store.proofs.Mirrors.{given_mirrored}

pub given_in_world : (w : World) (s : State) (n : ℕ) → durable_by (with_given n (contents_in w)) s ≡ D.with_given n (durable_in w s)
given_in_world w s n = given_mirrored (contents_in w) n s

pub no_bad : (w : World) (s : State) (name : List ℕ) → HasFiles s w → IsBadFile s w name → ⊥
no_bad w s name fits (Of_entry e there live is lacks) =
    lacks (subst (λ (n : List ℕ). HasLength n e.key.size w) (sym is) (Each-member (λ (x : Entry). x.live ≡ true → HasLength (out_name x.number) x.key.size w) e s.queue fits.live there live))
no_bad w s name fits (Of_mark m there is lacks) =
    lacks (subst (λ (n : List ℕ). HasFront n m.len w) (sym is) (Each-member (λ (x : PartMark). HasFront (in_name x.number) x.len w) m s.marks fits.marked there))
no_bad w s name fits (Of_receipt r there is lacks) =
    lacks (subst (λ (n : List ℕ). HasNoOther n r.key.size w) (sym is) (Each-member (λ (x : Receipt). HasNoOther (in_name x.number) x.key.size w) r s.inbox fits.received there))
