-- How a node that serves ends: its store is broken exactly at Disk, with that count.
use Rattle.std.proofs.Common.{◌≡◌, ℕ, Bool, Option, Some, None, List, refl, sym, ◌∙◌, ap, subst}
use Rattle.disk_model.specs.World.{World}
use Rattle.ftn_addr.specs.Counts.{CountGrew, Increased}
use Rattle.binkp_link.specs.Lines.{SinkState}
use Rattle.binkp_link.specs.LineSources.{LinesState}
use Rattle.mail_conf.specs.Conf.{ConfText}
use Rattle.node_model.specs.Calls.{Counts}
use Rattle.nodelist_comp.specs.Node.{ListedNode}
use Rattle.binkp_serve.specs.Rests.{Rest, standing, told_at}
use Rattle.binkp_serve.specs.Serving.{By_count, By_disk, By_lines, By_stop, Ends, Giving, Is_broken, Is_whole, Server, Serves, at_start, broken_in, end_with}
use Rattle.binkp_serve.specs.declared.words.ServeEnd.{ServeEnd}
use Rattle.binkp_serve.specs.declared.words.ServeEnd.TheVariants as E
use Rattle.binkp_serve.proofs.Reaching.{broke_since}
use Rattle.binkp_serve.proofs.Sessions.{told_counts}

-- an end by its disk
abbrev IsDisk : ℕ → ServeEnd → Type 0
IsDisk count end = end ≡ E.Disk count

with_disk : (broken : Option ℕ) (was : ServeEnd) (count : ℕ) → IsDisk count (end_with broken was) → (IsDisk count was → broken ≡ Some count) → broken ≡ Some count
with_disk None was count is by = by is
with_disk (Some n) was count is by = let same : n ≡ count = cc in ap (λ (k : ℕ). Some k) same

module _ {D : Type 0} (tells : Bool) (content : D → World) (faults : D → ℕ) (moment : D → ℕ) (images : D → ℕ → World → Type 0) (conf : ConfText) (index : Option (List ListedNode)) where
  -- a store that is broken stays so while files are given
  giving_broken : (s t : Server D) (count : ℕ) → Giving tells content faults moment images conf s t → broken_in s ≡ Some count → broken_in t ≡ Some count
  giving_broken s t count (Is_broken broken is) was = ap (λ (x : Server D). broken_in x) is ∙ was
  giving_broken s t count (Is_whole whole gives) was = absurd (let clash : None ≡ Some count = sym whole ∙ was in cc)

  ends_broken : (s t : Server D) (end : ServeEnd) (count : ℕ) → Ends tells content faults moment images conf index s end t → IsDisk count end → broken_in t ≡ Some count
  ends_broken s _ _ count (By_disk n broken) is = let same : n ≡ count = cc in broken ∙ ap (λ (k : ℕ). Some k) same
  ends_broken s _ _ count (By_count whole many) is = absurd (cc)
  ends_broken s _ _ count (By_stop whole lines next) is = absurd (cc)
  ends_broken s _ _ count (By_lines whole lines next) is = absurd (cc)

  disk_is_broken : (rest : Rest D) (lines : LinesState) (out : SinkState) (end : ServeEnd) (short : Bool) (rest' : Rest D) (lines' : LinesState) (out' : SinkState) (count : ℕ) → Serves tells content faults moment images conf index (at_start rest lines out) end short rest' lines' out' → end ≡ E.Disk count → rest'.store.memory.broken ≡ Some count
  disk_is_broken rest lines out end short rest' lines' out' count x is =
      ap (λ (r : Rest D). r.store.memory.broken) x.rest_is
      ∙ with_disk (broken_in x.new) x.was count (sym x.is ∙ is) (λ disk. giving_broken x.ended x.new count x.gives (ends_broken x.turns.last x.ended x.was count x.turns.ends disk))

  -- the count of such an end is one to which the disk's faults rose
  pub disk_rose : (rest : Rest D) (lines : LinesState) (out : SinkState) (end : ServeEnd) (short : Bool) (rest' : Rest D) (lines' : LinesState) (out' : SinkState) (count : ℕ) → rest.store.memory.broken ≡ None → Serves tells content faults moment images conf index (at_start rest lines out) end short rest' lines' out' → end ≡ E.Disk count
      → Increased (faults rest.store.disk) count × CountGrew count (faults rest'.store.disk)
  disk_rose rest lines out end short rest' lines' out' count whole x is =
      let old = standing tells content faults moment images rest in
      let new = standing tells content faults moment images rest' in
      let a = told_counts old.state rest.hub rest.seat in
      let b = told_counts new.state rest'.hub rest'.seat in
      let rose = broke_since rest.seat (told_at tells content faults moment images rest) x.reached.events (told_at tells content faults moment images rest') count x.reached.rows (ap (λ (c : Counts). c.broken) a ∙ whole) (ap (λ (c : Counts). c.broken) b ∙ disk_is_broken rest lines out end short rest' lines' out' count x is) in
      (subst (λ (c : Counts). Increased c.faults count) a rose.0, subst (λ (c : Counts). CountGrew count c.faults) b rose.1)
