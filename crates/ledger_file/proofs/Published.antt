-- A run of the gate's protocol, call by call. The disks d0 to d4 are those before it and after each of its calls.
use Rattle.std.proofs.Common.{◌≡◌, ℕ, ◌+◌, List, [], ◌∷◌, length, take, drop, Some, ◌∙◌, subst, arith, append_assoc}
use Rattle.disk_model.specs.World.{World}
use Rattle.disk_model.specs.Changes.{Every, Follows, Same, SameAt, Stands, OnOwn, Rewrites, Torn, Holds}
use Rattle.disk_model.specs.Moments.{Now, Steps, Leaves}
use Rattle.disk_model.proofs.MomentLemmas.{started, goes_on, same_now}
use Rattle.ledger_file.specs.Gate.{IsShut, ShutAt, Published, Opened}
use Rattle.ledger_file.proofs.GateLemmas.{Staged, long, torn_behind, torn_gate, is_staged, is_opened, same_as_shut}
use Rattle.ledger_file.proofs.OwnLemmas.{own_map, own_then, own_same}

-- one own file changes by R
abbrev pub Changes : List ℕ → (List ℕ → List ℕ → Type 0) → World → World → Type 0
Changes name R = OnOwn (Rewrites name R)

module _ {D : Type 0} (moment : D → ℕ) (images : D → ℕ → World → Type 0) (files : D → World → Type 0)
    (as_read : (d : D) (w : World) → files d w → images d (moment d) w)
    (name : List ℕ) (gate : ℕ) (block : List ℕ) (d0 : D) (shut : Every (Now moment images d0) (ShutAt name gate)) where
  abbrev pub Step : World → World → Type 0
  Step = Changes name (Published gate block)

  abbrev pub So : D → D → Type 0
  So = Leaves moment images Step

  -- what the two writes and the two syncs say
  abbrev pub WritesBlock : D → D → Type 0
  WritesBlock = Steps moment images (Changes name (Torn (gate + 1) (length block)))

  abbrev pub WritesGate : D → D → Type 0
  WritesGate = Steps moment images (Changes name (Torn gate 1))

  abbrev pub Syncs : D → D → Type 0
  Syncs = Steps moment images Same

  abbrev pub WroteBlock : D → D → Type 0
  WroteBlock d1 d2 = Follows (Changes name (Holds (gate + 1) block)) (files d1) (files d2)

  abbrev pub WroteGate : D → D → Type 0
  WroteGate d1 d2 = Follows (Changes name (Holds gate (1 ∷ []))) (files d1) (files d2)

  abbrev pub Synced : D → D → Type 0
  Synced d1 d2 = Follows (SameAt name) (files d1) (Now moment images d2)

  shut_there : (d : World) → images d0 (moment d0) d → (b : List ℕ) → d.own name ≡ Some b → IsShut gate b
  shut_there d now b is =
      let at = shut d now in
      let same : at.0 ≡ b = cc (at.1, is) in
      subst (IsShut gate) same at.2

  pub stands_at_first : Every (files d0) (Stands name (gate + 1))
  stands_at_first f read = let at = shut f (as_read d0 f read) in (at.0, at.1, long gate at.0 at.2)

  -- the file stands after each write
  pub stands_later : (d1 d2 d3 : D) → Follows (Changes name (Torn (gate + 1) (length block))) (files d0) (files d1) → Every (files d2) (files d1)
      → Follows (Changes name (Torn gate 1)) (files d2) (files d3) → Every (files d3) (Stands name 0)
  stands_later d1 d2 d3 block_read same gate_read f read =
      let before = gate_read f read in
      let early = block_read before.0 (same before.0 before.1) in
      let at = stands_at_first early.0 early.1 in
      let staged = early.2.own.file at.0 at.1 in
      let after = before.2.own.file staged.0 staged.1 in
      (after.0, after.1, omega arith)

  at_start : So d0 d0
  at_start = started moment images Step d0 (λ c now. own_same name (Published gate block) c (λ b is. same_as_shut gate block b (shut_there c now b is)))

  pub first : (d1 : D) → WritesBlock d0 d1 → So d0 d1
  first d1 call = goes_on moment images (Changes name (Torn (gate + 1) (length block))) Step d0 d0 d1 at_start call (λ c now.
      let was = call.now c now in
      (was.0, was.1, own_map name (Torn (gate + 1) (length block)) (Published gate block) was.0 c (λ b a is _ torn. torn_behind gate b (shut_there was.0 was.1 b is) block (length block) a torn) was.2))

  -- a sync is under way
  syncing : (d1 d2 : D) → So d0 d1 → Syncs d1 d2 → So d0 d2
  syncing d1 d2 so_far call = goes_on moment images Same Step d0 d1 d2 so_far call (λ c now. so_far.each (moment d1) c so_far.grew.later (omega arith) (same_now moment images d1 d2 call c now))

  pub second : (d1 d2 : D) → WritesBlock d0 d1 → Syncs d1 d2 → So d0 d2
  second d1 d2 call sync = syncing d1 d2 (first d1 call) sync

  -- the block is on the disk
  IsOnDisk : D → Type 0
  IsOnDisk d2 = Follows (Changes name (Staged gate block)) (Now moment images d0) (Now moment images d2)

  -- what is read there has it too
  Reads : D → Type 0
  Reads d2 = Every (files d2) (λ f. (b : List ℕ) × (m : List ℕ) × (f.own name ≡ Some m) × IsShut gate b × Staged gate block b m)

  module _ (d1 d2 : D) (call : WritesBlock d0 d1) (wrote : WroteBlock d0 d1) (same : Every (files d2) (files d1)) (sync : Syncs d1 d2) (durable : Synced d1 d2) where
    on_disk : IsOnDisk d2
    unfolding IsOnDisk
    on_disk c now =
        let was = call.now c (same_now moment images d1 d2 sync c now) in
        let read = durable c now in
        let before = wrote read.0 read.1 in
        let stood = shut before.0 (as_read d0 before.0 before.1) in
        let after = before.2.own.file stood.0 stood.1 in (
          was.0,
          was.1,
          own_map name (Torn (gate + 1) (length block)) (Staged gate block) was.0 c (λ b a is now_is torn.
              let same : after.0 ≡ a = cc (after.1, read.2, now_is) in
              is_staged gate block b a stood.0 (length block) torn stood.2 (subst (Holds (gate + 1) block stood.0) same after.2)) was.2,
        )

    reads : Reads d2
    unfolding Reads
    reads f read =
        let before = wrote f (same f read) in
        let stood = shut before.0 (as_read d0 before.0 before.1) in
        let after = before.2.own.file stood.0 stood.1 in
        (stood.0, after.0, after.1, stood.2, record { more = drop (gate + 1 + length block) stood.0; is = after.2 ∙ append_assoc (take (gate + 1) stood.0) block (drop (gate + 1 + length block) stood.0) })

    -- a torn gate leaves the block
    gate_torn : (d3 : D) → Follows (Changes name (Torn gate 1)) (Now moment images d2) (Now moment images d3) → Follows Step (Now moment images d0) (Now moment images d3)
    unfolding IsOnDisk
    gate_torn d3 crash c now =
        let was = crash c now in
        let before = on_disk was.0 was.1 in (
          before.0,
          before.1,
          own_then name (Staged gate block) (Torn gate 1) (Published gate block) before.0 was.0 c
              (λ b m a is _ _ staged torn. torn_gate gate b (shut_there before.0 before.1 b is) block m a staged torn) before.2 was.2,
        )

    pub third : (d3 : D) → WritesGate d2 d3 → So d0 d3
    third d3 gate_call = goes_on moment images (Changes name (Torn gate 1)) Step d0 d2 d3 (second d1 d2 call sync) gate_call (gate_torn d3 gate_call.now)

    pub fourth : (d3 d4 : D) → WritesGate d2 d3 → Syncs d3 d4 → So d0 d4
    fourth d3 d4 gate_call last = syncing d3 d4 (third d3 gate_call) last

    -- the open gate is on the disk
    pub opened : (d3 d4 : D) → WritesGate d2 d3 → WroteGate d2 d3 → Syncs d3 d4 → Synced d3 d4 → Follows (Changes name (Opened gate block)) (Now moment images d0) (Now moment images d4)
    unfolding Reads
    opened d3 d4 gate_call wrote_gate last durable_gate c now =
        let was = gate_torn d3 gate_call.now c (same_now moment images d3 d4 last c now) in
        let read = durable_gate c now in
        let before = wrote_gate read.0 read.1 in
        let stood = reads before.0 before.1 in
        let after = before.2.own.file stood.1 stood.2 in (
          was.0,
          was.1,
          own_map name (Published gate block) (Opened gate block) was.0 c (λ b a is now_is published.
              let same : after.0 ≡ a = cc (after.1, read.2, now_is) in
              is_opened gate block b a stood.0 stood.1 (shut_there was.0 was.1 b is) published stood.3 stood.4 (subst (Holds gate (1 ∷ []) stood.1) same after.2)) was.2,
        )
