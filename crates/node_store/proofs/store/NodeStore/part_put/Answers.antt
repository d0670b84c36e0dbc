use Rattle.std.proofs.Common.{◌≡◌, ◌+◌, ◌==◌, ◌≤◌, ℕ, List, Some, None, length, map, sym, ◌∙◌, ap, subst}
use Rattle.std.specs.Prelude.{find}
use Rattle.std.specs.List.{AllByRecursion}
use Rattle.disk_model.specs.Changes.{Every, Follows, Stands, OnOwn, Rewrites, Holds, Torn}
use Rattle.disk_model.specs.Moments.{Steps}
use Rattle.node_model.specs.declared.store.StoreFault.TheVariants.{Disk}
use Rattle.node_model.specs.Stores.{StoreKept, IsOpen, Part_put, Well, Refuses}
use Rattle.node_store.specs.Names.{in_name}
use Rattle.node_store.specs.Stored.{Holding, Memory, Part, IsSound, grown, have_in, stand_of, state_of}
use Rattle.node_store.proofs.PutCall.{IsPutting, open_part, stands, fits_range, put_kept, put_sound, put_failed}
use Rattle.node_store.proofs.HeldTakes.{other_takes, same_takes}
use Rattle.std.proofs.Common.{refl}
use Rattle.node_store.specs.Worlds.{takes_in}
use Rattle.node_store.proofs.Alike.{in_no_take}
use Rattle.disk_model.specs.World.{World}
use Rattle.node_store.proofs.store.NodeStore.part_put.Goals as goal

pub write_at-requires : goal.write_at-requires
write_at-requires g c =
    let s = c.self.inside in
    let m : Memory = record { books = s.books; given = s.given.items; parts = s.parts.items; staged = s.staged.items; drawn = s.drawn; last_staged = s.last_staged; seat = s.seat; last_given = s.last_given; fulls = s.fulls; broken = s.broken } in
    let n = length c.args.bytes.now in
    let whole : s.broken ≡ None = ap (λ (x : Holding g.row.D.Denot). x.memory.broken) c.self.view_is ∙ c.requires.whole in
    let is_open : IsOpen c.args.part n (state_of g.D.Disk.tells (g.D.Disk.content s.disk) (g.D.Disk.fault_count s.disk) m) = subst (λ (x : Holding g.row.D.Denot). IsOpen c.args.part n (stand_of g.D.Disk.tells g.D.Disk.content g.D.Disk.fault_count g.D.Disk.moment g.D.Disk.images x).state) (sym c.self.view_is) c.requires.fits in
    let o = open_part g.D.Disk.tells (g.D.Disk.content s.disk) (g.D.Disk.fault_count s.disk) m c.args.part n c.self.invariant.0.memory is_open in
    let q = o.part in
    let found : find (λ (p : Part). p.number == q.number) s.parts.items ≡ Some q = ap (λ (k : ℕ). find (λ (p : Part). p.number == k) s.parts.items) o.numbered ∙ o.found in
    let name : c.in_file.result ≡ in_name q.number = c.in_file.ensures ∙ ap in_name (sym o.numbered) in
    let at : c.have_of-at.result ≡ q.have = c.have_of-at.ensures ∙ ap (λ (l : List Part). have_in (find (λ (p : Part). p.number == c.args.part) l)) c.as_slice.ensures.value ∙ ap have_in o.found in
    subst (λ (k : List ℕ). Every (g.D.Disk.files s.disk) (Stands k c.have_of-at.result)) (sym name)
    (subst (λ (k : ℕ). Every (g.D.Disk.files s.disk) (Stands (in_name q.number) k)) (sym at)
    (stands g.D.Disk.tells g.D.Disk.content g.D.Disk.files g.D.Disk.moment g.D.Disk.images s.disk m q c.self.invariant.0 whole found g.met.D.Disk.reads))

pub grow-requires : goal.grow-requires
grow-requires g c =
    let s = c.self.inside in
    let m : Memory = record { books = s.books; given = s.given.items; parts = s.parts.items; staged = s.staged.items; drawn = s.drawn; last_staged = s.last_staged; seat = s.seat; last_given = s.last_given; fulls = s.fulls; broken = s.broken } in
    let n = length c.args.bytes.now in
    let whole : s.broken ≡ None = ap (λ (x : Holding g.row.D.Denot). x.memory.broken) c.self.view_is ∙ c.requires.whole in
    let is_open : IsOpen c.args.part n (state_of g.D.Disk.tells (g.D.Disk.content s.disk) (g.D.Disk.fault_count s.disk) m) = subst (λ (x : Holding g.row.D.Denot). IsOpen c.args.part n (stand_of g.D.Disk.tells g.D.Disk.content g.D.Disk.fault_count g.D.Disk.moment g.D.Disk.images x).state) (sym c.self.view_is) c.requires.fits in
    let o = open_part g.D.Disk.tells (g.D.Disk.content s.disk) (g.D.Disk.fault_count s.disk) m c.args.part n c.self.invariant.0.memory is_open in
    let q = o.part in
    let found : find (λ (p : Part). p.number == q.number) s.parts.items ≡ Some q = ap (λ (k : ℕ). find (λ (p : Part). p.number == k) s.parts.items) o.numbered ∙ o.found in
    let name : c.in_file.result ≡ in_name q.number = c.in_file.ensures ∙ ap in_name (sym o.numbered) in
    let at : c.have_of-at.result ≡ q.have = c.have_of-at.ensures ∙ ap (λ (l : List Part). have_in (find (λ (p : Part). p.number == c.args.part) l)) c.as_slice.ensures.value ∙ ap have_in o.found in
    fits_range s.books.folding c.args.part n s.parts.items c.self.invariant.0.memory.parts o.fits

pub invariant_of-self : goal.invariant_of-self
invariant_of-self g c =
    let s = c.self.inside in
    let m : Memory = record { books = s.books; given = s.given.items; parts = s.parts.items; staged = s.staged.items; drawn = s.drawn; last_staged = s.last_staged; seat = s.seat; last_given = s.last_given; fulls = s.fulls; broken = s.broken } in
    let n = length c.args.bytes.now in
    let whole : s.broken ≡ None = ap (λ (x : Holding g.row.D.Denot). x.memory.broken) c.self.view_is ∙ c.requires.whole in
    let is_open : IsOpen c.args.part n (state_of g.D.Disk.tells (g.D.Disk.content s.disk) (g.D.Disk.fault_count s.disk) m) = subst (λ (x : Holding g.row.D.Denot). IsOpen c.args.part n (stand_of g.D.Disk.tells g.D.Disk.content g.D.Disk.fault_count g.D.Disk.moment g.D.Disk.images x).state) (sym c.self.view_is) c.requires.fits in
    let o = open_part g.D.Disk.tells (g.D.Disk.content s.disk) (g.D.Disk.fault_count s.disk) m c.args.part n c.self.invariant.0.memory is_open in
    let q = o.part in
    let found : find (λ (p : Part). p.number == q.number) s.parts.items ≡ Some q = ap (λ (k : ℕ). find (λ (p : Part). p.number == k) s.parts.items) o.numbered ∙ o.found in
    let name : c.in_file.result ≡ in_name q.number = c.in_file.ensures ∙ ap in_name (sym o.numbered) in
    let at : c.have_of-at.result ≡ q.have = c.have_of-at.ensures ∙ ap (λ (l : List Part). have_in (find (λ (p : Part). p.number == c.args.part) l)) c.as_slice.ensures.value ∙ ap have_in o.found in
    let new = c.write_at.new.self in
    let read = subst (λ (k : List ℕ). Follows (OnOwn (Rewrites k (Torn q.have n))) (g.D.Disk.files s.disk) (g.D.Disk.files new)) name
    (subst (λ (k : ℕ). Follows (OnOwn (Rewrites c.in_file.result (Torn k n))) (g.D.Disk.files s.disk) (g.D.Disk.files new)) at c.write_at.ensures.read) in
    let stop = subst (λ (k : List ℕ). Steps g.D.Disk.moment g.D.Disk.images (OnOwn (Rewrites k (Torn q.have n))) s.disk new) name
    (subst (λ (k : ℕ). Steps g.D.Disk.moment g.D.Disk.images (OnOwn (Rewrites c.in_file.result (Torn k n))) s.disk new) at c.write_at.ensures.stop) in
    let p : IsPutting g.D.Disk.tells g.D.Disk.content g.D.Disk.files g.D.Disk.moment g.D.Disk.images s.disk new m q c.args.bytes.now =
    record { sound = c.self.invariant.0; whole = whole; found = found; as_read = g.met.D.Disk.as_read; reads = g.met.D.Disk.reads; told = g.met.D.Disk.told; read = read; stop = stop } in
    let written = subst (λ (k : List ℕ). Follows (OnOwn (Rewrites k (Holds q.have c.args.bytes.now))) (g.D.Disk.files s.disk) (g.D.Disk.files new)) name
    (subst (λ (k : ℕ). Follows (OnOwn (Rewrites c.in_file.result (Holds k c.args.bytes.now))) (g.D.Disk.files s.disk) (g.D.Disk.files new)) at c.in-Ok.ensures.written) in
    let fits = subst (λ (k : ℕ). AllByRecursion (λ (x : Part). x.number ≡ k → x.have + n ≤ x.key.size) s.parts.items) (sym o.numbered) o.fits in
    let parts : map (grown q.number n) s.parts.items ≡ c.grow.new.parts.items = ap (λ (k : ℕ). map (grown k n) s.parts.items) o.numbered ∙ sym c.grow.ensures in (
      subst (λ (ps : List Part). IsSound g.D.Disk.tells g.D.Disk.content g.D.Disk.moment g.D.Disk.images new (record m { parts = ps })) parts
          (put_sound g.D.Disk.tells g.D.Disk.content g.D.Disk.files g.D.Disk.fault_count g.D.Disk.moment g.D.Disk.images s.disk new m q c.args.bytes.now p written c.in-Ok.ensures.cause.calm fits),
      c.self.invariant.1,
      c.self.invariant.2,
      λ still. same_takes s.takes g.D.Disk.tells (g.D.Disk.content s.disk) (g.D.Disk.content new) (g.D.Disk.fault_count s.disk) (g.D.Disk.fault_count new) m _ _ refl refl refl (λ t. let r = read (g.D.Disk.content new) (g.met.D.Disk.told t new) in subst (λ (w : World). takes_in (g.D.Disk.content new) ≡ takes_in w) (g.met.D.Disk.reads s.disk r.0 r.1).1 (other_takes (in_name q.number) (in_no_take q.number) r.0 (g.D.Disk.content new) r.2.own.others)) (c.self.invariant.3 still),
    )

pub returns-in-Ok : goal.returns-in-Ok
returns-in-Ok g c =
    let s = c.self.inside in
    let m : Memory = record { books = s.books; given = s.given.items; parts = s.parts.items; staged = s.staged.items; drawn = s.drawn; last_staged = s.last_staged; seat = s.seat; last_given = s.last_given; fulls = s.fulls; broken = s.broken } in
    let n = length c.args.bytes.now in
    let whole : s.broken ≡ None = ap (λ (x : Holding g.row.D.Denot). x.memory.broken) c.self.view_is ∙ c.requires.whole in
    let is_open : IsOpen c.args.part n (state_of g.D.Disk.tells (g.D.Disk.content s.disk) (g.D.Disk.fault_count s.disk) m) = subst (λ (x : Holding g.row.D.Denot). IsOpen c.args.part n (stand_of g.D.Disk.tells g.D.Disk.content g.D.Disk.fault_count g.D.Disk.moment g.D.Disk.images x).state) (sym c.self.view_is) c.requires.fits in
    let o = open_part g.D.Disk.tells (g.D.Disk.content s.disk) (g.D.Disk.fault_count s.disk) m c.args.part n c.self.invariant.0.memory is_open in
    let q = o.part in
    let found : find (λ (p : Part). p.number == q.number) s.parts.items ≡ Some q = ap (λ (k : ℕ). find (λ (p : Part). p.number == k) s.parts.items) o.numbered ∙ o.found in
    let name : c.in_file.result ≡ in_name q.number = c.in_file.ensures ∙ ap in_name (sym o.numbered) in
    let at : c.have_of-at.result ≡ q.have = c.have_of-at.ensures ∙ ap (λ (l : List Part). have_in (find (λ (p : Part). p.number == c.args.part) l)) c.as_slice.ensures.value ∙ ap have_in o.found in
    let new = c.write_at.new.self in
    let read = subst (λ (k : List ℕ). Follows (OnOwn (Rewrites k (Torn q.have n))) (g.D.Disk.files s.disk) (g.D.Disk.files new)) name
    (subst (λ (k : ℕ). Follows (OnOwn (Rewrites c.in_file.result (Torn k n))) (g.D.Disk.files s.disk) (g.D.Disk.files new)) at c.write_at.ensures.read) in
    let stop = subst (λ (k : List ℕ). Steps g.D.Disk.moment g.D.Disk.images (OnOwn (Rewrites k (Torn q.have n))) s.disk new) name
    (subst (λ (k : ℕ). Steps g.D.Disk.moment g.D.Disk.images (OnOwn (Rewrites c.in_file.result (Torn k n))) s.disk new) at c.write_at.ensures.stop) in
    let p : IsPutting g.D.Disk.tells g.D.Disk.content g.D.Disk.files g.D.Disk.moment g.D.Disk.images s.disk new m q c.args.bytes.now =
    record { sound = c.self.invariant.0; whole = whole; found = found; as_read = g.met.D.Disk.as_read; reads = g.met.D.Disk.reads; told = g.met.D.Disk.told; read = read; stop = stop } in
    let written = subst (λ (k : List ℕ). Follows (OnOwn (Rewrites k (Holds q.have c.args.bytes.now))) (g.D.Disk.files s.disk) (g.D.Disk.files new)) name
    (subst (λ (k : ℕ). Follows (OnOwn (Rewrites c.in_file.result (Holds k c.args.bytes.now))) (g.D.Disk.files s.disk) (g.D.Disk.files new)) at c.in-Ok.ensures.written) in
    let fits = subst (λ (k : ℕ). AllByRecursion (λ (x : Part). x.number ≡ k → x.have + n ≤ x.key.size) s.parts.items) (sym o.numbered) o.fits in
    let parts : map (grown q.number n) s.parts.items ≡ c.grow.new.parts.items = ap (λ (k : ℕ). map (grown k n) s.parts.items) o.numbered ∙ sym c.grow.ensures in
    let m' : Memory = record { books = s.books; given = s.given.items; parts = c.grow.new.parts.items; staged = s.staged.items; drawn = s.drawn; last_staged = s.last_staged; seat = s.seat; last_given = s.last_given; fulls = s.fulls; broken = s.broken } in
    let put = put_kept g.D.Disk.tells g.D.Disk.content g.D.Disk.files g.D.Disk.fault_count g.D.Disk.moment g.D.Disk.images s.disk new m q c.args.bytes.now p written c.in-Ok.ensures.cause.calm fits in
    let moved = subst (λ (ps : List Part). StoreKept (stand_of g.D.Disk.tells g.D.Disk.content g.D.Disk.fault_count g.D.Disk.moment g.D.Disk.images (record { disk = s.disk; takes = s.takes; memory = m })) (Part_put q.number c.args.bytes.now) Well (stand_of g.D.Disk.tells g.D.Disk.content g.D.Disk.fault_count g.D.Disk.moment g.D.Disk.images (record { disk = new; takes = s.takes; memory = record m { parts = ps } }))) parts put in
    let numbered = subst (λ (k : ℕ). StoreKept (stand_of g.D.Disk.tells g.D.Disk.content g.D.Disk.fault_count g.D.Disk.moment g.D.Disk.images (record { disk = s.disk; takes = s.takes; memory = m })) (Part_put k c.args.bytes.now) Well (stand_of g.D.Disk.tells g.D.Disk.content g.D.Disk.fault_count g.D.Disk.moment g.D.Disk.images (record { disk = new; takes = s.takes; memory = m' }))) o.numbered moved in
    subst (λ (x : Holding g.row.D.Denot). StoreKept (stand_of g.D.Disk.tells g.D.Disk.content g.D.Disk.fault_count g.D.Disk.moment g.D.Disk.images x) (Part_put c.args.part c.args.bytes.now) Well (stand_of g.D.Disk.tells g.D.Disk.content g.D.Disk.fault_count g.D.Disk.moment g.D.Disk.images (record { disk = new; takes = s.takes; memory = m' }))) c.self.view_is numbered

pub returns-in-Err : goal.returns-in-Err
returns-in-Err g c =
    let s = c.self.inside in
    let m : Memory = record { books = s.books; given = s.given.items; parts = s.parts.items; staged = s.staged.items; drawn = s.drawn; last_staged = s.last_staged; seat = s.seat; last_given = s.last_given; fulls = s.fulls; broken = s.broken } in
    let n = length c.args.bytes.now in
    let whole : s.broken ≡ None = ap (λ (x : Holding g.row.D.Denot). x.memory.broken) c.self.view_is ∙ c.requires.whole in
    let is_open : IsOpen c.args.part n (state_of g.D.Disk.tells (g.D.Disk.content s.disk) (g.D.Disk.fault_count s.disk) m) = subst (λ (x : Holding g.row.D.Denot). IsOpen c.args.part n (stand_of g.D.Disk.tells g.D.Disk.content g.D.Disk.fault_count g.D.Disk.moment g.D.Disk.images x).state) (sym c.self.view_is) c.requires.fits in
    let o = open_part g.D.Disk.tells (g.D.Disk.content s.disk) (g.D.Disk.fault_count s.disk) m c.args.part n c.self.invariant.0.memory is_open in
    let q = o.part in
    let found : find (λ (p : Part). p.number == q.number) s.parts.items ≡ Some q = ap (λ (k : ℕ). find (λ (p : Part). p.number == k) s.parts.items) o.numbered ∙ o.found in
    let name : c.in_file.result ≡ in_name q.number = c.in_file.ensures ∙ ap in_name (sym o.numbered) in
    let at : c.have_of-at.result ≡ q.have = c.have_of-at.ensures ∙ ap (λ (l : List Part). have_in (find (λ (p : Part). p.number == c.args.part) l)) c.as_slice.ensures.value ∙ ap have_in o.found in
    let new = c.write_at.new.self in
    let read = subst (λ (k : List ℕ). Follows (OnOwn (Rewrites k (Torn q.have n))) (g.D.Disk.files s.disk) (g.D.Disk.files new)) name
    (subst (λ (k : ℕ). Follows (OnOwn (Rewrites c.in_file.result (Torn k n))) (g.D.Disk.files s.disk) (g.D.Disk.files new)) at c.write_at.ensures.read) in
    let stop = subst (λ (k : List ℕ). Steps g.D.Disk.moment g.D.Disk.images (OnOwn (Rewrites k (Torn q.have n))) s.disk new) name
    (subst (λ (k : ℕ). Steps g.D.Disk.moment g.D.Disk.images (OnOwn (Rewrites c.in_file.result (Torn k n))) s.disk new) at c.write_at.ensures.stop) in
    let p : IsPutting g.D.Disk.tells g.D.Disk.content g.D.Disk.files g.D.Disk.moment g.D.Disk.images s.disk new m q c.args.bytes.now =
    record { sound = c.self.invariant.0; whole = whole; found = found; as_read = g.met.D.Disk.as_read; reads = g.met.D.Disk.reads; told = g.met.D.Disk.told; read = read; stop = stop } in
    let m' : ℕ → Memory = λ k. record { books = s.books; given = s.given.items; parts = s.parts.items; staged = s.staged.items; drawn = s.drawn; last_staged = s.last_staged; seat = s.seat; last_given = s.last_given; fulls = s.fulls; broken = Some k } in
    let put = put_failed g.D.Disk.tells g.D.Disk.content g.D.Disk.files g.D.Disk.fault_count g.D.Disk.moment g.D.Disk.images s.disk new m q c.args.bytes.now p c.in-Err.ensures.cause.failed in
    let counted = subst (λ (k : ℕ). StoreKept (stand_of g.D.Disk.tells g.D.Disk.content g.D.Disk.fault_count g.D.Disk.moment g.D.Disk.images (record { disk = s.disk; takes = s.takes; memory = m })) (Part_put q.number c.args.bytes.now) (Refuses Disk) (stand_of g.D.Disk.tells g.D.Disk.content g.D.Disk.fault_count g.D.Disk.moment g.D.Disk.images (record { disk = new; takes = s.takes; memory = m' k }))) (sym c.faults.ensures) put in
    let numbered = subst (λ (k : ℕ). StoreKept (stand_of g.D.Disk.tells g.D.Disk.content g.D.Disk.fault_count g.D.Disk.moment g.D.Disk.images (record { disk = s.disk; takes = s.takes; memory = m })) (Part_put k c.args.bytes.now) (Refuses Disk) (stand_of g.D.Disk.tells g.D.Disk.content g.D.Disk.fault_count g.D.Disk.moment g.D.Disk.images (record { disk = new; takes = s.takes; memory = m' c.faults.result }))) o.numbered counted in
    subst (λ (x : Holding g.row.D.Denot). StoreKept (stand_of g.D.Disk.tells g.D.Disk.content g.D.Disk.fault_count g.D.Disk.moment g.D.Disk.images x) (Part_put c.args.part c.args.bytes.now) (Refuses Disk) (stand_of g.D.Disk.tells g.D.Disk.content g.D.Disk.fault_count g.D.Disk.moment g.D.Disk.images (record { disk = new; takes = s.takes; memory = m' c.faults.result }))) c.self.view_is numbered
