-- A copy and a gift, as a read gives them.
use Rattle.std.proofs.Common.{◌≡◌, inl, inr, ℕ, List, Option, Some, None, refl, sym, ◌∙◌, ap, subst}
use Rattle.std.specs.Prelude.{option_map}
use Rattle.disk_model.specs.World.{OutFile, World}
use Rattle.disk_model.specs.Changes.{Every, Follows, OnOwn, Puts, PutsPart}
use Rattle.disk_model.specs.Answers.{stat_of}
use Rattle.mem_disk.specs.Kept.{unsynced}
use Rattle.mem_disk.specs.Holding.{under, play, shown}
use Rattle.mem_disk.specs.MemoryDisk.{mem_files}
use Rattle.mem_disk.specs.StopLaws.{added}
use Rattle.mem_disk.specs.declared.call.Call.TheVariants.{Copied}
use Rattle.disk_model.specs.declared.answers.OutStat.{OutStat}
use Rattle.mem_disk.specs.declared.disk.MemDisk.{MemDisk}

pub part_same : (name : List ℕ) (n : ℕ) (w : World) → OnOwn (PutsPart name n) w w
part_same name n w = record { own = record { here = inr (inl refl); others = λ m other. refl }; outside = refl; gifts = refl }

-- a call that failed, of which a stop may leave a part
pub part_unchanged : (name : List ℕ) (n : ℕ) (old new : World → Type 0) → Every new old → Follows (OnOwn (PutsPart name n)) old new
part_unchanged name n old new every w now = (w, every w now, part_same name n w)

pub part_failed : (name : List ℕ) (n : ℕ) (old new : World → Type 0) → Follows (λ d c. c ≡ d) old new → Follows (OnOwn (PutsPart name n)) old new
part_failed name n old new follows w now = let was = follows w now in (was.0, was.1, subst (λ (v : World). OnOwn (PutsPart name n) was.0 v) (sym was.2) (part_same name n was.0))

-- the file of which this is the size and the time
pub stat_found : (o : Option OutFile) (stat : OutStat) → Some stat ≡ option_map stat_of o → (f : OutFile) × (o ≡ Some f)
stat_found None stat is = absurd (cc is)
stat_found (Some f) stat is = (f, refl)

pub copy_says : (old new : MemDisk) (path own bytes : List ℕ) (f : OutFile) → under path old.held.outside ≡ Some f → bytes ≡ f.bytes → new.held ≡ play (Copied own bytes) old.held
    → Follows (λ d c. (g : OutFile) × (d.outside path ≡ Some g) × OnOwn (Puts own (Some g.bytes)) d c) (mem_files old) (mem_files new)
copy_says old new path own bytes f at is done w now =
    let all : w ≡ shown (play (Copied own f.bytes) old.held) = now ∙ ap shown done ∙ ap (λ (b : List ℕ). shown (play (Copied own b) old.held)) is in
    let copied : OnOwn (Puts own (Some f.bytes)) (shown old.held) (shown (play (Copied own f.bytes) old.held)) =
    record { own = added (λ _. 1) own (unsynced f.bytes) f.bytes old.held.own refl; outside = refl; gifts = refl } in
    (shown old.held, refl, (f, at, subst (OnOwn (Puts own (Some f.bytes)) (shown old.held)) (sym all) copied))
