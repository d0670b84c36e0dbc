-- A command over a disk that was read before.
use Rattle.std.proofs.Common.{◌<◌, [], ◌∷◌, length, arith, ◌≡◌, ◌⊎◌, ◌∙◌, ℕ, Bool, true, List, Result, Ok, Err, inl, inr, subst, sym}
use Rattle.std.specs.List.{All}
use Rattle.std.proofs.lemmas.List.Elements.{All-head}
use Rattle.ftn_addr.specs.Address.{Address}
use Rattle.ftn_addr.specs.Limits.{IsAddress}
use Rattle.mail_conf.specs.Conf.{ConfText}
use Rattle.mail_conf.specs.Limits.{KeepsLimits}
use Rattle.session_core.specs.Stages.{home_of}
use Rattle.ftn_addr.specs.Reading.{reading}
use Rattle.ftn_addr.specs.declared.reading.AddrFault.{AddrFault}
use Rattle.ftn_addr.specs.declared.reading.AddrFault.TheVariants.{NoMemory}
use Rattle.command_words.specs.Forms.{Command}
use Rattle.nodelist_files.specs.declared.fault.CompileFault.{CompileFault}
use Rattle.disk_model.specs.Changes.{Every, Same}
use Rattle.disk_model.specs.Moments.{Leaves}
use Rattle.disk_model.specs.World.{World}
use Rattle.nodelist_files.specs.Files.{index_name}
use Rattle.nodelist_files.specs.IndexFile.{index_at}
use Rattle.command_base.specs.Causes.{IsBadIndex}
use Rattle.command_base.specs.Settings.{OnlyRead}
use Rattle.command_base.proofs.ReadOnly.{no_index_before, opened_before, refused_before, settings_before, then_read, unset_before}
use Rattle.still_commands.specs.Came.{Told}
use Rattle.still_commands.specs.Still.{IsStill, CompilesFile, Over_still, Not_set, No_address, No_index, Not_opened, Bad_index, Looked_up, Compiled, Listed, Runs_still, Before_takes, Taken_in}

module _ {D : Type 0} (files : D → World → Type 0) (tells : Bool) (content : D → World) (faults : D → ℕ) (moment : D → ℕ) (images : D → ℕ → World → Type 0) where
  pub still_before : (command : Command) (old mid new : D) (told : Told) → IsStill command → OnlyRead tells content faults moment images old mid → faults mid ≡ faults old
      → Over_still files tells content faults moment images command mid told new → Over_still files tells content faults moment images command old told new
  still_before command old mid new told still only calm (Not_set are had is why more) =
      Not_set are had is (unset_before tells content faults moment images old mid new had only calm why) (then_read tells content faults moment images old mid new only more)
  still_before command old mid new told still only calm (No_address conf settings text form none more) =
      No_address conf (settings_before tells content faults moment images old mid conf only settings) text form none (then_read tells content faults moment images old mid new only more)
  still_before command old mid new told still only calm (No_index conf settings asks had is why more) =
      No_index conf (settings_before tells content faults moment images old mid conf only settings) asks had is (no_index_before faults old mid new had calm why) (then_read tells content faults moment images old mid new only more)
  still_before command old mid new told still only calm (Not_opened conf settings asks fault is refused) =
      Not_opened conf (settings_before tells content faults moment images old mid conf only settings) asks fault is (refused_before tells content faults moment images old mid new fault only calm refused)
  still_before command old mid new told still only calm (Bad_index conf settings text a form reads opened h disk_is bad is) =
      Bad_index conf (settings_before tells content faults moment images old mid conf only settings) text a form reads opened (opened_before tells content faults moment images old mid opened only calm h) disk_is (λ telling. subst IsBadIndex (only.same telling) (bad telling)) is
  still_before command old mid new told still only calm (Looked_up conf settings text a form reads opened h disk_is index at is) =
      Looked_up conf (settings_before tells content faults moment images old mid conf only settings) text a form reads opened (opened_before tells content faults moment images old mid opened only calm h) disk_is index (λ telling. subst (λ (w : World). index_at (w.own index_name) ≡ Ok index) (only.same telling) (at telling)) is
  still_before command old mid new told still only calm (Compiled conf settings path form opened h result does is) =
      Compiled conf (settings_before tells content faults moment images old mid conf only settings) path form opened (opened_before tells content faults moment images old mid opened only calm h) result does is
  still_before command old mid new told still only calm (Listed conf settings form opened h disk_is is) =
      Listed conf (settings_before tells content faults moment images old mid conf only settings) form opened (opened_before tells content faults moment images old mid opened only calm h) disk_is is

  pub runs_before : (command : Command) (now : ℕ) (old mid new : D) (told : Told) → IsStill command → OnlyRead tells content faults moment images old mid → faults mid ≡ faults old
      → Runs_still files tells content faults moment images command now mid told new → Runs_still files tells content faults moment images command now old told new
  runs_before command now old mid new told still only calm (Before_takes over) = Before_takes (still_before command old mid new told still only calm over)
  runs_before command now old mid new told still only calm (Taken_in conf settings form opened h takes) =
      Taken_in conf (settings_before tells content faults moment images old mid conf only settings) form opened (opened_before tells content faults moment images old mid opened only calm h) takes

  -- a disk of which more was read
  pub much_read : ((d : D) (w : World) → files d w → (tells ≡ true) × (w ≡ content d)) → (tells ≡ true → (d : D) → files d (content d))
      → (old new : D) → Every (files new) (files old) → Leaves moment images Same old new → OnlyRead tells content faults moment images old new
  much_read reads told old new read stop = record { same = λ telling. (reads old (content new) (read (content new) (told telling new))).1; stop = stop }

  -- a command that hands a disk on
  pub left_so : (command : Command) (disk mid disk' : D) (told : Told) → disk' ≡ mid → Over_still files tells content faults moment images command disk told mid → Over_still files tells content faults moment images command disk told disk'
  left_so command disk mid disk' told is over = subst (λ (d : D). Over_still files tells content faults moment images command disk told d) (sym is) over

  pub compiles_from : (path : List ℕ) (result : Result ℕ CompileFault) (old mid new : D) → mid ≡ old → CompilesFile files faults moment images path result mid new → CompilesFile files faults moment images path result old new
  compiles_from path result old mid new is does = subst (λ (d : D). CompilesFile files faults moment images path result d new) is does

-- what a text spells, by what is the same
pub reads_at : (t t' : List ℕ) (h h' : Address) (r : Result Address AddrFault) → t ≡ t' → h ≡ h' → reading t h ≡ r → reading t' h' ≡ r
reads_at t t' h h' r text home reads = subst (λ (x : List ℕ). reading x h' ≡ r) text (subst (λ (x : Address). reading t x ≡ r) home reads)

-- a text that is refused for no want of memory spells no address
pub spells_none : (t t' : List ℕ) (h h' : Address) (fault : AddrFault) → t ≡ t' → h ≡ h' → (fault ≡ NoMemory → ⊥) → (fault ≡ NoMemory) ⊎ (reading t h ≡ Err fault) → (a : Address) → reading t' h' ≡ Ok a → ⊥
spells_none t t' h h' fault text home other (inl memory) a reads = other memory
spells_none t t' h h' fault text home other (inr refused) a reads = let clash : Err fault ≡ Ok a = sym (reads_at t t' h h' (Err fault) text home refused) ∙ reads in cc

-- the home of settings that keep their limits
pub home_within : (c : ConfText) → KeepsLimits c → IsAddress (home_of c.addresses)
home_within c keeps = go c.addresses keeps.some keeps.addresses
  where
    go : (xs : List Address) → 0 < length xs → All IsAddress xs → IsAddress (home_of xs)
    go [] some all = absurd (omega (arith, some))
    go (x ∷ xs) some all = All-head IsAddress x xs all
