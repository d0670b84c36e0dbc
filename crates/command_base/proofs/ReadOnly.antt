-- A disk that was read only.
use Rattle.std.proofs.Common.{◌≡◌, ◌⊎◌, ◌∙◌, ℕ, Bool, true, List, length, take, drop, Option, Some, None, option_map, Result, Ok, Err, IfErr, nat_lt, ◌<◌, false, if◌then◌else◌, refl, sym, ap, subst, inl, inr, arith}
use Rattle.std.proofs.Math.Seq.{take-length}
use Rattle.std.proofs.lemmas.Bool.{lt-ltb}
use Rattle.disk_model.specs.Changes.{Every, Same}
use Rattle.disk_model.specs.Moments.{Steps, Leaves}
use Rattle.disk_model.specs.World.{World}
use Rattle.disk_model.proofs.MomentLemmas.{started, goes_on, runs_on}
use Rattle.mail_conf.specs.Conf.{ConfText, finish_or, with_lines}
use Rattle.mail_conf.specs.Domain.{home_of}
use Rattle.mail_conf.specs.Draft.{empty_draft}
use Rattle.mail_conf.specs.declared.cause.ConfCause.TheVariants as C
use Rattle.mail_conf.specs.declared.cause.ConfFault.{ConfFault}
use Rattle.std.specs.Str.Lines.{lines}
use Rattle.ftn_addr.specs.Counts.{Increased}
use Rattle.node_store.specs.Aside.{SameAside}
use Rattle.node_store.specs.Opening.{IsRefused, Recovers}
use Rattle.node_store.specs.Stored.{Holding}
use Rattle.node_store.specs.Worlds.{OpensAs}
use Rattle.node_store.specs.Finding.{IsOpened}
use Rattle.node_store.specs.declared.opening.fault.StoreOpenFault.{StoreOpenFault}
use Rattle.node_store.specs.declared.opening.fault.StoreOpenFault.TheVariants as F
use Rattle.command_base.specs.Opening.{HasOpened, HasRefused}
use Rattle.command_base.specs.Causes.{NoIndex}
use Rattle.command_base.specs.Settings.{HasSettings, NoSettings, Is_refused, Has_failed, Had_no_memory, OnlyRead, Unspelled, settings_at, settings_in, settings_name}
use Rattle.command_base.specs.Statuses.{Status, status_unset}
use Rattle.command_base.specs.declared.settings.SettingsFault.{SettingsFault}
use Rattle.command_base.specs.declared.settings.SettingsFault.TheVariants as U

-- a file of that length, read whole
pub read_whole : (w : World) (name : List ℕ) (len room : ℕ) (out : List ℕ) → name ≡ settings_name → room ≡ len → Some len ≡ option_map length (w.own settings_name) → ((b : List ℕ) → w.own name ≡ Some b → out ≡ take room (drop 0 b)) → w.own settings_name ≡ Some out
read_whole w name len room out named all size came = go (w.own settings_name) refl size
  where
    go : (o : Option (List ℕ)) → w.own settings_name ≡ o → Some len ≡ option_map length o → w.own settings_name ≡ Some out
    go None is size = absurd (let clash : Some len ≡ None = size in cc)
    go (Some b) is size =
        let same : len ≡ length b = cc in
        is ∙ ap Some (sym (came b (ap w.own named ∙ is) ∙ ap (λ (n : ℕ). take n b) (all ∙ same) ∙ take-length b))

-- the settings of a text of not too many bytes
abbrev conf_lines : List ℕ → Result ConfText ConfFault
conf_lines text = finish_or (with_lines (home_of (lines text)) empty_draft 0 (lines text))

pub other_cause : (fault : ConfFault) → fault ≡ record { line = 0; cause = C.TooLong } → fault.cause ≡ C.NoMemory → ⊥
other_cause fault is none = let clash : C.TooLong ≡ C.NoMemory = sym (ap (λ (f : ConfFault). f.cause) is) ∙ none in cc

pub err_so : {T E : Type 0} (r : Result T E) (P Q : E → Type 0) → ((e : E) → P e → Q e) → IfErr r P → IfErr r Q
err_so (Ok x) P Q f p = tt
err_so (Err e) P Q f p = f e p

-- a file with more bytes than settings have
pub too_long_there : (w : World) (name : List ℕ) (len : ℕ) (fault : ConfFault) → name ≡ settings_name → Some len ≡ option_map length (w.own name) → 1048576 < len → fault ≡ record { line = 0; cause = C.TooLong } → settings_in w ≡ Err fault
too_long_there w name len fault named size long is = go (w.own settings_name) refl (size ∙ ap (λ (n : List ℕ). option_map length (w.own n)) named)
  where
    at : (text : List ℕ) → w.own settings_name ≡ Some text → (b : Bool) → b ≡ true → (if b then Err (record { line = 0; cause = C.TooLong }) else conf_lines text) ≡ Err fault
    at text stands true e = ap (λ (f : ConfFault). Err f) (sym is)
    at text stands false e = absurd (let clash : false ≡ true = e in cc)

    go : (o : Option (List ℕ)) → w.own settings_name ≡ o → Some len ≡ option_map length o → settings_in w ≡ Err fault
    go None stands size = absurd (let clash : Some len ≡ None = size in cc)
    go (Some text) stands size =
        let same : len ≡ length text = cc in
        ap settings_at stands ∙ at text stands (nat_lt 1048576 (length text)) (lt-ltb 1048576 (length text) (omega (arith, long, same)))

-- what is told of no settings, by whether their text was refused
pub unspelled_there : {D : Type 0} (tells : Bool) (content : D → World) (faults : D → ℕ) (moment : D → ℕ) (images : D → ℕ → World → Type 0) (old new : D) (text : Option (List ℕ)) (fault : SettingsFault)
    → (tells ≡ true → (content old).own settings_name ≡ text) → Unspelled text fault → NoSettings tells content faults moment images old new (status_unset fault (faults new))
unspelled_there tells content faults moment images old new text (U.Refused fault) stands un = Is_refused fault refl un.0 (λ telling. ap settings_at (stands telling) ∙ un.1)
unspelled_there tells content faults moment images old new text U.Disk stands un = absurd un
unspelled_there tells content faults moment images old new text U.NoMemory stands un = Had_no_memory refl

-- a world that stayed as it was opens to what it opened to
still_opens : (d c : World) → c ≡ d → Recovers d c
still_opens d c same = λ shelf opens. (shelf, subst (λ (w : World). OpensAs w shelf) (sym same) opens, record { state = refl; recorded = refl; outside = λ path. inl refl; gifts = refl; takes = λ name. inl refl })

module _ {D : Type 0} (tells : Bool) (content : D → World) (faults : D → ℕ) (moment : D → ℕ) (images : D → ℕ → World → Type 0) where
  pub no_read : (d : D) → OnlyRead tells content faults moment images d d
  no_read d = record { same = λ telling. refl; stop = started moment images Same d (λ c now. refl) }

  pub then_read : (old mid new : D) → OnlyRead tells content faults moment images old mid → OnlyRead tells content faults moment images mid new → OnlyRead tells content faults moment images old new
  then_read old mid new first second = record {
    same = λ telling. second.same telling ∙ first.same telling;
    stop = runs_on moment images Same Same Same old mid new first.stop second.stop (λ d c now same. same) (λ d e c now left a b. b ∙ a);
  }

  -- one call that reads
  pub one_read : (files : D → World → Type 0) → ((d : D) (w : World) → files d w → (tells ≡ true) × (w ≡ content d)) → (tells ≡ true → (d : D) → files d (content d))
      → (old new : D) → Every (files new) (files old) → Steps moment images Same old new → OnlyRead tells content faults moment images old new
  one_read files reads told old new read stop = record {
    same = λ telling. (reads old (content new) (read (content new) (told telling new))).1;
    stop = goes_on moment images Same Same old old new (started moment images Same old (λ c now. refl)) stop (λ c now. stop.now c now);
  }

  -- What was said of a disk that was read before is said of it before.

  pub settings_before : (old mid : D) (conf : ConfText) → OnlyRead tells content faults moment images old mid → HasSettings tells content faults moment images mid conf → HasSettings tells content faults moment images old conf
  settings_before old mid conf only s = record { text = s.text; spells = s.spells; stands = λ telling. ap (λ (w : World). w.own settings_name) (sym (only.same telling)) ∙ s.stands telling }

  pub unset_before : (old mid new : D) (had : Status) → OnlyRead tells content faults moment images old mid → faults mid ≡ faults old → NoSettings tells content faults moment images mid new had → NoSettings tells content faults moment images old new had
  unset_before old mid new had only calm (Is_refused fault is own why) = Is_refused fault is own (λ telling. ap settings_in (sym (only.same telling)) ∙ why telling)
  unset_before old mid new had only calm (Has_failed is rose) = Has_failed is (subst (λ (n : ℕ). Increased n (faults new)) calm rose)
  unset_before old mid new had only calm (Had_no_memory is) = Had_no_memory is

  pub leaves_before : (old mid new : D) → OnlyRead tells content faults moment images old mid → Leaves moment images Recovers mid new → Leaves moment images Recovers old new
  leaves_before old mid new only run = runs_on moment images Same Recovers Recovers old mid new only.stop run (λ d c now same. still_opens d c same) (λ d e c now left same recovers. subst (λ (w : World). Recovers w c) same recovers)

  pub aside_before : (old mid new : D) → OnlyRead tells content faults moment images old mid → Leaves moment images SameAside mid new → Leaves moment images SameAside old new
  aside_before old mid new only run = runs_on moment images Same SameAside SameAside old mid new only.stop run (λ d c now same name other. ap (λ (w : World). w.own name) same) (λ d e c now left same aside. subst (λ (w : World). SameAside w c) same aside)

  pub opened_before : (old mid : D) (opened : Holding D) → OnlyRead tells content faults moment images old mid → faults mid ≡ faults old → HasOpened tells content faults moment images mid opened → HasOpened tells content faults moment images old opened
  opened_before old mid opened only calm h = record {
    memory = h.memory;
    told = λ telling. subst (λ (w : World). IsOpened w (content opened.disk) opened.memory) (only.same telling) (h.told telling);
    stop = λ telling. leaves_before old mid opened.disk only (h.stop telling);
    read = λ telling. subst (λ (w : World). Recovers w (content opened.disk)) (only.same telling) (h.read telling);
    aside_stop = λ telling. aside_before old mid opened.disk only (h.aside_stop telling);
    aside_read = λ telling. subst (λ (w : World). SameAside w (content opened.disk)) (only.same telling) (h.aside_read telling);
    calm = h.calm ∙ calm;
  }

  why_before : (old mid : D) (fault : StoreOpenFault) → OnlyRead tells content faults moment images old mid → (fault ≡ F.Disk) ⊎ ((fault ≡ F.NoMemory) ⊎ (tells ≡ true → IsRefused fault (content mid))) → (fault ≡ F.Disk) ⊎ ((fault ≡ F.NoMemory) ⊎ (tells ≡ true → IsRefused fault (content old)))
  why_before old mid fault only (inl is) = inl is
  why_before old mid fault only (inr (inl is)) = inr (inl is)
  why_before old mid fault only (inr (inr why)) = inr (inr (λ telling. subst (IsRefused fault) (only.same telling) (why telling)))

  pub refused_before : (old mid new : D) (fault : StoreOpenFault) → OnlyRead tells content faults moment images old mid → faults mid ≡ faults old → HasRefused tells content faults moment images fault mid new → HasRefused tells content faults moment images fault old new
  refused_before old mid new fault only calm h = record {
    why = why_before old mid fault only h.why;
    failed = λ is. subst (λ (n : ℕ). Increased n (faults new)) calm (h.failed is);
    stop = λ telling. leaves_before old mid new only (h.stop telling);
    read = λ telling. subst (λ (w : World). Recovers w (content new)) (only.same telling) (h.read telling);
    aside_stop = λ telling. aside_before old mid new only (h.aside_stop telling);
    aside_read = λ telling. subst (λ (w : World). SameAside w (content new)) (only.same telling) (h.aside_read telling);
  }

-- an index that couldn't be read behind a read that failed nowhere
pub no_index_before : {D : Type 0} (faults : D → ℕ) (old mid new : D) (had : Status) → faults mid ≡ faults old → NoIndex faults mid new had → NoIndex faults old new had
no_index_before faults old mid new had calm (inl failed) = inl (failed.0, subst (λ (n : ℕ). Increased n (faults new)) calm failed.1)
no_index_before faults old mid new had calm (inr is) = inr is
