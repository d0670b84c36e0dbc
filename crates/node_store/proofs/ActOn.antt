-- The source of a queued file is acted on, as the disk tells it.
use Rattle.std.proofs.Common.{◌≡◌, ◌≢◌, ℕ, ◌<◌, ◌==◌, List, [], length, Option, Some, None, Result, Ok, Err, Bool, true, false, refl, sym, ◌∙◌, ap, subst, arith}
use Rattle.std.specs.Prelude.{IfOk, option_map, if◌then◌else◌}
use Rattle.std.specs.Str.{bytes_eq}
use Rattle.std.proofs.lemmas.Bool.Decides.{Decides-eqb}
use Rattle.std.proofs.lemmas.Slice.Eq.{bytes_eq-Decides}
use Rattle.ftn_addr.specs.Key.{Key}
use Rattle.disk_model.specs.World as W
use Rattle.disk_model.specs.World.{World}
use Rattle.disk_model.specs.Answers.{stat_of, HitOf}
use Rattle.disk_model.specs.Changes.{Every, Follows, Same, OnOutside, Puts}
use Rattle.disk_model.specs.Moments.{Steps, StepOf, Together, MakesNothing}
use Rattle.disk_model.specs.declared.answers.Hit.{Hit}
use Rattle.disk_model.specs.declared.answers.Hit.TheVariants.{Done, Other}
use Rattle.disk_model.specs.declared.answers.OutStat.{OutStat}
use Rattle.disk_model.proofs.MomentLemmas.{steps_map}
use Rattle.ledger_rec.specs.Items.{Entry}
use Rattle.node_model.specs.Outside.{OutFile, OutFiles, put_at, has_key, acted_on}
use Rattle.node_model.proofs.Lists.{some_inj, none_some, and_true, and_both, off}
use Rattle.node_store.specs.Acting.{SameOutside, ActsOn}
use Rattle.node_store.specs.Keeping.{Beside}
use Rattle.node_store.specs.Logs.{action_of}
use Rattle.node_store.specs.Worlds.{out_file_of, outside_in}
use Rattle.node_store.proofs.Mirrors.{eqb_apart}

-- what stands under the path of the source once it was acted on
pub deletes : (n : ℕ) → n ≡ 1 → (time : ℕ) (file : Option OutFile) → acted_on (action_of n) time file ≡ None
deletes n is time file = ap (λ (k : ℕ). acted_on (action_of k) time file) is

pub cuts : (n : ℕ) → 0 < n → n ≢ 1 → (time : ℕ) (file : Option OutFile) → acted_on (action_of n) time file ≡ Some (record { bytes = []; time = time })
cuts n some other time file = rw (eqb_apart n 0 (λ is. omega (arith, some, is)), eqb_apart n 1 other) refl

-- the size and time that a source was taken with
abbrev pub stat_in : Key → OutStat
stat_in key = record { size = key.size; time = key.time }

stat_told : (key : Key) (file : Option W.OutFile) → option_map stat_of file ≡ Some (stat_in key) → has_key key (option_map out_file_of file) ≡ true
stat_told key None is = none_some is
stat_told key (Some f) is =
    let same : stat_of f ≡ stat_in key = some_inj is in
    and_both (length f.bytes == key.size) (f.time == key.time) ((Decides-eqb (length f.bytes) key.size).1 (ap (λ (x : OutStat). x.size) same)) ((Decides-eqb f.time key.time).1 (ap (λ (x : OutStat). x.time) same))

key_told : (key : Key) (file : Option W.OutFile) → has_key key (option_map out_file_of file) ≡ true → option_map stat_of file ≡ Some (stat_in key)
key_told key None is = off (sym is)
key_told key (Some f) is =
    let h = and_true (length f.bytes == key.size) (f.time == key.time) is in
    let size : length f.bytes ≡ key.size = (Decides-eqb (length f.bytes) key.size).0 h.0 in
    let time : f.time ≡ key.time = (Decides-eqb f.time key.time).0 h.1 in
    λ i. Some (record { size = size i; time = time i })

-- whether the file was the one that was meant
abbrev says : Hit → Bool
says Done = true
says Other = false

hit_told : (hit : Hit) (key : Key) (file : Option W.OutFile) → HitOf hit (stat_in key) file → has_key key (option_map out_file_of file) ≡ says hit
hit_told Done key file is = stat_told key file is
hit_told Other key file is = go (has_key key (option_map out_file_of file)) refl
  where
    go : (b : Bool) → has_key key (option_map out_file_of file) ≡ b → has_key key (option_map out_file_of file) ≡ false
    go true h = absurd (is (key_told key file h))
    go false h = h

other_told : (key : Key) (file : Option W.OutFile) → has_key key (option_map out_file_of file) ≡ false → HitOf Other (stat_in key) file
other_told key file is same = off (sym (stat_told key file same) ∙ is)

-- what is put under one path
put_outside : (path : List ℕ) (after : Option W.OutFile) (d c : World) → Puts path after d.outside c.outside → outside_in c ≡ put_at path (option_map out_file_of after) (outside_in d)
put_outside path after d c puts = λ i p. go p (bytes_eq p path) refl i
  where
    go : (p : List ℕ) (b : Bool) → bytes_eq p path ≡ b → option_map out_file_of (c.outside p) ≡ (if b then option_map out_file_of after else option_map out_file_of (d.outside p))
    go p true is = ap (option_map out_file_of) (ap c.outside ((bytes_eq-Decides p path).0 is) ∙ puts.here)
    go p false is = ap (option_map out_file_of) (puts.others p (λ same. off (sym ((bytes_eq-Decides p path).1 same) ∙ is)))

-- A call of the disk that leaves that under the path of the source, where it hits.
module _ {D : Type 0} (tells : Bool) (content : D → World) (files : D → World → Type 0) (moment : D → ℕ) (images : D → ℕ → World → Type 0) (told : tells ≡ true → (d : D) → files d (content d))
    (reads : (d : D) (w : World) → files d w → (tells ≡ true) × (w ≡ content d)) (e : Entry) (time : ℕ) (after : Option W.OutFile) (leaves : (file : Option OutFile) → acted_on (action_of e.action) time file ≡ option_map out_file_of after)
    (step : Hit → World → World → Type 0) (done : (d c : World) → step Done d c → OnOutside (Puts e.source after) d c) (missed : (d c : World) → step Other d c → c ≡ d)
    (old new : D) (beside : Beside files moment images SameOutside old) where
  -- the source is as it was taken, or it isn't
  abbrev Knows : Bool → World → Type 0
  Knows b d = tells ≡ true → has_key e.key (outside_in d e.source) ≡ b

  hits : (d c : World) → Knows true d → step Done d c → ActsOn tells e time d c
  hits d c knows made =
      let o = done d c made in
      record {
        own = o.own;
        gifts = o.gifts;
        outside = λ t.
            put_outside e.source after d c o.outside
            ∙ ap (λ (f : Option OutFile). put_at e.source f (outside_in d)) (sym (leaves (outside_in d e.source)))
            ∙ sym (ap (λ (b : Bool). if b then put_at e.source (acted_on (action_of e.action) time (outside_in d e.source)) (outside_in d) else outside_in d) (knows t));
      }

  misses : (d c : World) → Knows false d → c ≡ d → ActsOn tells e time d c
  misses d c knows same = record {
    own = ap (λ (w : World). w.own) same;
    gifts = ap (λ (w : World). w.gifts) same;
    outside = λ t.
        ap outside_in same
        ∙ sym (ap (λ (b : Bool). if b then put_at e.source (acted_on (action_of e.action) time (outside_in d e.source)) (outside_in d) else outside_in d) (knows t));
  }

  -- what is known of the content is known of each world
  knows_read : (b : Bool) → Knows b (content old) → (d : World) → files old d → Knows b d
  knows_read b knows d read t = ap (λ (w : World). has_key e.key (outside_in w e.source)) (reads old d read).1 ∙ knows t

  knows_left : (b : Bool) → Knows b (content old) → (d : World) → images old (moment old) d → Knows b d
  knows_left b knows d image t = ap (λ (o : OutFiles). has_key e.key (o e.source)) (beside.both (content old) d (told t old) image) ∙ knows t

  -- It was done, or nothing was.
  module _ {E : Type 0} (answer : Result (Unit {0}) E) where
    abbrev Acts : Type 0
    Acts = Together {T = Unit {0}} {E = E} files moment images answer (λ _. ActsOn tells e time) old new

  as_done : {E : Type 0} (answer : Result (Unit {0}) E) (R : World → World → Type 0) (b : Bool) → Knows b (content old) → ((d c : World) → Knows b d → R d c → ActsOn tells e time d c)
      → IfOk answer (λ x. Some tt ≡ Some x) → Follows R (files old) (files new) → Steps moment images R old new → Acts answer
  as_done answer R b knows leads answered read stop = record {
    made = Some tt;
    answered = answered;
    read = λ c now. let was = read c now in (was.0, was.1, leads was.0 c (knows_read b knows was.0 was.1) was.2);
    stop = record {
      grew = stop.grew;
      next = stop.next;
      now = λ c left. let was = stop.now c left in (was.0, was.1, leads was.0 c (knows_left b knows was.0 was.1) was.2);
    };
  }

  as_before : {E : Type 0} (x : E) → Follows Same (files old) (files new) → Steps moment images Same old new → Acts (Err x)
  as_before x read stop = record { made = None; answered = tt; read = read; stop = stop }

  -- the call was made
  pub acted_ok : {E F : Type 0} (hit : Hit) → Together {T = Hit} {E = F} files moment images (Ok hit) step old new → Every (files old) (λ w. HitOf hit (stat_in e.key) (w.outside e.source))
      → Together {T = Unit {0}} {E = E} files moment images (Ok tt) (λ _. ActsOn tells e time) old new
  acted_ok hit both said =
      as_done (Ok tt) (step hit) (says hit) (λ t. hit_told hit e.key ((content old).outside e.source) (said (content old) (told t old))) (go hit) refl
      (subst (λ (o : Option Hit). Follows (StepOf step o) (files old) (files new)) both.answered both.read)
      (subst (λ (o : Option Hit). Steps moment images (StepOf step o) old new) both.answered both.stop)
    where
      go : (h : Hit) (d c : World) → Knows (says h) d → step h d c → ActsOn tells e time d c
      go Done d c knows made = hits d c knows made
      go Other d c knows made = misses d c knows (missed d c made)

  -- it failed
  pub acted_err : {E F : Type 0} (x : E) (y : F) → Together {T = Hit} {E = F} files moment images (Err y) step old new
      → Every (files old) (λ w. HitOf Other (stat_in e.key) (w.outside e.source) → MakesNothing files moment images old new)
      → Together {T = Unit {0}} {E = E} files moment images (Err x) (λ _. ActsOn tells e time) old new
  acted_err x y both nothing = go both.made both.read both.stop
    where
      go : (o : Option Hit) → Follows (StepOf step o) (files old) (files new) → Steps moment images (StepOf step o) old new → Acts (Err x)
      go None read stop = as_before x read stop
      go (Some Other) read stop = as_before x (λ c now. let was = read c now in (was.0, was.1, missed was.0 c was.2)) (steps_map moment images (step Other) Same old new missed stop)
      go (Some Done) read stop = so tells refl
        where
          known : (t : tells ≡ true) (b : Bool) → has_key e.key (outside_in (content old) e.source) ≡ b → Acts (Err x)
          known t true is = as_done (Err x) (step Done) true (λ _. is) hits tt read stop
          known t false is =
              let n = nothing (content old) (told t old) (other_told e.key ((content old).outside e.source) is) in
              as_before x (λ c now. (c, n.read c now, refl)) n.stop

          so : (b : Bool) → tells ≡ b → Acts (Err x)
          so true t = known t (has_key e.key (outside_in (content old) e.source)) refl
          so false f = as_done (Err x) (step Done) true (λ t. off (sym t ∙ f)) hits tt read stop
