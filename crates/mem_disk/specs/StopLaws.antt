-- What is picked by digits is what a stop may have left.
use Rattle.std.proofs.Common.{◌≡◌, ◌≢◌, ◌⊎◌, inl, inr, ℕ, List, [], ◌∷◌, length, map, Option, Some, None, Bool, true, false, refl, sym, ◌∙◌, ap, subst, arith}
use Rattle.std.specs.Prelude.{option_map, if◌then◌else◌}
use Rattle.std.proofs.lemmas.Bool.{cases_Bool}
use Rattle.disk_model.specs.World.{Files, OutFile, World}
use Rattle.disk_model.specs.Changes.{OnOwn, Rewrites, Torn, Cut, Puts, PutsPart, Renames, Moves, Gives}
use Rattle.mem_disk.specs.Kept.{Kept, settled, unsynced, written_over, shortened, made_durable, chosen}
use Rattle.mem_disk.specs.Holding.{Holding, is_named, under, adding, without, amending, with_own, renamed, moved, given, play, replay, calm, shown, picked}
use Rattle.mem_disk.specs.EntryLaws.{named_same, named_is, named_other, in_adding, past_adding, in_without, past_without, in_amending, past_amending}
use Rattle.mem_disk.specs.TornLaws.{chosen_written, chosen_shortened, chosen_settled, length-chosen-le}
use Rattle.mem_disk.specs.MemoryDisk.{may, run, left}
use Rattle.mem_disk.specs.declared.call.Call.{Call}
use Rattle.mem_disk.specs.declared.call.Call.TheVariants.{Nothing, Wrote, Shortened, Synced, Created, Removed, Renamed, Placed, PutOut, LostOut, Moved as Moved', Copied, Given}

same_files : {X : Type 0} (f g : List ℕ → Option X) → ((n : List ℕ) → f n ≡ g n) → f ≡ g
same_files f g same = λ i n. same n i

-- the own files by digits
abbrev pub own_by : (List ℕ → ℕ) → List (List ℕ × Kept) → Files
own_by g es = λ n. option_map (λ f. chosen (g n) f) (under n es)

-- one name has the digit, and the others theirs
with_digit : List ℕ → ℕ → (List ℕ → ℕ) → List ℕ → ℕ
with_digit name digit g n = if is_named name n then digit else g n

-- all as written
abbrev Ones : (List ℕ → ℕ) → Type 0
Ones g = (n : List ℕ) → g n ≡ 1

ones_kept : (name : List ℕ) (digit : ℕ) (g : List ℕ → ℕ) → digit ≡ 1 → Ones g → Ones (with_digit name digit g)
unfolding with_digit
ones_kept name digit g is ones n = elim (cases_Bool (is_named name n)) [
  | inl holds ↦ rw holds is
  | inr fails ↦ rw fails (ones n)
]

module _ (g : List ℕ → ℕ) where
  digit_here : (name : List ℕ) (digit : ℕ) → with_digit name digit g name ≡ digit
  unfolding with_digit
  digit_here name digit = let same = named_same name in rw same refl

  digit_past : (name n : List ℕ) (digit : ℕ) → n ≢ name → with_digit name digit g n ≡ g n
  unfolding with_digit
  digit_past name n digit other = let apart = named_other name n other in rw apart refl

  pub rewritten : (name : List ℕ) (how : Kept → Kept) (R : List ℕ → List ℕ → Type 0) (es : List (List ℕ × Kept)) → ((f : Kept) → under name es ≡ Some f → R (chosen (g name) f) (chosen (g name) (how f)))
      → Rewrites name R (own_by g es) (own_by g (amending name how es))
  rewritten name how R es law = record {
    file = λ b is. stands (under name es) refl b is;
    absent = λ none. absent (under name es) refl none;
    others = λ n other. ap (option_map (chosen (g n))) (past_amending n name how es other);
  }
    where
      stands : (o : Option Kept) → under name es ≡ o → (b : List ℕ) → option_map (chosen (g name)) (under name es) ≡ Some b
          → (c : List ℕ) × (option_map (chosen (g name)) (under name (amending name how es)) ≡ Some c) × R b c
      stands None at b is = absurd (cc (ap (option_map (chosen (g name))) at, is))
      stands (Some f) at b is =
          let same : chosen (g name) f ≡ b = cc (ap (option_map (chosen (g name))) at, is) in
          (chosen (g name) (how f), ap (option_map (chosen (g name))) (in_amending name how es ∙ ap (option_map how) at), subst (λ (x : List ℕ). R x (chosen (g name) (how f))) same (law f at))

      absent : (o : Option Kept) → under name es ≡ o → option_map (chosen (g name)) (under name es) ≡ None → option_map (chosen (g name)) (under name (amending name how es)) ≡ None
      absent None at none = ap (option_map (chosen (g name))) (in_amending name how es ∙ ap (option_map how) at)
      absent (Some f) at none = absurd (cc (ap (option_map (chosen (g name))) at, none))

  pub added : (name : List ℕ) (f : Kept) (b : List ℕ) (es : List (List ℕ × Kept)) → chosen (g name) f ≡ b → Puts name (Some b) (own_by g es) (own_by g (adding name f es))
  added name f b es law = record {
    here = ap (option_map (chosen (g name))) (in_adding name f es) ∙ ap Some law;
    others = λ n other. ap (option_map (chosen (g n))) (past_adding n name f es other);
  }

  taken_out : (name : List ℕ) (es : List (List ℕ × Kept)) → Puts name None (own_by g es) (own_by g (without name es))
  taken_out name es = record {
    here = ap (option_map (chosen (g name))) (in_without name es);
    others = λ n other. ap (option_map (chosen (g n))) (past_without n name es other);
  }

  added_in_part : (name b : List ℕ) (es : List (List ℕ × Kept)) → PutsPart name (length b) (own_by g es) (own_by g (adding name (unsynced b) es))
  added_in_part name b es = record {
    here = inr (inr (chosen (g name) (unsynced b), ap (option_map (chosen (g name))) (in_adding name (unsynced b) es), length-chosen-le (g name) (unsynced b) (omega arith)));
    others = λ n other. ap (option_map (chosen (g n))) (past_adding n name (unsynced b) es other);
  }

puts_out : {X : Type 0} (path : List ℕ) (file : X) (es : List (List ℕ × X)) → Puts path (Some file) (λ n. under n es) (λ n. under n (adding path file es))
puts_out path file es = record { here = in_adding path file es; others = λ n other. past_adding n path file es other }

loses_out : {X : Type 0} (path : List ℕ) (es : List (List ℕ × X)) → Puts path None (λ n. under n es) (λ n. under n (without path es))
loses_out path es = record { here = in_without path es; others = λ n other. past_without n path es other }

-- Each call, from digits after it to digits before it.
module _ (h : Holding) (g : List ℕ → ℕ) where
  synced : (name : List ℕ) → (g' : List ℕ → ℕ) × may (Synced name) (shown h) (picked g' h) (picked g (play (Synced name) h)) × (Ones g → Ones g')
  unfolding with_digit
  synced name = (with_digit name 1 g, (whole, by_cases_read (under name h.own) refl), λ ones. ones_kept name 1 g refl ones)
    where
      by_cases_at : (n : List ℕ) (o : Option Kept) → under n h.own ≡ o → option_map (chosen (g n)) (under n (amending name made_durable h.own)) ≡ option_map (chosen (with_digit name 1 g n)) (under n h.own)
      by_cases_at n o at = elim (cases_Bool (is_named name n)) [
        | inl holds ↦
            let same : name ≡ n = named_is name n holds in
            let digit : with_digit name 1 g n ≡ 1 = rw holds refl in
            let here : under n (amending name made_durable h.own) ≡ option_map made_durable (under n h.own) = subst (λ (m : List ℕ). under m (amending name made_durable h.own) ≡ option_map made_durable (under m h.own)) same (in_amending name made_durable h.own) in
            ap (option_map (chosen (g n))) (here ∙ ap (option_map made_durable) at) ∙ settled_at n o ∙ sym (ap (λ (k : ℕ). option_map (chosen k) (under n h.own)) digit ∙ ap (option_map (chosen 1)) at)
        | inr fails ↦
            let digit : with_digit name 1 g n ≡ g n = rw fails refl in
            let other : n ≢ name = λ same. absurd (cc (fails, ap (is_named name) same, named_same name)) in
            ap (option_map (chosen (g n))) (past_amending n name made_durable h.own other) ∙ sym (ap (λ (k : ℕ). option_map (chosen k) (under n h.own)) digit)
      ]
        where
          settled_at : (m : List ℕ) (p : Option Kept) → option_map (chosen (g m)) (option_map made_durable p) ≡ option_map (chosen 1) p
          settled_at m None = refl
          settled_at m (Some f) = ap Some (chosen_settled (g m) f.written)

      whole : picked g (play (Synced name) h) ≡ picked (with_digit name 1 g) h
      whole = ap (λ (own : Files). record { own = own; outside = λ path. under path h.outside; gifts = h.gifts })
          (same_files (λ n. option_map (chosen (g n)) (under n (amending name made_durable h.own))) (λ n. option_map (chosen (with_digit name 1 g n)) (under n h.own)) (λ n. by_cases_at n (under n h.own) refl))

      by_cases_read : (o : Option Kept) → under name h.own ≡ o → option_map (chosen (g name)) (under name (amending name made_durable h.own)) ≡ option_map (λ f. f.written) (under name h.own)
      by_cases_read o at =
          by_cases_at name o at ∙ ap (λ (k : ℕ). option_map (chosen k) (under name h.own)) (digit_here g name 1)

  renamed_by : (from to : List ℕ) (o : Option Kept) → under from h.own ≡ o
      → (g' : List ℕ → ℕ) × ((((shown h).own from ≡ None) × (picked g (renamed o from to h) ≡ picked g' h)) ⊎ OnOwn (Renames from to) (picked g' h) (picked g (renamed o from to h))) × (Ones g → Ones g')
  renamed_by from to None at = (g, inl (ap (option_map (λ f. f.written)) at, refl), λ ones. ones)
  renamed_by from to (Some f) at = by_names (is_named from to) refl
    where
      by_names : (same : Bool) → is_named from to ≡ same
          → (g' : List ℕ → ℕ) × ((((shown h).own from ≡ None) × (picked g (if same then h else with_own (without from (adding to f h.own)) h) ≡ picked g' h))
          ⊎ OnOwn (Renames from to) (picked g' h) (picked g (if same then h else with_own (without from (adding to f h.own)) h))) × (Ones g → Ones g')
      by_names true is =
          let one : from ≡ to = named_is from to is in (
            g,
            inr (record {
              own = record { moved = ap (λ (n : List ℕ). option_map (chosen (g n)) (under n h.own)) (sym one); gone = λ other. absurd (other one); others = λ n a b. refl };
              outside = refl;
              gifts = refl;
            }),
            λ ones. ones,
          )
      by_names false is =
          let apart : from ≢ to = λ one. absurd (cc (ap (is_named from) (sym one), named_same from, is)) in (
            with_digit from (g to) g,
            inr (record {
              own = record {
                moved = ap (option_map (chosen (g to))) (past_without to from (adding to f h.own) (λ one. apart (sym one)) ∙ in_adding to f h.own)
                    ∙ sym (ap (λ (k : ℕ). option_map (chosen k) (under from h.own)) (digit_here g from (g to)) ∙ ap (option_map (chosen (g to))) at);
                gone = λ other. ap (option_map (chosen (g from))) (in_without from (adding to f h.own));
                others = λ n a b. ap (option_map (chosen (g n))) (past_without n from (adding to f h.own) a ∙ past_adding n to f h.own b)
                    ∙ sym (ap (λ (k : ℕ). option_map (chosen k) (under n h.own)) (digit_past g from n (g to) a));
              };
              outside = refl;
              gifts = refl;
            }),
            λ ones. ones_kept from (g to) g (ones to) ones,
          )

  moved_by : (path name : List ℕ) (o : Option OutFile) → under path h.outside ≡ o
      → (g' : List ℕ → ℕ) × (((under path h.outside ≡ None) × (picked g (moved o path name h) ≡ picked g' h)) ⊎ Moves path name (picked g' h) (picked g (moved o path name h))) × (Ones g → Ones g')
  moved_by path name None at = (g, inl (at, refl), λ ones. ones)
  moved_by path name (Some file) at = (
    g,
    inr (record {
      file = file;
      was = at;
      gone = loses_out path h.outside;
      own = added g name (settled file.bytes) file.bytes h.own (chosen_settled (g name) file.bytes);
      gifts = refl;
    }),
    λ ones. ones,
  )

  given_by : (own folder name path : List ℕ) (o : Option Kept) → under own h.own ≡ o
      → (g' : List ℕ → ℕ) × ((((shown h).own own ≡ None) × (picked g (given o own folder name path h) ≡ picked g' h)) ⊎ Gives own folder name path 0 (picked g' h) (picked g (given o own folder name path h))) × (Ones g → Ones g')
  unfolding with_digit
  given_by own folder name path None at = (g, inl (ap (option_map (λ f. f.written)) at, refl), λ ones. ones)
  given_by own folder name path (Some f) at = (
    with_digit own 1 g,
    inr (record {
      bytes = f.written;
      was = ap (λ (k : ℕ). option_map (chosen k) (under own h.own)) (digit_here g own 1) ∙ ap (option_map (chosen 1)) at;
      gone = record {
        here = ap (option_map (chosen (g own))) (in_without own h.own);
        others = λ n other. ap (option_map (chosen (g n))) (past_without n own h.own other) ∙ sym (ap (λ (k : ℕ). option_map (chosen k) (under n h.own)) (digit_past g own n 1 other));
      };
      outside = puts_out path (record { bytes = f.written; time = 0 }) h.outside;
      gifts = refl;
    }),
    λ ones. ones_kept own 1 g refl ones,
  )

-- each call, from digits after it to digits before it
picked_step : (x : Call) (h : Holding) (g : List ℕ → ℕ) → (g' : List ℕ → ℕ) × may x (shown h) (picked g' h) (picked g (play x h)) × (Ones g → Ones g')
picked_step Nothing h g = (g, refl, λ ones. ones)
picked_step (Wrote name at bytes) h g = (g, record { own = rewritten g name (written_over at bytes) (Torn at (length bytes)) h.own (λ f _. chosen_written (g name) at bytes f); outside = refl; gifts = refl }, λ ones. ones)
picked_step (Shortened name len) h g = (g, record { own = rewritten g name (shortened len) (Cut len) h.own (λ f _. chosen_shortened (g name) len f); outside = refl; gifts = refl }, λ ones. ones)
picked_step (Synced name) h g = synced h g name
picked_step (Created name) h g = (g, record { own = added g name (settled []) [] h.own (chosen_settled (g name) []); outside = refl; gifts = refl }, λ ones. ones)
picked_step (Removed name) h g = (g, record { own = taken_out g name h.own; outside = refl; gifts = refl }, λ ones. ones)
picked_step (Renamed from to) h g = renamed_by h g from to (under from h.own) refl
picked_step (Placed path bytes time) h g = (g, record { own = refl; outside = puts_out path (record { bytes = bytes; time = time }) h.outside; gifts = refl }, λ ones. ones)
picked_step (PutOut path bytes time) h g = (g, record { own = refl; outside = puts_out path (record { bytes = bytes; time = time }) h.outside; gifts = refl }, λ ones. ones)
picked_step (LostOut path) h g = (g, record { own = refl; outside = loses_out path h.outside; gifts = refl }, λ ones. ones)
picked_step (Moved' path name) h g = moved_by h g path name (under path h.outside) refl
picked_step (Copied name bytes) h g = (g, record { own = added_in_part g name bytes h.own; outside = refl; gifts = refl }, λ ones. ones)
picked_step (Given own folder name path) h g = given_by h g own folder name path (under own h.own) refl

-- a call that is done as a whole
pub whole : (x : Call) (h : Holding) → may x (shown h) (shown h) (shown (play x h))
whole x h =
    let step = picked_step x h (λ _. 1) in
    let same : step.0 ≡ (λ _. 1) = λ i n. step.2 (λ m. refl) n i in
    subst (λ (g : List ℕ → ℕ). may x (shown h) (picked g h) (shown (play x h))) same step.1

pub picked_in_run : (images : World → Type 0) (h : Holding) (xs : List Call) (g : List ℕ → ℕ) → ((digits : List ℕ → ℕ) → images (picked digits h)) → run images h xs (picked g (replay h xs))
picked_in_run images h [] g all = all g
picked_in_run images h (x ∷ xs) g all = picked_in_run (λ after. (d : World) × images d × may x (shown h) d after) (play x h) xs g
    (λ digits. let before = picked_step x h digits in (picked before.0 h, all before.0, before.1))

-- files that are all synced
under-map : (n : List ℕ) (es : List (List ℕ × Kept)) → under n (map (λ (e : List ℕ × Kept). (e.0, settled e.1.written)) es) ≡ option_map (λ (f : Kept). settled f.written) (under n es)
under-map n [] = refl
under-map n (e ∷ es) = elim (cases_Bool (is_named n e.0)) [
  | inl holds ↦ rw holds refl
  | inr fails ↦ rw fails (under-map n es)
]

pub calm_picked : (h : Holding) (g : List ℕ → ℕ) → h ≡ calm h → picked g h ≡ shown h
calm_picked h g is =
    ap (picked g) is
    ∙ ap (λ (own : Files). record { own = own; outside = λ path. under path h.outside; gifts = h.gifts })
    (same_files (λ n. option_map (chosen (g n)) (under n (calm h).own)) (λ n. option_map (λ f. f.written) (under n h.own)) (λ n. ap (option_map (chosen (g n))) (under-map n h.own) ∙ settled_at n (under n h.own)))
  where
    settled_at : (n : List ℕ) (o : Option Kept) → option_map (chosen (g n)) (option_map (λ f. settled f.written) o) ≡ option_map (λ f. f.written) o
    settled_at n None = refl
    settled_at n (Some f) = ap Some (chosen_settled (g n) f.written)

pub picked_left : (first : Holding) (xs : List Call) (g : List ℕ → ℕ) → first ≡ calm first → left first xs (picked g (replay first xs))
picked_left first xs g is = picked_in_run (λ w. w ≡ shown first) first xs g (λ digits. calm_picked first digits is)

pub shown_left : (first : Holding) (xs : List Call) → first ≡ calm first → left first xs (shown (replay first xs))
shown_left first xs is = picked_left first xs (λ _. 1) is
