-- How many files have unsynced changes after a call.
use Rattle.std.proofs.Common.{◌≡◌, inl, inr, ℕ, zero, suc, ◌+◌, ◌<◌, ◌≤◌, List, [], ◌∷◌, ◌++◌, length, take, Option, Some, None, Bool, true, false, cond, refl, sym, ◌∙◌, ap, subst, arith, length-take}
use Rattle.std.specs.Prelude.{option_map, unwrap_or}
use Rattle.std.specs.List.{slice_get}
use Rattle.std.specs.List.Sorted.{IsStrictlySortedBy}
use Rattle.std.specs.Map.{keys_of, values_of}
use Rattle.std.specs.Ordering.{nat_cmp, is_eq, match_ordering}
use Rattle.std.specs.declared.cmp.Ordering.{Ordering}
use Rattle.std.specs.declared.cmp.Ordering.TheVariants.{Less, Equal, Greater}
use Rattle.std.specs.Cmp.{eq_by_cmp_equiv}
use Rattle.std.specs.Cmp.Lexicographic.{slice_cmp, nat_list_cmp_total}
use Rattle.std.proofs.lemmas.Bool.{cases_Bool}
use Rattle.std.proofs.lemmas.List.Sums.{sum_by-cons}
use Rattle.std.proofs.lemmas.Map.{lookup-none}
use Rattle.std.proofs.lemmas.Map.Entries.{none_past_head, none_below_head, sum_by-set_value, sum_by-insert_entry}
use Rattle.std.proofs.lemmas.Map.Keys.{sorted_tail, IsDistinct-from_sorted}
use Rattle.disk_model.specs.World.{OutFile}
use Rattle.mem_disk.specs.Kept.{Kept, settled, unsynced, written_over, shortened, made_durable, is_changed}
use Rattle.mem_disk.specs.Holding.{Holding, is_named, under, adding, without, amend, amending, renamed, moved, given, first_calls, play, replay, calm}
use Rattle.mem_disk.specs.EntryLaws.{named_same, named_is, in_adding, in_without, in_amending, past_without}
use Rattle.mem_disk.proofs.PickLaws.{first_calls_front}
use Rattle.mem_disk.specs.Picks.{changed_in, changed_at, touched, counts_along}
use Rattle.mem_disk.specs.declared.call.Call.{Call}
use Rattle.mem_disk.specs.declared.call.Call.TheVariants.{Nothing, Wrote, Shortened, Synced, Created, Removed, Renamed, Placed, PutOut, LostOut, Moved as Moved', Copied, Given}

abbrev Own : Type 0
Own = List (List ℕ × Kept)

abbrev weigh : Kept → ℕ
weigh f = cond (is_changed f) 1 0

abbrev pub Sorted : Own → Type 0
Sorted es = IsStrictlySortedBy (slice_cmp nat_cmp) (keys_of es)

changed-cons : (e : List ℕ × Kept) (es : Own) → changed_in (e ∷ es) ≡ weigh e.1 + changed_in es
changed-cons e es = sum_by-cons weigh e.1 (values_of es)

tail_of : (e : List ℕ × Kept) (es : Own) → Sorted (e ∷ es) → Sorted es
tail_of e es s = sorted_tail (slice_cmp nat_cmp) e.0 (keys_of es) s

-- the first name stands nowhere else
none_else : (name : List ℕ) (e : List ℕ × Kept) (es : Own) → Sorted (e ∷ es) → is_named name e.0 ≡ true → changed_at name es ≡ 0
none_else name e es s holds =
    ap (λ (o : Option Kept). unwrap_or (option_map weigh o) 0)
    (lookup-none (is_named name) es (none_past_head (eq_by_cmp_equiv nat_list_cmp_total) name e es (IsDistinct-from_sorted (slice_cmp nat_cmp) (keys_of (e ∷ es)) s) holds))

none_after : (name : List ℕ) (e : List ℕ × Kept) (es : Own) → Sorted (e ∷ es) → slice_cmp nat_cmp name e.0 ≡ Less → changed_at name (e ∷ es) ≡ 0
none_after name e es s less =
    ap (λ (o : Option Kept). unwrap_or (option_map weigh o) 0) (lookup-none (is_named name) (e ∷ es) (none_below_head nat_list_cmp_total name e es s less))

changed-without : (name : List ℕ) (es : Own) → Sorted es → changed_in (without name es) + changed_at name es ≡ changed_in es
changed-without name [] s = refl
changed-without name (e ∷ es) s =
    let rest = changed-without name es (tail_of e es s) in
    elim (cases_Bool (is_named name e.0)) [
      | inl holds ↦ let none = none_else name e es s holds in rw holds (omega (arith, changed-cons e es, rest, none))
      | inr fails ↦ rw fails (omega (arith, changed-cons e es, changed-cons e (without name es), rest))
    ]

changed-adding : (name : List ℕ) (f : Kept) (es : Own) → Sorted es → changed_in (adding name f es) + changed_at name es ≡ changed_in es + changed_at name (adding name f es)
changed-adding name f es s =
    let put = sum_by-insert_entry weigh nat_list_cmp_total es name f s in
    let here = ap (λ (o : Option Kept). unwrap_or (option_map weigh o) 0) (in_adding name f es) in
    put ∙ ap (λ (n : ℕ). changed_in es + n) (sym here)

changed-taken : (name : List ℕ) (es : Own) → Sorted es → changed_in (without name es) + changed_at name es ≡ changed_in es + changed_at name (without name es)
changed-taken name es s =
    omega (arith, changed-without name es s, ap (λ (o : Option Kept). unwrap_or (option_map weigh o) 0) (in_without name es))

changed-amending : (name : List ℕ) (how : Kept → Kept) (es : Own) → changed_in (amending name how es) + changed_at name es ≡ changed_in es + changed_at name (amending name how es)
changed-amending name how es = by_cases (under name es) refl
  where
    by_cases : (o : Option Kept) → under name es ≡ o → changed_in (amend o name how es) + changed_at name es ≡ changed_in es + changed_at name (amending name how es)
    by_cases None is = omega (arith, ap (λ (o : Option Kept). unwrap_or (option_map weigh o) 0) is, ap (λ (o : Option Kept). unwrap_or (option_map weigh o) 0) (in_amending name how es ∙ ap (option_map how) is))
    by_cases (Some f) is = omega (
      arith,
      sum_by-set_value weigh (is_named name) es f (how f) is,
      ap (λ (o : Option Kept). unwrap_or (option_map weigh o) 0) is,
      ap (λ (o : Option Kept). unwrap_or (option_map weigh o) 0) (in_amending name how es ∙ ap (option_map how) is),
    )

-- a name filled and another taken out
changed-renamed : (from to : List ℕ) (f : Kept) (es : Own) → is_named from to ≡ false → Sorted es
    → changed_in (without from (adding to f es)) + (changed_at from es + changed_at to es) ≡ changed_in es + weigh f
changed-renamed from to f [] apart s = rw apart (omega (arith, changed-cons (to, f) []))
changed-renamed from to f (e ∷ es) apart s = by_order (slice_cmp nat_cmp to e.0) refl (changed-renamed from to f es apart (tail_of e es s))
  where
    by_order : (o : Ordering) → slice_cmp nat_cmp to e.0 ≡ o → changed_in (without from (adding to f es)) + (changed_at from es + changed_at to es) ≡ changed_in es + weigh f
        → changed_in (without from (match_ordering o ((to, f) ∷ e ∷ es) ((e.0, f) ∷ es) (e ∷ adding to f es)))
        + (changed_at from (e ∷ es) + unwrap_or (option_map weigh (cond (is_eq o) (Some e.1) (under to es))) 0) ≡ changed_in (e ∷ es) + weigh f
    by_order Less is rest =
        let off : changed_at to es ≡ 0 = past (none_after to e es s is) is in
        rw apart (omega (arith, changed-cons (to, f) (without from (e ∷ es)), changed-without from (e ∷ es) s, off))
      where
        past : changed_at to (e ∷ es) ≡ 0 → slice_cmp nat_cmp to e.0 ≡ Less → changed_at to es ≡ 0
        past none less = let other : is_named to e.0 ≡ false = ap is_eq less in subst (λ (b : Bool). unwrap_or (option_map weigh (cond b (Some e.1) (under to es))) 0 ≡ 0) other none
    by_order Equal is rest =
        let also : is_named from e.0 ≡ false = ap (is_named from) (sym (named_is to e.0 (ap is_eq is))) ∙ apart in
        rw also (omega (arith, changed-cons e es, changed-cons (e.0, f) (without from es), changed-without from es (tail_of e es s)))
    by_order Greater is rest =
        elim (cases_Bool (is_named from e.0)) [
          | inl holds ↦ let none = none_else from e es s holds in rw holds (omega (arith, changed-cons e es, rest, none))
          | inr fails ↦ rw fails (omega (arith, changed-cons e es, changed-cons e (without from (adding to f es)), rest))
        ]

weighed : (name : List ℕ) (es : Own) (o : Option Kept) → under name es ≡ o → changed_at name es ≡ unwrap_or (option_map weigh o) 0
weighed name es o is = ap (λ (p : Option Kept). unwrap_or (option_map weigh p) 0) is

-- what a call adds to the count it adds under the names that it has
pub changed_play : (x : Call) (h : Holding) → Sorted h.own → changed_in (play x h).own + touched x h.own ≡ changed_in h.own + touched x (play x h).own
changed_play Nothing h s = refl
changed_play (Wrote name at bytes) h s = changed-amending name (written_over at bytes) h.own
changed_play (Shortened name len) h s = changed-amending name (shortened len) h.own
changed_play (Synced name) h s = changed-amending name made_durable h.own
changed_play (Created name) h s = changed-adding name (settled []) h.own s
changed_play (Removed name) h s = changed-taken name h.own s
changed_play (Renamed from to) h s = by_cases (under from h.own) refl
  where
    by_cases : (o : Option Kept) → under from h.own ≡ o → changed_in (renamed o from to h).own + touched (Renamed from to) h.own ≡ changed_in h.own + touched (Renamed from to) (renamed o from to h).own
    by_cases None is = refl
    by_cases (Some f) is = elim (cases_Bool (is_named from to)) [
      | inl holds ↦ rw holds refl
      | inr fails ↦
          let es = adding to f h.own in
          let apart : (to ≡ from → ⊥) = λ same. cc (fails, ap (is_named from) same, named_same from) in
          rw fails (omega (
            arith,
            changed-renamed from to f h.own fails s,
            weighed from (without from es) None (in_without from es),
            weighed to (without from es) (Some f) (past_without to from es apart ∙ in_adding to f h.own),
          ))
    ]
changed_play (Placed path bytes time) h s = refl
changed_play (PutOut path bytes time) h s = refl
changed_play (LostOut path) h s = refl
changed_play (Moved' path name) h s = by_cases (under path h.outside)
  where
    by_cases : (o : Option OutFile) → changed_in (moved o path name h).own + changed_at name h.own ≡ changed_in h.own + changed_at name (moved o path name h).own
    by_cases None = refl
    by_cases (Some f) = changed-adding name (settled f.bytes) h.own s
changed_play (Copied name bytes) h s = changed-adding name (unsynced bytes) h.own s
changed_play (Given own folder name path) h s = by_cases (under own h.own)
  where
    by_cases : (o : Option Kept) → changed_in (given o own folder name path h).own + changed_at own h.own ≡ changed_in h.own + changed_at own (given o own folder name path h).own
    by_cases None = refl
    by_cases (Some f) = changed-taken own h.own s

-- files that are all synced
pub changed_calm : (h : Holding) → changed_in (calm h).own ≡ 0
changed_calm h = none h.own
  where
    none : (es : Own) → changed_in (calm (record { own = es; outside = h.outside; gifts = h.gifts })).own ≡ 0
    none [] = refl
    none (e ∷ es) = omega (arith, changed-cons (e.0, settled e.1.written) (calm (record { own = es; outside = h.outside; gifts = h.gifts })).own, none es)

-- the counts of a log with one call more
pub counts_add : (h : Holding) (xs : List Call) (x : Call) → counts_along h (xs ++ x ∷ []) ≡ counts_along h xs ++ changed_in (play x (replay h xs)).own ∷ []
counts_add h [] x = refl
counts_add h (y ∷ ys) x = ap (λ (l : List ℕ). changed_in (play y h).own ∷ l) (counts_add (play y h) ys x)

pub length_counts : (h : Holding) (xs : List Call) → length (counts_along h xs) ≡ length xs
length_counts h [] = refl
length_counts h (x ∷ xs) = omega (arith, length_counts (play x h) xs)

-- and each of them
pub count_at : (h : Holding) (xs : List Call) (i : ℕ) → i < length xs → slice_get (counts_along h xs) i ≡ Some (changed_in (replay h (take (suc i) xs)).own)
count_at h [] i within = absurd (omega (arith, within))
count_at h (x ∷ xs) zero within = refl
count_at h (x ∷ xs) (suc i) within = count_at (play x h) xs i (omega (arith, within))

-- the first calls are no more than all
pub length_first_calls : (n : ℕ) (xs : List Call) → length (first_calls n xs) ≤ length xs
length_first_calls n xs = omega (arith, ap length (first_calls_front n xs), length-take (length (first_calls n xs)) xs)
