-- Files that are to be queued, and what is told of them.
use Rattle.std.proofs.Common.{◌≡◌, ℕ, ◌+◌, ◌<◌, List, [], ◌∷◌, ◌++◌, length, get_or, take, drop, Bool, true, false, ◌&&◌, map, sym, ap, ◌∙◌, append_assoc, add-one, drop-cons}
use Rattle.std.specs.Prelude.{◌||◌, not, nat_lt}
use Rattle.std.proofs.lemmas.Bool.{and_parts}
use Rattle.std.proofs.lemmas.List.{append-nil, map-append, take-append-drop, take_more}
use Rattle.std.proofs.lemmas.List.Folds.{list_any-append}
use Rattle.ftn_addr.specs.Files.{is_same}
use Rattle.file_index.specs.Filed.{Files}
use Rattle.ledger_rec.proofs.Agreeing.{files_alike, any_more, map_more, not_empty, below_last}
use Rattle.ledger_rec.specs.Batch.{all_queued, may_follow}
use Rattle.ledger_rec.specs.Fold.{State, new_entry, may_queue}
use Rattle.ledger_rec.specs.Indexed.{Agrees, is_empty, is_queued, are_below}
use Rattle.ledger_rec.specs.Items.{Entry}
use Rattle.ledger_rec.specs.Planned.{Plans}
use Rattle.ledger_rec.specs.Record.{NewFileText}
use Rattle.ledger_rec.specs.declared.index.Index.{Index}
use Rattle.ledger_rec.specs.declared.planned.Planned.{Planned}

-- no file yet
pub plans_none : (p : Planned) (x : Index) (s : State) → Agrees x s → Files p.files (λ _ _. false) → p.greatest ≡ x.greatest → p.none ≡ is_empty s.queue → Plans p [] s
plans_none p x s agrees files greatest none = record {
  files = files;
  below = λ n. ap (are_below n) (append-nil s.queue) ∙ agrees.below n ∙ ap (λ (g : ℕ). is_empty s.queue || nat_lt g n) (sym greatest) ∙ ap (λ (b : Bool). b || nat_lt p.greatest n) (sym none);
}

-- one file more
pub plans_more : (p q : Planned) (files : List NewFileText) (r : NewFileText) (s : State) → Plans p files s → are_below r.number (all_queued files s).queue ≡ true
    → Files q.files (λ dest key. is_queued dest key (map new_entry files) || is_same dest key r.dest r.key) → q.greatest ≡ r.number → q.none ≡ false
    → Plans q (files ++ r ∷ []) s
plans_more p q files r s plans rising noted greatest none =
    let es = s.queue ++ map new_entry files in
    let queue : s.queue ++ map new_entry (files ++ r ∷ []) ≡ es ++ new_entry r ∷ [] = ap (λ (l : List Entry). s.queue ++ l) (sym (map_more new_entry files r)) ∙ sym (append_assoc s.queue (map new_entry files) (new_entry r ∷ [])) in
    record {
      files = files_alike q.files _ _ (λ a k. sym (any_more (λ (e : Entry). is_same a k e.dest e.key) (map new_entry files) (new_entry r)) ∙ ap (is_queued a k) (map_more new_entry files r)) noted;
      below = λ n. ap (are_below n) queue ∙ below_last r es n rising ∙ ap (λ (b : Bool). b || nat_lt r.number n) (not_empty es (new_entry r))
          ∙ ap (λ (g : ℕ). false || nat_lt g n) (sym greatest) ∙ ap (λ (b : Bool). b || nat_lt q.greatest n) (sym none);
    }

-- the test that the code makes
pub takes_is : (p : Planned) (files : List NewFileText) (r : NewFileText) (s : State) (planned queued : Bool) → Plans p files s → planned ≡ is_queued r.dest r.key (map new_entry files) → queued ≡ is_queued r.dest r.key s.queue
    → (nat_lt 0 r.number && ((p.none || nat_lt p.greatest r.number) && not (queued || planned))) ≡ may_follow r (all_queued files s)
takes_is p files r s planned queued plans is_planned was_queued =
    let below = plans.below r.number in
    let apart : (queued || planned) ≡ is_queued r.dest r.key (all_queued files s).queue = ap (λ (b : Bool). b || planned) was_queued ∙ ap (λ (b : Bool). is_queued r.dest r.key s.queue || b) is_planned ∙ sym (list_any-append (λ (e : Entry). is_same r.dest r.key e.dest e.key) s.queue (map new_entry files)) in
    ap (λ (b : Bool). nat_lt 0 r.number && (b && not (queued || planned))) (sym below) ∙ ap (λ (b : Bool). nat_lt 0 r.number && (are_below r.number (all_queued files s).queue && not b)) apart

-- the files as far as a loop has come

pub files_next : {X : Type 0} (view : X → NewFileText) (xs : List X) (i : ℕ) (d : X) → i < length xs → map view (take (i + 1) xs) ≡ map view (take i xs) ++ view (get_or xs i d) ∷ []
files_next view xs i d low = ap (map view) (take_more xs i d low) ∙ map-append view (take i xs) (get_or xs i d ∷ [])

pub files_split : {X : Type 0} (view : X → NewFileText) (xs : List X) (i : ℕ) (d : X) → i < length xs → map view xs ≡ map view (take i xs) ++ view (get_or xs i d) ∷ map view (drop (i + 1) xs)
files_split view xs i d low =
    ap (map view) (sym (take-append-drop i xs)) ∙ map-append view (take i xs) (drop i xs) ∙ ap (λ (l : List _). map view (take i xs) ++ map view l) (drop-cons xs i d low ∙ ap (λ (n : ℕ). get_or xs i d ∷ drop n xs) (sym (add-one i)))

-- the same, once its number is neither 0 nor too small
pub takes_at : (p : Planned) (files : List NewFileText) (r : NewFileText) (s : State) (planned queued : Bool) → Plans p files s → planned ≡ is_queued r.dest r.key (map new_entry files) → queued ≡ is_queued r.dest r.key s.queue
    → nat_lt 0 r.number ≡ true → (p.none || nat_lt p.greatest r.number) ≡ true → not (queued || planned) ≡ may_follow r (all_queued files s)
takes_at p files r s planned queued plans is_planned was_queued numbered above =
    sym (ap (λ (b : Bool). b && ((p.none || nat_lt p.greatest r.number) && not (queued || planned))) numbered ∙ ap (λ (b : Bool). b && not (queued || planned)) above) ∙ takes_is p files r s planned queued plans is_planned was_queued

-- a file that may follow has a number above all
pub below_of : (r : NewFileText) (s : State) → may_follow r s ≡ true → are_below r.number s.queue ≡ true
below_of r s follows = (and_parts (are_below r.number s.queue) (not (is_queued r.dest r.key s.queue)) (and_parts (nat_lt 0 r.number) (may_queue r s.queue) follows).1).0
