-- What a sender keeps of its queue.
use Rattle.std.proofs.Common.{◌≡◌, ◌⊎◌, ℕ, ◌<◌, Bool, true, false, ◌==◌, if◌then◌else◌, List, [], ◌∷◌, ◌++◌, length, map, refl, sym, ap, ◌∙◌, subst, inl, inr, ⊎_elim, arith}
use Rattle.std.proofs.lemmas.Bool.Decides.{Decides-eqb}
use Rattle.ftn_addr.specs.Address.{Address}
use Rattle.ftn_addr.specs.Key.{Key}
use Rattle.node_model.specs.Lists.{Member, Each}
use Rattle.node_model.specs.Items.{Entry}
use Rattle.node_model.specs.Items.{Live, Done}
use Rattle.node_model.specs.Durable.{Durable, is_known, done_entry, all_done}
use Rattle.node_model.specs.SendRows.{Slot, NewFile, Enqueued, No_more, Stands, Fresh, live_entry}
use Rattle.world_pair.specs.World.{GivenFile, given_file}
use Rattle.node_model.proofs.Lists.{Member-append, Member-append_right, Member-append_cases, Each-append, Each-weaker, Each-member}
use Rattle.world_pair.specs.Invariant.{EntryIs, QueueHolds, SettledStands, given_as}

-- an entry that becomes done

done_or_not : (number : ℕ) (e : Entry) (P : Entry → Type 0) → (e.number ≡ number → P (record e { body = Done })) → P e → P (done_entry number e)
done_or_not number e P yes_done no_change = go (e.number == number) refl
  where
    go : (b : Bool) → (e.number == number) ≡ b → P (if b then record e { body = Done } else e)
    go true t = yes_done ((Decides-eqb e.number number).0 t)
    go false t = no_change

pub done_was : (number : ℕ) (queue : List Entry) (e : Entry) → Member e (all_done number queue) → (old : Entry) × Member old queue × (e ≡ done_entry number old)
done_was number [] e m = absurd m
done_was number (x ∷ xs) e (inl same) = (x, inl refl, same)
done_was number (x ∷ xs) e (inr m) = let r = done_was number xs e m in (r.0, inr r.1, r.2)

pub done_stays : (number : ℕ) (queue : List Entry) (e : Entry) → Member e queue → Member (done_entry number e) (all_done number queue)
done_stays number [] e m = absurd m
done_stays number (x ∷ xs) e (inl same) = inl (ap (done_entry number) same)
done_stays number (x ∷ xs) e (inr m) = inr (done_stays number xs e m)

pub done-number : (number : ℕ) (e : Entry) → (done_entry number e).number ≡ e.number
done-number number e = done_or_not number e (λ x. x.number ≡ e.number) (λ _. refl) refl

pub done-key : (number : ℕ) (e : Entry) → (done_entry number e).key ≡ e.key
done-key number e = done_or_not number e (λ x. x.key ≡ e.key) (λ _. refl) refl

pub done-dest : (number : ℕ) (e : Entry) → (done_entry number e).dest ≡ e.dest
done-dest number e = done_or_not number e (λ x. x.dest ≡ e.dest) (λ _. refl) refl

pub done-live : (number : ℕ) (e : Entry) (bytes : List ℕ) → (done_entry number e).body ≡ Live bytes → e.body ≡ Live bytes
done-live number e bytes = done_or_not number e (λ x. x.body ≡ Live bytes → e.body ≡ Live bytes) (λ _ c. absurd (cc)) (λ h. h)

pub outbound_done : (files : List GivenFile) (queue : List Entry) (number : ℕ) → QueueHolds files queue → QueueHolds files (all_done number queue)
outbound_done files queue number o =
    record {
      sizes = o.sizes;
      listed = λ e m.
          let w = done_was number queue e m in
          let l = o.listed w.0 w.1 in
          (l.0, subst (λ (x : Entry). Member (given_as x l.0) files) (sym w.2) (same_sent w.0 l.0 l.1));
      live = λ e bytes m b.
          let w = done_was number queue e m in
          let was : w.0.body ≡ Live bytes = done-live number w.0 bytes (ap (λ (x : Entry). x.body) (sym w.2) ∙ b) in
          subst (λ (x : Entry). Member (given_as x bytes) files) (sym w.2) (same_sent w.0 bytes (o.live w.0 bytes w.1 was));
      numbers = λ e f m k same.
          let a = done_was number queue e m in
          let b = done_was number queue f k in
          let n : a.0.number ≡ b.0.number = sym (done-number number a.0) ∙ (ap (λ (x : Entry). x.number) (sym a.2) ∙ (same ∙ (ap (λ (x : Entry). x.number) b.2 ∙ done-number number b.0))) in
          let h = o.numbers a.0 b.0 a.1 b.1 n in (
            ap (λ (x : Entry). x.key) a.2 ∙ (done-key number a.0 ∙ (h.0 ∙ (sym (done-key number b.0) ∙ ap (λ (x : Entry). x.key) (sym b.2)))),
            ap (λ (x : Entry). x.dest) a.2 ∙ (done-dest number a.0 ∙ (h.1 ∙ (sym (done-dest number b.0) ∙ ap (λ (x : Entry). x.dest) (sym b.2)))),
          );
    }
  where
    same_sent : (e : Entry) (bytes : List ℕ) → Member (given_as e bytes) files → Member (given_as (done_entry number e) bytes) files
    same_sent e bytes m = subst (λ (q : Address × Key). Member (record { dest = q.0; key = q.1; bytes = bytes }) files) (λ i. (sym (done-dest number e) i, sym (done-key number e) i)) m

pub entry_done : (queue : List Entry) (dests : List Address) (done number : ℕ) (key : Key) → EntryIs queue dests number key → EntryIs (all_done done queue) dests number key
entry_done queue dests done number key h =
    record {
      entry = done_entry done h.entry;
      there = done_stays done queue h.entry h.there;
      numbered = done-number done h.entry ∙ h.numbered;
      each = λ e m n.
          let w = done_was done queue e m in
          let g = h.each w.0 w.1 (sym (done-number done w.0) ∙ (ap (λ (x : Entry). x.number) (sym w.2) ∙ n)) in
          (ap (λ (x : Entry). x.key) w.2 ∙ (done-key done w.0 ∙ g.0), subst (λ a. Member a dests) (sym (done-dest done w.0) ∙ ap (λ (x : Entry). x.dest) (sym w.2)) g.1);
    }

-- the entries that become done have a key that is settled there
pub settled_done : (dests : List Address) (from : Address) (kept : Durable) (queue : List Entry) (number : ℕ) → ((e : Entry) → Member e queue → e.number ≡ number → Member e.dest dests × (is_known from e.key kept ≡ true)) → Each (SettledStands dests from kept) queue → Each (SettledStands dests from kept) (all_done number queue)
settled_done dests from kept [] number known h = tt
settled_done dests from kept (e ∷ es) number known h = (done_or_not number e (SettledStands dests from kept) (λ n _. known e (inl refl) n) h.0, settled_done dests from kept es number (λ f m. known f (inr m)) h.1)

-- files that are queued

pub enqueued_keeps : (P : List Entry → Type 0) (Q : NewFile → Type 0) (step : (queue : List Entry) (number : ℕ) (f : NewFile) → Q f → Each (λ (e : Entry). e.number < number) queue → P queue → P (queue ++ live_entry number f ∷ [])) (files : List NewFile) (slots : List Slot) (old new : List Entry) → Enqueued files slots old new → Each Q files → P old → P new
enqueued_keeps P Q step files slots old new No_more q p = p
enqueued_keeps P Q step files slots old new (Stands {files = fs} {slots = ss} {old = o} {new = w} e there again rest) q p = enqueued_keeps P Q step fs ss o w rest q.1 p
enqueued_keeps P Q step files slots old new (Fresh {f = f} {files = fs} {slots = ss} {old = o} {new = w} number fresh above rest) q p =
    enqueued_keeps P Q step fs ss (o ++ live_entry number f ∷ []) w rest q.1 (step o number f q.0 above p)

-- no earlier entry has the new number
below_is_other : (queue : List Entry) (number : ℕ) (e : Entry) → Each (λ (x : Entry). x.number < number) queue → Member e queue → e.number ≡ number → ⊥
below_is_other queue number e above m same = let h : e.number < number = Each-member (λ (x : Entry). x.number < number) e queue above m in omega arith

pub outbound_queues : (files : List GivenFile) (queue : List Entry) (number : ℕ) (f : NewFile) → Member (given_file f) files → Each (λ (e : Entry). e.number < number) queue → QueueHolds files queue → QueueHolds files (queue ++ live_entry number f ∷ [])
outbound_queues files queue number f there above o =
    record {
      sizes = o.sizes;
      listed = λ e m. ⊎_elim (λ h. o.listed e h) (λ (h : (e ≡ live_entry number f) ⊎ ⊥). ⊎_elim (λ (s : e ≡ live_entry number f). (f.bytes, subst (λ (x : Entry). Member (given_as x f.bytes) files) (sym s) there)) (λ n. absurd n) h) (Member-append_cases e queue (live_entry number f ∷ []) m);
      live = λ e bytes m b. ⊎_elim (λ h. o.live e bytes h b) (λ (h : (e ≡ live_entry number f) ⊎ ⊥). ⊎_elim (λ (s : e ≡ live_entry number f). new e bytes s b) (λ n. absurd n) h) (Member-append_cases e queue (live_entry number f ∷ []) m);
      numbers = λ e g m k same. both e g same (Member-append_cases e queue (live_entry number f ∷ []) m) (Member-append_cases g queue (live_entry number f ∷ []) k);
    }
  where
    new : (e : Entry) (bytes : List ℕ) → e ≡ live_entry number f → e.body ≡ Live bytes → Member (given_as e bytes) files
    new e bytes s b =
        let same : f.bytes ≡ bytes = live_inj (ap (λ (x : Entry). x.body) (sym s) ∙ b) in
        subst (λ (q : Entry × List ℕ). Member (given_as q.0 q.1) files) (λ i. (sym s i, same i)) there
      where
        live_inj : Live f.bytes ≡ Live bytes → f.bytes ≡ bytes
        live_inj c = cc

    both : (e g : Entry) → e.number ≡ g.number → Member e queue ⊎ ((e ≡ live_entry number f) ⊎ ⊥) → Member g queue ⊎ ((g ≡ live_entry number f) ⊎ ⊥) → (e.key ≡ g.key) × (e.dest ≡ g.dest)
    both e g same (inl a) (inl b) = o.numbers e g a b same
    both e g same (inl a) (inr (inl b)) = absurd (below_is_other queue number e above a (same ∙ ap (λ (x : Entry). x.number) b))
    both e g same (inl a) (inr (inr b)) = absurd b
    both e g same (inr (inl a)) (inl b) = absurd (below_is_other queue number g above b (sym same ∙ ap (λ (x : Entry). x.number) a))
    both e g same (inr (inl a)) (inr (inl b)) = (ap (λ (x : Entry). x.key) (a ∙ sym b), ap (λ (x : Entry). x.dest) (a ∙ sym b))
    both e g same (inr (inl a)) (inr (inr b)) = absurd b
    both e g same (inr (inr a)) b = absurd a

pub entry_queues : (queue : List Entry) (dests : List Address) (number : ℕ) (f : NewFile) (old : ℕ) (key : Key) → Each (λ (e : Entry). e.number < number) queue → EntryIs queue dests old key → EntryIs (queue ++ live_entry number f ∷ []) dests old key
entry_queues queue dests number f old key above h =
    record {
      entry = h.entry;
      there = Member-append h.entry queue (live_entry number f ∷ []) h.there;
      numbered = h.numbered;
      each = λ e m n. ⊎_elim (λ a. h.each e a n) (λ (b : (e ≡ live_entry number f) ⊎ ⊥). ⊎_elim (λ (s : e ≡ live_entry number f). absurd (below_is_other queue number h.entry above h.there (h.numbered ∙ (sym n ∙ ap (λ (x : Entry). x.number) s)))) (λ c. absurd c) b) (Member-append_cases e queue (live_entry number f ∷ []) m);
    }

pub settled_queues : (dests : List Address) (from : Address) (kept : Durable) (queue : List Entry) (number : ℕ) (f : NewFile) → Each (SettledStands dests from kept) queue → Each (SettledStands dests from kept) (queue ++ live_entry number f ∷ [])
settled_queues dests from kept queue number f h = Each-append (SettledStands dests from kept) queue (live_entry number f ∷ []) h ((λ b. absurd (cc)), tt)

pub sizes_grow : (files : List GivenFile) (new : List NewFile) → Each (λ (f : NewFile). length f.bytes ≡ f.key.size) new → Each (λ (f : GivenFile). length f.bytes ≡ f.key.size) files → Each (λ (f : GivenFile). length f.bytes ≡ f.key.size) (files ++ map given_file new)
sizes_grow files new a b = Each-append _ files (map given_file new) b (mapped new a)
  where
    mapped : (xs : List NewFile) → Each (λ (f : NewFile). length f.bytes ≡ f.key.size) xs → Each (λ (f : GivenFile). length f.bytes ≡ f.key.size) (map given_file xs)
    mapped [] c = tt
    mapped (x ∷ xs) c = (c.0, mapped xs c.1)

-- each of the new files is among all that were queued
pub new_are_there : (files : List GivenFile) (new : List NewFile) → Each (λ (f : NewFile). Member (given_file f) (files ++ map given_file new)) new
new_are_there files new = Each-weaker (λ (f : NewFile). Member (given_file f) (map given_file new)) _ (λ f m. Member-append_right (given_file f) files (map given_file new) m) new (all new)
  where
    all : (xs : List NewFile) → Each (λ (f : NewFile). Member (given_file f) (map given_file xs)) xs
    all [] = tt
    all (x ∷ xs) = (inl refl, Each-weaker (λ (f : NewFile). Member (given_file f) (map given_file xs)) (λ (f : NewFile). (given_file f ≡ given_file x) ⊎ Member (given_file f) (map given_file xs)) (λ f m. inr m) xs (all xs))

pub outbound_grows : (files : List GivenFile) (new : List NewFile) (queue : List Entry) → Each (λ (f : NewFile). length f.bytes ≡ f.key.size) new → QueueHolds files queue → QueueHolds (files ++ map given_file new) queue
outbound_grows files new queue sizes o =
    record {
      sizes = sizes_grow files new sizes o.sizes;
      listed = λ e m. let l = o.listed e m in (l.0, Member-append (given_as e l.0) files (map given_file new) l.1);
      live = λ e bytes m b. Member-append (given_as e bytes) files (map given_file new) (o.live e bytes m b);
      numbers = o.numbers;
    }
