-- A store after a put is as sound.
use Rattle.std.proofs.Common.{◌≡◌, inl, inr, ⊎_elim, ℕ, ◌+◌, ◌==◌, ◌≤◌, List, [], ◌∷◌, length, map, Some, Bool, true, false, refl, sym, ◌∙◌, arith}
use Rattle.std.specs.Prelude.{if◌then◌else◌}
use Rattle.std.specs.List.{AllByRecursion}
use Rattle.std.proofs.lemmas.Bool.Decides.{Decides-eqb}
use Rattle.disk_model.specs.World.{World}
use Rattle.disk_model.specs.Changes.{OnOwn, Rewrites, Holds}
use Rattle.ledger_rec.specs.Fold.{Folding}
use Rattle.ledger_rec.specs.Items.{PartMark}
use Rattle.node_model.specs.Items.{MarkOf}
use Rattle.node_model.specs.Lists.{Each}
use Rattle.node_model.specs.Stocks.{part_in}
use Rattle.node_model.proofs.Lists.{some_inj, off}
use Rattle.node_store.specs.Contents.{Contents}
use Rattle.node_store.specs.Names.{in_name, out_name}
use Rattle.node_store.specs.Stored.{Part, Put, Memory, part_by, grown, IsPart, IsMemory, HasBodies}
use Rattle.node_store.specs.Tied.{Apart, AllApart}
use Rattle.node_store.specs.Worlds.{HasLength}
use Rattle.node_store.proofs.NameLaws.{one_in_name, in_not_out}
use Rattle.node_store.proofs.Puts.{orderly_grown, given_put, has_longer}

-- the open part with that number is the only one

others_differ : (number : ℕ) (p : Part) (qs : List Part) → p.number ≡ number → Each (Apart p) qs → (P : Part → Type 0) → AllByRecursion (λ (q : Part). q.number ≡ number → P q) qs
others_differ number p [] is apart P = tt
others_differ number p (q ∷ qs) is apart P = (λ same. absurd (apart.0.0 (is ∙ sym same)), others_differ number p qs is apart.1 P)

-- what is told of it holds of each with that number
pub told_holds : (cs : Contents ℕ) (number : ℕ) (ps : List Part) (o : MarkOf ℕ) → AllApart ps → part_in number (map (part_by cs) ps) ≡ Some o → AllByRecursion (λ (p : Part). p.number ≡ number → part_by cs p ≡ o) ps
told_holds cs number [] o apart is = tt
told_holds cs number (p ∷ ps) o apart is = go (p.number == number) refl is (told_holds cs number ps o apart.1)
  where
    go : (b : Bool) → (p.number == number) ≡ b → (if b then Some (part_by cs p) else part_in number (map (part_by cs) ps)) ≡ Some o
        → (part_in number (map (part_by cs) ps) ≡ Some o → AllByRecursion (λ (q : Part). q.number ≡ number → part_by cs q ≡ o) ps) → AllByRecursion (λ (q : Part). q.number ≡ number → part_by cs q ≡ o) (p ∷ ps)
    go true same e rest = (λ _. some_inj e, others_differ number p ps ((Decides-eqb p.number number).0 same) apart.0 (λ (q : Part). part_by cs q ≡ o))
    go false other e rest = (λ same. off (sym ((Decides-eqb p.number number).1 same) ∙ other), rest e)

-- memory

module _ (number n : ℕ) where
  part_more : (f : Folding) (p : Part) → (p.number ≡ number → p.have + n ≤ p.key.size) → IsPart f p → IsPart f (grown number n p)
  part_more f p fits is = go (p.number == number) refl
    where
      longer : (have : ℕ) → p.have ≤ have → (ms : List PartMark) → AllByRecursion (λ (m : PartMark). m.number ≡ p.number → m.len ≤ p.have) ms → AllByRecursion (λ (m : PartMark). m.number ≡ p.number → m.len ≤ have) ms
      longer have le [] all = tt
      longer have le (m ∷ ms) all = (λ same. omega (arith, all.0 same, le), longer have le ms all.1)

      with_have : (have : ℕ) → p.have ≤ have → have ≤ p.key.size → IsPart f (record p { have = have })
      with_have have le most = record {
        from = is.from;
        key = is.key;
        sizes = is.sizes;
        within = most;
        receipt = is.receipt;
        next = is.next;
        held = is.held;
        unknown = is.unknown;
        number = ⊎_elim (λ k. inl (record { marked = k.marked; given_away = k.given_away })) (λ u. inr (record { unused = u.unused; unmarked = u.unmarked; first = u.first })) is.number;
        marks = longer have le f.state.marks is.marks;
        received = is.received;
      }

      go : (b : Bool) → (p.number == number) ≡ b → IsPart f (record p { have = if b then p.have + n else p.have })
      go true same = with_have (p.have + n) (omega arith) (fits ((Decides-eqb p.number number).0 same))
      go false other = with_have p.have (omega arith) is.within

  parts_more : (f : Folding) (ps : List Part) → AllByRecursion (λ (p : Part). p.number ≡ number → p.have + n ≤ p.key.size) ps → AllByRecursion (IsPart f) ps → AllByRecursion (IsPart f) (map (grown number n) ps)
  parts_more f [] fits is = tt
  parts_more f (p ∷ ps) fits is = (part_more f p fits.0 is.0, parts_more f ps fits.1 is.1)

  pub memory_put : (m : Memory) → AllByRecursion (λ (p : Part). p.number ≡ number → p.have + n ≤ p.key.size) m.parts → IsMemory m → IsMemory (record m { parts = map (grown number n) m.parts })
  memory_put m fits is = record {
    books = is.books;
    orderly = orderly_grown number n m.drawn m.parts ∙ is.orderly;
    parts = parts_more m.books.folding m.parts fits is.parts;
    marked = is.marked;
    received = is.received;
    numbers = is.numbers;
    given = is.given;
    staged = is.staged;
    queued = is.queued;
  }

-- files

pub bodies_put : (number at : ℕ) (bytes : List ℕ) (told told' : World) (m : Memory) → HasLength (in_name number) at told → OnOwn (Rewrites (in_name number) (Holds at bytes)) told told' → HasBodies m told
    → HasBodies (record m { parts = map (grown number (length bytes)) m.parts }) told'
bodies_put number at bytes told told' m body step has = record { parts = parts m.parts has.parts; staged = staged m.staged has.staged; given = given_put number at bytes told told' step m.given has.given }
  where
    one : (p : Part) → HasLength (in_name p.number) p.have told → HasLength (in_name p.number) (grown number (length bytes) p).have told'
    one p h = go (p.number == number) refl
      where
        go : (b : Bool) → (p.number == number) ≡ b → HasLength (in_name p.number) (if b then p.have + length bytes else p.have) told'
        go true same = has_longer number at bytes told told' body step p h ((Decides-eqb p.number number).0 same)
        go false other = (h.0, step.own.others (in_name p.number) (λ e. off (sym ((Decides-eqb p.number number).1 (one_in_name p.number number e)) ∙ other)) ∙ h.1, h.2)

    parts : (ps : List Part) → AllByRecursion (λ (p : Part). HasLength (in_name p.number) p.have told) ps → AllByRecursion (λ (p : Part). HasLength (in_name p.number) p.have told') (map (grown number (length bytes)) ps)
    parts [] all = tt
    parts (p ∷ ps) all = (one p all.0, parts ps all.1)

    staged : (ps : List Put) → AllByRecursion (λ (p : Put). HasLength (out_name p.number) p.size told) ps → AllByRecursion (λ (p : Put). HasLength (out_name p.number) p.size told') ps
    staged [] all = tt
    staged (p ∷ ps) all = ((all.0.0, step.own.others (out_name p.number) (λ e. in_not_out number p.number (sym e)) ∙ all.0.1, all.0.2), staged ps all.1)
