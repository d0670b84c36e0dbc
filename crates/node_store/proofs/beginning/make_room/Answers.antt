use Rattle.std.proofs.Common.{◌≡◌, ℕ, List, [], ◌∷◌, ◌++◌, Option, Some, None, true, false, not, sym, ◌∙◌, ap, subst}
use Rattle.std.specs.Prelude.{is_none, position}
use Rattle.std.specs.List.{AllByRecursion}
use Rattle.ftn_addr.specs.Address.{Address, address}
use Rattle.ftn_addr.specs.Files.{is_same}
use Rattle.ftn_addr.specs.Key.{Key, key_of}
use Rattle.ledger_rec.specs.Fold.{is_held}
use Rattle.ledger_rec.specs.Items.{Hold}
use Rattle.node_model.proofs.Lists.{off, is_same_refl, is_same_true, some_passes-append, some_passes-last}
use Rattle.node_store.specs.Beginnings.{has_file}
use Rattle.node_store.specs.Books.{Books}
use Rattle.node_store.specs.Stored.{Part}
use Rattle.node_store.proofs.Alike.{all_by}
use Rattle.node_store.proofs.FirstParts.{first_is, some_found}
use Rattle.node_store.proofs.beginning.make_room.Goals as goal

-- where a part of that file is open, the file is held
held_open : (from : Address) (key : Key) (holds : List Hold) (ps : List Part) (o : Option ℕ) → AllByRecursion (λ (p : Part). is_held p.from p.key holds ≡ true) ps → o ≡ position (has_file from key) ps → is_none o ≡ false → is_held from key holds ≡ true
held_open from key holds ps None held is some = off some
held_open from key holds ps (Some i) held is some =
    let q = some_found (has_file from key) ps i (sym is) in
    let h = first_is (has_file from key) (λ (p : Part). is_held p.from p.key holds ≡ true) ps q.0 held q.1 in
    let same = is_same_true from key q.0.from q.0.key h.1 in
    ap (λ (a : Address). is_held a key holds) same.0 ∙ ap (λ (k : Key). is_held q.0.from k holds) same.1 ∙ h.0

pub returns-in_err-hold-clause-others : goal.returns-in_err-hold-clause-others
returns-in_err-hold-clause-others c =
    subst (λ (b : Books). AllByRecursion (λ (p : Part). is_held p.from p.key b.folding.holds ≡ true) c.args.parts.now.items) (sym c.in_err-hold.ensures.unheld) c.requires.held

pub returns-in_ok-hold-clause-others : goal.returns-in_ok-hold-clause-others
returns-in_ok-hold-clause-others c =
    let h : Hold = record { from = address c.args.from.now; key = key_of c.args.key.now } in
    let holds = c.args.books.now.folding.holds in
    subst (λ (b : Books). AllByRecursion (λ (p : Part). is_held p.from p.key b.folding.holds ≡ true) c.args.parts.now.items) (sym c.in_ok-hold.ensures.held)
    (all_by (λ (p : Part). is_held p.from p.key holds ≡ true) (λ (p : Part). is_held p.from p.key (holds ++ h ∷ []) ≡ true)
    (λ p is. some_passes-append (λ (x : Hold). is_same p.from p.key x.from x.key) holds (h ∷ []) is) c.args.parts.now.items c.requires.held)

pub returns-in_ok-hold-clause-held : goal.returns-in_ok-hold-clause-held
returns-in_ok-hold-clause-held c =
    let from = address c.args.from.now in
    let key = key_of c.args.key.now in
    subst (λ (b : Books). is_held from key b.folding.holds ≡ true) (sym c.in_ok-hold.ensures.held)
    (some_passes-last (λ (x : Hold). is_same from key x.from x.key) c.args.books.now.folding.holds (record { from = from; key = key }) (is_same_refl from key))

pub returns-else-is_none-clause-held : goal.returns-else-is_none-clause-held
returns-else-is_none-clause-held c =
    let there : c.file_of.result ≡ position (has_file (address c.args.from.now) (key_of c.args.key.now)) c.args.parts.now.items =
    c.file_of.ensures ∙ ap (position (has_file (address c.args.from.now) (key_of c.args.key.now))) (c.as_slice.ensures.value ∙ c.reserve.ensures.items) in
    held_open (address c.args.from.now) (key_of c.args.key.now) c.args.books.now.folding.holds c.args.parts.now.items c.file_of.result c.requires.held there (ap not c.if-is_none.ensures)
