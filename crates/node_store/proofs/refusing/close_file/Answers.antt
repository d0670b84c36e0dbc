use Rattle.std.proofs.Common.{◌≡◌, List, Some, true, false, sym, ◌∙◌, ap, subst}
use Rattle.std.specs.Prelude.{position}
use Rattle.std.specs.List.{AllByRecursion}
use Rattle.ftn_addr.specs.Address.{address}
use Rattle.ftn_addr.specs.Files.{is_same}
use Rattle.ftn_addr.specs.Key.{key_of}
use Rattle.ledger_rec.specs.Fold.{is_held, without_hold}
use Rattle.node_store.specs.Beginnings.{has_file, without_file}
use Rattle.node_store.specs.Books.{Books}
use Rattle.node_store.specs.Stored.{Part}
use Rattle.node_store.proofs.Committed.{all_with, held_on}
use Rattle.node_store.proofs.FirstParts.{all_without, first_removed, none_found, none_without}
use Rattle.node_store.proofs.PartOpened.{left_differ}
use Rattle.node_store.proofs.refusing.close_file.Goals as goal

pub returns-in-Some-clause-parts : goal.returns-in-Some-clause-parts
returns-in-Some-clause-parts c =
    let test = has_file (address c.args.from.now) (key_of c.args.key.now) in
    let items = c.args.parts.now.items in
    let at : position test items ≡ Some c.in-Some.place = ap (position test) (sym c.as_slice.ensures.value) ∙ sym c.file_of.ensures ∙ c.in-Some.is in
    c.remove.ensures.items ∙ first_removed test items c.in-Some.place c.remove.result at

pub returns-in-Some-clause-held : goal.returns-in-Some-clause-held
returns-in-Some-clause-held c =
    let from = address c.args.from.now in
    let key = key_of c.args.key.now in
    let items = c.args.parts.now.items in
    let holds = c.args.books.now.folding.holds in
    let at : position (has_file from key) items ≡ Some c.in-Some.place = ap (position (has_file from key)) (sym c.as_slice.ensures.value) ∙ sym c.file_of.ensures ∙ c.in-Some.is in
    let parts : c.remove.new.self.items ≡ without_file from key items = c.remove.ensures.items ∙ first_removed (has_file from key) items c.in-Some.place c.remove.result at in
    let left = all_with (λ (p : Part). is_held p.from p.key holds ≡ true) (λ (p : Part). is_same from key p.from p.key ≡ false) (λ (p : Part). is_held p.from p.key (without_hold from key holds) ≡ true)
    (λ p held differs. held_on from key p.from p.key differs holds held) (without_file from key items)
    (all_without (has_file from key) (λ (p : Part). is_held p.from p.key holds ≡ true) items c.requires.held) (left_differ from key items c.requires.apart) in
    let there = subst (λ (ps : List Part). AllByRecursion (λ (p : Part). is_held p.from p.key (without_hold from key holds) ≡ true) ps) (sym parts) left in
    subst (λ (b : Books). AllByRecursion (λ (p : Part). is_held p.from p.key b.folding.holds ≡ true) c.remove.new.self.items) (sym c.unhold.ensures.unheld) there

pub returns-in_default-clause-parts : goal.returns-in_default-clause-parts
returns-in_default-clause-parts c =
    let test = has_file (address c.args.from.now) (key_of c.args.key.now) in
    let items = c.args.parts.now.items in
    sym (none_without test items (none_found test items (ap (position test) (sym c.as_slice.ensures.value) ∙ sym c.file_of.ensures ∙ c.in_default.is)))
