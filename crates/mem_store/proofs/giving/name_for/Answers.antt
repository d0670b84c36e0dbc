use Rattle.std.proofs.Common.{◌≡◌, List, ℕ, true, false, sym, ◌∙◌, ap}
use Rattle.std.specs.List.{list_any}
use Rattle.node_model.specs.Outside.{Plainly, By_number, plain_name, numbered_name, path_in}
use Rattle.mem_store.specs.Outsiders.{Placed, is_at_or_below}
use Rattle.mem_store.proofs.Outsiding.{used, unused}
use Rattle.mem_store.proofs.giving.name_for.Goals as goal

pub returns-then-not-in_use : goal.returns-then-not-in_use
returns-then-not-in_use c =
    let path = path_in c.args.folder.now.list (plain_name c.args.name.now) in
    let at : c.as_slice.result.now ≡ path = c.as_slice.ensures ∙ (c.in_ok-path.ensures ∙ ap (path_in c.args.folder.now.list) c.in_ok-plain.ensures) in
    let free : list_any (λ (f : Placed). is_at_or_below path f.path) c.args.files.now ≡ false = ap (λ (p : List ℕ). list_any (λ (f : Placed). is_at_or_below p f.path) c.args.files.now) (sym at) ∙ (sym c.in_use.ensures ∙ c.if-not-in_use.true) in
    Plainly c.in_ok-plain.ensures (unused path c.args.files.now free)

pub returns-then-not-in_use-2 : goal.returns-then-not-in_use-2
returns-then-not-in_use-2 c =
    let path = path_in c.args.folder.now.list (plain_name c.args.name.now) in
    let at : c.as_slice.result.now ≡ path = c.as_slice.ensures ∙ (c.in_ok-path.ensures ∙ ap (path_in c.args.folder.now.list) c.in_ok-plain.ensures) in
    let taken : list_any (λ (f : Placed). is_at_or_below path f.path) c.args.files.now ≡ true = ap (λ (p : List ℕ). list_any (λ (f : Placed). is_at_or_below p f.path) c.args.files.now) (sym at) ∙ (sym c.in_use.ensures ∙ c.if-not-in_use.false) in
    let path' = path_in c.args.folder.now.list (numbered_name c.args.receipt c.args.name.now) in
    let at' : c.as_slice-2.result.now ≡ path' = c.as_slice-2.ensures ∙ (c.in_ok-path-2.ensures ∙ ap (path_in c.args.folder.now.list) c.in_ok-numbered.ensures) in
    let free : list_any (λ (f : Placed). is_at_or_below path' f.path) c.args.files.now ≡ false = ap (λ (p : List ℕ). list_any (λ (f : Placed). is_at_or_below p f.path) c.args.files.now) (sym at') ∙ (sym c.in_use-2.ensures ∙ c.if-not-in_use-2.true) in
    By_number c.in_ok-numbered.ensures (used path c.args.files.now taken) (unused path' c.args.files.now free)

pub returns : goal.returns
returns c =
    let path = path_in c.args.folder.now.list (plain_name c.args.name.now) in
    let at : c.as_slice.result.now ≡ path = c.as_slice.ensures ∙ (c.in_ok-path.ensures ∙ ap (path_in c.args.folder.now.list) c.in_ok-plain.ensures) in
    let taken : list_any (λ (f : Placed). is_at_or_below path f.path) c.args.files.now ≡ true = ap (λ (p : List ℕ). list_any (λ (f : Placed). is_at_or_below p f.path) c.args.files.now) (sym at) ∙ (sym c.in_use.ensures ∙ c.if-not-in_use.false) in
    let path' = path_in c.args.folder.now.list (numbered_name c.args.receipt c.args.name.now) in
    let at' : c.as_slice-2.result.now ≡ path' = c.as_slice-2.ensures ∙ (c.in_ok-path-2.ensures ∙ ap (path_in c.args.folder.now.list) c.in_ok-numbered.ensures) in
    let taken' : list_any (λ (f : Placed). is_at_or_below path' f.path) c.args.files.now ≡ true = ap (λ (p : List ℕ). list_any (λ (f : Placed). is_at_or_below p f.path) c.args.files.now) (sym at') ∙ (sym c.in_use-2.ensures ∙ c.if-not-in_use-2.false) in
    record { plain = used path c.args.files.now taken; numbered = used path' c.args.files.now taken' }
