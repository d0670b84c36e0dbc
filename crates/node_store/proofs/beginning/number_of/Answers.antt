use Rattle.std.proofs.Common.{◌≡◌, ◌+◌, ◌==◌, Option, Some, None, Bool, true, false, sym, ◌∙◌, ap}
use Rattle.std.specs.Prelude.{find, if◌then◌else◌}
use Rattle.std.proofs.lemmas.Bool.Decides.{Decides-eqb}
use Rattle.ftn_addr.specs.Address.{address}
use Rattle.ftn_addr.specs.Key.{key_of}
use Rattle.ftn_addr.specs.declared.limits.TheConstants.{MAX_NUMBER}
use Rattle.node_model.specs.declared.store.PartAt.{PartAt}
use Rattle.node_store.specs.Beginnings.{has_file, next_number}
use Rattle.node_store.specs.Stored.{Part}
use Rattle.node_store.proofs.FirstParts.{first_found, none_found}
use Rattle.node_store.proofs.Mirrors.{eqb_apart}
use Rattle.node_store.proofs.beginning.number_of.Goals as goal

pub returns-in-Some-file_of : goal.returns-in-Some-file_of
returns-in-Some-file_of c =
    let test = has_file (address c.args.from.now) (key_of c.args.key.now) in
    let part = c.index-parts-place.result in
    let found : find test c.args.parts.now ≡ Some part = first_found test c.args.parts.now c.in-Some-file_of.place part (sym c.file_of.ensures ∙ c.in-Some-file_of.is) ∙ ap Some (sym c.index-parts-place.is) in
    sym (ap (λ (m : Option PartAt). next_number m (find test c.args.parts.now) c.args.drawn) c.in_default.is ∙ ap (λ (o : Option Part). next_number None o c.args.drawn) found ∙ ap Some (sym c.number.ensures))

pub returns-in-None : goal.returns-in-None
returns-in-None c =
    let test = has_file (address c.args.from.now) (key_of c.args.key.now) in
    let none : find test c.args.parts.now ≡ None = none_found test c.args.parts.now (sym c.file_of.ensures ∙ c.in-None.is) in
    let last : (c.args.drawn == MAX_NUMBER) ≡ true = (Decides-eqb c.args.drawn MAX_NUMBER).1 c.if-drawn-eq-MAX_NUMBER.true in
    sym (ap (λ (m : Option PartAt). next_number m (find test c.args.parts.now) c.args.drawn) c.in_default.is ∙ ap (λ (o : Option Part). next_number None o c.args.drawn) none
    ∙ ap (λ (b : Bool). if b then None else Some (c.args.drawn + 1)) last)

pub returns-in-None-2 : goal.returns-in-None-2
returns-in-None-2 c =
    let test = has_file (address c.args.from.now) (key_of c.args.key.now) in
    let none : find test c.args.parts.now ≡ None = none_found test c.args.parts.now (sym c.file_of.ensures ∙ c.in-None-2.is) in
    let more : (c.args.drawn == MAX_NUMBER) ≡ false = eqb_apart c.args.drawn MAX_NUMBER c.if-drawn-eq-MAX_NUMBER.false in
    sym (ap (λ (m : Option PartAt). next_number m (find test c.args.parts.now) c.args.drawn) c.in_default.is ∙ ap (λ (o : Option Part). next_number None o c.args.drawn) none
    ∙ ap (λ (b : Bool). if b then None else Some (c.args.drawn + 1)) more)
