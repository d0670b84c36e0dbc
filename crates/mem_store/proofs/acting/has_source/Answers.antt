use Rattle.std.proofs.Common.{Option, List, ℕ, position, sym, ◌∙◌, ap}
use Rattle.std.specs.Str.{bytes_eq}
use Rattle.ftn_addr.specs.Key.{key_of}
use Rattle.node_model.specs.Outside.{OutFile, has_key}
use Rattle.mem_store.specs.Outsiders.{Placed}
use Rattle.mem_store.proofs.Outsiding.{outside_found, outside_none}
use Rattle.mem_store.proofs.acting.has_source.Goals as goal

pub returns-in-Some : goal.returns-in-Some
returns-in-Some c =
    c.has_key.ensures ∙ ap (λ (o : Option OutFile). has_key (key_of c.args.key.now) o) (sym (outside_found c.args.path.now.list c.args.files.now c.in-Some.place c.index-files-place.result (ap (λ (p : List ℕ). position (λ (f : Placed). bytes_eq p f.path) c.args.files.now) (sym c.as_slice.ensures) ∙ (sym c.place_of_path.ensures ∙ c.in-Some.is)) c.index-files-place.is))

pub returns-in-None : goal.returns-in-None
returns-in-None c =
    ap (λ (o : Option OutFile). has_key (key_of c.args.key.now) o) (sym (outside_none c.args.path.now.list c.args.files.now (ap (λ (p : List ℕ). position (λ (f : Placed). bytes_eq p f.path) c.args.files.now) (sym c.as_slice.ensures) ∙ (sym c.place_of_path.ensures ∙ c.in-None.is))))
