use Rattle.std.proofs.Common.{◌∙◌, ◌++◌, ap, sym, List, map}
use Rattle.std.proofs.lemmas.List.{take_all}
use Rattle.binkp_link.specs.declared.acts.ReadAct.{ReadAct}
use Rattle.binkp_link.specs.Scripts.{Script, act_of, script_bytes}
use Rattle.binkp_link.proofs.AllBytes.{given_and_left}
use Rattle.binkp_link.proofs.read_script.ReadScript.all_bytes.Goals as goal

pub returns : goal.returns
returns c =
    let items = c.deref-act-items.result.now in
    ap (λ (s : Script). s.taken ++ script_bytes s.left) (sym c.self.view_is)
    ∙ given_and_left (map act_of c.self.inside.acts.items) c.self.inside.over c.self.inside.place
    ∙ ap (λ (x : List ReadAct). script_bytes (map act_of x)) (sym c.deref-act-items.ensures.value ∙ sym (take_all c.loop-act.act-index items c.loop-act-test.false))
    ∙ sym c.loop-act.invariant
