-- An act that gives something, behind others that do.
use Rattle.std.proofs.Common.{◌≡◌, List, [], ◌∷◌, ◌++◌, map, sym, subst}
use Rattle.binkp_link.specs.declared.acts.ReadAct.{ReadAct}
use Rattle.binkp_link.specs.Scripts.{AllGiveSome, GivesSome, act_of}

some_after : (acts : List ReadAct) (act : ReadAct) → AllGiveSome (map act_of acts) → GivesSome (act_of act) → AllGiveSome (map act_of (acts ++ act ∷ []))
some_after [] act all one = (one, tt)
some_after (x ∷ acts) act all one = (all.0, some_after acts act all.1 one)

pub some_push : (acts pushed : List ReadAct) (act : ReadAct) → pushed ≡ acts ++ act ∷ [] → AllGiveSome (map act_of acts) → GivesSome (act_of act) → AllGiveSome (map act_of pushed)
some_push acts pushed act is all one = subst (λ (x : List ReadAct). AllGiveSome (map act_of x)) (sym is) (some_after acts act all one)
