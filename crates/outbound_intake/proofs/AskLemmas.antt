-- Calls that only ask, one behind another.
use Rattle.std.proofs.Common.{◌≡◌, List, [], ◌∷◌, Option, Some, None, refl, sym, ◌∙◌, ap}
use Rattle.ftn_addr.specs.Address.{Address}
use Rattle.node_model.specs.Lists.{Each}
use Rattle.outbound_model.specs.Outbound.{Outbound}
use Rattle.outbound_model.specs.Steps.{Step}
use Rattle.outbound_model.specs.Lives.{Reaches}
use Rattle.outbound_intake.specs.Asks.{Asks, IsNoStep}
use Rattle.outbound_take.specs.Calls.{IsLike}
use Rattle.outbound_take.specs.Ours.{IsOurs, OurWorks}
use Rattle.outbound_take.specs.Stand.{IsCalm, Kept, Memory, Same, TakeStand, told}
use Rattle.outbound_take.proofs.WorkLemmas.{calm_after, same_works, works_none, works_on, works_weaker}

like_on : (a b c : Memory) → IsLike a b → IsLike b c → IsLike a c
like_on a b c f g = record { left = g.left ∙ f.left; drawn = g.drawn ∙ f.drawn; undone = g.undone ∙ f.undone; broken = g.broken }

pub asks_none : (A : Type 0) (s : TakeStand) → IsCalm s → s.memory.broken ≡ None → Asks A s s
asks_none A s calm whole = record { works = works_none IsNoStep A s calm; memory = λ a. record { left = refl; drawn = refl; undone = refl; broken = whole } }

pub asks_one : (A : Type 0) (old new : TakeStand) → Kept Same A old new → (A → IsLike old.memory new.memory) → Asks A old new
asks_one A old new k like = record { works = same_works IsNoStep A old new k; memory = like }

pub asks_on : (A B : Type 0) (old mid new : TakeStand) → Asks A old mid → A → Asks B mid new → Asks B old new
asks_on A B old mid new f a g = record {
  works = works_on IsNoStep A B [] [] old mid new f.works a g.works;
  memory = λ b. like_on old.memory mid.memory new.memory (f.memory a) (g.memory b);
}

pub asks_calm : (A : Type 0) (old new : TakeStand) → Asks A old new → A → IsCalm new
asks_calm A old new f a = calm_after IsNoStep A [] old new f.works a

pub asks_our : (dest : Address) (moment : _) (A : Type 0) (old new : TakeStand) → Asks A old new → OurWorks dest moment A [] old new
asks_our dest moment A old new f = works_weaker IsNoStep (IsOurs dest moment None) A A [] old new (λ e no. absurd no) (λ a. a) f.works

stays : (s : Outbound) (es : List Step) (t : Outbound) → Each IsNoStep es → Reaches s es t → t ≡ s
stays s [] t none path = path
stays s (e ∷ es) t none path = absurd none.0

pub asks_told : (A : Type 0) (old new : TakeStand) → Asks A old new → A → told new ≡ told old
asks_told A old new f a = by_told (told old) refl
  where
    by_told : (o : Option Outbound) → told old ≡ o → told new ≡ told old
    by_told None none = f.works.silent none ∙ sym none
    by_told (Some s) some =
        let v = f.works.made s some in
        v.tells ∙ (ap Some (stays s v.steps v.end v.ours (v.ends a)) ∙ sym some)
