use Rattle.std.proofs.Common.{◌++◌, ℕ, List, subst, arith}
use Rattle.std.proofs.lemmas.List.{length-map}
use Rattle.binkp_frame.specs.Stream.{Feeds}
use Rattle.binkp_frame.specs.Views.{frame_text, frame_texts}
use Rattle.binkp_frame.proofs.FewFrames.{few_added}
use Rattle.binkp_frame.proofs.decoder.Decoder.feed.Goals as goal

pub returns-in-Ok-clause-few : goal.returns-in-Ok-clause-few
returns-in-Ok-clause-few c =
    let old = frame_texts c.args.out.now.items in
    let new = frame_texts c.split_off.new.out.items in
    let feeds : Feeds old (c.self.inside.rest.list ++ c.args.piece.now) new c.split_off.new.rest.list = subst (λ (x : List ℕ). Feeds old x new c.split_off.new.rest.list) c.in_ok-push_slice.ensures.ok c.in-Ok.ensures.ok in
    let few = few_added old new c.self.inside.rest.list c.args.piece.now c.split_off.new.rest.list c.self.invariant feeds in
    omega (arith, few, length-map c.args.out.now.items frame_text, length-map c.split_off.new.out.items frame_text)
