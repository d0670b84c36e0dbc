use Rattle.std.proofs.Common.{◌≡◌, ℕ, Option, refl, sym, ◌∙◌, ap, subst}
use Rattle.binkp_serve.specs.Serving.{AreBack, Looks, Serves, at_start, end_with}
use Rattle.binkp_serve.proofs.Beginning.{looks_first}
use Rattle.binkp_serve.proofs.Placing.{leaves_nobody}
use Rattle.binkp_serve.proofs.Rested.{rests_then}
use Rattle.binkp_serve.proofs.served.serve.Goals as goal

pub turn_all-end-requires-clause-back : goal.turn_all-end-requires-clause-back
turn_all-end-requires-clause-back g c = λ ks outlives. subst (λ (n : ℕ). AreBack n (g.N.Lines.state c.args.lines.now)) (sym c.look.ensures.lines) c.requires.fresh

pub returns-clause-serves : goal.returns-clause-serves
returns-clause-serves g c =
    let rests = rests_then g.D.Disk.tells g.D.Disk.content g.D.Disk.fault_count g.D.Disk.moment g.D.Disk.images _ _ _ _ _
    (rests_then g.D.Disk.tells g.D.Disk.content g.D.Disk.fault_count g.D.Disk.moment g.D.Disk.images _ _ _ _ _ c.look.ensures.rests c.turn_all-end.ensures.rests) c.give.ensures.rests in
    record {
      now = c.now.result;
      first = _;
      looks = looks_first g.D.Disk.tells g.D.Disk.content g.D.Disk.fault_count g.D.Disk.moment g.D.Disk.images _ _ _ _ _ _ _ _ c.new.ensures.items c.new-2.ensures (c.look.ensures.looks (g.N.Lines.state c.args.lines.now));
      was = c.turn_all-end.result;
      ended = _;
      turns = c.turn_all-end.ensures.turns;
      new = _;
      gives = c.give.ensures.gives (g.N.Lines.state c.turn_all-end.new.lines) (g.O.Sink.state c.turn_all-end.new.out) c.turn_all-end.new.watch;
      is = c.end_with.ensures ∙ ap (λ (b : Option ℕ). end_with b c.turn_all-end.result) c.broken.ensures;
      reached = rests.reached;
      stays = rests.stays;
      short_is = refl;
      rest_is = refl;
      lines_is = refl;
      out_is = refl;
    }

pub returns-clause-at_rest : goal.returns-clause-at_rest
returns-clause-at_rest g c = c.give.ensures.rests.at_rest

pub returns-clause-placed : goal.returns-clause-placed
returns-clause-placed g c = leaves_nobody g.D.Disk.tells g.D.Disk.content g.D.Disk.fault_count g.D.Disk.moment g.D.Disk.images _ _ _ _ _ _ _ _ _ _ (returns-clause-serves g c)
