use Rattle.std.proofs.Common.{◌≡◌, ℕ, ap, subst, sym, ◌∙◌}
use Rattle.ftn_addr.specs.Address.{Address, address}
use Rattle.ftn_addr.specs.Limits.{IsAddress}
use Rattle.mail_conf.specs.ConfView.{conf_text}
use Rattle.node_model.specs.StoreStates.{StoreStand}
use Rattle.node_store.specs.Stored.{Holding, stand_of}
use Rattle.outbound_store.specs.GoesOn.{GoesOn}
use Rattle.outbound_round.specs.declared.words.Telling.TheVariants.{All}
use Rattle.outbound_round.specs.Round.{TakesRound, told_of as round_told}
use Rattle.still_commands.specs.Came.{told_of, told_taken}
use Rattle.still_commands.proofs.Before.{home_within}
use Rattle.still_commands.proofs.taking.take_opened.Goals as goal

pub take_round-round-requires-clause-home : goal.take_round-round-requires-clause-home
take_round-round-requires-clause-home g c = subst IsAddress (sym c.home_of.ensures) (home_within (conf_text c.args.conf.now) c.requires.keeps)

pub returns : goal.returns
returns g c =
    let St : Holding g.row.D.Denot → StoreStand = λ s. stand_of g.D.Disk.tells g.D.Disk.content g.D.Disk.fault_count g.D.Disk.moment g.D.Disk.images s in
    let was = c.new-taking.ensures.store in
    record {
      round = round_told c.take_round-round.result;
      left = c.take_round-round.new.taking.store;
      takes =
          subst
          (λ (home : Address). TakesRound g.D.Disk.tells g.D.Disk.content g.D.Disk.fault_count g.D.Disk.moment g.D.Disk.images All (conf_text c.args.conf.now).base (conf_text c.args.conf.now).zone home c.args.now (round_told c.take_round-round.result) c.args.store c.take_round-round.new.taking.store)
          c.home_of.ensures
          (subst
          (λ (s : Holding g.row.D.Denot). TakesRound g.D.Disk.tells g.D.Disk.content g.D.Disk.fault_count g.D.Disk.moment g.D.Disk.images All (conf_text c.args.conf.now).base (conf_text c.args.conf.now).zone (address c.home_of.result.now) c.args.now (round_told c.take_round-round.result) s c.take_round-round.new.taking.store)
          was c.take_round-round.ensures.round);
      goes_on = subst (λ (s : Holding g.row.D.Denot). GoesOn (St s) (St c.take_round-round.new.taking.store)) was c.take_round-round.ensures.goes_on;
      broke = c.take_round-round.ensures.broke;
      disk_is = c.into_disk-disk.ensures ∙ ap (λ (s : Holding g.row.D.Denot). s.disk) c.into_store.ensures;
      told_is = subst (λ (n : ℕ). told_of c.came_round.result ≡ told_taken (round_told c.take_round-round.result) n) c.faults-faults.ensures c.came_round.ensures;
    }
