use Rattle.std.proofs.Common.{◌∙◌, ap, subst, sym}
use Rattle.ftn_addr.specs.Limits.{IsAddress}
use Rattle.mail_conf.specs.ConfView.{conf_text}
use Rattle.node_model.specs.StoreStates.{StoreStand}
use Rattle.node_store.specs.Stored.{Holding, stand_of}
use Rattle.hub_core.specs.Hubs.{HubState, settings_of}
use Rattle.hub_core.specs.Opening.{IsWhole, no_seats}
use Rattle.outbound_store.specs.declared.taking_store.TakingStore.{TakingStore}
use Rattle.still_commands.proofs.Before.{home_within}
use Rattle.binkp_mailer.proofs.with_outbound.desk_over.Goals as goal

pub returns-clause-ready : goal.returns-clause-ready
returns-clause-ready g c =
    let St : Holding g.row.D.Denot → StoreStand = λ s. stand_of g.D.Disk.tells g.D.Disk.content g.D.Disk.fault_count g.D.Disk.moment g.D.Disk.images s in
    let settings = settings_of c.in-Ok.hub_conf in
    let same = ap (λ (s : TakingStore g.row.D.Denot). s.store) c.new-hub.ensures.store ∙ c.new.ensures.store in
    let at_store = subst (λ (s : Holding g.row.D.Denot). IsWhole (St s) (no_seats settings)) (sym same) (c.requires.fits settings) in
    let whole = subst (λ (h : HubState). IsWhole (St c.new-hub.result.store.store) h) (sym c.new-hub.ensures.seats) at_store in
    record {
      ready = c.in-Ok-seat.ensures.ready whole;
      home_within = subst IsAddress (sym c.in-Ok-outbound_of.ensures) (home_within (conf_text c.args.conf.now) c.requires.keeps);
    }
