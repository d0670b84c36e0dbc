use Rattle.ftn_addr.specs.Address.{address}
use Rattle.mail_conf.specs.ConfView.{conf_text}
use Rattle.binkp_serve.specs.Rests.{StaysAtRest, rest_of}
use Rattle.binkp_serve.specs.Serving.{AreBack, Turns, server}
use Rattle.binkp_serve.proofs.served.turn_all.Given as goal

-- turns led here, at rest, and all lines are back
abbrev pub invariant-loop : goal.invariant-loop
invariant-loop g l = record {
  turns : Turns g.D.Disk.tells g.D.Disk.content g.D.Disk.fault_count g.D.Disk.moment g.D.Disk.images (conf_text l.conf) l.index
      (server l.fn.desk.desk.hub.store.store l.fn.desk.desk.hub.seats l.fn.desk.desk.seat (g.N.Lines.state l.fn.lines) (g.O.Sink.state l.fn.out) l.fn.watch)
      (server l.desk.desk.hub.store.store l.desk.desk.hub.seats l.desk.desk.seat (g.N.Lines.state l.lines) (g.O.Sink.state l.out) l.watch);
  rests : StaysAtRest g.D.Disk.tells g.D.Disk.content g.D.Disk.fault_count g.D.Disk.moment g.D.Disk.images (address l.desk.outbound.home)
      (rest_of l.fn.desk.desk.hub.store.store l.fn.desk.desk.hub.seats l.fn.desk.desk.seat)
      (rest_of l.desk.desk.hub.store.store l.desk.desk.hub.seats l.desk.desk.seat);
  back : AreBack l.watch.lines (g.N.Lines.state l.lines);
}
