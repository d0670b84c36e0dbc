use Rattle.node_store.proofs.Finds.{look_refused, look_stop, tidy_stop, tidy_read, is_found}
use Rattle.node_store.proofs.opening.finding.look_over.Goals as goal

pub returns-in-Ok-tidy-clause-found : goal.returns-in-Ok-tidy-clause-found
returns-in-Ok-tidy-clause-found g c = is_found g.D.Disk.files g.D.Disk.moment g.D.Disk.images g.D.Disk.tells g.D.Disk.content g.met.D.Disk.as_read g.met.D.Disk.reads g.met.D.Disk.told c.args.disk.now c.open_books.new.disk c.in-Ok.books c.in-Ok.ensures.books c.in-Ok.ensures.found c.in-Ok.ensures.same c.look_through.new.disk c.look_through.ensures.untouched c.tidy.new.disk c.tidy.ensures.stop c.tidy.ensures.read c.in-Ok-look_through.given.items c.in-Ok-tidy.field-0.takes c.in-Ok-look_through.ensures.receipts c.in-Ok-look_through.ensures.given c.in-Ok-look_through.ensures.tended c.in-Ok-tidy.ensures.tended c.in-Ok-tidy.ensures.none c.in-Ok-tidy.ensures.cut c.in-Ok-tidy.ensures.takes

pub returns-in-Err-look_through-clause-refused : goal.returns-in-Err-look_through-clause-refused
returns-in-Err-look_through-clause-refused g c = look_refused g.D.Disk.files g.D.Disk.moment g.D.Disk.images g.D.Disk.tells g.D.Disk.content g.met.D.Disk.as_read g.met.D.Disk.reads g.met.D.Disk.told c.args.disk.now c.open_books.new.disk c.in-Ok.books c.in-Ok.ensures.books c.in-Ok.ensures.found c.in-Ok.ensures.same c.look_through.new.disk c.look_through.ensures.untouched c.in-Err-look_through.fault c.in-Err-look_through.ensures.bad

pub returns-in-Err-look_through-clause-stop : goal.returns-in-Err-look_through-clause-stop
returns-in-Err-look_through-clause-stop g c = look_stop g.D.Disk.files g.D.Disk.moment g.D.Disk.images g.D.Disk.tells g.D.Disk.content g.met.D.Disk.as_read g.met.D.Disk.reads g.met.D.Disk.told c.args.disk.now c.open_books.new.disk c.in-Ok.books c.in-Ok.ensures.books c.in-Ok.ensures.found c.in-Ok.ensures.same c.look_through.new.disk c.look_through.ensures.untouched c.open_books.ensures.stop

pub returns-in-Ok-tidy-clause-stop : goal.returns-in-Ok-tidy-clause-stop
returns-in-Ok-tidy-clause-stop g c = tidy_stop g.D.Disk.files g.D.Disk.moment g.D.Disk.images g.D.Disk.tells g.D.Disk.content g.met.D.Disk.as_read g.met.D.Disk.reads g.met.D.Disk.told c.args.disk.now c.open_books.new.disk c.in-Ok.books c.in-Ok.ensures.books c.in-Ok.ensures.found c.in-Ok.ensures.same c.look_through.new.disk c.look_through.ensures.untouched c.tidy.new.disk c.tidy.ensures.stop c.tidy.ensures.read c.open_books.ensures.stop

pub returns-in-Ok-tidy-clause-read : goal.returns-in-Ok-tidy-clause-read
returns-in-Ok-tidy-clause-read g c = tidy_read g.D.Disk.files g.D.Disk.moment g.D.Disk.images g.D.Disk.tells g.D.Disk.content g.met.D.Disk.as_read g.met.D.Disk.reads g.met.D.Disk.told c.args.disk.now c.open_books.new.disk c.in-Ok.books c.in-Ok.ensures.books c.in-Ok.ensures.found c.in-Ok.ensures.same c.look_through.new.disk c.look_through.ensures.untouched c.tidy.new.disk c.tidy.ensures.stop c.tidy.ensures.read c.open_books.ensures.read

pub returns-in-Err-tidy-clause-stop : goal.returns-in-Err-tidy-clause-stop
returns-in-Err-tidy-clause-stop g c = tidy_stop g.D.Disk.files g.D.Disk.moment g.D.Disk.images g.D.Disk.tells g.D.Disk.content g.met.D.Disk.as_read g.met.D.Disk.reads g.met.D.Disk.told c.args.disk.now c.open_books.new.disk c.in-Ok.books c.in-Ok.ensures.books c.in-Ok.ensures.found c.in-Ok.ensures.same c.look_through.new.disk c.look_through.ensures.untouched c.tidy.new.disk c.tidy.ensures.stop c.tidy.ensures.read c.open_books.ensures.stop

pub returns-in-Err-tidy-clause-read : goal.returns-in-Err-tidy-clause-read
returns-in-Err-tidy-clause-read g c = tidy_read g.D.Disk.files g.D.Disk.moment g.D.Disk.images g.D.Disk.tells g.D.Disk.content g.met.D.Disk.as_read g.met.D.Disk.reads g.met.D.Disk.told c.args.disk.now c.open_books.new.disk c.in-Ok.books c.in-Ok.ensures.books c.in-Ok.ensures.found c.in-Ok.ensures.same c.look_through.new.disk c.look_through.ensures.untouched c.tidy.new.disk c.tidy.ensures.stop c.tidy.ensures.read c.open_books.ensures.read
