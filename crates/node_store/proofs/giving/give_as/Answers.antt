use Rattle.std.proofs.Common.{inl, inr, ℕ, Ok, Err, refl, ap, subst}
use Rattle.ftn_addr.specs.declared.refusals.Failed.{Failed}
use Rattle.disk_model.specs.Answers.{GivesTo, GivingOf}
use Rattle.disk_model.specs.Changes.{Every}
use Rattle.disk_model.specs.Folders.{path_in}
use Rattle.disk_model.specs.Moments.{Together}
use Rattle.disk_model.specs.declared.answers.Giving.{Giving}
use Rattle.disk_model.specs.declared.answers.Giving.TheVariants.{Given}
use Rattle.disk_model.proofs.MomentLemmas.{started}
use Rattle.disk_model.specs.Changes.{Same}
use Rattle.node_store.proofs.GiveAs.{given_once, after_same, read_back, both_taken}
use Rattle.node_store.proofs.giving.give_as.Goals as goal

pub returns-in-Ok-Given-clause-gives : goal.returns-in-Ok-Given-clause-gives
returns-in-Ok-Given-clause-gives g c =
    let old = c.args.disk.now in
    let new = c.give.new.self in
    let own = c.args.own.now in
    let folder = c.args.folder.now.list in
    let first = c.args.first.now.list in
    let both = subst (λ (x : Giving). (time : ℕ) × Together {T = Giving} {E = Failed} g.D.Disk.files g.D.Disk.moment g.D.Disk.images (Ok x) (GivesTo own folder first time) old new) c.in-Ok-Given.field-0-is c.in-Ok-Given.ensures.both in
    given_once g.D.Disk.tells g.D.Disk.content g.D.Disk.files g.D.Disk.moment g.D.Disk.images g.met.D.Disk.reads g.met.D.Disk.told old old new own folder first both.0 (λ w read. read) first c.args.second.now.list (Ok Given) both.1
    (started g.D.Disk.moment g.D.Disk.images Same old (λ w now. refl)) c.in-Ok-Given.ensures.in_use (λ w read free. inl (refl, free)) (λ clash. absurd (cc clash))

pub returns-in-Ok-Taken-clause-gives : goal.returns-in-Ok-Taken-clause-gives
returns-in-Ok-Taken-clause-gives g c =
    let old = c.args.disk.now in
    let mid = c.give.new.self in
    let new = c.give-in-Ok-Taken.new.self in
    let own = c.args.own.now in
    let folder = c.args.folder.now.list in
    let first = c.args.first.now.list in
    let second = c.args.second.now.list in
    let both = c.in-Ok-Taken.ensures.both in
    let stayed = after_same g.D.Disk.files g.D.Disk.moment g.D.Disk.images (Ok c.in-Ok-Taken.field-0) (GivesTo own folder first both.0) old mid both.1 (ap Ok c.in-Ok-Taken.field-0-is) (λ d e same. same) in
    let used = subst (λ (x : Giving). Every (g.D.Disk.files old) (GivingOf x (path_in folder first))) c.in-Ok-Taken.field-0-is c.in-Ok-Taken.ensures.told in
    let back = read_back g.D.Disk.tells g.D.Disk.content g.D.Disk.files g.met.D.Disk.reads g.met.D.Disk.told old mid stayed.0 in
    let second_both = c.give-in-Ok-Taken.ensures.both in
    given_once g.D.Disk.tells g.D.Disk.content g.D.Disk.files g.D.Disk.moment g.D.Disk.images g.met.D.Disk.reads g.met.D.Disk.told old mid new own folder second second_both.0 stayed.0 first second c.give-in-Ok-Taken.result second_both.1
    stayed.1 c.give-in-Ok-Taken.ensures.in_use (λ w read free. inr (refl, used w read, free))
    (both_taken (g.D.Disk.files old) (g.D.Disk.files mid) folder first second c.give-in-Ok-Taken.result c.give-in-Ok-Taken.ensures.told back used)

pub returns-in-Err-clause-gives : goal.returns-in-Err-clause-gives
returns-in-Err-clause-gives g c =
    let old = c.args.disk.now in
    let new = c.give.new.self in
    let both = c.in-Err.ensures.both in
    given_once g.D.Disk.tells g.D.Disk.content g.D.Disk.files g.D.Disk.moment g.D.Disk.images g.met.D.Disk.reads g.met.D.Disk.told old old new c.args.own.now c.args.folder.now.list c.args.first.now.list both.0 (λ w read. read) c.args.first.now.list c.args.second.now.list (Err c.in-Err.field-0) both.1
    (started g.D.Disk.moment g.D.Disk.images Same old (λ w now. refl)) c.in-Err.ensures.in_use (λ w read free. inl (refl, free)) tt
