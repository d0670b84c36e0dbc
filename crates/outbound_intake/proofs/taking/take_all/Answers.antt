use Rattle.std.proofs.Common.{List, sym, subst}
use Rattle.ftn_addr.specs.Address.{address}
use Rattle.outbound_take.specs.Stand.{told}
use Rattle.outbound_take.proofs.EndLemmas.{overs_same}
use Rattle.outbound_take.proofs.OurLemmas.{our_calm, our_files, our_last, our_on}
use Rattle.outbound_take.proofs.SpareLemmas.{files_spared}
use Rattle.outbound_take.proofs.RuledLemmas.{ruled_on}
use Rattle.outbound_intake.specs.declared.words.Found.{Found}
use Rattle.outbound_intake.proofs.AskLemmas.{asks_calm, asks_our, asks_told}
use Rattle.outbound_intake.proofs.TakeLemmas.{EachDone, all_done}
use Rattle.outbound_intake.proofs.taking.take_all.Goals as goal

pub take_rest-requires-clause-calm : goal.take_rest-requires-clause-calm
take_rest-requires-clause-calm g c = our_calm _ _ _ _ _ _ c.in-Ok.ensures.works tt

pub returns-in-Err-take_rest-clause-works : goal.returns-in-Err-take_rest-clause-works
returns-in-Err-take_rest-clause-works g c = (_, our_on _ _ _ _ _ _ _ _ _ c.in-Ok.ensures.works tt c.in-Err-take_rest.ensures.works.1)

pub found_files-requires-clause-calm : goal.found_files-requires-clause-calm
found_files-requires-clause-calm g c = our_calm _ _ _ _ _ _ c.in-Ok-take_rest.ensures.works tt

pub returns-in-Err-found_files-clause-works : goal.returns-in-Err-found_files-clause-works
returns-in-Err-found_files-clause-works g c = (_, our_last _ _ _ _ _ _ _ _ (our_on _ _ _ _ _ _ _ _ _ c.in-Ok.ensures.works tt c.in-Ok-take_rest.ensures.works) tt (asks_our _ _ _ _ _ c.in-Err-found_files.ensures.asks))

pub take_each-requires-clause-calm : goal.take_each-requires-clause-calm
take_each-requires-clause-calm g c = asks_calm _ _ _ c.in-Ok-found_files.ensures.asks tt

pub take_each-requires-clause-over : goal.take_each-requires-clause-over
take_each-requires-clause-over g c = overs_same _ _ _ _ (asks_told _ _ _ c.in-Ok-found_files.ensures.asks tt) c.in-Ok-take_rest.ensures.over

pub returns-in-Ok-take_each-clause-works : goal.returns-in-Ok-take_each-clause-works
returns-in-Ok-take_each-clause-works g c =
    our_files _ _ _ _ _ _ _ (sym c.in-Ok-take_each.ensures.works.1)
    (our_on _ _ _ _ _ _ _ _ _ (our_last _ _ _ _ _ _ _ _ (our_on _ _ _ _ _ _ _ _ _ c.in-Ok.ensures.works tt c.in-Ok-take_rest.ensures.works) tt (asks_our _ _ _ _ _ c.in-Ok-found_files.ensures.asks)) tt c.in-Ok-take_each.ensures.works.2)

pub returns-in-Ok-take_each-clause-done : goal.returns-in-Ok-take_each-clause-done
returns-in-Ok-take_each-clause-done g c =
    all_done c.args.outbound.now.base.now.list c.args.outbound.now.zone c.args.outbound.now.home.now.domain.list (address c.args.dest.now) c.in-Ok-found_files.found.items (g.S.Outgoing.stand c.take_rest.new.store) (g.S.Outgoing.stand c.found_files.new.store) (g.S.Outgoing.stand c.take_each.new.store)
    c.in-Ok-found_files.ensures.all (asks_told _ _ _ c.in-Ok-found_files.ensures.asks tt) c.in-Ok-take_each.ensures.works.2.silent (files_spared _ _ _ _ _ _ c.in-Ok-take_each.ensures.works.2 tt)
    (subst (λ (fs : List Found). EachDone fs (told (g.S.Outgoing.stand c.take_each.new.store))) c.as_slice.ensures.value c.in-Ok-take_each.ensures.done)

pub returns-in-Err-take_each-clause-works : goal.returns-in-Err-take_each-clause-works
returns-in-Err-take_each-clause-works g c =
    (_, our_on _ _ _ _ _ _ _ _ _ (our_last _ _ _ _ _ _ _ _ (our_on _ _ _ _ _ _ _ _ _ c.in-Ok.ensures.works tt c.in-Ok-take_rest.ensures.works) tt (asks_our _ _ _ _ _ c.in-Ok-found_files.ensures.asks)) tt c.in-Err-take_each.ensures.works.2.1)

pub returns-in-Err-take_rest-clause-ruled : goal.returns-in-Err-take_rest-clause-ruled
returns-in-Err-take_rest-clause-ruled g c = ruled_on _ _ _ _ c.in-Ok.ensures.ruled c.in-Err-take_rest.ensures.ruled

pub returns-in-Err-found_files-clause-ruled : goal.returns-in-Err-found_files-clause-ruled
returns-in-Err-found_files-clause-ruled g c = ruled_on _ _ _ _ (ruled_on _ _ _ _ c.in-Ok.ensures.ruled c.in-Ok-take_rest.ensures.ruled) c.in-Err-found_files.ensures.ruled

pub returns-in-Ok-take_each-clause-ruled : goal.returns-in-Ok-take_each-clause-ruled
returns-in-Ok-take_each-clause-ruled g c = ruled_on _ _ _ _ (ruled_on _ _ _ _ (ruled_on _ _ _ _ c.in-Ok.ensures.ruled c.in-Ok-take_rest.ensures.ruled) c.in-Ok-found_files.ensures.ruled) c.in-Ok-take_each.ensures.ruled

pub returns-in-Err-take_each-clause-ruled : goal.returns-in-Err-take_each-clause-ruled
returns-in-Err-take_each-clause-ruled g c = ruled_on _ _ _ _ (ruled_on _ _ _ _ (ruled_on _ _ _ _ c.in-Ok.ensures.ruled c.in-Ok-take_rest.ensures.ruled) c.in-Ok-found_files.ensures.ruled) c.in-Err-take_each.ensures.ruled
