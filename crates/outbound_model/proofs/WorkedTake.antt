-- The worked take-in, step by step, by computing.
use Rattle.std.proofs.Common.{◌≡◌, ℕ, List, [], ◌∷◌, length, Option, Some, None, refl, inl, inr, arith}
use Rattle.std.specs.Prelude.{codes, if◌then◌else◌}
use Rattle.std.specs.Str.{bytes_eq}
use Rattle.ftn_addr.specs.declared.source_file.Action.TheVariants.{Delete, Cut}
use Rattle.bso_outbound.specs.declared.kind.Kind.TheVariants.{Flow}
use Rattle.bso_outbound.specs.Paths.{last_part}
use Rattle.node_model.specs.declared.words.Flavour.TheVariants.{Normal}
use Rattle.node_model.specs.Durable.{all_acted}
use Rattle.node_model.specs.Items.{Entry}
use Rattle.node_model.specs.Outside.{OutFile, put_at}
use Rattle.node_model.specs.Stocks.{entry_with}
use Rattle.outbound_model.specs.declared.fate.Fate.TheVariants as F
use Rattle.outbound_model.specs.Outbound.{Outbound}
use Rattle.outbound_model.specs.OwnNames.{number_of, kind_of, IsFor}
use Rattle.outbound_model.specs.Fates.{CanQueue, Lines, lines_of, sent_entry}
use Rattle.outbound_model.specs.Steps.{Moves, Queues, Drops, Hits, Acts}
use Rattle.outbound_model.specs.Lives.{Reaches}
use Rattle.outbound_model.specs.WorkedTake.{peer, flow_path, flow_text, own_name, worked_outside, worked_beginning, worked_take, EndsWorked}
use Rattle.outbound_model.proofs.Putting.{puts}

abbrev zip : List ℕ
zip = codes "/a/x.zip"

abbrev bundle : List ℕ
bundle = codes "/a/b.mo0"

abbrev zip_file : OutFile
zip_file = record { bytes = 1 ∷ 2 ∷ 3 ∷ []; time = 5 }

abbrev bundle_file : OutFile
bundle_file = record { bytes = 4 ∷ []; time = 6 }

abbrev first : Entry
first = entry_with (sent_entry peer Normal Delete zip zip_file 1) zip_file.bytes

abbrev second : Entry
second = entry_with (sent_entry peer Normal Cut bundle bundle_file 2) bundle_file.bytes

abbrev nothing_waits : List ℕ → Option (List ℕ)
nothing_waits = λ own. None

abbrev moved : Outbound
moved =
    record worked_beginning { takes = λ name. if bytes_eq name own_name then Some flow_text else nothing_waits name; outside = put_at flow_path None worked_outside }

abbrev queued : Outbound
queued = record moved { queue = first ∷ second ∷ []; recorded = number_of own_name ∷ [] }

abbrev deleted : Outbound
deleted = record queued { outside = put_at zip None queued.outside }

abbrev once : Outbound
once = record deleted { queue = all_acted 1 queued.queue }

abbrev emptied : Outbound
emptied = record once { outside = put_at bundle (Some (record { bytes = []; time = 11 })) once.outside }

abbrev twice : Outbound
twice = record emptied { queue = all_acted 2 once.queue }

abbrev pub taken : Outbound
taken = record twice { takes = λ name. if bytes_eq name own_name then None else moved.takes name }

moves : Moves flow_path own_name flow_text worked_beginning moved
moves =
    record { file = record { bytes = flow_text; time = 9 }; was = refl; bytes_are = refl; unrecorded = refl; apart = λ name is. refl; gone = puts flow_path None worked_outside; here = puts own_name (Some flow_text) nothing_waits; queue = refl; recorded = refl }

can_zip : CanQueue zip
unfolding lib.Utf8.encode
can_zip =
    let e : length (last_part zip) ≡ 5 = refl in let f : length zip ≡ 8 = refl in record { some = omega (arith, e); short = omega (arith, e); within = omega (arith, f); text = (zip, (refl, refl)) }

can_bundle : CanQueue bundle
unfolding lib.Utf8.encode
can_bundle =
    let e : length (last_part bundle) ≡ 5 = refl in let f : length bundle ≡ 8 = refl in record { some = omega (arith, e); short = omega (arith, e); within = omega (arith, f); text = (bundle, (refl, refl)) }

lines : Lines peer Normal moved.outside [] (lines_of flow_text) (F.Queued 1 ∷ F.Passed ∷ F.Queued 2 ∷ F.Missing ∷ []) queued.queue
lines = (
  first ∷ [],
  (can_zip, zip_file, refl, refl, refl),
  (
    first ∷ [],
    (refl, refl),
    (
      first ∷ second ∷ [],
      (can_bundle, bundle_file, refl, refl, refl),
      (first ∷ second ∷ [], (inr refl, refl), refl),
    ),
  ),
)

queues : Queues own_name flow_text peer 10 (F.Queued 1 ∷ F.Passed ∷ F.Queued 2 ∷ F.Missing ∷ []) moved queued
unfolding kind_of IsFor
queues =
    record { kind = Flow Normal; named = refl; addressed = (refl, refl, refl, refl); stands = refl; first = refl; brings = lines; recorded = refl; takes = refl; outside = refl }

hits_zip : Hits 1 queued deleted
hits_zip =
    record { entry = first; queued = inl refl; is = refl; undone = refl; was = refl; acts = puts zip None queued.outside; queue = refl; recorded = refl; takes = refl }

hits_bundle : Hits 2 once emptied
hits_bundle =
    record { entry = second; queued = inr (inl refl); is = refl; undone = refl; was = refl; acts = (11, puts bundle (Some (record { bytes = []; time = 11 })) once.outside); queue = refl; recorded = refl; takes = refl }

acts : (number : ℕ) (s : Outbound) → Acts number s (record s { queue = all_acted number s.queue })
acts number s = record { queue = refl; recorded = refl; takes = refl; outside = refl }

drops : Drops own_name twice taken
unfolding number_of
drops = record { was = refl; gone = puts own_name None moved.takes; queue = refl; recorded = refl; outside = refl }

pub worked : Reaches worked_beginning worked_take taken
worked =
    (twice, (emptied, (once, (deleted, (queued, (moved, (worked_beginning, refl, moves), queues), hits_zip), acts 1 deleted), hits_bundle), acts 2 emptied), drops)

pub worked_ends : EndsWorked taken
worked_ends = record { queue = refl; deleted = refl; cut = refl; moved = refl; dropped = refl }
