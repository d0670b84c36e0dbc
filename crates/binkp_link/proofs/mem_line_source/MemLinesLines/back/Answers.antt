use Rattle.std.proofs.Common.{◌∙◌, ap, map, List, ℕ, Option, Some}
use Rattle.std.proofs.lemmas.List.{map-set}
use Rattle.std.proofs.Math.ListN.{set}
use Rattle.std.proofs.Math.Seq.{map-set_same}
use Rattle.binkp_link.specs.Lines.{LineState}
use Rattle.binkp_link.specs.LineSources.{LinesState}
use Rattle.binkp_link.specs.MemLineSources.{call_of, coming_at, handed_of}
use Rattle.binkp_link.specs.declared.mem_line_source.Place.{Place}
use Rattle.binkp_link.proofs.mem_line_source.MemLinesLines.back.Goals as goal

pub returns : goal.returns
returns c =
    let items = c.args.self.now.places.items in
    let place : Place = record { coming = c.index_mut-given.result.now.coming; handed = Some c.args.line } in
    let state : List (List ℕ) → List (Option LineState) → LinesState = λ coming handed. record { counts = c.args.self.now.counts; told = Some (record { coming = coming; handed = handed; ports = c.args.self.now.ports.items; dialled = map call_of c.args.self.now.calls.items }) } in
    ap (λ (x : List (List ℕ)). state x (map handed_of (set items c.args.place place))) (map-set_same coming_at items c.args.place place c.index_mut-given.result.now (ap coming_at c.index_mut-given.ensures.value))
    ∙ ap (λ (x : List (Option LineState)). state (map coming_at items) x) (map-set handed_of items c.args.place place)
