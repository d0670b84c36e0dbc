use Rattle.std.proofs.Common.{◌∙◌, Option, ap, arith, drop, false, length, min, refl, subst, take, ◌≡◌, ◌-◌}
use Rattle.node_model.specs.StoreStates.{IfTold, Stored, StoreState, StoreStand}
use Rattle.node_store.specs.Stored.{Holding, stand_of}
use Rattle.node_store.specs.Worlds.{bytes_of}
use Rattle.outbound_store.proofs.AskKept.{asks_failed, asks_none, asks_then, asks_unfit}
use Rattle.outbound_store.proofs.Pieces.{told_all, told_more, told_none}
use Rattle.outbound_store.proofs.reading.read_whole.Goals as goal

pub now_is_told-requires : goal.now_is_told-requires
now_is_told-requires g c = c.requires.whole

pub pieces-init : goal.pieces-init
pieces-init g c =
    let St : Holding g.row.D.Denot → StoreStand = λ s. stand_of g.D.Disk.tells g.D.Disk.content g.D.Disk.fault_count g.D.Disk.moment g.D.Disk.images s in
    let a = c.args.store.now in
    record {
      asks = asks_none tt (St a) c.now_is_told.ensures;
      takes = refl;
      whole = c.requires.whole;
      front = told_none (St a).state.content (λ (s : Stored). bytes_of (s.takes c.args.own.now)) c.new-bytes.result.list c.new-bytes.ensures;
    }

pub read_take-requires-clause-whole : goal.read_take-requires-clause-whole
read_take-requires-clause-whole g c = c.pieces.invariant.whole

pub read_take-requires-clause-take : goal.read_take-requires-clause-take
read_take-requires-clause-take g c = c.requires.take

pub returns-in-Err-clause-asks : goal.returns-in-Err-clause-asks
returns-in-Err-clause-asks g c =
    let St : Holding g.row.D.Denot → StoreStand = λ s. stand_of g.D.Disk.tells g.D.Disk.content g.D.Disk.fault_count g.D.Disk.moment g.D.Disk.images s in
    let a = c.args.store.now in
    let l = c.pieces.store in
    let b = c.read_take.new.self in
    asks_failed tt c.in-Err.fault false (St a) (St l) (St b) c.pieces.invariant.asks c.in-Err.ensures.asks

pub returns-in-Err-clause-takes : goal.returns-in-Err-clause-takes
returns-in-Err-clause-takes g c = c.in-Err.ensures.takes ∙ c.pieces.invariant.takes

pub returns-in-Err-push_slice-clause-asks : goal.returns-in-Err-push_slice-clause-asks
returns-in-Err-push_slice-clause-asks g c =
    let St : Holding g.row.D.Denot → StoreStand = λ s. stand_of g.D.Disk.tells g.D.Disk.content g.D.Disk.fault_count g.D.Disk.moment g.D.Disk.images s in
    let a = c.args.store.now in
    let l = c.pieces.store in
    let b = c.read_take.new.self in
    asks_unfit tt (St a) (St b) (asks_then {V = Unit {0}} tt c.in-Ok.count tt false (St a) (St l) (St b) c.pieces.invariant.asks c.in-Ok.ensures.asks)

pub returns-in-Err-push_slice-clause-takes : goal.returns-in-Err-push_slice-clause-takes
returns-in-Err-push_slice-clause-takes g c = c.in-Ok.ensures.takes ∙ c.pieces.invariant.takes

pub returns-then-count-lt-PIECE-clause-asks : goal.returns-then-count-lt-PIECE-clause-asks
returns-then-count-lt-PIECE-clause-asks g c =
    let St : Holding g.row.D.Denot → StoreStand = λ s. stand_of g.D.Disk.tells g.D.Disk.content g.D.Disk.fault_count g.D.Disk.moment g.D.Disk.images s in
    let a = c.args.store.now in
    let l = c.pieces.store in
    let b = c.read_take.new.self in
    asks_then tt c.in-Ok.count c.push_slice.new.self false (St a) (St l) (St b) c.pieces.invariant.asks c.in-Ok.ensures.asks

pub returns-then-count-lt-PIECE-clause-told : goal.returns-then-count-lt-PIECE-clause-told
returns-then-count-lt-PIECE-clause-told g c =
    let St : Holding g.row.D.Denot → StoreStand = λ s. stand_of g.D.Disk.tells g.D.Disk.content g.D.Disk.fault_count g.D.Disk.moment g.D.Disk.images s in
    let a = c.args.store.now in
    let l = c.pieces.store in
    let b = c.read_take.new.self in
    let same = ap (λ (s : StoreState). s.content) c.pieces.invariant.asks.made in
    told_all (St a).state.content (λ (s : Stored). bytes_of (s.takes c.args.own.now)) c.pieces.bytes.list (take c.in-Ok.count c.read_take.new.out) c.push_slice.new.self.list c.len.result (length c.pieces.piece) c.in-Ok.count c.len.ensures c.in_default.ensures.ok (let lt = c.if-count-lt-PIECE.true in let long = c.len.array_long in omega (arith, lt, long)) c.pieces.invariant.front
    (subst (λ (o : Option Stored). IfTold o (λ s. take c.in-Ok.count c.read_take.new.out ≡ take (length c.pieces.piece) (drop c.len.result (bytes_of (s.takes c.args.own.now))))) same c.in-Ok.ensures.told)
    (subst (λ (o : Option Stored). IfTold o (λ s. c.in-Ok.count ≡ min (length c.pieces.piece) (length (bytes_of (s.takes c.args.own.now)) - c.len.result))) same c.in-Ok.ensures.length)

pub returns-then-count-lt-PIECE-clause-takes : goal.returns-then-count-lt-PIECE-clause-takes
returns-then-count-lt-PIECE-clause-takes g c = c.in-Ok.ensures.takes ∙ c.pieces.invariant.takes

pub pieces-preserved : goal.pieces-preserved
pieces-preserved g c =
    let St : Holding g.row.D.Denot → StoreStand = λ s. stand_of g.D.Disk.tells g.D.Disk.content g.D.Disk.fault_count g.D.Disk.moment g.D.Disk.images s in
    let a = c.args.store.now in
    let l = c.pieces.store in
    let b = c.read_take.new.self in
    let same = ap (λ (s : StoreState). s.content) c.pieces.invariant.asks.made in
    record {
      asks = asks_then tt c.in-Ok.count tt false (St a) (St l) (St b) c.pieces.invariant.asks c.in-Ok.ensures.asks;
      takes = c.in-Ok.ensures.takes ∙ c.pieces.invariant.takes;
      whole = ap (λ (s : StoreState). s.counts.broken) c.in-Ok.ensures.asks.made ∙ c.pieces.invariant.whole;
      front = told_more (St a).state.content (λ (s : Stored). bytes_of (s.takes c.args.own.now)) c.pieces.bytes.list (take c.in-Ok.count c.read_take.new.out) c.push_slice.new.self.list c.len.result (length c.pieces.piece) c.len.ensures c.in_default.ensures.ok c.pieces.invariant.front
          (subst (λ (o : Option Stored). IfTold o (λ s. take c.in-Ok.count c.read_take.new.out ≡ take (length c.pieces.piece) (drop c.len.result (bytes_of (s.takes c.args.own.now))))) same c.in-Ok.ensures.told);
    }
