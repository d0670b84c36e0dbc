use Rattle.std.proofs.Common.{sym, refl, ◌∙◌}
use Rattle.std.proofs.lemmas.List.{append-nil}
use Rattle.binkp_link.proofs.Plays.{read_bytes, read_may}
use Rattle.binkp_link.proofs.mem_line.MemLineLine.read.Goals as goal

pub returns-clause-meets : goal.returns-clause-meets
returns-clause-meets c =
    let plays = c.play-answer.ensures.turn in
    record { may = read_may c.args.wait _ _ _ _ _ _ _ _ _ c.requires.some c.play-answer.auto.out c.play-answer.ensures.some refl plays; moves = (read_bytes c.args.wait _ _ _ _ _ plays, c.play-answer.ensures.taken, sym (append-nil _)); calm = c.note_read.ensures.calm; faults = c.note_read.ensures.faults; ends = c.note_read.ensures.ends; idle = c.note_read.ensures.idle; was_open = c.requires.open; is_open = c.note_read.ensures.closed ∙ c.requires.open }
