-- A read and a write of the line.
use Rattle.std.proofs.Common.{◌≡◌, ◌∙◌, ◌+◌, ◌<◌, ◌≤◌, ◌&&◌, ℕ, Bool, List, [], ◌∷◌, ◌++◌, length, Option, Some, None, refl, sym, ap, subst, append_assoc, length-append}
use Rattle.std.specs.Prelude.{◌==◌}
use Rattle.std.proofs.lemmas.List.{append-nil}
use Rattle.binkp_frame.specs.Stream.{Splits}
use Rattle.node_model.specs.Calls.{DeskState}
use Rattle.session_core.specs.declared.ending.End.{End as EndCode}
use Rattle.session_run.specs.declared.run.Run.{Run}
use Rattle.session_core.specs.declared.session.Session.{Session}
use Rattle.binkp_link.specs.Lines.{LineState, IsRead, IsWrite, came, went}
use Rattle.binkp_link.specs.declared.link.ReadAnswer.{ReadAnswer}
use Rattle.binkp_link.specs.declared.link.WriteAnswer.{WriteAnswer}
use Rattle.session_core.specs.Stages.{Setting}
use Rattle.session_core.specs.Replies.{stage_in}
use Rattle.session_run.proofs.Runs.{stood_is, stood_same, tells_as}
use Rattle.session_run.proofs.Streams.{stream_same}
use Rattle.session_run.specs.Machine.{World, Taking, Writing, Reading, here, next, Writes, writes, PassesWrite, passes_write, Reads, reads, PassesRead, passes_read, after_write, after_read}
use Rattle.session_run.specs.declared.unsent.TheConstants.{MOST_TO_READ}
use Rattle.session_run.specs.Runs.{spot, Stream, Follows, Goes, Wrote, Came, over_or}

follows_reading : (result : Option EndCode) (waits : Bool) (run : Run) (v : World) → Stream run [] v → Follows (over_or result (Reading waits)) run [] v
follows_reading None waits run v st = st
follows_reading (Some end) waits run v st = tt

follows_taking : (result : Option EndCode) (run : Run) (v : World) → Stream run [] v → Follows (over_or result Taking) run [] v
follows_taking None run v st = st
follows_taking (Some end) run v st = tt

-- nothing is left to write
pub passes_it : (alone : Bool) (s : Setting) (run : Run) (line : LineState) (desk : DeskState) (waits : Bool) → run.out ≡ [] → Goes alone s (spot run line desk [] (Writing waits)) (spot run line desk [] (Reading waits))
passes_it alone s run line desk waits empty = record {
  goes = λ w at.
      let v : World = record w { phase = Reading waits } in
      let step : PassesWrite w v = record { waits = waits; phase = at.phase_is; unsent = at.unsent ∙ ap (λ (x : List ℕ). w.sent ++ x) empty ∙ append-nil w.sent; is = refl } in
      (v, next here (passes_write step), record { setting_is = at.setting_is; line_is = at.line_is; desk_is = at.desk_is; phase_is = refl; unsent = at.unsent; taken = at.taken; wrote = at.wrote; stood = at.stood; tells = at.tells; follows = stream_same run run [] w v refl refl refl refl refl refl at.follows }, sym (append-nil w.events));
}

pub wrote_it : (alone : Bool) (s : Setting) (run run' : Run) (l l' : LineState) (desk : DeskState) (waits : Bool) (answer : WriteAnswer) (result : Option EndCode) → 0 < length run.out → IsWrite l answer run.out l' → Wrote run run' (went answer run.out) → over_or result (Reading waits) ≡ after_write answer s.limit (run.taken + run'.wrote) l'.calm (Reading waits) → Goes alone s (spot run l desk [] (Writing waits)) (spot run' l' desk [] (over_or result (Reading waits)))
wrote_it alone s run run' l l' desk waits answer result some is did to = record {
  goes = λ w at.
      let gone = went answer run.out in
      let now : length (w.sent ++ gone) ≡ run'.wrote = length-append w.sent gone ∙ ap (λ (n : ℕ). n + length gone) (at.wrote tt) ∙ sym did.wrote in
      let v : World = record w { line = l'; sent = w.sent ++ gone; phase = after_write answer w.setting.limit (length w.taken + length (w.sent ++ gone)) l'.calm (Reading waits) } in
      let step : Writes w v = record {
        waits = waits;
        phase = at.phase_is;
        left = run.out;
        unsent = at.unsent;
        some = some;
        answer = answer;
        line = l';
        step = subst (λ (x : LineState). IsWrite x answer run.out l') (sym at.line_is) is;
        is = refl;
      } in
      let ends : v.phase ≡ over_or result (Reading waits) =
      ap (λ (x : Setting). after_write answer x.limit (length w.taken + length (w.sent ++ gone)) l'.calm (Reading waits)) at.setting_is
      ∙ ap (λ (x : ℕ). after_write answer s.limit (x + length (w.sent ++ gone)) l'.calm (Reading waits)) at.taken
      ∙ ap (λ (x : ℕ). after_write answer s.limit (run.taken + x) l'.calm (Reading waits)) now ∙ sym to in (
        v,
        next here (writes step),
        record {
          setting_is = at.setting_is;
          line_is = refl;
          desk_is = at.desk_is;
          phase_is = ends;
          unsent = at.unsent ∙ ap (λ (x : List ℕ). w.sent ++ x) did.out ∙ sym (append_assoc w.sent gone run'.out);
          taken = at.taken ∙ sym did.taken;
          wrote = λ _. now;
          stood = stood_is _ _ now;
          tells = tells_as did.session at.tells;
          follows = follows_reading result waits run' v (stream_same run run' [] w v refl refl refl did.session did.decoder did.piece at.follows);
        },
        sym (append-nil w.events),
      );
}

-- too many bytes are left to write for a read
pub passes_read_it : (alone : Bool) (s : Setting) (run : Run) (line : LineState) (desk : DeskState) (waits : Bool) → MOST_TO_READ < length run.out → Goes alone s (spot run line desk [] (Reading waits)) (spot run line desk [] Taking)
passes_read_it alone s run line desk waits many = record {
  goes = λ w at.
      let v : World = record w { pieces = w.pieces ++ [] ∷ []; phase = Taking } in
      let step : PassesRead w v = record { waits = waits; phase = at.phase_is; left = run.out; unsent = at.unsent; many = many; is = refl } in
      (v, next here (passes_read step), record { setting_is = at.setting_is; line_is = at.line_is; desk_is = at.desk_is; phase_is = refl; unsent = at.unsent; taken = at.taken; wrote = at.wrote; stood = at.stood; tells = at.tells; follows = stream_same run run [] w v refl refl refl refl refl refl at.follows }, sym (append-nil w.events));
}

pub came_it : (alone : Bool) (s : Setting) (run run' : Run) (l l' : LineState) (desk : DeskState) (waits : Bool) (answer : ReadAnswer) (buffer : List ℕ) (result : Option EndCode) → length run.out ≤ MOST_TO_READ → length buffer ≡ 4096 → IsRead (waits && (length run.out == 0)) l answer buffer l' → Came run run' (came answer buffer) → over_or result Taking ≡ after_read answer s.limit (run'.taken + run.wrote) l'.calm → Goes alone s (spot run l desk [] (Reading waits)) (spot run' l' desk [] (over_or result Taking))
came_it alone s run run' l l' desk waits answer buffer result few room is did to = record {
  goes = λ w at.
      let piece = came answer buffer in
      let st : Stream run [] w = at.follows in
      let now : length (w.taken ++ piece) ≡ run'.taken = length-append w.taken piece ∙ ap (λ (n : ℕ). n + length piece) at.taken ∙ sym did.taken in
      let v : World = record w { line = l'; pieces = w.pieces ++ piece ∷ []; taken = w.taken ++ piece; phase = after_read answer w.setting.limit (length (w.taken ++ piece) + length w.sent) l'.calm } in
      let step : Reads w v = record {
        waits = waits;
        phase = at.phase_is;
        left = run.out;
        unsent = at.unsent;
        few = few;
        answer = answer;
        buffer = buffer;
        room = room;
        line = l';
        step = subst (λ (x : LineState). IsRead (waits && (length run.out == 0)) x answer buffer l') (sym at.line_is) is;
        is = refl;
      } in
      let ends : v.phase ≡ over_or result Taking =
      ap (λ (x : Setting). after_read answer x.limit (length (w.taken ++ piece) + length w.sent) l'.calm) at.setting_is
      ∙ ap (λ (x : ℕ). after_read answer s.limit (x + length w.sent) l'.calm) now
      ∙ ap (λ (x : ℕ). after_read answer s.limit (run'.taken + x) l'.calm) (at.wrote tt) ∙ sym to in
      let stream : Stream run' [] v = record {
        stage_is = st.stage_is ∙ ap stage_in (sym did.session);
        number_is = ap (λ (x : Session). x.frames) did.session ∙ st.number_is;
        fed = st.fed;
        whole = ap (λ (x : List ℕ). x ++ piece) st.whole ∙ append_assoc st.fed run.piece.list piece ∙ ap (λ (x : List ℕ). st.fed ++ x) (sym did.piece_is);
        splits = subst (λ (x : List ℕ). Splits st.fed (w.frames ++ []) x) (sym did.decoder) st.splits;
      } in (
        v,
        next here (reads step),
        record {
          setting_is = at.setting_is;
          line_is = refl;
          desk_is = at.desk_is;
          phase_is = ends;
          unsent = at.unsent ∙ ap (λ (x : List ℕ). w.sent ++ x) (sym did.out);
          taken = now;
          wrote = λ _. at.wrote tt ∙ sym did.wrote;
          stood = stood_same _ _ _ did.wrote at.stood;
          tells = tells_as did.session at.tells;
          follows = follows_taking result run' v stream;
        },
        sym (append-nil w.events),
      );
}
