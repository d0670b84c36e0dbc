-- A node that begins to serve.
use Rattle.std.proofs.Common.{◌≡◌, ℕ, Bool, false, List, [], subst}
use Rattle.disk_model.specs.World.{World}
use Rattle.binkp_link.specs.Lines.{SinkState}
use Rattle.binkp_link.specs.LineSources.{LinesState}
use Rattle.call_sched.specs.declared.words.Try.{Try}
use Rattle.mail_conf.specs.Conf.{ConfText}
use Rattle.binkp_serve.specs.Rests.{Rest}
use Rattle.binkp_serve.specs.Serving.{Looks, Server, at_start}

module _ {D : Type 0} (tells : Bool) (content : D → World) (faults : D → ℕ) (moment : D → ℕ) (images : D → ℕ → World → Type 0) (conf : ConfText) where
  -- one that remembers so
  abbrev With : Rest D → LinesState → SinkState → List Try → List ℕ → Server D
  With rest lines out tries said = record { rest = rest; lines = lines; out = out; memory = record { tries = tries; looked = 0; said = said; lines = 0; short = false } }

  pub looks_first : (now : ℕ) (rest : Rest D) (lines : LinesState) (out : SinkState) (tries : List Try) (said : List ℕ) (first : Server D) → tries ≡ [] → said ≡ []
      → Looks tells content faults moment images conf now (record { rest = rest; lines = lines; out = out; memory = record { tries = tries; looked = 0; said = said; lines = 0; short = false } }) first → Looks tells content faults moment images conf now (at_start rest lines out) first
  looks_first now rest lines out tries said first no_tries nothing looks =
      subst (λ (t : List Try). Looks tells content faults moment images conf now (With rest lines out t []) first) no_tries
      (subst (λ (s : List ℕ). Looks tells content faults moment images conf now (With rest lines out tries s) first) nothing looks)
