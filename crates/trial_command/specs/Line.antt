-- The line of a trial (own).
use Rattle.std.specs.Prelude.{ℕ, List, [], ◌∷◌, ◌++◌, codes}
use Rattle.std.specs.Fmt.{decimal}
use Rattle.node_trial.specs.declared.totals.Totals.{Totals}

-- `files F bytes B sessions S received R live L` and LF
abbrev pub totals_text : Totals → List ℕ
totals_text t =
    codes "files " ++ decimal t.files ++ codes " bytes " ++ decimal t.bytes ++ codes " sessions " ++ decimal t.sessions
    ++ codes " received " ++ decimal t.received ++ codes " live " ++ decimal t.live ++ 10 ∷ []
