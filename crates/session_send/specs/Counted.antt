-- Desks that tell their counts alone, and no image of what a stop leaves: the least that a desk may tell.
use Rattle.std.specs.Prelude.{true, ℕ, Option, option_map}
use Rattle.ftn_addr.specs.Key.{key_of}
use Rattle.ftn_addr.specs.declared.addr.FileKey.{FileKey}
use Rattle.node_model.specs.Calls.{Counts_alone}
use Rattle.node_model.specs.Desks.{Claim}
use Rattle.node_model.specs.Images.{Stand}
use Rattle.node_model.specs.Talk.{Part}

-- the stand of such a desk, with its counts of faults and of Full, whether it is broken, and its count of refused reads
abbrev pub counted : ℕ → ℕ → Option ℕ → ℕ → Stand
counted faults fulls broken reads = record {
  state = record { seat = 0; knows = Counts_alone (record { store = record { faults = faults; fulls = fulls; broken = broken }; busy = 0; reads = reads }) };
  moment = 0;
  images = λ k d. ⊥;
}

-- an entry's number and key, as a claim
abbrev pub claimed : Option (ℕ × FileKey) → Option Claim
claimed entry = option_map (λ e. record { number = e.0; key = key_of e.1 }) entry

-- a file that comes, with how many bytes of it are left, as what is held
abbrev pub coming : Option (FileKey × ℕ) → Option Part
coming file = option_map (λ f. record { key = key_of f.0; left = f.1; taking = true }) file
