-- What the bytes of an index file answer.
use Rattle.std.proofs.Common.{◌≡◌, inl, inr, ℕ, ◌<◌, List, length, Option, Some, None, Result, Ok, Err, refl, ◌∙◌, ap, arith}
use Rattle.std.specs.Prelude.{◌⊎◌, option_map}
use Rattle.nodelist_comp.specs.Node.{ListedNode}
use Rattle.nodelist_find.specs.Nodes.{read_index}
use Rattle.nodelist_find.specs.declared.fault.IndexFault.{IndexFault}
use Rattle.nodelist_files.specs.IndexFile.{MayFail, found, index_at, nodes_or_bad, opened}
use Rattle.nodelist_files.specs.declared.fault.IndexFileFault.{IndexFileFault}
use Rattle.nodelist_files.specs.declared.fault.IndexFileFault.TheVariants.{Bad, NoMemory}
use Rattle.nodelist_files.proofs.Limits.{short_index}

-- a file that is longer than every index is none
pub too_long : (file : Option (List ℕ)) (len : ℕ) → Some len ≡ option_map length file → 17367052 < len → index_at file ≡ Err Bad
too_long None len is over = absurd (cc is)
too_long (Some bytes) len is over = by (read_index bytes) refl
  where
    by : (read : Result (List ListedNode) IndexFault) → read_index bytes ≡ read → index_at (Some bytes) ≡ Err Bad
    by (Ok nodes) r = let short = short_index bytes nodes r in let same : len ≡ length bytes = cc is in absurd (omega (arith, short, same, over))
    by (Err fault) r = ap (λ (read : Result (List ListedNode) IndexFault). found (nodes_or_bad read)) r

module _ (file : Option (List ℕ)) (bytes : List ℕ) (is : file ≡ Some bytes) where
  pub has_nodes : (nodes : List ListedNode) → opened bytes ≡ Ok nodes → index_at file ≡ Ok (Some nodes)
  has_nodes nodes read = ap index_at is ∙ ap found read

  pub has_fault : (fault : IndexFileFault) → (fault ≡ NoMemory) ⊎ (opened bytes ≡ Err fault) → MayFail fault ⊎ (index_at file ≡ Err fault)
  has_fault fault (inl memory) = inl (inr memory)
  has_fault fault (inr read) = inr (ap index_at is ∙ ap found read)
