-- How many files and lines of a take-in became what (own).
use Rattle.std.specs.Prelude.{ℕ, ◌+◌, ◌-◌, ◌^◌, ◌||◌, min, nat_lt, Bool, true, false, List, count_by, length}
use Rattle.std.specs.List.{flat_map}
use Rattle.outbound_lines.specs.declared.taking.TookCounts.{TookCounts}
use Rattle.outbound_model.specs.declared.fate.Fate.{Fate}
use Rattle.outbound_model.specs.declared.fate.Fate.TheVariants as F
use Rattle.outbound_take.specs.declared.words.Taken.{Taken}
use Rattle.outbound_take.specs.declared.words.TookFile.{TookFile}

abbrev pub is_queued : Fate → Bool
is_queued (F.Queued number) = true
is_queued fate = false

abbrev pub is_again : Fate → Bool
is_again (F.Again number) = true
is_again fate = false

abbrev pub is_missing : Fate → Bool
is_missing F.Missing = true
is_missing fate = false

abbrev pub is_over : Fate → Bool
is_over F.Over = true
is_over fate = false

abbrev pub is_passed : Fate → Bool
is_passed F.Passed = true
is_passed fate = false

-- a count is at most 4,294,967,295
abbrev pub counted : ℕ → ℕ
counted n = min n (2 ^ 32 - 1)

abbrev pub fates_of : TookFile → List Fate
fates_of f = f.fates.items

-- what became of all that was taken in; the takes that wait, since they are over, are counted as over too
abbrev pub all_fates : Taken → List Fate
all_fates taken = flat_map fates_of taken.files.items

abbrev pub counts_of : Taken → TookCounts
counts_of taken = record {
  queued = counted (count_by is_queued (all_fates taken));
  again = counted (count_by is_again (all_fates taken));
  missing = counted (count_by is_missing (all_fates taken));
  over = counted (count_by is_over (all_fates taken) + length taken.over.items);
  passed = counted (count_by is_passed (all_fates taken));
}

-- these counts, with so many fates more
abbrev pub counts_with : List Fate → TookCounts → TookCounts
counts_with fates c = record {
  queued = counted (c.queued + count_by is_queued fates);
  again = counted (c.again + count_by is_again fates);
  missing = counted (c.missing + count_by is_missing fates);
  over = counted (c.over + count_by is_over fates);
  passed = counted (c.passed + count_by is_passed fates);
}

-- something was passed over: a source that is missing, or a file that is too long
abbrev pub has_passed : TookCounts → Bool
has_passed c = nat_lt 0 c.missing || nat_lt 0 c.over
