use Rattle.test_threads.proofs.closing.serve_new.Given as goal

-- the gate that was made
abbrev pub ghosts-serve : goal.ghosts-serve
ghosts-serve g a = record { table = a.made.0.table.shared.table_id }
