use Rattle.test_shared.proofs.offers.two_offers.Given as goal

-- the gate that both passes are of
abbrev pub ghosts-first_offer : goal.ghosts-first_offer
ghosts-first_offer g a = record { table = a.gate.now.table.shared.table_id }
