use Rattle.test_roaming.proofs.offers.two_offers.Given as goal

-- the gate that both passes are of
abbrev pub ghosts-offers_in_turn : goal.ghosts-offers_in_turn
ghosts-offers_in_turn g a = record { table = a.gate.now.table.shared.table_id }
