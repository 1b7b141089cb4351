use Rattle.test_stations.proofs.tests.trunk.counts_of.Given as goal

abbrev pub ghosts-counts_with : goal.ghosts-counts_with
ghosts-counts_with a = record { name = a.blank.name; parts = a.blank.parts }
