use Rattle.mq_kinds.proofs.trunk.trunk_whole.Given as goal

-- the counter's ledger is the one that was opened for it
abbrev pub ghosts-settled : goal.ghosts-settled
ghosts-settled a = record { name = a.blank.name; parts = a.blank.parts }
