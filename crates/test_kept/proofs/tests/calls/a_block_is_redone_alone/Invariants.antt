use Rattle.test_kept.proofs.tests.calls.a_block_is_redone_alone.Given as goal

abbrev pub ghosts-one_block_is_redone : goal.ghosts-one_block_is_redone
ghosts-one_block_is_redone g a = record { name = a.blank.name; parts = a.blank.parts }
