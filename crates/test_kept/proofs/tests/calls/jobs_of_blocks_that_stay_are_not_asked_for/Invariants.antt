use Rattle.test_kept.proofs.tests.calls.jobs_of_blocks_that_stay_are_not_asked_for.Given as goal

abbrev pub ghosts-asked_behind : goal.ghosts-asked_behind
ghosts-asked_behind g a = record { name = a.blank.name; parts = a.blank.parts }
