use Rattle.test_kept.proofs.tests.kept.edited.Given as goal

abbrev pub ghosts-edit_with : goal.ghosts-edit_with
ghosts-edit_with g a = record { name = a.blank.name; parts = a.blank.parts }
