use Rattle.mq_edit.proofs.stages.edit_rows.Given as goal

-- the counter's ledger is the one that was opened for it
abbrev pub ghosts-edit_kept : goal.ghosts-edit_kept
ghosts-edit_kept g a = record { name = a.blank.name; parts = a.blank.parts }
