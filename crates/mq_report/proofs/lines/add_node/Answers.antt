use Rattle.std.proofs.Common.{◌≡◌, ◌++◌, List, ℕ, append_assoc}
use Rattle.mq_outside.proofs.lemmas.Gathers.{adds_both, adds_front}
use Rattle.mq_report.proofs.lines.add_node.Goals as goal

-- the parts of the line, one after another
parts : (words counts losses waits tail tallies end : List ℕ) → words ++ ((counts ++ (losses ++ (waits ++ (tail ++ tallies)))) ++ end) ≡ (words ++ counts) ++ (losses ++ (waits ++ (tail ++ (tallies ++ end))))
parts words counts losses waits tail tallies end = simp append_assoc

pub returns-in_err-add_name_and_counts : goal.returns-in_err-add_name_and_counts
returns-in_err-add_name_and_counts g c = rw (parts _ _ _ _ _ _ _) (adds_front _ c.from_residual.ensures.0 _ c.in_err-add_name_and_counts.ensures)

pub returns-in_err-add_losses : goal.returns-in_err-add_losses
returns-in_err-add_losses g c = rw (parts _ _ _ _ _ _ _) (adds_both c.in_ok-add_name_and_counts.ensures (adds_front _ c.from_residual-in_err-add_losses.ensures.0 _ c.in_err-add_losses.ensures))

pub returns-in_err-add_waits : goal.returns-in_err-add_waits
returns-in_err-add_waits g c =
    rw (parts _ _ _ _ _ _ _) (adds_both c.in_ok-add_name_and_counts.ensures (adds_both c.in_ok-add_losses.ensures (adds_front _ c.from_residual-in_err-add_waits.ensures.0 _ c.in_err-add_waits.ensures)))

pub returns-in_err-add_tail : goal.returns-in_err-add_tail
returns-in_err-add_tail g c =
    rw (parts _ _ _ _ _ _ _)
    (adds_both c.in_ok-add_name_and_counts.ensures (adds_both c.in_ok-add_losses.ensures (adds_both c.in_ok-add_waits.ensures (adds_front _ c.from_residual-in_err-add_tail.ensures.0 _ c.in_err-add_tail.ensures))))

pub returns-in_err-add_tallies : goal.returns-in_err-add_tallies
returns-in_err-add_tallies g c =
    rw (parts _ _ _ _ _ _ _)
    (adds_both c.in_ok-add_name_and_counts.ensures
    (adds_both c.in_ok-add_losses.ensures (adds_both c.in_ok-add_waits.ensures (adds_both c.in_ok-add_tail.ensures (adds_front _ c.from_residual-in_err-add_tallies.ensures.0 _ c.in_err-add_tallies.ensures)))))

pub returns : goal.returns
returns g c =
    rw (parts _ _ _ _ _ _ _)
    (adds_both c.in_ok-add_name_and_counts.ensures
    (adds_both c.in_ok-add_losses.ensures (adds_both c.in_ok-add_waits.ensures (adds_both c.in_ok-add_tail.ensures (adds_both c.in_ok-add_tallies.ensures (rw c.servers_of.ensures at c.add_utilisation.ensures))))))
