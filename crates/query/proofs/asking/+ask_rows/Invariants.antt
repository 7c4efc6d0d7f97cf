use Rattle.query.proofs.asking.+ask_rows.Given as goal

abbrev pub decreases-ask_rows : goal.decreases-ask_rows
decreases-ask_rows l = l.left
