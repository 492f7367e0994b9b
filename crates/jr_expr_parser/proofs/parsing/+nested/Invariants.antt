use Rattle.jr_expr_parser.proofs.parsing.+nested.Given as goal

abbrev pub decreases-nested : goal.decreases-nested
decreases-nested l = l.room
