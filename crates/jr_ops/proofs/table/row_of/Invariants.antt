use Rattle.std.proofs.Common.{◌≡◌, map, drop}
use Rattle.jr_ops.specs.Keywords.{row_from}
use Rattle.jr_ops.proofs.table.row_of.Given as goal

abbrev pub invariant-loop-row : goal.invariant-loop-row
invariant-loop-row l = row_from l.row (map (λ w. w.now) (drop l.row l.words)) l.text ≡ row_from 0 (map (λ w. w.now) l.words) l.text
