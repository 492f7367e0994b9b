use Rattle.std.proofs.Common.{◌≡◌, take}
use Rattle.jr_program.proofs.stmt.+copy_stmt.Given as goal

abbrev pub invariant-copy_stmts-loop-stmt : goal.invariant-copy_stmts-loop-stmt
invariant-copy_stmts-loop-stmt l = l.copies ≡ take l.stmt-index l.all

abbrev pub invariant-copy_catches-loop-catch : goal.invariant-copy_catches-loop-catch
invariant-copy_catches-loop-catch l = l.copies ≡ take l.catch-index l.all
