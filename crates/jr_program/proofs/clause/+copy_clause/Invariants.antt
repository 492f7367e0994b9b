use Rattle.std.proofs.Common.{◌≡◌, take}
use Rattle.jr_program.proofs.clause.+copy_clause.Given as goal

abbrev pub invariant-copy_suffixes-loop-suffix : goal.invariant-copy_suffixes-loop-suffix
invariant-copy_suffixes-loop-suffix l = l.copies ≡ take l.suffix-index l.all
