use Rattle.std.proofs.Common.{◌≡◌, ◌≤◌, length}
use Rattle.jr_lexer.specs.Lexical.{without_last_ats}
use Rattle.jr_lexer.proofs.scan.without_last_ats.Given as goal

abbrev pub invariant-loop-z : goal.invariant-loop-z
invariant-loop-z l = (without_last_ats l.z ≡ without_last_ats l.initial.z) × (length l.z ≤ length l.initial.z)

abbrev pub decreases-loop-z : goal.decreases-loop-z
decreases-loop-z l = length l.z
