use Rattle.std.proofs.Common.{◌≡◌, ◌+◌, drop}
use Rattle.std.specs.Option.{option_map}
use Rattle.jr_lexer.specs.Lexical.{before_close}
use Rattle.jr_lexer.proofs.scan.before_close.Given as goal

abbrev pub invariant-loop-at : goal.invariant-loop-at
invariant-loop-at l = option_map (λ n. n + l.at) (before_close (drop l.at l.z)) ≡ before_close l.z
