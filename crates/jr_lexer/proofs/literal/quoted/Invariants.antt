use Rattle.std.proofs.Common.{◌≡◌, ◌+◌, ◌++◌, drop, false}
use Rattle.std.specs.Option.{option_map}
use Rattle.jr_lexer.specs.Lexical.{quoted}
use Rattle.jr_lexer.proofs.literal.quoted.Given as goal

-- what was read so far, and what is read from here
abbrev pub invariant-loop-at : goal.invariant-loop-at
invariant-loop-at l = option_map (λ q. (l.text.items ++ q.0, q.1 + l.at)) (quoted l.escaped (drop l.at l.z)) ≡ quoted false l.z
