use Rattle.std.proofs.Common.{◌≡◌, ◌+◌, take, min}
use Rattle.jr_lexer.specs.Lexical.{number_of}
use Rattle.jr_lexer.specs.Numbers.{big_long}
use Rattle.jr_lexer.proofs.literal.number_of.Given as goal

abbrev pub invariant-loop-digit : goal.invariant-loop-digit
invariant-loop-digit l = l.number ≡ min (number_of (take l.digit-index l.digits)) (big_long + 1)
