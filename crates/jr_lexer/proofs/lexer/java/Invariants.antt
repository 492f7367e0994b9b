use Rattle.std.proofs.Common.{◌≡◌, ◌+◌, ◌≤◌, length}
use Rattle.jr_lexer.specs.Lexical.{after, pieces, java_piece}
use Rattle.jr_lexer.proofs.lexer.java.Given as goal

abbrev pub invariant-loop-rest : goal.invariant-loop-rest
invariant-loop-rest l = record {
  read : after l.tokens (pieces (λ s. java_piece) (λ b s. s) 0 (tt {0}) l.at l.rest) ≡ pieces (λ s. java_piece) (λ b s. s) 0 (tt {0}) 0 l.fn.bytes;
  left : l.at + length l.rest ≡ length l.fn.bytes;
  count : length l.tokens ≤ l.at;
}

abbrev pub decreases-loop-rest : goal.decreases-loop-rest
decreases-loop-rest l = length l.rest
