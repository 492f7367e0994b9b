use Rattle.std.proofs.Common.{◌≡◌, ◌+◌, ◌≤◌, length, true}
use Rattle.jr_lexer.specs.Lexical.{after, pieces, jml_piece, is_fresh}
use Rattle.jr_lexer.proofs.lexer.annotation.Given as goal

abbrev pub invariant-loop-rest : goal.invariant-loop-rest
invariant-loop-rest l = record {
  read : after l.tokens (pieces jml_piece is_fresh 0 l.fresh l.at l.rest) ≡ after l.initial.tokens (pieces jml_piece is_fresh 0 true l.fn.start l.fn.text);
  left : l.at + length l.rest ≡ l.fn.start + length l.fn.text;
  count : length l.tokens ≤ l.at;
}

abbrev pub decreases-loop-rest : goal.decreases-loop-rest
decreases-loop-rest l = length l.rest
