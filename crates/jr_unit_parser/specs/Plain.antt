-- Where a field, a method or a constructor may begin.
use Rattle.std.specs.Prelude.{◌≡◌, ℕ, true, false, List}
use Rattle.jr_lexer.specs.declared.kind.Kind.TheVariants as k
use Rattle.jr_lexer.specs.Token.{Token}
use Rattle.jr_reading.specs.Seen.{seen}
use Rattle.jr_reading.specs.Steps.{sees}
use Rattle.jr_unit_parser.specs.Steps.{begins_class_clause}

-- neither `;` nor a clause of a class begins at the index
pub record IsPlain (ts : List Token) (i : ℕ) : Type 0 where
  pub not_empty : sees false ts i k.Semicolon ≡ false
  pub no_clause : begins_class_clause (seen true ts i) ≡ false
