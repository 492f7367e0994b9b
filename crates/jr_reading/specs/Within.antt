-- Where a token is seen, its index is within the list, of which the length is limited.
use Rattle.std.specs.Prelude.{◌<◌, ℕ}
use Rattle.jr_lexer.specs.declared.kind.Kind.{Kind}
use Rattle.jr_lexer.specs.declared.kind.Kind.TheVariants.{End}

abbrev pub Within : Kind → ℕ → Type 0
Within End at = Unit {0}
Within _ at = at < 1048576
