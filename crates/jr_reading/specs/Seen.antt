-- The tokens of code and those of annotations: each reader sees those of its own, and at the index of any
-- other nothing.
use Rattle.std.specs.Prelude.{ℕ, Bool, true, false, List}
use Rattle.jr_lexer.specs.declared.kind.Kind.{Kind}
use Rattle.jr_lexer.specs.declared.kind.Kind.TheVariants as k
use Rattle.jr_lexer.specs.Token.{Token}
use Rattle.jr_lexer.specs.Reading.{kind_at, text_at, number_at, value_at, jml_at, span_at}
use Rattle.jr_ast.specs.declared.literal.IntegerLiteral.{IntegerLiteral}
use Rattle.jr_ast.specs.declared.name.Name.{Name}

-- the kind of a token for a reader: jml is true where annotations are read
abbrev pub seen_as : (jml stands_in_annotation : Bool) → Kind → Kind
seen_as true true kind = kind
seen_as false false kind = kind
seen_as _ _ kind = k.End

-- the kind of the token at an index, End where it is of the other sort or behind the last
unfoldable pub seen : Bool → List Token → ℕ → Kind
seen jml ts at = seen_as jml (jml_at ts at) (kind_at ts at)

-- the name that stands at an index, with its place
abbrev pub name_at : List Token → ℕ → Name
name_at ts at = record { text = text_at ts at; place = span_at ts at }

-- the integer literal that stands at an index
abbrev pub literal_at : List Token → ℕ → IntegerLiteral
literal_at ts at = record { number = value_at ts at; is_long = (number_at ts at).is_long }
