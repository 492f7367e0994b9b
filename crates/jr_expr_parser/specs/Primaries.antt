-- A primary with what follows it, as plain data.
use Rattle.std.specs.Prelude.{List, map}
use Rattle.jr_base.specs.declared.number.Span.{Span}
use Rattle.jr_ast.specs.declared.expr.Shape.{Shape}
use Rattle.jr_ast.specs.declared.expr.Suffix.{Suffix}
use Rattle.jr_ast.specs.Expressions.{Expr, onto, view_shape, view_suffix}

abbrev pub whole : Span → Shape → List Suffix → Expr
whole place shape suffixes = onto place (view_shape shape place) (map view_suffix suffixes)
