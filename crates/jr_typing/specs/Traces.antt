-- What a call of `printStackTrace` of a catch variable is made of.
use Rattle.std.specs.Prelude.{Bool, false, codes}
use Rattle.std.specs.Str.{bytes_eq}
use Rattle.jr_ast.specs.Expressions.{Expr, SimpleName, Suffix, Invocation, no_expr}
use Rattle.jr_typing_rules.specs.Scopes.{Scope, variable_named}
use Rattle.jr_typing_rules.specs.Statements.{is_caught}

abbrev pub is_caught_name : Scope → Expr → Bool
is_caught_name scope (SimpleName at x) = is_caught (variable_named scope x.text)
is_caught_name scope _ = false

abbrev pub is_trace_call : Suffix → Bool
is_trace_call (Invocation m no_expr) = bytes_eq m.text (codes "printStackTrace")
is_trace_call _ = false
