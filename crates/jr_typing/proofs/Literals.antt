-- An expression with suffixes is no literal.
use Rattle.std.proofs.Common.{◌≡◌, List, [], ◌∷◌, None, map, refl}
use Rattle.jr_base.specs.declared.number.Span.{Span}
use Rattle.jr_ast.specs.declared.expr.Suffix.{Suffix as SuffixTree}
use Rattle.jr_ast.specs.declared.operator.Prefix.TheVariants.{Negate}
use Rattle.jr_ast.specs.Expressions.{Expr, Suffix, Field, Invocation, Index, applied, onto, view_suffix}
use Rattle.jr_typing_rules.specs.Operators.{literal_under}

applied_never : (at : Span) (e : Expr) (s : Suffix) → literal_under Negate (applied at e s) ≡ None
applied_never at e (Field x) = refl
applied_never at e (Invocation m es) = refl
applied_never at e (Index i) = refl

onto_never : (at : Span) (e : Expr) (ss : List Suffix) → literal_under Negate e ≡ None → literal_under Negate (onto at e ss) ≡ None
onto_never at e [] none = none
onto_never at e (s ∷ ss) none = onto_never at (applied at e s) ss (applied_never at e s)

pub never_with_suffixes : (at : Span) (e : Expr) (ss : List SuffixTree) → ¬ (ss ≡ []) → literal_under Negate (onto at e (map view_suffix ss)) ≡ None
never_with_suffixes at e [] some = absurd (some refl)
never_with_suffixes at e (s ∷ ss) some = onto_never at (applied at e (view_suffix s)) (map view_suffix ss) (applied_never at e (view_suffix s))
