-- Which expressions are `x.printStackTrace()` of a catch variable.
use Rattle.std.proofs.Common.{◌≡◌, Bool, true, false, ◌&&◌, List, [], ◌∷◌, Some, None, length, map, slice_get, codes, refl, sym, ap, ◌∙◌, arith}
use Rattle.std.specs.Str.{bytes_eq}
use Rattle.jr_base.specs.declared.number.Span.{Span}
use Rattle.jr_ast.specs.declared.name.Name.{Name}
use Rattle.jr_ast.specs.declared.expr.Expr.{Expr as ExprTree}
use Rattle.jr_ast.specs.declared.expr.Suffix.{Suffix as SuffixTree}
use Rattle.jr_ast.specs.Expressions.{Expr, Exprs, Suffix, Field, Invocation, Index, SimpleName, CallOf, applied, onto, no_expr, and_expr, exprs, view_expr, view_suffix}
use Rattle.jr_typing_rules.specs.Scopes.{Scope}
use Rattle.jr_typing_rules.specs.Statements.{is_trace}
use Rattle.jr_typing.specs.Traces.{is_caught_name, is_trace_call}

-- with suffixes it is no name

applied_is_no_name : (scope : Scope) (at : Span) (e : Expr) (s : Suffix) → is_caught_name scope (applied at e s) ≡ false
applied_is_no_name scope at e (Field x) = refl
applied_is_no_name scope at e (Invocation x es) = refl
applied_is_no_name scope at e (Index i) = refl

onto_is_no_name : (scope : Scope) (at : Span) (e : Expr) (ss : List Suffix) → is_caught_name scope e ≡ false → is_caught_name scope (onto at e ss) ≡ false
onto_is_no_name scope at e [] is = is
onto_is_no_name scope at e (s ∷ ss) is = onto_is_no_name scope at (applied at e s) ss (applied_is_no_name scope at e s)

pub no_name : (scope : Scope) (at : Span) (e : Expr) (ss : List SuffixTree) → ¬ (ss ≡ []) → is_caught_name scope (onto at e (map view_suffix ss)) ≡ false
no_name scope at e [] some = absurd (some refl)
no_name scope at e (s ∷ ss) some = onto_is_no_name scope at (applied at e (view_suffix s)) (map view_suffix ss) (applied_is_no_name scope at e (view_suffix s))

-- ---- the call itself

and_false : (b : Bool) → (b && false) ≡ false
and_false true = refl
and_false false = refl

call_of_caught : (scope : Scope) (at : Span) (e : Expr) (m : Name) → is_trace scope (CallOf at e m no_expr) ≡ (bytes_eq m.text (codes "printStackTrace") && is_caught_name scope e)
call_of_caught scope at (SimpleName name_at x) m = refl
call_of_caught scope at _ m = sym (and_false (bytes_eq m.text (codes "printStackTrace")))

call_with_arguments : (scope : Scope) (at : Span) (e : Expr) (m : Name) (a : Expr) (rest : Exprs) → is_trace scope (CallOf at e m (and_expr a rest)) ≡ false
call_with_arguments scope at (SimpleName name_at x) m a rest = refl
call_with_arguments scope at _ m a rest = refl

pub trace_at_last : (scope : Scope) (at : Span) (e : Expr) (s : Suffix) → is_trace scope (applied at e s) ≡ (is_trace_call s && is_caught_name scope e)
trace_at_last scope at e (Field x) = refl
trace_at_last scope at e (Invocation m no_expr) = call_of_caught scope at e m
trace_at_last scope at e (Invocation m (and_expr a rest)) = call_with_arguments scope at e m a rest
trace_at_last scope at e (Index i) = refl

onto_no_name : (scope : Scope) (at : Span) (e : Expr) (s : Suffix) (ss : List Suffix) → is_caught_name scope e ≡ false → is_trace scope (onto at (applied at e s) ss) ≡ false
onto_no_name scope at e s [] unnamed = trace_at_last scope at e s ∙ ap (λ b. is_trace_call s && b) unnamed ∙ and_false (is_trace_call s)
onto_no_name scope at e s (t ∷ ss) unnamed = onto_no_name scope at (applied at e s) t ss (applied_is_no_name scope at e s)

pub no_suffix : (scope : Scope) (at : Span) (e : Expr) (ss : List SuffixTree) → slice_get ss 0 ≡ None → is_trace scope (onto at e (map view_suffix ss)) ≡ is_trace scope e
no_suffix scope at e [] none = refl
no_suffix scope at e (s ∷ ss) none = absurd (cc)

pub only_suffix : (scope : Scope) (at : Span) (e : Expr) (ss : List SuffixTree) (s : SuffixTree) → slice_get ss 0 ≡ Some s → length ss ≡ 1
    → is_trace scope (onto at e (map view_suffix ss)) ≡ is_trace scope (applied at e (view_suffix s))
only_suffix scope at e [] s is one = absurd (cc)
only_suffix scope at e (t ∷ []) s is one = ap (λ (x : SuffixTree). is_trace scope (applied at e (view_suffix x))) (cc)
only_suffix scope at e (t ∷ u ∷ ss) s is one = absurd (omega arith)

pub several_suffixes : (scope : Scope) (at : Span) (e : Expr) (ss : List SuffixTree) (s : SuffixTree) → slice_get ss 0 ≡ Some s → ¬ (length ss ≡ 1) → is_trace scope (onto at e (map view_suffix ss)) ≡ false
several_suffixes scope at e [] s is several = absurd (cc)
several_suffixes scope at e (t ∷ []) s is several = absurd (several refl)
several_suffixes scope at e (t ∷ u ∷ ss) s is several = onto_no_name scope at (applied at e (view_suffix t)) (view_suffix u) (map view_suffix ss) (applied_is_no_name scope at e (view_suffix t))

-- with arguments it is another call
pub with_arguments : (m : Name) (es : List ExprTree) → ¬ (es ≡ []) → is_trace_call (Invocation m (exprs (map view_expr es))) ≡ false
with_arguments m [] some = absurd (some refl)
with_arguments m (e ∷ es) some = refl
