-- The parts of the rules of clauses' expressions, each under a name: values that are asked for, and what follows a
-- primary.
use Rattle.std.specs.Prelude.{Bool, true, false, List, length, nat_lt}
use Rattle.std.specs.List.{list_any}
use Rattle.jr_base.specs.declared.number.Span.{Span}
use Rattle.jr_base.specs.declared.refusal.Refusal.TheVariants.{Duplicate, NotHere}
use Rattle.jr_ast.specs.declared.name.Name.{Name}
use Rattle.jr_ast.specs.declared.expr.Suffix.{Suffix as SuffixTree}
use Rattle.jr_ast.specs.declared.expr.QuantifiedExpr.{QuantifiedExpr}
use Rattle.jr_ast.specs.declared.expr.Shape.TheFolds.{fold-QuantifiedExpr}
use Rattle.jr_ast.specs.Expressions as source
use Rattle.jr_ast.specs.Expressions.{Suffix, Field, Invocation, Index, Placed, place_of, shape_view, suffix_view, expr_view, quantified_view, view_suffix}
use Rattle.jr_typing_rules.specs.Answers.{Typing, Good, Bad, ◌>>=◌, require}
use Rattle.jr_typing_rules.specs.Predicates.{Stand, Term, Stated, states, stated, as_int, as_boolean, as_reference, field_of, element, is_new, and_quantified}
use Rattle.jr_program.specs.ClauseKinds.{deepest_quantifier}

-- an expression that has a value, and one that has a value of the type that is asked for
abbrev pub value : Stand → source.Expr → Typing Stated
value stand e = states stand e >>= stated (place_of e)

abbrev pub int_value : Stand → source.Expr → Typing Stated
int_value stand e = value stand e >>= as_int (place_of e)

abbrev pub boolean_value : Stand → source.Expr → Typing Stated
boolean_value stand e = value stand e >>= as_boolean (place_of e)

abbrev pub reference_value : Stand → source.Expr → Typing Stated
reference_value stand e = value stand e >>= as_reference (place_of e)

-- a call
abbrev pub is_call : Suffix → Bool
is_call (Field x) = false
is_call (Invocation x es) = true
is_call (Index i) = false

abbrev pub has_call : List SuffixTree → Bool
has_call = list_any (λ (s : SuffixTree). is_call (view_suffix s))

-- what stands before a suffix is known: the whole, whose first token stands there
abbrev pub member : Stand → Span → Term → Suffix → Typing Term
member stand at m (Field x) = field_of stand at x m
member stand at m (Invocation x es) = Bad (NotHere at)
member stand at m (Index i) = stated at m >>= λ v. int_value stand i >>= element at v

-- inside of a quantifier that stands there, of that variable
abbrev pub inside : Stand → Span → Name → Typing Stand
inside stand at x =
    require (nat_lt (length stand.quantified) deepest_quantifier) (NotHere at) >>= λ u.
    require (is_new stand x.text) (Duplicate x.place) >>= λ u. Good (and_quantified stand x)

-- a quantifier, which waits for its place
abbrev pub view_quantified : QuantifiedExpr → Placed
view_quantified = fold-QuantifiedExpr Placed Suffix source.Expr Placed shape_view suffix_view expr_view quantified_view
