-- What follows a primary, and arguments, from left to right.
use Rattle.std.proofs.Common.{◌≡◌, ℕ, ◌+◌, ◌<◌, ◌≤◌, List, [], ◌∷◌, length, get_or, drop, map, refl, sym, ap, ◌∙◌}
use Rattle.jr_base.specs.declared.number.Span.{Span}
use Rattle.jr_base.specs.declared.refusal.Fail.{Fail}
use Rattle.jr_base.specs.declared.refusal.Fail.TheVariants.{Refused, Memory}
use Rattle.jr_ast.specs.declared.expr.Expr.{Expr as ExprTree}
use Rattle.jr_ast.specs.Expressions.{Expr, Suffix, Field, Invocation, Index, applied, onto, exprs, place_of, view_expr}
use Rattle.jr_typing_rules.specs.Answers.{Typing, Good, Bad, ◌>>=◌, one_by_one}
use Rattle.jr_typing_rules.specs.Scopes.{Scope}
use Rattle.jr_typing_rules.specs.Denotations.{Value, Arguments, and_argument, value_of, element}
use Rattle.jr_typing_rules.specs.Expressions.{denotes, arguments, value, int_value, member}
use Rattle.jr_names.specs.Answered.{Fails}
use Rattle.jr_names.proofs.Turns.{cut, uncut}

bind_assoc : {A B C : Type 0} (x : Typing A) (f : A → Typing B) (g : B → Typing C) → (x >>= f) >>= g ≡ (x >>= λ a. f a >>= g)
bind_assoc (Good a) f g = refl
bind_assoc (Bad r) f g = refl

bind_good : {A : Type 0} (x : Typing A) → (x >>= λ a. Good a) ≡ x
bind_good (Good a) = refl
bind_good (Bad r) = refl

one_suffix : (scope : Scope) (at : Span) (e : Expr) (s : Suffix) → denotes scope (applied at e s) ≡ (denotes scope e >>= λ m. member scope at m s)
one_suffix scope at e (Field x) = refl
one_suffix scope at e (Invocation x es) = refl
one_suffix scope at e (Index i) = bind_assoc (denotes scope e) (value_of at) (λ v. int_value scope i >>= λ index. element at index.node v)

-- what follows a primary, step by step
pub denotes_onto : (scope : Scope) (at : Span) (e : Expr) (ss : List Suffix) → denotes scope (onto at e ss) ≡ (denotes scope e >>= λ m. one_by_one (member scope at) m ss)
denotes_onto scope at e [] = sym (bind_good (denotes scope e))
denotes_onto scope at e (s ∷ ss) =
    denotes_onto scope at (applied at e s) ss
    ∙ ap (λ x. x >>= λ m. one_by_one (member scope at) m ss) (one_suffix scope at e s)
    ∙ bind_assoc (denotes scope e) (λ m. member scope at m s) (λ m. one_by_one (member scope at) m ss)

-- ---- arguments

next_argument : (scope : Scope) (given : Arguments) (all : List ExprTree) (d : ExprTree) (k : ℕ) → k < length all
    → arguments scope given (exprs (map view_expr (drop k all))) ≡ (value scope (view_expr (get_or all k d)) >>= λ v. arguments scope (and_argument given (place_of (view_expr (get_or all k d))) v) (exprs (map view_expr (drop (k + 1) all))))
next_argument scope given all d k below = ap (λ es. arguments scope given (exprs (map view_expr es))) (cut all k d below)

pub argument_fails : (scope : Scope) (given : Arguments) (all : List ExprTree) (d : ExprTree) (k : ℕ) (whole : Typing Arguments) (e : Fail)
    → arguments scope given (exprs (map view_expr (drop k all))) ≡ whole → k < length all
    → Fails e (value scope (view_expr (get_or all k d))) → Fails e whole
argument_fails scope given all d k whole Memory so_far below h = tt
argument_fails scope given all d k whole (Refused r) so_far below h =
    sym so_far ∙ next_argument scope given all d k below ∙ ap (λ is. is >>= λ v. arguments scope (and_argument given (place_of (view_expr (get_or all k d))) v) (exprs (map view_expr (drop (k + 1) all)))) h

pub argument_goes_on : (scope : Scope) (given : Arguments) (all : List ExprTree) (d : ExprTree) (k : ℕ) (whole : Typing Arguments) (v : Value)
    → arguments scope given (exprs (map view_expr (drop k all))) ≡ whole → k < length all
    → value scope (view_expr (get_or all k d)) ≡ Good v
    → arguments scope (and_argument given (place_of (view_expr (get_or all k d))) v) (exprs (map view_expr (drop (k + 1) all))) ≡ whole
argument_goes_on scope given all d k whole v so_far below is =
    sym (next_argument scope given all d k below ∙ ap (λ is. is >>= λ v. arguments scope (and_argument given (place_of (view_expr (get_or all k d))) v) (exprs (map view_expr (drop (k + 1) all)))) is) ∙ so_far

pub no_argument_left : (scope : Scope) (given : Arguments) (all : List ExprTree) (k : ℕ) (whole : Typing Arguments)
    → arguments scope given (exprs (map view_expr (drop k all))) ≡ whole → length all ≤ k → whole ≡ Good given
no_argument_left scope given all k whole so_far done =
    sym so_far ∙ ap (λ es. arguments scope given (exprs (map view_expr es))) (uncut all k done)
