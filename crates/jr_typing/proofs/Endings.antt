-- Which statements end, and which leave a loop.
use Rattle.std.proofs.Common.{◌≡◌, ℕ, suc, zero, ◌+◌, ◌-◌, ◌<◌, ◌≤◌, Bool, true, false, ◌&&◌, ◌||◌, List, [], ◌∷◌, Option, Some, None, length, get_or, drop, map, slice_get, refl, sym, ap, ◌∙◌, subst, arith}
use Rattle.jr_base.specs.declared.number.Span.{Span}
use Rattle.jr_ast.specs.declared.expr.Suffix.{Suffix as SuffixTree}
use Rattle.jr_ast.specs.declared.stmt.Stmt.{Stmt as StmtTree}
use Rattle.jr_ast.specs.declared.stmt.Catch.{Catch as CatchTree}
use Rattle.jr_ast.specs.Expressions.{Expr, Suffix, Field, Invocation, Index, applied, onto, view_suffix}
use Rattle.jr_ast.specs.Statements.{Stmts, no_stmt, and_stmt, catches, stmts, view_catch, view_stmt}
use Rattle.jr_typing_rules.specs.Ends.{is_true, breaks, any_breaks, any_catch_breaks, ends, last_ends, all_catches_end}
use Rattle.jr_names.proofs.Turns.{cut, uncut}

-- ---- the literal `true`

applied_not_true : (at : Span) (e : Expr) (s : Suffix) → is_true (applied at e s) ≡ false
applied_not_true at e (Field x) = refl
applied_not_true at e (Invocation m es) = refl
applied_not_true at e (Index i) = refl

onto_not_true : (at : Span) (e : Expr) (ss : List Suffix) → is_true e ≡ false → is_true (onto at e ss) ≡ false
onto_not_true at e [] is = is
onto_not_true at e (s ∷ ss) is = onto_not_true at (applied at e s) ss (applied_not_true at e s)

pub not_true : (at : Span) (e : Expr) (ss : List SuffixTree) → ¬ (ss ≡ []) → is_true (onto at e (map view_suffix ss)) ≡ false
not_true at e [] some = absurd (some refl)
not_true at e (s ∷ ss) some = onto_not_true at (applied at e (view_suffix s)) (map view_suffix ss) (applied_not_true at e (view_suffix s))

-- ---- a `break` among statements

once_broken : (ss : Stmts) → any_breaks true ss ≡ true
once_broken no_stmt = refl
once_broken (and_stmt s ss) = once_broken ss

next_breaks : (all : List StmtTree) (d : StmtTree) (k : ℕ) → k < length all
    → any_breaks false (stmts (map view_stmt (drop k all))) ≡ any_breaks (breaks (view_stmt (get_or all k d))) (stmts (map view_stmt (drop (k + 1) all)))
next_breaks all d k below = ap (λ ss. any_breaks false (stmts (map view_stmt ss))) (cut all k d below)

pub one_breaks : (all : List StmtTree) (d : StmtTree) (k : ℕ) (whole : Bool) → any_breaks false (stmts (map view_stmt (drop k all))) ≡ whole → k < length all
    → true ≡ breaks (view_stmt (get_or all k d)) → true ≡ whole
one_breaks all d k whole so_far below is =
    sym (once_broken (stmts (map view_stmt (drop (k + 1) all)))) ∙ ap (λ b. any_breaks b (stmts (map view_stmt (drop (k + 1) all)))) is ∙ sym (next_breaks all d k below) ∙ so_far

pub none_breaks_yet : (all : List StmtTree) (d : StmtTree) (k : ℕ) (whole : Bool) → any_breaks false (stmts (map view_stmt (drop k all))) ≡ whole → k < length all
    → false ≡ breaks (view_stmt (get_or all k d)) → any_breaks false (stmts (map view_stmt (drop (k + 1) all))) ≡ whole
none_breaks_yet all d k whole so_far below is =
    ap (λ b. any_breaks b (stmts (map view_stmt (drop (k + 1) all)))) is ∙ sym (next_breaks all d k below) ∙ so_far

pub none_breaks : (all : List StmtTree) (k : ℕ) (whole : Bool) → any_breaks false (stmts (map view_stmt (drop k all))) ≡ whole → length all ≤ k → false ≡ whole
none_breaks all k whole so_far done = sym (ap (λ ss. any_breaks false (stmts (map view_stmt ss))) (uncut all k done)) ∙ so_far

next_catch_breaks : (all : List CatchTree) (d : CatchTree) (k : ℕ) → k < length all
    → any_catch_breaks (catches (map view_catch (drop k all))) ≡ (any_breaks false (view_catch (get_or all k d)).body || any_catch_breaks (catches (map view_catch (drop (k + 1) all))))
next_catch_breaks all d k below = ap (λ cs. any_catch_breaks (catches (map view_catch cs))) (cut all k d below)

pub one_catch_breaks : (all : List CatchTree) (d : CatchTree) (k : ℕ) (whole : Bool) → any_catch_breaks (catches (map view_catch (drop k all))) ≡ whole → k < length all
    → true ≡ any_breaks false (view_catch (get_or all k d)).body → true ≡ whole
one_catch_breaks all d k whole so_far below is =
    ap (λ b. b || any_catch_breaks (catches (map view_catch (drop (k + 1) all)))) is ∙ sym (next_catch_breaks all d k below) ∙ so_far

pub no_catch_breaks_yet : (all : List CatchTree) (d : CatchTree) (k : ℕ) (whole : Bool) → any_catch_breaks (catches (map view_catch (drop k all))) ≡ whole → k < length all
    → false ≡ any_breaks false (view_catch (get_or all k d)).body → any_catch_breaks (catches (map view_catch (drop (k + 1) all))) ≡ whole
no_catch_breaks_yet all d k whole so_far below is =
    ap (λ b. b || any_catch_breaks (catches (map view_catch (drop (k + 1) all)))) is ∙ sym (next_catch_breaks all d k below) ∙ so_far

pub no_catch_breaks : (all : List CatchTree) (k : ℕ) (whole : Bool) → any_catch_breaks (catches (map view_catch (drop k all))) ≡ whole → length all ≤ k → false ≡ whole
no_catch_breaks all k whole so_far done = sym (ap (λ cs. any_catch_breaks (catches (map view_catch cs))) (uncut all k done)) ∙ so_far

-- ---- the last statement

last_of : (b : Bool) (s : StmtTree) (ss : List StmtTree) (last : StmtTree) → slice_get (s ∷ ss) (length ss) ≡ Some last → last_ends b (stmts (map view_stmt (s ∷ ss))) ≡ ends (view_stmt last)
last_of b s [] last is = ap (λ (x : StmtTree). ends (view_stmt x)) (cc)
last_of b s (t ∷ ss) last is = last_of (ends (view_stmt s)) t ss last is

pub last_decides : (ss : List StmtTree) (last : StmtTree) → slice_get ss (length ss - 1) ≡ Some last → last_ends false (stmts (map view_stmt ss)) ≡ ends (view_stmt last)
last_decides [] last is = absurd (cc)
last_decides (s ∷ ss) last is =
    let n : length (s ∷ ss) - 1 ≡ length ss = omega arith in
    last_of false s ss last (subst (λ k. slice_get (s ∷ ss) k ≡ Some last) n is)

some_last : (s : StmtTree) (ss : List StmtTree) → ¬ (slice_get (s ∷ ss) (length ss) ≡ None)
some_last s [] is = absurd (cc)
some_last s (t ∷ ss) is = some_last t ss is

pub none_ends : (ss : List StmtTree) → slice_get ss (length ss - 1) ≡ None → last_ends false (stmts (map view_stmt ss)) ≡ false
none_ends [] is = refl
none_ends (s ∷ ss) is =
    let n : length (s ∷ ss) - 1 ≡ length ss = omega arith in
    absurd (some_last s ss (subst (λ k. slice_get (s ∷ ss) k ≡ None) n is))

-- ---- each catch

next_catch_ends : (all : List CatchTree) (d : CatchTree) (k : ℕ) → k < length all
    → all_catches_end (catches (map view_catch (drop k all))) ≡ (last_ends false (view_catch (get_or all k d)).body && all_catches_end (catches (map view_catch (drop (k + 1) all))))
next_catch_ends all d k below = ap (λ cs. all_catches_end (catches (map view_catch cs))) (cut all k d below)

pub one_catch_goes_on : (all : List CatchTree) (d : CatchTree) (k : ℕ) (whole : Bool) → all_catches_end (catches (map view_catch (drop k all))) ≡ whole → k < length all
    → false ≡ last_ends false (view_catch (get_or all k d)).body → false ≡ whole
one_catch_goes_on all d k whole so_far below is =
    ap (λ b. b && all_catches_end (catches (map view_catch (drop (k + 1) all)))) is ∙ sym (next_catch_ends all d k below) ∙ so_far

pub all_end_yet : (all : List CatchTree) (d : CatchTree) (k : ℕ) (whole : Bool) → all_catches_end (catches (map view_catch (drop k all))) ≡ whole → k < length all
    → true ≡ last_ends false (view_catch (get_or all k d)).body → all_catches_end (catches (map view_catch (drop (k + 1) all))) ≡ whole
all_end_yet all d k whole so_far below is =
    ap (λ b. b && all_catches_end (catches (map view_catch (drop (k + 1) all)))) is ∙ sym (next_catch_ends all d k below) ∙ so_far

pub all_end : (all : List CatchTree) (k : ℕ) (whole : Bool) → all_catches_end (catches (map view_catch (drop k all))) ≡ whole → length all ≤ k → true ≡ whole
all_end all k whole so_far done = sym (ap (λ cs. all_catches_end (catches (map view_catch cs))) (uncut all k done)) ∙ so_far
