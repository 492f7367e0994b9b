-- The turns of loops that look for the label `commit`.
use Rattle.std.proofs.Common.{◌≡◌, ◌<◌, ◌≤◌, ◌||◌, ℕ, ◌+◌, Bool, true, false, List, [], ◌∷◌, length, get_or, drop, map, refl, sym, ap, ◌∙◌}
use Rattle.jr_names.proofs.Turns.{cut, uncut}
use Rattle.jr_program.specs.Sites.{has_commit, some_has_commit}
use Rattle.jr_program.specs.StatementViews.{catches, chained, view_catch, view_stmt}
use Rattle.jr_program.specs.declared.stmt.TypedStmt.{TypedStmt}
use Rattle.jr_program.specs.declared.stmt.TypedCatch.{TypedCatch}

-- ---- statements

stmt-turn : (all : List TypedStmt) (x : TypedStmt) (k : ℕ) (b : Bool) (whole : Bool) → has_commit (chained (map view_stmt (drop k all))) ≡ whole → k < length all → x ≡ get_or all k x →
    has_commit (view_stmt x) ≡ b → (b || has_commit (chained (map view_stmt (drop (k + 1) all)))) ≡ whole
stmt-turn all x k b whole so_far below found is =
    ap (λ c. c || has_commit (chained (map view_stmt (drop (k + 1) all)))) (sym is ∙ ap (λ (s : TypedStmt). has_commit (view_stmt s)) found)
    ∙ sym (ap (λ ss. has_commit (chained (map view_stmt ss))) (cut all k x below)) ∙ so_far

pub stmt_found : (all : List TypedStmt) (x : TypedStmt) (k : ℕ) (whole : Bool) → has_commit (chained (map view_stmt (drop k all))) ≡ whole → k < length all → x ≡ get_or all k x →
    has_commit (view_stmt x) ≡ true → true ≡ whole
stmt_found all x k whole so_far below found is = stmt-turn all x k true whole so_far below found is

pub stmt_next : (all : List TypedStmt) (x : TypedStmt) (k : ℕ) (whole : Bool) → has_commit (chained (map view_stmt (drop k all))) ≡ whole → k < length all → x ≡ get_or all k x →
    has_commit (view_stmt x) ≡ false → has_commit (chained (map view_stmt (drop (k + 1) all))) ≡ whole
stmt_next all x k whole so_far below found is = stmt-turn all x k false whole so_far below found is

pub no_stmt_left : (all : List TypedStmt) (k : ℕ) (whole : Bool) → has_commit (chained (map view_stmt (drop k all))) ≡ whole → length all ≤ k → false ≡ whole
no_stmt_left all k whole so_far done = sym (ap (λ ss. has_commit (chained (map view_stmt ss))) (uncut all k done)) ∙ so_far

-- ---- catches

handler-turn : (all : List TypedCatch) (x : TypedCatch) (k : ℕ) (b : Bool) (whole : Bool) → some_has_commit (catches (map view_catch (drop k all))) ≡ whole → k < length all → x ≡ get_or all k x →
    has_commit (view_catch x).handler ≡ b → (b || some_has_commit (catches (map view_catch (drop (k + 1) all)))) ≡ whole
handler-turn all x k b whole so_far below found is =
    ap (λ c. c || some_has_commit (catches (map view_catch (drop (k + 1) all)))) (sym is ∙ ap (λ (s : TypedCatch). has_commit (view_catch s).handler) found)
    ∙ sym (ap (λ ss. some_has_commit (catches (map view_catch ss))) (cut all k x below)) ∙ so_far

pub handler_found : (all : List TypedCatch) (x : TypedCatch) (k : ℕ) (whole : Bool) → some_has_commit (catches (map view_catch (drop k all))) ≡ whole → k < length all → x ≡ get_or all k x →
    has_commit (view_catch x).handler ≡ true → true ≡ whole
handler_found all x k whole so_far below found is = handler-turn all x k true whole so_far below found is

pub handler_next : (all : List TypedCatch) (x : TypedCatch) (k : ℕ) (whole : Bool) → some_has_commit (catches (map view_catch (drop k all))) ≡ whole → k < length all → x ≡ get_or all k x →
    has_commit (view_catch x).handler ≡ false → some_has_commit (catches (map view_catch (drop (k + 1) all))) ≡ whole
handler_next all x k whole so_far below found is = handler-turn all x k false whole so_far below found is

pub no_handler_left : (all : List TypedCatch) (k : ℕ) (whole : Bool) → some_has_commit (catches (map view_catch (drop k all))) ≡ whole → length all ≤ k → false ≡ whole
no_handler_left all k whole so_far done = sym (ap (λ ss. some_has_commit (catches (map view_catch ss))) (uncut all k done)) ∙ so_far
