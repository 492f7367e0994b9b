-- The larger of two numbers, and how many monitors stand in one another in a list.
use Rattle.std.proofs.Common.{◌≡◌, ℕ, zero, suc, ◌+◌, ◌<◌, ◌≤◌, List, ◌∷◌, length, map, drop, get_or, refl, sym, ap, ◌∙◌, arith, drop-cons, drop_of_length-le, add-one}
use Rattle.jr_program.specs.declared.stmt.TypedStmt.{TypedStmt}
use Rattle.jr_program.specs.declared.stmt.TypedCatch.{TypedCatch}
use Rattle.jr_program.specs.declared.stmt.TypedForm.TheFolds.{fold_out-TypedCatch}
use Rattle.jr_program.specs.Programs.{Statement}
use Rattle.jr_program.specs.StatementViews.{Catch, catches, chained, form_view, catch_view, stmt_view, view_catch, view_stmt}
use Rattle.jr_lowering.specs.StatementCode.{larger, monitors_in, monitors_in_all}

larger_none : (a : ℕ) → larger a 0 ≡ a
larger_none zero = refl
larger_none (suc a) = refl

pub larger_left : (a b : ℕ) → b ≤ a → larger a b ≡ a
larger_left zero zero le = refl
larger_left zero (suc b) le = absurd (omega arith)
larger_left (suc a) zero le = refl
larger_left (suc a) (suc b) le = ap suc (larger_left a b (omega arith))

pub larger_right : (a b : ℕ) → a < b → larger a b ≡ b
larger_right zero b lt = refl
larger_right (suc a) zero lt = absurd (omega arith)
larger_right (suc a) (suc b) lt = ap suc (larger_right a b (omega arith))

larger_assoc : (a b c : ℕ) → larger (larger a b) c ≡ larger a (larger b c)
larger_assoc zero b c = refl
larger_assoc (suc a) zero c = refl
larger_assoc (suc a) (suc b) zero = refl
larger_assoc (suc a) (suc b) (suc c) = ap suc (larger_assoc a b c)

next : {A : Type 0} (xs : List A) (i : ℕ) (x : A) → i < length xs → x ≡ get_or xs i x → drop i xs ≡ x ∷ drop (i + 1) xs
next xs i x lt e = drop-cons xs i x lt ∙ ap (λ y. y ∷ drop (suc i) xs) (sym e) ∙ ap (λ n. x ∷ drop n xs) (sym (add-one i))

-- one statement more, and the end of the list
pub statements_on : (all : List TypedStmt) (i most : ℕ) (x : TypedStmt) → i < length all → x ≡ get_or all i x →
    larger (larger most (monitors_in (view_stmt x))) (monitors_in (chained (map view_stmt (drop (i + 1) all))))
    ≡ larger most (monitors_in (chained (map view_stmt (drop i all))))
statements_on all i most x lt e =
    larger_assoc most (monitors_in (view_stmt x)) (monitors_in (chained (map view_stmt (drop (i + 1) all))))
    ∙ ap (λ l. larger most (monitors_in (chained (map view_stmt l)))) (sym (next all i x lt e))

pub statements_end : (all : List TypedStmt) (i most : ℕ) → length all ≤ i → larger most (monitors_in (chained (map view_stmt (drop i all)))) ≡ most
statements_end all i most le = ap (λ l. larger most (monitors_in (chained (map view_stmt l)))) (drop_of_length-le all {i = i} le) ∙ larger_none most

-- the handler of a catch
pub handler_of : (x : TypedCatch) → (view_catch x).handler ≡ view_stmt x.handler
handler_of x = ap (λ c. c.handler) (fold_out-TypedCatch Statement Catch Statement form_view catch_view stmt_view x)

-- the same of catches
pub catches_on : (all : List TypedCatch) (i most : ℕ) (x : TypedCatch) → i < length all → x ≡ get_or all i x →
    larger (larger most (monitors_in (view_catch x).handler)) (monitors_in_all (catches (map view_catch (drop (i + 1) all))))
    ≡ larger most (monitors_in_all (catches (map view_catch (drop i all))))
catches_on all i most x lt e =
    larger_assoc most (monitors_in (view_catch x).handler) (monitors_in_all (catches (map view_catch (drop (i + 1) all))))
    ∙ ap (λ l. larger most (monitors_in_all (catches (map view_catch l)))) (sym (next all i x lt e))

pub catches_end : (all : List TypedCatch) (i most : ℕ) → length all ≤ i → larger most (monitors_in_all (catches (map view_catch (drop i all)))) ≡ most
catches_end all i most le = ap (λ l. larger most (monitors_in_all (catches (map view_catch l)))) (drop_of_length-le all {i = i} le) ∙ larger_none most
