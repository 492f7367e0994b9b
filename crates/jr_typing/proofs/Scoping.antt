-- One step more at the end of those that happen to the variables in scope.
use Rattle.std.proofs.Common.{◌≡◌, ℕ, ◌+◌, ◌<◌, ◌≤◌, List, [], ◌∷◌, ◌++◌, length, get_or, drop, map, take, refl, sym, ap, ◌∙◌, append_assoc, length-append, arith}
use Rattle.std.specs.Borrow.{Bor}
use Rattle.std.proofs.lemmas.List.{append-nil, take-map}
use Rattle.jr_base.specs.declared.number.Span.{Span}
use Rattle.jr_ast.specs.declared.expr.SpecExpr.{SpecExpr}
use Rattle.jr_ast.specs.Expressions.{view_spec}
use Rattle.jr_typing_rules.specs.Scopes.{Variable}
use Rattle.jr_typing_rules.specs.Statements.{Asserted, and_place, places_in}
use Rattle.jr_names.proofs.Turns.{cut, uncut}
use Rattle.jr_typing.specs.declared.scope.Variable.{Variable as VariableTree}
use Rattle.jr_typing.specs.declared.scopes.ScopeStep.{ScopeStep}
use Rattle.jr_typing.specs.declared.scopes.ScopeStep.TheVariants.{Declares, Leaves, Asserts}
use Rattle.jr_typing.specs.Scoped.{AreInScope, scope_behind, scope_after, assert_at, asserts_of}
use Rattle.jr_typing.specs.Views.{view_variable}
use Rattle.jr_typing.proofs.Lists.{map_append}

scope_more : (vs : List Variable) (ss : List ScopeStep) (s : ScopeStep) → scope_after vs (ss ++ s ∷ []) ≡ scope_behind (scope_after vs ss) s
scope_more vs [] s = refl
scope_more vs (x ∷ ss) s = scope_more (scope_behind vs x) ss s

asserts_more : (vs : List Variable) (ss : List ScopeStep) (s : ScopeStep) → asserts_of vs (ss ++ s ∷ []) ≡ asserts_of vs ss ++ assert_at (scope_after vs ss) s
asserts_more vs [] s = append-nil (assert_at vs s)
asserts_more vs (x ∷ ss) s =
    ap (λ rest. assert_at vs x ++ rest) (asserts_more (scope_behind vs x) ss s)
    ∙ sym (append_assoc (assert_at vs x) (asserts_of (scope_behind vs x) ss) (assert_at (scope_after (scope_behind vs x) ss) s))

-- ---- a variable

pub declares_no_assert : (ss : List ScopeStep) (v : VariableTree) → asserts_of [] (ss ++ Declares v ∷ []) ≡ asserts_of [] ss
declares_no_assert ss v = asserts_more [] ss (Declares v) ∙ append-nil (asserts_of [] ss)

pub declared : (vs : List VariableTree) (ss : List ScopeStep) (n : ℕ) (v : VariableTree) → AreInScope vs ss n → AreInScope (vs ++ v ∷ []) (ss ++ Declares v ∷ []) n
declared vs ss n v before = record {
  scope = map_append view_variable vs v ∙ ap (λ xs. xs ++ view_variable v ∷ []) before.scope ∙ sym (scope_more [] ss (Declares v));
  count = before.count ∙ ap (λ xs. length xs) (sym (declares_no_assert ss v));
}

-- ---- the end of a block

pub leaves_no_assert : (ss : List ScopeStep) (k : ℕ) → asserts_of [] (ss ++ Leaves k ∷ []) ≡ asserts_of [] ss
leaves_no_assert ss k = asserts_more [] ss (Leaves k) ∙ append-nil (asserts_of [] ss)

pub first_of_view : (k : ℕ) (vs : List VariableTree) → map view_variable (take k vs) ≡ take k (map view_variable vs)
first_of_view k vs = sym (take-map view_variable k vs)

pub left : (vs : List VariableTree) (ss : List ScopeStep) (n k : ℕ) → AreInScope vs ss n → AreInScope (take k vs) (ss ++ Leaves k ∷ []) n
left vs ss n k before = record {
  scope = first_of_view k vs ∙ ap (λ xs. take k xs) before.scope ∙ sym (scope_more [] ss (Leaves k));
  count = before.count ∙ ap (λ xs. length xs) (sym (leaves_no_assert ss k));
}

-- ---- an assert

pub one_assert : (vs : List VariableTree) (ss : List ScopeStep) (n : ℕ) (at : Span) (e : Bor SpecExpr) → AreInScope vs ss n
    → asserts_of [] (ss ++ Asserts at e ∷ []) ≡ asserts_of [] ss ++ record { place = at; condition = view_spec e.now; variables = map view_variable vs } ∷ []
one_assert vs ss n at e before =
    asserts_more [] ss (Asserts at e) ∙ ap (λ xs. asserts_of [] ss ++ record { place = at; condition = view_spec e.now; variables = xs } ∷ []) (sym before.scope)

pub asserted : (vs : List VariableTree) (ss : List ScopeStep) (n m : ℕ) (at : Span) (e : Bor SpecExpr) → AreInScope vs ss n → m ≡ n + 1 → AreInScope vs (ss ++ Asserts at e ∷ []) m
asserted vs ss n m at e before more = record {
  scope = before.scope ∙ sym (scope_more [] ss (Asserts at e));
  count = more ∙ ap (λ n. n + 1) before.count ∙ sym (ap (λ xs. length xs) (one_assert vs ss n at e before) ∙ length-append (asserts_of [] ss) _);
}

-- ---- variables, one after the other

pub next_variable : (before all : List VariableTree) (d : VariableTree) (k : ℕ) → before ++ drop k all ≡ all → k < length all → (before ++ get_or all k d ∷ []) ++ drop (k + 1) all ≡ all
next_variable before all d k so_far below =
    append_assoc before (get_or all k d ∷ []) (drop (k + 1) all) ∙ ap (λ vs. before ++ vs) (sym (cut all k d below)) ∙ so_far

pub no_variable_left : (before all : List VariableTree) (k : ℕ) → before ++ drop k all ≡ all → length all ≤ k → before ≡ all
no_variable_left before all k so_far done = sym (append-nil before) ∙ sym (ap (λ vs. before ++ vs) (uncut all k done)) ∙ so_far

pub next_place : (before new : List ℕ) (all : List VariableTree) (d : VariableTree) (k : ℕ) → before ++ places_in (map view_variable (drop k all)) ≡ places_in (map view_variable all) → k < length all
    → ((rest : List ℕ) → new ++ rest ≡ before ++ and_place (get_or all k d).kind rest)
    → new ++ places_in (map view_variable (drop (k + 1) all)) ≡ places_in (map view_variable all)
next_place before new all d k so_far below is =
    is (places_in (map view_variable (drop (k + 1) all))) ∙ ap (λ vs. before ++ places_in (map view_variable vs)) (sym (cut all k d below)) ∙ so_far

pub no_place_left : (before : List ℕ) (all : List VariableTree) (k : ℕ) → before ++ places_in (map view_variable (drop k all)) ≡ places_in (map view_variable all) → length all ≤ k → before ≡ places_in (map view_variable all)
no_place_left before all k so_far done =
    sym (append-nil before) ∙ sym (ap (λ vs. before ++ places_in (map view_variable vs)) (uncut all k done)) ∙ so_far
