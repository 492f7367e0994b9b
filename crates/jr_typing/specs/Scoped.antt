-- The variables in scope at each place of a method, by what happens to them in source order.
use Rattle.std.specs.Prelude.{◌≡◌, ℕ, List, [], ◌∷◌, ◌++◌, length, map, take}
use Rattle.jr_ast.specs.Expressions.{view_spec}
use Rattle.jr_typing_rules.specs.Scopes.{Variable}
use Rattle.jr_typing_rules.specs.Statements.{Asserted}
use Rattle.jr_typing.specs.Views.{view_variable}
use Rattle.jr_typing.specs.declared.scope.Variable.{Variable as VariableTree}
use Rattle.jr_typing.specs.declared.scopes.ScopeStep.{ScopeStep}
use Rattle.jr_typing.specs.declared.scopes.ScopeStep.TheVariants.{Declares, Leaves, Asserts}

-- the variables in scope behind a step
abbrev pub scope_behind : List Variable → ScopeStep → List Variable
scope_behind vs (Declares v) = vs ++ view_variable v ∷ []
scope_behind vs (Leaves n) = take n vs
scope_behind vs (Asserts at e) = vs

abbrev pub scope_after : List Variable → List ScopeStep → List Variable
scope_after vs [] = vs
scope_after vs (s ∷ ss) = scope_after (scope_behind vs s) ss

-- the assert that a step is, if it is one, where those variables are in scope
abbrev pub assert_at : List Variable → ScopeStep → List Asserted
assert_at vs (Asserts at e) = record { place = at; condition = view_spec e.now; variables = vs } ∷ []
assert_at vs _ = []

abbrev pub asserts_of : List Variable → List ScopeStep → List Asserted
asserts_of vs [] = []
asserts_of vs (s ∷ ss) = assert_at vs s ++ asserts_of (scope_behind vs s) ss

-- those are in scope behind the steps, of which so many are asserts
pub record AreInScope (variables : List VariableTree) (steps : List ScopeStep) (n : ℕ) : Type 0 where
  pub scope : map view_variable variables ≡ scope_after [] steps
  pub count : n ≡ length (asserts_of [] steps)
