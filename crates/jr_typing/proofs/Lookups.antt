-- Variables that are looked up by their names.
use Rattle.std.proofs.Common.{◌≡◌, true, false, cond, ◌||◌, List, [], ◌∷◌, Some, map, option_map, refl, ap}
use Rattle.std.specs.Prelude.{find}
use Rattle.std.specs.List.{list_any}
use Rattle.std.specs.Str.{bytes_eq}
use Rattle.jr_typing_rules.specs.Names.{Text}
use Rattle.jr_typing_rules.specs.Scopes.{Variable}
use Rattle.jr_typing.specs.declared.scope.Variable.{Variable as VariableTree}
use Rattle.jr_typing_rules.specs.Statements.{has_variable}
use Rattle.jr_typing.specs.declared.state.State.{State as StateTree}
use Rattle.jr_typing.specs.StatementViews.{view_state}
use Rattle.jr_typing.specs.Views.{view_variable}

pub variable_found : (x : Text) (vs : List VariableTree) → find (λ (v : Variable). bytes_eq x v.name) (map view_variable vs) ≡ option_map view_variable (find (λ (v : VariableTree). bytes_eq x v.name.now) vs)
variable_found x [] = refl
variable_found x (v ∷ vs) =
    elim (bytes_eq x v.name.now) as (λ b. cond b (Some (view_variable v)) (find (λ (v : Variable). bytes_eq x v.name) (map view_variable vs)) ≡ option_map view_variable (cond b (Some v) (find (λ (v : VariableTree). bytes_eq x v.name.now) vs))) [
      | true ↦ refl
      | false ↦ variable_found x vs
    ]

any_named : (x : Text) (vs : List VariableTree) → list_any (λ (v : Variable). bytes_eq x v.name) (map view_variable vs) ≡ list_any (λ (v : VariableTree). bytes_eq x v.name.now) vs
any_named x [] = refl
any_named x (v ∷ vs) = ap (λ b. bytes_eq x v.name.now || b) (any_named x vs)

pub any_declared : (x : Text) (s : StateTree) → has_variable (view_state s) x ≡ list_any (λ (v : VariableTree). bytes_eq x v.name.now) s.scopes.variables.items
unfolding has_variable
any_declared x s = any_named x s.scopes.variables.items
