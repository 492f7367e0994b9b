-- The variables that an `assert` may name, by their places in its environment, from place to place of a method.
use Rattle.std.specs.Prelude.{ℕ, List, [], ◌∷◌, ◌++◌, take}
use Rattle.jr_ast.specs.Expressions.{view_spec}
use Rattle.jr_program.specs.Clauses.{Clause, OfMethod}
use Rattle.jr_program.specs.declared.words.ClauseKind.TheVariants as kinds
use Rattle.jr_program.specs.declared.words.Mode.{Mode}
use Rattle.jr_typing_rules.specs.Answers.{Typing, Good, ◌>>=◌}
use Rattle.jr_typing_rules.specs.Declarations.{MadeMethod}
use Rattle.jr_typing_rules.specs.Scopes.{Variable}
use Rattle.jr_typing_rules.specs.Specifications.{Setting, placed, place_after, one_condition, stand_in}
use Rattle.jr_typing.specs.Views.{view_variable}
use Rattle.jr_typing.specs.declared.scopes.ScopeStep.{ScopeStep}
use Rattle.jr_typing.specs.declared.scopes.ScopeStep.TheVariants.{Declares, Leaves, Asserts}

-- the place behind those variables, from a place on
abbrev pub last_place : ℕ → List Variable → ℕ
last_place n [] = n
last_place n (v ∷ vs) = last_place (place_after n v.kind) vs

-- one variable more, at the next place
abbrev pub and_placed : List Variable → Variable → List Variable
and_placed vs v = vs ++ record { name = v.name; kind = placed (last_place 0 vs) v.kind } ∷ []

-- the environment behind a step
abbrev pub environment_behind : List Variable → ScopeStep → List Variable
environment_behind vs (Declares v) = and_placed vs (view_variable v)
environment_behind vs (Leaves n) = take n vs
environment_behind vs (Asserts at e) = vs

-- the clause that a step is, if it is one, where that is the environment
abbrev pub clauses_at : Setting → Mode → MadeMethod → List Variable → ScopeStep → Typing (List Clause)
clauses_at setting mode m vs (Asserts at e) =
    one_condition setting (OfMethod m.number) kinds.Assert mode (stand_in setting m.class m.is_static vs) at (view_spec e.now) >>= λ c. Good (c ∷ [])
clauses_at setting mode m vs _ = Good []
