-- What the asserts of a method are among the clauses of its program.
use Rattle.std.proofs.Common.{◌≡◌, ◌≤◌, ℕ, length, ◌+◌, Bool, List, [], ◌∷◌, Some, slice_get}
use Rattle.jr_base.specs.declared.number.MethodId.{MethodId}
use Rattle.jr_base.specs.declared.number.ClauseId.{ClauseId}
use Rattle.jr_base.specs.declared.kind.SlotKind.{SlotKind}
use Rattle.jr_program.specs.declared.words.ClauseKind.TheVariants as kinds
use Rattle.jr_program.specs.ClauseKinds.{StatesFit}
use Rattle.jr_program.specs.Clauses.{Clause, OfMethod}
use Rattle.jr_program.specs.Programs.{Program, clause_at}
use Rattle.jr_program.specs.WellFormed.{assert_scope, in_scope, most_in_scope}
use Rattle.jr_typing_rules.specs.declared.words.VariableKind.{VariableKind}
use Rattle.jr_typing_rules.specs.declared.words.VariableKind.TheVariants as variable
use Rattle.jr_typing_rules.specs.Types.{kind_of}
use Rattle.jr_typing_rules.specs.Scopes.{Variable}
use Rattle.jr_typing_rules.specs.Statements.{Asserted}
use Rattle.jr_typing_rules.specs.Declarations.{MadeMethod}
use Rattle.jr_typing_rules.proofs.Holding.{Each}

abbrev pub and_kind : VariableKind → List SlotKind → List SlotKind
and_kind (variable.Local t place) rest = kind_of t ∷ rest
and_kind (variable.Caught place) rest = rest
and_kind variable.Arguments rest = rest

-- the kinds of those that have a value, in order
abbrev pub kinds_in : List Variable → List SlotKind
kinds_in [] = []
kinds_in (v ∷ vs) = and_kind v.kind (kinds_in vs)

-- the number names an `assert` of that method, which fits where these variables are in scope
abbrev pub IsAssertOf : Program → MethodId → Bool → List SlotKind → ClauseId → Type 0
IsAssertOf program m static variables c =
    (clause : Clause) × (clause_at program c ≡ Some clause) × (clause.kind ≡ kinds.Assert) × (clause.owner ≡ OfMethod m)
    × StatesFit (assert_scope program static variables) kinds.Assert clause.states

-- each of them is a clause of the program, where n clauses stand before the first
abbrev pub AssertsAre : Program → MethodId → Bool → ℕ → List Asserted → Type 0
AssertsAre program m static n asserts =
    (i : ℕ) (a : Asserted) → slice_get asserts i ≡ Some a → IsAssertOf program m static (kinds_in a.variables) (record { 0 = n + i + 1 })

-- few variables are in scope of each
abbrev pub AssertsFew : MadeMethod → Type 0
AssertsFew m = Each (λ (a : Asserted). in_scope m.is_static (length (kinds_in a.variables)) ≤ most_in_scope) m.asserts
