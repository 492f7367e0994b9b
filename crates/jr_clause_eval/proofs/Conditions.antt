-- The kinds of clauses that state one condition.
use Rattle.std.proofs.Common.{◌≡◌, ◌≢◌, List, refl}
use Rattle.jr_program.specs.declared.words.Mode.{Mode}
use Rattle.jr_program.specs.declared.words.ClauseKind.{ClauseKind}
use Rattle.jr_program.specs.declared.words.ClauseKind.TheVariants as kinds
use Rattle.jr_program.specs.Clauses.{Spec}
use Rattle.jr_meaning.specs.Worth.{Setting}
use Rattle.jr_meaning.specs.Judge.{value_of_kind}
use Rattle.jr_clause_eval.specs.Conditions.{condition_value}

pub value_of_condition : (mode : Mode) (s : Setting) (kind : ClauseKind) (es : List Spec) → kind ≢ kinds.MonitorsFor → kind ≢ kinds.Locks → value_of_kind mode s kind es ≡ condition_value mode s es
value_of_condition mode s kinds.Requires es m l = refl
value_of_condition mode s kinds.Ensures es m l = refl
value_of_condition mode s kinds.When es m l = refl
value_of_condition mode s kinds.Locks es m l = absurd (l refl)
value_of_condition mode s kinds.MonitorsFor es m l = absurd (m refl)
value_of_condition mode s kinds.Invariant es m l = refl
value_of_condition mode s kinds.Constraint es m l = refl
value_of_condition mode s kinds.Assert es m l = refl
value_of_condition mode s kinds.Atomic es m l = refl
