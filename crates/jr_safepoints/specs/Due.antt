-- Which clauses are due in a method and at a field, by the clauses of a program alone.
use Rattle.std.specs.Prelude.{ℕ, Bool, false, true, cond, List, [], map}
use Rattle.jr_base.specs.declared.number.Span.{Span}
use Rattle.jr_base.specs.declared.number.FieldId.{FieldId}
use Rattle.jr_base.specs.declared.number.MethodId.{MethodId}
use Rattle.jr_base.specs.declared.number.ClauseId.{ClauseId}
use Rattle.jr_program.specs.declared.words.ClauseKind.{ClauseKind}
use Rattle.jr_program.specs.declared.words.ClauseKind.TheVariants as kinds
use Rattle.jr_program.specs.Clauses.{Clause, OfMethod, OfField}
use Rattle.jr_program.specs.ClauseViews.{view_clause}
use Rattle.jr_program.specs.Programs.{Program, Method}
use Rattle.jr_program.specs.Sites.{clauses_of, class_clauses, due_at_call, due_at_leave}
use Rattle.jr_typing_rules.specs.Answers.{Typing, Good, ◌>>=◌}
use Rattle.jr_safepoints.specs.Few.{few}
use Rattle.jr_safepoints.specs.Sorted.{AreSorted}
use Rattle.jr_safepoints.specs.declared.sorted.Wanted.TheVariants as wanted
use Rattle.jr_safepoints.specs.declared.owned.Owned.{Owned}
use Rattle.jr_safepoints.specs.declared.owned.MethodDues.{MethodDues as MethodDuesTree}

-- a program of which the clauses alone are known: due lists ask for no more
abbrev pub of_clauses : List Clause → Program
of_clauses cs = record { classes = []; fields = []; methods = []; clauses = cs; notes = []; texts = []; main = record { 0 = 0 } }

-- those of a kind of a method's class; none for a helper
abbrev pub of_class : List Clause → Method → ClauseKind → Bool → List ClauseId
of_class clauses method kind with_objects = cond method.is_helper [] (class_clauses (of_clauses clauses) method.class kind with_objects)

-- what is due at a field
abbrev pub due_at_field : List Clause → FieldId → List ClauseId
due_at_field clauses f = clauses_of (of_clauses clauses) (OfField f) kinds.MonitorsFor

-- what is due in a method: at its call, at its label `commit`, at its return, and where it enters a monitor
pub record MethodDues : Type 0 where
  pub call : List ClauseId
  pub commit : List ClauseId
  pub leave : List ClauseId
  pub enter : List ClauseId

abbrev pub dues_of : List Clause → MethodId → Method → MethodDues
dues_of clauses m method = record {
  call = due_at_call (of_clauses clauses) m method;
  commit = clauses_of (of_clauses clauses) (OfMethod m) kinds.When;
  leave = due_at_leave (of_clauses clauses) m method;
  enter = clauses_of (of_clauses clauses) (OfMethod m) kinds.Locks;
}

-- it is few enough at each of them
abbrev pub few_in : Span → MethodDues → Typing MethodDues
few_in at d =
    few at d.call >>= λ call. few at d.commit >>= λ commit. few at d.leave >>= λ leave. few at d.enter >>= λ enter.
    Good (record { call = call; commit = commit; leave = leave; enter = enter })

abbrev pub view_dues : MethodDuesTree → MethodDues
view_dues d = record { call = d.at_call; commit = d.at_commit; leave = d.at_leave; enter = d.at_enter }

-- ---- the code's clauses by what they belong to

abbrev pub clauses_in : Owned → List Clause
clauses_in o = map view_clause o.clauses.now

-- each list has the clauses that it is for
pub record SortsAll (o : Owned) : Type 0 where
  pub preconditions : AreSorted (wanted.OfMethod kinds.Requires) (clauses_in o) o.preconditions.items
  pub postconditions : AreSorted (wanted.OfMethod kinds.Ensures) (clauses_in o) o.postconditions.items
  pub guards : AreSorted (wanted.OfMethod kinds.When) (clauses_in o) o.guards.items
  pub locks : AreSorted (wanted.OfMethod kinds.Locks) (clauses_in o) o.locks.items
  pub atomics : AreSorted (wanted.OfMethod kinds.Atomic) (clauses_in o) o.atomics.items
  pub monitors : AreSorted (wanted.OfField kinds.MonitorsFor) (clauses_in o) o.monitors.items
  pub static_invariants : AreSorted (wanted.OfClass kinds.Invariant false) (clauses_in o) o.static_invariants.items
  pub invariants : AreSorted (wanted.OfClass kinds.Invariant true) (clauses_in o) o.invariants.items
  pub static_constraints : AreSorted (wanted.OfClass kinds.Constraint false) (clauses_in o) o.static_constraints.items
  pub constraints : AreSorted (wanted.OfClass kinds.Constraint true) (clauses_in o) o.constraints.items
