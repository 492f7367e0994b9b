use Rattle.jr_jml_parser.proofs.Classes.{invariant_fits, constraint_fits, declares_refused}
use Rattle.jr_jml_parser.proofs.clause.class_form.Goals as goal

pub returns-in_ok-condition-in-Invariant : goal.returns-in_ok-condition-in-Invariant
returns-in_ok-condition-in-Invariant c = invariant_fits _ _ _ _ _ _ c.in-Invariant.ensures.value c.in_ok-condition-in-Invariant.ensures

pub returns-in_ok-condition-in-Constraint : goal.returns-in_ok-condition-in-Constraint
returns-in_ok-condition-in-Constraint c = constraint_fits _ _ _ _ _ _ c.in-Constraint.ensures.value c.in_ok-condition-in-Constraint.ensures

pub returns-in_default : goal.returns-in_default
returns-in_default c = declares_refused _ _ _ _ _ _ c.seen.ensures.value c.in_default.not-Invariant c.in_default.not-Constraint c.in_default.not-MonitorsFor c.refusal-in_default.ensures
