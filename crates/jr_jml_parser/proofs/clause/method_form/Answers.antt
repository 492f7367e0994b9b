use Rattle.jr_jml_parser.proofs.Methods.{requires_fits, ensures_fits, when_fits, locks_fits, method_refused}
use Rattle.jr_jml_parser.proofs.clause.method_form.Goals as goal

pub returns-in_ok-condition-in-Requires : goal.returns-in_ok-condition-in-Requires
returns-in_ok-condition-in-Requires c = requires_fits _ _ _ _ _ c.in-Requires.ensures.value c.in_ok-condition-in-Requires.ensures

pub returns-in_ok-condition-in-Ensures : goal.returns-in_ok-condition-in-Ensures
returns-in_ok-condition-in-Ensures c = ensures_fits _ _ _ _ _ c.in-Ensures.ensures.value c.in_ok-condition-in-Ensures.ensures

pub returns-in_ok-condition-in-When : goal.returns-in_ok-condition-in-When
returns-in_ok-condition-in-When c = when_fits _ _ _ _ _ c.in-When.ensures.value c.in_ok-condition-in-When.ensures

pub returns-in_ok-owned-in-Locks : goal.returns-in_ok-owned-in-Locks
returns-in_ok-owned-in-Locks c = locks_fits _ _ _ _ _ c.in-Locks.ensures.value c.in_ok-owned-in-Locks.ensures

pub returns-in_default : goal.returns-in_default
returns-in_default c = method_refused _ _ _ _ _ c.seen.ensures.value c.in_default.not-Requires c.in_default.not-Ensures c.in_default.not-When c.in_default.not-Locks c.in_default.not-Assignable c.in_default.not-Modifies c.refusal.ensures
