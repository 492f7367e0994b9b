use Rattle.jr_code.specs.Views.{tables_of, assert_of}
use Rattle.jr_thread_machine.proofs.Tables.{as_row, nothing, entry_at, no_entry, mapped_at, not_mapped, mapped_ok}
use Rattle.jr_thread_machine.proofs.frame.Frame.assert_that.Goals as goal

pub returns-in-Some-clause-ok : goal.returns-in-Some-clause-ok
returns-in-Some-clause-ok c =
    mapped_ok _ _ c.assert_clause.result
    (λ flow s plain. as_row plain _ _ flow _ _
    (entry_at _ (tables_of c.args.code.now).asserts c.args.place _ (mapped_at assert_of c.args.code.now.asserts.items c.args.place c.in-Some.asserted.now c.in-Some.ensures)) (s plain))
    c.assert_clause.ensures.ok

pub returns-in-None-clause-ok : goal.returns-in-None-clause-ok
returns-in-None-clause-ok c = λ plain.
    nothing plain _ _ (no_entry _ (tables_of c.args.code.now).asserts c.args.place (not_mapped assert_of c.args.code.now.asserts.items c.args.place c.in-None.ensures))
