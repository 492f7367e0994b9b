use Rattle.jr_code.specs.Views.{tables_of}
use Rattle.jr_thread_machine.proofs.Tables.{as_row, entry_at, mapped_ok}
use Rattle.jr_thread_machine.proofs.frame.Frame.push_class.Goals as goal

pub returns-in-Some-clause-ok : goal.returns-in-Some-clause-ok
returns-in-Some-clause-ok c =
    mapped_ok _ _ c.push_object.result
    (λ flow s plain. as_row plain _ _ flow _ _ (entry_at _ (tables_of c.args.code.now).classes c.args.place c.in-Some.class.now c.in-Some.ensures) (s plain))
    c.push_object.ensures.ok
