use Rattle.std.proofs.Common.{ap, sym}
use Rattle.jr_base.specs.declared.value.Value.TheVariants as values
use Rattle.jr_code.specs.Instructions.{Push}
use Rattle.jr_thread_machine.proofs.Tables.{as_row}
use Rattle.jr_thread_machine.proofs.frame.Frame.push_object.Goals as goal

pub returns-clause-ok : goal.returns-clause-ok
returns-clause-ok c = λ plain. as_row plain _ _ _ _ _ (ap (λ o. Push (values.Ref o)) (sym c.in_ok-object.ensures)) (c.constant.ensures plain)
