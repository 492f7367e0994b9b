use Rattle.std.proofs.Common.{Option}
use Rattle.jr_base.specs.Spare.{Spare}
use Rattle.jr_base.specs.declared.number.TextId.{TextId}
use Rattle.jr_code.specs.Views.{tables_of}
use Rattle.jr_thread_machine.proofs.Tables.{as_row, nothing, entry_at, no_entry, mapped_at, not_mapped, mapped_ok}
use Rattle.jr_thread_machine.proofs.frame.Frame.print_all.Goals as goal

pub returns-in-Some-clause-ok : goal.returns-in-Some-clause-ok
returns-in-Some-clause-ok c =
    mapped_ok _ _ c.print.result
    (λ flow s plain. as_row plain _ _ flow _ _
    (entry_at _ (tables_of c.args.code.now).prints c.args.place _ (mapped_at (λ (parts : Spare (Option TextId)). parts.items) c.args.code.now.prints.items c.args.place c.in-Some.parts.now c.in-Some.ensures)) (s plain))
    c.print.ensures.ok

pub returns-in-None-clause-ok : goal.returns-in-None-clause-ok
returns-in-None-clause-ok c = λ plain.
    nothing plain _ _ (no_entry _ (tables_of c.args.code.now).prints c.args.place (not_mapped (λ (parts : Spare (Option TextId)). parts.items) c.args.code.now.prints.items c.args.place c.in-None.ensures))
