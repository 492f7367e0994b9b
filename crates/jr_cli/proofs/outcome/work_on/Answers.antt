use Rattle.jr_cli.proofs.Working.{refused_source, refused_run, handed_on}
use Rattle.jr_cli.proofs.outcome.work_on.Goals as goal

pub returns-in_err-unit : goal.returns-in_err-unit
returns-in_err-unit c =
    handed_on c.args.command c.args.bytes.now c.from_residual.result c.in_err-unit.field-0.0 c.from_residual.ensures.1
    (refused_source c.args.command c.args.bytes.now c.in_err-unit.field-0.0 c.in_err-unit.ensures)

pub returns-in_err-run-in-RunSerial : goal.returns-in_err-run-in-RunSerial
returns-in_err-run-in-RunSerial c =
    rw c.in-RunSerial.is
    (handed_on _ c.args.bytes.now c.from_residual-in_err-run-in-RunSerial.result c.in_err-run-in-RunSerial.field-0.0 c.from_residual-in_err-run-in-RunSerial.ensures.1
    (refused_run c.in-RunSerial.seed c.in-RunSerial.budget c.args.bytes.now c.in_ok-unit.unit c.in_err-run-in-RunSerial.field-0.0 c.in_ok-unit.ensures
    c.in_err-run-in-RunSerial.ensures))
