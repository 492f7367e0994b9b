use Rattle.std.proofs.Common.{◌≡◌, true, sym, subst, ◌∙◌}
use Rattle.jr_program.specs.UnitViews.{program_of}
use Rattle.jr_built.specs.Built.{is_built}
use Rattle.jr_cli.specs.Works.{RunsProgram}
use Rattle.jr_cli.proofs.Working.{has_run}
use Rattle.jr_cli.proofs.outcome.run.Goals as goal

pub returns : goal.returns
returns c =
    let same = c.in_ok-program.ensures in
    let built : is_built (program_of c.args.unit) ≡ true = sym c.is_built.ensures ∙ c.if-not-is_built.false in
    subst (λ u. RunsProgram (program_of u) c.args.budget c.drive_serial.result) same
    (has_run c.serial_runs_are_right.ensures c.serial_prefixes_are_right.ensures c.in_ok-program.program c.args.budget c.drive_serial.result
    (subst (λ u. is_built (program_of u) ≡ true) (sym same) built) c.drive_serial.ensures.unit c.drive_serial.ensures.budget c.drive_serial.ensures.run
    c.drive_serial.ensures.cut_off)
