use Rattle.jr_cli.proofs.ended.write_work.Goals as goal

pub returns-in-Checked-clause-bytes : goal.returns-in-Checked-clause-bytes
returns-in-Checked-clause-bytes g c = rw c.in-Checked.is c.write_check.ensures.bytes
