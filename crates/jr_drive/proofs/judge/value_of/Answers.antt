use Rattle.jr_program.specs.UnitViews.{program_of}
use Rattle.jr_program.specs.ClauseViews.{view_clause}
use Rattle.jr_heap.specs.Plain.{seen_in}
use Rattle.jr_clause_eval.specs.Scenes.{environment_of}
use Rattle.jr_drive.proofs.Judging.{worth_here}
use Rattle.jr_drive.proofs.judge.value_of.Goals as goal

pub value-requires : goal.value-requires
value-requires c = c.clauses_name_class_objects.ensures (program_of c.args.unit.now) c.well_formed-2.ensures c.args.number _ c.clause-clause.ensures

pub returns : goal.returns
returns c = worth_here (program_of c.args.unit.now) (seen_in c.args.heap.now) (environment_of c.args.env.now) c.args.number (view_clause c.clause-clause.result.now) c.none.result c.value.result
    c.clause-clause.ensures c.none.ensures c.value.ensures.value
