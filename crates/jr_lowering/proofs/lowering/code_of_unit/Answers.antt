use Rattle.std.proofs.Common.{◌≤◌, length, map, take, arith}
use Rattle.std.proofs.lemmas.List.{length-map}
use Rattle.jr_program.specs.UnitViews.{program_of, view_method}
use Rattle.jr_lowering.specs.ProgramCode.{method_code}
use Rattle.jr_lowering.proofs.Methods.{next_method, whole, whole_is_right}
use Rattle.jr_lowering.proofs.lowering.code_of_unit.Goals as goal

pub loop-number-preserved : goal.loop-number-preserved
loop-number-preserved c =
    next_method (program_of c.args.unit.now) c.loop-number.code c.lower_method.new.code c.add.new.list c.loop-number.number
    c.in_ok-method.method (view_method c.method.result.now) c.in_ok-method.ensures.keeps c.loop-number.invariant c.method.ensures.named
    c.in_ok-method.ensures.method c.in_ok-method.ensures.known c.in_ok-method.ensures.locals c.in_ok-add.ensures.items

pub returns-clause-well_formed : goal.returns-clause-well_formed
returns-clause-well_formed c =
    let program = program_of c.args.unit.now in
    let all : length (map view_method c.args.unit.now.methods) ≤ c.loop-number.number =
    omega (arith, length-map c.args.unit.now.methods view_method, c.method_count-number-end.ensures, c.loop-number-test.false) in
    whole_is_right program c.well_formed-2.ensures c.loop-number.code (map (method_code program) (take c.loop-number.number program.methods))
    c.loop-number.invariant (whole program c.loop-number.code c.loop-number.number all c.loop-number.invariant)
