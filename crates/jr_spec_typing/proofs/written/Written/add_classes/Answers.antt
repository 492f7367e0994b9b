use Rattle.std.proofs.Common.{arith}
use Rattle.jr_spec_typing.specs.Clauses.{setting_of, view_written}
use Rattle.jr_spec_typing.proofs.Adding.{moves_out, part_fails, part_goes_on, no_part_left}
use Rattle.jr_typing.specs.MadeViews.{view_class}
use Rattle.jr_typing_rules.specs.Specifications.{class_clauses}
use Rattle.jr_spec_typing.proofs.written.Written.add_classes.Goals as goal

pub returns-in_err-add_class : goal.returns-in_err-add_class
returns-in_err-add_class c =
    moves_out _ _ c.from_residual.result _ c.from_residual.ensures.1
    (part_fails (λ source. class_clauses (setting_of source c.args.names.now.names)) view_class (view_written c.loop-class.self) c.args.all.now c.class-item.result c.loop-class.class-index _ _ c.loop-class.invariant c.loop-class-test.true c.class-item.is
    c.in_err-add_class.ensures)

pub loop-class-preserved : goal.loop-class-preserved
loop-class-preserved c =
    part_goes_on (λ source. class_clauses (setting_of source c.args.names.now.names)) view_class (view_written c.loop-class.self) (view_written c.add_class.new.self) c.args.all.now c.class-item.result c.loop-class.class-index _
    c.loop-class.invariant c.loop-class-test.true c.class-item.is c.in_ok-add_class.ensures

pub returns : goal.returns
returns c = no_part_left (λ source. class_clauses (setting_of source c.args.names.now.names)) view_class (view_written c.loop-class.self) c.args.all.now c.loop-class.class-index _ c.loop-class.invariant (omega arith)
