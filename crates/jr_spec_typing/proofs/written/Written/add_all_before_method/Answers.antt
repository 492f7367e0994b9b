use Rattle.std.proofs.Common.{arith}
use Rattle.jr_spec_typing.specs.Clauses.{setting_of, view_written}
use Rattle.jr_spec_typing.proofs.Adding.{moves_out, part_fails, part_goes_on, no_part_left}
use Rattle.jr_ast.specs.Clauses.{view_method_clause}
use Rattle.jr_typing.specs.MadeViews.{view_method}
use Rattle.jr_typing_rules.specs.Specifications.{method_clause}
use Rattle.jr_spec_typing.proofs.written.Written.add_all_before_method.Goals as goal

pub returns-in_err-add_before_method : goal.returns-in_err-add_before_method
returns-in_err-add_before_method c =
    moves_out _ _ c.from_residual.result _ c.from_residual.ensures.1
    (part_fails (λ source. method_clause (setting_of source c.args.home.now.names.now.names) c.args.home.now.mode (view_method c.args.home.now.method.now)) view_method_clause (view_written c.loop-clause.self) c.args.all.now c.clause-item.result c.loop-clause.clause-index _ _ c.loop-clause.invariant c.loop-clause-test.true c.clause-item.is
    c.in_err-add_before_method.ensures)

pub loop-clause-preserved : goal.loop-clause-preserved
loop-clause-preserved c =
    part_goes_on (λ source. method_clause (setting_of source c.args.home.now.names.now.names) c.args.home.now.mode (view_method c.args.home.now.method.now)) view_method_clause (view_written c.loop-clause.self) (view_written c.add_before_method.new.self) c.args.all.now c.clause-item.result c.loop-clause.clause-index _
    c.loop-clause.invariant c.loop-clause-test.true c.clause-item.is c.in_ok-add_before_method.ensures

pub returns : goal.returns
returns c = no_part_left (λ source. method_clause (setting_of source c.args.home.now.names.now.names) c.args.home.now.mode (view_method c.args.home.now.method.now)) view_method_clause (view_written c.loop-clause.self) c.args.all.now c.loop-clause.clause-index _ c.loop-clause.invariant (omega arith)
