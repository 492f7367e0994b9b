use Rattle.std.proofs.Common.{arith}
use Rattle.jr_typing.specs.MadeViews.{view_method}
use Rattle.jr_spec_typing.specs.Clauses.{setting_of, view_written}
use Rattle.jr_spec_typing.proofs.Adding.{moves_out}
use Rattle.jr_spec_typing.proofs.Asserting.{assert_fails, assert_goes_on, no_assert_left}
use Rattle.jr_spec_typing.proofs.written.Written.add_asserts.Goals as goal

pub returns-in_err-add_assert : goal.returns-in_err-add_assert
returns-in_err-add_assert c =
    moves_out _ _ c.from_residual.result _ c.from_residual.ensures.1
    (assert_fails (λ source. setting_of source c.args.home.now.names.now.names) c.args.home.now.mode (view_method c.args.home.now.method.now) (view_written c.loop-step.self) (view_written c.args.self.now)
    c.loop-step.environment c.args.steps.now c.step-item.result c.loop-step.step-index _ c.loop-step.invariant c.loop-step-test.true c.step-item.is c.in_err-add_assert.ensures.clauses)

pub loop-step-preserved : goal.loop-step-preserved
loop-step-preserved c =
    assert_goes_on (λ source. setting_of source c.args.home.now.names.now.names) c.args.home.now.mode (view_method c.args.home.now.method.now) (view_written c.loop-step.self) (view_written c.add_assert.new.self)
    c.loop-step.environment c.add_assert.new.environment c.args.steps.now c.step-item.result c.loop-step.step-index _ c.loop-step.invariant c.loop-step-test.true c.step-item.is
    c.in_ok-add_assert.ensures.scope c.in_ok-add_assert.ensures.clauses

pub returns : goal.returns
returns c =
    no_assert_left (λ source. setting_of source c.args.home.now.names.now.names) c.args.home.now.mode (view_method c.args.home.now.method.now) (view_written c.loop-step.self) (view_written c.args.self.now)
    c.loop-step.environment c.args.steps.now c.loop-step.step-index c.loop-step.invariant (omega arith)
