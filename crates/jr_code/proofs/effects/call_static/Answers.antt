use Rattle.std.proofs.Common.{◌++◌}
use Rattle.jr_code.specs.Instructions.{CallStaticMethod}
use Rattle.jr_code.specs.Checked.{this_kind}
use Rattle.jr_code.specs.Views.{plain_of}
use Rattle.jr_code.specs.WellFormed.{plain_method}
use Rattle.jr_code.specs.Verifier.{HasCalled, HasEffect}
use Rattle.jr_code.proofs.Fields.{ok_map}
use Rattle.jr_code.proofs.Calls.{calls_static, nowhere, static_of}
use Rattle.jr_code.proofs.effects.call_static.Goals as goal

pub returns-then-callee : goal.returns-then-callee
returns-then-callee c =
    let l = c.in-Some.callee.now in
    ok_map (HasCalled (this_kind l.is_static ++ l.formals.items) l.result c.args.kinds.now c.call.new.kinds)
    (HasEffect (plain_of c.args.code.now) (plain_method c.args.code.now c.args.method.now) (CallStaticMethod c.args.called) c.args.kinds.now c.call.new.kinds)
    c.call.result
    (λ r h. calls_static c.args.code.now (plain_method c.args.code.now c.args.method.now) c.args.called l c.args.kinds.now c.call.new.kinds r c.in-Some.ensures c.if-callee.true h)
    c.call.ensures

pub returns-in-None : goal.returns-in-None
returns-in-None c = λ other e. nowhere c.args.code.now c.args.called c.in-None.ensures e.0 e.2

pub returns-else-callee : goal.returns-else-callee
returns-else-callee c = λ other e.
    let same = static_of c.args.code.now c.args.called c.in-Some.callee.now e.0 c.in-Some.ensures e.2 in
    let no = c.if-callee.false in
    let yes = e.3 in
    absurd (cc)
