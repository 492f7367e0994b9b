use Rattle.std.proofs.Common.{arith}
use Rattle.jr_code.specs.declared.instruction.Flow.TheVariants as flows
use Rattle.jr_code.specs.Views.{plain_of}
use Rattle.jr_code.specs.WellFormed.{plain_method, Rule}
use Rattle.jr_code.proofs.Flows.{WayBy, wrong_way}
use Rattle.jr_code.proofs.verifier.branch.Goals as goal

pub returns-then-to-at-clause-err : goal.returns-then-to-at-clause-err
returns-then-to-at-clause-err c =
    let over = c.if-to-at.true in
    Rule c.args.at (wrong_way (plain_of c.args.code.now) (plain_method c.args.code.now c.args.method.now) c.args.shapes.now c.args.at (flows.Branch c.args.to) c.args.kinds.now
    c.requires.leaves c.requires.sound (λ (h : WayBy c.args.at (flows.Branch c.args.to)). let r : ⊥ = omega arith in r))
