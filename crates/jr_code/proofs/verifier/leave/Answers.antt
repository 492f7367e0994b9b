use Rattle.std.proofs.Common.{◌≤◌, subst, rules}
use Rattle.jr_code.specs.Views.{tables_of, plain_of}
use Rattle.jr_code.specs.Decoded.{meaning}
use Rattle.jr_code.specs.WellFormed.{plain_method}
use Rattle.jr_code.specs.Verifier.{HasEffect}
use Rattle.jr_code.proofs.Leaving.{no_instruction, no_effect, leaves_by, outside_rows}
use Rattle.jr_code.proofs.verifier.leave.Goals as goal

pub returns-in_default-clause-err : goal.returns-in_default-clause-err
returns-in_default-clause-err c =
    let n = c.get.result.now.code in
    no_instruction c.args.code.now c.args.method.now c.args.at c.args.kinds.now c.get.result.now c.get.ensures
    (c.requires.sound c.args.at c.args.kinds.now c.requires.there)
    (outside_rows n (λ (h : (1 ≤ n) × (n ≤ 93)). let e = c.in_default.ensures.row.1 h in search rules))

pub returns-then-not-branch-clause-err : goal.returns-then-not-branch-clause-err
returns-then-not-branch-clause-err c =
    no_effect c.args.code.now c.args.method.now c.args.at c.args.kinds.now c.get.result.now c.in-Some.instruction c.get.ensures
    (c.requires.sound c.args.at c.args.kinds.now c.requires.there) (c.in-Some.ensures.means (tables_of c.args.code.now))
    (subst (HasEffect (plain_of c.args.code.now) (plain_method c.args.code.now c.args.method.now) (meaning (tables_of c.args.code.now) c.in-Some.instruction) c.args.kinds.now c.apply.new.kinds)
    c.if-not-branch.true c.in_ok-apply.ensures)

pub returns-clause-ok : goal.returns-clause-ok
returns-clause-ok c =
    leaves_by c.args.code.now c.args.method.now c.args.shapes.now c.args.at c.args.kinds.now c.apply.new.kinds c.get.result.now c.in-Some.instruction c.flow.result
    c.get.ensures c.requires.there (c.in-Some.ensures.means (tables_of c.args.code.now))
    (subst (HasEffect (plain_of c.args.code.now) (plain_method c.args.code.now c.args.method.now) (meaning (tables_of c.args.code.now) c.in-Some.instruction) c.args.kinds.now c.apply.new.kinds)
    c.if-not-branch.false c.in_ok-apply.ensures)
    c.flow.ensures
