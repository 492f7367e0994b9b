use Rattle.std.proofs.Common.{arith}
use Rattle.std.proofs.lemmas.List.{length-map}
use Rattle.jr_code.specs.Coded.{plain}
use Rattle.jr_code.specs.Paths.{Follows}
use Rattle.jr_code.specs.Views.{tables_of}
use Rattle.jr_code.specs.WellFormed.{RunsOff, Rule}
use Rattle.jr_code.proofs.verifier.advance.Goals as goal

pub returns-then-to-len-clause-err : goal.returns-then-to-len-clause-err
returns-then-to-len-clause-err c =
    let l = c.requires.leads in
    let size = length-map c.args.method.now.instrs.items (plain (tables_of c.args.code.now)) in
    Rule c.args.at (RunsOff c.args.at c.args.to l.leaves.before c.args.kinds.now l.instruction (c.requires.sound c.args.at l.leaves.before l.leaves.shape)
    l.leaves.stands l.leaves.effect l.next (omega (arith, size)))

pub reach-requires-clause-path : goal.reach-requires-clause-path
reach-requires-clause-path c =
    let l = c.requires.leads in
    Follows c.args.at c.args.to l.leaves.before c.args.kinds.now l.instruction (c.requires.sound c.args.at l.leaves.before l.leaves.shape)
    l.leaves.stands l.leaves.effect l.next
