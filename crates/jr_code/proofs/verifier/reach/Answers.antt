use Rattle.jr_code.specs.Views.{plain_of}
use Rattle.jr_code.specs.WellFormed.{plain_method, Merge, Rule}
use Rattle.jr_code.proofs.Growth.{first_there, same_there}
use Rattle.jr_code.proofs.verifier.reach.Goals as goal

pub returns-in-First-clause-ok : goal.returns-in-First-clause-ok
returns-in-First-clause-ok c =
    let h = rw c.in-First.is at c.in_ok-arrival.ensures in
    first_there (plain_of c.args.code.now) (plain_method c.args.code.now c.args.method.now) c.args.shapes.now c.arrive.new.self c.args.at c.args.kinds.now
    c.requires.path c.requires.sound h.0 h.1

pub returns-in-Same-clause-ok : goal.returns-in-Same-clause-ok
returns-in-Same-clause-ok c =
    let h = rw c.in-Same.is at c.in_ok-arrival.ensures in
    same_there (plain_of c.args.code.now) (plain_method c.args.code.now c.args.method.now) c.args.shapes.now c.arrive.new.self c.args.at c.args.kinds.now
    c.requires.sound h.0 h.1

pub returns-in-Other-clause-err : goal.returns-in-Other-clause-err
returns-in-Other-clause-err c =
    let other = rw c.in-Other.is at c.in_ok-arrival.ensures in
    Rule c.args.at (Merge c.args.at other.0 c.args.kinds.now (c.requires.sound c.args.at other.0 other.1) c.requires.path other.2)
