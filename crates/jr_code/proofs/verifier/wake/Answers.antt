use Rattle.std.proofs.Common.{◌≤◌, length, sym, subst, arith}
use Rattle.jr_code.specs.Verifier.{SweptTo}
use Rattle.jr_code.specs.Views.{plain_of}
use Rattle.jr_code.specs.WellFormed.{plain_method}
use Rattle.jr_code.proofs.Handlers.{settled_awake, settled_asleep}
use Rattle.jr_code.proofs.verifier.wake.Goals as goal

pub returns-in-Some-clause-ok : goal.returns-in-Some-clause-ok
returns-in-Some-clause-ok c =
    let code = plain_of c.args.code.now in
    let m = plain_method c.args.code.now c.args.method.now in
    let inside : c.args.at ≤ length c.args.shapes.now = omega arith in
    subst (SweptTo code m c.args.shapes.now c.catch.new.shapes 0) (sym c.min.ensures)
    (settled_awake code m c.args.shapes.now c.catch.new.shapes c.args.at c.in-Some.place c.requires.settled inside (rw c.in-Some.is at c.in_ok-place.ensures.ok))

pub returns-in-None-clause-ok : goal.returns-in-None-clause-ok
returns-in-None-clause-ok c =
    let code = plain_of c.args.code.now in
    let m = plain_method c.args.code.now c.args.method.now in
    let inside : c.args.at ≤ length c.args.shapes.now = omega arith in
    let asleep = rw c.in-None.is at c.in_ok-place.ensures.ok in
    settled_asleep code m c.args.shapes.now c.catch.new.shapes c.args.at c.requires.settled inside c.requires.sound asleep.0
