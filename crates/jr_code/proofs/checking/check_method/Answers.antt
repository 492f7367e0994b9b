use Rattle.std.proofs.Common.{refl, sym, subst, arith, rules}
use Rattle.jr_code.specs.Checked.{NoneCaught}
use Rattle.jr_code.specs.WellFormed.{Rule, Locals, CaughtFormal, CaughtResult}
use Rattle.jr_code.proofs.Methods.{well_formed, exit_breaks, empty_breaks, no_items}
use Rattle.jr_code.proofs.checking.check_method.Goals as goal

pub returns-then-not-locals_begin-clause-err : goal.returns-then-not-locals_begin-clause-err
returns-then-not-locals_begin-clause-err c = Locals (λ b. let h = c.if-not-locals_begin.ensures.1 b in search rules)

pub returns-then-not-are_values-clause-err : goal.returns-then-not-are_values-clause-err
returns-then-not-are_values-clause-err c =
    Rule 0 (CaughtFormal (λ f. let h = c.if-not-are_values.ensures.1 (subst NoneCaught (sym c.as_slice.ensures) f) in search rules))

pub returns-in-Some-clause-err : goal.returns-in-Some-clause-err
returns-in-Some-clause-err c =
    exit_breaks c.args.code.now c.args.method.now c.in-Some._number (c.if-not-locals_begin.ensures.0 (search rules)) c.in-Some.ensures

pub returns-then-gives_caught-clause-err : goal.returns-then-gives_caught-clause-err
returns-then-gives_caught-clause-err c = Rule 0 (CaughtResult (c.if-gives_caught.ensures.0 refl))

pub returns-then-length-eq0-clause-err : goal.returns-then-length-eq0-clause-err
returns-then-length-eq0-clause-err c = empty_breaks c.args.code.now c.args.method.now (no_items c.args.method.now.instrs.items (omega arith))

pub returns : goal.returns
returns c =
    let w = well_formed c.args.code.now c.args.method.now c.in_ok-shapes.shapes c.settle.new.shapes c.deepest.result (c.if-not-locals_begin.ensures.0 refl)
    (subst NoneCaught c.as_slice.ensures (c.if-not-are_values.ensures.0 refl)) (λ e. let h = c.if-gives_caught.ensures.1 e in absurd (cc))
    c.in_default.ensures c.in_ok-shapes.ensures.size c.in_ok-shapes.ensures.begins c.in_ok-settle.ensures.ok c.in_ok-settle.ensures.settled c.in_ok-settle.ensures.caught
    c.deepest.ensures in
    record { ok = w.0; depth = w.1; err = tt }
