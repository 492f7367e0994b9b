use Rattle.std.proofs.Common.{◌-◌, length, sym, ◌∙◌, arith, length-take-le}
use Rattle.jr_lexer.proofs.Ends.{ends_otherwise, ends_so}
use Rattle.jr_lexer.proofs.scan.without_last_ats.Goals as goal

pub returns-then-last-ne64-clause-value : goal.returns-then-last-ne64-clause-value
returns-then-last-ne64-clause-value c = sym (ends_otherwise c.loop-z.z.now (omega arith) c.if-last-ne64.true) ∙ c.loop-z.invariant.0

pub loop-z-preserved : goal.loop-z-preserved
loop-z-preserved c = (ends_so c.loop-z.z.now (omega arith) c.if-last-ne64.false ∙ c.loop-z.invariant.0, omega (arith, length-take-le (length c.loop-z.z.now - 1) c.loop-z.z.now (omega arith)))
