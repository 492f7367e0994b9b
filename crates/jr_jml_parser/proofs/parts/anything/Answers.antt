use Rattle.std.proofs.Common.{sym, ◌∙◌, arith}
use Rattle.jr_jml_parser.proofs.Pieces.{anything_ends, skipped_more}
use Rattle.jr_jml_parser.proofs.parts.anything.Goals as goal

pub loop-next-preserved : goal.loop-next-preserved
loop-next-preserved c = skipped_more _ _ _ c.loop-next.invariant (λ h. c.in_default.not-Semicolon (c.seen.ensures.value ∙ h)) (sym c.is_jml.ensures ∙ c.if-not-is_jml.false)

pub returns : goal.returns
returns c = anything_ends _ _ _ c.loop-next.invariant (omega arith)
