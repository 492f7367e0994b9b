use Rattle.std.proofs.Common.{sym, ◌∙◌}
use Rattle.jr_jml_parser.specs.Grammar.{equal}
use Rattle.jr_jml_parser.proofs.Ties.{tie_arrow, tie_open}
use Rattle.jr_jml_parser.proofs.parts.tie.Goals as goal

pub returns-in-Equal : goal.returns-in-Equal
returns-in-Equal c = equal (sym c.in-Equal.ensures.value)

pub returns-in-Less : goal.returns-in-Less
returns-in-Less c = tie_arrow _ _ c.take.result (sym c.in-Less.ensures.value) c.take.ensures

pub returns-in_default : goal.returns-in_default
returns-in_default c = tie_open _ _ _ (λ h. c.in_default.not-Equal (c.seen.ensures.value ∙ h)) (λ h. c.in_default.not-Less (c.seen.ensures.value ∙ h)) c.refusal.ensures
