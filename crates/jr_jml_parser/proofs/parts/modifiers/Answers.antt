use Rattle.std.proofs.Common.{refl, sym, ◌∙◌, ap}
use Rattle.jr_jml_parser.specs.Grammar.{is_visibility}
use Rattle.jr_jml_parser.specs.Parts.{is_modifier}
use Rattle.jr_jml_parser.proofs.Modifiers.{one_visible, one_static, all_passed, no_modifier, a_visibility, visibility_modifies, nearer}
use Rattle.jr_jml_parser.proofs.parts.modifiers.Goals as goal

pub loop-next-smaller-in-Public : goal.loop-next-smaller-in-Public
loop-next-smaller-in-Public c = nearer _ _ _ c.seen.ensures.value (visibility_modifies _ c.in-Public.is)

pub loop-next-smaller : goal.loop-next-smaller
loop-next-smaller c = nearer _ _ _ c.in-Static.ensures.value refl

pub loop-next-preserved-in-Public : goal.loop-next-preserved-in-Public
loop-next-preserved-in-Public c = one_visible _ _ _ _ c.loop-next.invariant (ap is_visibility (sym c.seen.ensures.value) ∙ a_visibility _ c.in-Public.is)

pub loop-next-preserved : goal.loop-next-preserved
loop-next-preserved c = one_static _ _ _ _ c.loop-next.invariant (sym c.in-Static.ensures.value)

pub returns-in_default : goal.returns-in_default
returns-in_default c = all_passed _ _ _ _ c.loop-next.invariant (ap is_modifier (sym c.seen.ensures.value) ∙ no_modifier _ c.in_default.not-Public c.in_default.not-Private c.in_default.not-Protected c.in_default.not-Static)
