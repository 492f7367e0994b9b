use Rattle.std.proofs.Common.{arith}
use Rattle.jr_ast.specs.declared.unit.Modifier.{Modifier}
use Rattle.jr_typing_rules.specs.Notes.{in_modifier}
use Rattle.jr_spec_typing.specs.Noted.{view_noted}
use Rattle.jr_spec_typing.proofs.Noting.{no_words_left}
use Rattle.jr_spec_typing.proofs.unjudged.Noted.add_modifiers.Goals as goal

pub returns : goal.returns
returns c = no_words_left (λ (m : Modifier). in_modifier m.place m.kind) (view_noted c.loop-modifier.self) _ c.args.all.now c.loop-modifier.modifier-index c.loop-modifier.invariant (omega arith)
