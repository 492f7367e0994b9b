use Rattle.std.proofs.Common.{List, ap, ◌∙◌, arith}
use Rattle.jr_typing_rules.specs.Notes.{in_formal, in_modifiers}
use Rattle.jr_ast.specs.declared.unit.Modifier.{Modifier}
use Rattle.jr_spec_typing.specs.Noted.{view_noted, and_words}
use Rattle.jr_spec_typing.proofs.Noting.{words_next, no_words_left}
use Rattle.jr_spec_typing.proofs.unjudged.Noted.add_formals.Goals as goal

pub loop-formal-preserved : goal.loop-formal-preserved
loop-formal-preserved c =
    words_next (in_formal) (view_noted c.loop-formal.self) (view_noted c.add_modifiers.new.self) _ c.args.all.now c.formal-item.result c.loop-formal.formal-index c.loop-formal.invariant c.loop-formal-test.true c.formal-item.is
    (c.in_ok-add_modifiers.ensures ∙ ap (λ (ms : List Modifier). and_words (view_noted c.loop-formal.self) (in_modifiers ms)) c.as_slice.ensures)

pub returns : goal.returns
returns c = no_words_left (in_formal) (view_noted c.loop-formal.self) _ c.args.all.now c.loop-formal.formal-index c.loop-formal.invariant (omega arith)
