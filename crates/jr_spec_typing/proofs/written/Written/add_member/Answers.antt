use Rattle.std.proofs.Common.{◌≡◌, List, ap, ◌∙◌}
use Rattle.jr_ast.specs.declared.unit.Modifier.{Modifier}
use Rattle.jr_typing_rules.specs.Modifiers.{mode_in, said_mode}
use Rattle.jr_spec_typing.proofs.written.Written.add_member.Goals as goal

pub returns-in-Method : goal.returns-in-Method
returns-in-Method c =
    let mode = c.args.home.now.mode in
    let said : c.mode_in-mode.result ≡ mode_in mode (said_mode c.in-Method.method.source.now.modifiers) =
    c.mode_in-mode.ensures ∙ ap (λ (ms : List Modifier). mode_in mode (said_mode ms)) c.as_slice.ensures in
    rw (c.in-Method.is, ← said) c.add_method.ensures
