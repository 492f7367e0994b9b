use Rattle.std.proofs.Common.{option_map, sym, ap, ◌∙◌}
use Rattle.jr_typing_rules.specs.Scopes.{variable_named}
use Rattle.jr_typing.specs.Views.{view_variable}
use Rattle.jr_typing.proofs.Lookups.{variable_found}
use Rattle.jr_typing.proofs.scope.Scope.variable.Goals as goal

pub returns : goal.returns
unfolding variable_named
returns c = ap (option_map view_variable) (c.copied.ensures ∙ c.variable_named.ensures) ∙ sym (variable_found c.args.name.now c.args.self.now.variables.now)
