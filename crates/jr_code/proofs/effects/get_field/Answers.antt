use Rattle.std.proofs.Common.{[], ◌∷◌, Some, sym}
use Rattle.std.specs.Prelude.{slice_get}
use Rattle.std.specs.Option.{option_map_or}
use Rattle.jr_base.specs.declared.kind.SlotKind.TheVariants.{Ref as Reference}
use Rattle.jr_code.specs.Instructions.{GetField, Unknown}
use Rattle.jr_code.specs.Coded.{instance_field}
use Rattle.jr_code.specs.Verifier.{HasChanged, HasEffect}
use Rattle.jr_code.specs.Views.{tables_of, plain_of}
use Rattle.jr_code.specs.WellFormed.{plain_method}
use Rattle.jr_code.proofs.Fields.{read_instance, ok_map}
use Rattle.jr_code.proofs.effects.get_field.Goals as goal

pub returns-in-Some : goal.returns-in-Some
returns-in-Some c =
    let code = c.args.code.now in
    let field = slice_get (tables_of code).fields c.args.field in
    ok_map (HasChanged (Reference ∷ []) (Some c.in-Some.kind) c.args.kinds.now c.change.new.self)
    (HasEffect (plain_of code) (plain_method code c.args.method.now) (option_map_or (instance_field GetField) field Unknown) c.args.kinds.now c.change.new.self)
    c.change.result
    (λ r h. read_instance (plain_of code) (plain_method code c.args.method.now) field c.in-Some.kind c.args.kinds.now c.change.new.self r (sym c.in-Some.ensures) h)
    c.change.ensures
