use Rattle.std.proofs.Common.{◌≡◌, map, refl}
use Rattle.jr_program.specs.UnitViews as unit
use Rattle.jr_safepoints.specs.Due.{clauses_in}
use Rattle.jr_safepoints.proofs.Fielding.{field_put, field_counted}
use Rattle.jr_typing.specs.MadeViews.{view_field}
use Rattle.jr_safepoints.proofs.assembly.Assembly.add_field.Goals as goal

-- src/assembly.rt:125:5
pub returns-clause-added : goal.returns-clause-added
returns-clause-added c =
    field_put (clauses_in c.args.owned.now) c.args.self.now
    (record { classes = c.args.self.now.classes; fields = c.push.new.self; methods = c.args.self.now.methods; slots = c.take.new.self }) (view_field c.args.field.now) _ c.in_ok-due_at_access.ensures (rw c.kind_of.ensures refl)
    (c.in_ok-slot.ensures.slot (map unit.view_field c.args.self.now.fields) c.requires.counts) refl c.in_ok-push.ensures.ok refl

-- src/assembly.rt:125:5
pub returns-clause-counted : goal.returns-clause-counted
returns-clause-counted c =
    field_counted c.args.self.now.fields c.push.new.self _ c.take.new.self c.in_ok-push.ensures.ok
    (c.in_ok-slot.ensures.counted (map unit.view_field c.args.self.now.fields) _ refl refl c.requires.counts)
