use Rattle.std.proofs.Common.{◌≡◌, drop, slice_get}
use Rattle.jr_program.specs.Slots.{fields_from, field_in}
use Rattle.jr_program.specs.UnitViews.{program_of}
use Rattle.jr_report.proofs.sites.find_field.Given as goal

-- the field is that one of those to come
abbrev pub invariant-loop-number : goal.invariant-loop-number
invariant-loop-number l =
    slice_get (fields_from l.home.class l.home.is_static l.number (drop l.number (program_of l.unit).fields)) l.left
    ≡ field_in (program_of l.unit) l.home.class l.home.is_static l.slot
