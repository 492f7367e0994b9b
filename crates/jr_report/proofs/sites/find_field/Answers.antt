use Rattle.std.proofs.Common.{◌<◌, ◌∙◌, sym, arith}
use Rattle.jr_program.specs.UnitViews.{program_of}
use Rattle.jr_report.proofs.Fields.{field-there, field-here, field-passed, field-elsewhere}
use Rattle.jr_report.proofs.sites.find_field.Goals as goal
use Rattle.jr_report.proofs.sites.find_field.Goals.{then-lies_there+else-left-eq0, else-lies_there}

pub returns-then-left-eq0 : goal.returns-then-left-eq0
returns-then-left-eq0 c =
    let there = field-there c.args.unit.now.fields c.loop-number.number (omega (arith, c.loop-number-test.true, c.field_count-number-end.ensures)) in
    sym (field-here c.args.home.class c.args.home.is_static (program_of c.args.unit.now).fields c.loop-number.number c.loop-number.left there.0 there.1
    (sym (c.if-lies_there.ensures there.0 there.1)) c.if-left-eq0.true)
    ∙ c.loop-number.invariant

pub loop-number-preserved : goal.loop-number-preserved
loop-number-preserved c =
    let there = field-there c.args.unit.now.fields c.loop-number.number (omega (arith, c.loop-number-test.true, c.field_count-number-end.ensures)) in
    let fields = (program_of c.args.unit.now).fields in
    elim c.if-lies_there.branch [
      | then-lies_there+else-left-eq0 w ↦
          (let some : 0 < c.loop-number.left = omega (arith, w.if-left-eq0.false) in
          rw w.left-is (field-passed c.args.home.class c.args.home.is_static fields c.loop-number.number c.loop-number.left there.0 there.1
          (sym (w.if-lies_there.ensures there.0 there.1)) some ∙ c.loop-number.invariant))
      | else-lies_there w ↦
          rw w.left-is (field-elsewhere c.args.home.class c.args.home.is_static fields c.loop-number.number c.loop-number.left there.0 there.1
          (sym (w.if-lies_there.ensures there.0 there.1)) ∙ c.loop-number.invariant)
    ]
