use Rattle.std.proofs.Common.{◌≡◌, sym, subst, arith}
use Rattle.std.proofs.lemmas.List.{length-map}
use Rattle.jr_program.specs.Slots.{class_count}
use Rattle.jr_program.specs.UnitViews.{program_of, view_class}
use Rattle.jr_drive.proofs.Stores.{AreFirst, first-none, first-more, first-all}
use Rattle.jr_drive.proofs.blanks.blanks.Goals as goal

pub loop-number-init : goal.loop-number-init
loop-number-init c = subst (AreFirst (program_of c.args.unit.now) 0) (sym c.new-blanks.ensures) (first-none (program_of c.args.unit.now))

pub loop-number-preserved : goal.loop-number-preserved
loop-number-preserved c =
    subst (AreFirst (program_of c.args.unit.now) _) (sym c.in_ok-push.ensures.ok)
    (first-more (program_of c.args.unit.now) c.loop-number.number c.loop-number.blanks c.in_ok-blank.field-0 c.loop-number.invariant c.in_ok-blank.ensures)

pub returns : goal.returns
returns c =
    let program = program_of c.args.unit.now in
    let classes = length-map c.args.unit.now.classes view_class in
    let end = c.class_count-number-end.ensures in
    let all : c.loop-number.number ≡ class_count program = omega arith in
    first-all program c.loop-number.blanks c.well_formed-2.ensures (subst (λ n. AreFirst program n c.loop-number.blanks) all c.loop-number.invariant)
