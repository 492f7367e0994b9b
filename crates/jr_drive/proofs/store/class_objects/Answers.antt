use Rattle.std.proofs.Common.{◌≡◌, sym, subst, arith}
use Rattle.std.specs.Prelude.{true}
use Rattle.std.proofs.lemmas.List.{length-map}
use Rattle.jr_base.specs.declared.number.ClassId.{ClassId}
use Rattle.jr_program.specs.Slots.{class_count}
use Rattle.jr_program.specs.UnitViews.{program_of, view_class}
use Rattle.jr_meaning.specs.World.{ClassObject}
use Rattle.jr_drive.specs.Counted.{StandsFor}
use Rattle.jr_drive.specs.Blanks.{IsBlank}
use Rattle.jr_drive.proofs.Making.{of-class}
use Rattle.jr_drive.proofs.Starting.{young, young-none, young-more, young-all}
use Rattle.jr_drive.proofs.store.class_objects.Goals as goal

pub loop-number-init : goal.loop-number-init
loop-number-init c = young-none (program_of c.args.unit.now) c.new-made.result c.new-made.ensures.objects c.new-made.ensures.cells c.new-made.ensures.empty

pub loop-number-preserved : goal.loop-number-preserved
loop-number-preserved c =
    let program = program_of c.args.unit.now in
    let class : ClassId = record { 0 = c.loop-number.number } in
    let blank : IsBlank program class true c.as_slice.result.now = subst (IsBlank program class true) (sym c.as_slice.ensures) c.in_ok-values.ensures in
    young-more program c.add.new.self c.loop-number.number
    (c.in_ok-add.ensures.stands program (young program c.loop-number.number) (ClassObject class) (of-class program class c.as_slice.result.now blank) c.loop-number.invariant)

pub returns : goal.returns
returns c =
    let program = program_of c.args.unit.now in
    let classes = length-map c.args.unit.now.classes view_class in
    let end = c.class_count-number-end.ensures in
    let all : c.loop-number.number ≡ class_count program = omega arith in
    young-all program c.loop-number.made c.well_formed-2.ensures (subst (λ n. StandsFor program c.loop-number.made (young program n)) all c.loop-number.invariant)
