use Rattle.std.proofs.Common.{◌≡◌, ◌∙◌, ap, sym, suc, take, arith}
use Rattle.std.proofs.lemmas.List.{length-map}
use Rattle.jr_program.specs.Programs.{numbered}
use Rattle.jr_program.specs.UnitViews.{program_of, view_class}
use Rattle.jr_meaning.specs.Due.{field_of_kind}
use Rattle.jr_meaning.specs.History.{world_after}
use Rattle.jr_report.proofs.Made.{class-object}
use Rattle.jr_report.proofs.sites.home_of.Goals as goal

pub returns-then-number-classes : goal.returns-then-number-classes
returns-then-number-classes c slot =
    let program = program_of c.args.unit.now in let before = take c.args.pass.now.at c.args.journal.now.entries in
    let next : c.args.object.0 ≡ suc c.in_ok-number.number = omega (arith, c.in_ok-number.ensures.0, c.in_ok-number.ensures.1) in
    sym (ap (λ n. field_of_kind program (numbered (world_after program before).objects n) slot) next
    ∙ ap (λ o. field_of_kind program o slot) (class-object program before c.in_ok-number.number (omega (arith, c.if-number-classes.true, c.class_count-classes.ensures, length-map c.args.unit.now.classes view_class))))
