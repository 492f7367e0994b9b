use Rattle.std.proofs.Common.{◌≡◌, drop}
use Rattle.jr_typing_rules.specs.Answers.{one_by_one}
use Rattle.jr_typing_rules.specs.Declarations.{makes_field}
use Rattle.jr_typing.specs.MadeViews.{view_fields}
use Rattle.jr_typing.proofs.field.FieldsMade.add_declared.Given as goal

abbrev pub invariant-loop-declarator : goal.invariant-loop-declarator
invariant-loop-declarator l =
    one_by_one (makes_field l.names.names l.common.class l.common.is_static l.common.is_volatile l.common.of) (view_fields l.self) (drop l.declarator-index l.all)
    ≡ one_by_one (makes_field l.names.names l.common.class l.common.is_static l.common.is_volatile l.common.of) (view_fields l.initial.self) l.all
