use Rattle.std.proofs.Common.{◌≡◌, drop}
use Rattle.jr_typing_rules.specs.Answers.{one_by_one}
use Rattle.jr_typing_rules.specs.Resolution.{and_field}
use Rattle.jr_names.specs.Views.{view_known}
use Rattle.jr_names.proofs.known.Known.add_declared.Given as goal

abbrev pub invariant-loop-declarator : goal.invariant-loop-declarator
invariant-loop-declarator l =
    one_by_one (and_field l.is_static l.of) (view_known l.self) (drop l.declarator-index l.all) ≡ one_by_one (and_field l.is_static l.of) (view_known l.initial.self) l.all
