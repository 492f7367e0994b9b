use Rattle.std.proofs.Common.{◌≡◌, ◌++◌, [], ◌∷◌}
use Rattle.std.specs.List.{repeat}
use Rattle.jr_base.specs.declared.kind.SlotKind.TheVariants.{Ref as Reference}
use Rattle.jr_lowering.proofs.method.add_references.Given as goal

abbrev pub invariant-loop : goal.invariant-loop
invariant-loop l = l.list.items ≡ l.initial.list.items ++ repeat l.counter (Reference ∷ [])
