use Rattle.std.proofs.Common.{◌≡◌, refl, List, [], ◌∷◌, Some}
use Rattle.jr_base.specs.declared.kind.SlotKind.{SlotKind}
use Rattle.jr_code.specs.Checked.{kinds_pushed}
use Rattle.jr_code.specs.Verifier.{Changes}
use Rattle.jr_code.proofs.kinds.Kinds.change.Goals as goal

-- what cannot be taken cannot be exchanged
none : (takes : List SlotKind) (k : SlotKind) (before other : List SlotKind) → ((rest : List SlotKind) → before ≡ kinds_pushed takes rest → ⊥) → Changes takes (Some k) before other → ⊥
none [] k before other h e = h before refl
none (t ∷ ts) k before other h e = h e.0 e.1

pub returns-then-not-take : goal.returns-then-not-take
returns-then-not-take c = λ other e. none c.args.takes.now c.args.gives c.args.self.now other c.if-not-take.ensures e
