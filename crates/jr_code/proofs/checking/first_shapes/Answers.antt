use Rattle.std.proofs.Common.{◌≡◌, Some, sym, subst}
use Rattle.std.specs.Prelude.{slice_get}
use Rattle.jr_code.specs.Paths.{Reaches, Begins}
use Rattle.jr_code.specs.Views.{plain_of}
use Rattle.jr_code.specs.WellFormed.{plain_method}
use Rattle.jr_code.proofs.Methods.{nothing_there}
use Rattle.jr_code.proofs.checking.first_shapes.Goals as goal

pub reach-requires-clause-path : goal.reach-requires-clause-path
reach-requires-clause-path c = subst (Reaches (plain_of c.args.code.now) (plain_method c.args.code.now c.args.method.now) 0) (sym c.new-nothing.ensures) Begins

pub reach-requires-clause-sound : goal.reach-requires-clause-sound
reach-requires-clause-sound c = λ at ks e.
    absurd (nothing_there c.len.result at ks (subst (λ s. slice_get s at ≡ Some (Some ks)) c.in_ok-shapes.ensures e))
