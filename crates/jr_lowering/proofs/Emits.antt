-- What is emitted behind what stands already.
use Rattle.std.proofs.Common.{◌≡◌, List, [], ◌∷◌, ◌++◌, map}
use Rattle.std.proofs.lemmas.List.{map-append}
use Rattle.jr_code.specs.declared.code.Region.{Region}
use Rattle.jr_code.specs.Views.{region_of}
use Rattle.jr_lowering.specs.declared.op.Op.{Op}
use Rattle.jr_lowering.specs.Ops.{means}

pub one_more : (ops : List Op) (op : Op) → map means (ops ++ op ∷ []) ≡ map means ops ++ means op ∷ []
one_more ops op = map-append means ops (op ∷ [])

pub region_more : (all : List Region) (r : Region) → map region_of (all ++ r ∷ []) ≡ map region_of all ++ region_of r ∷ []
region_more all r = map-append region_of all (r ∷ [])
