use Rattle.std.proofs.Common.{sym, subst}
use Rattle.jr_code.specs.Shapes.{BeginsEmpty, IsLongest}
use Rattle.jr_code.proofs.Places.{begins_empty, deepest_of}
use Rattle.jr_code.proofs.shapes.Shapes.deepest.Goals as goal

pub longest-requires : goal.longest-requires
longest-requires c =
    subst BeginsEmpty (sym c.as_slice.ensures.value)
    (begins_empty c.self.inside.kinds.items c.self.inside.places.items c.args.self.now c.self.view_is c.self.invariant c.requires)

pub returns : goal.returns
returns c =
    deepest_of c.self.inside.kinds.items c.self.inside.places.items c.args.self.now c.self.view_is c.longest.result c.self.invariant
    (subst (λ places. IsLongest places c.longest.result) c.as_slice.ensures.value c.longest.ensures)
