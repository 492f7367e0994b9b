use Rattle.jr_code.proofs.Places.{known_at}
use Rattle.jr_code.proofs.shapes.Shapes.is_known.Goals as goal

pub returns : goal.returns
returns c =
    known_at c.self.inside.kinds.items c.self.inside.places.items c.args.self.now c.self.view_is c.args.at c.index.result.now c.is_some.result c.requires c.index.ensures
    c.is_some.ensures
