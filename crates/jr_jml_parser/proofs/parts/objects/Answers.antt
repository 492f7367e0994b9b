use Rattle.jr_jml_parser.proofs.Pieces.{objects_read, object_read, nearer}
use Rattle.jr_jml_parser.proofs.parts.objects.Goals as goal

pub returns-in-Semicolon : goal.returns-in-Semicolon
returns-in-Semicolon c = objects_read _ _ _ _ _ _ _ _ c.in_ok-push.ensures.ok c.loop-found.invariant c.in_ok-object.ensures c.in-Semicolon.ensures.value

pub loop-found-smaller : goal.loop-found-smaller
loop-found-smaller c = nearer _ _ _ _ _ c.in_ok-object.ensures c.in-Comma.ensures.value

pub loop-found-preserved : goal.loop-found-preserved
loop-found-preserved c = object_read _ _ _ _ _ _ _ _ c.in_ok-push.ensures.ok c.loop-found.invariant c.in_ok-object.ensures c.in-Comma.ensures.value
