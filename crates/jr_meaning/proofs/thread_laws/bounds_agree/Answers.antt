use Rattle.std.proofs.Common.{length, arith}
use Rattle.jr_meaning.proofs.Bounds.{bounds-agree}
use Rattle.jr_meaning.proofs.thread_laws.bounds_agree.Goals as goal

pub returns : goal.returns
returns c = λ program a b m this arguments vs tape below above.
    (bounds-agree program a b (length tape) below above m this arguments vs tape (omega arith)).one
