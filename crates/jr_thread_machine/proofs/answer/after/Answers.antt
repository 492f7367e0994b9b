use Rattle.std.proofs.Common.{sym, subst}
use Rattle.jr_code.specs.Views.{plain_of}
use Rattle.jr_thread_machine.specs.Frames.{frame_of}
use Rattle.jr_thread_machine.specs.declared.flow.Then.{Then}
use Rattle.jr_thread_machine.specs.declared.flow.Then.TheVariants as thens
use Rattle.jr_thread_machine.specs.Moves.{goes_on}
use Rattle.jr_thread_machine.specs.Stages.{ComesTo}
use Rattle.jr_thread_machine.proofs.Resuming.{as_then, as_fits, made_next}
use Rattle.jr_thread_machine.proofs.answer.after.Goals as goal

pub returns-in-Reads : goal.returns-in-Reads
returns-in-Reads c =
    as_then (plain_of c.args.code.now) c.args.then thens.Reads c.args.callers.now (frame_of c.args.top.now) (frame_of c.reads.new.self) c.args.reply c.reads.result
    c.in-Reads.is (c.reads.ensures c.args.callers.now c.requires.below)

pub returns-in-Writes : goal.returns-in-Writes
returns-in-Writes c =
    as_then (plain_of c.args.code.now) c.args.then thens.Writes c.args.callers.now (frame_of c.args.top.now) (frame_of c.writes.new.self) c.args.reply c.writes.result
    c.in-Writes.is (c.writes.ensures c.args.callers.now c.requires.below)

pub returns-in-Makes : goal.returns-in-Makes
returns-in-Makes c =
    as_then (plain_of c.args.code.now) c.args.then thens.Makes c.args.callers.now (frame_of c.args.top.now) (frame_of c.makes.new.self) c.args.reply c.makes.result
    c.in-Makes.is (c.makes.ensures c.args.callers.now c.requires.below)

pub returns-in-Unless : goal.returns-in-Unless
returns-in-Unless c =
    as_then (plain_of c.args.code.now) c.args.then (thens.Unless c.in-Unless.fault) c.args.callers.now (frame_of c.args.top.now) (frame_of c.unless_illegal.new.self) c.args.reply c.unless_illegal.result
    c.in-Unless.is (c.unless_illegal.ensures c.args.callers.now c.requires.below)

pub returns-in-Waits : goal.returns-in-Waits
returns-in-Waits c =
    as_then (plain_of c.args.code.now) c.args.then (thens.Waits c.in-Waits.object) c.args.callers.now (frame_of c.args.top.now) (frame_of c.waits.new.self) c.args.reply c.waits.result
    c.in-Waits.is (c.waits.ensures c.args.callers.now c.requires.below)

pub returns-in-Calls : goal.returns-in-Calls
returns-in-Calls c =
    let code = plain_of c.args.code.now in
    let f = frame_of c.args.top.now in
    as_then code c.args.then (thens.Calls c.in-Calls.arguments) c.args.callers.now f f c.args.reply _ c.in-Calls.is
    (made_next code c.in-Calls.arguments f c.args.callers.now (as_fits code c.args.then (thens.Calls c.in-Calls.arguments) f c.in-Calls.is c.requires.fits) c.requires.below)

pub returns-in-Exits : goal.returns-in-Exits
returns-in-Exits c =
    let code = plain_of c.args.code.now in
    let P : Then → Type 0 =
    λ t. ComesTo code (goes_on code t c.args.callers.now (frame_of c.args.top.now) c.args.reply) c.exit.result (frame_of c.exit.new.top) c.exit.new.callers in
    subst P (sym c.in-Exits.is) c.exit.ensures
