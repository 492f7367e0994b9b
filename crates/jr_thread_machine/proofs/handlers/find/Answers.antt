use Rattle.std.proofs.Common.{◌≤◌, map, length, arith}
use Rattle.std.proofs.lemmas.List.{length-map}
use Rattle.jr_code.specs.Views.{region_of}
use Rattle.jr_thread_machine.specs.Frames.{frame_of}
use Rattle.jr_thread_machine.proofs.Seeking.{goes_on, is_taken, found_fits, is_passed}
use Rattle.jr_thread_machine.proofs.Tables.{mapped_at}
use Rattle.jr_thread_machine.proofs.handlers.find.Goals as goal

pub returns-in-Some-clause-found : goal.returns-in-Some-clause-found
returns-in-Some-clause-found c = λ code same below.
    is_taken code c.args.fault (map region_of c.args.regions.now.items) c.args.from c.loop-number.number (region_of c.get-region.result.now)
    (frame_of c.args.frame.now) below c.in-Some.found same
    (mapped_at region_of c.args.regions.now.items c.loop-number.number c.get-region.result.now c.get-region.ensures)
    c.in-Some.ensures.takes c.in-Some.ensures.fits (c.loop-number.invariant code below)

pub returns-in-Some-clause-fits : goal.returns-in-Some-clause-fits
returns-in-Some-clause-fits c =
    found_fits (map region_of c.args.regions.now.items) c.loop-number.number c.args.frame.now.at (region_of c.get-region.result.now) c.in-Some.found
    (mapped_at region_of c.args.regions.now.items c.loop-number.number c.get-region.result.now c.get-region.ensures) c.in-Some.ensures.fits

pub loop-number-preserved : goal.loop-number-preserved
loop-number-preserved c = λ code below.
    goes_on code c.args.fault (map region_of c.args.regions.now.items) c.args.from c.loop-number.number (region_of c.get-region.result.now)
    (frame_of c.args.frame.now) below
    (mapped_at region_of c.args.regions.now.items c.loop-number.number c.get-region.result.now c.get-region.ensures)
    c.in_default.ensures.takes (c.loop-number.invariant code below)

all_passed : (c : goal.After-loop-number) → length (map region_of c.args.regions.now.items) ≤ c.loop-number.number
all_passed c =
    let past = c.loop-number-test.false in
    let size = c.len-number-end.ensures in
    rw length-map (omega arith)

pub returns-clause-found : goal.returns-clause-found
returns-clause-found c = λ code same below.
    is_passed code c.args.fault (map region_of c.args.regions.now.items) c.args.from c.loop-number.number (frame_of c.args.frame.now) below
    (all_passed c) (c.loop-number.invariant code below)
