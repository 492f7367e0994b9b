use Rattle.std.proofs.Common.{Option, map, subst}
use Rattle.jr_code.specs.Views.{plain_of, region_of}
use Rattle.jr_thread_machine.specs.declared.handlers.Ran.{Ran}
use Rattle.jr_thread_machine.specs.Frames.{frame_of}
use Rattle.jr_thread_machine.specs.Stages.{held, stage_of_ran, HasTurned}
use Rattle.jr_thread_machine.proofs.Turning.{handled_stage, handles_at, regions_at, same_turn}
use Rattle.jr_thread_machine.proofs.machine.Machine.catch.Goals as goal

pub returns-in-None-clause-turned : goal.returns-in-None-clause-turned
returns-in-None-clause-turned c =
    let code = plain_of c.args.code.now in
    let f = frame_of c.args.self.now.top in
    let g = frame_of c.handle.new.self in
    let below = c.args.self.now.callers in
    let stage = c.args.self.now.stage in
    let there = regions_at c.args.code.now f.method c.in-Some.method.now c.in-Some.ensures in
    let P : Option Ran → Type 0 = λ o. HasTurned code (held stage f below) (held (handled_stage o) g below) in
    subst P c.in-None.is (handles_at code c.requires.right stage c.args.fault c.args.from f g below (map region_of c.in-Some.method.now.regions.items) c.handle.result
    c.requires.throws c.requires.fits there c.handle.ensures.fits (c.handle.ensures.does code there below))

pub returns-in-Some-handle-clause-turned : goal.returns-in-Some-handle-clause-turned
returns-in-Some-handle-clause-turned c =
    let code = plain_of c.args.code.now in
    let f = frame_of c.args.self.now.top in
    let g = frame_of c.handle.new.self in
    let below = c.args.self.now.callers in
    let stage = c.args.self.now.stage in
    let there = regions_at c.args.code.now f.method c.in-Some.method.now c.in-Some.ensures in
    let P : Option Ran → Type 0 = λ o. HasTurned code (held stage f below) (held (handled_stage o) g below) in
    let turn = subst P c.in-Some-handle.is (handles_at code c.requires.right stage c.args.fault c.args.from f g below (map region_of c.in-Some.method.now.regions.items) c.handle.result
    c.requires.throws c.requires.fits there c.handle.ensures.fits (c.handle.ensures.does code there below)) in
    same_turn code (held stage f below) (held (stage_of_ran c.in-Some-handle.ran) g below) _ c.come_to.ensures.stage turn
