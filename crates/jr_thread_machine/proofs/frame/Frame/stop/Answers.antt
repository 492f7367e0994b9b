use Rattle.std.proofs.Common.{map, length, ap, ◌∙◌}
use Rattle.jr_code.specs.Decoded.{meaning}
use Rattle.jr_code.specs.Machine.{regions_of}
use Rattle.jr_code.specs.Views.{tables_of, plain_of, region_of}
use Rattle.jr_thread_machine.specs.Frames.{frame_of}
use Rattle.jr_thread_machine.specs.declared.flow.Flow.TheVariants as flows
use Rattle.jr_thread_machine.proofs.Stepping.{went_on, stopped, handled}
use Rattle.jr_thread_machine.proofs.Tables.{as_flow}
use Rattle.jr_thread_machine.proofs.frame.Frame.stop.Goals as goal

pub act-requires-clause-at : goal.act-requires-clause-at
act-requires-clause-at c = c.requires.at.fits

pub act-requires-clause-room : goal.act-requires-clause-room
act-requires-clause-room c = c.requires.at.room

pub act-requires-clause-stops : goal.act-requires-clause-stops
act-requires-clause-stops c = c.requires.at.stops

pub returns-in-Goes-clause-ok : goal.returns-in-Goes-clause-ok
returns-in-Goes-clause-ok c =
    let code = plain_of c.args.code.now in
    let i = meaning (tables_of c.args.code.now) c.args.instruction in
    went_on code c.requires.right (frame_of c.args.self.now) (frame_of c.act.new.self) i c.requires.here c.requires.at.stands
    (length c.args.method.now.instrs.items) c.requires.at.inside
    (as_flow code i c.in_ok-act.field-0 flows.Goes (frame_of c.args.self.now) (frame_of c.act.new.self) c.in-Goes.is c.in_ok-act.ensures.ok)

pub returns-in-Throws-clause-ok : goal.returns-in-Throws-clause-ok
returns-in-Throws-clause-ok c =
    let code = plain_of c.args.code.now in
    let i = meaning (tables_of c.args.code.now) c.args.instruction in
    let old = frame_of c.args.self.now in
    let mid = frame_of c.act.new.self in
    let rs = map region_of c.args.method.now.regions.items in
    let s = as_flow code i c.in_ok-act.field-0 (flows.Throws c.in-Throws.fault) old mid c.in-Throws.is c.in_ok-act.ensures.ok in
    handled code c.requires.right old mid (frame_of c.handle.new.self) i c.in-Throws.fault rs c.requires.here c.requires.at.stands c.requires.regions s
    (length c.args.method.now.instrs.items) c.requires.at.inside c.handle.result
    (c.handle.ensures.does code (ap (regions_of code) s.method ∙ c.requires.regions)) c.handle.ensures.fits

pub returns-in-Stops-clause-ok : goal.returns-in-Stops-clause-ok
returns-in-Stops-clause-ok c =
    let code = plain_of c.args.code.now in
    let i = meaning (tables_of c.args.code.now) c.args.instruction in
    stopped code c.requires.right (frame_of c.args.self.now) (frame_of c.act.new.self) i c.requires.here c.requires.at.stands c.requires.at.fits c.in-Stops.stop
    (as_flow code i c.in_ok-act.field-0 (flows.Stops c.in-Stops.stop) (frame_of c.args.self.now) (frame_of c.act.new.self) c.in-Stops.is c.in_ok-act.ensures.ok)
