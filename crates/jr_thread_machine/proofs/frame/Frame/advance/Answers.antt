use Rattle.std.proofs.Common.{◌<◌, ◌^◌, length, arith, ap, ◌∙◌}
use Rattle.std.specs.Prelude.{slice_get}
use Rattle.jr_base.specs.declared.number.MethodId.{MethodId}
use Rattle.jr_code.specs.Views.{tables_of, plain_of}
use Rattle.jr_thread_machine.specs.Frames.{frame_of}
use Rattle.jr_thread_machine.proofs.Halting.{it_holds, goes_behind}
use Rattle.jr_thread_machine.proofs.Stepping.{goes_further}
use Rattle.jr_thread_machine.proofs.frame.Frame.advance.Goals as goal

pub loop-instruction-smaller : goal.loop-instruction-smaller
loop-instruction-smaller c =
    let code = c.args.code.now in
    let size = c.len-n.ensures in
    let small = c.len-n.type_inv in
    let few : length c.args.method.now.instrs.items < 2 ^ 32 = omega arith in
    let there = ap (λ (m : MethodId). slice_get code.methods.items m.0) c.loop-instruction.invariant.stays.method ∙ c.requires.method in
    let went =
    goes_behind code c.args.method.now c.in-Some.instruction c.loop-instruction.self c.go.new.self there c.in-Some.ensures few c.requires.right
    (frame_of c.args.self.now) c.loop-instruction.invariant.stays
    (it_holds c.go.result _ _ c.go.ensures c.if-not-go.false (plain_of code) (tables_of code)) in
    let further = went.further in
    let inside = went.inside in
    omega arith

pub loop-instruction-preserved : goal.loop-instruction-preserved
loop-instruction-preserved c =
    let code = c.args.code.now in
    let size = c.len-n.ensures in
    let small = c.len-n.type_inv in
    let few : length c.args.method.now.instrs.items < 2 ^ 32 = omega arith in
    let there = ap (λ (m : MethodId). slice_get code.methods.items m.0) c.loop-instruction.invariant.stays.method ∙ c.requires.method in
    let went =
    goes_behind code c.args.method.now c.in-Some.instruction c.loop-instruction.self c.go.new.self there c.in-Some.ensures few c.requires.right
    (frame_of c.args.self.now) c.loop-instruction.invariant.stays
    (it_holds c.go.result _ _ c.go.ensures c.if-not-go.false (plain_of code) (tables_of code)) in
    let further = went.further in
    let ahead = c.loop-instruction.invariant.ahead in
    record {
      stays = goes_further (plain_of code) (frame_of c.args.self.now) (frame_of c.loop-instruction.self) (frame_of c.go.new.self) c.loop-instruction.invariant.stays went.stays;
      ahead = omega arith;
    }
