use Rattle.std.proofs.Common.{◌∷◌, map, take, length, reverse, ap, ◌∙◌}
use Rattle.jr_thread_machine.specs.Frames.{frame_of, without}
use Rattle.jr_thread_machine.proofs.Waiting.{one_more}
use Rattle.jr_thread_machine.proofs.callers.Callers.enter.Goals as goal

pub returns-clause-callers : goal.returns-clause-callers
returns-clause-callers c =
    let d = c.self.inside.depth in
    let frames = c.switch.new.frames.items in
    let caller = without (length c.args.callee.now.formals.items) c.args.this (frame_of c.args.top.now) in
    let entered = c.in_ok-arguments.ensures.frames in
    one_more frames d entered.0 entered.1
    ∙ ap (λ x. x ∷ reverse (map frame_of (take d frames))) entered.2
    ∙ ap (λ l. caller ∷ reverse l) (c.in_ok-arguments.ensures.kept.1 ∙ ap (map frame_of) c.in_ok-make_room.ensures.kept)
    ∙ ap (λ l. caller ∷ l) c.self.view_is
