use Rattle.std.proofs.Common.{◌≡◌, ◌+◌, map, drop, sym, ap, ◌∙◌}
use Rattle.jr_program.specs.StatementViews.{catches, view_catch}
use Rattle.jr_lowering.specs.StatementCode.{larger, monitors_in, monitors_in_all}
use Rattle.jr_lowering.proofs.Larger.{catches_on, handler_of}
use Rattle.jr_lowering.proofs.monitors.+monitors.Goals as goal

pub monitors_of_catches-loop-one-preserved : goal.monitors_of_catches-loop-one-preserved
monitors_of_catches-loop-one-preserved t c =
    let rest = monitors_in_all (catches (map view_catch (drop (c.loop-one.one-index + 1) c.args.all.now))) in
    let inside : c.in_ok-monitors_of.field-0 ≡ monitors_in (view_catch c.one-item.result).handler =
    c.in_ok-monitors_of.ensures ∙ ap monitors_in (sym (handler_of c.one-item.result)) in
    ap (λ m. larger m rest) c.larger-most.ensures
    ∙ ap (λ n. larger (larger c.loop-one.most n) rest) inside
    ∙ catches_on c.args.all.now c.loop-one.one-index c.loop-one.most c.one-item.result c.loop-one-test.true c.one-item.is
    ∙ c.loop-one.invariant
