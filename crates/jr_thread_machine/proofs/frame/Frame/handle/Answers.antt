use Rattle.std.proofs.Common.{◌≡◌, List, [], map, drop, ◌∙◌, subst}
use Rattle.jr_base.specs.Content.{Content}
use Rattle.jr_code.specs.Machine.{stack_frame, Throws, Goes}
use Rattle.jr_code.specs.Views.{region_of}
use Rattle.jr_thread_machine.specs.declared.handlers.Found.TheVariants as founds
use Rattle.jr_thread_machine.specs.Handlers.{found_move}
use Rattle.jr_thread_machine.specs.Runs.{Becomes}
use Rattle.jr_thread_machine.proofs.frame.Frame.handle.Goals as goal

pub returns-in-Exit-clause-does : goal.returns-in-Exit-clause-does
returns-in-Exit-clause-does c = λ code same below.
    let f = c.args.self.now in
    let fault = c.args.fault in
    let rs = drop c.args.from (map region_of c.args.regions.now.items) in
    let empty : c.reserve.new.self.items ≡ [] = c.reserve.ensures.items ∙ c.clear.ensures in
    let P : List Content → Type 0 =
    λ l. Becomes code (Goes (Throws fault rs (stack_frame f.method f.this f.at l f.locals) below))
    (found_move code fault (stack_frame f.method f.this f.at l f.locals) below (founds.Exit c.in-Exit.object c.in-Exit.behind)) in
    subst P empty (c.in-Exit.ensures.found code same below)
