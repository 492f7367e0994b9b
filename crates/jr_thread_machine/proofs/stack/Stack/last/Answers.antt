use Rattle.std.proofs.Common.{ap, ◌∙◌}
use Rattle.std.proofs.lemmas.List.{take_rest}
use Rattle.jr_base.specs.Content.{Content}
use Rattle.jr_base.specs.Spare.{Spare}
use Rattle.jr_thread_machine.proofs.Stacks.{last_as}
use Rattle.jr_thread_machine.proofs.stack.Stack.last.Goals as goal

pub returns : goal.returns
returns c =
    take_rest c.as_slice-slots.result.now c.saturating_sub.result
    ∙ last_as c.self.inside.slots.items c.as_slice-slots.result.now c.args.self.now.items c.saturating_sub.result c.args.n
    c.as_slice-slots.ensures.value (ap (λ (s : Spare Content). s.items) c.self.view_is) c.saturating_sub.ensures
