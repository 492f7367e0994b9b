use Rattle.std.proofs.Common.{◌-◌, length, ap, ◌∙◌}
use Rattle.jr_base.specs.Content.{Content}
use Rattle.jr_base.specs.Spare.{Spare}
use Rattle.jr_thread_machine.proofs.Stacks.{rest_as}
use Rattle.jr_thread_machine.proofs.stack.Stack.drop_last.Goals as goal

pub returns : goal.returns
returns c =
    rest_as c.self.inside.slots.items c.truncate.new.self.items c.args.self.now.items c.saturating_sub-kept.result c.args.n c.truncate.ensures.items
    (ap (λ (s : Spare Content). s.items) c.self.view_is) (c.saturating_sub-kept.ensures ∙ ap (λ l. length l - c.args.n) c.as_slice-slots.ensures.value)
