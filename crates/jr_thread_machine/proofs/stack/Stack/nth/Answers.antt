use Rattle.std.proofs.Common.{◌-◌, length, ap, ◌∙◌, take}
use Rattle.jr_base.specs.Content.{Content}
use Rattle.jr_base.specs.Spare.{Spare}
use Rattle.jr_code.specs.Machine.{top_content}
use Rattle.jr_thread_machine.proofs.Stacks.{rest_as}
use Rattle.jr_thread_machine.proofs.stack.Stack.nth.Goals as goal

pub returns : goal.returns
returns c =
    let items = c.self.inside.slots.items in
    let same = c.as_slice-slots.ensures.value in
    c.top_of.ensures ∙ ap top_content (rest_as items (take c.saturating_sub.result c.as_slice-slots.result.now) c.args.self.now.items c.saturating_sub.result c.args.n
    (ap (take c.saturating_sub.result) same) (ap (λ (s : Spare Content). s.items) c.self.view_is) (c.saturating_sub.ensures ∙ ap (λ l. length l - c.args.n) same))
