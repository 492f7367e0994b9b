use Rattle.std.proofs.Common.{◌+◌, ◌++◌, [], map, length, take, drop, reverse, ap, sym, ◌∙◌}
use Rattle.std.proofs.lemmas.List.{length-map}
use Rattle.jr_base.specs.Content.{Holds, unset}
use Rattle.jr_code.specs.Checked.{this_kind}
use Rattle.jr_code.specs.Machine.{stack_frame, this_local, value_of_content}
use Rattle.jr_thread_machine.proofs.Waiting.{begun, this_counts}
use Rattle.jr_thread_machine.proofs.frame.Frame.begin.Goals as goal

pub returns-clause-begun : goal.returns-clause-begun
returns-clause-begun c =
    let m = c.args.callee.now in
    let operands = c.args.caller.now.items in
    let passed = c.last-passed.result.now in
    let first = c.in_ok-first.first in
    let locals = c.push_unset.new.self in
    let formals = c.len-formals.ensures in
    let last = c.last-passed.ensures ∙ ap (λ n. reverse (take n operands)) formals in
    begun c.args.method c.args.this m operands locals first (length passed) (first + c.len-formals.result)
    (stack_frame c.args.method c.args.this 0 c.reserve.new.self.items locals)
    (ap (λ s. stack_frame c.args.method c.args.this 0 s locals) (c.reserve.ensures.items ∙ c.clear.ensures))
    c.in_ok-first.ensures.count
    (ap length last ∙ sym (length-map (reverse (take (length m.formals.items) operands)) value_of_content))
    (ap (λ k. k + c.len-formals.result) (c.in_ok-first.ensures.count ∙ this_counts m.is_static c.args.this) ∙ ap (λ k. length (this_kind m.is_static) + k) formals)
    (c.in_ok-push_unset.ensures
    ∙ ap (λ l. l ++ map unset (drop (first + c.len-formals.result) c.as_slice.result.now)) (c.in_ok-push_values.ensures
    ∙ ap (λ l. l ++ map Holds (map value_of_content passed)) (c.in_ok-first.ensures.locals ∙ ap (λ l. l ++ this_local m.is_static c.args.this) c.clear-2.ensures)
    ∙ ap (λ p. ([] ++ this_local m.is_static c.args.this) ++ map Holds (map value_of_content p)) last)
    ∙ ap (λ k. (([] ++ this_local m.is_static c.args.this) ++ map Holds (map value_of_content (reverse (take (length m.formals.items) operands)))) ++ map unset (drop (first + c.len-formals.result) k))
    c.as_slice.ensures)
