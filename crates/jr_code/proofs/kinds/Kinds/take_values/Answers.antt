use Rattle.std.proofs.Common.{◌-◌, take, reverse, ap, sym, ◌∙◌, subst, arith, rules}
use Rattle.jr_code.specs.Checked.{NoneCaught}
use Rattle.jr_code.proofs.Stacks.{too_few, no_values, values_taken, rest_whole}
use Rattle.jr_code.proofs.kinds.Kinds.take_values.Goals as goal

pub returns-then-n-len : goal.returns-then-n-len
returns-then-n-len c = too_few c.self.inside.kinds.items c.args.self.now c.args.n c.self.view_is (omega (arith, c.self.inside.kinds.ok.0))

pub returns-then-not-are_values : goal.returns-then-not-are_values
returns-then-not-are_values c =
    let items = c.deref.result.now in
    let m = c.len-2.result - c.args.n in
    no_values items c.args.self.now c.args.n m (ap reverse c.deref.ensures.value ∙ c.self.view_is) (omega arith)
    (λ h. let e = c.if-not-are_values.ensures.1 (subst NoneCaught (sym (rest_whole m items)) h) in search rules)

pub returns : goal.returns
returns c =
    let items = c.deref.result.now in
    let m = c.len-2.result - c.args.n in
    values_taken items c.args.self.now c.truncate.new.self.items c.args.n m (ap reverse c.deref.ensures.value ∙ c.self.view_is) (omega arith)
    (subst NoneCaught (rest_whole m items) (c.if-not-are_values.ensures.0 (search rules)))
    (c.truncate.ensures.items ∙ ap (take m) (sym c.deref.ensures.value))
