use Rattle.std.proofs.Common.{rules, ◌≡◌, ◌∙◌, ap, take, length, arith}
use Rattle.jr_report.proofs.OpenCalls.{popped}
use Rattle.jr_report.proofs.open_calls.CallStack.pop.Goals as goal

pub returns : goal.returns
returns c methods holds =
    let self = c.args.self.now in
    let room : length self.methods ≡ 256 = search rules in
    record {
      within = omega (arith, holds.within, c.saturating_sub-self.ensures);
      same = ap (λ n. take n self.methods) c.saturating_sub-self.ensures ∙ popped self.methods methods self.depth (omega (arith, holds.within, room)) holds.same;
    }
