use Rattle.std.proofs.Common.{◌≡◌, ◌++◌, ◌∷◌, [], refl, ap, subst, arith}
use Rattle.jr_base.specs.Deed.{Call, Leave, deed_of}
use Rattle.jr_meaning.specs.Event.{Step}
use Rattle.jr_report.specs.OpenCalls.{FramesFit, open_methods}
use Rattle.jr_report.proofs.OpenCalls.{stays, others-open, stack-moved, still-open, room-for-call}
use Rattle.jr_report.proofs.open_calls.OpenCalls.pass.Goals as goal
use Rattle.jr_report.proofs.open_calls.OpenCalls.pass.Goals.{then-guest-eq0-via-then-guest-eq0, then-guest-eq0-via-else-guest-eq0+then-guest}

pub returns-then-guest-eq0 : goal.returns-then-guest-eq0
returns-then-guest-eq0 c h reply are fits =
    others-open h c.args.self.now c.args.guest (deed_of c.args.action.now) reply
    (elim c.then-guest-eq0.branch [
      | then-guest-eq0-via-then-guest-eq0 w ↦ (λ low high. absurd (omega (arith, w.if-guest-eq0.true, low)))
      | then-guest-eq0-via-else-guest-eq0+then-guest w ↦ (λ low high. absurd (omega (arith, w.if-guest.true, high)))
    ])
    are

pub returns-in-Call : goal.returns-in-Call
returns-in-Call c h reply are fits =
    let deed : deed_of c.args.action.now ≡ Call c.in-Call.method c.in-Call.this c.in-Call.args.items = ap deed_of c.in-Call.is in
    let room = room-for-call h c.args.guest c.in-Call.method c.in-Call.this c.in-Call.args.items reply (subst (λ d. FramesFit (h ++ Step c.args.guest d reply ∷ [])) deed fits) in
    stack-moved h c.args.self.now _ c.args.guest (deed_of c.args.action.now) _ reply _ deed (omega (arith, c.if-guest-eq0.false)) c.if-guest.false refl
    (λ held. c.push.ensures (open_methods h c.args.guest) held room) are

pub returns-in-Leave : goal.returns-in-Leave
returns-in-Leave c h reply are fits =
    let deed : deed_of c.args.action.now ≡ Leave c.in-Leave.method c.in-Leave.how = ap deed_of c.in-Leave.is in
    stack-moved h c.args.self.now _ c.args.guest (deed_of c.args.action.now) _ reply _ deed (omega (arith, c.if-guest-eq0.false)) c.if-guest.false refl
    (λ held. c.pop.ensures (open_methods h c.args.guest) held) are

pub returns-in_default : goal.returns-in_default
returns-in_default c h reply are fits =
    still-open h c.args.self.now c.args.guest (deed_of c.args.action.now) reply (stays c.args.action.now c.in_default.not-Call c.in_default.not-Leave) are
