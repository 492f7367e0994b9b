use Rattle.std.proofs.Common.{◌≡◌, sym, ◌∙◌, refl}
use Rattle.jr_base.specs.Deed.{Deed}
use Rattle.jr_meaning.specs.Next.{Wants, Ended}
use Rattle.jr_drive.proofs.Reaching.{at-start}
use Rattle.jr_drive.proofs.laws.runs_begin.Goals as goal

pub returns-clause-start : goal.returns-clause-start
returns-clause-start c program budget = record { reached = at-start program budget; live = refl }

wants-none : (deed : Deed) → Wants deed ≡ Ended → ⊥
wants-none deed e = cc

pub returns-clause-wants : goal.returns-clause-wants
returns-clause-wants c program budget h way over =
    let wants = c.live_guests_want_something.ensures program budget h (c.runs_keep_the_rules.ensures.legal program budget h way.reached) (record { 0 = 1 }) way.live in
    wants-none wants.0 (sym wants.1 ∙ over)
