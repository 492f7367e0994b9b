use Rattle.std.proofs.Common.{◌≡◌, ◌<◌, ◌≤◌, ◌+◌, ◌++◌, MatchOption, OnErr, None, Result, Ok, Err, sym, ap, subst, ◌∙◌, arith}
use Rattle.std.proofs.lemmas.Option.{MatchOption-at_some, MatchOption-at_none}
use Rattle.jr_base.specs.Deed.{deed_of}
use Rattle.jr_program.specs.UnitViews.{program_of}
use Rattle.jr_meaning.specs.History.{step_count, limit_met}
use Rattle.jr_meaning.specs.Verdicts.{step_judged}
use Rattle.jr_drive.specs.Reached.{first_guest, IsNext, RunsTo, IsCutOff}
use Rattle.jr_drive.specs.Runs.{Keeps, HasTurned}
use Rattle.jr_drive.proofs.Running.{turn-of}
use Rattle.jr_drive.proofs.Steps.{step-more}
use Rattle.jr_drive.proofs.turn.SerialRun.turn.Goals as goal

pub returns-in-Some-clause-ok : goal.returns-in-Some-clause-ok
returns-in-Some-clause-ok c =
    let program = program_of c.args.program.now in
    let h = c.args.journal.now.entries in
    MatchOption-at_some _ (RunsTo program c.args.budget h) c.in-Some.finish c.in-Some.is
    (c.in_ok-finish.ensures program h c.requires.built (c.in_ok-action.ensures.next c.args.budget h c.requires.goes_on) (c.next.ensures.keeps h c.requires.goes_on.keeps))

pub step-requires-clause-alone : goal.step-requires-clause-alone
step-requires-clause-alone c =
    c.runs_keep_the_rules.ensures.one (program_of c.args.program.now) c.requires.built c.args.budget c.args.journal.now.entries c.requires.goes_on.under_way.reached

pub step-requires-clause-steps : goal.step-requires-clause-steps
step-requires-clause-steps c =
    let program = program_of c.args.program.now in
    let h = c.args.journal.now.entries in
    let keeps = c.next.ensures.keeps h c.requires.goes_on.keeps in
    let may = MatchOption-at_none _ (RunsTo program c.args.budget h) c.in_default.is
    (c.in_ok-finish.ensures program h c.requires.built (c.in_ok-action.ensures.next c.args.budget h c.requires.goes_on) keeps) in
    omega (arith, may.0, keeps.steps, c.ranges.budget.fits)

on-err : {A E : Type 0} {P : Type 0} (r : Result A E) → P → OnErr r P
on-err (Ok x) p = tt
on-err (Err e) p = p

pub returns-in_err-step-clause-memory : goal.returns-in_err-step-clause-memory
returns-in_err-step-clause-memory c =
    let program = program_of c.args.program.now in
    on-err c.from_residual-in_err-step.result
    (subst (IsCutOff program c.args.budget) (sym c.in_err-step.ensures.memory)
    (c.runs_keep_the_rules.ensures.cut_off program c.args.budget c.args.journal.now.entries c.requires.goes_on.under_way.reached))

pub returns-clause-ok : goal.returns-clause-ok
returns-clause-ok c =
    let program = program_of c.args.program.now in
    let budget = c.args.budget in
    let h = c.args.journal.now.entries in
    let deed = deed_of c.in_ok-action.action in
    let keeps = c.next.ensures.keeps h c.requires.goes_on.keeps in
    let next = c.in_ok-action.ensures.next budget h c.requires.goes_on in
    let may = MatchOption-at_none _ (RunsTo program budget h) c.in_default.is (c.in_ok-finish.ensures program h c.requires.built next keeps) in
    let (reply, makes, entries) = c.in_ok-step.ensures.ok in
    let later = h ++ step_judged program h first_guest deed reply in
    let on = c.runs_go_on_by_a_step.ensures in
    let reached = on.reaches program c.requires.built budget h deed next may.0 may.1 reply makes.answer in
    subst (λ es. MatchOption c.finish_behind-finish.result (HasTurned program budget es c.args.self.now c.step.new.self) (RunsTo program budget es)) (sym entries)
    (turn-of program budget later c.args.self.now c.step.new.self deed c.finish_behind-finish.result c.finish_behind-finish.ensures
    (on.goes program c.requires.built budget h deed next may.0 may.1 reply makes.answer)
    (on.ends program c.requires.built budget h deed next may.0 may.1 reply makes.answer)
    makes.keeps (c.runs_keep_the_rules.ensures.few program budget later reached)
    (makes.keeps.steps ∙ step-more program h first_guest deed reply ∙ ap (λ k. k + 1) (sym c.requires.goes_on.keeps.steps)))
