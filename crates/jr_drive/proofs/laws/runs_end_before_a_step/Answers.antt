use Rattle.std.proofs.Common.{◌≡◌, ◌≤◌, ◌<◌}
use Rattle.std.proofs.lemmas.Bool.{lt-ltb, le-ltb}
use Rattle.jr_base.specs.declared.finish.Finish.TheVariants.{Budget, Limit}
use Rattle.jr_meaning.specs.History.{step_count}
use Rattle.jr_drive.specs.Reached.{first_guest}
use Rattle.jr_drive.proofs.OneGuest.{spent-turn, limit-turn}
use Rattle.jr_drive.proofs.Reaching.{ends}
use Rattle.jr_drive.proofs.laws.runs_end_before_a_step.Goals as goal

pub returns-clause-spent : goal.returns-clause-spent
returns-clause-spent c program built budget h deed stands spent =
    let reached = stands.under_way.reached in
    let rules = c.runs_keep_the_rules.ensures in
    ends program budget h reached (Budget budget) (rules.few program budget h reached)
    (spent-turn program budget h (rules.one program built budget h reached) deed stands.under_way.live stands.wants
    (c.actions_are_plain.ensures program built budget h deed stands) (le-ltb (step_count h) budget spent))

pub returns-clause-limit : goal.returns-clause-limit
returns-clause-limit c program built budget h deed stands few count past =
    let reached = stands.under_way.reached in
    let rules = c.runs_keep_the_rules.ensures in
    ends program budget h reached (Limit count.kind first_guest count.count) (rules.few program budget h reached)
    (limit-turn program budget h (rules.one program built budget h reached) deed stands.under_way.live stands.wants
    (c.actions_are_plain.ensures program built budget h deed stands) (lt-ltb (step_count h) budget few) count past)
