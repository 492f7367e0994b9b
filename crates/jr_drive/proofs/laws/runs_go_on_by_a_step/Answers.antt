use Rattle.std.proofs.Common.{◌≡◌, ◌++◌, ◌<◌, ap, ◌∙◌}
use Rattle.std.proofs.lemmas.Bool.{lt-ltb}
use Rattle.jr_base.specs.declared.finish.Finish.TheVariants.{Finished}
use Rattle.jr_meaning.specs.World.{is_live}
use Rattle.jr_meaning.specs.History.{world_after, step_count}
use Rattle.jr_meaning.specs.Verdicts.{step_judged}
use Rattle.jr_drive.specs.Reached.{first_guest}
use Rattle.jr_drive.proofs.OneGuest.{step-turn, over-turn}
use Rattle.jr_drive.proofs.Reaching.{goes-on, ends}
use Rattle.jr_drive.proofs.Steps.{step-more, world-more, live-stays, end-ends}
use Rattle.jr_drive.proofs.laws.runs_go_on_by_a_step.Goals as goal

pub returns-clause-reaches : goal.returns-clause-reaches
returns-clause-reaches c program built budget h deed stands few within reply same =
    let reached = stands.under_way.reached in
    goes-on program budget h reached (step_judged program h first_guest deed reply) (step-more program h first_guest deed reply)
    (step-turn program budget h (c.runs_keep_the_rules.ensures.one program built budget h reached) deed stands.under_way.live stands.wants
    (c.actions_are_plain.ensures program built budget h deed stands) (lt-ltb (step_count h) budget few) within reply same)

pub returns-clause-goes : goal.returns-clause-goes
returns-clause-goes c program built budget h deed stands few within reply same goes = record {
  reached = returns-clause-reaches c program built budget h deed stands few within reply same;
  live =
      ap (λ w. is_live w first_guest) (world-more program h first_guest deed reply)
      ∙ (live-stays program (world_after program h) first_guest first_guest deed reply (c.actions_are_plain.ensures program built budget h deed stands) goes
      ∙ stands.under_way.live);
}

pub returns-clause-ends : goal.returns-clause-ends
returns-clause-ends c program built budget h deed stands few within reply same over =
    let rules = c.runs_keep_the_rules.ensures in
    let reached = returns-clause-reaches c program built budget h deed stands few within reply same in
    let later = h ++ step_judged program h first_guest deed reply in
    ends program budget later reached Finished (rules.few program budget later reached)
    (over-turn program budget later (rules.one program built budget later reached)
    (ap (λ w. is_live w first_guest) (world-more program h first_guest deed reply)
    ∙ end-ends program (world_after program h) (rules.one program built budget h stands.under_way.reached) deed reply over))
