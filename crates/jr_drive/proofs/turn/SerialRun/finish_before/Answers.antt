use Rattle.std.proofs.Common.{◌≡◌, ◌<◌, Some, length, option_map, sym, ap, subst, ◌∙◌}
use Rattle.jr_base.specs.Deed.{deed_of}
use Rattle.jr_meaning.specs.Limits.{past_limit}
use Rattle.jr_meaning.specs.History.{world_after, limit_met}
use Rattle.jr_drive.specs.Counted.{count_of}
use Rattle.jr_drive.specs.Reached.{first_guest, RunsTo}
use Rattle.jr_drive.proofs.turn.SerialRun.finish_before.Goals as goal

pub returns-in_ok-finish_at-in-Some : goal.returns-in_ok-finish_at-in-Some
returns-in_ok-finish_at-in-Some c program h built next keeps =
    let deed = deed_of c.args.action.now in
    let met : limit_met program h first_guest deed ≡ Some (count_of c.in-Some.excess) =
    ap (λ n. past_limit program (world_after program h) n first_guest deed) (sym (c.len.ensures ∙ ap length keeps.frames))
    ∙ sym (c.past_limit.ensures program (world_after program h) first_guest keeps.store) ∙ ap (option_map count_of) c.in-Some.is in
    subst (RunsTo program c.args.budget h) (sym c.in_ok-finish_at-in-Some.ensures)
    (c.runs_end_before_a_step.ensures.limit program built c.args.budget h deed next (subst (λ k. k < c.args.budget) keeps.steps c.if-self-budget.false)
    (count_of c.in-Some.excess) met)
