-- The run of WaitOnce by the serial rule with seed 3.
use Rattle.std.specs.Prelude.{◌≡◌, pos, negsuc, List, [], ◌∷◌, Some, None}
use Rattle.jr_base.specs.Deed.{Deed}
use Rattle.jr_base.specs.Deed as deeds
use Rattle.jr_base.specs.declared.action.NewKind.TheVariants as makes
use Rattle.jr_base.specs.declared.action.Reply.TheVariants as replies
use Rattle.jr_base.specs.declared.action.LeaveHow.TheVariants as leaves
use Rattle.jr_base.specs.declared.action.EndHow.TheVariants as ends
use Rattle.jr_base.specs.declared.action.Way.TheVariants as ways
use Rattle.jr_base.specs.declared.value.Value.TheVariants as values
use Rattle.jr_base.specs.declared.finish.Verdict.TheVariants as verdicts
use Rattle.jr_base.specs.declared.finish.Finish.{Finish}
use Rattle.jr_base.specs.declared.finish.Finish.TheVariants as finishes
use Rattle.jr_meaning.specs.Event.{Event}
use Rattle.jr_meaning.specs.Right.{IsRightRun}
use Rattle.jr_meaning.specs.Serial.{serial}
use Rattle.jr_meaning.proofs.SerialRuns.{serial-right}
use Rattle.jr_meaning.proofs.Runs.WaitOnce.{program}
use Rattle.jr_meaning.proofs.Runs.{made, judged}
use Rattle.std.proofs.Common.{refl, subst}
use Rattle.std.specs.Int.{int_wrap}

abbrev pub journal : List Event
journal =
    made 1 (deeds.Call (record { 0 = 6 }) None []) replies.Unit
    ∷ made 1 (deeds.New (makes.Object (record { 0 = 0 }))) (replies.Made (record { 0 = 5 }))
    ∷ made 1 (deeds.New (makes.Object (record { 0 = 1 }))) (replies.Made (record { 0 = 6 }))
    ∷ made 1 (deeds.Call (record { 0 = 2 }) (Some (record { 0 = 6 })) ((values.Ref (record { 0 = 5 })) ∷ [])) replies.Unit
    ∷ made 1 (deeds.Put (record { obj = (record { 0 = 6 }); slot = 0 }) (values.Ref (record { 0 = 5 }))) replies.Unit
    ∷ made 1 (deeds.Leave (record { 0 = 2 }) (leaves.Normal None)) replies.Unit
    ∷ made 1 (deeds.Start (record { 0 = 6 })) (replies.Started (record { 0 = 2 }) (Some (record { method = (record { 0 = 3 }); this = (Some (record { 0 = 6 })) })))
    ∷ made 2 (deeds.Call (record { 0 = 3 }) (Some (record { 0 = 6 })) []) replies.Unit
    ∷ made 2 (deeds.Get (record { obj = (record { 0 = 6 }); slot = 0 })) (replies.Value (values.Ref (record { 0 = 5 })))
    ∷ made 2 (deeds.Enter (record { 0 = 5 }) ways.Method) replies.Unit
    ∷ made 2 (deeds.Call (record { 0 = 0 }) (Some (record { 0 = 5 })) []) replies.Unit
    ∷ made 1 (deeds.New (makes.Object (record { 0 = 2 }))) (replies.Made (record { 0 = 7 }))
    ∷ made 1 (deeds.Call (record { 0 = 4 }) (Some (record { 0 = 7 })) ((values.Ref (record { 0 = 5 })) ∷ [])) replies.Unit
    ∷ made 2 (deeds.Get (record { obj = (record { 0 = 5 }); slot = 0 })) (replies.Value (values.Int (pos 0)))
    ∷ made 1 (deeds.Put (record { obj = (record { 0 = 7 }); slot = 0 }) (values.Ref (record { 0 = 5 }))) replies.Unit
    ∷ made 2 (deeds.Wait (record { 0 = 5 })) replies.Unit
    ∷ made 1 (deeds.Leave (record { 0 = 4 }) (leaves.Normal None)) replies.Unit
    ∷ made 1 (deeds.Start (record { 0 = 7 })) (replies.Started (record { 0 = 3 }) (Some (record { method = (record { 0 = 5 }); this = (Some (record { 0 = 7 })) })))
    ∷ made 3 (deeds.Call (record { 0 = 5 }) (Some (record { 0 = 7 })) []) replies.Unit
    ∷ made 1 (deeds.Enter (record { 0 = 5 }) ways.Method) replies.Unit
    ∷ made 3 (deeds.Get (record { obj = (record { 0 = 7 }); slot = 0 })) (replies.Value (values.Ref (record { 0 = 5 })))
    ∷ made 1 (deeds.Call (record { 0 = 0 }) (Some (record { 0 = 5 })) []) replies.Unit
    ∷ made 1 (deeds.Get (record { obj = (record { 0 = 5 }); slot = 0 })) (replies.Value (values.Int (pos 0)))
    ∷ made 1 (deeds.Wait (record { 0 = 5 })) replies.Unit
    ∷ made 3 (deeds.Enter (record { 0 = 5 }) ways.Method) replies.Unit
    ∷ made 3 (deeds.Call (record { 0 = 1 }) (Some (record { 0 = 5 })) []) replies.Unit
    ∷ made 3 (deeds.Get (record { obj = (record { 0 = 5 }); slot = 0 })) (replies.Value (values.Int (pos 0)))
    ∷ made 3 (deeds.Put (record { obj = (record { 0 = 5 }); slot = 0 }) (values.Int (pos 1))) replies.Unit
    ∷ made 3 (deeds.NotifyAll (record { 0 = 5 })) replies.Unit
    ∷ made 3 (deeds.Leave (record { 0 = 1 }) (leaves.Normal None)) replies.Unit
    ∷ made 3 (deeds.Exit (record { 0 = 5 })) replies.Unit
    ∷ made 1 (deeds.Resume (record { 0 = 5 })) replies.Unit
    ∷ made 3 (deeds.Leave (record { 0 = 5 }) (leaves.Normal None)) replies.Unit
    ∷ made 3 (deeds.End ends.Normal) replies.Unit
    ∷ made 1 (deeds.Commit (record { 0 = 0 })) replies.Unit
    ∷ judged 34 0 verdicts.True
    ∷ made 1 (deeds.Get (record { obj = (record { 0 = 5 }); slot = 0 })) (replies.Value (values.Int (pos 1)))
    ∷ made 1 (deeds.Put (record { obj = (record { 0 = 5 }); slot = 0 }) (values.Int (pos 0))) replies.Unit
    ∷ made 1 (deeds.Leave (record { 0 = 0 }) (leaves.Normal None)) replies.Unit
    ∷ made 1 (deeds.Exit (record { 0 = 5 })) replies.Unit
    ∷ made 2 (deeds.Resume (record { 0 = 5 })) replies.Unit
    ∷ made 2 (deeds.Commit (record { 0 = 0 })) replies.Unit
    ∷ judged 40 0 verdicts.False
    ∷ made 2 (deeds.Get (record { obj = (record { 0 = 5 }); slot = 0 })) (replies.Value (values.Int (pos 0)))
    ∷ made 1 (deeds.Leave (record { 0 = 6 }) (leaves.Normal None)) replies.Unit
    ∷ made 1 (deeds.End ends.Normal) replies.Unit
    ∷ made 2 (deeds.Put (record { obj = (record { 0 = 5 }); slot = 0 }) (values.Int (negsuc 0))) replies.Unit
    ∷ made 2 (deeds.Leave (record { 0 = 0 }) (leaves.Normal None)) replies.Unit
    ∷ made 2 (deeds.Exit (record { 0 = 5 })) replies.Unit
    ∷ made 2 (deeds.Leave (record { 0 = 3 }) (leaves.Normal None)) replies.Unit
    ∷ made 2 (deeds.End ends.Normal) replies.Unit
    ∷ []

abbrev pub finish : Finish
finish = finishes.Finished

pub is_serial : serial program 200000 3 0 ≡ record { history = journal; finish = finish }
unfolding int_wrap
is_serial = refl

pub is_right : IsRightRun program 200000 (record { history = journal; finish = finish })
is_right = subst (IsRightRun program 200000) is_serial (serial-right program 200000 3 0)
