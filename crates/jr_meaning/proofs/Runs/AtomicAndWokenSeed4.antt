-- The run of AtomicAndWoken by the serial rule with seed 4.
use Rattle.std.specs.Prelude.{◌≡◌, pos, true, false, List, [], ◌∷◌, Some, None}
use Rattle.jr_base.specs.Deed.{Deed}
use Rattle.jr_base.specs.Deed as deeds
use Rattle.jr_base.specs.declared.action.NewKind.TheVariants as makes
use Rattle.jr_base.specs.declared.action.Reply.TheVariants as replies
use Rattle.jr_base.specs.declared.action.LeaveHow.TheVariants as leaves
use Rattle.jr_base.specs.declared.action.EndHow.TheVariants as ends
use Rattle.jr_base.specs.declared.action.Way.TheVariants as ways
use Rattle.jr_base.specs.declared.action.PrintPart.TheVariants as shows
use Rattle.jr_base.specs.declared.value.Value.TheVariants as values
use Rattle.jr_base.specs.declared.finish.Verdict.TheVariants as verdicts
use Rattle.jr_base.specs.declared.finish.Finish.{Finish}
use Rattle.jr_base.specs.declared.finish.Finish.TheVariants as finishes
use Rattle.jr_meaning.specs.Event.{Event}
use Rattle.jr_meaning.specs.Right.{IsRightRun}
use Rattle.jr_meaning.specs.Serial.{serial}
use Rattle.jr_meaning.proofs.SerialRuns.{serial-right}
use Rattle.jr_meaning.proofs.Runs.AtomicAndWoken.{program}
use Rattle.jr_meaning.proofs.Runs.{made, judged}
use Rattle.std.proofs.Common.{refl, subst}
use Rattle.std.specs.Int.{int_wrap}

abbrev pub journal : List Event
journal =
    made 1 (deeds.Call (record { 0 = 5 }) None []) replies.Unit
    ∷ made 1 (deeds.Put (record { obj = (record { 0 = 1 }); slot = 0 }) (values.Int (pos 3))) replies.Unit
    ∷ made 1 (deeds.New (makes.Object (record { 0 = 0 }))) (replies.Made (record { 0 = 3 }))
    ∷ made 1 (deeds.Call (record { 0 = 0 }) (Some (record { 0 = 3 })) ((values.Bool true) ∷ [])) replies.Unit
    ∷ made 1 (deeds.Put (record { obj = (record { 0 = 3 }); slot = 0 }) (values.Bool true)) replies.Unit
    ∷ made 1 (deeds.Leave (record { 0 = 0 }) (leaves.Normal None)) replies.Unit
    ∷ made 1 (deeds.Start (record { 0 = 3 })) (replies.Started (record { 0 = 2 }) (Some (record { method = (record { 0 = 1 }); this = (Some (record { 0 = 3 })) })))
    ∷ made 2 (deeds.Call (record { 0 = 1 }) (Some (record { 0 = 3 })) []) replies.Unit
    ∷ made 2 (deeds.Get (record { obj = (record { 0 = 1 }); slot = 0 })) (replies.Value (values.Int (pos 3)))
    ∷ made 2 (deeds.Get (record { obj = (record { 0 = 3 }); slot = 0 })) (replies.Value (values.Bool true))
    ∷ made 2 (deeds.Put (record { obj = (record { 0 = 1 }); slot = 0 }) (values.Int (pos 4))) replies.Unit
    ∷ made 2 (deeds.Leave (record { 0 = 1 }) (leaves.Normal None)) replies.Unit
    ∷ made 2 (deeds.End ends.Normal) replies.Unit
    ∷ made 1 (deeds.Join (record { 0 = 3 })) replies.Unit
    ∷ made 1 (deeds.New (makes.Object (record { 0 = 0 }))) (replies.Made (record { 0 = 4 }))
    ∷ made 1 (deeds.Call (record { 0 = 0 }) (Some (record { 0 = 4 })) ((values.Bool false) ∷ [])) replies.Unit
    ∷ made 1 (deeds.Put (record { obj = (record { 0 = 4 }); slot = 0 }) (values.Bool false)) replies.Unit
    ∷ made 1 (deeds.Leave (record { 0 = 0 }) (leaves.Normal None)) replies.Unit
    ∷ made 1 (deeds.Call (record { 0 = 2 }) None ((values.Ref (record { 0 = 4 })) ∷ [])) replies.Unit
    ∷ made 1 (deeds.Get (record { obj = (record { 0 = 1 }); slot = 0 })) (replies.Value (values.Int (pos 4)))
    ∷ made 1 (deeds.Start (record { 0 = 4 })) (replies.Started (record { 0 = 3 }) (Some (record { method = (record { 0 = 1 }); this = (Some (record { 0 = 4 })) })))
    ∷ made 3 (deeds.Call (record { 0 = 1 }) (Some (record { 0 = 4 })) []) replies.Unit
    ∷ made 3 (deeds.Get (record { obj = (record { 0 = 1 }); slot = 0 })) (replies.Value (values.Int (pos 4)))
    ∷ made 3 (deeds.Get (record { obj = (record { 0 = 4 }); slot = 0 })) (replies.Value (values.Bool false))
    ∷ made 3 (deeds.Leave (record { 0 = 1 }) (leaves.Normal None)) replies.Unit
    ∷ made 3 (deeds.End ends.Normal) replies.Unit
    ∷ made 1 (deeds.Join (record { 0 = 4 })) replies.Unit
    ∷ made 1 (deeds.Leave (record { 0 = 2 }) (leaves.Normal (Some (values.Int (pos 4))))) replies.Unit
    ∷ judged 27 0 verdicts.True
    ∷ made 1 (deeds.Print ((shows.Val (values.Int (pos 4))) ∷ [])) replies.Unit
    ∷ made 1 (deeds.New (makes.Object (record { 0 = 0 }))) (replies.Made (record { 0 = 5 }))
    ∷ made 1 (deeds.Call (record { 0 = 0 }) (Some (record { 0 = 5 })) ((values.Bool true) ∷ [])) replies.Unit
    ∷ made 1 (deeds.Put (record { obj = (record { 0 = 5 }); slot = 0 }) (values.Bool true)) replies.Unit
    ∷ made 1 (deeds.Leave (record { 0 = 0 }) (leaves.Normal None)) replies.Unit
    ∷ made 1 (deeds.Call (record { 0 = 2 }) None ((values.Ref (record { 0 = 5 })) ∷ [])) replies.Unit
    ∷ made 1 (deeds.Get (record { obj = (record { 0 = 1 }); slot = 0 })) (replies.Value (values.Int (pos 4)))
    ∷ made 1 (deeds.Start (record { 0 = 5 })) (replies.Started (record { 0 = 4 }) (Some (record { method = (record { 0 = 1 }); this = (Some (record { 0 = 5 })) })))
    ∷ made 4 (deeds.Call (record { 0 = 1 }) (Some (record { 0 = 5 })) []) replies.Unit
    ∷ made 4 (deeds.Get (record { obj = (record { 0 = 1 }); slot = 0 })) (replies.Value (values.Int (pos 4)))
    ∷ made 4 (deeds.Get (record { obj = (record { 0 = 5 }); slot = 0 })) (replies.Value (values.Bool true))
    ∷ made 4 (deeds.Put (record { obj = (record { 0 = 1 }); slot = 0 }) (values.Int (pos 5))) replies.Unit
    ∷ made 4 (deeds.Leave (record { 0 = 1 }) (leaves.Normal None)) replies.Unit
    ∷ made 4 (deeds.End ends.Normal) replies.Unit
    ∷ made 1 (deeds.Join (record { 0 = 5 })) replies.Unit
    ∷ made 1 (deeds.Leave (record { 0 = 2 }) (leaves.Normal (Some (values.Int (pos 4))))) replies.Unit
    ∷ judged 43 0 verdicts.False
    ∷ made 1 (deeds.Print ((shows.Val (values.Int (pos 4))) ∷ [])) replies.Unit
    ∷ made 1 (deeds.New makes.Plain) (replies.Made (record { 0 = 6 }))
    ∷ made 1 (deeds.Put (record { obj = (record { 0 = 2 }); slot = 0 }) (values.Ref (record { 0 = 6 }))) replies.Unit
    ∷ made 1 (deeds.New (makes.Object (record { 0 = 1 }))) (replies.Made (record { 0 = 7 }))
    ∷ made 1 (deeds.New (makes.Object (record { 0 = 1 }))) (replies.Made (record { 0 = 8 }))
    ∷ made 1 (deeds.Start (record { 0 = 7 })) (replies.Started (record { 0 = 5 }) (Some (record { method = (record { 0 = 3 }); this = (Some (record { 0 = 7 })) })))
    ∷ made 5 (deeds.Call (record { 0 = 3 }) (Some (record { 0 = 7 })) []) replies.Unit
    ∷ made 5 (deeds.Get (record { obj = (record { 0 = 2 }); slot = 0 })) (replies.Value (values.Ref (record { 0 = 6 })))
    ∷ made 1 (deeds.Start (record { 0 = 8 })) (replies.Started (record { 0 = 6 }) (Some (record { method = (record { 0 = 3 }); this = (Some (record { 0 = 8 })) })))
    ∷ made 1 (deeds.New (makes.Object (record { 0 = 1 }))) (replies.Made (record { 0 = 9 }))
    ∷ made 5 (deeds.Enter (record { 0 = 6 }) ways.Block) replies.Unit
    ∷ made 6 (deeds.Call (record { 0 = 3 }) (Some (record { 0 = 8 })) []) replies.Unit
    ∷ made 1 (deeds.Put (record { obj = (record { 0 = 9 }); slot = 0 }) (values.Bool true)) replies.Unit
    ∷ made 1 (deeds.Start (record { 0 = 9 })) (replies.Started (record { 0 = 7 }) (Some (record { method = (record { 0 = 3 }); this = (Some (record { 0 = 9 })) })))
    ∷ made 6 (deeds.Get (record { obj = (record { 0 = 2 }); slot = 0 })) (replies.Value (values.Ref (record { 0 = 6 })))
    ∷ made 7 (deeds.Call (record { 0 = 3 }) (Some (record { 0 = 9 })) []) replies.Unit
    ∷ made 5 (deeds.Get (record { obj = (record { 0 = 7 }); slot = 0 })) (replies.Value (values.Bool false))
    ∷ made 7 (deeds.Get (record { obj = (record { 0 = 2 }); slot = 0 })) (replies.Value (values.Ref (record { 0 = 6 })))
    ∷ made 5 (deeds.Get (record { obj = (record { 0 = 2 }); slot = 1 })) (replies.Value (values.Int (pos 0)))
    ∷ made 5 (deeds.Put (record { obj = (record { 0 = 2 }); slot = 1 }) (values.Int (pos 1))) replies.Unit
    ∷ made 5 (deeds.Get (record { obj = (record { 0 = 2 }); slot = 0 })) (replies.Value (values.Ref (record { 0 = 6 })))
    ∷ made 5 (deeds.Wait (record { 0 = 6 })) replies.Unit
    ∷ made 7 (deeds.Enter (record { 0 = 6 }) ways.Block) replies.Unit
    ∷ made 7 (deeds.Get (record { obj = (record { 0 = 9 }); slot = 0 })) (replies.Value (values.Bool true))
    ∷ made 7 (deeds.Get (record { obj = (record { 0 = 2 }); slot = 0 })) (replies.Value (values.Ref (record { 0 = 6 })))
    ∷ made 7 (deeds.Notify (record { 0 = 6 })) (replies.Woke (record { 0 = 5 }))
    ∷ made 7 (deeds.Exit (record { 0 = 6 })) replies.Unit
    ∷ made 7 (deeds.Leave (record { 0 = 3 }) (leaves.Normal None)) replies.Unit
    ∷ made 6 (deeds.Enter (record { 0 = 6 }) ways.Block) replies.Unit
    ∷ made 6 (deeds.Get (record { obj = (record { 0 = 8 }); slot = 0 })) (replies.Value (values.Bool false))
    ∷ made 6 (deeds.Get (record { obj = (record { 0 = 2 }); slot = 1 })) (replies.Value (values.Int (pos 1)))
    ∷ made 7 (deeds.End ends.Normal) replies.Unit
    ∷ made 1 (deeds.Join (record { 0 = 9 })) replies.Unit
    ∷ made 1 (deeds.Get (record { obj = (record { 0 = 2 }); slot = 0 })) (replies.Value (values.Ref (record { 0 = 6 })))
    ∷ made 6 (deeds.Put (record { obj = (record { 0 = 2 }); slot = 1 }) (values.Int (pos 2))) replies.Unit
    ∷ made 6 (deeds.Get (record { obj = (record { 0 = 2 }); slot = 0 })) (replies.Value (values.Ref (record { 0 = 6 })))
    ∷ made 6 (deeds.Wait (record { 0 = 6 })) replies.Unit
    ∷ made 1 (deeds.Enter (record { 0 = 6 }) ways.Block) replies.Unit
    ∷ made 1 (deeds.Get (record { obj = (record { 0 = 2 }); slot = 1 })) (replies.Value (values.Int (pos 2)))
    ∷ made 1 (deeds.Print ((shows.Val (values.Int (pos 2))) ∷ [])) replies.Unit
    ∷ made 1 (deeds.Get (record { obj = (record { 0 = 2 }); slot = 0 })) (replies.Value (values.Ref (record { 0 = 6 })))
    ∷ made 1 (deeds.Notify (record { 0 = 6 })) (replies.Woke (record { 0 = 6 }))
    ∷ made 1 (deeds.Get (record { obj = (record { 0 = 2 }); slot = 0 })) (replies.Value (values.Ref (record { 0 = 6 })))
    ∷ made 1 (deeds.Notify (record { 0 = 6 })) replies.Nobody
    ∷ made 1 (deeds.Exit (record { 0 = 6 })) replies.Unit
    ∷ made 5 (deeds.Resume (record { 0 = 6 })) replies.Unit
    ∷ made 1 (deeds.Call (record { 0 = 4 }) None ((values.Ref (record { 0 = 7 })) ∷ (values.Ref (record { 0 = 8 })) ∷ [])) replies.Unit
    ∷ made 1 (deeds.Get (record { obj = (record { 0 = 2 }); slot = 0 })) (replies.Value (values.Ref (record { 0 = 6 })))
    ∷ made 5 (deeds.Get (record { obj = (record { 0 = 2 }); slot = 1 })) (replies.Value (values.Int (pos 2)))
    ∷ made 5 (deeds.Put (record { obj = (record { 0 = 2 }); slot = 1 }) (values.Int (pos 1))) replies.Unit
    ∷ made 5 (deeds.Exit (record { 0 = 6 })) replies.Unit
    ∷ made 6 (deeds.Resume (record { 0 = 6 })) replies.Unit
    ∷ made 5 (deeds.Leave (record { 0 = 3 }) (leaves.Normal None)) replies.Unit
    ∷ made 6 (deeds.Get (record { obj = (record { 0 = 2 }); slot = 1 })) (replies.Value (values.Int (pos 1)))
    ∷ made 6 (deeds.Put (record { obj = (record { 0 = 2 }); slot = 1 }) (values.Int (pos 0))) replies.Unit
    ∷ made 6 (deeds.Exit (record { 0 = 6 })) replies.Unit
    ∷ made 6 (deeds.Leave (record { 0 = 3 }) (leaves.Normal None)) replies.Unit
    ∷ made 6 (deeds.End ends.Normal) replies.Unit
    ∷ made 5 (deeds.End ends.Normal) replies.Unit
    ∷ made 1 (deeds.Enter (record { 0 = 6 }) ways.Block) replies.Unit
    ∷ made 1 (deeds.Get (record { obj = (record { 0 = 2 }); slot = 0 })) (replies.Value (values.Ref (record { 0 = 6 })))
    ∷ made 1 (deeds.NotifyAll (record { 0 = 6 })) replies.Unit
    ∷ made 1 (deeds.Exit (record { 0 = 6 })) replies.Unit
    ∷ made 1 (deeds.Join (record { 0 = 7 })) replies.Unit
    ∷ made 1 (deeds.Join (record { 0 = 8 })) replies.Unit
    ∷ made 1 (deeds.Leave (record { 0 = 4 }) (leaves.Normal None)) replies.Unit
    ∷ judged 109 0 verdicts.False
    ∷ made 1 (deeds.Leave (record { 0 = 5 }) (leaves.Normal None)) replies.Unit
    ∷ made 1 (deeds.End ends.Normal) replies.Unit
    ∷ []

abbrev pub finish : Finish
finish = finishes.Finished

pub is_serial : serial program 200000 4 0 ≡ record { history = journal; finish = finish }
unfolding int_wrap
is_serial = refl

pub is_right : IsRightRun program 200000 (record { history = journal; finish = finish })
is_right = subst (IsRightRun program 200000) is_serial (serial-right program 200000 4 0)
