-- The run of LocksAndRuns by the serial rule with seed 9.
use Rattle.std.specs.Prelude.{◌≡◌, pos, false, List, [], ◌∷◌, Some, None}
use Rattle.jr_base.specs.Deed.{Deed}
use Rattle.jr_base.specs.Deed as deeds
use Rattle.jr_base.specs.declared.action.Elem.TheVariants as elems
use Rattle.jr_base.specs.declared.action.NewKind.TheVariants as makes
use Rattle.jr_base.specs.declared.action.Reply.TheVariants as replies
use Rattle.jr_base.specs.declared.action.LeaveHow.TheVariants as leaves
use Rattle.jr_base.specs.declared.action.EndHow.TheVariants as ends
use Rattle.jr_base.specs.declared.action.Way.TheVariants as ways
use Rattle.jr_base.specs.declared.action.PrintPart.TheVariants as shows
use Rattle.jr_base.specs.declared.value.Value.TheVariants as values
use Rattle.jr_base.specs.declared.finish.Fault.TheVariants as faults
use Rattle.jr_base.specs.declared.finish.Verdict.TheVariants as verdicts
use Rattle.jr_base.specs.declared.finish.Finish.{Finish}
use Rattle.jr_base.specs.declared.finish.Finish.TheVariants as finishes
use Rattle.jr_meaning.specs.Event.{Event}
use Rattle.jr_meaning.specs.Right.{IsRightRun}
use Rattle.jr_meaning.specs.Serial.{serial}
use Rattle.jr_meaning.proofs.SerialRuns.{serial-right}
use Rattle.jr_meaning.proofs.Runs.LocksAndRuns.{program}
use Rattle.jr_meaning.proofs.Runs.{made, judged}
use Rattle.std.proofs.Common.{refl, subst}
use Rattle.std.specs.Int.{int_wrap}

abbrev pub journal : List Event
journal =
    made 1 (deeds.Call (record { 0 = 8 }) None []) replies.Unit
    ∷ made 1 (deeds.New (makes.Object (record { 0 = 0 }))) (replies.Made (record { 0 = 2 }))
    ∷ made 1 (deeds.Call (record { 0 = 0 }) (Some (record { 0 = 2 })) (values.Null ∷ [])) replies.Unit
    ∷ made 1 (deeds.New makes.Plain) (replies.Made (record { 0 = 3 }))
    ∷ made 1 (deeds.Put (record { obj = (record { 0 = 2 }); slot = 0 }) (values.Ref (record { 0 = 3 }))) replies.Unit
    ∷ made 1 (deeds.Put (record { obj = (record { 0 = 2 }); slot = 1 }) (values.Int (pos 1))) replies.Unit
    ∷ made 1 (deeds.Call (record { 0 = 1 }) (Some (record { 0 = 2 })) []) replies.Unit
    ∷ made 1 (deeds.Get (record { obj = (record { 0 = 2 }); slot = 1 })) (replies.Value (values.Int (pos 1)))
    ∷ judged 7 0 verdicts.False
    ∷ made 1 (deeds.Put (record { obj = (record { 0 = 2 }); slot = 1 }) (values.Int (pos 2))) replies.Unit
    ∷ judged 8 0 verdicts.False
    ∷ made 1 (deeds.Leave (record { 0 = 1 }) (leaves.Normal None)) replies.Unit
    ∷ made 1 (deeds.New (makes.Array elems.Bool 2)) (replies.Made (record { 0 = 4 }))
    ∷ made 1 (deeds.Put (record { obj = (record { 0 = 2 }); slot = 2 }) (values.Ref (record { 0 = 4 }))) replies.Unit
    ∷ made 1 (deeds.Leave (record { 0 = 0 }) (leaves.Normal None)) replies.Unit
    ∷ made 1 (deeds.Put (record { obj = (record { 0 = 1 }); slot = 0 }) (values.Ref (record { 0 = 2 }))) replies.Unit
    ∷ made 1 (deeds.New (makes.Object (record { 0 = 0 }))) (replies.Made (record { 0 = 5 }))
    ∷ made 1 (deeds.Get (record { obj = (record { 0 = 1 }); slot = 0 })) (replies.Value (values.Ref (record { 0 = 2 })))
    ∷ made 1 (deeds.Call (record { 0 = 0 }) (Some (record { 0 = 5 })) ((values.Ref (record { 0 = 2 })) ∷ [])) replies.Unit
    ∷ made 1 (deeds.New makes.Plain) (replies.Made (record { 0 = 6 }))
    ∷ made 1 (deeds.Put (record { obj = (record { 0 = 5 }); slot = 0 }) (values.Ref (record { 0 = 6 }))) replies.Unit
    ∷ made 1 (deeds.Put (record { obj = (record { 0 = 5 }); slot = 1 }) (values.Int (pos 1))) replies.Unit
    ∷ made 1 (deeds.Put (record { obj = (record { 0 = 2 }); slot = 1 }) (values.Int (pos 2))) replies.Unit
    ∷ judged 20 0 verdicts.False
    ∷ made 1 (deeds.Call (record { 0 = 1 }) (Some (record { 0 = 5 })) []) replies.Unit
    ∷ made 1 (deeds.Get (record { obj = (record { 0 = 5 }); slot = 1 })) (replies.Value (values.Int (pos 1)))
    ∷ judged 22 0 verdicts.False
    ∷ made 1 (deeds.Put (record { obj = (record { 0 = 5 }); slot = 1 }) (values.Int (pos 2))) replies.Unit
    ∷ judged 23 0 verdicts.False
    ∷ made 1 (deeds.Leave (record { 0 = 1 }) (leaves.Normal None)) replies.Unit
    ∷ made 1 (deeds.New (makes.Array elems.Bool 2)) (replies.Made (record { 0 = 7 }))
    ∷ made 1 (deeds.Put (record { obj = (record { 0 = 5 }); slot = 2 }) (values.Ref (record { 0 = 7 }))) replies.Unit
    ∷ made 1 (deeds.Leave (record { 0 = 0 }) (leaves.Normal None)) replies.Unit
    ∷ made 1 (deeds.Call (record { 0 = 2 }) (Some (record { 0 = 5 })) []) replies.Unit
    ∷ made 1 (deeds.Get (record { obj = (record { 0 = 5 }); slot = 0 })) (replies.Value (values.Ref (record { 0 = 6 })))
    ∷ made 1 (deeds.Put (record { obj = (record { 0 = 5 }); slot = 0 }) (values.Ref (record { 0 = 5 }))) replies.Unit
    ∷ made 1 (deeds.Enter (record { 0 = 6 }) ways.Block) replies.Unit
    ∷ judged 31 0 verdicts.True
    ∷ made 1 (deeds.Enter (record { 0 = 6 }) ways.Block) replies.Unit
    ∷ made 1 (deeds.Enter (record { 0 = 5 }) ways.Method) replies.Unit
    ∷ made 1 (deeds.Call (record { 0 = 3 }) (Some (record { 0 = 5 })) []) replies.Unit
    ∷ made 1 (deeds.Get (record { obj = (record { 0 = 5 }); slot = 1 })) (replies.Value (values.Int (pos 2)))
    ∷ judged 35 0 verdicts.True
    ∷ made 1 (deeds.Put (record { obj = (record { 0 = 5 }); slot = 1 }) (values.Int (pos 3))) replies.Unit
    ∷ judged 36 0 verdicts.True
    ∷ made 1 (deeds.Leave (record { 0 = 3 }) (leaves.Normal None)) replies.Unit
    ∷ made 1 (deeds.Exit (record { 0 = 5 })) replies.Unit
    ∷ made 1 (deeds.Exit (record { 0 = 6 })) replies.Unit
    ∷ made 1 (deeds.Exit (record { 0 = 6 })) replies.Unit
    ∷ made 1 (deeds.Get (record { obj = (record { 0 = 5 }); slot = 0 })) (replies.Value (values.Ref (record { 0 = 5 })))
    ∷ made 1 (deeds.Enter (record { 0 = 5 }) ways.Block) replies.Unit
    ∷ judged 42 0 verdicts.False
    ∷ made 1 (deeds.Put (record { obj = (record { 0 = 5 }); slot = 0 }) (values.Ref (record { 0 = 6 }))) replies.Unit
    ∷ made 1 (deeds.Exit (record { 0 = 5 })) replies.Unit
    ∷ made 1 (deeds.Leave (record { 0 = 2 }) (leaves.Normal None)) replies.Unit
    ∷ made 1 (deeds.Call (record { 0 = 4 }) (Some (record { 0 = 5 })) []) replies.Unit
    ∷ made 1 (deeds.Enter (record { 0 = 5 }) ways.Method) replies.Unit
    ∷ made 1 (deeds.Call (record { 0 = 3 }) (Some (record { 0 = 5 })) []) replies.Unit
    ∷ made 1 (deeds.Get (record { obj = (record { 0 = 5 }); slot = 1 })) (replies.Value (values.Int (pos 3)))
    ∷ judged 49 0 verdicts.True
    ∷ made 1 (deeds.Put (record { obj = (record { 0 = 5 }); slot = 1 }) (values.Int (pos 4))) replies.Unit
    ∷ judged 50 0 verdicts.True
    ∷ made 1 (deeds.Leave (record { 0 = 3 }) (leaves.Normal None)) replies.Unit
    ∷ made 1 (deeds.Exit (record { 0 = 5 })) replies.Unit
    ∷ made 1 (deeds.Enter (record { 0 = 5 }) ways.Block) replies.Unit
    ∷ judged 53 0 verdicts.True
    ∷ made 1 (deeds.Get (record { obj = (record { 0 = 5 }); slot = 2 })) (replies.Value (values.Ref (record { 0 = 7 })))
    ∷ made 1 (deeds.Get (record { obj = (record { 0 = 7 }); slot = 0 })) (replies.Value (values.Bool false))
    ∷ made 1 (deeds.Get (record { obj = (record { 0 = 5 }); slot = 2 })) (replies.Value (values.Ref (record { 0 = 7 })))
    ∷ made 1 (deeds.Get (record { obj = (record { 0 = 7 }); slot = 1 })) (replies.Value (values.Bool false))
    ∷ made 1 (deeds.Exit (record { 0 = 5 })) replies.Unit
    ∷ made 1 (deeds.Leave (record { 0 = 4 }) (leaves.Normal (Some (values.Bool false)))) replies.Unit
    ∷ judged 59 0 verdicts.True
    ∷ made 1 (deeds.Print ((shows.Val (values.Bool false)) ∷ [])) replies.Unit
    ∷ made 1 (deeds.Call (record { 0 = 7 }) None ((values.Ref (record { 0 = 5 })) ∷ [])) replies.Unit
    ∷ made 1 (deeds.Get (record { obj = (record { 0 = 5 }); slot = 0 })) (replies.Value (values.Ref (record { 0 = 6 })))
    ∷ made 1 (deeds.Enter (record { 0 = 6 }) ways.Block) replies.Unit
    ∷ made 1 (deeds.Enter (record { 0 = 6 }) ways.Block) replies.Unit
    ∷ made 1 (deeds.New makes.Thread) (replies.Made (record { 0 = 8 }))
    ∷ made 1 (deeds.Put (record { obj = (record { 0 = 8 }); slot = 0 }) (values.Ref (record { 0 = 5 }))) replies.Unit
    ∷ made 1 (deeds.Start (record { 0 = 8 })) (replies.Started (record { 0 = 2 }) (Some (record { method = (record { 0 = 5 }); this = (Some (record { 0 = 5 })) })))
    ∷ made 1 (deeds.Wait (record { 0 = 6 })) replies.Unit
    ∷ made 2 (deeds.Call (record { 0 = 5 }) (Some (record { 0 = 5 })) []) replies.Unit
    ∷ made 2 (deeds.Get (record { obj = (record { 0 = 5 }); slot = 0 })) (replies.Value (values.Ref (record { 0 = 6 })))
    ∷ made 2 (deeds.Enter (record { 0 = 6 }) ways.Block) replies.Unit
    ∷ made 2 (deeds.Get (record { obj = (record { 0 = 5 }); slot = 1 })) (replies.Value (values.Int (pos 4)))
    ∷ judged 72 0 verdicts.False
    ∷ made 2 (deeds.Put (record { obj = (record { 0 = 5 }); slot = 1 }) (values.Int (pos 5))) replies.Unit
    ∷ judged 73 0 verdicts.False
    ∷ made 2 (deeds.Get (record { obj = (record { 0 = 5 }); slot = 0 })) (replies.Value (values.Ref (record { 0 = 6 })))
    ∷ made 2 (deeds.Notify (record { 0 = 6 })) (replies.Woke (record { 0 = 1 }))
    ∷ made 2 (deeds.Get (record { obj = (record { 0 = 5 }); slot = 0 })) (replies.Value (values.Ref (record { 0 = 6 })))
    ∷ made 2 (deeds.Notify (record { 0 = 6 })) replies.Nobody
    ∷ made 2 (deeds.Exit (record { 0 = 6 })) replies.Unit
    ∷ made 2 (deeds.Leave (record { 0 = 5 }) (leaves.Normal None)) replies.Unit
    ∷ made 2 (deeds.End ends.Normal) replies.Unit
    ∷ made 1 (deeds.Resume (record { 0 = 6 })) replies.Unit
    ∷ made 1 (deeds.Assert (record { 0 = 9 }) (values.Null ∷ (values.Ref (record { 0 = 5 })) ∷ (values.Ref (record { 0 = 6 })) ∷ (values.Ref (record { 0 = 8 })) ∷ [])) replies.Unit
    ∷ judged 82 0 verdicts.True
    ∷ made 1 (deeds.Get (record { obj = (record { 0 = 5 }); slot = 1 })) (replies.Value (values.Int (pos 5)))
    ∷ judged 83 0 verdicts.False
    ∷ made 1 (deeds.Put (record { obj = (record { 0 = 5 }); slot = 1 }) (values.Int (pos 6))) replies.Unit
    ∷ judged 84 0 verdicts.False
    ∷ made 1 (deeds.Exit (record { 0 = 6 })) replies.Unit
    ∷ made 1 (deeds.Assert (record { 0 = 10 }) (values.Null ∷ (values.Ref (record { 0 = 5 })) ∷ (values.Ref (record { 0 = 6 })) ∷ [])) replies.Unit
    ∷ judged 86 0 verdicts.True
    ∷ made 1 (deeds.Exit (record { 0 = 6 })) replies.Unit
    ∷ made 1 (deeds.Assert (record { 0 = 11 }) (values.Null ∷ (values.Ref (record { 0 = 5 })) ∷ (values.Ref (record { 0 = 6 })) ∷ [])) replies.Unit
    ∷ judged 88 0 verdicts.True
    ∷ made 1 (deeds.Leave (record { 0 = 7 }) (leaves.Normal None)) replies.Unit
    ∷ judged 89 0 verdicts.False
    ∷ made 1 (deeds.Call (record { 0 = 6 }) None (values.Null ∷ [])) replies.Unit
    ∷ judged 90 0 verdicts.True
    ∷ judged 90 1 verdicts.True
    ∷ judged 90 2 verdicts.True
    ∷ made 1 (deeds.Leave (record { 0 = 6 }) (leaves.Normal None)) replies.Unit
    ∷ made 1 (deeds.Call (record { 0 = 6 }) None ((values.Ref (record { 0 = 5 })) ∷ [])) replies.Unit
    ∷ judged 92 0 verdicts.True
    ∷ judged 92 1 verdicts.True
    ∷ judged 92 2 verdicts.True
    ∷ made 1 (deeds.Leave (record { 0 = 6 }) (leaves.Normal None)) replies.Unit
    ∷ made 1 (deeds.New makes.Thread) (replies.Made (record { 0 = 9 }))
    ∷ made 1 (deeds.Put (record { obj = (record { 0 = 9 }); slot = 0 }) (values.Ref (record { 0 = 5 }))) replies.Unit
    ∷ made 1 (deeds.Start (record { 0 = 9 })) (replies.Started (record { 0 = 3 }) (Some (record { method = (record { 0 = 5 }); this = (Some (record { 0 = 5 })) })))
    ∷ made 1 (deeds.Start (record { 0 = 9 })) replies.Illegal
    ∷ made 1 (deeds.Print ((shows.Text (record { 0 = 0 })) ∷ [])) replies.Unit
    ∷ made 3 (deeds.Call (record { 0 = 5 }) (Some (record { 0 = 5 })) []) replies.Unit
    ∷ made 3 (deeds.Get (record { obj = (record { 0 = 5 }); slot = 0 })) (replies.Value (values.Ref (record { 0 = 6 })))
    ∷ made 3 (deeds.Enter (record { 0 = 6 }) ways.Block) replies.Unit
    ∷ made 3 (deeds.Get (record { obj = (record { 0 = 5 }); slot = 1 })) (replies.Value (values.Int (pos 6)))
    ∷ judged 102 0 verdicts.False
    ∷ made 3 (deeds.Put (record { obj = (record { 0 = 5 }); slot = 1 }) (values.Int (pos 7))) replies.Unit
    ∷ judged 103 0 verdicts.False
    ∷ made 3 (deeds.Get (record { obj = (record { 0 = 5 }); slot = 0 })) (replies.Value (values.Ref (record { 0 = 6 })))
    ∷ made 3 (deeds.Notify (record { 0 = 6 })) replies.Nobody
    ∷ made 3 (deeds.Get (record { obj = (record { 0 = 5 }); slot = 0 })) (replies.Value (values.Ref (record { 0 = 6 })))
    ∷ made 3 (deeds.Notify (record { 0 = 6 })) replies.Nobody
    ∷ made 3 (deeds.Exit (record { 0 = 6 })) replies.Unit
    ∷ made 3 (deeds.Leave (record { 0 = 5 }) (leaves.Normal None)) replies.Unit
    ∷ made 3 (deeds.End ends.Normal) replies.Unit
    ∷ made 1 (deeds.Join (record { 0 = 9 })) replies.Unit
    ∷ made 1 (deeds.Get (record { obj = (record { 0 = 5 }); slot = 0 })) (replies.Value (values.Ref (record { 0 = 6 })))
    ∷ made 1 (deeds.NotifyAll (record { 0 = 6 })) replies.Illegal
    ∷ made 1 (deeds.Call (record { 0 = 9 }) None ((values.Int (pos 1)) ∷ [])) replies.Unit
    ∷ made 1 (deeds.Call (record { 0 = 9 }) None ((values.Int (pos 0)) ∷ [])) replies.Unit
    ∷ made 1 (deeds.Leave (record { 0 = 9 }) leaves.Abrupt) replies.Unit
    ∷ made 1 (deeds.Leave (record { 0 = 9 }) leaves.Abrupt) replies.Unit
    ∷ made 1 (deeds.Leave (record { 0 = 8 }) leaves.Abrupt) replies.Unit
    ∷ made 1 (deeds.End (ends.Uncaught faults.RuntimeException)) replies.Unit
    ∷ []

abbrev pub finish : Finish
finish = finishes.Finished

pub is_serial : serial program 200000 9 0 ≡ record { history = journal; finish = finish }
unfolding int_wrap
is_serial = refl

pub is_right : IsRightRun program 200000 (record { history = journal; finish = finish })
is_right = subst (IsRightRun program 200000) is_serial (serial-right program 200000 9 0)
