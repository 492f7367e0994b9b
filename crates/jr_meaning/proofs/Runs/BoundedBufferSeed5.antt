-- The run of BoundedBuffer by the serial rule with seed 5.
use Rattle.std.specs.Prelude.{◌≡◌, pos, List, [], ◌∷◌, Some, None}
use Rattle.jr_base.specs.Deed.{Deed}
use Rattle.jr_base.specs.Deed as deeds
use Rattle.jr_base.specs.declared.action.Elem.TheVariants as elems
use Rattle.jr_base.specs.declared.action.NewKind.TheVariants as makes
use Rattle.jr_base.specs.declared.action.Reply.TheVariants as replies
use Rattle.jr_base.specs.declared.action.LeaveHow.TheVariants as leaves
use Rattle.jr_base.specs.declared.action.EndHow.TheVariants as ends
use Rattle.jr_base.specs.declared.action.Way.TheVariants as ways
use Rattle.jr_base.specs.declared.action.PrintPart.TheVariants as shows
use Rattle.jr_base.specs.declared.value.Value.TheVariants as values
use Rattle.jr_base.specs.declared.finish.Verdict.TheVariants as verdicts
use Rattle.jr_base.specs.declared.finish.Finish.{Finish}
use Rattle.jr_base.specs.declared.finish.Finish.TheVariants as finishes
use Rattle.jr_meaning.specs.Event.{Event}
use Rattle.jr_meaning.specs.Right.{IsRightRun}
use Rattle.jr_meaning.specs.Serial.{serial}
use Rattle.jr_meaning.proofs.SerialRuns.{serial-right}
use Rattle.jr_meaning.proofs.Runs.BoundedBuffer.{program}
use Rattle.jr_meaning.proofs.Runs.{made, judged}
use Rattle.std.proofs.Common.{refl, subst}
use Rattle.std.specs.Int.{int_wrap}

abbrev pub journal : List Event
journal =
    made 1 (deeds.Call (record { 0 = 5 }) None []) replies.Unit
    ∷ made 1 (deeds.New (makes.Object (record { 0 = 0 }))) (replies.Made (record { 0 = 4 }))
    ∷ made 1 (deeds.Call (record { 0 = 0 }) (Some (record { 0 = 4 })) ((values.Int (pos 2)) ∷ [])) replies.Unit
    ∷ made 1 (deeds.New (makes.Array elems.Int 2)) (replies.Made (record { 0 = 5 }))
    ∷ made 1 (deeds.Put (record { obj = (record { 0 = 4 }); slot = 0 }) (values.Ref (record { 0 = 5 }))) replies.Unit
    ∷ made 1 (deeds.Leave (record { 0 = 0 }) (leaves.Normal None)) replies.Unit
    ∷ judged 5 0 verdicts.True
    ∷ made 1 (deeds.New (makes.Object (record { 0 = 1 }))) (replies.Made (record { 0 = 6 }))
    ∷ made 1 (deeds.Call (record { 0 = 3 }) (Some (record { 0 = 6 })) ((values.Ref (record { 0 = 4 })) ∷ [])) replies.Unit
    ∷ made 1 (deeds.Put (record { obj = (record { 0 = 6 }); slot = 0 }) (values.Ref (record { 0 = 4 }))) replies.Unit
    ∷ made 1 (deeds.Leave (record { 0 = 3 }) (leaves.Normal None)) replies.Unit
    ∷ made 1 (deeds.Start (record { 0 = 6 })) (replies.Started (record { 0 = 2 }) (Some (record { method = (record { 0 = 4 }); this = (Some (record { 0 = 6 })) })))
    ∷ made 1 (deeds.Enter (record { 0 = 4 }) ways.Method) replies.Unit
    ∷ made 1 (deeds.Call (record { 0 = 2 }) (Some (record { 0 = 4 })) []) replies.Unit
    ∷ judged 12 0 verdicts.True
    ∷ made 2 (deeds.Call (record { 0 = 4 }) (Some (record { 0 = 6 })) []) replies.Unit
    ∷ made 2 (deeds.Get (record { obj = (record { 0 = 6 }); slot = 0 })) (replies.Value (values.Ref (record { 0 = 4 })))
    ∷ made 1 (deeds.Get (record { obj = (record { 0 = 4 }); slot = 1 })) (replies.Value (values.Int (pos 0)))
    ∷ judged 15 0 verdicts.True
    ∷ made 1 (deeds.Wait (record { 0 = 4 })) replies.Unit
    ∷ made 2 (deeds.Enter (record { 0 = 4 }) ways.Method) replies.Unit
    ∷ made 2 (deeds.Call (record { 0 = 1 }) (Some (record { 0 = 4 })) ((values.Int (pos 1)) ∷ [])) replies.Unit
    ∷ judged 18 0 verdicts.True
    ∷ made 2 (deeds.Get (record { obj = (record { 0 = 4 }); slot = 1 })) (replies.Value (values.Int (pos 0)))
    ∷ judged 19 0 verdicts.True
    ∷ made 2 (deeds.Get (record { obj = (record { 0 = 4 }); slot = 0 })) (replies.Value (values.Ref (record { 0 = 5 })))
    ∷ made 2 (deeds.Len (record { 0 = 5 })) (replies.Value (values.Int (pos 2)))
    ∷ made 2 (deeds.Commit (record { 0 = 1 })) replies.Unit
    ∷ judged 22 0 verdicts.True
    ∷ made 2 (deeds.Get (record { obj = (record { 0 = 4 }); slot = 0 })) (replies.Value (values.Ref (record { 0 = 5 })))
    ∷ made 2 (deeds.Get (record { obj = (record { 0 = 4 }); slot = 2 })) (replies.Value (values.Int (pos 0)))
    ∷ made 2 (deeds.Put (record { obj = (record { 0 = 5 }); slot = 0 }) (values.Int (pos 1))) replies.Unit
    ∷ made 2 (deeds.Get (record { obj = (record { 0 = 4 }); slot = 2 })) (replies.Value (values.Int (pos 0)))
    ∷ made 2 (deeds.Get (record { obj = (record { 0 = 4 }); slot = 0 })) (replies.Value (values.Ref (record { 0 = 5 })))
    ∷ made 2 (deeds.Len (record { 0 = 5 })) (replies.Value (values.Int (pos 2)))
    ∷ made 2 (deeds.Put (record { obj = (record { 0 = 4 }); slot = 2 }) (values.Int (pos 1))) replies.Unit
    ∷ made 2 (deeds.Get (record { obj = (record { 0 = 4 }); slot = 1 })) (replies.Value (values.Int (pos 0)))
    ∷ judged 30 0 verdicts.True
    ∷ made 2 (deeds.Put (record { obj = (record { 0 = 4 }); slot = 1 }) (values.Int (pos 1))) replies.Unit
    ∷ judged 31 0 verdicts.True
    ∷ made 2 (deeds.NotifyAll (record { 0 = 4 })) replies.Unit
    ∷ made 2 (deeds.Leave (record { 0 = 1 }) (leaves.Normal None)) replies.Unit
    ∷ judged 33 0 verdicts.True
    ∷ judged 33 1 verdicts.True
    ∷ made 2 (deeds.Exit (record { 0 = 4 })) replies.Unit
    ∷ made 2 (deeds.Back) replies.Unit
    ∷ made 2 (deeds.Get (record { obj = (record { 0 = 6 }); slot = 0 })) (replies.Value (values.Ref (record { 0 = 4 })))
    ∷ made 2 (deeds.Enter (record { 0 = 4 }) ways.Method) replies.Unit
    ∷ made 2 (deeds.Call (record { 0 = 1 }) (Some (record { 0 = 4 })) ((values.Int (pos 2)) ∷ [])) replies.Unit
    ∷ judged 38 0 verdicts.True
    ∷ made 2 (deeds.Get (record { obj = (record { 0 = 4 }); slot = 1 })) (replies.Value (values.Int (pos 1)))
    ∷ judged 39 0 verdicts.True
    ∷ made 2 (deeds.Get (record { obj = (record { 0 = 4 }); slot = 0 })) (replies.Value (values.Ref (record { 0 = 5 })))
    ∷ made 2 (deeds.Len (record { 0 = 5 })) (replies.Value (values.Int (pos 2)))
    ∷ made 2 (deeds.Commit (record { 0 = 1 })) replies.Unit
    ∷ judged 42 0 verdicts.True
    ∷ made 2 (deeds.Get (record { obj = (record { 0 = 4 }); slot = 0 })) (replies.Value (values.Ref (record { 0 = 5 })))
    ∷ made 2 (deeds.Get (record { obj = (record { 0 = 4 }); slot = 2 })) (replies.Value (values.Int (pos 1)))
    ∷ made 2 (deeds.Put (record { obj = (record { 0 = 5 }); slot = 1 }) (values.Int (pos 2))) replies.Unit
    ∷ made 2 (deeds.Get (record { obj = (record { 0 = 4 }); slot = 2 })) (replies.Value (values.Int (pos 1)))
    ∷ made 2 (deeds.Get (record { obj = (record { 0 = 4 }); slot = 0 })) (replies.Value (values.Ref (record { 0 = 5 })))
    ∷ made 2 (deeds.Len (record { 0 = 5 })) (replies.Value (values.Int (pos 2)))
    ∷ made 2 (deeds.Put (record { obj = (record { 0 = 4 }); slot = 2 }) (values.Int (pos 0))) replies.Unit
    ∷ made 2 (deeds.Get (record { obj = (record { 0 = 4 }); slot = 1 })) (replies.Value (values.Int (pos 1)))
    ∷ judged 50 0 verdicts.True
    ∷ made 2 (deeds.Put (record { obj = (record { 0 = 4 }); slot = 1 }) (values.Int (pos 2))) replies.Unit
    ∷ judged 51 0 verdicts.True
    ∷ made 2 (deeds.NotifyAll (record { 0 = 4 })) replies.Unit
    ∷ made 2 (deeds.Leave (record { 0 = 1 }) (leaves.Normal None)) replies.Unit
    ∷ judged 53 0 verdicts.True
    ∷ judged 53 1 verdicts.True
    ∷ made 2 (deeds.Exit (record { 0 = 4 })) replies.Unit
    ∷ made 1 (deeds.Resume (record { 0 = 4 })) replies.Unit
    ∷ made 2 (deeds.Back) replies.Unit
    ∷ made 2 (deeds.Get (record { obj = (record { 0 = 6 }); slot = 0 })) (replies.Value (values.Ref (record { 0 = 4 })))
    ∷ made 1 (deeds.Back) replies.Unit
    ∷ made 1 (deeds.Get (record { obj = (record { 0 = 4 }); slot = 1 })) (replies.Value (values.Int (pos 2)))
    ∷ judged 59 0 verdicts.True
    ∷ made 1 (deeds.Commit (record { 0 = 2 })) replies.Unit
    ∷ judged 60 0 verdicts.True
    ∷ made 1 (deeds.Get (record { obj = (record { 0 = 4 }); slot = 0 })) (replies.Value (values.Ref (record { 0 = 5 })))
    ∷ made 1 (deeds.Get (record { obj = (record { 0 = 4 }); slot = 3 })) (replies.Value (values.Int (pos 0)))
    ∷ made 1 (deeds.Get (record { obj = (record { 0 = 5 }); slot = 0 })) (replies.Value (values.Int (pos 1)))
    ∷ made 1 (deeds.Get (record { obj = (record { 0 = 4 }); slot = 3 })) (replies.Value (values.Int (pos 0)))
    ∷ made 1 (deeds.Get (record { obj = (record { 0 = 4 }); slot = 0 })) (replies.Value (values.Ref (record { 0 = 5 })))
    ∷ made 1 (deeds.Len (record { 0 = 5 })) (replies.Value (values.Int (pos 2)))
    ∷ made 1 (deeds.Put (record { obj = (record { 0 = 4 }); slot = 3 }) (values.Int (pos 1))) replies.Unit
    ∷ made 1 (deeds.Get (record { obj = (record { 0 = 4 }); slot = 1 })) (replies.Value (values.Int (pos 2)))
    ∷ judged 68 0 verdicts.True
    ∷ made 1 (deeds.Put (record { obj = (record { 0 = 4 }); slot = 1 }) (values.Int (pos 1))) replies.Unit
    ∷ judged 69 0 verdicts.True
    ∷ made 1 (deeds.NotifyAll (record { 0 = 4 })) replies.Unit
    ∷ made 1 (deeds.Leave (record { 0 = 2 }) (leaves.Normal (Some (values.Int (pos 1))))) replies.Unit
    ∷ judged 71 0 verdicts.True
    ∷ made 1 (deeds.Exit (record { 0 = 4 })) replies.Unit
    ∷ made 2 (deeds.Enter (record { 0 = 4 }) ways.Method) replies.Unit
    ∷ made 2 (deeds.Call (record { 0 = 1 }) (Some (record { 0 = 4 })) ((values.Int (pos 3)) ∷ [])) replies.Unit
    ∷ judged 74 0 verdicts.True
    ∷ made 1 (deeds.Print ((shows.Val (values.Int (pos 1))) ∷ [])) replies.Unit
    ∷ made 1 (deeds.Back) replies.Unit
    ∷ made 2 (deeds.Get (record { obj = (record { 0 = 4 }); slot = 1 })) (replies.Value (values.Int (pos 1)))
    ∷ judged 77 0 verdicts.True
    ∷ made 2 (deeds.Get (record { obj = (record { 0 = 4 }); slot = 0 })) (replies.Value (values.Ref (record { 0 = 5 })))
    ∷ made 2 (deeds.Len (record { 0 = 5 })) (replies.Value (values.Int (pos 2)))
    ∷ made 2 (deeds.Commit (record { 0 = 1 })) replies.Unit
    ∷ judged 80 0 verdicts.True
    ∷ made 2 (deeds.Get (record { obj = (record { 0 = 4 }); slot = 0 })) (replies.Value (values.Ref (record { 0 = 5 })))
    ∷ made 2 (deeds.Get (record { obj = (record { 0 = 4 }); slot = 2 })) (replies.Value (values.Int (pos 0)))
    ∷ made 2 (deeds.Put (record { obj = (record { 0 = 5 }); slot = 0 }) (values.Int (pos 3))) replies.Unit
    ∷ made 2 (deeds.Get (record { obj = (record { 0 = 4 }); slot = 2 })) (replies.Value (values.Int (pos 0)))
    ∷ made 2 (deeds.Get (record { obj = (record { 0 = 4 }); slot = 0 })) (replies.Value (values.Ref (record { 0 = 5 })))
    ∷ made 2 (deeds.Len (record { 0 = 5 })) (replies.Value (values.Int (pos 2)))
    ∷ made 2 (deeds.Put (record { obj = (record { 0 = 4 }); slot = 2 }) (values.Int (pos 1))) replies.Unit
    ∷ made 2 (deeds.Get (record { obj = (record { 0 = 4 }); slot = 1 })) (replies.Value (values.Int (pos 1)))
    ∷ judged 88 0 verdicts.True
    ∷ made 2 (deeds.Put (record { obj = (record { 0 = 4 }); slot = 1 }) (values.Int (pos 2))) replies.Unit
    ∷ judged 89 0 verdicts.True
    ∷ made 2 (deeds.NotifyAll (record { 0 = 4 })) replies.Unit
    ∷ made 2 (deeds.Leave (record { 0 = 1 }) (leaves.Normal None)) replies.Unit
    ∷ judged 91 0 verdicts.True
    ∷ judged 91 1 verdicts.True
    ∷ made 2 (deeds.Exit (record { 0 = 4 })) replies.Unit
    ∷ made 2 (deeds.Back) replies.Unit
    ∷ made 1 (deeds.Enter (record { 0 = 4 }) ways.Method) replies.Unit
    ∷ made 2 (deeds.Leave (record { 0 = 4 }) (leaves.Normal None)) replies.Unit
    ∷ made 2 (deeds.End ends.Normal) replies.Unit
    ∷ made 1 (deeds.Call (record { 0 = 2 }) (Some (record { 0 = 4 })) []) replies.Unit
    ∷ judged 97 0 verdicts.True
    ∷ made 1 (deeds.Get (record { obj = (record { 0 = 4 }); slot = 1 })) (replies.Value (values.Int (pos 2)))
    ∷ judged 98 0 verdicts.True
    ∷ made 1 (deeds.Commit (record { 0 = 2 })) replies.Unit
    ∷ judged 99 0 verdicts.True
    ∷ made 1 (deeds.Get (record { obj = (record { 0 = 4 }); slot = 0 })) (replies.Value (values.Ref (record { 0 = 5 })))
    ∷ made 1 (deeds.Get (record { obj = (record { 0 = 4 }); slot = 3 })) (replies.Value (values.Int (pos 1)))
    ∷ made 1 (deeds.Get (record { obj = (record { 0 = 5 }); slot = 1 })) (replies.Value (values.Int (pos 2)))
    ∷ made 1 (deeds.Get (record { obj = (record { 0 = 4 }); slot = 3 })) (replies.Value (values.Int (pos 1)))
    ∷ made 1 (deeds.Get (record { obj = (record { 0 = 4 }); slot = 0 })) (replies.Value (values.Ref (record { 0 = 5 })))
    ∷ made 1 (deeds.Len (record { 0 = 5 })) (replies.Value (values.Int (pos 2)))
    ∷ made 1 (deeds.Put (record { obj = (record { 0 = 4 }); slot = 3 }) (values.Int (pos 0))) replies.Unit
    ∷ made 1 (deeds.Get (record { obj = (record { 0 = 4 }); slot = 1 })) (replies.Value (values.Int (pos 2)))
    ∷ judged 107 0 verdicts.True
    ∷ made 1 (deeds.Put (record { obj = (record { 0 = 4 }); slot = 1 }) (values.Int (pos 1))) replies.Unit
    ∷ judged 108 0 verdicts.True
    ∷ made 1 (deeds.NotifyAll (record { 0 = 4 })) replies.Unit
    ∷ made 1 (deeds.Leave (record { 0 = 2 }) (leaves.Normal (Some (values.Int (pos 2))))) replies.Unit
    ∷ judged 110 0 verdicts.True
    ∷ made 1 (deeds.Exit (record { 0 = 4 })) replies.Unit
    ∷ made 1 (deeds.Print ((shows.Val (values.Int (pos 2))) ∷ [])) replies.Unit
    ∷ made 1 (deeds.Back) replies.Unit
    ∷ made 1 (deeds.Enter (record { 0 = 4 }) ways.Method) replies.Unit
    ∷ made 1 (deeds.Call (record { 0 = 2 }) (Some (record { 0 = 4 })) []) replies.Unit
    ∷ judged 115 0 verdicts.True
    ∷ made 1 (deeds.Get (record { obj = (record { 0 = 4 }); slot = 1 })) (replies.Value (values.Int (pos 1)))
    ∷ judged 116 0 verdicts.True
    ∷ made 1 (deeds.Commit (record { 0 = 2 })) replies.Unit
    ∷ judged 117 0 verdicts.True
    ∷ made 1 (deeds.Get (record { obj = (record { 0 = 4 }); slot = 0 })) (replies.Value (values.Ref (record { 0 = 5 })))
    ∷ made 1 (deeds.Get (record { obj = (record { 0 = 4 }); slot = 3 })) (replies.Value (values.Int (pos 0)))
    ∷ made 1 (deeds.Get (record { obj = (record { 0 = 5 }); slot = 0 })) (replies.Value (values.Int (pos 3)))
    ∷ made 1 (deeds.Get (record { obj = (record { 0 = 4 }); slot = 3 })) (replies.Value (values.Int (pos 0)))
    ∷ made 1 (deeds.Get (record { obj = (record { 0 = 4 }); slot = 0 })) (replies.Value (values.Ref (record { 0 = 5 })))
    ∷ made 1 (deeds.Len (record { 0 = 5 })) (replies.Value (values.Int (pos 2)))
    ∷ made 1 (deeds.Put (record { obj = (record { 0 = 4 }); slot = 3 }) (values.Int (pos 1))) replies.Unit
    ∷ made 1 (deeds.Get (record { obj = (record { 0 = 4 }); slot = 1 })) (replies.Value (values.Int (pos 1)))
    ∷ judged 125 0 verdicts.True
    ∷ made 1 (deeds.Put (record { obj = (record { 0 = 4 }); slot = 1 }) (values.Int (pos 0))) replies.Unit
    ∷ judged 126 0 verdicts.True
    ∷ made 1 (deeds.NotifyAll (record { 0 = 4 })) replies.Unit
    ∷ made 1 (deeds.Leave (record { 0 = 2 }) (leaves.Normal (Some (values.Int (pos 3))))) replies.Unit
    ∷ judged 128 0 verdicts.True
    ∷ made 1 (deeds.Exit (record { 0 = 4 })) replies.Unit
    ∷ made 1 (deeds.Print ((shows.Val (values.Int (pos 3))) ∷ [])) replies.Unit
    ∷ made 1 (deeds.Back) replies.Unit
    ∷ made 1 (deeds.Leave (record { 0 = 5 }) (leaves.Normal None)) replies.Unit
    ∷ made 1 (deeds.End ends.Normal) replies.Unit
    ∷ []

abbrev pub finish : Finish
finish = finishes.Finished

pub is_serial : serial program 200000 5 0 ≡ record { history = journal; finish = finish }
unfolding int_wrap
is_serial = refl

pub is_right : IsRightRun program 200000 (record { history = journal; finish = finish })
is_right = subst (IsRightRun program 200000) is_serial (serial-right program 200000 5 0)
