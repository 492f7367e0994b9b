-- The run of Timers by the serial rule with seed 3 and spurious wake-ups at each step that 4 divides.
use Rattle.std.specs.Prelude.{◌≡◌, pos, List, [], ◌∷◌, Some, None}
use Rattle.jr_base.specs.Deed.{Deed}
use Rattle.jr_base.specs.Deed as deeds
use Rattle.jr_base.specs.declared.action.NewKind.TheVariants as makes
use Rattle.jr_base.specs.declared.action.Reply.TheVariants as replies
use Rattle.jr_base.specs.declared.action.LeaveHow.TheVariants as leaves
use Rattle.jr_base.specs.declared.action.EndHow.TheVariants as ends
use Rattle.jr_base.specs.declared.action.Way.TheVariants as ways
use Rattle.jr_base.specs.declared.action.PrintPart.TheVariants as shows
use Rattle.jr_base.specs.declared.value.Value.TheVariants as values
use Rattle.jr_base.specs.declared.finish.Finish.{Finish}
use Rattle.jr_base.specs.declared.finish.Finish.TheVariants as finishes
use Rattle.jr_meaning.specs.Event.{Event}
use Rattle.jr_meaning.specs.Right.{IsRightRun}
use Rattle.jr_meaning.specs.Serial.{serial}
use Rattle.jr_meaning.proofs.SerialRuns.{serial-right}
use Rattle.jr_meaning.proofs.Runs.Timers.{program}
use Rattle.jr_meaning.proofs.Runs.{made, woke}
use Rattle.std.proofs.Common.{refl, subst}
use Rattle.std.specs.Int.{int_wrap}

abbrev pub journal : List Event
journal =
    made 1 (deeds.Call (record { 0 = 2 }) None []) replies.Unit
    ∷ made 1 (deeds.New (makes.Object (record { 0 = 0 }))) (replies.Made (record { 0 = 2 }))
    ∷ made 1 (deeds.Call (record { 0 = 0 }) (Some (record { 0 = 2 })) ((values.Int (pos 0)) ∷ [])) replies.Unit
    ∷ made 1 (deeds.Put (record { obj = (record { 0 = 2 }); slot = 0 }) (values.Int (pos 0))) replies.Unit
    ∷ made 1 (deeds.Leave (record { 0 = 0 }) (leaves.Normal None)) replies.Unit
    ∷ made 1 (deeds.Start (record { 0 = 2 })) (replies.Started (record { 0 = 2 }) (Some (record { method = (record { 0 = 1 }); this = (Some (record { 0 = 2 })) })))
    ∷ made 2 (deeds.Call (record { 0 = 1 }) (Some (record { 0 = 2 })) []) replies.Unit
    ∷ made 2 (deeds.Enter (record { 0 = 1 }) ways.Block) replies.Unit
    ∷ made 2 (deeds.Get (record { obj = (record { 0 = 2 }); slot = 0 })) (replies.Value (values.Int (pos 0)))
    ∷ made 2 (deeds.Wait (record { 0 = 1 })) replies.Unit
    ∷ made 1 (deeds.Back) replies.Unit
    ∷ made 1 (deeds.New (makes.Object (record { 0 = 0 }))) (replies.Made (record { 0 = 3 }))
    ∷ woke 2
    ∷ made 1 (deeds.Call (record { 0 = 0 }) (Some (record { 0 = 3 })) ((values.Int (pos 1)) ∷ [])) replies.Unit
    ∷ made 2 (deeds.Resume (record { 0 = 1 })) replies.Unit
    ∷ made 1 (deeds.Put (record { obj = (record { 0 = 3 }); slot = 0 }) (values.Int (pos 1))) replies.Unit
    ∷ made 2 (deeds.Get (record { obj = (record { 0 = 2 }); slot = 0 })) (replies.Value (values.Int (pos 0)))
    ∷ made 2 (deeds.Print ((shows.Text (record { 0 = 0 })) ∷ (shows.Val (values.Int (pos 0))) ∷ [])) replies.Unit
    ∷ made 2 (deeds.Get (record { obj = (record { 0 = 2 }); slot = 0 })) (replies.Value (values.Int (pos 0)))
    ∷ made 2 (deeds.Exit (record { 0 = 1 })) replies.Unit
    ∷ made 1 (deeds.Leave (record { 0 = 0 }) (leaves.Normal None)) replies.Unit
    ∷ made 2 (deeds.Leave (record { 0 = 1 }) (leaves.Normal None)) replies.Unit
    ∷ made 1 (deeds.Start (record { 0 = 3 })) (replies.Started (record { 0 = 3 }) (Some (record { method = (record { 0 = 1 }); this = (Some (record { 0 = 3 })) })))
    ∷ made 3 (deeds.Call (record { 0 = 1 }) (Some (record { 0 = 3 })) []) replies.Unit
    ∷ made 1 (deeds.Back) replies.Unit
    ∷ made 3 (deeds.Enter (record { 0 = 1 }) ways.Block) replies.Unit
    ∷ made 3 (deeds.Get (record { obj = (record { 0 = 3 }); slot = 0 })) (replies.Value (values.Int (pos 1)))
    ∷ made 2 (deeds.End ends.Normal) replies.Unit
    ∷ made 3 (deeds.TimedWait (record { 0 = 1 })) replies.Unit
    ∷ woke 3
    ∷ made 3 (deeds.Resume (record { 0 = 1 })) replies.Unit
    ∷ made 1 (deeds.New (makes.Object (record { 0 = 0 }))) (replies.Made (record { 0 = 4 }))
    ∷ made 3 (deeds.Get (record { obj = (record { 0 = 3 }); slot = 0 })) (replies.Value (values.Int (pos 1)))
    ∷ made 1 (deeds.Call (record { 0 = 0 }) (Some (record { 0 = 4 })) ((values.Int (pos 2)) ∷ [])) replies.Unit
    ∷ made 3 (deeds.Print ((shows.Text (record { 0 = 0 })) ∷ (shows.Val (values.Int (pos 1))) ∷ [])) replies.Unit
    ∷ made 3 (deeds.Get (record { obj = (record { 0 = 3 }); slot = 0 })) (replies.Value (values.Int (pos 1)))
    ∷ made 3 (deeds.Exit (record { 0 = 1 })) replies.Unit
    ∷ made 1 (deeds.Put (record { obj = (record { 0 = 4 }); slot = 0 }) (values.Int (pos 2))) replies.Unit
    ∷ made 3 (deeds.Leave (record { 0 = 1 }) (leaves.Normal None)) replies.Unit
    ∷ made 3 (deeds.End ends.Normal) replies.Unit
    ∷ made 1 (deeds.Leave (record { 0 = 0 }) (leaves.Normal None)) replies.Unit
    ∷ made 1 (deeds.Start (record { 0 = 4 })) (replies.Started (record { 0 = 4 }) (Some (record { method = (record { 0 = 1 }); this = (Some (record { 0 = 4 })) })))
    ∷ made 4 (deeds.Call (record { 0 = 1 }) (Some (record { 0 = 4 })) []) replies.Unit
    ∷ made 4 (deeds.Enter (record { 0 = 1 }) ways.Block) replies.Unit
    ∷ made 1 (deeds.Back) replies.Unit
    ∷ made 1 (deeds.New (makes.Object (record { 0 = 0 }))) (replies.Made (record { 0 = 5 }))
    ∷ made 1 (deeds.Call (record { 0 = 0 }) (Some (record { 0 = 5 })) ((values.Int (pos 3)) ∷ [])) replies.Unit
    ∷ made 4 (deeds.Get (record { obj = (record { 0 = 4 }); slot = 0 })) (replies.Value (values.Int (pos 2)))
    ∷ made 4 (deeds.TimedWait (record { 0 = 1 })) replies.Unit
    ∷ made 1 (deeds.Put (record { obj = (record { 0 = 5 }); slot = 0 }) (values.Int (pos 3))) replies.Unit
    ∷ woke 4
    ∷ made 4 (deeds.Resume (record { 0 = 1 })) replies.Unit
    ∷ made 1 (deeds.Leave (record { 0 = 0 }) (leaves.Normal None)) replies.Unit
    ∷ made 4 (deeds.Get (record { obj = (record { 0 = 4 }); slot = 0 })) (replies.Value (values.Int (pos 2)))
    ∷ made 1 (deeds.Start (record { 0 = 5 })) (replies.Started (record { 0 = 5 }) (Some (record { method = (record { 0 = 1 }); this = (Some (record { 0 = 5 })) })))
    ∷ made 4 (deeds.Print ((shows.Text (record { 0 = 0 })) ∷ (shows.Val (values.Int (pos 2))) ∷ [])) replies.Unit
    ∷ made 5 (deeds.Call (record { 0 = 1 }) (Some (record { 0 = 5 })) []) replies.Unit
    ∷ made 1 (deeds.Back) replies.Unit
    ∷ made 4 (deeds.Get (record { obj = (record { 0 = 4 }); slot = 0 })) (replies.Value (values.Int (pos 2)))
    ∷ made 4 (deeds.Notify (record { 0 = 1 })) replies.Nobody
    ∷ made 4 (deeds.Exit (record { 0 = 1 })) replies.Unit
    ∷ made 5 (deeds.Enter (record { 0 = 1 }) ways.Block) replies.Unit
    ∷ made 5 (deeds.Get (record { obj = (record { 0 = 5 }); slot = 0 })) (replies.Value (values.Int (pos 3)))
    ∷ made 5 (deeds.TimedWait (record { 0 = 1 })) replies.Unit
    ∷ made 1 (deeds.Enter (record { 0 = 1 }) ways.Block) replies.Unit
    ∷ made 4 (deeds.Leave (record { 0 = 1 }) (leaves.Normal None)) replies.Unit
    ∷ made 4 (deeds.End ends.Normal) replies.Unit
    ∷ woke 5
    ∷ made 1 (deeds.TimedWait (record { 0 = 1 })) replies.Unit
    ∷ made 5 (deeds.Resume (record { 0 = 1 })) replies.Unit
    ∷ made 5 (deeds.Get (record { obj = (record { 0 = 5 }); slot = 0 })) (replies.Value (values.Int (pos 3)))
    ∷ made 5 (deeds.Print ((shows.Text (record { 0 = 0 })) ∷ (shows.Val (values.Int (pos 3))) ∷ [])) replies.Unit
    ∷ woke 1
    ∷ made 5 (deeds.Get (record { obj = (record { 0 = 5 }); slot = 0 })) (replies.Value (values.Int (pos 3)))
    ∷ made 5 (deeds.Exit (record { 0 = 1 })) replies.Unit
    ∷ made 1 (deeds.Resume (record { 0 = 1 })) replies.Unit
    ∷ made 1 (deeds.Exit (record { 0 = 1 })) replies.Unit
    ∷ made 5 (deeds.Leave (record { 0 = 1 }) (leaves.Normal None)) replies.Unit
    ∷ made 1 (deeds.Enter (record { 0 = 1 }) ways.Block) replies.Unit
    ∷ made 5 (deeds.End ends.Normal) replies.Unit
    ∷ made 1 (deeds.Wait (record { 0 = 1 })) replies.Unit
    ∷ woke 1
    ∷ made 1 (deeds.Resume (record { 0 = 1 })) replies.Unit
    ∷ made 1 (deeds.Exit (record { 0 = 1 })) replies.Unit
    ∷ made 1 (deeds.Leave (record { 0 = 2 }) (leaves.Normal None)) replies.Unit
    ∷ made 1 (deeds.End ends.Normal) replies.Unit
    ∷ []

abbrev pub finish : Finish
finish = finishes.Finished

pub is_serial : serial program 200000 3 4 ≡ record { history = journal; finish = finish }
unfolding int_wrap
is_serial = refl

pub is_right : IsRightRun program 200000 (record { history = journal; finish = finish })
is_right = subst (IsRightRun program 200000) is_serial (serial-right program 200000 3 4)
