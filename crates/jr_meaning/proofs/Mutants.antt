-- Journals with one entry changed are refused.
use Rattle.std.proofs.Common.{◌≡◌, ◌==◌, ◌||◌, ◌<◌, ℕ, Bool, pos, true, false, List, [], ◌∷◌, ◌++◌, take, drop, Some, refl, ap, sym, arith, lit<}
use Rattle.std.proofs.lemmas.Bool.{false≢true, eqb-true}
use Rattle.jr_meaning.specs.Next.{Wants}
use Rattle.std.specs.Int.{int_wrap}
use Rattle.jr_base.specs.Deed as deeds
use Rattle.jr_base.specs.declared.action.Reply.{Reply}
use Rattle.jr_base.specs.declared.action.Reply.TheVariants as replies
use Rattle.jr_base.specs.declared.value.Value.TheVariants as values
use Rattle.jr_base.specs.declared.finish.Verdict.TheVariants as verdicts
use Rattle.jr_base.specs.declared.finish.Finish.TheVariants as finishes
use Rattle.jr_meaning.specs.Event.{Event}
use Rattle.jr_meaning.specs.History.{MayCome, IsLegal}
use Rattle.jr_meaning.specs.Verdicts.{MayStand, IsRight, OwesNothing}
use Rattle.jr_meaning.specs.Finish.{IsTrueFinish, ByEnd, ByDeadlock}
use Rattle.jr_meaning.specs.Machine.{is_among}
use Rattle.jr_base.specs.declared.number.GuestNo.{GuestNo}
use Rattle.jr_meaning.proofs.Histories.{Each-at}
use Rattle.jr_meaning.proofs.Finishes.{one-kind}
use Rattle.jr_meaning.proofs.Runs.{made, judged, woke}
use Rattle.jr_meaning.proofs.Runs.LostUpdate as lost
use Rattle.jr_meaning.proofs.Runs.LockedCount as kept
use Rattle.jr_meaning.proofs.Runs.NestedWait as thrice
use Rattle.jr_meaning.proofs.Runs.TimedWait as timed

-- ---- what isn't so

no-value : replies.Value (values.Int (pos 1)) ≡ replies.Value (values.Int (pos 2)) → ⊥
no-value e = grind arith

no-write : Wants (deeds.Put (record { obj = record { 0 = 1 }; slot = 0 }) (values.Int (pos 1))) ≡ Wants (deeds.Put (record { obj = record { 0 = 1 }; slot = 0 }) (values.Int (pos 2))) → ⊥
no-write e = grind arith

no-falsehood : Some verdicts.True ≡ Some verdicts.False → ⊥
no-falsehood e = cc

no-truth : Some verdicts.False ≡ Some verdicts.True → ⊥
no-truth e = cc

abbrev woken_number : Reply → ℕ
woken_number (replies.Woke g) = g.0
woken_number _ = 0

among_one : (b : Bool) → (b || false) ≡ true → b ≡ true
among_one true e = refl
among_one false e = cc

-- ---- of the lost update

-- guest 2 reads 1, and never 2
wrong_read : (more : List Event) →
    IsLegal lost.program 200000 (take 7 lost.journal ++ made 2 (deeds.Get (record { obj = record { 0 = 1 }; slot = 0 })) (replies.Value (values.Int (pos 2))) ∷ more) → ⊥
unfolding int_wrap
wrong_read more legal = let may = Each-at (MayCome lost.program 200000) (take 7 lost.journal) _ more legal in no-value (sym may.answer)

-- guest 1 writes 1, and never 2
wrong_write : (more : List Event) →
    IsLegal lost.program 200000 (take 5 lost.journal ++ made 1 (deeds.Put (record { obj = record { 0 = 1 }; slot = 0 }) (values.Int (pos 2))) replies.Unit ∷ more) → ⊥
unfolding int_wrap
wrong_write more legal = let may = Each-at (MayCome lost.program 200000) (take 5 lost.journal) _ more legal in no-write may.can.next

-- guest 1 waits for guest 2's end
early_join : (more : List Event) →
    IsLegal lost.program 200000 (take 10 lost.journal ++ made 1 (deeds.Join (record { 0 = 2 })) replies.Unit ∷ more) → ⊥
unfolding int_wrap
early_join more legal = let may = Each-at (MayCome lost.program 200000) (take 10 lost.journal) _ more legal in false≢true may.can.ready

-- the clause doesn't hold
wrong_verdict : (more : List Event) → IsRight lost.program (take 13 lost.journal ++ judged 12 0 verdicts.True ∷ more) → ⊥
unfolding int_wrap
wrong_verdict more right = let may = Each-at (MayStand lost.program) (take 13 lost.journal) _ more right in no-truth may.worth

-- and it is judged once
twice_judged : (more : List Event) → IsRight lost.program (take 14 lost.journal ++ judged 12 0 verdicts.False ∷ more) → ⊥
unfolding int_wrap
twice_judged more right = let may = Each-at (MayStand lost.program) (take 14 lost.journal) _ more right in let wrong : 0 < 0 = may.in_order 0 0 (lit< tt) in omega arith

-- a journal without its verdict owes it
no_verdict : OwesNothing lost.program (take 13 lost.journal ++ drop 14 lost.journal) → ⊥
unfolding int_wrap
no_verdict nothing = false≢true (nothing 12 0 (lit< tt))

-- the finish isn't another one
no_deadlock : IsTrueFinish lost.program 200000 lost.journal finishes.Deadlock → ⊥
no_deadlock dead = other (one-kind lost.program 200000 lost.journal finishes.Finished finishes.Deadlock lost.is_right.finish dead (λ e. cc) (λ e. cc))
  where
    other : ByEnd ≡ ByDeadlock → ⊥
    other e = cc

-- ---- of the update under a monitor

-- the clause holds there
holds_there : (more : List Event) → IsRight kept.program (take 8 kept.journal ++ judged 7 0 verdicts.False ∷ more) → ⊥
unfolding int_wrap
holds_there more right = let may = Each-at (MayStand kept.program) (take 8 kept.journal) _ more right in no-falsehood may.worth

-- ---- of the wait under a monitor that is held three times

-- who was notified goes on only when the notifier has given the monitor back
early_resume : (more : List Event) → IsLegal thrice.program 200000 (take 16 thrice.journal ++ made 1 (deeds.Resume (record { 0 = 2 })) replies.Unit ∷ more) → ⊥
unfolding int_wrap
early_resume more legal = let may = Each-at (MayCome thrice.program 200000) (take 16 thrice.journal) _ more legal in false≢true may.can.ready

-- and nobody else is woken
wrong_woken : (more : List Event) → IsLegal thrice.program 200000 (take 15 thrice.journal ++ made 2 (deeds.Notify (record { 0 = 2 })) (replies.Woke (record { 0 = 2 })) ∷ more) → ⊥
unfolding int_wrap
wrong_woken more legal = let may = Each-at (MayCome thrice.program 200000) (take 15 thrice.journal) _ more legal in not_waiting may.answer.0 may.answer.1 may.answer.2
  where
    not_waiting : (g : GuestNo) → replies.Woke (record { 0 = 2 }) ≡ replies.Woke g → is_among g (record { 0 = 1 } ∷ []) ≡ true → ⊥
    not_waiting g e among = let two : 2 ≡ g.0 = ap woken_number e in let one : g.0 ≡ 1 = eqb-true g.0 1 (among_one (g.0 == 1) among) in omega arith

-- ---- of the wait for some time

-- nobody wakes who doesn't wait
early_wake : (more : List Event) → IsLegal timed.program 200000 (take 3 timed.journal ++ woke 1 ∷ more) → ⊥
unfolding int_wrap
early_wake more legal = false≢true (Each-at (MayCome timed.program 200000) (take 3 timed.journal) _ more legal)

-- and who waits for some time only is no deadlock
no_timed_deadlock : IsTrueFinish timed.program 200000 (take 4 timed.journal) finishes.Deadlock → ⊥
unfolding int_wrap
no_timed_deadlock dead = dead.2 (record { 0 = 1 }, refl, refl)

-- but goes on only when it woke
early_return : (more : List Event) → IsLegal timed.program 200000 (take 4 timed.journal ++ made 1 (deeds.Resume (record { 0 = 2 })) replies.Unit ∷ more) → ⊥
unfolding int_wrap
early_return more legal = let may = Each-at (MayCome timed.program 200000) (take 4 timed.journal) _ more legal in false≢true may.can.ready
