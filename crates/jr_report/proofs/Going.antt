-- A pass that goes past an entry.
use Rattle.std.proofs.Common.{◌≡◌, ◌+◌, List, [], ◌∷◌, ◌++◌, take, Some, slice_get, refl, ap, sym, subst, ◌∙◌, arith}
use Rattle.std.proofs.lemmas.Option.{slice_get_within}
use Rattle.jr_base.specs.Deed.{Deed}
use Rattle.jr_base.specs.declared.number.GuestNo.{GuestNo}
use Rattle.jr_base.specs.declared.action.Action.{Action}
use Rattle.jr_base.specs.declared.action.Reply.{Reply}
use Rattle.jr_program.specs.Programs.{Program}
use Rattle.jr_meaning.specs.Event.{Event, Step, Judged, Wake}
use Rattle.jr_meaning.specs.History.{step_count, steps_in}
use Rattle.jr_journal.specs.Entries.{event_of}
use Rattle.jr_journal.specs.declared.journal.Entry.{Entry}
use Rattle.jr_journal.specs.declared.journal.Entry.TheVariants as entries
use Rattle.jr_report.specs.declared.pass.Pass.{Pass}
use Rattle.jr_report.specs.OpenCalls.{AreOpen, FramesFit, Stands}
use Rattle.jr_report.specs.Sites.{IsLegalSomehow}
use Rattle.jr_report.proofs.Pieces.{take-at}
use Rattle.jr_report.proofs.Moments.{front-fits, steps-at}
use Rattle.jr_report.proofs.OpenCalls.{judged-open, woken-open}

-- the calls behind the entry are open after it
goes : (h : List Event) (pass later : Pass) (e : Event) → Stands h pass → slice_get h pass.at ≡ Some e → later.at ≡ pass.at + 1 → later.step ≡ pass.step + steps_in e →
    AreOpen (take pass.at h ++ e ∷ []) later.calls → Stands h later
goes h pass later e stands there at step opened =
    let within = slice_get_within h pass.at e there in
    record {
      within = omega (arith, within, at);
      steps = step ∙ ap (λ k. k + steps_in e) stands.steps ∙ sym (steps-at h pass.at e there) ∙ ap (λ n. step_count (take n h)) (sym at);
      calls = subst (λ es. AreOpen es later.calls) (sym (take-at h pass.at e there) ∙ ap (λ n. take n h) (sym at)) opened;
    }

pub goes-by-step : (program : Program) (h : List Event) → IsLegalSomehow program h → (pass later : Pass) (g : GuestNo) (deed : Deed) (reply : Reply) (entry : Event) → entry ≡ Step g deed reply →
    Stands h pass → slice_get h pass.at ≡ Some entry → later.at ≡ pass.at + 1 → later.step ≡ pass.step + 1 →
    ((before : List Event) (reply : Reply) → AreOpen before pass.calls → FramesFit (before ++ Step g deed reply ∷ []) → AreOpen (before ++ Step g deed reply ∷ []) later.calls) →
    Stands h later
goes-by-step program h legal pass later g deed reply entry is stands there at step opened =
    let here : slice_get h pass.at ≡ Some (Step g deed reply) = there ∙ ap (λ e. Some e) is in
    let fits : FramesFit (take pass.at h ++ Step g deed reply ∷ []) = subst FramesFit (take-at h pass.at (Step g deed reply) here) (front-fits program legal.0 h legal.1 (pass.at + 1)) in
    goes h pass later (Step g deed reply) stands here at step (opened (take pass.at h) reply stands.calls fits)

pub goes-by-other : (h : List Event) (pass later : Pass) (entry : Entry) → ((g : GuestNo) (action : Action) (reply : Reply) → entry ≡ entries.Step g action reply → ⊥) →
    Stands h pass → slice_get h pass.at ≡ Some (event_of entry) → later.at ≡ pass.at + 1 → later.step ≡ pass.step → later.calls ≡ pass.calls → Stands h later
goes-by-other h pass later (entries.Step g action reply) not stands there at step same = absurd (not g action reply refl)
goes-by-other h pass later (entries.Verdict k place value) not stands there at step same =
    goes h pass later _ stands there at (omega (arith, step)) (subst (AreOpen (take pass.at h ++ Judged k place value ∷ [])) (sym same) (judged-open (take pass.at h) pass.calls k place value stands.calls))
goes-by-other h pass later (entries.Wake w) not stands there at step same =
    goes h pass later _ stands there at (omega (arith, step)) (subst (AreOpen (take pass.at h ++ Wake w ∷ [])) (sym same) (woken-open (take pass.at h) pass.calls w stands.calls))
