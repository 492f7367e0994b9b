-- An entry more is found as those before it are.
use Rattle.std.proofs.Common.{◌≡◌, ◌+◌, ℕ, List, [], ◌∷◌, ◌++◌, length, map, Some, None, Bool, false, sym, ◌∙◌, ap, arith}
use Rattle.std.specs.Prelude.{cond, ◌==◌}
use Rattle.jr_base.specs.Deed.{Deed}
use Rattle.jr_base.specs.declared.number.GuestNo.{GuestNo}
use Rattle.jr_base.specs.declared.number.Stamp.{Stamp}
use Rattle.jr_base.specs.declared.action.Reply.{Reply}
use Rattle.jr_base.specs.declared.finish.Verdict.{Verdict}
use Rattle.jr_meaning.specs.Event.{Event, Step, Judged, Wake}
use Rattle.jr_journal.specs.declared.marks.Mark.{Mark}
use Rattle.jr_journal.specs.Entries.{step_places_from, make_places_from, made_at}
use Rattle.jr_journal.specs.Marks.{Follows, kept, first_of, place_in}
use Rattle.jr_journal.proofs.Appended.{step_gives_none, wake_gives_none, judged_gives, steps_after_step, steps_after_judged, steps_after_wake, makes_after_step, makes_after_judged, makes_after_wake}

pub one_step : (h : List Event) (n : ℕ) (g : GuestNo) (deed : Deed) (reply : Reply) (old new : List Mark) (made more : List ℕ) (complete : Bool) →
    n ≡ length h → Follows h old made complete → map place_in new ≡ map place_in old ++ n ∷ [] → more ≡ made ++ made_at n reply →
    ((k place : ℕ) → kept new k place ≡ kept old k place) → Follows (h ++ Step g deed reply ∷ []) new more complete
one_step h n g deed reply old new made more complete last follows places makes same =
    let e : n ≡ 0 + length h = omega (arith, last) in
    record {
      steps = places ∙ ap (λ l. l ++ n ∷ []) follows.steps ∙ ap (λ m. step_places_from 0 h ++ m ∷ []) e ∙ sym (steps_after_step 0 h g deed reply);
      makes = makes ∙ ap (λ l. l ++ made_at n reply) follows.makes ∙ ap (λ m. make_places_from 0 h ++ made_at m reply) e ∙ sym (makes_after_step 0 h g deed reply);
      verdicts = λ full k place. step_gives_none h g deed reply k place ∙ follows.verdicts full k place ∙ sym (same k place);
    }

pub one_wake : (h : List Event) (g : GuestNo) (marks : List Mark) (made : List ℕ) (complete : Bool) →
    Follows h marks made complete → Follows (h ++ Wake g ∷ []) marks made complete
one_wake h g marks made complete follows = record {
  steps = follows.steps ∙ sym (steps_after_wake 0 h g);
  makes = follows.makes ∙ sym (makes_after_wake 0 h g);
  verdicts = λ full k place. wake_gives_none h g k place ∙ follows.verdicts full k place;
}

pub kept_verdict : (h : List Event) (s : Stamp) (p : ℕ) (v : Verdict) (old new : List Mark) (made : List ℕ) (complete : Bool) →
    Follows h old made complete → map place_in new ≡ map place_in old →
    ((k other : ℕ) → kept new k other ≡ first_of (kept old k other) (cond (s.0 == k) (cond (p == other) (Some v) None) None)) →
    Follows (h ++ Judged s p v ∷ []) new made complete
kept_verdict h s p v old new made complete follows places keeps = record {
  steps = places ∙ follows.steps ∙ sym (steps_after_judged 0 h s p v);
  makes = follows.makes ∙ sym (makes_after_judged 0 h s p v);
  verdicts = λ full k place.
      judged_gives h s p v k place
      ∙ ap (λ o. first_of o (cond (s.0 == k) (cond (p == place) (Some v) None) None)) (follows.verdicts full k place)
      ∙ sym (keeps k place);
}

pub lost_verdict : (h : List Event) (s : Stamp) (p : ℕ) (v : Verdict) (old new : List Mark) (made : List ℕ) (complete : Bool) →
    Follows h old made complete → map place_in new ≡ map place_in old → Follows (h ++ Judged s p v ∷ []) new made false
lost_verdict h s p v old new made complete follows places = record {
  steps = places ∙ follows.steps ∙ sym (steps_after_judged 0 h s p v);
  makes = follows.makes ∙ sym (makes_after_judged 0 h s p v);
  verdicts = λ full. absurd (cc);
}
