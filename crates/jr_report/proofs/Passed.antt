-- The violations that a pass over a right history writes.
use Rattle.std.proofs.Common.{◌≡◌, ◌+◌, ◌≤◌, ◌<◌, ℕ, zero, suc, List, [], ◌∷◌, ◌++◌, take, drop, length, length-append, Option, Some, None, slice_get, refl, ap, sym, subst, ◌∙◌, arith}
use Rattle.std.specs.Option.{option_map_or}
use Rattle.jr_base.specs.Deed.{Deed}
use Rattle.jr_base.specs.declared.number.ClauseId.{ClauseId}
use Rattle.jr_base.specs.declared.number.GuestNo.{GuestNo}
use Rattle.jr_base.specs.declared.number.Stamp.{Stamp}
use Rattle.jr_base.specs.declared.finish.Verdict.{Verdict}
use Rattle.jr_base.specs.declared.action.Reply.{Reply}
use Rattle.jr_program.specs.Programs.{Program}
use Rattle.jr_program.specs.WellFormed.{WellFormed}
use Rattle.jr_program.specs.declared.words.Site.{Site}
use Rattle.jr_meaning.specs.Event.{Event, Step}
use Rattle.jr_meaning.specs.Due.{Passing}
use Rattle.jr_meaning.specs.History.{step_count, steps_in}
use Rattle.jr_meaning.specs.Verdicts.{Moment, moment_of, verdict_of, IsRight, OwesNothing}
use Rattle.jr_report.specs.declared.pass.Pass.{Pass}
use Rattle.jr_report.specs.declared.violations.Given.{Given}
use Rattle.jr_report.specs.declared.violations.Passage.{Passage}
use Rattle.jr_report.specs.Judged.{AreJudged, AreJudgedAt, IsGivenAt, violations_of, violations_by}
use Rattle.jr_report.specs.OpenCalls.{Stands}
use Rattle.jr_report.specs.Report.{violation_in, violations_from, clauses_due, numbered_lines, bytes_of_lines}
use Rattle.jr_report.specs.Sites.{passed, due_where}
use Rattle.jr_report.proofs.Pieces.{Leads, numbered-bytes}
use Rattle.jr_report.proofs.Moments.{moment-at, due-there, are-judged, Found, found-at, violations_to_come, to-come-at, steps-at, from-given, from-past, from-none, from-some}

pub there-is : {A : Type 0} (xs : List A) (n : ℕ) → n < length xs → (x : A) × (slice_get xs n ≡ Some x)
there-is [] n below = absurd (omega (arith, below))
there-is (x ∷ xs) zero below = (x, refl)
there-is (x ∷ xs) (suc n) below = there-is xs n (omega (arith, below))

empty : {A : Type 0} (xs : List A) → length xs ≡ 0 → xs ≡ []
empty [] e = refl
empty (x ∷ xs) e = absurd (omega (arith, e))

module _ (program : Program) (h : List Event) where
  -- at an entry, its violations and those behind it
  pub to-write : (pass : Pass) → Stands h pass → (e : Event) → slice_get h pass.at ≡ Some e → (n : ℕ) →
      bytes_of_lines (numbered_lines program n (violations_to_come program h pass.step))
      ≡ bytes_of_lines (numbered_lines program n (violations_of program h pass.step e))
      ++ bytes_of_lines (numbered_lines program (n + length (violations_of program h pass.step e)) (violations_to_come program h (pass.step + steps_in e)))
  to-write pass stands e there n =
      subst (λ k. bytes_of_lines (numbered_lines program n (violations_to_come program h k))
      ≡ bytes_of_lines (numbered_lines program n (violations_of program h k e))
      ++ bytes_of_lines (numbered_lines program (n + length (violations_of program h k e)) (violations_to_come program h (k + steps_in e))))
      (sym stands.steps)
      (ap (λ vs. bytes_of_lines (numbered_lines program n vs)) (to-come-at program h pass.at e there)
      ∙ numbered-bytes program n (violations_of program h (step_count (take pass.at h)) e) (violations_to_come program h (step_count (take pass.at h) + steps_in e)))

  -- behind it, with the next number
  pub moves-on : (first w : Option (List ℕ)) (all : List ℕ) (pass pass2 : Pass) (e : Event) (written count : ℕ) → Stands h pass → Stands h pass2 → pass2.at ≡ pass.at + 1 →
      slice_get h pass.at ≡ Some e → count ≡ length (violations_of program h pass.step e) →
      Leads first w (bytes_of_lines (numbered_lines program ((written + 1) + length (violations_of program h pass.step e)) (violations_to_come program h (pass.step + steps_in e)))) all →
      Leads first w (bytes_of_lines (numbered_lines program ((written + count) + 1) (violations_to_come program h pass2.step))) all
  moves-on first w all pass pass2 e written count stands stands2 next there counts leads =
      let number : (written + 1) + length (violations_of program h pass.step e) ≡ (written + count) + 1 = omega (arith, counts) in
      let step : pass.step + steps_in e ≡ pass2.step =
      ap (λ k. k + steps_in e) stands.steps ∙ sym (steps-at h pass.at e there) ∙ ap (λ n. step_count (take n h)) (sym next) ∙ sym stands2.steps in
      subst (λ n. Leads first w (bytes_of_lines (numbered_lines program n (violations_to_come program h pass2.step))) all) number
      (subst (λ k. Leads first w (bytes_of_lines (numbered_lines program ((written + 1) + length (violations_of program h pass.step e)) (violations_to_come program h k))) all) step leads)

module _ (program : Program) (formed : WellFormed program) (h : List Event) (right : IsRight program h) (nothing : OwesNothing program h) (pass : Pass) (stands : Stands h pass) where
  -- what is counted of an entry are its violations
  pub counted : (e : Event) → slice_get h pass.at ≡ Some e → (n : ℕ) →
      ((e : Event) (guest : GuestNo) (clauses : List ClauseId) → slice_get h pass.at ≡ Some e → AreJudgedAt h pass.step clauses e → n ≡ length (violations_by h guest pass.step clauses e)) →
      n ≡ length (violations_of program h pass.step e)
  counted e there n counts =
      let found : Found program formed h right nothing pass.at e = found-at program formed h right nothing pass.at e there in
      counts e found.guest found.clauses there (subst (λ k. AreJudgedAt h k found.clauses e) (sym stands.steps) found.judged)
      ∙ ap length (subst (λ k. violations_by h found.guest k found.clauses e ≡ violations_of program h k e) (sym stands.steps) found.same)

  module _ (g : GuestNo) (deed : Deed) (reply : Reply) (there : slice_get h pass.at ≡ Some (Step g deed reply)) where
    abbrev moment : Moment
    moment = record { before = take pass.at h; guest = g; deed = deed }

    now : moment_of h pass.step ≡ Some moment
    now = ap (moment_of h) stands.steps ∙ moment-at h pass.at g deed reply there

    judged-now : AreJudged h pass.step (clauses_due program moment)
    judged-now = are-judged program formed h right nothing pass.step moment now

    -- the violations of a step are those of its clauses
    these : violations_of program h pass.step (Step g deed reply) ≡ violations_from h g pass.step 0 (clauses_due program moment)
    these = ap (λ o. option_map_or (λ (m : Moment). violations_from h m.guest pass.step 0 (clauses_due program m)) o []) now

    abbrev Counts : ℕ → Type 0
    Counts n = (guest : GuestNo) (clauses : List ClauseId) → AreJudged h pass.step clauses → n ≡ length (violations_from h guest pass.step 0 clauses)

    -- where none is counted, none is there
    pub none-there : (n : ℕ) → Counts n → n ≡ 0 → violations_of program h pass.step (Step g deed reply) ≡ []
    none-there n counts none = these ∙ empty _ (sym (counts g (clauses_due program moment) judged-now) ∙ none)

    -- where one is, the clauses due are those of the site
    pub of-the-site : (n : ℕ) → Counts n → (n ≡ 0 → ⊥) → (site : Option Site) →
        ((p : Passing) → passed program (take pass.at h) g deed ≡ Some p → site ≡ Some p.site) → due_where program site ≡ clauses_due program moment
    of-the-site n counts some site same =
        due-there program (take pass.at h) g deed site same
        (λ none. some (counts g (clauses_due program moment) judged-now ∙ ap (λ cs. length (violations_from h g pass.step 0 cs)) none))

    pub site-judged : (n : ℕ) → Counts n → (n ≡ 0 → ⊥) → (site : Option Site) →
        ((p : Passing) → passed program (take pass.at h) g deed ≡ Some p → site ≡ Some p.site) → AreJudged h pass.step (due_where program site)
    site-judged n counts some site same = subst (AreJudged h pass.step) (sym (of-the-site n counts some site same)) judged-now

    pub site-violations : (n : ℕ) → Counts n → (n ≡ 0 → ⊥) → (site : Option Site) →
        ((p : Passing) → passed program (take pass.at h) g deed ≡ Some p → site ≡ Some p.site) →
        violations_from h g pass.step 0 (due_where program site) ≡ violations_of program h pass.step (Step g deed reply)
    site-violations n counts some site same = ap (violations_from h g pass.step 0) (of-the-site n counts some site same) ∙ sym these

-- ---- the places of one step

-- where a clause stands with its verdict
pub given-at : (program : Program) (h : List Event) (passage : Passage) (cs : List ClauseId) → AreJudged h passage.step.0 cs → (place n : ℕ) (given : Given) →
    IsGivenAt h passage cs place (Some given) →
    bytes_of_lines (numbered_lines program n (violations_from h passage.guest passage.step.0 place (drop place cs)))
    ≡ bytes_of_lines (numbered_lines program n (violation_in given.clause given.guest given.step.0 (Some given.value)))
    ++ bytes_of_lines (numbered_lines program (n + length (violation_in given.clause given.guest given.step.0 (Some given.value)))
    (violations_from h passage.guest passage.step.0 (place + 1) (drop (place + 1) cs)))
given-at program h passage cs judged place n given is =
    let here : violation_in given.clause passage.guest passage.step.0 (Some given.value) ≡ violation_in given.clause given.guest given.step.0 (Some given.value) =
    ap (λ g. violation_in given.clause g passage.step.0 (Some given.value)) (sym is.2) ∙ ap (λ (s : Stamp). violation_in given.clause given.guest s.0 (Some given.value)) (sym is.3) in
    ap (λ vs. bytes_of_lines (numbered_lines program n vs))
    (from-given h passage.guest passage.step.0 cs judged place given.clause given.value is.0 is.1
    ∙ ap (λ vs. vs ++ violations_from h passage.guest passage.step.0 (place + 1) (drop (place + 1) cs)) here)
    ∙ numbered-bytes program n (violation_in given.clause given.guest given.step.0 (Some given.value)) (violations_from h passage.guest passage.step.0 (place + 1) (drop (place + 1) cs))

-- where there are no more
pub given-none : (program : Program) (h : List Event) (g : GuestNo) (k : ℕ) (cs : List ClauseId) → AreJudged h k cs → (place n : ℕ) → length cs ≤ place →
    bytes_of_lines (numbered_lines program n (violations_from h g k place (drop place cs))) ≡ []
given-none program h g k cs judged place n past = ap (λ vs. bytes_of_lines (numbered_lines program n vs)) (from-past h g k cs judged place past)

-- one place more is counted
pub counts-on : (h : List Event) (g : GuestNo) (k : ℕ) (cs : List ClauseId) → AreJudged h k cs → (place failed more : ℕ) (v : Verdict) (all : ℕ) → verdict_of h k place ≡ Some v →
    ((c : ClauseId) (guest : GuestNo) (k : ℕ) → more ≡ length (violation_in c guest k (Some v))) →
    failed + length (violations_from h g k place (drop place cs)) ≡ all → (failed + more) + length (violations_from h g k (place + 1) (drop (place + 1) cs)) ≡ all
counts-on h g k cs judged place failed more v all given counts sum =
    let there = from-some h g k cs judged place v given in
    let parts = ap length (from-given h g k cs judged place there.0 v there.1 given) in
    let here = counts there.0 g k in
    omega (arith, parts, here, sum, length-append (violation_in there.0 g k (Some v)) (violations_from h g k (place + 1) (drop (place + 1) cs)))

-- where no verdict is left, all are counted
pub counts-end : (h : List Event) (g : GuestNo) (k : ℕ) (cs : List ClauseId) → AreJudged h k cs → (place failed all : ℕ) → verdict_of h k place ≡ None →
    failed + length (violations_from h g k place (drop place cs)) ≡ all → failed ≡ all
counts-end h g k cs judged place failed all none sum = let e = ap length (from-none h g k cs judged place none) in omega (arith, e, sum)

pub counts-past : (h : List Event) (g : GuestNo) (k : ℕ) (cs : List ClauseId) → AreJudged h k cs → (place failed all : ℕ) → 16 ≤ place →
    failed + length (violations_from h g k place (drop place cs)) ≡ all → failed ≡ all
counts-past h g k cs judged place failed all past sum =
    let small = judged.few in let e = ap length (from-past h g k cs judged place (omega (arith, past, small))) in omega (arith, e, sum)
