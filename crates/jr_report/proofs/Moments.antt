-- The entry at a place of a right history: what stands before it, which clauses are due there, and their verdicts.
use Rattle.std.proofs.Common.{◌≡◌, ◌+◌, ◌-◌, ◌≤◌, ℕ, zero, suc, Bool, true, false, IsTrue, List, [], ◌∷◌, ◌++◌, map, flat_map, take, drop, length, Option, Some, None, IsSome, slice_get, option_and_then, refl, ap, sym, subst, ◌∙◌, arith, append_assoc}
use Rattle.std.proofs.lemmas.Bool.{false≢true}
use Rattle.std.specs.Option.{option_map, option_map_or}
use Rattle.std.specs.List.{range_with_len}
use Rattle.std.proofs.lemmas.List.{take-append-drop, drop_all}
use Rattle.std.proofs.lemmas.List.Sums.{sum_by-cons, sum_by-append, sum_by_push}
use Rattle.std.proofs.lemmas.Option.{slice_get_within, slice_get_past}
use Rattle.jr_base.specs.Deed.{Deed}
use Rattle.jr_base.specs.declared.number.ClauseId.{ClauseId}
use Rattle.jr_base.specs.declared.number.GuestNo.{GuestNo}
use Rattle.jr_base.specs.declared.finish.Verdict.{Verdict}
use Rattle.jr_base.specs.declared.action.Reply.{Reply}
use Rattle.jr_program.specs.Programs.{Program}
use Rattle.jr_program.specs.Sites.{due_at_site}
use Rattle.jr_program.specs.WellFormed.{WellFormed}
use Rattle.jr_program.specs.declared.words.Site.{Site}
use Rattle.jr_meaning.specs.Event.{Event, Step, Judged, Wake}
use Rattle.jr_meaning.specs.History.{MayCome, IsLegal, world_after, step_count, steps_in}
use Rattle.jr_meaning.specs.Due.{Due, Passing, due_on}
use Rattle.jr_meaning.specs.Verdicts.{Moment, moment_of, due_at, due, verdict_of, clause_value_at, IsRight, OwesNothing}
use Rattle.jr_meaning.proofs.Histories.{Each-prefix, Each-at}
use Rattle.jr_meaning.proofs.Judging.{moment_of-last, moment_of-more}
use Rattle.jr_meaning.proofs.LiveGuests.{live-there}
use Rattle.jr_meaning.proofs.Limited.{few-guests, few-frames}
use Rattle.jr_meaning.proofs.Values.{verdicts-are-values}
use Rattle.jr_program.specs.Programs.{numbered}
use Rattle.jr_report.specs.Judged.{AreJudged, AreJudgedAt, violations_of, violations_by}
use Rattle.jr_report.specs.OpenCalls.{FramesFit}
use Rattle.jr_report.specs.Report.{Violation, violation_in, violations_from, violations_at, clauses_due, violations}
use Rattle.jr_report.specs.Sites.{passed, due_where}
use Rattle.jr_report.proofs.Pieces.{drop-at, take-at}

-- ---- an entry, with what stands before and behind it

pub around : (h : List Event) (at : ℕ) (e : Event) → slice_get h at ≡ Some e → take at h ++ e ∷ drop (at + 1) h ≡ h
around h at e stands = ap (λ l. take at h ++ l) (sym (drop-at h at e stands)) ∙ take-append-drop at h

pub moment-at : (h : List Event) (at : ℕ) (g : GuestNo) (deed : Deed) (reply : Reply) → slice_get h at ≡ Some (Step g deed reply) →
    moment_of h (step_count (take at h)) ≡ Some (record { before = take at h; guest = g; deed = deed })
moment-at h at g deed reply stands =
    let apart : (take at h ++ Step g deed reply ∷ []) ++ drop (at + 1) h ≡ h =
    append_assoc (take at h) (Step g deed reply ∷ []) (drop (at + 1) h) ∙ around h at (Step g deed reply) stands in
    ap (λ es. moment_of es (step_count (take at h))) (sym apart)
    ∙ moment_of-more (take at h ++ Step g deed reply ∷ []) (drop (at + 1) h) (step_count (take at h)) _ (moment_of-last (take at h) g deed reply)

pub may-come : (program : Program) (budget : ℕ) (h : List Event) → IsLegal program budget h → (at : ℕ) (e : Event) → slice_get h at ≡ Some e → MayCome program budget (take at h) e
may-come program budget h legal at e stands =
    Each-at (MayCome program budget) (take at h) e (drop (at + 1) h) (subst (IsLegal program budget) (sym (around h at e stands)) legal)

pub front-legal : (program : Program) (budget : ℕ) (h : List Event) → IsLegal program budget h → (at : ℕ) → IsLegal program budget (take at h)
front-legal program budget h legal at =
    Each-prefix (MayCome program budget) (take at h) (drop at h) (subst (IsLegal program budget) (sym (take-append-drop at h)) legal)

pub front-fits : (program : Program) (budget : ℕ) (h : List Event) → IsLegal program budget h → (at : ℕ) → FramesFit (take at h)
front-fits program budget h legal at g = few-frames program budget (take at h) (front-legal program budget h legal at) g

-- a guest that makes a step is one of 16
numbered-within : {A : Type 0} (xs : List A) (n : ℕ) (x : A) → numbered xs n ≡ Some x → (1 ≤ n) × (n ≤ length xs)
numbered-within xs zero x e = cc
numbered-within xs (suc n) x e = let within = slice_get_within xs n x e in (omega arith, omega (arith, within))

pub guest-within : (program : Program) (budget : ℕ) (h : List Event) → IsLegal program budget h → (at : ℕ) (g : GuestNo) (deed : Deed) (reply : Reply) →
    slice_get h at ≡ Some (Step g deed reply) → (1 ≤ g.0) × (g.0 ≤ 16)
guest-within program budget h legal at g deed reply stands =
    let live = live-there (world_after program (take at h)) g (is-true _ (may-come program budget h legal at (Step g deed reply) stands).can.live) in
    let there = numbered-within (world_after program (take at h)).guests g.0 live.0 live.1 in
    let few = few-guests program budget (take at h) (front-legal program budget h legal at) in
    (there.0, omega (arith, there.1, few))
  where
    is-true : (b : Bool) → IsTrue b → b ≡ true
    is-true true t = refl
    is-true false t = search t

-- ---- the clauses due at a moment

clauses-on : (program : Program) (p : Passing) (cs : List ClauseId) → map (λ (d : Due). d.clause) (map (λ clause. record { clause = clause; environment = p.environment; frame_call = p.frame_call }) cs) ≡ cs
clauses-on program p [] = refl
clauses-on program p (c ∷ cs) = ap (λ l. c ∷ l) (clauses-on program p cs)

clauses-of : (program : Program) (o : Option Passing) → map (λ (d : Due). d.clause) (option_map_or (due_on program) o []) ≡ due_where program (option_map (λ (p : Passing). p.site) o)
clauses-of program None = refl
clauses-of program (Some p) = clauses-on program p (due_at_site program p.site)

-- they are those of the site that is passed
pub due-by-site : (program : Program) (before : List Event) (g : GuestNo) (deed : Deed) →
    clauses_due program (record { before = before; guest = g; deed = deed }) ≡ due_where program (option_map (λ (p : Passing). p.site) (passed program before g deed))
due-by-site program before g deed = clauses-of program (passed program before g deed)

-- where some are due, those of a site that is the passed one, if one is
pub due-there : (program : Program) (before : List Event) (g : GuestNo) (deed : Deed) (site : Option Site) →
    ((p : Passing) → passed program before g deed ≡ Some p → site ≡ Some p.site) →
    (clauses_due program (record { before = before; guest = g; deed = deed }) ≡ [] → ⊥) →
    due_where program site ≡ clauses_due program (record { before = before; guest = g; deed = deed })
due-there program before g deed site same some = by (passed program before g deed) refl
  where
    by : (o : Option Passing) → passed program before g deed ≡ o → due_where program site ≡ clauses_due program (record { before = before; guest = g; deed = deed })
    by None e = absurd (some (due-by-site program before g deed ∙ ap (λ o. due_where program (option_map (λ (p : Passing). p.site) o)) e))
    by (Some p) e =
        ap (due_where program) (same p e) ∙ sym (due-by-site program before g deed ∙ ap (λ o. due_where program (option_map (λ (p : Passing). p.site) o)) e)

length-map : {A B : Type 0} (f : A → B) (xs : List A) → length (map f xs) ≡ length xs
length-map f [] = refl
length-map f (x ∷ xs) = ap (λ n. suc n) (length-map f xs)

few-due : (program : Program) → WellFormed program → (site : Option Site) → length (due_where program site) ≤ 16
few-due program formed None = omega arith
few-due program formed (Some site) = formed.few_due site

module _ (program : Program) (formed : WellFormed program) (h : List Event) (right : IsRight program h) (nothing : OwesNothing program h) where
  -- each has its verdict, and nothing else has one
  pub are-judged : (k : ℕ) (m : Moment) → moment_of h k ≡ Some m → AreJudged h k (clauses_due program m)
  are-judged k m there =
      let count : length (clauses_due program m) ≡ length (due_at program m) = length-map (λ (d : Due). d.clause) (due_at program m) in
      let these : due program h k ≡ due_at program m = ap (λ o. option_map_or (due_at program) o []) there in
      let small : length (clauses_due program m) ≤ 16 =
      subst (λ cs. length cs ≤ 16) (sym (due-by-site program m.before m.guest m.deed)) (few-due program formed (option_map (λ (p : Passing). p.site) (passed program m.before m.guest m.deed))) in
      record {
        few = small;
        given = λ place below. nothing k place (omega (arith, below, count, ap length these));
        no_more = λ place past.
            verdicts-are-values program h right nothing k place
            ∙ ap (λ o. option_and_then (λ moment. option_map (clause_value_at program moment) (slice_get (due_at program moment) place)) o) there
            ∙ ap (λ o. option_map (clause_value_at program m) o) (slice_get_past (due_at program m) place (omega (arith, past, count)));
      }

  -- at an entry: some clauses are due, and its violations are those among them
  pub record Found (at : ℕ) (e : Event) : Type 0 where
    pub guest : GuestNo
    pub clauses : List ClauseId
    pub judged : AreJudgedAt h (step_count (take at h)) clauses e
    pub same : violations_by h guest (step_count (take at h)) clauses e ≡ violations_of program h (step_count (take at h)) e

  pub found-at : (at : ℕ) (e : Event) → slice_get h at ≡ Some e → Found at e
  found-at at (Step g deed reply) stands =
      let m : Moment = record { before = take at h; guest = g; deed = deed } in
      let there : moment_of h (step_count (take at h)) ≡ Some m = moment-at h at g deed reply stands in
      record {
        guest = g;
        clauses = clauses_due program m;
        judged = are-judged (step_count (take at h)) m there;
        same = sym (ap (λ o. option_map_or (λ (moment : Moment). violations_from h moment.guest (step_count (take at h)) 0 (clauses_due program moment)) o []) there);
      }
  found-at at (Judged step place value) stands = record { guest = record { 0 = 0 }; clauses = []; judged = tt; same = refl }
  found-at at (Wake g) stands = record { guest = record { 0 = 0 }; clauses = []; judged = tt; same = refl }

-- ---- violations, place by place

none-past : (xs : List ClauseId) (n : ℕ) → slice_get xs n ≡ None → length xs ≤ n
none-past [] n e = omega arith
none-past (x ∷ xs) zero e = cc
none-past (x ∷ xs) (suc n) e = let rest = none-past xs n e in omega (arith, rest)

module _ (h : List Event) (g : GuestNo) (k : ℕ) (cs : List ClauseId) (judged : AreJudged h k cs) where
  -- where a clause stands with its verdict
  pub from-given : (place : ℕ) (c : ClauseId) (v : Verdict) → slice_get cs place ≡ Some c → verdict_of h k place ≡ Some v →
      violations_from h g k place (drop place cs) ≡ violation_in c g k (Some v) ++ violations_from h g k (place + 1) (drop (place + 1) cs)
  from-given place c v stands given =
      ap (violations_from h g k place) (drop-at cs place c stands)
      ∙ ap (λ o. violation_in c g k o ++ violations_from h g k (place + 1) (drop (place + 1) cs)) given

  -- past the last clause there are none
  pub from-past : (place : ℕ) → length cs ≤ place → violations_from h g k place (drop place cs) ≡ []
  from-past place past = ap (violations_from h g k place) (drop_all place cs past)

  pub from-none : (place : ℕ) → verdict_of h k place ≡ None → violations_from h g k place (drop place cs) ≡ []
  from-none place none = from-past place (by (slice_get cs place) refl)
    where
      by : (o : Option ClauseId) → slice_get cs place ≡ o → length cs ≤ place
      by (Some c) e =
          let given : IsSome (verdict_of h k place) = judged.given place (slice_get_within cs place c e) in
          absurd (false≢true (subst IsSome none given))
      by None e = none-past cs place e

  -- a verdict that is there is one on a clause
  pub from-some : (place : ℕ) (v : Verdict) → verdict_of h k place ≡ Some v → (c : ClauseId) × (slice_get cs place ≡ Some c)
  from-some place v given = by (slice_get cs place) refl
    where
      by : (o : Option ClauseId) → slice_get cs place ≡ o → (c : ClauseId) × (slice_get cs place ≡ Some c)
      by (Some c) e = (c, e)
      by None e = let none = judged.no_more place (none-past cs place e) in cc

-- ---- violations, step by step

-- those of the steps from k on
abbrev pub violations_to_come : Program → List Event → ℕ → List Violation
violations_to_come program h k = flat_map (violations_at program h) (range_with_len k (step_count h - k))

pub steps-at : (h : List Event) (at : ℕ) (e : Event) → slice_get h at ≡ Some e → step_count (take (at + 1) h) ≡ step_count (take at h) + steps_in e
steps-at h at e stands = ap step_count (take-at h at e stands) ∙ sum_by_push steps_in (take at h) e

steps-around : (h : List Event) (at : ℕ) (e : Event) → slice_get h at ≡ Some e → step_count (take at h) + steps_in e ≤ step_count h
steps-around h at e stands =
    let all : step_count (take at h ++ e ∷ drop (at + 1) h) ≡ step_count h = ap step_count (around h at e stands) in
    let sum = sum_by-append steps_in (take at h) (e ∷ drop (at + 1) h) in
    omega (arith, all, sum, sum_by-cons steps_in e (drop (at + 1) h))

pub to-come-at : (program : Program) (h : List Event) (at : ℕ) (e : Event) → slice_get h at ≡ Some e →
    violations_to_come program h (step_count (take at h))
    ≡ violations_of program h (step_count (take at h)) e ++ violations_to_come program h (step_count (take at h) + steps_in e)
to-come-at program h at (Step g deed reply) stands =
    let k : ℕ = step_count (take at h) in
    let below = steps-around h at (Step g deed reply) stands in
    let more : step_count h - k ≡ suc (step_count h - (k + 1)) = omega (arith, below) in
    ap (λ n. flat_map (violations_at program h) (range_with_len k n)) more
to-come-at program h at (Judged step place value) stands =
    ap (violations_to_come program h) (let e : step_count (take at h) ≡ step_count (take at h) + 0 = omega arith in e)
to-come-at program h at (Wake g) stands =
    ap (violations_to_come program h) (let e : step_count (take at h) ≡ step_count (take at h) + 0 = omega arith in e)

pub few-steps : (h : List Event) → step_count h ≤ length h
few-steps [] = omega arith
few-steps (Step g deed reply ∷ h) = let rest = few-steps h in omega (arith, rest, sum_by-cons steps_in (Step g deed reply) h)
few-steps (Judged step place value ∷ h) = let rest = few-steps h in omega (arith, rest, sum_by-cons steps_in (Judged step place value) h)
few-steps (Wake g ∷ h) = let rest = few-steps h in omega (arith, rest, sum_by-cons steps_in (Wake g) h)

-- behind all entries there are none to come
pub to-come-none : (program : Program) (h : List Event) (k : ℕ) → k ≡ step_count h → violations_to_come program h k ≡ []
to-come-none program h k same =
    let none : step_count h - k ≡ 0 = omega (arith, same) in ap (λ n. flat_map (violations_at program h) (range_with_len k n)) none

-- before all entries there are all
pub to-come-all : (program : Program) (h : List Event) → violations_to_come program h 0 ≡ violations program h
to-come-all program h =
    let all : step_count h - 0 ≡ step_count h = omega arith in ap (λ n. flat_map (violations_at program h) (range_with_len 0 n)) all
