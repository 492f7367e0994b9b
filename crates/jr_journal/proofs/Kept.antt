-- Verdicts in lists that are changed at one place.
use Rattle.std.proofs.Common.{◌≡◌, ◌==◌, ℕ, zero, suc, List, [], ◌∷◌, map, Option, Some, None, Bool, false, refl, sym, ◌∙◌, ap}
use Rattle.std.proofs.Math.Dec.{eqb-suc-suc, eqb-zero-suc, eqb-suc-zero}
use Rattle.std.specs.Prelude.{cond, slice_get, slice_set}
use Rattle.jr_base.specs.declared.finish.Verdict.{Verdict}
use Rattle.jr_journal.specs.declared.marks.Mark.{Mark}
use Rattle.jr_journal.specs.Marks.{held, kept, first_of, place_in}

abbrev given : ℕ → ℕ → Verdict → Option Verdict
given place other value = cond (place == other) (Some value) None

-- a verdict of another place, or of another step, is none here
not_here : (v : Option Verdict) (here : Bool) (value : Option Verdict) → here ≡ false → v ≡ first_of v (cond here value None)
not_here None here value e = rw e refl
not_here (Some had) here value e = refl

-- a place that held none holds it
pub put_first : (vs : List (Option Verdict)) (place : ℕ) (value : Verdict) (other : ℕ) → slice_get vs place ≡ Some None →
    held (slice_get (slice_set vs place (Some value)) other) ≡ first_of (held (slice_get vs other)) (given place other value)
put_first [] place value other none = absurd (cc)
put_first (v ∷ vs) zero value zero none = let e : v ≡ None = cc in rw e refl
put_first (v ∷ vs) zero value (suc other) none = not_here (held (slice_get vs other)) (zero == suc other) (Some value) (eqb-zero-suc other)
put_first (v ∷ vs) (suc place) value zero none = not_here v (suc place == zero) (Some value) (eqb-suc-zero place)
put_first (v ∷ vs) (suc place) value (suc other) none = put_first vs place value other none ∙ ap (λ b. first_of (held (slice_get vs other)) (cond b (Some value) None)) (sym (eqb-suc-suc place other))

-- one that held a verdict keeps it
pub keep_first : (vs : List (Option Verdict)) (place : ℕ) (value had : Verdict) (other : ℕ) → slice_get vs place ≡ Some (Some had) →
    held (slice_get vs other) ≡ first_of (held (slice_get vs other)) (given place other value)
keep_first [] place value had other some = absurd (cc)
keep_first (v ∷ vs) zero value had zero some = let e : v ≡ Some had = cc in rw e refl
keep_first (v ∷ vs) zero value had (suc other) some = not_here (held (slice_get vs other)) (zero == suc other) (Some value) (eqb-zero-suc other)
keep_first (v ∷ vs) (suc place) value had zero some = not_here v (suc place == zero) (Some value) (eqb-suc-zero place)
keep_first (v ∷ vs) (suc place) value had (suc other) some = keep_first vs place value had other some ∙ ap (λ b. first_of (held (slice_get vs other)) (cond b (Some value) None)) (sym (eqb-suc-suc place other))

-- the verdicts of the mark that stands there, with one more
abbrev Adds : Mark → Mark → ℕ → Verdict → Type 0
Adds old new place value = (other : ℕ) → held (slice_get new.verdicts other) ≡ first_of (held (slice_get old.verdicts other)) (given place other value)

pub set_mark : (marks : List Mark) (step place : ℕ) (value : Verdict) (old new : Mark) → slice_get marks step ≡ Some old → Adds old new place value →
    (k other : ℕ) → kept (slice_set marks step new) k other ≡ first_of (kept marks k other) (cond (step == k) (given place other value) None)
set_mark [] step place value old new at adds k other = absurd (cc)
set_mark (m ∷ marks) zero place value old new at adds zero other = let e : m ≡ old = cc in rw e (adds other)
set_mark (m ∷ marks) zero place value old new at adds (suc k) other = not_here (kept marks k other) (zero == suc k) (given place other value) (eqb-zero-suc k)
set_mark (m ∷ marks) (suc step) place value old new at adds zero other = not_here (held (slice_get m.verdicts other)) (suc step == zero) (given place other value) (eqb-suc-zero step)
set_mark (m ∷ marks) (suc step) place value old new at adds (suc k) other =
    set_mark marks step place value old new at adds k other ∙ ap (λ b. first_of (kept marks k other) (cond b (given place other value) None)) (sym (eqb-suc-suc step k))

pub same_places : (marks : List Mark) (step : ℕ) (old new : Mark) → slice_get marks step ≡ Some old → new.at ≡ old.at →
    map place_in (slice_set marks step new) ≡ map place_in marks
same_places [] step old new at same = absurd (cc)
same_places (m ∷ marks) zero old new at same = let e : m ≡ old = cc in ap (λ n. n ∷ map place_in marks) (same ∙ ap (λ (m : Mark). m.at) (sym e))
same_places (m ∷ marks) (suc step) old new at same = ap (λ l. m.at ∷ l) (same_places marks step old new at same)
