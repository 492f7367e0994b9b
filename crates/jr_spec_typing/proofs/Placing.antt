-- Whether modifiers may stand where they do, where one more is read.
use Rattle.std.proofs.Common.{◌≡◌, ℕ, ◌+◌, ◌<◌, ◌≤◌, Bool, true, false, not, List, [], ◌∷◌, length, get_or, drop, Option, refl, sym, ap, ◌∙◌}
use Rattle.jr_base.specs.declared.refusal.Refusal.TheVariants.{Duplicate, NotHere}
use Rattle.jr_ast.specs.declared.unit.Modifier.{Modifier}
use Rattle.jr_program.specs.declared.words.Mode.{Mode}
use Rattle.jr_typing_rules.specs.Answers.{Typing, Good, Bad, ◌>>=◌, require}
use Rattle.jr_typing_rules.specs.Modifiers.{Holder, may_stand, differ, mode_of_kind, first_of, well_placed}
use Rattle.jr_names.proofs.Turns.{cut, uncut}

-- the first of the rest
turn : (holder : Holder) (before : Option Mode) (all : List Modifier) (d : Modifier) (k : ℕ) (whole : Typing (Unit {0})) (may differs : Bool) →
    well_placed holder before (drop k all) ≡ whole → k < length all → may_stand holder (get_or all k d).kind ≡ may → differ before (mode_of_kind (get_or all k d).kind) ≡ differs →
    (require may (NotHere (get_or all k d).place) >>= λ u. require (not differs) (Duplicate (get_or all k d).place) >>= λ u.
    well_placed holder (first_of before (mode_of_kind (get_or all k d).kind)) (drop (k + 1) all)) ≡ whole
turn holder before all d k whole may differs so_far below m e = rw (sym m, sym e) (sym (ap (well_placed holder before) (cut all k d below)) ∙ so_far)

pub misplaced : (holder : Holder) (before : Option Mode) (all : List Modifier) (d : Modifier) (k : ℕ) (whole : Typing (Unit {0})) →
    well_placed holder before (drop k all) ≡ whole → k < length all → may_stand holder (get_or all k d).kind ≡ false → whole ≡ Bad (NotHere (get_or all k d).place)
misplaced holder before all d k whole so_far below may = sym (turn holder before all d k whole false _ so_far below may refl)

pub unclear : (holder : Holder) (before : Option Mode) (all : List Modifier) (d : Modifier) (k : ℕ) (whole : Typing (Unit {0})) →
    well_placed holder before (drop k all) ≡ whole → k < length all → may_stand holder (get_or all k d).kind ≡ true → differ before (mode_of_kind (get_or all k d).kind) ≡ true →
    whole ≡ Bad (Duplicate (get_or all k d).place)
unclear holder before all d k whole so_far below may differs = sym (turn holder before all d k whole true true so_far below may differs)

pub placed_next : (holder : Holder) (before : Option Mode) (all : List Modifier) (d : Modifier) (k : ℕ) (whole : Typing (Unit {0})) →
    well_placed holder before (drop k all) ≡ whole → k < length all → may_stand holder (get_or all k d).kind ≡ true → differ before (mode_of_kind (get_or all k d).kind) ≡ false →
    well_placed holder (first_of before (mode_of_kind (get_or all k d).kind)) (drop (k + 1) all) ≡ whole
placed_next holder before all d k whole so_far below may differs = turn holder before all d k whole true false so_far below may differs

pub all_placed : (holder : Holder) (before : Option Mode) (all : List Modifier) (k : ℕ) (whole : Typing (Unit {0})) →
    well_placed holder before (drop k all) ≡ whole → length all ≤ k → whole ≡ Good tt
all_placed holder before all k whole so_far done = sym so_far ∙ ap (well_placed holder before) (uncut all k done)
