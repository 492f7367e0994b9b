-- The first mode that is said, where one modifier more is read.
use Rattle.std.proofs.Common.{◌≡◌, ℕ, ◌+◌, ◌<◌, ◌≤◌, List, [], ◌∷◌, length, get_or, drop, Option, Some, None, refl, sym, ap, ◌∙◌}
use Rattle.jr_ast.specs.declared.unit.Modifier.{Modifier}
use Rattle.jr_program.specs.declared.words.Mode.{Mode}
use Rattle.jr_typing_rules.specs.Modifiers.{mode_of_kind, first_of, said_mode}
use Rattle.jr_names.proofs.Turns.{cut, uncut}

first_by_first : (a b c : Option Mode) → first_of a (first_of b c) ≡ first_of (first_of a b) c
first_by_first None b c = refl
first_by_first (Some m) b c = refl

none_first : (a : Option Mode) → first_of a None ≡ a
none_first None = refl
none_first (Some m) = refl

pub said_next : (said : Option Mode) (all : List Modifier) (d : Modifier) (k : ℕ) (whole : Option Mode) → first_of said (said_mode (drop k all)) ≡ whole → k < length all →
    first_of (first_of said (mode_of_kind (get_or all k d).kind)) (said_mode (drop (k + 1) all)) ≡ whole
said_next said all d k whole so_far below =
    sym (first_by_first said (mode_of_kind (get_or all k d).kind) (said_mode (drop (k + 1) all)))
    ∙ ap (λ ms. first_of said (said_mode ms)) (sym (cut all k d below)) ∙ so_far

pub none_said : (said : Option Mode) (all : List Modifier) (k : ℕ) (whole : Option Mode) → first_of said (said_mode (drop k all)) ≡ whole → length all ≤ k → said ≡ whole
none_said said all k whole so_far done = sym (none_first said) ∙ ap (λ ms. first_of said (said_mode ms)) (sym (uncut all k done)) ∙ so_far
