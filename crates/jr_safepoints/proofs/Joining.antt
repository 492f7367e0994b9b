-- Pieces of what is due at a site, one after the other.
use Rattle.std.proofs.Common.{◌≡◌, ◌<◌, ◌≤◌, ℕ, ◌+◌, Bool, true, false, List, [], ◌∷◌, ◌++◌, length, get_or, drop, refl, sym, ap, ◌∙◌, append_assoc, append-nil, arith}
use Rattle.std.specs.Prelude.{nat_le}
use Rattle.std.specs.Borrow.{Bor}
use Rattle.std.proofs.lemmas.Bool.Decides.{nat_tests}
use Rattle.std.proofs.lemmas.List.{length-append}
use Rattle.jr_base.specs.declared.number.Span.{Span}
use Rattle.jr_base.specs.declared.number.ClauseId.{ClauseId}
use Rattle.jr_base.specs.declared.refusal.Refusal.TheVariants.{TooManyClauses}
use Rattle.jr_names.proofs.Turns.{cut, uncut}
use Rattle.jr_typing_rules.specs.Answers.{Typing, Good, Bad, ◌>>=◌, require}
use Rattle.jr_safepoints.specs.Few.{few, joined}

is-le : (a b : ℕ) → a ≤ b → nat_le a b ≡ true
is-le a b h = grind (arith, nat_tests)

is-over : (a b : ℕ) → b < a → nat_le a b ≡ false
is-over a b h = grind (arith, nat_tests)

pub few_enough : (at : Span) (due : List ClauseId) → length due ≤ 16 → few at due ≡ Good due
few_enough at due h = ap (λ b. require b (TooManyClauses at) >>= λ u. Good due) (is-le (length due) 16 h)

too-many : (at : Span) (due : List ClauseId) → 16 < length due → few at due ≡ Bad (TooManyClauses at)
too-many at due h = ap (λ b. require b (TooManyClauses at) >>= λ u. Good due) (is-over (length due) 16 h)

turn : (before : List ClauseId) (all : List (Bor (List ClauseId))) (x : Bor (List ClauseId)) (k : ℕ) (whole : List ClauseId) → before ++ joined (drop k all) ≡ whole → k < length all → x ≡ get_or all k x →
    (before ++ x.now) ++ joined (drop (k + 1) all) ≡ whole
turn before all x k whole so_far below found =
    append_assoc before x.now (joined (drop (k + 1) all))
    ∙ ap (λ (p : Bor (List ClauseId)). before ++ (p.now ++ joined (drop (k + 1) all))) found
    ∙ sym (ap (λ ps. before ++ joined ps) (cut all k x below)) ∙ so_far

pub piece_over : (at : Span) (before : List ClauseId) (all : List (Bor (List ClauseId))) (x : Bor (List ClauseId)) (k : ℕ) (whole : List ClauseId) → before ++ joined (drop k all) ≡ whole → k < length all →
    x ≡ get_or all k x → 16 < length before + length x.now → few at whole ≡ Bad (TooManyClauses at)
piece_over at before all x k whole so_far below found over =
    too-many at whole (omega (arith, over, length-append before x.now, length-append (before ++ x.now) (joined (drop (k + 1) all)), ap length (turn before all x k whole so_far below found)))

pub piece_next : (before after : List ClauseId) (all : List (Bor (List ClauseId))) (x : Bor (List ClauseId)) (k : ℕ) (whole : List ClauseId) → before ++ joined (drop k all) ≡ whole → k < length all →
    x ≡ get_or all k x → after ≡ before ++ x.now → after ++ joined (drop (k + 1) all) ≡ whole
piece_next before after all x k whole so_far below found more = ap (λ ds. ds ++ joined (drop (k + 1) all)) more ∙ turn before all x k whole so_far below found

pub no_piece_left : (at : Span) (before : List ClauseId) (all : List (Bor (List ClauseId))) (k : ℕ) (whole : List ClauseId) → before ++ joined (drop k all) ≡ whole → length all ≤ k → length before ≤ 16 →
    few at whole ≡ Good before
no_piece_left at before all k whole so_far done enough =
    ap (few at) (sym so_far ∙ ap (λ ps. before ++ joined ps) (uncut all k done) ∙ append-nil before) ∙ few_enough at before enough
