-- Which method is main, while more methods are read: it stays once it is known.
use Rattle.std.proofs.Common.{◌≡◌, ◌==◌, ◌<◌, ℕ, ◌+◌, Bool, true, false, Option, Some, None, is_none, refl, ap, arith}
use Rattle.std.proofs.lemmas.Bool.{eq-eqb, ne_eqb}
use Rattle.jr_base.specs.declared.number.MethodId.{MethodId}
use Rattle.jr_typing_rules.specs.Resolution.{Known, main_after}

-- the method of that number is main
abbrev pub is_main_at : Option MethodId → ℕ → Bool
is_main_at None n = false
is_main_at (Some m) n = m.0 == n

abbrev pub MainBelow : Option MethodId → ℕ → Type 0
MainBelow None n = Unit {0}
MainBelow (Some m) n = m.0 < n

-- one that is known stays, and one that becomes known has at least that number
abbrev pub MainLater : Option MethodId → ℕ → Option MethodId → Type 0
MainLater (Some m) n after = after ≡ Some m
MainLater None n None = Unit {0}
MainLater None n (Some m) = n < m.0 + 1

pub same-main-at : (main : Option MethodId) (n : ℕ) (after : Option MethodId) (k : ℕ) → MainLater main n after → k < n → is_main_at after k ≡ is_main_at main k
same-main-at (Some m) n after k later below = ap (λ o. is_main_at o k) later
same-main-at None n None k later below = refl
same-main-at None n (Some m) k later below = ne_eqb m.0 k λ e. omega (arith, e, later, below)

pub main-unchanged : (main : Option MethodId) (n : ℕ) → MainLater main n main
main-unchanged (Some m) n = refl
main-unchanged None n = tt

pub main-later-on : (a b c : Option MethodId) (n k : ℕ) → n < k + 1 → MainLater a n b → MainLater b k c → MainLater a n c
main-later-on (Some m) b c n k more first second = rw first at second
main-later-on None None None n k more first second = tt
main-later-on None None (Some m) n k more first second = omega (arith, more, second)
main-later-on None (Some m) c n k more first second = rw second first

first-main : (main : Option MethodId) (n : ℕ) → is_none main ≡ true → MainLater main n (Some (record { 0 = n }))
first-main None n none = omega arith
first-main (Some m) n none = absurd (cc)

pub main-after-later : (known : Known) (is : Bool) → (is ≡ true → is_none known.main ≡ true) → MainLater known.main known.methods (main_after known is)
main-after-later known false only = main-unchanged known.main known.methods
main-after-later known true only = first-main known.main known.methods (only refl)

not-yet : (main : Option MethodId) (n : ℕ) → MainBelow main n → is_main_at main n ≡ false
not-yet None n below = refl
not-yet (Some m) n below = ne_eqb m.0 n λ e. omega (arith, e, below)

pub main-after-at : (known : Known) (is : Bool) → MainBelow known.main known.methods → is_main_at (main_after known is) known.methods ≡ is
main-after-at known true below = eq-eqb known.methods known.methods refl
main-after-at known false below = not-yet known.main known.methods below

still-below : (main : Option MethodId) (n : ℕ) → MainBelow main n → MainBelow main (n + 1)
still-below None n below = tt
still-below (Some m) n below = omega (arith, below)

pub main-after-below : (known : Known) (is : Bool) → MainBelow known.main known.methods → MainBelow (main_after known is) (known.methods + 1)
main-after-below known true below = omega arith
main-after-below known false below = still-below known.main known.methods below
