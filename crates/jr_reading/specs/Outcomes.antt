-- What a step of a reader gives, as plain data: what it read, or why it refuses. Only contracts of private
-- functions, and of functions between the readers, cite these.
use Rattle.std.specs.Prelude.{ℕ, Option, Some, None, Result, Ok, Err}
use Rattle.jr_base.specs.declared.refusal.Refusal.{Refusal}

-- what was read, with the index behind it
abbrev pub Outcome : Type 0 → Type 0
Outcome A = Result (A × ℕ) Refusal

-- one step, and then another over what it gave
infixl 10 ◌>>=◌
abbrev pub ◌>>=◌ : {A B : Type 0} → Result A Refusal → (A → Result B Refusal) → Result B Refusal
(Ok x) >>= f = f x
(Err r) >>= f = Err r

-- by what may be missing
abbrev pub one_or : {A B : Type 0} → Option A → B → (A → B) → B
one_or None none some = none
one_or (Some x) none some = some x
