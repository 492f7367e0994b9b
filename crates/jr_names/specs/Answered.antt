-- What a function answers of the rules that it applies.
use Rattle.std.specs.Prelude.{◌≡◌, Result, Ok, Err}
use Rattle.jr_base.specs.declared.refusal.Fail.{Fail}
use Rattle.jr_base.specs.declared.refusal.Fail.TheVariants.{Refused, Memory}
use Rattle.jr_typing_rules.specs.Answers.{Typing, Good, Bad}

-- a failure is the refusal that the rules come to; of want of memory nothing is said
abbrev pub Fails : {A : Type 0} → Fail → Typing A → Type 0
Fails (Refused r) is = is ≡ Bad r
Fails Memory is = Unit {0}

-- the answer, seen as plain data, is what the rules come to
abbrev pub Answers : {A B : Type 0} → (B → A) → Typing A → Result B Fail → Type 0
Answers view is (Ok x) = is ≡ Good (view x)
Answers view is (Err e) = Fails e is

-- the same of a function that changes a value: the value that it leaves is the answer
abbrev pub Moves : {A B : Type 0} → (B → A) → Typing A → Result (Unit {0}) Fail → B → Type 0
Moves view is (Ok u) new = is ≡ Good (view new)
Moves view is (Err e) new = Fails e is
