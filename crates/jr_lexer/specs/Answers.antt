-- What a call over a source answers.
use Rattle.std.specs.Prelude.{◌≡◌, Result, Ok, Err}
use Rattle.jr_base.specs.declared.refusal.Fail.{Fail}
use Rattle.jr_base.specs.declared.refusal.Fail.TheVariants as fails
use Rattle.jr_base.specs.declared.refusal.Refusal.{Refusal}

-- a refusal is that of the source; nothing is said where there was no memory
abbrev pub Fails : {A : Type 0} → Fail → Result A Refusal → Type 0
Fails (fails.Refused r) read = read ≡ Err r
Fails fails.Memory read = Unit {0}

-- It answers what is read, or the refusal, unless there was no memory.
abbrev pub Answers : {A : Type 0} → Result A Refusal → Result A Fail → Type 0
Answers read (Ok x) = read ≡ Ok x
Answers read (Err e) = Fails e read
