-- What a function that reads a string answers.
use Rattle.std.specs.Prelude.{◌≡◌, ◌≤◌, ℕ, Option, Some, None, Result, Ok, Err, Vec}
use Rattle.jr_base.specs.declared.refusal.Memory.{Memory}
use Rattle.jr_lexer.specs.Lexical.{Quoted}

-- it answers what was read, unless there was no memory; the bytes that it takes are within the text
abbrev pub QuotesAs : {A : Type 0} → Quoted → Option (Vec ℕ A × ℕ) → ℕ → Type 0
QuotesAs read None n = read ≡ None
QuotesAs read (Some q) n = (read ≡ Some (q.0.items, q.1)) × (q.1 ≤ n)

abbrev pub Quotes : {A : Type 0} → Quoted → Result (Option (Vec ℕ A × ℕ)) Memory → ℕ → Type 0
Quotes read (Ok q) n = QuotesAs read q n
Quotes read (Err e) n = Unit {0}
