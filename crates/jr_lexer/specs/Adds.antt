-- What a function of the lexer adds to the tokens.
use Rattle.std.specs.Prelude.{◌≡◌, ◌≤◌, ℕ, ◌+◌, List, ◌++◌, length, Result, Ok, Err}
use Rattle.jr_base.specs.declared.refusal.Fail.{Fail}
use Rattle.jr_base.specs.declared.refusal.Refusal.{Refusal}
use Rattle.jr_lexer.specs.declared.place.Place.{Place}
use Rattle.jr_lexer.specs.Answers.{Fails}
use Rattle.jr_lexer.specs.Token.{Token}
use Rattle.jr_lexer.specs.Lexical.{Piece, Read}

-- the tokens so far with those of the piece, and how many bytes it takes
abbrev pub joined : List Token → Piece → Result (ℕ × List Token) Refusal
joined ts (Ok p) = Ok (p.1, ts ++ p.0)
joined ts (Err e) = Err e

-- it answers how many bytes it read, and adds the tokens
abbrev pub Adds : Result (ℕ × List Token) Refusal → Result ℕ Fail → List Token → Type 0
Adds read (Ok n) new = read ≡ Ok (n, new)
Adds read (Err e) new = Fails e read

-- A piece takes some bytes, and no more than there are. Each token takes one at least, so there are no more
-- tokens than bytes before them.
abbrev pub Moves : Place → Result ℕ Fail → List Token → Type 0
Moves place (Ok n) new = (1 ≤ n) × (n ≤ length place.text.now) × (length new ≤ place.at + n)
Moves place (Err e) new = Unit {0}

-- it adds the tokens of a text
abbrev pub AddsAll : {U : Type 0} → Read → Result U Fail → List Token → Type 0
AddsAll read (Ok u) new = read ≡ Ok new
AddsAll read (Err e) new = Fails e read
