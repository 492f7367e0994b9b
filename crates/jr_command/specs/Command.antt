-- What the words after the program's name ask for.
use Rattle.std.specs.Prelude.{ℕ, ◌+◌, ◌-◌, ◌*◌, ◌&&◌, nat_le, cond, List, [], ◌∷◌, length, take, drop, Option, Some, None, codes}
use Rattle.std.specs.Char.{is_ascii_digit}
use Rattle.std.specs.Option.{option_map, option_and_then}
use Rattle.std.specs.Str.{bytes_eq}
use Rattle.jr_command.specs.declared.command.Command.{Command}
use Rattle.jr_command.specs.declared.command.Command.TheVariants.{RunSerial, Check, Clauses}

abbrev pub Text : Type 0
Text = List ℕ

-- ---- numbers

-- the number that digits spell behind those that were read, in decimal; none where one of them is no digit
abbrev pub number_from : ℕ → Text → Option ℕ
number_from n [] = Some n
number_from n (c ∷ cs) = cond (is_ascii_digit c) (number_from (n * 10 + (c - 48)) cs) None

-- a number is 1 to 10 digits, with no sign; it may begin with zeros
abbrev pub number : Text → Option ℕ
number text = cond (nat_le 1 (length text) && nat_le (length text) 10) (number_from 0 text) None

-- a number from one to another
abbrev pub number_within : ℕ → ℕ → Text → Option ℕ
number_within least most text = option_and_then (λ n. cond (nat_le least n && nat_le n most) (Some n) None) (number text)

-- ---- options

-- what stands behind that front, where the text begins with it
abbrev pub behind : Text → Text → Option Text
behind front text = cond (bytes_eq (take (length front) text) front) (Some (drop (length front) text)) None

-- an option's value, and the words behind it
pub record Valued : Type 0 where
  pub value : Text
  pub rest : List Text

abbrev pub next_word : List Text → Option Valued
next_word [] = None
next_word (value ∷ rest) = Some (record { value = value; rest = rest })

-- The value of that option, where the words begin with it: as two words, `--name value`, or as one, `--name=value`.
abbrev pub option_value : Text → List Text → Option Valued
option_value name [] = None
option_value name (word ∷ rest) =
    cond (bytes_eq word name) (next_word rest) (option_map (λ value. record { value = value; rest = rest }) (option_and_then (behind (codes "=")) (behind name word)))

abbrev pub serial_option : List Text → Option Valued
serial_option words = option_value (codes "--serial") words

abbrev pub budget_option : List Text → Option Valued
budget_option words = option_value (codes "--budget") words

-- what it is where no word stands behind it
abbrev pub if_last : {A : Type 0} → A → List Text → Option A
if_last x [] = Some x
if_last x (word ∷ words) = None

abbrev pub last_value : Valued → Option Text
last_value given = if_last given.value given.rest

-- ---- commands

-- a seed has 32 bits
abbrev pub seed_of : Text → Option ℕ
seed_of text = number_within 0 4294967295 text

abbrev pub budget_of : Text → Option ℕ
budget_of text = number_within 1 2000000 text

abbrev pub run_with : Text → Text → Option Command
run_with seed budget = option_and_then (λ s. option_map (λ b. RunSerial s b) (budget_of budget)) (seed_of seed)

-- a run makes 200,000 steps where its words don't say how many
abbrev pub run_by_seed : Text → Option Command
run_by_seed seed = option_map (λ s. RunSerial s 200000) (seed_of seed)

-- behind the seed
abbrev pub run_behind : Text → List Text → Option Command
run_behind seed [] = run_by_seed seed
run_behind seed (word ∷ words) = option_and_then (run_with seed) (option_and_then last_value (budget_option (word ∷ words)))

abbrev pub run_behind_seed : Valued → Option Command
run_behind_seed given = run_behind given.value given.rest

-- behind the budget
abbrev pub run_behind_budget : Valued → Option Command
run_behind_budget given =
    option_and_then (λ seed. run_with seed given.value) (option_and_then last_value (serial_option given.rest))

-- A run has a seed, and may have a budget, in either order.
abbrev pub run_of : List Text → Option Command
run_of words = elim (serial_option words) [
  | Some given ↦ run_behind_seed given
  | None ↦ option_and_then run_behind_budget (budget_option words)
]

-- The command that the words are, or none. The first word names it.
abbrev pub line : List Text → Option Command
line [] = None
line (name ∷ words) =
    cond (bytes_eq name (codes "run")) (run_of words)
    (cond (bytes_eq name (codes "check")) (if_last Check words)
    (cond (bytes_eq name (codes "clauses")) (if_last Clauses words) None))
