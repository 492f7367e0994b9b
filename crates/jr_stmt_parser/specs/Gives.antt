-- What the functions of the reader answer, and how what they read is put together. Only contracts of private
-- functions cite these.
use Rattle.std.specs.Prelude.{◌≡◌, ◌<◌, ◌≤◌, ◌⊎◌, ℕ, ◌+◌, ◌-◌, false, List, [], ◌∷◌, ◌++◌, length, map, Result, Ok, Err}
use Rattle.jr_base.specs.declared.refusal.Refusal.{Refusal}
use Rattle.jr_base.specs.declared.refusal.Refusal.TheVariants as refusal
use Rattle.jr_base.specs.declared.refusal.Fail.{Fail}
use Rattle.jr_base.specs.declared.refusal.Fail.TheVariants.{Memory, Refused}
use Rattle.jr_lexer.specs.declared.kind.Kind.{Kind}
use Rattle.jr_lexer.specs.declared.kind.Kind.TheVariants as k
use Rattle.jr_lexer.specs.Token.{Token}
use Rattle.jr_ast.specs.declared.name.TypeName.{TypeName}
use Rattle.jr_ast.specs.declared.stmt.LocalDeclaration.{LocalDeclaration}
use Rattle.jr_ast.specs.Statements.{Declarator, view_declarator}
use Rattle.jr_reading.specs.Limits.{nesting_limit}
use Rattle.jr_reading.specs.Seen.{seen}
use Rattle.jr_stmt_parser.specs.Labels.{Begins, Inside, Tried, OtherLabel}
use Rattle.jr_stmt_parser.specs.Answers.{LeftOutFrom, BigLiteralIn}

-- What stands at an index within a limit of nesting, with the index behind it.
abbrev pub Piece : Type 0 → Type 1
Piece A = ℕ → ℕ → A → ℕ → Type 0

-- one behind the other, of which the second may depend on the first
abbrev pub Then : {A B : Type 0} → Piece A → (A → Piece B) → Piece B
Then P Q l i y m = (x : _) × (j : ℕ) × P l i x j × Q x l j y m

-- nothing is read, and x is what was made
abbrev pub Just : {A : Type 0} → A → Piece A
Just x l i y j = (x ≡ y) × (i ≡ j)

-- one of two, by what stands there
abbrev pub Split : {A : Type 0} → (ℕ → Type 0) → Piece A → Piece A → Piece A
Split T P Q l i y j = (T i × P l i y j) ⊎ ((T i → ⊥) × Q l i y j)

-- only under a condition
abbrev pub When : {A : Type 0} → Type 0 → Piece A → Piece A
When T P l i y j = T × P l i y j

-- any number, up to an index where they stop
pub data Many {A : Type 0} (Stop : ℕ → Type 0) (Item : Piece A) (l : ℕ) : ℕ → List A → ℕ → Type 0 where
  stop : {i : ℕ} → Stop i → Many Stop Item l i [] i
  step : {i j m : ℕ} {x : A} {xs : List A} → (Stop i → ⊥) → Item l i x j → Many Stop Item l j xs m → Many Stop Item l i (x ∷ xs) m

-- a first one, and then any number
abbrev pub Listed : {A : Type 0} → Piece A → Piece (List A) → Piece (List A)
Listed First Rest = Then First (λ x. Then Rest (λ xs. Just (x ∷ xs)))

-- It stands there, within the limit, and nothing else does whatever the limit.
pub record Found {A : Type 0} (P : Piece A) (i : ℕ) (x : A) (j : ℕ) : Type 0 where
  pub it : P nesting_limit i x j
  pub on : i ≤ j
  pub only : (l : ℕ) (y : A) (m : ℕ) → P l i y m → (x ≡ y) × (j ≡ m)

abbrev pub Nothing : {A : Type 0} → Piece A → ℕ → Type 0
Nothing P i = (l : ℕ) (y : _) (m : ℕ) → P l i y m → ⊥

abbrev pub NothingWithin : {A : Type 0} → Piece A → ℕ → Type 0
NothingWithin P i = (y : _) (m : ℕ) → P nesting_limit i y m → ⊥

-- why nothing is read, where depth constructs are above it, and these labels are left out
abbrev pub Refuses : (ℕ → Type 0) → List Token → ℕ → {A : Type 0} → Piece A → ℕ → Refusal → Type 0
Refuses Labels ts depth P i (refusal.Syntax s) = Nothing P i
Refuses Labels ts depth P i (refusal.NotInProfile s) = Nothing P i × LeftOutFrom ts Labels i s
Refuses Labels ts depth P i (refusal.BigLiteral s) = Nothing P i × BigLiteralIn ts i s
Refuses Labels ts depth P i (refusal.TooDeep s) = NothingWithin P i × (nesting_limit < depth + (length ts - i))
Refuses Labels ts depth P i _ = ⊥

abbrev pub FailsBy : (ℕ → Type 0) → List Token → ℕ → {A : Type 0} → Piece A → ℕ → Fail → Type 0
FailsBy Labels ts depth P i Memory = Unit {0}
FailsBy Labels ts depth P i (Refused r) = Refuses Labels ts depth P i r

pub record Fails (Labels : ℕ → Type 0) (ts : List Token) (depth : ℕ) {A : Type 0} (P : Piece A) (i : ℕ) (f : Fail) : Type 0 where
  pub why : FailsBy Labels ts depth P i f

-- what holds no statement holds no label
abbrev pub NoLabel : ℕ → Type 0
NoLabel at = ⊥

-- what is answered, with the index behind it
abbrev pub Gives : {A B : Type 0} → (A → B) → List Token → ℕ → Piece B → ℕ → Result (A × ℕ) Fail → Type 0
Gives view ts depth P i (Ok r) = Found P i (view r.0) r.1
Gives view ts depth P i (Err f) = Fails NoLabel ts depth P i f

-- the index behind what has no value of its own
abbrev pub Passes : List Token → ℕ → Piece (Unit {0}) → ℕ → Result ℕ Fail → Type 0
Passes ts depth P i (Ok j) = Found P i tt j
Passes ts depth P i (Err f) = Fails NoLabel ts depth P i f

-- in each block, opened at o, in which it stands as Where says
abbrev pub FailsIn : (ℕ → Type 0) → List Token → ℕ → {A : Type 0} → Piece A → ℕ → Fail → Type 0
FailsIn Where ts depth P i f = (o : ℕ) → Where o → Fails (OtherLabel ts o) ts depth P i f

abbrev pub GivesIn : {A B : Type 0} → (ℕ → Type 0) → (A → B) → List Token → ℕ → Piece B → ℕ → Result (A × ℕ) Fail → Type 0
GivesIn Where view ts depth P i (Ok r) = Found P i (view r.0) r.1
GivesIn Where view ts depth P i (Err f) = FailsIn Where ts depth P i f

-- where a statement begins
abbrev pub GivesStatement : {A B : Type 0} → (A → B) → List Token → ℕ → Piece B → ℕ → Result (A × ℕ) Fail → Type 0
GivesStatement view ts depth P i r = GivesIn (λ o. Begins ts o i) view ts depth P i r

-- where a statement begins behind the token, if it is of the kind
abbrev pub BeginsBehind : Kind → List Token → ℕ → ℕ → Type 0
BeginsBehind kind ts i o = seen false ts i ≡ kind → Begins ts o (i + 1)

-- where the block's statements begin behind the token, if it is a brace
abbrev pub OpensIn : List Token → ℕ → ℕ → Type 0
OpensIn ts i o = seen false ts i ≡ k.OpenBrace → Inside ts o (i + 1)

-- where `catch` stands before the token, behind `try` and its blocks
abbrev pub Catching : List Token → ℕ → ℕ → Type 0
Catching ts i o = (h : ℕ) × Tried ts o h × (seen false ts h ≡ k.Catch) × (h + 1 ≡ i)

-- declared variables
abbrev pub view_locals : LocalDeclaration → TypeName × List Declarator
view_locals d = (d.type_name, map view_declarator d.declarators)

-- why the tokens do not go on with the one at an index
abbrev pub Blames : List Token → ℕ → Refusal → Type 0
Blames ts i (refusal.Syntax s) = Unit {0}
Blames ts i (refusal.NotInProfile s) = LeftOutFrom ts NoLabel i s
Blames ts i _ = ⊥

-- Of a list P, these are read from i up to j, and what follows them is a list Rest.
pub record SoFar {A : Type 0} (P Rest : Piece (List A)) (i : ℕ) (found : List A) (j : ℕ) : Type 0 where
  pub on : i ≤ j
  pub adds : (xs : List A) (m : ℕ) → Rest nesting_limit j xs m → P nesting_limit i (found ++ xs) m
  pub only : (l : ℕ) (ys : List A) (m : ℕ) → P l i ys m → (xs : List A) × (found ++ xs ≡ ys) × Rest l j xs m
