-- What a reader answers. Stands a j says that a stands at the index where the reader begins, up to the index j,
-- and Shallow a that it nests within the limit.
use Rattle.std.specs.Prelude.{ℕ, Result, Ok, Err}
use Rattle.jr_base.specs.declared.number.Span.{Span}
use Rattle.jr_base.specs.declared.refusal.Refusal.{Refusal}
use Rattle.jr_base.specs.declared.refusal.Refusal.TheVariants as refusal
use Rattle.jr_base.specs.declared.refusal.Fail.{Fail}
use Rattle.jr_base.specs.declared.refusal.Fail.TheVariants.{Memory, Refused}

-- nothing stands there, however deep it may nest
abbrev pub Nothing : {A : Type 0} → (A → ℕ → Type 0) → Type 0
Nothing {A = A} Stands = (a : A) (j : ℕ) → Stands a j → ⊥

-- nothing stands there that nests within the limit
abbrev pub NothingFits : {A : Type 0} → (A → ℕ → Type 0) → (A → Type 0) → Type 0
NothingFits {A = A} Stands Shallow = (a : A) (j : ℕ) → Stands a j → Shallow a → ⊥

-- A refusal for another cause than nesting says that nothing stands there. IsLeftOut and IsBig say which bytes
-- NotInProfile and BigLiteral may name, and IsLong that there are tokens enough to nest too deep.
abbrev pub Refuses : {A : Type 0} → (A → ℕ → Type 0) → (A → Type 0) → (Span → Type 0) → (Span → Type 0) → Type 0 → Refusal → Type 0
Refuses Stands Shallow IsLeftOut IsBig IsLong (refusal.Syntax s) = Nothing Stands
Refuses Stands Shallow IsLeftOut IsBig IsLong (refusal.NotInProfile s) = Nothing Stands × IsLeftOut s
Refuses Stands Shallow IsLeftOut IsBig IsLong (refusal.BigLiteral s) = Nothing Stands × IsBig s
Refuses Stands Shallow IsLeftOut IsBig IsLong (refusal.TooDeep s) = NothingFits Stands Shallow × IsLong
Refuses Stands Shallow IsLeftOut IsBig IsLong _ = ⊥

-- nothing is said where there was no memory
abbrev pub Fails : (Refusal → Type 0) → Fail → Type 0
Fails Refuses Memory = Unit {0}
Fails Refuses (Refused r) = Refuses r

-- what stands there, up to the index j, and nests within the limit
pub record Fits {A : Type 0} (Stands : A → ℕ → Type 0) (Shallow : A → Type 0) (a : A) (j : ℕ) : Type 0 where
  pub stands : Stands a j
  pub shallow : Shallow a

-- what is answered with a tree, of which view gives the plain data, and the index behind it
abbrev pub Answers : {A B : Type 0} → (B → A) → (A → ℕ → Type 0) → (A → Type 0) → (Refusal → Type 0) → Result (B × ℕ) Fail → Type 0
Answers view Stands Shallow Refuses (Ok r) = Fits Stands Shallow (view r.0) r.1
Answers view Stands Shallow Refuses (Err f) = Fails Refuses f
