-- The steps that readers have in common, as functions of the tokens and an index. Only contracts of functions
-- between the readers cite these.
use Rattle.std.specs.Prelude.{ℕ, zero, suc, ◌+◌, Bool, true, false, if◌then◌else◌, List, [], ◌∷◌, ◌++◌, Option, Some, None, Result, Ok, Err}
use Rattle.std.specs.Str.{bytes_eq}
use denote.Enum.Bare.{sameb}
use Rattle.jr_base.specs.declared.refusal.Refusal.{Refusal}
use Rattle.jr_base.specs.declared.refusal.Refusal.TheVariants as refusal
use Rattle.jr_lexer.specs.contracts.kind.Kind.{the_type}
use Rattle.jr_lexer.specs.declared.kind.Kind.{Kind}
use Rattle.jr_lexer.specs.declared.kind.Kind.TheVariants as k
use Rattle.jr_lexer.specs.Token.{Token}
use Rattle.jr_lexer.specs.Reading.{kind_at, text_at, jml_at, span_at}
use Rattle.jr_ast.specs.declared.name.ElementType.{ElementType}
use Rattle.jr_ast.specs.declared.name.TypeName.{TypeName}
use Rattle.jr_ast.specs.declared.name.TypeName.TheVariants as types
use Rattle.jr_reading.specs.Seen.{seen, name_at}
use Rattle.jr_reading.specs.LeftOut.{left_out}
use Rattle.jr_reading.specs.Types.{element_of}
use Rattle.jr_reading.specs.Outcomes.{Outcome, ◌>>=◌, one_or}

unfoldable pub same_kind : Kind → Kind → Bool
same_kind = sameb the_type

-- whether a word or sign that is left out stands at an index
abbrev pub is_left_out : List Token → ℕ → Bool
is_left_out ts i = left_out (jml_at ts i) (kind_at ts i)

-- The token at fault where nothing is read that goes on with the one at an index: what is left out behind a dot
-- that stands there, else that one.
unfoldable pub at_fault : List Token → ℕ → ℕ
at_fault ts i = if same_kind (kind_at ts i) k.Dot then (if is_left_out ts (i + 1) then i + 1 else i) else i

-- why nothing is read that goes on with the token at an index
unfoldable pub refusal_at : List Token → ℕ → Refusal
refusal_at ts i = if is_left_out ts (at_fault ts i) then refusal.NotInProfile (span_at ts (at_fault ts i)) else refusal.Syntax (span_at ts (at_fault ts i))

unfoldable pub expect_text : List Token → ℕ → List ℕ → Result (Unit {0}) Refusal
expect_text ts i text = if bytes_eq (text_at ts i) text then Ok tt else Err (refusal_at ts i)

-- jml is true for a reader of annotations
module _ (jml : Bool) (ts : List Token) where
  unfoldable pub sees : ℕ → Kind → Bool
  sees i kind = same_kind (seen jml ts i) kind

  unfoldable pub expect : ℕ → Kind → Result (Unit {0}) Refusal
  expect i kind = if sees i kind then Ok tt else Err (refusal_at ts i)

  -- a type of no array
  unfoldable pub element : ℕ → Result ElementType Refusal
  element i = one_or (element_of (seen jml ts i) (name_at ts i)) (Err (refusal_at ts i)) Ok

  -- `[]` behind an element
  unfoldable pub is_array : ℕ → Bool
  is_array i = if sees (i + 1) k.OpenBracket then sees (i + 2) k.CloseBracket else false

  unfoldable pub type_name : ℕ → Outcome TypeName
  type_name i = element i >>= λ t. if is_array i then Ok (types.ArrayOf t, i + 3) else Ok (types.Single t, i + 1)

  -- One or more with commas between, where read reads one, behind those that were found. At most as many are
  -- read as the first number says.
  module _ {A : Type 0} (read : ℕ → Outcome A) where
    unfoldable pub listed : ℕ → List A → ℕ → Outcome (List A)
    listed zero found i = Err (refusal_at ts i)
    listed (suc n) found i = read i >>= λ x. if sees x.1 k.Comma then listed n (found ++ x.0 ∷ []) (x.1 + 1) else Ok (found ++ x.0 ∷ [], x.1)
