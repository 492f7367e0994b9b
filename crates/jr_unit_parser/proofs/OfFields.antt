-- Constants and fields: what is read is spelled, and what is spelled is read.
use Rattle.std.proofs.Common.{◌≡◌, ℕ, ◌+◌, ◌-◌, ◌<◌, false, cond, nat_lt, nat_le, nat_eq, List, [], length, Option, Some, None, Ok, Err, refl, sym, ◌∙◌, subst, inl, arith}
use Rattle.std.proofs.lemmas.Bool.{ltb-true, lt-ltb, leb-true, le-leb, eqb-true}
use Rattle.jr_base.specs.declared.refusal.Refusal.TheVariants as refusal
use Rattle.jr_lexer.specs.declared.kind.Kind.{Kind}
use Rattle.jr_lexer.specs.declared.kind.Kind.TheVariants as k
use Rattle.jr_lexer.specs.Token.{Token}
use Rattle.jr_lexer.specs.Reading.{value_at, big_at, span_at}
use Rattle.jr_ast.specs.declared.name.TypeName.{TypeName}
use Rattle.jr_ast.specs.declared.unit.Modifier.{Modifier}
use Rattle.jr_ast.specs.declared.unit.Constant.{Constant}
use Rattle.jr_ast.specs.declared.unit.ConstantValue.TheVariants as value
use Rattle.jr_ast.specs.declared.unit.FieldDeclarator.{FieldDeclarator}
use Rattle.jr_ast.specs.declared.unit.Field.{Field}
use Rattle.jr_reading.specs.Seen.{seen, name_at, literal_at}
use Rattle.jr_reading.specs.Types.{TypeOf}
use Rattle.jr_unit_parser.specs.declared.head.Declared.{Declared}
use Rattle.jr_unit_parser.specs.declared.head.Declared.TheVariants as declared
use Rattle.jr_unit_parser.specs.Grammar as g
use Rattle.jr_reading.specs.Listed.{Listed, last, more}
use Rattle.jr_unit_parser.specs.Grammar.{Many, ModifierAt, ConstantAt, DeclaratorAt, FieldAt, SignatureAt}
use Rattle.jr_reading.specs.Outcomes.{◌>>=◌}
use Rattle.jr_reading.specs.Steps.{same_kind, refusal_at, sees, expect, listed}
use Rattle.jr_unit_parser.specs.Steps.{constant_at, integer, negated, constant_by, constant, declarator, field}
use Rattle.jr_reading.proofs.Tokens.{sees_it, seen_is, sees_other, expected, taken}
use Rattle.jr_reading.proofs.Lists.{listed_told, listed_read, listed_on}
use Rattle.jr_reading.proofs.Told.{told_then, told_if}
use Rattle.jr_unit_parser.specs.Finds.{Caused}
use Rattle.jr_unit_parser.proofs.Told.{Told, caused_at, told_expect}

module _ (ts : List Token) where
  -- ---- constants

  abbrev OneConstant : ℕ → Constant × ℕ → Type 0
  OneConstant i r = ConstantAt ts i r.0 r.1

  integer_told : (i : ℕ) → seen false ts i ≡ k.Integer → seen false ts (i - 1) ≡ k.Equal → Told ts (OneConstant i) (integer ts i)
  unfolding integer same_kind
  integer_told i h before =
      told_if (Caused ts) (OneConstant i) (nat_lt (value_at ts i) (big_at ts i)) (Ok (constant_at ts i (value.Integer (literal_at ts i)), i + 1)) (cond (nat_eq (value_at ts i) (big_at ts i)) (Err (refusal.BigLiteral (span_at ts i))) (Err (refusal_at ts i)))
      (λ low. g.integer h (ltb-true (value_at ts i) (big_at ts i) low))
      (λ high. told_if (Caused ts) (OneConstant i) (nat_eq (value_at ts i) (big_at ts i)) (Err (refusal.BigLiteral (span_at ts i))) (Err (refusal_at ts i))
      (λ e. inl (record { at = i; behind = omega arith; span = refl; literal = h; number = eqb-true (value_at ts i) (big_at ts i) e; before = inl (λ minus. let both : k.Equal ≡ k.Minus = sym before ∙ minus in absurd cc) }))
      (λ e. caused_at ts i))

  negated_told : (i : ℕ) → seen false ts i ≡ k.Minus → Told ts (OneConstant i) (negated ts i)
  unfolding negated
  negated_told i h =
      told_then (Caused ts) (λ u. seen false ts (i + 1) ≡ k.Integer) (OneConstant i) (expect false ts (i + 1) k.Integer) (λ u. cond (nat_le (value_at ts (i + 1)) (big_at ts (i + 1))) (Ok (constant_at ts i (value.Negated (literal_at ts (i + 1))), i + 2)) (Err (refusal_at ts (i + 1)))) (told_expect ts (i + 1) k.Integer) (λ u number.
      told_if (Caused ts) (OneConstant i) (nat_le (value_at ts (i + 1)) (big_at ts (i + 1))) (Ok (constant_at ts i (value.Negated (literal_at ts (i + 1))), i + 2)) (Err (refusal_at ts (i + 1)))
      (λ low. g.negated h number (leb-true (value_at ts (i + 1)) (big_at ts (i + 1)) low))
      (λ high. caused_at ts (i + 1)))

  constant_told : (i : ℕ) → seen false ts (i - 1) ≡ k.Equal → Told ts (OneConstant i) (constant ts i)
  unfolding constant
  constant_told i before = go (seen false ts i) refl
    where
      go : (a : Kind) → seen false ts i ≡ a → Told ts (OneConstant i) (constant_by ts a i)
      go k.Integer h = integer_told i h before
      go k.Minus h = negated_told i h
      go k.True h = g.truth h
      go k.False h = g.falsity h
      go k.Null h = g.null h
      go _ h = caused_at ts i

  pub constant_read : (i j : ℕ) (c : Constant) → ConstantAt ts i c j → constant ts i ≡ Ok (c, j)
  unfolding constant integer negated
  constant_read i j c (g.integer h low) = rw (h, lt-ltb (value_at ts i) (big_at ts i) low)
  constant_read i j c (g.negated h number low) = rw (h, expected false ts (i + 1) k.Integer number, le-leb (value_at ts (i + 1)) (big_at ts (i + 1)) low)
  constant_read i j c (g.truth h) = rw h
  constant_read i j c (g.falsity h) = rw h
  constant_read i j c (g.null h) = rw h

  -- ---- fields

  abbrev OneDeclarator : ℕ → FieldDeclarator × ℕ → Type 0
  OneDeclarator i r = DeclaratorAt ts i r.0 r.1

  abbrev named : ℕ → Option Constant → FieldDeclarator
  named i c = record { name = name_at ts i; constant = c }

  declarator_told : (i : ℕ) → Told ts (OneDeclarator i) (declarator ts i)
  unfolding declarator
  declarator_told i =
      told_then (Caused ts) (λ u. seen false ts i ≡ k.Name) (OneDeclarator i) (expect false ts i k.Name) (λ u. cond (sees false ts (i + 1) k.Equal) (constant ts (i + 2) >>= λ c. Ok (named i (Some c.0), c.1)) (Ok (named i None, i + 1))) (told_expect ts i k.Name) (λ u name.
      told_if (Caused ts) (OneDeclarator i) (sees false ts (i + 1) k.Equal) (constant ts (i + 2) >>= λ c. Ok (named i (Some c.0), c.1)) (Ok (named i None, i + 1))
      (λ equal. told_then (Caused ts) (OneConstant (i + 2)) (OneDeclarator i) (constant ts (i + 2)) (λ c. Ok (named i (Some c.0), c.1))
      (constant_told (i + 2) (let place : i + 1 ≡ i + 2 - 1 = omega arith in subst (λ m. seen false ts m ≡ k.Equal) place (seen_is false ts (i + 1) k.Equal equal)))
      (λ c one. g.with_constant name (seen_is false ts (i + 1) k.Equal equal) one))
      (λ bare. g.bare name))

  constant_on : {i j : ℕ} {c : Constant} → ConstantAt ts i c j → i < j
  constant_on (g.integer h low) = omega arith
  constant_on (g.negated h number low) = omega arith
  constant_on (g.truth h) = omega arith
  constant_on (g.falsity h) = omega arith
  constant_on (g.null h) = omega arith

  declarator_on : (i j : ℕ) (d : FieldDeclarator) → DeclaratorAt ts i d j → (i < j) × (i < length ts)
  unfolding same_kind
  declarator_on i j d (g.bare name) = (omega arith, taken false ts i k.Name name refl)
  declarator_on i j d (g.with_constant name equal c) = (omega (arith, constant_on c), taken false ts i k.Name name refl)

  declarator_read : (i j : ℕ) (d : FieldDeclarator) → DeclaratorAt ts i d j → sees false ts j k.Equal ≡ false → declarator ts i ≡ Ok (d, j)
  unfolding declarator
  declarator_read i j d (g.bare name) stop = rw (expected false ts i k.Name name, stop)
  declarator_read i j d (g.with_constant {c = c} name equal one) stop = rw (expected false ts i k.Name name, sees_it false ts (i + 1) k.Equal equal, constant_read (i + 2) j c one)

  -- a field, or what stands before a block
  abbrev pub IsDeclared : ℕ → Declared → ℕ → Type 0
  IsDeclared i (declared.Field f) j = FieldAt ts i f j
  IsDeclared i (declared.Routine s) j = SignatureAt ts i s j

  abbrev pub OneDeclared : ℕ → Declared × ℕ → Type 0
  OneDeclared i r = IsDeclared i r.0 r.1

  abbrev OneList : ℕ → List FieldDeclarator × ℕ → Type 0
  OneList i r = Listed false ts (DeclaratorAt ts) i r.0 r.1

  abbrev made : ℕ → List Modifier → TypeName → List FieldDeclarator → Field
  made i ms t ds = record { place = span_at ts i; modifiers = ms; type_name = t; declarators = ds }

  pub field_told : (i a j : ℕ) (ms : List Modifier) (t : TypeName) → Many (ModifierAt ts) i ms a → TypeOf ts a t j → Told ts (OneDeclared i) (field ts i ms t j)
  unfolding field
  field_told i a j ms t modified typed =
      told_then (Caused ts) (OneList j) (OneDeclared i) (listed false ts (declarator ts) (length ts) [] j) (λ ds. expect false ts ds.1 k.Semicolon >>= λ u. Ok (declared.Field (made i ms t ds.0), ds.1 + 1)) (listed_told false ts (DeclaratorAt ts) (declarator ts) (Caused ts) (caused_at ts) declarator_told j) (λ ds all.
      told_then (Caused ts) (λ u. seen false ts ds.1 ≡ k.Semicolon) (OneDeclared i) (expect false ts ds.1 k.Semicolon) (λ u. Ok (declared.Field (made i ms t ds.0), ds.1 + 1)) (told_expect ts ds.1 k.Semicolon) (λ u end.
      g.field modified typed all end))

  no_equal : (j : ℕ) (a : Kind) → seen false ts j ≡ a → same_kind a k.Equal ≡ false → sees false ts j k.Equal ≡ false
  no_equal j a e f = sees_other false ts j a k.Equal e f

  comma_ends : (j : ℕ) → seen false ts j ≡ k.Comma → sees false ts j k.Equal ≡ false
  unfolding same_kind
  comma_ends j e = no_equal j k.Comma e refl

  declarators_read : (i j : ℕ) (ds : List FieldDeclarator) → Listed false ts (DeclaratorAt ts) i ds j → seen false ts j ≡ k.Semicolon → listed false ts (declarator ts) (length ts) [] i ≡ Ok (ds, j)
  unfolding same_kind
  declarators_read i j ds l end = listed_read false ts (DeclaratorAt ts) (declarator ts) (λ j. sees false ts j k.Equal ≡ false) comma_ends declarator_on declarator_read i j ds l (no_equal j k.Semicolon end refl) (sees_other false ts j k.Semicolon k.Comma end refl)

  pub declarators_on : (i j : ℕ) (ds : List FieldDeclarator) → Listed false ts (DeclaratorAt ts) i ds j → i < j
  declarators_on i j ds l = listed_on false ts (DeclaratorAt ts) (λ i j d one. (declarator_on i j d one).0) l

  pub field_read : (i j m : ℕ) (ms : List Modifier) (t : TypeName) (ds : List FieldDeclarator) → Listed false ts (DeclaratorAt ts) j ds m → seen false ts m ≡ k.Semicolon → field ts i ms t j ≡ Ok (declared.Field (made i ms t ds), m + 1)
  unfolding field
  field_read i j m ms t ds l end = rw (declarators_read j m ds l end, expected false ts m k.Semicolon end)

  -- what is behind the first name of a field is no bracket
  pub behind_name : (j m : ℕ) (ds : List FieldDeclarator) → Listed false ts (DeclaratorAt ts) j ds m → seen false ts m ≡ k.Semicolon → (seen false ts j ≡ k.Name) × (sees false ts (j + 1) k.OpenParen ≡ false)
  unfolding same_kind
  behind_name j m ds (last (g.bare name)) end = (name, sees_other false ts (j + 1) k.Semicolon k.OpenParen end refl)
  behind_name j m ds (last (g.with_constant name equal c)) end = (name, sees_other false ts (j + 1) k.Equal k.OpenParen equal refl)
  behind_name j m ds (more (g.bare name) comma rest) end = (name, sees_other false ts (j + 1) k.Comma k.OpenParen comma refl)
  behind_name j m ds (more (g.with_constant name equal c) comma rest) end = (name, sees_other false ts (j + 1) k.Equal k.OpenParen equal refl)
