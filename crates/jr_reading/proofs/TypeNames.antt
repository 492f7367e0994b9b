-- Types: what is read is spelled, and what is spelled is read.
use Rattle.std.proofs.Common.{◌≡◌, ℕ, ◌+◌, ◌<◌, Bool, true, false, cond, List, Some, None, Result, Ok, refl, sym, ap, ◌∙◌, subst, arith}
use Rattle.jr_base.specs.declared.refusal.Refusal.{Refusal}
use Rattle.jr_lexer.specs.declared.kind.Kind.{Kind}
use Rattle.jr_lexer.specs.declared.kind.Kind.TheVariants as k
use Rattle.jr_lexer.specs.Token.{Token}
use Rattle.jr_ast.specs.declared.name.Name.{Name}
use Rattle.jr_ast.specs.declared.name.ElementType.{ElementType}
use Rattle.jr_ast.specs.declared.name.TypeName.{TypeName}
use Rattle.jr_ast.specs.declared.name.TypeName.TheVariants as types
use Rattle.jr_reading.specs.Seen.{seen, name_at}
use Rattle.jr_reading.specs.Types.{element_of, TypeOf, single, array}
use Rattle.jr_reading.specs.Outcomes.{◌>>=◌}
use Rattle.jr_reading.specs.Steps.{refusal_at, sees, element, is_array, type_name}
use Rattle.jr_reading.proofs.Tokens.{seen_is, sees_it, sees_not}
use Rattle.jr_reading.proofs.Told.{Told, told_then, told_if, told_element}

-- the words that begin a type
abbrev pub begins_type : Kind → Bool
begins_type k.Int = true
begins_type k.Long = true
begins_type k.Boolean = true
begins_type k.Name = true
begins_type _ = false

element_begins : (a : Kind) (x : Name) (t : ElementType) → element_of a x ≡ Some t → begins_type a ≡ true
element_begins k.Int x t e = refl
element_begins k.Long x t e = refl
element_begins k.Boolean x t e = refl
element_begins k.Name x t e = refl
element_begins _ x t e = absurd cc

module _ (ts : List Token) where
  pub type_begins : {i j : ℕ} {t : TypeName} → TypeOf ts i t j → begins_type (seen false ts i) ≡ true
  type_begins (single {i = i} {t = t} e) = element_begins (seen false ts i) (name_at ts i) t e
  type_begins (array {i = i} {t = t} e o c) = element_begins (seen false ts i) (name_at ts i) t e

  pub type_on : {i j : ℕ} {t : TypeName} → TypeOf ts i t j → i < j
  type_on (single e) = omega arith
  type_on (array e o c) = omega arith

  array_is : (i : ℕ) → is_array false ts i ≡ true → (seen false ts (i + 1) ≡ k.OpenBracket) × (seen false ts (i + 2) ≡ k.CloseBracket)
  unfolding is_array
  array_is i e = go (sees false ts (i + 1) k.OpenBracket) (sees false ts (i + 2) k.CloseBracket) refl refl e
    where
      go : (a b : Bool) → sees false ts (i + 1) k.OpenBracket ≡ a → sees false ts (i + 2) k.CloseBracket ≡ b → cond a b false ≡ true → (seen false ts (i + 1) ≡ k.OpenBracket) × (seen false ts (i + 2) ≡ k.CloseBracket)
      go true true e f h = (seen_is false ts (i + 1) k.OpenBracket e, seen_is false ts (i + 2) k.CloseBracket f)
      go true false e f h = absurd cc
      go false b e f h = absurd cc

  -- what is read is spelled
  pub type_told : (Cause : Refusal → Type 0) (i : ℕ) → Cause (refusal_at ts i) → Told Cause (λ (r : TypeName × ℕ). TypeOf ts i r.0 r.1) (type_name false ts i)
  unfolding type_name
  type_told Cause i c =
      told_then Cause (λ t. element_of (seen false ts i) (name_at ts i) ≡ Some t) (λ (r : TypeName × ℕ). TypeOf ts i r.0 r.1) (element false ts i) (λ t. cond (is_array false ts i) (Ok (types.ArrayOf t, i + 3)) (Ok (types.Single t, i + 1))) (told_element Cause false ts i c) (λ t e.
      told_if Cause (λ (r : TypeName × ℕ). TypeOf ts i r.0 r.1) (is_array false ts i) (Ok (types.ArrayOf t, i + 3)) (Ok (types.Single t, i + 1)) (λ a. array e (array_is i a).0 (array_is i a).1) (λ a. single e))

  element_read : (i : ℕ) (t : ElementType) → element_of (seen false ts i) (name_at ts i) ≡ Some t → element false ts i ≡ Ok t
  unfolding element
  element_read i t e = rw e

  is_no_array : (i : ℕ) → (seen false ts (i + 1) ≡ k.OpenBracket → ⊥) → is_array false ts i ≡ false
  unfolding is_array
  is_no_array i e = rw (sees_not false ts (i + 1) k.OpenBracket e)

  array_read : (i : ℕ) → seen false ts (i + 1) ≡ k.OpenBracket → seen false ts (i + 2) ≡ k.CloseBracket → is_array false ts i ≡ true
  unfolding is_array
  array_read i o c = rw (sees_it false ts (i + 1) k.OpenBracket o, sees_it false ts (i + 2) k.CloseBracket c)

  -- what is spelled is read, where no `[` follows
  pub type_read : {i j : ℕ} {t : TypeName} → TypeOf ts i t j → (seen false ts j ≡ k.OpenBracket → ⊥) → type_name false ts i ≡ Ok (t, j)
  unfolding type_name
  type_read (single {i = i} {t = t} e) ends = rw (element_read i t e, is_no_array i ends)
  type_read (array {i = i} {t = t} e o c) ends = rw (element_read i t e, array_read i o c)

  -- no two types stand at an index, where no `[` follows
  pub one_type : {i j m : ℕ} {t u : TypeName} → TypeOf ts i t j → TypeOf ts i u m → (seen false ts j ≡ k.OpenBracket → ⊥) → (seen false ts m ≡ k.OpenBracket → ⊥) → (t ≡ u) × (j ≡ m)
  one_type {i = i} {j = j} {m = m} {t = t} {u = u} a b s e =
      let same : ◌≡◌ {A = Result (TypeName × ℕ) Refusal} (Ok (t, j)) (Ok (u, m)) = sym (type_read a s) ∙ type_read b e in
      let pair : ◌≡◌ {A = TypeName × ℕ} (t, j) (u, m) = cc in
      (ap (λ (x : TypeName × ℕ). x.0) pair, ap (λ (x : TypeName × ℕ). x.1) pair)
