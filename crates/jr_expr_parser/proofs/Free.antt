-- The tokens behind which nothing is the operand of a unary `-`.
use Rattle.std.proofs.Common.{◌≡◌, ℕ, ◌-◌, Bool, true, false, List, refl, sym, ap, ◌∙◌, inl}
use Rattle.jr_lexer.specs.declared.kind.Kind.{Kind}
use Rattle.jr_lexer.specs.declared.kind.Kind.TheVariants as k
use Rattle.jr_lexer.specs.Token.{Token}
use Rattle.jr_reading.specs.Seen.{seen}
use Rattle.jr_expr_parser.specs.BigLiteral.{Unnegated, frees, is_head}

pub frees_not : (a : Kind) → frees a ≡ true → a ≡ k.Minus → ⊥
frees_not a h e = let x : false ≡ true = ap frees (sym e) ∙ h in absurd cc

pub no_head : (a : Kind) → frees a ≡ true → is_head a ≡ false
no_head k.If h = absurd cc
no_head k.While h = absurd cc
no_head _ h = refl

pub free_unless_head : (a : Kind) → (a ≡ k.Minus → ⊥) → (a ≡ k.If → ⊥) → (a ≡ k.While → ⊥) → frees a ≡ true
free_unless_head k.Minus f g h = absurd (f refl)
free_unless_head k.If f g h = absurd (g refl)
free_unless_head k.While f g h = absurd (h refl)
free_unless_head _ f g h = refl

-- what begins behind such a token
pub begins_free : (jml : Bool) (ts : List Token) (i : ℕ) → frees (seen jml ts (i - 1)) ≡ true → Unnegated jml ts i × (is_head (seen jml ts (i - 1)) ≡ false)
begins_free jml ts i h = (inl (frees_not (seen jml ts (i - 1)) h), no_head (seen jml ts (i - 1)) h)
