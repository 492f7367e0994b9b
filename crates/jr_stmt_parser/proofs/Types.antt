-- The type that is read is the one that stands.
use Rattle.std.proofs.Common.{◌≡◌, ℕ, false, List, Result, Ok, Err, sym, ap, ◌∙◌, subst, arith}
use Rattle.jr_base.specs.declared.refusal.Refusal.{Refusal}
use Rattle.jr_base.specs.declared.refusal.Fail.{Fail}
use Rattle.jr_base.specs.declared.refusal.Fail.TheVariants.{Memory, Refused}
use Rattle.jr_lexer.specs.Token.{Token}
use Rattle.jr_lexer.specs.Answers.{Answers as Finds}
use Rattle.jr_ast.specs.declared.name.TypeName.{TypeName}
use Rattle.jr_reading.specs.Types.{TypeOf}
use Rattle.jr_reading.specs.Steps.{type_name}
use Rattle.jr_reading.proofs.Told.{Told}
use Rattle.jr_reading.proofs.TypeNames.{type_told, type_on}
use Rattle.jr_stmt_parser.specs.Gives.{Found, Blames, Fails, NoLabel, Gives}
use Rattle.jr_stmt_parser.specs.Pieces.{Typed}
use Rattle.jr_stmt_parser.proofs.Begins.{blames}
use Rattle.jr_stmt_parser.proofs.Gives.{blamed}

module _ (ts : List Token) (i : ℕ) where
  abbrev Says : Result (TypeName × ℕ) Refusal → Type 0
  Says = Told (Blames ts i) (λ (r : TypeName × ℕ). TypeOf ts i r.0 r.1)

  told : Says (type_name false ts i)
  told = type_told ts (Blames ts i) i (blames ts i)

  pub type_stands : {j : ℕ} {t : TypeName} → type_name false ts i ≡ Ok (t, j) → TypeOf ts i t j
  type_stands e = subst Says e told

  same : {r : TypeName × ℕ} (t : TypeName) (j : ℕ) → type_name false ts i ≡ Ok r → type_name false ts i ≡ Ok (t, j) → (r.0 ≡ t) × (r.1 ≡ j)
  same {r = r} t j d e = (ap (λ (x : TypeName × ℕ). x.0) both, ap (λ (x : TypeName × ℕ). x.1) both)
    where
      there : ◌≡◌ {A = Result (TypeName × ℕ) Refusal} (Ok r) (Ok (t, j))
      there = sym d ∙ e

      both : ◌≡◌ {A = TypeName × ℕ} r (t, j)
      both = let h = there in cc

  found : (r : TypeName × ℕ) → type_name false ts i ≡ Ok r → Found (Typed ts) i r.0 r.1
  found r e = record { it = e; on = omega (arith, type_on ts (type_stands e)); only = λ l y m q. same y m e q }

  fails : (depth : ℕ) (r : Refusal) → type_name false ts i ≡ Err r → Fails NoLabel ts depth (Typed ts) i (Refused r)
  fails depth r e = blamed i (omega arith) (λ l y m q. none (sym e ∙ q)) (subst Says e told)
    where
      none : {y : TypeName × ℕ} → ◌≡◌ {A = Result (TypeName × ℕ) Refusal} (Err r) (Ok y) → ⊥
      none h = absurd cc

  pub type_gives : (depth : ℕ) (r : Result (TypeName × ℕ) Fail) → Finds (type_name false ts i) r → Gives (λ t. t) ts depth (Typed ts) i r
  type_gives depth (Ok r) h = found r h
  type_gives depth (Err Memory) h = record { why = tt }
  type_gives depth (Err (Refused r)) h = fails depth r h
