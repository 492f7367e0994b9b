-- What a function answers that hands an error on.
use Rattle.std.proofs.Common.{◌≡◌, ℕ, true, false, List, [], ◌∷◌, map, Result, Ok, Err, refl, sym, ap, ◌∙◌, subst}
use Rattle.std.specs.Result.{IsErrAnd}
use Rattle.jr_base.specs.declared.refusal.Fail.{Fail}
use Rattle.jr_base.specs.declared.refusal.Fail.TheVariants.{Memory, Refused}
use Rattle.jr_base.specs.declared.refusal.Refusal.{Refusal}
use Rattle.jr_lexer.specs.Answers as lexer
use Rattle.jr_lexer.specs.Token.{Token}
use Rattle.jr_ast.specs.declared.unit.Unit.{Unit as UnitTree}
use Rattle.jr_unit_parser.specs.Answers as answers
use Rattle.jr_unit_parser.specs.Finds.{Fails, Finds}
use Rattle.jr_unit_parser.specs.declared.head.Declared.{Declared}
use Rattle.jr_unit_parser.proofs.Told.{Told}

pub hands_on : {A B : Type 0} (ts : List Token) (view : B → A) (One : ℕ → A → ℕ → Type 0) (Shallow : A → Type 0) (i : ℕ) (r : Result (B × ℕ) Fail) (e : Fail) → IsErrAnd r (λ x. x ≡ e) → Fails ts One Shallow i e → Finds ts view One Shallow i r
hands_on ts view One Shallow i (Ok x) e h f = absurd h
hands_on ts view One Shallow i (Err x) e h f = subst (λ x. Fails ts One Shallow i x) (sym h) f

ok_or_err : {A E : Type 0} (o : Result A E) (y : A) (r : E) → o ≡ Ok y → o ≡ Err r → ⊥
ok_or_err o y r e f = cc

-- what is refused by a reader of a part, where the whole would be read with it
pub part_fails : {A B : Type 0} (ts : List Token) (P : B → Type 0) (o : Result B Refusal) → Told ts P o → (One : ℕ → A → ℕ → Type 0) (Shallow : A → Type 0) (i : ℕ) → ((x : A) (j : ℕ) → One i x j → (y : B) × (o ≡ Ok y)) → (e : Fail) → lexer.Fails e o → Fails ts One Shallow i e
part_fails ts P o told One Shallow i whole Memory f = tt
part_fails ts P o told One Shallow i whole (Refused r) f = record {
  caused = subst (λ o. Told ts P o) f told;
  nothing = λ x j one c. let y = whole x j one in ok_or_err o y.0 r y.1 f;
}

-- what was read is that, where its variant is known
pub read_as : (ts : List Token) (o : Result (Declared × ℕ) Refusal) (d e : Declared) (j : ℕ) → o ≡ Ok (d, j) → d ≡ e → o ≡ Ok (e, j)
read_as ts o d e j f g = f ∙ ap (λ (d : Declared). Ok (d, j)) g

pub none_of : {A B : Type 0} (view : B → A) (xs : List B) → xs ≡ [] → map view xs ≡ []
none_of view xs e = ap (map view) e

pub none_in : {A B : Type 0} (view : B → A) (xs : List B) → map view xs ≡ [] → xs ≡ []
none_in view [] e = refl
none_in view (x ∷ xs) e = absurd cc

pub not_true : false ≡ true → ⊥
not_true e = cc

pub answers_on : (ts : List Token) (r : Result UnitTree Fail) (e : Fail) → IsErrAnd r (λ x. x ≡ e) → answers.Fails ts e → answers.Answers ts r
answers_on ts (Ok x) e h f = absurd h
answers_on ts (Err x) e h f = subst (λ x. answers.Fails ts x) (sym h) f
