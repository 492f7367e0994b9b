-- The lists of what objects hold at first, and stores.
use Rattle.std.proofs.Common.{◌≡◌, ◌+◌, ◌<◌, ℕ, zero, suc, length-append, Bool, true, false, List, [], ◌∷◌, ◌++◌, length, Some, None, slice_get, nat_lt, refl, ap, sym, subst, ◌∙◌, arith}
use Rattle.std.specs.Prelude.{Result, Ok, Err, IfOk, OnErr}
use Rattle.std.proofs.lemmas.Result.{IfOk-weaker}
use Rattle.std.specs.Option.{unwrap_or}
use Rattle.std.proofs.lemmas.Bool.{ltb-true, ltb-false}
use Rattle.std.proofs.lemmas.Option.{slice_get_past}
use Rattle.jr_base.specs.declared.number.ClassId.{ClassId}
use Rattle.jr_base.specs.declared.number.ObjId.{ObjId}
use Rattle.jr_base.specs.declared.action.NewKind.{NewKind}
use Rattle.jr_base.specs.declared.refusal.Memory.{Memory}
use Rattle.jr_base.specs.declared.value.Value.{Value}
use Rattle.jr_program.specs.Programs.{Program}
use Rattle.jr_program.specs.Slots.{class_count}
use Rattle.jr_program.specs.WellFormed.{WellFormed}
use Rattle.jr_meaning.specs.World.{World, ObjectKind, Made, next_object}
use Rattle.jr_drive.specs.Blanks.{IsBlank, AreBlanks, blank_of}
use Rattle.jr_drive.specs.Counted.{Counted, StandsFor, IsMadeOf, with_object}
use Rattle.jr_drive.specs.Stored.{StoreOf, Stored}
use Rattle.jr_drive.proofs.Constants.{constants, are-blank, no-constants}

-- the lists of the first n classes
pub record AreFirst (program : Program) (n : ℕ) (blanks : List (List Value)) : Type 0 where
  pub all : length blanks ≡ n
  pub each : (class : ClassId) → class.0 < n → IsBlank program class false (blank_of blanks class)

last-there : {A : Type 0} (xs : List A) (x : A) → slice_get (xs ++ x ∷ []) (length xs) ≡ Some x
last-there [] x = refl
last-there (y ∷ xs) x = last-there xs x

before-there : {A : Type 0} (xs : List A) (x : A) (n : ℕ) → n < length xs → slice_get (xs ++ x ∷ []) n ≡ slice_get xs n
before-there [] x n few = absurd (omega (arith, few))
before-there (y ∷ xs) x zero few = refl
before-there (y ∷ xs) x (suc n) few = before-there xs x n (omega (arith, few))

pub first-none : (program : Program) → AreFirst program 0 []
first-none program = record { all = refl; each = λ class few. absurd (omega (arith, few)) }

pub first-more : (program : Program) (n : ℕ) (blanks : List (List Value)) (blank : List Value) → AreFirst program n blanks → IsBlank program (record { 0 = n }) false blank →
    AreFirst program (n + 1) (blanks ++ blank ∷ [])
first-more program n blanks blank first next = record { all = let e = length-append blanks (blank ∷ []) in let a = first.all in omega arith; each = each }
  where
    by : (class : ClassId) → class.0 < n + 1 → (b : Bool) → nat_lt class.0 n ≡ b → IsBlank program class false (blank_of (blanks ++ blank ∷ []) class)
    by class few true is =
        let below : class.0 < length blanks = let lt = ltb-true class.0 n is in let a = first.all in omega arith in
        subst (λ o. IsBlank program class false (unwrap_or o [])) (sym (before-there blanks blank class.0 below)) (first.each class (ltb-true class.0 n is))
    by class few false is =
        let last : n ≡ class.0 = let ge = ltb-false class.0 n is in omega arith in
        let there : slice_get (blanks ++ blank ∷ []) class.0 ≡ Some blank = ap (slice_get (blanks ++ blank ∷ [])) (sym (first.all ∙ last)) ∙ last-there blanks blank in
        let one : IsBlank program class false blank = subst (λ k. IsBlank program (record { 0 = k }) false blank) last next in
        subst (λ o. IsBlank program class false (unwrap_or o [])) (sym there) one

    each : (class : ClassId) → class.0 < n + 1 → IsBlank program class false (blank_of (blanks ++ blank ∷ []) class)
    each class few = by class few (nat_lt class.0 n) refl

pub first-all : (program : Program) (blanks : List (List Value)) → WellFormed program → AreFirst program (class_count program) blanks → AreBlanks program blanks
first-all program blanks fine first class = by (nat_lt class.0 (class_count program)) refl
  where
    by : (b : Bool) → nat_lt class.0 (class_count program) ≡ b → IsBlank program class false (blank_of blanks class)
    by true is = first.each class (ltb-true class.0 (class_count program) is)
    by false is =
        let past = ltb-false class.0 (class_count program) is in
        let none : constants class false program.fields ≡ [] = no-constants class false (class_count program) program.fields (λ i field at. (fine.fields (record { 0 = i }) field at).class) past in
        let gone : slice_get blanks class.0 ≡ None = slice_get_past blanks class.0 (let a = first.all in omega arith) in
        subst (λ o. IsBlank program class false (unwrap_or o [])) (sym gone) (subst (IsBlank program class false) none (are-blank program class false))

-- ---- stores

-- equal stores stand for the same world
pub stored-same : (program : Program) (a b : StoreOf) (world : World) → a ≡ b → Stored program b world → Stored program a world
stored-same program a b world same stored = subst (λ v. Stored program v world) (sym same) stored

-- what holds whatever the result is
pub on-err : {T E : Type 0} (r : Result T E) (P : Type 0) → P → OnErr r P
on-err (Ok value) P holds = tt
on-err (Err why) P holds = holds

-- What a call on the objects of a store says is said of the store.
module _ (store : StoreOf) (old new : Counted) (blanks : List (List Value)) (same : record { made = old; blanks = blanks } ≡ store) where
  pub next-of : (r : Result ObjId Memory) → IfOk r (λ object. (program : Program) (world : World) → StandsFor program old world → object ≡ next_object world) →
      IfOk r (λ object. (program : Program) (world : World) → Stored program store world → object ≡ next_object world)
  next-of r = IfOk-weaker r _ _ (λ object is program world stored. is program world (stored-same program _ store world same stored).made)

  pub made-of : (r : Result ObjId Memory) (kind : NewKind) (array : Bool) (values : List Value) → ((program : Program) → AreBlanks program blanks → IsMadeOf program (Made kind) array values) →
      IfOk r (λ object. (program : Program) (world : World) (kind : ObjectKind) → IsMadeOf program kind array values → StandsFor program old world → StandsFor program new (with_object program world kind)) →
      IfOk r (λ object. (program : Program) (world : World) → Stored program store world → Stored program (record { made = new; blanks = blanks }) (with_object program world (Made kind)))
  made-of r kind array values made = IfOk-weaker r _ _ (λ object is program world stored.
      let before = stored-same program _ store world same stored in
      record { made = is program world (Made kind) (made program before.blanks) before.made; blanks = before.blanks })

  pub kept-of : ((program : Program) (world : World) → StandsFor program old world → StandsFor program new world) →
      (program : Program) (world : World) → Stored program store world → Stored program (record { made = new; blanks = blanks }) world
  kept-of kept program world stored = let before = stored-same program _ store world same stored in record { made = kept program world before.made; blanks = before.blanks }
