-- Where the variables that a clause may name have their kinds: formals in a method's, and variables in scope in an assert's.
use Rattle.std.proofs.Common.{◌≡◌, ℕ, ◌+◌, List, [], ◌∷◌, ◌++◌, length, map, Some, slice_get, refl, append_assoc, arith}
use Rattle.std.proofs.lemmas.List.{length-append}
use Rattle.jr_base.specs.declared.kind.SlotKind.{SlotKind}
use Rattle.jr_ast.specs.declared.unit.Formal.{Formal}
use Rattle.jr_typing_rules.specs.declared.words.ValueType.{ValueType}
use Rattle.jr_typing_rules.specs.declared.words.VariableKind.{VariableKind}
use Rattle.jr_typing_rules.specs.declared.words.VariableKind.TheVariants as variable
use Rattle.jr_typing_rules.specs.Types.{kind_of}
use Rattle.jr_typing_rules.specs.Scopes.{Variable}
use Rattle.jr_typing_rules.specs.Declarations.{formal_variables}
use Rattle.jr_typing_rules.specs.Specifications.{placed, place_after, in_environment}
use Rattle.jr_typing_rules.proofs.AssertScopes.{and_kind, kinds_in}
use Rattle.jr_typing_rules.proofs.MadeRight.{kind-not-caught}
use Rattle.jr_typing_rules.proofs.NamedKinds.{IsPlaced, ArePlaced}

get-here : {A : Type 0} (xs ys : List A) (x : A) → slice_get (xs ++ x ∷ ys) (length xs) ≡ Some x
get-here [] ys x = refl
get-here (y ∷ xs) ys x = get-here xs ys x

among : (xs ys : List SlotKind) (vs : List Variable) → xs ≡ ys → ArePlaced xs vs → ArePlaced ys vs
among xs ys vs same placed = rw same at placed

-- ---- formals

no-formals-placed : (kinds : List SlotKind) (place : ℕ) (fs : List Formal) → ArePlaced kinds (formal_variables place fs [])
no-formals-placed kinds place [] = tt
no-formals-placed kinds place (f ∷ fs) = (tt, no-formals-placed kinds (place + 1) fs)

placed-behind : (before : List SlotKind) (place : ℕ) (fs : List Formal) (ts : List ValueType) → place ≡ length before → ArePlaced (before ++ map kind_of ts) (formal_variables place fs ts)
placed-behind before place [] ts at = tt
placed-behind before place (f ∷ fs) [] at = no-formals-placed (before ++ []) place (f ∷ fs)
placed-behind before place (f ∷ fs) (t ∷ ts) at = (
  (rw at (get-here before (map kind_of ts) (kind_of t)), kind-not-caught t),
  among ((before ++ kind_of t ∷ []) ++ map kind_of ts) (before ++ map kind_of (t ∷ ts)) (formal_variables (place + 1) fs ts) (append_assoc before (kind_of t ∷ []) (map kind_of ts))
      (placed-behind (before ++ kind_of t ∷ []) (place + 1) fs ts (omega (arith, at, length-append before (kind_of t ∷ [])))),
)

pub formals-placed : (fs : List Formal) (ts : List ValueType) → ArePlaced (map kind_of ts) (formal_variables 0 fs ts)
formals-placed fs ts = placed-behind [] 0 fs ts refl

-- ---- the environment of an assert

environment-behind : (before : List SlotKind) (n : ℕ) (vs : List Variable) → n ≡ length before → ArePlaced (before ++ kinds_in vs) (in_environment n vs)
environment-behind before n [] at = tt
environment-behind before n (v ∷ vs) at = by v.kind λ before n at. environment-behind before n vs at
  where
    by : (k : VariableKind) → ((before : List SlotKind) (n : ℕ) → n ≡ length before → ArePlaced (before ++ kinds_in vs) (in_environment n vs)) →
        IsPlaced (before ++ and_kind k (kinds_in vs)) (placed n k) × ArePlaced (before ++ and_kind k (kinds_in vs)) (in_environment (place_after n k) vs)
    by (variable.Local t place) rest = (
      (rw at (get-here before (kinds_in vs) (kind_of t)), kind-not-caught t),
      among ((before ++ kind_of t ∷ []) ++ kinds_in vs) (before ++ kind_of t ∷ kinds_in vs) (in_environment (n + 1) vs) (append_assoc before (kind_of t ∷ []) (kinds_in vs))
          (rest (before ++ kind_of t ∷ []) (n + 1) (omega (arith, at, length-append before (kind_of t ∷ [])))),
    )
    by (variable.Caught place) rest = (tt, rest before n at)
    by variable.Arguments rest = (tt, rest before n at)

pub environment-placed : (vs : List Variable) → ArePlaced (kinds_in vs) (in_environment 0 vs)
environment-placed vs = environment-behind [] 0 vs refl
