-- The locals of a frame: `this` where there is one, the variables, and the hidden ones behind them.
use Rattle.std.proofs.Common.{◌≡◌, ◌≢◌, ℕ, Bool, true, false, zero, suc, ◌+◌, List, [], ◌∷◌, ◌++◌, length, Option, Some, refl, sym, ap, ◌∙◌, subst, arith}
use Rattle.std.specs.Prelude.{slice_get, slice_set}
use Rattle.jr_base.specs.declared.number.ObjId.{ObjId}
use Rattle.jr_base.specs.declared.value.Value.{Value}
use Rattle.jr_base.specs.declared.kind.SlotKind.{SlotKind}
use Rattle.jr_base.specs.declared.kind.SlotKind.TheVariants.{Caught as CaughtKind}
use Rattle.jr_base.specs.Content.{Content, Holds, Caught}
use Rattle.jr_meaning.specs.Next.{Variables}
use Rattle.jr_base.specs.Threads.{reference}
use Rattle.jr_code.specs.Machine.{this_local}
use Rattle.jr_lowering.specs.ExprCode.{shift}

abbrev pub OfKind : SlotKind → Content → Type 0
OfKind k (Holds v) = k ≢ CaughtKind
OfKind k (Caught f) = k ≡ CaughtKind

-- each variable that is of a catch holds an exception, and each other one a value
abbrev pub Shape : List SlotKind → Variables → Type 0
Shape [] [] = Unit {0}
Shape [] (c ∷ cs) = ⊥
Shape (k ∷ ks) [] = ⊥
Shape (k ∷ ks) (c ∷ cs) = OfKind k c × Shape ks cs

pub shape_len : (ks : List SlotKind) (vs : Variables) → Shape ks vs → length vs ≡ length ks
shape_len [] [] h = refl
shape_len [] (c ∷ cs) h = absurd h
shape_len (k ∷ ks) [] h = absurd h
shape_len (k ∷ ks) (c ∷ cs) h = ap (λ n. suc n) (shape_len ks cs h.1)

pub shape_append : (ks js : List SlotKind) (vs ws : Variables) → Shape ks vs → Shape js ws → Shape (ks ++ js) (vs ++ ws)
shape_append [] js [] ws h g = g
shape_append [] js (c ∷ cs) ws h g = absurd h
shape_append (k ∷ ks) js [] ws h g = absurd h
shape_append (k ∷ ks) js (c ∷ cs) ws h g = (h.0, shape_append ks js cs ws h.1 g)

pub has_content : (ks : List SlotKind) (vs : Variables) (p : ℕ) (k : SlotKind) → Shape ks vs → slice_get ks p ≡ Some k → (c : Content) × (slice_get vs p ≡ Some c) × OfKind k c
has_content [] [] p k h e = absurd (cc)
has_content [] (c ∷ cs) p k h e = absurd h
has_content (j ∷ ks) [] p k h e = absurd h
has_content (j ∷ ks) (c ∷ cs) zero k h e = (c, refl, let e' : j ≡ k = cc in subst (λ i. OfKind i c) e' h.0)
has_content (j ∷ ks) (c ∷ cs) (suc p) k h e = has_content ks cs p k h.1 e

value_of : (k : SlotKind) (c : Content) → OfKind k c → k ≢ CaughtKind → (v : Value) × (c ≡ Holds v)
value_of k (Holds v) h n = (v, refl)
value_of k (Caught f) h n = absurd (n h)

pub has_value : (ks : List SlotKind) (vs : Variables) (p : ℕ) (k : SlotKind) → Shape ks vs → slice_get ks p ≡ Some k → k ≢ CaughtKind → (v : Value) × (slice_get vs p ≡ Some (Holds v))
has_value ks vs p k h e n =
    let c = has_content ks vs p k h e in
    let v = value_of k c.0 c.2 n in
    (v.0, c.1 ∙ ap Some v.1)

pub shape_set : (ks : List SlotKind) (vs : Variables) (p : ℕ) (k : SlotKind) (c : Content) → Shape ks vs → slice_get ks p ≡ Some k → OfKind k c → Shape ks (slice_set vs p c)
shape_set [] [] p k x h e o = absurd (cc)
shape_set [] (c ∷ cs) p k x h e o = absurd h
shape_set (j ∷ ks) [] p k x h e o = absurd h
shape_set (j ∷ ks) (c ∷ cs) zero k x h e o = (let e' : k ≡ j = cc in subst (λ i. OfKind i x) e' o, h.1)
shape_set (j ∷ ks) (c ∷ cs) (suc p) k x h e o = (h.0, shape_set ks cs p k x h.1 e o)

-- ---- in the whole of the locals

abbrev pub whole : Bool → Option ObjId → Variables → List Content → List Content
whole static this vs hidden = this_local static this ++ (vs ++ hidden)

get_front : (vs ws : List Content) (p : ℕ) (c : Content) → slice_get vs p ≡ Some c → slice_get (vs ++ ws) p ≡ Some c
get_front [] ws p c e = absurd (cc)
get_front (x ∷ vs) ws zero c e = e
get_front (x ∷ vs) ws (suc p) c e = get_front vs ws p c e

get_back : (vs ws : List Content) (p : ℕ) → slice_get (vs ++ ws) (length vs + p) ≡ slice_get ws p
get_back [] ws p = let e : zero + p ≡ p = omega arith in ap (λ i. slice_get ws i) e
get_back (x ∷ vs) ws p = let e : suc (length vs) + p ≡ suc (length vs + p) = omega arith in ap (λ i. slice_get (x ∷ (vs ++ ws)) i) e ∙ get_back vs ws p

set_front : (vs ws : List Content) (p : ℕ) (c x : Content) → slice_get vs p ≡ Some c → slice_set (vs ++ ws) p x ≡ slice_set vs p x ++ ws
set_front [] ws p c x e = absurd (cc)
set_front (y ∷ vs) ws zero c x e = refl
set_front (y ∷ vs) ws (suc p) c x e = ap (λ l. y ∷ l) (set_front vs ws p c x e)

set_back : (vs ws : List Content) (p : ℕ) (x : Content) → slice_set (vs ++ ws) (length vs + p) x ≡ vs ++ slice_set ws p x
set_back [] ws p x = let e : zero + p ≡ p = omega arith in ap (λ i. slice_set ws i x) e
set_back (y ∷ vs) ws p x = let e : suc (length vs) + p ≡ suc (length vs + p) = omega arith in ap (λ i. slice_set (y ∷ (vs ++ ws)) i x) e ∙ ap (λ l. y ∷ l) (set_back vs ws p x)

get_shift : (static : Bool) (this : Option ObjId) (l : List Content) (p : ℕ) → slice_get (this_local static this ++ l) (shift static + p) ≡ slice_get l p
get_shift true this l p = let e : 0 + p ≡ p = omega arith in ap (λ i. slice_get l i) e
get_shift false this l p = let e : 1 + p ≡ suc p = omega arith in ap (λ i. slice_get (Holds (reference this) ∷ l) i) e

set_shift : (static : Bool) (this : Option ObjId) (l : List Content) (p : ℕ) (x : Content) → slice_set (this_local static this ++ l) (shift static + p) x ≡ this_local static this ++ slice_set l p x
set_shift true this l p x = let e : 0 + p ≡ p = omega arith in ap (λ i. slice_set l i x) e
set_shift false this l p x = let e : 1 + p ≡ suc p = omega arith in ap (λ i. slice_set (Holds (reference this) ∷ l) i x) e

pub get_variable : (static : Bool) (this : Option ObjId) (vs h : List Content) (p : ℕ) (c : Content) → slice_get vs p ≡ Some c → slice_get (whole static this vs h) (shift static + p) ≡ Some c
get_variable static this vs h p c e = get_shift static this (vs ++ h) p ∙ get_front vs h p c e

pub set_variable : (static : Bool) (this : Option ObjId) (vs h : List Content) (p : ℕ) (c x : Content) → slice_get vs p ≡ Some c → slice_set (whole static this vs h) (shift static + p) x ≡ whole static this (slice_set vs p x) h
set_variable static this vs h p c x e = set_shift static this (vs ++ h) p x ∙ ap (λ l. this_local static this ++ l) (set_front vs h p c x e)

-- hidden local d, behind n variables
pub get_hidden : (static : Bool) (this : Option ObjId) (vs h : List Content) (n d : ℕ) → length vs ≡ n → slice_get (whole static this vs h) (shift static + (n + d)) ≡ slice_get h d
get_hidden static this vs h n d e = ap (λ i. slice_get (whole static this vs h) (shift static + (i + d))) (sym e) ∙ get_shift static this (vs ++ h) (length vs + d) ∙ get_back vs h d

pub set_hidden : (static : Bool) (this : Option ObjId) (vs h : List Content) (n d : ℕ) (x : Content) → length vs ≡ n → slice_set (whole static this vs h) (shift static + (n + d)) x ≡ whole static this vs (slice_set h d x)
set_hidden static this vs h n d x e = ap (λ i. slice_set (whole static this vs h) (shift static + (i + d)) x) (sym e) ∙ set_shift static this (vs ++ h) (length vs + d) x ∙ ap (λ l. this_local static this ++ l) (set_back vs h d x)
