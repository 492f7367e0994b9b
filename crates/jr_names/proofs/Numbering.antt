-- The first class of each name, where one class more is noted.
use Rattle.std.proofs.Common.{◌≡◌, ℕ, ◌+◌, ◌<◌, Bool, true, false, cond, List, [], ◌∷◌, ◌++◌, length, take, map, get_or, Option, Some, None, add-one, refl, sym, ap, ◌∙◌, arith}
use Rattle.std.specs.Prelude.{is_some}
use Rattle.std.specs.Str.{bytes_eq}
use Rattle.std.proofs.Math.Seq.{take-suc}
use Rattle.std.proofs.lemmas.List.{map-append, length-map, length-take-le}
use Rattle.std.proofs.lemmas.Slice.Eq.{bytes_eq-Decides}
use Rattle.jr_base.specs.declared.number.ClassId.{ClassId}
use Rattle.jr_ast.specs.declared.unit.Class.{Class as ClassTree}
use Rattle.jr_ast.specs.Units.{Class, view_class}
use Rattle.jr_typing_rules.specs.Names.{Text, named}
use Rattle.jr_typing_rules.specs.Resolution.{numbered}
use Rattle.jr_names.specs.Tables.{numbers_of, AreAlike}

or_else : {A : Type 0} → Option A → Option A → Option A
or_else (Some a) other = Some a
or_else None other = other

named_last : {A : Type 0} (x y : Text) (a : A) (es : List (Text × A)) → named x (es ++ (y, a) ∷ []) ≡ or_else (named x es) (cond (bytes_eq x y) (Some a) None)
unfolding named or_else
named_last x y a [] = refl
named_last x y a (e ∷ es) =
    elim (bytes_eq x e.0) as (λ b. cond b (Some e.1) (named x (es ++ (y, a) ∷ [])) ≡ or_else (cond b (Some e.1) (named x es)) (cond (bytes_eq x y) (Some a) None)) [
      | true ↦ refl
      | false ↦ named_last x y a es
    ]

-- a name that is new is the first of its name
pub noted : {A : Type 0} (first all : List (Text × A)) (y : Text) (a : A) → AreAlike first all → AreAlike (first ++ (y, a) ∷ []) (all ++ (y, a) ∷ [])
noted first all y a alike x =
    named_last x y a first ∙ ap (λ o. or_else o (cond (bytes_eq x y) (Some a) None)) (alike x) ∙ sym (named_last x y a all)

there : {A : Type 0} (o : Option A) (p : Option A) → is_some o ≡ true → o ≡ or_else o p
unfolding or_else
there (Some a) p is = refl
there None p is = cc

not_there : {A : Type 0} (o : Option A) → o ≡ or_else o None
unfolding or_else
not_there (Some a) = refl
not_there None = refl

-- one that is there already stands for what it stood for
pub known_before : {A : Type 0} (first all : List (Text × A)) (y : Text) (a : A) → is_some (named y first) ≡ true → AreAlike first all → AreAlike first (all ++ (y, a) ∷ [])
known_before first all y a is alike x = alike x ∙ kept (bytes_eq x y) refl ∙ sym (named_last x y a all)
  where
    kept : (b : Bool) → bytes_eq x y ≡ b → named x all ≡ or_else (named x all) (cond b (Some a) None)
    kept true same = there (named x all) (Some a) (ap is_some (sym (alike x) ∙ ap (λ z. named z first) ((bytes_eq-Decides x y).0 same)) ∙ is)
    kept false other = not_there (named x all)

-- a class and its number
abbrev pub numbered_as : Class → ℕ → Text × ClassId
numbered_as k n = (k.name.text, record { 0 = n })

numbered_last : (n : ℕ) (ks : List Class) (k : Class) → numbered n (ks ++ k ∷ []) ≡ numbered n ks ++ numbered_as k (n + length ks) ∷ []
numbered_last n [] k = let e : n ≡ n + 0 = omega arith in ap (λ m. numbered_as k m ∷ []) e
numbered_last n (j ∷ ks) k =
    let e : n + 1 + length ks ≡ n + length (j ∷ ks) = omega arith in
    ap (λ es. numbered_as j n ∷ es) (numbered_last (n + 1) ks k ∙ ap (λ m. numbered (n + 1) ks ++ numbered_as k m ∷ []) e)

zero_more : (n : ℕ) → 0 + n ≡ n
zero_more n = omega arith

numbers_next : (classes : List ClassTree) (n : ℕ) (d : ClassTree) → n < length classes →
    numbers_of (take (n + 1) classes) ≡ numbers_of (take n classes) ++ numbered_as (view_class (get_or classes n d)) n ∷ []
numbers_next classes n d below =
    let e : take (n + 1) classes ≡ take n classes ++ (get_or classes n d ∷ []) = rw add-one (take-suc classes n d below) in
    let m : 0 + length (map view_class (take n classes)) ≡ n =
    zero_more (length (map view_class (take n classes))) ∙ length-map (take n classes) view_class ∙ length-take-le n classes (omega arith) in
    ap (λ ks. numbered 0 (map view_class ks)) e
    ∙ ap (numbered 0) (map-append view_class (take n classes) (get_or classes n d ∷ []))
    ∙ numbered_last 0 (map view_class (take n classes)) (view_class (get_or classes n d))
    ∙ ap (λ m. numbers_of (take n classes) ++ numbered_as (view_class (get_or classes n d)) m ∷ []) m

-- one class more is noted
pub next_noted : (first : List (Text × ClassId)) (classes : List ClassTree) (n : ℕ) (k : ClassTree) → n < length classes → k ≡ get_or classes n k →
    AreAlike first (numbers_of (take n classes) ++ numbered_as (view_class k) n ∷ []) → AreAlike first (numbers_of (take (n + 1) classes))
next_noted first classes n k below is alike =
    let e : numbers_of (take (n + 1) classes) ≡ numbers_of (take n classes) ++ numbered_as (view_class k) n ∷ [] =
    numbers_next classes n k below ∙ ap (λ (j : ClassTree). numbers_of (take n classes) ++ numbered_as (view_class j) n ∷ []) (sym is) in
    rw e alike

-- the same, where a table says so
pub note_known : (first all : List (Text × ClassId)) (y z : Text) (n : ℕ) → is_some (named y first) ≡ true → y ≡ z → AreAlike first all → AreAlike first (all ++ (z, record { 0 = n }) ∷ [])
note_known first all y z n there same alike = rw (← same) (known_before first all y (record { 0 = n }) there alike)

pub note_new : (first new all : List (Text × ClassId)) (y z : Text) (n m : ℕ) → new ≡ first ++ (y, record { 0 = n }) ∷ [] → y ≡ z → n ≡ m → AreAlike first all
    → AreAlike new (all ++ (z, record { 0 = m }) ∷ [])
note_new first new all y z n m is same count alike = rw (is, ← same, ← count) (noted first all y (record { 0 = n }) alike)
