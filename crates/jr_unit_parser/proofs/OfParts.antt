-- Packages and imports, modifiers, types and what a method throws: what is read is spelled, and what is
-- spelled is read.
use Rattle.std.proofs.Common.{◌≡◌, ℕ, ◌+◌, ◌<◌, ◌≤◌, zero, suc, Bool, true, false, cond, List, [], ◌∷◌, ◌++◌, length, Option, Some, None, Ok, Err, refl, sym, ap, ◌∙◌, subst, append_assoc, append-nil, arith}
use Rattle.jr_lexer.specs.declared.kind.Kind.{Kind}
use Rattle.jr_lexer.specs.declared.kind.Kind.TheVariants as k
use Rattle.jr_lexer.specs.Token.{Token}
use Rattle.jr_lexer.specs.Reading.{kind_at, jml_at}
use Rattle.jr_ast.specs.declared.name.Name.{Name}
use Rattle.jr_ast.specs.declared.name.TypeName.{TypeName}
use Rattle.jr_ast.specs.declared.unit.Modifier.{Modifier}
use Rattle.jr_ast.specs.declared.unit.ModifierKind.{ModifierKind}
use Rattle.jr_ast.specs.declared.unit.ModifierKind.TheVariants as modifier
use Rattle.jr_reading.specs.Seen.{seen, seen_as, name_at}
use Rattle.jr_reading.specs.Types.{TypeOf}
use Rattle.jr_unit_parser.specs.Grammar as g
use Rattle.jr_reading.specs.Listed.{Listed, last, more}
use Rattle.jr_unit_parser.specs.Grammar.{Many, NameAt, Dotted, Imports, ModifierAt, Throws, is_part, begins_import, modifier_of, modifier_at}
use Rattle.jr_reading.specs.Outcomes.{◌>>=◌, one_or}
use Rattle.jr_reading.specs.Steps.{same_kind, refusal_at, sees, expect}
use Rattle.jr_unit_parser.specs.Steps.{dotted, import_at, imports, mark, one_modifier, modifiers, names, throws}
use Rattle.jr_unit_parser.proofs.Past.{no_word_behind}
use Rattle.jr_reading.proofs.Tokens.{sees_it, seen_is, sees_other, expected, kind_seen, taken}
use Rattle.jr_reading.proofs.TypeNames.{begins_type}
use Rattle.jr_reading.proofs.TypeNames as types
use Rattle.jr_reading.proofs.Told.{told_then, told_to, told_if, told_option}
use Rattle.jr_unit_parser.specs.Finds.{Caused}
use Rattle.jr_unit_parser.proofs.Told.{Told, Right, right_is, below, caused_at, told_expect}

-- the words that stand behind modifiers, or begin a type
abbrev pub declares : Kind → Bool
declares k.Int = true
declares k.Long = true
declares k.Boolean = true
declares k.Name = true
declares k.Void = true
declares k.Class = true
declares _ = false

pub plain : (a : Kind) → declares a ≡ true → (modifier_of false a ≡ None) × (same_kind a k.At ≡ false) × (same_kind a k.End ≡ false)
unfolding same_kind
plain k.Int e = (refl, refl, refl)
plain k.Long e = (refl, refl, refl)
plain k.Boolean e = (refl, refl, refl)
plain k.Name e = (refl, refl, refl)
plain k.Void e = (refl, refl, refl)
plain k.Class e = (refl, refl, refl)
plain _ e = absurd cc

type_declares : (a : Kind) → begins_type a ≡ true → declares a ≡ true
type_declares k.Int e = refl
type_declares k.Long e = refl
type_declares k.Boolean e = refl
type_declares k.Name e = refl
type_declares _ e = absurd cc

module _ (ts : List Token) where
  -- ---- packages and imports

  dotted_told : (n i : ℕ) → Told ts (λ j. Dotted ts i j) (dotted ts n i)
  unfolding dotted
  dotted_told zero i = g.no_part
  dotted_told (suc n) i =
      told_if (Caused ts) (λ j. Dotted ts i j) (sees false ts i k.Dot) (cond (is_part (seen false ts (i + 1))) (dotted ts n (i + 2)) (Err (refusal_at ts (i + 1)))) (Ok i)
      (λ dot. told_if (Caused ts) (λ j. Dotted ts i j) (is_part (seen false ts (i + 1))) (dotted ts n (i + 2)) (Err (refusal_at ts (i + 1)))
      (λ p. told_to (Caused ts) (λ j. Dotted ts (i + 2) j) (λ j. Dotted ts i j) (dotted ts n (i + 2)) (λ j d. g.part (seen_is false ts i k.Dot dot) p d) (dotted_told n (i + 2)))
      (λ p. caused_at ts (i + 1)))
      (λ e. g.no_part)

  import_told : (i : ℕ) → begins_import (seen false ts i) ≡ true → Told ts (λ j. (m : ℕ) → Imports ts j m → Imports ts i m) (import_at ts i)
  unfolding import_at
  import_told i b =
      told_then (Caused ts) (λ u. seen false ts (i + 1) ≡ k.Name) (λ j. (m : ℕ) → Imports ts j m → Imports ts i m) (expect false ts (i + 1) k.Name) (λ u. dotted ts (length ts) (i + 2) >>= λ j. expect false ts j k.Semicolon >>= λ u. Ok (j + 1)) (told_expect ts (i + 1) k.Name) (λ u name.
      told_then (Caused ts) (λ j. Dotted ts (i + 2) j) (λ j. (m : ℕ) → Imports ts j m → Imports ts i m) (dotted ts (length ts) (i + 2)) (λ j. expect false ts j k.Semicolon >>= λ u. Ok (j + 1)) (dotted_told (length ts) (i + 2)) (λ j d.
      told_then (Caused ts) (λ u. seen false ts j ≡ k.Semicolon) (λ j. (m : ℕ) → Imports ts j m → Imports ts i m) (expect false ts j k.Semicolon) (λ u. Ok (j + 1)) (told_expect ts j k.Semicolon) (λ u end. λ m rest. g.import b name d end rest)))

  pub imports_told : (n i : ℕ) → Told ts (λ j. Imports ts i j) (imports ts n i)
  unfolding imports
  imports_told zero i = g.no_import
  imports_told (suc n) i =
      told_if (Caused ts) (λ j. Imports ts i j) (begins_import (seen false ts i)) (import_at ts i >>= λ j. imports ts n j) (Ok i)
      (λ b. told_then (Caused ts) (λ j. (m : ℕ) → Imports ts j m → Imports ts i m) (λ j. Imports ts i j) (import_at ts i) (λ j. imports ts n j) (import_told i b)
      (λ j on. told_to (Caused ts) (λ m. Imports ts j m) (λ m. Imports ts i m) (imports ts n j) (λ m rest. on m rest) (imports_told n j)))
      (λ e. g.no_import)

  -- ---- modifiers

  abbrev OneModifier : ℕ → Modifier × ℕ → Type 0
  OneModifier i r = ModifierAt ts i r.0 r.1

  abbrev pub AllModifiers : ℕ → List Modifier × ℕ → Type 0
  AllModifiers i r = Many (ModifierAt ts) i r.0 r.1

  mark_right : (i : ℕ) → Right (OneModifier i) (mark ts i)
  unfolding mark
  mark_right i = go (sees false ts i k.At) (sees false ts (i + 1) k.Name) refl refl
    where
      go : (a b : Bool) → sees false ts i k.At ≡ a → sees false ts (i + 1) k.Name ≡ b → Right (OneModifier i) (cond a (cond b (Some (modifier_at ts i modifier.Mark, i + 2)) None) None)
      go true true e f = g.mark (seen_is false ts i k.At e) (seen_is false ts (i + 1) k.Name f)
      go true false e f = tt
      go false b e f = tt

  modifier_right : (i : ℕ) → Right (OneModifier i) (one_modifier ts i)
  unfolding one_modifier
  modifier_right i = go (modifier_of (jml_at ts i) (kind_at ts i)) refl
    where
      go : (o : Option ModifierKind) → modifier_of (jml_at ts i) (kind_at ts i) ≡ o → Right (OneModifier i) (one_or o (mark ts i) (λ kind. Some (modifier_at ts i kind, i + 1)))
      go (Some kind) e = g.word e
      go None e = mark_right i

  abbrev Behind : List Modifier → ℕ → List Modifier × ℕ → Type 0
  Behind found i r = (ms : List Modifier) × (r.0 ≡ found ++ ms) × Many (ModifierAt ts) i ms r.1

  modifiers_behind : (n : ℕ) (found : List Modifier) (i : ℕ) → Told ts (Behind found i) (modifiers ts n found i)
  unfolding modifiers
  modifiers_behind zero found i = ([], sym (append-nil found), g.none)
  modifiers_behind (suc n) found i =
      told_option (Caused ts) (Behind found i) (one_modifier ts i) (Ok (found, i)) (λ m. modifiers ts n (found ++ m.0 ∷ []) m.1)
      (λ e. ([], sym (append-nil found), g.none))
      (λ m e. told_to (Caused ts) (Behind (found ++ m.0 ∷ []) m.1) (Behind found i) (modifiers ts n (found ++ m.0 ∷ []) m.1) (λ r b. (m.0 ∷ b.0, b.1 ∙ append_assoc found (m.0 ∷ []) b.0, g.one_more (right_is (OneModifier i) (one_modifier ts i) m (modifier_right i) e) b.2))
      (modifiers_behind n (found ++ m.0 ∷ []) m.1))

  pub modifiers_told : (i : ℕ) → Told ts (AllModifiers i) (modifiers ts (length ts) [] i)
  modifiers_told i = told_to (Caused ts) (Behind [] i) (AllModifiers i) (modifiers ts (length ts) [] i) (λ r b. subst (λ ms. Many (ModifierAt ts) i ms r.1) (sym b.1) b.2)
      (modifiers_behind (length ts) [] i)

  abbrev pub OneType : ℕ → TypeName × ℕ → Type 0
  OneType i r = TypeOf ts i r.0 r.1

  -- ---- what a method throws

  names_told : (n i : ℕ) → Told ts (λ j. (xs : List Name) × Listed false ts (NameAt ts) i xs j) (names ts n i)
  unfolding names
  names_told zero i = caused_at ts i
  names_told (suc n) i =
      told_then (Caused ts) (λ u. seen false ts i ≡ k.Name) (λ j. (xs : List Name) × Listed false ts (NameAt ts) i xs j) (expect false ts i k.Name) (λ u. cond (sees false ts (i + 1) k.Comma) (names ts n (i + 1 + 1)) (Ok (i + 1))) (told_expect ts i k.Name) (λ u name.
      told_if (Caused ts) (λ j. (xs : List Name) × Listed false ts (NameAt ts) i xs j) (sees false ts (i + 1) k.Comma) (names ts n (i + 1 + 1)) (Ok (i + 1))
      (λ comma. told_to (Caused ts) (λ j. (xs : List Name) × Listed false ts (NameAt ts) (i + 1 + 1) xs j) (λ j. (xs : List Name) × Listed false ts (NameAt ts) i xs j) (names ts n (i + 1 + 1)) (λ j rest. (name_at ts i ∷ rest.0, more (g.name name) (seen_is false ts (i + 1) k.Comma comma) rest.1))
      (names_told n (i + 1 + 1)))
      (λ comma. (name_at ts i ∷ [], last (g.name name))))

  pub throws_told : (i : ℕ) → Told ts (λ j. Throws ts i j) (throws ts i)
  unfolding throws
  throws_told i =
      told_if (Caused ts) (λ j. Throws ts i j) (sees false ts i k.Throws) (names ts (length ts) (i + 1)) (Ok i)
      (λ e. told_to (Caused ts) (λ j. (xs : List Name) × Listed false ts (NameAt ts) (i + 1) xs j) (λ j. Throws ts i j) (names ts (length ts) (i + 1)) (λ j xs. g.throws (seen_is false ts i k.Throws e) xs.1) (names_told (length ts) (i + 1)))
      (λ e. g.nothing)

  -- ---- what is spelled is read

  dotted_on : {i j : ℕ} → Dotted ts i j → i ≤ j
  dotted_on g.no_part = omega arith
  dotted_on (g.part h p d) = omega (arith, dotted_on d)

  other : (i : ℕ) (a b : Kind) → seen false ts i ≡ a → same_kind a b ≡ false → sees false ts i b ≡ false
  other i a b e f = sees_other false ts i a b e f

  dotted_read : (n : ℕ) {i j : ℕ} → length ts ≤ i + n → Dotted ts i j → sees false ts j k.Dot ≡ false → dotted ts n i ≡ Ok j
  unfolding dotted same_kind
  dotted_read zero fuel g.no_part stop = refl
  dotted_read (suc n) fuel g.no_part stop = rw stop
  dotted_read zero fuel (g.part {i = i} h p d) stop = absurd (omega (arith, taken false ts i k.Dot h refl))
  dotted_read (suc n) fuel (g.part {i = i} h p d) stop = rw (sees_it false ts i k.Dot h, p) (dotted_read n (omega arith) d stop)

  import_read : (i j : ℕ) → seen false ts (i + 1) ≡ k.Name → Dotted ts (i + 2) j → seen false ts j ≡ k.Semicolon → import_at ts i ≡ Ok (j + 1)
  unfolding import_at same_kind
  import_read i j name d end = rw (expected false ts (i + 1) k.Name name, dotted_read (length ts) (omega arith) d (other j k.Semicolon k.Dot end refl), expected false ts j k.Semicolon end)

  pub imports_on : {i j : ℕ} → Imports ts i j → i ≤ j
  imports_on g.no_import = omega arith
  imports_on (g.import b name d end rest) = omega (arith, dotted_on d, imports_on rest)

  begins_not : (a : Kind) → begins_import a ≡ true → same_kind a k.End ≡ false
  unfolding same_kind
  begins_not k.Package e = refl
  begins_not k.Import e = refl
  begins_not _ e = absurd cc

  pub imports_within : {i j : ℕ} → Imports ts i j → i ≤ length ts → j ≤ length ts
  unfolding same_kind
  imports_within g.no_import within = within
  imports_within (g.import {j = j} b name d end rest) within = imports_within rest (omega (arith, taken false ts j k.Semicolon end refl))

  pub imports_read : (n : ℕ) {i j : ℕ} → length ts ≤ i + n → Imports ts i j → begins_import (seen false ts j) ≡ false → imports ts n i ≡ Ok j
  unfolding imports
  imports_read zero fuel g.no_import stop = refl
  imports_read (suc n) fuel g.no_import stop = rw stop
  imports_read zero fuel (g.import {i = i} b name d end rest) stop = absurd (omega (arith, taken false ts i (seen false ts i) refl (begins_not (seen false ts i) b)))
  imports_read (suc n) fuel (g.import {i = i} {j = j} b name d end rest) stop = rw (b, import_read i j name d end) (imports_read n (omega (arith, dotted_on d)) rest stop)

  mark_read : (i : ℕ) → seen false ts i ≡ k.At → seen false ts (i + 1) ≡ k.Name → mark ts i ≡ Some (modifier_at ts i modifier.Mark, i + 2)
  unfolding mark
  mark_read i at name = rw (sees_it false ts i k.At at, sees_it false ts (i + 1) k.Name name)

  no_word : (i : ℕ) (a : Kind) → seen false ts i ≡ a → same_kind a k.End ≡ false → modifier_of false a ≡ None → modifier_of (jml_at ts i) (kind_at ts i) ≡ None
  no_word i a e end none = let is = kind_seen false ts i a e end in ap (λ b. modifier_of b (kind_at ts i)) is.0 ∙ ap (λ x. modifier_of false x) is.1 ∙ none

  pub modifier_read : {i j : ℕ} {m : Modifier} → ModifierAt ts i m j → one_modifier ts i ≡ Some (m, j)
  unfolding one_modifier same_kind
  modifier_read (g.word {i = i} e) = rw e
  modifier_read (g.mark {i = i} at name) = rw (no_word i k.At at refl refl) (mark_read i at name)

  some_not : {A : Type 0} (o : Option A) (x : A) → o ≡ Some x → None ≡ o → ⊥
  some_not o x e f = cc

  pub modifier_on : {i j : ℕ} {m : Modifier} → ModifierAt ts i m j → (i < j) × (i < length ts)
  unfolding same_kind
  modifier_on (g.word {i = i} {kind = kind} e) = (omega arith, below (length ts) i (λ past. some_not (modifier_of (jml_at ts i) (kind_at ts i)) kind e (no_word_behind ts i past)))
  modifier_on (g.mark {i = i} at name) = (omega arith, taken false ts i k.At at refl)

  pub modifiers_on : {i j : ℕ} {ms : List Modifier} → Many (ModifierAt ts) i ms j → i ≤ j
  modifiers_on g.none = omega arith
  modifiers_on (g.one_more m ms) = omega (arith, (modifier_on m).0, modifiers_on ms)

  no_mark : (i : ℕ) → sees false ts i k.At ≡ false → mark ts i ≡ None
  unfolding mark
  no_mark i e = rw e

  pub no_modifier : (i : ℕ) → declares (seen false ts i) ≡ true → one_modifier ts i ≡ None
  unfolding one_modifier
  no_modifier i d = let p = plain (seen false ts i) d in rw (no_word i (seen false ts i) refl p.2 p.0) (no_mark i (sees_other false ts i (seen false ts i) k.At refl p.1))

  pub opposite : (i : ℕ) (a : Kind) → seen true ts i ≡ a → same_kind a k.End ≡ false → seen false ts i ≡ k.End
  unfolding seen
  opposite i a e end = ap (λ b. seen_as false b (kind_at ts i)) (kind_seen true ts i a e end).0

  -- no modifier begins at a token of such a kind
  pub no_modifier_of : (i : ℕ) (a : Kind) → seen false ts i ≡ a → modifier_of false a ≡ None → same_kind a k.At ≡ false → same_kind a k.End ≡ false → one_modifier ts i ≡ None
  unfolding one_modifier
  no_modifier_of i a e none at end = rw (no_word i a e end none) (no_mark i (sees_other false ts i a k.At e at))

  -- nor at one of an annotation
  pub no_modifier_in : (i : ℕ) (a : Kind) → seen true ts i ≡ a → modifier_of true a ≡ None → same_kind a k.End ≡ false → one_modifier ts i ≡ None
  unfolding one_modifier same_kind
  no_modifier_in i a e none end =
      let is = kind_seen true ts i a e end in
      let word : modifier_of (jml_at ts i) (kind_at ts i) ≡ None = ap (λ b. modifier_of b (kind_at ts i)) is.0 ∙ ap (λ x. modifier_of true x) is.1 ∙ none in
      rw word (no_mark i (sees_other false ts i k.End k.At (opposite i a e end) refl))

  -- what begins with modifiers begins with one, or with what stands behind them
  pub begins : {i j : ℕ} {ms : List Modifier} → Many (ModifierAt ts) i ms j → declares (seen false ts j) ≡ true → one_modifier ts i ≡ None → declares (seen false ts i) ≡ true
  begins g.none d none = d
  begins (g.one_more m ms) d none = let both = sym none ∙ modifier_read m in absurd cc

  modifiers_all : (n : ℕ) (found : List Modifier) {i j : ℕ} {ms : List Modifier} → length ts ≤ i + n → Many (ModifierAt ts) i ms j → one_modifier ts j ≡ None → modifiers ts n found i ≡ Ok (found ++ ms, j)
  unfolding modifiers
  modifiers_all zero found {i = i} fuel g.none stop = ap (λ (ms : List Modifier). Ok (ms, i)) (sym (append-nil found))
  modifiers_all (suc n) found {i = i} fuel g.none stop = rw stop (ap (λ (ms : List Modifier). Ok (ms, i)) (sym (append-nil found)))
  modifiers_all zero found fuel (g.one_more m ms) stop = absurd (omega (arith, (modifier_on m).1))
  modifiers_all (suc n) found {j = j} fuel (g.one_more {x = x} {xs = xs} m ms) stop = rw (modifier_read m) (modifiers_all n (found ++ x ∷ []) (omega (arith, (modifier_on m).0)) ms stop ∙ ap (λ (ms : List Modifier). Ok (ms, j)) (append_assoc found (x ∷ []) xs))

  pub modifiers_read : {i j : ℕ} {ms : List Modifier} → Many (ModifierAt ts) i ms j → declares (seen false ts j) ≡ true → modifiers ts (length ts) [] i ≡ Ok (ms, j)
  modifiers_read {j = j} ms d = modifiers_all (length ts) [] (omega arith) ms (no_modifier j d)

  pub type_begins : {i j : ℕ} {t : TypeName} → TypeOf ts i t j → declares (seen false ts i) ≡ true
  type_begins {i = i} typed = type_declares (seen false ts i) (types.type_begins ts typed)

  names_read : (n : ℕ) {i j : ℕ} {xs : List Name} → length ts ≤ i + n → Listed false ts (NameAt ts) i xs j → sees false ts j k.Comma ≡ false → names ts n i ≡ Ok j
  unfolding names same_kind
  names_read zero fuel (last (g.name {i = i} h)) stop = absurd (omega (arith, taken false ts i k.Name h refl))
  names_read zero fuel (more (g.name {i = i} h) comma rest) stop = absurd (omega (arith, taken false ts i k.Name h refl))
  names_read (suc n) fuel (last (g.name {i = i} h)) stop = rw (expected false ts i k.Name h, stop)
  names_read (suc n) fuel (more (g.name {i = i} h) comma rest) stop = rw (expected false ts i k.Name h, sees_it false ts (i + 1) k.Comma comma) (names_read n (omega arith) rest stop)

  pub throws_read : {i j : ℕ} → Throws ts i j → seen false ts j ≡ k.OpenBrace → throws ts i ≡ Ok j
  unfolding throws same_kind
  throws_read {j = j} g.nothing brace = rw (other j k.OpenBrace k.Throws brace refl)
  throws_read {i = i} {j = j} (g.throws h xs) brace = rw (sees_it false ts i k.Throws h) (names_read (length ts) (omega arith) xs (other j k.OpenBrace k.Comma brace refl))

  names_on : {i j : ℕ} {xs : List Name} → Listed false ts (NameAt ts) i xs j → i ≤ j
  names_on (last (g.name h)) = omega arith
  names_on (more (g.name h) comma rest) = omega (arith, names_on rest)

  pub throws_on : {i j : ℕ} → Throws ts i j → i ≤ j
  throws_on g.nothing = omega arith
  throws_on (g.throws h xs) = omega (arith, names_on xs)
