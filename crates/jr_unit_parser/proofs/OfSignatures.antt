-- What stands before a block or the members of a class: what is read is spelled, and what is spelled is read.
use Rattle.std.proofs.Common.{◌≡◌, ℕ, ◌+◌, ◌<◌, ◌≤◌, Bool, true, false, cond, List, [], length, Some, None, Ok, refl, sym, ap, ◌∙◌, codes, arith}
use Rattle.jr_lexer.specs.declared.kind.Kind.{Kind}
use Rattle.jr_lexer.specs.declared.kind.Kind.TheVariants as k
use Rattle.jr_lexer.specs.Token.{Token}
use Rattle.jr_lexer.specs.Reading.{text_at}
use Rattle.jr_ast.specs.declared.name.Name.{Name}
use Rattle.jr_ast.specs.declared.name.ElementType.{ElementType}
use Rattle.jr_ast.specs.declared.name.TypeName.{TypeName}
use Rattle.jr_ast.specs.declared.unit.Modifier.{Modifier}
use Rattle.jr_ast.specs.declared.unit.Field.{Field}
use Rattle.jr_ast.specs.declared.unit.Formal.{Formal}
use Rattle.jr_ast.specs.declared.unit.MethodKind.{MethodKind}
use Rattle.jr_ast.specs.declared.unit.MethodKind.TheVariants as kind
use Rattle.jr_reading.specs.Seen.{seen, name_at}
use Rattle.jr_reading.specs.Types.{element_of}
use Rattle.jr_reading.specs.Types.{TypeOf, single, array}
use Rattle.jr_unit_parser.specs.declared.head.Signature.{Signature}
use Rattle.jr_unit_parser.specs.declared.head.ClassHead.{ClassHead}
use Rattle.jr_unit_parser.specs.declared.head.Declared.TheVariants as declared
use Rattle.jr_unit_parser.specs.Grammar as g
use Rattle.jr_reading.specs.Listed.{Listed, last, more}
use Rattle.jr_unit_parser.specs.Grammar.{Many, ModifierAt, DeclaratorAt, FieldAt, FormalAt, Formals, Throws, ResultAt, SignatureAt, Above, ClassHeadAt}
use Rattle.jr_reading.specs.Outcomes.{◌>>=◌}
use Rattle.jr_reading.specs.Steps.{same_kind, sees, expect, expect_text, type_name, listed}
use Rattle.jr_unit_parser.specs.Steps.{one_modifier, modifiers, formal, formals, throws, signature, is_constructor, method_kind, field_by, declared_at, above, class_head}
use Rattle.jr_reading.proofs.Tokens.{text_is, differ, sees_it, seen_is, sees_other, expected, taken}
use Rattle.jr_reading.proofs.Lists.{listed_told, listed_read, listed_on}
use Rattle.jr_reading.proofs.TypeNames.{type_told, type_read, type_on}
use Rattle.jr_reading.proofs.Told.{told_then, told_if, told_text}
use Rattle.jr_unit_parser.specs.Finds.{Caused}
use Rattle.jr_unit_parser.proofs.Told.{Told, caused_at, told_expect}
use Rattle.jr_unit_parser.proofs.OfParts.{declares, AllModifiers, OneType, modifiers_told, modifiers_read, modifiers_on, type_begins, no_modifier_of, begins, throws_told, throws_read, throws_on}
use Rattle.jr_unit_parser.proofs.OfFields.{OneDeclared, field_told, field_read, behind_name, declarators_on}

no_void : (a : Kind) (x : Name) (t : ElementType) → element_of a x ≡ Some t → same_kind a k.Void ≡ false
unfolding same_kind
no_void k.Int x t e = refl
no_void k.Long x t e = refl
no_void k.Boolean x t e = refl
no_void k.Name x t e = refl
no_void _ x t e = absurd cc

cond_false : (b : Bool) → cond b false false ≡ false
cond_false true = refl
cond_false false = refl

module _ (ts : List Token) where
  no_bracket : (j : ℕ) → seen false ts j ≡ k.Name → seen false ts j ≡ k.OpenBracket → ⊥
  unfolding same_kind
  no_bracket j name = differ (seen false ts j) k.Name k.OpenBracket name refl

  -- ---- formals

  abbrev OneFormal : ℕ → Formal × ℕ → Type 0
  OneFormal i r = FormalAt ts i r.0 r.1

  abbrev parameter : List Modifier → TypeName → ℕ → Formal
  parameter ms t j = record { modifiers = ms; type_name = t; name = name_at ts j }

  formal_told : (i : ℕ) → Told ts (OneFormal i) (formal ts i)
  unfolding formal
  formal_told i =
      told_then (Caused ts) (AllModifiers ts i) (OneFormal i) (modifiers ts (length ts) [] i) (λ ms. type_name false ts ms.1 >>= λ t. expect false ts t.1 k.Name >>= λ u. Ok (parameter ms.0 t.0 t.1, t.1 + 1)) (modifiers_told ts i) (λ ms modified.
      told_then (Caused ts) (OneType ts ms.1) (OneFormal i) (type_name false ts ms.1) (λ t. expect false ts t.1 k.Name >>= λ u. Ok (parameter ms.0 t.0 t.1, t.1 + 1)) (type_told ts (Caused ts) ms.1 (caused_at ts ms.1)) (λ t typed.
      told_then (Caused ts) (λ u. seen false ts t.1 ≡ k.Name) (OneFormal i) (expect false ts t.1 k.Name) (λ u. Ok (parameter ms.0 t.0 t.1, t.1 + 1)) (told_expect ts t.1 k.Name) (λ u name.
      g.formal modified typed name)))

  formal_on : (i j : ℕ) (f : Formal) → FormalAt ts i f j → (i < j) × (i < length ts)
  unfolding same_kind
  formal_on i j f (g.formal {j = m} modified typed name) = (omega (arith, modifiers_on ts modified, type_on ts typed), omega (arith, modifiers_on ts modified, type_on ts typed, taken false ts m k.Name name refl))

  formal_read : (i j : ℕ) (f : Formal) → FormalAt ts i f j → Unit {0} → formal ts i ≡ Ok (f, j)
  unfolding formal
  formal_read i j f (g.formal {j = m} modified typed name) u = rw (modifiers_read ts modified (type_begins ts typed), type_read ts typed (no_bracket m name), expected false ts m k.Name name)

  abbrev AllFormals : ℕ → List Formal × ℕ → Type 0
  AllFormals i r = Formals ts i r.0 r.1

  abbrev SomeFormals : ℕ → List Formal × ℕ → Type 0
  SomeFormals i r = Listed false ts (FormalAt ts) i r.0 r.1

  formals_told : (i : ℕ) → Told ts (AllFormals i) (formals ts i)
  unfolding formals
  formals_told i =
      told_if (Caused ts) (AllFormals i) (sees false ts i k.CloseParen) (Ok ([], i + 1)) (listed false ts (formal ts) (length ts) [] i >>= λ fs. expect false ts fs.1 k.CloseParen >>= λ u. Ok (fs.0, fs.1 + 1))
      (λ e. g.none (seen_is false ts i k.CloseParen e))
      (λ e.
      told_then (Caused ts) (SomeFormals i) (AllFormals i) (listed false ts (formal ts) (length ts) [] i) (λ fs. expect false ts fs.1 k.CloseParen >>= λ u. Ok (fs.0, fs.1 + 1)) (listed_told false ts (FormalAt ts) (formal ts) (Caused ts) (caused_at ts) formal_told i) (λ fs all.
      told_then (Caused ts) (λ u. seen false ts fs.1 ≡ k.CloseParen) (AllFormals i) (expect false ts fs.1 k.CloseParen) (λ u. Ok (fs.0, fs.1 + 1)) (told_expect ts fs.1 k.CloseParen) (λ u close.
      g.some all close)))

  some_read : (i j : ℕ) (fs : List Formal) → Listed false ts (FormalAt ts) i fs j → seen false ts j ≡ k.CloseParen → listed false ts (formal ts) (length ts) [] i ≡ Ok (fs, j)
  unfolding same_kind
  some_read i j fs l close = listed_read false ts (FormalAt ts) (formal ts) (λ j. Unit {0}) (λ j e. tt) formal_on formal_read i j fs l tt (sees_other false ts j k.CloseParen k.Comma close refl)

  some_on : (i j : ℕ) (fs : List Formal) → Listed false ts (FormalAt ts) i fs j → i < j
  some_on i j fs l = listed_on false ts (FormalAt ts) (λ i j f one. (formal_on i j f one).0) l

  first : {i j : ℕ} {fs : List Formal} → Listed false ts (FormalAt ts) i fs j → one_modifier ts i ≡ None → declares (seen false ts i) ≡ true
  first (last (g.formal modified typed name)) none = begins ts modified (type_begins ts typed) none
  first (more (g.formal modified typed name) comma rest) none = begins ts modified (type_begins ts typed) none

  no_close : (i j : ℕ) (fs : List Formal) → Listed false ts (FormalAt ts) i fs j → sees false ts i k.CloseParen ≡ false
  unfolding same_kind
  no_close i j fs l = go (sees false ts i k.CloseParen) refl
    where
      go : (b : Bool) → sees false ts i k.CloseParen ≡ b → b ≡ false
      go false e = refl
      go true e =
          let close = seen_is false ts i k.CloseParen e in
          let d : declares (seen false ts i) ≡ true = first l (no_modifier_of ts i k.CloseParen close refl refl refl) in
          let both : false ≡ true = sym (ap declares close) ∙ d in absurd cc

  formals_read : (i j : ℕ) (fs : List Formal) → Formals ts i fs j → formals ts i ≡ Ok (fs, j)
  unfolding formals same_kind
  formals_read i j fs (g.none close) = rw (sees_it false ts i k.CloseParen close)
  formals_read i m fs (g.some {j = j} l close) = rw (no_close i j fs l, some_read i j fs l close, expected false ts j k.CloseParen close)

  formals_on : (i j : ℕ) (fs : List Formal) → Formals ts i fs j → i < j
  formals_on i j fs (g.none close) = omega arith
  formals_on i m fs (g.some {j = j} l close) = omega (arith, some_on i j fs l)

  -- ---- methods and constructors

  abbrev OneKind : ℕ → MethodKind × ℕ → Type 0
  OneKind i r = ResultAt ts i r.0 r.1

  method_kind_told : (i : ℕ) → Told ts (OneKind i) (method_kind ts i)
  unfolding method_kind
  method_kind_told i =
      told_if (Caused ts) (OneKind i) (sees false ts i k.Void) (Ok (kind.Void, i + 1)) (cond (is_constructor ts i) (Ok (kind.Constructor, i)) (type_name false ts i >>= λ t. Ok (kind.Valued t.0, t.1)))
      (λ e. g.without_result (seen_is false ts i k.Void e))
      (λ e. told_if (Caused ts) (OneKind i) (is_constructor ts i) (Ok (kind.Constructor, i)) (type_name false ts i >>= λ t. Ok (kind.Valued t.0, t.1))
      (λ c. g.constructor)
      (λ c. told_then (Caused ts) (OneType ts i) (OneKind i) (type_name false ts i) (λ t. Ok (kind.Valued t.0, t.1)) (type_told ts (Caused ts) i (caused_at ts i)) (λ t typed. g.with_result typed)))

  type_no_void : {i j : ℕ} {t : TypeName} → TypeOf ts i t j → sees false ts i k.Void ≡ false
  type_no_void (single {i = i} {t = t} e) = sees_other false ts i (seen false ts i) k.Void refl (no_void (seen false ts i) (name_at ts i) t e)
  type_no_void (array {i = i} {t = t} e o c) = sees_other false ts i (seen false ts i) k.Void refl (no_void (seen false ts i) (name_at ts i) t e)

  type_no_call : {i j : ℕ} {t : TypeName} → TypeOf ts i t j → seen false ts j ≡ k.Name → is_constructor ts i ≡ false
  unfolding is_constructor same_kind
  type_no_call (single {i = i} e) name = rw (sees_other false ts (i + 1) k.Name k.OpenParen name refl) (cond_false (sees false ts i k.Name))
  type_no_call (array {i = i} e o c) name = rw (sees_other false ts (i + 1) k.OpenBracket k.OpenParen o refl) (cond_false (sees false ts i k.Name))

  type_kind_read : (i j : ℕ) (t : TypeName) → TypeOf ts i t j → seen false ts j ≡ k.Name → method_kind ts i ≡ Ok (kind.Valued t, j)
  unfolding method_kind
  type_kind_read i j t typed name = rw (type_no_void typed, type_no_call typed name, type_read ts typed (no_bracket j name))

  constructor_read : (i : ℕ) → seen false ts i ≡ k.Name → seen false ts (i + 1) ≡ k.OpenParen → is_constructor ts i ≡ true
  unfolding is_constructor
  constructor_read i name call = rw (sees_it false ts i k.Name name, sees_it false ts (i + 1) k.OpenParen call)

  method_kind_read : (i j : ℕ) (how : MethodKind) → ResultAt ts i how j → seen false ts j ≡ k.Name → seen false ts (j + 1) ≡ k.OpenParen → method_kind ts i ≡ Ok (how, j)
  unfolding method_kind same_kind
  method_kind_read i j how g.constructor name call = rw (sees_other false ts i k.Name k.Void name refl, constructor_read i name call)
  method_kind_read i j how (g.without_result void) name call = rw (sees_it false ts i k.Void void)
  method_kind_read i j how (g.with_result {t = t} typed) name call = type_kind_read i j t typed name

  kind_begins : {i j : ℕ} {how : MethodKind} → ResultAt ts i how j → seen false ts j ≡ k.Name → declares (seen false ts i) ≡ true
  kind_begins g.constructor name = ap declares name
  kind_begins (g.without_result void) name = ap declares void
  kind_begins (g.with_result typed) name = type_begins ts typed

  kind_on : {i j : ℕ} {how : MethodKind} → ResultAt ts i how j → i ≤ j
  kind_on g.constructor = omega arith
  kind_on (g.without_result void) = omega arith
  kind_on (g.with_result typed) = omega (arith, type_on ts typed)

  abbrev stated : List Modifier → MethodKind → ℕ → List Formal → Signature
  stated ms how j fs = record { modifiers = ms; kind = how; name = name_at ts j; formals = fs }

  signature_told : (i a j : ℕ) (ms : List Modifier) (how : MethodKind) → Many (ModifierAt ts) i ms a → ResultAt ts a how j → seen false ts j ≡ k.Name → seen false ts (j + 1) ≡ k.OpenParen → Told ts (OneDeclared ts i) (signature ts ms how j)
  unfolding signature
  signature_told i a j ms how modified gives name call =
      told_then (Caused ts) (AllFormals (j + 2)) (OneDeclared ts i) (formals ts (j + 2)) (λ fs. throws ts fs.1 >>= λ m. Ok (declared.Routine (stated ms how j fs.0), m)) (formals_told (j + 2)) (λ fs all.
      told_then (Caused ts) (λ m. Throws ts fs.1 m) (OneDeclared ts i) (throws ts fs.1) (λ m. Ok (declared.Routine (stated ms how j fs.0), m)) (throws_told ts fs.1) (λ m thrown.
      g.signature modified gives name call all thrown))

  field_by_told : (i a j : ℕ) (ms : List Modifier) (how : MethodKind) → Many (ModifierAt ts) i ms a → ResultAt ts a how j → Told ts (OneDeclared ts i) (field_by ts how i ms j)
  field_by_told i a j ms kind.Constructor modified gives = caused_at ts (j + 1)
  field_by_told i a j ms kind.Void modified gives = caused_at ts (j + 1)
  field_by_told i a j ms (kind.Valued t) modified (g.with_result typed) = field_told ts i a j ms t modified typed

  pub declared_told : (i : ℕ) → Told ts (OneDeclared ts i) (declared_at ts i)
  unfolding declared_at
  declared_told i =
      told_then (Caused ts) (AllModifiers ts i) (OneDeclared ts i) (modifiers ts (length ts) [] i) (λ ms. method_kind ts ms.1 >>= λ how. expect false ts how.1 k.Name >>= λ u. cond (sees false ts (how.1 + 1) k.OpenParen) (signature ts ms.0 how.0 how.1) (field_by ts how.0 i ms.0 how.1)) (modifiers_told ts i) (λ ms modified.
      told_then (Caused ts) (OneKind ms.1) (OneDeclared ts i) (method_kind ts ms.1) (λ how. expect false ts how.1 k.Name >>= λ u. cond (sees false ts (how.1 + 1) k.OpenParen) (signature ts ms.0 how.0 how.1) (field_by ts how.0 i ms.0 how.1)) (method_kind_told ms.1) (λ how gives.
      told_then (Caused ts) (λ u. seen false ts how.1 ≡ k.Name) (OneDeclared ts i) (expect false ts how.1 k.Name) (λ u. cond (sees false ts (how.1 + 1) k.OpenParen) (signature ts ms.0 how.0 how.1) (field_by ts how.0 i ms.0 how.1)) (told_expect ts how.1 k.Name) (λ u name.
      told_if (Caused ts) (OneDeclared ts i) (sees false ts (how.1 + 1) k.OpenParen) (signature ts ms.0 how.0 how.1) (field_by ts how.0 i ms.0 how.1)
      (λ call. signature_told i ms.1 how.1 ms.0 how.0 modified gives name (seen_is false ts (how.1 + 1) k.OpenParen call))
      (λ call. field_by_told i ms.1 how.1 ms.0 how.0 modified gives))))

  pub signature_read : {i j : ℕ} {s : Signature} → SignatureAt ts i s j → seen false ts j ≡ k.OpenBrace → declared_at ts i ≡ Ok (declared.Routine s, j)
  unfolding declared_at signature
  signature_read (g.signature {a = a} {b = b} {c = c} {how = how} {fs = fs} modified gives name call all thrown) brace =
      rw (modifiers_read ts modified (kind_begins gives name), method_kind_read a b how gives name call, expected false ts b k.Name name, sees_it false ts (b + 1) k.OpenParen call, formals_read (b + 2) c fs all, throws_read ts thrown brace)

  pub declared_field_read : {i j : ℕ} {f : Field} → FieldAt ts i f j → declared_at ts i ≡ Ok (declared.Field f, j)
  unfolding declared_at
  declared_field_read (g.field {i = i} {a = a} {b = b} {j = j} {ms = ms} {t = t} {ds = ds} modified typed all end) =
      let behind = behind_name ts b j ds all end in
      rw (modifiers_read ts modified (type_begins ts typed), type_kind_read a b t typed behind.0, expected false ts b k.Name behind.0, behind.1) (field_read ts i b j ms t ds all end)

  pub signature_begins : {i j : ℕ} {s : Signature} → SignatureAt ts i s j → one_modifier ts i ≡ None → declares (seen false ts i) ≡ true
  signature_begins (g.signature modified gives name call all thrown) none = begins ts modified (kind_begins gives name) none

  pub field_begins : {i j : ℕ} {f : Field} → FieldAt ts i f j → one_modifier ts i ≡ None → declares (seen false ts i) ≡ true
  field_begins (g.field modified typed all end) none = begins ts modified (type_begins ts typed) none

  pub signature_on : {i j : ℕ} {s : Signature} → SignatureAt ts i s j → i < j
  signature_on (g.signature {b = b} {c = c} {fs = fs} modified gives name call all thrown) = omega (arith, modifiers_on ts modified, kind_on gives, formals_on (b + 2) c fs all, throws_on ts thrown)

  pub field_on : {i j : ℕ} {f : Field} → FieldAt ts i f j → (i < j) × (j ≤ length ts)
  unfolding same_kind
  field_on (g.field {b = b} {j = j} {ds = ds} modified typed all end) = (omega (arith, modifiers_on ts modified, type_on ts typed, declarators_on ts b j ds all), omega (arith, taken false ts j k.Semicolon end refl))

  -- ---- classes

  abbrev IsAbove : Kind → List ℕ → ℕ → Bool × ℕ → Type 0
  IsAbove word class i r = Above ts word class i r.0 r.1

  above_told : (word : Kind) (class : List ℕ) (i : ℕ) → Told ts (IsAbove word class i) (above ts word class i)
  unfolding above
  above_told word class i =
      told_if (Caused ts) (IsAbove word class i) (sees false ts i word) (expect false ts (i + 1) k.Name >>= λ u. expect_text ts (i + 1) class >>= λ u. Ok (true, i + 2)) (Ok (false, i))
      (λ e.
      told_then (Caused ts) (λ u. seen false ts (i + 1) ≡ k.Name) (IsAbove word class i) (expect false ts (i + 1) k.Name) (λ u. expect_text ts (i + 1) class >>= λ u. Ok (true, i + 2)) (told_expect ts (i + 1) k.Name) (λ u name.
      told_then (Caused ts) (λ u. text_at ts (i + 1) ≡ class) (IsAbove word class i) (expect_text ts (i + 1) class) (λ u. Ok (true, i + 2)) (told_text (Caused ts) ts (i + 1) class (caused_at ts (i + 1))) (λ u text.
      g.above (seen_is false ts i word e) name text)))
      (λ e. g.without)

  -- where none is there, the word isn't
  above_read : (word : Kind) (class : List ℕ) (i j : ℕ) (b : Bool) → Above ts word class i b j → (b ≡ false → sees false ts i word ≡ false) → above ts word class i ≡ Ok (b, j)
  unfolding above
  above_read word class i j b g.without stop = rw (stop refl)
  above_read word class i j b (g.above h name text) stop = rw (sees_it false ts i word h, expected false ts (i + 1) k.Name name, text_is ts (i + 1) class text)

  above_on : {word : Kind} {class : List ℕ} {i j : ℕ} {b : Bool} → Above ts word class i b j → i ≤ j
  above_on g.without = omega arith
  above_on (g.above h name text) = omega arith

  abbrev pub OneHead : ℕ → ClassHead × ℕ → Type 0
  OneHead i r = ClassHeadAt ts i r.0 r.1

  abbrev headed : List Modifier → ℕ → Bool → Bool → ClassHead
  headed ms j thread runnable = record { modifiers = ms; name = name_at ts j; extends_thread = thread; implements_runnable = runnable }

  pub class_head_told : (i : ℕ) → Told ts (OneHead i) (class_head ts i)
  unfolding class_head
  class_head_told i =
      told_then (Caused ts) (AllModifiers ts i) (OneHead i) (modifiers ts (length ts) [] i) (λ ms. expect false ts ms.1 k.Class >>= λ u. expect false ts (ms.1 + 1) k.Name >>= λ u. above ts k.Extends (codes "Thread") (ms.1 + 2) >>= λ thread. above ts k.Implements (codes "Runnable") thread.1 >>= λ runnable. expect false ts runnable.1 k.OpenBrace >>= λ u. Ok (headed ms.0 (ms.1 + 1) thread.0 runnable.0, runnable.1 + 1)) (modifiers_told ts i) (λ ms modified.
      told_then (Caused ts) (λ u. seen false ts ms.1 ≡ k.Class) (OneHead i) (expect false ts ms.1 k.Class) (λ u. expect false ts (ms.1 + 1) k.Name >>= λ u. above ts k.Extends (codes "Thread") (ms.1 + 2) >>= λ thread. above ts k.Implements (codes "Runnable") thread.1 >>= λ runnable. expect false ts runnable.1 k.OpenBrace >>= λ u. Ok (headed ms.0 (ms.1 + 1) thread.0 runnable.0, runnable.1 + 1)) (told_expect ts ms.1 k.Class) (λ u word.
      told_then (Caused ts) (λ u. seen false ts (ms.1 + 1) ≡ k.Name) (OneHead i) (expect false ts (ms.1 + 1) k.Name) (λ u. above ts k.Extends (codes "Thread") (ms.1 + 2) >>= λ thread. above ts k.Implements (codes "Runnable") thread.1 >>= λ runnable. expect false ts runnable.1 k.OpenBrace >>= λ u. Ok (headed ms.0 (ms.1 + 1) thread.0 runnable.0, runnable.1 + 1)) (told_expect ts (ms.1 + 1) k.Name) (λ u name.
      told_then (Caused ts) (IsAbove k.Extends (codes "Thread") (ms.1 + 2)) (OneHead i) (above ts k.Extends (codes "Thread") (ms.1 + 2)) (λ thread. above ts k.Implements (codes "Runnable") thread.1 >>= λ runnable. expect false ts runnable.1 k.OpenBrace >>= λ u. Ok (headed ms.0 (ms.1 + 1) thread.0 runnable.0, runnable.1 + 1)) (above_told k.Extends (codes "Thread") (ms.1 + 2)) (λ thread extends.
      told_then (Caused ts) (IsAbove k.Implements (codes "Runnable") thread.1) (OneHead i) (above ts k.Implements (codes "Runnable") thread.1) (λ runnable. expect false ts runnable.1 k.OpenBrace >>= λ u. Ok (headed ms.0 (ms.1 + 1) thread.0 runnable.0, runnable.1 + 1)) (above_told k.Implements (codes "Runnable") thread.1) (λ runnable implements.
      told_then (Caused ts) (λ u. seen false ts runnable.1 ≡ k.OpenBrace) (OneHead i) (expect false ts runnable.1 k.OpenBrace) (λ u. Ok (headed ms.0 (ms.1 + 1) thread.0 runnable.0, runnable.1 + 1)) (told_expect ts runnable.1 k.OpenBrace) (λ u brace.
      g.class_head modified word name extends implements brace))))))

  -- behind what a class extends
  no_extends : {b : ℕ} {j : ℕ} {runnable : Bool} → Above ts k.Implements (codes "Runnable") b runnable j → seen false ts j ≡ k.OpenBrace → sees false ts b k.Extends ≡ false
  unfolding same_kind
  no_extends {b = b} g.without brace = sees_other false ts b k.OpenBrace k.Extends brace refl
  no_extends {b = b} (g.above h name text) brace = sees_other false ts b k.Implements k.Extends h refl

  stays : {word : Kind} {class : List ℕ} {i j : ℕ} {b : Bool} → Above ts word class i b j → b ≡ false → sees false ts j word ≡ false → sees false ts i word ≡ false
  stays g.without e stop = stop
  stays (g.above h name text) e stop = absurd cc

  pub class_head_read : {i j : ℕ} {h : ClassHead} → ClassHeadAt ts i h j → class_head ts i ≡ Ok (h, j)
  unfolding class_head same_kind
  class_head_read (g.class_head {a = a} {b = b} {j = j} {thread = thread} {runnable = runnable} modified word name extends implements brace) =
      rw (
        modifiers_read ts modified (ap declares word),
        expected false ts a k.Class word,
        expected false ts (a + 1) k.Name name,
        above_read k.Extends (codes "Thread") (a + 2) b thread extends (λ e. stays extends e (no_extends implements brace)),
        above_read k.Implements (codes "Runnable") b j runnable implements (λ e. stays implements e (sees_other false ts j k.OpenBrace k.Implements brace refl)),
        expected false ts j k.OpenBrace brace,
      )

  pub class_head_begins : {i j : ℕ} {h : ClassHead} → ClassHeadAt ts i h j → one_modifier ts i ≡ None → declares (seen false ts i) ≡ true
  class_head_begins (g.class_head modified word name extends implements brace) none = begins ts modified (ap declares word) none

  pub class_head_on : {i j : ℕ} {h : ClassHead} → ClassHeadAt ts i h j → (i < j) × (j ≤ length ts)
  unfolding same_kind
  class_head_on (g.class_head {j = j} modified word name extends implements brace) = (omega (arith, modifiers_on ts modified, above_on extends, above_on implements), omega (arith, taken false ts j k.OpenBrace brace refl))
