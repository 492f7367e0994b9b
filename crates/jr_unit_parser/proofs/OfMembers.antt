-- Members: what stands where one begins, and at most one does.
use Rattle.std.proofs.Common.{◌≡◌, ℕ, ◌+◌, ◌<◌, ◌≤◌, Bool, true, false, not, List, [], length, None, Result, Ok, Err, refl, sym, ap, ◌∙◌, subst, inl, inr, arith}
use Rattle.std.specs.Prelude.{All}
use Rattle.jr_base.specs.declared.number.Span.{Span}
use Rattle.jr_base.specs.declared.refusal.Refusal.TheVariants as refusal
use Rattle.jr_base.specs.declared.refusal.Fail.{Fail}
use Rattle.jr_base.specs.declared.refusal.Fail.TheVariants.{Memory, Refused}
use Rattle.jr_lexer.specs.declared.kind.Kind.{Kind}
use Rattle.jr_lexer.specs.declared.kind.Kind.TheVariants as k
use Rattle.jr_lexer.specs.Token.{Token}
use Rattle.jr_ast.specs.declared.unit.Field.{Field}
use Rattle.jr_ast.specs.Clauses.{MethodClause, ClassClause}
use Rattle.jr_ast.specs.Statements.{Stmts}
use Rattle.jr_ast.specs.Units.{Method, Member, Empty, OfField, OfMethod, OfClause}
use Rattle.jr_reading.specs.Seen.{seen}
use Rattle.jr_reading.specs.Limits.{nesting_limit}
use Rattle.jr_reading.specs.LeftOut.{LeftOut}
use Rattle.jr_jml_parser.specs.Answers as jml
use Rattle.jr_jml_parser.specs.Grammar.{SpellsMethod, requires, ensures, when, locks, assignable, modifies, Modified, plain, visible, static, Declares, invariant, constraint, monitors_for, SpellsClass, modified, is_visibility}
use Rattle.jr_stmt_parser.specs.Grammar.{Block, braces}
use Rattle.jr_unit_parser.specs.declared.head.Signature.{Signature}
use Rattle.jr_unit_parser.specs.declared.head.Declared.{Declared}
use Rattle.jr_unit_parser.specs.declared.head.Declared.TheVariants as declared
use Rattle.jr_unit_parser.specs.Grammar as g
use Rattle.jr_unit_parser.specs.Grammar.{Many, FieldAt, SignatureAt, MethodAt, MemberAt, modifier_of}
use Rattle.jr_unit_parser.specs.Nesting.{ShallowClause, ShallowMember}
use Rattle.jr_stmt_parser.specs.Answers.{LeftOutFrom}
use Rattle.jr_unit_parser.specs.Begins.{OtherLabel}
use Rattle.jr_unit_parser.specs.Finds.{Fails, Finds, AllOf, method_of}
use Rattle.jr_unit_parser.specs.Plain.{IsPlain}
use Rattle.jr_reading.specs.Outcomes.{Outcome}
use Rattle.jr_reading.specs.Steps.{same_kind, sees}
use Rattle.jr_unit_parser.specs.Steps.{one_modifier, declared_at, begins_method_clause, begins_class_clause, clause_begins, member_begins}
use Rattle.jr_reading.proofs.Tokens.{sees_it, seen_is, sees_other, taken}
use Rattle.jr_unit_parser.proofs.OfParts.{declares, opposite, no_modifier_of, no_modifier_in}
use Rattle.jr_unit_parser.proofs.OfSignatures.{signature_read, declared_field_read, signature_begins, field_begins, signature_on, field_on}
use Rattle.jr_unit_parser.proofs.Rows.{Rows, one_row}
use Rattle.jr_unit_parser.proofs.Below.{one_method_clause, one_class_clause, one_block, method_clause_on, class_clause_on, block_on}

-- ---- what the readers of clauses answer

left_out_of : (ts : List Token) (i : ℕ) (s : Span) → LeftOut ts i s → LeftOutFrom ts (OtherLabel ts) 0 s
left_out_of ts i s l = record { at = l.at; behind = omega arith; span = l.span; word = inl l.word }

big_literal_of : (ts : List Token) (i : ℕ) (s : Span) → jml.BigInClause ts i s → jml.BigInClause ts 0 s
big_literal_of ts i s b = record { at = b.at; behind = omega arith; span = b.span; literal = b.literal; number = b.number; before = b.before }

module _ {A C : Type 0} (ts : List Token) (view : C → A) (One : ℕ → A → ℕ → Type 0) (nests : A → ℕ) where
  pub clause_fails : (i : ℕ) (e : Fail) → jml.Fails (One i) nests ts i 0 e → Fails ts One (λ a. nests a ≤ nesting_limit) i e
  clause_fails i Memory f = tt
  clause_fails i (Refused (refusal.Syntax s)) f = record { caused = tt; nothing = λ x j o c. f x j o }
  clause_fails i (Refused (refusal.NotInProfile s)) f = record { caused = left_out_of ts i s f.1; nothing = λ x j o c. f.0 x j o }
  clause_fails i (Refused (refusal.BigLiteral s)) f = record { caused = inr (big_literal_of ts i s f.1); nothing = λ x j o c. f.0 x j o }
  clause_fails i (Refused (refusal.TooDeep s)) f = record { caused = omega (arith, f.1); nothing = λ x j o c. f.0 x j o (omega (arith, c)) }
  clause_fails i (Refused _) f = absurd f

  pub clause_finds : (i : ℕ) (r : Result (C × ℕ) Fail) → jml.Answers view (One i) nests ts i 0 r → Finds ts view One (λ a. nests a ≤ nesting_limit) i r
  clause_finds i (Ok r) f = record { stands = f.stands; shallow = omega (arith, f.shallow) }
  clause_finds i (Err e) f = clause_fails i e f

-- ---- clauses of methods and constructors

module _ (ts : List Token) where
  clause_begun : (i j : ℕ) (c : MethodClause) → SpellsMethod ts i c j → clause_begins ts i ≡ true
  unfolding clause_begins
  clause_begun i j c (requires h d) = ap begins_method_clause h
  clause_begun i j c (ensures h d) = ap begins_method_clause h
  clause_begun i j c (when h d) = ap begins_method_clause h
  clause_begun i j c (locks h d) = ap begins_method_clause h
  clause_begun i j c (assignable h d) = ap begins_method_clause h
  clause_begun i j c (modifies h d) = ap begins_method_clause h

  pub clause_rows : Rows (SpellsMethod ts) (clause_begins ts)
  clause_rows = record { unique = one_method_clause ts; begun = clause_begun }

  -- what begins with modifiers, or with what stands behind them, begins with no clause
  abbrev Starts : ℕ → Type 0
  Starts i = one_modifier ts i ≡ None → declares (seen false ts i) ≡ true

  no_both : (b : Bool) → b ≡ true → b ≡ false → ⊥
  no_both b e f = let both = sym e ∙ f in absurd cc

  starts_no : (i : ℕ) (a : Kind) → Starts i → modifier_of false a ≡ None → same_kind a k.At ≡ false → same_kind a k.End ≡ false → declares a ≡ false → sees false ts i a ≡ false
  starts_no i a starts none at end not_declares = go (sees false ts i a) refl
    where
      go : (b : Bool) → sees false ts i a ≡ b → b ≡ false
      go false e = refl
      go true e =
          let is = seen_is false ts i a e in
          absurd (no_both (declares (seen false ts i)) (starts (no_modifier_of ts i a is none at end)) (ap declares is ∙ not_declares))

  annotated_not : (i : ℕ) (a : Kind) → Starts i → seen true ts i ≡ a → modifier_of true a ≡ None → same_kind a k.End ≡ false → ⊥
  annotated_not i a starts e none end = no_both (declares (seen false ts i)) (starts (no_modifier_in ts i a e none end)) (ap declares (opposite ts i a e end))

  no_clause_begins : (i : ℕ) → Starts i → clause_begins ts i ≡ false
  unfolding clause_begins same_kind
  no_clause_begins i starts = go (seen true ts i) refl
    where
      go : (a : Kind) → seen true ts i ≡ a → begins_method_clause a ≡ false
      go k.Requires e = absurd (annotated_not i k.Requires starts e refl refl)
      go k.Ensures e = absurd (annotated_not i k.Ensures starts e refl refl)
      go k.When e = absurd (annotated_not i k.When starts e refl refl)
      go k.Locks e = absurd (annotated_not i k.Locks starts e refl refl)
      go k.Assignable e = absurd (annotated_not i k.Assignable starts e refl refl)
      go k.Modifies e = absurd (annotated_not i k.Modifies starts e refl refl)
      go _ e = refl

  no_class_clause : (i : ℕ) → Starts i → begins_class_clause (seen true ts i) ≡ false
  unfolding same_kind
  no_class_clause i starts = go (seen true ts i) refl
    where
      go : (a : Kind) → seen true ts i ≡ a → begins_class_clause a ≡ false
      go k.Public e = absurd (annotated_not i k.Public starts e refl refl)
      go k.Private e = absurd (annotated_not i k.Private starts e refl refl)
      go k.Protected e = absurd (annotated_not i k.Protected starts e refl refl)
      go k.Static e = absurd (annotated_not i k.Static starts e refl refl)
      go k.Invariant e = absurd (annotated_not i k.Invariant starts e refl refl)
      go k.Constraint e = absurd (annotated_not i k.Constraint starts e refl refl)
      go k.MonitorsFor e = absurd (annotated_not i k.MonitorsFor starts e refl refl)
      go _ e = refl

  -- ---- where a class's clause begins

  of_visibility : (a : Kind) → is_visibility a ≡ true → begins_class_clause a ≡ true
  of_visibility k.Public e = refl
  of_visibility k.Private e = refl
  of_visibility k.Protected e = refl
  of_visibility _ e = absurd cc

  declares_begun : {s : Bool} {i j : ℕ} {c : ClassClause} → Declares ts s i c j → begins_class_clause (seen true ts i) ≡ true
  declares_begun (invariant h d) = ap begins_class_clause h
  declares_begun (constraint h d) = ap begins_class_clause h
  declares_begun (monitors_for n h x t d) = ap begins_class_clause h

  modified_begun : {s : Bool} {i m : ℕ} → Modified ts i s m → begins_class_clause (seen true ts m) ≡ true → begins_class_clause (seen true ts i) ≡ true
  modified_begun plain b = b
  modified_begun (visible {i = i} v d) b = of_visibility (seen true ts i) v
  modified_begun (static h d) b = ap begins_class_clause h

  pub class_clause_begun : {i j : ℕ} {c : ClassClause} → SpellsClass ts i c j → begins_class_clause (seen true ts i) ≡ true
  class_clause_begun (modified m d) = modified_begun m (declares_begun d)

  class_word : (a : Kind) → begins_class_clause a ≡ true → same_kind a k.End ≡ false
  unfolding same_kind
  class_word k.Public e = refl
  class_word k.Private e = refl
  class_word k.Protected e = refl
  class_word k.Static e = refl
  class_word k.Invariant e = refl
  class_word k.Constraint e = refl
  class_word k.MonitorsFor e = refl
  class_word _ e = absurd cc

  method_word : (a : Kind) → begins_method_clause a ≡ true → same_kind a k.End ≡ false
  unfolding same_kind
  method_word k.Requires e = refl
  method_word k.Ensures e = refl
  method_word k.When e = refl
  method_word k.Locks e = refl
  method_word k.Assignable e = refl
  method_word k.Modifies e = refl
  method_word _ e = absurd cc

  not_of_both : (a : Kind) → begins_method_clause a ≡ true → begins_class_clause a ≡ false
  not_of_both k.Requires e = refl
  not_of_both k.Ensures e = refl
  not_of_both k.When e = refl
  not_of_both k.Locks e = refl
  not_of_both k.Assignable e = refl
  not_of_both k.Modifies e = refl
  not_of_both _ e = absurd cc

  -- a token of an annotation is none of code
  annotated_no : (i : ℕ) (a : Kind) → same_kind (seen true ts i) k.End ≡ false → same_kind k.End a ≡ false → sees false ts i a ≡ false
  annotated_no i a end other = sees_other false ts i k.End a (opposite ts i (seen true ts i) refl end) other

  -- ---- fields and methods

  block_open : {i j : ℕ} {ss : Stmts} → Block ts i ss j → seen false ts i ≡ k.OpenBrace
  block_open (braces h d e) = h

  field_starts : {i j : ℕ} {f : Field} → FieldAt ts i f j → Starts i
  field_starts f = field_begins ts f

  -- what stands before a signature
  pub clauses_all : {i a j : ℕ} {cs : List MethodClause} {s : Signature} → Many (SpellsMethod ts) i cs a → SignatureAt ts a s j → AllOf (SpellsMethod ts) (clause_begins ts) i cs a
  clauses_all {a = a} many sig = record { many = many; ended = no_clause_begins a (signature_begins ts sig) }

  method_first : (a : Kind) (i : ℕ) {m j : ℕ} {cs : List MethodClause} {s : Signature} → Many (SpellsMethod ts) i cs m → SignatureAt ts m s j → modifier_of false a ≡ None → same_kind a k.At ≡ false → same_kind a k.End ≡ false → declares a ≡ false → same_kind k.End a ≡ false → sees false ts i a ≡ false
  unfolding clause_begins
  method_first a i g.none sig none at end not_declares other = starts_no i a (signature_begins ts sig) none at end not_declares
  method_first a i (g.one_more {j = n} {x = c} one rest) sig none at end not_declares other = annotated_no i a (method_word (seen true ts i) (clause_begun i n c one)) other

  method_no_class : (i : ℕ) {m j : ℕ} {cs : List MethodClause} {s : Signature} → Many (SpellsMethod ts) i cs m → SignatureAt ts m s j → begins_class_clause (seen true ts i) ≡ false
  unfolding clause_begins
  method_no_class i g.none sig = no_class_clause i (signature_begins ts sig)
  method_no_class i (g.one_more {j = n} {x = c} one rest) sig = not_of_both (seen true ts i) (clause_begun i n c one)

  -- ---- members

  -- each member but `;` and a clause begins where these don't
  field_plain : {i j : ℕ} {f : Field} → FieldAt ts i f j → IsPlain ts i
  unfolding same_kind
  field_plain {i = i} f = record { not_empty = starts_no i k.Semicolon (field_starts f) refl refl refl refl; no_clause = no_class_clause i (field_starts f) }

  method_plain : {i j : ℕ} {m : Method} → MethodAt ts i m j → IsPlain ts i
  unfolding same_kind
  method_plain {i = i} (g.method cs sig block) = record { not_empty = method_first k.Semicolon i cs sig refl refl refl refl refl; no_clause = method_no_class i cs sig }

  no_brace : {i j : ℕ} {x : Member} → MemberAt ts i x j → sees false ts i k.CloseBrace ≡ false
  unfolding same_kind
  no_brace (g.empty {i = i} h) = sees_other false ts i k.Semicolon k.CloseBrace h refl
  no_brace {i = i} (g.field f) = starts_no i k.CloseBrace (field_starts f) refl refl refl refl
  no_brace {i = i} (g.method (g.method cs sig block)) = method_first k.CloseBrace i cs sig refl refl refl refl refl
  no_brace {i = i} (g.clause c) = annotated_no i k.CloseBrace (class_word (seen true ts i) (class_clause_begun c)) refl

  pub member_begun : (i j : ℕ) (x : Member) → MemberAt ts i x j → member_begins ts i ≡ true
  unfolding member_begins
  member_begun i j x m = ap not (no_brace m)

  clauses_on : {i j : ℕ} {cs : List MethodClause} → Many (SpellsMethod ts) i cs j → i ≤ j
  clauses_on g.none = omega arith
  clauses_on (g.one_more {i = i} {j = n} {x = c} one rest) = omega (arith, method_clause_on ts i n c one, clauses_on rest)

  pub member_on : (i j : ℕ) (x : Member) → MemberAt ts i x j → (i < j) × (j ≤ length ts)
  unfolding same_kind
  member_on i j x (g.empty h) = (omega arith, omega (arith, taken false ts i k.Semicolon h refl))
  member_on i j x (g.field f) = field_on ts f
  member_on i j x (g.method (g.method {b = b} {body = body} cs sig block)) = (omega (arith, clauses_on cs, signature_on ts sig, block_on ts b j body block), (block_on ts b j body block).1)
  member_on i j x (g.clause {c = c} s) = class_clause_on ts i j c s

  -- what stands behind clauses that were read: a field, if there are none, or a method or constructor
  pub data Behind (first at : ℕ) (cs : List MethodClause) : Member → ℕ → Type 0 where
    a_field : {j : ℕ} {f : Field} → cs ≡ [] → declared_at ts at ≡ Ok (declared.Field f, j) → Behind first at cs (OfField f) j
    a_method : {b j : ℕ} {s : Signature} {body : Stmts} → declared_at ts at ≡ Ok (declared.Routine s, b) → Block ts b body j → Behind first at cs (OfMethod (method_of ts first cs s body)) j

  behind_field : (first at j : ℕ) (cs : List MethodClause) (f : Field) → AllOf (SpellsMethod ts) (clause_begins ts) first cs at → FieldAt ts first f j → Behind first at cs (OfField f) j
  behind_field first at j cs f all fa =
      let same = one_row ts (SpellsMethod ts) ShallowClause (clause_begins ts) clause_rows first at first cs [] all.many all.ended g.none (no_clause_begins first (field_starts fa)) in
      a_field same.0 (subst (λ i. declared_at ts i ≡ Ok (declared.Field f, j)) (sym same.1) (declared_field_read ts fa))

  behind_method : (first at a b j : ℕ) (cs ds : List MethodClause) (s : Signature) (body : Stmts) → AllOf (SpellsMethod ts) (clause_begins ts) first cs at → Many (SpellsMethod ts) first ds a → SignatureAt ts a s b → Block ts b body j → Behind first at cs (OfMethod (method_of ts first ds s body)) j
  behind_method first at a b j cs ds s body all many sig block =
      let same = one_row ts (SpellsMethod ts) ShallowClause (clause_begins ts) clause_rows first at a cs ds all.many all.ended many (no_clause_begins a (signature_begins ts sig)) in
      subst (λ (ds : List MethodClause). Behind first at cs (OfMethod (method_of ts first ds s body)) j) same.0
      (a_method (subst (λ i. declared_at ts i ≡ Ok (declared.Routine s, b)) (sym same.1) (signature_read ts sig (block_open block))) block)

  pub behind : (first at j : ℕ) (cs : List MethodClause) (x : Member) → IsPlain ts first → AllOf (SpellsMethod ts) (clause_begins ts) first cs at → MemberAt ts first x j → Behind first at cs x j
  behind first at j cs x here all (g.empty h) = absurd (no_both (sees false ts first k.Semicolon) (sees_it false ts first k.Semicolon h) here.not_empty)
  behind first at j cs x here all (g.field {f = f} fa) = behind_field first at j cs f all fa
  behind first at j cs x here all (g.method (g.method {a = a} {b = b} {cs = ds} {s = s} {body = body} many sig block)) = behind_method first at a b j cs ds s body all many sig block
  behind first at j cs x here all (g.clause c) = absurd (no_both (begins_class_clause (seen true ts first)) (class_clause_begun c) here.no_clause)

  -- the clauses of a member
  pub data Before (first : ℕ) (x : Member) : Type 0 where
    before : {at : ℕ} {cs : List MethodClause} → AllOf (SpellsMethod ts) (clause_begins ts) first cs at → (ShallowMember x → All ShallowClause cs) → Before first x

  pub clauses_before : (first j : ℕ) (x : Member) → IsPlain ts first → MemberAt ts first x j → Before first x
  clauses_before first j x here (g.empty h) = absurd (no_both (sees false ts first k.Semicolon) (sees_it false ts first k.Semicolon h) here.not_empty)
  clauses_before first j x here (g.field fa) = before (record { many = g.none; ended = no_clause_begins first (field_starts fa) }) (λ s. λ k d below. absurd (omega arith))
  clauses_before first j x here (g.method (g.method many sig block)) = before (clauses_all many sig) (λ s. s.0)
  clauses_before first j x here (g.clause c) = absurd (no_both (begins_class_clause (seen true ts first)) (class_clause_begun c) here.no_clause)

  -- a member that begins as a clause is one
  pub data IsClause (i : ℕ) : Member → ℕ → Type 0 where
    is_clause : {j : ℕ} {c : ClassClause} → SpellsClass ts i c j → IsClause i (OfClause c) j

  pub clause_member : (i j : ℕ) (x : Member) → begins_class_clause (seen true ts i) ≡ true → MemberAt ts i x j → IsClause i x j
  unfolding same_kind
  clause_member i j x b (g.empty h) = absurd (no_both (sees false ts i k.Semicolon) (sees_it false ts i k.Semicolon h) (annotated_no i k.Semicolon (class_word (seen true ts i) b) refl))
  clause_member i j x b (g.field f) = absurd (no_both (begins_class_clause (seen true ts i)) b (field_plain f).no_clause)
  clause_member i j x b (g.method m) = absurd (no_both (begins_class_clause (seen true ts i)) b (method_plain m).no_clause)
  clause_member i j x b (g.clause c) = is_clause c

  -- ---- at most one member stands at an index

  declared_once : {b c : ℕ} {d e : Declared} (o : Outcome Declared) → o ≡ Ok (d, b) → o ≡ Ok (e, c) → (d ≡ e) × (b ≡ c)
  declared_once {b = b} {c = c} {d = d} {e = e} o f h =
      let same : ◌≡◌ {A = Declared × ℕ} (d, b) (e, c) = cc in
      (ap (λ (p : Declared × ℕ). p.0) same, ap (λ (p : Declared × ℕ). p.1) same)

  same_field : (f h : Field) → declared.Field f ≡ declared.Field h → f ≡ h
  same_field f h e = cc

  same_signature : (s t : Signature) → declared.Routine s ≡ declared.Routine t → s ≡ t
  same_signature s t e = cc

  field_no_routine : (f : Field) (s : Signature) → declared.Field f ≡ declared.Routine s → ⊥
  field_no_routine f s e = cc

  one_behind : {first at j m : ℕ} {cs : List MethodClause} {x y : Member} → Behind first at cs x j → Behind first at cs y m → (x ≡ y) × (j ≡ m)
  one_behind {at = at} (a_field {f = f} n e) (a_field {f = h} o d) = let same = declared_once (declared_at ts at) e d in (ap OfField (same_field f h same.0), same.1)
  one_behind {at = at} (a_field {f = f} n e) (a_method {s = s} d block) = absurd (field_no_routine f s (declared_once (declared_at ts at) e d).0)
  one_behind {at = at} (a_method {s = s} e block) (a_field {f = f} n d) = absurd (field_no_routine f s (declared_once (declared_at ts at) d e).0)
  one_behind {first = first} {at = at} {m = m} {cs = cs} (a_method {b = b} {j = j} {s = s} {body = body} e block) (a_method {b = c} {s = t} {body = ss} d other) =
      let same = declared_once (declared_at ts at) e d in
      let blocks = one_block ts b j m body ss block (subst (λ c. Block ts c ss m) (sym same.1) other) in
      (ap (λ (s : Signature). OfMethod (method_of ts first cs s body)) (same_signature s t same.0) ∙ ap (λ (body : Stmts). OfMethod (method_of ts first cs t body)) blocks.0, blocks.1)

  one_of_plain : (i j m : ℕ) (x y : Member) → IsPlain ts i → (cs : List MethodClause) (at : ℕ) → AllOf (SpellsMethod ts) (clause_begins ts) i cs at → MemberAt ts i x j → MemberAt ts i y m → (x ≡ y) × (j ≡ m)
  one_of_plain i j m x y here cs at all a b = one_behind (behind i at j cs x here all a) (behind i at m cs y here all b)

  one_clause_member : {i j m : ℕ} {x y : Member} → IsClause i x j → IsClause i y m → (x ≡ y) × (j ≡ m)
  one_clause_member {i = i} {m = m} (is_clause {j = j} {c = c} s) (is_clause {c = d} t) = let same = one_class_clause ts i j m c d s t in (ap OfClause same.0, same.1)

  empty_member : (i m : ℕ) (y : Member) → seen false ts i ≡ k.Semicolon → MemberAt ts i y m → (Empty ≡ y) × (i + 1 ≡ m)
  unfolding same_kind
  empty_member i m y h (g.empty e) = (refl, refl)
  empty_member i m y h (g.field f) = absurd (no_both (sees false ts i k.Semicolon) (sees_it false ts i k.Semicolon h) (field_plain f).not_empty)
  empty_member i m y h (g.method a) = absurd (no_both (sees false ts i k.Semicolon) (sees_it false ts i k.Semicolon h) (method_plain a).not_empty)
  empty_member i m y h (g.clause c) = absurd (no_both (sees false ts i k.Semicolon) (sees_it false ts i k.Semicolon h) (annotated_no i k.Semicolon (class_word (seen true ts i) (class_clause_begun c)) refl))

  one_member : (i j m : ℕ) (x y : Member) → MemberAt ts i x j → MemberAt ts i y m → (x ≡ y) × (j ≡ m)
  one_member i j m x y (g.empty h) b = empty_member i m y h b
  one_member i j m x y (g.field f) b = one_of_plain i j m x y (field_plain f) [] i (record { many = g.none; ended = no_clause_begins i (field_starts f) }) (g.field f) b
  one_member i j m x y (g.method (g.method {a = a} {cs = cs} many sig block)) b = one_of_plain i j m x y (method_plain (g.method many sig block)) cs a (clauses_all many sig) (g.method (g.method many sig block)) b
  one_member i j m x y (g.clause c) b = one_clause_member (is_clause c) (clause_member i m y (class_clause_begun c) b)

  pub member_rows : Rows (MemberAt ts) (member_begins ts)
  member_rows = record { unique = one_member; begun = member_begun }
