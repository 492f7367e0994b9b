-- What each function of the reader answers where it ends, and that the tokens spell one unit at most.
use Rattle.std.proofs.Common.{◌≡◌, ℕ, ◌+◌, ◌<◌, ◌≤◌, Bool, true, false, not, List, [], length, None, Result, Ok, Err, refl, sym, ap, ◌∙◌, subst, arith}
use Rattle.std.specs.Prelude.{All}
use Rattle.std.proofs.lemmas.Bool.{lt-ltb, ltb-false, le-ltb}
use Rattle.jr_base.specs.declared.number.Span.{Span}
use Rattle.jr_base.specs.declared.refusal.Refusal.{Refusal}
use Rattle.jr_base.specs.declared.refusal.Refusal.TheVariants as refusal
use Rattle.jr_base.specs.declared.refusal.Fail.{Fail}
use Rattle.jr_base.specs.declared.refusal.Fail.TheVariants.{Memory, Refused}
use Rattle.jr_lexer.specs.Answers as lexer
use Rattle.jr_lexer.specs.declared.kind.Kind.{Kind}
use Rattle.jr_lexer.specs.declared.kind.Kind.TheVariants as k
use Rattle.jr_lexer.specs.Token.{Token}
use Rattle.jr_lexer.specs.Reading.{span_at}
use Rattle.jr_ast.specs.declared.unit.Field.{Field}
use Rattle.jr_ast.specs.Clauses.{MethodClause}
use Rattle.jr_ast.specs.Units.{Method, Member, OfField, OfMethod, Class}
use Rattle.jr_reading.specs.Seen.{seen}
use Rattle.jr_reading.specs.Limits.{nesting_limit}
use Rattle.jr_jml_parser.specs.Grammar.{SpellsMethod, SpellsClass}
use Rattle.jr_jml_parser.specs.Nesting.{class_nesting}
use Rattle.jr_stmt_parser.specs.Grammar.{Block}
use Rattle.jr_stmt_parser.specs.Nesting.{Shallow}
use Rattle.jr_unit_parser.specs.declared.head.Signature.{Signature}
use Rattle.jr_unit_parser.specs.declared.head.ClassHead.{ClassHead}
use Rattle.jr_unit_parser.specs.declared.head.Declared.{Declared}
use Rattle.jr_unit_parser.specs.declared.head.Declared.TheVariants as declared
use Rattle.jr_unit_parser.specs.Answers as answers
use Rattle.jr_reading.specs.Answers.{Fits}
use Rattle.jr_unit_parser.specs.Finds.{Caused, Concerns, Misses, Fails, AllOf, method_of, BodyAt, ShallowBody}
use Rattle.jr_unit_parser.specs.Grammar as g
use Rattle.jr_unit_parser.specs.Grammar.{Many, Imports, begins_import, FieldAt, SignatureAt, MemberAt, ClassHeadAt, ClassAt, SpellsUnit, modifier_of}
use Rattle.jr_unit_parser.specs.Nesting.{ShallowClause, ShallowMethod, ShallowMember, ShallowClass, ShallowUnit}
use Rattle.jr_unit_parser.specs.Plain.{IsPlain}
use Rattle.jr_reading.specs.Outcomes.{Outcome}
use Rattle.jr_reading.specs.Steps.{same_kind, sees, refusal_at}
use Rattle.jr_unit_parser.specs.Steps.{imports, declared_at, class_head, begins_class_clause, clause_begins, member_begins, class_begins}
use Rattle.jr_unit_parser.proofs.Ends.{part_fails}
use Rattle.jr_unit_parser.proofs.OfFields.{OneDeclared}
use Rattle.jr_unit_parser.proofs.OfMembers.{Behind, a_field, a_method, behind, Before, before, clauses_before, IsClause, is_clause, clause_member, member_rows, member_on}
use Rattle.jr_unit_parser.proofs.OfParts.{declares, imports_told, imports_read, imports_within, no_modifier_of}
use Rattle.jr_unit_parser.proofs.OfSignatures.{declared_told, class_head_told, class_head_read, class_head_begins, class_head_on, OneHead}
use Rattle.jr_unit_parser.proofs.Rows.{Rows, concerns_to, one_row}
use Rattle.jr_reading.proofs.Tokens.{seen_is, unseen, taken}
use Rattle.jr_unit_parser.proofs.Told.{Told, caused_at}

no_both : (b : Bool) → b ≡ true → b ≡ false → ⊥
no_both b e f = let both = sym e ∙ f in absurd cc

same_pair : {A : Type 0} (o : Outcome A) (x y : A) (i j : ℕ) → o ≡ Ok (x, i) → o ≡ Ok (y, j) → (x ≡ y) × (i ≡ j)
same_pair {A = A} o x y i j e f =
    let same : ◌≡◌ {A = A × ℕ} (x, i) (y, j) = cc in
    (ap (λ (p : A × ℕ). p.0) same, ap (λ (p : A × ℕ). p.1) same)

same_field : (f h : Field) → declared.Field f ≡ declared.Field h → f ≡ h
same_field f h e = cc

same_signature : (s t : Signature) → declared.Routine s ≡ declared.Routine t → s ≡ t
same_signature s t e = cc

no_routine : (f : Field) (s : Signature) → declared.Field f ≡ declared.Routine s → ⊥
no_routine f s e = cc

module _ (ts : List Token) where
  abbrev Clauses : ℕ → List MethodClause → ℕ → Type 0
  Clauses = AllOf (SpellsMethod ts) (clause_begins ts)

  -- ---- fields, methods and constructors

  pub clauses_fail : (first : ℕ) → IsPlain ts first → (e : Fail) → Fails ts Clauses (All ShallowClause) first e → Fails ts (MemberAt ts) ShallowMember first e
  clauses_fail first here Memory f = tt
  clauses_fail first here (Refused r) f = record { caused = f.caused; nothing = λ x j m c. go x (clauses_before ts first j x here m) c }
    where
      go : (x : Member) → Before ts first x → Concerns r (ShallowMember x) → ⊥
      go x (before {at = at} {cs = cs} all shallow) c = f.nothing cs at all (concerns_to r (ShallowMember x) (All ShallowClause cs) shallow c)

  read_behind : {first at j : ℕ} {cs : List MethodClause} {x : Member} → Behind ts first at cs x j → (y : Declared × ℕ) × (declared_at ts at ≡ Ok y)
  read_behind (a_field {j = j} {f = f} n e) = ((declared.Field f, j), e)
  read_behind (a_method {b = b} {s = s} e block) = ((declared.Routine s, b), e)

  pub declared_fails : (first at : ℕ) (cs : List MethodClause) → IsPlain ts first → Clauses first cs at → (e : Fail) → lexer.Fails e (declared_at ts at) → Fails ts (MemberAt ts) ShallowMember first e
  declared_fails first at cs here all e f = part_fails ts (OneDeclared ts at) (declared_at ts at) (declared_told ts at) (MemberAt ts) ShallowMember first (λ x j m. read_behind (behind ts first at j cs x here all m)) e f

  no_field_behind : {first at j m : ℕ} {cs : List MethodClause} {x : Member} {f : Field} → declared_at ts at ≡ Ok (declared.Field f, m) → (cs ≡ [] → ⊥) → Behind ts first at cs x j → ⊥
  no_field_behind e some (a_field n d) = some n
  no_field_behind {at = at} {m = m} {f = f} e some (a_method {b = b} {s = s} d block) = no_routine f s (same_pair (declared_at ts at) (declared.Field f) (declared.Routine s) m b e d).0

  pub no_field : (first at m : ℕ) (cs : List MethodClause) (f : Field) (r : Refusal) → IsPlain ts first → Clauses first cs at → declared_at ts at ≡ Ok (declared.Field f, m) → (cs ≡ [] → ⊥) → r ≡ refusal_at ts first → Misses ts (MemberAt ts) ShallowMember first r
  no_field first at m cs f r here all e some is = record {
    caused = subst (λ r. Caused ts r) (sym is) (caused_at ts first);
    nothing = λ x j member c. no_field_behind e some (behind ts first at j cs x here all member);
  }

  declared_is : (at : ℕ) (y : Declared × ℕ) → declared_at ts at ≡ Ok y → OneDeclared ts at y
  declared_is at y e = subst (λ o. Told ts (OneDeclared ts at) o) e (declared_told ts at)

  no_clauses : (first at : ℕ) (cs : List MethodClause) → Many (SpellsMethod ts) first cs at → cs ≡ [] → first ≡ at
  no_clauses first at cs g.none e = refl
  no_clauses first at cs (g.one_more one rest) e = absurd cc

  pub field_found : (first at m : ℕ) (cs : List MethodClause) (f : Field) → Clauses first cs at → declared_at ts at ≡ Ok (declared.Field f, m) → cs ≡ [] → Fits (MemberAt ts first) ShallowMember (OfField f) m
  field_found first at m cs f all e none = record {
    stands = g.field (subst (λ i. FieldAt ts i f m) (sym (no_clauses first at cs all.many none)) (declared_is at (declared.Field f, m) e));
    shallow = tt;
  }

  body_behind : {first at a j : ℕ} {cs : List MethodClause} {x : Member} {s : Signature} (r : Refusal) → declared_at ts at ≡ Ok (declared.Routine s, a) → Misses ts (BodyAt ts first cs s) ShallowBody a r → Behind ts first at cs x j → Concerns r (ShallowMember x) → ⊥
  body_behind {at = at} {a = a} {s = s} r e f (a_field {j = j} {f = h} n d) c = no_routine h s (same_pair (declared_at ts at) (declared.Field h) (declared.Routine s) j a d e).0
  body_behind {first = first} {at = at} {a = a} {cs = cs} {s = s} r e f (a_method {b = b} {j = j} {s = t} {body = body} d block) c =
      let same = same_pair (declared_at ts at) (declared.Routine s) (declared.Routine t) a b e d in
      f.nothing (method_of ts first cs s body) j (record { body = body; block = subst (λ b. Block ts b body j) (sym same.1) block; whole = refl })
      (concerns_to r (All ShallowClause cs × Shallow 0 body) (Shallow 0 body) (λ p. p.1) c)

  pub method_fails : (first at a : ℕ) (cs : List MethodClause) (s : Signature) → IsPlain ts first → Clauses first cs at → declared_at ts at ≡ Ok (declared.Routine s, a) → (e : Fail) → Fails ts (BodyAt ts first cs s) ShallowBody a e → Fails ts (MemberAt ts) ShallowMember first e
  method_fails first at a cs s here all is Memory f = tt
  method_fails first at a cs s here all is (Refused r) f = record { caused = f.caused; nothing = λ x j member c. body_behind r is f (behind ts first at j cs x here all member) c }

  pub method_found : (first at a j : ℕ) (cs : List MethodClause) (s : Signature) (m : Method) → Fits (Clauses first) (All ShallowClause) cs at → declared_at ts at ≡ Ok (declared.Routine s, a) → Fits (BodyAt ts first cs s a) ShallowBody m j → Fits (MemberAt ts first) ShallowMember (OfMethod m) j
  method_found first at a j cs s m all is f =
      let b = f.stands in
      record {
        stands = subst (λ (m : Method). MemberAt ts first (OfMethod m) j) (sym b.whole) (g.method (g.method all.stands.many (declared_is at (declared.Routine s, a) is) b.block));
        shallow = subst (λ (m : Method). ShallowMethod m) (sym b.whole) (all.shallow, subst (λ (m : Method). Shallow 0 m.body) b.whole f.shallow);
      }

  -- ---- clauses of classes

  clause_behind : {i j : ℕ} {x : Member} (r : Refusal) → Misses ts (SpellsClass ts) (λ c. class_nesting c ≤ nesting_limit) i r → IsClause ts i x j → Concerns r (ShallowMember x) → ⊥
  clause_behind r f (is_clause {j = j} {c = c} s) concerns = f.nothing c j s concerns

  pub class_clause_fails : (i : ℕ) → begins_class_clause (seen true ts i) ≡ true → (e : Fail) → Fails ts (SpellsClass ts) (λ c. class_nesting c ≤ nesting_limit) i e → Fails ts (MemberAt ts) ShallowMember i e
  class_clause_fails i b Memory f = tt
  class_clause_fails i b (Refused r) f = record { caused = f.caused; nothing = λ x j m c. clause_behind r f (clause_member ts i j x b m) c }

  -- ---- classes

  pub head_fails : (first : ℕ) (e : Fail) → lexer.Fails e (class_head ts first) → Fails ts (ClassAt ts) ShallowClass first e
  head_fails first e f = part_fails ts (OneHead ts first) (class_head ts first) (class_head_told ts first) (ClassAt ts) ShallowClass first (λ x j c. whole c) e f
    where
      whole : {x : Class} {j : ℕ} → ClassAt ts first x j → (y : ClassHead × ℕ) × (class_head ts first ≡ Ok y)
      whole (g.class {a = a} {h = h} head members brace) = ((h, a), class_head_read ts head)

  no_member : (j : ℕ) → seen false ts j ≡ k.CloseBrace → member_begins ts j ≡ false
  unfolding member_begins sees same_kind
  no_member j e = ap (λ (a : Kind). not (same_kind a k.CloseBrace)) e

  members_behind : {first a j : ℕ} {h : ClassHead} {x : Class} (r : Refusal) → class_head ts first ≡ Ok (h, a) → Misses ts (AllOf (MemberAt ts) (member_begins ts)) (All ShallowMember) a r → ClassAt ts first x j → Concerns r (ShallowClass x) → ⊥
  members_behind {first = first} {a = a} {h = h} r e f (g.class {a = b} {j = j} {h = i} {ms = ms} head members brace) c =
      let same = same_pair (class_head ts first) h i a b e (class_head_read ts head) in
      f.nothing ms j (record { many = subst (λ b. Many (MemberAt ts) b ms j) (sym same.1) members; ended = no_member j brace }) c

  pub members_fail : (first a : ℕ) (h : ClassHead) → class_head ts first ≡ Ok (h, a) → (e : Fail) → Fails ts (AllOf (MemberAt ts) (member_begins ts)) (All ShallowMember) a e → Fails ts (ClassAt ts) ShallowClass first e
  members_fail first a h is Memory f = tt
  members_fail first a h is (Refused r) f = record { caused = f.caused; nothing = λ x j class c. members_behind r is f class c }

  brace_at : (j : ℕ) → member_begins ts j ≡ false → seen false ts j ≡ k.CloseBrace
  unfolding member_begins
  brace_at j e = seen_is false ts j k.CloseBrace (back (sees false ts j k.CloseBrace) e)
    where
      back : (b : Bool) → not b ≡ false → b ≡ true
      back true e = refl
      back false e = absurd cc

  abbrev placed : Span → ClassHead → List Member → Class
  placed place h ms = record { place = place; modifiers = h.modifiers; name = h.name; extends_thread = h.extends_thread; implements_runnable = h.implements_runnable; members = ms }

  abbrev class_of : ℕ → ClassHead → List Member → Class
  class_of first h ms = placed (span_at ts first) h ms

  pub class_found : (first a j : ℕ) (h : ClassHead) (ms : List Member) (place : Span) → place ≡ span_at ts first → class_head ts first ≡ Ok (h, a) → Fits (AllOf (MemberAt ts) (member_begins ts) a) (All ShallowMember) ms j → Fits (ClassAt ts first) ShallowClass (placed place h ms) (j + 1)
  class_found first a j h ms place at is f = record {
    stands = subst (λ (place : Span). ClassAt ts first (placed place h ms) (j + 1)) (sym at) (g.class (subst (λ o. Told ts (OneHead ts first) o) is (class_head_told ts first)) f.stands.many (brace_at j f.stands.ended));
    shallow = f.shallow;
  }

  members_on : {i j : ℕ} {ms : List Member} → Many (MemberAt ts) i ms j → i ≤ j
  members_on g.none = omega arith
  members_on (g.one_more {i = i} {j = n} {x = x} m ms) = omega (arith, member_on ts i n x m, members_on ms)

  brace_in : (j : ℕ) → seen false ts j ≡ k.CloseBrace → j < length ts
  unfolding same_kind
  brace_in j e = taken false ts j k.CloseBrace e refl

  pub class_on : (i j : ℕ) (x : Class) → ClassAt ts i x j → (i < j) × (j ≤ length ts)
  class_on i j x (g.class {j = m} head members brace) = (omega (arith, class_head_on ts head, members_on members), omega (arith, brace_in m brace))

  class_begun : (i j : ℕ) (x : Class) → ClassAt ts i x j → class_begins ts i ≡ true
  unfolding class_begins
  class_begun i j x c = lt-ltb i (length ts) (omega (arith, class_on i j x c))

  one_class : (i j m : ℕ) (x y : Class) → ClassAt ts i x j → ClassAt ts i y m → (x ≡ y) × (j ≡ m)
  one_class i j m x y (g.class {a = a} {j = n} {h = h} {ms = ms} head members brace) (g.class {a = b} {j = o} {h = l} {ms = ns} other more close) =
      let heads = same_pair (class_head ts i) h l a b (class_head_read ts head) (class_head_read ts other) in
      let rows = one_row ts (MemberAt ts) ShallowMember (member_begins ts) (member_rows ts) a n o ms ns members (no_member n brace) (subst (λ b. Many (MemberAt ts) b ns o) (sym heads.1) more) (no_member o close) in
      (ap (λ (h : ClassHead). class_of i h ms) heads.0 ∙ ap (class_of i l) rows.0, ap (λ n. n + 1) rows.1)

  pub class_rows : Rows (ClassAt ts) (class_begins ts)
  class_rows = record { unique = one_class; begun = class_begun }

  -- ---- units

  pub refuses : (r : Refusal) → Caused ts r → ((cs : List Class) → SpellsUnit ts cs → Concerns r (ShallowUnit cs) → ⊥) → answers.Refuses ts r
  refuses (refusal.Syntax s) caused nothing = λ cs j u. nothing cs u tt
  refuses (refusal.NotInProfile s) caused nothing = (λ cs j u. nothing cs u tt, caused)
  refuses (refusal.BigLiteral s) caused nothing = (λ cs j u. nothing cs u tt, caused)
  refuses (refusal.TooDeep s) caused nothing = (λ cs j u. nothing cs u, caused)
  refuses _ caused nothing = absurd caused

  import_word : (a : Kind) → begins_import a ≡ true → (modifier_of false a ≡ None) × (same_kind a k.At ≡ false) × (same_kind a k.End ≡ false) × (declares a ≡ false)
  unfolding same_kind
  import_word k.Package e = (refl, refl, refl, refl)
  import_word k.Import e = (refl, refl, refl, refl)
  import_word _ e = absurd cc

  no_import_class : {i j : ℕ} {x : Class} → ClassAt ts i x j → begins_import (seen false ts i) ≡ false
  no_import_class {i = i} (g.class head members brace) = go (begins_import (seen false ts i)) refl
    where
      go : (b : Bool) → begins_import (seen false ts i) ≡ b → b ≡ false
      go false e = refl
      go true e =
          let w = import_word (seen false ts i) e in
          absurd (no_both (declares (seen false ts i)) (class_head_begins ts head (no_modifier_of ts i (seen false ts i) refl w.0 w.1 w.2)) w.3)

  no_import_behind : (i m : ℕ) (cs : List Class) → m ≡ length ts → Many (ClassAt ts) i cs m → begins_import (seen false ts i) ≡ false
  no_import_behind i m cs e g.none = ap begins_import (unseen false ts i (omega arith))
  no_import_behind i m cs e (g.one_more c rest) = no_import_class c

  unit_imports : (i : ℕ) (cs : List Class) → Imports ts 0 i → Many (ClassAt ts) i cs (length ts) → imports ts (length ts) 0 ≡ Ok i
  unit_imports i cs front classes = imports_read ts (length ts) (omega arith) front (no_import_behind i (length ts) cs refl classes)

  ok_or_err : {A E : Type 0} (o : Result A E) (y : A) (r : E) → o ≡ Ok y → o ≡ Err r → ⊥
  ok_or_err o y r e f = cc

  no_imports : (r : Refusal) (cs : List Class) → imports ts (length ts) 0 ≡ Err r → SpellsUnit ts cs → ⊥
  no_imports r cs e (g.unit {i = i} front classes) = ok_or_err (imports ts (length ts) 0) i r (unit_imports i cs front classes) e

  pub imports_fail : (e : Fail) → lexer.Fails e (imports ts (length ts) 0) → answers.Fails ts e
  imports_fail Memory f = tt
  imports_fail (Refused r) f = refuses r (subst (λ o. Told ts (λ j. Imports ts 0 j) o) f (imports_told ts (length ts) 0)) (λ cs u c. no_imports r cs f u)

  all_classes : (n : ℕ) → n ≡ length ts → class_begins ts n ≡ false
  unfolding class_begins
  all_classes n e = le-ltb n (length ts) (omega arith)

  same_place : (o : Result ℕ Refusal) (i j : ℕ) → o ≡ Ok i → o ≡ Ok j → i ≡ j
  same_place o i j e f = cc

  no_classes : (i : ℕ) (r : Refusal) (cs : List Class) → imports ts (length ts) 0 ≡ Ok i → Misses ts (AllOf (ClassAt ts) (class_begins ts)) (All ShallowClass) i r → SpellsUnit ts cs → Concerns r (ShallowUnit cs) → ⊥
  no_classes i r cs e f (g.unit {i = j} front classes) c =
      f.nothing cs (length ts) (record { many = subst (λ j. Many (ClassAt ts) j cs (length ts)) (sym (same_place (imports ts (length ts) 0) i j e (unit_imports j cs front classes))) classes; ended = all_classes (length ts) refl }) c

  pub classes_fail : (i : ℕ) → imports ts (length ts) 0 ≡ Ok i → (e : Fail) → Fails ts (AllOf (ClassAt ts) (class_begins ts)) (All ShallowClass) i e → answers.Fails ts e
  classes_fail i is Memory f = tt
  classes_fail i is (Refused r) f = refuses r f.caused (λ cs u c. no_classes i r cs is f u c)

  classes_within : (i j : ℕ) (cs : List Class) → Many (ClassAt ts) i cs j → i ≤ length ts → j ≤ length ts
  classes_within i j cs g.none within = within
  classes_within i j cs (g.one_more {j = n} {x = x} {xs = rest} c more) within = classes_within n j rest more (class_on i n x c).1

  pub unit_found : (i j : ℕ) (cs : List Class) → imports ts (length ts) 0 ≡ Ok i → Fits (AllOf (ClassAt ts) (class_begins ts) i) (All ShallowClass) cs j → answers.Fits ts cs
  unfolding class_begins
  unit_found i j cs is f =
      let front = subst (λ o. Told ts (λ j. Imports ts 0 j) o) is (imports_told ts (length ts) 0) in
      let up : j ≤ length ts = classes_within i j cs f.stands.many (imports_within ts front (omega arith)) in
      let down : length ts ≤ j = ltb-false j (length ts) f.stands.ended in
      let end : j ≡ length ts = omega arith in
      record { spelled = g.unit front (subst (λ j. Many (ClassAt ts) i cs j) end f.stands.many); shallow = f.shallow }

  pub one_unit : answers.OneUnit ts
  one_unit cs ds (g.unit {i = i} front classes) (g.unit {i = j} other more) =
      let same = same_place (imports ts (length ts) 0) i j (unit_imports i cs front classes) (unit_imports j ds other more) in
      (one_row ts (ClassAt ts) ShallowClass (class_begins ts) class_rows i (length ts) (length ts) cs ds classes (all_classes (length ts) refl) (subst (λ j. Many (ClassAt ts) j ds (length ts)) (sym same) more) (all_classes (length ts) refl)).0
