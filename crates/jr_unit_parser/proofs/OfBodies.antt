-- Where classes, members and bodies begin, and what the reader of a block answers of a body.
use Rattle.std.proofs.Common.{◌≡◌, ℕ, List, [], ◌++◌, Ok, length, subst, inl, inr, arith}
use Rattle.std.specs.Prelude.{◌⊎◌}
use Rattle.jr_base.specs.declared.number.Span.{Span}
use Rattle.jr_base.specs.declared.refusal.Refusal.TheVariants as refusal
use Rattle.jr_base.specs.declared.refusal.Fail.{Fail}
use Rattle.jr_base.specs.declared.refusal.Fail.TheVariants.{Memory, Refused}
use Rattle.jr_lexer.specs.Token.{Token}
use Rattle.jr_ast.specs.Clauses.{MethodClause}
use Rattle.jr_ast.specs.Units.{Method, Member, Class}
use Rattle.jr_reading.specs.LeftOut.{IsLeftOut}
use Rattle.jr_jml_parser.specs.Grammar.{SpellsMethod}
use Rattle.jr_reading.specs.Answers as shared
use Rattle.jr_stmt_parser.specs.Answers as stmt
use Rattle.jr_stmt_parser.specs.Answers.{LeftOutFrom, BigLiteralIn}
use Rattle.jr_stmt_parser.specs.Labels as Labels
use Rattle.jr_stmt_parser.specs.Nesting.{Shallow}
use Rattle.jr_unit_parser.specs.declared.head.Signature.{Signature}
use Rattle.jr_unit_parser.specs.declared.head.ClassHead.{ClassHead}
use Rattle.jr_unit_parser.specs.declared.head.Declared.TheVariants as declared
use Rattle.jr_unit_parser.specs.Begins.{ClassBegins, MemberBegins, BodyBegins, OtherLabel}
use Rattle.jr_unit_parser.specs.Finds.{Fails, BodyAt, ShallowBody}
use Rattle.jr_unit_parser.specs.Grammar as g
use Rattle.jr_unit_parser.specs.Grammar.{Many, Imports, ClassAt, MemberAt}
use Rattle.jr_unit_parser.specs.Steps.{imports, class_head, declared_at}
use Rattle.jr_unit_parser.proofs.OfParts.{imports_told}
use Rattle.jr_unit_parser.proofs.OfSignatures.{OneHead, class_head_told, declared_told}
use Rattle.jr_unit_parser.proofs.OfFields.{OneDeclared}
use Rattle.jr_unit_parser.proofs.Rows.{joined}
use Rattle.jr_unit_parser.proofs.Told.{Told}

module _ (ts : List Token) where
  pub imports_stand : (i : ℕ) → imports ts (length ts) 0 ≡ Ok i → Imports ts 0 i
  imports_stand i is = subst (λ o. Told ts (λ j. Imports ts 0 j) o) is (imports_told ts (length ts) 0)

  pub class_begins : (front i : ℕ) (cs : List Class) → Imports ts 0 front → Many (ClassAt ts) front cs i → ClassBegins ts i
  class_begins front i cs imports before = record { front = front; classes = cs; imports = imports; before = before }

  pub first_member : (class i : ℕ) (h : ClassHead) → ClassBegins ts class → class_head ts class ≡ Ok (h, i) → MemberBegins ts i
  first_member class i h begins is = record {
    class = class;
    first = i;
    head = h;
    members = [];
    begins = begins;
    opened = subst (λ o. Told ts (OneHead ts class) o) is (class_head_told ts class);
    before = g.none;
  }

  pub member_behind : (i j : ℕ) (ms : List Member) → MemberBegins ts i → Many (MemberAt ts) i ms j → MemberBegins ts j
  member_behind i j ms b more = record { class = b.class; first = b.first; head = b.head; members = b.members ++ ms; begins = b.begins; opened = b.opened; before = joined b.before more }

  pub body_begins : (member from i : ℕ) (cs : List MethodClause) (s : Signature) → MemberBegins ts member → Many (SpellsMethod ts) member cs from → declared_at ts from ≡ Ok (declared.Routine s, i) → BodyBegins ts i
  body_begins member from i cs s begins stated is = record {
    member = member;
    from = from;
    clauses = cs;
    signature = s;
    begins = begins;
    stated = stated;
    signed = subst (λ o. Told ts (OneDeclared ts from) o) is (declared_told ts from);
  }

  -- ---- the causes of a block's refusal

  word_of : (body at : ℕ) → BodyBegins ts body → IsLeftOut ts at ⊎ Labels.OtherLabel ts body at → IsLeftOut ts at ⊎ OtherLabel ts at
  word_of body at begins (inl word) = inl word
  word_of body at begins (inr label) = inr (record { body = body; begins = begins; label = label })

  left_out_of : (body : ℕ) (s : Span) → BodyBegins ts body → stmt.LeftOutIn ts body s → LeftOutFrom ts (OtherLabel ts) 0 s
  left_out_of body s begins h = record { at = h.at; behind = omega arith; span = h.span; word = word_of body h.at begins h.word }

  big_of : (body : ℕ) (s : Span) → BigLiteralIn ts body s → BigLiteralIn ts 0 s
  big_of body s (inl h) = inl (record { at = h.at; behind = omega arith; span = h.span; literal = h.literal; number = h.number; before = h.before })
  big_of body s (inr h) = inr (record { at = h.at; behind = omega arith; span = h.span; literal = h.literal; number = h.number; before = h.before })

  pub body_fails : (first body : ℕ) (cs : List MethodClause) (s : Signature) (e : Fail) → BodyBegins ts body → shared.Fails (stmt.Refuses ts body 0) e → Fails ts (BodyAt ts first cs s) ShallowBody body e
  body_fails first body cs s Memory begins h = tt
  body_fails first body cs s (Refused (refusal.Syntax x)) begins h = record { caused = tt; nothing = λ m j b c. h b.body j b.block }
  body_fails first body cs s (Refused (refusal.NotInProfile x)) begins h = record { caused = left_out_of body x begins h.1; nothing = λ m j b c. h.0 b.body j b.block }
  body_fails first body cs s (Refused (refusal.BigLiteral x)) begins h = record { caused = big_of body x h.1; nothing = λ m j b c. h.0 b.body j b.block }
  body_fails first body cs s (Refused (refusal.TooDeep x)) begins h = record { caused = omega (arith, h.1); nothing = λ m j b c. h.0 b.body j b.block (shallow_of m b c) }
    where
      shallow_of : (m : Method) {j : ℕ} → (b : BodyAt ts first cs s body m j) → ShallowBody m → Shallow 0 b.body
      shallow_of m b c = subst (λ (m : Method). Shallow 0 m.body) b.whole c
  body_fails first body cs s (Refused _) begins h = absurd h
