-- What a source means, from what its parts mean.
use Rattle.std.proofs.Common.{◌≡◌, ◌≤◌, ℕ, IsTrue, List, length, Ok, Err, Result, sym, ap, subst, ◌∙◌}
use Rattle.jr_base.specs.declared.refusal.Refusal.{Refusal}
use Rattle.jr_base.specs.declared.refusal.Refusal.TheVariants.{BigLiteral, Syntax, NotInProfile, TooDeep}
use Rattle.jr_base.specs.declared.refusal.Fail.{Fail}
use Rattle.jr_base.specs.declared.refusal.Fail.TheVariants.{Refused, Memory}
use Rattle.jr_lexer.specs.Token.{Token}
use Rattle.jr_lexer.specs.Lexical.{tokens}
use Rattle.jr_lexer.specs.Answers.{Answers}
use Rattle.jr_lexer.specs.Refusals.{is_lexical, RefusesLexically}
use Rattle.jr_lexer.proofs.Refused.{of_tokens}
use Rattle.jr_ast.specs.Units.{Class}
use Rattle.jr_unit_parser.specs.Grammar.{SpellsUnit}
use Rattle.jr_unit_parser.specs.Answers.{Fits, Refuses, Answers as AnswersUnit}
use Rattle.jr_unit_parser.proofs.OfUnits.{one_unit}
use Rattle.jr_names.specs.Answered.{Answers as AnswersRules}
use Rattle.jr_program.specs.Programs.{Program}
use Rattle.jr_program.specs.UnitViews.{program_of}
use Rattle.jr_program.specs.declared.parts.UnitParts.{UnitParts}
use Rattle.jr_typing_rules.specs.Answers.{Typing, Good, Bad}
use Rattle.jr_typing_rules.specs.Whole.{typing}
use Rattle.jr_safepoints.specs.Whole.{position}
use Rattle.jr_cli.specs.Sources.{SpellsClasses, Spells, IsRefused, for_tokens, for_syntax, for_rules, Reads, IsOneMeaning}

-- ---- one meaning

one_list : (bytes : List ℕ) (a b : List Token) → tokens bytes ≡ Ok a → tokens bytes ≡ Ok b → a ≡ b
one_list bytes a b p q = let same : ◌≡◌ {A = Result (List Token) Refusal} (Ok a) (Ok b) = sym p ∙ q in cc

same_classes : (bytes : List ℕ) (a b : List Class) → SpellsClasses bytes a → SpellsClasses bytes b → a ≡ b
same_classes bytes a b p q =
    one_unit q.read a b (subst (λ ts. SpellsUnit ts a) (one_list bytes p.read q.read p.lexed q.lexed) p.spelled.spelled) q.spelled.spelled

same_typing : (bytes : List ℕ) (a b : List Class) (f g : Typing Program) → SpellsClasses bytes a → SpellsClasses bytes b →
    typing (position bytes) a ≡ f → typing (position bytes) b ≡ g → f ≡ g
same_typing bytes a b f g p q e h = sym e ∙ ap (typing (position bytes)) (same_classes bytes a b p q) ∙ h

-- where a unit is spelled within the limit, none is refused
not_unread : (ts : List Token) (classes : List Class) (r : Refusal) → Fits ts classes → Refuses ts r → ⊥
not_unread ts classes (Syntax s) fits none = none classes 0 fits.spelled
not_unread ts classes (NotInProfile s) fits none = none.0 classes 0 fits.spelled
not_unread ts classes (BigLiteral s) fits none = none.0 classes 0 fits.spelled
not_unread ts classes (TooDeep s) fits none = none.0 classes 0 fits.spelled fits.shallow
not_unread ts classes _ fits none = none

one_good : (p q : Program) → Good p ≡ Good q → p ≡ q
one_good p q e = cc

not_both : (p : Program) (r : Refusal) → ◌≡◌ {A = Typing Program} (Good p) (Bad r) → ⊥
not_both p r e = absurd cc

pub one_meaning : (bytes : List ℕ) → IsOneMeaning bytes
one_meaning bytes = record {
  one_program = λ p q a b. one_good p q (same_typing bytes a.classes b.classes (Good p) (Good q) a.unit b.unit a.typed b.typed);
  program_or_refused = λ p r a refused. never p a r refused;
}
  where
    never : (p : Program) → Spells bytes p → (r : Refusal) → IsRefused bytes r → ⊥
    never p a r (for_tokens {r = s} e lexical) = let h : ◌≡◌ {A = Result (List Token) Refusal} (Ok a.unit.read) (Err s) = sym a.unit.lexed ∙ e in absurd cc
    never p a r (for_syntax {r = s} u) =
        not_unread u.read a.classes s (subst (λ ts. Fits ts a.classes) (one_list bytes a.unit.read u.read a.unit.lexed u.lexed) a.unit.spelled) u.cause
    never p a r (for_rules {r = s} b) = not_both p s (same_typing bytes a.classes b.classes (Good p) (Bad s) a.unit b.unit a.typed b.typed)

-- ---- answers

lexical : (bytes : List ℕ) (r : Refusal) → tokens bytes ≡ Err r → IsTrue (is_lexical r)
lexical bytes r e = subst RefusesLexically e (of_tokens bytes)

pub refused_tokens : (bytes : List ℕ) (e : Fail) → Answers (tokens bytes) (Err e) → Reads bytes (Err e)
refused_tokens bytes (Refused r) e = for_tokens e (lexical bytes r e)
refused_tokens bytes Memory e = tt

pub refused_unit : (bytes : List ℕ) (ts : List Token) (e : Fail) → tokens bytes ≡ Ok ts → AnswersUnit ts (Err e) → Reads bytes (Err e)
refused_unit bytes ts Memory lexed none = tt
refused_unit bytes ts (Refused r) lexed none = for_syntax (record { read = ts; lexed = lexed; cause = none })

pub refused_rules : (bytes : List ℕ) (ts : List Token) (classes : List Class) (e : Fail) → tokens bytes ≡ Ok ts → Fits ts classes →
    AnswersRules program_of (typing (position bytes) classes) (Err e) → Reads bytes (Err e)
refused_rules bytes ts classes Memory lexed spelled bad = tt
refused_rules bytes ts classes (Refused r) lexed spelled bad = for_rules (record {
  classes = classes;
  unit = record { read = ts; lexed = lexed; spelled = spelled };
  typed = bad;
})

pub accepted : (bytes : List ℕ) (ts : List Token) (classes : List Class) (unit : UnitParts) → length bytes ≤ 1048576 → tokens bytes ≡ Ok ts →
    Fits ts classes → AnswersRules program_of (typing (position bytes) classes) (Ok unit) → Reads bytes (Ok unit)
accepted bytes ts classes unit short lexed spelled good = record {
  short = short;
  classes = classes;
  unit = record { read = ts; lexed = lexed; spelled = spelled };
  typed = good;
}
