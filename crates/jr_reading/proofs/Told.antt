-- What is known of an outcome: what was read is right, and a refusal has its cause.
use Rattle.std.proofs.Common.{◌≡◌, ℕ, ◌+◌, ◌≤◌, Bool, true, false, cond, List, Option, Some, None, Result, Ok, Err, refl, arith}
use Rattle.std.specs.Str.{bytes_eq}
use Rattle.std.proofs.lemmas.Slice.Eq.{bytes_eq-Decides}
use Rattle.jr_base.specs.declared.number.Span.{Span}
use Rattle.jr_base.specs.declared.refusal.Refusal.{Refusal}
use Rattle.jr_base.specs.declared.refusal.Refusal.TheVariants as refusal
use Rattle.jr_lexer.specs.declared.kind.Kind.{Kind}
use Rattle.jr_lexer.specs.declared.kind.Kind.TheVariants as k
use Rattle.jr_lexer.specs.Token.{Token}
use Rattle.jr_lexer.specs.Reading.{kind_at, span_at, text_at}
use Rattle.jr_ast.specs.declared.name.ElementType.{ElementType}
use Rattle.jr_reading.specs.Seen.{seen, name_at}
use Rattle.jr_reading.specs.Types.{element_of}
use Rattle.jr_reading.specs.Outcomes.{◌>>=◌, one_or}
use Rattle.jr_reading.specs.Steps.{same_kind, is_left_out, at_fault, refusal_at, sees, expect, expect_text, element}
use Rattle.jr_reading.proofs.Tokens.{seen_is}

-- an outcome that is as Right says, or a refusal for which Cause holds
abbrev pub Told : {A : Type 0} → (Refusal → Type 0) → (A → Type 0) → Result A Refusal → Type 0
Told Cause Right (Ok x) = Right x
Told Cause Right (Err r) = Cause r

pub fault_behind : (ts : List Token) (i : ℕ) → i ≤ at_fault ts i
unfolding at_fault
fault_behind ts i = go (same_kind (kind_at ts i) k.Dot) (is_left_out ts (i + 1))
  where
    go : (a b : Bool) → i ≤ cond a (cond b (i + 1) i) i
    go true true = omega arith
    go true false = omega arith
    go false b = omega arith

module _ (Cause : Refusal → Type 0) where
  pub told_then : {A B : Type 0} (P : A → Type 0) (Q : B → Type 0) (o : Result A Refusal) (f : A → Result B Refusal)
      → Told Cause P o → ((x : A) → P x → Told Cause Q (f x)) → Told Cause Q (o >>= f)
  told_then P Q (Ok x) f h go = go x h
  told_then P Q (Err s) f h go = h

  pub told_to : {A : Type 0} (P Q : A → Type 0) (o : Result A Refusal) → ((x : A) → P x → Q x) → Told Cause P o → Told Cause Q o
  told_to P Q (Ok x) f h = f x h
  told_to P Q (Err s) f h = h

  pub told_if : {A : Type 0} (P : A → Type 0) (b : Bool) (o p : Result A Refusal) → (b ≡ true → Told Cause P o) → (b ≡ false → Told Cause P p) → Told Cause P (cond b o p)
  told_if P true o p f h = f refl
  told_if P false o p f h = h refl

  pub told_option : {A B : Type 0} (P : B → Type 0) (x : Option A) (o : Result B Refusal) (f : A → Result B Refusal)
      → (x ≡ None → Told Cause P o) → ((y : A) → x ≡ Some y → Told Cause P (f y)) → Told Cause P (one_or x o f)
  told_option P None o f h go = h refl
  told_option P (Some y) o f h go = go y refl

  -- the cause of a refusal that names the token at fault
  refused_by : (ts : List Token) (i : ℕ) (b : Bool) → is_left_out ts i ≡ b → ((s : Span) → Cause (refusal.Syntax s))
      → (is_left_out ts i ≡ true → Cause (refusal.NotInProfile (span_at ts i))) → Cause (cond b (refusal.NotInProfile (span_at ts i)) (refusal.Syntax (span_at ts i)))
  refused_by ts i true h syntax out = out h
  refused_by ts i false h syntax out = syntax (span_at ts i)

  pub refused_at : (ts : List Token) (i : ℕ) → ((s : Span) → Cause (refusal.Syntax s)) → ((j : ℕ) → i ≤ j → is_left_out ts j ≡ true → Cause (refusal.NotInProfile (span_at ts j))) → Cause (refusal_at ts i)
  unfolding refusal_at
  refused_at ts i syntax out = refused_by ts (at_fault ts i) (is_left_out ts (at_fault ts i)) refl syntax (out (at_fault ts i) (fault_behind ts i))

  text_by : (ts : List Token) (i : ℕ) (text : List ℕ) (b : Bool) → bytes_eq (text_at ts i) text ≡ b → Cause (refusal_at ts i)
      → Told Cause (λ (u : Unit {0}). text_at ts i ≡ text) (cond {0} b (Ok (tt {0})) (Err (refusal_at ts i)))
  text_by ts i text true h c = (bytes_eq-Decides (text_at ts i) text).0 h
  text_by ts i text false h c = c

  pub told_text : (ts : List Token) (i : ℕ) (text : List ℕ) → Cause (refusal_at ts i) → Told Cause (λ u. text_at ts i ≡ text) (expect_text ts i text)
  unfolding expect_text
  told_text ts i text c = text_by ts i text (bytes_eq (text_at ts i) text) refl c

  pub told_expect : (jml : Bool) (ts : List Token) (i : ℕ) (a : Kind) → Cause (refusal_at ts i) → Told Cause (λ u. seen jml ts i ≡ a) (expect jml ts i a)
  unfolding expect
  told_expect jml ts i a c = told_if (λ (u : Unit {0}). seen jml ts i ≡ a) (sees jml ts i a) (Ok tt) (Err (refusal_at ts i)) (λ h. seen_is jml ts i a h) (λ h. c)

  pub told_element : (jml : Bool) (ts : List Token) (i : ℕ) → Cause (refusal_at ts i) → Told Cause (λ (t : ElementType). element_of (seen jml ts i) (name_at ts i) ≡ Some t) (element jml ts i)
  unfolding element
  told_element jml ts i c =
      told_option (λ t. element_of (seen jml ts i) (name_at ts i) ≡ Some t) (element_of (seen jml ts i) (name_at ts i)) (Err (refusal_at ts i)) Ok (λ h. c) (λ t h. h)
