-- What follows a primary, from left to right.
use Rattle.std.proofs.Common.{◌≡◌, Bool, true, false, List, [], ◌∷◌, ◌||◌, map, refl, sym, ap, ◌∙◌}
use Rattle.jr_base.specs.declared.number.Span.{Span}
use Rattle.jr_base.specs.declared.refusal.Refusal.TheVariants.{NotHere}
use Rattle.jr_ast.specs.declared.expr.Suffix.{Suffix as SuffixTree}
use Rattle.jr_ast.specs.Expressions.{Expr, Suffix, Field, Invocation, Index, applied, onto, view_suffix}
use Rattle.jr_typing_rules.specs.Answers.{Typing, Good, Bad, ◌>>=◌, one_by_one}
use Rattle.jr_typing_rules.specs.Predicates.{Stand, states, stated, field_of, element}
use Rattle.jr_spec_typing.specs.Parts.{int_value, is_call, has_call, member}

bind_assoc : {A B C : Type 0} (x : Typing A) (f : A → Typing B) (g : B → Typing C) → (x >>= f) >>= g ≡ (x >>= λ a. f a >>= g)
bind_assoc (Good a) f g = refl
bind_assoc (Bad r) f g = refl

bind_good : {A : Type 0} (x : Typing A) → (x >>= λ a. Good a) ≡ x
bind_good (Good a) = refl
bind_good (Bad r) = refl

-- whether one of them is a call
abbrev any_call : List Suffix → Bool
any_call [] = false
any_call (s ∷ ss) = is_call s || any_call ss

seen : (ss : List SuffixTree) → any_call (map view_suffix ss) ≡ has_call ss
seen [] = refl
seen (s ∷ ss) = ap (λ b. is_call (view_suffix s) || b) (seen ss)

step_by_step : (stand : Stand) (at : Span) (e : Expr) (ss : List Suffix) → any_call ss ≡ false → states stand (onto at e ss) ≡ (states stand e >>= λ m. one_by_one (member stand at) m ss)
step_by_step stand at e [] none = sym (bind_good (states stand e))
step_by_step stand at e (Field x ∷ ss) none =
    step_by_step stand at (applied at e (Field x)) ss none
    ∙ bind_assoc (states stand e) (field_of stand at x) (λ m. one_by_one (member stand at) m ss)
step_by_step stand at e (Invocation x es ∷ ss) none = absurd (cc)
step_by_step stand at e (Index i ∷ ss) none =
    step_by_step stand at (applied at e (Index i)) ss none
    ∙ ap (λ x. x >>= λ m. one_by_one (member stand at) m ss) (bind_assoc (states stand e) (stated at) (λ v. int_value stand i >>= element at v))
    ∙ bind_assoc (states stand e) (λ m. member stand at m (Index i)) (λ m. one_by_one (member stand at) m ss)

-- where none is a call, step by step
pub states_onto : (stand : Stand) (at : Span) (e : Expr) (ss : List SuffixTree) → has_call ss ≡ false → states stand (onto at e (map view_suffix ss)) ≡ (states stand e >>= λ m. one_by_one (member stand at) m (map view_suffix ss))
states_onto stand at e ss none = step_by_step stand at e (map view_suffix ss) (seen ss ∙ none)

refused_onto : (stand : Stand) (at : Span) (e : Expr) (ss : List Suffix) → states stand e ≡ Bad (NotHere at) → states stand (onto at e ss) ≡ Bad (NotHere at)
refused_onto stand at e [] is = is
refused_onto stand at e (Field x ∷ ss) is = refused_onto stand at (applied at e (Field x)) ss (ap (λ m. m >>= field_of stand at x) is)
refused_onto stand at e (Invocation x es ∷ ss) is = refused_onto stand at (applied at e (Invocation x es)) ss refl
refused_onto stand at e (Index i ∷ ss) is =
    refused_onto stand at (applied at e (Index i)) ss (ap (λ m. m >>= stated at >>= λ v. int_value stand i >>= element at v) is)

call_refused : (stand : Stand) (at : Span) (e : Expr) (ss : List Suffix) → any_call ss ≡ true → states stand (onto at e ss) ≡ Bad (NotHere at)
call_refused stand at e [] some = absurd (cc)
call_refused stand at e (Field x ∷ ss) some = call_refused stand at (applied at e (Field x)) ss some
call_refused stand at e (Invocation x es ∷ ss) some = refused_onto stand at (applied at e (Invocation x es)) ss refl
call_refused stand at e (Index i ∷ ss) some = call_refused stand at (applied at e (Index i)) ss some

-- a call refuses all that it stands in, whatever stands before it
pub called : (stand : Stand) (at : Span) (e : Expr) (ss : List SuffixTree) → has_call ss ≡ true → states stand (onto at e (map view_suffix ss)) ≡ Bad (NotHere at)
called stand at e ss some = call_refused stand at e (map view_suffix ss) (seen ss ∙ some)
