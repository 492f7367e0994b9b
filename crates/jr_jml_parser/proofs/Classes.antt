-- Clauses of classes.
use Rattle.std.proofs.Common.{◌≡◌, ℕ, ◌+◌, ◌≤◌, Bool, true, false, List, refl, sym, ap, ◌∙◌, subst, inl, inr, arith}
use Rattle.std.specs.Prelude.{◌≢◌, ◌⊎◌}
use Rattle.jr_base.specs.declared.number.Span.{Span}
use Rattle.jr_base.specs.declared.refusal.Refusal.{Refusal}
use Rattle.jr_base.specs.declared.refusal.Fail.{Fail}
use Rattle.jr_base.specs.declared.refusal.Fail.TheVariants.{Refused}
use Rattle.jr_lexer.specs.declared.kind.Kind.{Kind}
use Rattle.jr_lexer.specs.declared.kind.Kind.TheVariants as k
use Rattle.jr_lexer.specs.Token.{Token}
use Rattle.jr_lexer.specs.Reading.{span_at, text_at}
use Rattle.jr_ast.specs.declared.name.Name.{Name}
use Rattle.jr_ast.specs.Expressions.{Expr}
use Rattle.jr_ast.specs.Clauses.{ClassClause}
use Rattle.jr_ast.specs.Clauses as c
use Rattle.jr_reading.specs.Seen.{seen, name_at}
use Rattle.jr_expr_parser.specs.Nesting.{nesting}
use Rattle.jr_jml_parser.specs.Grammar.{Condition, Objects, plain, visible, static, is_visibility, Tie, Declares, invariant, constraint, monitors_for, SpellsClass, modified}
use Rattle.jr_jml_parser.specs.Nesting.{deepest, class_nesting}
use Rattle.jr_jml_parser.specs.Answers.{Refuses, Fails, Fits}
use Rattle.jr_reading.specs.Steps.{refusal_at}
use Rattle.jr_jml_parser.specs.Takes.{Taken}
use Rattle.jr_jml_parser.specs.Parts.{Reaches, flat, is_modifier, AllModified, Starts}
use Rattle.jr_jml_parser.proofs.Indexes.{behind_other}
use Rattle.jr_jml_parser.proofs.Refusals.{of_part, refused, refused_at}
use Rattle.jr_jml_parser.proofs.Ties.{one_tie, tie_advances, tie_before}

-- what stands behind a word, where it begins a clause of a class
abbrev DeclaresBy : List Token → Bool → ℕ → Kind → ClassClause → ℕ → Type 0
DeclaresBy ts s i k.Invariant a j = (e : Expr) × (a ≡ c.Invariant (span_at ts i) s e) × Condition ts (i + 1) e j
DeclaresBy ts s i k.Constraint a j = (e : Expr) × (a ≡ c.Constraint (span_at ts i) s e) × Condition ts (i + 1) e j
DeclaresBy ts s i k.MonitorsFor a j = (es : List Expr) × (m : ℕ) × (a ≡ c.MonitorsFor (span_at ts i) (name_at ts (i + 1)) es) × (s ≡ false) × (seen true ts (i + 1) ≡ k.Name) × Tie ts (i + 2) m × Objects ts m es j
DeclaresBy ts s i _ a j = ⊥

declares_by : {ts : List Token} {s : Bool} {i j : ℕ} {a : ClassClause} → Declares ts s i a j → DeclaresBy ts s i (seen true ts i) a j
declares_by {ts = ts} {s = s} (invariant {i = i} {j = j} {e = e} h d) = subst (λ (x : Kind). DeclaresBy ts s i x (c.Invariant (span_at ts i) s e) j) (sym h) (e, refl, d)
declares_by {ts = ts} {s = s} (constraint {i = i} {j = j} {e = e} h d) = subst (λ (x : Kind). DeclaresBy ts s i x (c.Constraint (span_at ts i) s e) j) (sym h) (e, refl, d)
declares_by {ts = ts} {s = s} (monitors_for {i = i} {m = m} {j = j} {es = es} p h g t d) =
    subst (λ (x : Kind). DeclaresBy ts s i x (c.MonitorsFor (span_at ts i) (name_at ts (i + 1)) es) j) (sym h) (es, m, refl, p, g, t, d)

pub by_word : (ts : List Token) (s : Bool) (i j : ℕ) (a : ClassClause) (x : Kind) → x ≡ seen true ts i → Declares ts s i a j → DeclaresBy ts s i x a j
by_word ts s i j a x h d = subst (λ (y : Kind). DeclaresBy ts s i y a j) (sym h) (declares_by d)

-- ---- the part behind the word is refused, or fits

pub invariant_failed : (ts : List Token) (s : Bool) (i depth : ℕ) (f : Fail) → k.Invariant ≡ seen true ts i → Fails (Condition ts (i + 1)) nesting ts (i + 1) depth f → Fails (Declares ts s i) class_nesting ts i depth f
invariant_failed ts s i depth f h = of_part (Condition ts (i + 1)) nesting (Declares ts s i) class_nesting ts i (i + 1) depth depth f (omega arith) (omega arith)
    (λ a j d. let q = by_word ts s i j a k.Invariant h d in (q.0, j, q.2, omega (arith, ap class_nesting q.1)))

pub constraint_failed : (ts : List Token) (s : Bool) (i depth : ℕ) (f : Fail) → k.Constraint ≡ seen true ts i → Fails (Condition ts (i + 1)) nesting ts (i + 1) depth f → Fails (Declares ts s i) class_nesting ts i depth f
constraint_failed ts s i depth f h = of_part (Condition ts (i + 1)) nesting (Declares ts s i) class_nesting ts i (i + 1) depth depth f (omega arith) (omega arith)
    (λ a j d. let q = by_word ts s i j a k.Constraint h d in (q.0, j, q.2, omega (arith, ap class_nesting q.1)))

pub invariant_fits : (ts : List Token) (s : Bool) (i j depth : ℕ) (e : Expr) → k.Invariant ≡ seen true ts i → Fits (Condition ts (i + 1)) nesting depth e j → Fits (Declares ts s i) class_nesting depth (c.Invariant (span_at ts i) s e) j
invariant_fits ts s i j depth e h w = record { stands = invariant (sym h) w.stands; shallow = w.shallow }

pub constraint_fits : (ts : List Token) (s : Bool) (i j depth : ℕ) (e : Expr) → k.Constraint ≡ seen true ts i → Fits (Condition ts (i + 1)) nesting depth e j → Fits (Declares ts s i) class_nesting depth (c.Constraint (span_at ts i) s e) j
constraint_fits ts s i j depth e h w = record { stands = constraint (sym h) w.stands; shallow = w.shallow }

-- ---- `monitors_for`

static_monitors : {ts : List Token} {s : Bool} {i j : ℕ} {a : ClassClause} → k.MonitorsFor ≡ seen true ts i → s ≡ true → Declares ts s i a j → ⊥
static_monitors {ts = ts} {s = s} {i = i} {j = j} {a = a} h e d = let q = by_word ts s i j a k.MonitorsFor h d in let x : true ≡ false = sym e ∙ q.3 in cc

-- no `static` stands before it
pub static_refused : (ts : List Token) (s : Bool) (i depth : ℕ) (r : Refusal) → k.MonitorsFor ≡ seen true ts i → s ≡ true → r ≡ refusal_at ts i → Refuses (Declares ts s i) class_nesting ts i depth r
static_refused ts s i depth r h e is = refused_at (Declares ts s i) class_nesting ts i i depth r (omega arith) (λ a j d. static_monitors h e d) is

pub nameless : (ts : List Token) (i depth : ℕ) (f : Fail) → seen true ts i ≡ k.MonitorsFor → seen true ts (i + 1) ≢ k.Name → f ≡ Refused (refusal_at ts (i + 1)) → Fails (Declares ts false i) class_nesting ts i depth f
nameless ts i depth f h other is = refused (Declares ts false i) class_nesting ts i (i + 1) depth f (omega arith) (λ a j d. let q = by_word ts false i j a k.MonitorsFor (sym h) d in other q.4) is

pub tie_failed : (ts : List Token) (i m depth : ℕ) (f : Fail) → seen true ts i ≡ k.MonitorsFor → m ≡ i + 1 + 1 → Fails (Reaches (Tie ts m)) flat ts m 0 f → Fails (Declares ts false i) class_nesting ts i depth f
tie_failed ts i m depth f h is = of_part (Reaches (Tie ts m)) flat (Declares ts false i) class_nesting ts i m 0 depth f (omega arith) (omega arith)
    (λ a j d. let q = by_word ts false i j a k.MonitorsFor (sym h) d in let same : i + 2 ≡ m = omega arith in (tt, q.1, subst (λ (x : ℕ). Tie ts x q.1) same q.5, omega arith))

pub objects_start : (ts : List Token) (i m n : ℕ) → seen true ts i ≡ k.MonitorsFor → m ≡ i + 1 + 1 → Tie ts m n → Starts ts n
objects_start ts i m n h is t =
    let same : m ≡ i + 2 = omega arith in
    record { negated = inr (i, h, subst (λ (x : ℕ). Tie ts x n) same t); outside = tie_before t }

pub objects_failed : (ts : List Token) (i m n depth : ℕ) (f : Fail) → seen true ts i ≡ k.MonitorsFor → m ≡ i + 1 + 1 → Tie ts m n → Fails (Objects ts n) deepest ts n depth f → Fails (Declares ts false i) class_nesting ts i depth f
objects_failed ts i m n depth f h is t =
    let later : m + 1 ≤ n = tie_advances t in
    of_part (Objects ts n) deepest (Declares ts false i) class_nesting ts i n depth depth f (omega arith) (omega arith)
    (λ a j d.
    let q = by_word ts false i j a k.MonitorsFor (sym h) d in
    let same : m ≡ i + 2 = omega arith in
    let ends : q.1 ≡ n = one_tie q.5 (subst (λ (x : ℕ). Tie ts x n) same t) in
    (q.0, j, subst (λ (x : ℕ). Objects ts x q.0 j) ends q.6, omega (arith, ap class_nesting q.2)))

monitors_fits : (ts : List Token) (i m n j depth : ℕ) (es : List Expr) → seen true ts i ≡ k.MonitorsFor → Taken k.Name ts (i + 1) m → Tie ts m n → Fits (Objects ts n) deepest depth es j
    → Fits (Declares ts false i) class_nesting depth (c.MonitorsFor (span_at ts i) (name_at ts (i + 1)) es) j
monitors_fits ts i m n j depth es h p t w =
    let same : m ≡ i + 2 = omega (arith, p.next) in
    record { stands = monitors_for refl h p.is (subst (λ (x : ℕ). Tie ts x n) same t) w.stands; shallow = w.shallow }

abbrev named : List ℕ → Span → Name
named text place = record { text = text; place = place }

pub monitors_read : (ts : List Token) (i m n j depth : ℕ) (es : List Expr) (field : Name) (text : List ℕ) (place : Span) → seen true ts i ≡ k.MonitorsFor → Taken k.Name ts (i + 1) m → Tie ts m n
    → field ≡ record { text = text; place = place } → text ≡ text_at ts (i + 1) → place ≡ span_at ts (i + 1) → Fits (Objects ts n) deepest depth es j
    → Fits (Declares ts false i) class_nesting depth (c.MonitorsFor (span_at ts i) field es) j
monitors_read ts i m n j depth es field text place h p t is is_text is_place w =
    let same : field ≡ name_at ts (i + 1) = is ∙ (ap (λ (x : List ℕ). named x place) is_text ∙ ap (λ (x : Span). named (text_at ts (i + 1)) x) is_place) in
    subst (λ (x : Name). Fits (Declares ts false i) class_nesting depth (c.MonitorsFor (span_at ts i) x es) j) (sym same) (monitors_fits ts i m n j depth es h p t w)

-- ---- no such word

abbrev pub class_word : Kind → Bool
class_word k.Invariant = true
class_word k.Constraint = true
class_word k.MonitorsFor = true
class_word _ = false

pub declares_starts : {ts : List Token} {s : Bool} {i j : ℕ} {a : ClassClause} → Declares ts s i a j → class_word (seen true ts i) ≡ true
declares_starts (invariant h d) = ap class_word h
declares_starts (constraint h d) = ap class_word h
declares_starts (monitors_for p h g t d) = ap class_word h

pub no_class_word : (x : Kind) → x ≢ k.Invariant → x ≢ k.Constraint → x ≢ k.MonitorsFor → class_word x ≡ false
no_class_word k.Invariant a b d = absurd (a refl)
no_class_word k.Constraint a b d = absurd (b refl)
no_class_word k.MonitorsFor a b d = absurd (d refl)
no_class_word _ a b d = refl

no_declares : {ts : List Token} {s : Bool} {i j : ℕ} {a : ClassClause} → class_word (seen true ts i) ≡ false → Declares ts s i a j → ⊥
no_declares h d = let e : true ≡ false = sym (declares_starts d) ∙ h in cc

pub declares_open : (ts : List Token) (s : Bool) (i depth : ℕ) (r : Refusal) → class_word (seen true ts i) ≡ false → r ≡ refusal_at ts i → Refuses (Declares ts s i) class_nesting ts i depth r
declares_open ts s i depth r h is = refused_at (Declares ts s i) class_nesting ts i i depth r (omega arith) (λ a j d. no_declares h d) is

pub declares_refused : (ts : List Token) (s : Bool) (i depth : ℕ) (r : Refusal) (x : Kind) → x ≡ seen true ts i → x ≢ k.Invariant → x ≢ k.Constraint → x ≢ k.MonitorsFor → r ≡ refusal_at ts i → Refuses (Declares ts s i) class_nesting ts i depth r
declares_refused ts s i depth r x h a b d is = declares_open ts s i depth r (subst (λ (y : Kind). class_word y ≡ false) h (no_class_word x a b d)) is

-- ---- with the modifiers

pub word_plain : (x : Kind) → class_word x ≡ true → is_modifier x ≡ false
word_plain k.Invariant h = refl
word_plain k.Constraint h = refl
word_plain k.MonitorsFor h = refl
word_plain _ h = let e : true ≡ false = sym h in absurd cc

pub behind_modifiers : {ts : List Token} {s : Bool} {i n j : ℕ} {a : ClassClause} → AllModified ts i s n → SpellsClass ts i a j → Declares ts s n a j
behind_modifiers {ts = ts} {s = s} {n = n} {j = j} {a = a} p (modified {m = m} {is_static = t} d e) =
    let q = p.only t m d (word_plain (seen true ts m) (declares_starts e)) in
    subst (λ (x : Bool). Declares ts x n a j) (sym q.0) (subst (λ (x : ℕ). Declares ts t x a j) (sym q.1) e)

pub class_failed : (ts : List Token) (s : Bool) (i n depth : ℕ) (f : Fail) → AllModified ts i s n → Fails (Declares ts s n) class_nesting ts n depth f → Fails (SpellsClass ts i) class_nesting ts i depth f
class_failed ts s i n depth f p = of_part (Declares ts s n) class_nesting (SpellsClass ts i) class_nesting ts i n depth depth f p.behind (omega (arith, p.behind)) (λ a j d. (a, j, behind_modifiers p d, omega arith))

pub class_fits : (ts : List Token) (s : Bool) (i n j depth : ℕ) (a : ClassClause) → AllModified ts i s n → Fits (Declares ts s n) class_nesting depth a j → Fits (SpellsClass ts i) class_nesting depth a j
class_fits ts s i n j depth a p w = record { stands = modified p.modified w.stands; shallow = w.shallow }

is_visible : (x : Kind) → is_visibility x ≡ true → is_modifier x ≡ true
is_visible k.Static v = refl
is_visible _ v = v

-- which tokens begin a clause of a class
pub class_starts : {ts : List Token} {i j : ℕ} {a : ClassClause} → SpellsClass ts i a j → (is_modifier (seen true ts i) ≡ true) ⊎ (class_word (seen true ts i) ≡ true)
class_starts (modified plain e) = inr (declares_starts e)
class_starts {ts = ts} (modified {i = i} (visible v d) e) = inl (is_visible (seen true ts i) v)
class_starts (modified (static h d) e) = inl (ap is_modifier h)

-- the steps of the functions that read them
pub ruleset class_steps = (behind_other, invariant_failed, constraint_failed, static_refused)

pub ruleset monitors_steps = (nameless, tie_failed, objects_start, objects_failed)
