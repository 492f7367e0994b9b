-- What clauses are made of: each part with what it answers, where it is refused.
use Rattle.std.proofs.Common.{◌≡◌, ℕ, ◌+◌, ◌-◌, ◌<◌, ◌≤◌, true, false, List, [], ◌∷◌, ◌++◌, length, refl, sym, ap, ◌∙◌, subst, append_assoc, map, arith}
use Rattle.std.specs.Prelude.{◌≢◌}
use Rattle.jr_base.specs.declared.refusal.Refusal.{Refusal}
use Rattle.jr_base.specs.declared.refusal.Fail.{Fail}
use Rattle.jr_base.specs.declared.refusal.Fail.TheVariants.{Refused}
use Rattle.jr_lexer.specs.declared.kind.Kind.TheVariants as k
use Rattle.jr_lexer.specs.Token.{Token}
use Rattle.jr_lexer.specs.Reading.{jml_at}
use Rattle.std.proofs.lemmas.List.{map-append}
use Rattle.jr_ast.specs.declared.expr.SpecExpr.{SpecExpr}
use Rattle.jr_ast.specs.Expressions.{Expr, view_spec}
use Rattle.jr_reading.specs.Seen.{seen}
use Rattle.jr_reading.specs.Listed.{last, more}
use Rattle.jr_reading.specs.Limits.{nesting_limit}
use Rattle.jr_expr_parser.specs.Nesting.{nesting}
use Rattle.jr_expr_parser.specs.Grammar.{Stands}
use Rattle.jr_expr_parser.specs.Answers as expr
use Rattle.jr_jml_parser.specs.Grammar.{Expression, Condition, condition, Objects, objects, Anything, end, skip}
use Rattle.jr_jml_parser.specs.Nesting.{deepest}
use Rattle.jr_reading.specs.Answers.{Nothing}
use Rattle.jr_jml_parser.specs.Answers.{Refuses, Fails, Fits}
use Rattle.jr_reading.specs.Steps.{refusal_at}
use Rattle.jr_jml_parser.specs.Takes.{Taken}
use Rattle.jr_jml_parser.specs.Parts.{Reaches, flat, Starts}
use Rattle.jr_reading.proofs.Tokens.{unseen}
use Rattle.jr_jml_parser.proofs.Indexes.{semicolon_ends, comma_ends, behind_other, seen_jml, jml_inside, seen_inside, advances}
use Rattle.jr_expr_parser.proofs.Whole.{one_tree}
use Rattle.jr_jml_parser.proofs.Refusals.{of_expression, refused, refused_at}

pub standing : {ts : List Token} {i j m : ℕ} {a b : Expr} → Stands true ts 2 i a j → Stands true ts 2 i b m → (a ≡ b) × (j ≡ m)
standing {ts = ts} {i = i} {j = j} {m = m} {a = a} {b = b} s t = one_tree true ts 2 i j m a b s t

pub before_semicolon : {ts : List Token} {i j : ℕ} {e : Expr} → Expression ts i e j → seen true ts j ≡ k.Semicolon → Stands true ts 2 i e j
before_semicolon {ts = ts} {j = j} s h = record { spelled = s; ends = semicolon_ends ts j h }

pub before_comma : {ts : List Token} {i j : ℕ} {e : Expr} → Expression ts i e j → seen true ts j ≡ k.Comma → Stands true ts 2 i e j
before_comma {ts = ts} {j = j} s h = record { spelled = s; ends = comma_ends ts j h }

-- ---- an expression and the `;` behind it

pub condition_in : {ts : List Token} {i j : ℕ} {e : Expr} → Condition ts i e j → (m : ℕ) × Stands true ts 2 i e m × (seen true ts m ≡ k.Semicolon) × (j ≡ m + 1)
condition_in (condition {j = j} s h) = (j, before_semicolon s h, h, refl)

pub condition_failed : (ts : List Token) (i depth : ℕ) (f : Fail) → Starts ts i → expr.Fails true ts 2 i depth f → Fails (Condition ts i) nesting ts i depth f
condition_failed ts i depth f n h = of_expression (Condition ts i) nesting ts i i depth depth f (omega arith) (omega arith) n (λ e j c. let q = condition_in c in (e, q.0, q.1, omega arith)) h

pub condition_open : (ts : List Token) (i j depth : ℕ) (e : Expr) (f : Fail) → Stands true ts 2 i e j → seen true ts j ≢ k.Semicolon → f ≡ Refused (refusal_at ts j) → Fails (Condition ts i) nesting ts i depth f
condition_open ts i j depth e f s other is = refused (Condition ts i) nesting ts i j depth f (omega (arith, (advances s.spelled).0)) (λ a m c. let q = condition_in c in other (ap (seen true ts) (standing s q.1).1 ∙ q.2)) is

pub condition_fits : (ts : List Token) (i j m depth : ℕ) (e : Expr) → expr.Fits true ts 2 i depth e j → Taken k.Semicolon ts j m → Fits (Condition ts i) nesting depth e m
condition_fits ts i j m depth e s t = record { stands = subst (Condition ts i e) (sym t.next) (condition s.stands.spelled t.is); shallow = s.shallow }

pub one_condition : {ts : List Token} {i j m : ℕ} {a b : Expr} → Condition ts i a j → Condition ts i b m → (a ≡ b) × (j ≡ m)
one_condition c d = let p = condition_in c in let q = condition_in d in let same = standing p.1 q.1 in (same.0, p.3 ∙ (ap (λ (x : ℕ). x + 1) same.1 ∙ sym q.3))

-- ---- expressions with commas between, and the `;` behind them

-- The list that began at index i has come to index n, with the members fs: what stands from there on is the
-- rest of it.
pub record SoFar (ts : List Token) (i depth : ℕ) (fs : List Expr) (n : ℕ) : Type 0 where
  pub behind : i ≤ n
  pub shallow : depth + deepest fs ≤ nesting_limit
  pub start : Starts ts n
  pub whole : (es : List Expr) (m : ℕ) → Objects ts n es m → Objects ts i (fs ++ es) m
  pub only : (es : List Expr) (m : ℕ) → Objects ts i es m → (rest : List Expr) × (es ≡ fs ++ rest) × Objects ts n rest m

-- behind an expression of a list: the end, or the rest
pub data Goes (ts : List Token) (m : ℕ) : List Expr → ℕ → Type 0 where
  no_more : seen true ts m ≡ k.Semicolon → Goes ts m [] (m + 1)
  goes_on : {es : List Expr} {j : ℕ} → seen true ts m ≡ k.Comma → Objects ts (m + 1) es j → Goes ts m es j

pub record Headed (ts : List Token) (i : ℕ) (es : List Expr) (j : ℕ) : Type 0 where
  pub first : Expr
  pub rest : List Expr
  pub end_of : ℕ
  pub whole : es ≡ first ∷ rest
  pub stands : Stands true ts 2 i first end_of
  pub goes : Goes ts end_of rest j

and_more : {ts : List Token} {i j m : ℕ} {e : Expr} {es : List Expr} → Expression ts i e j → seen true ts j ≡ k.Comma → Objects ts (j + 1) es m → Objects ts i (e ∷ es) m
and_more s h (objects l g) = objects (more s h l) g

pub objects_in : {ts : List Token} {i j : ℕ} {es : List Expr} → Objects ts i es j → Headed ts i es j
objects_in (objects (last {j = j} {x = e} s) h) = record { first = e; rest = []; end_of = j; whole = refl; stands = before_semicolon s h; goes = no_more h }
objects_in (objects (more {j = j} {x = e} {xs = es} s h l) g) = record { first = e; rest = es; end_of = j; whole = refl; stands = before_comma s h; goes = goes_on h (objects l g) }

deepest-append : (xs : List Expr) (e : Expr) (d : ℕ) → d + deepest xs ≤ nesting_limit → d + nesting e ≤ nesting_limit → d + deepest (xs ++ e ∷ []) ≤ nesting_limit
deepest-append [] e d h g = omega arith
deepest-append (x ∷ xs) e d h g = let rest : d + deepest (xs ++ e ∷ []) ≤ nesting_limit = deepest-append xs e d (omega arith) g in omega arith

deepest_last : (xs ys : List Expr) → deepest ys ≤ deepest (xs ++ ys)
deepest_last [] ys = omega arith
deepest_last (x ∷ xs) ys = let rest : deepest ys ≤ deepest (xs ++ ys) = deepest_last xs ys in omega arith

pub nothing_so_far : (ts : List Token) (i depth : ℕ) → depth ≤ nesting_limit → Starts ts i → SoFar ts i depth [] i
nothing_so_far ts i depth h n = record { behind = omega arith; shallow = omega arith; start = n; whole = λ es m o. o; only = λ es m o. (es, refl, o) }

head_fits : (fs es rest : List Expr) (x : Expr) (all : List Expr) → all ≡ fs ++ es → es ≡ x ∷ rest → nesting x ≤ deepest all
head_fits fs es rest x all e h = let a : deepest es ≤ deepest (fs ++ es) = deepest_last fs es in omega (arith, ap deepest e, ap deepest h)

pub objects_failed : (ts : List Token) (i n depth : ℕ) (fs : List Expr) (f : Fail) → SoFar ts i depth fs n → expr.Fails true ts 2 n depth f → Fails (Objects ts i) deepest ts i depth f
objects_failed ts i n depth fs f s h =
    of_expression (Objects ts i) deepest ts i n depth depth f s.behind (omega (arith, s.behind)) s.start
    (λ es j o. let q = s.only es j o in let p = objects_in q.2 in (p.first, p.end_of, p.stands, omega (arith, head_fits fs q.0 p.rest p.first es q.1 p.whole))) h

goes_by : {ts : List Token} {m j : ℕ} {es : List Expr} → Goes ts m es j → seen true ts m ≢ k.Semicolon → seen true ts m ≢ k.Comma → ⊥
goes_by (no_more h) a b = a h
goes_by (goes_on h o) a b = b h

pub objects_open : (ts : List Token) (i n m depth : ℕ) (fs : List Expr) (e : Expr) (r : Refusal) → SoFar ts i depth fs n → expr.Fits true ts 2 n depth e m
    → seen true ts m ≢ k.Semicolon → seen true ts m ≢ k.Comma → r ≡ refusal_at ts m → Refuses (Objects ts i) deepest ts i depth r
objects_open ts i n m depth fs e r s w a b is =
    refused_at (Objects ts i) deepest ts i m depth r (omega (arith, s.behind, (advances w.stands.spelled).0))
    (λ es j o. let q = s.only es j o in let p = objects_in q.2 in goes_by (subst (λ (x : ℕ). Goes ts x p.rest j) (sym (standing w.stands p.stands).1) p.goes) a b) is

pub objects_fits : (ts : List Token) (i n m depth : ℕ) (fs : List Expr) (e : Expr) → SoFar ts i depth fs n → expr.Fits true ts 2 n depth e m
    → seen true ts m ≡ k.Semicolon → Fits (Objects ts i) deepest depth (fs ++ e ∷ []) (m + 1)
objects_fits ts i n m depth fs e s w h = record { stands = s.whole (e ∷ []) (m + 1) (objects (last w.stands.spelled) h); shallow = deepest-append fs e depth s.shallow w.shallow }

pub goes_only : {ts : List Token} {m j : ℕ} {es : List Expr} → Goes ts m es j → seen true ts m ≡ k.Comma → Objects ts (m + 1) es j
goes_only (no_more h) a = absurd (let x : k.Semicolon ≡ k.Comma = sym h ∙ a in cc)
goes_only (goes_on h o) a = o

pub one_more : (ts : List Token) (i n m depth : ℕ) (fs : List Expr) (e : Expr) → SoFar ts i depth fs n → expr.Fits true ts 2 n depth e m
    → seen true ts m ≡ k.Comma → SoFar ts i depth (fs ++ e ∷ []) (m + 1)
one_more ts i n m depth fs e s w h = record {
  behind = omega (arith, s.behind, (advances w.stands.spelled).0);
  shallow = deepest-append fs e depth s.shallow w.shallow;
  start = behind_other ts m k.Comma h (λ x. cc) refl;
  whole = λ es j o. subst (λ (all : List Expr). Objects ts i all j) (sym (append_assoc fs (e ∷ []) es)) (s.whole (e ∷ es) j (and_more w.stands.spelled h o));
  only = λ es j o.
      let q = s.only es j o in
      let p = objects_in q.2 in
      let same = standing w.stands p.stands in
      let all : es ≡ (fs ++ e ∷ []) ++ p.rest = q.1 ∙ (ap (λ (x : List Expr). fs ++ x) (p.whole ∙ ap (λ (x : Expr). x ∷ p.rest) (sym same.0)) ∙ sym (append_assoc fs (e ∷ []) p.rest)) in
      (p.rest, all, goes_only (subst (λ (x : ℕ). Goes ts x p.rest j) (sym same.1) p.goes) h);
}

viewed : (new found : List SpecExpr) (o : SpecExpr) → new ≡ found ++ o ∷ [] → map view_spec new ≡ map view_spec found ++ view_spec o ∷ []
viewed new found o e = ap (map view_spec) e ∙ map-append view_spec found (o ∷ [])

pub objects_read : (ts : List Token) (i n m depth : ℕ) (new found : List SpecExpr) (o : SpecExpr) → new ≡ found ++ o ∷ [] → SoFar ts i depth (map view_spec found) n
    → expr.Fits true ts 2 n depth (view_spec o) m → k.Semicolon ≡ seen true ts m → Fits (Objects ts i) deepest depth (map view_spec new) (m + 1)
objects_read ts i n m depth new found o e s w h =
    subst (λ (fs : List Expr). Fits (Objects ts i) deepest depth fs (m + 1)) (sym (viewed new found o e)) (objects_fits ts i n m depth (map view_spec found) (view_spec o) s w (sym h))

pub object_read : (ts : List Token) (i n m depth : ℕ) (new found : List SpecExpr) (o : SpecExpr) → new ≡ found ++ o ∷ [] → SoFar ts i depth (map view_spec found) n
    → expr.Fits true ts 2 n depth (view_spec o) m → k.Comma ≡ seen true ts m → SoFar ts i depth (map view_spec new) (m + 1)
object_read ts i n m depth new found o e s w h =
    subst (λ (fs : List Expr). SoFar ts i depth fs (m + 1)) (sym (viewed new found o e)) (one_more ts i n m depth (map view_spec found) (view_spec o) s w (sym h))

pub nearer : (ts : List Token) (n m depth : ℕ) (e : Expr) → expr.Fits true ts 2 n depth e m → k.Comma ≡ seen true ts m → length ts - (m + 1) < length ts - n
nearer ts n m depth e w h = omega (arith, (advances w.stands.spelled).0, seen_inside ts m k.Comma (sym h) (λ x. cc))

-- ---- any tokens but `;`, and the `;` behind them

-- The tokens from index i up to index n were skipped.
pub record Skipped (ts : List Token) (i n : ℕ) : Type 0 where
  pub behind : i ≤ n
  pub whole : (m : ℕ) → Anything ts n m → Anything ts i m
  pub only : (m : ℕ) → Anything ts i m → Anything ts n m

anything_none : {ts : List Token} {n m : ℕ} → seen true ts n ≢ k.Semicolon → jml_at ts n ≡ false → Anything ts n m → ⊥
anything_none a b (end h) = a h
anything_none a b (skip h g o) = let x : true ≡ false = sym h ∙ b in cc

pub anything_open : (ts : List Token) (i n : ℕ) (r : Refusal) → Skipped ts i n → seen true ts n ≢ k.Semicolon → jml_at ts n ≡ false → r ≡ refusal_at ts n
    → Refuses (Reaches (Anything ts i)) flat ts i 0 r
anything_open ts i n r s a b is = refused_at (Reaches (Anything ts i)) flat ts i n 0 r s.behind (λ u j o. anything_none a b (s.only j o)) is

anything_past : {ts : List Token} {n m : ℕ} → length ts ≤ n → Anything ts n m → ⊥
anything_past {ts = ts} past (end {i = n} h) = let e : k.End ≡ k.Semicolon = sym (unseen true ts n past) ∙ h in cc
anything_past {ts = ts} past (skip {i = n} h g o) = let inside : n < length ts = jml_inside ts n h in omega arith

-- behind the last token there is no `;`
pub anything_ends : (ts : List Token) (i n : ℕ) → Skipped ts i n → length ts ≤ n → Nothing (Reaches (Anything ts i))
anything_ends ts i n s past u m o = anything_past past (s.only m o)

pub anything_found : (ts : List Token) (i n : ℕ) → Skipped ts i n → seen true ts n ≡ k.Semicolon → Anything ts i (n + 1)
anything_found ts i n s h = s.whole (n + 1) (end h)

pub nothing_skipped : (ts : List Token) (i : ℕ) → Skipped ts i i
nothing_skipped ts i = record { behind = omega arith; whole = λ m o. o; only = λ m o. o }

pub skipped_more : (ts : List Token) (i n : ℕ) → Skipped ts i n → seen true ts n ≢ k.Semicolon → jml_at ts n ≡ true → Skipped ts i (n + 1)
skipped_more ts i n s a b = record {
  behind = omega (arith, s.behind);
  whole = λ m o. s.whole m (skip b (λ h. a (sym (seen_jml ts n b) ∙ h)) o);
  only = λ m o. go m (s.only m o);
}
  where
    go : (m : ℕ) → Anything ts n m → Anything ts (n + 1) m
    go m (end h) = absurd (a h)
    go m (skip h g o) = o

-- the steps of the functions that read them
pub ruleset condition_steps = (condition_failed, condition_open)

pub ruleset object_steps = (objects_failed, objects_open, nothing_so_far)

pub ruleset anything_steps = (anything_open, anything_found, nothing_skipped)
