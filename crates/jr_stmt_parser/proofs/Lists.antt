-- Types, declarations, expressions and parts, as the reader takes them and as the grammar has them.
use Rattle.std.proofs.Common.{◌≡◌, ℕ, suc, ◌+◌, ◌≤◌, ◌<◌, Bool, true, false, List, [], ◌∷◌, length, Option, Some, None, refl, sym, ap, ◌∙◌, subst, inl, inr, ◌⊎◌, arith}
use Rattle.jr_lexer.specs.declared.kind.Kind.{Kind}
use Rattle.jr_lexer.specs.declared.kind.Kind.TheVariants as k
use Rattle.jr_lexer.specs.Token.{Token as TokenOf}
use Rattle.jr_lexer.specs.Reading.{text_at}
use Rattle.jr_ast.specs.declared.name.TypeName.{TypeName}
use Rattle.jr_ast.specs.Expressions.{Expr}
use Rattle.jr_ast.specs.Statements.{Declarator, Part, Text, Value as Valued}
use Rattle.jr_reading.specs.Seen.{seen, name_at}
use Rattle.jr_reading.specs.Listed as commas
use Rattle.jr_expr_parser.specs.Operators.{reach}
use Rattle.jr_expr_parser.specs.Grammar.{Spells, Stands}
use Rattle.jr_stmt_parser.specs.Grammar as g
use Rattle.jr_stmt_parser.specs.Nesting.{under, under_option, under_exprs, under_declarators, under_part, under_parts}
use Rattle.jr_stmt_parser.specs.Gives.{Many, stop, step}
use Rattle.jr_stmt_parser.specs.Pieces as p
use Rattle.jr_stmt_parser.proofs.Begins.{within}
use Rattle.jr_stmt_parser.proofs.Firsts.{begins_not}
use Rattle.jr_reading.proofs.TypeNames.{type_read}
use Rattle.jr_stmt_parser.proofs.Types.{type_stands}

-- a kind of token that is there
abbrev pub real : Kind → Bool
real k.End = false
real _ = true

-- what ends an expression, a declaration or a list of them
abbrev pub stops : Kind → Bool
stops k.Semicolon = true
stops k.Comma = true
stops k.CloseParen = true
stops _ = false

reach_stops : (a : Kind) → stops a ≡ true → reach a ≡ 0
reach_stops k.Semicolon e = refl
reach_stops k.Comma e = refl
reach_stops k.CloseParen e = refl
reach_stops _ e = absurd cc

module _ (ts : List TokenOf) where
  not_end : (a : Kind) → real a ≡ true → a ≡ k.End → ⊥
  not_end a r e = let x : false ≡ true = ap real (sym e) ∙ r in absurd cc

  pub tk : {a : Kind} (i : ℕ) {j : ℕ} → real a ≡ true → seen false ts i ≡ a → i + 1 ≡ j → (seen false ts i ≡ a) × (i < length ts) × (i + 1 ≡ j)
  tk {a = a} i r h e = (h, within false ts i a h (not_end a r), e)

  -- a token at the same index
  pub sn : {a : Kind} {i j : ℕ} → i ≡ j → seen false ts j ≡ a → seen false ts i ≡ a
  sn e h = ap (seen false ts) e ∙ h

  pub stopped : {a : Kind} (j : ℕ) → seen false ts j ≡ a → stops a ≡ true → stops (seen false ts j) ≡ true
  stopped j h s = ap stops h ∙ s

  pub stops_not : {a : Kind} (j : ℕ) → stops (seen false ts j) ≡ true → stops a ≡ false → seen false ts j ≡ a → ⊥
  stops_not j s f h = let x : true ≡ false = sym s ∙ (ap stops h ∙ f) in absurd cc

  pub standing : {i j : ℕ} {e : Expr} → stops (seen false ts j) ≡ true → Spells false ts 2 1 i e j → Stands false ts 1 i e j
  standing {j = j} s x = let r = reach_stops (seen false ts j) s in record { spelled = x; ends = omega arith }

  -- ---- declarations

  pub begins_declared : {i j : ℕ} {x : Declarator} → g.Declared ts i x j → seen false ts i ≡ k.Name
  begins_declared (g.bare n) = n
  begins_declared (g.with_value n e x) = n

  module _ (d : ℕ) where
    abbrev Item : {A : Type 0} → (A → ℕ) → (ℕ → A → ℕ → Type 0) → ℕ → A → ℕ → Type 0
    Item f P i x j = P i x j × (d + f x ≤ 128)

    -- ---- declarations

    abbrev under_declarator : Declarator → ℕ
    under_declarator x = under_option x.initial

    pub declared_to : {i j : ℕ} {x : Declarator} → d ≤ 128 → p.Declared ts (suc d) 128 i x j → g.Declared ts i x j × (d + under_option x.initial ≤ 128)
    declared_to {i = i} {j = j} fit (x, a, (n, _, ex, ea), inl (o, (u, b, (o', _, eb), (e, c, (st, le), (q, r))))) =
        let e2 : b ≡ i + 2 = omega arith in
        subst (λ y. g.Declared ts i y j × (d + under_option y.initial ≤ 128)) (ap (λ x. record { name = x; initial = Some e }) ex ∙ q)
        (subst (λ j. g.Declared ts i (record { name = name_at ts i; initial = Some e }) j) r (g.with_value n (sn ea o) (subst (λ n. g.Expression ts n e c) e2 st.spelled)), omega arith)
    declared_to {i = i} {j = j} fit (x, a, (n, _, ex, ea), inr (m, (q, r))) =
        subst (λ y. g.Declared ts i y j × (d + under_option y.initial ≤ 128)) (ap (λ x. record { name = x; initial = None }) ex ∙ q)
        (subst (λ j. g.Declared ts i (record { name = name_at ts i; initial = None }) j) (ea ∙ r) (g.bare n), omega arith)

    pub declared_of : {i j : ℕ} {x : Declarator} (l : ℕ) → g.Declared ts i x j → stops (seen false ts j) ≡ true → d + under_option x.initial ≤ l → p.Declared ts (suc d) l i x j
    declared_of l (g.bare {i = i} n) s le = (name_at ts i, i + 1, (n, (tk _ {j = i + 1} refl n refl).1, refl, refl), inr (λ e. stops_not _ s refl e, (refl, refl)))
    declared_of l (g.with_value {i = i} {j = j} {e = e} n o x) s le = (name_at ts i, i + 1, (n, (tk _ {j = i + 1} refl n refl).1, refl, refl), inl (o, (tt, i + 2, tk _ refl o (omega arith), (e, j, (standing s x, omega arith), (refl, refl)))))

    more_declared : {i j : ℕ} {ds : List Declarator} → d ≤ 128 → Many (p.Isnt ts k.Comma) (p.After ts k.Comma (p.Declared ts (suc d))) 128 i ds j → {h : ℕ} {x : Declarator} → g.Declared ts h x i → d + under_option x.initial ≤ 128 → g.Declarators ts h (x ∷ ds) j × (d + under_declarators (x ∷ ds) ≤ 128)
    more_declared fit (stop n) x le = (commas.last x, omega arith)
    more_declared {j = o} fit (step {i = i} {j = m} {x = z'} {xs = xs} n (u, a, (c, _, ea), y) r) x le =
        let z = declared_to fit y in
        let w = more_declared fit r z.0 z.1 in
        let lw = w.1 in
        (commas.more x c (subst (λ n. g.Declarators ts n (z' ∷ xs) o) (sym ea) w.0), omega arith)

    pub declarators_to : {i j : ℕ} {ds : List Declarator} → d ≤ 128 → p.Declarators ts (suc d) 128 i ds j → g.Declarators ts i ds j × (d + under_declarators ds ≤ 128)
    declarators_to {i = i} {j = j} fit (x, a, y, (xs, b, r, (q, e))) =
        let z = declared_to fit y in
        subst (λ ds. g.Declarators ts i ds j × (d + under_declarators ds ≤ 128)) q (subst (λ j. g.Declarators ts i (x ∷ xs) j × (d + under_declarators (x ∷ xs) ≤ 128)) e (more_declared fit r z.0 z.1))

    pub declarators_of : {i j : ℕ} {ds : List Declarator} (l : ℕ) → g.Declarators ts i ds j → seen false ts j ≡ k.Semicolon → d + under_declarators ds ≤ l → p.Declarators ts (suc d) l i ds j
    declarators_of l (commas.last {j = j} {x = x} y) s le = (x, j, declared_of l y (stopped _ s refl) (omega arith), ([], j, stop (λ c. stops_two s c), (refl, refl)))
      where
        stops_two : seen false ts j ≡ k.Semicolon → seen false ts j ≡ k.Comma → ⊥
        stops_two a b = let x : k.Semicolon ≡ k.Comma = sym a ∙ b in absurd cc
    declarators_of l (commas.more {j = j} {x = x} y c r) s le =
        let w = declarators_of l r s (omega arith) in
        (x, j, declared_of l y (stopped _ c refl) (omega arith), (w.0 ∷ w.3.0, w.3.1, step (λ n. n c) (tt, j + 1, tk _ refl c refl, w.2) w.3.2, (ap (λ ds. x ∷ ds) w.3.3.0, w.3.3.1)))

    pub locals_to : {i j : ℕ} {y : TypeName × List Declarator} → d ≤ 128 → p.Locals ts (suc d) 128 i y j → g.Locals ts i y.0 y.1 j × (d + under_declarators y.1 ≤ 128)
    locals_to {i = i} {j = j} fit (t, a, x, (ds, b, y, (q, r))) =
        let z = declarators_to fit y in
        subst (λ y. g.Locals ts i y.0 y.1 j × (d + under_declarators y.1 ≤ 128)) q (subst (λ j. g.Locals ts i t ds j) r (g.locals (type_stands ts _ x) z.0), z.1)

    pub first_declared : {i j : ℕ} {ds : List Declarator} → g.Declarators ts i ds j → seen false ts i ≡ k.Name
    first_declared (commas.last x) = begins_declared x
    first_declared (commas.more x c r) = begins_declared x

    name_opens : (j : ℕ) → seen false ts j ≡ k.Name → seen false ts j ≡ k.OpenBracket → ⊥
    name_opens j n o = let x : k.Name ≡ k.OpenBracket = sym n ∙ o in absurd cc

    pub locals_of : {i j : ℕ} {t : TypeName} {ds : List Declarator} (l : ℕ) → g.Locals ts i t ds j → seen false ts j ≡ k.Semicolon → d + under_declarators ds ≤ l → p.Locals ts (suc d) l i (t, ds) j
    locals_of l (g.locals {j = j} {m = m} {t = t} {ds = ds} x y) s le = (t, j, type_read ts x (name_opens j (first_declared y)), (ds, m, declarators_of l y s le, (refl, refl)))

    -- ---- expressions

    pub effect_to : {i j : ℕ} {e : Expr} → p.Effect ts (suc d) 128 i e j → g.Effect ts i e j × (d + under e ≤ 128)
    effect_to {i = i} {j = j} (e, a, (st, le), (f, (q, r))) = subst (λ e. g.Effect ts i e j × (d + under e ≤ 128)) q (subst (λ j. g.Effect ts i e j) r (record { spelled = st.spelled; effect = f }), omega arith)

    pub effect_of : {i j : ℕ} {e : Expr} (l : ℕ) → g.Effect ts i e j → stops (seen false ts j) ≡ true → d + under e ≤ l → p.Effect ts (suc d) l i e j
    effect_of {j = j} {e = e} l x s le = (e, j, (standing s x.spelled, omega arith), (x.effect, (refl, refl)))

    more_effects : {i j : ℕ} {es : List Expr} → Many (p.Isnt ts k.Comma) (p.After ts k.Comma (p.Effect ts (suc d))) 128 i es j → {h : ℕ} {e : Expr} → g.Effect ts h e i → d + under e ≤ 128 → g.Effects ts h (e ∷ es) j × (d + under_exprs (e ∷ es) ≤ 128)
    more_effects (stop n) x le = (commas.last x, omega arith)
    more_effects {j = o} (step {i = i} {j = m} {x = z'} {xs = xs} n (u, a, (c, _, ea), y) r) x le =
        let z = effect_to y in
        let w = more_effects r z.0 z.1 in
        let lw = w.1 in
        (commas.more x c (subst (λ n. g.Effects ts n (z' ∷ xs) o) (sym ea) w.0), omega arith)

    pub effects_to : {i j : ℕ} {es : List Expr} → p.Effects ts (suc d) 128 i es j → g.Effects ts i es j × (d + under_exprs es ≤ 128)
    effects_to {i = i} {j = j} (x, a, y, (xs, b, r, (q, e))) =
        let z = effect_to y in
        subst (λ es. g.Effects ts i es j × (d + under_exprs es ≤ 128)) q (subst (λ j. g.Effects ts i (x ∷ xs) j × (d + under_exprs (x ∷ xs) ≤ 128)) e (more_effects r z.0 z.1))

    pub effects_of : {i j : ℕ} {es : List Expr} (l : ℕ) → g.Effects ts i es j → stops (seen false ts j) ≡ true → (seen false ts j ≡ k.Comma → ⊥) → d + under_exprs es ≤ l → p.Effects ts (suc d) l i es j
    effects_of l (commas.last {j = j} {x = x} y) s n le = (x, j, effect_of l y s (omega arith), ([], j, stop n, (refl, refl)))
    effects_of l (commas.more {j = j} {x = x} y c r) s n le =
        let w = effects_of l r s n (omega arith) in
        (x, j, effect_of l y (stopped _ c refl) (omega arith), (w.0 ∷ w.3.0, w.3.1, step (λ n. n c) (tt, j + 1, tk _ refl c refl, w.2) w.3.2, (ap (λ es. x ∷ es) w.3.3.0, w.3.3.1)))

    pub first_effect : {i j : ℕ} {es : List Expr} → g.Effects ts i es j → (e : Expr) × (m : ℕ) × g.Effect ts i e m
    first_effect (commas.last {j = j} {x = e} x) = (e, j, x)
    first_effect (commas.more {j = j} {x = e} x c r) = (e, j, x)

    pub optional_to : {i j : ℕ} {o : Option Expr} → d ≤ 128 → p.Optional ts (suc d) 128 i o j → g.Optional ts i o j × (d + under_option o ≤ 128)
    optional_to {i = i} {j = j} fit (inl (s, (q, r))) = subst (λ o. g.Optional ts i o j × (d + under_option o ≤ 128)) q (subst (λ j. g.Optional ts i None j) r g.missing, omega arith)
    optional_to {i = i} {j = j} fit (inr (n, (e, a, (st, le), (q, r)))) = subst (λ o. g.Optional ts i o j × (d + under_option o ≤ 128)) q (subst (λ j. g.Optional ts i (Some e) j) r (g.given st.spelled), omega arith)

    pub optional_of : {i j : ℕ} {o : Option Expr} (l : ℕ) → g.Optional ts i o j → seen false ts j ≡ k.Semicolon → d + under_option o ≤ l → p.Optional ts (suc d) l i o j
    optional_of l g.missing s le = inl (s, (refl, refl))
    optional_of l (g.given {j = j} {e = e} x) s le = inr (λ h. begins_not ts x h refl, (e, j, (standing (stopped _ s refl) x, omega arith), (refl, refl)))

    pub updates_to : {i j : ℕ} {es : List Expr} → d ≤ 128 → p.Updates ts (suc d) 128 i es j → g.Updates ts i es j × (d + under_exprs es ≤ 128)
    updates_to {i = i} {j = j} fit (inl (s, (q, r))) = subst (λ es. g.Updates ts i es j × (d + under_exprs es ≤ 128)) q (subst (λ j. g.Updates ts i [] j) r g.nothing, omega arith)
    updates_to fit (inr (n, x)) = let y = effects_to x in (g.evaluates y.0, y.1)

    pub updates_of : {i j : ℕ} {es : List Expr} (l : ℕ) → g.Updates ts i es j → seen false ts j ≡ k.CloseParen → d + under_exprs es ≤ l → p.Updates ts (suc d) l i es j
    updates_of l g.nothing s le = inl (s, (refl, refl))
    updates_of {j = j} l (g.evaluates x) s le = inr (λ h. let y = first_effect x in begins_not ts y.2.spelled h refl, effects_of l x (stopped _ s refl) (λ c. let x : k.CloseParen ≡ k.Comma = sym s ∙ c in absurd cc) le)

    -- ---- prints

    pub part_to : {i j : ℕ} {x : Part} → d ≤ 128 → p.AddedOne ts (suc d) 128 i x j → (seen false ts i ≡ k.Plus) × g.PartOf ts (i + 1) x j × (d + under_part x ≤ 128)
    part_to {i = i} {j = j} {x = x} fit (u, a, (c, _, ea), inl (t, (t', le, _, q, r))) =
        (c, subst (λ n. g.PartOf ts n x j) (sym ea) (subst (λ x. g.PartOf ts a x j) q (subst (λ j. g.PartOf ts a (Text (text_at ts a)) j) r (g.text t))), subst (λ x. d + under_part x ≤ 128) q (omega arith))
    part_to {i = i} {j = j} {x = x} fit (u, a, (c, _, ea), inr (n, (e, b, (st, le), (q, r)))) =
        (c, subst (λ n. g.PartOf ts n x j) (sym ea) (subst (λ x. g.PartOf ts a x j) q (subst (λ j. g.PartOf ts a (Valued e) j) r (g.value st.spelled))), subst (λ x. d + under_part x ≤ 128) q (omega arith))

    pub added_to : {i j : ℕ} {ps : List Part} → d ≤ 128 → Many (p.Isnt ts k.Plus) (p.AddedOne ts (suc d)) 128 i ps j → g.Added ts i ps j × (d + under_parts ps ≤ 128)
    added_to fit (stop n) = (g.none, omega arith)
    added_to fit (step n x r) =
        let z = part_to fit x in
        let w = added_to fit r in
        let lz = z.2 in
        let lw = w.1 in
        (g.one_more z.0 z.1 w.0, omega arith)

    pub parts_to : {i j : ℕ} {ps : List Part} → d ≤ 128 → p.Parts ts (suc d) 128 i ps j → g.Printed ts i ps j × (d + under_parts ps ≤ 128)
    parts_to {i = i} {j = j} fit (inl (s, (q, r))) = subst (λ ps. g.Printed ts i ps j × (d + under_parts ps ≤ 128)) q (subst (λ j. g.Printed ts i [] j) r g.nothing, omega arith)
    parts_to {i = i} {j = j} fit (inr (n, inl (t, (x, a, (t', le, _, ex, ea), (xs, b, m, (q, r)))))) =
        let w = added_to fit m in
        let lw = w.1 in
        subst (λ ps. g.Printed ts i ps j × (d + under_parts ps ≤ 128)) (ap (λ x. x ∷ xs) ex ∙ q)
        (subst (λ j. g.Printed ts i (Text (text_at ts i) ∷ xs) j) r (g.text t (subst (λ n. g.Added ts n xs b) (sym ea) w.0)), omega arith)
    parts_to {i = i} {j = j} fit (inr (n, inr (o, (e, a, (st, le), (q, r))))) =
        subst (λ ps. g.Printed ts i ps j × (d + under_parts ps ≤ 128)) q (subst (λ j. g.Printed ts i (Valued e ∷ []) j) r (g.value st.spelled), omega arith)

    -- what stands behind a part: no operator of its level
    abbrev ends_part : Kind → Bool
    ends_part k.Plus = true
    ends_part k.CloseParen = true
    ends_part _ = false

    reach_part : (a : Kind) → ends_part a ≡ true → reach a < 15
    reach_part k.Plus e = omega arith
    reach_part k.CloseParen e = omega arith
    reach_part _ e = absurd cc

    -- a part, from behind its sign on
    abbrev Behind : ℕ → ℕ → Part → ℕ → Type 0
    Behind l i x j = ((seen false ts i ≡ k.Text) × p.String ts (suc d) l i x j) ⊎ ((seen false ts i ≡ k.Text → ⊥) × ((e : Expr) × (m : ℕ) × p.Factor ts (suc d) l i e m × ((Valued e ≡ x) × (m ≡ j))))

    part_of : {i j : ℕ} {x : Part} (l : ℕ) → g.PartOf ts i x j → ends_part (seen false ts j) ≡ true → d + under_part x ≤ l → Behind l i x j
    part_of l (g.text {i = i} t) s le = inl (t, (t, omega arith, (tk _ {j = i + 1} refl t refl).1, refl, refl))
    part_of l (g.value {j = j} {e = e} x) s le = inr (λ t. begins_not ts x t refl, (e, j, (record { spelled = x; ends = reach_part (seen false ts j) s }, omega arith), (refl, refl)))

    behind_part : {i j : ℕ} {ps : List Part} → g.Added ts i ps j → seen false ts j ≡ k.CloseParen → ends_part (seen false ts i) ≡ true
    behind_part g.none s = ap ends_part s
    behind_part (g.one_more c x r) s = ap ends_part c

    pub added_of : {i j : ℕ} {ps : List Part} (l : ℕ) → g.Added ts i ps j → seen false ts j ≡ k.CloseParen → d + under_parts ps ≤ l → Many (p.Isnt ts k.Plus) (p.AddedOne ts (suc d)) l i ps j
    added_of {j = j} l g.none s le = stop (λ c. let x : k.CloseParen ≡ k.Plus = sym s ∙ c in absurd cc)
    added_of l (g.one_more {i = i} c x r) s le = step (λ n. n c) (tt, i + 1, tk _ refl c refl, part_of l x (behind_part r s) (omega arith)) (added_of l r s (omega arith))

    pub parts_of : {i j : ℕ} {ps : List Part} (l : ℕ) → g.Printed ts i ps j → seen false ts j ≡ k.CloseParen → d + under_parts ps ≤ l → p.Parts ts (suc d) l i ps j
    parts_of l g.nothing s le = inl (s, (refl, refl))
    parts_of l (g.value {j = j} {e = e} x) s le = inr (λ h. begins_not ts x h refl, inr (λ h. begins_not ts x h refl, (e, j, (standing (stopped _ s refl) x, omega arith), (refl, refl))))
    parts_of l (g.text {i = i} {j = j} {ps = ps} t r) s le = inr (λ c. let x : k.Text ≡ k.CloseParen = sym t ∙ c in absurd cc, inl (t, (Text (text_at ts i), i + 1, (t, omega arith, (tk _ {j = i + 1} refl t refl).1, refl, refl), (ps, j, added_of l r s (omega arith), (refl, refl)))))
