-- Primaries: what is read is spelled, and each refusal has its cause.
use Rattle.std.proofs.Common.{◌≡◌, ℕ, zero, suc, ◌+◌, ◌≤◌, ◌<◌, Bool, true, false, cond, eqb, ltb, List, [], ◌∷◌, ◌++◌, length, Some, None, Ok, Err, refl, sym, ap, ◌∙◌, subst, inl, append_assoc, arith}
use Rattle.std.specs.Prelude.{codes}
use Rattle.std.proofs.lemmas.Bool.{eqb-true}
use Rattle.std.proofs.lemmas.List.{append-nil}
use Rattle.jr_lexer.specs.declared.kind.Kind.{Kind}
use Rattle.jr_lexer.specs.declared.kind.Kind.TheVariants as k
use Rattle.jr_lexer.specs.Token.{Token}
use Rattle.jr_lexer.specs.Reading.{value_at, big_at, span_at, text_at}
use Rattle.jr_ast.specs.declared.expr.Bound.{Bound}
use Rattle.jr_ast.specs.declared.expr.Quantifier.{Quantifier}
use Rattle.jr_ast.specs.Expressions.{Expr, exprs}
use Rattle.jr_ast.specs.Expressions as e
use Rattle.jr_reading.specs.Seen.{seen, name_at}
use Rattle.jr_expr_parser.specs.Operators.{bound_of, quantifier_of}
use Rattle.jr_expr_parser.specs.Nesting.{nesting, nesting_in}
use Rattle.jr_expr_parser.specs.Grammar.{Spells, Arguments, Listed, Conjuncts}
use Rattle.jr_expr_parser.specs.Grammar as g
use Rattle.jr_reading.specs.Types.{element_of}
use Rattle.jr_reading.specs.Outcomes.{Outcome}
use Rattle.jr_reading.specs.Steps.{same_kind}
use Rattle.jr_reading.specs.Steps as steps
use Rattle.jr_reading.proofs.Told.{told_text, told_element}
use Rattle.jr_reading.proofs.Tokens.{taken, seen_is}
use Rattle.jr_expr_parser.specs.BigLiteral.{frees}
use Rattle.jr_expr_parser.specs.Reader.{fits, of_level}
use Rattle.jr_expr_parser.specs.Reader as r
use Rattle.jr_expr_parser.proofs.Free.{free_unless_head}
use Rattle.jr_expr_parser.proofs.Causes.{Cause, Good, moved, then, weaker, if_good, option_good, refused, expect_good, free_at, free_behind, Spelt, Below}
use Rattle.jr_expr_parser.proofs.Tokens.{bound_taken, advances, advances_listed, advances_conjuncts}

module _ (jml : Bool) (ts : List Token) where
  module _ (room : ℕ) (nest : ℕ → ℕ → ℕ → Outcome Expr) (below : Below jml ts room nest) where
    pub nest_good : (q l i p j : ℕ) (a : Kind) → l ≤ 16 → i ≤ p → j ≡ p + 1 → seen jml ts p ≡ a → same_kind a k.End ≡ false → frees a ≡ true → Good jml ts (Spelt jml ts room q l j) (suc room) i (nest q l j)
    nest_good q l i p j a low le at h some other =
        let t = taken jml ts p a h some in
        moved jml ts (Spelt jml ts room q l j) room (suc room) i j (nest q l j) (omega arith) (omega arith) (free_behind jml ts i p j a h other at) (below q l j low (omega arith))

    abbrev pub Enclosed : ℕ → Kind → ℕ → Expr × ℕ → Type 0
    Enclosed q close j x = (m : ℕ) × (x.1 ≡ m + 1) × Spells jml ts q 1 j x.0 m × (seen jml ts m ≡ close) × (nesting x.0 < room)

    pub enclosed_good : (q i p j : ℕ) (a close : Kind) → i ≤ p → j ≡ p + 1 → seen jml ts p ≡ a → same_kind a k.End ≡ false → frees a ≡ true → Good jml ts (Enclosed q close j) (suc room) i (r.enclosed jml ts room nest q close j)
    unfolding r.enclosed
    enclosed_good q i p j a close le at h some other =
        then jml ts (Spelt jml ts room q 1 j) (Enclosed q close j) (suc room) i _ _ (nest_good q 1 i p j a (omega arith) le at h some other)
        (λ x s. let f = advances jml ts s.0 in
        then jml ts (λ u. seen jml ts x.1 ≡ close) (Enclosed q close j) (suc room) i _ _ (expect_good jml ts (suc room) i x.1 close (omega arith))
        (λ u z. (x.1, refl, s.0, z, s.1)))

    abbrev ListedAs : ℕ → List Expr → ℕ → List Expr × ℕ → Type 0
    ListedAs q found i x = (es : List Expr) × (x.0 ≡ found ++ es) × Listed jml ts q i es x.1 × (nesting_in (exprs es) ≤ room)

    listed_good : (q n : ℕ) (found : List Expr) (o p i : ℕ) (a : Kind) → o ≤ p → i ≡ p + 1 → seen jml ts p ≡ a → same_kind a k.End ≡ false → frees a ≡ true → Good jml ts (ListedAs q found i) (suc room) o (r.expressions jml ts room nest q n found i)
    unfolding steps.listed same_kind
    listed_good q zero found o p i a le at h some other = refused jml ts (suc room) o i (omega arith)
    listed_good q (suc n) found o p i a le at h some other =
        then jml ts (Spelt jml ts room q 1 i) (ListedAs q found i) (suc room) o _ _ (nest_good q 1 o p i a (omega arith) le at h some other)
        (λ x s. let f = advances jml ts s.0 in
        if_good jml ts (ListedAs q found i) (suc room) o (steps.sees jml ts x.1 k.Comma) _ _
        (λ c. let z = seen_is jml ts x.1 k.Comma c in
        weaker jml ts (ListedAs q (found ++ x.0 ∷ []) (x.1 + 1)) (ListedAs q found i) (suc room) o _ (λ y t. (x.0 ∷ t.0, t.1 ∙ append_assoc found (x.0 ∷ []) t.0, g.more s.0 z t.2, omega arith)) (listed_good q n (found ++ x.0 ∷ []) o x.1 (x.1 + 1) k.Comma (omega arith) refl z refl refl))
        (λ c. (x.0 ∷ [], refl, g.last s.0, omega arith)))

    abbrev pub Args : ℕ → ℕ → List Expr × ℕ → Type 0
    Args q i x = Arguments jml ts q i x.0 x.1 × (nesting_in (exprs x.0) ≤ room)

    pub arguments_good : (q o p i : ℕ) → o ≤ p → i ≡ p + 1 → seen jml ts p ≡ k.OpenParen → Good jml ts (Args q i) (suc room) o (r.arguments jml ts room nest q i)
    unfolding r.arguments same_kind
    arguments_good q o p i le at h =
        if_good jml ts (Args q i) (suc room) o (steps.sees jml ts i k.CloseParen) _ _
        (λ c. (g.none (seen_is jml ts i k.CloseParen c), omega arith))
        (λ c.
        then jml ts (ListedAs q [] i) (Args q i) (suc room) o _ _ (listed_good q (length ts) [] o p i k.OpenParen le at h refl refl)
        (λ es s. let f = advances_listed jml ts s.2 in
        then jml ts (λ u. seen jml ts es.1 ≡ k.CloseParen) (Args q i) (suc room) o _ _ (expect_good jml ts (suc room) o es.1 k.CloseParen (omega arith))
        (λ u z. subst (λ (l : List Expr). Arguments jml ts q i l (es.1 + 1) × (nesting_in (exprs l) ≤ room)) (sym s.1) (g.some s.2 z, s.3))))

    abbrev Conj : ℕ → List Expr → ℕ → List Expr × ℕ → Type 0
    Conj q found i x = (es : List Expr) × (x.0 ≡ found ++ es) × Conjuncts jml ts q i es x.1 × (nesting_in (exprs es) ≤ room)

    conjuncts_good : (q n : ℕ) (found : List Expr) (o i : ℕ) → o ≤ i → Good jml ts (Conj q found i) (suc room) o (r.conjuncts jml ts room nest q n found i)
    unfolding r.conjuncts same_kind
    conjuncts_good q zero found o i le = ([], sym (append-nil found), g.no_more, omega arith)
    conjuncts_good q (suc n) found o i le =
        if_good jml ts (Conj q found i) (suc room) o (steps.sees jml ts i k.AndAnd) _ _
        (λ c. let z = seen_is jml ts i k.AndAnd c in
        then jml ts (Spelt jml ts room q 8 (i + 1)) (Conj q found i) (suc room) o _ _ (nest_good q 8 o i (i + 1) k.AndAnd (omega arith) le refl z refl refl)
        (λ x s. let f = advances jml ts s.0 in
        weaker jml ts (Conj q (found ++ x.0 ∷ []) x.1) (Conj q found i) (suc room) o _ (λ y t. (x.0 ∷ t.0, t.1 ∙ append_assoc found (x.0 ∷ []) t.0, g.one_more z s.0 t.2, omega arith)) (conjuncts_good q n (found ++ x.0 ∷ []) o x.1 (omega arith))))
        (λ c. ([], sym (append-nil found), g.no_more, omega arith))

    -- ---- primaries

    bracketed_good : (q i : ℕ) → seen jml ts i ≡ k.OpenParen → Good jml ts (Spelt jml ts (suc room) q 18 i) (suc room) i (r.bracketed jml ts room nest q i)
    unfolding r.bracketed same_kind
    bracketed_good q i h =
        then jml ts (Enclosed q k.CloseParen (i + 1)) (Spelt jml ts (suc room) q 18 i) (suc room) i _ _ (enclosed_good q i i (i + 1) k.OpenParen k.CloseParen (omega arith) refl h refl refl)
        (λ x s. (subst (λ (m : ℕ). Spells jml ts q 18 i (e.Brackets (span_at ts i) x.0) m) (sym s.1) (g.bracketed h s.2 s.3), omega arith))

    old_good : (q i : ℕ) → seen jml ts i ≡ k.BackslashOld → Good jml ts (Spelt jml ts (suc room) q 18 i) (suc room) i (r.old jml ts room nest q i)
    unfolding r.old same_kind
    old_good q i h =
        if_good jml ts (Spelt jml ts (suc room) q 18 i) (suc room) i jml _ _
        (λ m.
        then jml ts (λ u. seen jml ts (i + 1) ≡ k.OpenParen) (Spelt jml ts (suc room) q 18 i) (suc room) i _ _ (expect_good jml ts (suc room) i (i + 1) k.OpenParen (omega arith))
        (λ u o.
        then jml ts (Enclosed q k.CloseParen (i + 2)) (Spelt jml ts (suc room) q 18 i) (suc room) i _ _ (enclosed_good q i (i + 1) (i + 2) k.OpenParen k.CloseParen (omega arith) (omega arith) o refl refl)
        (λ x s. (subst (λ (m : ℕ). Spells jml ts q 18 i (e.Old (span_at ts i) x.0) m) (sym s.1) (g.old m h o s.2 s.3), omega arith))))
        (λ m. refused jml ts (suc room) i i (omega arith))

    text_good : (n i j : ℕ) (text : List ℕ) → i ≤ j → Good jml ts (λ u. text_at ts j ≡ text) n i (steps.expect_text ts j text)
    text_good n i j text le = told_text (Cause jml ts n i) ts j text (refused jml ts n i j le)

    abbrev Has : ℕ → Type 0
    Has i = (seen jml ts i ≡ k.Dot) × (seen jml ts (i + 1) ≡ k.Name) × (text_at ts (i + 1) ≡ codes "has") × (seen jml ts (i + 2) ≡ k.OpenParen)

    has_good : (n o i : ℕ) → o ≤ i → Good jml ts (λ u. Has i) n o (r.has jml ts i)
    unfolding r.has
    has_good n o i le =
        then jml ts (λ u. seen jml ts i ≡ k.Dot) (λ u. Has i) n o _ _ (expect_good jml ts n o i k.Dot le)
        (λ u d.
        then jml ts (λ u. seen jml ts (i + 1) ≡ k.Name) (λ u. Has i) n o _ _ (expect_good jml ts n o (i + 1) k.Name (omega arith))
        (λ u m.
        then jml ts (λ u. text_at ts (i + 1) ≡ codes "has") (λ u. Has i) n o _ _ (text_good n o (i + 1) (codes "has") (omega arith))
        (λ u t. weaker jml ts (λ u. seen jml ts (i + 2) ≡ k.OpenParen) (λ u. Has i) n o _ (λ u p. (d, m, t, p)) (expect_good jml ts n o (i + 2) k.OpenParen (omega arith)))))

    lockset_has_good : (q i : ℕ) → jml ≡ true → seen jml ts i ≡ k.BackslashLockset → Good jml ts (Spelt jml ts (suc room) q 18 i) (suc room) i (r.lockset_has jml ts room nest q i)
    unfolding r.lockset_has same_kind
    lockset_has_good q i m h =
        let a : i + 1 + 1 ≡ i + 2 = omega arith in
        let b : i + 1 + 2 ≡ i + 3 = omega arith in
        then jml ts (λ u. Has (i + 1)) (Spelt jml ts (suc room) q 18 i) (suc room) i _ _ (has_good (suc room) i (i + 1) (omega arith))
        (λ u t.
        let n = subst (λ (j : ℕ). seen jml ts j ≡ k.Name) a t.1 in
        let w = subst (λ (j : ℕ). text_at ts j ≡ codes "has") a t.2 in
        let o = subst (λ (j : ℕ). seen jml ts j ≡ k.OpenParen) b t.3 in
        then jml ts (Enclosed q k.CloseParen (i + 4)) (Spelt jml ts (suc room) q 18 i) (suc room) i _ _ (enclosed_good q i (i + 3) (i + 4) k.OpenParen k.CloseParen (omega arith) (omega arith) o refl refl)
        (λ x s. (subst (λ (m : ℕ). Spells jml ts q 18 i (e.InLockset (span_at ts i) x.0) m) (sym s.1) (g.lockset_has m h t.0 n w o s.2 s.3), omega arith)))

    lockset_good : (q i : ℕ) → seen jml ts i ≡ k.BackslashLockset → Good jml ts (Spelt jml ts (suc room) q 18 i) (suc room) i (r.lockset jml ts room nest q i)
    unfolding r.lockset same_kind
    lockset_good q i h =
        if_good jml ts (Spelt jml ts (suc room) q 18 i) (suc room) i jml _ _
        (λ m.
        if_good jml ts (Spelt jml ts (suc room) q 18 i) (suc room) i (steps.sees jml ts (i + 1) k.OpenBracket) _ _
        (λ c. let o = seen_is jml ts (i + 1) k.OpenBracket c in
        then jml ts (Enclosed q k.CloseBracket (i + 2)) (Spelt jml ts (suc room) q 18 i) (suc room) i _ _ (enclosed_good q i (i + 1) (i + 2) k.OpenBracket k.CloseBracket (omega arith) (omega arith) o refl refl)
        (λ x s. (subst (λ (m : ℕ). Spells jml ts q 18 i (e.InLockset (span_at ts i) x.0) m) (sym s.1) (g.in_lockset m h o s.2 s.3), omega arith)))
        (λ c. lockset_has_good q i m h))
        (λ m. refused jml ts (suc room) i i (omega arith))

    called_good : (q i : ℕ) → jml ≡ false → seen jml ts i ≡ k.Name → seen jml ts (i + 1) ≡ k.OpenParen → Good jml ts (Spelt jml ts (suc room) q 18 i) (suc room) i (r.called jml ts room nest q i)
    unfolding r.called
    called_good q i m h o =
        then jml ts (Args q (i + 2)) (Spelt jml ts (suc room) q 18 i) (suc room) i _ _ (arguments_good q i (i + 1) (i + 2) (omega arith) (omega arith) o)
        (λ es s. (g.called m h o s.0, omega arith))

    class_by : (i : ℕ) (b : Bool) → steps.sees jml ts i k.Dot ≡ b → cond b (steps.sees jml ts (i + 1) k.Class) false ≡ true → (seen jml ts i ≡ k.Dot) × (seen jml ts (i + 1) ≡ k.Class)
    class_by i true h e = (seen_is jml ts i k.Dot h, seen_is jml ts (i + 1) k.Class e)
    class_by i false h e = absurd cc

    class_is : (i : ℕ) → r.is_class jml ts i ≡ true → (seen jml ts i ≡ k.Dot) × (seen jml ts (i + 1) ≡ k.Class)
    unfolding r.is_class
    class_is i h = class_by i (steps.sees jml ts i k.Dot) refl h

    call_by : (i : ℕ) (m : Bool) → jml ≡ m → cond m false (steps.sees jml ts i k.OpenParen) ≡ true → (jml ≡ false) × (seen jml ts i ≡ k.OpenParen)
    call_by i true m h = absurd cc
    call_by i false m h = (m, seen_is jml ts i k.OpenParen h)

    pub call_is : (i : ℕ) → r.is_call jml ts i ≡ true → (jml ≡ false) × (seen jml ts i ≡ k.OpenParen)
    unfolding r.is_call
    call_is i h = call_by i jml refl h

    named_good : (q i : ℕ) → seen jml ts i ≡ k.Name → Good jml ts (Spelt jml ts (suc room) q 18 i) (suc room) i (r.named jml ts room nest q i)
    unfolding r.named
    named_good q i h =
        if_good jml ts (Spelt jml ts (suc room) q 18 i) (suc room) i (r.is_call jml ts (i + 1)) _ _
        (λ c. let t = call_is (i + 1) c in called_good q i t.0 h t.1)
        (λ c.
        if_good jml ts (Spelt jml ts (suc room) q 18 i) (suc room) i (r.is_class jml ts (i + 1)) _ _
        (λ d. let t = class_is (i + 1) d in let a : i + 1 + 1 ≡ i + 2 = omega arith in (g.class_literal h t.0 (subst (λ (j : ℕ). seen jml ts j ≡ k.Class) a t.1), omega arith))
        (λ d. (g.variable h, omega arith)))

    new_object_good : (q i : ℕ) → jml ≡ false → seen jml ts i ≡ k.New → seen jml ts (i + 2) ≡ k.OpenParen → Good jml ts (Spelt jml ts (suc room) q 18 i) (suc room) i (r.new_object jml ts room nest q i)
    unfolding r.new_object
    new_object_good q i m h o =
        then jml ts (λ u. seen jml ts (i + 1) ≡ k.Name) (Spelt jml ts (suc room) q 18 i) (suc room) i _ _ (expect_good jml ts (suc room) i (i + 1) k.Name (omega arith))
        (λ u n.
        then jml ts (Args q (i + 3)) (Spelt jml ts (suc room) q 18 i) (suc room) i _ _ (arguments_good q i (i + 2) (i + 3) (omega arith) (omega arith) o)
        (λ es s. (g.new_object m h n o s.0, omega arith)))

    element_good : (n i j : ℕ) → i ≤ j → Good jml ts (λ t. element_of (seen jml ts j) (name_at ts j) ≡ Some t) n i (steps.element jml ts j)
    element_good n i j le = told_element (Cause jml ts n i) jml ts j (refused jml ts n i j le)

    new_array_good : (q i : ℕ) → jml ≡ false → seen jml ts i ≡ k.New → Good jml ts (Spelt jml ts (suc room) q 18 i) (suc room) i (r.new_array jml ts room nest q i)
    unfolding r.new_array same_kind
    new_array_good q i m h =
        then jml ts (λ t. element_of (seen jml ts (i + 1)) (name_at ts (i + 1)) ≡ Some t) (Spelt jml ts (suc room) q 18 i) (suc room) i _ _ (element_good (suc room) i (i + 1) (omega arith))
        (λ t n.
        then jml ts (λ u. seen jml ts (i + 2) ≡ k.OpenBracket) (Spelt jml ts (suc room) q 18 i) (suc room) i _ _ (expect_good jml ts (suc room) i (i + 2) k.OpenBracket (omega arith))
        (λ u o.
        then jml ts (Enclosed q k.CloseBracket (i + 3)) (Spelt jml ts (suc room) q 18 i) (suc room) i _ _ (enclosed_good q i (i + 2) (i + 3) k.OpenBracket k.CloseBracket (omega arith) (omega arith) o refl refl)
        (λ x s. (subst (λ (m : ℕ). Spells jml ts q 18 i (e.NewArray (span_at ts i) t x.0) m) (sym s.1) (g.new_array m h n o s.2 s.3), omega arith))))

    made_good : (q i : ℕ) → seen jml ts i ≡ k.New → Good jml ts (Spelt jml ts (suc room) q 18 i) (suc room) i (r.made jml ts room nest q i)
    unfolding r.made
    made_good q i h =
        if_good jml ts (Spelt jml ts (suc room) q 18 i) (suc room) i jml _ _
        (λ m. refused jml ts (suc room) i i (omega arith))
        (λ m.
        if_good jml ts (Spelt jml ts (suc room) q 18 i) (suc room) i (steps.sees jml ts (i + 2) k.OpenParen) _ _
        (λ c. new_object_good q i m h (seen_is jml ts (i + 2) k.OpenParen c))
        (λ c. new_array_good q i m h))

    result_good : (q i : ℕ) → seen jml ts i ≡ k.BackslashResult → Good jml ts (Spelt jml ts (suc room) q 18 i) (suc room) i (r.result_word jml ts i)
    unfolding r.result_word
    result_good q i h =
        if_good jml ts (Spelt jml ts (suc room) q 18 i) (suc room) i jml _ _ (λ m. (g.result m h, omega arith)) (λ m. refused jml ts (suc room) i i (omega arith))

    integer_good : (q i : ℕ) → seen jml ts i ≡ k.Integer → Good jml ts (Spelt jml ts (suc room) q 18 i) (suc room) i (r.integer jml ts i)
    unfolding r.integer
    integer_good q i h =
        if_good jml ts (Spelt jml ts (suc room) q 18 i) (suc room) i (ltb (value_at ts i) (big_at ts i)) _ _
        (λ c. let low : value_at ts i < big_at ts i = grind arith in (g.integer h low, omega arith))
        (λ c.
        if_good jml ts (Spelt jml ts (suc room) q 18 i) (suc room) i (eqb (value_at ts i) (big_at ts i)) _ _
        (λ d. record { at = i; behind = omega arith; span = refl; literal = h; number = eqb-true (value_at ts i) (big_at ts i) d; before = inl refl })
        (λ d. refused jml ts (suc room) i i (omega arith)))

    -- ---- quantifiers

    same_name_good : (n o x i : ℕ) → o ≤ i → Good jml ts (λ u. (seen jml ts i ≡ k.Name) × (text_at ts i ≡ text_at ts x)) n o (r.same_name jml ts x i)
    unfolding r.same_name
    same_name_good n o x i le =
        then jml ts (λ u. seen jml ts i ≡ k.Name) (λ u. (seen jml ts i ≡ k.Name) × (text_at ts i ≡ text_at ts x)) n o _ _ (expect_good jml ts n o i k.Name le)
        (λ u h. weaker jml ts (λ u. text_at ts i ≡ text_at ts x) (λ u. (seen jml ts i ≡ k.Name) × (text_at ts i ≡ text_at ts x)) n o _ (λ u t. (h, t)) (text_good n o i (text_at ts x) le))

    bound_good : (n o i : ℕ) → o ≤ i → Good jml ts (λ b. bound_of (seen jml ts i) ≡ Some b) n o (r.bound jml ts i)
    unfolding r.bound
    bound_good n o i le = option_good jml ts (λ b. bound_of (seen jml ts i) ≡ Some b) n o (bound_of (seen jml ts i)) (Err (steps.refusal_at ts i)) Ok (λ h. refused jml ts n o i le) (λ b h. h)

    record Between (x i : ℕ) (b : (Bound × Bound) × ℕ) : Type 0 where
      low : bound_of (seen jml ts i) ≡ Some b.0.0
      one : seen jml ts (i + 1) ≡ k.Name
      one_is : text_at ts (i + 1) ≡ text_at ts x
      and_then : seen jml ts (i + 2) ≡ k.AndAnd
      two : seen jml ts (i + 3) ≡ k.Name
      two_is : text_at ts (i + 3) ≡ text_at ts x
      high : bound_of (seen jml ts (i + 4)) ≡ Some b.0.1
      behind : b.1 ≡ i + 5

    between_good : (n o x i : ℕ) → o ≤ i → Good jml ts (Between x i) n o (r.between jml ts x i)
    unfolding r.between
    between_good n o x i le =
        then jml ts (λ b. bound_of (seen jml ts i) ≡ Some b) (Between x i) n o _ _ (bound_good n o i le)
        (λ b1 h1.
        then jml ts (λ u. (seen jml ts (i + 1) ≡ k.Name) × (text_at ts (i + 1) ≡ text_at ts x)) (Between x i) n o _ _ (same_name_good n o x (i + 1) (omega arith))
        (λ u h2.
        then jml ts (λ u. seen jml ts (i + 2) ≡ k.AndAnd) (Between x i) n o _ _ (expect_good jml ts n o (i + 2) k.AndAnd (omega arith))
        (λ u h3.
        then jml ts (λ u. (seen jml ts (i + 3) ≡ k.Name) × (text_at ts (i + 3) ≡ text_at ts x)) (Between x i) n o _ _ (same_name_good n o x (i + 3) (omega arith))
        (λ u h4.
        then jml ts (λ b. bound_of (seen jml ts (i + 4)) ≡ Some b) (Between x i) n o _ _ (bound_good n o (i + 4) (omega arith))
        (λ b2 h5. record { low = h1; one = h2.0; one_is = h2.1; and_then = h3; two = h4.0; two_is = h4.1; high = h5; behind = refl })))))

    -- behind the sign of the upper bound
    bound_nest : (q o i j : ℕ) (b : Bound) → o ≤ i → j ≡ i + 1 → bound_of (seen jml ts i) ≡ Some b → Good jml ts (Spelt jml ts room q 13 j) (suc room) o (nest q 13 j)
    bound_nest q o i j b le at h =
        let t = bound_taken jml ts i b h in
        moved jml ts (Spelt jml ts room q 13 j) room (suc room) o j (nest q 13 j) (omega arith) (omega arith) (free_at jml ts o i j (free_unless_head (seen jml ts i) (λ f. let x : None ≡ Some b = ap bound_of (sym f) ∙ h in absurd cc) (λ f. let x : None ≡ Some b = ap bound_of (sym f) ∙ h in absurd cc) (λ f. let x : None ≡ Some b = ap bound_of (sym f) ∙ h in absurd cc)) at) (below q 13 j (omega arith) (omega arith))

    quantified_in_good : (q i : ℕ) (x : Quantifier) → jml ≡ true → seen jml ts i ≡ k.OpenParen → quantifier_of (seen jml ts (i + 1)) ≡ Some x → Good jml ts (Spelt jml ts (suc room) (suc q) 18 i) (suc room) i (r.quantified_in jml ts room nest q x i)
    unfolding r.quantified_in same_kind
    quantified_in_good q i x m h quant =
        let P = Spelt jml ts (suc room) (suc q) 18 i in
        then jml ts (λ u. seen jml ts (i + 2) ≡ k.Int) P (suc room) i _ _ (expect_good jml ts (suc room) i (i + 2) k.Int (omega arith))
        (λ u h2.
        then jml ts (λ u. seen jml ts (i + 3) ≡ k.Name) P (suc room) i _ _ (expect_good jml ts (suc room) i (i + 3) k.Name (omega arith))
        (λ u h3.
        then jml ts (λ u. seen jml ts (i + 4) ≡ k.Semicolon) P (suc room) i _ _ (expect_good jml ts (suc room) i (i + 4) k.Semicolon (omega arith))
        (λ u h4.
        then jml ts (Spelt jml ts room q 13 (i + 5)) P (suc room) i _ _ (nest_good q 13 i (i + 4) (i + 5) k.Semicolon (omega arith) (omega arith) (omega arith) h4 refl refl)
        (λ low s. let f1 = advances jml ts s.0 in
        then jml ts (Between (i + 3) low.1) P (suc room) i _ _ (between_good (suc room) i (i + 3) low.1 (omega arith))
        (λ b t. let at = t.behind in
        then jml ts (Spelt jml ts room q 13 b.1) P (suc room) i _ _ (bound_nest q i (low.1 + 4) b.1 b.0.1 (omega arith) (omega arith) t.high)
        (λ high v. let f2 = advances jml ts v.0 in
        let high_at : Spells jml ts q 13 (low.1 + 5) high.0 high.1 = subst (λ (j : ℕ). Spells jml ts q 13 j high.0 high.1) at v.0 in
        then jml ts (Conj q [] high.1) P (suc room) i _ _ (conjuncts_good q (length ts) [] i high.1 (omega arith))
        (λ es w. let f3 = advances_conjuncts jml ts w.2 in
        then jml ts (λ u. seen jml ts es.1 ≡ k.Semicolon) P (suc room) i _ _ (expect_good jml ts (suc room) i es.1 k.Semicolon (omega arith))
        (λ u h5.
        then jml ts (Enclosed q k.CloseParen (es.1 + 1)) P (suc room) i _ _ (enclosed_good q i es.1 (es.1 + 1) k.Semicolon k.CloseParen (omega arith) refl h5 refl refl)
        (λ body y.
        let conj : Conjuncts jml ts q high.1 es.0 es.1 = subst (λ (l : List Expr). Conjuncts jml ts q high.1 l es.1) (sym w.1) w.2 in
        let deep : nesting_in (exprs es.0) ≤ room = subst (λ (l : List Expr). nesting_in (exprs l) ≤ room) (sym w.1) w.3 in (
          subst (λ (n : ℕ). Spells jml ts (suc q) 18 i (e.Quantified (span_at ts i) x (name_at ts (i + 3)) low.0 b.0.0 high.0 b.0.1 (exprs es.0) body.0) n) (sym y.1)
              (g.quantified m h quant h2 h3 h4 s.0 t.low t.one t.one_is t.and_then t.two t.two_is t.high high_at conj h5 y.2 y.3),
          omega arith,
        ))))))))))

    quantified_good : (q i : ℕ) (x : Quantifier) → jml ≡ true → seen jml ts i ≡ k.OpenParen → quantifier_of (seen jml ts (i + 1)) ≡ Some x → Good jml ts (Spelt jml ts (suc room) q 18 i) (suc room) i (r.quantified jml ts room nest q x i)
    unfolding r.quantified
    quantified_good zero i x m h quant = refused jml ts (suc room) i (i + 1) (omega arith)
    quantified_good (suc q) i x m h quant = quantified_in_good q i x m h quant

    quantifier_by : (i : ℕ) (b : Bool) (x : Quantifier) → jml ≡ b → cond b (quantifier_of (seen jml ts i)) None ≡ Some x → (jml ≡ true) × (quantifier_of (seen jml ts i) ≡ Some x)
    quantifier_by i true x m h = (m, h)
    quantifier_by i false x m h = absurd cc

    quantifier_is : (i : ℕ) (x : Quantifier) → r.quantifier jml ts i ≡ Some x → (jml ≡ true) × (quantifier_of (seen jml ts i) ≡ Some x)
    unfolding r.quantifier
    quantifier_is i x h = quantifier_by i jml x refl h

    opened_good : (q i : ℕ) → seen jml ts i ≡ k.OpenParen → Good jml ts (Spelt jml ts (suc room) q 18 i) (suc room) i (r.opened jml ts room nest q i)
    unfolding r.opened
    opened_good q i h =
        option_good jml ts (Spelt jml ts (suc room) q 18 i) (suc room) i (r.quantifier jml ts (i + 1)) (r.bracketed jml ts room nest q i) (λ x. r.quantified jml ts room nest q x i)
        (λ n. bracketed_good q i h)
        (λ x n. let t = quantifier_is (i + 1) x n in quantified_good q i x t.0 h t.1)

    primary_by_good : (a : Kind) (q i : ℕ) → seen jml ts i ≡ a → Good jml ts (Spelt jml ts (suc room) q 18 i) (suc room) i (r.primary_by jml ts room nest a q i)
    primary_by_good k.Null q i h = (g.null h, omega arith)
    primary_by_good k.True q i h = (g.truth h, omega arith)
    primary_by_good k.False q i h = (g.falsity h, omega arith)
    primary_by_good k.Integer q i h = integer_good q i h
    primary_by_good k.This q i h = (g.this h, omega arith)
    primary_by_good k.Name q i h = named_good q i h
    primary_by_good k.OpenParen q i h = opened_good q i h
    primary_by_good k.New q i h = made_good q i h
    primary_by_good k.BackslashResult q i h = result_good q i h
    primary_by_good k.BackslashOld q i h = old_good q i h
    primary_by_good k.BackslashLockset q i h = lockset_good q i h
    primary_by_good _ q i h = refused jml ts (suc room) i i (omega arith)

    pub primary_good : (q i : ℕ) → Good jml ts (Spelt jml ts (suc room) q 18 i) (suc room) i (r.primary jml ts room nest q i)
    unfolding r.primary
    primary_good q i = primary_by_good (seen jml ts i) q i refl
