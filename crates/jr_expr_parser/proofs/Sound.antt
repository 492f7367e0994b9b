-- What is read is spelled, and each refusal has its cause.
use Rattle.std.proofs.Common.{◌≡◌, ℕ, zero, suc, ◌+◌, ◌-◌, ◌≤◌, ◌<◌, Bool, true, false, cond, eqb, List, length, Option, Some, None, Ok, Err, refl, sym, ap, ◌∙◌, subst, inl, inr, ◌⊎◌, arith}
use Rattle.std.specs.Prelude.{codes}
use Rattle.std.specs.Str.{bytes_eq}
use Rattle.std.proofs.lemmas.Bool.{eqb-true}
use Rattle.std.proofs.lemmas.Slice.Eq.{bytes_eq-Decides}
use Rattle.jr_base.specs.declared.number.Span.{Span}
use Rattle.jr_base.specs.declared.refusal.Refusal.{Refusal}
use Rattle.jr_base.specs.declared.refusal.Refusal.TheVariants as refusal
use Rattle.jr_lexer.specs.declared.kind.Kind.{Kind}
use Rattle.jr_lexer.specs.declared.kind.Kind.TheVariants as k
use Rattle.jr_lexer.specs.Token.{Token}
use Rattle.jr_lexer.specs.Reading.{value_at, big_at, span_at, text_at}
use Rattle.jr_ast.specs.declared.operator.Prefix.{Prefix}
use Rattle.jr_ast.specs.declared.operator.Infix.{Infix}
use Rattle.jr_ast.specs.Expressions.{Expr, exprs}
use Rattle.jr_ast.specs.Expressions as e
use Rattle.jr_expr_parser.specs.declared.operators.Grouping.{Grouping}
use Rattle.jr_expr_parser.specs.declared.operators.Grouping.TheVariants.{Assigns, Chooses, Implies, Once, ToTheLeft}
use Rattle.jr_reading.specs.Seen.{seen, name_at}
use Rattle.jr_expr_parser.specs.Operators.{prefix_of, postfix_of, infix_of, assignment_of, extends, grouping_of}
use Rattle.jr_expr_parser.specs.Nesting.{nesting, is_new_array, is_implied_by}
use Rattle.jr_expr_parser.specs.Grammar.{Spells, Arguments, Listed, Conjuncts}
use Rattle.jr_expr_parser.specs.Grammar as g
use Rattle.jr_reading.specs.LeftOut.{PrintsString}
use Rattle.jr_reading.specs.Outcomes.{Outcome, ◌>>=◌}
use Rattle.jr_reading.specs.Steps.{same_kind}
use Rattle.jr_reading.specs.Steps as steps
use Rattle.jr_reading.proofs.Tokens.{same_is, is_same, seen_is, unseen_is}
use Rattle.jr_expr_parser.specs.BigLiteral.{Unnegated, BigLiteralFrom, is_head}
use Rattle.jr_expr_parser.specs.Reader.{fits, of_level}
use Rattle.jr_expr_parser.specs.Reader as r
use Rattle.jr_expr_parser.proofs.Free.{free_unless_head}
use Rattle.jr_expr_parser.proofs.Causes.{either, Free, Cause, Good, left_out_later, moved, then, weaker, if_good, option_good, refused, expect_good, free_at, Spelt, fits_good, fits_is, Below, is_least_by, level_of_assigns, level_of_chooses, level_of_implies}
use Rattle.jr_expr_parser.proofs.SoundPrimaries.{nest_good, Enclosed, enclosed_good, Args, arguments_good, call_is, primary_good}
use Rattle.jr_expr_parser.proofs.Tokens.{prefix_taken, infix_taken, assignment_taken, advances}

module _ (jml : Bool) (ts : List Token) where
  module _ (room : ℕ) (nest : ℕ → ℕ → ℕ → Outcome Expr) (below : Below jml ts room nest) where
    -- ---- what follows a primary

    goes_by : (a : Expr) (j : ℕ) (x : Kind) → seen jml ts j ≡ x → r.goes_on_by jml ts x a j ≡ true → (seen jml ts j ≡ k.Dot) ⊎ ((seen jml ts j ≡ k.OpenBracket) × (is_new_array a ≡ false))
    goes_by a j k.Dot h g = inl h
    goes_by a j k.OpenBracket h g = inr (h, no_array (is_new_array a) g)
      where
        no_array : (b : Bool) → cond b false true ≡ true → b ≡ false
        no_array true g = absurd cc
        no_array false g = refl
    goes_by a j _ h g = absurd cc

    goes : (a : Expr) (j : ℕ) → r.goes_on jml ts a j ≡ true → (seen jml ts j ≡ k.Dot) ⊎ ((seen jml ts j ≡ k.OpenBracket) × (is_new_array a ≡ false))
    unfolding r.goes_on
    goes a j h = goes_by a j (seen jml ts j) refl h

    prints_is : (j : ℕ) → r.prints_string jml ts j ≡ true → (seen jml ts (j + 3) ≡ k.Text) × (text_at ts (j + 1) ≡ codes "print")
    unfolding r.prints_string
    prints_is j h = go (steps.sees jml ts (j + 3) k.Text) refl h
      where
        go : (b : Bool) → steps.sees jml ts (j + 3) k.Text ≡ b → cond b (bytes_eq (text_at ts (j + 1)) (codes "print")) false ≡ true → (seen jml ts (j + 3) ≡ k.Text) × (text_at ts (j + 1) ≡ codes "print")
        go true s e = (seen_is jml ts (j + 3) k.Text s, (bytes_eq-Decides (text_at ts (j + 1)) (codes "print")).0 e)
        go false s e = absurd cc

    print_by : (j : ℕ) → jml ≡ false → seen jml ts j ≡ k.Dot → seen jml ts (j + 1) ≡ k.Name → seen jml ts (j + 2) ≡ k.OpenParen → seen jml ts (j + 3) ≡ k.Text → text_at ts (j + 1) ≡ codes "print" → PrintsString ts (j + 1)
    print_by j m d n o t x =
        let a : j ≡ j + 1 - 1 = omega arith in let b : j + 2 ≡ j + 1 + 1 = omega arith in let c : j + 3 ≡ j + 1 + 2 = omega arith in
        record { dot = code (j + 1 - 1) k.Dot (is a k.Dot d); name = code (j + 1) k.Name n; text = x; call = code (j + 1 + 1) k.OpenParen (is b k.OpenParen o); string = code (j + 1 + 2) k.Text (is c k.Text t) }
      where
        is : {i h : ℕ} → i ≡ h → (a : Kind) → seen jml ts i ≡ a → seen jml ts h ≡ a
        is e a s = subst (λ (i : ℕ). seen jml ts i ≡ a) e s

        code : (i : ℕ) (a : Kind) → seen jml ts i ≡ a → seen false ts i ≡ a
        code i a s = subst (λ (b : Bool). seen b ts i ≡ a) m s

    invoked_good : (q i j : ℕ) (a : Expr) → jml ≡ false → Spelt jml ts (suc room) q 18 i (a, j) → seen jml ts j ≡ k.Dot → seen jml ts (j + 1) ≡ k.Name → seen jml ts (j + 2) ≡ k.OpenParen → Good jml ts (Spelt jml ts (suc room) q 18 i) (suc room) i (r.invoked jml ts room nest q a j)
    unfolding r.invoked
    invoked_good q i j a m x d n o =
        let f = advances jml ts x.0 in
        if_good jml ts (Spelt jml ts (suc room) q 18 i) (suc room) i (r.prints_string jml ts j) _ _
        (λ h. let t = prints_is j h in record { at = j + 1; behind = omega arith; span = refl; word = inr (print_by j m d n o t.0 t.1) })
        (λ h.
        then jml ts (Args jml ts room nest below q (j + 3)) (Spelt jml ts (suc room) q 18 i) (suc room) i _ _ (arguments_good jml ts room nest below q i (j + 2) (j + 3) (omega arith) (omega arith) o)
        (λ es s. fits_good jml ts room q 18 i es.1 (e.place_of a) (e.CallOf (e.place_of a) a (name_at ts (j + 1)) (exprs es.0)) (g.invoked m x.0 d n o s.0)))

    indexed_good : (q i j : ℕ) (a : Expr) → Spelt jml ts (suc room) q 18 i (a, j) → is_new_array a ≡ false → seen jml ts j ≡ k.OpenBracket → Good jml ts (Spelt jml ts (suc room) q 18 i) (suc room) i (r.indexed jml ts room nest q a j)
    unfolding r.indexed same_kind
    indexed_good q i j a x f o =
        let far = advances jml ts x.0 in
        then jml ts (Enclosed jml ts room nest below q k.CloseBracket (j + 1)) (Spelt jml ts (suc room) q 18 i) (suc room) i _ _ (enclosed_good jml ts room nest below q i j (j + 1) k.OpenBracket k.CloseBracket (omega arith) refl o refl refl)
        (λ b s. fits_good jml ts room q 18 i b.1 (e.place_of a) (e.ElementOf (e.place_of a) a b.0) (subst (λ (m : ℕ). Spells jml ts q 18 i (e.ElementOf (e.place_of a) a b.0) m) (sym s.1) (g.indexed x.0 f o s.2 s.3)))

    member_good : (q i j : ℕ) (a : Expr) → Spelt jml ts (suc room) q 18 i (a, j) → seen jml ts j ≡ k.Dot → Good jml ts (Spelt jml ts (suc room) q 18 i) (suc room) i (r.member jml ts room nest q a j)
    unfolding r.member
    member_good q i j a x d =
        let f = advances jml ts x.0 in
        then jml ts (λ u. seen jml ts (j + 1) ≡ k.Name) (Spelt jml ts (suc room) q 18 i) (suc room) i _ _ (expect_good jml ts (suc room) i (j + 1) k.Name (omega arith))
        (λ u n.
        if_good jml ts (Spelt jml ts (suc room) q 18 i) (suc room) i (r.is_call jml ts (j + 2)) _ _
        (λ c. let t = call_is jml ts room nest below (j + 2) c in invoked_good q i j a t.0 x d n t.1)
        (λ c. (g.field x.0 d n, x.1)))

    suffix_good : (q i j : ℕ) (a : Expr) → Spelt jml ts (suc room) q 18 i (a, j) → r.goes_on jml ts a j ≡ true → Good jml ts (Spelt jml ts (suc room) q 18 i) (suc room) i (r.suffix jml ts room nest q a j)
    unfolding r.suffix same_kind
    suffix_good q i j a x h =
        if_good jml ts (Spelt jml ts (suc room) q 18 i) (suc room) i (steps.sees jml ts j k.OpenBracket) _ _
        (λ c. let o = seen_is jml ts j k.OpenBracket c in index_by o (goes a j h))
        (λ c. member_by c (goes a j h))
      where
        index_by : seen jml ts j ≡ k.OpenBracket → (seen jml ts j ≡ k.Dot) ⊎ ((seen jml ts j ≡ k.OpenBracket) × (is_new_array a ≡ false)) → Good jml ts (Spelt jml ts (suc room) q 18 i) (suc room) i (r.indexed jml ts room nest q a j)
        index_by o (inl d) = let y : k.Dot ≡ k.OpenBracket = sym d ∙ o in absurd cc
        index_by o (inr d) = indexed_good q i j a x d.1 o

        member_by : steps.sees jml ts j k.OpenBracket ≡ false → (seen jml ts j ≡ k.Dot) ⊎ ((seen jml ts j ≡ k.OpenBracket) × (is_new_array a ≡ false)) → Good jml ts (Spelt jml ts (suc room) q 18 i) (suc room) i (r.member jml ts room nest q a j)
        member_by c (inl d) = member_good q i j a x d
        member_by c (inr d) = absurd (unseen_is jml ts j k.OpenBracket c d.0)

    trail_good : (q n i j : ℕ) (a : Expr) → Spelt jml ts (suc room) q 18 i (a, j) → Good jml ts (Spelt jml ts (suc room) q 18 i) (suc room) i (r.trail jml ts room nest q n a j)
    unfolding r.trail
    trail_good q zero i j a x = x
    trail_good q (suc n) i j a x =
        if_good jml ts (Spelt jml ts (suc room) q 18 i) (suc room) i (r.goes_on jml ts a j) _ _
        (λ h. then jml ts (Spelt jml ts (suc room) q 18 i) (Spelt jml ts (suc room) q 18 i) (suc room) i _ _ (suffix_good q i j a x h) (λ y s. trail_good q n i y.1 y.0 s))
        (λ h. x)

    suffixed_good : (q i : ℕ) → Good jml ts (Spelt jml ts (suc room) q 18 i) (suc room) i (r.suffixed jml ts room nest q i)
    unfolding r.suffixed
    suffixed_good q i = then jml ts (Spelt jml ts (suc room) q 18 i) (Spelt jml ts (suc room) q 18 i) (suc room) i _ _ (primary_good jml ts room nest below q i) (λ y s. trail_good q (length ts) i y.1 y.0 s)

    -- ---- operators behind and before their operand

    behind_good : (q n i j : ℕ) (a : Expr) → Spelt jml ts (suc room) q 17 i (a, j) → Good jml ts (Spelt jml ts (suc room) q 17 i) (suc room) i (r.behind jml ts room nest n i a j)
    unfolding r.behind r.postfix
    behind_good q zero i j a x = x
    behind_good q (suc n) i j a x =
        option_good jml ts (Spelt jml ts (suc room) q 17 i) (suc room) i (postfix_of jml (seen jml ts j)) (Ok (a, j)) (λ op. fits room (span_at ts i) (e.Postfixed (span_at ts i) op a) >>= λ a. r.behind jml ts room nest n i a (j + 1))
        (λ h. x)
        (λ op h.
        let y = g.with_postfix x.0 h in
        then jml ts (λ (b : Expr). (b ≡ e.Postfixed (span_at ts i) op a) × (nesting (e.Postfixed (span_at ts i) op a) < suc room)) (Spelt jml ts (suc room) q 17 i) (suc room) i _ _ (fits_is jml ts room q 17 i (j + 1) (span_at ts i) (e.Postfixed (span_at ts i) op a) y)
        (λ b s. behind_good q n i (j + 1) b (subst (λ (b : Expr). Spelt jml ts (suc room) q 17 i (b, j + 1)) (sym s.0) (y, s.1))))

    postfixed_good : (q i : ℕ) → Good jml ts (Spelt jml ts (suc room) q 17 i) (suc room) i (r.postfixed jml ts room nest q i)
    unfolding r.postfixed
    postfixed_good q i = then jml ts (Spelt jml ts (suc room) q 18 i) (Spelt jml ts (suc room) q 17 i) (suc room) i _ _ (suffixed_good q i) (λ y s. behind_good q (length ts) i y.1 y.0 (g.tighter s.0, s.1))

    least_is : (i : ℕ) → r.is_least jml ts i ≡ true → (seen jml ts i ≡ k.Minus) × (seen jml ts (i + 1) ≡ k.Integer) × (value_at ts (i + 1) ≡ big_at ts (i + 1))
    unfolding r.is_least
    least_is i h = go (steps.sees jml ts i k.Minus) (steps.sees jml ts (i + 1) k.Integer) (extends jml (seen jml ts (i + 2))) refl refl h
      where
        go : (x y z : Bool) → steps.sees jml ts i k.Minus ≡ x → steps.sees jml ts (i + 1) k.Integer ≡ y → cond x (cond y (cond z false (eqb (value_at ts (i + 1)) (big_at ts (i + 1)))) false) false ≡ true → (seen jml ts i ≡ k.Minus) × (seen jml ts (i + 1) ≡ k.Integer) × (value_at ts (i + 1) ≡ big_at ts (i + 1))
        go true true false m n e = (seen_is jml ts i k.Minus m, seen_is jml ts (i + 1) k.Integer n, eqb-true (value_at ts (i + 1)) (big_at ts (i + 1)) e)
        go true true true m n e = absurd cc
        go true false z m n e = absurd cc
        go false y z m n e = absurd cc

    -- behind a prefix, which is no `-` before a big literal that is itself its operand
    literal_behind : (i : ℕ) (s : Span) → r.is_least jml ts i ≡ false → is_head (seen jml ts i) ≡ false → BigLiteralFrom jml ts (i + 1) s → BigLiteralFrom jml ts i s
    literal_behind i s isnt head h = record { at = h.at; behind = omega (arith, h.behind); span = h.span; literal = h.literal; number = h.number; before = inr (λ out. go h.before) }
      where
        least : h.at ≡ i + 1 → seen jml ts i ≡ k.Minus → extends jml (seen jml ts (i + 2)) ≡ false → ⊥
        least at m x =
            let yes : r.is_least jml ts i ≡ true = is_least_by jml ts i m (subst (λ (j : ℕ). seen jml ts j ≡ k.Integer) at h.literal) x (subst (λ (j : ℕ). value_at ts j ≡ big_at ts j) at h.number) in
            let both : true ≡ false = sym yes ∙ isnt in absurd cc

        unnegated : h.at ≡ i + 1 → Unnegated jml ts h.at
        unnegated at =
            let before : i ≡ h.at - 1 = omega arith in
            let behind : i + 2 ≡ h.at + 1 = omega arith in
            either (same_kind (seen jml ts i) k.Minus) (Unnegated jml ts h.at)
            (λ m. either (extends jml (seen jml ts (i + 2))) (Unnegated jml ts h.at)
            (λ x. inr (inr (subst (λ (j : ℕ). extends jml (seen jml ts j) ≡ true) behind x)))
            (λ x. absurd (least at (same_is (seen jml ts i) k.Minus m) x)))
            (λ m. inl (λ z. let both : true ≡ false = sym (is_same (seen jml ts i) k.Minus (ap (seen jml ts) before ∙ z)) ∙ m in absurd cc))

        go : (h.at ≡ i + 1) ⊎ (is_head (seen jml ts (i + 1 - 1)) ≡ false → Unnegated jml ts h.at) → Unnegated jml ts h.at
        go (inl at) = unnegated at
        go (inr f) = let e : i ≡ i + 1 - 1 = omega arith in f (subst (λ (j : ℕ). is_head (seen jml ts j) ≡ false) e head)

    cause_behind : (i : ℕ) (f : Refusal) → i < length ts → r.is_least jml ts i ≡ false → is_head (seen jml ts i) ≡ false → Cause jml ts room (i + 1) f → Cause jml ts (suc room) i f
    cause_behind i (refusal.Syntax s) t isnt head h = tt
    cause_behind i (refusal.NotInProfile s) t isnt head h = left_out_later jml ts i (i + 1) s (omega arith) h
    cause_behind i (refusal.BigLiteral s) t isnt head h = literal_behind i s isnt head h
    cause_behind i (refusal.TooDeep s) t isnt head h = omega arith
    cause_behind i _ t isnt head h = absurd h

    no_prefix_head : (a : Kind) (op : Prefix) → prefix_of jml a ≡ Some op → is_head a ≡ false
    no_prefix_head k.If op h = absurd cc
    no_prefix_head k.While op h = absurd cc
    no_prefix_head _ op h = refl

    prefix_nest : (q i : ℕ) (op : Prefix) (o : Outcome Expr) → prefix_of jml (seen jml ts i) ≡ Some op → r.is_least jml ts i ≡ false → Good jml ts (Spelt jml ts room q 16 (i + 1)) room (i + 1) o → Good jml ts (Spelt jml ts room q 16 (i + 1)) (suc room) i o
    prefix_nest q i op (Ok x) p isnt h = h
    prefix_nest q i op (Err f) p isnt h = cause_behind i f (prefix_taken jml ts i op p) isnt (no_prefix_head (seen jml ts i) op p) h

    unary_good : (q i : ℕ) → Good jml ts (Spelt jml ts (suc room) q 16 i) (suc room) i (r.unary jml ts room nest q i)
    unfolding r.unary r.prefix
    unary_good q i =
        if_good jml ts (Spelt jml ts (suc room) q 16 i) (suc room) i (r.is_least jml ts i) _ _
        (λ h. let t = least_is i h in fits_good jml ts room q 16 i (i + 2) (span_at ts i) _ (g.least_integer t.0 t.1 t.2))
        (λ h.
        option_good jml ts (Spelt jml ts (suc room) q 16 i) (suc room) i (prefix_of jml (seen jml ts i)) (r.postfixed jml ts room nest q i) (λ op. nest q 16 (i + 1) >>= λ a. Ok (e.Prefixed (span_at ts i) op a.0, a.1))
        (λ n. weaker jml ts (Spelt jml ts (suc room) q 17 i) (Spelt jml ts (suc room) q 16 i) (suc room) i _ (λ y s. (g.tighter s.0, s.1)) (postfixed_good q i))
        (λ op p.
        let t = prefix_taken jml ts i op p in
        then jml ts (Spelt jml ts room q 16 (i + 1)) (Spelt jml ts (suc room) q 16 i) (suc room) i _ _ (prefix_nest q i op (nest q 16 (i + 1)) p h (below q 16 (i + 1) (omega arith) (omega arith)))
        (λ y s. (g.with_prefix p s.0, omega arith))))

    -- ---- operators between operands

    minus_level : (l : ℕ) (op : Infix) (a : Kind) → a ≡ k.Minus → infix_of jml a ≡ Some (l, op) → 14 ≡ l
    minus_level l op a m h = let x = ap (infix_of jml) (sym m) ∙ h in some_level _ (l, op) x
      where
        some_level : (x y : ℕ × Infix) → Some x ≡ Some y → x.0 ≡ y.0
        some_level x y e = let same : x ≡ y = cc in ap (λ (z : ℕ × Infix). z.0) same

    free_infix : (q l i j m : ℕ) (a : Expr) (op : Infix) → Spells jml ts q l i a j → infix_of jml (seen jml ts j) ≡ Some (l, op) → m ≡ j + 1 → Free jml ts i m
    free_infix q l i j m a op x h at =
        either (same_kind (seen jml ts j) k.Minus) (Free jml ts i m)
        (λ y. let is = same_is (seen jml ts j) k.Minus y in
        let z = minus_level l op (seen jml ts j) is h in
        let p : j ≡ m - 1 = omega arith in (
          λ out. inr (inl (record { first = i; quantifiers = q; operand = a; spelled = subst (λ (n : ℕ). Spells jml ts q 14 i a n) p (subst (λ (l : ℕ). Spells jml ts q l i a j) (sym z) x); outside = out })),
          subst (λ (n : ℕ). is_head (seen jml ts n) ≡ false) p (ap is_head is),
        ))
        (λ y. free_at jml ts i j m (free_unless_head (seen jml ts j)
        (λ z. let w : true ≡ false = sym (is_same (seen jml ts j) k.Minus z) ∙ y in absurd cc)
        (λ z. let w : None ≡ Some (l, op) = ap (infix_of jml) (sym z) ∙ h in absurd cc)
        (λ z. let w : None ≡ Some (l, op) = ap (infix_of jml) (sym z) ∙ h in absurd cc)) at)

    operator_is : (l : ℕ) (j : ℕ) (op : Infix) → r.operator jml ts l j ≡ Some op → infix_of jml (seen jml ts j) ≡ Some (l, op)
    unfolding r.operator
    operator_is l j op e = go (infix_of jml (seen jml ts j)) e
      where
        at : (p : ℕ × Infix) (b : Bool) → eqb p.0 l ≡ b → cond b (Some p.1) None ≡ Some op → Some p ≡ Some (l, op)
        at p true h e = let a : p.0 ≡ l = eqb-true p.0 l h in let b : p.1 ≡ op = cc in ap (λ (x : ℕ). Some (x, p.1)) a ∙ ap (λ (y : Infix). Some (l, y)) b
        at p false h e = absurd cc

        go : (o : Option (ℕ × Infix)) → of_level l o ≡ Some op → o ≡ Some (l, op)
        go None e = absurd cc
        go (Some p) e = at p (eqb p.0 l) refl e

    infixed_good : (q l i j : ℕ) (op : Infix) (a b : Expr) → Spells jml ts q l i (e.Infixed (span_at ts i) op a b) j → Good jml ts (λ (x : Expr). (x ≡ e.Infixed (span_at ts i) op a b) × (nesting (e.Infixed (span_at ts i) op a b) < suc room)) (suc room) i (r.infixed jml ts room nest i op a b)
    unfolding r.infixed
    infixed_good q l i j op a b x = fits_is jml ts room q l i j (span_at ts i) (e.Infixed (span_at ts i) op a b) x

    -- the node with what was read behind it
    infixed_to : (q l i j : ℕ) (op : Infix) (a b : Expr) → Spells jml ts q l i (e.Infixed (span_at ts i) op a b) j → Good jml ts (Spelt jml ts (suc room) q l i) (suc room) i (r.infixed jml ts room nest i op a b >>= λ c. Ok (c, j))
    infixed_to q l i j op a b x =
        then jml ts (λ (y : Expr). (y ≡ e.Infixed (span_at ts i) op a b) × (nesting (e.Infixed (span_at ts i) op a b) < suc room)) (Spelt jml ts (suc room) q l i) (suc room) i _ _ (infixed_good q l i j op a b x)
        (λ c s. subst (λ (c : Expr). Spelt jml ts (suc room) q l i (c, j)) (sym s.0) (x, s.1))

    -- what stands behind an operator between operands
    operand_nest : (q l o j m : ℕ) (a : Expr) (op : Infix) (t : ℕ) → t ≤ 16 → Spells jml ts q l o a j → infix_of jml (seen jml ts j) ≡ Some (l, op) → m ≡ j + 1 → Good jml ts (Spelt jml ts room q t m) (suc room) o (nest q t m)
    operand_nest q l o j m a op t le x h at =
        let f = advances jml ts x in let n = infix_taken jml ts j (l, op) h in
        moved jml ts (Spelt jml ts room q t m) room (suc room) o m (nest q t m) (omega arith) (omega arith) (free_infix q l o j m a op x h at) (below q t m le (omega arith))

    chain_good : (q i j : ℕ) (op : Infix) (a : Expr) → Spells jml ts q 4 i a j → infix_of jml (seen jml ts j) ≡ Some (4, op) → Good jml ts (Spelt jml ts (suc room) q 4 i) (suc room) i (r.chain_behind jml ts room nest q j)
    unfolding r.chain_behind
    chain_good q i j op a x h =
        let f = advances jml ts x in
        then jml ts (Spelt jml ts room q 6 (j + 1)) (Spelt jml ts (suc room) q 4 i) (suc room) i _ _ (operand_nest q 4 i j (j + 1) a op 6 (omega arith) x h refl)
        (λ b s. let d = advances jml ts s.0 in refused jml ts (suc room) i b.1 (omega arith))

    implied_by_good : (q i j : ℕ) (op : Infix) (a : Expr) → Spelt jml ts (suc room) q 5 i (a, j) → is_implied_by a ≡ false → infix_of jml (seen jml ts j) ≡ Some (4, op) → Good jml ts (Spelt jml ts (suc room) q 4 i) (suc room) i (r.implied_by jml ts room nest q 4 i op a j)
    unfolding r.implied_by
    implied_by_good q i j op a x plain h =
        let f = advances jml ts x.0 in
        then jml ts (Spelt jml ts room q 4 (j + 1)) (Spelt jml ts (suc room) q 4 i) (suc room) i _ _ (operand_nest q 4 i j (j + 1) a op 4 (omega arith) (g.tighter x.0) h refl)
        (λ b s.
        if_good jml ts (Spelt jml ts (suc room) q 4 i) (suc room) i (is_implied_by b.0) _ _
        (λ c. chain_good q i j op a (g.tighter x.0) h)
        (λ c. infixed_to q 4 i b.1 op a b.0 (g.implied x.0 plain h s.0 c)))

    implied_good : (q i j : ℕ) (a : Expr) → Spelt jml ts (suc room) q 5 i (a, j) → Good jml ts (Spelt jml ts (suc room) q 4 i) (suc room) i (r.implied jml ts room nest q 4 i a j)
    unfolding r.implied
    implied_good q i j a x =
        option_good jml ts (Spelt jml ts (suc room) q 4 i) (suc room) i (r.operator jml ts 4 j) (Ok (a, j)) (λ op. cond (is_implied_by a) (Ok (a, j)) (r.implied_by jml ts room nest q 4 i op a j))
        (λ h. (g.tighter x.0, x.1))
        (λ op h.
        if_good jml ts (Spelt jml ts (suc room) q 4 i) (suc room) i (is_implied_by a) _ _
        (λ c. (g.tighter x.0, x.1))
        (λ c. implied_by_good q i j op a x c (operator_is 4 j op h)))

    alternatives_good : (q i j : ℕ) (c : Expr) → Spelt jml ts (suc room) q 3 i (c, j) → seen jml ts j ≡ k.Question → Good jml ts (Spelt jml ts (suc room) q 2 i) (suc room) i (r.alternatives jml ts room nest q i c j)
    unfolding r.alternatives same_kind
    alternatives_good q i j c x h =
        let f = advances jml ts x.0 in
        then jml ts (Spelt jml ts room q 1 (j + 1)) (Spelt jml ts (suc room) q 2 i) (suc room) i _ _ (nest_good jml ts room nest below q 1 i j (j + 1) k.Question (omega arith) (omega arith) refl h refl refl)
        (λ a s. let f2 = advances jml ts s.0 in
        then jml ts (λ u. seen jml ts a.1 ≡ k.Colon) (Spelt jml ts (suc room) q 2 i) (suc room) i _ _ (expect_good jml ts (suc room) i a.1 k.Colon (omega arith))
        (λ u z.
        then jml ts (Spelt jml ts room q 2 (a.1 + 1)) (Spelt jml ts (suc room) q 2 i) (suc room) i _ _ (nest_good jml ts room nest below q 2 i a.1 (a.1 + 1) k.Colon (omega arith) (omega arith) refl z refl refl)
        (λ b t. fits_good jml ts room q 2 i b.1 (span_at ts i) (e.Conditional (span_at ts i) c a.0 b.0) (g.chosen x.0 h s.0 z t.0))))

    chosen_good : (q i j : ℕ) (c : Expr) → Spelt jml ts (suc room) q 3 i (c, j) → Good jml ts (Spelt jml ts (suc room) q 2 i) (suc room) i (r.chosen jml ts room nest q i c j)
    unfolding r.chosen
    chosen_good q i j c x =
        if_good jml ts (Spelt jml ts (suc room) q 2 i) (suc room) i (steps.sees jml ts j k.Question) _ _
        (λ h. alternatives_good q i j c x (seen_is jml ts j k.Question h))
        (λ h. (g.tighter x.0, x.1))

    assigned_good : (q i j : ℕ) (a : Expr) → Spelt jml ts (suc room) q 2 i (a, j) → Good jml ts (Spelt jml ts (suc room) q 1 i) (suc room) i (r.assigned jml ts room nest q i a j)
    unfolding r.assigned r.assignment
    assigned_good q i j a x =
        let f = advances jml ts x.0 in
        option_good jml ts (Spelt jml ts (suc room) q 1 i) (suc room) i (assignment_of jml (seen jml ts j)) (Ok (a, j)) (λ op. nest q 1 (j + 1) >>= λ b. fits room (span_at ts i) (e.Assignment (span_at ts i) op a b.0) >>= λ c. Ok (c, b.1))
        (λ h. (g.tighter x.0, x.1))
        (λ op h.
        let n = assignment_taken jml ts j op h in
        then jml ts (Spelt jml ts room q 1 (j + 1)) (Spelt jml ts (suc room) q 1 i) (suc room) i _ _ (moved jml ts (Spelt jml ts room q 1 (j + 1)) room (suc room) i (j + 1) (nest q 1 (j + 1)) (omega arith) (omega arith) (free_at jml ts i j (j + 1) (free_unless_head (seen jml ts j) (λ z. let w : None ≡ Some op = ap (assignment_of jml) (sym z) ∙ h in absurd cc) (λ z. let w : None ≡ Some op = ap (assignment_of jml) (sym z) ∙ h in absurd cc) (λ z. let w : None ≡ Some op = ap (assignment_of jml) (sym z) ∙ h in absurd cc)) refl) (below q 1 (j + 1) (omega arith) (omega arith)))
        (λ b s. fits_good jml ts room q 1 i b.1 (span_at ts i) (e.Assignment (span_at ts i) op a b.0) (g.assigned x.0 h s.0)))

    module _ (q l : ℕ) (inner : ℕ → Outcome Expr) (inside : (i : ℕ) → Good jml ts (Spelt jml ts (suc room) q (suc l) i) (suc room) i (inner i)) where
      -- what stands behind an operator of the level
      operand_good : (i j : ℕ) (a : Expr) (op : Infix) → Spells jml ts q l i a j → infix_of jml (seen jml ts j) ≡ Some (l, op) → Good jml ts (Spelt jml ts (suc room) q (suc l) (j + 1)) (suc room) i (inner (j + 1))
      operand_good i j a op x h =
          let f = advances jml ts x in
          moved jml ts (Spelt jml ts (suc room) q (suc l) (j + 1)) (suc room) (suc room) i (j + 1) (inner (j + 1)) (omega arith) (omega arith) (free_infix q l i j (j + 1) a op x h refl) (inside (j + 1))

      climb_good : grouping_of l ≡ ToTheLeft → (n i j : ℕ) (a : Expr) → Spelt jml ts (suc room) q l i (a, j) → Good jml ts (Spelt jml ts (suc room) q l i) (suc room) i (r.climb jml ts room nest inner n l i a j)
      unfolding r.climb
      climb_good is zero i j a x = x
      climb_good is (suc n) i j a x =
          option_good jml ts (Spelt jml ts (suc room) q l i) (suc room) i (r.operator jml ts l j) (Ok (a, j)) (λ op. inner (j + 1) >>= λ b. r.infixed jml ts room nest i op a b.0 >>= λ a. r.climb jml ts room nest inner n l i a b.1)
          (λ h. x)
          (λ op h. let o = operator_is l j op h in
          then jml ts (Spelt jml ts (suc room) q (suc l) (j + 1)) (Spelt jml ts (suc room) q l i) (suc room) i _ _ (operand_good i j a op x.0 o)
          (λ b s. let y = g.to_the_left is x.0 o s.0 in
          then jml ts (λ (c : Expr). (c ≡ e.Infixed (span_at ts i) op a b.0) × (nesting (e.Infixed (span_at ts i) op a b.0) < suc room)) (Spelt jml ts (suc room) q l i) (suc room) i _ _ (infixed_good q l i b.1 op a b.0 y)
          (λ c t. climb_good is n i b.1 c (subst (λ (c : Expr). Spelt jml ts (suc room) q l i (c, b.1)) (sym t.0) (y, t.1)))))

      left_good : grouping_of l ≡ ToTheLeft → (i : ℕ) → Good jml ts (Spelt jml ts (suc room) q l i) (suc room) i (r.to_the_left jml ts room nest inner l i)
      unfolding r.to_the_left
      left_good is i = then jml ts (Spelt jml ts (suc room) q (suc l) i) (Spelt jml ts (suc room) q l i) (suc room) i _ _ (inside i) (λ a s. climb_good is (length ts) i a.1 a.0 (g.tighter s.0, s.1))

      once_good : grouping_of l ≡ Once → (i : ℕ) → Good jml ts (Spelt jml ts (suc room) q l i) (suc room) i (r.once jml ts room nest inner l i)
      unfolding r.once
      once_good is i =
          then jml ts (Spelt jml ts (suc room) q (suc l) i) (Spelt jml ts (suc room) q l i) (suc room) i _ _ (inside i)
          (λ a s.
          option_good jml ts (Spelt jml ts (suc room) q l i) (suc room) i (r.operator jml ts l a.1) (Ok a) (λ op. inner (a.1 + 1) >>= λ b. r.infixed jml ts room nest i op a.0 b.0 >>= λ c. Ok (c, b.1))
          (λ h. (g.tighter s.0, s.1))
          (λ op h. let o = operator_is l a.1 op h in
          then jml ts (Spelt jml ts (suc room) q (suc l) (a.1 + 1)) (Spelt jml ts (suc room) q l i) (suc room) i _ _ (operand_good i a.1 a.0 op (g.tighter s.0) o)
          (λ b t. infixed_to q l i b.1 op a.0 b.0 (g.once is s.0 o t.0))))

    abbrev Inner : ℕ → ℕ → (ℕ → Outcome Expr) → Type 0
    Inner q l inner = (i : ℕ) → Good jml ts (Spelt jml ts (suc room) q (suc l) i) (suc room) i (inner i)

    assigns_good : (q i : ℕ) (inner : ℕ → Outcome Expr) → Inner q 1 inner → Good jml ts (Spelt jml ts (suc room) q 1 i) (suc room) i (r.assigns jml ts room nest inner q i)
    unfolding r.assigns
    assigns_good q i inner inside = then jml ts (Spelt jml ts (suc room) q 2 i) (Spelt jml ts (suc room) q 1 i) (suc room) i _ _ (inside i) (λ a s. assigned_good q i a.1 a.0 s)

    chooses_good : (q i : ℕ) (inner : ℕ → Outcome Expr) → Inner q 2 inner → Good jml ts (Spelt jml ts (suc room) q 2 i) (suc room) i (r.chooses jml ts room nest inner q i)
    unfolding r.chooses
    chooses_good q i inner inside = then jml ts (Spelt jml ts (suc room) q 3 i) (Spelt jml ts (suc room) q 2 i) (suc room) i _ _ (inside i) (λ a s. chosen_good q i a.1 a.0 s)

    implies_good : (q i : ℕ) (inner : ℕ → Outcome Expr) → Inner q 4 inner → Good jml ts (Spelt jml ts (suc room) q 4 i) (suc room) i (r.implies jml ts room nest inner q 4 i)
    unfolding r.implies
    implies_good q i inner inside = then jml ts (Spelt jml ts (suc room) q 5 i) (Spelt jml ts (suc room) q 4 i) (suc room) i _ _ (inside i) (λ a s. implied_good q i a.1 a.0 s)

    grouped_good : (x : Grouping) (q l i : ℕ) (inner : ℕ → Outcome Expr) → grouping_of l ≡ x → Inner q l inner → Good jml ts (Spelt jml ts (suc room) q l i) (suc room) i (r.grouped jml ts room nest inner x q l i)
    grouped_good Assigns q l i inner is inside =
        let at = level_of_assigns jml ts l is in
        subst (λ (n : ℕ). Good jml ts (Spelt jml ts (suc room) q n i) (suc room) i (r.assigns jml ts room nest inner q i)) (sym at) (assigns_good q i inner (subst (λ (n : ℕ). Inner q n inner) at inside))
    grouped_good Chooses q l i inner is inside =
        let at = level_of_chooses jml ts l is in
        subst (λ (n : ℕ). Good jml ts (Spelt jml ts (suc room) q n i) (suc room) i (r.chooses jml ts room nest inner q i)) (sym at) (chooses_good q i inner (subst (λ (n : ℕ). Inner q n inner) at inside))
    grouped_good Implies q l i inner is inside =
        let at = level_of_implies jml ts l is in
        subst (λ (n : ℕ). Good jml ts (Spelt jml ts (suc room) q n i) (suc room) i (r.implies jml ts room nest inner q n i)) (sym at) (implies_good q i inner (subst (λ (n : ℕ). Inner q n inner) at inside))
    grouped_good Once q l i inner is inside = once_good q l inner inside is i
    grouped_good ToTheLeft q l i inner is inside = left_good q l inner inside is i

    levels_good : (q n l i : ℕ) → l + n ≡ 16 → Good jml ts (Spelt jml ts (suc room) q l i) (suc room) i (r.levels jml ts room nest q n l i)
    unfolding r.levels
    levels_good q zero l i sum = let at : 16 ≡ l = omega arith in subst (λ (m : ℕ). Good jml ts (Spelt jml ts (suc room) q m i) (suc room) i (r.unary jml ts room nest q i)) at (unary_good q i)
    levels_good q (suc n) l i sum = grouped_good (grouping_of l) q l i (λ i. r.levels jml ts room nest q n (suc l) i) refl (λ i. levels_good q n (suc l) i (omega arith))

  -- ---- all depths

  nested_good : (room q l i : ℕ) → l ≤ 16 → i ≤ length ts → Good jml ts (Spelt jml ts room q l i) room i (r.nested jml ts room q l i)
  unfolding r.nested
  nested_good zero q l i low le = omega arith
  nested_good (suc room) q l i low le = levels_good room (r.nested jml ts room) (λ q l i low le. nested_good room q l i low le) q (16 - l) l i (omega arith)

  pub read_good : (room q l i : ℕ) → l ≤ 16 → Good jml ts (Spelt jml ts (suc room) q l i) (suc room) i (r.nested jml ts (suc room) q l i)
  unfolding r.nested
  read_good room q l i low = levels_good room (r.nested jml ts room) (λ q l i low le. nested_good room q l i low le) q (16 - l) l i (omega arith)
