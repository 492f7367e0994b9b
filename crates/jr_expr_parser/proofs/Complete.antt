-- What is spelled is read, or is too deep for the reader.
use Rattle.std.proofs.Common.{◌≡◌, ℕ, zero, suc, ◌+◌, ◌-◌, ◌≤◌, ◌<◌, Bool, true, false, cond, eqb, ltb, leb, List, [], ◌∷◌, ◌++◌, length, Some, None, Ok, Err, refl, sym, ap, ◌∙◌, subst, inr, append_assoc, arith}
use Rattle.std.specs.Prelude.{codes}
use Rattle.std.proofs.lemmas.List.{append-nil}
use Rattle.jr_lexer.specs.declared.kind.Kind.{Kind}
use Rattle.jr_lexer.specs.declared.kind.Kind.TheVariants as k
use Rattle.jr_lexer.specs.Token.{Token}
use Rattle.jr_lexer.specs.Reading.{value_at, big_at, span_at, text_at}
use Rattle.jr_ast.specs.declared.name.ElementType.{ElementType}
use Rattle.jr_ast.specs.declared.operator.Prefix.{Prefix}
use Rattle.jr_ast.specs.declared.operator.Prefix.TheVariants.{Negate}
use Rattle.jr_ast.specs.declared.operator.Postfix.{Postfix}
use Rattle.jr_ast.specs.declared.operator.Infix.{Infix}
use Rattle.jr_ast.specs.declared.operator.AssignOp.{AssignOp}
use Rattle.jr_ast.specs.declared.expr.Bound.{Bound}
use Rattle.jr_ast.specs.declared.expr.Quantifier.{Quantifier}
use Rattle.jr_ast.specs.Expressions.{Expr, exprs}
use Rattle.jr_ast.specs.Expressions as e
use Rattle.jr_expr_parser.specs.declared.operators.Grouping.{Grouping}
use Rattle.jr_expr_parser.specs.declared.operators.Grouping.TheVariants.{Assigns, Chooses, Implies, Once, ToTheLeft}
use Rattle.jr_reading.specs.Seen.{seen, name_at, literal_at}
use Rattle.jr_expr_parser.specs.Operators.{prefix_of, postfix_of, infix_of, assignment_of, bound_of, quantifier_of, extends, reach, grouping_of}
use Rattle.jr_expr_parser.specs.Nesting.{nesting, nesting_in, is_new_array, is_implied_by}
use Rattle.jr_expr_parser.specs.Grammar.{Spells, Arguments, Listed, Conjuncts}
use Rattle.jr_expr_parser.specs.Grammar as g
use Rattle.jr_reading.specs.Types.{element_of}
use Rattle.jr_reading.specs.Outcomes.{Outcome, ◌>>=◌, one_or}
use Rattle.jr_reading.specs.Steps.{same_kind}
use Rattle.jr_reading.specs.Steps as steps
use Rattle.jr_reading.proofs.Tokens.{taken, seen_is, sees_it, sees_not, sees_other, expected, text_is}
use Rattle.jr_expr_parser.specs.Reader.{fits}
use Rattle.jr_expr_parser.specs.Reader as r
use Rattle.jr_expr_parser.proofs.Tokens.{postfix_taken, infix_taken, advances, advances_arguments}
use Rattle.jr_expr_parser.proofs.Agrees.{Agrees, agrees_as, agrees_to, on, on_ok, if_true, if_false, or_some, or_none, more, fits_agrees, Comes, comes_then, comes_on, comes_to, comes_as, infix_reach, postfix_reach, assignment_reach, starts_no_quantifier, no_operator, an_operator, no_postfix, no_assignment, reach_is, goes_not, Opens, opens, starts}
use Rattle.std.proofs.lemmas.Bool.{eqb-true}
use Rattle.jr_expr_parser.proofs.Causes.{is_least_by, level_of_assigns, level_of_chooses}

module _ (jml : Bool) (ts : List Token) where
  -- what may stand behind a name, so that it is read as a variable
  abbrev pub Follows : ℕ → Type 0
  Follows j = (jml ≡ false → seen jml ts j ≡ k.OpenParen → ⊥) × (seen jml ts j ≡ k.Dot → seen jml ts (j + 1) ≡ k.Class → ⊥)

  -- one that reads has come to go on from index j, with turns enough for what is left
  abbrev pub Way : ℕ → ℕ → Outcome Expr → ℕ → (ℕ → Outcome Expr) → Type 0
  Way c n o j p = (turns : ℕ) × (length ts ≤ turns + j) × Comes (suc c) n o (p turns)

  -- what is known of a spelled expression, of a reader that may open c constructs more
  pub record Found (c q l i : ℕ) (a : Expr) (j : ℕ) : Type 0 where
    -- a primary, so far
    pub trails : l ≡ 18 → Follows j → Way c (nesting a) (r.suffixed jml ts c (r.nested jml ts c) q i) j (λ n. r.trail jml ts c (r.nested jml ts c) q n a j)
    -- increments behind it, so far
    pub posts : l ≡ 17 → reach (seen jml ts j) < 18 → Way c (nesting a) (r.postfixed jml ts c (r.nested jml ts c) q i) j (λ n. r.behind jml ts c (r.nested jml ts c) n i a j)
    -- operators of a level that groups to the left, so far
    pub climbs : grouping_of l ≡ ToTheLeft → l ≤ 15 → reach (seen jml ts j) < suc l → Way c (nesting a) (r.levels jml ts c (r.nested jml ts c) q (16 - l) l i) j (λ n. r.climb jml ts c (r.nested jml ts c) (λ i. r.levels jml ts c (r.nested jml ts c) q (15 - l) (suc l) i) n l i a j)
    -- where it ends, it is read
    pub complete : l ≤ 16 → reach (seen jml ts j) < l → Agrees (suc c) (nesting a) (r.levels jml ts c (r.nested jml ts c) q (16 - l) l i) (a, j)

  -- the same inside one construct, for every reader
  abbrev pub Under : ℕ → ℕ → ℕ → Expr → ℕ → Type 0
  Under q l i a j = (c : ℕ) → Agrees c (nesting a) (r.nested jml ts c q l i) (a, j)

  under_found : (q l i j : ℕ) (a : Expr) → ((c : ℕ) → Found c q l i a j) → l ≤ 16 → reach (seen jml ts j) < l → Under q l i a j
  unfolding r.nested
  under_found q l i j a f low ends zero = omega arith
  under_found q l i j a f low ends (suc c) = (f c).complete low ends

  ends_by : (j : ℕ) (a : Kind) (l : ℕ) → seen jml ts j ≡ a → reach a < l → reach (seen jml ts j) < l
  ends_by j a l h le = let z = reach_is jml ts j a h in omega arith

  pub follows_end : (j : ℕ) → reach (seen jml ts j) < 18 → Follows j
  follows_end j ends = ((λ m o. let z = reach_is jml ts j k.OpenParen o in absurd (omega arith)), (λ d c. let z = reach_is jml ts j k.Dot d in absurd (omega arith)))

  follows_name : (j : ℕ) → seen jml ts j ≡ k.Dot → seen jml ts (j + 1) ≡ k.Name → Follows j
  follows_name j d n = ((λ m o. let z : k.Dot ≡ k.OpenParen = sym d ∙ o in absurd cc), (λ d c. let z : k.Name ≡ k.Class = sym n ∙ c in absurd cc))

  follows_bracket : (j : ℕ) → seen jml ts j ≡ k.OpenBracket → Follows j
  follows_bracket j b = ((λ m o. let z : k.OpenBracket ≡ k.OpenParen = sym b ∙ o in absurd cc), (λ d c. let z : k.OpenBracket ≡ k.Dot = sym b ∙ d in absurd cc))

  module _ (c : ℕ) where
    -- ---- records with the fields that matter at a level

    alone : (q i j : ℕ) (a : Expr) → (Follows j → Way c (nesting a) (r.suffixed jml ts c (r.nested jml ts c) q i) j (λ n. r.trail jml ts c (r.nested jml ts c) q n a j)) → Found c q 18 i a j
    alone q i j a f = record { trails = λ e s. f s; posts = λ e. absurd (omega arith); climbs = λ g le. absurd (omega arith); complete = λ le. absurd (omega arith) }

    behind_alone : (q i j : ℕ) (a : Expr) → (reach (seen jml ts j) < 18 → Way c (nesting a) (r.postfixed jml ts c (r.nested jml ts c) q i) j (λ n. r.behind jml ts c (r.nested jml ts c) n i a j)) → Found c q 17 i a j
    behind_alone q i j a f = record { trails = λ e. absurd (omega arith); posts = λ e s. f s; climbs = λ g le. absurd (omega arith); complete = λ le. absurd (omega arith) }

    not_left : (q l i j : ℕ) (a : Expr) → l ≤ 16 → (l ≤ 15 → grouping_of l ≡ ToTheLeft → ⊥) → (reach (seen jml ts j) < l → Agrees (suc c) (nesting a) (r.levels jml ts c (r.nested jml ts c) q (16 - l) l i) (a, j)) → Found c q l i a j
    not_left q l i j a low other f = record { trails = λ e. absurd (omega arith); posts = λ e. absurd (omega arith); climbs = λ g le. absurd (other le g); complete = λ le s. f s }

    -- one level over the next
    unroll : (q l i : ℕ) → l ≤ 15 → r.levels jml ts c (r.nested jml ts c) q (16 - l) l i ≡ r.grouped jml ts c (r.nested jml ts c) (λ i. r.levels jml ts c (r.nested jml ts c) q (15 - l) (suc l) i) (grouping_of l) q l i
    unfolding r.levels
    unroll q l i le = let n : 16 - l ≡ suc (15 - l) = omega arith in ap (λ n. r.levels jml ts c (r.nested jml ts c) q n l i) n

    unroll_as : (q l i : ℕ) (x : Grouping) → l ≤ 15 → grouping_of l ≡ x → r.levels jml ts c (r.nested jml ts c) q (16 - l) l i ≡ r.grouped jml ts c (r.nested jml ts c) (λ i. r.levels jml ts c (r.nested jml ts c) q (15 - l) (suc l) i) x q l i
    unroll_as q l i x le is = unroll q l i le ∙ ap (λ x. r.grouped jml ts c (r.nested jml ts c) (λ i. r.levels jml ts c (r.nested jml ts c) q (15 - l) (suc l) i) x q l i) is

    -- the next level, as it stands in one
    inner_found : (q l i j : ℕ) (a : Expr) → Found c q (suc l) i a j → l ≤ 15 → reach (seen jml ts j) < suc l → Agrees (suc c) (nesting a) (r.levels jml ts c (r.nested jml ts c) q (15 - l) (suc l) i) (a, j)
    inner_found q l i j a f low ends =
        let n : 15 - l ≡ 16 - suc l = omega arith in
        agrees_as (suc c) (nesting a) _ _ (a, j) (ap (λ n. r.levels jml ts c (r.nested jml ts c) q n (suc l) i) n) (f.complete (omega arith) ends)

    -- ---- operators between operands

    climbed : (q l n i j : ℕ) (a : Expr) → reach (seen jml ts j) < l → r.climb jml ts c (r.nested jml ts c) (λ i. r.levels jml ts c (r.nested jml ts c) q (15 - l) (suc l) i) n l i a j ≡ Ok (a, j)
    unfolding r.climb
    climbed q l zero i j a ends = refl
    climbed q l (suc n) i j a ends = ap (λ o. one_or o (Ok (a, j)) (λ op. r.levels jml ts c (r.nested jml ts c) q (15 - l) (suc l) (j + 1) >>= λ b. r.infixed jml ts c (r.nested jml ts c) i op a b.0 >>= λ d. r.climb jml ts c (r.nested jml ts c) (λ i. r.levels jml ts c (r.nested jml ts c) q (15 - l) (suc l) i) n l i d b.1)) (no_operator jml ts l j ends)

    left : (q l i j : ℕ) (a : Expr) → l ≤ 15 → grouping_of l ≡ ToTheLeft → (reach (seen jml ts j) < suc l → Way c (nesting a) (r.levels jml ts c (r.nested jml ts c) q (16 - l) l i) j (λ n. r.climb jml ts c (r.nested jml ts c) (λ i. r.levels jml ts c (r.nested jml ts c) q (15 - l) (suc l) i) n l i a j)) → Found c q l i a j
    left q l i j a low is f = record {
      trails = λ e. absurd (omega arith);
      posts = λ e. absurd (omega arith);
      climbs = λ g le s. f s;
      complete = λ le s. let w = f (omega arith) in comes_to (suc c) (nesting a) _ _ (a, j) w.2 (climbed q l w.0 i j a s);
    }

    infixed_agrees : (i : ℕ) (op : Infix) (a b : Expr) → Agrees (suc c) (nesting (e.Infixed (span_at ts i) op a b)) (r.infixed jml ts c (r.nested jml ts c) i op a b) (e.Infixed (span_at ts i) op a b)
    unfolding r.infixed
    infixed_agrees i op a b = fits_agrees c (span_at ts i) (e.Infixed (span_at ts i) op a b)

    left_found : (q l i j m : ℕ) (a b : Expr) (op : Infix) → j < m → grouping_of l ≡ ToTheLeft → Found c q l i a j → infix_of jml (seen jml ts j) ≡ Some (l, op) → Found c q (suc l) (j + 1) b m → Found c q l i (e.Infixed (span_at ts i) op a b) m
    unfolding r.climb
    left_found q l i j m a b op far is f1 h f2 =
        let low = infix_reach jml (seen jml ts j) (l, op) h in
        let t = f1.climbs is (omega arith) (omega arith) in
        left q l i m (e.Infixed (span_at ts i) op a b) (omega arith) is (λ s. go t.0 t.1 t.2 s)
      where
        inner : ℕ → Outcome Expr
        inner i = r.levels jml ts c (r.nested jml ts c) q (15 - l) (suc l) i

        node : Expr
        node = e.Infixed (span_at ts i) op a b

        after : ℕ → Expr × ℕ → Outcome Expr
        after n b = r.infixed jml ts c (r.nested jml ts c) i op a b.0 >>= λ d. r.climb jml ts c (r.nested jml ts c) (λ i. r.levels jml ts c (r.nested jml ts c) q (15 - l) (suc l) i) n l i d b.1

        go : (n : ℕ) → length ts ≤ n + j → Comes (suc c) (nesting a) (r.levels jml ts c (r.nested jml ts c) q (16 - l) l i) (r.climb jml ts c (r.nested jml ts c) (λ i. r.levels jml ts c (r.nested jml ts c) q (15 - l) (suc l) i) n l i a j) → reach (seen jml ts m) < suc l
            → Way c (nesting (e.Infixed (span_at ts i) op a b)) (r.levels jml ts c (r.nested jml ts c) q (16 - l) l i) m (λ n. r.climb jml ts c (r.nested jml ts c) (λ i. r.levels jml ts c (r.nested jml ts c) q (15 - l) (suc l) i) n l i (e.Infixed (span_at ts i) op a b) m)
        go zero le t s = absurd (omega (arith, infix_taken jml ts j (l, op) h))
        go (suc n) le t s =
            let low = infix_reach jml (seen jml ts j) (l, op) h in
            let taken = infix_taken jml ts j (l, op) h in
            let one : r.climb jml ts c (r.nested jml ts c) (λ i. r.levels jml ts c (r.nested jml ts c) q (15 - l) (suc l) i) (suc n) l i a j ≡ (inner (j + 1) >>= after n) = ap (λ o. one_or o (Ok (a, j)) (λ op. r.levels jml ts c (r.nested jml ts c) q (15 - l) (suc l) (j + 1) >>= λ b. r.infixed jml ts c (r.nested jml ts c) i op a b.0 >>= λ d. r.climb jml ts c (r.nested jml ts c) (λ i. r.levels jml ts c (r.nested jml ts c) q (15 - l) (suc l) i) n l i d b.1)) (an_operator jml ts l op j h) in
            let two : Comes (suc c) (nesting node) (inner (j + 1) >>= after n) (after n (b, m)) = comes_then (suc c) (suc c) (nesting b) (nesting node) _ (b, m) (after n) (λ z. omega arith) (inner_found q l (j + 1) m b f2 (omega arith) s) in
            let three : Comes (suc c) (nesting node) (after n (b, m)) (r.climb jml ts c (r.nested jml ts c) (λ i. r.levels jml ts c (r.nested jml ts c) q (15 - l) (suc l) i) n l i node m) = comes_then (suc c) (suc c) (nesting node) (nesting node) _ node (λ d. r.climb jml ts c (r.nested jml ts c) (λ i. r.levels jml ts c (r.nested jml ts c) q (15 - l) (suc l) i) n l i d m) (λ z. z) (infixed_agrees i op a b) in
            (n, omega arith, comes_on (suc c) (nesting a) (nesting node) _ _ _ (omega arith) t (comes_on (suc c) (nesting node) (nesting node) _ _ _ (omega arith) (inr one) (comes_on (suc c) (nesting node) (nesting node) _ _ _ (omega arith) two three)))

    once_left : (l : ℕ) → grouping_of l ≡ Once → grouping_of l ≡ ToTheLeft → ⊥
    once_left l is g = let x : Once ≡ ToTheLeft = sym is ∙ g in absurd cc

    once_found : (q l i j m : ℕ) (a b : Expr) (op : Infix) → grouping_of l ≡ Once → Found c q (suc l) i a j → infix_of jml (seen jml ts j) ≡ Some (l, op) → Found c q (suc l) (j + 1) b m → Found c q l i (e.Infixed (span_at ts i) op a b) m
    unfolding r.once
    once_found q l i j m a b op is f1 h f2 =
        let low = infix_reach jml (seen jml ts j) (l, op) h in
        not_left q l i m (e.Infixed (span_at ts i) op a b) (omega arith) (λ le. once_left l is)
        (λ s. agrees_as _ _ _ _ _ (unroll_as q l i Once (omega arith) is)
        (on (suc c) (suc c) (nesting a) _ _ (a, j) _ _ (λ z. omega arith) (inner_found q l i j a f1 (omega arith) (omega arith))
        (or_some _ _ _ op _ _ _ (an_operator jml ts l op j h)
        (on (suc c) (suc c) (nesting b) _ _ (b, m) _ _ (λ z. omega arith) (inner_found q l (j + 1) m b f2 (omega arith) (omega arith))
        (on (suc c) (suc c) (nesting (e.Infixed (span_at ts i) op a b)) _ _ (e.Infixed (span_at ts i) op a b) _ _ (λ z. z) (infixed_agrees i op a b) refl)))))

    implied_found : (q i j m : ℕ) (a b : Expr) (op : Infix) → Found c q 5 i a j → is_implied_by a ≡ false → infix_of jml (seen jml ts j) ≡ Some (4, op) → (reach (seen jml ts m) < 4 → Under q 4 (j + 1) b m) → is_implied_by b ≡ false → Found c q 4 i (e.Infixed (span_at ts i) op a b) m
    unfolding r.implies r.implied r.implied_by grouping_of
    implied_found q i j m a b op f1 p h u p2 =
        let low = infix_reach jml (seen jml ts j) (4, op) h in
        not_left q 4 i m (e.Infixed (span_at ts i) op a b) (omega arith) (λ le g. let x : Implies ≡ ToTheLeft = g in absurd cc)
        (λ s. agrees_as _ _ _ _ _ (unroll_as q 4 i Implies (omega arith) refl)
        (on (suc c) (suc c) (nesting a) _ _ (a, j) _ _ (λ z. omega arith) (inner_found q 4 i j a f1 (omega arith) (omega arith))
        (or_some _ _ _ op _ _ _ (an_operator jml ts 4 op j h)
        (if_false _ _ _ _ _ _ p
        (on c (suc c) (nesting b) _ _ (b, m) _ _ (λ z. omega arith) (u s c)
        (if_false _ _ _ _ _ _ p2
        (on (suc c) (suc c) (nesting (e.Infixed (span_at ts i) op a b)) _ _ (e.Infixed (span_at ts i) op a b) _ _ (λ z. z) (infixed_agrees i op a b) refl)))))))

    chosen_found : (q i j m n : ℕ) (d a b : Expr) → Found c q 3 i d j → seen jml ts j ≡ k.Question → Under q 1 (j + 1) a m → seen jml ts m ≡ k.Colon → (reach (seen jml ts n) < 2 → Under q 2 (m + 1) b n) → Found c q 2 i (e.Conditional (span_at ts i) d a b) n
    unfolding r.chooses r.chosen r.alternatives grouping_of
    chosen_found q i j m n d a b f1 h u z v =
        not_left q 2 i n (e.Conditional (span_at ts i) d a b) (omega arith) (λ le g. let x : Chooses ≡ ToTheLeft = g in absurd cc)
        (λ s. agrees_as _ _ _ _ _ (unroll_as q 2 i Chooses (omega arith) refl)
        (on (suc c) (suc c) (nesting d) _ _ (d, j) _ _ (λ z. omega arith) (inner_found q 2 i j d f1 (omega arith) (ends_by j k.Question 3 h (omega arith)))
        (if_true _ _ _ _ _ _ (sees_it jml ts j k.Question h)
        (on c (suc c) (nesting a) _ _ (a, m) _ _ (λ z. omega arith) (u c)
        (on_ok _ _ _ tt _ _ (expected jml ts m k.Colon z)
        (on c (suc c) (nesting b) _ _ (b, n) _ _ (λ z. omega arith) (v s c)
        (on (suc c) (suc c) (nesting (e.Conditional (span_at ts i) d a b)) _ _ (e.Conditional (span_at ts i) d a b) _ _ (λ z. z) (fits_agrees c (span_at ts i) (e.Conditional (span_at ts i) d a b)) refl)))))))

    assigned_found : (q i j m : ℕ) (a b : Expr) (op : AssignOp) → Found c q 2 i a j → assignment_of jml (seen jml ts j) ≡ Some op → (reach (seen jml ts m) < 1 → Under q 1 (j + 1) b m) → Found c q 1 i (e.Assignment (span_at ts i) op a b) m
    unfolding r.assigns r.assigned r.assignment grouping_of
    assigned_found q i j m a b op f1 h u =
        let low = assignment_reach jml (seen jml ts j) op h in
        not_left q 1 i m (e.Assignment (span_at ts i) op a b) (omega arith) (λ le g. let x : Assigns ≡ ToTheLeft = g in absurd cc)
        (λ s. agrees_as _ _ _ _ _ (unroll_as q 1 i Assigns (omega arith) refl)
        (on (suc c) (suc c) (nesting a) _ _ (a, j) _ _ (λ z. omega arith) (inner_found q 1 i j a f1 (omega arith) (omega arith))
        (or_some _ _ _ op _ _ _ h
        (on c (suc c) (nesting b) _ _ (b, m) _ _ (λ z. omega arith) (u s c)
        (on (suc c) (suc c) (nesting (e.Assignment (span_at ts i) op a b)) _ _ (e.Assignment (span_at ts i) op a b) _ _ (λ z. z) (fits_agrees c (span_at ts i) (e.Assignment (span_at ts i) op a b)) refl)))))

    -- a level without operators of its own
    tighter_by : (q l i j : ℕ) (a : Expr) (x : Grouping) → l ≤ 15 → grouping_of l ≡ x → Found c q (suc l) i a j → Found c q l i a j
    unfolding r.to_the_left r.once r.implies r.implied r.chooses r.chosen r.assigns r.assigned
    tighter_by q l i j a ToTheLeft low is f =
        left q l i j a low is (λ s. (length ts, omega arith, comes_as _ _ _ _ _ (unroll_as q l i ToTheLeft low is) (comes_then (suc c) (suc c) (nesting a) (nesting a) _ (a, j) _ (λ z. z) (inner_found q l i j a f low s))))
    tighter_by q l i j a Once low is f =
        not_left q l i j a (omega arith) (λ le. once_left l is)
        (λ s. agrees_as _ _ _ _ _ (unroll_as q l i Once low is)
        (on (suc c) (suc c) (nesting a) _ _ (a, j) _ _ (λ z. z) (inner_found q l i j a f low (omega arith))
        (or_none _ _ _ _ _ _ (no_operator jml ts l j s) refl)))
    tighter_by q l i j a Implies low is f =
        not_left q l i j a (omega arith) (λ le g. let x : Implies ≡ ToTheLeft = sym is ∙ g in absurd cc)
        (λ s. agrees_as _ _ _ _ _ (unroll_as q l i Implies low is)
        (on (suc c) (suc c) (nesting a) _ _ (a, j) _ _ (λ z. z) (inner_found q l i j a f low (omega arith))
        (or_none _ _ _ _ _ _ (no_operator jml ts l j s) refl)))
    tighter_by q l i j a Chooses low is f =
        not_left q l i j a (omega arith) (λ le g. let x : Chooses ≡ ToTheLeft = sym is ∙ g in absurd cc)
        (λ s. agrees_as _ _ _ _ _ (unroll_as q l i Chooses low is)
        (on (suc c) (suc c) (nesting a) _ _ (a, j) _ _ (λ z. z) (inner_found q l i j a f low (omega arith))
        (if_false _ _ _ _ _ _ (sees_not jml ts j k.Question (λ h. let z = reach_is jml ts j k.Question h in let y = level_of_chooses jml ts l is in absurd (omega arith))) refl)))
    tighter_by q l i j a Assigns low is f =
        not_left q l i j a (omega arith) (λ le g. let x : Assigns ≡ ToTheLeft = sym is ∙ g in absurd cc)
        (λ s. agrees_as _ _ _ _ _ (unroll_as q l i Assigns low is)
        (on (suc c) (suc c) (nesting a) _ _ (a, j) _ _ (λ z. z) (inner_found q l i j a f low (omega arith))
        (or_none _ _ _ _ _ _ (no_assignment jml ts j (let y = level_of_assigns jml ts l is in omega arith)) refl)))

    -- ---- operators behind and before their operand

    pub stopped : (n i j : ℕ) (a : Expr) → reach (seen jml ts j) < 17 → r.behind jml ts c (r.nested jml ts c) n i a j ≡ Ok (a, j)
    unfolding r.behind
    stopped zero i j a ends = refl
    stopped (suc n) i j a ends = ap (λ o. one_or o (Ok (a, j)) (λ op. fits c (span_at ts i) (e.Postfixed (span_at ts i) op a) >>= λ b. r.behind jml ts c (r.nested jml ts c) n i b (j + 1))) (no_postfix jml ts j ends)

    pub trailed : (q n j : ℕ) (a : Expr) → reach (seen jml ts j) < 18 → r.trail jml ts c (r.nested jml ts c) q n a j ≡ Ok (a, j)
    unfolding r.trail
    trailed q zero j a ends = refl
    trailed q (suc n) j a ends = ap (λ b. cond b (r.suffix jml ts c (r.nested jml ts c) q a j >>= λ a. r.trail jml ts c (r.nested jml ts c) q n a.0 a.1) (Ok (a, j))) (goes_not jml ts a j ends)

    postfix_found : (q i j : ℕ) (a : Expr) (op : Postfix) → Found c q 17 i a j → postfix_of jml (seen jml ts j) ≡ Some op → Found c q 17 i (e.Postfixed (span_at ts i) op a) (j + 1)
    unfolding r.behind r.postfix
    postfix_found q i j a op f h =
        let z = postfix_reach jml (seen jml ts j) op h in
        let t = f.posts refl (omega arith) in
        behind_alone q i (j + 1) (e.Postfixed (span_at ts i) op a) (λ s. go t.0 t.1 t.2)
      where
        go : (n : ℕ) → length ts ≤ n + j → Comes (suc c) (nesting a) (r.postfixed jml ts c (r.nested jml ts c) q i) (r.behind jml ts c (r.nested jml ts c) n i a j) → Way c (nesting (e.Postfixed (span_at ts i) op a)) (r.postfixed jml ts c (r.nested jml ts c) q i) (j + 1) (λ n. r.behind jml ts c (r.nested jml ts c) n i (e.Postfixed (span_at ts i) op a) (j + 1))
        go zero le t = absurd (omega (arith, postfix_taken jml ts j op h))
        go (suc n) le t =
            let one = ap (λ o. one_or o (Ok (a, j)) (λ op. fits c (span_at ts i) (e.Postfixed (span_at ts i) op a) >>= λ b. r.behind jml ts c (r.nested jml ts c) n i b (j + 1))) h in
            let two = comes_then (suc c) (suc c) (nesting (e.Postfixed (span_at ts i) op a)) (nesting (e.Postfixed (span_at ts i) op a)) _ (e.Postfixed (span_at ts i) op a) (λ b. r.behind jml ts c (r.nested jml ts c) n i b (j + 1)) (λ z. z) (fits_agrees c (span_at ts i) (e.Postfixed (span_at ts i) op a)) in
            (n, omega arith, comes_on (suc c) (nesting a) (nesting (e.Postfixed (span_at ts i) op a)) _ _ _ (omega arith) t (comes_on (suc c) (nesting (e.Postfixed (span_at ts i) op a)) (nesting (e.Postfixed (span_at ts i) op a)) _ _ _ (omega arith) (inr one) two))

    -- a primary with no increment behind it
    posts_of : (q i j : ℕ) (a : Expr) → Found c q 18 i a j → Found c q 17 i a j
    unfolding r.postfixed
    posts_of q i j a f =
        behind_alone q i j a (λ s.
        let t = f.trails refl (follows_end j s) in
        (length ts, omega arith, comes_then (suc c) (suc c) (nesting a) (nesting a) _ (a, j) (λ a. r.behind jml ts c (r.nested jml ts c) (length ts) i a.0 a.1) (λ z. z) (comes_to (suc c) (nesting a) _ _ (a, j) t.2 (trailed q t.0 j a s))))

    not_least_by : (i : ℕ) → steps.sees jml ts i k.Minus ≡ false → r.is_least jml ts i ≡ false
    unfolding r.is_least
    not_least_by i h = rw h refl

    not_least_behind : (i : ℕ) → (seen jml ts (i + 1) ≡ k.Integer → value_at ts (i + 1) ≡ big_at ts (i + 1) → ⊥) → r.is_least jml ts i ≡ false
    unfolding r.is_least
    not_least_behind i f = go (steps.sees jml ts i k.Minus) (steps.sees jml ts (i + 1) k.Integer) (extends jml (seen jml ts (i + 2))) (eqb (value_at ts (i + 1)) (big_at ts (i + 1))) refl refl
      where
        go : (x y z w : Bool) → steps.sees jml ts (i + 1) k.Integer ≡ y → eqb (value_at ts (i + 1)) (big_at ts (i + 1)) ≡ w → cond x (cond y (cond z false w) false) false ≡ false
        go false y z w h v = refl
        go true false z w h v = refl
        go true true true w h v = refl
        go true true false false h v = refl
        go true true false true h v = absurd (f (seen_is jml ts (i + 1) k.Integer h) (eqb-true (value_at ts (i + 1)) (big_at ts (i + 1)) v))

    extends_not : (m : Bool) (a : Kind) → reach a < 16 → extends m a ≡ false
    extends_not m k.PlusPlus ends = absurd (omega arith)
    extends_not m k.MinusMinus ends = absurd (omega arith)
    extends_not m k.Dot ends = absurd (omega arith)
    extends_not m k.OpenBracket ends = absurd (omega arith)
    extends_not m _ ends = refl

    -- an operand with no operator before it
    complete_of : (q i j : ℕ) (a : Expr) → Opens jml ts 17 i → Found c q 17 i a j → Found c q 16 i a j
    unfolding r.levels r.unary r.prefix
    complete_of q i j a o f =
        not_left q 16 i j a (omega arith) (λ le. absurd (omega arith))
        (λ s.
        let bare = o.bare (omega arith) in
        let t = f.posts refl (omega arith) in
        if_false _ _ _ _ _ _ (not_least_by i (sees_not jml ts i k.Minus (λ h. let x : Some Negate ≡ None = ap (prefix_of jml) (sym h) ∙ bare in absurd cc)))
        (or_none _ _ _ _ _ _ bare (comes_to (suc c) (nesting a) _ _ (a, j) t.2 (stopped t.0 i j a (omega arith)))))

    prefix_found : (q i j : ℕ) (a : Expr) (op : Prefix) → prefix_of jml (seen jml ts i) ≡ Some op → Opens jml ts 16 (i + 1) → (reach (seen jml ts j) < 16 → Under q 16 (i + 1) a j) → Found c q 16 i (e.Prefixed (span_at ts i) op a) j
    unfolding r.levels r.unary r.prefix
    prefix_found q i j a op h o u =
        not_left q 16 i j (e.Prefixed (span_at ts i) op a) (omega arith) (λ le. absurd (omega arith))
        (λ s.
        if_false _ _ _ _ _ _ (not_least_behind i o.small)
        (or_some _ _ _ op _ _ _ h
        (on c (suc c) (nesting a) _ _ (a, j) _ _ (λ z. omega arith) (u s c) refl)))

    least_found : (q i : ℕ) → seen jml ts i ≡ k.Minus → seen jml ts (i + 1) ≡ k.Integer → value_at ts (i + 1) ≡ big_at ts (i + 1) → Found c q 16 i (e.Prefixed (span_at ts i) Negate (e.Integer (span_at ts (i + 1)) (literal_at ts (i + 1)))) (i + 2)
    unfolding r.levels r.unary
    least_found q i h n v =
        not_left q 16 i (i + 2) (e.Prefixed (span_at ts i) Negate (e.Integer (span_at ts (i + 1)) (literal_at ts (i + 1)))) (omega arith) (λ le. absurd (omega arith))
        (λ s.
        if_true _ _ _ _ _ _ (is_least_by jml ts i h n (extends_not jml (seen jml ts (i + 2)) s) v)
        (on (suc c) (suc c) (nesting (e.Prefixed (span_at ts i) Negate (e.Integer (span_at ts (i + 1)) (literal_at ts (i + 1))))) _ _ (e.Prefixed (span_at ts i) Negate (e.Integer (span_at ts (i + 1)) (literal_at ts (i + 1)))) _ _ (λ z. z) (fits_agrees c (span_at ts i) _) refl))

    tighter_found : (q l i j : ℕ) (a : Expr) → Opens jml ts (suc l) i → Found c q (suc l) i a j → Found c q l i a j
    tighter_found q l i j a o f = go (leb l 15) (eqb l 16) refl refl
      where
        go : (x y : Bool) → leb l 15 ≡ x → eqb l 16 ≡ y → Found c q l i a j
        go true y h v = tighter_by q l i j a (grouping_of l) (grind arith) refl f
        go false true h v =
            let at = eqb-true l 16 v in
            subst (λ (n : ℕ). Found c q n i a j) (sym at) (complete_of q i j a (subst (λ (n : ℕ). Opens jml ts (suc n) i) at o) (subst (λ (n : ℕ). Found c q (suc n) i a j) at f))
        go false false h v =
            let high : 15 < l = grind arith in
            let other : l ≡ 16 → ⊥ = λ z. let w : eqb l 16 ≡ true = rw z refl in let x : true ≡ false = sym w ∙ v in absurd cc in
            let top = o.top in
            let at : l ≡ 17 = omega arith in
            subst (λ (n : ℕ). Found c q n i a j) (sym at) (posts_of q i j a (subst (λ (n : ℕ). Found c q (suc n) i a j) at f))

    -- ---- primaries

    primary_found : (q i j : ℕ) (a : Expr) (x : Kind) → seen jml ts i ≡ x → (Follows j → Agrees (suc c) (nesting a) (r.primary_by jml ts c (r.nested jml ts c) x q i) (a, j)) → Found c q 18 i a j
    unfolding r.suffixed r.primary
    primary_found q i j a x h f =
        alone q i j a (λ s.
        (length ts, omega arith, comes_then (suc c) (suc c) (nesting a) (nesting a) _ (a, j) (λ a. r.trail jml ts c (r.nested jml ts c) q (length ts) a.0 a.1) (λ z. z) (agrees_as _ _ _ _ _ (ap (λ x. r.primary_by jml ts c (r.nested jml ts c) x q i) h) (f s))))

    enclosed_agrees : (q i j : ℕ) (close : Kind) (a : Expr) → Under q 1 i a j → seen jml ts j ≡ close → Agrees (suc c) (suc (nesting a)) (r.enclosed jml ts c (r.nested jml ts c) q close i) (a, j + 1)
    unfolding r.enclosed
    enclosed_agrees q i j close a u h =
        on c (suc c) (nesting a) _ _ (a, j) _ _ (λ z. omega arith) (u c)
        (on_ok _ _ _ tt _ _ (expected jml ts j close h) refl)

    integer_found : (q i : ℕ) → seen jml ts i ≡ k.Integer → value_at ts i < big_at ts i → Found c q 18 i (e.Integer (span_at ts i) (literal_at ts i)) (i + 1)
    unfolding r.integer
    integer_found q i h low = primary_found q i (i + 1) _ k.Integer h (λ s. let b : ltb (value_at ts i) (big_at ts i) ≡ true = grind arith in if_true _ _ _ _ _ _ b refl)

    not_call : (j : ℕ) → (jml ≡ false → seen jml ts j ≡ k.OpenParen → ⊥) → r.is_call jml ts j ≡ false
    unfolding r.is_call
    not_call j f = go jml refl
      where
        go : (m : Bool) → jml ≡ m → cond m false (steps.sees jml ts j k.OpenParen) ≡ false
        go true e = refl
        go false e = sees_not jml ts j k.OpenParen (f e)

    a_call : (j : ℕ) → jml ≡ false → seen jml ts j ≡ k.OpenParen → r.is_call jml ts j ≡ true
    unfolding r.is_call
    a_call j m h = ap (λ x. cond x false (steps.sees jml ts j k.OpenParen)) m ∙ sees_it jml ts j k.OpenParen h

    not_class : (j : ℕ) → (seen jml ts j ≡ k.Dot → seen jml ts (j + 1) ≡ k.Class → ⊥) → r.is_class jml ts j ≡ false
    unfolding r.is_class
    not_class j f = go (steps.sees jml ts j k.Dot) (steps.sees jml ts (j + 1) k.Class) refl refl
      where
        go : (x y : Bool) → steps.sees jml ts j k.Dot ≡ x → steps.sees jml ts (j + 1) k.Class ≡ y → cond x y false ≡ false
        go false y h v = refl
        go true false h v = refl
        go true true h v = absurd (f (seen_is jml ts j k.Dot h) (seen_is jml ts (j + 1) k.Class v))

    a_class : (j : ℕ) → seen jml ts j ≡ k.Dot → seen jml ts (j + 1) ≡ k.Class → r.is_class jml ts j ≡ true
    unfolding r.is_class
    a_class j d h = rw (sees_it jml ts j k.Dot d) (sees_it jml ts (j + 1) k.Class h)

    variable_found : (q i : ℕ) → seen jml ts i ≡ k.Name → Found c q 18 i (e.SimpleName (span_at ts i) (name_at ts i)) (i + 1)
    unfolding r.named
    variable_found q i h =
        primary_found q i (i + 1) _ k.Name h (λ s.
        if_false _ _ _ _ _ _ (not_call (i + 1) s.0) (if_false _ _ _ _ _ _ (not_class (i + 1) s.1) refl))

    class_found : (q i : ℕ) → seen jml ts i ≡ k.Name → seen jml ts (i + 1) ≡ k.Dot → seen jml ts (i + 2) ≡ k.Class → Found c q 18 i (e.ClassLiteral (span_at ts i) (name_at ts i)) (i + 3)
    unfolding r.named
    class_found q i h d z =
        let at : i + 2 ≡ i + 1 + 1 = omega arith in
        primary_found q i (i + 3) _ k.Name h (λ s.
        if_false _ _ _ _ _ _ (not_call (i + 1) (λ m o. let x : k.Dot ≡ k.OpenParen = sym d ∙ o in absurd cc))
        (if_true _ _ _ _ _ _ (a_class (i + 1) d (subst (λ (j : ℕ). seen jml ts j ≡ k.Class) at z)) refl))

    called_found : (q i j : ℕ) (es : List Expr) → jml ≡ false → seen jml ts i ≡ k.Name → seen jml ts (i + 1) ≡ k.OpenParen → Agrees (suc c) (nesting_in (exprs es)) (r.arguments jml ts c (r.nested jml ts c) q (i + 2)) (es, j) → Found c q 18 i (e.Call (span_at ts i) (name_at ts i) (exprs es)) j
    unfolding r.named r.called
    called_found q i j es m h o f =
        primary_found q i j _ k.Name h (λ s.
        if_true _ _ _ _ _ _ (a_call (i + 1) m o)
        (on (suc c) (suc c) (nesting_in (exprs es)) _ _ (es, j) _ _ (λ z. z) f refl))

    bracketed_found : (q i j : ℕ) (a : Expr) → seen jml ts i ≡ k.OpenParen → Opens jml ts 1 (i + 1) → Under q 1 (i + 1) a j → seen jml ts j ≡ k.CloseParen → Found c q 18 i (e.Brackets (span_at ts i) a) (j + 1)
    unfolding r.opened r.bracketed r.quantifier
    bracketed_found q i j a h o u z =
        primary_found q i (j + 1) _ k.OpenParen h (λ s.
        or_none _ _ _ _ _ _ (unquantified jml (starts_no_quantifier (seen jml ts (i + 1)) o.start))
        (on (suc c) (suc c) (suc (nesting a)) _ _ (a, j + 1) _ _ (λ z. z) (enclosed_agrees q (i + 1) j k.CloseParen a u z) refl))
      where
        unquantified : (m : Bool) → quantifier_of (seen jml ts (i + 1)) ≡ None → cond m (quantifier_of (seen jml ts (i + 1))) None ≡ None
        unquantified true e = e
        unquantified false e = refl

    new_object_found : (q i j : ℕ) (es : List Expr) → jml ≡ false → seen jml ts i ≡ k.New → seen jml ts (i + 1) ≡ k.Name → seen jml ts (i + 2) ≡ k.OpenParen → Agrees (suc c) (nesting_in (exprs es)) (r.arguments jml ts c (r.nested jml ts c) q (i + 3)) (es, j) → Found c q 18 i (e.NewObject (span_at ts i) (name_at ts (i + 1)) (exprs es)) j
    unfolding r.made r.new_object
    new_object_found q i j es m h n o f =
        primary_found q i j _ k.New h (λ s.
        if_false _ _ _ _ _ _ m
        (if_true _ _ _ _ _ _ (sees_it jml ts (i + 2) k.OpenParen o)
        (on_ok _ _ _ tt _ _ (expected jml ts (i + 1) k.Name n)
        (on (suc c) (suc c) (nesting_in (exprs es)) _ _ (es, j) _ _ (λ z. z) f refl))))

    new_array_found : (q i j : ℕ) (t : ElementType) (a : Expr) → jml ≡ false → seen jml ts i ≡ k.New → element_of (seen jml ts (i + 1)) (name_at ts (i + 1)) ≡ Some t → seen jml ts (i + 2) ≡ k.OpenBracket → Under q 1 (i + 3) a j → seen jml ts j ≡ k.CloseBracket → Found c q 18 i (e.NewArray (span_at ts i) t a) (j + 1)
    unfolding r.made r.new_array steps.element same_kind
    new_array_found q i j t a m h n o u z =
        primary_found q i (j + 1) _ k.New h (λ s.
        if_false _ _ _ _ _ _ m
        (if_false _ _ _ _ _ _ (sees_other jml ts (i + 2) k.OpenBracket k.OpenParen o refl)
        (on_ok _ _ _ t _ _ (ap (λ x. one_or x (Err (steps.refusal_at ts (i + 1))) Ok) n)
        (on_ok _ _ _ tt _ _ (expected jml ts (i + 2) k.OpenBracket o)
        (on (suc c) (suc c) (suc (nesting a)) _ _ (a, j + 1) _ _ (λ z. z) (enclosed_agrees q (i + 3) j k.CloseBracket a u z) refl)))))

    result_found : (q i : ℕ) → jml ≡ true → seen jml ts i ≡ k.BackslashResult → Found c q 18 i (e.MethodResult (span_at ts i)) (i + 1)
    unfolding r.result_word
    result_found q i m h = primary_found q i (i + 1) _ k.BackslashResult h (λ s. if_true _ _ _ _ _ _ m refl)

    old_found : (q i j : ℕ) (a : Expr) → jml ≡ true → seen jml ts i ≡ k.BackslashOld → seen jml ts (i + 1) ≡ k.OpenParen → Under q 1 (i + 2) a j → seen jml ts j ≡ k.CloseParen → Found c q 18 i (e.Old (span_at ts i) a) (j + 1)
    unfolding r.old
    old_found q i j a m h o u z =
        primary_found q i (j + 1) _ k.BackslashOld h (λ s.
        if_true _ _ _ _ _ _ m
        (on_ok _ _ _ tt _ _ (expected jml ts (i + 1) k.OpenParen o)
        (on (suc c) (suc c) (suc (nesting a)) _ _ (a, j + 1) _ _ (λ z. z) (enclosed_agrees q (i + 2) j k.CloseParen a u z) refl)))

    in_lockset_found : (q i j : ℕ) (a : Expr) → jml ≡ true → seen jml ts i ≡ k.BackslashLockset → seen jml ts (i + 1) ≡ k.OpenBracket → Under q 1 (i + 2) a j → seen jml ts j ≡ k.CloseBracket → Found c q 18 i (e.InLockset (span_at ts i) a) (j + 1)
    unfolding r.lockset
    in_lockset_found q i j a m h o u z =
        primary_found q i (j + 1) _ k.BackslashLockset h (λ s.
        if_true _ _ _ _ _ _ m
        (if_true _ _ _ _ _ _ (sees_it jml ts (i + 1) k.OpenBracket o)
        (on (suc c) (suc c) (suc (nesting a)) _ _ (a, j + 1) _ _ (λ z. z) (enclosed_agrees q (i + 2) j k.CloseBracket a u z) refl)))

    has_agrees : (i : ℕ) → seen jml ts i ≡ k.Dot → seen jml ts (i + 1) ≡ k.Name → text_at ts (i + 1) ≡ codes "has" → seen jml ts (i + 2) ≡ k.OpenParen → r.has jml ts i ≡ Ok tt
    unfolding r.has
    has_agrees i d n w o = rw (expected jml ts i k.Dot d, expected jml ts (i + 1) k.Name n, text_is ts (i + 1) (codes "has") w) (expected jml ts (i + 2) k.OpenParen o)

    lockset_has_found : (q i j : ℕ) (a : Expr) → jml ≡ true → seen jml ts i ≡ k.BackslashLockset → seen jml ts (i + 1) ≡ k.Dot → seen jml ts (i + 2) ≡ k.Name → text_at ts (i + 2) ≡ codes "has" → seen jml ts (i + 3) ≡ k.OpenParen → Under q 1 (i + 4) a j → seen jml ts j ≡ k.CloseParen → Found c q 18 i (e.InLockset (span_at ts i) a) (j + 1)
    unfolding r.lockset r.lockset_has same_kind
    lockset_has_found q i j a m h d n w o u z =
        let x : i + 2 ≡ i + 1 + 1 = omega arith in
        let y : i + 3 ≡ i + 1 + 2 = omega arith in
        primary_found q i (j + 1) _ k.BackslashLockset h (λ s.
        if_true _ _ _ _ _ _ m
        (if_false _ _ _ _ _ _ (sees_other jml ts (i + 1) k.Dot k.OpenBracket d refl)
        (on_ok _ _ _ tt _ _ (has_agrees (i + 1) d (subst (λ (j : ℕ). seen jml ts j ≡ k.Name) x n) (subst (λ (j : ℕ). text_at ts j ≡ codes "has") x w) (subst (λ (j : ℕ). seen jml ts j ≡ k.OpenParen) y o))
        (on (suc c) (suc c) (suc (nesting a)) _ _ (a, j + 1) _ _ (λ z. z) (enclosed_agrees q (i + 4) j k.CloseParen a u z) refl))))

    -- ---- what follows a primary

    goes_dot : (a : Expr) (j : ℕ) → seen jml ts j ≡ k.Dot → r.goes_on jml ts a j ≡ true
    unfolding r.goes_on
    goes_dot a j d = ap (λ x. r.goes_on_by jml ts x a j) d

    goes_bracket : (a : Expr) (j : ℕ) → seen jml ts j ≡ k.OpenBracket → is_new_array a ≡ false → r.goes_on jml ts a j ≡ true
    unfolding r.goes_on
    goes_bracket a j d n = ap (λ x. r.goes_on_by jml ts x a j) d ∙ ap (λ b. cond b false true) n

    -- one suffix more, which is read
    suffix_found : (q i j m : ℕ) (a b : Expr) → nesting a ≤ nesting b → j < m → j < length ts → Found c q 18 i a j → Follows j → r.goes_on jml ts a j ≡ true → (Follows m → Agrees (suc c) (nesting b) (r.suffix jml ts c (r.nested jml ts c) q a j) (b, m)) → Found c q 18 i b m
    unfolding r.trail
    suffix_found q i j m a b deep far within f s goes fits =
        let t = f.trails refl s in
        alone q i m b (λ s. go t.0 t.1 t.2 s)
      where
        go : (n : ℕ) → length ts ≤ n + j → Comes (suc c) (nesting a) (r.suffixed jml ts c (r.nested jml ts c) q i) (r.trail jml ts c (r.nested jml ts c) q n a j) → Follows m → Way c (nesting b) (r.suffixed jml ts c (r.nested jml ts c) q i) m (λ n. r.trail jml ts c (r.nested jml ts c) q n b m)
        go zero le t s = absurd (omega arith)
        go (suc n) le t s =
            let one = ap (λ x. cond x (r.suffix jml ts c (r.nested jml ts c) q a j >>= λ a. r.trail jml ts c (r.nested jml ts c) q n a.0 a.1) (Ok (a, j))) goes in
            let two = comes_then (suc c) (suc c) (nesting b) (nesting b) _ (b, m) (λ a. r.trail jml ts c (r.nested jml ts c) q n a.0 a.1) (λ z. z) (fits s) in
            (n, omega arith, comes_on (suc c) (nesting a) (nesting b) _ _ _ deep t (comes_on (suc c) (nesting b) (nesting b) _ _ _ (omega arith) (inr one) two))

    field_found : (q i j : ℕ) (a : Expr) → Found c q 18 i a j → seen jml ts j ≡ k.Dot → seen jml ts (j + 1) ≡ k.Name → Found c q 18 i (e.FieldOf (e.place_of a) a (name_at ts (j + 1))) (j + 2)
    unfolding r.suffix r.member same_kind
    field_found q i j a f d n =
        suffix_found q i j (j + 2) a (e.FieldOf (e.place_of a) a (name_at ts (j + 1))) (omega arith) (omega arith) (taken jml ts j k.Dot d refl) f (follows_name j d n) (goes_dot a j d) (λ s.
        if_false _ _ _ _ _ _ (sees_other jml ts j k.Dot k.OpenBracket d refl)
        (on_ok _ _ _ tt _ _ (expected jml ts (j + 1) k.Name n)
        (if_false _ _ _ _ _ _ (not_call (j + 2) s.0) refl)))

    no_print : (j : ℕ) → (seen jml ts (j + 3) ≡ k.Text → ⊥) → r.prints_string jml ts j ≡ false
    unfolding r.prints_string
    no_print j f = rw (sees_not jml ts (j + 3) k.Text f)

    invoked_found : (q i j m : ℕ) (a : Expr) (es : List Expr) → j < m → jml ≡ false → Found c q 18 i a j → seen jml ts j ≡ k.Dot → seen jml ts (j + 1) ≡ k.Name → seen jml ts (j + 2) ≡ k.OpenParen → (seen jml ts (j + 3) ≡ k.Text → ⊥) → Agrees (suc c) (nesting_in (exprs es)) (r.arguments jml ts c (r.nested jml ts c) q (j + 3)) (es, m) → Found c q 18 i (e.CallOf (e.place_of a) a (name_at ts (j + 1)) (exprs es)) m
    unfolding r.suffix r.member r.invoked same_kind
    invoked_found q i j m a es far mode f d n o t args =
        suffix_found q i j m a (e.CallOf (e.place_of a) a (name_at ts (j + 1)) (exprs es)) (omega arith) far (taken jml ts j k.Dot d refl) f (follows_name j d n) (goes_dot a j d) (λ s.
        if_false _ _ _ _ _ _ (sees_other jml ts j k.Dot k.OpenBracket d refl)
        (on_ok _ _ _ tt _ _ (expected jml ts (j + 1) k.Name n)
        (if_true _ _ _ _ _ _ (a_call (j + 2) mode o)
        (if_false _ _ _ _ _ _ (no_print j t)
        (on (suc c) (suc c) (nesting_in (exprs es)) _ _ (es, m) _ _ (λ z. omega arith) args
        (on (suc c) (suc c) (nesting (e.CallOf (e.place_of a) a (name_at ts (j + 1)) (exprs es))) _ _ (e.CallOf (e.place_of a) a (name_at ts (j + 1)) (exprs es)) _ _ (λ z. z) (fits_agrees c (e.place_of a) _) refl))))))

    indexed_found : (q i j m : ℕ) (a b : Expr) → j < m → Found c q 18 i a j → is_new_array a ≡ false → seen jml ts j ≡ k.OpenBracket → Under q 1 (j + 1) b m → seen jml ts m ≡ k.CloseBracket → Found c q 18 i (e.ElementOf (e.place_of a) a b) (m + 1)
    unfolding r.suffix r.indexed same_kind
    indexed_found q i j m a b far f n o u z =
        suffix_found q i j (m + 1) a (e.ElementOf (e.place_of a) a b) (omega arith) (omega arith) (taken jml ts j k.OpenBracket o refl) f (follows_bracket j o) (goes_bracket a j o n) (λ s.
        if_true _ _ _ _ _ _ (sees_it jml ts j k.OpenBracket o)
        (on (suc c) (suc c) (suc (nesting b)) _ _ (b, m + 1) _ _ (λ z. omega arith) (enclosed_agrees q (j + 1) m k.CloseBracket b u z)
        (on (suc c) (suc c) (nesting (e.ElementOf (e.place_of a) a b)) _ _ (e.ElementOf (e.place_of a) a b) _ _ (λ z. z) (fits_agrees c (e.place_of a) _) refl)))

    -- ---- lists

    none_agrees : (q i : ℕ) → seen jml ts i ≡ k.CloseParen → Agrees (suc c) 0 (r.arguments jml ts c (r.nested jml ts c) q i) ([], i + 1)
    unfolding r.arguments
    none_agrees q i h = if_true _ _ _ _ _ _ (sees_it jml ts i k.CloseParen h) refl

    some_agrees : (q i j : ℕ) (es : List Expr) → starts (seen jml ts i) ≡ true → Agrees (suc c) (nesting_in (exprs es)) (r.expressions jml ts c (r.nested jml ts c) q (length ts) [] i) (es, j) → seen jml ts j ≡ k.CloseParen → Agrees (suc c) (nesting_in (exprs es)) (r.arguments jml ts c (r.nested jml ts c) q i) (es, j + 1)
    unfolding r.arguments
    some_agrees q i j es s f h =
        if_false _ _ _ _ _ _ (sees_not jml ts i k.CloseParen (λ x. let y : false ≡ true = ap starts (sym x) ∙ s in absurd cc))
        (on (suc c) (suc c) (nesting_in (exprs es)) _ _ (es, j) _ _ (λ z. z) f
        (on_ok _ _ _ tt _ _ (expected jml ts j k.CloseParen h) refl))

    last_agrees : (q n : ℕ) (before : List Expr) (i j : ℕ) (a : Expr) → Under q 1 i a j → (seen jml ts j ≡ k.Comma → ⊥) → Agrees (suc c) (nesting_in (exprs (a ∷ []))) (r.expressions jml ts c (r.nested jml ts c) q (suc n) before i) (before ++ a ∷ [], j)
    unfolding steps.listed
    last_agrees q n before i j a u z =
        on c (suc c) (nesting a) _ _ (a, j) _ _ (λ z. omega arith) (u c)
        (if_false _ _ _ _ _ _ (sees_not jml ts j k.Comma z) refl)

    more_agrees : (q n : ℕ) (before : List Expr) (i j m : ℕ) (a : Expr) (es : List Expr) → Under q 1 i a j → seen jml ts j ≡ k.Comma → Agrees (suc c) (nesting_in (exprs es)) (r.expressions jml ts c (r.nested jml ts c) q n (before ++ a ∷ []) (j + 1)) ((before ++ a ∷ []) ++ es, m) → Agrees (suc c) (nesting_in (exprs (a ∷ es))) (r.expressions jml ts c (r.nested jml ts c) q (suc n) before i) (before ++ a ∷ es, m)
    unfolding steps.listed
    more_agrees q n before i j m a es u z f =
        let same : ◌≡◌ {A = List Expr × ℕ} ((before ++ a ∷ []) ++ es, m) (before ++ a ∷ es, m) = ap (λ (x : List Expr). (x, m)) (append_assoc before (a ∷ []) es) in
        on c (suc c) (nesting a) _ _ (a, j) _ _ (λ z. omega arith) (u c)
        (if_true _ _ _ _ _ _ (sees_it jml ts j k.Comma z)
        (agrees_to _ _ _ _ _ same (more (suc c) (suc c) (nesting_in (exprs es)) _ _ _ (λ z. omega arith) f)))

    no_more_agrees : (q n : ℕ) (before : List Expr) (i : ℕ) → (seen jml ts i ≡ k.AndAnd → ⊥) → Agrees (suc c) 0 (r.conjuncts jml ts c (r.nested jml ts c) q n before i) (before ++ [], i)
    unfolding r.conjuncts
    no_more_agrees q zero before i z = ap (λ (x : List Expr). (x, i)) (sym (append-nil before))
    no_more_agrees q (suc n) before i z = if_false _ _ _ _ _ _ (sees_not jml ts i k.AndAnd z) (ap (λ (x : List Expr). (x, i)) (sym (append-nil before)))

    one_more_agrees : (q n : ℕ) (before : List Expr) (i j m : ℕ) (a : Expr) (es : List Expr) → seen jml ts i ≡ k.AndAnd → Under q 8 (i + 1) a j → Agrees (suc c) (nesting_in (exprs es)) (r.conjuncts jml ts c (r.nested jml ts c) q n (before ++ a ∷ []) j) ((before ++ a ∷ []) ++ es, m) → Agrees (suc c) (nesting_in (exprs (a ∷ es))) (r.conjuncts jml ts c (r.nested jml ts c) q (suc n) before i) (before ++ a ∷ es, m)
    unfolding r.conjuncts
    one_more_agrees q n before i j m a es z u f =
        let same : ◌≡◌ {A = List Expr × ℕ} ((before ++ a ∷ []) ++ es, m) (before ++ a ∷ es, m) = ap (λ (x : List Expr). (x, m)) (append_assoc before (a ∷ []) es) in
        if_true _ _ _ _ _ _ (sees_it jml ts i k.AndAnd z)
        (on c (suc c) (nesting a) _ _ (a, j) _ _ (λ z. omega arith) (u c)
        (agrees_to _ _ _ _ _ same (more (suc c) (suc c) (nesting_in (exprs es)) _ _ _ (λ z. omega arith) f)))

    -- ---- quantifiers

    same_name_agrees : (x i : ℕ) → seen jml ts i ≡ k.Name → text_at ts i ≡ text_at ts x → r.same_name jml ts x i ≡ Ok tt
    unfolding r.same_name
    same_name_agrees x i n t = rw (expected jml ts i k.Name n) (text_is ts i (text_at ts x) t)

    bound_agrees : (i : ℕ) (b : Bound) → bound_of (seen jml ts i) ≡ Some b → r.bound jml ts i ≡ Ok b
    unfolding r.bound
    bound_agrees i b h = ap (λ x. one_or x (Err (steps.refusal_at ts i)) Ok) h

    between_agrees : (x j : ℕ) (low high : Bound) → bound_of (seen jml ts j) ≡ Some low → seen jml ts (j + 1) ≡ k.Name → text_at ts (j + 1) ≡ text_at ts x → seen jml ts (j + 2) ≡ k.AndAnd → seen jml ts (j + 3) ≡ k.Name → text_at ts (j + 3) ≡ text_at ts x → bound_of (seen jml ts (j + 4)) ≡ Some high → r.between jml ts x j ≡ Ok ((low, high), j + 5)
    unfolding r.between
    between_agrees x j low high b1 n1 t1 aa n2 t2 b2 = rw (bound_agrees j low b1, same_name_agrees x (j + 1) n1 t1, expected jml ts (j + 2) k.AndAnd aa, same_name_agrees x (j + 3) n2 t2, bound_agrees (j + 4) high b2) refl

    quantified_found : (q i j m n o : ℕ) (quantifier : Quantifier) (low_bound high_bound : Bound) (low high body : Expr) (es : List Expr)
        → jml ≡ true
        → seen jml ts i ≡ k.OpenParen → quantifier_of (seen jml ts (i + 1)) ≡ Some quantifier
        → seen jml ts (i + 2) ≡ k.Int → seen jml ts (i + 3) ≡ k.Name → seen jml ts (i + 4) ≡ k.Semicolon
        → Under q 13 (i + 5) low j
        → r.between jml ts (i + 3) j ≡ Ok ((low_bound, high_bound), j + 5)
        → Under q 13 (j + 5) high m
        → Agrees (suc c) (nesting_in (exprs es)) (r.conjuncts jml ts c (r.nested jml ts c) q (length ts) [] m) (es, n)
        → seen jml ts n ≡ k.Semicolon
        → Under q 1 (n + 1) body o → seen jml ts o ≡ k.CloseParen
        → Found c (suc q) 18 i (e.Quantified (span_at ts i) quantifier (name_at ts (i + 3)) low low_bound high high_bound (exprs es) body) (o + 1)
    unfolding r.opened r.quantifier r.quantified r.quantified_in
    quantified_found q i j m n o quantifier low_bound high_bound low high body es mode h quant int name semi u1 b u2 f semi2 u3 close =
        primary_found (suc q) i (o + 1) _ k.OpenParen h (λ s.
        or_some _ _ _ quantifier _ _ _ (quantified_here jml mode)
        (on_ok _ _ _ tt _ _ (expected jml ts (i + 2) k.Int int)
        (on_ok _ _ _ tt _ _ (expected jml ts (i + 3) k.Name name)
        (on_ok _ _ _ tt _ _ (expected jml ts (i + 4) k.Semicolon semi)
        (on c (suc c) (nesting low) _ _ (low, j) _ _ (λ z. omega arith) (u1 c)
        (on_ok _ _ _ ((low_bound, high_bound), j + 5) _ _ b
        (on c (suc c) (nesting high) _ _ (high, m) _ _ (λ z. omega arith) (u2 c)
        (on (suc c) (suc c) (nesting_in (exprs es)) _ _ (es, n) _ _ (λ z. omega arith) f
        (on_ok _ _ _ tt _ _ (expected jml ts n k.Semicolon semi2)
        (on (suc c) (suc c) (suc (nesting body)) _ _ (body, o + 1) _ _ (λ z. omega arith) (enclosed_agrees q (n + 1) o k.CloseParen body u3 close) refl))))))))))
      where
        quantified_here : (x : Bool) → x ≡ true → cond x (quantifier_of (seen jml ts (i + 1))) None ≡ Some quantifier
        quantified_here true e = quant
        quantified_here false e = absurd cc

  -- ---- all together

  listed_starts : {q i j : ℕ} {es : List Expr} → Listed jml ts q i es j → starts (seen jml ts i) ≡ true
  listed_starts (g.last x) = (opens jml ts x).start
  listed_starts (g.more x h y) = (opens jml ts x).start

  no_text : (a : Kind) → starts a ≡ true → a ≡ k.Text → ⊥
  no_text a s h = let x : false ≡ true = ap starts (sym h) ∙ s in absurd cc

  arguments_no_text : {q i j : ℕ} {es : List Expr} → Arguments jml ts q i es j → seen jml ts i ≡ k.Text → ⊥
  arguments_no_text (g.none h) t = let x : k.CloseParen ≡ k.Text = sym h ∙ t in absurd cc
  arguments_no_text (g.some {i = i} x h) t = no_text (seen jml ts i) (listed_starts x) t

  conjuncts_end : {q i j : ℕ} {es : List Expr} → Conjuncts jml ts q i es j → reach (seen jml ts j) < 1 → reach (seen jml ts i) < 8
  conjuncts_end g.no_more ends = omega arith
  conjuncts_end (g.one_more {i = i} h x y) ends = ends_by i k.AndAnd 8 h (omega arith)

  bound_ends : (x : Kind) (b : Bound) → bound_of x ≡ Some b → reach x < 13
  bound_ends k.Less b h = omega arith
  bound_ends k.LessEqual b h = omega arith
  bound_ends _ b h = absurd cc

  bound_end : (j : ℕ) (b : Bound) → bound_of (seen jml ts j) ≡ Some b → reach (seen jml ts j) < 13
  bound_end j b h = bound_ends (seen jml ts j) b h

  spelled_far : {q l j m : ℕ} {a : Expr} → Spells jml ts q l (j + 1) a m → j < m
  spelled_far x = let f = advances jml ts x in omega arith

  arguments_far : {q j m : ℕ} {es : List Expr} → Arguments jml ts q (j + 3) es m → j < m
  arguments_far x = let f = advances_arguments jml ts x in omega arith

  not_comma : (j : ℕ) → seen jml ts j ≡ k.CloseParen → seen jml ts j ≡ k.Comma → ⊥
  not_comma j h z = let x : k.CloseParen ≡ k.Comma = sym h ∙ z in absurd cc

  not_and : (j : ℕ) → reach (seen jml ts j) < 1 → seen jml ts j ≡ k.AndAnd → ⊥
  not_and j ends h = let z = reach_is jml ts j k.AndAnd h in absurd (omega arith)

  mutual
    pub found : {q l i j : ℕ} {a : Expr} → Spells jml ts q l i a j → (c : ℕ) → Found c q l i a j
    found (g.null {q = q} {i = i} h) c = primary_found c q i (i + 1) _ k.Null h (λ s. refl)
    found (g.truth {q = q} {i = i} h) c = primary_found c q i (i + 1) _ k.True h (λ s. refl)
    found (g.falsity {q = q} {i = i} h) c = primary_found c q i (i + 1) _ k.False h (λ s. refl)
    found (g.integer {q = q} {i = i} h n) c = integer_found c q i h n
    found (g.this {q = q} {i = i} h) c = primary_found c q i (i + 1) _ k.This h (λ s. refl)
    found (g.variable {q = q} {i = i} h) c = variable_found c q i h
    found (g.class_literal {q = q} {i = i} h d z) c = class_found c q i h d z
    found (g.bracketed {q = q} {i = i} {j = j} {a = a} h x z) c = bracketed_found c q i j a h (opens jml ts x) (under_found q 1 (i + 1) j a (λ c. found x c) (omega arith) (ends_by j k.CloseParen 1 z (omega arith))) z
    found (g.called {q = q} {i = i} {j = j} {es = es} m h o x) c = called_found c q i j es m h o (found_arguments x c)
    found (g.new_object {q = q} {i = i} {j = j} {es = es} m h n o x) c = new_object_found c q i j es m h n o (found_arguments x c)
    found (g.new_array {q = q} {i = i} {j = j} {t = t} {a = a} m h n o x z) c = new_array_found c q i j t a m h n o (under_found q 1 (i + 3) j a (λ c. found x c) (omega arith) (ends_by j k.CloseBracket 1 z (omega arith))) z
    found (g.result {q = q} {i = i} m h) c = result_found c q i m h
    found (g.old {q = q} {i = i} {j = j} {a = a} m h o x z) c = old_found c q i j a m h o (under_found q 1 (i + 2) j a (λ c. found x c) (omega arith) (ends_by j k.CloseParen 1 z (omega arith))) z
    found (g.lockset_has {q = q} {i = i} {j = j} {a = a} m h d n w o x z) c = lockset_has_found c q i j a m h d n w o (under_found q 1 (i + 4) j a (λ c. found x c) (omega arith) (ends_by j k.CloseParen 1 z (omega arith))) z
    found (g.in_lockset {q = q} {i = i} {j = j} {a = a} m h o x z) c = in_lockset_found c q i j a m h o (under_found q 1 (i + 2) j a (λ c. found x c) (omega arith) (ends_by j k.CloseBracket 1 z (omega arith))) z
    found (g.quantified {q = q} {i = i} {j = j} {m = m} {n = n} {o = o} {quantifier = quantifier} {low_bound = low_bound} {high_bound = high_bound} {low = low} {high = high} {body = body} {es = es} mode h quant int name semi x b1 n1 t1 aa n2 t2 b2 y cs semi2 z close) c =
        quantified_found c q i j m n o quantifier low_bound high_bound low high body es mode h quant int name semi
        (under_found q 13 (i + 5) j low (λ c. found x c) (omega arith) (bound_end j low_bound b1))
        (between_agrees c (i + 3) j low_bound high_bound b1 n1 t1 aa n2 t2 b2)
        (under_found q 13 (j + 5) m high (λ c. found y c) (omega arith) (let w = conjuncts_end cs (ends_by n k.Semicolon 1 semi2 (omega arith)) in omega arith))
        (found_conjuncts cs c (length ts) [] (omega arith) (ends_by n k.Semicolon 1 semi2 (omega arith)))
        semi2
        (under_found q 1 (n + 1) o body (λ c. found z c) (omega arith) (ends_by o k.CloseParen 1 close (omega arith)))
        close
    found (g.field {q = q} {i = i} {j = j} {a = a} x d n) c = field_found c q i j a (found x c) d n
    found (g.invoked {q = q} {i = i} {j = j} {m = m} {a = a} {es = es} mode x d n o y) c = invoked_found c q i j m a es (arguments_far y) mode (found x c) d n o (arguments_no_text y) (found_arguments y c)
    found (g.indexed {q = q} {i = i} {j = j} {m = m} {a = a} {b = b} x f o y z) c = indexed_found c q i j m a b (spelled_far y) (found x c) f o (under_found q 1 (j + 1) m b (λ c. found y c) (omega arith) (ends_by m k.CloseBracket 1 z (omega arith))) z
    found (g.with_postfix {q = q} {i = i} {j = j} {a = a} {op = op} x h) c = postfix_found c q i j a op (found x c) h
    found (g.with_prefix {q = q} {i = i} {j = j} {a = a} {op = op} h x) c = prefix_found c q i j a op h (opens jml ts x) (λ s. under_found q 16 (i + 1) j a (λ c. found x c) (omega arith) s)
    found (g.least_integer {q = q} {i = i} h n v) c = least_found c q i h n v
    found (g.to_the_left {q = q} {l = l} {i = i} {j = j} {m = m} {a = a} {b = b} {op = op} is x h y) c = left_found c q l i j m a b op (spelled_far y) is (found x c) h (found y c)
    found (g.once {q = q} {l = l} {i = i} {j = j} {m = m} {a = a} {b = b} {op = op} is x h y) c = once_found c q l i j m a b op is (found x c) h (found y c)
    found (g.implied {q = q} {i = i} {j = j} {m = m} {a = a} {b = b} {op = op} x p h y p2) c = implied_found c q i j m a b op (found x c) p h (λ s. under_found q 4 (j + 1) m b (λ c. found y c) (omega arith) s) p2
    found (g.chosen {q = q} {i = i} {j = j} {m = m} {n = n} {c = d} {a = a} {b = b} x h y z w) c = chosen_found c q i j m n d a b (found x c) h (under_found q 1 (j + 1) m a (λ c. found y c) (omega arith) (ends_by m k.Colon 1 z (omega arith))) z (λ s. under_found q 2 (m + 1) n b (λ c. found w c) (omega arith) s)
    found (g.assigned {q = q} {i = i} {j = j} {m = m} {a = a} {b = b} {op = op} x h y) c = assigned_found c q i j m a b op (found x c) h (λ s. under_found q 1 (j + 1) m b (λ c. found y c) (omega arith) s)
    found (g.tighter {q = q} {l = l} {i = i} {j = j} {a = a} x) c = tighter_found c q l i j a (opens jml ts x) (found x c)

    found_arguments : {q i j : ℕ} {es : List Expr} → Arguments jml ts q i es j → (c : ℕ) → Agrees (suc c) (nesting_in (exprs es)) (r.arguments jml ts c (r.nested jml ts c) q i) (es, j)
    found_arguments (g.none {q = q} {i = i} h) c = none_agrees c q i h
    found_arguments (g.some {q = q} {i = i} {j = j} {es = es} x h) c = some_agrees c q i j es (listed_starts x) (found_listed x c (length ts) [] (omega arith) (ends_by j k.CloseParen 1 h (omega arith)) (not_comma j h)) h

    found_listed : {q i j : ℕ} {es : List Expr} → Listed jml ts q i es j → (c n : ℕ) (before : List Expr) → length ts ≤ n + i → reach (seen jml ts j) < 1 → (seen jml ts j ≡ k.Comma → ⊥) → Agrees (suc c) (nesting_in (exprs es)) (r.expressions jml ts c (r.nested jml ts c) q n before i) (before ++ es, j)
    found_listed (g.last x) c zero before le ends z = absurd (let f = advances jml ts x in omega arith)
    found_listed (g.last {q = q} {i = i} {j = j} {a = a} x) c (suc n) before le ends z = last_agrees c q n before i j a (under_found q 1 i j a (λ c. found x c) (omega arith) ends) z
    found_listed (g.more x h y) c zero before le ends z = absurd (let f = advances jml ts x in omega arith)
    found_listed (g.more {q = q} {i = i} {j = j} {m = m} {a = a} {es = es} x h y) c (suc n) before le ends z =
        more_agrees c q n before i j m a es (under_found q 1 i j a (λ c. found x c) (omega arith) (ends_by j k.Comma 1 h (omega arith))) h (found_listed y c n (before ++ a ∷ []) (let f = advances jml ts x in omega arith) ends z)

    found_conjuncts : {q i j : ℕ} {es : List Expr} → Conjuncts jml ts q i es j → (c n : ℕ) (before : List Expr) → length ts ≤ n + i → reach (seen jml ts j) < 1 → Agrees (suc c) (nesting_in (exprs es)) (r.conjuncts jml ts c (r.nested jml ts c) q n before i) (before ++ es, j)
    found_conjuncts (g.no_more {q = q} {i = i}) c n before le ends = no_more_agrees c q n before i (not_and i ends)
    found_conjuncts (g.one_more h x y) c zero before le ends = absurd (let f = advances jml ts x in omega arith)
    found_conjuncts (g.one_more {q = q} {i = i} {j = j} {m = m} {a = a} {es = es} h x y) c (suc n) before le ends =
        one_more_agrees c q n before i j m a es h (under_found q 8 (i + 1) j a (λ c. found x c) (omega arith) (conjuncts_end y ends)) (found_conjuncts y c n (before ++ a ∷ []) (let f = advances jml ts x in omega arith) ends)

  -- ---- every level, where it ends

  pub complete : {q l i j : ℕ} {a : Expr} → Spells jml ts q l i a j → l ≤ 16 → reach (seen jml ts j) < l → Under q l i a j
  complete {q} {l} {i} {j} {a} x low ends = under_found q l i j a (λ c. found x c) low ends
