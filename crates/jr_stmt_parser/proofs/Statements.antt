-- Blocks and statements, as the reader takes them and as the grammar has them.
use Rattle.std.proofs.Common.{◌≡◌, ℕ, suc, ◌+◌, ◌≤◌, ◌<◌, Bool, true, false, List, [], ◌∷◌, length, Some, None, refl, sym, ap, ◌∙◌, subst, inl, inr, arith}
use Rattle.jr_lexer.specs.declared.kind.Kind.{Kind}
use Rattle.jr_lexer.specs.declared.kind.Kind.TheVariants as k
use Rattle.jr_lexer.specs.Token.{Token as TokenOf}
use Rattle.jr_lexer.specs.Reading.{kind_at, jml_at}
use Rattle.jr_ast.specs.declared.name.Name.{Name}
use Rattle.jr_ast.specs.declared.name.ElementType.{ElementType}
use Rattle.jr_ast.specs.declared.name.TypeName.{TypeName}
use Rattle.jr_ast.specs.Expressions.{Expr}
use Rattle.jr_ast.specs.Statements.{Stmt, Stmts, no_stmt, and_stmt, stmts, Catches, and_catch, catches, Catch, Declarator}
use Rattle.jr_reading.specs.Seen.{seen, seen_as, name_at}
use Rattle.jr_reading.specs.Types.{TypeOf, single, array, element_of}
use Rattle.jr_expr_parser.specs.Grammar.{Spells}
use Rattle.jr_jml_parser.specs.Grammar.{asserts}
use Rattle.jr_stmt_parser.specs.Grammar as g
use Rattle.jr_stmt_parser.specs.Nesting.{nesting, under_block, under_catches, Shallow}
use Rattle.jr_stmt_parser.specs.Gives.{Many, stop, step}
use Rattle.jr_stmt_parser.specs.Pieces as p
use Rattle.jr_stmt_parser.proofs.Begins.{within}
use Rattle.jr_stmt_parser.proofs.Firsts.{begins_not}
use Rattle.jr_stmt_parser.proofs.Lists.{tk, sn}

as_other : (b : Bool) (a c : Kind) → seen_as true b a ≡ c → (c ≡ k.End → ⊥) → seen_as false b a ≡ k.End
as_other true a c e h = refl
as_other false a c e h = absurd (h (sym e))

-- each statement nests within a limit, where n constructs are above it
abbrev pub Each : ℕ → ℕ → Stmts → Type 0
Each l n no_stmt = Unit {0}
Each l n (and_stmt a ss) = (n + nesting a ≤ l) × Each l n ss

pub each_shallow : (n : ℕ) (ss : Stmts) → Each 128 n ss → Shallow n ss
each_shallow n no_stmt e = tt
each_shallow n (and_stmt a ss) e = (e.0, each_shallow n ss e.1)

pub shallow_each : (n : ℕ) (ss : Stmts) → Shallow n ss → Each 128 n ss
shallow_each n no_stmt e = tt
shallow_each n (and_stmt a ss) e = (e.0, shallow_each n ss e.1)

-- some limit is great enough
above : (n : ℕ) (ss : Stmts) → (l : ℕ) × ((m : ℕ) → l ≤ m → Each m n ss)
above n no_stmt = (0, λ m le. tt)
above n (and_stmt a ss) = let r = above n ss in (r.0 + (n + nesting a), λ m le. (omega arith, r.1 m (omega arith)))

pub each_above : (n : ℕ) (ss : Stmts) → (l : ℕ) × Each l n ss
each_above n ss = let r = above n ss in (r.0, r.1 r.0 (omega arith))

pub each_under : (d l : ℕ) (ss : Stmts) → d ≤ l → Each l (suc d) ss → d + under_block ss ≤ l
each_under d l no_stmt fit e = omega arith
each_under d l (and_stmt a ss) fit e = let r = each_under d l ss fit e.1 in let le = e.0 in omega arith

pub under_each : (d l : ℕ) (ss : Stmts) → d + under_block ss ≤ l → Each l (suc d) ss
under_each d l no_stmt le = tt
under_each d l (and_stmt a ss) le = (omega arith, under_each d l ss (omega arith))

module _ (ts : List TokenOf) where
  pub seen_other : (i : ℕ) (a : Kind) → seen true ts i ≡ a → (a ≡ k.End → ⊥) → seen false ts i ≡ k.End
  unfolding seen
  seen_other i a e h = as_other (jml_at ts i) (kind_at ts i) a e h

  differ : {a b : Kind} (i : ℕ) → seen false ts i ≡ a → (a ≡ b → ⊥) → seen false ts i ≡ b → ⊥
  differ i w f e = f (sym w ∙ e)

  element_first : (i : ℕ) {t : ElementType} (a : Kind) → seen false ts i ≡ a → element_of a (name_at ts i) ≡ Some t → (a ≡ k.CloseBrace → ⊥) × (a ≡ k.End → ⊥)
  element_first i {t = t} a w e = (λ x. none x refl, λ x. none x refl)
    where
      none : {b : Kind} → a ≡ b → element_of b (name_at ts i) ≡ None → ⊥
      none x y = let z : None ≡ Some t = sym y ∙ (ap (λ a. element_of a (name_at ts i)) (sym x) ∙ e) in absurd cc

  type_first : {i j : ℕ} {t : TypeName} → TypeOf ts i t j → (e : ElementType) × (element_of (seen false ts i) (name_at ts i) ≡ Some e)
  type_first (single {t = t} e) = (t, e)
  type_first (array {t = t} e o z) = (t, e)

  -- where a statement begins
  abbrev First : ℕ → Type 0
  First i = (seen false ts i ≡ k.CloseBrace → ⊥) × (i < length ts)

  first : {a : Kind} (i : ℕ) → seen false ts i ≡ a → (a ≡ k.CloseBrace → ⊥) → (a ≡ k.End → ⊥) → First i
  first {a = a} i w f h = (differ i w f, within false ts i a w h)

  first_locals : {i j : ℕ} {t : TypeName} {ds : List Declarator} → g.Locals ts i t ds j → First i
  first_locals {i = i} (g.locals x y) = let e = type_first x in let f = element_first i (seen false ts i) refl e.1 in (f.0, within false ts i (seen false ts i) refl f.1)

  first_expression : {q l i j : ℕ} {e : Expr} → Spells false ts q l i e j → First i
  first_expression {i = i} x = (λ e. begins_not ts x e refl, within false ts i (seen false ts i) refl (λ e. begins_not ts x e refl))

  pub first_statement : {i j : ℕ} {a : Stmt} → g.Statement ts i a j → First i
  first_statement (g.empty w) = first _ w (λ e. cc) (λ e. cc)
  first_statement (g.block (g.braces w x z)) = first _ w (λ e. cc) (λ e. cc)
  first_statement (g.locals x z) = first_locals x
  first_statement (g.final_locals w x z) = first _ w (λ e. cc) (λ e. cc)
  first_statement (g.effect x n z) = first_expression x.spelled
  first_statement (g.if_alone w o x z a n) = first _ w (λ e. cc) (λ e. cc)
  first_statement (g.if_else w o x z a e b) = first _ w (λ e. cc) (λ e. cc)
  first_statement (g.while w o x z a) = first _ w (λ e. cc) (λ e. cc)
  first_statement (g.do_while w a v o x z y) = first _ w (λ e. cc) (λ e. cc)
  first_statement (g.for w o x y z u v t a) = first _ w (λ e. cc) (λ e. cc)
  first_statement (g.return w x z) = first _ w (λ e. cc) (λ e. cc)
  first_statement (g.break w z) = first _ w (λ e. cc) (λ e. cc)
  first_statement (g.continue w z) = first _ w (λ e. cc) (λ e. cc)
  first_statement (g.throw_variable w n z) = first _ w (λ e. cc) (λ e. cc)
  first_statement (g.throw_new w n x o c z) = first _ w (λ e. cc) (λ e. cc)
  first_statement (g.throw_message w n x o t c z) = first _ w (λ e. cc) (λ e. cc)
  first_statement (g.try w x y) = first _ w (λ e. cc) (λ e. cc)
  first_statement (g.synchronized w o x z y) = first _ w (λ e. cc) (λ e. cc)
  first_statement (g.commit x a n) = first _ x.name (λ e. cc) (λ e. cc)
  first_statement (g.print x y le z u) = first _ x.system (λ e. cc) (λ e. cc)
  first_statement (g.assert (asserts {i = i} w x)) = (λ e. let y : k.End ≡ k.CloseBrace = sym (seen_other i k.Assert w (λ e. cc)) ∙ e in absurd cc, within true ts i k.Assert w (λ e. cc))

  -- ---- blocks, above whose statements n constructs are

  statements_to : (n l : ℕ) {i j : ℕ} {xs : List Stmt} → p.Statements ts n l i xs j → g.Statements ts i (stmts xs) j × Each l n (stmts xs)
  statements_to n l (stop c) = (g.none, tt)
  statements_to n l (step c (a, le) r) = let w = statements_to n l r in (g.one_more a w.0, (le, w.1))

  statements_of : (n l : ℕ) {i j : ℕ} {ss : Stmts} → g.Statements ts i ss j → seen false ts j ≡ k.CloseBrace → Each l n ss → (xs : List Stmt) × (stmts xs ≡ ss) × p.Statements ts n l i xs j
  statements_of n l g.none z e = ([], refl, stop (inl z))
  statements_of n l (g.one_more {i = i} {a = a} x r) z e =
      let w = statements_of n l r z e.1 in
      let f = first_statement x in
      (a ∷ w.0, ap (λ ss. and_stmt a ss) w.1, step (goes_on i f) (x, e.0) w.2)
    where
      goes_on : (i : ℕ) → First i → p.Closes ts i → ⊥
      goes_on i f (inl c) = f.0 c
      goes_on i f (inr le) = let lt = f.1 in absurd (omega arith)

  pub block_to : (n l : ℕ) {i j : ℕ} {xs : List Stmt} → p.Block ts n l i xs j → g.Block ts i (stmts xs) j × Each l n (stmts xs)
  block_to n l {i = i} {j = j} (u, a, (w, _, ea), (xs, b, x, (v, c, (z, _, ec), (q, r)))) =
      let y = statements_to n l x in
      subst (λ xs. g.Block ts i (stmts xs) j × Each l n (stmts xs)) q
      (subst (λ j. g.Block ts i (stmts xs) j) (ec ∙ r) (g.braces w (subst (λ n. g.Statements ts n (stmts xs) b) (sym ea) y.0) z), y.1)

  pub block_of : (n l : ℕ) {i j : ℕ} {ss : Stmts} → g.Block ts i ss j → Each l n ss → (xs : List Stmt) × (stmts xs ≡ ss) × p.Block ts n l i xs j
  block_of n l (g.braces {i = i} {j = j} w x z) e =
      let y = statements_of n l x z e in
      (y.0, y.1, (tt, i + 1, tk ts _ refl w refl, (y.0, j, y.2, (tt, j + 1, tk ts _ refl z refl, (refl, refl)))))

  -- ---- catches

  module _ (d : ℕ) where
    caught_to : {i j : ℕ} {x : Catch} → d ≤ 128 → p.Caught ts (suc d) 128 i x j
        → {m : ℕ} {cs : Catches} → g.CatchesOf ts j cs m → d + under_catches cs ≤ 128 → g.CatchesOf ts i (and_catch x.class x.variable x.body cs) m × (d + under_catches (and_catch x.class x.variable x.body cs) ≤ 128)
    caught_to {i = i} {j = j} {x = x} fit (u, a, (w, _, ea), (v, b, (o, _, eb), (x1, c, (n1, _, q1, ec), (x2, e, (n2, _, q2, ee), (t, f, (z, _, ef), (xs, h, y, (q, r))))))) {m = m} {cs = cs} more le =
        let bl = block_to (suc d) 128 y in
        let ub = each_under d 128 (stmts xs) fit bl.1 in
        let e2 : i + 2 ≡ b = omega arith in
        let e3 : i + 3 ≡ c = omega arith in
        let e4 : i + 4 ≡ e = omega arith in
        let e5 : f ≡ i + 5 = omega arith in
        let class : name_at ts (i + 2) ≡ x1 = ap (name_at ts) e2 ∙ q1 in
        let variable : name_at ts (i + 3) ≡ x2 = ap (name_at ts) e3 ∙ q2 in
        let same : record { class = name_at ts (i + 2); variable = name_at ts (i + 3); body = stmts xs } ≡ x = ap (λ n. record { class = n; variable = name_at ts (i + 3); body = stmts xs }) class ∙ (ap (λ n. record { class = x1; variable = n; body = stmts xs }) variable ∙ q) in
        subst (λ x. g.CatchesOf ts i (and_catch x.class x.variable x.body cs) m × (d + under_catches (and_catch x.class x.variable x.body cs) ≤ 128)) same
        (g.caught w (sn ts ea o) (sn ts e2 n1) (sn ts e3 n2) (sn ts e4 z) (subst (λ n. g.Block ts n (stmts xs) j) e5 (subst (λ j. g.Block ts f (stmts xs) j) r bl.0)) more, omega arith)

    more_catches : {i j : ℕ} {cs : List Catch} → d ≤ 128 → Many (p.Isnt ts k.Catch) (p.Caught ts (suc d)) 128 i cs j → (seen false ts j ≡ k.Catch → ⊥) → g.CatchesOf ts i (catches cs) j × (d + under_catches (catches cs) ≤ 128)
    more_catches fit (stop n) m = (g.no_more n, omega arith)
    more_catches fit (step n x r) m = let w = more_catches fit r m in caught_to fit x w.0 w.1

    many_stops : {l i j : ℕ} {cs : List Catch} → Many (p.Isnt ts k.Catch) (p.Caught ts (suc d)) l i cs j → seen false ts j ≡ k.Catch → ⊥
    many_stops (stop n) = n
    many_stops (step n x r) = many_stops r

    caught_of : (l : ℕ) {i j : ℕ} {x y : Name} {ss : Stmts} {cs : Catches} → g.CatchesOf ts i (and_catch x y ss cs) j → d + under_catches (and_catch x y ss cs) ≤ l
        → (c : Catch) × (m : ℕ) × p.Caught ts (suc d) l i c m × g.CatchesOf ts m cs j × (and_catch c.class c.variable c.body cs ≡ and_catch x y ss cs)
    caught_of l (g.caught {i = i} {j = j} {ss = ss} {cs = cs} w o a b z y r) le =
        let bl = block_of (suc d) l y (under_each d l ss (omega arith)) in (
          record { class = name_at ts (i + 2); variable = name_at ts (i + 3); body = stmts bl.0 },
          j,
          (tt, i + 1, tk ts _ refl w refl, (tt, i + 2, tk ts _ refl o (omega arith), (name_at ts (i + 2), i + 3, (a, (tk ts _ {j = (i + 2) + 1} refl a refl).1, refl, omega arith), (name_at ts (i + 3), i + 4, (b, (tk ts _ {j = (i + 3) + 1} refl b refl).1, refl, omega arith), (tt, i + 5, tk ts _ refl z (omega arith), (bl.0, j, bl.2, (refl, refl))))))),
          r,
          ap (λ ss. and_catch (name_at ts (i + 2)) (name_at ts (i + 3)) ss cs) bl.1,
        )

    rest_of : (l : ℕ) {i j : ℕ} {cs : Catches} → g.CatchesOf ts i cs j → d + under_catches cs ≤ l → (xs : List Catch) × (catches xs ≡ cs) × Many (p.Isnt ts k.Catch) (p.Caught ts (suc d)) l i xs j
    unfolding caught_of
    rest_of l (g.no_more n) le = ([], refl, stop n)
    rest_of l (g.caught {i = i} {ss = ss} {cs = cs} w o a b z y r) le =
        let c = caught_of l (g.caught w o a b z y r) le in
        let m = rest_of l r (omega arith) in
        (c.0 ∷ m.0, ap (λ cs. and_catch c.0.class c.0.variable c.0.body cs) m.1 ∙ c.4, step (λ n. n w) c.2 m.2)

    pub catches_to : {i j : ℕ} {cs : List Catch} → d ≤ 128 → p.Catches ts (suc d) 128 i cs j → g.CatchesOf ts i (catches cs) j × (d + under_catches (catches cs) ≤ 128)
    catches_to {i = i} {j = j} fit (x, a, y, (xs, b, r, (q, e))) =
        let m = more_catches fit r (many_stops r) in
        let z = caught_to fit y m.0 m.1 in
        subst (λ cs. g.CatchesOf ts i (catches cs) j × (d + under_catches (catches cs) ≤ 128)) q (subst (λ j. g.CatchesOf ts i (catches (x ∷ xs)) j × (d + under_catches (catches (x ∷ xs)) ≤ 128)) e z)

    pub catches_of : (l : ℕ) {i j : ℕ} {x y : Name} {ss : Stmts} {cs : Catches} → g.CatchesOf ts i (and_catch x y ss cs) j → d + under_catches (and_catch x y ss cs) ≤ l → (xs : List Catch) × (catches xs ≡ and_catch x y ss cs) × p.Catches ts (suc d) l i xs j
    catches_of l {j = j} {cs = cs} x le =
        let c = caught_of l x le in
        let m = rest_of l c.3 (omega arith) in
        (c.0 ∷ m.0, ap (λ cs. and_catch c.0.class c.0.variable c.0.body cs) m.1 ∙ c.4, (c.0, c.1, c.2, (m.0, j, m.2, (refl, refl))))
