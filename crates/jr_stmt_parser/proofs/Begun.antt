-- Where statements begin, by what the reader has read.
use Rattle.std.proofs.Common.{◌≡◌, ℕ, suc, ◌+◌, ◌-◌, ◌≤◌, ◌<◌, List, sym, subst, arith}
use Rattle.jr_lexer.specs.declared.kind.Kind.{Kind}
use Rattle.jr_lexer.specs.declared.kind.Kind.TheVariants as k
use Rattle.jr_lexer.specs.Token.{Token as TokenOf}
use Rattle.jr_ast.specs.declared.name.Name.{Name}
use Rattle.jr_ast.specs.Expressions.{Expr}
use Rattle.jr_ast.specs.Statements.{Stmt, Catch, ForInit, stmts}
use Rattle.jr_stmt_parser.specs.Grammar as g
use Rattle.jr_stmt_parser.specs.Labels as b
use Rattle.jr_stmt_parser.specs.Labels.{Begins, Inside, Tried}
use Rattle.jr_stmt_parser.specs.Gives.{Found, BeginsBehind, OpensIn, Catching}
use Rattle.jr_stmt_parser.specs.Pieces as p
use Rattle.jr_stmt_parser.proofs.Lists.{sn, optional_to, updates_to}
use Rattle.jr_stmt_parser.proofs.Statements.{block_to}
use Rattle.jr_stmt_parser.proofs.EachForm.{init_to}

module _ (ts : List TokenOf) (o : ℕ) where
  -- a statement begins where another token is counted
  begins_at : {i j : ℕ} → i ≡ j → Begins ts o i → Begins ts o j
  begins_at e x = subst (Begins ts o) e x

  inside_at : {i j : ℕ} → i ≡ j → Inside ts o i → Inside ts o j
  inside_at e x = subst (Inside ts o) e x

  module _ (n : ℕ) where
    abbrev Bracketed : ℕ → Expr → ℕ → Type 0
    Bracketed i e j = Found (p.After ts k.OpenParen (p.Value ts n)) i e j

    -- ---- under `if`, `while`, `do` and `for`

    pub in_then : {i c m : ℕ} {u : Unit {0}} {e : Expr} → Begins ts o i → Found (p.Token ts k.If) i u c → Bracketed c e m → BeginsBehind k.CloseParen ts m o
    in_then {i = i} {c = c} {m = m} {e = e} x f h close = go f.it h.it
      where
        go : {u : Unit {0}} → p.Token ts k.If 128 i u c → p.After ts k.OpenParen (p.Value ts n) 128 c e m → Begins ts o (m + 1)
        go (w, _, ea) (v, d, (q, _, eb), (st, le)) = let e2 : d ≡ i + 2 = omega arith in b.under_if x w (sn ts ea q) (subst (λ d. g.Expression ts d e m) e2 st.spelled) close

    pub in_other : (d : ℕ) {i c m h : ℕ} {u : Unit {0}} {e : Expr} {a : Stmt} → Begins ts o i → Found (p.Token ts k.If) i u c → Bracketed c e m → Found (p.After ts k.CloseParen (p.Inner ts d)) m a h → BeginsBehind k.Else ts h o
    in_other d {i = i} {c = c} {m = m} {h = h} {e = e} {a = a} x f y z else = go f.it y.it z.it
      where
        go : {u : Unit {0}} → p.Token ts k.If 128 i u c → p.After ts k.OpenParen (p.Value ts n) 128 c e m → p.After ts k.CloseParen (p.Inner ts d) 128 m a h → Begins ts o (h + 1)
        go (w, _, ea) (v, j, (q, _, eb), (st, le)) (v2, j2, (cl, _, ec), (s, le2)) =
            let e2 : j ≡ i + 2 = omega arith in
            b.under_else x w (sn ts ea q) (subst (λ d. g.Expression ts d e m) e2 st.spelled) cl (subst (λ n. g.Statement ts n a h) (sym ec) s) else

    pub in_while : {i c m : ℕ} {u : Unit {0}} {e : Expr} → Begins ts o i → Found (p.Token ts k.While) i u c → Bracketed c e m → BeginsBehind k.CloseParen ts m o
    in_while {i = i} {c = c} {m = m} {e = e} x f h close = go f.it h.it
      where
        go : {u : Unit {0}} → p.Token ts k.While 128 i u c → p.After ts k.OpenParen (p.Value ts n) 128 c e m → Begins ts o (m + 1)
        go (w, _, ea) (v, d, (q, _, eb), (st, le)) = let e2 : d ≡ i + 2 = omega arith in b.under_while x w (sn ts ea q) (subst (λ d. g.Expression ts d e m) e2 st.spelled) close

  pub in_do : {i : ℕ} → Begins ts o i → BeginsBehind k.Do ts i o
  in_do x w = b.under_do x w

  pub in_for : (n : ℕ) → 0 < n → n ≤ 129 → {i c c2 j m2 m l2 q : ℕ} {u v w z : Unit {0}} {init : ForInit} {e : _} {es : _} → Begins ts o i → Found (p.Token ts k.For) i u c → Found (p.Token ts k.OpenParen) c v c2 → Found (p.Init ts n) c2 init j → Found (p.Token ts k.Semicolon) j w m2 → Found (p.Optional ts n) m2 e m → Found (p.Token ts k.Semicolon) m z l2 → Found (p.Updates ts n) l2 es q → BeginsBehind k.CloseParen ts q o
  in_for n above le {i = i} {c = c} {c2 = c2} {j = j} {m2 = m2} {m = m} {l2 = l2} {q = q} {init = init} {e = e} {es = es} x f op x1 s1 x2 s2 x3 close =
      let d : n ≡ suc (n - 1) = omega arith in
      let fit : n - 1 ≤ 128 = omega arith in
      let y1 = init_to ts (n - 1) fit (subst (λ n. p.Init ts n 128 c2 init j) d x1.it) in
      let y2 = optional_to ts (n - 1) fit (subst (λ n. p.Optional ts n 128 m2 e m) d x2.it) in
      let y3 = updates_to ts (n - 1) fit (subst (λ n. p.Updates ts n 128 l2 es q) d x3.it) in
      let ea = f.it.2 in
      let eb = op.it.2 in
      let e2 : c2 ≡ i + 2 = omega arith in
      b.under_for x f.it.0 (sn ts ea op.it.0) (subst (λ c. g.Init ts c init j) e2 y1.0) s1.it.0 (subst (λ n. g.Optional ts n e m) (sym s1.it.2) y2.0) s2.it.0 (subst (λ n. g.Updates ts n es q) (sym s2.it.2) y3.0) close

  pub behind_token : {kind : Kind} {i j : ℕ} {u : Unit {0}} → BeginsBehind kind ts i o → Found (p.Token ts kind) i u j → Begins ts o j
  behind_token x f = begins_at f.it.2 (x f.it.0)

  -- ---- in blocks

  pub in_braces : {i j : ℕ} {u : Unit {0}} → OpensIn ts i o → Found (p.Token ts k.OpenBrace) i u j → Inside ts o j
  in_braces x f = inside_at f.it.2 (x f.it.0)

  pub in_block : {i : ℕ} → Begins ts o i → OpensIn ts i o
  in_block x w = b.block x w

  pub in_try : {i j : ℕ} {u : Unit {0}} → Begins ts o i → Found (p.Token ts k.Try) i u j → OpensIn ts j o
  in_try {i = i} {j = j} x f w = let e = f.it.2 in let e2 : i + 2 ≡ j + 1 = omega arith in inside_at e2 (b.tried x f.it.0 (sn ts e w))

  -- at the block of a catch
  pub in_catch : {i a c d e : ℕ} {u v : Unit {0}} {x y : Name} → Catching ts i o → Found (p.Token ts k.OpenParen) i u a → Found (p.Named ts) a x c → Found (p.Named ts) c y d → Found (p.Token ts k.CloseParen) d v e → OpensIn ts e o
  in_catch {i = i} {a = a} {c = c} {d = d} {e = e} (h, t, w, q) f x y z brace =
      let ef = f.it.2 in
      let ex = x.it.3 in
      let ey = y.it.3 in
      let ez = z.it.2 in
      let e1 : h + 2 ≡ a = omega arith in
      let e2 : h + 3 ≡ c = omega arith in
      let e3 : h + 4 ≡ d = omega arith in
      let e4 : h + 5 ≡ e = omega arith in
      let e5 : h + 6 ≡ e + 1 = omega arith in
      inside_at e5 (b.caught t w (sn ts q f.it.0) (sn ts e1 x.it.0) (sn ts e2 y.it.0) (sn ts e3 z.it.0) (sn ts e4 brace))

  module _ (n : ℕ) where
    pub in_synchronized : {i c m h : ℕ} {u v : Unit {0}} {e : Expr} → Begins ts o i → Found (p.Token ts k.Synchronized) i u c → Found (p.After ts k.OpenParen (p.Value ts n)) c e m → Found (p.Token ts k.CloseParen) m v h → OpensIn ts h o
    in_synchronized {i = i} {c = c} {m = m} {h = h} {e = e} x f y z w = go f.it y.it z.it
      where
        go : {u v : Unit {0}} → p.Token ts k.Synchronized 128 i u c → p.After ts k.OpenParen (p.Value ts n) 128 c e m → p.Token ts k.CloseParen 128 m v h → Inside ts o (h + 1)
        go (t, _, ea) (v, d, (q, _, eb), (st, le)) (cl, _, ec) =
            let e2 : d ≡ i + 2 = omega arith in
            let e3 : m + 2 ≡ h + 1 = omega arith in
            inside_at e3 (b.synchronized x t (sn ts ea q) (subst (λ d. g.Expression ts d e m) e2 st.spelled) cl (sn ts ec w))

    -- behind `try` and its block
    pub tried : {i j m : ℕ} {u : Unit {0}} {xs : List Stmt} → Begins ts o i → Found (p.Token ts k.Try) i u j → Found (p.Block ts n) j xs m → Tried ts o m
    tried {i = i} {m = m} {xs = xs} x f y = b.body x f.it.0 (subst (λ n. g.Block ts n (stmts xs) m) (sym f.it.2) (block_to ts n 128 y.it).0)

    -- behind a catch
    pub caught : {i m : ℕ} {x : Catch} → Tried ts o i → Found (p.Caught ts n) i x m → Tried ts o m
    caught {i = i} {m = m} {x = x} t f = go f.it
      where
        go : p.Caught ts n 128 i x m → Tried ts o m
        go (u, a, (w, _, ea), (v, c, (q, _, eb), (x1, d, (n1, _, _, ec), (x2, e, (n2, _, _, ee), (t2, h, (z, _, ef), (xs, l, y, (_, r))))))) =
            let e2 : i + 2 ≡ c = omega arith in
            let e3 : i + 3 ≡ d = omega arith in
            let e4 : i + 4 ≡ e = omega arith in
            let e5 : h ≡ i + 5 = omega arith in
            b.one_more t w (sn ts ea q) (sn ts e2 n1) (sn ts e3 n2) (sn ts e4 z) (subst (λ n. g.Block ts n (stmts xs) m) e5 (subst (λ j. g.Block ts h (stmts xs) j) r (block_to ts n 128 y).0))

  pub catching : {i j : ℕ} {u : Unit {0}} → Tried ts o i → Found (p.Token ts k.Catch) i u j → Catching ts j o
  catching {i = i} t f = (i, t, f.it.0, f.it.2)

  -- ---- behind a statement of a block, and behind a label

  pub behind_statement : (d : ℕ) {i j : ℕ} {a : Stmt} → Inside ts o i → Found (p.Inner ts d) i a j → Inside ts o j
  behind_statement d x f = b.more x f.it.0

  pub behind_label : {i j : ℕ} {u : Unit {0}} → Begins ts o i → Found (p.Labelled ts 0) i u j → Begins ts o j
  behind_label x f = begins_at f.it.1 (b.under_commit x f.it.0)
