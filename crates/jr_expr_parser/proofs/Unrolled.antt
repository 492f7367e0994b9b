-- One level of reading over the next, and one depth over the next.
use Rattle.std.proofs.Common.{◌≡◌, ℕ, suc, ◌+◌, ◌-◌, ◌<◌, Bool, List, ap, ◌∙◌, sym, subst, arith, Result, Err}
use Rattle.jr_base.specs.declared.refusal.Refusal.TheVariants.{TooDeep}
use Rattle.jr_base.specs.declared.refusal.Fail.{Fail}
use Rattle.jr_lexer.specs.Token.{Token}
use Rattle.jr_lexer.specs.Reading.{span_at}
use Rattle.jr_ast.specs.declared.expr.Quantifier.{Quantifier}
use Rattle.jr_ast.specs.Expressions.{Expr}
use Rattle.jr_expr_parser.specs.declared.operators.Grouping.{Grouping}
use Rattle.jr_expr_parser.specs.declared.read.Read.{Read}
use Rattle.jr_expr_parser.specs.Operators.{grouping_of}
use Rattle.jr_reading.specs.Outcomes.{Outcome}
use Rattle.jr_reading.specs.Steps.{refusal_at}
use Rattle.jr_expr_parser.specs.Reader.{quantified, quantified_in, grouped, levels, nested}
use Rattle.jr_expr_parser.specs.Nests.{Reads}

module _ (jml : Bool) (ts : List Token) where
  module _ (room : ℕ) (nest : ℕ → ℕ → ℕ → Outcome Expr) where
    pub no_quantifier : (q : ℕ) (x : Quantifier) (i : ℕ) → q ≡ 0 → quantified jml ts room nest q x i ≡ Err (refusal_at ts (i + 1))
    unfolding quantified
    no_quantifier q x i e = ap (λ n. quantified jml ts room nest n x i) e

    pub a_quantifier : (q : ℕ) (x : Quantifier) (i : ℕ) → 0 < q → quantified jml ts room nest q x i ≡ quantified_in jml ts room nest (q - 1) x i
    unfolding quantified
    a_quantifier q x i some = let e : q ≡ suc (q - 1) = omega arith in ap (λ n. quantified jml ts room nest n x i) e

    pub one_level : (q l : ℕ) (x : Grouping) (i : ℕ) → l < 16 → grouping_of l ≡ x → levels jml ts room nest q (16 - l) l i ≡ grouped jml ts room nest (λ i. levels jml ts room nest q (15 - l) (suc l) i) x q l i
    unfolding levels
    one_level q l x i low is =
        let n : 16 - l ≡ suc (15 - l) = omega arith in
        ap (λ n. levels jml ts room nest q n l i) n ∙ ap (λ x. grouped jml ts room nest (λ i. levels jml ts room nest q (15 - l) (suc l) i) x q l i) is

    pub reads_level : (q l : ℕ) (x given : Grouping) (i : ℕ) (r : Result (Read × ℕ) Fail) → l < 16 → given ≡ grouping_of l → given ≡ x → Reads (grouped jml ts room nest (λ i. levels jml ts room nest q (15 - l) (suc l) i) x q l i) r → Reads (levels jml ts room nest q (16 - l) l i) r
    reads_level q l x given i r low is at reads = subst (λ o. Reads o r) (sym (one_level q l x i low (sym is ∙ at))) reads

  pub no_room : (room q l i : ℕ) → room ≡ 0 → nested jml ts room q l i ≡ Err (TooDeep (span_at ts i))
  unfolding nested
  no_room room q l i e = ap (λ n. nested jml ts n q l i) e

  pub some_room : (room q l i : ℕ) → 0 < room → nested jml ts room q l i ≡ levels jml ts (room - 1) (nested jml ts (room - 1)) q (16 - l) l i
  unfolding nested
  some_room room q l i some = let e : room ≡ suc (room - 1) = omega arith in ap (λ n. nested jml ts n q l i) e
