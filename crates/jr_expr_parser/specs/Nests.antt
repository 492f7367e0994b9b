-- What a function of the reader answers, over the tree that it made; and a function value that reads what
-- stands inside one construct.
use Rattle.std.specs.Prelude.{◌≡◌, ℕ, ◌≤◌, Bool, List, Result, Ok, Err, map}
use Rattle.std.specs.declared.alloc.Global.{Global}
use denote.Ref.{Bor}
use Rattle.jr_base.specs.declared.refusal.Refusal.{Refusal}
use Rattle.jr_base.specs.declared.refusal.Fail.{Fail}
use Rattle.jr_lexer.specs.Token.{Token}
use Rattle.jr_lexer.specs.Answers.{Fails}
use Rattle.jr_ast.specs.Expressions.{Expr, view_expr}
use Rattle.jr_reading.specs.Limits.{nesting_limit}
use Rattle.jr_expr_parser.specs.declared.read.Read.{Read}
use Rattle.jr_expr_parser.specs.declared.primary.Primary.{Primary}
use Rattle.jr_expr_parser.specs.declared.listing.Listing.{Listing}
use Rattle.jr_reading.specs.declared.view.View.{View}
use Rattle.jr_expr_parser.specs.Primaries.{whole}
use Rattle.jr_reading.specs.Answers as shared
use Rattle.jr_expr_parser.specs.Grammar.{Stands}
use Rattle.jr_expr_parser.specs.Answers.{Shallow, Refuses}
use Rattle.jr_reading.specs.Outcomes.{Outcome}
use Rattle.jr_expr_parser.specs.Reader.{nested}

-- it answers what is made, as plain data
abbrev pub MakesAs : {A B : Type 0} → (B → A) → Result A Refusal → Result B Fail → Type 0
MakesAs view read (Ok r) = read ≡ Ok (view r)
MakesAs view read (Err e) = Fails e read

-- it answers what is read, as plain data, with the index behind it
abbrev pub ReadsAs : {A B : Type 0} → (B → A) → Outcome A → Result (B × ℕ) Fail → Type 0
ReadsAs view read (Ok r) = read ≡ Ok (view r.0, r.1)
ReadsAs view read (Err e) = Fails e read

abbrev pub view_read : Read → Expr
view_read r = view_expr r.tree

abbrev pub view_primary : Primary → Expr
view_primary p = whole p.place p.shape p.suffixes

abbrev pub view_list : Listing → List Expr
view_list es = map view_expr es.items

abbrev pub Makes : Result Expr Refusal → Result Read Fail → Type 0
Makes = MakesAs view_read

abbrev pub Reads : Outcome Expr → Result (Read × ℕ) Fail → Type 0
Reads = ReadsAs view_read

abbrev pub ReadsPrimary : Outcome Expr → Result (Primary × ℕ) Fail → Type 0
ReadsPrimary = ReadsAs view_primary

abbrev pub ReadsList : Outcome (List Expr) → Result (Listing × ℕ) Fail → Type 0
ReadsList = ReadsAs view_list

pub record Nests (room : ℕ) (pre : Global → Bor (List Token) → Bool → ℕ → ℕ → ℕ → ℕ → Type 0)
    (post : Global → Bor (List Token) → Bool → ℕ → ℕ → ℕ → ℕ → Result (Read × ℕ) Fail → Type 0) : Type 0 where
  pub shallow : room ≤ nesting_limit
  pub callable : (alloc : Global) (tokens : Bor (List Token)) (jml : Bool) (q l at : ℕ) → l ≤ 16 → pre alloc tokens jml room q l at
  pub reads : (alloc : Global) (tokens : Bor (List Token)) (jml : Bool) (q l at : ℕ) (r : Result (Read × ℕ) Fail) → post alloc tokens jml room q l at r → Reads (nested jml tokens.now room q l at) r

-- a part of the reader over the tokens, where what stands inside one construct nests less than room deep
abbrev pub inside : {A : Type 0} → (Bool → List Token → ℕ → (ℕ → ℕ → ℕ → Outcome Expr) → A) → View → ℕ → A
inside part view room = part view.jml view.tokens.now room (nested view.jml view.tokens.now room)

-- it answers the expression of the level that stands at an index, as `Answers` has it
abbrev pub Fitting : Bool → List Token → ℕ → ℕ → ℕ → Result (Read × ℕ) Fail → Type 0
Fitting jml ts l i depth result = shared.Answers view_read (Stands jml ts l i) (Shallow depth) (Refuses jml ts l i depth) result
