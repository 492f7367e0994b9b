-- The counts of a class's fields, where one more is added.
use Rattle.std.proofs.Common.{◌≡◌, ℕ, ◌+◌, Bool, true, false, cond, List, [], ◌∷◌, ◌++◌, sym, ap, ◌∙◌, arith}
use Rattle.std.specs.Prelude.{is_none}
use Rattle.std.specs.Bool.{beq}
use Rattle.std.proofs.lemmas.List.Sums.{sum_by-append}
use Rattle.jr_base.specs.declared.refusal.Refusal.TheVariants.{Duplicate}
use Rattle.jr_ast.specs.declared.name.Name.{Name}
use Rattle.jr_typing_rules.specs.declared.words.FieldEntry.{FieldEntry}
use Rattle.jr_typing_rules.specs.Answers.{Good, ◌>>=◌, require}
use Rattle.jr_typing_rules.specs.Names.{Text, named}
use Rattle.jr_typing_rules.specs.Resolution.{and_entry, count_fields}
use Rattle.jr_names.specs.declared.counts.Counts.{Counts}
use Rattle.jr_names.specs.Tables.{and_one, CountsFields}

-- a name that is accepted stands last
pub entry_is_last : {A : Type 0} (old new : List (Text × A)) (x : Name) (a : A) → and_entry old x a ≡ Good new → new ≡ old ++ (x.text, a) ∷ []
unfolding and_entry
entry_is_last old new x a is =
    elim (is_none (named x.text old)) as (λ b. ((require b (Duplicate x.place) >>= λ u. Good (old ++ (x.text, a) ∷ [])) ≡ Good new → new ≡ old ++ (x.text, a) ∷ [])) [
      | true ↦ λ is. cc
      | false ↦ λ is. cc
    ] is

zero_more : (n : ℕ) → 0 + n ≡ n
zero_more n = omega arith

counts_last : (b : Bool) (table : List (Text × FieldEntry)) (e : Text × FieldEntry) → count_fields b (table ++ e ∷ []) ≡ count_fields b table + cond (beq e.1.is_static b) 1 0
counts_last b table e =
    sum_by-append (λ (f : Text × FieldEntry). cond (beq f.1.is_static b) 1 0) table (e ∷ [])
    ∙ ap (λ n. count_fields b table + n) (zero_more (cond (beq e.1.is_static b) 1 0))

zero_less : (n : ℕ) → n ≡ n + 0
zero_less n = omega arith

counts_as : (b s : Bool) (table : List (Text × FieldEntry)) (e : Text × FieldEntry) → e.1.is_static ≡ s → count_fields b (table ++ e ∷ []) ≡ count_fields b table + cond (beq s b) 1 0
counts_as b s table e is = counts_last b table e ∙ ap (λ s. count_fields b table + cond (beq s b) 1 0) is

pub counts_more : (s : Bool) (counts : Counts) (table : List (Text × FieldEntry)) (e : Text × FieldEntry) → e.1.is_static ≡ s → CountsFields counts table → CountsFields (and_one s counts) (table ++ e ∷ [])
counts_more true counts table e is right true = ap (λ n. n + 1) (right true) ∙ sym (counts_as true true table e is)
counts_more true counts table e is right false = right false ∙ zero_less (count_fields false table) ∙ sym (counts_as false true table e is)
counts_more false counts table e is right true = right true ∙ zero_less (count_fields true table) ∙ sym (counts_as true false table e is)
counts_more false counts table e is right false = ap (λ n. n + 1) (right false) ∙ sym (counts_as false false table e is)
