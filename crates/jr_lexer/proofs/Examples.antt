-- Worked examples of the definitions, and what the tables say.
use Rattle.std.proofs.Common.{◌≡◌, ℕ, Bool, true, false, not, ◌&&◌, List, [], ◌∷◌, map, codes, refl}
use Rattle.std.specs.Prelude.{Result, Ok, Err, nat_eq}
use Rattle.std.specs.List.{list_all, starts_with}
use Rattle.jr_base.specs.declared.refusal.Refusal.{Refusal}
use Rattle.jr_base.specs.declared.refusal.Refusal.TheVariants.{BadToken, OpenComment, BigLiteral}
use Rattle.jr_ops.specs.Keywords.{java_words, jml_words, keywords, keyword_row}
use Rattle.jr_lexer.specs.declared.kind.Kind.{Kind}
use Rattle.jr_lexer.specs.declared.kind.Kind.TheVariants as k
use Rattle.jr_lexer.specs.Numbers.{big_literal}
use Rattle.jr_lexer.specs.Signs.{Sign, signs, longest_sign}
use Rattle.jr_lexer.specs.Lexical.{Read, here, word_kind, word, backslash_kind, backslash_word, integer, string, sign, token, jml_piece, annotation, line_comment, block_comment, java_piece, java}

-- each keyword has its own kind
java_kinds : map (word_kind false) java_words ≡
    k.Package ∷ k.Import ∷ k.Class ∷ k.Extends ∷ k.Implements ∷ k.Public ∷ k.Private ∷ k.Protected
    ∷ k.Static ∷ k.Final ∷ k.Synchronized ∷ k.Volatile ∷ k.Int ∷ k.Boolean ∷ k.Void ∷ k.Throws
    ∷ k.If ∷ k.Else ∷ k.While ∷ k.Do ∷ k.For ∷ k.Return ∷ k.Break ∷ k.Continue
    ∷ k.Throw ∷ k.Try ∷ k.Catch ∷ k.New ∷ k.This ∷ k.Null ∷ k.True ∷ k.False
    ∷ k.Switch ∷ k.Case ∷ k.Default ∷ k.Finally ∷ k.Instanceof ∷ k.Interface ∷ k.Enum ∷ k.Abstract
    ∷ k.Native ∷ k.Transient ∷ k.Strictfp ∷ k.Super ∷ k.Float ∷ k.Double ∷ k.Char ∷ k.Byte
    ∷ k.Short ∷ k.Long ∷ k.Assert ∷ k.Goto ∷ k.Const ∷ []
unfolding word_kind keyword_row keywords
java_kinds = refl

jml_kinds : map (word_kind true) jml_words ≡
    k.Pure ∷ k.Helper ∷ k.Atomic ∷ k.Nullable ∷ k.NonNull ∷ k.SpecPublic ∷ k.SpecProtected ∷ k.SpecSafeMath
    ∷ k.SpecJavaMath ∷ k.Requires ∷ k.Ensures ∷ k.When ∷ k.Locks ∷ k.Assignable ∷ k.Modifies ∷ k.Invariant ∷ k.Constraint ∷ k.MonitorsFor
    ∷ k.Signals ∷ k.Also ∷ k.Model ∷ k.Ghost ∷ k.Set ∷ k.Assume ∷ k.NormalBehavior ∷ k.ExceptionalBehavior
    ∷ k.LoopInvariant ∷ k.Maintaining ∷ k.Decreases ∷ k.Represents ∷ []
unfolding word_kind keyword_row keywords
jml_kinds = refl

-- no sign stands before one that begins with it
abbrev longest_first : List Sign → Bool
longest_first [] = true
longest_first (s ∷ ss) = list_all (λ t. not (starts_with nat_eq t.spelling s.spelling)) ss && longest_first ss

signs_fall : longest_first signs ≡ true
signs_fall = refl

-- what is seen of the tokens here
abbrev told : Read → Result (List (Kind × List ℕ)) Refusal
told (Ok ts) = Ok (map (λ t. (t.kind, t.text)) ts)
told (Err e) = Err e

clause : told (java (codes "/*@ x ==>@*/ ==>")) ≡ Ok ((k.Name, codes "x") ∷ (k.Implies, codes "==>") ∷ (k.EqualEqual, codes "==") ∷ (k.Greater, codes ">") ∷ [])
unfolding keywords keyword_row longest_sign word_kind word backslash_kind backslash_word integer string sign token big_literal jml_piece annotation line_comment block_comment java_piece java
clause = refl

text : told (java (34 ∷ 97 ∷ 92 ∷ 110 ∷ 34 ∷ 43 ∷ [])) ≡ Ok ((k.Text, 97 ∷ 10 ∷ []) ∷ (k.Plus, codes "+") ∷ [])
unfolding keywords keyword_row longest_sign word_kind word backslash_kind backslash_word integer string sign token big_literal jml_piece annotation line_comment block_comment java_piece java
text = refl

first_place : told (java (codes "0 01 3000000000 /*")) ≡ Err (BadToken (here 2))
unfolding keywords keyword_row longest_sign word_kind word backslash_kind backslash_word integer string sign token big_literal jml_piece annotation line_comment block_comment java_piece java
first_place = refl

big : told (java (codes "0 3000000000x /*")) ≡ Err (BigLiteral (here 2))
unfolding keywords keyword_row longest_sign word_kind word backslash_kind backslash_word integer string sign token big_literal jml_piece annotation line_comment block_comment java_piece java
big = refl

unclosed : told (java (codes "0 /*/ 01")) ≡ Err (OpenComment (here 2))
unfolding keywords keyword_row longest_sign word_kind word backslash_kind backslash_word integer string sign token big_literal jml_piece annotation line_comment block_comment java_piece java
unclosed = refl

greatest : told (java (codes "9223372036854775808L 2147483648")) ≡ Ok ((k.Integer, codes "9223372036854775808L") ∷ (k.Integer, codes "2147483648") ∷ [])
unfolding keywords keyword_row longest_sign word_kind word backslash_kind backslash_word integer string sign token big_literal jml_piece annotation line_comment block_comment java_piece java
greatest = refl

two_letters : told (java (codes "2147483648l 1LL")) ≡ Err (BadToken (here 12))
unfolding keywords keyword_row longest_sign word_kind word backslash_kind backslash_word integer string sign token big_literal jml_piece annotation line_comment block_comment java_piece java
two_letters = refl

too_long : told (java (codes "0L 9223372036854775809L")) ≡ Err (BigLiteral (here 3))
unfolding keywords keyword_row longest_sign word_kind word backslash_kind backslash_word integer string sign token big_literal jml_piece annotation line_comment block_comment java_piece java
too_long = refl
