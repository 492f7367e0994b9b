-- The keywords, and the row of a word among them.
use Rattle.std.specs.Prelude.{ℕ, ◌+◌, Bool, List, [], ◌∷◌, ◌++◌, Option, Some, None, if◌then◌else◌, codes}
use Rattle.std.specs.Str.{bytes_eq}

-- the reserved keywords of Java (JLS 3.9) but `_`, and its literals `true`, `false` and `null` (JLS 3.10)
abbrev pub java_words : List (List ℕ)
java_words =
    codes "package" ∷ codes "import" ∷ codes "class" ∷ codes "extends" ∷ codes "implements"
    ∷ codes "public" ∷ codes "private" ∷ codes "protected" ∷ codes "static" ∷ codes "final"
    ∷ codes "synchronized" ∷ codes "volatile" ∷ codes "int" ∷ codes "boolean" ∷ codes "void"
    ∷ codes "throws" ∷ codes "if" ∷ codes "else" ∷ codes "while" ∷ codes "do" ∷ codes "for"
    ∷ codes "return" ∷ codes "break" ∷ codes "continue" ∷ codes "throw" ∷ codes "try"
    ∷ codes "catch" ∷ codes "new" ∷ codes "this" ∷ codes "null" ∷ codes "true" ∷ codes "false"
    ∷ codes "switch" ∷ codes "case" ∷ codes "default" ∷ codes "finally" ∷ codes "instanceof"
    ∷ codes "interface" ∷ codes "enum" ∷ codes "abstract" ∷ codes "native" ∷ codes "transient"
    ∷ codes "strictfp" ∷ codes "super" ∷ codes "float" ∷ codes "double" ∷ codes "char"
    ∷ codes "byte" ∷ codes "short" ∷ codes "long" ∷ codes "assert" ∷ codes "goto"
    ∷ codes "const" ∷ []

-- the words that JML adds (JML Reference Manual)
abbrev pub jml_words : List (List ℕ)
jml_words =
    codes "pure" ∷ codes "helper" ∷ codes "atomic" ∷ codes "nullable" ∷ codes "non_null"
    ∷ codes "spec_public" ∷ codes "spec_protected" ∷ codes "spec_safe_math"
    ∷ codes "spec_java_math" ∷ codes "requires" ∷ codes "ensures" ∷ codes "when" ∷ codes "locks"
    ∷ codes "assignable" ∷ codes "modifies" ∷ codes "invariant" ∷ codes "constraint"
    ∷ codes "monitors_for" ∷ codes "signals" ∷ codes "also" ∷ codes "model" ∷ codes "ghost"
    ∷ codes "set" ∷ codes "assume" ∷ codes "normal_behavior" ∷ codes "exceptional_behavior"
    ∷ codes "loop_invariant" ∷ codes "maintaining" ∷ codes "decreases" ∷ codes "represents" ∷ []

-- in annotations, where jml is true, both lists are keywords, elsewhere those of Java alone
unfoldable pub keywords : Bool → List (List ℕ)
keywords jml = if jml then java_words ++ jml_words else java_words

-- the row of a word among words that are numbered from `at` on
abbrev pub row_from : ℕ → List (List ℕ) → List ℕ → Option ℕ
row_from at [] word = None
row_from at (w ∷ ws) word = if bytes_eq w word then Some at else row_from (at + 1) ws word

-- the row of a word among the keywords
unfoldable pub keyword_row : List ℕ → Bool → Option ℕ
keyword_row word jml = row_from 0 (keywords jml) word
