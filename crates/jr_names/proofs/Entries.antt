-- Names that are looked up in the code's tables.
use Rattle.std.proofs.Common.{◌≡◌, ℕ, false, cond, List, [], ◌∷◌, ◌++◌, Option, Some, None, map, option_map, slice_get, refl, sym, ap, ◌∙◌, Bor}
use Rattle.std.specs.Prelude.{is_some}
use Rattle.std.specs.Map.{lookup}
use Rattle.std.specs.Str.{bytes_eq}
use Rattle.std.proofs.lemmas.Option.{slice_get-map}
use Rattle.indexmap.specs.IndexMap.{IndexMap, insert_entry}
use Rattle.indexmap.proofs.CallerLemmas.{insert_entry-new}
use Rattle.jr_typing_rules.specs.Names.{Text, named}
use Rattle.jr_names.specs.Tables.{entries_of}

pub named_in_entries : {A : Type 0} (x : Text) (es : List (Bor (List ℕ) × A)) → named x (entries_of es) ≡ lookup (λ k. bytes_eq x k.now) es
unfolding named
named_in_entries x [] = refl
named_in_entries x (e ∷ es) = ap (λ o. cond (bytes_eq x e.0.now) (Some e.1) o) (named_in_entries x es)

pub get_in_map : {A B : Type 0} (f : A → B) (xs : List A) (k : ℕ) → slice_get (map f xs) k ≡ option_map f (slice_get xs k)
get_in_map f xs k = slice_get-map f xs k

entries_added : {A : Type 0} (e : Bor (List ℕ) × A) (es : List (Bor (List ℕ) × A)) → entries_of (es ++ e ∷ []) ≡ entries_of es ++ (e.0.now, e.1) ∷ []
entries_added e [] = refl
entries_added e (f ∷ es) = ap (λ es. (f.0.now, f.1) ∷ es) (entries_added e es)

-- a name that is new goes last
pub entry_put : {A S : Type 0} (m : IndexMap (Bor (List ℕ)) A S) (x : Bor (List ℕ)) (a : A) (new : List (Bor (List ℕ) × A)) → named x.now (entries_of m.entries) ≡ None
    → new ≡ insert_entry (λ k q. bytes_eq k.now q.now) m.entries x a → entries_of new ≡ entries_of m.entries ++ (x.now, a) ∷ []
entry_put m x a new absent is =
    ap entries_of (is ∙ insert_entry-new (λ k q. bytes_eq k.now q.now) m x a (sym (named_in_entries x.now m.entries) ∙ absent)) ∙ entries_added (x, a) m.entries

pub is_absent : {A : Type 0} (o : Option A) → is_some o ≡ false → o ≡ None
is_absent None h = refl
is_absent (Some x) h = cc
