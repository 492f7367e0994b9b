-- The members of a source in order, where each is told how many clauses stand before it.
use Rattle.std.proofs.Common.{◌≡◌, ℕ, ◌+◌, List, [], ◌∷◌, ◌++◌, length, ap, arith}
use Rattle.std.specs.List.{flat_map}
use Rattle.jr_typing_rules.specs.Declarations.{MadeMethod, MadeMember, MadeClass, Fields, Method, Clause, clauses_before_body}
use Rattle.jr_typing_rules.specs.Whole.{methods_in, methods_of}
use Rattle.jr_typing_rules.proofs.Holding.{Each, Each-append}

abbrev pub clause_count : MadeMember → ℕ
clause_count (Fields ms fs) = 0
clause_count (Method m) = clauses_before_body m.source + length m.asserts
clause_count (Clause c) = 1

-- how many clauses stand behind the members, where n stand before them
abbrev pub clauses_behind : ℕ → List MadeMember → ℕ
clauses_behind n [] = n
clauses_behind n (x ∷ xs) = clauses_behind (n + clause_count x) xs

abbrev pub From : (ℕ → MadeMember → Type 0) → ℕ → List MadeMember → Type 0
From P n [] = Unit {0}
From P n (x ∷ xs) = P n x × From P (n + clause_count x) xs

pub From-append : (P : ℕ → MadeMember → Type 0) (n : ℕ) (xs ys : List MadeMember) → From P n xs → From P (clauses_behind n xs) ys → From P n (xs ++ ys)
From-append P n [] ys all more = more
From-append P n (x ∷ xs) ys all more = (all.0, From-append P (n + clause_count x) xs ys all.1 more)

pub From-left : (P : ℕ → MadeMember → Type 0) (n : ℕ) (xs ys : List MadeMember) → From P n (xs ++ ys) → From P n xs
From-left P n [] ys all = tt
From-left P n (x ∷ xs) ys all = (all.0, From-left P (n + clause_count x) xs ys all.1)

pub From-right : (P : ℕ → MadeMember → Type 0) (n : ℕ) (xs ys : List MadeMember) → From P n (xs ++ ys) → From P (clauses_behind n xs) ys
From-right P n [] ys all = all
From-right P n (x ∷ xs) ys all = From-right P (n + clause_count x) xs ys all.1

pub From-weaker : (P Q : ℕ → MadeMember → Type 0) (n : ℕ) (xs : List MadeMember) → ((n : ℕ) (x : MadeMember) → P n x → Q n x) → From P n xs → From Q n xs
From-weaker P Q n [] weaker all = tt
From-weaker P Q n (x ∷ xs) weaker all = (weaker n x all.0, From-weaker P Q (n + clause_count x) xs weaker all.1)

pub From-both : (P Q : ℕ → MadeMember → Type 0) (n : ℕ) (xs : List MadeMember) → From P n xs → From Q n xs → From (λ n x. P n x × Q n x) n xs
From-both P Q n [] ps qs = tt
From-both P Q n (x ∷ xs) ps qs = ((ps.0, qs.0), From-both P Q (n + clause_count x) xs ps.1 qs.1)

pub behind-append : (n : ℕ) (xs ys : List MadeMember) → clauses_behind n (xs ++ ys) ≡ clauses_behind (clauses_behind n xs) ys
behind-append n [] ys = ap (λ n. clauses_behind n ys) (omega arith)
behind-append n (x ∷ xs) ys = behind-append (n + clause_count x) xs ys

abbrev pub members_of : MadeClass → List MadeMember
members_of k = k.members

-- what holds of each method among them
methods-from : (P : ℕ → MadeMember → Type 0) (Q : MadeMethod → Type 0) → ((n : ℕ) (m : MadeMethod) → P n (Method m) → Q m) →
    (n : ℕ) (xs : List MadeMember) → From P n xs → Each Q (flat_map methods_in xs)
methods-from P Q one n [] all = tt
methods-from P Q one n (Method m ∷ xs) all = (one n m all.0, methods-from P Q one (n + clause_count (Method m)) xs all.1)
methods-from P Q one n (Fields ms fs ∷ xs) all = methods-from P Q one (n + 0) xs all.1
methods-from P Q one n (Clause c ∷ xs) all = methods-from P Q one (n + 1) xs all.1

pub methods-of-all : (P : ℕ → MadeMember → Type 0) (Q : MadeMethod → Type 0) → ((n : ℕ) (m : MadeMethod) → P n (Method m) → Q m) →
    (n : ℕ) (ks : List MadeClass) → From P n (flat_map members_of ks) → Each Q (flat_map methods_of ks)
methods-of-all P Q one n [] all = tt
methods-of-all P Q one n (k ∷ ks) all =
    Each-append Q (methods_of k) (flat_map methods_of ks) (methods-from P Q one n k.members (From-left P n k.members (flat_map members_of ks) all))
    (methods-of-all P Q one (clauses_behind n k.members) ks (From-right P n k.members (flat_map members_of ks) all))
