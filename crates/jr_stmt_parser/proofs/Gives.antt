-- How what is read follows from its parts.
use Rattle.std.proofs.Common.{◌≡◌, ◌⊎◌, ℕ, suc, ◌+◌, ◌-◌, ◌≤◌, ◌<◌, Bool, true, false, List, [], ◌∷◌, ◌++◌, length, map, IsTrue, ◌↔◌, Result, Ok, Err, refl, sym, ap, ◌∙◌, subst, inl, inr, append_assoc, arith}
use Rattle.std.specs.Result.{IsErrAnd}
use Rattle.std.proofs.lemmas.List.{append-nil}
use Rattle.jr_base.specs.declared.refusal.Refusal.{Refusal}
use Rattle.jr_base.specs.declared.refusal.Refusal.TheVariants as refusal
use Rattle.jr_base.specs.declared.refusal.Fail.{Fail}
use Rattle.jr_base.specs.declared.refusal.Fail.TheVariants.{Memory, Refused}
use Rattle.jr_base.specs.declared.number.Span.{Span}
use Rattle.jr_lexer.specs.Token.{Token}
use Rattle.jr_stmt_parser.specs.Answers.{LeftOutFrom, BigLiteralIn}
use Rattle.jr_stmt_parser.specs.Gives.{Piece, Then, Just, Split, When, Many, stop, step, Listed, Found, Nothing, NothingWithin, Refuses, FailsBy, Fails, NoLabel, Gives, Passes, FailsIn, GivesIn, Blames, SoFar}

-- ---- what stands there

pub found_then : {A B : Type 0} {P : Piece A} {Q : A → Piece B} {i j m : ℕ} {x : A} {y : B} → Found P i x j → Found (Q x) j y m → Found (Then P Q) i y m
found_then {Q = Q} {j = j} {x = x} p q = record {
  it = (x, j, p.it, q.it);
  on = omega (arith, p.on, q.on);
  only = λ l z o (a, b, c, d). let e = p.only l a b c in q.only l z o (subst (λ j. Q x l j z o) (sym e.1) (subst (λ x. Q x l b z o) (sym e.0) d));
}

pub found_just : {A : Type 0} {i : ℕ} {x : A} → Found (Just x) i x i
found_just = record { it = (refl, refl); on = omega arith; only = λ l y m e. e }

pub found_made : {A : Type 0} {i : ℕ} {x y : A} → x ≡ y → Found (Just x) i y i
found_made {i = i} {x = x} e = subst (λ y. Found (Just x) i y i) e found_just

pub found_when : {A : Type 0} {T : Type 0} {P : Piece A} {i j : ℕ} {x : A} → T → Found P i x j → Found (When T P) i x j
found_when t p = record { it = (t, p.it); on = p.on; only = λ l y m (s, q). p.only l y m q }

pub found_first : {A : Type 0} {T : ℕ → Type 0} {P Q : Piece A} {i j : ℕ} {x : A} → T i → Found P i x j → Found (Split T P Q) i x j
found_first {T = T} {P = P} {Q = Q} {i = i} {j = j} {x = x} t p = record { it = inl (t, p.it); on = p.on; only = go }
  where
    go : (l : ℕ) (y : _) (m : ℕ) → Split T P Q l i y m → (x ≡ y) × (j ≡ m)
    go l y m (inl (s, q)) = p.only l y m q
    go l y m (inr (s, q)) = absurd (s t)

pub found_second : {A : Type 0} {T : ℕ → Type 0} {P Q : Piece A} {i j : ℕ} {x : A} → (T i → ⊥) → Found Q i x j → Found (Split T P Q) i x j
found_second {T = T} {P = P} {Q = Q} {i = i} {j = j} {x = x} t p = record { it = inr (t, p.it); on = p.on; only = go }
  where
    go : (l : ℕ) (y : _) (m : ℕ) → Split T P Q l i y m → (x ≡ y) × (j ≡ m)
    go l y m (inl (s, q)) = absurd (t s)
    go l y m (inr (s, q)) = p.only l y m q

-- ---- the same things of another name

pub found_as : {A : Type 0} {P R : Piece A} {i j : ℕ} {x : A} → (P 128 i x j → R 128 i x j) → ((l : ℕ) (y : A) (m : ℕ) → R l i y m → P l i y m) → Found P i x j → Found R i x j
found_as {i = i} {j = j} {x = x} to of p = record { it = to p.it; on = p.on; only = λ l y m r. p.only l y m (of l y m r) }

-- ---- what does not

left_out_on : {L : ℕ → Type 0} (ts : List Token) (i j : ℕ) (s : Span) → i ≤ j → LeftOutFrom ts L j s → LeftOutFrom ts L i s
left_out_on ts i j s le x = record { at = x.at; behind = omega (arith, x.behind); span = x.span; word = x.word }

big_on : (ts : List Token) (i j : ℕ) (s : Span) → i ≤ j → BigLiteralIn ts j s → BigLiteralIn ts i s
big_on ts i j s le (inl x) = inl (record { at = x.at; behind = omega (arith, x.behind); span = x.span; literal = x.literal; number = x.number; before = x.before })
big_on ts i j s le (inr x) = inr (record { at = x.at; behind = omega (arith, x.behind); span = x.span; literal = x.literal; number = x.number; before = x.before })

word_of : {A : Type 0} (L : ℕ → Type 0) (at : ℕ) → A ⊎ NoLabel at → A ⊎ L at
word_of L at (inl w) = inl w
word_of L at (inr n) = absurd n

-- what is left out and no label is left out, whichever labels are
leaf_word : {L : ℕ → Type 0} {ts : List Token} {i : ℕ} {s : Span} → LeftOutFrom ts NoLabel i s → LeftOutFrom ts L i s
leaf_word {L = L} x = record { at = x.at; behind = x.behind; span = x.span; word = word_of L x.at x.word }

-- another part fails where this one does, at an earlier index
refuses_as : {A B : Type 0} (L : ℕ → Type 0) (ts : List Token) (depth deeper : ℕ) (P : Piece A) (R : Piece B) (i j : ℕ) (r : Refusal) → i ≤ j → (128 < deeper + (length ts - j) → 128 < depth + (length ts - i)) → (Nothing P j → Nothing R i) → (NothingWithin P j → NothingWithin R i) → Refuses L ts deeper P j r → Refuses L ts depth R i r
refuses_as L ts depth deeper P R i j (refusal.Syntax s) le room all within x = all x
refuses_as L ts depth deeper P R i j (refusal.NotInProfile s) le room all within x = (all x.0, left_out_on ts i j s le x.1)
refuses_as L ts depth deeper P R i j (refusal.BigLiteral s) le room all within x = (all x.0, big_on ts i j s le x.1)
refuses_as L ts depth deeper P R i j (refusal.TooDeep s) le room all within x = (within x.0, room x.1)
refuses_as L ts depth deeper P R i j _ le room all within x = absurd x

by_as : {A B : Type 0} (L : ℕ → Type 0) (ts : List Token) (depth deeper : ℕ) (P : Piece A) (R : Piece B) (i j : ℕ) (f : Fail) → i ≤ j → (128 < deeper + (length ts - j) → 128 < depth + (length ts - i)) → (Nothing P j → Nothing R i) → (NothingWithin P j → NothingWithin R i) → FailsBy L ts deeper P j f → FailsBy L ts depth R i f
by_as L ts depth deeper P R i j Memory le room all within x = tt
by_as L ts depth deeper P R i j (Refused r) le room all within x = refuses_as L ts depth deeper P R i j r le room all within x

pub fails_as : {L : ℕ → Type 0} {A : Type 0} {ts : List Token} {depth : ℕ} {P R : Piece A} {i : ℕ} {f : Fail} → ((l : ℕ) (y : A) (m : ℕ) → R l i y m → P l i y m) → Fails L ts depth P i f → Fails L ts depth R i f
fails_as {L = L} {ts = ts} {depth = depth} {P = P} {R = R} {i = i} {f = f} of x = record { why = by_as L ts depth depth P R i i f (omega arith) (λ b. b) (λ n l y m r. n l y m (of l y m r)) (λ n y m r. n y m (of 128 y m r)) x.why }

pub fails_of : {L : ℕ → Type 0} {A B : Type 0} {ts : List Token} {depth : ℕ} {P : Piece A} {R : Piece B} {i : ℕ} {f : Fail} → ((l : ℕ) (y : B) (m : ℕ) → R l i y m → (x : A) × (j : ℕ) × P l i x j) → Fails L ts depth P i f → Fails L ts depth R i f
fails_of {L = L} {ts = ts} {depth = depth} {P = P} {R = R} {i = i} {f = f} of x = record { why = by_as L ts depth depth P R i i f (omega arith) (λ b. b) (λ n l y m r. let p = of l y m r in n l p.0 p.1 p.2) (λ n y m r. let p = of 128 y m r in n p.0 p.1 p.2) x.why }

pub fails_first : {L : ℕ → Type 0} {A B : Type 0} {ts : List Token} {depth : ℕ} {P : Piece A} {Q : A → Piece B} {i : ℕ} {f : Fail} → Fails L ts depth P i f → Fails L ts depth (Then P Q) i f
fails_first {L = L} {ts = ts} {depth = depth} {P = P} {Q = Q} {i = i} {f = f} x = record { why = by_as L ts depth depth P (Then P Q) i i f (omega arith) (λ b. b) (λ n l y m (a, b, c, d). n l a b c) (λ n y m (a, b, c, d). n a b c) x.why }

fails_behind : {A B : Type 0} (L : ℕ → Type 0) (ts : List Token) (depth deeper : ℕ) (P : Piece A) (Q : A → Piece B) (i j : ℕ) (x : A) (f : Fail) → (128 < deeper + (length ts - j) → 128 < depth + (length ts - i)) → Found P i x j → Fails L ts deeper (Q x) j f → Fails L ts depth (Then P Q) i f
fails_behind L ts depth deeper P Q i j x f room p q = record {
  why = by_as L ts depth deeper (Q x) (Then P Q) i j f p.on room
      (λ n l y m (a, b, c, d). n l y m (same l y m a b c d))
      (λ n y m (a, b, c, d). n y m (same 128 y m a b c d))
      q.why;
}
  where
    same : (l : ℕ) (y : _) (m : ℕ) (a : _) (b : ℕ) → P l i a b → Q a l b y m → Q x l j y m
    same l y m a b c d = let e = p.only l a b c in subst (λ j. Q x l j y m) (sym e.1) (subst (λ x. Q x l b y m) (sym e.0) d)

pub fails_rest : {L : ℕ → Type 0} {A B : Type 0} {ts : List Token} {depth : ℕ} {P : Piece A} {Q : A → Piece B} {i j : ℕ} {x : A} {f : Fail} → Found P i x j → Fails L ts depth (Q x) j f → Fails L ts depth (Then P Q) i f
fails_rest {L = L} {ts = ts} {depth = depth} {P = P} {Q = Q} {i = i} {j = j} {x = x} {f = f} p q = fails_behind L ts depth depth P Q i j x f (λ b. let on = p.on in omega arith) p q

pub nothing_rest : {A B : Type 0} {P : Piece A} (Q : A → Piece B) {i j : ℕ} {x : A} → Found P i x j → Nothing (Q x) j → Nothing (Then P Q) i
nothing_rest Q {j = j} {x = x} p n = λ l y m (a, b, c, d). let e = p.only l a b c in n l y m (subst (λ j. Q x l j y m) (sym e.1) (subst (λ x. Q x l b y m) (sym e.0) d))

-- what nests one deeper stands behind a token at least
pub fails_inside : {L : ℕ → Type 0} {A B : Type 0} {ts : List Token} {depth : ℕ} {P : Piece A} {Q : A → Piece B} {i j : ℕ} {x : A} {f : Fail} → i < j → i < length ts → Found P i x j → Fails L ts (suc depth) (Q x) j f → Fails L ts depth (Then P Q) i f
fails_inside {L = L} {ts = ts} {depth = depth} {P = P} {Q = Q} {i = i} {j = j} {x = x} {f = f} lt within p q = fails_behind L ts depth (suc depth) P Q i j x f (λ b. omega arith) p q

pub fails_when : {L : ℕ → Type 0} {A : Type 0} {ts : List Token} {depth : ℕ} {T : Type 0} {P : Piece A} {i : ℕ} {f : Fail} → Fails L ts depth P i f → Fails L ts depth (When T P) i f
fails_when {L = L} {ts = ts} {depth = depth} {T = T} {P = P} {i = i} {f = f} x = record { why = by_as L ts depth depth P (When T P) i i f (omega arith) (λ b. b) (λ n l y m (t, p). n l y m p) (λ n y m (t, p). n y m p) x.why }

pub fails_split_first : {L : ℕ → Type 0} {A : Type 0} {ts : List Token} {depth : ℕ} {T : ℕ → Type 0} {P Q : Piece A} {i : ℕ} {f : Fail} → T i → Fails L ts depth P i f → Fails L ts depth (Split T P Q) i f
fails_split_first {L = L} {ts = ts} {depth = depth} {T = T} {P = P} {Q = Q} {i = i} {f = f} t x = record { why = by_as L ts depth depth P (Split T P Q) i i f (omega arith) (λ b. b) (λ n l y m. go l y m (n l y m)) (λ n y m. go 128 y m (n y m)) x.why }
  where
    go : (l : ℕ) (y : _) (m : ℕ) → (P l i y m → ⊥) → Split T P Q l i y m → ⊥
    go l y m n (inl (s, q)) = n q
    go l y m n (inr (s, q)) = s t

pub fails_split_second : {L : ℕ → Type 0} {A : Type 0} {ts : List Token} {depth : ℕ} {T : ℕ → Type 0} {P Q : Piece A} {i : ℕ} {f : Fail} → (T i → ⊥) → Fails L ts depth Q i f → Fails L ts depth (Split T P Q) i f
fails_split_second {L = L} {ts = ts} {depth = depth} {T = T} {P = P} {Q = Q} {i = i} {f = f} t x = record { why = by_as L ts depth depth Q (Split T P Q) i i f (omega arith) (λ b. b) (λ n l y m. go l y m (n l y m)) (λ n y m. go 128 y m (n y m)) x.why }
  where
    go : (l : ℕ) (y : _) (m : ℕ) → (Q l i y m → ⊥) → Split T P Q l i y m → ⊥
    go l y m n (inl (s, q)) = t s
    go l y m n (inr (s, q)) = n q

pub fails_memory : {L : ℕ → Type 0} {A : Type 0} {ts : List Token} {depth : ℕ} {P : Piece A} {i : ℕ} {f : Fail} → f ≡ Memory → Fails L ts depth P i f
fails_memory {L = L} {ts = ts} {depth = depth} {P = P} {i = i} e = subst (λ f. Fails L ts depth P i f) (sym e) (record { why = tt })

blamed_by : {A : Type 0} (L : ℕ → Type 0) (ts : List Token) (depth : ℕ) (P : Piece A) (i j : ℕ) (r : Refusal) → i ≤ j → Nothing P i → Blames ts j r → Refuses L ts depth P i r
blamed_by L ts depth P i j (refusal.Syntax s) le n b = n
blamed_by L ts depth P i j (refusal.NotInProfile s) le n b = (n, left_out_on ts i j s le (leaf_word b))
blamed_by L ts depth P i j _ le n b = absurd b

-- the tokens do not go on with the one at index j
pub blamed : {L : ℕ → Type 0} {A : Type 0} {ts : List Token} {depth : ℕ} {P : Piece A} {i : ℕ} (j : ℕ) {r : Refusal} → i ≤ j → Nothing P i → Blames ts j r → Fails L ts depth P i (Refused r)
blamed {L = L} {ts = ts} {depth = depth} {P = P} {i = i} j {r = r} le n b = record { why = blamed_by L ts depth P i j r le n b }

-- ---- what holds no statement, among what does

leaf_refuses : {A : Type 0} (L : ℕ → Type 0) (ts : List Token) (depth : ℕ) (P : Piece A) (i : ℕ) (r : Refusal) → Refuses NoLabel ts depth P i r → Refuses L ts depth P i r
leaf_refuses L ts depth P i (refusal.Syntax s) x = x
leaf_refuses L ts depth P i (refusal.NotInProfile s) x = (x.0, leaf_word x.1)
leaf_refuses L ts depth P i (refusal.BigLiteral s) x = x
leaf_refuses L ts depth P i (refusal.TooDeep s) x = x
leaf_refuses L ts depth P i _ x = absurd x

leaf_by : {A : Type 0} (L : ℕ → Type 0) (ts : List Token) (depth : ℕ) (P : Piece A) (i : ℕ) (f : Fail) → FailsBy NoLabel ts depth P i f → FailsBy L ts depth P i f
leaf_by L ts depth P i Memory x = tt
leaf_by L ts depth P i (Refused r) x = leaf_refuses L ts depth P i r x

pub leaf : {L : ℕ → Type 0} {A : Type 0} {ts : List Token} {depth : ℕ} {P : Piece A} {i : ℕ} {f : Fail} → Fails NoLabel ts depth P i f → Fails L ts depth P i f
leaf {L = L} {ts = ts} {depth = depth} {P = P} {i = i} {f = f} x = record { why = leaf_by L ts depth P i f x.why }

pub leaf_gives : {A B : Type 0} (Where : ℕ → Type 0) (view : A → B) (ts : List Token) (depth : ℕ) (P : Piece B) (i : ℕ) (r : Result (A × ℕ) Fail) → Gives view ts depth P i r → GivesIn Where view ts depth P i r
leaf_gives Where view ts depth P i (Ok y) p = p
leaf_gives Where view ts depth P i (Err f) p = λ o w. leaf p

-- ---- what a token and what stands behind it are, as the first part of more

pub found_pair : {A B C : Type 0} {P : Piece A} {Q : Piece B} {R : B → Piece C} {i j m : ℕ} {x : B} {y : C} → Found (Then P (λ u. Q)) i x j → Found (R x) j y m → Found (Then P (λ u. Then Q R)) i y m
found_pair p q = found_as (λ (x, j, (u, a, s, t), r). (u, a, s, (x, j, t, r))) (λ l y m (u, a, s, (x, j, t, r)). (x, j, (u, a, s, t), r)) (found_then p q)

pub fails_pair : {L : ℕ → Type 0} {A B C : Type 0} {ts : List Token} {depth : ℕ} {P : Piece A} {Q : Piece B} {R : B → Piece C} {i : ℕ} {f : Fail} → Fails L ts depth (Then P (λ u. Q)) i f → Fails L ts depth (Then P (λ u. Then Q R)) i f
fails_pair p = fails_as (λ l y m (u, a, s, (x, j, t, r)). (x, j, (u, a, s, t), r)) (fails_first p)

pub rest_pair : {L : ℕ → Type 0} {A B C : Type 0} {ts : List Token} {depth : ℕ} {P : Piece A} {Q : Piece B} {R : B → Piece C} {i j : ℕ} {x : B} {f : Fail} → Found (Then P (λ u. Q)) i x j → Fails L ts depth (R x) j f → Fails L ts depth (Then P (λ u. Then Q R)) i f
rest_pair p q = fails_as (λ l y m (u, a, s, (x, j, t, r)). (x, j, (u, a, s, t), r)) (fails_rest p q)

-- ---- where a part of a function failed, by `?`

pub exits : {A B : Type 0} (view : A → B) {ts : List Token} {depth : ℕ} {P : Piece B} {i : ℕ} {f : Fail} (r : Result (A × ℕ) Fail) → IsErrAnd r (λ e. e ≡ f) → Fails NoLabel ts depth P i f → Gives view ts depth P i r
exits view (Ok x) h p = absurd h
exits view {ts = ts} {depth = depth} {P = P} {i = i} (Err e) h p = subst (λ f. Fails NoLabel ts depth P i f) (sym h) p

pub exits_in : {A B : Type 0} (view : A → B) {Where : ℕ → Type 0} {ts : List Token} {depth : ℕ} {P : Piece B} {i : ℕ} {f : Fail} (r : Result (A × ℕ) Fail) → IsErrAnd r (λ e. e ≡ f) → FailsIn Where ts depth P i f → GivesIn Where view ts depth P i r
exits_in view (Ok x) h p = absurd h
exits_in view {Where = Where} {ts = ts} {depth = depth} {P = P} {i = i} (Err e) h p = subst (λ f. FailsIn Where ts depth P i f) (sym h) p

pub exits_index : {ts : List Token} {depth : ℕ} {P : Piece (Unit {0})} {i : ℕ} {f : Fail} (r : Result ℕ Fail) → IsErrAnd r (λ e. e ≡ f) → Fails NoLabel ts depth P i f → Passes ts depth P i r
exits_index (Ok x) h p = absurd h
exits_index {ts = ts} {depth = depth} {P = P} {i = i} (Err e) h p = subst (λ f. Fails NoLabel ts depth P i f) (sym h) p

-- what a call answered that ends a function
pub gives_rest : {A B C : Type 0} (view : A → B) (ts : List Token) (depth : ℕ) {P : Piece C} (Q : C → Piece B) {i j : ℕ} {x : C} (r : Result (A × ℕ) Fail) → Found P i x j → Gives view ts depth (Q x) j r → Gives view ts depth (Then P Q) i r
gives_rest view ts depth Q (Ok y) p q = found_then p q
gives_rest view ts depth Q (Err f) p q = fails_rest p q

pub gives_inside : {A B C : Type 0} {Where There : ℕ → Type 0} (view : A → B) (ts : List Token) (depth : ℕ) {P : Piece C} (Q : C → Piece B) {i j : ℕ} {x : C} (r : Result (A × ℕ) Fail) → Found P i x j → (i < j) × (i < length ts) → ((o : ℕ) → Where o → There o) → GivesIn There view ts (suc depth) (Q x) j r → GivesIn Where view ts depth (Then P Q) i r
gives_inside view ts depth Q (Ok y) p lt there q = found_then p q
gives_inside view ts depth Q (Err f) p lt there q = λ o w. fails_inside lt.0 lt.1 p (q o (there o w))

pub gives_first : {A B : Type 0} (view : A → B) (ts : List Token) (depth : ℕ) (T : ℕ → Type 0) (P Q : Piece B) {i : ℕ} (r : Result (A × ℕ) Fail) → T i → Gives view ts depth P i r → Gives view ts depth (Split T P Q) i r
gives_first view ts depth T P Q (Ok y) t p = found_first t p
gives_first view ts depth T P Q (Err f) t p = fails_split_first t p

pub gives_second : {A B : Type 0} (view : A → B) (ts : List Token) (depth : ℕ) (T : ℕ → Type 0) (P Q : Piece B) {i : ℕ} (r : Result (A × ℕ) Fail) → (T i → ⊥) → Gives view ts depth Q i r → Gives view ts depth (Split T P Q) i r
gives_second view ts depth T P Q (Ok y) t p = found_second t p
gives_second view ts depth T P Q (Err f) t p = fails_split_second t p

pub in_first : {A B : Type 0} (Where : ℕ → Type 0) (view : A → B) (ts : List Token) (depth : ℕ) (T : ℕ → Type 0) (P Q : Piece B) {i : ℕ} (r : Result (A × ℕ) Fail) → T i → GivesIn Where view ts depth P i r → GivesIn Where view ts depth (Split T P Q) i r
in_first Where view ts depth T P Q (Ok y) t p = found_first t p
in_first Where view ts depth T P Q (Err f) t p = λ o w. fails_split_first t (p o w)

pub in_second : {A B : Type 0} (Where : ℕ → Type 0) (view : A → B) (ts : List Token) (depth : ℕ) (T : ℕ → Type 0) (P Q : Piece B) {i : ℕ} (r : Result (A × ℕ) Fail) → (T i → ⊥) → GivesIn Where view ts depth Q i r → GivesIn Where view ts depth (Split T P Q) i r
in_second Where view ts depth T P Q (Ok y) t p = found_second t p
in_second Where view ts depth T P Q (Err f) t p = λ o w. fails_split_second t (p o w)

-- ---- what a test told

pub yes : {b : Bool} {P : Type 0} → IsTrue b ↔ P → b ≡ true → P
yes h e = h.0 e

pub no : {b : Bool} {P : Type 0} → IsTrue b ↔ P → b ≡ false → P → ⊥
no h e p = let t : true ≡ false = sym (h.1 p) ∙ e in absurd cc

-- ---- lists

pub so_far_start : {A : Type 0} {P : Piece (List A)} {i : ℕ} → SoFar P P i [] i
so_far_start {P = P} {i = i} = record { on = omega arith; adds = λ xs m p. p; only = λ l ys m p. (ys, refl, p) }

pub so_far_first : {A : Type 0} {First : Piece A} {Rest : Piece (List A)} {i j : ℕ} {x : A} → Found First i x j → SoFar (Listed First Rest) Rest i (x ∷ []) j
so_far_first {First = First} {Rest = Rest} {i = i} {j = j} {x = x} p = record {
  on = p.on;
  adds = λ xs m r. (x, j, p.it, (xs, m, r, (refl, refl)));
  only = λ l ys m (a, b, c, (xs, o, d, e)).
      let f = p.only l a b c in
      (xs, ap (λ a. a ∷ xs) f.0 ∙ e.0, subst (λ m. Rest l j xs m) e.1 (subst (λ b. Rest l b xs o) (sym f.1) d));
}

pub so_far_more : {A : Type 0} {P : Piece (List A)} {Stop : ℕ → Type 0} {Item : Piece A} {i j m : ℕ} {found : List A} {x : A} → SoFar P (Many Stop Item) i found j → (Stop j → ⊥) → Found Item j x m → SoFar P (Many Stop Item) i (found ++ x ∷ []) m
so_far_more {P = P} {Stop = Stop} {Item = Item} {i = i} {j = j} {m = m} {found = found} {x = x} so go p = record {
  on = omega (arith, so.on, p.on);
  adds = λ xs o r. subst (λ ys. P 128 i ys o) (sym (append_assoc found (x ∷ []) xs)) (so.adds (x ∷ xs) o (step go p.it r));
  only = λ l ys o q. let a = so.only l ys o q in let b = first l o a.0 a.2 in (b.0, append_assoc found (x ∷ []) b.0 ∙ ap (λ xs. found ++ xs) b.1 ∙ a.1, b.2);
}
  where
    first : (l o : ℕ) (zs : List _) → Many Stop Item l j zs o → (xs : List _) × (x ∷ xs ≡ zs) × Many Stop Item l m xs o
    first l o _ (stop s) = absurd (go s)
    first l o _ (step {j = b} {x = a} {xs = xs} s q r) = let e = p.only l a b q in (xs, ap (λ a. a ∷ xs) e.0, subst (λ b. Many Stop Item l b xs o) (sym e.1) r)

pub so_far_stop : {A : Type 0} {P : Piece (List A)} {Stop : ℕ → Type 0} {Item : Piece A} {i j : ℕ} {found : List A} → SoFar P (Many Stop Item) i found j → Stop j → Found P i found j
so_far_stop {P = P} {Stop = Stop} {Item = Item} {i = i} {j = j} {found = found} so here = record {
  it = subst (λ ys. P 128 i ys j) (append-nil found) (so.adds [] j (stop here));
  on = so.on;
  only = λ l ys o q. let a = so.only l ys o q in let b = none l o a.0 a.2 in (sym (append-nil found) ∙ ap (λ xs. found ++ xs) b.0 ∙ a.1, b.1);
}
  where
    none : (l o : ℕ) (zs : List _) → Many Stop Item l j zs o → ([] ≡ zs) × (j ≡ o)
    none l o _ (stop s) = (refl, refl)
    none l o _ (step s q r) = absurd (s here)

pub so_far_fails : {L : ℕ → Type 0} {A : Type 0} {ts : List Token} {depth : ℕ} {P : Piece (List A)} {Stop : ℕ → Type 0} {Item : Piece A} {i j : ℕ} {found : List A} {f : Fail} → SoFar P (Many Stop Item) i found j → (Stop j → ⊥) → Fails L ts depth Item j f → Fails L ts depth P i f
so_far_fails {L = L} {ts = ts} {depth = depth} {P = P} {Stop = Stop} {Item = Item} {i = i} {j = j} {found = found} {f = f} so go p = record {
  why = by_as L ts depth depth Item P i j f so.on (λ b. let on = so.on in omega arith)
      (λ n l ys m q. let a = so.only l ys m q in none l m a.0 a.2 (n l))
      (λ n ys m q. let a = so.only 128 ys m q in none 128 m a.0 a.2 n)
      p.why;
}
  where
    none : (l m : ℕ) (zs : List _) → Many Stop Item l j zs m → ((y : _) (o : ℕ) → Item l j y o → ⊥) → ⊥
    none l m _ (stop s) n = go s
    none l m _ (step {j = b} {x = a} s q r) n = n a b q

-- ---- and of lists of trees

map_last : {A B : Type 0} (view : A → B) (xs : List A) (x : A) → map view (xs ++ x ∷ []) ≡ map view xs ++ view x ∷ []
map_last view [] x = refl
map_last view (y ∷ xs) x = ap (λ ys. view y ∷ ys) (map_last view xs x)

pub so_far_init : {A B : Type 0} (view : A → B) {First : Piece B} {Rest : Piece (List B)} {i j : ℕ} {x : A} {old new : List A} → old ≡ [] → new ≡ old ++ x ∷ [] → Found First i (view x) j → SoFar (Listed First Rest) Rest i (map view new) j
so_far_init view {First = First} {Rest = Rest} {i = i} {j = j} {x = x} e f p = subst (λ ys. SoFar (Listed First Rest) Rest i (map view ys) j) (sym (f ∙ ap (λ ys. ys ++ x ∷ []) e)) (so_far_first p)

pub so_far_push : {A B : Type 0} (view : A → B) {P : Piece (List B)} {Stop : ℕ → Type 0} {Item : Piece B} {i j m : ℕ} (found : List A) {new : List A} {x : A} → new ≡ found ++ x ∷ [] → SoFar P (Many Stop Item) i (map view found) j → (Stop j → ⊥) → Found Item j (view x) m → SoFar P (Many Stop Item) i (map view new) m
so_far_push view {P = P} {Stop = Stop} {Item = Item} {i = i} {m = m} found {x = x} e so go p = subst (λ ys. SoFar P (Many Stop Item) i ys m) (sym (ap (map view) e ∙ map_last view found x)) (so_far_more so go p)

pub one_made : {A B : Type 0} (view : A → B) {x : A} {old new : List A} → old ≡ [] → new ≡ old ++ x ∷ [] → view x ∷ [] ≡ map view new
one_made view {x = x} e f = sym (ap (map view) (f ∙ ap (λ ys. ys ++ x ∷ []) e))

pub length_view : {A B : Type 0} (view : A → B) (xs : List A) → length (map view xs) ≡ length xs
length_view view [] = refl
length_view view (x ∷ xs) = ap suc (length_view view xs)
