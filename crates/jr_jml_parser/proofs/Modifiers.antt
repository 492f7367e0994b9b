-- Modifiers before the keyword of a clause.
use Rattle.std.proofs.Common.{◌≡◌, ℕ, ◌+◌, ◌-◌, ◌<◌, ◌≤◌, Bool, true, false, ◌||◌, List, length, refl, sym, ap, ◌∙◌, subst, inl, inr, arith}
use Rattle.std.specs.Prelude.{◌≢◌, ◌⊎◌}
use Rattle.jr_lexer.specs.declared.kind.Kind.{Kind}
use Rattle.jr_lexer.specs.declared.kind.Kind.TheVariants as k
use Rattle.jr_lexer.specs.Token.{Token}
use Rattle.jr_reading.specs.Seen.{seen}
use Rattle.jr_jml_parser.specs.Grammar.{Modified, plain, visible, static, is_visibility}
use Rattle.jr_jml_parser.specs.Parts.{AllModified, is_modifier}
use Rattle.jr_jml_parser.proofs.Indexes.{seen_inside}

-- The modifiers from index i up to index n were read; is_static is true where one is `static`.
pub record Passed (ts : List Token) (i : ℕ) (is_static : Bool) (n : ℕ) : Type 0 where
  pub behind : i ≤ n
  pub whole : (s : Bool) (m : ℕ) → Modified ts n s m → Modified ts i (is_static || s) m
  pub only : (s : Bool) (m : ℕ) → Modified ts i s m → is_modifier (seen true ts m) ≡ false → (u : Bool) × (s ≡ (is_static || u)) × Modified ts n u m

or_true : (s : Bool) → (s || true) ≡ true
or_true true = refl
or_true false = refl

or_false : (s : Bool) → (s || false) ≡ s
or_false true = refl
or_false false = refl

pub none_passed : (ts : List Token) (i : ℕ) → Passed ts i false i
none_passed ts i = record { behind = omega arith; whole = λ s m d. d; only = λ s m d h. (s, refl, d) }

-- behind a modifier less is left
pub nearer : (ts : List Token) (n : ℕ) (x : Kind) → x ≡ seen true ts n → is_modifier x ≡ true → length ts - (n + 1) < length ts - n
nearer ts n x e h =
    let inside : n < length ts = seen_inside ts n x (sym e) (λ (end : x ≡ k.End). let y : true ≡ false = sym h ∙ ap is_modifier end in absurd cc) in
    omega arith

visible_modifier : (x : Kind) → is_visibility x ≡ true → is_modifier x ≡ false → ⊥
visible_modifier k.Static v h = absurd cc
visible_modifier _ v h = let e : true ≡ false = sym v ∙ h in cc

visible_static : (x : Kind) → is_visibility x ≡ true → x ≡ k.Static → ⊥
visible_static x v e = let y : true ≡ false = sym v ∙ ap is_visibility e in cc

pub behind_visible : {ts : List Token} {n m : ℕ} {s : Bool} → is_visibility (seen true ts n) ≡ true → is_modifier (seen true ts m) ≡ false → Modified ts n s m → Modified ts (n + 1) s m
behind_visible {ts = ts} {n = n} v h (plain) = absurd (visible_modifier (seen true ts n) v h)
behind_visible v h (visible e d) = d
behind_visible {ts = ts} {n = n} v h (static e d) = absurd (visible_static (seen true ts n) v e)

pub one_visible : (ts : List Token) (i n : ℕ) (s : Bool) → Passed ts i s n → is_visibility (seen true ts n) ≡ true → Passed ts i s (n + 1)
one_visible ts i n s p v = record {
  behind = omega (arith, p.behind);
  whole = λ t m d. p.whole t m (visible v d);
  only = λ t m d h. let q = p.only t m d h in (q.0, q.1, behind_visible v h q.2);
}

pub behind_static : {ts : List Token} {n m : ℕ} {s : Bool} → seen true ts n ≡ k.Static → is_modifier (seen true ts m) ≡ false → Modified ts n s m → (u : Bool) × (s ≡ true) × Modified ts (n + 1) u m
behind_static {ts = ts} {n = n} e h plain = absurd (let x : true ≡ false = sym (ap is_modifier e) ∙ h in cc)
behind_static {ts = ts} {n = n} e h (visible v d) = absurd (visible_static (seen true ts n) v e)
behind_static e h (static {is_static = u} g d) = (u, refl, d)

pub one_static : (ts : List Token) (i n : ℕ) (s : Bool) → Passed ts i s n → seen true ts n ≡ k.Static → Passed ts i true (n + 1)
one_static ts i n s p e = record {
  behind = omega (arith, p.behind);
  whole = λ t m d. subst (λ (x : Bool). Modified ts i x m) (or_true s) (p.whole true m (static e d));
  only = λ t m d h. let q = p.only t m d h in let r = behind_static e h q.2 in (r.0, q.1 ∙ (ap (λ (x : Bool). s || x) r.1 ∙ or_true s), r.2);
}

-- at a token that is no modifier
pub at_last : {ts : List Token} {n m : ℕ} {s : Bool} → is_modifier (seen true ts n) ≡ false → Modified ts n s m → (s ≡ false) × (n ≡ m)
at_last h plain = (refl, refl)
at_last {ts = ts} {n = n} h (visible v d) = absurd (visible_modifier (seen true ts n) v h)
at_last h (static e d) = absurd (let x : true ≡ false = sym (ap is_modifier e) ∙ h in cc)

pub all_passed : (ts : List Token) (i n : ℕ) (s : Bool) → Passed ts i s n → is_modifier (seen true ts n) ≡ false → AllModified ts i s n
all_passed ts i n s p h = record {
  modified = subst (λ (x : Bool). Modified ts i x n) (or_false s) (p.whole false n plain);
  behind = p.behind;
  only = λ t m d g.
      let q = p.only t m d g in
      let l = at_last h q.2 in
      (sym (q.1 ∙ (ap (λ (x : Bool). s || x) l.0 ∙ or_false s)), l.1);
}

pub no_modifier : (x : Kind) → x ≢ k.Public → x ≢ k.Private → x ≢ k.Protected → x ≢ k.Static → is_modifier x ≡ false
no_modifier k.Public a b c d = absurd (a refl)
no_modifier k.Private a b c d = absurd (b refl)
no_modifier k.Protected a b c d = absurd (c refl)
no_modifier k.Static a b c d = absurd (d refl)
no_modifier _ a b c d = refl

pub visibility_modifies : (x : Kind) → (x ≡ k.Public) ⊎ ((x ≡ k.Private) ⊎ (x ≡ k.Protected)) → is_modifier x ≡ true
visibility_modifies x (inl e) = ap is_modifier e
visibility_modifies x (inr (inl e)) = ap is_modifier e
visibility_modifies x (inr (inr e)) = ap is_modifier e

pub a_visibility : (x : Kind) → (x ≡ k.Public) ⊎ ((x ≡ k.Private) ⊎ (x ≡ k.Protected)) → is_visibility x ≡ true
a_visibility x (inl e) = ap is_visibility e
a_visibility x (inr (inl e)) = ap is_visibility e
a_visibility x (inr (inr e)) = ap is_visibility e
