-- Heaps that show the same.
use Rattle.std.proofs.Common.{◌≡◌, ap}
use Rattle.jr_base.specs.declared.value.Ask.{Ask}
use Rattle.jr_clause_eval.specs.Shown.{Shown}

pub shows_as_before : (a b : Shown) → a ≡ b → (what : Ask) → a.now what ≡ b.now what
shows_as_before a b e what = ap (λ (s : Shown). s.now what) e

pub shows_old_as_before : (a b : Shown) → a ≡ b → (what : Ask) → a.old what ≡ b.old what
shows_old_as_before a b e what = ap (λ (s : Shown). s.old what) e
