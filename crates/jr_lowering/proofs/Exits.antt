-- How many instructions leave monitors.
use Rattle.std.proofs.Common.{◌≡◌, ℕ, zero, suc, ◌+◌, ◌-◌, ◌<◌, ◌≤◌, [], ◌∷◌, refl, arith}
use Rattle.jr_code.specs.Instructions.{Instruction, Load, ExitMonitor}
use Rattle.jr_lowering.specs.ExprCode.{Setting, hidden}
use Rattle.jr_lowering.specs.StatementCode.{exit_size, exit_code}

pub few_exits : (depth count : ℕ) → count ≤ depth → exit_size depth count ≡ count + count + 1
few_exits depth zero le = refl
few_exits zero (suc n) le = absurd (omega arith)
few_exits (suc depth) (suc n) le = omega (arith, few_exits depth n (omega arith))

pub many_exits : (depth count : ℕ) → depth < count → exit_size depth count ≡ depth + depth + 1
many_exits depth zero lt = absurd (omega arith)
many_exits zero (suc n) lt = refl
many_exits (suc depth) (suc n) lt = omega (arith, many_exits depth n (omega arith))

-- one monitor is left, and then the others
pub one_exit_size : (depth count : ℕ) → 0 < depth → 0 < count → exit_size depth count ≡ 2 + exit_size (depth - 1) (count - 1)
one_exit_size zero count d c = absurd (omega arith)
one_exit_size (suc depth) zero d c = absurd (omega arith)
one_exit_size (suc depth) (suc n) d c =
    let e : suc depth - 1 ≡ depth = omega arith in
    let f : suc n - 1 ≡ n = omega arith in
    rw (e, f)

pub one_exit_code : (s : Setting) (depth count : ℕ) (i : Instruction) → 0 < depth → 0 < count →
    exit_code s depth count i ≡ Load (hidden s (depth - 1)) ∷ (ExitMonitor ∷ exit_code s (depth - 1) (count - 1) i)
one_exit_code s zero count i d c = absurd (omega arith)
one_exit_code s (suc depth) zero i d c = absurd (omega arith)
one_exit_code s (suc depth) (suc n) i d c =
    let e : suc depth - 1 ≡ depth = omega arith in
    let f : suc n - 1 ≡ n = omega arith in
    rw (e, f)

-- none is left
pub no_depth_size : (depth count : ℕ) → depth ≤ 0 → exit_size depth count ≡ 1
no_depth_size zero zero e = refl
no_depth_size zero (suc n) e = refl
no_depth_size (suc depth) count e = absurd (omega arith)

pub no_count_size : (depth count : ℕ) → count ≤ 0 → exit_size depth count ≡ 1
no_count_size depth zero e = refl
no_count_size depth (suc n) e = absurd (omega arith)

pub no_depth_code : (s : Setting) (depth count : ℕ) (i : Instruction) → depth ≤ 0 → exit_code s depth count i ≡ i ∷ []
no_depth_code s zero zero i e = refl
no_depth_code s zero (suc n) i e = refl
no_depth_code s (suc depth) count i e = absurd (omega arith)

pub no_count_code : (s : Setting) (depth count : ℕ) (i : Instruction) → count ≤ 0 → exit_code s depth count i ≡ i ∷ []
no_count_code s depth zero i e = refl
no_count_code s depth (suc n) i e = absurd (omega arith)
