-- The answer is `base_ok` of base and size. Where the size is not 0, the last byte lies below 2^64 exactly where the end is at most 2^64.
use Prim.Native.Nat.{ℕ, ◌+◌, ◌-◌, ◌%◌, ◌^◌}
use native.Mathlib.Omega.{arith}
use borrow.Author.Tests.{eq-eqb, ne_eqb, le-leb}
use Rattle.heads.specs.Heads.{leb_same}
use Rattle.heads.proofs.base_ok.Goals as goal

pub returns-then-size-eq0 : goal.returns-then-size-eq0
returns-then-size-eq0 c =
    let base : ℕ = c.args.base in
    let size : ℕ = c.args.size in
    rw (eq-eqb size 0 c.if-size-eq0.true, eq-eqb (base % 4096) 0 c.if-base-eq0.true, le-leb (base + size) (2 ^ 64) (omega arith))

pub returns-else-size-eq0 : goal.returns-else-size-eq0
returns-else-size-eq0 c =
    let base : ℕ = c.args.base in
    let size : ℕ = c.args.size in
    rw (eq-eqb (base % 4096) 0 c.if-base-eq0.true)
    (leb_same base (18446744073709551615 - (size - 1)) (base + size) (2 ^ 64) (λ h. omega arith) (λ h. omega arith))

pub returns-else-base-eq0 : goal.returns-else-base-eq0
returns-else-base-eq0 c = rw (ne_eqb (c.args.base % 4096) 0 c.if-base-eq0.false)
