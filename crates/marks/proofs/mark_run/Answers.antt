-- `marks::mark_run` meets its contract: the mask is a run of ones, and the word's `and` and `or` with it are what lists MarkRuns says.
use mathlib.Core.Path.{◌≡◌, sym, ap, ◌∙◌}
use mathlib.Core.List.{List}
use Prim.Native.Nat.{ℕ, ◌/◌, ◌%◌}
use native.Mathlib.Omega.{arith}
use lib.Bits.{bit_and}
use lib.ListN.{get_or}
use Rattle.lists.specs.Digits.{ones}
use Rattle.lists.specs.MarkRuns.{run_new, run_again}
use Rattle.marks.proofs.mark_run.Goals as goal

pub returns-then-word-bits-eq0 : goal.returns-then-word-bits-eq0
returns-then-word-bits-eq0 c =
    let ws : List ℕ = c.args.seen.now in
    let d : ℕ = c.args.d in
    let e : c.mask-bits.result ≡ ones c.args.c (d % 64) = c.mask-bits.ensures in
    rw e (run_new ws (d / 64) (d % 64) c.args.c (omega arith) (omega arith) d (omega arith) (ap (bit_and (get_or ws (d / 64) 0)) (sym e) ∙ c.if-word-bits-eq0.true))

pub returns : goal.returns
returns c =
    let ws : List ℕ = c.args.seen.now in
    let d : ℕ = c.args.d in
    let e : c.mask-bits.result ≡ ones c.args.c (d % 64) = c.mask-bits.ensures in
    run_again ws (d / 64) (d % 64) c.args.c (omega arith) (omega arith) d (omega arith) (λ z. c.if-word-bits-eq0.false (ap (bit_and (get_or ws (d / 64) 0)) e ∙ z))
