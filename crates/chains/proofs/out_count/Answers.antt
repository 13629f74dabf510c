-- `chains::out_count` meets its contract: the chains counted so far, and those still to be counted from `h` on, are all of them.
use Rattle.std.proofs.Common.{rules, ◌≡◌, ℕ, ◌+◌, ◌-◌, ap, ◌∙◌, arith, eqb, not, lt-ltb}
use Rattle.std.specs.Prelude.{Bool, true, false, List, ltb}
use Rattle.lists.specs.Tests.{by_test}
use Rattle.lists.specs.Pick.{tally, one_if}
use Rattle.lists.specs.PickLaws.{tally_next, tally_skip, tally_none}
use Rattle.views.specs.Views.{at, heads}
use Rattle.chains.proofs.out_count.Goals as goal

pub loop-h-preserved : goal.loop-h-preserved
loop-h-preserved c =
    let n : ℕ = c.args.f.now.n in
    let noted : List ℕ = c.args.f.now.noted.now in
    let p : ℕ → Bool = heads n noted in
    let h : ℕ = c.loop-h.h in
    let within : ltb h n ≡ true = lt-ltb h n c.loop-h-test.true in
    let less : n - h - 1 ≡ n - (h + 1) = omega arith in
    let rest : tally p (n - h - 1) (h + 1) ≡ tally p (n - (h + 1)) (h + 1) = ap (λ m. tally p m (h + 1)) less in
    by_test (eqb (at noted h) 0)
    (λ e. let no : p h ≡ false = rw (within, e) in
    let none : tally p (n - h) h ≡ tally p (n - h - 1) (h + 1) = tally_skip p (n - h) h (omega arith) no in
    let add : c.from-count.result ≡ 0 = c.from-count.ensures ∙ rw e in (omega arith, omega arith))
    (λ e. let yes : p h ≡ true = rw (within, e) in
    let one : tally p (n - h) h ≡ 1 + tally p (n - h - 1) (h + 1) = tally_next p (n - h) h (omega arith) yes in
    let add : c.from-count.result ≡ 1 = c.from-count.ensures ∙ rw e in (omega arith, omega arith))

pub returns : goal.returns
returns c =
    let n : ℕ = c.args.f.now.n in
    let p : ℕ → Bool = heads n c.args.f.now.noted.now in
    let h : ℕ = c.loop-h.h in
    let none : tally p (n - h) h ≡ 0 = tally_none p (n - h) h (omega arith) in
    omega arith
