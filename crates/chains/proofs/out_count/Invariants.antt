-- `chains::out_count` meets its contract: the chains counted so far, and those still to be counted from `h` on, are all of them.
use Rattle.std.proofs.Common.{◌≡◌, ◌+◌, ◌-◌, ◌≤◌}
use Rattle.lists.specs.Pick.{tally}
use Rattle.views.specs.Views.{heads}
use Rattle.chains.proofs.out_count.Given as goal

abbrev pub invariant-loop-h : goal.invariant-loop-h
invariant-loop-h l =
    (l.count ≤ l.h) × (tally (heads l.f.n l.f.noted.now) l.f.n 0 ≡ l.count + tally (heads l.f.n l.f.noted.now) (l.f.n - l.h) l.h)
