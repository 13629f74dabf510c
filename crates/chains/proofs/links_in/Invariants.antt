-- `chains::links_in` meets its contract: at each loop's test, what is asked of all is what is asked of what is still to be met, with the marks set so far
-- (Links AtHead, InChain). It is left at a repeat, at a next that leads out and at a chain too long, where the answer is known to be no.
use Rattle.std.proofs.Common.{◌-◌, ◌*◌, ◌≤◌, ◌<◌, length}
use Rattle.lists.specs.Marks.{marks_of}
use Rattle.chains.specs.Links.{AtHead, InChain}
use Rattle.chains.proofs.links_in.Given as goal

abbrev pub invariant-loop-i : goal.invariant-loop-i
invariant-loop-i l =
    (l.f.n ≤ 64 * length l.seen) × (l.h < l.f.n) × InChain l.f.n l.used l.free l.f.next.now l.f.flags.now l.f.noted.now (marks_of l.seen) l.left l.ended l.h (l.size - l.i) l.j

abbrev pub invariant-loop-h : goal.invariant-loop-h
invariant-loop-h l =
    (l.f.n ≤ 64 * length l.seen) × AtHead l.f.n l.used l.free l.f.next.now l.f.flags.now l.f.noted.now (marks_of l.seen) l.left l.ended l.h
