-- `chains::links_in` meets its contract: at each loop's test, what is asked of all is what is asked of what is still to be met, with the marks set so far
-- (Links AtHead, InChain). It is left at a repeat, at a next that leads out and at a chain too long, where the answer is known to be no.
use Rattle.std.proofs.Common.{◌≡◌, ℕ, ◌-◌, ◌+◌, false, sym, ◌∙◌, arith, rules, get_or, eqb-true}
use native.Mathlib.Nat.{sub-zero}
use Rattle.std.proofs.lemmas.Bool.{eqb-false}
use Rattle.lists.specs.Marks.{marks_of}
use Rattle.views.specs.Views.{at}
use Rattle.chains.specs.Links.{found_no, free_bad, free_good, found_all, some_left, too_long, chain_entered, chain_left, leads_out, met_before, chain_on}
use Rattle.chains.proofs.links_in.Goals as goal
use Rattle.chains.proofs.links_in.Goals.{then-loop-h-test+then-left-size, then-loop-h-test+else-left-size+then-loop-i-test+then-f-x, then-f-x-via-then-f-x, then-f-x-via-else-f-x+then-not-mark, else-loop-h-test}

pub returns-then-not-free_walk : goal.returns-then-not-free_walk
returns-then-not-free_walk c =
    let f = c.args.f.now in
    found_no f.n c.args.used c.args.free f.next.now f.flags.now f.noted.now
    (free_bad f.n c.args.used c.args.free f.next.now f.flags.now f.noted.now c.args.seen.now (omega arith) c.requires.clear (omega arith) (omega arith) (marks_of c.free_walk.new.seen) c.if-not-free_walk.ensures)

pub loop-h-init : goal.loop-h-init
loop-h-init c =
    let f = c.args.f.now in (
      let k = c.free_walk.auto.seen in omega arith,
      free_good f.n c.args.used c.args.free f.next.now f.flags.now f.noted.now c.args.seen.now (omega arith) c.requires.clear (omega arith) (omega arith) (marks_of c.free_walk.new.seen) c.if-not-free_walk.ensures,
    )

pub loop-i-init : goal.loop-i-init
loop-i-init c =
    let l = c.loop-h in
    rw sub-zero (l.invariant.0, omega arith, chain_entered _ _ _ _ _ _ _ _ _ _ l.invariant.1 (omega arith) c.if-left-size.false)

pub loop-i-preserved : goal.loop-i-preserved
loop-i-preserved c =
    let l = c.loop-i in
    let size : ℕ = at c.args.f.now.noted.now c.loop-h.h in
    let e : size - (l.i + 1) ≡ size - l.i - 1 = omega arith in
    let new : get_or (marks_of l.seen) l.j false ≡ false = search rules in
    (let k = c.mark.auto.seen in omega arith, l.invariant.1, rw (e, c.mark.ensures.1, c.still_ends-ended.ensures) (chain_on _ _ _ _ _ _ _ _ _ _ _ _ l.invariant.2 (omega arith) new (omega arith)))

pub loop-h-preserved : goal.loop-h-preserved
loop-h-preserved c = let l = c.loop-i in (l.invariant.0, chain_left _ _ _ _ _ _ _ _ _ _ _ _ l.invariant.2 (omega arith))

pub returns-then-whole : goal.returns-then-whole
returns-then-whole c =
    elim c.loop-h-test.branch [
      | then-loop-h-test+then-left-size w ↦ cc
      | then-loop-h-test+else-left-size+then-loop-i-test+then-f-x w ↦ cc
      | else-loop-h-test w ↦ rw w.ended-is (found_all _ _ _ _ _ _ _ _ _ _ c.loop-h.invariant.1 (omega arith) (eqb-true c.loop-h.left 0 (sym w.whole-is ∙ c.if-whole.true)))
    ]

pub returns-else-whole : goal.returns-else-whole
returns-else-whole c =
    let f = c.args.f.now in
    let h : ℕ = c.loop-h.h in
    found_no f.n c.args.used c.args.free f.next.now f.flags.now f.noted.now
    (elim c.loop-h-test.branch [
      | then-loop-h-test+then-left-size w ↦ too_long _ _ _ _ _ _ _ _ _ _ c.loop-h.invariant.1 (omega arith) w.if-left-size.true
      | then-loop-h-test+else-left-size+then-loop-i-test+then-f-x w ↦
          elim w.then-f-x.branch [
            | then-f-x-via-then-f-x v ↦ leads_out _ _ _ _ _ _ _ _ _ _ _ _ w.loop-i.invariant.2 (omega arith) v.if-f-x.true
            | then-f-x-via-else-f-x+then-not-mark v ↦ met_before _ _ _ _ _ _ _ _ _ _ _ _ w.loop-i.invariant.2 (omega arith) (search rules)
          ]
      | else-loop-h-test w ↦ some_left _ _ _ _ _ _ _ _ _ _ c.loop-h.invariant.1 (omega arith) (eqb-false c.loop-h.left 0 (sym w.whole-is ∙ c.if-whole.false))
    ])
