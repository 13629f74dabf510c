-- `replay::all_blocks` meets its contract: at each turn the blocks that are left of the replay where the struct stands end where the whole does.
use mathlib.Core.Path.{◌≡◌, refl, ap, ◌∙◌}
use Prim.Native.Nat.{ℕ, ◌+◌, ◌-◌}
use native.Mathlib.Omega.{arith}
use lib.ListN.{length}
use Rattle.replay.specs.Replay.{blocks}
use Rattle.replay.specs.Blocks.{rest_turn, rest_wrong, rest_none, rest_read, wrote_wrong, sized_kept}
use Rattle.replay.proofs.all_blocks.Goals as goal

pub loop-turn-init : goal.loop-turn-init
loop-turn-init c =
    let all : length c.args.src.now - 0 ≡ length c.args.src.now = omega arith in
    record {
      goes = λ before q h. record { here = q; plays = h; rest = ap (λ k. blocks k c.args.src.now q) all };
      lines = omega (arith, c.requires.src_len_bound);
      sized = c.requires.sized;
      kept_one = refl;
      kept_two = refl;
      kept_pool = refl;
      kept_page = refl;
    }

pub block-requires : goal.block-requires
block-requires c = record {
  line_bound = omega (arith, c.loop-turn.invariant.lines, c.requires.src_len_bound, c.loop-turn-test.true);
  sized = c.loop-turn.invariant.sized;
}

pub overflow_add-p : goal.overflow_add-p
overflow_add-p c =
    omega (arith, c.loop-turn.invariant.lines, c.requires.src_len_bound, c.loop-turn-test.true, c.in-Err.ensures.size_value.1)

pub returns-in-Err-clause-wrote : goal.returns-in-Err-clause-wrote
returns-in-Err-clause-wrote c before q h =
    let l : _ = c.loop-turn in
    let left : ℕ = length c.args.src.now - l._turn in
    let r : _ = l.invariant.goes before q h in
    let came : _ = c.in-Err.ensures.by_index before r.here r.plays in
    let some : _ = c.loop-turn-test.true in
    wrote_wrong c.field.new.self c.in-Err.k came.0
    (rest_wrong left r c.in-Err.k (omega (arith, some)) (omega (arith, c.if-src-p.false)) came.1)
    (λ text w. c.field.ensures.wrote before text w)

pub loop-turn-preserved : goal.loop-turn-preserved
loop-turn-preserved c =
    let l : _ = c.loop-turn in
    let left : ℕ = length c.args.src.now - l._turn in
    let less : ℕ = length c.args.src.now - (l._turn + 1) in
    let some : _ = c.loop-turn-test.true in
    let next : _ = c.in-Ok.next in
    let one : less + 1 ≡ left = omega (arith, some) in
    let size : _ = c.in-Ok.ensures.size_value.0 in
    record {
      goes = λ before q h.
          let r : _ = l.invariant.goes before q h in
          rest_turn left r less one (omega (arith, c.if-src-p.false)) (c.in-Ok.ensures.by_index before r.here r.plays);
      lines = omega (arith, l.invariant.lines, size.1, some);
      sized = sized_kept l.p next l.two c.block.new.two l.invariant.sized size.0 c.block.auto.two;
      kept_one = c.block.auto.one ∙ l.invariant.kept_one;
      kept_two = c.block.auto.two ∙ l.invariant.kept_two;
      kept_pool = c.block.auto.pool ∙ l.invariant.kept_pool;
      kept_page = l.invariant.kept_page ∙ c.block.ensures.loan;
    }

pub returns-after-loop-turn-clause-wrote : goal.returns-after-loop-turn-clause-wrote
returns-after-loop-turn-clause-wrote c before q h =
    let l : _ = c.loop-turn in
    let over : _ = c.loop-turn-test.false in
    (rest_none (length c.args.src.now - l._turn) (l.invariant.goes before q h) (omega (arith, over))).wrote

pub returns-then-src-p-clause-wrote : goal.returns-then-src-p-clause-wrote
returns-then-src-p-clause-wrote c before q h =
    let l : _ = c.loop-turn in
    (rest_read (length c.args.src.now - l._turn) (l.invariant.goes before q h) (omega (arith, c.if-src-p.true))).wrote
