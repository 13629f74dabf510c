-- `heads::all_sound` meets its contract. The loop's invariant: the buffers that are left may be looked at, and the answer is whether they are sound.
use Rattle.std.proofs.Common.{◌≡◌, ◌-◌, ◌+◌, true, arith, rules}
use native.Mathlib.Nat.{sub-zero}
use Rattle.heads.specs.Look.{seen_turn, left_all, left_none, left_empty, left_input, left_next}
use Rattle.heads.proofs.all_sound.Goals as goal
use Rattle.heads.proofs.all_sound.Goals.{then-place-eq0-via-then-place-eq0, then-place-eq0-via-else-place-eq0+then-not-place, then-written, else-written}

pub loop-init : goal.loop-init
loop-init g c = rw sub-zero (c.requires, left_all _ c.args.k c.args.from)

pub look-place-requires : goal.look-place-requires
look-place-requires g c = (seen_turn _ _ _ _ (omega arith) c.loop.invariant.0).0

pub returns-then-place-eq0 : goal.returns-then-place-eq0
returns-then-place-eq0 g c =
    λ buffer next t. elim c.then-place-eq0.branch [
      | then-place-eq0-via-then-place-eq0 w ↦ left_empty _ _ _ _ _ _ c.loop.invariant.1 buffer next t (omega arith) c.look-place.result c.look-place.ensures w.if-place-eq0.true
      | then-place-eq0-via-else-place-eq0+then-not-place w ↦
          elim w.if-written.branch [
            | then-written v ↦ left_input _ _ _ _ _ _ c.loop.invariant.1 buffer next t (omega arith) c.look-place.result c.look-place.ensures v.if-written.true (search rules)
            | else-written v ↦ cc
          ]
    ]

pub loop-preserved : goal.loop-preserved
loop-preserved g c =
    let e : c.args.k - (c.loop.counter + 1) ≡ c.args.k - c.loop.counter - 1 = omega arith in
    let kept : c.loop.written ≡ true → c.look-place.result.output ≡ true =
    λ h. elim c.if-written.branch [ then-written w ↦ search rules | else-written w ↦ cc ] in
    rw e (
      (seen_turn _ _ _ _ (omega arith) c.loop.invariant.0).1 c.look-place.result c.look-place.ensures,
      λ buffer next t. left_next _ _ _ _ _ _ c.loop.invariant.1 buffer next t (omega arith) c.look-place.result c.look-place.ensures c.if-place-eq0.false kept,
    )

pub returns : goal.returns
returns g c = λ buffer next t. left_none _ _ _ _ _ _ c.loop.invariant.1 buffer next t (omega arith)
