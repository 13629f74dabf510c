-- `opens::list_tests::in_order` meets its contract, one buffer at a time.
use Rattle.std.proofs.Common.{◌≡◌, ℕ, ◌+◌, Bool, List, [], ◌∷◌, refl, sym, ap, ◌∙◌, arith, drop, get_or, true, false}
use Rattle.std.specs.Prelude.{cond}
use Rattle.virtio.specs.declared.Buffer.{Buffer}
use Rattle.virtio.specs.Desc.{no_buffer}
use Rattle.virtio.specs.Chain.{all_outputs, in_order}
use Rattle.opens.specs.Turns.{list_rest, list_over, outputs_stop, outputs_none, order_none, order_turn}
use Rattle.opens.proofs.list_tests.in_order.Goals as goal
use Rattle.opens.proofs.list_tests.in_order.Goals.{else-written-via-then-written+else-not-buffer, else-written-via-else-written}

pub returns-then-not-buffer : goal.returns-then-not-buffer
returns-then-not-buffer c =
    let g : List Buffer = c.args.list.now in
    let i : ℕ = c.loop-buffer.buffer-index in
    let b : Buffer = get_or g i no_buffer in
    let e : drop i g ≡ b ∷ drop (i + 1) g = list_rest g i b (omega arith) refl in
    sym (c.loop-buffer.invariant ∙ ap (λ w. cond w (all_outputs (drop i g)) (in_order (drop i g))) c.if-written.true ∙ outputs_stop (drop i g) (drop (i + 1) g) b e c.if-not-buffer.true)

pub loop-buffer-preserved : goal.loop-buffer-preserved
loop-buffer-preserved c =
    let g : List Buffer = c.args.list.now in
    let i : ℕ = c.loop-buffer.buffer-index in
    let b : Buffer = get_or g i no_buffer in
    let e : drop i g ≡ b ∷ drop (i + 1) g = list_rest g i b (omega arith) refl in
    let next : (c.loop-buffer.written ≡ true → b.output ≡ true) → _ = order_turn c.loop-buffer.written (drop i g) (drop (i + 1) g) b e in
    c.loop-buffer.invariant ∙ elim c.else-written.branch [
      | else-written-via-then-written+else-not-buffer w ↦ next (λ _. w.if-not-buffer.false)
      | else-written-via-else-written w ↦ next (λ t. cc)
    ]

pub returns : goal.returns
returns c =
    let g : List Buffer = c.args.list.now in
    let i : ℕ = c.loop-buffer.buffer-index in
    let e : drop i g ≡ [] = list_over g i (omega arith) in
    sym (c.loop-buffer.invariant ∙ by_bool c.loop-buffer.written (outputs_none (drop i g) e) (order_none (drop i g) e))
  where
    by_bool : {x y : Bool} (w : Bool) → x ≡ true → y ≡ true → cond w x y ≡ true
    by_bool true p q = p
    by_bool false p q = q
