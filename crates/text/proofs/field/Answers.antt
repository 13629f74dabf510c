-- `text::field` meets its contract: part by part of the line.
use mathlib.Core.Path.{◌≡◌, sym, ◌∙◌}
use mathlib.Core.Bool.{true}
use Prim.Native.Nat.{◌+◌, ◌≤◌}
use native.Mathlib.Omega.{arith}
use lib.ListN.{length}
use Rattle.lists.specs.Tests.{by_eq}
use Rattle.text.specs.Words.{newline}
use Rattle.text.specs.Text.{stands}
use Rattle.text.specs.Laws.{stands_fits}
use Rattle.text.proofs.field.Goals as goal

pub overflow_add-at : goal.overflow_add-at
overflow_add-at c =
    let s : _ = c.args in
    let k : stands s.key.now s.src.now s.at ≡ true = sym c.stands.ensures ∙ c.if-not-stands.false in
    by_eq (length s.key.now) 0
    (λ e. omega arith)
    (λ d. let f : s.at + length s.key.now ≤ length s.src.now = stands_fits s.key.now s.src.now s.at k (omega arith) in
    omega arith)

pub overflow_add-result : goal.overflow_add-result
overflow_add-result c =
    let s : _ = c.args in
    let p : _ = c.in_ok-number.number.at in
    let e : stands newline s.src.now p ≡ true = sym c.stands-2.ensures ∙ c.if-not-stands-2.false in
    let f : p + 1 ≤ length s.src.now = stands_fits newline s.src.now p e (omega arith) in
    omega arith
