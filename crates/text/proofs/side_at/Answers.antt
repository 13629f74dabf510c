-- `text::side_at` meets its contract: what stands at a place ends within the text.
use mathlib.Core.Path.{◌≡◌, sym, ◌∙◌}
use mathlib.Core.Bool.{true}
use Prim.Native.Nat.{ℕ, ◌+◌, ◌≤◌}
use native.Mathlib.Omega.{arith}
use lib.ListN.{length}
use Rattle.lists.specs.Tests.{by_eq}
use Rattle.text.specs.Words.{newline, line_none}
use Rattle.text.specs.Text.{stands}
use Rattle.text.specs.Laws.{stands_fits}
use Rattle.text.proofs.side_at.Goals as goal

pub overflow_add-start : goal.overflow_add-start
overflow_add-start c =
    let s : _ = c.args in
    let k : stands s.key.now s.src.now s.at ≡ true = sym c.stands.ensures ∙ c.if-not-stands.false in
    let p : ℕ = s.at + length s.key.now in
    by_eq (length s.key.now) 0
    (λ e. omega arith)
    (λ d. let f : p ≤ length s.src.now = stands_fits s.key.now s.src.now s.at k (omega arith) in omega arith)

pub overflow_add-result : goal.overflow_add-result
overflow_add-result c =
    let s : _ = c.args in
    let p : ℕ = s.at + length s.key.now in
    let e : stands line_none s.src.now p ≡ true = sym c.stands-2.ensures ∙ c.if-stands.true in
    let f : p + 5 ≤ length s.src.now = stands_fits line_none s.src.now p e (omega arith) in
    omega arith

pub overflow_add-result-then-stands-2 : goal.overflow_add-result-then-stands-2
overflow_add-result-then-stands-2 c =
    let s : _ = c.args in
    let p : ℕ = s.at + length s.key.now in
    let e : stands newline s.src.now p ≡ true = sym c.stands-3.ensures ∙ c.if-stands-2.true in
    let f : p + 1 ≤ length s.src.now = stands_fits newline s.src.now p e (omega arith) in
    omega arith
