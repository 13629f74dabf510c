-- `text::entry_at` meets its contract: the address, then the colon, then the length.
use mathlib.Core.Path.{◌≡◌, sym, ◌∙◌, subst}
use mathlib.Core.Bool.{true}
use Prim.Native.Nat.{ℕ, ◌+◌, ◌≤◌}
use native.Mathlib.Omega.{arith}
use lib.ListN.{length}
use Rattle.text.specs.Words.{colon}
use Rattle.text.specs.Text.{Found, stands, number}
use Rattle.text.specs.Laws.{stands_fits, number_most, told_some}
use Rattle.text.proofs.entry_at.Goals as goal

pub overflow_add-addr : goal.overflow_add-addr
overflow_add-addr c =
    let s : _ = c.args in
    let p : ℕ = c.in_ok-addr.addr.at in
    let e : stands colon s.src.now p ≡ true = sym c.stands.ensures ∙ c.if-not-stands.false in
    let f : p + 1 ≤ length s.src.now = stands_fits colon s.src.now p e (omega arith) in
    omega arith

pub overflow_cast-result : goal.overflow_cast-result
overflow_cast-result c =
    let s : _ = c.args in
    let p : ℕ = c.in_ok-addr.addr.at in
    let l : Found = number 4294967295 s.src.now (p + 1) in
    let same : _ = told_some l c.in_ok-len.len (rw c.from.ensures at (sym c.number_at-2.ensures ∙ c.in_ok-len.was)) in
    let m : c.in_ok-len.len.value ≤ 4294967295 = subst (λ (n : Found). n.value ≤ 4294967295) same (number_most 4294967295 s.src.now (p + 1)) in
    omega arith
