-- `replay::replay` meets its contract: a text above 32,768 bytes prints bad=0, and any other is replayed.
-- Assumes nothing.
use mathlib.Core.List.{List, []}
use Prim.Native.Nat.{ℕ}
use native.Mathlib.Omega.{arith}
use borrow.Author.Rules.{rules}
use Rattle.print.specs.Print.{Written}
use Rattle.replay.specs.Replay.{transcript}
use Rattle.replay.specs.Header.{written_none, is_written, too_long, short}
use Rattle.replay.proofs.replay.Goals as goal

pub returns-then-src-gt32768 : goal.returns-then-src-gt32768
returns-then-src-gt32768 c =
    let before : List ℕ = c.args.out.now in
    let wrote : Written before c.field.new.self.bytes.now c.field.new.self.said (transcript c.args.src.now) =
    is_written (too_long c.args.src.now (omega (arith, c.if-src-gt32768.true))) (c.field.ensures.wrote before [] (written_none before)) in
    search rules

pub returns : goal.returns
returns c =
    let before : List ℕ = c.args.out.now in
    let wrote : Written before c.replayed.new.page.bytes.now c.replayed.new.page.said (transcript c.args.src.now) =
    is_written (short c.args.src.now (omega (arith, c.if-src-gt32768.false))) (c.replayed.ensures.wrote before (written_none before)) in
    search rules
