-- `put_text` meets its contract: after so many turns so many bytes of the text are written.
use mathlib.Core.Path.{◌≡◌}
use mathlib.Core.List.{List, ◌++◌}
use Prim.Native.Nat.{ℕ}
use lib.ListN.{length, take}
use Rattle.print.specs.Print.{Written}
use Rattle.print.proofs.put_text.Given as goal

abbrev pub invariant-loop-byte : goal.invariant-loop-byte
invariant-loop-byte l = record {
  kept : length l.out ≡ length l.initial.out;
  wrote
      : (before said : List ℕ) → Written before l.initial.out l.at said → Written before l.out l.end (said ++ take l.byte-index l.text);
}
