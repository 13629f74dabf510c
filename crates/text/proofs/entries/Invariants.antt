-- `text::entries` meets its contract: what the line comes to from the start on is what it comes to further on, behind the buffers read so far.
use mathlib.Core.Path.{◌≡◌}
use Prim.Native.Nat.{◌+◌, ◌-◌}
use lib.ListN.{length, take}
use Rattle.text.specs.Text.{entries}
use Rattle.text.proofs.entries.Given as goal

abbrev pub invariant-loop-count : goal.invariant-loop-count
invariant-loop-count l = record {
  long : length l.list ≡ 130;
  rest
      : entries (l.from + 65 - l.count) l.output l.src l.start (take l.count l.list)
      ≡ entries 65 l.output l.src l.at (take l.from l.initial.list);
}
