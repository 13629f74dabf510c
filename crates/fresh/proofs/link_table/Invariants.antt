-- `fresh::link_table` meets its contract. The loop goes up: what is left to do is to store the descriptors from i on.
use Rattle.std.proofs.Common.{◌≡◌, map, ◌-◌, ◌*◌}
use Rattle.rules.specs.New.{linked, linking, nexts_from, put_descs}
use Rattle.fresh.proofs.link_table.Given as goal

abbrev pub invariant-loop-i : goal.invariant-loop-i
invariant-loop-i l = put_descs l.initial.s 0 (linked l.n) ≡ put_descs l.s (16 * l.i) (map linking (nexts_from (l.n - l.i) l.i))
