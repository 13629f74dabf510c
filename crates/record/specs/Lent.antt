-- The arrays of the struct, lent: they have room for 64 descriptors, and an allowed size is no more.
use Rattle.std.specs.Prelude.{◌≡◌, ℕ, ◌≤◌}
use Rattle.std.proofs.Common.{arith}
use Rattle.wellformed.specs.Room.{Room, HasRoom}
use Rattle.record.specs.declared.Queue.{Queue}
use Rattle.record.specs.Abs.{room, Arrays}
use Rattle.record.specs.Fine.{size_small}

pub has_room : (q : Queue) → Arrays q → Room q.core room q.words q.lens q.halves q.sides
has_room q a = record {
  most = omega arith;
  enough = λ e. size_small q.core.n e;
  words_of = omega (arith, a.words_of);
  lens_of = omega (arith, a.lens_of);
  halves_of = omega (arith, a.halves_of);
  sides_of = omega (arith, a.sides_of);
}

-- and so for tables lent with room for 64
pub lends_room : (q : Queue) (r : ℕ) → r ≡ room → HasRoom q.core r
lends_room q r e = record { most = omega arith; enough = λ z. let h : q.core.n ≤ 64 = size_small q.core.n z in omega arith }
