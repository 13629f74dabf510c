-- The used ring of two lent regions: the rules' `used_ring`, of a memory with these regions.
use Rattle.std.specs.Prelude.{Bool, List, [], ℕ}
use Rattle.virtio.specs.Memory.{used_ring}

abbrev pub used_ring_of : Bool → ℕ → List ℕ → List ℕ → List ℕ
used_ring_of legacy n one two = used_ring legacy n (record { one = one; two = two; pool = [] })
