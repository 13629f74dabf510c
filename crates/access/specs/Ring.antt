-- The used ring as a part of the region that holds it: as long as the layout says, and a number loaded from it is the region's.
use Rattle.std.specs.Prelude.{◌≡◌, refl, Bool, true, false, List, ℕ, ◌+◌, ◌≤◌, length, drop}
use Rattle.std.proofs.Common.{ap, ◌∙◌, arith, length-take, length-drop}
use Rattle.lists.specs.Bytes.{get_le}
use Rattle.virtio.specs.Layout.{used_size, used_at, need_one, need_two}
use Rattle.virtio.specs.Memory.{used_region, bytes_of, ring_load}
use Rattle.virtio.specs.Sizes.{used_in_one, used_in_two}
use Rattle.layout.specs.Parts.{used_ring_of}
use Rattle.access.specs.Accesses.{memory}

-- it has room for all its fields
pub ring_length : (legacy : Bool) (n : ℕ) (one two ring : List ℕ) → ring ≡ used_ring_of legacy n one two → need_one legacy n ≤ length one → need_two legacy n ≤ length two → used_size n ≤ length ring
ring_length true n one two ring e h k =
    omega (arith, ap length e, length-take (used_size n) (drop (used_at true n) one), length-drop (used_at true n) one, used_in_one true n refl)
ring_length false n one two ring e h k =
    omega (arith, ap length e, length-take (used_size n) (drop (used_at false n) two), length-drop (used_at false n) two, used_in_two false n refl)

-- one of w bytes, whatever the pool holds
pub used_load : (legacy : Bool) (n : ℕ) (one two ring pool : List ℕ) (w at : ℕ) → ring ≡ used_ring_of legacy n one two → at + w ≤ used_size n
    → get_le w ring at ≡ get_le w (bytes_of (used_region legacy) (memory one two pool)) (used_at legacy n + at)
used_load true n one two ring pool w at e h =
    ap (λ s. get_le w s at) e ∙ ring_load true n (memory one two pool) w at h
used_load false n one two ring pool w at e h =
    ap (λ s. get_le w s at) e ∙ ring_load false n (memory one two pool) w at h
