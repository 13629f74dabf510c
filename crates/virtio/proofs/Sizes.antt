-- No byte has two writers: no field that the device writes shares a byte with one that the driver writes.
use Rattle.std.specs.Prelude.{◌≡◌, Bool, true, false, ◌⊎◌, ℕ, ◌+◌, ◌≤◌}
use Rattle.std.proofs.Common.{inl, inr, arith}
use Rattle.virtio.specs.Layout.{avail_size, used_size, avail_at, used_at}
use Rattle.virtio.specs.Memory.{in_one, in_pool, Place, Spot, used_region, spot}
use Rattle.virtio.specs.Device.{device_writes}
use Rattle.virtio.specs.Sizes.{legacy_apart, Has, front_fields, used_fields, Apart}

apart : (legacy : Bool) (n : ℕ) (a b : Spot) → (a.region ≡ in_pool) ⊎ ((a.region ≡ in_one) × (a.offset + a.width ≤ avail_at n + avail_size n))
    → (b.region ≡ used_region legacy) × (used_at legacy n ≤ b.offset) × (b.offset + b.width ≤ used_at legacy n + used_size n) → Apart a b
apart true n a b (inl e) f = inl (λ g. let i = f.0 in let z : ◌≡◌ {A = ℕ} 0 1 = cc in omega arith)
apart true n a b (inr e) f = let l = legacy_apart n in inr (omega arith)
apart false n a b (inl e) f = inl (λ g. let i = f.0 in let z : ◌≡◌ {A = ℕ} 0 1 = cc in omega arith)
apart false n a b (inr e) f = inl (λ g. let i = f.0 in let j = e.0 in let z : ◌≡◌ {A = ℕ} 0 1 = cc in omega arith)

pub one_writer : (legacy : Bool) (n : ℕ) (p q : Place) → Has n p → Has n q → device_writes p ≡ false → device_writes q ≡ true → Apart (spot legacy n p) (spot legacy n q)
one_writer legacy n p q h k e f =
    apart legacy n (spot legacy n p) (spot legacy n q) (front_fields legacy n p h e) (used_fields legacy n q k f)
