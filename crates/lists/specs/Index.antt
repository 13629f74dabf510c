-- Indices that count mod 65,536, as the 16-bit indices of the rings do (document 01, "Rules of the calls"; VIRTIO 1.1, 2.6.6 and 2.6.8).
use Rattle.std.specs.Prelude.{◌≡◌, ℕ, ◌+◌, ◌-◌, ◌%◌, ◌≤◌, ◌<◌}
use Rattle.std.proofs.Common.{◌∙◌, arith}

-- the index after x: 0 after 65,535
abbrev pub after : ℕ → ℕ
after x = (x + 1) % 65536

-- how many steps of `after` lead from the index b to the index a
abbrev pub ahead : ℕ → ℕ → ℕ
ahead a b = (a + 65536 - b % 65536) % 65536

-- An index is a count that does not wrap, mod 65,536: so long as two counts are less than 65,536 apart, their indices tell how far.
pub ahead_counts : (a b : ℕ) → b ≤ a → a - b < 65536 → ahead (a % 65536) (b % 65536) ≡ a - b
ahead_counts a b h l = omega arith

pub after_counts : (a : ℕ) → after (a % 65536) ≡ (a + 1) % 65536
after_counts a = omega arith

-- `ahead` is the one number below 65,536 that leads from b to a
pub ahead_leads : (a b : ℕ) → a < 65536 → (b + ahead a b) % 65536 ≡ a
ahead_leads a b h = omega arith

pub ahead_only : (a b r : ℕ) → r < 65536 → (b + r) % 65536 ≡ a → ahead a b ≡ r
ahead_only a b r l e = omega arith

step : (b r : ℕ) → 0 < r → ((b + 1) % 65536 + (r - 1)) % 65536 ≡ (b + r) % 65536
step b r p = omega arith

less : (x r : ℕ) → 0 < r → x ≡ r - 1 → x + 1 ≡ r
less x r p e = omega arith

-- one more on the left is one more ahead, and on the right one less, where that does not wrap
pub ahead_more : (a b : ℕ) → a < 65536 → b < 65536 → ahead a b < 65535 → ahead (after a) b ≡ ahead a b + 1
ahead_more a b h k l = omega arith

pub ahead_less : (a b : ℕ) → a < 65536 → 0 < ahead a b → ahead a (after b) + 1 ≡ ahead a b
ahead_less a b h l = from (ahead a b) l (omega arith) (ahead_leads a b h)
  where
    leads : (r : ℕ) → 0 < r → (b + r) % 65536 ≡ a → (after b + (r - 1)) % 65536 ≡ a
    leads r p e = step b r p ∙ e

    from : (r : ℕ) → 0 < r → r < 65536 → (b + r) % 65536 ≡ a → ahead a (after b) + 1 ≡ r
    from r p w e = less (ahead a (after b)) r p (ahead_only a (after b) (r - 1) (omega arith) (leads r p e))
