-- The sizes of a split virtqueue's parts, for any queue size n (VIRTIO 1.1, 2.6), and where document 01, part 1, lays them:
-- flexible, in two regions, or legacy, all in region one (VIRTIO 1.1, 2.6.2).
use Rattle.std.specs.Prelude.{Bool, true, false, ℕ, ◌+◌, ◌*◌, ◌/◌}

-- 2.6: descriptor table, available ring, used ring
abbrev pub table_size : ℕ → ℕ
table_size n = 16 * n

abbrev pub avail_size : ℕ → ℕ
avail_size n = 6 + 2 * n

abbrev pub used_size : ℕ → ℕ
used_size n = 6 + 8 * n

-- 2.6: the alignment that each part asks for
abbrev pub table_align : ℕ
table_align = 16

abbrev pub avail_align : ℕ
avail_align = 2

abbrev pub used_align : ℕ
used_align = 4

-- a page, and x rounded up to one
abbrev pub page : ℕ
page = 4096

abbrev pub page_up : ℕ → ℕ
page_up x = (x + 4095) / page * page

-- The parts' places: the table at 0 of region one, the available ring after it, the used ring by the layout.
abbrev pub avail_at : ℕ → ℕ
avail_at n = table_size n

-- 2.6.2: in the legacy layout the used ring starts at the next page; in the flexible one at the start of region two
unfoldable pub used_at : Bool → ℕ → ℕ
used_at true n = page_up (table_size n + avail_size n)
used_at false n = 0

-- how many bytes of each region the queue needs; the pool has a slot of n list entries for each of n heads
unfoldable pub need_one : Bool → ℕ → ℕ
need_one true n = page_up (table_size n + avail_size n) + page_up (used_size n)
need_one false n = table_size n + avail_size n

unfoldable pub need_two : Bool → ℕ → ℕ
need_two true n = 0
need_two false n = used_size n

abbrev pub need_pool : ℕ → ℕ
need_pool n = 16 * (n * n)
