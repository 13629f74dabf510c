-- A record as private memory can hold it: the tables have room for n descriptors and n * n list entries, and the indices fit 16 bits. Every record of the
-- code that passes the check is so.
use Rattle.std.specs.Prelude.{◌*◌, ◌≤◌, ◌<◌, length}
use Rattle.rules.specs.Record.{Queue}

pub record Held (q : Queue) : Type 0 where
  pub shadow : q.n ≤ length q.tables.shadow
  pub noted : q.n ≤ length q.tables.noted
  pub kept : q.n * q.n ≤ length q.tables.kept
  pub avail : q.counts.avail < 65536
  pub last : q.counts.last < 65536
