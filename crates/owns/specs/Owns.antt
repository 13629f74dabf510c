-- The owning record of a queue, its store's address, the size of a buffer, and what is held; the one that lent tables and the code's buffers say; and the tests
-- that poll and release begin with.
use Rattle.std.specs.Prelude.{Option, ℕ, Bool, not, List, [], ◌∷◌}
use Rattle.lists.specs.Pick.{Test, ◌when◌}
use Rattle.rules.specs.declared.Held.{Held}
use Rattle.rules.specs.Record.{Queue}
use Rattle.rules.specs.Answer.{BadRecord, BadRegion}
use Rattle.rules.specs.Owning.{Owning, own_well_formed}
use Rattle.views.specs.declared.Core.{Core}
use Rattle.views.specs.Tables.{queue_of}
use Rattle.tables.specs.declared.TablesRef.{TablesRef}
use Rattle.tables.specs.Lent.{tables_read}
use Rattle.owns.specs.declared.Buffers.{Buffers}

abbrev pub owning_of : Queue → ℕ → ℕ → Option Held → Owning
owning_of q base size h = record { queue = q; base = base; size = size; held = h }

abbrev pub owning_in : Core → TablesRef → Buffers → Owning
owning_in c t own = owning_of (queue_of c (tables_read t)) own.base own.size own.held

abbrev pub lent_tests : Owning → Bool → List Test
lent_tests o fit = (BadRecord when not (own_well_formed o)) ∷ (BadRegion when not fit) ∷ []
