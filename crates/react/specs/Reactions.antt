-- What the code's reactions are to the rules': the plain fields after each, and the tables part by part after a chain was freed.
use Rattle.std.specs.Prelude.{List, ℕ, ◌-◌, get_or, replicate}
use Rattle.std.proofs.lemmas.List.Edits.{sets}
use Rattle.lists.specs.Index.{after}
use Rattle.lists.specs.Walk.{hop, walk}
use Rattle.virtio.specs.declared.Desc.{Desc}
use Rattle.virtio.specs.Desc.{no_desc, no_buffer}
use Rattle.rules.specs.declared.Open.{Open}
use Rattle.rules.specs.Record.{Tables}
use Rattle.rules.specs.Refused.{result_number, result_value}
use Rattle.rules.specs.Step.{Reaction, empty_all, relink}
use Rattle.views.specs.declared.Core.{Core}
use Rattle.views.specs.Tables.{queue_of}
use Rattle.react.specs.declared.Reacted.{Reacted}

-- the plain fields with another call; with avail_idx counted on; with k descriptors freed at token t
abbrev pub called : Core → Open → Core
called c x = record {
  n = c.n;
  modes = c.modes;
  base = c.base;
  num_used = c.num_used;
  free_head = c.free_head;
  avail_idx = c.avail_idx;
  last_used_idx = c.last_used_idx;
  call = x;
}

abbrev pub published : Core → Core
published c = record {
  n = c.n;
  modes = c.modes;
  base = c.base;
  num_used = c.num_used;
  free_head = c.free_head;
  avail_idx = after c.avail_idx;
  last_used_idx = c.last_used_idx;
  call = c.call;
}

abbrev pub freed_core : Core → ℕ → ℕ → Core
freed_core c k t = record {
  n = c.n;
  modes = c.modes;
  base = c.base;
  num_used = c.num_used - k;
  free_head = t;
  avail_idx = c.avail_idx;
  last_used_idx = after c.last_used_idx;
  call = c.call;
}

abbrev pub reacted_of : Reacted → Tables → Reaction
reacted_of r t = record { answer = result_number r.outcome; value = result_value r.outcome; queue = queue_of r.core t }

-- what descriptor i links to; the table with the k descriptors from h on emptied, the last of them linked to x
abbrev pub links : List Desc → ℕ → ℕ
links s i = (get_or s i no_desc).next

abbrev pub unlinked : List Desc → ℕ → ℕ → ℕ → List Desc
unlinked s h k x = relink (empty_all s (walk (links s) k h)) (hop (links s) (k - 1) h) x

-- the tables so; and with count list entries from a on cleared
abbrev pub unchained : Tables → ℕ → ℕ → ℕ → Tables
unchained t h k x = record { shadow = unlinked t.shadow h k x; noted = t.noted; kept = t.kept }

abbrev pub cleared : Tables → ℕ → ℕ → Tables
cleared t a count =
    record { shadow = t.shadow; noted = t.noted; kept = sets t.kept a (replicate count no_buffer) }
