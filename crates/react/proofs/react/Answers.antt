-- `react::react` meets its contract: each arm is the rule's reaction to that call.
use Rattle.std.proofs.Common.{◌≡◌, ◌∙◌, ap, ◌+◌, ◌≤◌, ◌<◌, ℕ, arith}
use Rattle.rules.specs.Record.{Queue, Tables, size_of}
use Rattle.rules.specs.Meaning.{Adding}
use Rattle.views.specs.Tables.{queue_of}
use Rattle.tables.specs.Lent.{tables_held, reads_tables}
use Rattle.react.specs.Cases.{for_call}
use Rattle.react.specs.Freed.{size_below, adding, storing}
use Rattle.react.proofs.react.Goals as goal

pub add_stored-requires : goal.add_stored-requires
add_stored-requires c =
    let q : Queue = queue_of c.args.c (tables_held c.args.t.now) in
    let h : ℕ = c.in-Add.head in
    let a : Adding q h c.in-Add.step = adding _ _ _ _ _ _ c.requires c.in-Add.is in
    let e : c.size_at.result ≡ size_of q h =
    c.size_at.ensures ∙ ap (λ (x : Tables). size_of (queue_of c.args.c x) h) (reads_tables _ _ c.read.ensures) in
    let m : size_of q h ≤ 64 = size_below _ _ _ _ _ _ c.requires h a.head in
    let i : c.in-Add.step < size_of q h + 3 = a.step in
    (omega arith, omega arith)

pub pop_stored-requires : goal.pop_stored-requires
pop_stored-requires c = storing _ _ _ _ _ _ c.requires c.in-PopStore.is

pub returns-in-PopIdx-clause-reacted : goal.returns-in-PopIdx-clause-reacted
returns-in-PopIdx-clause-reacted c =
    let t : Tables = tables_held c.args.t.now in for_call (queue_of c.args.c t) _ c.in-PopIdx.is (c.saw_idx.ensures t)

pub returns-in-PopStore-clause-reacted : goal.returns-in-PopStore-clause-reacted
returns-in-PopStore-clause-reacted c =
    let t : Tables = tables_held c.args.t.now in for_call (queue_of c.args.c t) _ c.in-PopStore.is (c.pop_stored.ensures t)

pub returns-in-PeekIdx-clause-reacted : goal.returns-in-PeekIdx-clause-reacted
returns-in-PeekIdx-clause-reacted c =
    let t : Tables = tables_held c.args.t.now in for_call (queue_of c.args.c t) _ c.in-PeekIdx.is (c.saw_idx-in-PeekIdx.ensures t)
