-- `react::pop_saw_len` meets its contract: a pop that is not refused frees a chain, and of it stores at most 64 descriptors.
use Rattle.std.proofs.Common.{◌∙◌, ap, get_or}
use Rattle.virtio.specs.Desc.{no_desc}
use Rattle.rules.specs.Record.{Tables}
use Rattle.rules.specs.Meaning.{Out}
use Rattle.rules.specs.Refused.{result_number}
use Rattle.rules.specs.Step.{verdict}
use Rattle.views.specs.Tables.{queue_of}
use Rattle.tables.specs.Lent.{tables_held, reads_tables}
use Rattle.react.specs.Cases.{fine_out, count_is}
use Rattle.react.specs.Freed.{stored_most}
use Rattle.react.proofs.pop_saw_len.Goals.{After-stored_count-count}
use Rattle.react.proofs.pop_saw_len.Goals as goal

-- the token of a pop that is not refused heads a chain
fine : (c : After-stored_count-count) → Out (queue_of c.args.c (tables_held c.args.t.now)) c.args.token
fine c =
    let same : _ = reads_tables _ _ c.read.ensures in
    fine_out _ _ c.args.id (result_number c.verdict.result) c.args.matched
    (c.verdict.ensures ∙ ap (λ (x : Tables). verdict (queue_of c.args.c x) c.args.token c.args.matched c.args.id) same)
    (ap result_number c.in_default.is)

pub free_chain-core-requires-clause-out : goal.free_chain-core-requires-clause-out
free_chain-core-requires-clause-out c = fine (goal.at.free_chain-core-requires-clause-out c).After-stored_count-count

pub store_steps-requires : goal.store_steps-requires
store_steps-requires c =
    let same : _ = reads_tables _ _ c.read-read.ensures in
    stored_most _ _ _ _ _ _ c.requires c.args.token (fine (goal.at.store_steps-requires c).After-stored_count-count) _
    (count_is (queue_of c.args.c (tables_held c.args.t.now)) _ _ _ _
    (c.desc_at.ensures ∙ ap (λ (x : Tables). get_or x.shadow c.args.token no_desc) same)
    (c.noted_at.ensures ∙ ap (λ (x : Tables). get_or x.noted c.args.token 0) same)
    c.stored_count-count.ensures)
