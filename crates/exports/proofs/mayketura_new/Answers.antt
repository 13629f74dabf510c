-- `exports::mayketura_new` meets its contract: record's new, by way of C's structs. Assumes nothing.
use Rattle.std.proofs.Common.{ap, ◌∙◌}
use Rattle.access.specs.Accesses.{memory}
use Rattle.rules.specs.New as rule
use Rattle.record.specs.declared.Ask.{Ask}
use Rattle.record.specs.Asked.{ask_of}
use Rattle.exports.specs.Flat.{ask_is}
use Rattle.exports.proofs.Told.{new_told}
use Rattle.exports.proofs.mayketura_new.Goals as goal

pub returns : goal.returns
returns c =
    new_told (ask_of (ask_is c.args.ask)) c.new.result c.from-2.result (memory c.args.one.now c.args.two.now c.args.pool.now) _ c.from-2.ensures
    (c.new.ensures ∙ ap (λ (a : Ask). rule.new (ask_of a) (memory c.args.one.now c.args.two.now c.args.pool.now)) c.from.ensures)
