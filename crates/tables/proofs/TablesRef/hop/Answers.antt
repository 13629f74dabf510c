-- `tables::TablesRef::hop` meets its contract: what is k links on from i is what is as many as are left on from where the loop stands.
use Rattle.std.proofs.Common.{◌≡◌, ℕ, ◌+◌, ◌-◌, ◌<◌, arith, subst, sym, ap, ◌∙◌}
use Rattle.lists.specs.Walk.{hop, hop_turn, hop_none}
use Rattle.tables.specs.Stores.{next_below}
use Rattle.tables.proofs.TablesRef.hop.Invariants.{linked}
use Rattle.tables.proofs.TablesRef.hop.Goals as goal

pub loop-preserved : goal.loop-preserved
loop-preserved c =
    let s : _ = c.args.self.now in
    let at : ℕ = c.loop.at in
    let left : ℕ = c.args.k - c.loop.counter in
    let is : c.next_at-at.result ≡ linked s at = c.next_at-at.ensures in
    let low : linked s at < c.args.n = next_below s.room s.words.now s.lens.now s.halves.now s.sides.now c.args.n c.requires.closed at c.loop.invariant.inside in record {
      inside = subst (λ x. x < c.args.n) (sym is) low;
      rest =
          c.loop.invariant.rest
          ∙ hop_turn (linked s) left at (omega arith)
          ∙ ap (λ k. hop (linked s) k (linked s at)) {x = left - 1} {y = c.args.k - (c.loop.counter + 1)} (omega arith)
          ∙ ap (hop (linked s) (c.args.k - (c.loop.counter + 1))) (sym is);
    }

pub returns : goal.returns
returns c =
    let s : _ = c.args.self.now in
    sym (c.loop.invariant.rest ∙ hop_none (linked s) (c.args.k - c.loop.counter) c.loop.at (omega arith))
