-- `react::freeing::free_descs` meets its contract: what all of the chain becomes is what the rest of it becomes from where the loop stands.
use Rattle.std.proofs.Common.{◌≡◌, sym, ap, ◌∙◌, subst, ℕ, ◌+◌, ◌-◌, ◌<◌, arith, get_or}
use Rattle.virtio.specs.declared.Desc.{Desc}
use Rattle.virtio.specs.Desc.{no_desc}
use Rattle.rules.specs.Record.{Tables}
use Rattle.tables.specs.Lent.{tables_held, reads_tables, same_loan_refl, same_loan_trans}
use Rattle.tables.specs.Stores.{next_below}
use Rattle.react.specs.Reactions.{unchained}
use Rattle.react.specs.Freeing.{free_turn, turn_links, free_last}
use Rattle.react.proofs.freeing.free_descs.Goals as goal

pub loop-init : goal.loop-init
loop-init c =
    let t : _ = c.args.t.now in record {
      same = same_loan_refl t;
      inside = omega arith;
      linked = next_below _ t.words.now t.lens.now _ t.sides.now _ c.requires.closed;
      rest = ap (λ k. unchained (tables_held t) c.args.head k c.args.free) {x = c.args.k} {y = c.args.k - 1 + 1} (omega arith);
    }

pub loop-preserved : goal.loop-preserved
loop-preserved c =
    let d : Desc = c.desc_at-d.result in
    let t : Tables = tables_held c.loop.t in
    let t' : Tables = tables_held c.put_desc.new.self in
    let i : ℕ = c.loop.i in
    let left : ℕ = c.args.k - c.loop.counter + 1 in
    let is : d ≡ get_or t.shadow i no_desc =
    c.desc_at-d.ensures ∙ ap (λ (x : Tables). get_or x.shadow i no_desc) (reads_tables _ _ c.read.ensures) in record {
      same = same_loan_trans _ _ _ c.loop.invariant.same c.put_desc.ensures.same_loan;
      inside = subst (λ x. x < c.args.n) (sym (ap (λ (y : Desc). y.next) is)) (c.loop.invariant.linked i c.loop.invariant.inside);
      linked = λ j b.
          subst (λ x. x < c.args.n) (sym (turn_links t t' d c.empty.result i left c.args.free is c.put_desc.ensures.stored c.empty.ensures j)) (c.loop.invariant.linked j b);
      rest =
          c.loop.invariant.rest
          ∙ free_turn t t' d c.empty.result i left c.args.free is c.put_desc.ensures.stored c.empty.ensures (omega arith)
          ∙ ap (λ k. unchained t' d.next k c.args.free) {x = left - 1} {y = c.args.k - (c.loop.counter + 1) + 1} (omega arith);
    }

pub returns-clause-freed : goal.returns-clause-freed
returns-clause-freed c =
    let t : Tables = tables_held c.loop.t in
    let i : ℕ = c.loop.i in
    free_last t (tables_held c.put_desc-2.new.self) c.desc_at-last.result c.empty-2.result i (c.args.k - c.loop.counter + 1) c.args.free
    (c.desc_at-last.ensures ∙ ap (λ (x : Tables). get_or x.shadow i no_desc) (reads_tables _ _ c.read-2.ensures))
    c.put_desc-2.ensures.stored
    c.empty-2.ensures
    (omega arith)
    ∙ sym c.loop.invariant.rest
