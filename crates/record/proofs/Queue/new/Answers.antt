-- `record::Queue::new` meets its contract: where it is refused the answer is `not_made`; where it is not, `Fine` says what the calls require, and the answer
-- is `made`, its memory with whatever the pool holds.
use Rattle.std.proofs.Common.{◌≡◌, ℕ, ◌+◌, ◌<◌, sym, ap, ◌∙◌, arith}
use Rattle.rules.specs.New.{fresh_memory}
use Rattle.rules.specs.Refused.{refusal_number, result_number, refusal_above}
use Rattle.access.specs.Accesses.{memory}
use Rattle.record.specs.Asked.{ask_of}
use Rattle.record.specs.Fine.{Fine, fine, refusal, new_made, new_not, with_pool}
use Rattle.record.proofs.Queue.new.Goals.{In_default}
use Rattle.record.proofs.Queue.new.Goals as goal

not_refused : (c : In_default) → refusal (ask_of c.args.ask) (memory c.args.one.now c.args.two.now c.args.pool.now) ≡ 0
not_refused c = sym c.may_make.ensures ∙ ap result_number c.in_default.is

does : (c : In_default) → Fine (ask_of c.args.ask) (memory c.args.one.now c.args.two.now c.args.pool.now)
does c = fine (ask_of c.args.ask) (memory c.args.one.now c.args.two.now c.args.pool.now) (not_refused c)

pub returns-in-Err : goal.returns-in-Err
returns-in-Err c =
    let m : _ = memory c.args.one.now c.args.two.now c.args.pool.now in
    let e : refusal_number c.in-Err.refusal ≡ refusal (ask_of c.args.ask) m = sym (ap result_number c.in-Err.is) ∙ c.may_make.ensures in
    let some : 0 < refusal_number c.in-Err.refusal = refusal_above c.in-Err.refusal in
    (λ i. record { answer = e i; table = 0; avail = 0; used = 0; queue = c.zero_queue.ensures i; memory = m })
    ∙ sym (new_not (ask_of c.args.ask) m (λ z. omega arith))

pub overflow_cast-n : goal.overflow_cast-n
overflow_cast-n c = omega (arith, (does (goal.at.overflow_cast-n c).In_default).small)

pub clear_parts-requires-clause-n_in_bounds : goal.clear_parts-requires-clause-n_in_bounds
clear_parts-requires-clause-n_in_bounds c = (does (goal.at.clear_parts-requires-clause-n_in_bounds c).In_default).one_has

pub clear_parts-requires-clause-n_in_bounds_2 : goal.clear_parts-requires-clause-n_in_bounds_2
clear_parts-requires-clause-n_in_bounds_2 c = (does (goal.at.clear_parts-requires-clause-n_in_bounds_2 c).In_default).two_has

pub overflow_add-places : goal.overflow_add-places
overflow_add-places c = omega (arith, (does (goal.at.overflow_add-places c).In_default).avail_fits)

pub used_base-requires-clause-n_bound : goal.used_base-requires-clause-n_bound
used_base-requires-clause-n_bound c = (does (goal.at.used_base-requires-clause-n_bound c).In_default).small

pub used_base-requires-clause-a_bound : goal.used_base-requires-clause-a_bound
used_base-requires-clause-a_bound c = (does (goal.at.used_base-requires-clause-a_bound c).In_default).used_fits

pub fresh_queue-requires : goal.fresh_queue-requires
fresh_queue-requires c = (does (goal.at.fresh_queue-requires c).In_default).small

pub returns : goal.returns
returns c =
    let a : _ = ask_of c.args.ask in
    let m : _ = memory c.args.one.now c.args.two.now c.args.pool.now in
    let base : ℕ = c.args.ask.base_one in
    let l : memory c.clear_parts.new.one c.clear_parts.new.two m.pool ≡ fresh_memory a m =
    with_pool a.modes.legacy a.n m.one m.two c.clear_parts.new.one c.clear_parts.new.two m.pool c.clear_parts.ensures in
    (λ i. record {
      answer = 0;
      table = base;
      avail = base + c.avail_at.ensures i;
      used = c.used_base.ensures i;
      queue = c.fresh_queue.ensures i;
      memory = l i;
    })
    ∙ sym (new_made a m (not_refused (goal.at.returns c).In_default))
