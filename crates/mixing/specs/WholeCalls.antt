-- The rules' whole call: add, pop_used, peek_used, or the call of a single step. That a whole call of demand 3 is it: proofs/WholeCalls.
use Rattle.virtio.specs.Memory.{Memory}
use Rattle.rules.specs.Record.{Queue}
use Rattle.rules.specs.Answer.{Outcome}
use Rattle.rules.specs.Calls.{add as whole_add, pop_used, peek_used, can_pop, should_notify, set_dev_notify, available_desc}
use Rattle.mixing.specs.Mix.{Call, add, pop_used_call, peek_used_call, can_pop_call, should_notify_call, available_desc_call, set_dev_notify_call}

-- the rules' whole call
abbrev pub wholly : Call → Queue → Memory → Outcome
wholly (add bs) q m = whole_add q m bs
wholly (pop_used_call t bs) q m = pop_used q m t bs
wholly peek_used_call q m = peek_used q m
wholly can_pop_call q m = can_pop q m
wholly should_notify_call q m = should_notify q m
wholly available_desc_call q m = available_desc q m
wholly (set_dev_notify_call b) q m = set_dev_notify q m b
