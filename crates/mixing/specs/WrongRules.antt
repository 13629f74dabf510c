-- Five wrong rules, and for each the mixing of Tried that no order of whole calls and whole acts explains then: so demand 3 does not hold of them.
use Rattle.std.specs.Prelude.{◌≡◌, refl, cond, List, [], ◌∷◌, ℕ, ◌+◌, ◌-◌, ◌*◌, ◌/◌, ◌%◌, eqb, ltb}
use Rattle.lists.specs.Index.{after}
use Rattle.virtio.specs.Memory.{Memory, Place, desc, avail_idx, avail_ring, used_idx, used_id, used_len, spot, store_at}
use Rattle.rules.specs.declared.Open.{Open}
use Rattle.rules.specs.declared.Open.TheVariants.{Idle, Add, PopIdx, PopId, PopLen, PopStore, PeekIdx, PeekId}
use Rattle.rules.specs.Record.{Queue, is_open, desc_of, last_of, size_of}
use Rattle.rules.specs.Answer.{Outcome, NotReady}
use Rattle.rules.specs.Step.{Access, store, store_desc, load, loaded, accessed, access, buffer_store, Reaction, react, will_go_on, ends, at_length}
use Rattle.rules.specs.Computing.{computing}
use Rattle.mixing.specs.Device.{Wiring, Act, Doing, Device, Worked, acting, begin, work, goes, comes, complete_idx_work, completed, without}
use Rattle.mixing.specs.Device.{take_next, complete, set_used_flags, set_avail_event, see_avail_flags, see_used_event}
use Rattle.mixing.specs.Device.{resting, take_idx, take_head, take_chain, complete_id, complete_len, complete_idx}
use Rattle.mixing.specs.Mix.{Event, call, step, act, tick, Trace, opening, called, drives, further, works}
use Rattle.mixing.specs.Demand.{wiring}
use Rattle.mixing.specs.Mixings.{direct, ask}
use Rattle.mixing.specs.Tried.{Verdict, explained, unexplained, verdict, orders, buffers_code, results_code, answers_code, alike, played, some}
use Rattle.mixing.specs.Tried.{slot_then_idx, chain_then_idx, element_then_used_idx, used_idx_then_element, taken_then_completed}

-- ---- events by other rules

-- an event of a mixing, with these rules of a driver's step, of a device's opening and of its step
module _ (moves : Queue → Memory → Outcome) (begins : Act → Device → Memory → Worked) (worksOn : Doing → Device → Memory → Worked) where
  unfoldable pub event_by : Event → Trace → Trace
  event_by (call c) t = called c (opening c t.queue t.memory) t
  event_by step t = cond (is_open t.queue.call) (drives [] (further t.made (moves t.queue t.memory)) t) t
  event_by (act a) t = cond (acting t.device.doing) t (works (a ∷ []) (begins a t.device t.memory) t)
  event_by tick t = cond (acting t.device.doing) (works [] (worksOn t.device.doing t.device t.memory) t) t

-- a driver's step by a rule of what it accesses and one of what it makes of the number loaded; it checks nothing
abbrev stepping : (Queue → Open → Access) → (Queue → Open → ℕ → Reaction) → Queue → Memory → Outcome
stepping accesses reacts q m =
    let a : Access = accesses q q.call in
    let r : Reaction = reacts q q.call (loaded q a m) in
    record { answer = r.answer; value = r.value; steps = 1; queue = r.queue; memory = accessed q a m }

abbrev two : Wiring
two = wiring (ask direct)

abbrev by_driver : (Queue → Open → Access) → (Queue → Open → ℕ → Reaction) → List Event → Verdict
by_driver accesses reacts es = verdict (event_by (stepping accesses reacts) (begin two) (work two)) es

abbrev by_device : (Act → Device → Memory → Worked) → (Doing → Device → Memory → Worked) → List Event → Verdict
by_device begins worksOn es = verdict (event_by (stepping access react) begins worksOn) es

-- ---- the rules of the calls that a wrong rule leaves

-- the driver's accesses, but for those of an add
abbrev with_add : (Queue → ℕ → ℕ → Access) → Queue → Open → Access
with_add adds q Idle = access q Idle
with_add adds q (Add h i) = adds q h i
with_add adds q (PopIdx t b) = access q (PopIdx t b)
with_add adds q (PopId t b) = access q (PopId t b)
with_add adds q (PopLen t b d) = access q (PopLen t b d)
with_add adds q (PopStore k i l) = access q (PopStore k i l)
with_add adds q PeekIdx = access q PeekIdx
with_add adds q PeekId = access q PeekId

-- an add's accesses behind its buffers: these three, in this order
abbrev behind : (Queue → ℕ → Access) → (Queue → ℕ → Access) → (Queue → ℕ → Access) → Queue → ℕ → ℕ → Access
behind x y z q h i =
    cond (ltb i (size_of q h)) (buffer_store q h i) (cond (eqb i (size_of q h)) (x q h) (cond (eqb i (size_of q h + 1)) (y q h) (z q h)))

abbrev stores_last : Queue → ℕ → Access
stores_last q h = store_desc (desc (last_of q h)) (desc_of q (last_of q h))

abbrev stores_slot : Queue → ℕ → Access
stores_slot q h = store (avail_ring (q.counts.avail % q.n)) h

abbrev stores_idx : Queue → ℕ → Access
stores_idx q h = store avail_idx (after q.counts.avail)

-- ---- by the right rules, so written, each mixing has its order

pub right_slot_then_idx : by_driver (with_add (behind stores_last stores_slot stores_idx)) react slot_then_idx ≡ explained
unfolding computing event_by without orders buffers_code results_code answers_code alike played some
right_slot_then_idx = refl

pub right_chain_then_idx : by_driver (with_add (behind stores_last stores_slot stores_idx)) react chain_then_idx ≡ explained
unfolding computing event_by without orders buffers_code results_code answers_code alike played some
right_chain_then_idx = refl

pub right_element_then_used_idx : by_device (begin two) (work two) element_then_used_idx ≡ explained
unfolding computing event_by without orders buffers_code results_code answers_code alike played some
right_element_then_used_idx = refl

pub right_used_idx_then_element : by_driver access react used_idx_then_element ≡ explained
unfolding computing event_by without orders buffers_code results_code answers_code alike played some
right_used_idx_then_element = refl

pub right_taken_then_completed : by_device (begin two) (work two) taken_then_completed ≡ explained
unfolding computing event_by without orders buffers_code results_code answers_code alike played some
right_taken_then_completed = refl

-- ---- 1: an add that stores idx before the slot

pub idx_before_slot : by_driver (with_add (behind stores_last stores_idx stores_slot)) react slot_then_idx ≡ unexplained
unfolding computing event_by without orders buffers_code results_code answers_code alike played some
idx_before_slot = refl

-- ---- 2: an add that stores its last descriptor behind idx

pub idx_before_chain : by_driver (with_add (behind stores_slot stores_idx stores_last)) react chain_then_idx ≡ unexplained
unfolding computing event_by without orders buffers_code results_code answers_code alike played some
idx_before_chain = refl

-- ---- 3: a complete that stores used idx before its element

abbrev put : Place → ℕ → Memory → Memory
put p v m = store_at (spot two.legacy two.n p) v m

abbrev completes_first : Doing → Device → Memory → Worked
completes_first resting d m = work two resting d m
completes_first take_idx d m = work two take_idx d m
completes_first take_head d m = work two take_head d m
completes_first (take_chain h k t i bs) d m = work two (take_chain h k t i bs) d m
completes_first (complete_id h l) d m = goes d (complete_len h l) (put used_idx (after d.used) m)
completes_first (complete_len h l) d m = goes d (complete_idx h l) (put (used_id (d.used % two.n)) h m)
completes_first (complete_idx h l) d m = comes (complete_idx_work two h d m).device completed (put (used_len (d.used % two.n)) l m)

pub used_idx_before_element : by_device (begin two) completes_first element_then_used_idx ≡ unexplained
unfolding computing event_by without orders buffers_code results_code answers_code alike played some
used_idx_before_element = refl

-- ---- 4: a pop that loads its element, and used idx last

-- the open call keeps what was loaded in the place of the id: the id, and then with it the length, one more and 2^32-fold
abbrev loads_element : Queue → Open → Access
loads_element q Idle = access q Idle
loads_element q (Add h i) = access q (Add h i)
loads_element q (PopIdx t b) = load (used_id (q.counts.last % q.n))
loads_element q (PopId t b) = access q (PopId t b)
loads_element q (PopLen t b d) = cond (ltb d 4294967296) (load (used_len (q.counts.last % q.n))) (load used_idx)
loads_element q (PopStore k i l) = access q (PopStore k i l)
loads_element q PeekIdx = access q PeekIdx
loads_element q PeekId = access q PeekId

abbrev looks_last : Queue → Open → ℕ → Reaction
looks_last q Idle v = react q Idle v
looks_last q (Add h i) v = react q (Add h i) v
looks_last q (PopIdx t b) v = will_go_on q (PopLen t b v)
looks_last q (PopId t b) v = react q (PopId t b) v
looks_last q (PopLen t b d) v =
    cond (ltb d 4294967296) (will_go_on q (PopLen t b (d + (v + 1) * 4294967296)))
    (cond (eqb v q.counts.last) (ends q NotReady 0) (at_length q t b (d % 4294967296) (d / 4294967296 - 1)))
looks_last q (PopStore k i l) v = react q (PopStore k i l) v
looks_last q PeekIdx v = react q PeekIdx v
looks_last q PeekId v = react q PeekId v

pub element_before_used_idx : by_driver loads_element looks_last used_idx_then_element ≡ unexplained
unfolding computing event_by without orders buffers_code results_code answers_code alike played some
element_before_used_idx = refl

-- ---- 5: a device that completes chains that it has not taken

abbrev completes_any : Act → Device → Memory → Worked
completes_any take_next d m = begin two take_next d m
completes_any (complete h l) d m = goes d (complete_id h l) m
completes_any (set_used_flags v) d m = begin two (set_used_flags v) d m
completes_any (set_avail_event v) d m = begin two (set_avail_event v) d m
completes_any see_avail_flags d m = begin two see_avail_flags d m
completes_any see_used_event d m = begin two see_used_event d m

pub untaken_completed : by_device completes_any (work two) taken_then_completed ≡ unexplained
unfolding computing event_by without orders buffers_code results_code answers_code alike played some
untaken_completed = refl
