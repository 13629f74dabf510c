-- A take that follows a whole add gives that add's list: what the driver publishes is what the device takes.
use Rattle.std.specs.Prelude.{◌≡◌, refl, true, false, not, ◌&&◌, List, [], ◌∷◌, ℕ, ◌+◌, ◌-◌, ◌*◌, ◌%◌}
use Rattle.std.proofs.Common.{sym, ap, ap₂, subst, ◌∙◌, inl, inr, append-nil, arith, eq-eqb}
use Rattle.std.proofs.lemmas.Bool.{not-true}
use Rattle.lists.specs.Index.{after}
use Rattle.lists.specs.Tests.{by_test, and_left, and_right}
use Rattle.virtio.specs.declared.Desc.{Desc}
use Rattle.virtio.specs.declared.Buffer.{Buffer}
use Rattle.virtio.specs.Desc.{has_indirect}
use Rattle.virtio.specs.Memory.{Memory, avail_ring, spot, load_at}
use Rattle.virtio.specs.Chain.{follow, no_indirect, table_desc, buffers, chain_at}
use Rattle.rules.specs.Record.{Queue, is_open}
use Rattle.rules.specs.Answer.{Outcome, Busy}
use Rattle.rules.specs.Calls.{add_refusal, add as whole_add}
use Rattle.rules.specs.New.{Ask, new}
use Rattle.laws.specs.WellFormedIs.{means_well_formed}
use Rattle.laws.specs.Added.{add_done}
use Rattle.laws.specs.Reads.{AllNarrow, Reads}
use Rattle.laws.specs.Followed.{list_at, Plain, Listed, plain_anywhere}
use Rattle.laws.specs.Published.{add_publishes, Stands, add_stands}
use Rattle.mixing.specs.Device.{Wiring, take_next, acting}
use Rattle.mixing.specs.Mix.{add, Event, Trace, drives, trace}
use Rattle.mixing.specs.Demand.{whole_call, whole_act, steps_of, in_turn, start, wiring}
use Rattle.mixing.proofs.Whole.{trace_append}
use Rattle.mixing.proofs.WholeCalls.{whole_call_is}
use Rattle.mixing.specs.Facts.{Inv}
use Rattle.mixing.proofs.Kept.{sane}
use Rattle.mixing.proofs.Start.{start_inv}
use Rattle.mixing.proofs.Ends.{trace_keep}
use Rattle.mixing.proofs.Takes.{aligned, lists_aligned, Finds, beginning, ending, takes_chain}

-- ---- an add's chain is aligned

plain_aligned : (base : ℕ) (ds : List Desc) → no_indirect ds ≡ true → aligned base ds ≡ true
unfolding no_indirect aligned
plain_aligned base [] e = refl
plain_aligned base (d ∷ ds) e =
    let f : has_indirect d ≡ false = not-true (has_indirect d) (and_left (not (has_indirect d)) (no_indirect ds) e) in
    rw f (plain_aligned base ds (and_right (not (has_indirect d)) (no_indirect ds) e))

list_aligned : (base slot k x : ℕ) → aligned base (list_at base slot k x ∷ []) ≡ true
unfolding aligned
list_aligned base slot k x = ap (λ b. b && true) (eq-eqb ((base + 16 * slot - base) % 16) 0 (omega arith))

-- the device's count is never idx counted on
after_other : (x y : ℕ) → x ≡ after y → x ≡ y → ⊥
after_other x y e f = omega arith

module _ (w : Wiring) (t : Trace) (bs : List Buffer) (v : Inv w t) (e : add_refusal t.queue t.memory bs ≡ 0) (f : AllNarrow bs) where
  abbrev q : Queue
  q = t.queue

  abbrev o : Outcome
  o = whole_add q t.memory bs

  -- the descriptor that the add takes first
  abbrev head : ℕ
  head = q.counts.free

  -- a call that is open would have it refused
  at_rest : is_open q.call ≡ false
  at_rest =
      by_test (is_open q.call)
      (λ y. absurd (let z : ◌≡◌ {A = ℕ} Busy 0 = rw (means_well_formed q v.facts.good.well, v.facts.fit, y) at e in omega arith))
      (λ y. y)

  -- what the device reads, by its own wiring
  reads_wired : Reads w.legacy w.n q.base o.memory q.counts.avail head bs
  reads_wired =
      subst (λ l. Reads l w.n q.base o.memory q.counts.avail head bs) v.layout
      (subst (λ n. Reads q.modes.legacy n q.base o.memory q.counts.avail head bs) v.size
      (add_publishes q t.memory bs v.facts.good e f))

  abbrev FoundSo : Type 0
  FoundSo =
      (chain_at w.n w.base o.memory head ≡ buffers bs)
      × (lists_aligned w.base (follow (table_desc o.memory) w.n w.n head) ≡ true)

  found_so : Stands q t.memory bs v.facts.good e o.memory → FoundSo
  found_so (inl p) =
      let y : Plain w.n o.memory head = subst (λ n. Plain n o.memory head) v.size p in (
        plain_anywhere w.n w.base q.base o.memory head y ∙ reads_wired.chain,
        ap (lists_aligned w.base) y.1 ∙ plain_aligned w.base y.0 y.2,
      )
  found_so (inr p) =
      let b : w.base ≡ q.base = v.facts.based p.0 in
      let y : Listed w.n q.base o.memory head = subst (λ n. Listed n q.base o.memory head) v.size p.1 in (
        ap (λ x. chain_at w.n x o.memory head) b ∙ reads_wired.chain,
        ap₂ lists_aligned b y.3 ∙ list_aligned q.base y.0 y.1 y.2,
      )

  module _ (d : acting t.device.doing ≡ false) (c : t.device.taken ≡ q.counts.avail) where
    abbrev u : Trace
    u = drives (add bs ∷ []) o t

    finds : Finds w u head bs
    finds =
        let s : FoundSo = found_so (add_stands q t.memory bs v.facts.good e f) in
        record {
          rests = d;
          available = λ x. after_other _ _ reads_wired.idx (x ∙ c);
          slot = ap (λ k. load_at (spot w.legacy w.n (avail_ring (k % w.n))) o.memory) c ∙ reads_wired.slot;
          chain = s.0;
          even = s.1;
        }

    -- THE LAW: a whole add that is not refused and then a whole take, by a device that has taken all before it, give the list under the add's token
    pub takes_added : trace w (in_turn w.n (whole_call (add bs) ∷ whole_act take_next ∷ [])) t
        ≡ ending (beginning (drives (add bs ∷ []) (whole_add t.queue t.memory bs) t)) (whole_add t.queue t.memory bs).value bs
    takes_added =
        trace_append w (steps_of w.n (whole_call (add bs))) (in_turn w.n (whole_act take_next ∷ [])) t
        ∙ ap₂ (trace w) (append-nil (steps_of w.n (whole_act take_next))) (whole_call_is w (add bs) t (sane w t v) at_rest)
        ∙ takes_chain w u head bs finds
        ∙ ap (λ (r : Outcome). ending (beginning u) r.value bs) (sym (add_done q t.memory bs v.facts.good e))

-- and so at every moment of a mixing of a fresh queue where the device has nothing open and has taken all that was added
pub fresh_takes_added : (a : Ask) (m : Memory) → (new a m).answer ≡ 0 → (es : List Event) (bs : List Buffer) →
    let w : Wiring = wiring a in
    let t : Trace = trace w es (start (new a m)) in
    add_refusal t.queue t.memory bs ≡ 0 → AllNarrow bs → acting t.device.doing ≡ false → t.device.taken ≡ t.queue.counts.avail
    → trace w (in_turn a.n (whole_call (add bs) ∷ whole_act take_next ∷ [])) t
    ≡ ending (beginning (drives (add bs ∷ []) (whole_add t.queue t.memory bs) t)) (whole_add t.queue t.memory bs).value bs
fresh_takes_added a m e es bs r f d c =
    let w : Wiring = wiring a in
    let t : Trace = trace w es (start (new a m)) in
    takes_added w t bs (trace_keep w es (start (new a m)) (start_inv a m e)) r f d c
