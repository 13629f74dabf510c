-- The held buffer of an owning record added again, under the token that it had.
use Rattle.std.specs.Prelude.{None, ◌≡◌, true, ℕ, ◌*◌, ◌≤◌, ◌<◌}
use Rattle.std.proofs.Common.{sym, subst, ◌∙◌, inl, arith}
use Rattle.std.proofs.Math.Path.{ap}
use Rattle.lists.specs.Tests.{by_eq}
use Rattle.virtio.specs.Memory.{Memory}
use Rattle.rules.specs.Record.{Queue, buffers_of}
use Rattle.rules.specs.Meaning.{Out, Based}
use Rattle.rules.specs.Calls.{fits, add_refusal, add}
use Rattle.rules.specs.Owning.{Owning, own_buffer, own_list}
use Rattle.laws.specs.OwnIs.{Away, InHand, OwnWell, OwnGood, own_means, means_own, other_away}
use Rattle.laws.proofs.OwnFree.{held_next, held_used}
use Rattle.laws.specs.OwnAdds.{one_allowed, one_outcome, AddedOne, one_done, one_added_lem}

module _ (o : Owning) (g : OwnGood o) (m : Memory) (t : ℕ) (x : InHand o t) (f : fits o.queue m ≡ true) where
  abbrev q : Queue
  q = o.queue

  w : OwnWell o
  w = own_means o g.well

  -- THE LAW: nothing refuses it
  pub back_allowed : add_refusal o.queue m (own_list o t) ≡ 0
  back_allowed =
      one_allowed q m (own_buffer o.base o.size t) g.good w.idle f (held_used o w t x)
      (λ z. let s : 1 ≤ o.size = w.some in omega arith)

  made : AddedOne q (add q m (own_list o t)).queue (own_buffer o.base o.size t)
  made = one_added_lem q m (own_buffer o.base o.size t) g.good back_allowed

  -- THE LAW: it answers the token that the buffer had; its closed form
  pub back_done : add o.queue m (own_list o t) ≡ one_outcome o.queue (own_buffer o.base o.size t) m t
  back_done =
      one_done q m (own_buffer o.base o.size t) g.good back_allowed
      ∙ ap (one_outcome q (own_buffer o.base o.size t) m) (held_next o w t x)

  -- the record with it back
  abbrev p : Owning
  p = record { queue = (add q m (own_list o t)).queue; base = o.base; size = o.size; held = None }

  own_away : Away p t
  own_away =
      let s : q.counts.free ≡ t = held_next o w t x in
      record { out = subst (Out p.queue) s made.out; list = ap (buffers_of p.queue) (sym s) ∙ made.list }

  others_away : (h : ℕ) → h < q.n → (h ≡ t → ⊥) → Away p h
  others_away h b d =
      let a : Away o h = other_away o w t x h b d in
      record { out = made.others_out h a.out; list = made.others_list h a.out ∙ a.list }

  back_well : OwnWell p
  back_well =
      let s : p.queue.n ≡ q.n = made.n in
      record {
        queue = made.good.well;
        idle = made.idle;
        based = subst (λ k. Based o.base (k * o.size)) (sym s) w.based;
        some = w.some;
        most = w.most;
        tokens = λ h b. inl (by_eq h t (λ e. subst (Away p) (sym e) own_away) (λ d. others_away h (omega arith) d));
        holding = λ k l e. absurd (let z : ◌≡◌ {A = ℕ} 0 1 = cc in omega arith);
      }

  -- THE LAW: the record with it back, and nothing held, is good, so that all tokens are out with their own buffers
  pub back_good : OwnGood (record { queue = (add o.queue m (own_list o t)).queue; base = o.base; size = o.size; held = None })
  back_good = record { good = made.good; well = means_own p back_well }
