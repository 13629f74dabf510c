-- What a well-formed owning record has: a well-formed queue with no call open, a store that ends within 2^64, and a held token that is one of its own.
use Rattle.std.specs.Prelude.{◌≡◌, true, false, ℕ, ◌+◌, ◌*◌, ◌≤◌, ◌<◌, ◌^◌}
use Rattle.std.proofs.Common.{arith, sym, ◌∙◌}
use Rattle.std.proofs.lemmas.Bool.{not-false}
use Rattle.lists.specs.Tests.{and_left}
use Rattle.virtio.specs.Memory.{Memory}
use Rattle.rules.specs.Record.{Queue, is_open}
use Rattle.rules.specs.WellFormed.{well_formed, base_ok}
use Rattle.rules.specs.Calls.{fits, call_refusal}
use Rattle.rules.specs.Owning.{Owning, holds, size_allowed, placed_clause, own_well_formed}
use Rattle.laws.specs.OwnIs.{InHand, same_len, none_broken, own_means, slot_ends}
use Rattle.owns.specs.Turns.{address_fits}
use Rattle.owns.specs.Clauses.{placed_ends}

pub record Sound (o : Owning) : Type 0 where
  pub well : well_formed o.queue ≡ true
  pub idle : is_open o.queue.call ≡ false
  pub ends : o.base + o.queue.n * o.size ≤ 2 ^ 64

module _ (o : Owning) where
  -- THE LAW
  pub sound : own_well_formed o ≡ true → Sound o
  sound e =
      let n : _ = none_broken o e in
      record {
        well = n.0;
        idle = n.1.0;
        ends = placed_ends o.base o.size o.queue.n (and_left (base_ok o.base (o.queue.n * o.size)) (size_allowed o.size) (not-false (placed_clause o) n.1.1.0));
      }

  -- a token's own buffer begins below 2^64
  pub begins : Sound o → o.base < 2 ^ 64 → (t : ℕ) → t < o.queue.n → o.base + t * o.size < 2 ^ 64
  begins s b t l = address_fits o.base o.queue.n o.size t b l s.ends

  module _ (w : own_well_formed o ≡ true) (t l : ℕ) (h : o.held ≡ holds t l) where
    -- a held token is below n
    pub held_below : t < o.queue.n
    held_below = ((own_means o w).holding t l h).below

    -- and its bytes lie within a store that has room for all buffers
    pub held_ends : (have : ℕ) → o.queue.n * o.size ≤ have → t * o.size + l ≤ have
    held_ends have r =
        let i : InHand o t = (own_means o w).holding t l h in
        let f : o.held ≡ holds t i.len = i.held in
        let j : l ≡ i.len = same_len t l t i.len (sym h ∙ f) in
        let v : i.len ≤ o.size = i.within in
        let u : t * o.size + o.size ≤ o.queue.n * o.size = slot_ends o.size t o.queue.n i.below in
        omega arith

-- no call of the queue is refused
pub not_refused : (q : Queue) (m : Memory) → well_formed q ≡ true → fits q m ≡ true → is_open q.call ≡ false → call_refusal q m ≡ 0
not_refused q m w f i = rw (w, f, i)
