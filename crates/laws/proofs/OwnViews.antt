-- The view of a poll lies inside its own token's buffer, whatever record, memory and store the poll is given.
use Rattle.std.specs.Prelude.{◌≡◌, Bool, true, false, cond, List, ℕ, ◌+◌, ◌*◌, ◌%◌, ◌≤◌, ◌<◌, ltb, leb, eqb, length, get_or, drop}
use Rattle.std.proofs.Math.Path.{refl}
use Rattle.std.proofs.Common.{sym, ap, ◌∙◌, arith, length-take, length-drop, get_or-take, get_or-drop}
use borrow.Author.Tests.{leb-true, ltb-true, eqb-true}
use Rattle.virtio.specs.Memory.{Memory, used_idx, used_id, spot, load_at}
use Rattle.rules.specs.Answer.{Outcome}
use Rattle.rules.specs.Step.{token_of}
use Rattle.rules.specs.Calls.{pop_used}
use Rattle.rules.specs.Owning.{holds, Owning, no_view, part, shown, Owned, own_list}
use Rattle.rules.specs.Owning.{poll_refusal, showing}
use Rattle.rules.specs.Owning.{poll_popped, poll_token, poll_ready, poll}
use Rattle.laws.specs.OwnIs.{slot_ends}
use Rattle.laws.specs.OwnViews.{poll_allowed, InBuffer}

module _ (o : Owning) (m : Memory) (s : List ℕ) where
  -- r has no view, or a view as it should be
  abbrev Viewed : Owned → Type 0
  Viewed r = (from count : ℕ) → r.view ≡ part from count → InBuffer o s r from count

  unseen : (r : Owned) → r.view ≡ no_view → Viewed r
  unseen r e from count f = absurd (let z : ◌≡◌ {A = ℕ} 0 1 = cc in omega arith)

  seen : (p : Outcome) (t : ℕ) → t < o.queue.n → p.value ≤ o.size → o.queue.n * o.size ≤ length s → Viewed (showing o p t s)
  seen p t b l room from count e =
      let x : t * o.size ≡ from = cc in
      let y : p.value ≡ count = cc in
      let u : t * o.size + o.size ≤ o.queue.n * o.size = slot_ends o.size t o.queue.n b in
      record {
        token = t;
        below = b;
        starts = sym x;
        most = omega arith;
        room = room;
        buffer = omega arith;
        inside = omega arith;
        answer = refl;
        value = refl;
        held = ap (holds t) y;
        store = refl;
      }

  by_cond : (b : Bool) (x y : Owned) → (b ≡ true → Viewed x) → (b ≡ false → Viewed y) → Viewed (cond b x y)
  by_cond true x y f g = f refl
  by_cond false x y f g = g refl

  popped_viewed : (p : Outcome) (t : ℕ) → t < o.queue.n → o.queue.n * o.size ≤ length s → Viewed (poll_popped o p t s)
  popped_viewed p t b room =
      by_cond (eqb p.answer 0) _ _
      (λ a. by_cond (leb p.value o.size) _ _ (λ e. seen p t b (leb-true p.value o.size e) room) (λ e. unseen _ refl))
      (λ a. unseen _ refl)

  token_viewed : (t : ℕ) → o.queue.n * o.size ≤ length s → Viewed (poll_token o t m s)
  token_viewed t room =
      by_cond (ltb t o.queue.n) _ _
      (λ e. popped_viewed (pop_used o.queue m t (own_list o t)) t (ltb-true t o.queue.n e) room)
      (λ e. unseen _ refl)

  ready_viewed : o.queue.n * o.size ≤ length s → Viewed (poll_ready o m s)
  ready_viewed room =
      by_cond (eqb (load_at (spot o.queue.modes.legacy o.queue.n used_idx) m) o.queue.counts.last) _ _
      (λ e. unseen _ refl)
      (λ e. token_viewed (token_of (load_at (spot o.queue.modes.legacy o.queue.n (used_id (o.queue.counts.last % o.queue.n))) m)) room)

  -- THE LAW: a view that a poll hands back lies inside its own token's buffer
  pub view_inside : (from count : ℕ) → (poll o m s).view ≡ part from count → InBuffer o s (poll o m s) from count
  unfolding poll
  view_inside =
      by_cond (eqb (poll_refusal o m s) 0) _ _
      (λ e. ready_viewed (poll_allowed o m s (eqb-true (poll_refusal o m s) 0 e)).room)
      (λ e. unseen _ refl)

  -- and has as many bytes as it says
  pub view_length : (from count : ℕ) → (poll o m s).view ≡ part from count → length (shown (part from count) s) ≡ count
  view_length from count e =
      let l : from + count ≤ length s = (view_inside from count e).inside in
      simp (length-take, length-drop) (omega arith)

  -- and these are, byte for byte, the store's, from the start of that token's buffer on
  pub view_bytes : (from count : ℕ) → (poll o m s).view ≡ part from count → (i : ℕ) → i < count
      → get_or (shown (part from count) s) i 0 ≡ get_or s ((poll o m s).value * o.size + i) 0
  view_bytes from count e i l =
      let v : InBuffer o s (poll o m s) from count = view_inside from count e in
      get_or-take count (drop from s) i 0 l
      ∙ get_or-drop from s i 0
      ∙ ap (λ k. get_or s (k + i) 0) (v.starts ∙ ap (λ k. k * o.size) (sym v.value))
