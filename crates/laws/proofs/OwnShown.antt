-- What a poll shows is what is viewed afterwards: the same part, of the store as it then is, since the device may have filled other buffers of it.
use Rattle.std.specs.Prelude.{◌≡◌, List, ℕ, ◌*◌, ◌≤◌, length}
use Rattle.std.proofs.Common.{sym, ap, ap₂, ◌∙◌, arith}
use Rattle.virtio.specs.Memory.{Memory}
use Rattle.rules.specs.Owning.{holds, Owning, part, shown, held_part, poll, own_view}
use Rattle.laws.specs.OwnIs.{OwnGood}
use Rattle.laws.specs.OwnViews.{InBuffer, held_viewed}
use Rattle.laws.proofs.OwnViews.{view_inside}
use Rattle.laws.specs.OwnKeeps.{Keeps}
use Rattle.laws.proofs.OwnKeeps.{poll_keeps}

-- THE LAW
pub poll_viewed
    : (o : Owning) (m : Memory) (s : List ℕ)
    → OwnGood o
    → (from count : ℕ)
    → (poll o m s).view ≡ part from count
    → (t : List ℕ)
    → length t ≡ length s
    → own_view (poll o m s).owning t ≡ shown (poll o m s).view t
poll_viewed o m s g from count e t l =
    let k : Keeps o s (poll o m s) = poll_keeps o m s g in
    let v : InBuffer o s (poll o m s) from count = view_inside o m s from count e in
    let h : (poll o m s).owning.held ≡ holds v.token count = v.held in
    let f : v.token * o.size ≡ from = sym v.starts in
    let z : (poll o m s).owning.queue.n * (poll o m s).owning.size ≡ o.queue.n * o.size = ap₂ (λ a b. a * b) k.n k.size in
    let r : o.queue.n * o.size ≤ length s = v.room in
    held_viewed (poll o m s).owning t k.good.well (omega arith)
    ∙ ap₂ (λ x y. shown (held_part x y) t) h k.size
    ∙ ap (λ a. shown (part a count) t) f
    ∙ ap (λ x. shown x t) (sym e)
