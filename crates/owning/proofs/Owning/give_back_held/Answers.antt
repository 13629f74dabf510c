-- The answer is `released` of what is held: nothing, or a token, whose buffer is added again.
use Rattle.std.proofs.Common.{sym, ap, ◌∙◌, arith}
use Rattle.virtio.specs.Memory.{Memory}
use Rattle.access.specs.Accesses.{memory}
use Rattle.owning.specs.Owned.{own_of}
use Rattle.rules.specs.Owning.{released}
use Rattle.owning.specs.Sound.{Sound, sound, begins, held_below}
use Rattle.owning.specs.Cases.{gives_back}
use Rattle.owning.proofs.Owning.give_back_held.Goals as goal

pub buffer-requires : goal.buffer-requires
buffer-requires c =
    let o : _ = own_of c.args.self in
    let w : Sound o = sound o c.requires in
    begins o w (omega arith) c.in-Some.held.token (held_below o c.requires c.in-Some.held.token c.in-Some.held.len c.in-Some.is)

pub returns-in-None : goal.returns-in-None
returns-in-None c =
    let m : Memory = memory c.args.one.now c.args.two.now c.args.pool.now in
    λ store. c.refused.ensures m store ∙ ap (λ h. released (own_of c.args.self) h m store) (sym c.in-None.is)

pub returns-in-Some : goal.returns-in-Some
returns-in-Some c =
    let m : Memory = memory c.args.one.now c.args.two.now c.args.pool.now in
    λ store. c.plainly.ensures _ store
    ∙ gives_back (own_of c.args.self) m store c.in-Some.held.token c.in-Some.held.len _ (rw c.buffer.ensures at c.add-r.ensures)
    ∙ ap (λ h. released (own_of c.args.self) h m store) (sym c.in-Some.is)
