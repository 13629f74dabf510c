-- The held bytes lie within the store.
use Prim.Native.Nat.{◌+◌, ◌*◌, ◌≤◌}
use native.Mathlib.Omega.{arith}
use lib.ListN.{length}
use Rattle.owning.specs.Owned.{own_of}
use Rattle.owning.specs.Sound.{held_ends}
use Rattle.owning.proofs.Owning.held_part.Goals as goal

pub slice_bounds-result-end-in-Some : goal.slice_bounds-result-end-in-Some
slice_bounds-result-end-in-Some c =
    let e : c.in-Some.held.token * c.args.self.size + c.in-Some.held.len ≤ length c.args.store.now =
    held_ends (own_of c.args.self) c.requires.self_value c.in-Some.held.token c.in-Some.held.len c.in-Some.is (length c.args.store.now) c.requires.size_in_bounds in
    omega (arith, e)
