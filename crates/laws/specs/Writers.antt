-- Which fields the driver touches: a step of an open call makes exactly one access, and stores only to fields that the driver writes, and loads only fields that
-- the device writes.
use Rattle.std.specs.Prelude.{◌≡◌, refl, Bool, true, false, cond, ℕ, ◌+◌, ltb, eqb}
use Rattle.std.proofs.Common.{sym, ap, ◌∙◌, arith}
use Rattle.std.proofs.lemmas.Bool.{false≢true}
use Rattle.virtio.specs.Device.{device_writes, driver_writes}
use Rattle.rules.specs.declared.Open.{Open}
use Rattle.rules.specs.declared.Open.TheVariants.{Idle, Add, PopIdx, PopId, PopLen, PopStore, PeekIdx, PeekId}
use Rattle.rules.specs.Record.{Queue, is_indirect, size_of, is_open}
use Rattle.rules.specs.Step.{Access, nothing, load, store, store_desc, buffer_store, add_access, pop_access, access}

-- an access that keeps to its side
abbrev pub Keeps : Access → Type 0
Keeps nothing = Unit {0}
Keeps (load p) = device_writes p ≡ true
Keeps (store p v) = driver_writes p ≡ true
Keeps (store_desc p d) = driver_writes p ≡ true

either : (b : Bool) (x y : Access) → Keeps x → Keeps y → Keeps (cond b x y)
either true x y k l = k
either false x y k l = l

module _ (q : Queue) where
  buffer_keeps : (h i : ℕ) → Keeps (buffer_store q h i)
  buffer_keeps h i = either (is_indirect q h) _ _ refl refl

  add_keeps : (h i : ℕ) → Keeps (add_access q h i)
  add_keeps h i =
      either (ltb i (size_of q h)) _ _ (buffer_keeps h i)
      (either (eqb i (size_of q h)) _ _ refl (either (eqb i (size_of q h + 1)) _ _ refl refl))

  pop_keeps : (k i : ℕ) → Keeps (pop_access q k i)
  pop_keeps k i = either (ltb i k) _ _ refl refl

  -- THE LAW
  pub keeps_to_side : (c : Open) → Keeps (access q c)
  keeps_to_side Idle = tt
  keeps_to_side (Add h i) = add_keeps h i
  keeps_to_side (PopIdx t b) = refl
  keeps_to_side (PopId t b) = refl
  keeps_to_side (PopLen t b d) = refl
  keeps_to_side (PopStore k i l) = pop_keeps k i
  keeps_to_side PeekIdx = refl
  keeps_to_side PeekId = refl

-- ---- and it makes one access at every step

-- whether an access is one
unfoldable made : Access → ℕ
made nothing = 0
made (load p) = 1
made (store p v) = 1
made (store_desc p d) = 1

either_made : (b : Bool) (x y : Access) → made x ≡ 1 → made y ≡ 1 → made (cond b x y) ≡ 1
either_made true x y k l = k
either_made false x y k l = l

open_made : (q : Queue) (c : Open) → is_open c ≡ true → made (access q c) ≡ 1
unfolding made
open_made q Idle o = absurd (false≢true o)
open_made q (Add h i) o =
    either_made (ltb i (size_of q h)) _ _ (either_made (is_indirect q h) _ _ refl refl)
    (either_made (eqb i (size_of q h)) _ _ refl (either_made (eqb i (size_of q h + 1)) _ _ refl refl))
open_made q (PopIdx t b) o = refl
open_made q (PopId t b) o = refl
open_made q (PopLen t b d) o = refl
open_made q (PopStore k i l) o = either_made (ltb i k) _ _ refl refl
open_made q PeekIdx o = refl
open_made q PeekId o = refl

-- THE LAW: over any record, the access of an open call is a load or a store, so that each of its steps makes exactly one
pub open_accesses : (q : Queue) (c : Open) → is_open c ≡ true → access q c ≡ nothing → ⊥
unfolding made
open_accesses q c o e =
    let z : ◌≡◌ {A = ℕ} 1 0 = sym (open_made q c o) ∙ ap made e in
    omega arith
