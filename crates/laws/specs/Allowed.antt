-- What is so of a call that nothing refuses.
use Rattle.std.specs.Prelude.{◌≡◌, Bool, true, false, List}
use Rattle.std.proofs.Common.{arith}
use Rattle.std.proofs.lemmas.Bool.{not-false}
use Rattle.lists.specs.Pick.{first}
use Rattle.lists.specs.PickLaws.{first_none, NoneOf}
use Rattle.virtio.specs.declared.Buffer.{Buffer}
use Rattle.rules.specs.Record.{Queue, is_open}
use Rattle.rules.specs.WellFormed.{well_formed}
use Rattle.rules.specs.Calls.{step_tests, call_tests, add_tests}

-- the record is well formed, the lent memory does, and none is open
pub record Allowed (q : Queue) (fit : Bool) : Type 0 where
  pub well : well_formed q ≡ true
  pub fits : fit ≡ true
  pub idle : is_open q.call ≡ false

module _ (q : Queue) (fit : Bool) where
  pub step_allowed : first (step_tests q fit) ≡ 0 → (well_formed q ≡ true) × (fit ≡ true)
  step_allowed e =
      let t : NoneOf (step_tests q fit) = first_none (step_tests q fit) (omega arith) e in
      (not-false (well_formed q) t.0, not-false fit t.1.0)

  pub call_allowed : first (call_tests q fit) ≡ 0 → Allowed q fit
  call_allowed e =
      let t : NoneOf (call_tests q fit) = first_none (call_tests q fit) (omega arith) e in
      record { well = not-false (well_formed q) t.0; fits = not-false fit t.1.0; idle = t.1.1.0 }

  pub add_allowed : (bs : List Buffer) → first (add_tests q fit bs) ≡ 0 → Allowed q fit
  add_allowed bs e =
      let t : NoneOf (add_tests q fit bs) = first_none (add_tests q fit bs) (omega arith) e in
      record { well = not-false (well_formed q) t.0; fits = not-false fit t.1.0; idle = t.1.1.0 }
