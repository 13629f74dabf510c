-- Owning new is refused exactly where it answers another number than 0, and one that answers 0 makes a good record.
use Rattle.std.specs.Prelude.{◌≡◌, List}
use Rattle.std.proofs.Common.{sym, subst, ◌∙◌}
use Rattle.std.proofs.Math.Path.{ap}
use Prim.Native.Nat.{ℕ}
use Rattle.lists.specs.Tests.{by_eq}
use Rattle.virtio.specs.Memory.{Memory}
use Rattle.rules.specs.Record.{Queue}
use Rattle.rules.specs.Owning.{own_new_refusal, own_new}
use Rattle.laws.specs.CallKeeps.{Good}
use Rattle.laws.specs.OwnNew.{OwnMade, new_refused, new_goes, made_owns}

module _ (q : Queue) (base size : ℕ) (m : Memory) (s : List ℕ) where
  abbrev refusal : ℕ
  refusal = own_new_refusal q base size m s

  -- THE LAW: it answers the number of its refusal, and 0 where there is none
  pub new_answers : (own_new q base size m s).answer ≡ own_new_refusal q base size m s
  new_answers =
      by_eq refusal 0
      (λ e. ap (λ r. r.answer) (new_goes q base size m s e) ∙ sym e)
      (λ d. ap (λ r. r.answer) (new_refused q base size m s d))

  -- THE LAW: from a good queue, a new that answers 0 makes a good record, with every token's buffer out and nothing held
  pub new_owns : Good q → (own_new q base size m s).answer ≡ 0 → OwnMade q base size s (own_new q base size m s)
  new_owns g e =
      let f : refusal ≡ 0 = sym new_answers ∙ e in
      subst (OwnMade q base size s) (sym (new_goes q base size m s f)) (made_owns q base size m s g f)
