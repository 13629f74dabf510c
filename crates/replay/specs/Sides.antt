-- The two lists of an add or a pop: the inputs' line and the outputs' line after it, as the code reads them.
use Rattle.std.specs.Prelude.{◌≡◌, refl, true, false, cond, List, [], ℕ, ◌+◌, ◌≤◌, take, Option, Some, None, is_some, Result, Ok, Err, IfOk, IfErr}
use Rattle.std.proofs.Common.{sym, ap, ◌∙◌, arith}
use Rattle.std.specs.Option.{ok_or}
use borrow.Author.Rules.{rules}
use Rattle.virtio.specs.declared.Buffer.{Buffer}
use Rattle.text.specs.declared.Side.{Side}
use Rattle.text.specs.Text.{Listed, side}
use Rattle.text.specs.Held.{Holds, Lists}
use Rattle.replay.specs.Words.{word_in, word_out}
use Rattle.replay.specs.Replay.{Play, wrong}

abbrev pub both_then : (bad-in bad-out : Play) → (List Buffer → ℕ → Play) → Listed → Listed → Play
both_then bad-in bad-out good x y = cond x.good (cond y.good (good y.buffers y.at) bad-out) bad-in

module _ (s : List ℕ) (at : ℕ) where
  abbrev pub inputs : Listed
  inputs = side word_in false s at []

  abbrev pub outputs : ℕ → Listed
  outputs from = side word_out true s from inputs.buffers

  abbrev pub both : (bad-in bad-out : Play) → (List Buffer → ℕ → Play) → Play
  both bad-in bad-out good = both_then bad-in bad-out good inputs (outputs inputs.at)

  module _ (bad-in bad-out : Play) (good : List Buffer → ℕ → Play) (i : Option Side) {a : List Buffer} (ins : Lists i a inputs) where
    pub both_no_in : i ≡ None → both bad-in bad-out good ≡ bad-in
    both_no_in e =
        ap
        (λ t. cond t (cond (outputs inputs.at).good (good (outputs inputs.at).buffers (outputs inputs.at).at) bad-out) bad-in)
        (sym ins.good ∙ ap is_some e)

    module _ (f : Side) (o : Option Side) {x : List Buffer} (fine : i ≡ Some f) (outs : Lists o x (outputs f.at)) where
      both_out : both bad-in bad-out good ≡ both_then bad-in bad-out good inputs (outputs f.at)
      both_out = ap (λ from. both_then bad-in bad-out good inputs (outputs from)) (sym (ins.place f fine))

      in_good : both_then bad-in bad-out good inputs (outputs f.at)
          ≡ cond (outputs f.at).good (good (outputs f.at).buffers (outputs f.at).at) bad-out
      in_good =
          ap
          (λ t. cond t (cond (outputs f.at).good (good (outputs f.at).buffers (outputs f.at).at) bad-out) bad-in)
          (sym ins.good ∙ ap is_some fine)

      pub both_no_out : o ≡ None → both bad-in bad-out good ≡ bad-out
      both_no_out e =
          both_out
          ∙ in_good
          ∙ ap (λ t. cond t (good (outputs f.at).buffers (outputs f.at).at) bad-out) (sym outs.good ∙ ap is_some e)

      pub both_good : (l : Side) → o ≡ Some l
          → both bad-in bad-out good ≡ good (take l.count x) l.at
      both_good l e =
          both_out
          ∙ in_good
          ∙ ap (λ t. cond t (good (outputs f.at).buffers (outputs f.at).at) bad-out) (sym outs.good ∙ ap is_some e)
          ∙ ap (λ bs. good bs (outputs f.at).at) (sym (outs.holds l e))
          ∙ ap (good (take l.count x)) (sym (outs.place l e))

-- ---- as the code answers them

-- what a block comes to whose lists the code read: lists that are good, or which of their two lines is wrong
abbrev pub told_as : Result Side ℕ → List Buffer → (ℕ → Play) → (List Buffer → ℕ → Play) → Play
told_as (Ok x) list bad good = good (take x.count list) x.at
told_as (Err k) list bad good = bad k

-- the first k lines of the block stand before the two lists
pub record BothRead (r : Result Side ℕ) (list : List Buffer) (s : List ℕ) (at : ℕ) : Type 0 where
  pub few : IfErr r (λ k. k ≤ 2)
  pub small : IfOk r (λ x. x.count ≤ 130)
  pub says
      : (k : ℕ) (p : Play) (good : List Buffer → ℕ → Play)
      → both s at (wrong p (k + 1)) (wrong p (k + 2)) good ≡ told_as r list (λ j. wrong p (k + j)) good

module _ (r : Result Side ℕ) (list : List Buffer) (bad : ℕ → Play) (good : List Buffer → ℕ → Play) where
  pub as_bad : (k : ℕ) → r ≡ Err k → told_as r list bad good ≡ bad k
  as_bad k e = ap (λ q. told_as q list bad good) e

  pub as_good : (x : Side) → r ≡ Ok x → told_as r list bad good ≡ good (take x.count list) x.at
  as_good x e = ap (λ q. told_as q list bad good) e

-- the inputs' line was good: the outputs' line is, or it is the second that is wrong
pub both_read
    : {s : List ℕ} {at : ℕ} {i : Option Side} {a : List Buffer} (ins : Lists i a (inputs s at)) (f : Side) (fine : i ≡ Some f)
    (o : Option Side) {list : List Buffer} (outs : Lists o list (outputs s at f.at))
    → BothRead (ok_or o 2) list s at
both_read {s = s} {at = at} {i = i} ins f fine None outs =
    record {
      few = omega arith;
      small = search rules;
      says = λ k p good. both_no_out s at (wrong p (k + 1)) (wrong p (k + 2)) good i ins f None fine outs refl;
    }
both_read {s = s} {at = at} {i = i} ins f fine (Some l) outs =
    record {
      few = search rules;
      small = outs.small l refl;
      says = λ k p good. both_good s at (wrong p (k + 1)) (wrong p (k + 2)) good i ins f (Some l) fine outs l refl;
    }

-- none were read before the inputs
pub holds_none_lem : (list : List Buffer) → Holds 0 list []
holds_none_lem list = λ i. []
