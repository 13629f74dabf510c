-- `put_text` meets its contract: after so many turns so many bytes of the text are written.
use mathlib.Core.Path.{◌≡◌, refl, ◌∙◌}
use mathlib.Core.List.{List, [], ◌∷◌, ◌++◌, append-nil, append_assoc}
use Prim.Native.Nat.{ℕ, ◌+◌}
use native.Mathlib.Numerals.{add-one}
use native.Mathlib.Omega.{arith}
use lib.ListN.{take, get_or}
use lib.Seq.{take_all, take-suc}
use Rattle.print.proofs.put_text.Goals as goal

pub loop-byte-init : goal.loop-byte-init
loop-byte-init c = record { kept = refl; wrote = λ before said w. rw append-nil w }

pub loop-byte-preserved : goal.loop-byte-preserved
loop-byte-preserved c =
    let i : ℕ = c.loop-byte.byte-index in
    let text : List ℕ = c.args.text.now in
    let more : take (i + 1) text ≡ take i text ++ (get_or text i 0 ∷ []) = rw add-one (take-suc text i 0 (omega arith)) in
    record {
      kept = c.put-end.auto.out ∙ c.loop-byte.invariant.kept;
      wrote = λ before said w.
          rw (more, ← append_assoc said (take i text) (get_or text i 0 ∷ []))
          (c.put-end.ensures before (said ++ take i text) (c.loop-byte.invariant.wrote before said w));
    }

pub returns : goal.returns
returns c =
    let text : List ℕ = c.args.text.now in
    let all : take c.loop-byte.byte-index text ≡ text = take_all c.loop-byte.byte-index text (omega arith) in
    λ before said w. rw all at (c.loop-byte.invariant.wrote before said w)
