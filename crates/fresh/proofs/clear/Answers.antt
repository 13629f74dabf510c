-- `fresh::clear` meets its contract: a part filled with 0 is what as many stores of 0 leave.
use Rattle.std.proofs.Common.{◌≡◌, List, ℕ, ◌+◌, ◌-◌, ◌≤◌, length, replicate, take, drop, ap, ◌∙◌, arith}
use Rattle.std.proofs.lemmas.List.{length-replicate, length-take-le, length-drop, drop-drop, append_assoc}
use Rattle.std.proofs.lemmas.List.Edits.{sets-eq}
use Rattle.fresh.proofs.clear.Goals as goal

pub returns : goal.returns
returns c =
    let s : List ℕ = c.args.s.now in
    let from : ℕ = c.args.from in
    let count : ℕ = c.args.count in
    let size : from + count - from ≡ count = omega arith in
    let zeros : List ℕ = replicate count 0 in
    let long : length zeros ≡ count = length-replicate count 0 in
    let room : count ≤ length (drop from s) = omega (arith, length-drop from s) in
    let part : length (take (from + count - from) (drop from s)) ≡ count = rw size (length-take-le count (drop from s) room) in
    let filled : c.fill.new.self ≡ zeros = c.fill.ensures.after (λ y e. e) ∙ ap (λ k. replicate k 0) part in
    let stored = sets-eq zeros s from (omega (arith, long)) in
    rw (size, filled, stored, long, drop-drop, append_assoc)
