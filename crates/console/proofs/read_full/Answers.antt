use Rattle.std.proofs.Common.{◌≡◌, ℕ, ◌+◌, ◌-◌, ◌≤◌, List, ◌++◌, rules, length, take, drop, sym, ap, ◌∙◌, subst, le_refl, drop_at, length-take-le}
use Rattle.std.proofs.lemmas.Slice.{take-put_mid_below}
use Rattle.std.proofs.KnownBytes.{Consumes-trans}
use Rattle.std.specs.Io.KnownBytes.{Consumes}
use borrow.Rule.Slice.PartMut.{put_mid, post_of}
use lib.Seq.{take-add, take-append-le}
use Rattle.console.proofs.read_full.Goals as goal

-- the buffer's front after one more read: what stood there, and what was read
front
    : (a k n : ℕ) (xs ys : List ℕ)
    → a ≤ length xs
    → n ≤ length ys
    → take a xs ++ take n ys ≡ take (a + n) (put_mid a k xs ys)
front a k n xs ys within fits =
    let new = put_mid a k xs ys in
    let after = post_of a k xs in
    let here : drop a new ≡ ys ++ after = drop_at (take a xs) (ys ++ after) a (length-take-le a xs within) in
    let part : take n (drop a new) ≡ take n ys = ap (take n) here ∙ take-append-le n ys after fits in
    let below : take a new ≡ take a xs = take-put_mid_below a k xs ys a (le_refl a) within in
    sym (take-add a n new ∙ ap (λ l. l ++ take n (drop a new)) below ∙ ap (λ l. take a xs ++ l) part)

pub loop-done-preserved : goal.loop-done-preserved
loop-done-preserved g c =
    let l = c.loop-done in
    let n = c.in-Ok.n in
    let room = length l.buf - l.done in
    let joined = front l.done room n l.buf c.read.new.buf l.invariant.1 c.in-Ok.ensures.bound.0 in (
      search rules,
      search rules,
      search rules,
      subst (Consumes _ _) joined (Consumes-trans _ _ _ _ _ l.invariant.3 c.in-Ok.ensures.bytes.0),
    )
