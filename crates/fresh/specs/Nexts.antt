-- What descriptor i of n links to where all are free, and laws of what the loops leave to do.
use Rattle.std.specs.Prelude.{◌≡◌, cond, List, [], ◌∷◌, map, ℕ, zero, suc, ◌+◌, ◌-◌, ◌*◌, ◌<◌, ltb, set}
use Rattle.std.proofs.Common.{ap, ap₂, ◌∙◌, arith, lt-ltb, le-ltb}
use Rattle.std.proofs.lemmas.List.Edits.{sets}
use Rattle.virtio.specs.Desc.{put_desc}
use Rattle.rules.specs.New.{cleared, nexts_from, linking, put_descs}

abbrev pub lastly : ℕ → ℕ → ℕ
lastly i n = cond (ltb (i + 1) n) (i + 1) 0

-- one turn of each loop, and its end

pub clear_next : (s : List ℕ) (a k : ℕ) → 0 < k → cleared s a k ≡ cleared (set s a 0) (a + 1) (k - 1)
clear_next s a zero h = absurd (omega arith)
clear_next s a (suc k) h =
    let e : suc a ≡ a + 1 = omega arith in
    let f : k ≡ suc k - 1 = omega arith in
    ap₂ (λ b m. cleared (set s a 0) b m) e f

pub clear_none : (s : List ℕ) (a k : ℕ) → k ≡ 0 → cleared s a k ≡ s
clear_none s a k e = rw e

nexts_step : (n i : ℕ) → i < n → nexts_from (n - i) i ≡ lastly i n ∷ nexts_from (n - (i + 1)) (i + 1)
unfolding nexts_from
nexts_step n i h = go (n - (i + 1)) (omega arith)
  where
    go : (k : ℕ) → n ≡ i + 1 + k → nexts_from (n - i) i ≡ lastly i n ∷ nexts_from (n - (i + 1)) (i + 1)
    go zero e =
        let a : n - i ≡ 1 = omega arith in
        let b : n - (i + 1) ≡ 0 = omega arith in
        rw (a, b, le-ltb (i + 1) n (omega arith))
    go (suc k) e =
        let a : n - i ≡ suc (suc k) = omega arith in
        let b : n - (i + 1) ≡ suc k = omega arith in
        let c : i + 1 ≡ suc i = omega arith in
        rw (a, b, lt-ltb (i + 1) n (omega arith), c)

nexts_over : (n i : ℕ) → n - i ≡ 0 → nexts_from (n - i) i ≡ []
unfolding nexts_from
nexts_over n i e = rw e

pub link_next : (s : List ℕ) (n i : ℕ) → i < n
    → put_descs s (16 * i) (map linking (nexts_from (n - i) i)) ≡ put_descs (put_desc s (16 * i) (linking (lastly i n))) (16 * (i + 1)) (map linking (nexts_from (n - (i + 1)) (i + 1)))
unfolding put_descs
link_next s n i h =
    let e : 16 * i + 16 ≡ 16 * (i + 1) = omega arith in
    ap (λ xs. put_descs s (16 * i) (map linking xs)) (nexts_step n i h)
    ∙ ap (λ a. put_descs (put_desc s (16 * i) (linking (lastly i n))) a (map linking (nexts_from (n - (i + 1)) (i + 1)))) e

pub link_none : (s : List ℕ) (n i : ℕ) → n - i ≡ 0 → put_descs s (16 * i) (map linking (nexts_from (n - i) i)) ≡ s
unfolding put_descs
link_none s n i e = rw (nexts_over n i e)

pub set_next : (s : List ℕ) (n i : ℕ) → i < n → sets s i (nexts_from (n - i) i) ≡ sets (set s i (lastly i n)) (i + 1) (nexts_from (n - (i + 1)) (i + 1))
set_next s n i h =
    let e : suc i ≡ i + 1 = omega arith in
    ap (λ xs. sets s i xs) (nexts_step n i h)
    ∙ ap (λ a. sets (set s i (lastly i n)) a (nexts_from (n - (i + 1)) (i + 1))) e

pub set_none : (s : List ℕ) (n i : ℕ) → n - i ≡ 0 → sets s i (nexts_from (n - i) i) ≡ s
set_none s n i e = rw (nexts_over n i e)
