-- What stores of descriptors and of the available ring's fields leave in a list of bytes: descriptors stored apart from each other are all read back, and so
-- are the ring's slot and idx, which lie behind the table.
use Rattle.std.specs.Prelude.{◌≡◌, ◌⊎◌, List}
use Rattle.std.proofs.Math.Path.{refl, ap}
use Rattle.std.proofs.Common.{sym, ◌∙◌, inl, inr, arith}
use Prim.Native.Nat.{ℕ, zero, suc, ◌+◌, ◌*◌, ◌≤◌, ◌<◌}
use Rattle.std.proofs.Math.ListN.{length}
use Rattle.lists.specs.Tests.{by_eq}
use Rattle.lists.specs.Bytes.{get_le, put_le, put_length, put_outside, get_put_same, get_put_other}
use Rattle.virtio.specs.declared.Desc.{Desc}
use Rattle.virtio.specs.Desc.{Fit, desc_at, put_desc, put_desc_length, desc_agree, desc_put_other, desc_put_same}
use Rattle.virtio.specs.Layout.{avail_at}

-- ---- a run of descriptors, each at its place

module _ (at : ℕ → ℕ) (d : ℕ → Desc) where
  -- the first k of them stored, in order
  unfoldable pub puts : ℕ → List ℕ → List ℕ
  puts zero s = s
  puts (suc k) s = put_desc (puts k s) (at k) (d k)

  pub puts_length : (k : ℕ) (s : List ℕ) → length (puts k s) ≡ length s
  unfolding puts
  puts_length zero s = refl
  puts_length (suc k) s = put_desc_length (puts k s) (at k) (d k) ∙ puts_length k s

  -- no two of the first k places share a byte
  abbrev pub Apart : ℕ → Type 0
  Apart k = (i j : ℕ) → i < j → j < k → (at i + 16 ≤ at j) ⊎ (at j + 16 ≤ at i)

  -- so each is read back
  pub puts_at : (k : ℕ) (s : List ℕ) → Apart k → ((j : ℕ) → j < k → at j + 16 ≤ length s) → ((j : ℕ) → j < k → Fit (d j)) → (j : ℕ) → j < k → desc_at (puts k s) (at j) ≡ d j
  unfolding puts
  puts_at zero s a r f j l = absurd (omega arith)
  puts_at (suc k) s a r f j l =
      by_eq j k
      (λ e. ap (λ i. desc_at (puts (suc k) s) (at i)) e
      ∙ desc_put_same (puts k s) (at k) (d k) (let n : length (puts k s) ≡ length s = puts_length k s in let b : at k + 16 ≤ length s = r k (omega arith) in omega arith) (f k (omega arith))
      ∙ ap d (sym e))
      (λ e. desc_put_other (puts k s) (at j) (at k) (d k) (a j k (omega arith) (omega arith))
      ∙ puts_at k s (λ i x u v. a i x u (omega arith)) (λ i u. r i (omega arith)) (λ i u. f i (omega arith)) j (omega arith))

-- ---- the ring's slot and idx, stored behind a table of n descriptors

module _ (n : ℕ) (s : List ℕ) (slot head idx : ℕ) where
  -- the slot stored, and then idx
  abbrev slotted : List ℕ
  slotted = put_le 2 s (avail_at n + (4 + 2 * slot)) head

  abbrev pub rings : List ℕ
  rings = put_le 2 (put_le 2 s (avail_at n + (4 + 2 * slot)) head) (avail_at n + 2) idx

  pub rings_idx : avail_at n + 4 ≤ length s → idx < 65536 → get_le 2 rings (avail_at n + 2) ≡ idx
  rings_idx r b =
      let k : length slotted ≡ length s = put_length 2 s (avail_at n + (4 + 2 * slot)) head in
      get_put_same 2 slotted (avail_at n + 2) idx (omega arith) b

  pub rings_slot : avail_at n + (6 + 2 * slot) ≤ length s → head < 65536 → get_le 2 rings (avail_at n + (4 + 2 * slot)) ≡ head
  rings_slot r b =
      get_put_other 2 2 slotted (avail_at n + (4 + 2 * slot)) (avail_at n + 2) idx (inr (omega arith))
      ∙ get_put_same 2 s (avail_at n + (4 + 2 * slot)) head (omega arith) b

  -- the table stays
  pub rings_desc : (i : ℕ) → i < n → desc_at rings (16 * i) ≡ desc_at s (16 * i)
  rings_desc i l =
      desc_agree rings s (16 * i)
      (λ j u v. put_outside 2 slotted (avail_at n + 2) idx j (inl (omega arith))
      ∙ put_outside 2 s (avail_at n + (4 + 2 * slot)) head j (inl (omega arith)))
