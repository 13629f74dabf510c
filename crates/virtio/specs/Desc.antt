-- A descriptor (VIRTIO 1.1, 2.6.5): its flags, its 16 bytes in a table (address 8, length 4, flags 2, next 2), the laws of a load
-- after a store, and the buffer that it speaks of.
use Rattle.std.specs.Prelude.{◌≡◌, ◌⊎◌, Bool, false, cond, List, ℕ, ◌+◌, ◌/◌, ◌%◌, ◌^◌, ◌≤◌, ◌<◌, eqb, length, get_or}
use Rattle.std.proofs.Common.{◌∙◌, inl, inr, arith}
use Rattle.lists.specs.Bytes.{get_le, put_le, put_length, put_outside, get_agree, get_put_same, get_put_other}
use Rattle.virtio.specs.declared.Desc.{Desc}
use Rattle.virtio.specs.declared.Buffer.{Buffer}

abbrev pub no_desc : Desc
no_desc = record { addr = 0; len = 0; flags = 0; next = 0 }

abbrev pub no_buffer : Buffer
no_buffer = record { addr = 0; len = 0; output = false }

-- The flags: NEXT 1, the chain goes on; WRITE 2, the device writes the buffer; INDIRECT 4, the buffer is a table of descriptors.
abbrev pub has_next : Desc → Bool
has_next d = eqb (d.flags % 2) 1

abbrev pub has_write : Desc → Bool
has_write d = eqb (d.flags / 2 % 2) 1

abbrev pub has_indirect : Desc → Bool
has_indirect d = eqb (d.flags / 4 % 2) 1

-- the flags word with NEXT, WRITE and INDIRECT as told
abbrev pub flags_of : Bool → Bool → Bool → ℕ
flags_of next write indirect = cond next 1 0 + cond write 2 0 + cond indirect 4 0

-- the buffer that a descriptor speaks of
abbrev pub buffer_of : Desc → Buffer
buffer_of d = record { addr = d.addr; len = d.len; output = has_write d }

-- the fields fit their widths
pub record Fit (d : Desc) : Type 0 where
  pub addr : d.addr < 2 ^ 64
  pub len : d.len < 2 ^ 32
  pub flags : d.flags < 2 ^ 16
  pub next : d.next < 2 ^ 16

-- the descriptor in the 16 bytes of s from a on
unfoldable pub desc_at : List ℕ → ℕ → Desc
desc_at s a =
    record { addr = get_le 8 s a; len = get_le 4 s (a + 8); flags = get_le 2 s (a + 12); next = get_le 2 s (a + 14) }

-- s with d stored in the 16 bytes from a on
unfoldable pub put_desc : List ℕ → ℕ → Desc → List ℕ
put_desc s a d =
    put_le 2 (put_le 2 (put_le 4 (put_le 8 s a d.addr) (a + 8) d.len) (a + 12) d.flags) (a + 14) d.next

pub put_desc_length : (s : List ℕ) (a : ℕ) (d : Desc) → length (put_desc s a d) ≡ length s
unfolding put_desc
put_desc_length s a d = simp put_length

pub put_desc_outside : (s : List ℕ) (a : ℕ) (d : Desc) (i : ℕ) → (i < a) ⊎ (a + 16 ≤ i) → get_or (put_desc s a d) i 0 ≡ get_or s i 0
unfolding put_desc
put_desc_outside s a d i (inl h) =
    let s₁ = put_le 8 s a d.addr in
    let s₂ = put_le 4 s₁ (a + 8) d.len in
    let s₃ = put_le 2 s₂ (a + 12) d.flags in
    put_outside 2 s₃ (a + 14) d.next i (inl (omega arith))
    ∙ put_outside 2 s₂ (a + 12) d.flags i (inl (omega arith))
    ∙ put_outside 4 s₁ (a + 8) d.len i (inl (omega arith))
    ∙ put_outside 8 s a d.addr i (inl (omega arith))
put_desc_outside s a d i (inr h) =
    let s₁ = put_le 8 s a d.addr in
    let s₂ = put_le 4 s₁ (a + 8) d.len in
    let s₃ = put_le 2 s₂ (a + 12) d.flags in
    put_outside 2 s₃ (a + 14) d.next i (inr (omega arith))
    ∙ put_outside 2 s₂ (a + 12) d.flags i (inr (omega arith))
    ∙ put_outside 4 s₁ (a + 8) d.len i (inr (omega arith))
    ∙ put_outside 8 s a d.addr i (inr (omega arith))

-- two tables that agree on 16 bytes have one descriptor there
pub desc_agree : (s t : List ℕ) (a : ℕ) → ((i : ℕ) → a ≤ i → i < a + 16 → get_or s i 0 ≡ get_or t i 0) → desc_at s a ≡ desc_at t a
unfolding desc_at
desc_agree s t a h =
    let e₁ = get_agree 8 s t a (λ i l u. h i (omega arith) (omega arith)) in
    let e₂ = get_agree 4 s t (a + 8) (λ i l u. h i (omega arith) (omega arith)) in
    let e₃ = get_agree 2 s t (a + 12) (λ i l u. h i (omega arith) (omega arith)) in
    let e₄ = get_agree 2 s t (a + 14) (λ i l u. h i (omega arith) (omega arith)) in
    cc

pub desc_put_other : (s : List ℕ) (a b : ℕ) (d : Desc) → (a + 16 ≤ b) ⊎ (b + 16 ≤ a) → desc_at (put_desc s b d) a ≡ desc_at s a
desc_put_other s a b d (inl h) =
    desc_agree (put_desc s b d) s a (λ i l u. put_desc_outside s b d i (inl (omega arith)))
desc_put_other s a b d (inr h) =
    desc_agree (put_desc s b d) s a (λ i l u. put_desc_outside s b d i (inr (omega arith)))

pub desc_put_same : (s : List ℕ) (a : ℕ) (d : Desc) → a + 16 ≤ length s → Fit d → desc_at (put_desc s a d) a ≡ d
unfolding desc_at put_desc
desc_put_same s a d h f =
    let s₁ = put_le 8 s a d.addr in
    let s₂ = put_le 4 s₁ (a + 8) d.len in
    let s₃ = put_le 2 s₂ (a + 12) d.flags in
    let n₁ = put_length 8 s a d.addr in
    let n₂ = put_length 4 s₁ (a + 8) d.len in
    let n₃ = put_length 2 s₂ (a + 12) d.flags in
    let e₁ =
    get_put_other 8 2 s₃ a (a + 14) d.next (inl (omega arith))
    ∙ get_put_other 8 2 s₂ a (a + 12) d.flags (inl (omega arith))
    ∙ get_put_other 8 4 s₁ a (a + 8) d.len (inl (omega arith))
    ∙ get_put_same 8 s a d.addr (omega arith) f.addr in
    let e₂ =
    get_put_other 4 2 s₃ (a + 8) (a + 14) d.next (inl (omega arith))
    ∙ get_put_other 4 2 s₂ (a + 8) (a + 12) d.flags (inl (omega arith))
    ∙ get_put_same 4 s₁ (a + 8) d.len (omega arith) f.len in
    let e₃ =
    get_put_other 2 2 s₃ (a + 12) (a + 14) d.next (inl (omega arith))
    ∙ get_put_same 2 s₂ (a + 12) d.flags (omega arith) f.flags in
    let e₄ = get_put_same 2 s₃ (a + 14) d.next (omega arith) f.next in
    λ i. record { addr = e₁ i; len = e₂ i; flags = e₃ i; next = e₄ i }
