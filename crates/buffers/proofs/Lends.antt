-- A local array of buffers is lent as a `&[Buffer]` for a lifetime that is made for a call, and is room again once the lifetime is over.
--     lends        the local's cell, at xs: then the lifetime's token, what a slice of xs owns, and the lender's part
--     taken_back   the token and the lender's part: then room for the local
-- Assumes `Logic`.
use mathlib.Core.Path.{◌≡◌, refl, sym}
use Prim.Native.Nat.{ℕ}
use mathlib.Core.List.{List, [], ◌∷◌}
use lib.ListN.{length}
use seplogic.Ra.Ura.{Ura}
use base.Fraction.{full_share}
use mir.Syntax.{named, ty_array}
use mir.Val.{Val}
use base.Logic.{id⊢}
use base.Fml.{Fml, Incl-refl, fat, froom, fsep, flft, flent}
use types.Logic.{Logic, lfts}
use types.Kit.{Item, Goal, Soaks, Seq, Step, step, ‵, raw, ◌⊛◌, later, ◌$◌, move, use1, use2, split, rewrite, fsplit, fjoin, fpick, fpack, await}
use types.Run.{forget}
use types.Share.{arr_parts}
use types.Tokens.{lft_new, lft_end, lent_back}
use denote.Laws.{Is, shows}
use denote.Memory.{cell_at, part_at, shares, part_of}
use denote.Array.{Array, Array-Tells, Array-Makes}
use denote.ArrayMemory.{Array-apart, Array-whole}
use denote.Lend.{lends_shr_slice}
use denote.Ref.{Bor}
use denote.Slice.{slice_val, ShrSlice, Room}
use denote.Steps.{owned, facts}
use denote.Struct.Laws as LL
use Rattle.virtio.specs.declared.Buffer.{Buffer}
use Rattle.virtio.specs.contracts.Buffer as E
use Rattle.virtio.proofs.Buffer.TheLaws as E'

-- the slice at l, and the lender's part
abbrev pub slice_at : ℕ → List Buffer → Bor (List Buffer)
slice_at l xs = record { ref_ptr = (l, 0); now = xs }

abbrev pub KeptAt : ℕ → List Buffer → Fml
KeptAt l xs = (arr_parts (shares E.the_row) (length xs)).part full_share xs l 0

module _ {M : Type 1} {𝓤 : Ura M} {𝓛 : Logic 𝓤} {K : Type 0} {Γ : List (Item 𝓤)} {G : Goal 𝓤 𝓛.H} where
  pub lends : K → Soaks G → (n : ℕ) (xs : List Buffer) (v : Val) (l : ℕ) → Is (Array E.the_row n) xs (v ∷ []) → length xs ≡ n → Room E.the_row (length xs)
      → ((α : ℕ) → Seq K 𝓛 (‵ (flft (α ∷ []) full_share) ∷ ‵ ((ShrSlice (named 0) (α ∷ []) E.the_row).own_val (slice_at l xs) (slice_val (l, 0) (length xs) ∷ [])) ∷ ‵ (flent (α ∷ []) (KeptAt l xs)) ∷ Γ) G)
      → Seq K 𝓛 (‵ (fat full_share (ty_array E'.mir n) l 0 v) ∷ Γ) G
  unfolding part_of
  lends t z n xs v l is e room k =
      use1 𝓛 (‵ (cell_at full_share (Array E.the_row n).mir (v ∷ []) l 0)) (𝓛.laws.at_raw full_share (ty_array E'.mir n) l 0 v) $
      owned t (Array E.the_row n) (Is (Array E.the_row n)) (Array-Makes 𝓛 E.the_row (LL.makes E.the_type E'.the_plain 𝓛) n) xs (v ∷ []) is $ move t (1 ∷ 0 ∷ []) $ fjoin t $
      fpack t (List Val) (λ vs. fsep (cell_at full_share (Array E.the_row n).mir vs l 0) ((Array E.the_row n).own_val xs vs)) (v ∷ []) $
      use1 𝓛 (‵ ((arr_parts (shares E.the_row) n).part full_share xs l 0)) (Array-apart 𝓛 E.the_row full_share tt n xs l 0) $
      rewrite t 0 (λ (m : ℕ). ‵ ((arr_parts (shares E.the_row) m).part full_share xs l 0)) (sym e) refl $
      lft_new t z (λ α. move t (1 ∷ 0 ∷ []) $
      use2 𝓛 (later ((‵ ((ShrSlice (named 0) (α ∷ []) E.the_row).own_val (slice_at l xs) (slice_val (l, 0) (length xs) ∷ [])) ⊛ ‵ (flent (α ∷ []) (KeptAt l xs))) ⊛ raw (lfts 𝓛 ((α ∷ [], full_share) ∷ []))))
      (lends_shr_slice 𝓛 E.the_row (named 0) (α ∷ []) full_share xs l 0 room (α ∷ []) ((E'.the_row_copy.copied M 𝓤 𝓛).shares full_share (α ∷ [])) ((α ∷ [], full_share) ∷ []) (Incl-refl (α ∷ [])) (Incl-refl (α ∷ []))) $
      await t z $ split t $ split t $ move t (2 ∷ []) $ use1 𝓛 (‵ (flft (α ∷ []) full_share)) (id⊢ 𝓤 _) $ k α)

  pub taken_back : K → Soaks G → (n : ℕ) (xs : List Buffer) (l α : ℕ) → length xs ≡ n → Step K 𝓛 (‵ (froom (ty_array E'.mir n) l 0) ∷ Γ) G (‵ (flft (α ∷ []) full_share) ∷ ‵ (flent (α ∷ []) (KeptAt l xs)) ∷ Γ) G
  unfolding part_of
  taken_back t z n xs l α e = step (λ s. lft_end t z $ lent_back t z $
      rewrite t 0 (λ (m : ℕ). ‵ ((arr_parts (shares E.the_row) m).part full_share xs l 0)) e refl $ use1 𝓛 (‵ (part_at (Array E.the_row n) full_share xs l 0)) (Array-whole 𝓛 E.the_row full_share n xs l 0) $
      fpick t (λ vs. fsplit t $ move t (1 ∷ []) $ facts t (Array E.the_row n) (Is (Array E.the_row n)) (shows 𝓛 (Array E.the_row n)) xs vs (λ is.
      rewrite t 0 (λ (us : List Val). ‵ (cell_at full_share (Array E.the_row n).mir us l 0)) (Array-Tells E.the_row (LL.vals E.the_type E'.the_laws) (LL.tells E.the_type E'.the_laws) n xs vs is) refl $
      use1 𝓛 (‵ (fat full_share (ty_array E'.mir n) l 0 _)) (𝓛.laws.raw_at full_share (ty_array E'.mir n) l 0 _) $ forget t 0 refl $ s)))
