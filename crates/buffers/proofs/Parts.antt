-- What the two laws of walks over a list of buffers share (`Entry`, `Lender`): the references' types, the plain ones, and how a walk ends.
-- Assumes `Logic`.
use mathlib.Core.Path.{refl}
use mathlib.Core.List.{List, [], ◌∷◌}
use Prim.Native.Nat.{ℕ}
use lib.Dec.{T as Holds}
use lib.ListN.{length}
use seplogic.Ra.Ura.{Ura}
use mir.Syntax.{named}
use mir.Val.{Val, WT, has_ty}
use base.Fml.{Lft, Fml, ftrue, fsep, fbor}
use types.Logic.{Logic}
use types.SemTy.{Body, Arr}
use types.Hole.{Holey}
use types.Kit.{Item, Goal, Step, step, ‵, ◌$◌, move, fjoin}
use denote.Laws.{Is}
use denote.Builtin.{u8}
use denote.RattleType.{RattleType}
use denote.Memory.{mem}
use denote.Ref.{Bor, MutBor}
use denote.Slice.{slice_val, finally, ShrSlice, MutSlice}
use denote.Steps.{nothing}
use denote.Struct.Laws as LL
use Rattle.walks.proofs.Plain.{Plain}
use Rattle.virtio.specs.declared.Buffer.{Buffer}
use Rattle.record.specs.declared.Answer.{Answer}
use Rattle.virtio.specs.contracts.Buffer as E
use Rattle.record.specs.contracts.Queue as Q
use Rattle.record.proofs.Queue.TheLaws as Q'
use Rattle.record.specs.contracts.Answer as R
use Rattle.record.proofs.Answer.TheLaws as R'
use Rattle.buffers.specs.contracts.Outstanding as O
use Rattle.buffers.proofs.Outstanding.TheLaws as O'

-- a slice reference's machine value
abbrev pub shr_val : {X : Type 0} → Bor (List X) → Val
shr_val s = slice_val s.ref_ptr (length s.now)

abbrev pub mut_val : {X : Type 0} → MutBor (List X) → Val
mut_val s = slice_val s.ref_ptr (length s.now)

-- ---- the references' types, by their numbers in a signature: the list, a region lent for reading, and one lent for writing

abbrev pub Listing : Lft → RattleType
Listing κ = ShrSlice (named 0) κ E.the_row

abbrev pub Reading : ℕ → Lft → RattleType
Reading j κ = ShrSlice (named j) κ u8

abbrev pub Writing : ℕ → Lft → RattleType
Writing j κ = MutSlice (named j) κ u8

-- what they own
abbrev pub own_list : Lft → Bor (List Buffer) → Fml
own_list κ s = (Listing κ).own_val s (shr_val s ∷ [])

abbrev pub own_read : ℕ → Lft → Bor (List ℕ) → Fml
own_read j κ s = (Reading j κ).own_val s (shr_val s ∷ [])

abbrev pub own_write : ℕ → Lft → MutBor (List ℕ) → Fml
own_write j κ s = (Writing j κ).own_val s (mut_val s ∷ [])

-- what is left of one lent for writing, which last holds ys: that it does, and the borrow
abbrev pub gave_write : Lft → MutBor (List ℕ) → List ℕ → Fml
gave_write κ s ys = fsep (finally u8 s.ghost_name ys) (fbor κ (Body (Arr (Holey (mem u8)) (length s.now)) s.ref_ptr.0 s.ref_ptr.1 s.ghost_name))

-- ---- plain types

pub answer_typed : {M : Type 1} {𝓤 : Ura M} (𝓛 : Logic 𝓤) → (r : Answer) (v : Val) → Is R.the_row r (v ∷ []) → Holds (has_ty R'.mir v) × WT v
answer_typed 𝓛 r v is = ((LL.lawful R.the_type R'.the_laws 𝓛).typed r _ is).0

-- what a call is made of, besides the list and the memory: the queue, and for a pop the token with it
abbrev pub queue : Plain
queue = record {
  row = Q.the_row;
  ty = Q'.mir;
  val = LL.val Q.the_type Q'.the_laws;
  tells = LL.tells Q.the_type Q'.the_laws;
  silent = λ x f. refl;
  makes = λ 𝓛. LL.makes Q.the_type Q'.the_plain 𝓛;
  typed = λ 𝓛 x v is. ((LL.lawful Q.the_type Q'.the_laws 𝓛).typed x _ is).0;
}

abbrev pub outstanding : Plain
outstanding = record {
  row = O.the_row;
  ty = O'.mir;
  val = LL.val O.the_type O'.the_laws;
  tells = LL.tells O.the_type O'.the_laws;
  silent = λ x f. refl;
  makes = λ 𝓛. LL.makes O.the_type O'.the_plain 𝓛;
  typed = λ 𝓛 x v is. ((LL.lawful O.the_type O'.the_laws 𝓛).typed x _ is).0;
}

-- at the end nothing is had of the five parameters but what says the last values P and Q of region one and the pool
module _ {M : Type 1} {𝓤 : Ura M} {𝓛 : Logic 𝓤} {K : Type 0} {Γ : List (Item 𝓤)} {G : Goal 𝓤 𝓛.H} where
  pub only_lasts : K → {P Q : Fml} → Step K 𝓛 (‵ (fsep ftrue (fsep ftrue (fsep P (fsep ftrue (fsep Q ftrue))))) ∷ Γ) G (‵ P ∷ ‵ Q ∷ Γ) G
  only_lasts t = step (λ s. nothing t $ move t (2 ∷ 0 ∷ []) $ fjoin t $ nothing t $ fjoin t $ move t (1 ∷ 0 ∷ []) $ fjoin t $ nothing t $ fjoin t $ nothing t $ fjoin t $ s)
