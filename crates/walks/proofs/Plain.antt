-- What a law over functions of one shape asks of a plain type, a parameter by value that holds no reference.
--     Plain        the type's row, its MIR type, how a value is spelled in the machine, and the laws of those
-- Assumes `Logic` where it has a model.
use mathlib.Core.Path.{◌≡◌}
use mathlib.Core.List.{[], ◌∷◌}
use lib.Dec.{T as Holds}
use seplogic.Ra.Ura.{Ura}
use mir.Syntax.{Ty}
use mir.Val.{Val, WT, has_ty}
use base.Fml.{ftrue}
use types.Logic.{Logic}
use denote.RattleType.{RattleType}
use denote.Laws.{Is, Tells, Makes}
use denote.Exit.{yes, Last, left}

pub record Plain : Type 2 where
  pub row : RattleType
  pub ty : Ty
  pub val : row.Denot → Val
  pub tells : Tells row (Is row) (λ x. val x ∷ [])
  pub silent : (x : row.Denot) (f : Last (row.exit yes) x) → left (row.exit yes) x f ≡ ftrue
  pub makes : {M : Type 1} {𝓤 : Ura M} (𝓛 : Logic 𝓤) → Makes 𝓛 row (Is row)
  pub typed : {M : Type 1} {𝓤 : Ura M} (𝓛 : Logic 𝓤) → (x : row.Denot) (v : Val) → Is row x (v ∷ []) → Holds (has_ty ty v) × WT v
