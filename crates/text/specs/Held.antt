-- The buffers that were read, as they stand in the lent list.
use Rattle.std.specs.Prelude.{◌≡◌, List, ℕ, ◌≤◌, take, Option, Some, is_some}
use Rattle.virtio.specs.declared.Buffer.{Buffer}
use Rattle.text.specs.declared.Side.{Side}
use Rattle.text.specs.Text.{Listed}

-- the first k of the list are these buffers
abbrev pub Holds : ℕ → List Buffer → List Buffer → Type 0
Holds k list bs = take k list ≡ bs

-- a side's line came to this
pub record Lists (r : Option Side) (list : List Buffer) (l : Listed) : Type 0 where
  pub good : is_some r ≡ l.good
  pub small : (x : Side) → r ≡ Some x → x.count ≤ 130
  pub place : (x : Side) → r ≡ Some x → x.at ≡ l.at
  pub holds : (x : Side) → r ≡ Some x → Holds x.count list l.buffers
