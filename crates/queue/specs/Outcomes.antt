-- The rules' outcome of a step, and what a call that was opened has.
use Rattle.std.specs.Prelude.{◌≡◌, List, ℕ}
use Rattle.virtio.specs.Memory.{Memory}
use Rattle.rules.specs.Record.{Tables}
use Rattle.rules.specs.Refused.{result_number, result_value}
use Rattle.rules.specs.Answer.{Outcome}
use Rattle.views.specs.Tables.{queue_of}
use Rattle.tables.specs.declared.TablesMut.{TablesMut}
use Rattle.tables.specs.Ready.{ReadyHeld, Fitting}
use Rattle.react.specs.declared.Reacted.{Reacted}
use Rattle.asks.specs.declared.Done.{Done}

abbrev pub stepped_of : Reacted → Tables → Memory → Outcome
stepped_of r t m =
    record { answer = result_number r.outcome; value = result_value r.outcome; steps = 1; queue = queue_of r.core t; memory = m }

-- a call that was opened can go on: its record is checked, and the regions do
pub record Going (o : Done) (t : TablesMut) (one two pool : List ℕ) : Type 0 where
  pub ready : result_number o.outcome ≡ 0 → ReadyHeld o.core t
  pub fitting : result_number o.outcome ≡ 0 → Fitting o.core one two pool
  pub opened : result_number o.outcome ≡ 0 → (result_value o.outcome ≡ 0) × (o.steps ≡ 0)
