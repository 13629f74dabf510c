-- The rules' outcome of what the code answers.
use Rattle.virtio.specs.Memory.{Memory}
use Rattle.rules.specs.Record.{Tables}
use Rattle.rules.specs.Refused.{result_number, result_value}
use Rattle.rules.specs.Answer.{Outcome}
use Rattle.views.specs.Tables.{queue_of}
use Rattle.asks.specs.declared.Done.{Done}

abbrev pub done_of : Done → Tables → Memory → Outcome
done_of r t m =
    record { answer = result_number r.outcome; value = result_value r.outcome; steps = r.steps; queue = queue_of r.core t; memory = m }
