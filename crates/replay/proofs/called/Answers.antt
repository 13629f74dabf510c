-- `replay::called` meets its contract: put_report writes the call's five lines, with the free descriptors that free_of counts.
-- Assumes nothing.
use mathlib.Core.Path.{refl}
use borrow.Author.Rules.{rules}
use Rattle.record.specs.Asked.{answer_of}
use Rattle.replay.specs.Replay.{Play, called as called_is}
use Rattle.replay.specs.Blocks.{at_play, reported}
use Rattle.replay.specs.declared.Played.{Played}
use Rattle.replay.specs.Plays.{Plays}
use Prim.Native.Nat.{◌+◌}
use Rattle.replay.proofs.called.Goals as goal

pub returns : goal.returns
returns c =
    let a : _ = c.args in
    let to : Played = record { queue = a.r.queue; size = a.p.size; at = a.at; line = a.p.line + a.k } in
    record {
      by_index = λ before l m q h.
          at_play
          (λ (x : Play). Plays before c.report.new.self to m (called_is x a.op.now (answer_of a.r m) a.at a.k))
          h
          (λ text w. record {
            same = refl;
            wrote = reported before c.report.new.self text a.op.now (answer_of a.r m) _ _ _ c.number.ensures c.value.ensures c.free_of.ensures (c.report.ensures.wrote before text w);
          });
      size_value = search rules;
      loan = c.report.ensures.loan;
    }
