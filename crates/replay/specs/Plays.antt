-- How the code's struct says a replay under way, which goes on, and what a block came to.
use Rattle.std.specs.Prelude.{◌≡◌, true, false, List, ℕ, ◌+◌, ◌≤◌, length, Result, MatchResult, IfOk, IfErr}
use Rattle.virtio.specs.Layout.{need_two}
use Rattle.virtio.specs.Memory.{Memory}
use Rattle.record.specs.Abs.{abs}
use Rattle.replay.specs.declared.Played.{Played}
use Rattle.print.specs.Page.{Has}
use Rattle.print.specs.declared.Page.{Page}
use Rattle.replay.specs.Replay.{Play, wrong}

abbrev pub play_of : Played → Memory → List ℕ → Play
play_of p m said = record {
  queue = abs p.queue;
  memory = m;
  size = p.size;
  at = p.at;
  line = p.line;
  said = said;
  going = true;
}

-- the struct and the lent bytes stand where the replay q does; the text was printed to what was `before`
pub record Plays (before : List ℕ) (page : Page) (p : Played) (m : Memory) (q : Play) : Type 0 where
  pub same : play_of p m q.said ≡ q
  pub wrote : Has before page q.said

-- the size is one that new takes, and region two has the used ring
abbrev pub Sized : Played → List ℕ → Type 0
Sized p two = (1 ≤ p.size) × (p.size ≤ 64) × (length two ≡ need_two false p.size)

-- A block leads to `next`: the struct stands there, or where it stood, and so many lines on is the wrong one.
abbrev pub LeadsTo : (before : List ℕ) → Page → Played → Memory → Play → Result Played ℕ → Play → Type 0
LeadsTo before page p m q r next = MatchResult r (λ x. Plays before page x m next) (λ k. Plays before page p m q × (next ≡ wrong q k))

-- the size stays, and no block has more lines than four
abbrev pub Short : Played → Result Played ℕ → Type 0
Short p r = IfOk r (λ x. (x.size ≡ p.size) × (x.line ≤ p.line + 4)) × IfErr r (λ k. k ≤ 3)
