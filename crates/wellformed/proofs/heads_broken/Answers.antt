-- The answer is `first` of the head tests. What `buffers_sound` asks, that lists are short, is what the first test shows.
use Rattle.std.proofs.Common.{◌≡◌, ◌∙◌, true, rules}
use Rattle.views.specs.Clauses.{heads_show}
use Rattle.heads.specs.Heads.{listed_at}
use Rattle.lists.specs.Pick.{every}
use Rattle.wellformed.specs.Groups.{last_asked}
use Rattle.wellformed.proofs.heads_broken.Goals as goal

pub buffers_sound-requires-clause-short : goal.buffers_sound-requires-clause-short
buffers_sound-requires-clause-short c =
    let f = c.args.f.now in
    let q = c.args.c in
    let e : c.list_heads.result ≡ true = search rules in
    let h : every (listed_at q.modes.indirect q.base f.n f.addr.now f.len.now f.flags.now f.noted.now) f.n 0 ≡ true = rw c.list_heads.ensures at e in
    rw c.requires.n_of (heads_show q f.addr.now f.len.now f.flags.now f.noted.now (rw c.requires.n_of at h))

pub returns : goal.returns
returns c =
    let e : c.list_heads.result ≡ true = search rules in
    rw (← c.requires.n_of, ← c.list_heads.ensures, e, ← c.buffers_sound.ensures) (c.ask-2.ensures ∙ last_asked 8 c.buffers_sound.result)
