-- The answer is the first broken clause of the record, by groups: the first group of which one is broken tells it, and what the groups before it show is what
-- the next one's function asks. The tables by field are the sections of the tables.
use Rattle.std.proofs.Common.{◌≡◌, sym, ◌∙◌, rules}
use Rattle.std.proofs.lemmas.Result.{err_from_is_err_and}
use Rattle.lists.specs.Pick.{first}
use Rattle.views.specs.Clauses.{plain_tests, link_tests_in, head_tests_in, plain_shows}
use Rattle.wellformed.specs.Groups.{links_close, by_plain, by_links, by_heads, by_call, links_by, heads_by, call_by, numbered}
use Rattle.wellformed.proofs.broken.Goals.{In_ok-plain_broken, In_ok-links_broken, In_ok-heads_broken}
use Rattle.wellformed.proofs.broken.Goals as goal

-- what holds behind each group
plain_hold : (c : In_ok-plain_broken) → first (plain_tests c.args.c) ≡ 0
plain_hold c = sym c.in_ok-plain_broken.ensures

links_hold : (c : In_ok-links_broken) → first (link_tests_in c.args.c c.args.t.now.room c.args.t.now.words.now c.args.t.now.lens.now c.args.t.now.halves.now c.args.t.now.sides.now) ≡ 0
links_hold c = sym (c.in_ok-links_broken.ensures ∙ links_by c.args.c c.args.t.now c.by_field-f.result c.by_field-f.ensures)

heads_hold : (c : In_ok-heads_broken) → first (head_tests_in c.args.c c.args.t.now.room c.args.t.now.words.now c.args.t.now.lens.now c.args.t.now.halves.now c.args.t.now.sides.now) ≡ 0
heads_hold c = sym (c.in_ok-heads_broken.ensures ∙ heads_by c.args.c c.args.t.now c.by_field-f.result c.by_field-f.ensures)

pub returns-in_err-plain_broken : goal.returns-in_err-plain_broken
returns-in_err-plain_broken c = let t = c.args.t.now in let p = err_from_is_err_and c.from_residual.result c.from_residual.ensures.1 in rw (p.1, p.2) (by_plain c.args.c t.room t.words.now t.lens.now t.halves.now t.sides.now c.in_err-plain_broken.ensures (numbered _))

pub links_broken-requires-clause-plain : goal.links_broken-requires-clause-plain
links_broken-requires-clause-plain c = plain_shows c.args.c (sym c.in_ok-plain_broken.ensures)

pub returns-in_err-links_broken : goal.returns-in_err-links_broken
returns-in_err-links_broken c =
    let t = c.args.t.now in
    let p = err_from_is_err_and c.from_residual-in_err-links_broken.result c.from_residual-in_err-links_broken.ensures.1 in
    rw (p.1, p.2)
    (by_links c.args.c t.room t.words.now t.lens.now t.halves.now t.sides.now (sym c.in_ok-plain_broken.ensures) (c.in_err-links_broken.ensures ∙ links_by c.args.c t c.by_field-f.result c.by_field-f.ensures) (numbered _))

pub heads_broken-requires-clause-plain : goal.heads_broken-requires-clause-plain
heads_broken-requires-clause-plain c = plain_shows c.args.c (sym c.in_ok-plain_broken.ensures)

pub heads_broken-requires-clause-closed : goal.heads_broken-requires-clause-closed
heads_broken-requires-clause-closed c =
    let f = c.by_field-f.result in
    links_close c.args.c f.next.now f.flags.now f.noted.now (search rules) (sym c.in_ok-links_broken.ensures)

pub returns-in_err-heads_broken : goal.returns-in_err-heads_broken
returns-in_err-heads_broken c =
    let t = c.args.t.now in
    let p = err_from_is_err_and c.from_residual-in_err-heads_broken.result c.from_residual-in_err-heads_broken.ensures.1 in
    rw (p.1, p.2)
    (by_heads c.args.c t.room t.words.now t.lens.now t.halves.now t.sides.now (sym c.in_ok-plain_broken.ensures) (links_hold (goal.at.returns-in_err-heads_broken c).In_ok-links_broken) (c.in_err-heads_broken.ensures ∙ heads_by c.args.c t c.by_field-f.result c.by_field-f.ensures) (numbered _))

pub call_broken-requires-clause-plain : goal.call_broken-requires-clause-plain
call_broken-requires-clause-plain c = plain_shows c.args.c (sym c.in_ok-plain_broken.ensures)

pub returns : goal.returns
returns c =
    let t = c.args.t.now in
    by_call c.args.c t.room t.words.now t.lens.now t.halves.now t.sides.now (sym c.in_ok-plain_broken.ensures) (links_hold (goal.at.returns c).In_ok-links_broken) (heads_hold (goal.at.returns c).In_ok-heads_broken) (c.call_broken.ensures ∙ call_by c.args.c t c.by_field-f.result c.by_field-f.ensures)
