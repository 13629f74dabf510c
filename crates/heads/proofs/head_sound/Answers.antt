-- The answer is `sound_at` of h, by branches: no chain at h, a list, which is short enough for its slot, or a direct chain.
use Rattle.std.proofs.Common.{◌≡◌, ◌≤◌, ◌*◌, ◌/◌, ◌+◌, ◌%◌, ◌∙◌, ap, ℕ, arith, rules, eqb, map, get_or, true, false}
use Rattle.virtio.proofs.Flags.{flag_set}
use Rattle.views.specs.Views.{at, heads, refers, entries, direct, piece}
use Rattle.virtio.specs.declared.Buffer.{Buffer}
use Rattle.rules.specs.WellFormed.{sound_list}
use Rattle.heads.specs.Heads.{slot_fits}
use Rattle.heads.specs.Look.{seen_rising, seen_below, walk_rising}
use Rattle.heads.proofs.head_sound.Goals as goal

pub all_sound-requires : goal.all_sound-requires
all_sound-requires c =
    let f = c.args.f.now in
    let short : at f.len.now c.args.h / 16 ≤ f.n = c.requires.short.most c.args.h (search rules) (search rules) in
    seen_rising _ _ _ _ (f.n * f.n) (omega (arith, slot_fits f.n c.args.h (omega arith))) (λ j l. search rules) (λ j p e. search rules)

pub returns-then-is_list : goal.returns-then-is_list
returns-then-is_list c =
    let f = c.args.f.now in
    let n : ℕ = f.n in
    let buffer : ℕ → Buffer = λ i. piece (at f.lens.now i) (get_or f.sides.now i false) in
    let is : c.all_sound.result ≡ sound_list (entries f.lens.now f.sides.now (n * c.args.h) (at f.len.now c.args.h / 16)) =
    c.all_sound.ensures buffer (λ i. i + 1) record { told = λ i p e. search rules }
    ∙ ap (λ l. sound_list (map buffer l)) (walk_rising (at f.len.now c.args.h / 16) (n * c.args.h)) in
    let out : heads f.n f.noted.now c.args.h ≡ true = search rules in
    let list : refers f.flags.now c.args.h ≡ true = search rules in
    rw (out, list) is

pub all_sound-requires-2 : goal.all_sound-requires-2
all_sound-requires-2 c =
    let f = c.args.f.now in
    seen_below _ _ _ _ f.n (omega arith) (λ j l. search rules) (λ j p l e. search (rules, c.requires.closed.nexts))

pub returns : goal.returns
returns c =
    let f = c.args.f.now in
    let buffer : ℕ → Buffer = λ i. piece (at f.len.now i) (eqb (at f.flags.now i / 2 % 2) 1) in
    let is : c.all_sound-2.result ≡ sound_list (direct f.next.now f.flags.now f.len.now (at f.noted.now c.args.h) c.args.h) =
    c.all_sound-2.ensures buffer (λ i. at f.next.now i) record { told = λ i p e. search (rules, flag_set (at f.flags.now i) 1) } in
    let out : heads f.n f.noted.now c.args.h ≡ true = search rules in
    let list : refers f.flags.now c.args.h ≡ false = search rules in
    rw (out, list) is
