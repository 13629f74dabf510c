-- What a replay's header comes to, by what the code read of it; the memory that is lent, and the replay as new leaves it.
use Rattle.std.specs.Prelude.{◌≡◌, Bool, true, false, cond, ◌&&◌, List, [], ◌∷◌, ◌++◌, ℕ, ◌≤◌, ◌<◌, eqb, length, take, replicate, Option, Some, None}
use Rattle.std.proofs.Common.{sym, subst, ◌∙◌, arith, lt-ltb, le-ltb, length-take-le}
use Rattle.std.proofs.Math.Path.{ap}
use Rattle.std.proofs.lemmas.List.{length-replicate}
use Rattle.std.proofs.lemmas.List.Edits.{sets}
use Rattle.std.proofs.Math.Seq.{take-nil}
use Rattle.lists.specs.PickLaws.{mem_all}
use Rattle.virtio.specs.Layout.{need_one, need_two, need_pool}
use Rattle.virtio.specs.Memory.{Memory}
use Rattle.rules.specs.declared.Modes.{Modes}
use Rattle.rules.specs.WellFormed.{size_ok}
use Rattle.rules.specs.New as rule
use Rattle.access.specs.Accesses.{memory}
use Rattle.record.specs.declared.Made.{Made}
use Rattle.record.specs.Asked.{made_of}
use Rattle.text.specs.declared.Number.{Number}
use Rattle.text.specs.Text.{Found, read, field}
use Rattle.text.specs.Laws.{cond_none}
use Rattle.std.proofs.lemmas.Option.{cond_some}
use Rattle.lists.specs.Tests.{and_left, and_right}
use Rattle.print.specs.Print.{field_line, bad_line, Written}
use Rattle.print.specs.Page.{Has}
use Rattle.print.specs.declared.Page.{Page}
use Rattle.replay.specs.Words.{word_size, word_indirect, word_event}
use Rattle.replay.specs.Replay.{blocks, zeros, asked, opened, replayed, transcript}
use Rattle.replay.specs.Plays.{Plays}
use Rattle.replay.specs.Laws.{take_zeros}

-- ---- what is written

-- nothing is, at first
pub written_none : (before : List ℕ) → Written before before 0 []
written_none before =
    let none : take (length before) [] ≡ [] = take-nil {A = ℕ} (length before) in
    record { count = sym (ap length none); bytes = sym (ap (sets before 0) none) }

pub is_had : {before : List ℕ} (page : Page) {text said : List ℕ} → text ≡ said → Has before page said → Has before page text
is_had {before = before} page e w = subst (λ (x : List ℕ). Has before page x) (sym e) w

pub is_written : {before after : List ℕ} {at : ℕ} {text said : List ℕ} → text ≡ said → Written before after at said → Written before after at text
is_written {before = before} {after = after} {at = at} e w = subst (λ (x : List ℕ). Written before after at x) (sym e) w

-- ---- the whole text

pub too_long : (s : List ℕ) → 32768 < length s → transcript s ≡ bad_line 0
unfolding transcript
too_long s h = ap (λ b. cond b (bad_line 0) (replayed s)) (lt-ltb 32768 (length s) h)

pub short : (s : List ℕ) → length s ≤ 32768 → transcript s ≡ replayed s
unfolding transcript
short s h = ap (λ b. cond b (bad_line 0) (replayed s)) (le-ltb 32768 (length s) h)

-- ---- the three lines

-- the size that the code read, if it is one that new takes
abbrev pub told_sized : Found → Option Number
told_sized n = cond (n.ok && size_ok n.value) (Some (record { value = n.value; at = n.at })) None

pub sized_none : (n : Found) → told_sized n ≡ None → (n.ok && size_ok n.value) ≡ false
sized_none n e = cond_none (n.ok && size_ok n.value) _ e

pub sized_some : (n : Found) (x : Number) → told_sized n ≡ Some x → (read x.value x.at ≡ n) × (size_ok x.value ≡ true)
sized_some n x e =
    let h : ((n.ok && size_ok n.value) ≡ true) × (record { value = n.value; at = n.at } ≡ x) = cond_some _ _ x e in
    let o : n.ok ≡ true = and_left n.ok (size_ok n.value) h.0 in
    let same : n ≡ read x.value x.at = λ i. record { ok = o i; value = (h.1 i).value; at = (h.1 i).at } in
    (sym same, subst (λ (y : Found). size_ok y.value ≡ true) same (and_right n.ok (size_ok n.value) h.0))

module _ (s : List ℕ) where
  abbrev good_size : Found → Bool
  good_size n = n.ok && size_ok n.value

  abbrev two : Found → Found → List ℕ
  two n i = field_line word_size n.value ++ field_line word_indirect i.value

  abbrev played : Found → Found → Found → List ℕ
  played n i e =
      (blocks
      (length s)
      s
      (opened n.value (eqb i.value 1) (eqb e.value 1) e.at (two n i ++ field_line word_event e.value))
      ).said

  abbrev event_then : Found → Found → Found → List ℕ
  event_then n i e = cond e.ok (played n i e) (two n i ++ bad_line 3)

  abbrev indirect_then : Found → Found → Found → List ℕ
  indirect_then n i e = cond i.ok (event_then n i e) (field_line word_size n.value ++ bad_line 2)

  abbrev size_then : Found → Found → Found → List ℕ
  size_then n i e = cond (good_size n) (indirect_then n i e) (bad_line 1)

  abbrev indirect_at : Found → Found
  indirect_at n = field word_indirect 1 s n.at

  abbrev event_at : Found → Found
  event_at i = field word_event 1 s i.at

  module _ (n : Found) (size : n ≡ field word_size 65535 s 0) where
    reads_size : replayed s ≡ size_then n (indirect_at n) (event_at (indirect_at n))
    unfolding replayed
    reads_size = ap (λ (x : Found). size_then x (indirect_at x) (event_at (indirect_at x))) (sym size)

    pub no_size : good_size n ≡ false → replayed s ≡ bad_line 1
    no_size h = reads_size ∙ ap (λ b. cond b (indirect_then n (indirect_at n) (event_at (indirect_at n))) (bad_line 1)) h

    module _ (fits : good_size n ≡ true) (i : Found) (mode : i ≡ indirect_at n) where
      reads_indirect : replayed s ≡ indirect_then n i (event_at i)
      reads_indirect =
          reads_size
          ∙ ap (λ b. cond b (indirect_then n (indirect_at n) (event_at (indirect_at n))) (bad_line 1)) fits
          ∙ ap (λ (x : Found). indirect_then n x (event_at x)) (sym mode)

      pub no_indirect_lem : i.ok ≡ false → replayed s ≡ field_line word_size n.value ++ bad_line 2
      no_indirect_lem h = reads_indirect ∙ ap (λ b. cond b (event_then n i (event_at i)) (field_line word_size n.value ++ bad_line 2)) h

      module _ (good : i.ok ≡ true) (e : Found) (event : e ≡ event_at i) where
        reads_event : replayed s ≡ event_then n i e
        reads_event =
            reads_indirect
            ∙ ap (λ b. cond b (event_then n i (event_at i)) (field_line word_size n.value ++ bad_line 2)) good
            ∙ ap (λ (x : Found). event_then n i x) (sym event)

        pub no_event : e.ok ≡ false → replayed s ≡ two n i ++ bad_line 3
        no_event h = reads_event ∙ ap (λ b. cond b (played n i e) (two n i ++ bad_line 3)) h

        pub reads_all : e.ok ≡ true → replayed s ≡ played n i e
        reads_all h = reads_event ∙ ap (λ b. cond b (played n i e) (two n i ++ bad_line 3)) h

-- ---- the memory that is lent

abbrev sizes : List ℕ
sizes = 1 ∷ 2 ∷ 4 ∷ 8 ∷ 16 ∷ 32 ∷ 64 ∷ []

pub size_range : (n : ℕ) → size_ok n ≡ true → (1 ≤ n) × (n ≤ 64)
unfolding size_ok
size_range n e = (mem_all (λ k. 1 ≤ k) n sizes (omega arith) e, mem_all (λ k. k ≤ 64) n sizes (omega arith) e)

pub one_fits : (n : ℕ) → size_ok n ≡ true → need_one false n ≤ 1158
unfolding need_one
one_fits n e = omega (arith, size_range n e)

pub two_fits : (n : ℕ) → size_ok n ≡ true → need_two false n ≤ 518
unfolding need_two
two_fits n e = omega (arith, size_range n e)

pub pool_fits : (indirect : Bool) (n : ℕ) → size_ok n ≡ true → cond indirect (need_pool n) 0 ≤ 65536
unfolding size_ok
pool_fits true n e = mem_all (λ k. need_pool k ≤ 65536) n sizes (omega arith) e
pool_fits false n e = omega arith

-- a part of a room of zeros: it is within it, has its length, and is zero
module _ (room : ℕ) {l : List ℕ} (blank : l ≡ replicate room 0) {k need : ℕ} (asks : k ≡ need) (fits : need ≤ room) where
  pub part_within : k ≤ length l
  part_within = omega (arith, ap length blank ∙ length-replicate room 0)

  pub part_long : k ≡ length (take k l)
  part_long = sym (length-take-le k l part_within)

  pub part_zeros : take k l ≡ replicate need 0
  part_zeros = ap (λ x. take x l) asks ∙ ap (take need) blank ∙ take_zeros need room fits

-- ---- new

module _
    (n : ℕ) (modes : Modes) (at : ℕ) (text : List ℕ) (made : Made) {m l : Memory}
    (flexible : modes.legacy ≡ false)
    (cleared : l ≡ zeros modes.indirect n)
    (news : made_of made m ≡ rule.new (record { n = n; in_use = false; most = n; modes = modes; base_one = 0; base_two = 0; base_pool = 0 }) l)
  where
    new_is : made_of made m ≡ rule.new (asked n modes.indirect modes.event_idx) (zeros modes.indirect n)
    new_is =
        news
        ∙ λ i. rule.new
        (record {
          n = n;
          in_use = false;
          most = n;
          modes = record { indirect = modes.indirect; event_idx = modes.event_idx; legacy = flexible i };
          base_one = 0;
          base_two = 0;
          base_pool = 0;
        })
        (cleared i)

    pub opened_plays
        : {before : List ℕ} {page : Page}
        → Has before page text
        → Plays
        before
        page
        (record { queue = made.queue; size = n; at = at; line = 4 })
        m
        (opened n modes.indirect modes.event_idx at text)
    opened_plays w = record {
      same = λ i. record { queue = (new_is i).queue; memory = (new_is i).memory; size = n; at = at; line = 4; said = text; going = true };
      wrote = w;
    }

-- region two keeps the length that the layout needs
pub two_lent : (indirect : Bool) (n : ℕ) (one two pool after : List ℕ)
    → memory one two pool ≡ zeros indirect n
    → length after ≡ length two
    → length after ≡ need_two false n
two_lent indirect n one two pool after e k = k ∙ ap (λ (m : Memory). length m.two) e ∙ length-replicate (need_two false n) 0
