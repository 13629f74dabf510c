-- One buffer added by itself: what it leaves, in closed form.
use Rattle.std.specs.Prelude.{◌≡◌, refl, true, false, not, cond, ◌&&◌, ◌||◌, List, [], ◌∷◌, ◌++◌, ℕ, ◌+◌, ◌≤◌, ◌<◌, ltb, length}
use Rattle.std.proofs.Common.{sym, ap₂, ◌∙◌, arith, le-ltb, ne_eqb, get_or-set_same}
use Rattle.std.proofs.Math.Path.{ap}
use Rattle.std.proofs.Math.Bool.{and-false}
use Rattle.lists.specs.Index.{after}
use Rattle.lists.specs.PickLaws.{none_first}
use Rattle.lists.specs.Walk.{walk}
use Rattle.virtio.specs.declared.Buffer.{Buffer}
use Rattle.virtio.specs.Memory.{Memory}
use Rattle.virtio.specs.Chain.{in_order}
use Rattle.rules.specs.declared.Open.TheVariants.{Idle}
use Rattle.rules.specs.Record.{Queue, next_of, noted_of, free_list, buffers_of, is_open, with_call, with_avail}
use Rattle.rules.specs.WellFormed.{no_empty, steps_of_add}
use Rattle.rules.specs.Meaning.{Out}
use Rattle.rules.specs.Answer.{Outcome}
use Rattle.rules.specs.Calls.{fits, bad_list, full, add_tests, add_refusal, add_direct, add_indirect, add_opened, opened, add}
use Rattle.laws.specs.WellFormedIs.{means_well_formed, means_order}
use Rattle.laws.specs.CallKeeps.{Good}
use Rattle.laws.specs.Opening.{add_keeps}
use Rattle.laws.specs.Regions.{still_fits, moves_fit, add_shaped}
use Rattle.laws.specs.Whole.{add_is}
use Rattle.laws.specs.Added.{published, add_done, add_takes, add_adds, add_others}

-- ---- nothing refuses it where a descriptor is free

one_in_order : (b : Buffer) → in_order (b ∷ []) ≡ true
one_in_order b = means_order (b ∷ []) (λ i j l u e. absurd (omega arith))

one_filled : (b : Buffer) → (b.len ≡ 0 → ⊥) → no_empty (b ∷ []) ≡ true
unfolding no_empty
one_filled b d = rw (ne_eqb b.len 0 d)

one_listed : (b : Buffer) → bad_list (b ∷ []) ≡ false
one_listed b = ap₂ (λ x y. x || not y) (ne_eqb (length (b ∷ [])) 0 (omega arith)) (one_in_order b)

one_fits : (q : Queue) → q.counts.used < q.n → full q 1 ≡ false
one_fits q u =
    ap (λ c. c || (ltb q.n 1 || (not q.modes.indirect && ltb q.n (q.counts.used + 1)))) (ne_eqb q.counts.used q.n (omega arith))
    ∙ ap (λ c. c || (not q.modes.indirect && ltb q.n (q.counts.used + 1))) (le-ltb q.n 1 (omega arith))
    ∙ ap (λ c. not q.modes.indirect && c) (le-ltb q.n (q.counts.used + 1) (omega arith))
    ∙ and-false (not q.modes.indirect)

module _ (q : Queue) (m : Memory) (b : Buffer) where
  abbrev bs : List Buffer
  bs = b ∷ []

  abbrev head : ℕ
  head = q.counts.free

  pub one_allowed : Good q → q.call ≡ Idle → fits q m ≡ true → q.counts.used < q.n → (b.len ≡ 0 → ⊥) → add_refusal q m (b ∷ []) ≡ 0
  one_allowed g i f u d =
      none_first (add_tests q (fits q m) bs)
      (ap not (means_well_formed q g.well), (ap not f, (ap is_open i, (one_listed b, (one_fits q u, (ap not (one_filled b d), tt))))))

-- ---- what it leaves

-- the record and the memory with buffer b in the first free descriptor
abbrev pub one_added : Queue → Buffer → Queue
one_added q b = with_call (with_avail (add_direct q (b ∷ [])) (after q.counts.avail)) Idle

abbrev pub one_published : Queue → Buffer → Memory → Memory
one_published q b m = published (add_direct q (b ∷ [])) q.counts.free 1 m

-- the outcome of that, under token v
abbrev pub one_outcome : Queue → Buffer → Memory → ℕ → Outcome
one_outcome q b m v =
    record { answer = 0; value = v; steps = 4; queue = one_added q b; memory = one_published q b m }

-- r is q with buffer b added under the first free descriptor, and every other chain as it was
pub record AddedOne (q r : Queue) (b : Buffer) : Type 0 where
  pub good : Good r
  pub n : r.n ≡ q.n
  pub idle : r.call ≡ Idle
  pub takes : free_list q ≡ q.counts.free ∷ free_list r
  pub out : Out r q.counts.free
  pub list : buffers_of r q.counts.free ≡ b ∷ []
  pub others_out : (h : ℕ) → Out q h → Out r h
  pub others_list : (h : ℕ) → Out q h → buffers_of r h ≡ buffers_of q h

module _ (q : Queue) (m : Memory) (b : Buffer) (g : Good q) (e : add_refusal q m (b ∷ []) ≡ 0) where
  abbrev r : Queue
  r = (add q m (b ∷ [])).queue

  -- one buffer is added direct, in either mode
  opened_direct : add_opened q (b ∷ []) ≡ add_direct q (b ∷ [])
  opened_direct =
      ap (λ c. cond (q.modes.indirect && c) (add_indirect q (b ∷ [])) (add_direct q (b ∷ []))) (le-ltb 1 (length (b ∷ [])) (omega arith))
      ∙ ap (λ c. cond c (add_indirect q (b ∷ [])) (add_direct q (b ∷ []))) (and-false q.modes.indirect)

  -- the outcome with p opened
  abbrev from_opened : Queue → Outcome
  from_opened p = record {
    answer = 0;
    value = q.counts.free;
    steps = steps_of_add 1;
    queue = with_call (with_avail p (after q.counts.avail)) Idle;
    memory = published p q.counts.free 1 m;
  }

  -- THE LAW: its closed form
  pub one_done : add q m (b ∷ []) ≡ one_outcome q b m q.counts.free
  one_done = add_done q m (b ∷ []) g e ∙ ap from_opened opened_direct

  head_room : q.counts.free < length q.tables.noted
  head_room =
      let l : q.counts.free < q.n = g.well.free in
      let f : q.n ≤ length q.tables.noted = g.held.noted in
      omega arith

  noted_one : noted_of r q.counts.free ≡ 1
  noted_one =
      ap (λ (x : Outcome). noted_of x.queue q.counts.free) one_done
      ∙ get_or-set_same q.tables.noted q.counts.free 1 0 head_room

  same_n : r.n ≡ q.n
  same_n = ap (λ (x : Outcome). x.queue.n) one_done

  takes_one : free_list q ≡ q.counts.free ∷ free_list r
  unfolding walk
  takes_one =
      add_takes q m (b ∷ []) g e ∙ ap (λ k. walk (next_of r) k q.counts.free ++ free_list r) noted_one

  -- THE LAWS: what it leaves; and memory that did still does
  pub one_added_lem : AddedOne q r b
  one_added_lem =
      let k : noted_of r q.counts.free ≡ 1 = noted_one in
      let s : r.n ≡ q.n = same_n in
      record {
        good = add_keeps q m (b ∷ []) g;
        n = s;
        idle = ap (λ (x : Outcome). x.queue.call) one_done;
        takes = takes_one;
        out = record {
          below = (let l : q.counts.free < q.n = g.well.free in omega arith);
          noted = λ z. (let y : ◌≡◌ {A = ℕ} 1 0 = sym k ∙ z in omega arith);
        };
        list = add_adds q m (b ∷ []) g e;
        others_out = λ h p. record {
          below = (let l : h < q.n = p.below in omega arith);
          noted = λ z. p.noted (sym (add_others q m (b ∷ []) g e h p).2 ∙ z);
        };
        others_list = λ h p. (add_others q m (b ∷ []) g e h p).1;
      }

  pub one_fit : fits r (add q m (b ∷ [])).memory ≡ fits q m
  one_fit =
      ap (λ (x : Outcome). fits x.queue x.memory) (add_is q m (b ∷ []) e)
      ∙ moves_fit (q.n + 4) (opened (add_opened q (b ∷ [])) m)
      ∙ still_fits (add_opened q (b ∷ [])) q m m (add_shaped q (b ∷ [])) (record { one = refl; two = refl; pool = refl })
