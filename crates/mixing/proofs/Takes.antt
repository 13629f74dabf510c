-- What the device of demand 3 takes is the chain by VIRTIO's own rule (virtio Chain): a whole take gives the buffers that chain_at reads at the head.
use Rattle.std.specs.Prelude.{◌≡◌, true, false, not, ◌&&◌, ◌||◌, ltb, leb, replicate}
use Rattle.std.proofs.Math.Path.{refl, sym, ap}
use Rattle.std.proofs.Common.{ap₂, ◌∙◌, arith}
use Rattle.std.proofs.Math.Bool.{Bool, cond}
use mathlib.Core.List.{List, [], ◌∷◌, ◌++◌, map, append-nil, append_assoc}
use Prim.Native.Nat.{ℕ, zero, suc, ◌+◌, ◌-◌, ◌*◌, ◌/◌, ◌%◌, ◌≤◌, ◌<◌}
use borrow.Author.Tests.{eqb-true, ne_eqb, leb-true}
use Rattle.std.proofs.Math.Dec.{eqb}
use Rattle.std.proofs.Math.ListN.{length}
use Rattle.lists.specs.Index.{after}
use Rattle.lists.specs.Tests.{by_test, and_left, and_right, implied}
use Rattle.virtio.specs.declared.Desc.{Desc}
use Rattle.virtio.specs.declared.Buffer.{Buffer}
use Rattle.virtio.specs.Desc.{has_next, has_indirect, buffer_of, desc_at}
use Rattle.virtio.specs.Memory.{Memory, avail_idx, avail_ring, spot, load_at}
use Rattle.virtio.specs.Chain.{in_order, Found, lost, found, before, follow, no_indirect, as_list, table_desc, list_desc, list_ok, list_of}
use Rattle.virtio.specs.Chain.{expand, expanded, faulty, buffers, meant, chain_at}
use Rattle.mixing.specs.Device.{Wiring, take_next, none_available, took, in_table, in_list, Doing, resting, take_idx, take_head, take_chain}
use Rattle.mixing.specs.Device.{Worked, acting, doing, goes, comes, takes, reads, work}
use Rattle.mixing.specs.Mix.{act, tick, Trace, works, event, trace}
use Rattle.mixing.specs.Demand.{whole_act, steps_of}
use Rattle.mixing.proofs.Whole.{tick_idle, tick_open}

-- every indirect table that descriptors refer to starts at an entry of the pool: its offset there is a multiple of 16
unfoldable pub aligned : ℕ → List Desc → Bool
aligned base [] = true
aligned base (d ∷ ds) = (not (has_indirect d) || eqb ((d.addr - base) % 16) 0) && aligned base ds

abbrev pub lists_aligned : ℕ → Found → Bool
lists_aligned base lost = true
lists_aligned base (found ds) = aligned base ds

-- ---- what was followed to its end, taken apart

lost_found : (ds : List Desc) → lost ≡ found ds → ⊥
lost_found ds e = let z : ◌≡◌ {A = ℕ} 0 1 = cc in omega arith

found_same : (ds es : List Desc) → found ds ≡ found es → ds ≡ es
found_same ds es e = cc

before_found : (d : Desc) (f : Found) (ds : List Desc) → before d f ≡ found ds → (es : List Desc) × (ds ≡ d ∷ es) × (f ≡ found es)
before_found d lost ds e = absurd (lost_found ds e)
before_found d (found es) ds e = (es, sym (found_same (d ∷ es) ds e), refl)

module _ (table : ℕ → Desc) (n j i : ℕ) (ds : List Desc) where
  follow_next : follow table n (suc j) i ≡ found ds → has_next (table i) ≡ true
      → (es : List Desc) × (ds ≡ table i ∷ es) × (follow table n j (table i).next ≡ found es)
  unfolding follow
  follow_next f e =
      by_test (ltb i n)
      (λ l. before_found (table i) (follow table n j (table i).next) ds (rw (l, e) at f))
      (λ l. absurd (lost_found ds (rw l at f)))

  follow_last : follow table n (suc j) i ≡ found ds → has_next (table i) ≡ false → ds ≡ table i ∷ []
  unfolding follow
  follow_last f e =
      by_test (ltb i n)
      (λ l. sym (found_same (table i ∷ []) ds (rw (l, e) at f)))
      (λ l. absurd (lost_found ds (rw l at f)))

  follow_some : follow table n (suc j) i ≡ found ds → 0 < length ds
  follow_some f =
      by_test (has_next (table i))
      (λ e. let r = follow_next f e in
      let l : length ds ≡ suc (length r.0) = ap length r.1 in
      omega arith)
      (λ e. let l : length ds ≡ 1 = ap length (follow_last f e) in omega arith)

as_list_lem : (f : Found) (es : List Desc) → as_list f ≡ found es → f ≡ found es
as_list_lem lost es e = e
as_list_lem (found ds) es e =
    by_test (no_indirect ds) (λ b. rw b at e) (λ b. absurd (lost_found es (rw b at e)))

list_of_lem : (base : ℕ) (m : Memory) (d : Desc) (es : List Desc) → list_of base m d ≡ found es
    → follow (list_desc base m d.addr) (d.len / 16) (d.len / 16) 0 ≡ found es
unfolding list_of
list_of_lem base m d es e =
    let f : Found = follow (list_desc base m d.addr) (d.len / 16) (d.len / 16) 0 in
    by_test (list_ok base m d)
    (λ b. as_list_lem f es (ap (λ c. cond c (as_list f) lost) (sym b) ∙ e))
    (λ b. absurd (lost_found es (ap (λ c. cond c (as_list f) lost) (sym b) ∙ e)))

-- ---- what a chain means, taken apart

record Meant (n base : ℕ) (m : Memory) (f : Found) (bs : List Buffer) : Type 0 where
  chain : List Desc
  all : List Desc
  followed : f ≡ found chain
  listed : expand base m chain ≡ found all
  most : length all ≤ n
  same : map buffer_of all ≡ bs

faulty_buffers : (bs : List Buffer) → faulty ≡ buffers bs → ⊥
faulty_buffers bs e = let z : ◌≡◌ {A = ℕ} 0 1 = cc in omega arith

buffers_same : (xs bs : List Buffer) → buffers xs ≡ buffers bs → xs ≡ bs
buffers_same xs bs e = cc

module _ (n base : ℕ) (m : Memory) (bs : List Buffer) where
  abbrev ok : List Desc → Bool
  ok es = leb (length es) n && in_order (map buffer_of es)

  listed_means : (ds : List Desc) (g : Found) → expand base m ds ≡ g → meant n g ≡ buffers bs → Meant n base m (found ds) bs
  listed_means ds lost x e = absurd (faulty_buffers bs e)
  listed_means ds (found es) x e =
      by_test (ok es)
      (λ b. record {
        chain = ds;
        all = es;
        followed = refl;
        listed = x;
        most = leb-true (length es) n (and_left (leb (length es) n) (in_order (map buffer_of es)) b);
        same = buffers_same (map buffer_of es) bs (ap (λ c. cond c (buffers (map buffer_of es)) faulty) (sym b) ∙ e);
      })
      (λ b. absurd (faulty_buffers bs (ap (λ c. cond c (buffers (map buffer_of es)) faulty) (sym b) ∙ e)))

  chain_means : (f : Found) → meant n (expanded base m f) ≡ buffers bs → Meant n base m f bs
  chain_means lost e = absurd (faulty_buffers bs e)
  chain_means (found ds) e = listed_means ds (expand base m ds) refl e

-- ---- ticks of a take

-- the trace with the open act at another place; and where it ended with the chain at h taken
abbrev during : Trace → Doing → Trace
during t a = record {
  queue = t.queue;
  memory = t.memory;
  device = doing t.device a;
  made = t.made;
  calls = t.calls;
  answers = t.answers;
  acts = t.acts;
  results = t.results;
}

abbrev pub ending : Trace → ℕ → List Buffer → Trace
ending t h bs = record {
  queue = t.queue;
  memory = t.memory;
  device = record { taken = after t.device.taken; used = t.device.used; holds = t.device.holds ++ (h ∷ []); doing = resting };
  made = t.made;
  calls = t.calls;
  answers = t.answers;
  acts = t.acts;
  results = t.results ++ (took h bs ∷ []);
}

-- the trace once a take is begun: nothing but its name is told
abbrev pub beginning : Trace → Trace
beginning t = record {
  queue = t.queue;
  memory = t.memory;
  device = t.device;
  made = t.made;
  calls = t.calls;
  answers = t.answers;
  acts = t.acts ++ (take_next ∷ []);
  results = t.results;
}

module _ (w : Wiring) where
  ticks_idle : (b : ℕ) (t : Trace) → acting t.device.doing ≡ false → trace w (replicate b tick) t ≡ t
  unfolding trace
  ticks_idle zero t e = refl
  ticks_idle (suc b) t e = ap (trace w (replicate b tick)) (tick_idle w t e) ∙ ticks_idle b t e

  -- one tick, by what the device's work comes to
  tick_goes : (t : Trace) (a b : Doing) → acting a ≡ true → work w a (doing t.device a) t.memory ≡ goes t.device b t.memory
      → event w tick (during t a) ≡ during t b
  tick_goes t a b o e =
      tick_open w (during t a) o
      ∙ ap (λ (r : Worked). works [] r (during t a)) e
      ∙ ap₂ (λ x y. record {
        queue = t.queue;
        memory = t.memory;
        device = doing t.device b;
        made = t.made;
        calls = t.calls;
        answers = t.answers;
        acts = x;
        results = y;
      }) (append-nil t.acts) (append-nil t.results)

  tick_takes : (t : Trace) (a : Doing) (h : ℕ) (bs : List Buffer) → acting a ≡ true
      → work w a (doing t.device a) t.memory ≡ takes w h bs t.device t.memory
      → event w tick (during t a) ≡ ending t h bs
  tick_takes t a h bs o e =
      tick_open w (during t a) o
      ∙ ap (λ (r : Worked). works [] r (during t a)) e
      ∙ ap (λ x. record {
        queue = t.queue;
        memory = t.memory;
        device = (ending t h bs).device;
        made = t.made;
        calls = t.calls;
        answers = t.answers;
        acts = x;
        results = t.results ++ (took h bs ∷ []);
      }) (append-nil t.acts)

  -- ---- one descriptor of an indirect list is read

  module _ (t : Trace) (h a s : ℕ) (e : a - w.base ≡ 16 * s) where
    abbrev entry_at : ℕ → Desc
    entry_at = list_desc w.base t.memory a

    abbrev doing_list : ℕ → ℕ → List Buffer → Doing
    doing_list k i bs = take_chain h k (in_list s) i bs

    list_loads : (i : ℕ) → desc_at t.memory.pool (16 * (s + i)) ≡ entry_at i
    list_loads i = ap (desc_at t.memory.pool) (omega arith)

    abbrev list_reads : ℕ → ℕ → List Buffer → Desc → Worked
    list_reads k i bs x = reads w h k (in_list s) bs x (doing t.device (doing_list (suc k) i bs)) t.memory

    list_goes : (k i : ℕ) (bs : List Buffer) → has_next (entry_at i) ≡ true
        → event w tick (during t (doing_list (suc k) i bs)) ≡ during t (doing_list k (entry_at i).next (bs ++ (buffer_of (entry_at i) ∷ [])))
    list_goes k i bs f =
        tick_goes t (doing_list (suc k) i bs) _ refl (ap (list_reads k i bs) (list_loads i) ∙ (rw f))

    list_ends : (k i : ℕ) (bs : List Buffer) → has_next (entry_at i) ≡ false
        → event w tick (during t (doing_list (suc k) i bs)) ≡ ending t h (bs ++ (buffer_of (entry_at i) ∷ []))
    list_ends k i bs f =
        tick_takes t (doing_list (suc k) i bs) h _ refl (ap (list_reads k i bs) (list_loads i) ∙ (rw f))

    -- so a list is read to its end, where there are steps enough
    list_taken : (j k b i n : ℕ) (bs : List Buffer) (ds : List Desc) → follow entry_at n j i ≡ found ds → length ds ≤ k → length ds ≤ b
        → trace w (replicate b tick) (during t (doing_list k i bs)) ≡ ending t h (bs ++ map buffer_of ds)
    unfolding follow trace
    list_taken zero k b i n bs ds f l c = absurd (lost_found ds f)
    list_taken (suc j) zero b i n bs ds f l c = absurd (let p : 0 < length ds = follow_some entry_at n j i ds f in omega arith)
    list_taken (suc j) (suc k) zero i n bs ds f l c = absurd (let p : 0 < length ds = follow_some entry_at n j i ds f in omega arith)
    list_taken (suc j) (suc k) (suc b) i n bs ds f l c =
        by_test (has_next (entry_at i))
        (λ x. let r = follow_next entry_at n j i ds f x in
        let es : List Desc = r.0 in
        let p : length ds ≡ suc (length es) = ap length r.1 in
        ap (trace w (replicate b tick)) (list_goes k i bs x)
        ∙ list_taken j k b (entry_at i).next n (bs ++ (buffer_of (entry_at i) ∷ [])) es r.2 (omega arith) (omega arith)
        ∙ ap (ending t h) (append_assoc bs (buffer_of (entry_at i) ∷ []) (map buffer_of es) ∙ ap (λ y. bs ++ map buffer_of y) (sym r.1)))
        (λ x. ap (trace w (replicate b tick)) (list_ends k i bs x)
        ∙ ticks_idle b (ending t h (bs ++ (buffer_of (entry_at i) ∷ []))) refl
        ∙ ap (λ y. ending t h (bs ++ map buffer_of y)) (sym (follow_last entry_at n j i ds f x)))

  -- ---- one descriptor of the table is read

  module _ (t : Trace) (h : ℕ) where
    abbrev desc_of : ℕ → Desc
    desc_of = table_desc t.memory

    abbrev doing_table : ℕ → ℕ → List Buffer → Doing
    doing_table k i bs = take_chain h k in_table i bs

    table_goes : (k i : ℕ) (bs : List Buffer) → has_indirect (desc_of i) ≡ false → has_next (desc_of i) ≡ true
        → event w tick (during t (doing_table (suc k) i bs)) ≡ during t (doing_table k (desc_of i).next (bs ++ (buffer_of (desc_of i) ∷ [])))
    table_goes k i bs d f = tick_goes t (doing_table (suc k) i bs) _ refl (rw (d, f))

    table_ends : (k i : ℕ) (bs : List Buffer) → has_indirect (desc_of i) ≡ false → has_next (desc_of i) ≡ false
        → event w tick (during t (doing_table (suc k) i bs)) ≡ ending t h (bs ++ (buffer_of (desc_of i) ∷ []))
    table_ends k i bs d f = tick_takes t (doing_table (suc k) i bs) h _ refl (rw (d, f))

    abbrev slot_of : ℕ → ℕ
    slot_of i = ((desc_of i).addr - w.base) / 16

    table_turns : (k i : ℕ) (bs : List Buffer) → has_indirect (desc_of i) ≡ true
        → event w tick (during t (doing_table (suc k) i bs)) ≡ during t (take_chain h k (in_list (slot_of i)) 0 bs)
    table_turns k i bs d = tick_goes t (doing_table (suc k) i bs) _ refl (rw d)

    -- ---- the rest of a chain, from a descriptor of the table on

    -- INDIRECT with NEXT breaks a rule; else the table that the descriptor refers to is the rest
    expand_list : (d : Desc) (ds es : List Desc) → has_indirect d ≡ true → has_next d ≡ true → expand w.base t.memory (d ∷ ds) ≡ found es → ⊥
    unfolding expand
    expand_list d ds es i x e = lost_found es (rw (i, x) at e)

    expand_last : (d : Desc) (ds es : List Desc) → has_indirect d ≡ true → has_next d ≡ false → expand w.base t.memory (d ∷ ds) ≡ found es
        → list_of w.base t.memory d ≡ found es
    unfolding expand
    expand_last d ds es i x e = rw (i, x) at e

    expand_plain : (d : Desc) (ds es : List Desc) → has_indirect d ≡ false → expand w.base t.memory (d ∷ ds) ≡ found es
        → (fs : List Desc) × (es ≡ d ∷ fs) × (expand w.base t.memory ds ≡ found fs)
    unfolding expand
    expand_plain d ds es i e = before_found d (expand w.base t.memory ds) es (rw i at e)

    aligned_first : (d : Desc) (ds : List Desc) → aligned w.base (d ∷ ds) ≡ true → has_indirect d ≡ true → (d.addr - w.base) % 16 ≡ 0
    unfolding aligned
    aligned_first d ds e i =
        let test : Bool = eqb ((d.addr - w.base) % 16) 0 in
        eqb-true ((d.addr - w.base) % 16) 0
        (implied (has_indirect d) test (and_left (not (has_indirect d) || test) (aligned w.base ds) e) i)

    aligned_rest : (d : Desc) (ds : List Desc) → aligned w.base (d ∷ ds) ≡ true → aligned w.base ds ≡ true
    unfolding aligned
    aligned_rest d ds e = and_right (not (has_indirect d) || eqb ((d.addr - w.base) % 16) 0) (aligned w.base ds) e

    -- what is left of a chain at entry i: its descriptors in the table, and all of them with an indirect table's in their place
    record Left (j i : ℕ) (ds es : List Desc) : Type 0 where
      followed : follow desc_of w.n j i ≡ found ds
      listed : expand w.base t.memory ds ≡ found es
      even : aligned w.base ds ≡ true

    abbrev Taken : ℕ → ℕ → ℕ → List Buffer → List Desc → Type 0
    Taken k b i bs es = trace w (replicate b tick) (during t (doing_table k i bs)) ≡ ending t h (bs ++ map buffer_of es)

    -- an indirect table
    turn_taken : (j k b i : ℕ) (bs : List Buffer) (ds es : List Desc) → Left (suc j) i ds es → length es ≤ k → length es ≤ b
        → has_indirect (desc_of i) ≡ true → has_next (desc_of i) ≡ false → Taken (suc k) (suc b) i bs es
    unfolding trace
    turn_taken j k b i bs ds es v l c d x =
        let d₁ : Desc = desc_of i in
        let e : ds ≡ d₁ ∷ [] = follow_last desc_of w.n j i ds v.followed x in
        let o : list_of w.base t.memory d₁ ≡ found es =
        expand_last d₁ [] es d x (ap (expand w.base t.memory) (sym e) ∙ v.listed) in
        let z : (d₁.addr - w.base) % 16 ≡ 0 = aligned_first d₁ [] (ap (aligned w.base) (sym e) ∙ v.even) d in
        ap (trace w (replicate b tick)) (table_turns k i bs d)
        ∙ list_taken t h d₁.addr (slot_of i) (omega arith) (d₁.len / 16) k b 0 (d₁.len / 16) bs es (list_of_lem w.base t.memory d₁ es o) l c

    -- the last descriptor
    end_taken : (j k b i : ℕ) (bs : List Buffer) (ds es : List Desc) → Left (suc j) i ds es
        → has_indirect (desc_of i) ≡ false → has_next (desc_of i) ≡ false → Taken (suc k) (suc b) i bs es
    unfolding trace expand
    end_taken j k b i bs ds es v d x =
        let e : ds ≡ desc_of i ∷ [] = follow_last desc_of w.n j i ds v.followed x in
        let r = expand_plain (desc_of i) [] es d (ap (expand w.base t.memory) (sym e) ∙ v.listed) in
        let y : es ≡ desc_of i ∷ [] = r.1 ∙ ap (λ z. desc_of i ∷ z) (sym (found_same [] r.0 r.2)) in
        ap (trace w (replicate b tick)) (table_ends k i bs d x)
        ∙ ticks_idle b (ending t h (bs ++ (buffer_of (desc_of i) ∷ []))) refl
        ∙ ap (λ z. ending t h (bs ++ map buffer_of z)) (sym y)

    -- so a chain is read to its end, with a step to spare for the descriptor that refers to a table
    table_taken : (j k b i : ℕ) (bs : List Buffer) (ds es : List Desc) → Left j i ds es → length es < k → length es < b → Taken k b i bs es
    unfolding follow trace
    table_taken zero k b i bs ds es v l c = absurd (lost_found ds v.followed)
    table_taken (suc j) zero b i bs ds es v l c = absurd (omega arith)
    table_taken (suc j) (suc k) zero i bs ds es v l c = absurd (omega arith)
    table_taken (suc j) (suc k) (suc b) i bs ds es v l c =
        by_test (has_next (desc_of i))
        (λ x. let r = follow_next desc_of w.n j i ds v.followed x in
        let o : expand w.base t.memory (desc_of i ∷ r.0) ≡ found es = ap (expand w.base t.memory) (sym r.1) ∙ v.listed in
        by_test (has_indirect (desc_of i))
        (λ d. absurd (expand_list (desc_of i) r.0 es d x o))
        (λ d. let p = expand_plain (desc_of i) r.0 es d o in
        let q : length es ≡ suc (length p.0) = ap length p.1 in
        let u : Left j (desc_of i).next r.0 p.0 = record {
          followed = r.2;
          listed = p.2;
          even = aligned_rest (desc_of i) r.0 (ap (aligned w.base) (sym r.1) ∙ v.even);
        } in
        ap (trace w (replicate b tick)) (table_goes k i bs d x)
        ∙ table_taken j k b (desc_of i).next (bs ++ (buffer_of (desc_of i) ∷ [])) r.0 p.0 u (omega arith) (omega arith)
        ∙ ap (ending t h) (append_assoc bs (buffer_of (desc_of i) ∷ []) (map buffer_of p.0) ∙ ap (λ y. bs ++ map buffer_of y) (sym p.1))))
        (λ x. by_test (has_indirect (desc_of i))
        (λ d. turn_taken j k b i bs ds es v (omega arith) (omega arith) d x)
        (λ d. end_taken j k b i bs ds es v d x))

  -- ---- the whole act

  -- what the device finds at its count: an entry that it has not taken, and at its head a chain that breaks no rule
  pub record Finds (t : Trace) (h : ℕ) (bs : List Buffer) : Type 0 where
    pub rests : acting t.device.doing ≡ false
    pub available : load_at (spot w.legacy w.n avail_idx) t.memory ≡ t.device.taken → ⊥
    pub slot : load_at (spot w.legacy w.n (avail_ring (t.device.taken % w.n))) t.memory ≡ h
    pub chain : chain_at w.n w.base t.memory h ≡ buffers bs
    pub even : lists_aligned w.base (follow (table_desc t.memory) w.n w.n h) ≡ true

  begins : (t : Trace) → acting t.device.doing ≡ false → event w (act take_next) t ≡ during (beginning t) take_idx
  unfolding event
  begins t e =
      ap (λ b. cond b t (works (take_next ∷ []) (goes t.device take_idx t.memory) t)) e
      ∙ ap (λ x. record {
        queue = t.queue;
        memory = t.memory;
        device = doing t.device take_idx;
        made = t.made;
        calls = t.calls;
        answers = t.answers;
        acts = t.acts ++ (take_next ∷ []);
        results = x;
      }) (append-nil t.results)

  module _ (t : Trace) (h : ℕ) (bs : List Buffer) (v : Finds t h bs) where
    abbrev u : Trace
    u = beginning t

    looks : event w tick (during u take_idx) ≡ during u take_head
    looks =
        tick_goes u take_idx take_head refl
        (ap (λ b. cond b (comes t.device none_available t.memory) (goes t.device take_head t.memory))
        (ne_eqb (load_at (spot w.legacy w.n avail_idx) t.memory) t.device.taken v.available))

    heads : event w tick (during u take_head) ≡ during u (take_chain h (w.n + 1) in_table h [])
    heads =
        tick_goes u take_head _ refl
        (ap (λ x. goes t.device (take_chain x (w.n + 1) in_table x []) t.memory) v.slot)

    -- THE LAW: n + 3 ticks are enough, so the cut after n + 1 descriptors, which would be tick n + 4, is not met
    pub takes_soon : (b : ℕ) → w.n < b → trace w (act take_next ∷ tick ∷ tick ∷ replicate b tick) t ≡ ending u h bs
    unfolding trace chain_at
    takes_soon b l =
        let f : Found = follow (table_desc t.memory) w.n w.n h in
        let r : Meant w.n w.base t.memory f bs = chain_means w.n w.base t.memory bs f v.chain in
        let p : length r.all ≤ w.n = r.most in
        let z : Left u h w.n h r.chain r.all = record {
          followed = r.followed;
          listed = r.listed;
          even = ap (lists_aligned w.base) (sym r.followed) ∙ v.even;
        } in
        ap (λ x. trace w (replicate b tick) (event w tick (event w tick x))) (begins t v.rests)
        ∙ ap (λ x. trace w (replicate b tick) (event w tick x)) looks
        ∙ ap (trace w (replicate b tick)) heads
        ∙ table_taken u h w.n (w.n + 1) b h [] r.chain r.all z (omega arith) (omega arith)
        ∙ ap (ending u h) r.same

    -- THE LAW of a whole take
    pub takes_chain : trace w (steps_of w.n (whole_act take_next)) t ≡ ending (beginning t) h bs
    takes_chain =
        let e : w.n + 4 ≡ suc (suc (w.n + 2)) = omega arith in
        ap (λ b. trace w (act take_next ∷ replicate b tick) t) e ∙ takes_soon (w.n + 2) (omega arith)
