-- A well-formed owning record in plain words, both ways: each token's buffer is out, alone and whole, or in the caller's hand.
use Rattle.std.specs.Prelude.{Option, None, Some, ◌≡◌, ◌⊎◌, Bool, ◌&&◌, ◌||◌, List, [], ◌∷◌, ℕ, suc, ◌+◌, ◌*◌, ◌≤◌, ◌<◌, ltb, leb}
use Rattle.std.proofs.Math.Path.{refl, ap}
use Rattle.std.proofs.Common.{sym, ap₂, ◌∙◌, inl, inr, true≢false, arith, suc-mul, mul-le-mul_right}
use Rattle.std.proofs.Math.Bool.{true, false, not, cond}
use Rattle.std.specs.Bool.{beq}
use Rattle.std.proofs.lemmas.Bool.{false≢true}
use borrow.Author.Tests.{lt-ltb, le-leb, eq-eqb, ltb-true, ltb-false, leb-true, eqb-true, eqb-false, not-true, not-false}
use Rattle.std.proofs.Math.Dec.{eqb}
use Rattle.lists.specs.Pick.{first, every}
use Rattle.lists.specs.PickLaws.{every_true, true_every, first_none, none_first, NoneOf}
use Rattle.lists.specs.Tests.{by_test, by_eq, and_left, and_right, and_both, implied, implies, false_not}
use Rattle.virtio.specs.declared.Buffer.{Buffer}
use Rattle.rules.specs.declared.Open.TheVariants.{Idle}
use Rattle.rules.specs.declared.Held.{Held}
use Rattle.rules.specs.Record.{Queue, outstanding, buffers_of, is_open}
use Rattle.rules.specs.WellFormed.{base_ok, broken, well_formed}
use Rattle.rules.specs.Meaning.{WellFormed, Out, Based}
use Rattle.rules.specs.Calls.{same_list}
use Rattle.rules.specs.Owning.{holds, Owning, own_buffer, own_list, size_allowed, own_clause, held_clause, placed_clause, own_tests, own_broken, own_well_formed}
use Rattle.laws.specs.WellFormedIs.{well_formed_means, means_well_formed, based_means, means_based, out_means, means_out}
use Rattle.laws.specs.CallKeeps.{Good, none_open}

-- ---- two lists of buffers that test as one are one

side_means : (a b : Bool) → beq a b ≡ true → a ≡ b
side_means true true e = refl
side_means true false e = absurd (false≢true e)
side_means false true e = absurd (false≢true e)
side_means false false e = refl

side_same : (a : Bool) → beq a a ≡ true
side_same true = refl
side_same false = refl

buffer_is : (b c : Buffer) → b.addr ≡ c.addr → b.len ≡ c.len → b.output ≡ c.output → b ≡ c
buffer_is b c x y z = λ i. record { addr = x i; len = y i; output = z i }

pub list_means : (bs cs : List Buffer) → same_list bs cs ≡ true → bs ≡ cs
unfolding same_list
list_means [] [] e = refl
list_means [] (c ∷ cs) e = absurd (false≢true e)
list_means (b ∷ bs) [] e = absurd (false≢true e)
list_means (b ∷ bs) (c ∷ cs) e =
    let x : Bool = eqb b.addr c.addr in
    let y : Bool = eqb b.len c.len in
    let z : Bool = beq b.output c.output in
    let f : (y && (z && same_list bs cs)) ≡ true = and_right x (y && (z && same_list bs cs)) e in
    let g : (z && same_list bs cs) ≡ true = and_right y (z && same_list bs cs) f in
    ap₂ (λ (d : Buffer) (ds : List Buffer). d ∷ ds)
    (buffer_is b c (eqb-true b.addr c.addr (and_left x (y && (z && same_list bs cs)) e))
    (eqb-true b.len c.len (and_left y (z && same_list bs cs) f))
    (side_means b.output c.output (and_left z (same_list bs cs) g)))
    (list_means bs cs (and_right z (same_list bs cs) g))

list_same : (bs : List Buffer) → same_list bs bs ≡ true
unfolding same_list
list_same [] = refl
list_same (b ∷ bs) =
    rw (eq-eqb b.addr b.addr refl, eq-eqb b.len b.len refl, side_same b.output) (list_same bs)

pub means_list : (bs cs : List Buffer) → bs ≡ cs → same_list bs cs ≡ true
means_list bs cs e = ap (λ l. same_list l cs) e ∙ list_same cs

-- ---- IN PLAIN WORDS

-- the buffer of token h is out, as a chain of its own
pub record Away (o : Owning) (h : ℕ) : Type 0 where
  pub out : Out o.queue h
  pub list : buffers_of o.queue h ≡ own_list o h

-- the caller holds the buffer of token h, shown no more bytes than it has, and it is not out
pub record InHand (o : Owning) (h : ℕ) : Type 0 where
  pub below : h < o.queue.n
  pub len : ℕ
  pub held : o.held ≡ holds h len
  pub within : len ≤ o.size
  pub not_out : Out o.queue h → ⊥

pub record OwnWell (o : Owning) : Type 0 where
  -- the queue is well formed, and none of its calls is open
  pub queue : WellFormed o.queue
  pub idle : o.queue.call ≡ Idle
  -- base and size are allowed
  pub based : Based o.base (o.queue.n * o.size)
  pub some : 1 ≤ o.size
  pub most : o.size ≤ 1024
  -- each token's buffer is out or in hand, and what is said to be held is in hand
  pub tokens : (h : ℕ) → h < o.queue.n → Away o h ⊎ InHand o h
  pub holding : (t l : ℕ) → o.held ≡ holds t l → InHand o t

-- what is held tells its token and its length
token_in : Option Held → ℕ
token_in None = 0
token_in (Some h) = h.token

len_in : Option Held → ℕ
len_in None = 0
len_in (Some h) = h.len

pub same_token : (t l u k : ℕ) → holds t l ≡ holds u k → t ≡ u
unfolding token_in
same_token t l u k e = ap token_in e

pub same_len : (t l u k : ℕ) → holds t l ≡ holds u k → l ≡ k
unfolding len_in
same_len t l u k e = ap len_in e

-- never both; and at most one is in hand
pub never_both : (o : Owning) (h : ℕ) → Away o h → InHand o h → ⊥
never_both o h a i = i.not_out a.out

pub one_held : (o : Owning) (h k : ℕ) → InHand o h → InHand o k → h ≡ k
one_held o h k x y = same_token h x.len k y.len (sym x.held ∙ y.held)

-- a record that holds nothing holds no token
pub none_held : (o : Owning) → o.held ≡ None → (h : ℕ) → InHand o h → ⊥
none_held o e h x = let p = x.held in let z : ◌≡◌ {A = ℕ} 0 1 = cc in omega arith

-- ---- the test says so

module _ (o : Owning) where
  abbrev q : Queue
  q = o.queue

  -- none of the tests fails, neither the queue's nor those of its buffers
  pub none_broken : own_well_formed o ≡ true → (well_formed q ≡ true) × NoneOf (own_tests o)
  unfolding own_well_formed own_broken well_formed
  none_broken e = go (well_formed q) refl (eqb-true (own_broken o) 0 e)
    where
      go : (b : Bool) → well_formed q ≡ b → cond b (first (own_tests o)) (broken q) ≡ 0 → (well_formed q ≡ true) × NoneOf (own_tests o)
      go true f z = (f, first_none (own_tests o) (omega arith) z)
      go false f z = absurd (true≢false (sym (eq-eqb (broken q) 0 z) ∙ f))

  -- what a held token's clause says
  pub record HoldsIs (t l : ℕ) : Type 0 where
    pub below : t < q.n
    pub not_out : Out q t → ⊥
    pub others : (h : ℕ) → h < q.n → (h ≡ t → ⊥) → Out q h
    pub within : l ≤ o.size

  not_out_means : (h : ℕ) → outstanding q h ≡ false → Out q h → ⊥
  not_out_means h e p = true≢false (sym (means_out q h p) ∙ e)

  other_out : (t h : ℕ) → (eqb h t || outstanding q h) ≡ true → (h ≡ t → ⊥) → Out q h
  other_out t h e d = go (eqb h t) refl e
    where
      go : (b : Bool) → eqb h t ≡ b → (b || outstanding q h) ≡ true → Out q h
      go true f z = absurd (d (eqb-true h t f))
      go false f z = out_means q h z

  holds_means : (t l : ℕ) → held_clause o (holds t l) ≡ true → HoldsIs t l
  holds_means t l e =
      let p : ℕ → Bool = λ h. eqb h t || outstanding q h in
      let c : Bool = every p q.n 0 && leb l o.size in
      let x : (not (outstanding q t) && c) ≡ true = and_right (ltb t q.n) (not (outstanding q t) && c) e in
      let y : c ≡ true = and_right (not (outstanding q t)) c x in
      record {
        below = ltb-true t q.n (and_left (ltb t q.n) (not (outstanding q t) && c) e);
        not_out = not_out_means t (not-true (outstanding q t) (and_left (not (outstanding q t)) c x));
        others =
            λ h b. other_out t h (every_true p q.n 0 (and_left (every p q.n 0) (leb l o.size) y) h (omega arith) (omega arith));
        within = leb-true l o.size (and_right (every p q.n 0) (leb l o.size) y);
      }

  own_list_lem : own_clause o ≡ true → (h : ℕ) → Out q h → buffers_of q h ≡ own_list o h
  own_list_lem e h p =
      let b : h < q.n = p.below in
      list_means (buffers_of q h) (own_list o h)
      (implied (outstanding q h) (same_list (buffers_of q h) (own_list o h))
      (every_true (λ i. not (outstanding q i) || same_list (buffers_of q i) (own_list o i)) q.n 0 e h (omega arith) (omega arith))
      (means_out q h p))

  away_if : own_clause o ≡ true → (h : ℕ) → Out q h → Away o h
  away_if e h p = record { out = p; list = own_list_lem e h p }

  hand_if : (t l : ℕ) → o.held ≡ holds t l → HoldsIs t l → InHand o t
  hand_if t l e p =
      record { below = p.below; len = l; held = e; within = p.within; not_out = p.not_out }

  each_if : own_clause o ≡ true → (x : Option Held) → o.held ≡ x → held_clause o x ≡ true → (h : ℕ) → h < q.n → Away o h ⊎ InHand o h
  each_if e None f c h b =
      inl (away_if e h (out_means q h (every_true (outstanding q) q.n 0 c h (omega arith) (omega arith))))
  each_if e (Some x) f c h b =
      let t : ℕ = x.token in
      let l : ℕ = x.len in
      let p : HoldsIs t l = holds_means t l c in
      by_eq h t
      (λ s. inr (hand_if h l (f ∙ ap (λ k. holds k l) (sym s)) (holds_means h l (ap (λ k. held_clause o (holds k l)) s ∙ c))))
      (λ d. inl (away_if e h (p.others h b d)))

  -- THE LAW: a record that passes the test is well formed in plain words
  pub own_means : own_well_formed o ≡ true → OwnWell o
  own_means e =
      let t = none_broken e in
      let b : placed_clause o ≡ true = not-false _ t.1.1.0 in
      let z : (leb 1 o.size && leb o.size 1024) ≡ true = and_right (base_ok o.base (q.n * o.size)) (size_allowed o.size) b in
      let c : own_clause o ≡ true = not-false _ t.1.1.1.0 in
      let h : held_clause o o.held ≡ true = not-false _ t.1.1.1.1.0 in
      record {
        queue = well_formed_means q t.0;
        idle = none_open q.call t.1.0;
        based = based_means o.base (q.n * o.size) (and_left (base_ok o.base (q.n * o.size)) (size_allowed o.size) b);
        some = leb-true 1 o.size (and_left (leb 1 o.size) (leb o.size 1024) z);
        most = leb-true o.size 1024 (and_right (leb 1 o.size) (leb o.size 1024) z);
        tokens = each_if c o.held refl h;
        holding = λ t l f. hand_if t l f (holds_means t l (ap (held_clause o) (sym f) ∙ h));
      }

  -- ---- and back

  module _ (w : OwnWell o) where
    -- every token but the held one is out with its own buffer; with nothing held, every token
    pub other_away : (t : ℕ) → InHand o t → (h : ℕ) → h < q.n → (h ≡ t → ⊥) → Away o h
    other_away t x h b d = from (w.tokens h b)
      where
        from : Away o h ⊎ InHand o h → Away o h
        from (inl a) = a
        from (inr y) = absurd (d (one_held o h t y x))

    pub all_away : o.held ≡ None → (h : ℕ) → h < q.n → Away o h
    all_away e h b = from (w.tokens h b)
      where
        from : Away o h ⊎ InHand o h → Away o h
        from (inl a) = a
        from (inr y) = absurd (none_held o e h y)

    out_list : (h : ℕ) → Out q h → Away o h ⊎ InHand o h → buffers_of q h ≡ own_list o h
    out_list h p (inl a) = a.list
    out_list h p (inr y) = absurd (y.not_out p)

    lists_if : own_clause o ≡ true
    lists_if =
        true_every (λ h. not (outstanding q h) || same_list (buffers_of q h) (own_list o h)) q.n 0
        (λ h l u. implies (outstanding q h) (same_list (buffers_of q h) (own_list o h))
        (λ e. means_list (buffers_of q h) (own_list o h) (out_list h (out_means q h e) (w.tokens h (omega arith)))))

    in_if : (t : ℕ) → (Out q t → ⊥) → not (outstanding q t) ≡ true
    in_if t d =
        by_test (outstanding q t)
        (λ e. absurd (d (out_means q t e)))
        (λ e. false_not (outstanding q t) e)

    but_one : (t h : ℕ) → InHand o t → h < q.n → (eqb h t || outstanding q h) ≡ true
    but_one t h x b =
        by_test (eqb h t)
        (λ e. ap (λ c. c || outstanding q h) e)
        (λ e. ap (λ c. c || outstanding q h) e ∙ means_out q h (other_away t x h b (eqb-false h t e)).out)

    held_if : (x : Option Held) → o.held ≡ x → held_clause o x ≡ true
    held_if None e =
        true_every (outstanding q) q.n 0 (λ h l u. means_out q h (all_away e h (omega arith)).out)
    held_if (Some h) e =
        let t : ℕ = h.token in
        let l : ℕ = h.len in
        let x : InHand o t = w.holding t l e in
        let y : o.held ≡ holds t x.len = x.held in
        let s : l ≡ x.len = cc in
        let v : x.len ≤ o.size = x.within in
        let p : ℕ → Bool = λ h. eqb h t || outstanding q h in
        let z : every p q.n 0 ≡ true = true_every p q.n 0 (λ h a u. but_one t h x (omega arith)) in
        and_both (ltb t q.n) (not (outstanding q t) && (every p q.n 0 && leb l o.size)) (lt-ltb t q.n x.below)
        (and_both (not (outstanding q t)) (every p q.n 0 && leb l o.size) (in_if t x.not_out)
        (and_both (every p q.n 0) (leb l o.size) z (le-leb l o.size (omega arith))))

    -- THE LAW: a record that is well formed in plain words passes the test
    pub means_own : own_well_formed o ≡ true
    unfolding own_well_formed own_broken
    means_own =
        let b : placed_clause o ≡ true =
        and_both (base_ok o.base (q.n * o.size)) (size_allowed o.size) (means_based o.base (q.n * o.size) w.based)
        (and_both (leb 1 o.size) (leb o.size 1024) (le-leb 1 o.size w.some) (le-leb o.size 1024 w.most)) in
        ap (λ c. eqb (cond c (first (own_tests o)) (broken q)) 0) (means_well_formed q w.queue)
        ∙ eq-eqb (first (own_tests o)) 0 (none_first (own_tests o) (ap is_open w.idle, (ap not b, (ap not lists_if, (ap not (held_if o.held refl), tt)))))

-- ---- a good owning record: its queue is one as private memory can hold it, and it passes the test

pub record OwnGood (o : Owning) : Type 0 where
  pub good : Good o.queue
  pub well : own_well_formed o ≡ true

-- THE LAW: of a good record, each token's buffer is out, alone under its token, or in hand
pub each_token : (o : Owning) → OwnGood o → (h : ℕ) → h < o.queue.n → Away o h ⊎ InHand o h
each_token o g = (own_means o g.well).tokens

-- THE LAW: the buffers of two tokens share no byte: one ends before the other starts
pub slot_ends : (size h k : ℕ) → h < k → h * size + size ≤ k * size
slot_ends size h k l =
    let m : suc h * size ≤ k * size = mul-le-mul_right size l in
    let s : suc h * size ≡ h * size + size = suc-mul h size in
    omega arith

-- where a buffer starts, and where it ends
abbrev pub starts : Buffer → ℕ
starts b = b.addr

abbrev pub finishes : Buffer → ℕ
finishes b = b.addr + b.len

pub buffers_apart : (base size h k : ℕ) → (h ≡ k → ⊥)
    → (finishes (own_buffer base size h) ≤ starts (own_buffer base size k)) ⊎ (finishes (own_buffer base size k) ≤ starts (own_buffer base size h))
buffers_apart base size h k d =
    by_test (ltb h k)
    (λ e. inl (let l = slot_ends size h k (ltb-true h k e) in omega arith))
    (λ e. inr (let u : k ≤ h = ltb-false h k e in let l = slot_ends size k h (omega arith) in omega arith))
