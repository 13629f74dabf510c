-- When one side asks the other to be notified (VIRTIO 1.1: 2.6.7 used buffers, 2.6.10 available buffers). The rule is the same for both:
-- by the ring's flags, or with VIRTIO_F_EVENT_IDX by an event index. (Document 01's rule for the driver is the crate's, in rules, and differs.)
use Rattle.std.specs.Prelude.{◌≡◌, refl, Bool, true, false, ℕ, ◌+◌, ◌-◌, ◌%◌, ◌≤◌, ◌<◌, ltb, eqb}
use Rattle.std.proofs.Common.{◌∙◌, arith, lt-ltb, le-ltb, ltb-true, ltb-false}
use Rattle.lists.specs.Index.{ahead, after, ahead_leads, ahead_only}

-- without event indices: flags 0 asks for notification, 1 asks to leave it
abbrev pub by_flags : ℕ → Bool
by_flags flags = eqb (flags % 2) 0

-- with event indices: one of the c entries that were put in from index old on stands at the event index
abbrev pub by_event : ℕ → ℕ → ℕ → Bool
by_event event old c = ltb (ahead event old) c

-- the form that implementations compute, from the index new after the entries: (new - event - 1) mod 65,536 is below the number of entries
abbrev pub need_event : ℕ → ℕ → ℕ → Bool
need_event event new c = ltb (ahead new (after event)) c

-- four entries that end at index 2 stand at 65,534 to 1, three of them at 65,535 to 1
across_the_wrap : (need_event 65534 2 4 ≡ true) × (need_event 65534 2 3 ≡ false) × (by_event 65534 65534 4 ≡ true) × (by_event 65534 65535 3 ≡ false)
across_the_wrap = (refl, refl, refl, refl)

-- ---- the two forms are one, for up to 65,536 entries

reach : (old g k : ℕ) → (((old + g) % 65536 + 1) % 65536 + k) % 65536 ≡ (old + (g + 1 + k)) % 65536
reach old g k = omega arith

round : (old g k c : ℕ) → g + 1 + k ≡ 65536 + c → (old + (g + 1 + k)) % 65536 ≡ (old + c) % 65536
round old g k c e = rw e (omega arith)

pub event_forms : (event old c : ℕ) → event < 65536 → c ≤ 65536 → need_event event ((old + c) % 65536) c ≡ by_event event old c
event_forms event old c e h = go (ltb (ahead event old) c) (ahead event old) refl (ahead_leads event old e) (omega arith)
  where
    go : (t : Bool) (g : ℕ) → ltb g c ≡ t → (old + g) % 65536 ≡ event → g < 65536 → need_event event ((old + c) % 65536) c ≡ ltb g c
    go true g f l w =
        let b : g < c = ltb-true g c f in
        let k : g + 1 + (c - 1 - g) ≡ c = omega arith in
        let m : (after event + (c - 1 - g)) % 65536 ≡ (old + c) % 65536 = rw (← l) (reach old g (c - 1 - g) ∙ rw k refl) in
        rw (f, ahead_only ((old + c) % 65536) (after event) (c - 1 - g) (omega arith) m) (lt-ltb (c - 1 - g) c (omega arith))
    go false g f l w =
        let b : c ≤ g = ltb-false g c f in
        let k : ℕ = 65535 + c - g in
        let s : g + 1 + k ≡ 65536 + c = omega arith in
        let m : (after event + k) % 65536 ≡ (old + c) % 65536 = rw (← l) (reach old g k ∙ round old g k c s) in
        rw (f, ahead_only ((old + c) % 65536) (after event) k (omega arith) m) (le-ltb k c (omega arith))
