-- Whether a list is the one that was added under a token, case by case.
use Rattle.std.specs.Prelude.{◌≡◌, Bool, true, false, cond, List, ℕ, ◌+◌, ◌*◌, ◌/◌, ◌%◌, ◌≤◌, ◌<◌}
use Rattle.std.proofs.Common.{sym, ap, ◌∙◌, subst, lt-ltb, le-ltb, eq-eqb, ne_eqb}
use Rattle.lists.specs.Pick.{run_of}
use Rattle.virtio.specs.declared.Desc.{Desc}
use Rattle.virtio.specs.declared.Buffer.{Buffer}
use Rattle.virtio.specs.Desc.{no_buffer, has_indirect}
use Rattle.rules.specs.Record.{Queue, desc_of, noted_of, buffers_of}
use Rattle.rules.specs.Meaning.{WellFormed}
use Rattle.rules.specs.Calls.{same_list, matches}
use Rattle.opens.specs.Given.{direct_in}
use Rattle.opens.specs.Openings.{slot_in}

module _ (q : Queue) (h : ℕ) (bs : List Buffer) where
  -- no chain is outstanding there
  pub matches_past : q.n ≤ h → false ≡ matches q h bs
  matches_past l = rw (le-ltb h q.n l)

  module _ (below : h < q.n) (k : ℕ) (noted : k ≡ noted_of q h) where
    pub matches_none : k ≡ 0 → false ≡ matches q h bs
    matches_none z = rw (lt-ltb h q.n below, eq-eqb (noted_of q h) 0 (sym noted ∙ z))

    module _ (some : k ≡ 0 → ⊥) (d : Desc) (loaded : d ≡ desc_of q h) where
      by_buffers : same_list (buffers_of q h) bs ≡ matches q h bs
      by_buffers = rw (lt-ltb h q.n below, ne_eqb (noted_of q h) 0 (λ z. some (noted ∙ z)))

      -- its head's descriptor refers to a list, or it does not
      pub matches_listed : d.flags / 4 % 2 ≡ 1 → (r : Bool) → r ≡ same_list (run_of no_buffer q.tables.kept (q.n * h) (d.len / 16)) bs → r ≡ matches q h bs
      matches_listed f r e =
          let t : has_indirect d ≡ true = eq-eqb (d.flags / 4 % 2) 1 f in
          e
          ∙ ap (λ (x : Bool). same_list (cond x (run_of no_buffer q.tables.kept (q.n * h) (d.len / 16)) (direct_in q.tables (noted_of q h) h)) bs) (sym t)
          ∙ ap (λ (x : Desc). same_list (cond (has_indirect x) (run_of no_buffer q.tables.kept (q.n * h) (x.len / 16)) (direct_in q.tables (noted_of q h) h)) bs) loaded
          ∙ by_buffers

      pub matches_direct : (d.flags / 4 % 2 ≡ 1 → ⊥) → (r : Bool) → r ≡ same_list (direct_in q.tables k h) bs → r ≡ matches q h bs
      matches_direct f r e =
          let t : has_indirect d ≡ false = ne_eqb (d.flags / 4 % 2) 1 f in
          e
          ∙ ap (λ j. same_list (direct_in q.tables j h) bs) noted
          ∙ ap (λ (x : Bool). same_list (cond x (run_of no_buffer q.tables.kept (q.n * h) (d.len / 16)) (direct_in q.tables (noted_of q h) h)) bs) (sym t)
          ∙ ap (λ (x : Desc). same_list (cond (has_indirect x) (run_of no_buffer q.tables.kept (q.n * h) (x.len / 16)) (direct_in q.tables (noted_of q h) h)) bs) loaded
          ∙ by_buffers

      -- and the list lies in its slot
      pub listed_in : WellFormed q → d.flags / 4 % 2 ≡ 1 → (r : ℕ) → q.n ≤ r → q.n * h + d.len / 16 ≤ r * r
      listed_in w f r l =
          slot_in q.n h (d.len / 16) r below
          (subst (λ (x : Desc). x.len / 16 ≤ q.n) (sym loaded) (w.listed h (record { below = below; noted = λ z. some (noted ∙ z) }) (ap has_indirect (sym loaded) ∙ eq-eqb (d.flags / 4 % 2) 1 f)).most)
          l
