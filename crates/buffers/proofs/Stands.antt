-- The calls answer the list that stands for a lent list as they answer the list: what rests on the order that the copy notes (specs/Gather).
use Rattle.std.specs.Prelude.{◌≡◌, refl, Bool, true, false, not, ltb, map, set}
use Rattle.std.proofs.Common.{sym, ◌∙◌, arith, ltb-true, ltb-false, length-set}
use Rattle.std.proofs.Math.Path.{ap}
use Rattle.std.proofs.lemmas.List.{length-map, take_all}
use mathlib.Core.List.{List, [], ◌∷◌}
use Prim.Native.Nat.{ℕ, ◌<◌}
use Rattle.std.proofs.Math.ListN.{length, get_or}
use Rattle.std.proofs.Math.Seq.{drop-length}
use Rattle.lists.specs.Tests.{by_test}
use Rattle.virtio.specs.declared.Buffer.{Buffer}
use Rattle.virtio.specs.Desc.{no_buffer}
use Rattle.virtio.specs.Memory.{Memory}
use Rattle.virtio.specs.Chain.{all_outputs, in_order}
use Rattle.rules.specs.Record.{Queue}
use Rattle.rules.specs.Calls.{open_add, open_pop, whole, add, pop_used}
use Rattle.buffers.specs.Long.{open_add_long, open_pop_long}
use Rattle.buffers.specs.Gather.{gathered, stands_for, list_of, cut, as_input, with_side, shortened_cut, filled_count, filled_length, short_is, order_left, order_so_far, order_end}

mixed_is : (xs : List Buffer) → in_order xs ≡ not (gathered xs).mixed
mixed_is xs =
    order_so_far xs (length xs) (omega arith)
    ∙ (ap (order_left (gathered xs).mixed (gathered xs).written) (drop-length xs) ∙ order_end (gathered xs).mixed (gathered xs).written)

-- buffers that are all inputs but for the first
inputs_in_order : (bs : List Buffer) → in_order (map as_input bs) ≡ true
unfolding in_order
inputs_in_order [] = refl
inputs_in_order (b ∷ bs) = inputs_in_order bs

order_of : (mixed : Bool) (bs : List Buffer) → length bs ≡ 65 → in_order (set (map as_input bs) 0 (with_side (get_or bs 0 no_buffer) mixed)) ≡ not mixed
unfolding in_order all_outputs
order_of mixed [] e = absurd (omega arith)
order_of mixed (b ∷ []) e = absurd (omega arith)
order_of true (b ∷ (c ∷ bs)) e = refl
order_of false (b ∷ (c ∷ bs)) e = inputs_in_order bs

module _ (xs : List Buffer) (long : 64 < length xs) where
  listed : length (gathered xs).list ≡ 65
  listed = filled_length xs (length xs)

  cut_length : length (cut (gathered xs)).list ≡ 65
  cut_length = length-set (map as_input (gathered xs).list) 0 _ ∙ (length-map (gathered xs).list as_input ∙ listed)

  pub long_is : stands_for (gathered xs) ≡ (cut (gathered xs)).list
  long_is =
      let n : (gathered xs).count ≡ length xs = filled_count xs (length xs) in
      ap list_of (sym (shortened_cut (gathered xs) (omega arith))) ∙ take_all 65 (cut (gathered xs)).list (omega (arith, cut_length))

  pub long_length : 64 < length (stands_for (gathered xs))
  long_length = let e : length (stands_for (gathered xs)) ≡ 65 = ap length long_is ∙ cut_length in omega arith

  pub long_order : in_order (stands_for (gathered xs)) ≡ in_order xs
  long_order = ap in_order long_is ∙ (order_of (gathered xs).mixed (gathered xs).list listed ∙ sym (mixed_is xs))

-- ---- THE LAWS: the calls answer the list that stands for it as they answer the list

module _ (q : Queue) (m : Memory) (xs : List Buffer) where
  pub open_add_stands : open_add q m (stands_for (gathered xs)) ≡ open_add q m xs
  open_add_stands =
      by_test (ltb 64 (length xs))
      (λ e. let l : 64 < length xs = ltb-true 64 (length xs) e in open_add_long q m (stands_for (gathered xs)) xs (long_length xs l) l (long_order xs l))
      (λ e. ap (open_add q m) (short_is xs (ltb-false 64 (length xs) e)))

  pub open_pop_stands : (t : ℕ) → open_pop q m t (stands_for (gathered xs)) ≡ open_pop q m t xs
  open_pop_stands t =
      by_test (ltb 64 (length xs))
      (λ e. let l : 64 < length xs = ltb-true 64 (length xs) e in open_pop_long q m (stands_for (gathered xs)) xs (long_length xs l) l t)
      (λ e. ap (open_pop q m t) (short_is xs (ltb-false 64 (length xs) e)))

  pub add_stands : add q m (stands_for (gathered xs)) ≡ add q m xs
  add_stands = ap (whole q.n) open_add_stands

  pub pop_stands : (t : ℕ) → pop_used q m t (stands_for (gathered xs)) ≡ pop_used q m t xs
  pop_stands t = ap (whole q.n) (open_pop_stands t)
