-- What `gather` makes of a list, and the short list that stands for it in the calls; that the calls answer both alike is proved in proofs/Stands.
use Rattle.std.specs.Prelude.{◌≡◌, refl, Bool, true, false, not, cond, ◌||◌, ◌&&◌, ltb, map, take, drop, set, replicate}
use Rattle.std.proofs.Common.{sym, ◌∙◌, arith, lt-ltb, le-ltb, ltb-false, length-set, drop-cons, length-take-le, get_or-take, get_or-set_same, ext_get_or}
use Rattle.std.proofs.Math.Path.{ap}
use mathlib.Core.List.{List, [], ◌∷◌}
use Prim.Native.Nat.{ℕ, zero, suc, ◌≤◌, ◌<◌}
use Rattle.std.proofs.Math.ListN.{length, get_or, length-replicate}
use Rattle.std.proofs.Math.Seq.{get_or-set_other, set_out}
use Rattle.lists.specs.Tests.{by_test, by_eq}
use Rattle.virtio.specs.declared.Buffer.{Buffer}
use Rattle.virtio.specs.Desc.{no_buffer}
use Rattle.virtio.specs.Chain.{all_outputs, in_order}
use Rattle.buffers.specs.declared.gathering.Gathered.{Gathered}

-- ---- the copy

abbrev pub none_of : ℕ → Gathered
none_of n = record { count = n; list = replicate 65 no_buffer; written = false; mixed = false }

-- buffer i is kept where there is room for it, and its side noted in any case
abbrev pub kept : Gathered → ℕ → Buffer → Gathered
kept g i b =
    record { count = g.count; list = set g.list i b; written = g.written || b.output; mixed = g.mixed || (g.written && not b.output) }

-- a buffer's side is noted, where there is no room for the buffer
abbrev pub passed : Gathered → Bool → Gathered
passed g output = record { count = g.count; list = g.list; written = g.written || output; mixed = g.mixed || (g.written && not output) }

-- the first i buffers of xs are copied
unfoldable pub filled : List Buffer → ℕ → Gathered
filled xs zero = none_of (length xs)
filled xs (suc i) = kept (filled xs i) i (get_or xs i no_buffer)

abbrev pub gathered : List Buffer → Gathered
gathered xs = filled xs (length xs)

-- ---- the list that stands for it

-- a buffer with another side
abbrev pub with_side : Buffer → Bool → Buffer
with_side b o = record { addr = b.addr; len = b.len; output = o }

abbrev pub as_input : Buffer → Buffer
as_input b = with_side b false

-- 65 buffers for a longer one: the first is an output exactly if there an input comes after an output
abbrev pub cut : Gathered → Gathered
cut g = record {
  count = 65;
  list = set (map as_input g.list) 0 (with_side (get_or g.list 0 no_buffer) g.mixed);
  written = g.written;
  mixed = g.mixed;
}

abbrev pub shortened : Gathered → Gathered
shortened g = cond (ltb 64 g.count) (cut g) g

abbrev pub list_of : Gathered → List Buffer
list_of g = take g.count g.list

abbrev pub stands_for : Gathered → List Buffer
stands_for g = list_of (shortened g)

-- bs can stand for xs in a call: it is xs, or both have more buffers than any queue takes, and, where the call asks for it, both are in order or neither is
pub record StandsIn (ordered : Bool) (bs xs : List Buffer) : Type 0 where
  pub short : length xs ≤ 64 → bs ≡ xs
  pub long : 64 < length xs → 64 < length bs
  pub order : 64 < length xs → ordered ≡ true → in_order bs ≡ in_order xs

-- ---- what the code's branches make

pub kept_in : (g : Gathered) (i : ℕ) (b : Buffer) (late written mixed : Bool) → written ≡ (g.written || b.output) → late ≡ (g.written && not b.output) → mixed ≡ (g.mixed || late)
    → ◌≡◌ {A = Gathered} (record { count = g.count; list = set g.list i b; written = written; mixed = mixed }) (kept g i b)
kept_in g i b late written mixed w l m = rw (w, m, l)

pub kept_out : (g : Gathered) (i : ℕ) (b : Buffer) (late written mixed : Bool) → length g.list ≤ i
    → written ≡ (g.written || b.output) → late ≡ (g.written && not b.output) → mixed ≡ (g.mixed || late)
    → ◌≡◌ {A = Gathered} (record { count = g.count; list = g.list; written = written; mixed = mixed }) (kept g i b)
kept_out g i b late written mixed x w l m = rw (w, m, l, set_out g.list i b x)

pub shortened_short : (g : Gathered) → g.count ≤ 64 → g ≡ shortened g
shortened_short g l = rw (le-ltb 64 g.count l)

pub shortened_cut : (g : Gathered) → 64 < g.count → cut g ≡ shortened g
shortened_cut g l = rw (lt-ltb 64 g.count l)

-- as many buffers as stand for a list are in the array
pub within : (g r : Gathered) → r ≡ shortened g → length r.list ≡ 65 → r.count ≤ length r.list
within g r e l =
    let c : r.count ≡ (shortened g).count = ap (λ (x : Gathered). x.count) e in
    by_test (ltb 64 g.count)
    (λ t. let k : r.count ≡ 65 = c ∙ rw t in omega arith)
    (λ t. let k : r.count ≡ g.count = c ∙ rw t in let m : g.count ≤ 64 = ltb-false 64 g.count t in omega arith)

pub within_take : (g r : Gathered) → r ≡ shortened g → length r.list ≡ 65 → r.count ≡ length (take r.count r.list)
within_take g r e l = sym (length-take-le r.count r.list (within g r e l))

-- ---- a turn of the loop

pub filled_none : (xs : List Buffer) → none_of (length xs) ≡ filled xs 0
unfolding filled
filled_none xs = refl

pub filled_next : (xs : List Buffer) (i : ℕ) → kept (filled xs i) i (get_or xs i no_buffer) ≡ filled xs (suc i)
unfolding filled
filled_next xs i = refl

-- ---- what the array holds

pub filled_count : (xs : List Buffer) (i : ℕ) → (filled xs i).count ≡ length xs
unfolding filled
filled_count xs zero = refl
filled_count xs (suc i) = filled_count xs i

pub filled_length : (xs : List Buffer) (i : ℕ) → length (filled xs i).list ≡ 65
unfolding filled
filled_length xs zero = length-replicate {A = Buffer} 65 no_buffer
filled_length xs (suc i) = length-set (filled xs i).list i (get_or xs i no_buffer) ∙ filled_length xs i

filled_at : (xs : List Buffer) (i j : ℕ) → j < i → j < 65 → get_or (filled xs i).list j no_buffer ≡ get_or xs j no_buffer
unfolding filled
filled_at xs zero j l u = absurd (omega arith)
filled_at xs (suc i) j l u =
    let n : length (filled xs i).list ≡ 65 = filled_length xs i in
    by_eq j i
    (λ e. rw e (get_or-set_same (filled xs i).list i (get_or xs i no_buffer) no_buffer (omega arith)))
    (λ e. get_or-set_other (filled xs i).list i j (get_or xs i no_buffer) no_buffer e ∙ filled_at xs i j (omega arith) u)

-- ---- a list of at most 64 buffers is had whole

module _ (xs : List Buffer) (short : length xs ≤ 64) where
  abbrev copy : Gathered
  copy = gathered xs

  pub short_is : stands_for copy ≡ xs
  short_is =
      let n : copy.count ≡ length xs = filled_count xs (length xs) in
      let l : length copy.list ≡ 65 = filled_length xs (length xs) in
      let k : length (take (length xs) copy.list) ≡ length xs = length-take-le (length xs) copy.list (omega arith) in
      ap list_of (sym (shortened_short copy (omega arith)))
      ∙ (ap (λ c. take c copy.list) n
      ∙ ext_get_or no_buffer (take (length xs) copy.list) xs k
      (λ i h. get_or-take (length xs) copy.list i no_buffer (omega arith) ∙ filled_at xs (length xs) i (omega arith) (omega arith)))

-- ---- of a longer one, the order

-- what is left to ask of the order, when some sides are noted
abbrev pub order_left : Bool → Bool → List Buffer → Bool
order_left mixed written bs = cond mixed false (cond written (all_outputs bs) (in_order bs))

order_turn : (mixed written : Bool) (b : Buffer) (bs : List Buffer)
    → order_left mixed written (b ∷ bs) ≡ order_left (mixed || (written && not b.output)) (written || b.output) bs
unfolding all_outputs in_order
order_turn true written b bs = refl
order_turn false true b bs = by_test b.output (λ e. rw e) (λ e. rw e)
order_turn false false b bs = by_test b.output (λ e. rw e) (λ e. rw e)

pub order_so_far : (xs : List Buffer) (i : ℕ) → i ≤ length xs → in_order xs ≡ order_left (filled xs i).mixed (filled xs i).written (drop i xs)
unfolding filled
order_so_far xs zero l = refl
order_so_far xs (suc i) l =
    order_so_far xs i (omega arith)
    ∙ (ap (order_left (filled xs i).mixed (filled xs i).written) (drop-cons xs i no_buffer l)
    ∙ order_turn (filled xs i).mixed (filled xs i).written (get_or xs i no_buffer) (drop (suc i) xs))

pub order_end : (mixed written : Bool) → order_left mixed written [] ≡ not mixed
unfolding all_outputs in_order
order_end true written = refl
order_end false true = refl
order_end false false = refl
