-- Five mixings, and for each all orders of its calls and acts that keep each side's own order, tried one by one: in one of them all answers, and all results with
-- the numbers and buffers in them, are those of the mixing. Record and memory are not compared. Each is a mixing that one of the wrong rules of WrongRules breaks.
use Rattle.std.specs.Prelude.{◌≡◌, refl, Bool, true, false, cond, ◌&&◌, ◌||◌, List, [], ◌∷◌, ◌++◌, map, ℕ, zero, suc, eqb, replicate, length}
use Rattle.lists.specs.Pick.{one_if}
use Rattle.virtio.specs.declared.Buffer.{Buffer}
use Rattle.rules.specs.Record.{is_open}
use Rattle.rules.specs.New.{new}
use Rattle.rules.specs.Computing.{computing}
use Rattle.mixing.specs.Device.{Wiring, acting, Act, take_next, complete, Result, none_available, not_taken, completed, stored, took, saw, without}
use Rattle.mixing.specs.Mix.{Call, add, pop_used_call, Event, call, step, act, tick, Answer, Trace, event, trace}
use Rattle.mixing.specs.Demand.{Whole, whole_call, whole_act, in_turn, start, wiring}
use Rattle.mixing.specs.Mixings.{direct, ask, lent, input, output}

-- ---- what is compared of two traces: answers and results, as numbers

-- each kind of result has a number of its own
abbrev kind : Result → ℕ
kind none_available = 0
kind not_taken = 1
kind completed = 2
kind stored = 3
kind (took h bs) = 4
kind (saw v) = 5

unfoldable pub buffers_code : List Buffer → List ℕ
buffers_code [] = []
buffers_code (b ∷ bs) = b.addr ∷ b.len ∷ one_if b.output ∷ buffers_code bs

-- and what it tells beside its kind
abbrev told : Result → List ℕ
told none_available = []
told not_taken = []
told completed = []
told stored = []
told (took h bs) = h ∷ length bs ∷ buffers_code bs
told (saw v) = v ∷ []

unfoldable pub results_code : List Result → List ℕ
results_code [] = []
results_code (r ∷ rs) = kind r ∷ told r ++ results_code rs

unfoldable pub answers_code : List Answer → List ℕ
answers_code [] = []
answers_code (r ∷ rs) = r.number ∷ r.value ∷ r.steps ∷ answers_code rs

abbrev code : Trace → List ℕ
code t = length t.answers ∷ answers_code t.answers ++ results_code t.results

unfoldable pub alike : List ℕ → List ℕ → Bool
alike [] [] = true
alike [] (y ∷ ys) = false
alike (x ∷ xs) [] = false
alike (x ∷ xs) (y ∷ ys) = eqb x y && alike xs ys

-- ---- the orders

abbrev calls : List Call → List Whole
calls cs = map (λ c. whole_call c) cs

abbrev acts : List Act → List Whole
acts xs = map (λ a. whole_act a) xs

-- all orders of two lists of operations, fewer than k together, that keep the order of each list
unfoldable pub orders : ℕ → List Whole → List Whole → List (List Whole)
orders zero xs ys = []
orders (suc k) [] ys = ys ∷ []
orders (suc k) (x ∷ xs) [] = (x ∷ xs) ∷ []
orders (suc k) (x ∷ xs) (y ∷ ys) = map (λ o. x ∷ o) (orders k xs (y ∷ ys)) ++ map (λ o. y ∷ o) (orders k (x ∷ xs) ys)

pub data Verdict : Type 0 where
  explained unexplained left_open : Verdict

-- for events that do what `does` says, from a fresh queue of size 2 on
module _ (does : Event → Trace → Trace) where
  unfoldable pub played : List Event → Trace → Trace
  played [] t = t
  played (e ∷ es) t = played es (does e t)

  abbrev pub mixed : List Event → Trace
  mixed es = played es (start (new (ask direct) lent))

  unfoldable pub some : List ℕ → List (List Whole) → Bool
  some c [] = false
  some c (o ∷ os) = alike (code (mixed (in_turn 2 o))) c || some c os

  abbrev pub verdict : List Event → Verdict
  verdict es =
      let t : Trace = mixed es in
      cond (is_open t.queue.call || acting t.device.doing) left_open
      (cond (some (code t) (orders 20 (calls t.calls) (acts t.acts))) explained unexplained)

-- a mixing is its events, played
pub played_is_trace : (w : Wiring) (es : List Event) (t : Trace) → played (event w) es t ≡ trace w es t
unfolding played trace
played_is_trace w [] t = refl
played_is_trace w (e ∷ es) t = played_is_trace w es (event w e t)

-- ---- the mixings

abbrev steps : ℕ → List Event
steps k = replicate k step

abbrev ticks : ℕ → List Event
ticks k = replicate k tick

-- a take looks when an add has one store left: it stores the slot first, and then idx
abbrev pub slot_then_idx : List Event
slot_then_idx =
    call (add (input ∷ [])) ∷ steps 4 ++ (act take_next ∷ ticks 3 ++ (call (add (output ∷ [])) ∷ steps 3 ++ (act take_next ∷ ticks 4 ++ steps 2)))

-- the same of a chain of two: its last descriptor without NEXT, and then idx
abbrev pub chain_then_idx : List Event
chain_then_idx = call (add (input ∷ output ∷ [])) ∷ steps 4 ++ (act take_next ∷ ticks 7 ++ steps 2)

-- a pop looks when a complete has made one store: its element, and then used idx
abbrev pub element_then_used_idx : List Event
element_then_used_idx =
    call (add (input ∷ [])) ∷ steps 4 ++ (act take_next ∷ ticks 3 ++ (act (complete 0 20) ∷ tick ∷ call (pop_used_call 0 (input ∷ [])) ∷ steps 5 ++ ticks 3))

-- a complete falls between the loads of a pop: used idx, and then the element
abbrev pub used_idx_then_element : List Event
used_idx_then_element =
    call (add (input ∷ []))
    ∷ steps 4 ++ (act take_next ∷ ticks 3 ++ (call (pop_used_call 0 (input ∷ [])) ∷ steps 2 ++ (act (complete 0 20) ∷ ticks 3 ++ steps 3)))

-- completes of chains that the device has not taken, the last of them within a pop
abbrev pub taken_then_completed : List Event
taken_then_completed =
    call (add (input ∷ []))
    ∷ steps 4 ++ (act (complete 0 5) ∷ ticks 3 ++ (act (complete 0 6)
    ∷ ticks 3 ++ (call (pop_used_call 0 (input ∷ [])) ∷ steps 2 ++ (act (complete 7 9) ∷ ticks 2 ++ (steps 2 ++ ticks 1)))))

-- ---- by the rules each has an order that explains it

abbrev ruled : List Event → Verdict
ruled es = verdict (event (wiring (ask direct))) es

pub slot_then_idx_explained : ruled slot_then_idx ≡ explained
unfolding computing event without orders buffers_code results_code answers_code alike played some
slot_then_idx_explained = refl

pub chain_then_idx_explained : ruled chain_then_idx ≡ explained
unfolding computing event without orders buffers_code results_code answers_code alike played some
chain_then_idx_explained = refl

pub element_then_used_idx_explained : ruled element_then_used_idx ≡ explained
unfolding computing event without orders buffers_code results_code answers_code alike played some
element_then_used_idx_explained = refl

pub used_idx_then_element_explained : ruled used_idx_then_element ≡ explained
unfolding computing event without orders buffers_code results_code answers_code alike played some
used_idx_then_element_explained = refl

pub taken_then_completed_explained : ruled taken_then_completed ≡ explained
unfolding computing event without orders buffers_code results_code answers_code alike played some
taken_then_completed_explained = refl
