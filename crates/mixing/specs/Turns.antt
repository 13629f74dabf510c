-- A REDUCTION for sides in general, however many they are. Each side makes events, and has at most one operation open. Where an event that leaves its side's
-- operation open may change places with an event of any other side that follows it, every list of events that leaves nothing open leaves what its turns
-- leave, one after the other: a turn is one operation, made by one side alone from a moment when nothing is open, and the turns stand in the order of
-- their last events. So each operation takes effect at its last event. Demand 3 has two sides; a device of two workers would make three.
use Rattle.std.specs.Prelude.{◌≡◌, refl, true, false, ◌⊎◌}
use Rattle.std.proofs.Common.{sym, ap, ap₂, ◌∙◌, true≢false, inl, inr}
use Rattle.std.proofs.Math.Path.{subst}
use Rattle.std.proofs.Math.Bool.{Bool, cond}
use mathlib.Core.List.{List, [], ◌∷◌, ◌++◌, append-nil, append_assoc}
use Rattle.lists.specs.Tests.{by_test}

-- Sides, their events, and the state that all share: whose an event is, what it does, and whether a side has an operation open.
pub record Sides : Type 1 where
  pub Side : Type 0
  pub Event : Type 0
  pub State : Type 0
  pub same : (i j : Side) → (i ≡ j) ⊎ (i ≡ j → ⊥)
  pub whose : Event → Side
  pub event : Event → State → State
  pub is_open : Side → State → Bool

-- WHAT IS TO BE SHOWN of them, with an invariant: it is kept; an event opens and closes nothing of another side; and an event that leaves its side's
-- operation open changes places with an event of another side that follows it.
pub record Swaps (Y : Sides) (Inv : Y.State → Type 0) : Type 0 where
  pub keeps : (e : Y.Event) (t : Y.State) → Inv t → Inv (Y.event e t)
  pub apart : (e : Y.Event) (i : Y.Side) (t : Y.State) → Inv t → (Y.whose e ≡ i → ⊥) → Y.is_open i (Y.event e t) ≡ Y.is_open i t
  pub swaps : (a b : Y.Event) (t : Y.State) → Inv t → (Y.whose a ≡ Y.whose b → ⊥) → Y.is_open (Y.whose a) (Y.event a t) ≡ true
      → Y.event b (Y.event a t) ≡ Y.event a (Y.event b t)

module _ (Y : Sides) where
  abbrev pub events : List Y.Event → Y.State → Y.State
  events [] t = t
  events (e ∷ es) t = events es (Y.event e t)

  -- all are events of side i; none is
  abbrev pub Own : Y.Side → List Y.Event → Type 0
  Own i [] = Unit {0}
  Own i (e ∷ es) = (Y.whose e ≡ i) × Own i es

  abbrev Others : Y.Side → List Y.Event → Type 0
  Others i [] = Unit {0}
  Others i (e ∷ es) = (Y.whose e ≡ i → ⊥) × Others i es

  -- nothing is open
  abbrev pub Quiet : Y.State → Type 0
  Quiet t = (i : Y.Side) → Y.is_open i t ≡ false

  -- each event leaves its side's operation open
  abbrev pub Inner : List Y.Event → Y.State → Type 0
  Inner [] t = Unit {0}
  Inner (e ∷ es) t = (Y.is_open (Y.whose e) (Y.event e t) ≡ true) × Inner es (Y.event e t)

  -- side i's events of a list, and those of all others
  abbrev pub ours : {i j : Y.Side} → (i ≡ j) ⊎ (i ≡ j → ⊥) → Y.Event → List Y.Event → List Y.Event
  ours (inl e) x xs = x ∷ xs
  ours (inr d) x xs = xs

  abbrev pub theirs : {i j : Y.Side} → (i ≡ j) ⊎ (i ≡ j → ⊥) → Y.Event → List Y.Event → List Y.Event
  theirs (inl e) x xs = xs
  theirs (inr d) x xs = x ∷ xs

  abbrev pub mine : Y.Side → List Y.Event → List Y.Event
  mine i [] = []
  mine i (x ∷ xs) = ours (Y.same (Y.whose x) i) x (mine i xs)

  abbrev pub rest : Y.Side → List Y.Event → List Y.Event
  rest i [] = []
  rest i (x ∷ xs) = theirs (Y.same (Y.whose x) i) x (rest i xs)

  -- ---- turns

  -- a turn: the events of an operation, the last of them by itself
  pub record Turn : Type 0 where
    pub before : List Y.Event
    pub last : Y.Event

  abbrev pub events_of : Turn → List Y.Event
  events_of r = r.before ++ (r.last ∷ [])

  abbrev pub events_in : List Turn → List Y.Event
  events_in [] = []
  events_in (r ∷ rs) = events_of r ++ events_in rs

  -- WHAT A TURN IS: from t on one side alone makes its events; all but the last leave its operation open, and the last leaves nothing open
  pub record Whole-turn (r : Turn) (t : Y.State) : Type 0 where
    pub own : Own (Y.whose r.last) r.before
    pub inner : Inner r.before t
    pub quiet : Quiet (events (events_of r) t)

  -- turns, one after the other, lead from t to u
  abbrev pub Turned : List Turn → Y.State → Y.State → Type 0
  Turned [] t u = t ≡ u
  Turned (r ∷ rs) t u = Whole-turn r t × Turned rs (events (events_of r) t) u

  -- THE TURNS of a list of events, by their last events: at t the operations that are open have made the events p so far
  unfoldable pub turns : List Y.Event → List Y.Event → Y.State → List Turn
  turns p [] t = []
  turns p (e ∷ es) t =
      let u : Y.State = Y.event e t in
      let going : List Turn = turns (p ++ (e ∷ [])) es u in
      let later : List Turn = turns (rest (Y.whose e) p) es u in
      cond (Y.is_open (Y.whose e) u) going (record { before = mine (Y.whose e) p; last = e } ∷ later)

  -- THE CONCLUSION: from t to u the turns ts lead, and each side's events stand in them in that side's own order
  pub record Ordered (es : List Y.Event) (ts : List Turn) (t u : Y.State) : Type 0 where
    pub turned : Turned ts t u
    pub kept : (j : Y.Side) → mine j (events_in ts) ≡ mine j es

  -- ---- lists of events

  pub events_append : (xs ys : List Y.Event) (t : Y.State) → events (xs ++ ys) t ≡ events ys (events xs t)
  events_append [] ys t = refl
  events_append (x ∷ xs) ys t = events_append xs ys (Y.event x t)

  -- what every event keeps, they keep
  pub events_keep : (Inv : Y.State → Type 0) → ((e : Y.Event) (t : Y.State) → Inv t → Inv (Y.event e t)) → (es : List Y.Event) (t : Y.State)
      → Inv t → Inv (events es t)
  events_keep Inv keeps [] t v = v
  events_keep Inv keeps (e ∷ es) t v = events_keep Inv keeps es (Y.event e t) (keeps e t v)

  own_append : (i : Y.Side) (xs ys : List Y.Event) → Own i xs → Own i ys → Own i (xs ++ ys)
  own_append i [] ys a b = b
  own_append i (x ∷ xs) ys a b = (a.0, own_append i xs ys a.1 b)

  inner_append : (xs : List Y.Event) (e : Y.Event) (t : Y.State) → Inner xs t → Y.is_open (Y.whose e) (Y.event e (events xs t)) ≡ true
      → Inner (xs ++ (e ∷ [])) t
  inner_append [] e t n o = (o, tt)
  inner_append (x ∷ xs) e t n o = (n.0, inner_append xs e (Y.event x t) n.1 o)

  mine_own : (i : Y.Side) (xs : List Y.Event) → Own i (mine i xs)
  mine_own i [] = tt
  mine_own i (x ∷ xs) = go (Y.same (Y.whose x) i) (mine_own i xs)
    where
      go : (d : (Y.whose x ≡ i) ⊎ (Y.whose x ≡ i → ⊥)) → Own i (mine i xs) → Own i (ours d x (mine i xs))
      go (inl e) o = (e, o)
      go (inr n) o = o

  rest_others : (i : Y.Side) (xs : List Y.Event) → Others i (rest i xs)
  rest_others i [] = tt
  rest_others i (x ∷ xs) = go (Y.same (Y.whose x) i) (rest_others i xs)
    where
      go : (d : (Y.whose x ≡ i) ⊎ (Y.whose x ≡ i → ⊥)) → Others i (rest i xs) → Others i (theirs d x (rest i xs))
      go (inl e) o = o
      go (inr n) o = (n, o)

  own_others : (i j : Y.Side) (es : List Y.Event) → (i ≡ j → ⊥) → Own i es → Others j es
  own_others i j [] d o = tt
  own_others i j (e ∷ es) d o = ((λ p. d (sym o.0 ∙ p)), own_others i j es d o.1)

  -- where each event leaves its side's operation open, one is open at the end
  still_open : (e : Y.Event) (es : List Y.Event) (t : Y.State) → Inner (e ∷ es) t → Quiet (events (e ∷ es) t) → ⊥
  still_open e [] t i q = true≢false (sym i.0 ∙ q (Y.whose e))
  still_open e (x ∷ es) t i q = still_open x es (Y.event e t) i.1 q

  -- ---- each side's own order

  mine_append : (j : Y.Side) (xs ys : List Y.Event) → mine j (xs ++ ys) ≡ mine j xs ++ mine j ys
  mine_append j [] ys = refl
  mine_append j (x ∷ xs) ys = go (Y.same (Y.whose x) j) (mine_append j xs ys)
    where
      go : (d : (Y.whose x ≡ j) ⊎ (Y.whose x ≡ j → ⊥)) → mine j (xs ++ ys) ≡ mine j xs ++ mine j ys
          → ours d x (mine j (xs ++ ys)) ≡ ours d x (mine j xs) ++ mine j ys
      go (inl e) h = ap (λ z. x ∷ z) h
      go (inr n) h = h

  mine_all : (j : Y.Side) (xs : List Y.Event) → Own j xs → mine j xs ≡ xs
  mine_all j [] o = refl
  mine_all j (x ∷ xs) o = go (Y.same (Y.whose x) j) (mine_all j xs o.1)
    where
      go : (d : (Y.whose x ≡ j) ⊎ (Y.whose x ≡ j → ⊥)) → mine j xs ≡ xs → ours d x (mine j xs) ≡ x ∷ xs
      go (inl e) h = ap (λ z. x ∷ z) h
      go (inr n) h = absurd (n o.0)

  mine_none : (j : Y.Side) (xs : List Y.Event) → Others j xs → mine j xs ≡ []
  mine_none j [] o = refl
  mine_none j (x ∷ xs) o = go (Y.same (Y.whose x) j) (mine_none j xs o.1)
    where
      go : (d : (Y.whose x ≡ j) ⊎ (Y.whose x ≡ j → ⊥)) → mine j xs ≡ [] → ours d x (mine j xs) ≡ []
      go (inl e) h = absurd (o.0 e)
      go (inr n) h = h

  -- another side's events are among those that are not side i's
  mine_rest : (i j : Y.Side) (xs : List Y.Event) → (i ≡ j → ⊥) → mine j (rest i xs) ≡ mine j xs
  mine_rest i j [] n = refl
  mine_rest i j (x ∷ xs) n = go (Y.same (Y.whose x) i) (mine_rest i j xs n)
    where
      go : (d : (Y.whose x ≡ i) ⊎ (Y.whose x ≡ i → ⊥)) → mine j (rest i xs) ≡ mine j xs → mine j (theirs d x (rest i xs)) ≡ mine j (x ∷ xs)
      go (inl e) h = h ∙ sym (mine_append j (x ∷ []) xs ∙ ap (λ z. z ++ mine j xs) (mine_none j (x ∷ []) ((λ p. n (sym e ∙ p)), tt)))
      go (inr d) h = ap (ours (Y.same (Y.whose x) j) x) h

  -- side i's first and then all others: to each side its own order is the same
  apart_kept : (i j : Y.Side) (xs : List Y.Event) → (i ≡ j) ⊎ (i ≡ j → ⊥) → mine j (mine i xs) ++ mine j (rest i xs) ≡ mine j xs
  apart_kept i j xs (inl p) =
      subst (λ z. mine z (mine i xs) ++ mine z (rest i xs) ≡ mine z xs) p
      (ap (λ z. mine i (mine i xs) ++ z) (mine_none i (rest i xs) (rest_others i xs)) ∙ append-nil (mine i (mine i xs))
      ∙ mine_all i (mine i xs) (mine_own i xs))
  apart_kept i j xs (inr n) =
      ap (λ z. z ++ mine j (rest i xs)) (mine_none j (mine i xs) (own_others i j (mine i xs) n (mine_own i xs))) ∙ mine_rest i j xs n

  rest_last : (i : Y.Side) (xs : List Y.Event) (e : Y.Event) → Y.whose e ≡ i → rest i (xs ++ (e ∷ [])) ≡ rest i xs
  rest_last i [] e p = go (Y.same (Y.whose e) i)
    where
      go : (d : (Y.whose e ≡ i) ⊎ (Y.whose e ≡ i → ⊥)) → theirs d e [] ≡ []
      go (inl q) = refl
      go (inr n) = absurd (n p)
  rest_last i (x ∷ xs) e p = ap (theirs (Y.same (Y.whose x) i) x) (rest_last i xs e p)

  -- a turn comes to its end, and all others are left
  turn_kept : (j : Y.Side) (e : Y.Event) (p es later : List Y.Event) → mine j later ≡ mine j (rest (Y.whose e) p ++ es)
      → mine j ((mine (Y.whose e) p ++ (e ∷ [])) ++ later) ≡ mine j (p ++ (e ∷ es))
  turn_kept j e p es later h =
      let i : Y.Side = Y.whose e in
      let xs : List Y.Event = p ++ (e ∷ []) in
      let a : mine i xs ≡ mine i p ++ (e ∷ []) = mine_append i p (e ∷ []) ∙ ap (λ z. mine i p ++ z) (mine_all i (e ∷ []) (refl, tt)) in
      mine_append j (mine i p ++ (e ∷ [])) later
      ∙ ap (λ z. mine j (mine i p ++ (e ∷ [])) ++ z) (h ∙ mine_append j (rest i p) es)
      ∙ ap₂ (λ x y. mine j x ++ (mine j y ++ mine j es)) (sym a) (sym (rest_last i p e refl))
      ∙ sym (append_assoc (mine j (mine i xs)) (mine j (rest i xs)) (mine j es))
      ∙ ap (λ z. z ++ mine j es) (apart_kept i j xs (Y.same i j))
      ∙ sym (mine_append j xs es)
      ∙ ap (mine j) (append_assoc p (e ∷ []) es)

module _ (Y : Sides) (Inv : Y.State → Type 0) (h : Swaps Y Inv) where
  -- events of others open and close nothing of side i
  others_apart : (i : Y.Side) (es : List Y.Event) (t : Y.State) → Inv t → Others Y i es → Y.is_open i (events Y es t) ≡ Y.is_open i t
  others_apart i [] t v o = refl
  others_apart i (e ∷ es) t v o = others_apart i es (Y.event e t) (h.keeps e t v) o.1 ∙ h.apart e i t v o.0

  -- ---- an event p that leaves its side's operation open, and events of another side behind it

  module _ (p : Y.Event) (i : Y.Side) (d : Y.whose p ≡ i → ⊥) where
    abbrev Leaves : Y.State → Type 0
    Leaves t = Y.is_open (Y.whose p) (Y.event p t) ≡ true

    swap : (x : Y.Event) (t : Y.State) → Inv t → Y.whose x ≡ i → Leaves t → Y.event x (Y.event p t) ≡ Y.event p (Y.event x t)
    swap x t v o l = h.swaps p x t v (λ z. d (z ∙ o)) l

    leaves_on : (x : Y.Event) (t : Y.State) → Inv t → Y.whose x ≡ i → Leaves t → Leaves (Y.event x t)
    leaves_on x t v o l =
        ap (Y.is_open (Y.whose p)) (sym (swap x t v o l)) ∙ h.apart x (Y.whose p) (Y.event p t) (h.keeps p t v) (λ z. d (sym z ∙ o)) ∙ l

    -- it goes past them
    past : (xs : List Y.Event) (t : Y.State) → Inv t → Own Y i xs → Leaves t → events Y xs (Y.event p t) ≡ Y.event p (events Y xs t)
    past [] t v o l = refl
    past (x ∷ xs) t v o l =
        ap (events Y xs) (swap x t v o.0 l) ∙ past xs (Y.event x t) (h.keeps x t v) o.1 (leaves_on x t v o.0 l)

    -- it leaves its operation open there too
    past_leaves : (xs : List Y.Event) (t : Y.State) → Inv t → Own Y i xs → Leaves t → Leaves (events Y xs t)
    past_leaves [] t v o l = l
    past_leaves (x ∷ xs) t v o l = past_leaves xs (Y.event x t) (h.keeps x t v) o.1 (leaves_on x t v o.0 l)

    -- and they leave open without it what they leave open behind it
    inner_without : (xs : List Y.Event) (t : Y.State) → Inv t → Own Y i xs → Leaves t → Inner Y xs (Y.event p t) → Inner Y xs t
    inner_without [] t v o l n = tt
    inner_without (x ∷ xs) t v o l n =
        let s : Y.event x (Y.event p t) ≡ Y.event p (Y.event x t) = swap x t v o.0 l in (
          sym (h.apart p (Y.whose x) (Y.event x t) (h.keeps x t v) (λ z. d (z ∙ o.0))) ∙ ap (Y.is_open (Y.whose x)) (sym s) ∙ n.0,
          inner_without xs (Y.event x t) (h.keeps x t v) o.1 (leaves_on x t v o.0 l) (subst (Inner Y xs) s n.1),
        )

  -- ---- e is side i's, and all events before it leave their operations open: side i's come first, then e, and then all others

  record Gathered (e : Y.Event) (xs first later : List Y.Event) (t : Y.State) : Type 0 where
    gathers : Y.event e (events Y xs t) ≡ events Y later (events Y (first ++ (e ∷ [])) t)
    first_inner : Inner Y first t
    later_inner : Inner Y later (events Y (first ++ (e ∷ [])) t)

  gather : (i : Y.Side) (e : Y.Event) (xs : List Y.Event) (t : Y.State) → Inv t → Y.whose e ≡ i → Inner Y xs t
      → Gathered e xs (mine Y i xs) (rest Y i xs) t
  gather i e [] t v p n = record { gathers = refl; first_inner = tt; later_inner = tt }
  gather i e (x ∷ xs) t v p n = go (Y.same (Y.whose x) i) (gather i e xs (Y.event x t) (h.keeps x t v) p n.1)
    where
      go : (d : (Y.whose x ≡ i) ⊎ (Y.whose x ≡ i → ⊥)) → Gathered e xs (mine Y i xs) (rest Y i xs) (Y.event x t)
          → Gathered e (x ∷ xs) (ours Y d x (mine Y i xs)) (theirs Y d x (rest Y i xs)) t
      go (inl q) g = record { gathers = g.gathers; first_inner = (n.0, g.first_inner); later_inner = g.later_inner }
      go (inr d) g =
          let first : List Y.Event = mine Y i xs ++ (e ∷ []) in
          let own : Own Y i first = own_append Y i (mine Y i xs) (e ∷ []) (mine_own Y i xs) (p, tt) in
          let s : events Y first (Y.event x t) ≡ Y.event x (events Y first t) = past x i d first t v own n.0 in
          record {
            gathers = g.gathers ∙ ap (events Y (rest Y i xs)) s;
            first_inner = inner_without x i d (mine Y i xs) t v (mine_own Y i xs) n.0 g.first_inner;
            later_inner = (past_leaves x i d first t v own n.0, subst (Inner Y (rest Y i xs)) s g.later_inner);
          }

  -- a turn of side i that leaves it at rest leaves all at rest, where all were before
  closed : (t : Y.State) (i j : Y.Side) (es : List Y.Event) → Inv t → Quiet Y t → Own Y i es → Y.is_open i (events Y es t) ≡ false
      → (i ≡ j) ⊎ (i ≡ j → ⊥)
      → Y.is_open j (events Y es t) ≡ false
  closed t i j es v q o c (inl e) = subst (λ z. Y.is_open z (events Y es t) ≡ false) e c
  closed t i j es v q o c (inr d) = others_apart j es t v (own_others Y i j es d o) ∙ q j

  -- ---- the reduction, with the events p made by the operations that are open

  at_end : (p : List Y.Event) (t : Y.State) → Inner Y p t → Quiet Y (events Y p t) → Ordered Y (p ++ []) [] t (events Y p t)
  at_end [] t n r = record { turned = refl; kept = λ j. refl }
  at_end (x ∷ xs) t n r = absurd (still_open Y x xs t n r)

  -- one event more, which leaves its operation open
  goes_on : (p : List Y.Event) (e : Y.Event) (es : List Y.Event) (t : Y.State) →
      let p' : List Y.Event = p ++ (e ∷ []) in
      let u : Y.State = Y.event e (events Y p t) in
      Ordered Y (p' ++ es) (turns Y p' es (events Y p' t)) t (events Y es (events Y p' t)) → Ordered Y (p ++ (e ∷ es)) (turns Y p' es u) t (events Y es u)
  goes_on p e es t o =
      let p' : List Y.Event = p ++ (e ∷ []) in
      let u : Y.State = Y.event e (events Y p t) in
      subst (λ z. Ordered Y z (turns Y p' es u) t (events Y es u)) (append_assoc p (e ∷ []) es)
      (subst (λ z. Ordered Y (p' ++ es) (turns Y p' es z) t (events Y es z)) (events_append Y p (e ∷ []) t) o)

  -- or closes it: the turn is found
  comes_to_end : (p : List Y.Event) (e : Y.Event) (es : List Y.Event) (t : Y.State) → Inv t → Quiet Y t → Inner Y p t →
      let i : Y.Side = Y.whose e in
      let u : Y.State = Y.event e (events Y p t) in
      let t' : Y.State = events Y (mine Y i p ++ (e ∷ [])) t in
      Y.is_open i u ≡ false
      → (Inv t' → Quiet Y t' → Inner Y (rest Y i p) t' → u ≡ events Y (rest Y i p) t'
      → Ordered Y (rest Y i p ++ es) (turns Y (rest Y i p) es u) t' (events Y es u))
      → Ordered Y (p ++ (e ∷ es)) (record { before = mine Y i p; last = e } ∷ turns Y (rest Y i p) es u) t (events Y es u)
  comes_to_end p e es t v q n c later =
      let i : Y.Side = Y.whose e in
      let u : Y.State = Y.event e (events Y p t) in
      let first : List Y.Event = mine Y i p ++ (e ∷ []) in
      let t' : Y.State = events Y first t in
      let g : Gathered e p (mine Y i p) (rest Y i p) t = gather i e p t v refl n in
      let own : Own Y i first = own_append Y i (mine Y i p) (e ∷ []) (mine_own Y i p) (refl, tt) in
      let v' : Inv t' = events_keep Y Inv h.keeps first t v in
      let here : Y.is_open i t' ≡ false =
      sym (others_apart i (rest Y i p) t' v' (rest_others Y i p)) ∙ ap (Y.is_open i) (sym g.gathers) ∙ c in
      let quiet : Quiet Y t' = λ j. closed t i j first v q own here (Y.same i j) in
      let o : Ordered Y (rest Y i p ++ es) (turns Y (rest Y i p) es u) t' (events Y es u) = later v' quiet g.later_inner g.gathers in
      record {
        turned = (record { own = mine_own Y i p; inner = g.first_inner; quiet = quiet }, o.turned);
        kept = λ j. turn_kept Y j e p es (events_in Y (turns Y (rest Y i p) es u)) (o.kept j);
      }

  ordered : (p es : List Y.Event) (t : Y.State) → Inv t → Quiet Y t → Inner Y p t → Quiet Y (events Y es (events Y p t))
      → Ordered Y (p ++ es) (turns Y p es (events Y p t)) t (events Y es (events Y p t))
  unfolding turns
  ordered p [] t v q n r = at_end p t n r
  ordered p (e ∷ es) t v q n r =
      let i : Y.Side = Y.whose e in
      let p' : List Y.Event = p ++ (e ∷ []) in
      let u : Y.State = Y.event e (events Y p t) in
      let by : Bool → List (Turn Y) = λ b. cond b (turns Y p' es u) (record { before = mine Y i p; last = e } ∷ turns Y (rest Y i p) es u) in
      by_test (Y.is_open i u)
      (λ o. subst (λ b. Ordered Y (p ++ (e ∷ es)) (by b) t (events Y es u)) (sym o)
      (goes_on p e es t (ordered p' es t v q (inner_append Y p e t n o) (subst (λ z. Quiet Y (events Y es z)) (sym (events_append Y p (e ∷ []) t)) r))))
      (λ c. subst (λ b. Ordered Y (p ++ (e ∷ es)) (by b) t (events Y es u)) (sym c)
      (comes_to_end p e es t v q n c (λ a b d s.
      subst (λ z. Ordered Y (rest Y i p ++ es) (turns Y (rest Y i p) es z) (events Y (mine Y i p ++ (e ∷ [])) t) (events Y es z)) (sym s)
      (ordered (rest Y i p) es (events Y (mine Y i p ++ (e ∷ [])) t) a b d (subst (λ z. Quiet Y (events Y es z)) s r)))))

  -- THE THEOREM: a list of events that begins and ends with nothing open leaves what its turns leave
  pub in_turns : (es : List Y.Event) (t : Y.State) → Inv t → Quiet Y t → Quiet Y (events Y es t) → Ordered Y es (turns Y [] es t) t (events Y es t)
  in_turns es t v q r = ordered [] es t v q tt r
