-- The owning queue's struct and answers as the rules' records, which fix them.
use Rattle.std.specs.Prelude.{◌≡◌, refl, Option, None, Some, List, ℕ}
use Rattle.std.proofs.Common.{sym, ap, ◌∙◌}
use Rattle.virtio.specs.Memory.{Memory}
use Rattle.rules.specs.Record as model
use Rattle.rules.specs.Answer.{Outcome}
use Rattle.rules.specs.Owning as rule
use Rattle.rules.specs.Refused.{result_number, result_value, result_one}
use Rattle.record.specs.Abs.{abs, Arrays, abs_fixes}
use Rattle.owning.specs.declared.Owning.{Owning}
use Rattle.owning.specs.declared.Owned.{Owned}
use Rattle.owning.specs.declared.Part.{Part}

abbrev pub own_of : Owning → rule.Owning
own_of o = record { queue = abs o.queue; base = o.base; size = o.size; held = o.held }

abbrev pub view_of : Option Part → rule.View
view_of None = rule.no_view
view_of (Some p) = rule.part p.from p.count

abbrev pub owned_of : Owned → Memory → List ℕ → rule.Owned
owned_of r m s = record {
  answer = result_number r.outcome;
  value = result_value r.outcome;
  view = view_of r.shows;
  owning = own_of r.owning;
  memory = m;
  store = s;
}

-- what the adds of new come to: a record and memory, no number and no steps
abbrev pub added_of : model.Queue → Memory → Outcome
added_of q m = record { answer = 0; value = 0; steps = 0; queue = q; memory = m }

-- what a pop comes to that gives a buffer back with so many bytes
abbrev pub popped_of : model.Queue → ℕ → Memory → Outcome
popped_of q len m = record { answer = 0; value = len; steps = 0; queue = q; memory = m }

-- ---- any two outcomes that an equation of these permits are one: an answer, the memory that it leaves, and the store

-- the struct's part of a rule's view
abbrev shows_of : rule.View → Option Part
shows_of rule.no_view = None
shows_of (rule.part from count) = Some (record { from = from; count = count })

shows_back : (v : Option Part) → shows_of (view_of v) ≡ v
shows_back None = refl
shows_back (Some p) = refl

shows_one : (v w : Option Part) → view_of v ≡ view_of w → v ≡ w
shows_one v w e = sym (shows_back v) ∙ ap shows_of e ∙ shows_back w

pub own_one : (o p : Owning) → Arrays o.queue → Arrays p.queue → own_of o ≡ own_of p → o ≡ p
own_one o p a b e =
    let q : o.queue ≡ p.queue = abs_fixes o.queue p.queue a b (ap (λ (x : rule.Owning). x.queue) e) in
    λ i. record { queue = q i; base = (e i).base; size = (e i).size; held = (e i).held }

-- THE LAW
pub owned_one
    : (r t : Owned) (m l : Memory) (s u : List ℕ)
    → Arrays r.owning.queue
    → Arrays t.owning.queue
    → owned_of r m s ≡ owned_of t l u
    → (r ≡ t) × (m ≡ l) × (s ≡ u)
owned_one r t m l s u a b e =
    let o : r.owning ≡ t.owning = own_one r.owning t.owning a b (ap (λ (x : rule.Owned). x.owning) e) in
    let w : r.outcome ≡ t.outcome = result_one r.outcome t.outcome (ap (λ (x : rule.Owned). x.answer) e) (ap (λ (x : rule.Owned). x.value) e) in
    let v : r.shows ≡ t.shows = shows_one r.shows t.shows (ap (λ (x : rule.Owned). x.view) e) in (
      λ i. record { outcome = w i; shows = v i; owning = o i },
      ap (λ (x : rule.Owned). x.memory) e,
      ap (λ (x : rule.Owned). x.store) e,
    )
