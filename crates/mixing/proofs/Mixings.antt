-- The mixings of specs/Mixings, computed: each ends as it says there, and so does the order of whole calls and whole acts that explains it.
use Rattle.std.specs.Prelude.{◌≡◌, refl}
use Rattle.std.proofs.Common.{sym, ◌∙◌}
use Rattle.rules.specs.Computing.{computing}
use Rattle.mixing.specs.Device.{without}
use Rattle.mixing.specs.Mix.{event, trace}
use Rattle.mixing.specs.Demand.{Explained}
use Rattle.mixing.specs.Mixings.{direct, lists_events, ask, lent, run, turns}
use Rattle.mixing.specs.Mixings.{between, between_order, between_end}
use Rattle.mixing.specs.Mixings.{reordered, reordered_order, reordered_end}
use Rattle.mixing.specs.Mixings.{listed, listed_order, listed_end}
use Rattle.mixing.specs.Mixings.{flagged, flagged_order, flagged_end}

-- ---- between

between_mixed : run direct between ≡ between_end
unfolding computing event trace without
between_mixed = refl

between_in_turn : turns direct between_order ≡ between_end
unfolding computing event trace without
between_in_turn = refl

pub between_explained : Explained (ask direct) lent between
between_explained = record { order = between_order; same_trace = between_in_turn ∙ sym between_mixed }

-- ---- reordered

reordered_mixed : run direct reordered ≡ reordered_end
unfolding computing event trace without
reordered_mixed = refl

reordered_in_turn : turns direct reordered_order ≡ reordered_end
unfolding computing event trace without
reordered_in_turn = refl

pub reordered_explained : Explained (ask direct) lent reordered
reordered_explained = record { order = reordered_order; same_trace = reordered_in_turn ∙ sym reordered_mixed }

-- ---- listed

listed_mixed : run lists_events listed ≡ listed_end
unfolding computing event trace without
listed_mixed = refl

listed_in_turn : turns lists_events listed_order ≡ listed_end
unfolding computing event trace without
listed_in_turn = refl

pub listed_explained : Explained (ask lists_events) lent listed
listed_explained = record { order = listed_order; same_trace = listed_in_turn ∙ sym listed_mixed }

-- ---- flagged

flagged_mixed : run direct flagged ≡ flagged_end
unfolding computing event trace without
flagged_mixed = refl

flagged_in_turn : turns direct flagged_order ≡ flagged_end
unfolding computing event trace without
flagged_in_turn = refl

pub flagged_explained : Explained (ask direct) lent flagged
flagged_explained = record { order = flagged_order; same_trace = flagged_in_turn ∙ sym flagged_mixed }
