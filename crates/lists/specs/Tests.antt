-- Tests, which are Bools, as facts: by cases on a test, and what a test of tests says.
use Rattle.std.specs.Prelude.{◌≡◌, refl, Bool, true, false, not, cond, ◌&&◌, ◌||◌, ℕ, eqb}
use Rattle.std.proofs.Common.{ap, ◌∙◌, true≢false, eqb-true}
use Rattle.std.proofs.lemmas.Bool.{false≢true, eqb-false}

-- a test holds, or it does not
pub by_test : {A : Type 0} (b : Bool) → (b ≡ true → A) → (b ≡ false → A) → A
by_test true f g = f refl
by_test false f g = g refl

pub by_eq : {A : Type 0} (a b : ℕ) → (a ≡ b → A) → ((a ≡ b → ⊥) → A) → A
by_eq a b f g = by_test (eqb a b) (λ e. f (eqb-true a b e)) (λ e. g (eqb-false a b e))

pub and_left : (a b : Bool) → (a && b) ≡ true → a ≡ true
and_left true b e = refl
and_left false b e = e

pub and_right : (a b : Bool) → (a && b) ≡ true → b ≡ true
and_right true b e = e
and_right false b e = absurd (false≢true e)

pub and_both : (a b : Bool) → a ≡ true → b ≡ true → (a && b) ≡ true
and_both true b e f = f
and_both false b e f = e

-- a conjunction of six, taken apart
pub and_six
    : (a b c d e f : Bool)
    → (a && (b && (c && (d && (e && f))))) ≡ true
    → (a ≡ true) × (b ≡ true) × (c ≡ true) × (d ≡ true) × (e ≡ true) × (f ≡ true)
and_six true true true true true f h = (refl, refl, refl, refl, refl, h)
and_six true true true true false f h = absurd (false≢true h)
and_six true true true false e f h = absurd (false≢true h)
and_six true true false d e f h = absurd (false≢true h)
and_six true false c d e f h = absurd (false≢true h)
and_six false b c d e f h = absurd (false≢true h)

-- `not a || b` says that a implies b
pub implied : (a b : Bool) → (not a || b) ≡ true → a ≡ true → b ≡ true
implied true b e f = e
implied false b e f = absurd (false≢true f)

pub implies : (a b : Bool) → (a ≡ true → b ≡ true) → (not a || b) ≡ true
implies true b f = f refl
implies false b f = refl

pub false_not : (b : Bool) → b ≡ false → not b ≡ true
false_not true e = absurd (true≢false e)
false_not false e = refl

-- what holds of both that a test may choose holds of its choice
pub either : {A : Type 0} (P : A → Type 0) (b : Bool) (x y : A) → (b ≡ true → P x) → (b ≡ false → P y) → P (cond b x y)
either P true x y f g = f refl
either P false x y f g = g refl

-- two choices by the same test are the same where what they choose is
pub cond_both : {A : Type 0} (b c : Bool) (x y u v : A) → b ≡ c → (c ≡ true → x ≡ u) → (c ≡ false → y ≡ v) → cond b x y ≡ cond c u v
cond_both b true x y u v e f g = ap (λ t. cond t x y) e ∙ f refl
cond_both b false x y u v e f g = ap (λ t. cond t x y) e ∙ g refl
