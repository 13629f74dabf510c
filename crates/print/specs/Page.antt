-- What is written to a page: behind the text that is there, a text more.
use Rattle.std.specs.Prelude.{◌≡◌, List, ℕ, ◌++◌}
use Rattle.std.proofs.Common.{◌∙◌, subst, append_assoc}
use Rattle.print.specs.declared.Page.{Page}
use Rattle.print.specs.Print.{Written}

-- the page has the text, written to what was `before`
abbrev pub Has : List ℕ → Page → List ℕ → Type 0
Has before p text = Written before p.bytes.now p.said text

-- the page is lent as it was
abbrev pub SameLoan : Page → Page → Type 0
SameLoan p q = p.bytes.ghost_name ≡ q.bytes.ghost_name

-- the page q is the page p with the text behind what it has, and lent as it was
pub record Says (p q : Page) (text : List ℕ) : Type 0 where
  pub loan : SameLoan p q
  pub wrote : (before said : List ℕ) → Has before p said → Has before q (said ++ text)

pub says_then : {p q r : Page} (a b : List ℕ) → Says p q a → Says q r b → Says p r (a ++ b)
says_then {r = r} a b h k = record {
  loan = h.loan ∙ k.loan;
  wrote = λ before said w. subst (λ (t : List ℕ). Has before r t) (append_assoc said a b) (k.wrote before (said ++ a) (h.wrote before said w));
}
