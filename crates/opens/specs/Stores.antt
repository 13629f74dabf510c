-- Filling descriptors and copying a list one buffer at a time.
use Rattle.std.specs.Prelude.{◌≡◌, refl, Bool, List, [], ◌∷◌, ℕ, suc, ◌≤◌, ◌<◌, ltb, length, drop}
use Rattle.std.proofs.Common.{sym, ap, ap₂, ◌∙◌, arith, ltb-true, ltb-false}
use Rattle.lists.specs.Tests.{by_test}
use Rattle.lists.specs.Stores.{set_keeps}
use Rattle.lists.specs.Walk.{hop, hop_none}
use Rattle.virtio.specs.declared.Desc.{Desc}
use Rattle.virtio.specs.declared.Buffer.{Buffer}
use Rattle.virtio.specs.Desc.{no_desc}
use Rattle.rules.specs.Record.{Tables}
use Rattle.rules.specs.Calls.{filled, more?, fill}
use Rattle.laws.specs.FillLaws.{more_on, no_more}
use Rattle.tables.specs.Stores.{with_desc, with_entry}
use Rattle.opens.specs.Given.{next_in, with_filled, with_copied}

-- whether a buffer follows buffer j, by the number of buffers
pub more_is : (j : ℕ) (bs : List Buffer) (k : ℕ) → length bs ≡ k → ltb j k ≡ more? (drop j bs)
more_is j bs k e =
    by_test (ltb j k)
    (λ t. let l : j < k = ltb-true j k t in t ∙ sym (more_on j bs (omega arith)))
    (λ t. let l : k ≤ j = ltb-false j k t in t ∙ sym (no_more j bs (omega arith)))

-- Filling under way: of tables t the k buffers of bs from descriptor h on; now u is so far filled, and m of them, rest, are left, from i on.
pub record Filling (t u : Tables) (k h m i : ℕ) (bs rest : List Buffer) : Type 0 where
  pub ends : hop (next_in t) k h ≡ hop (next_in t) m i
  pub fills : with_filled t h bs ≡ with_filled u i rest
  pub links : (j : ℕ) → next_in u j ≡ next_in t j

-- a store of a filled descriptor, as `fill` makes it
fill_turn : (t u : Tables) (i x : ℕ) (b : Buffer) (m : Bool) (bs rest : List Buffer) → bs ≡ b ∷ rest → m ≡ more? rest → x ≡ next_in t i → u ≡ with_desc t i (filled b m x)
    → with_filled t i bs ≡ with_filled u x rest
unfolding fill
fill_turn t u i x b m bs rest e f g s =
    ap (with_filled t i) e
    ∙ ap₂ (λ (n : Bool) (y : ℕ). with_filled (with_desc t i (filled b n y)) y rest) (sym f) (sym g)
    ∙ ap (λ v. with_filled v x rest) (sym s)

fill_links : (t u : Tables) (i : ℕ) (d : Desc) → d.next ≡ next_in t i → u ≡ with_desc t i d → (j : ℕ) → next_in u j ≡ next_in t j
fill_links t u i d e s j = ap (λ (v : Tables). next_in v j) s ∙ set_keeps (λ (y : Desc). y.next) t.shadow i d no_desc e j

pub filling_start : (t : Tables) (k h m : ℕ) (bs : List Buffer) → m ≡ k → Filling t t k h m h bs bs
filling_start t k h m bs e = record { ends = ap (λ j. hop (next_in t) j h) (sym e); fills = refl; links = λ j. refl }

pub filling_turn : (t u v : Tables) (k h m l i x : ℕ) (b : Buffer) (c : Bool) (all bs rest : List Buffer)
    → Filling t u k h m i all bs → m ≡ suc l → bs ≡ b ∷ rest → c ≡ more? rest → x ≡ next_in u i → v ≡ with_desc u i (filled b c x) → Filling t v k h l x all rest
unfolding hop
filling_turn t u v k h m l i x b c all bs rest f z e o g s = record {
  ends = f.ends ∙ ap (λ j. hop (next_in t) j i) z ∙ ap (hop (next_in t) l) (sym (g ∙ f.links i));
  fills = f.fills ∙ fill_turn u v i x b c bs rest e o g s;
  links = λ j. fill_links u v i (filled b c x) g s j ∙ f.links j;
}

pub filling_end : (t u : Tables) (k h m i : ℕ) (all bs : List Buffer) → Filling t u k h m i all bs → m ≡ 0 → bs ≡ [] → (i ≡ hop (next_in t) k h) × (u ≡ with_filled t h all)
unfolding fill
filling_end t u k h m i all bs f z e = (sym (f.ends ∙ hop_none (next_in t) m i z), sym (f.fills ∙ ap (with_filled u i) e))

-- a store of an entry, as `sets` makes it
pub copied_turn : (t u : Tables) (a x : ℕ) (b : Buffer) (bs rest : List Buffer) → x ≡ suc a → bs ≡ b ∷ rest → u ≡ with_entry t a b → with_copied t a bs ≡ with_copied u x rest
copied_turn t u a x b bs rest g e s =
    ap (with_copied t a) e ∙ ap (λ y. with_copied (with_entry t a b) y rest) (sym g) ∙ ap (λ v. with_copied v x rest) (sym s)

pub copied_end : (t : Tables) (a : ℕ) (bs : List Buffer) → bs ≡ [] → t ≡ with_copied t a bs
copied_end t a bs e = sym (ap (with_copied t a) e)
