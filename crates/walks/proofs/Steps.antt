-- Steps that walks by hand share. They say nothing of a crate.
--     Of           the contract of a function, as a walk cites it
--     calls_told   a call of a function whose contract is known: its clause, what is said of last values, the result and the tokens are had apart
--     cell         the operand that copies a local, which stands at place n
--     frees_at     a local at place n is freed, whatever it holds
--     apart, together   tokens of lifetimes, from one item and into one
--     skips, keeps, packs   what parameters own, one by one and as one
--     last_is      what is said of a `&mut` slice's last value, and that the slice's borrow is left
--     relends      a `&mut` slice is lent on
--     closes       from a walk at each choice of lifetimes, shares and arguments to `Meets`: `walked` and `walk_Meets` in one
-- Assumes `Logic`.
use mathlib.Core.Path.{◌≡◌, subst}
use mathlib.Core.List.{List, [], ◌∷◌}
use Prim.Native.Nat.{ℕ, zero, ◌+◌}
use lib.Dec.{T as Holds}
use mathlib.Core.Option.{some as just}
use seplogic.Ra.Ura.{Ura}
use base.Fraction.{full_share}
use mir.Syntax.{Callee, Ty, Place, place, field, deref, Opd as Operand, copy, addr_of, aggregate, Body, Fn, seq, assign, call}
use mir.Val.{Val, vptr, vstruct, of_list, WT, has_ty}
use base.Logic.{ent, sep, id⊢, via, mono_l, mono_r, assoc'}
use base.Fml.{Lft, Share, Fml, ftrue, fsep, feq, fat, froom, fdies, flft}
use prog.Memory.{field_of}
use prog.Wp.{Heap, Env, spot_of, Calls, Loops, WpFn, Tables}
use types.Logic.{Logic}
use sound.WpLaws.{FmC, WpFn-mono}
use types.Kit.{Item, mean, ⋆, nth, del, put, pull, Post, Goal, frees, Seq, Step, step, runs, lands, ‵, raw, ◌⊛◌, some, later, ◌$◌, move, drop, use1, split, join, fsplit, fjoin, feq_l, pick, await}
use types.Part.{Part, agg, look_in}
use types.Run.{Opd, Opds, look, init, stop, hop, fld, from, load, addr, and_then, no_more, assigns}
use denote.Steps.{nothing}
use contract.Lifetimes.{Lfts, Shares, AllOutlive}
use denote.RattleType.{flat}
use denote.Laws.{Are, Ises, Spells, valss, Tellss}
use denote.Signature.{type_at, types_at}
use denote.Triple.Statement.{Contract, Triple}
use denote.Triple.Call.{calls_at}
use denote.Triple.Clauses.{Ended, Clauses, Lasts, lasts, at_exit, closing}
use denote.Triple.Entry.{Args, Res, alive, on_entry}
use denote.Triple.Spec.{Meets, triple_of}
use denote.Triple.Walked.{Stays, AllGo, walk_of, walked, walk_Meets}

-- the contract of a function, as a walk cites it
abbrev pub Of : {M : Type 1} {𝓤 : Ura M} (𝓛 : Logic 𝓤) (T : Ended) → Clauses 𝓤 T → Contract 𝓤
Of 𝓛 T c = triple_of 𝓛 T.signature (closing 𝓛 T c)

module _ {M : Type 1} {𝓤 : Ura M} {𝓛 : Logic 𝓤} {K : Type 0} {Γ : List (Item 𝓤)} {E₀ : Env 𝓤 𝓛.H} {C : Calls 𝓤 𝓛.H} {Λ : Loops 𝓤 𝓛.H} {q₀ : Post 𝓤 𝓛.H} {d : Place} {xs₀ : List Operand} {rest : Body} where
  open 𝓛 use {H}

  pub calls_told : K → FmC 𝓤 H 𝓛.laws C → {f : Callee} (T : Ended) (c : Clauses 𝓤 T) → Triple 𝓤 (C f) (Of 𝓛 T c) → (x : (Of 𝓛 T c).Ghost) → Opds K 𝓛 (raw ((Of 𝓛 T c).pre x) ∷ Γ) E₀ xs₀ ((Of 𝓛 T c).args x)
      → ((u : Val) (r : Res T.signature x.0.0) (ws : Lasts T x.0.0 x.0.3)
      → Seq K 𝓛 (raw ((c x.0.0 x.0.3).ensures x.1 r (at_exit T x.0.0 x.0.3 ws)) ∷ ‵ (lasts T x.0.0 x.0.3 ws) ∷ ‵ ((type_at T.signature.result x.0.0).own_val r (u ∷ [])) ∷ raw (alive 𝓛 T.signature x.0.0 x.0.1) ∷ Γ) (lands C Λ E₀ d u rest q₀))
      → Seq K 𝓛 (raw ((Of 𝓛 T c).pre x) ∷ Γ) (runs C Λ E₀ (seq (call f xs₀ d) rest) q₀)
  calls_told t fm T c known x os k =
      calls_at t fm (Of 𝓛 T c) known x os (λ u.
      use1 𝓛 (later (some (λ (r : Res T.signature x.0.0). (raw (alive 𝓛 T.signature x.0.0 x.0.1) ⊛ ‵ ((type_at T.signature.result x.0.0).own_val r (u ∷ [])))
      ⊛ some (λ (ws : Lasts T x.0.0 x.0.3). ‵ (lasts T x.0.0 x.0.3 ws) ⊛ raw ((c x.0.0 x.0.3).ensures x.1 r (at_exit T x.0.0 x.0.3 ws)))))) (id⊢ 𝓤 _) $ await t tt $ pick t (λ r.
      split t $ move t (1 ∷ []) $ pick t (λ ws. split t $ move t (2 ∷ []) $ split t $ move t (3 ∷ 2 ∷ 1 ∷ 0 ∷ []) $ k u r ws)))

-- the operand that copies a local, and the freeing of one, by their places in the context
module _ {M : Type 1} {𝓤 : Ura M} {𝓛 : Logic 𝓤} {K : Type 0} {Γ : List (Item 𝓤)} {E : Env 𝓤 𝓛.H} where
  open 𝓛 use {H}

  pub cell : K → {i : ℕ} (n : ℕ) {q : Share} {v : Val} → nth 𝓛 n Γ ≡ ‵ (fat q (spot_of 𝓤 H E i).0 (spot_of 𝓤 H E i).1 (spot_of 𝓤 H E i).2 v) → Opd K 𝓛 Γ E (copy (place i [])) v
  cell t n e = load t (from t (stop t)) (look t n e)

  pub frees_at : K → (n : ℕ) {τ : Ty} {b : ℕ} {v : Val} {g : Goal 𝓤 H} → nth 𝓛 n Γ ≡ ‵ (fat full_share τ b zero v) → nth 𝓛 n (del 𝓛 n Γ) ≡ ‵ (fdies τ b)
      → Step K 𝓛 (del 𝓛 n (del 𝓛 n Γ)) (frees E g) Γ (frees ((τ, b) ∷ E) g)
  frees_at t n {τ} {b} {v} {g} e e' = step (λ s. record {
    prf =
        let Δ : List (Item 𝓤) = del 𝓛 n Γ in
        let Δ' : List (Item 𝓤) = del 𝓛 n Δ in
        via 𝓤 (sep 𝓤 (H.at full_share τ b zero v) (⋆ 𝓛 Δ)) (subst (λ (j : Item 𝓤). ent 𝓤 (⋆ 𝓛 Γ) (sep 𝓤 (mean 𝓛 j) (⋆ 𝓛 Δ))) e (pull 𝓛 n Γ))
        (via 𝓤 (sep 𝓤 (H.room τ b zero) (⋆ 𝓛 Δ)) (mono_l 𝓤 (⋆ 𝓛 Δ) (𝓛.laws.at_room τ b zero v))
        (via 𝓤 (sep 𝓤 (H.room τ b zero) (sep 𝓤 (H.dies τ b) (⋆ 𝓛 Δ'))) (mono_r 𝓤 (H.room τ b zero) (subst (λ (j : Item 𝓤). ent 𝓤 (⋆ 𝓛 Δ) (sep 𝓤 (mean 𝓛 j) (⋆ 𝓛 Δ'))) e' (pull 𝓛 n Δ)))
        (via 𝓤 (sep 𝓤 (sep 𝓤 (H.room τ b zero) (H.dies τ b)) (⋆ 𝓛 Δ')) (assoc' 𝓤 (H.room τ b zero) (H.dies τ b) (⋆ 𝓛 Δ'))
        (mono_r 𝓤 (sep 𝓤 (H.room τ b zero) (H.dies τ b)) s.prf))));
  })

-- the tokens of some lifetimes as one item, and each by itself in front of Γ, the last one first
module _ {M : Type 1} (𝓤 : Ura M) where
  abbrev pub tokens : List (Lft × Share) → Item 𝓤
  tokens [] = ‵ ftrue
  tokens (x ∷ xs) = ‵ (flft x.0 x.1) ⊛ tokens xs

  abbrev pub token_each : List (Lft × Share) → List (Item 𝓤) → List (Item 𝓤)
  token_each [] Γ = Γ
  token_each (x ∷ xs) Γ = token_each xs (‵ (flft x.0 x.1) ∷ Γ)

module _ {M : Type 1} {𝓤 : Ura M} {𝓛 : Logic 𝓤} {K : Type 0} {G : Goal 𝓤 𝓛.H} where
  pub apart : K → (xs : List (Lft × Share)) {Γ : List (Item 𝓤)} → Step K 𝓛 (token_each 𝓤 xs Γ) G (tokens 𝓤 xs ∷ Γ) G
  apart t [] = drop t
  apart t (x ∷ xs) = step (λ s. split t $ move t (1 ∷ []) $ apart t xs $ s)

  pub together : K → (xs : List (Lft × Share)) {Γ : List (Item 𝓤)} → Step K 𝓛 (tokens 𝓤 xs ∷ Γ) G (token_each 𝓤 xs Γ) G
  together t [] = nothing t
  together t (x ∷ xs) = step (λ s. together t xs $ move t (1 ∷ []) $ join t $ s)

  -- the first part of a formula is let go, or kept behind the rest
  module _ {Γ : List (Item 𝓤)} where
    pub skips : K → {P Q : Fml} → Step K 𝓛 (‵ Q ∷ Γ) G (‵ (fsep P Q) ∷ Γ) G
    skips t = step (λ s. fsplit t $ drop t $ s)

    pub keeps : K → {P Q : Fml} → Step K 𝓛 (‵ Q ∷ ‵ P ∷ Γ) G (‵ (fsep P Q) ∷ Γ) G
    keeps t = step (λ s. fsplit t $ move t (1 ∷ []) $ s)

    -- what three parameters own, and no more
    pub packs : K → {P Q R : Fml} → Step K 𝓛 (‵ (fsep P (fsep Q (fsep R ftrue))) ∷ Γ) G (‵ P ∷ ‵ Q ∷ ‵ R ∷ Γ) G
    packs t = step (λ s. nothing t $ move t (3 ∷ 0 ∷ []) $ fjoin t $ move t (2 ∷ 0 ∷ []) $ fjoin t $ move t (1 ∷ 0 ∷ []) $ fjoin t $ s)

    -- of a `&mut` slice, what it holds last is kept with its borrow B, and its length learnt
    pub last_is : K → {F B P : Fml} {X : Type 0} {x y : X} → (x ≡ y → Seq K 𝓛 (‵ P ∷ ‵ (fsep F B) ∷ Γ) G) → Seq K 𝓛 (‵ (fsep (fsep (fsep F (feq X x y)) B) P) ∷ Γ) G
    last_is t k = fsplit t $ fsplit t $ fsplit t $ move t (1 ∷ []) $ feq_l t (λ e. fjoin t $ move t (1 ∷ []) $ k e)

-- local r holds v, or is free, and v is of its type
module _ {M : Type 1} (𝓤 : Ura M) (H : Heap 𝓤) (E : Env 𝓤 H) where
  abbrev pub Held : ℕ → Val → Item 𝓤
  Held r v = ‵ (fat full_share (spot_of 𝓤 H E r).0 (spot_of 𝓤 H E r).1 (spot_of 𝓤 H E r).2 v)

  abbrev pub Free : ℕ → Item 𝓤
  Free r = ‵ (froom (spot_of 𝓤 H E r).0 (spot_of 𝓤 H E r).1 (spot_of 𝓤 H E r).2)

  abbrev pub Fits : ℕ → Val → Type 0
  Fits r v = Holds (has_ty (spot_of 𝓤 H E r).0 v) × WT v

-- a `&mut` slice in local p is lent on: its pointer goes to local r, and with the length to local s; they stand at places i, j and k
module _ {M : Type 1} {𝓤 : Ura M} {𝓛 : Logic 𝓤} {K : Type 0} {Γ : List (Item 𝓤)} {E : Env 𝓤 𝓛.H} {C : Calls 𝓤 𝓛.H} {Λ : Loops 𝓤 𝓛.H} {q : Post 𝓤 𝓛.H} where
  open 𝓛 use {H}

  pub relends : K → {p r s : ℕ} {τ τ₀ τ₁ : Ty} {d₀ d₁ b o : ℕ} {n : Val} {q₀ q₁ : Share} {back₀ back₁ : Val → Item 𝓤} {rest : Body} (i j k : ℕ)
      → field_of (spot_of 𝓤 H E p).0 0 ≡ just (τ₀, d₀) → Part K 𝓛 (nth 𝓛 i Γ) q₀ τ₀ (spot_of 𝓤 H E p).1 ((spot_of 𝓤 H E p).2 + d₀) (vptr b o) back₀
      → nth 𝓛 j Γ ≡ Free 𝓤 H E r → Fits 𝓤 H E r (vptr b o)
      → nth 𝓛 j (put 𝓛 j (Held 𝓤 H E r (vptr b o)) Γ) ≡ Held 𝓤 H E r (vptr b o)
      → field_of (spot_of 𝓤 H E p).0 1 ≡ just (τ₁, d₁) → Part K 𝓛 (nth 𝓛 i (put 𝓛 j (Held 𝓤 H E r (vptr b o)) Γ)) q₁ τ₁ (spot_of 𝓤 H E p).1 ((spot_of 𝓤 H E p).2 + d₁) n back₁
      → nth 𝓛 k (put 𝓛 j (Held 𝓤 H E r (vptr b o)) Γ) ≡ Free 𝓤 H E s → Fits 𝓤 H E s (vstruct (of_list (vptr b o ∷ n ∷ [])))
      → Step K 𝓛 (put 𝓛 k (Held 𝓤 H E s (vstruct (of_list (vptr b o ∷ n ∷ [])))) (put 𝓛 j (Held 𝓤 H E r (vptr b o)) Γ)) (runs C Λ E rest q)
      Γ (runs C Λ E (seq (assign (place r []) (addr_of (place p (field 0 ∷ deref τ ∷ [])))) (seq (assign (place s []) (aggregate (copy (place r []) ∷ copy (place p (field 1 ∷ [])) ∷ []))) rest)) q)
  relends t i j k f₀ p₀ free fits held f₁ p₁ free' fits' = step (λ s.
      assigns t (addr t (from t (fld t f₀ (hop t (look_in t i p₀) (stop t))))) (from t (stop t)) (init t j free fits) $
      assigns t (agg t (and_then t (cell t j held) (and_then t (load t (from t (fld t f₁ (stop t))) (look_in t i p₁)) (no_more t)))) (from t (stop t)) (init t k free' fits') $ s)

-- `walked` and `walk_Meets` in one: from a walk at each choice of lifetimes, shares and arguments to the contract
pub closes : {M : Type 1} {𝓤 : Ura M} (𝓛 : Logic 𝓤) (T : Ended) (hs : Stays T.signature.params T.kept) → AllGo 𝓛 T.signature.lifetimes T.signature.params T.kept hs
    → (c : Clauses 𝓤 T) (𝓣 : Tables 𝓤 𝓛.H) (f : Fn) (sp : (κs : Lfts T.signature.lifetimes) → Spells (types_at T.signature.params κs))
    → ((κs : Lfts T.signature.lifetimes) → Tellss (types_at T.signature.params κs) (Ises (types_at T.signature.params κs)) (sp κs))
    → ((κs : Lfts T.signature.lifetimes) (qs : Shares T.signature.lifetimes) (bounds : AllOutlive T.signature.lifetimes T.signature.outlives κs) (a : Args T.signature κs) (g : (c κs a).ghost)
    → Are (types_at T.signature.params κs) (Ises (types_at T.signature.params κs)) a (valss (types_at T.signature.params κs) (sp κs) a)
    → ent 𝓤 (sep 𝓤 (on_entry 𝓛 T.signature κs qs a (valss (types_at T.signature.params κs) (sp κs) a)) ((c κs a).requires g))
    (WpFn 𝓤 𝓛.H 𝓣.C 𝓣.Λ f (flat (types_at T.signature.params κs) (valss (types_at T.signature.params κs) (sp κs) a)) ((walk_of 𝓛 T hs c).post ((κs, qs, bounds, a, valss (types_at T.signature.params κs) (sp κs) a), g))))
    → Meets 𝓛 T.signature (WpFn 𝓤 𝓛.H 𝓣.C 𝓣.Λ f) (closing 𝓛 T c)
closes {𝓤 = 𝓤} 𝓛 T hs go c 𝓣 f sp tl k = walk_Meets 𝓛 T hs go c (WpFn 𝓤 𝓛.H 𝓣.C 𝓣.Λ f) (WpFn-mono 𝓤 𝓛.H 𝓛.laws 𝓣 f) (walked 𝓛 T hs c (WpFn 𝓤 𝓛.H 𝓣.C 𝓣.Λ f) sp tl k)
