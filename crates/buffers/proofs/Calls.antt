-- What a function is told that makes something plain of a lent list of buffers, and the step that a walk by hand through a call of it takes first.
--     gather_clauses   its contract: of a list, its result is one that `copies` allows
--     gathers          its call on a list that is kept: local d then holds such a result
-- Assumes `Logic`.
use mathlib.Core.List.{List, [], ◌∷◌}
use lib.ListN.{length}
use seplogic.Ra.Ura.{Ura}
use mir.Syntax.{Callee, Place, Opd as Operand, Body, seq, call, named}
use mir.Val.{Val}
use base.Logic.{emp, id⊢}
use base.Fml.{Lft, Share, Fml, ftrue, flft}
use prog.Wp.{Env, Calls, Loops}
use types.Logic.{Logic}
use contract.Monad.{fact}
use sound.WpLaws.{FmC}
use types.Kit.{Item, Post, Seq, runs, lands, ‵, raw, ◌⊛◌, ◌$◌, ◌∵◌, !, qed, move, drop, use1, use2, split, join, fjoin, frame, done}
use types.Run.{Opds}
use denote.Laws.{Is, shows}
use denote.Builtin.{SliceRefOf}
use denote.Exit.{yes}
use denote.Ref.{Bor}
use denote.Signature.{plain}
use denote.Slice.{slice_val, ShrSlice, shr_slice_copy}
use denote.Steps.{facts, heard, nothing}
use denote.Triple.Statement.{Triple}
use denote.Triple.Clauses.{Ended, Clauses}
use Rattle.walks.proofs.Plain.{Plain}
use Rattle.walks.proofs.Steps.{Of, calls_told}
use Rattle.virtio.specs.declared.Buffer.{Buffer}
use Rattle.virtio.specs.contracts.Buffer as E
use Rattle.virtio.proofs.Buffer.TheLaws as E'

module _ (G : Plain) (copies : List Buffer → G.row.Denot → Type 0) where
  abbrev pub gather_ended : Ended
  gather_ended = record {
    signature = record {
      lifetimes = 1;
      outlives = [];
      params = SliceRefOf (0 ∷ []) tt (plain (λ _. E.the_row)) (λ _. tt) ∷ [];
      result = plain (λ _. G.row);
    };
    kept = (yes, tt);
  }

  abbrev pub gather_clauses : {M : Type 1} (𝓤 : Ura M) → Clauses 𝓤 gather_ended
  gather_clauses 𝓤 κs a =
      record { ghost = Unit {0}; requires = λ _. emp 𝓤; ensures = λ _ r e. fact 𝓤 (copies a.0.now r) }

module _ {M : Type 1} {𝓤 : Ura M} {𝓛 : Logic 𝓤} {K : Type 0} {Γ : List (Item 𝓤)} {E₀ : Env 𝓤 𝓛.H} {C : Calls 𝓤 𝓛.H} {Λ : Loops 𝓤 𝓛.H} {q₀ : Post 𝓤 𝓛.H} {d : Place} {xs₀ : List Operand} {rest : Body} where
  -- `gather(list)`, where the token and what the list owns stand in front, and are kept
  open 𝓛 use {H}

  pub gathers : K → FmC 𝓤 H 𝓛.laws C → (G : Plain) (copies : List Buffer → G.row.Denot → Type 0) {gather : Callee} → Triple 𝓤 (C gather) (Of 𝓛 (gather_ended G copies) (gather_clauses G copies 𝓤))
      → (κ : Lft) (q : Share) (s : Bor (List Buffer))
      → Opds K 𝓛 (raw ((Of 𝓛 (gather_ended G copies) (gather_clauses G copies 𝓤)).pre (((κ, tt), (q, tt), tt, (s, tt), (slice_val s.ref_ptr (length s.now) ∷ [], tt)), tt))
      ∷ ‵ ((ShrSlice (named 0) κ E.the_row).own_val s (slice_val s.ref_ptr (length s.now) ∷ [])) ∷ Γ) E₀ xs₀ (slice_val s.ref_ptr (length s.now) ∷ [])
      → ((u : Val) (g : G.row.Denot) → copies s.now g → Is G.row g (u ∷ [])
      → Seq K 𝓛 (‵ (flft κ q) ∷ ‵ ((ShrSlice (named 0) κ E.the_row).own_val s (slice_val s.ref_ptr (length s.now) ∷ [])) ∷ Γ) (lands C Λ E₀ d u rest q₀))
      → Seq K 𝓛 (‵ (flft κ q) ∷ ‵ ((ShrSlice (named 0) κ E.the_row).own_val s (slice_val s.ref_ptr (length s.now) ∷ [])) ∷ Γ) (runs C Λ E₀ (seq (call gather xs₀ d) rest) q₀)
  gathers t fm G copies known κ q s os k =
      let v : Val = slice_val s.ref_ptr (length s.now) in
      let Own : Fml = (ShrSlice (named 0) κ E.the_row).own_val s (v ∷ []) in
      move t (1 ∷ []) $ use1 𝓛 (‵ Own ⊛ ‵ Own) ((shr_slice_copy 𝓛 (named 0) κ E.the_row E'.the_row_laws.shr_laws).twice s (v ∷ [])) $ split t $ move t (2 ∷ 0 ∷ []) $
      use2 𝓛 (raw ((Of 𝓛 (gather_ended G copies) (gather_clauses G copies 𝓤)).pre (((κ, tt), (q, tt), tt, (s, tt), (v ∷ [], tt)), tt)))
      (qed 𝓛 (‵ (flft κ q) ∷ ‵ Own ∷ []) ∵ nothing ! $ move ! (2 ∷ 0 ∷ []) $ fjoin ! $ nothing ! $ move ! (2 ∷ 0 ∷ []) $ join ! $ join ! $ frame ! $ done !) $
      calls_told t fm (gather_ended G copies) (gather_clauses G copies 𝓤) known (((κ, tt), (q, tt), tt, (s, tt), (v ∷ [], tt)), tt) os (λ u r ws.
      heard t (copies s.now r) (λ c. drop t $ facts t G.row (Is G.row) (shows 𝓛 G.row) r (u ∷ []) (λ is.
      use1 𝓛 (‵ (flft κ q) ⊛ ‵ ftrue) (id⊢ 𝓤 _) $ split t $ move t (1 ∷ []) $ drop t $ k u r c is)))
