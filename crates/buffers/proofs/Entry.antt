-- One law for every entry of the shape
--     pub fn f(s: S, list: &[Buffer], one: &mut [u8], two: &[u8], pool: &mut [u8]) -> Answer { core(s, gather(list), one, two, pool) }
-- where S and what gather makes of a list are plain, and where neither f, gather nor the core has a `requires`.
--     function     the MIR of f, at gather's key and the core's
--     clauses      f's contract: what is answered, with the memory at exit, is the rule's outcome on s, the memory and the list
--     core_clauses the core's: the same on the list that stands for what gather made
--     entry_meets  f's MIR meets f's contract, where gather (`Calls`) and the core meet theirs, and the rule takes a list as it takes the one that stands for it
-- The borrows of region one and the pool go to the core for good, each at its own lifetime, share and ghost name.
-- Assumes `Logic`.
use mathlib.Core.Path.{◌≡◌, ◌∙◌, refl}
use Prim.Native.Nat.{ℕ}
use mathlib.Core.List.{List, [], ◌∷◌}
use lib.ListN.{length}
use seplogic.Ra.Ura.{Ura}
use mir.Syntax.{Callee, Ty, Fn, named, erased, imm, mut, w8, ty_int, ty_ref, deref, field, place, copy, local, value_local, seq, assign, call, return, addr_of, aggregate}
use mir.Val.{Val}
use base.Logic.{SProp, ent, emp, via, fst∗, id⊢}
use base.Fml.{Lft, Share}
use prog.Wp.{WpFn, Tables}
use types.Logic.{Logic}
use contract.Monad.{fact}
use types.Kit.{Item, ‵, raw, ⋆, ◌$◌, ◌∵◌, !, qed, by, move, keep, drop, cut, use1, join, fjoin, suffices, frame, done}
use types.Part.{whole, sub}
use types.Run.{look, init, stop, from, and_then, no_more, land, returns, enter, alloc1, alloc0, params1, pass1, pass0, free0}
use sound.WpLaws.{fm_of}
use denote.RattleType.{owns}
use denote.Laws.{Is, shows}
use denote.Memory.{pointee}
use denote.Builtin.{u8, SliceRefOf, SliceRefMutOf}
use denote.Exit.{yes, Last}
use denote.Ref.{Bor, MutBor}
use denote.Signature.{plain, shr_slice_of}
use denote.Slice.{slice_ty, shr_slice_vals, shr_slice_Tells, shr_slice_Lawful, mut_slice_vals, mut_slice_Tells, mut_slice_Lawful}
use denote.Steps.{owned, peeks, heard}
use denote.Triple.Statement.{Triple}
use denote.Triple.Clauses.{Ended, Clauses, closing}
use denote.Triple.Entry.{on_entry}
use denote.Triple.Spec.{Meets}
use denote.Triple.Walked.{says, Stays, stay_dropped, gave_slice, walk_of, Goes-dropped, Goes-gave_slice, ends_at}
use Rattle.walks.proofs.Plain.{Plain}
use Rattle.walks.proofs.Steps.{Of, calls_told, cell, frees_at, tokens, token_each, apart, together, skips, keeps, packs, last_is, relends, closes}
use Rattle.virtio.specs.declared.Buffer.{Buffer}
use Rattle.virtio.specs.Memory.{Memory}
use Rattle.rules.specs.Answer.{Outcome}
use Rattle.access.specs.Accesses.{memory}
use Rattle.record.specs.declared.Answer.{Answer}
use Rattle.record.specs.Asked.{answer_of}
use Rattle.virtio.specs.contracts.Buffer as E
use Rattle.record.specs.contracts.Answer as R
use Rattle.record.proofs.Answer.TheLaws as R'
use Rattle.buffers.proofs.Calls.{gather_ended, gather_clauses, gathers}
use Rattle.buffers.proofs.Parts.{shr_val, mut_val, Listing, Reading, Writing, own_read, own_write, gave_write, answer_typed, only_lasts}

module _ (S : Plain) (rule : S.row.Denot → Memory → List Buffer → Outcome) where
  -- ---- the contracts: the entry's, and the core's

  abbrev pub ended : Ended
  ended = record {
    signature = record {
      lifetimes = 4;
      outlives = [];
      params = plain (λ _. S.row) ∷ SliceRefOf (0 ∷ []) tt (plain (λ _. E.the_row)) (λ _. tt) ∷ SliceRefMutOf (1 ∷ []) tt (plain (λ _. u8)) (λ _. tt) ∷ SliceRefOf (2 ∷ []) tt (plain (λ _. u8)) (λ _. tt) ∷ SliceRefMutOf (3 ∷ []) tt (plain (λ _. u8)) (λ _. tt) ∷ [];
      result = plain (λ _. R.the_row);
    };
    kept = (yes, (yes, (yes, (yes, (yes, tt)))));
  }

  -- the outcome is the rule's, over what regions one, two and the pool hold at entry, and one and the pool at exit
  abbrev pub Says : S.row.Denot → List Buffer → List ℕ → List ℕ → List ℕ → Answer → List ℕ → List ℕ → Type 0
  Says s list one two pool r one_after pool_after = answer_of r (memory one_after two pool_after) ≡ rule s (memory one two pool) list

  abbrev pub clauses : {M : Type 1} (𝓤 : Ura M) → Clauses 𝓤 ended
  clauses 𝓤 κs a = record {
    ghost = Unit {0};
    requires = λ _. emp 𝓤;
    ensures = λ _ r e. fact 𝓤 (Says a.0 a.1.0.now a.1.1.0.now a.1.1.1.0.now a.1.1.1.1.0.now r e.1.1.0.now e.1.1.1.1.0.now);
  }

  -- gather makes a G that copies a list, and of a G the core takes the list that stands for it
  module _ (G : Plain) (copies : List Buffer → G.row.Denot → Type 0) (stands_for : G.row.Denot → List Buffer) where
    abbrev pub core_ended : Ended
    core_ended = record {
      signature = record {
        lifetimes = 3;
        outlives = [];
        params = plain (λ _. S.row) ∷ plain (λ _. G.row) ∷ SliceRefMutOf (0 ∷ []) tt (plain (λ _. u8)) (λ _. tt) ∷ SliceRefOf (1 ∷ []) tt (plain (λ _. u8)) (λ _. tt) ∷ SliceRefMutOf (2 ∷ []) tt (plain (λ _. u8)) (λ _. tt) ∷ [];
        result = plain (λ _. R.the_row);
      };
      kept = (yes, (yes, (yes, (yes, (yes, tt)))));
    }

    abbrev pub core_clauses : {M : Type 1} (𝓤 : Ura M) → Clauses 𝓤 core_ended
    core_clauses 𝓤 κs a = record {
      ghost = Unit {0};
      requires = λ _. emp 𝓤;
      ensures = λ _ r e. fact 𝓤 (Says a.0 (stands_for a.1.0) a.1.1.0.now a.1.1.1.0.now a.1.1.1.1.0.now r e.1.1.0.now e.1.1.1.1.0.now);
    }

    -- ---- the code

    abbrev bytes : Ty
    bytes = ty_int w8

    abbrev pub function : Callee → Callee → Fn
    function gather core = record {
      lifetimes = 4;
      outlives = [];
      ty_params = [];
      givens = 0;
      params = 5;
      locals = local R'.mir value_local ∷ local S.ty value_local ∷ local (slice_ty (ty_ref (named 0) imm (pointee (E.the_row).written))) value_local ∷ local (slice_ty (ty_ref (named 1) mut bytes)) value_local ∷ local (slice_ty (ty_ref (named 2) imm bytes)) value_local ∷ local (slice_ty (ty_ref (named 3) mut bytes)) value_local
          ∷ local G.ty value_local ∷ local (ty_ref erased mut bytes) value_local ∷ local (slice_ty (ty_ref erased mut bytes)) value_local ∷ local (ty_ref erased mut bytes) value_local ∷ local (slice_ty (ty_ref erased mut bytes)) value_local ∷ [];
      body = seq (call gather (copy (place 2 []) ∷ []) (place 6 []))
          (seq (assign (place 7 []) (addr_of (place 3 (field 0 ∷ deref bytes ∷ []))))
          (seq (assign (place 8 []) (aggregate (copy (place 7 []) ∷ copy (place 3 (field 1 ∷ [])) ∷ [])))
          (seq (assign (place 9 []) (addr_of (place 5 (field 0 ∷ deref bytes ∷ []))))
          (seq (assign (place 10 []) (aggregate (copy (place 9 []) ∷ copy (place 5 (field 1 ∷ [])) ∷ [])))
          (seq (call core (copy (place 1 []) ∷ copy (place 6 []) ∷ copy (place 8 []) ∷ copy (place 4 []) ∷ copy (place 10 []) ∷ []) (place 0 [])) return)))));
    }

    -- ---- at the end nothing is had of the parameters but what says the last values of region one and the pool
    abbrev stayed : Stays ended.signature.params ended.kept
    stayed = (stay_dropped (plain (λ _. S.row)) yes, (stay_dropped (shr_slice_of (0 ∷ []) tt (plain (λ _. E.the_row))) yes, (gave_slice (1 ∷ []) tt (plain (λ _. u8)), (stay_dropped (shr_slice_of (2 ∷ []) tt (plain (λ _. u8))) yes, (gave_slice (3 ∷ []) tt (plain (λ _. u8)), tt)))))

    module _ {M : Type 1} {𝓤 : Ura M} (𝓛 : Logic 𝓤) (#gather #core : Callee) (stands : (s : S.row.Denot) (m : Memory) (xs : List Buffer) (g : G.row.Denot) → copies xs g → rule s m (stands_for g) ≡ rule s m xs) where
      open 𝓛 use {H}

      module _ (κlist κone κtwo κpool : Lft) (qlist qone qtwo qpool : Share) (s : S.row.Denot) (list : Bor (List Buffer)) (one : MutBor (List ℕ)) (two : Bor (List ℕ)) (pool : MutBor (List ℕ)) where
        -- the arguments, and their machine values
        abbrev a : S.row.Denot × (Bor (List Buffer) × (MutBor (List ℕ) × (Bor (List ℕ) × (MutBor (List ℕ) × Unit {0}))))
        a = (s, (list, (one, (two, (pool, tt)))))

        abbrev vals : List Val × (List Val × (List Val × (List Val × (List Val × Unit {0}))))
        vals = (S.val s ∷ [], (shr_val list ∷ [], (mut_val one ∷ [], (shr_val two ∷ [], (mut_val pool ∷ [], tt)))))

        -- the lifetimes and shares of the regions, and with that of the list
        abbrev lent : List (Lft × Share)
        lent = (κone, qone) ∷ (κtwo, qtwo) ∷ (κpool, qpool) ∷ []

        abbrev all_lent : List (Lft × Share)
        all_lent = (κlist, qlist) ∷ lent

        -- what the core is handed, and what is left at the end
        abbrev asked : List (Item 𝓤)
        asked = token_each 𝓤 lent (‵ (own_write 1 κone one) ∷ ‵ (own_read 2 κtwo two) ∷ ‵ (own_write 3 κpool pool) ∷ [])

        abbrev left : Answer → Val → List ℕ → List ℕ → List (Item 𝓤)
        left r w one_after pool_after = token_each 𝓤 all_lent (‵ ((R.the_row).own_val r (w ∷ [])) ∷ ‵ (gave_write κone one one_after) ∷ ‵ (gave_write κpool pool pool_after) ∷ [])

        abbrev Post : Val → SProp 𝓤
        Post = (walk_of 𝓛 ended stayed (clauses 𝓤)).post (((κlist, (κone, (κtwo, (κpool, tt)))), (qlist, (qone, (qtwo, (qpool, tt)))), tt, a, vals), tt)

        module _ (s_is : Is S.row s (S.val s ∷ [])) (list_is : Is (Listing κlist) list (shr_val list ∷ [])) (one_is : Is (Writing 1 κone) one (mut_val one ∷ [])) (two_is : Is (Reading 2 κtwo) two (shr_val two ∷ [])) (pool_is : Is (Writing 3 κpool) pool (mut_val pool ∷ [])) where
          -- the call of the core, on what gather made, at the machine value u
          abbrev to_core : Val → G.row.Denot → (Of 𝓛 core_ended (core_clauses 𝓤)).Ghost
          to_core u g = (((κone, (κtwo, (κpool, tt))), (qone, (qtwo, (qpool, tt))), tt, (s, (g, (one, (two, (pool, tt))))), (S.val s ∷ [], (u ∷ [], (mut_val one ∷ [], (shr_val two ∷ [], (mut_val pool ∷ [], tt)))))), tt)

          asks_core : (u : Val) (g : G.row.Denot) → Is G.row g (u ∷ []) → ent 𝓤 (⋆ 𝓛 asked) ((Of 𝓛 core_ended (core_clauses 𝓤)).pre (to_core u g))
          asks_core u g g_is =
              qed 𝓛 asked ∵ together ! lent $ move ! (1 ∷ 2 ∷ 3 ∷ []) $ packs ! $ owned ! G.row (Is G.row) (G.makes 𝓛) g _ g_is $ fjoin ! $ owned ! S.row (Is S.row) (S.makes 𝓛) s _ s_is $ fjoin ! $ move ! (1 ∷ 0 ∷ []) $ join ! $ frame ! $ done !

          exits : (r : Answer) (w : Val) (one_after pool_after : List ℕ) (f : Last (S.row.exit yes) s) → Says s list.now one.now two.now pool.now r one_after pool_after → length one_after ≡ length one.now → length pool_after ≡ length pool.now
              → ent 𝓤 (⋆ 𝓛 (left r w one_after pool_after)) (Post w)
          exits r w one_after pool_after f e one_length pool_length =
              qed 𝓛 (left r w one_after pool_after) ∵
              suffices ! _ (ends_at 𝓛 ended stayed (clauses 𝓤) (((κlist, (κone, (κtwo, (κpool, tt)))), (qlist, (qone, (qtwo, (qpool, tt)))), tt, a, vals), tt) w r (f, (tt, (one_after, (tt, (pool_after, tt))))) (tt, (tt, (one_length, (tt, (pool_length, tt)))))) $ says ! e $
              together ! all_lent $ frame ! $ move ! (1 ∷ 2 ∷ []) $ only_lasts ! $ done !

          walk : (𝓣 : Tables 𝓤 H) → Triple 𝓤 (𝓣.C #gather) (Of 𝓛 (gather_ended G copies) (gather_clauses G copies 𝓤)) → Triple 𝓤 (𝓣.C #core) (Of 𝓛 core_ended (core_clauses 𝓤))
              → ent 𝓤 (on_entry 𝓛 ended.signature (κlist, (κone, (κtwo, (κpool, tt)))) (qlist, (qone, (qtwo, (qpool, tt)))) a vals) (WpFn 𝓤 H 𝓣.C 𝓣.Λ (function #gather #core) (S.val s ∷ shr_val list ∷ mut_val one ∷ shr_val two ∷ mut_val pool ∷ []) Post)
          walk 𝓣 known_gather known_core =
              qed 𝓛 (tokens 𝓤 all_lent ∷ ‵ (owns (S.row ∷ Listing κlist ∷ Writing 1 κone ∷ Reading 2 κtwo ∷ Writing 3 κpool ∷ []) a vals) ∷ []) ∵ enter ! 𝓣.C 𝓣.Λ (function #gather #core) (S.val s ∷ shr_val list ∷ mut_val one ∷ shr_val two ∷ mut_val pool ∷ []) _ $
              alloc1 ! (λ l0. alloc1 ! (λ l1. alloc1 ! (λ l2. alloc1 ! (λ l3. alloc1 ! (λ l4. alloc1 ! (λ l5. alloc1 ! (λ l6. alloc1 ! (λ l7. alloc1 ! (λ l8. alloc1 ! (λ l9. alloc1 ! (λ l10. alloc0 ! $ params1 ! $
              pass1 ! (init ! 18 refl (S.typed 𝓛 s _ s_is)) $ pass1 ! (init ! 16 refl ((shr_slice_Lawful 𝓛 (named 0) κlist E.the_row).typed list _ list_is).0) $ pass1 ! (init ! 14 refl ((mut_slice_Lawful 𝓛 (named 1) κone u8).typed one _ one_is).0) $
              pass1 ! (init ! 12 refl ((shr_slice_Lawful 𝓛 (named 2) κtwo u8).typed two _ two_is).0) $ pass1 ! (init ! 10 refl ((mut_slice_Lawful 𝓛 (named 3) κpool u8).typed pool _ pool_is).0) $ pass0 ! $
              -- [_10; …; _0; …; the tokens; what the parameters own]
              move ! (23 ∷ []) $ skips ! $ keeps ! $ keeps ! $ keeps ! $ keeps ! $ drop ! $ move ! (26 ∷ []) $ apart ! all_lent $
              -- [the list's token; the list; the tokens of pool, two, one; what they own; _10; …]
              move ! (3 ∷ 7 ∷ []) $ gathers ! (fm_of 𝓤 H 𝓛.laws 𝓣) G copies known_gather κlist qlist list (and_then ! (cell ! 24 refl) (no_more !)) (λ u g copied g_is.
              land ! (from ! (stop !)) (init ! 16 refl (G.typed 𝓛 g _ g_is)) $
              relends ! 22 14 12 refl (sub ! 0 refl (whole !)) refl (tt, tt) refl refl (sub ! 1 refl (whole !)) refl (tt, (tt, (record { fits = one_is.0.1.0 }, tt))) $
              relends ! 18 10 8 refl (sub ! 0 refl (whole !)) refl (tt, tt) refl refl (sub ! 1 refl (whole !)) refl (tt, (tt, (record { fits = pool_is.0.1.0 }, tt))) $
              move ! (2 ∷ 3 ∷ 4 ∷ 7 ∷ 6 ∷ 5 ∷ []) $ cut asked (raw ((Of 𝓛 core_ended (core_clauses 𝓤)).pre (to_core u g)) ∷ []) _ (asks_core u g g_is) $
              -- [what the core asks; the list's token; the list; _10; …]
              calls_told ! (fm_of 𝓤 H 𝓛.laws 𝓣) core_ended (core_clauses 𝓤) known_core (to_core u g) (and_then ! (cell ! 21 refl) (and_then ! (cell ! 11 refl) (and_then ! (cell ! 7 refl) (and_then ! (cell ! 15 refl) (and_then ! (cell ! 3 refl) (no_more !)))))) (λ w r ws.
              heard ! (Says s (stands_for g) one.now two.now pool.now r ws.1.1.0 ws.1.1.1.1.0) (λ e. skips ! $ skips ! $ last_is ! (λ one_length. skips ! $ last_is ! (λ pool_length. drop ! $
              -- [the last values of pool, one; the result; the core's tokens; the list's token; the list; _10; …]
              move ! (3 ∷ []) $ use1 𝓛 (tokens 𝓤 lent) (id⊢ 𝓤 _) $ apart ! lent $ move ! (5 ∷ []) $ peeks ! R.the_row (Is R.the_row) (shows 𝓛 R.the_row) r (w ∷ []) (λ is.
              land ! (from ! (stop !)) (init ! 28 refl (answer_typed 𝓛 r _ is)) $
              returns ! (look ! 28 refl) $ frees_at ! 28 refl refl $ frees_at ! 26 refl refl $ frees_at ! 24 refl refl $ frees_at ! 22 refl refl $ frees_at ! 20 refl refl $ frees_at ! 18 refl refl $ frees_at ! 16 refl refl $ frees_at ! 14 refl refl $ frees_at ! 12 refl refl $ frees_at ! 10 refl refl $ frees_at ! 8 refl refl $ free0 ! $
              keep ! (1 ∷ 2 ∷ 3 ∷ 6 ∷ 0 ∷ 5 ∷ 4 ∷ []) $ by ! (exits r w ws.1.1.0 ws.1.1.1.1.0 ws.0 (e ∙ stands s (memory one.now two.now pool.now) list.now g copied) one_length pool_length))))))))))))))))))

      pub entry_meets : (𝓣 : Tables 𝓤 H) → Triple 𝓤 (𝓣.C #gather) (Of 𝓛 (gather_ended G copies) (gather_clauses G copies 𝓤)) → Triple 𝓤 (𝓣.C #core) (Of 𝓛 core_ended (core_clauses 𝓤))
          → Meets 𝓛 ended.signature (WpFn 𝓤 H 𝓣.C 𝓣.Λ (function #gather #core)) (closing 𝓛 ended (clauses 𝓤))
      entry_meets 𝓣 known_gather known_core =
          closes 𝓛 ended stayed
          (Goes-dropped 𝓛 4 (plain (λ _. S.row)) yes (λ κs x f. S.silent x f), (Goes-dropped 𝓛 4 (shr_slice_of (0 ∷ []) tt (plain (λ _. E.the_row))) yes (λ κs x f. refl), (Goes-gave_slice 𝓛 4 1 tt (plain (λ _. u8)), (Goes-dropped 𝓛 4 (shr_slice_of (2 ∷ []) tt (plain (λ _. u8))) yes (λ κs x f. refl), (Goes-gave_slice 𝓛 4 3 tt (plain (λ _. u8)), tt)))))
          (clauses 𝓤) 𝓣 (function #gather #core)
          (λ κs. ((λ x. S.val x ∷ []), (shr_slice_vals, (mut_slice_vals, (shr_slice_vals, (mut_slice_vals, tt))))))
          (λ κs. (S.tells, (shr_slice_Tells (named 0) κs.0 E.the_row, (mut_slice_Tells (named 1) κs.1.0 u8, (shr_slice_Tells (named 2) κs.1.1.0 u8, (mut_slice_Tells (named 3) κs.1.1.1.0 u8, tt))))))
          (λ κs qs bounds x g are. via 𝓤 _ (fst∗ 𝓤 _ (emp 𝓤)) (walk κs.0 κs.1.0 κs.1.1.0 κs.1.1.1.0 qs.0 qs.1.0 qs.1.1.0 qs.1.1.1.0 x.0 x.1.0 x.1.1.0 x.1.1.1.0 x.1.1.1.1.0 are.0 are.1.0 are.1.1.0 are.1.1.1.0 are.1.1.1.1.0 𝓣 known_gather known_core))
