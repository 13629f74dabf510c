-- One law for every function of the shape
--     fn f(s: S, list: [Buffer; n], one: &mut [u8], two: &[u8], pool: &mut [u8]) -> Answer { entry(s, &list, one, two, pool) }
-- that lends a list of its own to an entry (`Entry`), where S is plain, and where f has no `requires`.
--     function     the MIR of f, at the entry's key
--     clauses      f's contract: what is answered, with the memory at exit, is the rule's outcome on s, the memory and the list
--     lender_meets f's MIR meets f's contract, where the entry meets its own
-- Assumes `Logic`, and that an array of n buffers has room in an address space.
use mathlib.Core.Path.{◌≡◌, sym, subst, refl}
use Prim.Native.Nat.{ℕ, ◌^◌}
use mathlib.Core.List.{List, [], ◌∷◌, map}
use lib.Dec.{lit<, T as Holds, ltb}
use lib.ListN.{length}
use seplogic.Ra.Ura.{Ura}
use base.Fraction.{full_share}
use mir.Syntax.{Callee, Ty, Fn, named, erased, imm, mut, w8, w64, ty_int, ty_ref, ty_array, deref, field, place, copy, int, local, value_local, memory_slot, seq, assign, call, return, rv_opd, addr_of, aggregate}
use mir.Val.{Val, bits}
use base.Logic.{SProp, ent, emp, via, fst∗, id⊢}
use base.Fml.{Lft, Share, fat}
use prog.Wp.{WpFn, Tables}
use types.Logic.{Logic}
use contract.Monad.{fact}
use types.Kit.{Item, ‵, raw, ⋆, ◌$◌, ◌∵◌, !, qed, by, move, keep, drop, cut, use1, join, fjoin, rewrite, suffices, frame, done}
use types.Part.{agg, whole, sub}
use types.Run.{look, init, stop, from, lit, addr, of_opd, and_then, no_more, assigns, land, returns, enter, alloc1, alloc0, params1, pass1, pass0, free1, free0}
use sound.WpLaws.{fm_of}
use denote.RattleType.{owns}
use denote.Laws.{Is, shows}
use denote.Memory.{pointee}
use denote.Array.{Array, array_val, array_vals, Array-Tells, Array-Lawful}
use denote.Builtin.{u8, ArrayOf, SliceRefOf, SliceRefMutOf}
use denote.Exit.{yes, Last}
use denote.Ref.{Bor, MutBor}
use denote.Signature.{plain, shr_slice_of}
use denote.Signature.Array.{array_of}
use denote.Slice.{Room, slice_ty, slice_val, shr_slice_vals, shr_slice_Tells, shr_slice_Lawful, mut_slice_vals, mut_slice_Tells, mut_slice_Lawful}
use denote.Steps.{owned, peeks, heard}
use denote.Struct.Laws as LL
use denote.Triple.Statement.{Triple}
use denote.Triple.Clauses.{Ended, Clauses, closing}
use denote.Triple.Entry.{on_entry}
use denote.Triple.Spec.{Meets}
use denote.Triple.Walked.{says, Stays, stay_dropped, gave_slice, walk_of, Goes-dropped, Goes-gave_slice, ends_at}
use Rattle.walks.proofs.Plain.{Plain}
use Rattle.walks.proofs.Steps.{Of, calls_told, cell, frees_at, tokens, token_each, apart, together, skips, keeps, packs, last_is, relends, closes}
use Rattle.virtio.specs.declared.Buffer.{Buffer}
use Rattle.virtio.specs.Memory.{Memory}
use Rattle.rules.specs.Answer.{Outcome}
use Rattle.record.specs.declared.Answer.{Answer}
use Rattle.virtio.specs.contracts.Buffer as E
use Rattle.virtio.proofs.Buffer.TheLaws as E'
use Rattle.record.specs.contracts.Answer as R
use Rattle.record.proofs.Answer.TheLaws as R'
use Rattle.buffers.proofs.Entry as entry
use Rattle.buffers.proofs.Entry.{Says}
use Rattle.buffers.proofs.Lends.{slice_at, lends, taken_back}
use Rattle.buffers.proofs.Parts.{shr_val, mut_val, Reading, Writing, own_list, own_read, own_write, gave_write, answer_typed, only_lasts}

module _ (S : Plain) (rule : S.row.Denot → Memory → List Buffer → Outcome) (n : ℕ) where
  abbrev pub ended : Ended
  ended = record {
    signature = record {
      lifetimes = 3;
      outlives = [];
      params = plain (λ _. S.row) ∷ ArrayOf (plain (λ _. E.the_row)) (λ _. tt) n ∷ SliceRefMutOf (0 ∷ []) tt (plain (λ _. u8)) (λ _. tt) ∷ SliceRefOf (1 ∷ []) tt (plain (λ _. u8)) (λ _. tt) ∷ SliceRefMutOf (2 ∷ []) tt (plain (λ _. u8)) (λ _. tt) ∷ [];
      result = plain (λ _. R.the_row);
    };
    kept = (yes, (yes, (yes, (yes, (yes, tt)))));
  }

  abbrev pub clauses : {M : Type 1} (𝓤 : Ura M) → Clauses 𝓤 ended
  clauses 𝓤 κs a = record {
    ghost = Unit {0};
    requires = λ _. emp 𝓤;
    ensures = λ _ r e. fact 𝓤 (Says S rule a.0 a.1.0 a.1.1.0.now a.1.1.1.0.now a.1.1.1.1.0.now r e.1.1.0.now e.1.1.1.1.0.now);
  }

  -- ---- the code

  abbrev bytes : Ty
  bytes = ty_int w8

  -- a buffer as a reference names it
  abbrev buffer : Ty
  buffer = pointee (E.the_row).written

  abbrev pub function : Callee → Fn
  function entry = record {
    lifetimes = 3;
    outlives = [];
    ty_params = [];
    givens = 0;
    params = 5;
    locals = local R'.mir value_local ∷ local S.ty value_local ∷ local (ty_array E'.mir n) value_local ∷ local (slice_ty (ty_ref (named 0) mut bytes)) value_local ∷ local (slice_ty (ty_ref (named 1) imm bytes)) value_local ∷ local (slice_ty (ty_ref (named 2) mut bytes)) value_local
        ∷ local (ty_array E'.mir n) memory_slot ∷ local (ty_ref erased imm (ty_array buffer n)) value_local ∷ local (slice_ty (ty_ref erased imm buffer)) value_local
        ∷ local (ty_ref erased mut bytes) value_local ∷ local (slice_ty (ty_ref erased mut bytes)) value_local ∷ local (ty_ref erased mut bytes) value_local ∷ local (slice_ty (ty_ref erased mut bytes)) value_local ∷ [];
    body = seq (assign (place 6 []) (rv_opd (copy (place 2 []))))
        (seq (assign (place 7 []) (addr_of (place 6 [])))
        (seq (assign (place 8 []) (aggregate (copy (place 7 []) ∷ int w64 n ∷ [])))
        (seq (assign (place 9 []) (addr_of (place 3 (field 0 ∷ deref bytes ∷ []))))
        (seq (assign (place 10 []) (aggregate (copy (place 9 []) ∷ copy (place 3 (field 1 ∷ [])) ∷ [])))
        (seq (assign (place 11 []) (addr_of (place 5 (field 0 ∷ deref bytes ∷ []))))
        (seq (assign (place 12 []) (aggregate (copy (place 11 []) ∷ copy (place 5 (field 1 ∷ [])) ∷ [])))
        (seq (call entry (copy (place 1 []) ∷ copy (place 8 []) ∷ copy (place 10 []) ∷ copy (place 4 []) ∷ copy (place 12 []) ∷ []) (place 0 [])) return)))))));
  }

  -- ---- at the end nothing is had of the parameters but what says the last values of region one and the pool
  abbrev stayed : Stays ended.signature.params ended.kept
  stayed = (stay_dropped (plain (λ _. S.row)) yes, (stay_dropped (array_of (plain (λ _. E.the_row)) n) yes, (gave_slice (0 ∷ []) tt (plain (λ _. u8)), (stay_dropped (shr_slice_of (1 ∷ []) tt (plain (λ _. u8))) yes, (gave_slice (2 ∷ []) tt (plain (λ _. u8)), tt)))))

  module _ {M : Type 1} {𝓤 : Ura M} (𝓛 : Logic 𝓤) (#entry : Callee) (small : Holds (ltb n (2 ^ bits w64))) (room : Room E.the_row n) where
    open 𝓛 use {H}

    abbrev Asked : Clauses 𝓤 (entry.ended S rule)
    Asked = entry.clauses S rule 𝓤

    module _ (κone κtwo κpool : Lft) (qone qtwo qpool : Share) (s : S.row.Denot) (list : List Buffer) (one : MutBor (List ℕ)) (two : Bor (List ℕ)) (pool : MutBor (List ℕ)) where
      -- the arguments, and their machine values
      abbrev a : S.row.Denot × (List Buffer × (MutBor (List ℕ) × (Bor (List ℕ) × (MutBor (List ℕ) × Unit {0}))))
      a = (s, (list, (one, (two, (pool, tt)))))

      abbrev list_val : Val
      list_val = array_val (map (LL.val E.the_type E'.the_laws) list)

      abbrev vals : List Val × (List Val × (List Val × (List Val × (List Val × Unit {0}))))
      vals = (S.val s ∷ [], (list_val ∷ [], (mut_val one ∷ [], (shr_val two ∷ [], (mut_val pool ∷ [], tt)))))

      -- the lifetimes and shares of the regions, and with that of the array
      abbrev lent : List (Lft × Share)
      lent = (κone, qone) ∷ (κtwo, qtwo) ∷ (κpool, qpool) ∷ []

      abbrev all_lent : ℕ → List (Lft × Share)
      all_lent α = (α ∷ [], full_share) ∷ lent

      -- what the entry is handed, and what is left at the end
      abbrev asked : ℕ → ℕ → List (Item 𝓤)
      asked α l = token_each 𝓤 (all_lent α) (‵ (own_list (α ∷ []) (slice_at l list)) ∷ ‵ (own_write 0 κone one) ∷ ‵ (own_read 1 κtwo two) ∷ ‵ (own_write 2 κpool pool) ∷ [])

      abbrev left : Answer → Val → List ℕ → List ℕ → List (Item 𝓤)
      left r w one_after pool_after = token_each 𝓤 lent (‵ ((R.the_row).own_val r (w ∷ [])) ∷ ‵ (gave_write κone one one_after) ∷ ‵ (gave_write κpool pool pool_after) ∷ [])

      abbrev Post : Val → SProp 𝓤
      Post = (walk_of 𝓛 ended stayed (clauses 𝓤)).post (((κone, (κtwo, (κpool, tt))), (qone, (qtwo, (qpool, tt))), tt, a, vals), tt)

      module _ (s_is : Is S.row s (S.val s ∷ [])) (list_is : Is (Array E.the_row n) list (list_val ∷ [])) (one_is : Is (Writing 0 κone) one (mut_val one ∷ [])) (two_is : Is (Reading 1 κtwo) two (shr_val two ∷ [])) (pool_is : Is (Writing 2 κpool) pool (mut_val pool ∷ [])) where
        long : length list ≡ n
        long = list_is.1.0.1

        -- the call of the entry, at a lifetime α, on the array at l
        abbrev to : ℕ → ℕ → (Of 𝓛 (entry.ended S rule) Asked).Ghost
        to α l = (((α ∷ [], (κone, (κtwo, (κpool, tt)))), (full_share, (qone, (qtwo, (qpool, tt)))), tt, (s, (slice_at l list, (one, (two, (pool, tt))))), (S.val s ∷ [], (slice_val (l, 0) (length list) ∷ [], (mut_val one ∷ [], (shr_val two ∷ [], (mut_val pool ∷ [], tt)))))), tt)

        asks : (α : ℕ) (l : ℕ) → ent 𝓤 (⋆ 𝓛 (asked α l)) ((Of 𝓛 (entry.ended S rule) Asked).pre (to α l))
        asks α l =
            qed 𝓛 (asked α l) ∵ together ! (all_lent α) $ move ! (2 ∷ 3 ∷ 4 ∷ []) $ packs ! $ move ! (2 ∷ 0 ∷ []) $ fjoin ! $ owned ! S.row (Is S.row) (S.makes 𝓛) s _ s_is $ fjoin ! $ move ! (1 ∷ 0 ∷ []) $ join ! $ frame ! $ done !

        exits : (r : Answer) (w : Val) (one_after pool_after : List ℕ) (f : Last (S.row.exit yes) s) → Says S rule s list one.now two.now pool.now r one_after pool_after → length one_after ≡ length one.now → length pool_after ≡ length pool.now
            → ent 𝓤 (⋆ 𝓛 (left r w one_after pool_after)) (Post w)
        exits r w one_after pool_after f e one_length pool_length =
            qed 𝓛 (left r w one_after pool_after) ∵
            suffices ! _ (ends_at 𝓛 ended stayed (clauses 𝓤) (((κone, (κtwo, (κpool, tt))), (qone, (qtwo, (qpool, tt))), tt, a, vals), tt) w r (f, (tt, (one_after, (tt, (pool_after, tt))))) (tt, (tt, (one_length, (tt, (pool_length, tt)))))) $ says ! e $
            together ! lent $ frame ! $ move ! (1 ∷ 2 ∷ []) $ only_lasts ! $ done !

        walk : (𝓣 : Tables 𝓤 H) → Triple 𝓤 (𝓣.C #entry) (Of 𝓛 (entry.ended S rule) Asked)
            → ent 𝓤 (on_entry 𝓛 ended.signature (κone, (κtwo, (κpool, tt))) (qone, (qtwo, (qpool, tt))) a vals) (WpFn 𝓤 H 𝓣.C 𝓣.Λ (function #entry) (S.val s ∷ list_val ∷ mut_val one ∷ shr_val two ∷ mut_val pool ∷ []) Post)
        walk 𝓣 known =
            qed 𝓛 (tokens 𝓤 lent ∷ ‵ (owns (S.row ∷ Array E.the_row n ∷ Writing 0 κone ∷ Reading 1 κtwo ∷ Writing 2 κpool ∷ []) a vals) ∷ []) ∵ enter ! 𝓣.C 𝓣.Λ (function #entry) (S.val s ∷ list_val ∷ mut_val one ∷ shr_val two ∷ mut_val pool ∷ []) _ $
            alloc1 ! (λ l0. alloc1 ! (λ l1. alloc1 ! (λ l2. alloc1 ! (λ l3. alloc1 ! (λ l4. alloc1 ! (λ l5. alloc1 ! (λ l6. alloc1 ! (λ l7. alloc1 ! (λ l8. alloc1 ! (λ l9. alloc1 ! (λ l10. alloc1 ! (λ l11. alloc1 ! (λ l12. alloc0 ! $ params1 ! $
            pass1 ! (init ! 22 refl (S.typed 𝓛 s _ s_is)) $ pass1 ! (init ! 20 refl ((Array-Lawful 𝓛 E.the_row (LL.lawful E.the_type E'.the_laws 𝓛) n).typed list _ list_is).0) $ pass1 ! (init ! 18 refl ((mut_slice_Lawful 𝓛 (named 0) κone u8).typed one _ one_is).0) $
            pass1 ! (init ! 16 refl ((shr_slice_Lawful 𝓛 (named 1) κtwo u8).typed two _ two_is).0) $ pass1 ! (init ! 14 refl ((mut_slice_Lawful 𝓛 (named 2) κpool u8).typed pool _ pool_is).0) $ pass0 ! $
            -- [_12; …; _0; …; the tokens; what the parameters own]
            move ! (27 ∷ []) $ skips ! $ skips ! $ keeps ! $ keeps ! $ keeps ! $ drop ! $ move ! (29 ∷ []) $ apart ! lent $
            -- [the tokens of pool, two, one; what they own; _12; …]
            assigns ! (of_opd ! (cell ! 26 refl)) (from ! (stop !)) (init ! 18 refl ((Array-Lawful 𝓛 E.the_row (LL.lawful E.the_type E'.the_laws 𝓛) n).typed list _ list_is).0) $
            assigns ! (addr ! (from ! (stop !))) (from ! (stop !)) (init ! 16 refl (tt, tt)) $
            assigns ! (agg ! (and_then ! (cell ! 16 refl) (and_then ! (lit ! small) (no_more !)))) (from ! (stop !)) (init ! 14 refl (tt, (tt, (record { fits = lit< small }, tt)))) $
            relends ! 24 12 10 refl (sub ! 0 refl (whole !)) refl (tt, tt) refl refl (sub ! 1 refl (whole !)) refl (tt, (tt, (record { fits = one_is.0.1.0 }, tt))) $
            relends ! 20 8 6 refl (sub ! 0 refl (whole !)) refl (tt, tt) refl refl (sub ! 1 refl (whole !)) refl (tt, (tt, (record { fits = pool_is.0.1.0 }, tt))) $
            rewrite ! 14 (λ (k : ℕ). ‵ (fat full_share (slice_ty (ty_ref erased imm buffer)) l8 0 (slice_val (l6, 0) k))) (sym long) refl $
            -- the array is lent
            move ! (18 ∷ []) $ lends ! tt n list list_val l6 list_is long (subst (λ (k : ℕ). Room E.the_row k) (sym long) room) (λ α.
            move ! (3 ∷ 4 ∷ 5 ∷ 0 ∷ 1 ∷ 8 ∷ 7 ∷ 6 ∷ []) $ cut (asked α l6) (raw ((Of 𝓛 (entry.ended S rule) Asked).pre (to α l6)) ∷ []) _ (asks α l6) $
            -- [what the entry asks; the lender's part; _12; …]
            calls_told ! (fm_of 𝓤 H 𝓛.laws 𝓣) (entry.ended S rule) Asked known (to α l6) (and_then ! (cell ! 23 refl) (and_then ! (cell ! 10 refl) (and_then ! (cell ! 6 refl) (and_then ! (cell ! 17 refl) (and_then ! (cell ! 2 refl) (no_more !)))))) (λ w r ws.
            heard ! (Says S rule s list one.now two.now pool.now r ws.1.1.0 ws.1.1.1.1.0) (λ e. skips ! $ skips ! $ last_is ! (λ one_length. skips ! $ last_is ! (λ pool_length. drop ! $
            -- [the last values of pool, one; the result; the entry's tokens; the lender's part; _12; …]
            move ! (3 ∷ []) $ use1 𝓛 (tokens 𝓤 (all_lent α)) (id⊢ 𝓤 _) $ apart ! (all_lent α) $ move ! (6 ∷ []) $ peeks ! R.the_row (Is R.the_row) (shows 𝓛 R.the_row) r (w ∷ []) (λ is.
            land ! (from ! (stop !)) (init ! 31 refl (answer_typed 𝓛 r _ is)) $
            -- the array is taken back
            move ! (4 ∷ 7 ∷ []) $ taken_back ! tt n list l6 α long $
            returns ! (look ! 30 refl) $ frees_at ! 30 refl refl $ frees_at ! 28 refl refl $ frees_at ! 26 refl refl $ frees_at ! 24 refl refl $ frees_at ! 22 refl refl $ frees_at ! 20 refl refl $ move ! (0 ∷ 19 ∷ []) $ free1 ! $
            frees_at ! 16 refl refl $ frees_at ! 14 refl refl $ frees_at ! 12 refl refl $ frees_at ! 10 refl refl $ frees_at ! 8 refl refl $ frees_at ! 6 refl refl $ free0 ! $
            keep ! (1 ∷ 2 ∷ 3 ∷ 0 ∷ 5 ∷ 4 ∷ []) $ by ! (exits r w ws.1.1.0 ws.1.1.1.1.0 ws.0 e one_length pool_length))))))))))))))))))))

    pub lender_meets : (𝓣 : Tables 𝓤 H) → Triple 𝓤 (𝓣.C #entry) (Of 𝓛 (entry.ended S rule) Asked) → Meets 𝓛 ended.signature (WpFn 𝓤 H 𝓣.C 𝓣.Λ (function #entry)) (closing 𝓛 ended (clauses 𝓤))
    lender_meets 𝓣 known =
        closes 𝓛 ended stayed
        (Goes-dropped 𝓛 3 (plain (λ _. S.row)) yes (λ κs x f. S.silent x f), (Goes-dropped 𝓛 3 (array_of (plain (λ _. E.the_row)) n) yes (λ κs x f. refl), (Goes-gave_slice 𝓛 3 0 tt (plain (λ _. u8)), (Goes-dropped 𝓛 3 (shr_slice_of (1 ∷ []) tt (plain (λ _. u8))) yes (λ κs x f. refl), (Goes-gave_slice 𝓛 3 2 tt (plain (λ _. u8)), tt)))))
        (clauses 𝓤) 𝓣 (function #entry)
        (λ κs. ((λ x. S.val x ∷ []), (array_vals (LL.vals E.the_type E'.the_laws), (mut_slice_vals, (shr_slice_vals, (mut_slice_vals, tt))))))
        (λ κs. (S.tells, (Array-Tells E.the_row (LL.vals E.the_type E'.the_laws) (LL.tells E.the_type E'.the_laws) n, (mut_slice_Tells (named 0) κs.0 u8, (shr_slice_Tells (named 1) κs.1.0 u8, (mut_slice_Tells (named 2) κs.1.1.0 u8, tt))))))
        (λ κs qs bounds x g are. via 𝓤 _ (fst∗ 𝓤 _ (emp 𝓤)) (walk κs.0 κs.1.0 κs.1.1.0 qs.0 qs.1.0 qs.1.1.0 x.0 x.1.0 x.1.1.0 x.1.1.1.0 x.1.1.1.1.0 are.0 are.1.0 are.1.1.0 are.1.1.1.0 are.1.1.1.1.0 𝓣 known))
