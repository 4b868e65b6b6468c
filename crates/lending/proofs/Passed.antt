-- The walk of an exported function that passes the record on, once for all of them:
--     fn f(rec: &mut Rec, a₁, …, aₖ) -> Res { let q = g(a₁, …, aₖ); h(rec, q) }
-- where g makes of the arguments what is asked, a struct by value, and h does it at the record. All exports then share one h, and its
-- code stands once in the library. Assumes nothing.
use mathlib.Core.Path.{◌≡◌, refl, sym, subst}
use Prim.Native.Nat.{ℕ, suc}
use mathlib.Core.List.{[], ◌∷◌, List}
use seplogic.Ra.Ura.{Ura}
use lib.ListN.{get_or}
use mir.Syntax.{Callee, Ty, ty_ref, mut, named, Local, local, value_local, copy, place, deref, erased, addr_of, Fn, Body, seq, assign, call, return}
use mir.Val.{Val, vptr}
use base.Logic.{SProp, ent, sep, ex, emp, id⊢, via, emp∗, comm∗, fst∗}
use base.Fml.{Lft, Share, flft}
use prog.Wp.{WpFn, Tables, Env, Calls, Loops, no_local}
use types.Logic.{Logic, sem}
use contract.Monad.{fact}
use types.Kit.{Item, Sq, allocs, params', runs, at_ret, mean, ⋆, ‵, raw, ◌⊛◌, some, later, ◌$◌, ◌∵◌, !, qed, use0, suffices, frame, done, by, move, drop, use1, split, join, pick, fsplit, fjoin, await}
use types.Run.{addr, enter, look, init, forget, stop, hop, from, load, assigns, and_then, no_more, land, returns, alloc1, alloc0, params1, pass1, free1, free0}
use sound.WpLaws.{FmC, fm_of, WpFn-mono}
use contract.Lifetimes.{Lfts, Shares, AllOutlive, toks}
use denote.RattleType.{RattleType, Denots, owns}
use denote.Laws.{Is, shows}
use denote.Ref.{MutBor, MutRef, mut_vals}
use denote.Triple.Statement.{Triple}
use denote.Triple.Entry.{on_entry}
use denote.Signature.{Slot, plain, types_at, mut_ref_to}
use denote.Exit.{yes}
use denote.Triple.End.{Kepts, Fins, lasts_of}
use denote.Triple.Clauses.{Clauses, Ended, at_exit, closing}
use denote.Triple.Spec.{Meets}
use denote.Triple.Walked.{has_of, walk_of, ends_at, walked, walk_Meets}
use denote.Memory.{pointee}
use denote.Steps.{peeks, heard, nothing}
use denote.Struct.Laws as LL
use denote.Struct.Struct.{layout}
use denote.Struct.Declared.{Declared, shape, row}
use denote.Triple.Call.{calls_from}
use Rattle.lending.proofs.Arguments.{Spots, Words, listed, Good, envs, locals, operands, Spotted, alloc_args, pass_args, free_args, found, read_args, second, Handed, struct_mut, slots, keeps, tys, dropped, words, spelling, spelled, telling, flat_is, all_good, fit_all, have_last, go_dropped}

-- a record N, what is asked Q, and what is answered R
pub record Passable : Type 3 where
  pub N : Declared
  pub Q : Declared
  pub asked_laws : LL.Laws Q
  pub R : Declared
  pub result_laws : LL.Laws R

module _ (P : Passable) where
  abbrev Rec : Type 0
  Rec = P.N.D

  abbrev Ask : Type 0
  Ask = P.Q.D

  abbrev Res : Type 0
  Res = P.R.D

  abbrev Row : RattleType
  Row = row P.N

  abbrev Asked : RattleType
  Asked = row P.Q

  abbrev Result : RattleType
  Result = row P.R

  abbrev τ_res : Ty
  τ_res = layout (shape P.R)

  abbrev τ_ask : Ty
  τ_ask = layout (shape P.Q)

  abbrev τ_row : Ty
  τ_row = layout (shape P.N)

  abbrev τ_net : Ty
  τ_net = ty_ref (named 0) mut (pointee Row.written)

  -- the record, lent on
  abbrev τ_on : Ty
  τ_on = ty_ref erased mut (pointee Row.written)

  -- iq and ir are the places of what is asked and of the reference that is lent on
  abbrev pub pass_locals : List Ty → List Local
  pass_locals τs = local τ_res value_local ∷ local τ_net value_local ∷ locals τs (local τ_ask value_local ∷ local τ_on value_local ∷ [])

  abbrev pub pass_body : Callee → Callee → List Ty → ℕ → ℕ → Body
  pass_body g h τs iq ir =
      seq (call g (operands 2 τs) (place iq [])) (seq (assign (place ir []) (addr_of (place 1 (deref τ_row ∷ []))))
      (seq (call h (copy (place ir []) ∷ copy (place iq []) ∷ []) (place 0 [])) return))

  module _ {M : Type 1} {𝓤 : Ura M} (𝓛 : Logic 𝓤) where
    open 𝓛 use {H}

    abbrev pub pass_env : (τs : List Ty) → ℕ → ℕ → Spots τs → ℕ → ℕ → Env 𝓤 H
    pass_env τs l₀ l₁ bs lq lr = (τ_res, l₀) ∷ (τ_net, l₁) ∷ envs τs bs ((τ_ask, lq) ∷ (τ_on, lr) ∷ [])

    abbrev pub Pass-placed : List Ty → ℕ → ℕ → Type 0
    Pass-placed τs iq ir = (l₀ l₁ : ℕ) (bs : Spots τs) (lq lr : ℕ)
        → (get_or (pass_env τs l₀ l₁ bs lq lr) iq (no_local 𝓤 H) ≡ (τ_ask, lq)) × ((get_or (pass_env τs l₀ l₁ bs lq lr) ir (no_local 𝓤 H) ≡ (τ_on, lr)) × Spotted (no_local 𝓤 H) (pass_env τs l₀ l₁ bs lq lr) 2 τs bs)

    -- what g and h leave: what they hand back, what they return, and what they ensure
    abbrev pub Made : Item 𝓤 → (Ask → SProp 𝓤) → Val → Item 𝓤
    Made back En v = later (some (λ (q : Ask). (back ⊛ ‵ (Asked.own_val q (v ∷ []))) ⊛ raw (En q)))

    abbrev pub Answered : Item 𝓤 → (Res → SProp 𝓤) → Val → Item 𝓤
    Answered back En v = later (some (λ (r : Res). (back ⊛ ‵ (Result.own_val r (v ∷ []))) ⊛ raw (En r)))

    pub pass : (C : Calls 𝓤 H) (Λ : Loops 𝓤 H) → FmC 𝓤 H 𝓛.laws C → (g h : Callee) (τs : List Ty) (us : Words τs) → Good τs us → (iq ir : ℕ) → Pass-placed τs iq ir
        → (b o : ℕ) (give₁ give₂ back₁ back₂ : Item 𝓤) (En₁ : Ask → SProp 𝓤) (En₂ : Ask → Res → SProp 𝓤) (Post : Val → SProp 𝓤)
        → ent 𝓤 (mean 𝓛 give₁) (C g (listed τs us) (λ v. mean 𝓛 (Made back₁ En₁ v)))
        → ((q : Ask) (v : Val) → ent 𝓤 (mean 𝓛 (give₂ ⊛ ‵ (Asked.own_val q (v ∷ [])))) (C h (vptr b o ∷ v ∷ []) (λ v'. mean 𝓛 (Answered back₂ (En₂ q) v'))))
        → ((q : Ask) (r : Res) (v' : Val) → ent 𝓤 (⋆ 𝓛 (‵ (Result.own_val r (v' ∷ [])) ∷ (back₂ ⊛ raw (En₂ q r)) ∷ (back₁ ⊛ raw (En₁ q)) ∷ [])) (Post v'))
        → Sq 𝓛 (give₁ ∷ give₂ ∷ [])
        (allocs (pass_locals τs) (λ E. params' E (vptr b o ∷ listed τs us) (runs C Λ E (pass_body g h τs iq ir) (at_ret E Post))))
    pass C Λ fm g h τs us good iq ir placed b o give₁ give₂ back₁ back₂ En₁ En₂ Post met₁ met₂ exits =
        alloc1 ! (λ l₀. alloc1 ! (λ l₁. alloc_args 𝓛 τs (λ bs. alloc1 ! (λ lq. alloc1 ! (λ lr. alloc0 ! $ params1 ! $
        -- [_r; …; _q; …; the arguments' rooms; _1; …; _0; …; give₁; give₂]
        pass1 ! (init ! 5 refl (tt, tt)) $ move ! (4 ∷ []) $ pass_args 𝓛 τs bs us good ((τ_ask, lq) ∷ (τ_on, lr) ∷ []) (
        -- [the arguments' cells; _r; …; _q 3; …; _1 5; …; _0 7; …; give₁ 9; give₂ 10]
        move ! (9 ∷ []) $
        calls_from ! fm give₁ (listed τs us) (λ v. mean 𝓛 (Made back₁ En₁ v)) met₁ (second 𝓛 (read_args 𝓛 τs bs us 2 (placed l₀ l₁ bs lq lr).1.1)) (λ v.
        use1 𝓛 (Made back₁ En₁ v) (id⊢ 𝓤 _) $ await ! tt $ pick ! (λ q.
        split ! $ split ! $ move ! (0 ∷ 2 ∷ []) $ join ! $ move ! (1 ∷ []) $ peeks ! Asked (Is Asked) (shows 𝓛 Asked) q (v ∷ []) (λ is.
        -- [what Q owns; back₁; the arguments' cells; _r 3; …; _q 5; …; _1 7; …; _0 9; …; give₂ 11]
        land ! (found 𝓛 (placed l₀ l₁ bs lq lr).0 (stop !)) (init ! 5 refl ((LL.lawful P.Q P.asked_laws 𝓛).typed q _ is).0) $
        assigns ! (addr ! (from ! (hop ! (look ! 7 refl) (stop !)))) (found 𝓛 (placed l₀ l₁ bs lq lr).1.0 (stop !)) (init ! 3 refl (tt, tt)) $
        move ! (11 ∷ 0 ∷ []) $ join ! $
        -- [what is handed to h; back₁; the arguments' cells; _r 3; …; _q 5; …; _1 7; …; _0 9; …]
        calls_from ! fm (give₂ ⊛ ‵ (Asked.own_val q (v ∷ []))) (vptr b o ∷ v ∷ []) (λ v'. mean 𝓛 (Answered back₂ (En₂ q) v')) (met₂ q v)
        (and_then ! (load ! (found 𝓛 (placed l₀ l₁ bs lq lr).1.0 (stop !)) (look ! 3 refl)) (and_then ! (load ! (found 𝓛 (placed l₀ l₁ bs lq lr).0 (stop !)) (look ! 5 refl)) (no_more !))) (λ v'.
        use1 𝓛 (Answered back₂ (En₂ q) v') (id⊢ 𝓤 _) $ await ! tt $ pick ! (λ r.
        split ! $ split ! $ move ! (0 ∷ 2 ∷ []) $ join ! $ move ! (1 ∷ []) $ peeks ! Result (Is Result) (shows 𝓛 Result) r (v' ∷ []) (λ is'.
        -- [what R owns; back₂; back₁; the arguments' cells; _r 4; …; _q 6; …; _1 8; …; _0 10; …]
        land ! (from ! (stop !)) (init ! 10 refl ((LL.lawful P.R P.result_laws 𝓛).typed r _ is').0) $
        returns ! (look ! 10 refl) $ forget ! 4 refl $ forget ! 6 refl $ forget ! 8 refl $ forget ! 10 refl $ move ! (10 ∷ 11 ∷ []) $ free1 ! $ move ! (8 ∷ 9 ∷ []) $ free1 ! $
        move ! (3 ∷ []) $ free_args 𝓛 τs bs us (move ! (5 ∷ 6 ∷ []) $ free1 ! $ move ! (3 ∷ 4 ∷ []) $ free1 ! $ free0 ! $ by ! (exits q r v'))))))))))))))

  -- ---- the exported function's contract
  module _ (m : ℕ) (hs : List (Handed (suc m))) where
    -- the record is one of the arguments that are handed on
    abbrev all : List (Handed (suc m))
    all = struct_mut 0 tt P.N ∷ hs

    abbrev pub Passed : Ended
    Passed = record { signature = record { lifetimes = suc m; outlives = []; params = slots all; result = plain (λ _. Result) }; kept = keeps all }

    abbrev τs : List Ty
    τs = tys hs

    abbrev pub pass_fn : Callee → Callee → ℕ → ℕ → ℕ → Fn
    pass_fn g h p iq ir = record { lifetimes = suc m; outlives = []; ty_params = []; givens = 0; params = p; locals = pass_locals τs; body = pass_body g h τs iq ir }

    abbrev Types : Lfts (suc m) → List RattleType
    Types κs = types_at (slots hs) κs

    -- the slots of h: the record at its one lifetime, and what is asked
    abbrev at_slots : List (Slot 1)
    at_slots = mut_ref_to (0 ∷ []) tt (plain (λ _. Row)) ∷ plain (λ _. Asked) ∷ []

    abbrev at_kept : Kepts at_slots
    at_kept = (yes, (yes, tt))

    module _ {M : Type 1} {𝓤 : Ura M} (𝓛 : Logic 𝓤) (c : Clauses 𝓤 Passed) (g h : Callee) (p iq ir : ℕ) (placed : Pass-placed 𝓛 τs iq ir)
        (Φ : (κs : Lfts (suc m)) → Denots (Types κs) → Ask → Type 0) (Ψ : Rec → Ask → Res → Rec → Type 0) where
      -- what g ensures: Φ of what is asked. What h ensures: Ψ of the record, what is asked, the answer and the record's last value
      open 𝓛 use {H}

      abbrev En₁ : (κs : Lfts (suc m)) → Denots (Types κs) → Ask → SProp 𝓤
      En₁ κs a q = ex 𝓤 (λ (ws : Fins κs (slots hs) (keeps hs) a). sep 𝓤 (sem 𝓛 (lasts_of κs (slots hs) (keeps hs) a ws)) (fact 𝓤 (Φ κs a q)))

      abbrev En₂ : (κ : Lft) → MutBor Rec → Ask → Res → SProp 𝓤
      En₂ κ x q r = ex 𝓤 (λ (ws : Fins (κ, tt) at_slots at_kept (x, (q, tt))). sep 𝓤 (sem 𝓛 (lasts_of (κ, tt) at_slots at_kept (x, (q, tt)) ws)) (fact 𝓤 (Ψ x.now q r ws.0)))

      -- g and h, called at what is lent, meet their contracts
      abbrev pub Makes : Calls 𝓤 H → Type 1
      Makes C = (κs : Lfts (suc m)) (qs : Shares (suc m)) (a : Denots (Types κs))
          → ent 𝓤 (sep 𝓤 (sep 𝓤 (toks 𝓛 m κs.1 qs.1) (sem 𝓛 (owns (Types κs) a (spelled κs hs a)))) (emp 𝓤))
          (C g (listed τs (words κs hs a)) (λ v. mean 𝓛 (Made 𝓛 (raw (toks 𝓛 m κs.1 qs.1)) (En₁ κs a) v)))

      abbrev pub Does : Calls 𝓤 H → Type 1
      Does C = (κ : Lft) (s : Share) (x : MutBor Rec) (q : Ask) (v : Val)
          → ent 𝓤 (sep 𝓤 (sep 𝓤 (toks 𝓛 1 (κ, tt) (s, tt)) (sem 𝓛 (owns (MutRef (named 0) κ Row ∷ Asked ∷ []) (x, (q, tt)) (mut_vals x, (v ∷ [], tt))))) (emp 𝓤))
          (C h (vptr x.ref_ptr.0 x.ref_ptr.1 ∷ v ∷ []) (λ v'. mean 𝓛 (Answered 𝓛 (raw (toks 𝓛 1 (κ, tt) (s, tt))) (En₂ κ x q) v')))

      abbrev pub Says : Type 1
      Says = (κs : Lfts (suc m)) (x : MutBor Rec) (a : Denots (Types κs)) (gh : (c κs (x, a)).ghost) (q : Ask) (r : Res) (w : Rec) (ws : Fins κs (slots hs) (keeps hs) a) → Φ κs a q → Ψ x.now q r w
          → ent 𝓤 (emp 𝓤) ((c κs (x, a)).ensures gh r (at_exit Passed κs (x, a) (w, ws)))

      module _ (says-it : Says) (C : Calls 𝓤 H) (Λ : Loops 𝓤 H) (fm : FmC 𝓤 H 𝓛.laws C) (makes : Makes C) (does : Does C) where
        abbrev give₁ : (κs : Lfts (suc m)) → Shares (suc m) → Denots (Types κs) → Item 𝓤
        give₁ κs qs a = raw (toks 𝓛 m κs.1 qs.1) ⊛ ‵ (owns (Types κs) a (spelled κs hs a))

        abbrev give₂ : Lft → Share → MutBor Rec → Item 𝓤
        give₂ κ s x = ‵ (flft κ s) ⊛ ‵ ((MutRef (named 0) κ Row).own_val x (mut_vals x))

        -- what is asked of g and of h is had
        makes_it : (κs : Lfts (suc m)) (qs : Shares (suc m)) (a : Denots (Types κs))
            → ent 𝓤 (mean 𝓛 (give₁ κs qs a)) (C g (listed τs (words κs hs a)) (λ v. mean 𝓛 (Made 𝓛 (raw (toks 𝓛 m κs.1 qs.1)) (En₁ κs a) v)))
        makes_it κs qs a =
            let X : SProp 𝓤 = sep 𝓤 (toks 𝓛 m κs.1 qs.1) (sem 𝓛 (owns (Types κs) a (spelled κs hs a))) in
            via 𝓤 (sep 𝓤 X (emp 𝓤)) (via 𝓤 (sep 𝓤 (emp 𝓤) X) (emp∗ 𝓤 X) (comm∗ 𝓤 (emp 𝓤) X)) (makes κs qs a)

        does_it : (κ : Lft) (s : Share) (x : MutBor Rec) (q : Ask) (v : Val)
            → ent 𝓤 (mean 𝓛 (give₂ κ s x ⊛ ‵ (Asked.own_val q (v ∷ [])))) (C h (vptr x.ref_ptr.0 x.ref_ptr.1 ∷ v ∷ []) (λ v'. mean 𝓛 (Answered 𝓛 (raw (toks 𝓛 1 (κ, tt) (s, tt))) (En₂ κ x q) v')))
        does_it κ s x q v = via 𝓤 _ (lent_on κ s x q v) (does κ s x q v)
          where
            lent_on : (κ : Lft) (s : Share) (x : MutBor Rec) (q : Ask) (v : Val) → ent 𝓤 (mean 𝓛 (give₂ κ s x ⊛ ‵ (Asked.own_val q (v ∷ []))))
                (sep 𝓤 (sep 𝓤 (toks 𝓛 1 (κ, tt) (s, tt)) (sem 𝓛 (owns (MutRef (named 0) κ Row ∷ Asked ∷ []) (x, (q, tt)) (mut_vals x, (v ∷ [], tt))))) (emp 𝓤))
            lent_on κ s x q v =
                qed 𝓛 ((give₂ κ s x ⊛ ‵ (Asked.own_val q (v ∷ []))) ∷ []) ∵ split ! $ split ! $
                -- [the token; the record's borrow; what Q owns]
                nothing ! $ move ! (3 ∷ 0 ∷ []) $ join ! $ move ! (2 ∷ 0 ∷ []) $ join ! $ nothing ! $ move ! (2 ∷ 0 ∷ []) $ join ! $ join ! $ frame ! $ done !

        exits : (κs : Lfts (suc m)) (qs : Shares (suc m)) (bounds : AllOutlive (suc m) [] κs) (x : MutBor Rec) (a : Denots (Types κs)) (gh : (c κs (x, a)).ghost) (q : Ask) (r : Res) (v' : Val)
            → ent 𝓤 (⋆ 𝓛 (‵ (Result.own_val r (v' ∷ [])) ∷ (raw (toks 𝓛 1 (κs.0, tt) (qs.0, tt)) ⊛ raw (En₂ κs.0 x q r)) ∷ (raw (toks 𝓛 m κs.1 qs.1) ⊛ raw (En₁ κs a q)) ∷ []))
            ((walk_of 𝓛 Passed (dropped all) c).post ((κs, qs, bounds, (x, a), (mut_vals x, spelled κs hs a)), gh) v')
        exits κs qs bounds x a gh q r v' =
            qed 𝓛 (‵ (Result.own_val r (v' ∷ [])) ∷ (raw (toks 𝓛 1 (κs.0, tt) (qs.0, tt)) ⊛ raw (En₂ κs.0 x q r)) ∷ (raw (toks 𝓛 m κs.1 qs.1) ⊛ raw (En₁ κs a q)) ∷ []) ∵
            move ! (2 ∷ []) $ split ! $ move ! (1 ∷ []) $
            -- [what g ensures; the others' tokens; what R owns; back₂]
            use1 𝓛 (some (λ (ws : Fins κs (slots hs) (keeps hs) a). ‵ (lasts_of κs (slots hs) (keeps hs) a ws) ⊛ raw (fact 𝓤 (Φ κs a q)))) (id⊢ 𝓤 _) $ pick ! (λ ws.
            split ! $ move ! (1 ∷ []) $ heard ! (Φ κs a q) (λ made. use1 𝓛 (‵ (has_of κs (slots hs) (keeps hs) (dropped hs) a ws (spelled κs hs a))) (have_last κs 𝓛 hs a ws (spelled κs hs a)) $
            -- [had of the arguments; the others' tokens; what R owns; back₂]
            move ! (3 ∷ []) $ split ! $ use1 𝓛 (‵ (flft κs.0 qs.0)) (fst∗ 𝓤 _ (emp 𝓤)) $ move ! (1 ∷ []) $
            -- [what h ensures; the token; had; the others' tokens; what R owns]
            use1 𝓛 (some (λ (zs : Fins (κs.0, tt) at_slots at_kept (x, (q, tt))). ‵ (lasts_of (κs.0, tt) at_slots at_kept (x, (q, tt)) zs) ⊛ raw (fact 𝓤 (Ψ x.now q r zs.0)))) (id⊢ 𝓤 _) $ pick ! (λ zs.
            split ! $ move ! (1 ∷ []) $ heard ! (Ψ x.now q r zs.0) (λ done-it. fsplit ! $ move ! (1 ∷ []) $ drop ! $
            -- [said of the record; the token; had; the others' tokens; what R owns]
            suffices ! _ (ends_at 𝓛 Passed (dropped all) c ((κs, qs, bounds, (x, a), (mut_vals x, spelled κs hs a)), gh) v' r (zs.0, ws) (tt, fit_all κs hs a ws)) $
            use0 𝓛 (raw ((c κs (x, a)).ensures gh r (at_exit Passed κs (x, a) (zs.0, ws)))) (says-it κs x a gh q r zs.0 ws made done-it) $
            -- [the clause; said of the record; the token; had; the others' tokens; what R owns]
            move ! (1 ∷ 3 ∷ []) $ fjoin ! $ move ! (0 ∷ 4 ∷ []) $ join ! $ move ! (2 ∷ 3 ∷ []) $ join ! $ join ! $ done !))))

        walks : Triple 𝓤 (WpFn 𝓤 H C Λ (pass_fn g h p iq ir)) (walk_of 𝓛 Passed (dropped all) c)
        walks = walked 𝓛 Passed (dropped all) c (WpFn 𝓤 H C Λ (pass_fn g h p iq ir)) (λ κs. spelling κs all) (λ κs. telling κs all)
            (λ κs qs bounds a gh are. via 𝓤 _ (fst∗ 𝓤 _ ((c κs a).requires gh)) (
            subst (λ (us : List Val). ent 𝓤 (on_entry 𝓛 Passed.signature κs qs a (spelled κs all a)) (WpFn 𝓤 H C Λ (pass_fn g h p iq ir) (vptr a.0.ref_ptr.0 a.0.ref_ptr.1 ∷ us)
            ((walk_of 𝓛 Passed (dropped all) c).post ((κs, qs, bounds, a, spelled κs all a), gh)))) (sym (flat_is κs hs a.1)) (
            qed 𝓛 ((‵ (flft κs.0 qs.0) ⊛ raw (toks 𝓛 m κs.1 qs.1)) ∷ ‵ (owns (MutRef (named 0) κs.0 Row ∷ Types κs) a (spelled κs all a)) ∷ []) ∵
            split ! $ move ! (2 ∷ []) $ fsplit ! $
            -- [the record's borrow; what the arguments own; the token; the others' tokens]
            move ! (3 ∷ 1 ∷ []) $ join ! $ move ! (2 ∷ 1 ∷ []) $ join ! $ move ! (1 ∷ []) $
            enter ! C Λ (pass_fn g h p iq ir) (vptr a.0.ref_ptr.0 a.0.ref_ptr.1 ∷ listed τs (words κs hs a.1)) _ $
            pass 𝓛 C Λ fm g h τs (words κs hs a.1) (all_good κs 𝓛 hs a.1 are.1) iq ir placed a.0.ref_ptr.0 a.0.ref_ptr.1
            (give₁ κs qs a.1) (give₂ κs.0 qs.0 a.0) (raw (toks 𝓛 m κs.1 qs.1)) (raw (toks 𝓛 1 (κs.0, tt) (qs.0, tt))) (En₁ κs a.1) (En₂ κs.0 a.0) _
            (makes_it κs qs a.1) (does_it κs.0 qs.0 a.0) (exits κs qs bounds a.0 a.1 gh))))

      pub passed_meets : Says → (𝓣 : Tables 𝓤 H) → Makes 𝓣.C → Does 𝓣.C → Meets 𝓛 Passed.signature (WpFn 𝓤 H 𝓣.C 𝓣.Λ (pass_fn g h p iq ir)) (closing 𝓛 Passed c)
      passed_meets says-it 𝓣 makes does = walk_Meets 𝓛 Passed (dropped all) (go_dropped 𝓛 all) c
          (WpFn 𝓤 H 𝓣.C 𝓣.Λ (pass_fn g h p iq ir)) (WpFn-mono 𝓤 H 𝓛.laws 𝓣 (pass_fn g h p iq ir)) (walks says-it 𝓣.C 𝓣.Λ (fm_of 𝓤 H 𝓛.laws 𝓣) makes does)
