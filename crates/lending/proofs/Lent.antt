-- The walk of an exported function over a record that its caller lends, once for all of them:
--     fn f(rec: &mut Rec, a₁, …, aₖ) -> Res { let o = g(*rec, a₁, …, aₖ); *rec = o.rec; o.res }
-- for any k arguments of any types, which are handed on as they came; and the same with a lent buffer before them. In its MIR `o.rec` goes
-- through a local of its own on its way back into `*rec`. Assumes nothing.
use mathlib.Core.Path.{◌≡◌, refl, ap, sym, subst}
use Prim.Native.Nat.{ℕ, suc, ◌<◌, ◌^◌}
use mathlib.Core.List.{[], ◌∷◌, List}
use seplogic.Ra.Ura.{Ura}
use base.Fraction.{full_share}
use lib.ListN.{get_or, length}
use mir.Syntax.{Sym, Callee, Ty, ty_int, ty_ref, mut, named, w8, Local, local, value_local, copy, place, deref, field as fieldᴾ, erased, addr_of, aggregate, Fn, Body, seq, assign, call, return, rv_opd}
use mir.Val.{Val, vptr}
use base.Logic.{SProp, ent, sep, ex, emp, id⊢, via, emp∗, mono_l, fst∗, assoc∗, assoc', comm∗}
use base.Fml.{GName, Lft, Share, ftrue, fsep, flft, fobs, fbor, fat}
use prog.Wp.{WpFn, Tables, Env, Calls, Loops, no_local}
use types.Logic.{Logic, sem}
use contract.Monad.{fact}
use types.Kit.{Item, Sq, allocs, params', runs, at_ret, mean, ⋆, ‵, raw, ◌⊛◌, some, later, ◌$◌, ◌∵◌, !, qed, use0, fjoin3, feq_i, suffices, done, fsplit3, by, move, drop, use1, split, join, pick, rewrite, fsplit, fjoin, await}
use types.Run.{addr, enter, look, look_raw, init, store_raw, forget, stop, hop, fld, from, load, of_opd, assigns, and_then, no_more, land, returns, alloc1, alloc0, params1, pass1, free1, free0}
use types.Part.{agg, whole, sub, look_in}
use types.SemTy.{Body as Inside}
use sound.WpLaws.{FmC, fm_of, WpFn-mono}
use contract.Lifetimes.{Lfts, Shares, AllOutlive, toks}
use denote.RattleType.{RattleType, Denots, owns}
use denote.Laws.{Is, Ises, Are, shows}
use denote.Slice.{slice_ty, slice_val}
use denote.Ref.{MutBor, MutRef, mut_vals, mut_Tells}
use denote.Triple.Statement.{Triple}
use denote.Triple.Entry.{on_entry}
use denote.Signature.{AllWithin, plain, types_at, mut_ref_to}
use denote.Exit.{yes}
use denote.Triple.End.{Fins, lasts_of}
use denote.Triple.Clauses.{Clauses, Ended, at_exit, closing}
use denote.Triple.Spec.{Meets}
use denote.Triple.Walked.{stay_ref, has_of, walk_of, Goes-ref, ends_at, walked, walk_Meets}
use denote.Memory.{mem, pointee}
use denote.Steps.{opens, closes, owned, peeks, heard, only}
use denote.Struct.Steps.{spelt}
use denote.Struct.Laws as LL
use denote.Struct.Field.{rows}
use denote.Struct.Values.{Values}
use denote.Struct.Cover.{Cover}
use denote.Struct.Struct.{Plains, layout}
use denote.Struct.Declared.{Declared, fields, shape, row, field}
use denote.Triple.Call.{calls_from}
use Rattle.lending.proofs.Arguments.{Spots, Words, listed, Good, envs, locals, operands, Spotted, alloc_args, pass_args, free_args, found, read_args, second, Handed, bytes_mut, slots, keeps, tys, dropped, words, spelling, spelled, telling, flat_is, all_good, fit_all, have_last, go_dropped}

-- what is lent, in the order in which g asks for it
in_order : {M : Type 1} (𝓤 : Ura M) (P Q R : SProp 𝓤) → ent 𝓤 (sep 𝓤 P (sep 𝓤 Q R)) (sep 𝓤 (sep 𝓤 Q (sep 𝓤 P R)) (emp 𝓤))
in_order 𝓤 P Q R =
    via 𝓤 (sep 𝓤 (sep 𝓤 P Q) R) (assoc' 𝓤 P Q R) (via 𝓤 (sep 𝓤 (sep 𝓤 Q P) R) (mono_l 𝓤 R (comm∗ 𝓤 P Q)) (via 𝓤 (sep 𝓤 Q (sep 𝓤 P R)) (assoc∗ 𝓤 Q P R)
    (via 𝓤 (sep 𝓤 (emp 𝓤) (sep 𝓤 Q (sep 𝓤 P R))) (emp∗ 𝓤 (sep 𝓤 Q (sep 𝓤 P R))) (comm∗ 𝓤 (emp 𝓤) (sep 𝓤 Q (sep 𝓤 P R))))))

-- ---- what is lent: the record N, the answer R, both declared types of plain data, and what g returns, a struct D of the two
pub record Lendable : Type 3 where
  pub N : Declared
  pub laws : LL.Laws N
  pub plains : Plains (fields N)
  pub lowers : LL.Lowered N
  -- the struct's name, and its two fields
  pub name : Sym
  pub D : Type 0
  pub rec : D → N.D
  pub R : Declared
  pub result_laws : LL.Laws R
  pub result_plains : Plains (fields R)
  pub result_lowers : LL.Lowered R
  pub result : D → R.D
  pub one : (x y : D) → ◌≡◌ {A = Denots (rows (field N ∷ field R ∷ []))} (N.to (rec x), (R.to (result x), tt)) (N.to (rec y), (R.to (result y), tt)) → x ≡ y
  -- D is just the two, with proofs of its ghost fields, if it has any
  pub cover : Cover D (Values (field N ∷ field R ∷ [])) (λ r. (rec r, (result r, tt)))
  pub propositions : (v : Values (field N ∷ field R ∷ [])) → IsProp (cover.Ghost v)

abbrev pub outcome : Lendable → Declared
outcome L = record {
  name = L.name;
  args = [];
  types = [];
  parts = field L.N ∷ field L.R ∷ [];
  D = L.D;
  to = λ r. (L.N.to (L.rec r), (L.R.to (L.result r), tt));
  to_one = L.one;
  as_values = λ r. (L.rec r, (L.result r, tt));
  to_is = λ r. refl;
  cover = L.cover;
  propositions = L.propositions;
}

abbrev pub outcome_laws : (L : Lendable) → LL.Laws (outcome L)
outcome_laws L = (LL.field_laws L.N L.laws L.lowers, (LL.field_laws L.R L.result_laws L.result_lowers, tt))

module _ (L : Lendable) where
  abbrev Rec : Type 0
  Rec = L.N.D

  abbrev Res : Type 0
  Res = L.D

  abbrev pub Row : RattleType
  Row = row L.N

  abbrev pub Out : RattleType
  Out = row (outcome L)

  abbrev pub Result : RattleType
  Result = row L.R

  abbrev τ_row : Ty
  τ_row = layout (shape L.N)

  abbrev τ_res : Ty
  τ_res = layout (shape L.R)

  abbrev τ_out : Ty
  τ_out = layout (shape (outcome L))

  -- ---- the function: its locals and its body, with k arguments of the types τs
  abbrev mach : Rec → Val
  mach d = LL.val L.N L.laws d

  abbrev mach_res : L.R.D → Val
  mach_res d = LL.val L.R L.result_laws d

  abbrev τ_net : Ty
  τ_net = ty_ref (named 0) mut (pointee Row.written)

  abbrev pub lent_locals : List Ty → List Local
  lent_locals τs = local τ_res value_local ∷ local τ_net value_local ∷ locals τs (local τ_out value_local ∷ local τ_row value_local ∷ local τ_row value_local ∷ [])

  -- io, it and iu are the places of the outcome, of the copy of the record and of the outcome's record
  abbrev pub lent_body : Callee → List Ty → ℕ → ℕ → ℕ → Body
  lent_body g τs io it iu =
      seq (assign (place it []) (rv_opd (copy (place 1 (deref τ_row ∷ []))))) (seq (call g (copy (place it []) ∷ operands 2 τs) (place io []))
      (seq (assign (place iu []) (rv_opd (copy (place io (fieldᴾ 0 ∷ []))))) (seq (assign (place 1 (deref τ_row ∷ [])) (rv_opd (copy (place iu []))))
      (seq (assign (place 0 []) (rv_opd (copy (place io (fieldᴾ 1 ∷ []))))) return))))

  -- the same with a `&mut [u8]` before the other arguments, which is lent on: ip and is are the places of its pointer and of the slice
  abbrev τ_part : Ty
  τ_part = ty_ref erased mut (ty_int w8)

  abbrev τ_buf : ℕ → Ty
  τ_buf j = slice_ty (ty_ref (named j) mut (ty_int w8))

  abbrev pub buf_locals : ℕ → List Ty → List Local
  buf_locals j τs = local τ_res value_local ∷ local τ_net value_local ∷ local (τ_buf j) value_local ∷ locals τs (local τ_out value_local ∷ local τ_row value_local ∷ local τ_part value_local ∷ local (slice_ty τ_part) value_local ∷ local τ_row value_local ∷ [])

  abbrev pub buf_body : Callee → List Ty → ℕ → ℕ → ℕ → ℕ → ℕ → Body
  buf_body g τs io it ip is iu =
      seq (assign (place it []) (rv_opd (copy (place 1 (deref τ_row ∷ []))))) (seq (assign (place ip []) (addr_of (place 2 (fieldᴾ 0 ∷ deref (ty_int w8) ∷ []))))
      (seq (assign (place is []) (aggregate (copy (place ip []) ∷ copy (place 2 (fieldᴾ 1 ∷ [])) ∷ []))) (seq (call g (copy (place it []) ∷ copy (place is []) ∷ operands 3 τs) (place io []))
      (seq (assign (place iu []) (rv_opd (copy (place io (fieldᴾ 0 ∷ []))))) (seq (assign (place 1 (deref τ_row ∷ [])) (rv_opd (copy (place iu []))))
      (seq (assign (place 0 []) (rv_opd (copy (place io (fieldᴾ 1 ∷ []))))) return))))))

  module _ {M : Type 1} {𝓤 : Ura M} (𝓛 : Logic 𝓤) where
    open 𝓛 use {H}

    abbrev pub lent_env : (τs : List Ty) → ℕ → ℕ → Spots τs → ℕ → ℕ → ℕ → Env 𝓤 H
    lent_env τs l₀ l₁ bs lo lt lu = (τ_res, l₀) ∷ (τ_net, l₁) ∷ envs τs bs ((τ_out, lo) ∷ (τ_row, lt) ∷ (τ_row, lu) ∷ [])

    -- where the locals stand: `refl`s, for any list of types that is written out
    abbrev pub Placed : List Ty → ℕ → ℕ → ℕ → Type 0
    Placed τs io it iu = (l₀ l₁ : ℕ) (bs : Spots τs) (lo lt lu : ℕ)
        → (get_or (lent_env τs l₀ l₁ bs lo lt lu) io (no_local 𝓤 H) ≡ (τ_out, lo)) × ((get_or (lent_env τs l₀ l₁ bs lo lt lu) it (no_local 𝓤 H) ≡ (τ_row, lt))
        × ((get_or (lent_env τs l₀ l₁ bs lo lt lu) iu (no_local 𝓤 H) ≡ (τ_row, lu)) × Spotted (no_local 𝓤 H) (lent_env τs l₀ l₁ bs lo lt lu) 2 τs bs))

    -- what g leaves: what it hands back, the outcome, and what it ensures
    abbrev pub After : Item 𝓤 → (Res → SProp 𝓤) → Val → Item 𝓤
    After back En v = later (some (λ (r : Res). (back ⊛ ‵ (Out.own_val r (v ∷ []))) ⊛ raw (En r)))

    pub lend : (C : Calls 𝓤 H) (Λ : Loops 𝓤 H) → FmC 𝓤 H 𝓛.laws C → (g : Callee) (τs : List Ty) (us : Words τs) → Good τs us → (io it iu : ℕ) → Placed τs io it iu
        → (κ : Lft) (q : Share) (b o : ℕ) (γ : GName) (h : Rec) (give back : Item 𝓤) (En : Res → SProp 𝓤) (Post : Val → SProp 𝓤)
        → (Is Row h (mach h ∷ []) → ent 𝓤 (mean 𝓛 (‵ (Row.own_val h (mach h ∷ [])) ⊛ give)) (C g (mach h ∷ listed τs us) (λ v. mean 𝓛 (After back En v))))
        → ((r : Res) → Is Result (L.result r) (mach_res (L.result r) ∷ []) → ent 𝓤 (⋆ 𝓛 (‵ (fobs γ (Row.coded.code (L.rec r))) ∷ ‵ (fbor κ (Inside (mem Row) b o γ)) ∷ ‵ (flft κ q) ∷ (back ⊛ raw (En r)) ∷ [])) (Post (mach_res (L.result r))))
        → Sq 𝓛 (‵ (fobs γ (Row.coded.code h)) ∷ ‵ (fbor κ (Inside (mem Row) b o γ)) ∷ ‵ (flft κ q) ∷ give ∷ [])
        (allocs (lent_locals τs) (λ E. params' E (vptr b o ∷ listed τs us) (runs C Λ E (lent_body g τs io it iu) (at_ret E Post))))
    lend C Λ fm g τs us good io it iu placed κ q b o γ h give back En Post met exits =
        alloc1 ! (λ l₀. alloc1 ! (λ l₁. alloc_args 𝓛 τs (λ bs. alloc1 ! (λ lo. alloc1 ! (λ lt. alloc1 ! (λ lu. alloc0 ! $ params1 ! $
        -- [_u; …; _t; …; _o; …; the arguments' rooms; _1; …; _0; …; obs; the borrow; the token; give]
        pass1 ! (init ! 7 refl (tt, tt)) $ move ! (6 ∷ []) $ pass_args 𝓛 τs bs us good ((τ_out, lo) ∷ (τ_row, lt) ∷ (τ_row, lu) ∷ []) (
        -- [the arguments' cells; _u; …; _t; …; _o; …; _1; …; _0; …; obs; the borrow; the token; give]
        move ! (11 ∷ 12 ∷ 13 ∷ []) $ opens ! tt Row {h = h} b o (λ vs. spelt ! Row (Is Row) (shows 𝓛 Row) (LL.vals L.N L.laws) (LL.tells L.N L.laws) full_share h vs b o $
        move ! (1 ∷ []) $ peeks ! Row (Is Row) (shows 𝓛 Row) h (mach h ∷ []) (λ was. move ! (1 ∷ 0 ∷ []) $
        -- [the cell; what a Rec owns; the open borrow; obs; auth; the arguments' cells 5; _u 6; …; _t 8; …; _o 10; …; _1 12; …; _0 14; …; give 16]
        assigns ! (of_opd ! (load ! (from ! (hop ! (look ! 12 refl) (stop !))) (look_raw ! 0 refl))) (found 𝓛 (placed l₀ l₁ bs lo lt lu).1.0 (stop !)) (init ! 8 refl ((LL.lawful L.N L.laws 𝓛).typed h _ was).0) $
        move ! (1 ∷ 16 ∷ []) $ join ! $ move ! (0 ∷ 5 ∷ []) $
        -- [what is handed to g; the arguments' cells; the cell 2; the open borrow; obs; auth; _u 6; …; _t 8; …; _o 10; …; _1 12; …; _0 14; …]
        calls_from ! fm (‵ (Row.own_val h (mach h ∷ [])) ⊛ give) (mach h ∷ listed τs us) (λ v. mean 𝓛 (After back En v)) (met was)
        (and_then ! (load ! (found 𝓛 (placed l₀ l₁ bs lo lt lu).1.0 (stop !)) (look ! 8 refl)) (second 𝓛 (read_args 𝓛 τs bs us 2 (placed l₀ l₁ bs lo lt lu).1.1.1))) (λ v.
        use1 𝓛 (After back En v) (id⊢ 𝓤 _) $ await ! tt $ pick ! (λ r.
        split ! $ split ! $ move ! (0 ∷ 2 ∷ []) $ join ! $ move ! (1 ∷ []) $ peeks ! Out (Is Out) (shows 𝓛 Out) r (v ∷ []) (λ is.
        -- [what the Res owns; back; the arguments' cells; the cell 3; the open borrow; obs; auth; _u 7; …; _t 9; …; _o 11; …; _1 13; …; _0 15; …]
        land ! (found 𝓛 (placed l₀ l₁ bs lo lt lu).0 (stop !)) (init ! 11 refl ((LL.lawful (outcome L) (outcome_laws L) 𝓛).typed r _ is).0) $
        rewrite ! 11 (λ (u : Val). ‵ (fat full_share τ_out lo 0 u)) (ap only (LL.tells (outcome L) (outcome_laws L) r (v ∷ []) is)) refl $
        assigns ! (of_opd ! (load ! (found 𝓛 (placed l₀ l₁ bs lo lt lu).0 (fld ! refl (stop !))) (look_in ! 11 (sub ! 0 refl (whole !))))) (found 𝓛 (placed l₀ l₁ bs lo lt lu).1.1.0 (stop !))
        (init ! 7 refl ((LL.lawful L.N L.laws 𝓛).typed (L.rec r) _ (LL.owed (outcome L) (outcome_laws L) r _ is).0).0) $
        assigns ! (of_opd ! (load ! (found 𝓛 (placed l₀ l₁ bs lo lt lu).1.1.0 (stop !)) (look ! 7 refl))) (from ! (hop ! (look ! 13 refl) (stop !)))
        (store_raw ! 3 refl ((LL.lawful L.N L.laws 𝓛).typed (L.rec r) _ (LL.owed (outcome L) (outcome_laws L) r _ is).0).0) $
        assigns ! (of_opd ! (load ! (found 𝓛 (placed l₀ l₁ bs lo lt lu).0 (fld ! refl (stop !))) (look_in ! 11 (sub ! 1 refl (whole !))))) (from ! (stop !)) (init ! 15 refl ((LL.lawful L.R L.result_laws 𝓛).typed (L.result r) _ (LL.owed (outcome L) (outcome_laws L) r _ is).1.0).0) $
        drop ! $ owned ! Row (Is Row) (LL.makes L.N L.plains 𝓛) (L.rec r) _ (LL.owed (outcome L) (outcome_laws L) r _ is).0 $
        move ! (3 ∷ 0 ∷ 4 ∷ 5 ∷ 6 ∷ []) $ closes ! tt Row (L.rec r) (mach (L.rec r) ∷ []) b o $
        -- [obs; the borrow; the token; back; the arguments' cells 4; _u 5; …; _t 7; …; _o 9; …; _1 11; …; _0 13; …]
        returns ! (look ! 13 refl) $ forget ! 5 refl $ forget ! 7 refl $ forget ! 9 refl $ forget ! 11 refl $ forget ! 13 refl $ move ! (13 ∷ 14 ∷ []) $ free1 ! $ move ! (11 ∷ 12 ∷ []) $ free1 ! $
        move ! (4 ∷ []) $ free_args 𝓛 τs bs us (move ! (8 ∷ 9 ∷ []) $ free1 ! $ move ! (6 ∷ 7 ∷ []) $ free1 ! $ move ! (4 ∷ 5 ∷ []) $ free1 ! $ free0 ! $ by ! (exits r (LL.owed (outcome L) (outcome_laws L) r _ is).1.0))))))))))))))

    abbrev pub buf_env : (j : ℕ) (τs : List Ty) → ℕ → ℕ → ℕ → Spots τs → ℕ → ℕ → ℕ → ℕ → ℕ → Env 𝓤 H
    buf_env j τs l₀ l₁ lb bs lo lt lp ls lu = (τ_res, l₀) ∷ (τ_net, l₁) ∷ (τ_buf j, lb) ∷ envs τs bs ((τ_out, lo) ∷ (τ_row, lt) ∷ (τ_part, lp) ∷ (slice_ty τ_part, ls) ∷ (τ_row, lu) ∷ [])

    abbrev pub Buf-placed : ℕ → List Ty → ℕ → ℕ → ℕ → ℕ → ℕ → Type 0
    Buf-placed j τs io it ip is iu = (l₀ l₁ lb : ℕ) (bs : Spots τs) (lo lt lp ls lu : ℕ)
        → (get_or (buf_env j τs l₀ l₁ lb bs lo lt lp ls lu) io (no_local 𝓤 H) ≡ (τ_out, lo)) × ((get_or (buf_env j τs l₀ l₁ lb bs lo lt lp ls lu) it (no_local 𝓤 H) ≡ (τ_row, lt)) × ((get_or (buf_env j τs l₀ l₁ lb bs lo lt lp ls lu) ip (no_local 𝓤 H) ≡ (τ_part, lp))
        × ((get_or (buf_env j τs l₀ l₁ lb bs lo lt lp ls lu) is (no_local 𝓤 H) ≡ (slice_ty τ_part, ls)) × ((get_or (buf_env j τs l₀ l₁ lb bs lo lt lp ls lu) iu (no_local 𝓤 H) ≡ (τ_row, lu)) × Spotted (no_local 𝓤 H) (buf_env j τs l₀ l₁ lb bs lo lt lp ls lu) 3 τs bs))))

    pub lend_buf : (C : Calls 𝓤 H) (Λ : Loops 𝓤 H) → FmC 𝓤 H 𝓛.laws C → (g : Callee) (j : ℕ) (τs : List Ty) (pb : ℕ × ℕ) (n : ℕ) → n < 2 ^ 64 → (us : Words τs) → Good τs us → (io it ip is iu : ℕ) → Buf-placed j τs io it ip is iu
        → (κ : Lft) (q : Share) (b o : ℕ) (γ : GName) (h : Rec) (give back : Item 𝓤) (En : Res → SProp 𝓤) (Post : Val → SProp 𝓤)
        → (Is Row h (mach h ∷ []) → ent 𝓤 (mean 𝓛 (‵ (Row.own_val h (mach h ∷ [])) ⊛ give)) (C g (mach h ∷ slice_val pb n ∷ listed τs us) (λ v. mean 𝓛 (After back En v))))
        → ((r : Res) → Is Result (L.result r) (mach_res (L.result r) ∷ []) → ent 𝓤 (⋆ 𝓛 (‵ (fobs γ (Row.coded.code (L.rec r))) ∷ ‵ (fbor κ (Inside (mem Row) b o γ)) ∷ ‵ (flft κ q) ∷ (back ⊛ raw (En r)) ∷ [])) (Post (mach_res (L.result r))))
        → Sq 𝓛 (‵ (fobs γ (Row.coded.code h)) ∷ ‵ (fbor κ (Inside (mem Row) b o γ)) ∷ ‵ (flft κ q) ∷ give ∷ [])
        (allocs (buf_locals j τs) (λ E. params' E (vptr b o ∷ slice_val pb n ∷ listed τs us) (runs C Λ E (buf_body g τs io it ip is iu) (at_ret E Post))))
    lend_buf C Λ fm g j τs pb n n-fits us good io it ip is iu placed κ q b o γ h give back En Post met exits =
        alloc1 ! (λ l₀. alloc1 ! (λ l₁. alloc1 ! (λ lb. alloc_args 𝓛 τs (λ bs. alloc1 ! (λ lo. alloc1 ! (λ lt. alloc1 ! (λ lp. alloc1 ! (λ ls. alloc1 ! (λ lu. alloc0 ! $ params1 ! $
        pass1 ! (init ! 13 refl (tt, tt)) $ pass1 ! (init ! 11 refl (tt, (tt, (record { fits = n-fits }, tt)))) $ move ! (10 ∷ []) $ pass_args 𝓛 τs bs us good ((τ_out, lo) ∷ (τ_row, lt) ∷ (τ_part, lp) ∷ (slice_ty τ_part, ls) ∷ (τ_row, lu) ∷ []) (
        move ! (17 ∷ 18 ∷ 19 ∷ []) $ opens ! tt Row {h = h} b o (λ vs. spelt ! Row (Is Row) (shows 𝓛 Row) (LL.vals L.N L.laws) (LL.tells L.N L.laws) full_share h vs b o $
        move ! (1 ∷ []) $ peeks ! Row (Is Row) (shows 𝓛 Row) h (mach h ∷ []) (λ was. move ! (1 ∷ 0 ∷ []) $
        -- [the cell; what is owned; the open borrow; obs; auth; the arguments' cells 5; _u 6; …; _s 8; …; _p 10; …; _t 12; …; _o 14; …; _b 16; …; _1 18; …; _0 20; …; give 22]
        assigns ! (of_opd ! (load ! (from ! (hop ! (look ! 18 refl) (stop !))) (look_raw ! 0 refl))) (found 𝓛 (placed l₀ l₁ lb bs lo lt lp ls lu).1.0 (stop !)) (init ! 12 refl ((LL.lawful L.N L.laws 𝓛).typed h _ was).0) $
        assigns ! (addr ! (from ! (fld ! refl (hop ! (look_in ! 16 (sub ! 0 refl (whole !))) (stop !))))) (found 𝓛 (placed l₀ l₁ lb bs lo lt lp ls lu).1.1.0 (stop !)) (init ! 10 refl (tt, tt)) $
        assigns ! (agg ! (and_then ! (load ! (found 𝓛 (placed l₀ l₁ lb bs lo lt lp ls lu).1.1.0 (stop !)) (look ! 10 refl)) (and_then ! (load ! (from ! (fld ! refl (stop !))) (look_in ! 16 (sub ! 1 refl (whole !)))) (no_more !))))
        (found 𝓛 (placed l₀ l₁ lb bs lo lt lp ls lu).1.1.1.0 (stop !)) (init ! 8 refl (tt, (tt, (record { fits = n-fits }, tt)))) $
        move ! (1 ∷ 22 ∷ []) $ join ! $ move ! (0 ∷ 5 ∷ []) $
        -- [what is handed to g; the arguments' cells; the cell 2; the open borrow; obs; auth; _u 6; …; _s 8; …; _p 10; …; _t 12; …; _o 14; …; _b 16; …; _1 18; …; _0 20; …]
        calls_from ! fm (‵ (Row.own_val h (mach h ∷ [])) ⊛ give) (mach h ∷ slice_val pb n ∷ listed τs us) (λ v. mean 𝓛 (After back En v)) (met was)
        (and_then ! (load ! (found 𝓛 (placed l₀ l₁ lb bs lo lt lp ls lu).1.0 (stop !)) (look ! 12 refl)) (and_then ! (load ! (found 𝓛 (placed l₀ l₁ lb bs lo lt lp ls lu).1.1.1.0 (stop !)) (look ! 8 refl)) (second 𝓛 (read_args 𝓛 τs bs us 3 (placed l₀ l₁ lb bs lo lt lp ls lu).1.1.1.1.1)))) (λ v.
        use1 𝓛 (After back En v) (id⊢ 𝓤 _) $ await ! tt $ pick ! (λ r.
        split ! $ split ! $ move ! (0 ∷ 2 ∷ []) $ join ! $ move ! (1 ∷ []) $ peeks ! Out (Is Out) (shows 𝓛 Out) r (v ∷ []) (λ ok.
        -- [what the outcome owns; back; the arguments' cells; the cell 3; the open borrow; obs; auth; _u 7; …; _s 9; …; _p 11; …; _t 13; …; _o 15; …; _b 17; …; _1 19; …; _0 21; …]
        land ! (found 𝓛 (placed l₀ l₁ lb bs lo lt lp ls lu).0 (stop !)) (init ! 15 refl ((LL.lawful (outcome L) (outcome_laws L) 𝓛).typed r _ ok).0) $
        rewrite ! 15 (λ (u : Val). ‵ (fat full_share τ_out lo 0 u)) (ap only (LL.tells (outcome L) (outcome_laws L) r (v ∷ []) ok)) refl $
        assigns ! (of_opd ! (load ! (found 𝓛 (placed l₀ l₁ lb bs lo lt lp ls lu).0 (fld ! refl (stop !))) (look_in ! 15 (sub ! 0 refl (whole !))))) (found 𝓛 (placed l₀ l₁ lb bs lo lt lp ls lu).1.1.1.1.0 (stop !))
        (init ! 7 refl ((LL.lawful L.N L.laws 𝓛).typed (L.rec r) _ (LL.owed (outcome L) (outcome_laws L) r _ ok).0).0) $
        assigns ! (of_opd ! (load ! (found 𝓛 (placed l₀ l₁ lb bs lo lt lp ls lu).1.1.1.1.0 (stop !)) (look ! 7 refl))) (from ! (hop ! (look ! 19 refl) (stop !)))
        (store_raw ! 3 refl ((LL.lawful L.N L.laws 𝓛).typed (L.rec r) _ (LL.owed (outcome L) (outcome_laws L) r _ ok).0).0) $
        assigns ! (of_opd ! (load ! (found 𝓛 (placed l₀ l₁ lb bs lo lt lp ls lu).0 (fld ! refl (stop !))) (look_in ! 15 (sub ! 1 refl (whole !))))) (from ! (stop !)) (init ! 21 refl ((LL.lawful L.R L.result_laws 𝓛).typed (L.result r) _ (LL.owed (outcome L) (outcome_laws L) r _ ok).1.0).0) $
        drop ! $ owned ! Row (Is Row) (LL.makes L.N L.plains 𝓛) (L.rec r) _ (LL.owed (outcome L) (outcome_laws L) r _ ok).0 $
        move ! (3 ∷ 0 ∷ 4 ∷ 5 ∷ 6 ∷ []) $ closes ! tt Row (L.rec r) (mach (L.rec r) ∷ []) b o $
        returns ! (look ! 19 refl) $ forget ! 5 refl $ forget ! 7 refl $ forget ! 9 refl $ forget ! 11 refl $ forget ! 13 refl $ forget ! 15 refl $ forget ! 17 refl $ forget ! 19 refl $
        move ! (19 ∷ 20 ∷ []) $ free1 ! $ move ! (17 ∷ 18 ∷ []) $ free1 ! $ move ! (15 ∷ 16 ∷ []) $ free1 ! $ move ! (4 ∷ []) $ free_args 𝓛 τs bs us (
        move ! (12 ∷ 13 ∷ []) $ free1 ! $ move ! (10 ∷ 11 ∷ []) $ free1 ! $ move ! (8 ∷ 9 ∷ []) $ free1 ! $ move ! (6 ∷ 7 ∷ []) $ free1 ! $ move ! (4 ∷ 5 ∷ []) $ free1 ! $ free0 ! $ by ! (exits r (LL.owed (outcome L) (outcome_laws L) r _ ok).1.0)))))))))))))))))

  -- ---- the exported function's contract
  module _ (m : ℕ) (hs : List (Handed (suc m))) where
    abbrev pub Lent : Ended
    Lent = record { signature = record { lifetimes = suc m; outlives = []; params = mut_ref_to (0 ∷ []) tt (plain (λ _. Row)) ∷ slots hs; result = plain (λ _. Result) }; kept = (yes, keeps hs) }

    abbrev τs : List Ty
    τs = tys hs

    abbrev pub lent_fn : Callee → ℕ → ℕ → ℕ → ℕ → Fn
    lent_fn g p io it iu = record { lifetimes = suc m; outlives = []; ty_params = []; givens = 0; params = p; locals = lent_locals τs; body = lent_body g τs io it iu }

    abbrev Types : Lfts (suc m) → List RattleType
    Types κs = types_at (slots hs) κs

    -- a walk of fn
    abbrev pub Ran : {M : Type 1} {𝓤 : Ura M} → (𝓛 : Logic 𝓤) → Callee → Fn → Type 2
    Ran {𝓤 = 𝓤} 𝓛 g fn = (C : Calls 𝓤 𝓛.H) (Λ : Loops 𝓤 𝓛.H) → FmC 𝓤 𝓛.H 𝓛.laws C → (κs : Lfts (suc m)) (a : Denots (Types κs)) → Are (Types κs) (Ises (Types κs)) a (spelled κs hs a)
        → (κ : Lft) (q : Share) (b o : ℕ) (γ : GName) (h : Rec) (give back : Item 𝓤) (En : Res → SProp 𝓤) (Post : Val → SProp 𝓤)
        → (Is Row h (mach h ∷ []) → ent 𝓤 (mean 𝓛 (‵ (Row.own_val h (mach h ∷ [])) ⊛ give)) (C g (mach h ∷ listed τs (words κs hs a)) (λ v. mean 𝓛 (After 𝓛 back En v))))
        → ((r : Res) → Is Result (L.result r) (mach_res (L.result r) ∷ []) → ent 𝓤 (⋆ 𝓛 (‵ (fobs γ (Row.coded.code (L.rec r))) ∷ ‵ (fbor κ (Inside (mem Row) b o γ)) ∷ ‵ (flft κ q) ∷ (back ⊛ raw (En r)) ∷ [])) (Post (mach_res (L.result r))))
        → Sq 𝓛 (‵ (fobs γ (Row.coded.code h)) ∷ ‵ (fbor κ (Inside (mem Row) b o γ)) ∷ ‵ (flft κ q) ∷ give ∷ [])
        (allocs fn.locals (λ E. params' E (vptr b o ∷ listed τs (words κs hs a)) (runs C Λ E fn.body (at_ret E Post))))

    pub by_value : {M : Type 1} {𝓤 : Ura M} (𝓛 : Logic 𝓤) (g : Callee) (p io it iu : ℕ) → Placed 𝓛 τs io it iu → Ran 𝓛 g (lent_fn g p io it iu)
    by_value 𝓛 g p io it iu placed C Λ fm κs a are = lend 𝓛 C Λ fm g τs (words κs hs a) (all_good κs 𝓛 hs a are) io it iu placed

    module _ {M : Type 1} {𝓤 : Ura M} (𝓛 : Logic 𝓤) (c : Clauses 𝓤 Lent) (g : Callee) (fn : Fn) (ran : Ran 𝓛 g fn) (Φ : (κs : Lfts (suc m)) → Rec → (a : Denots (Types κs)) → Res → Fins κs (slots hs) (keeps hs) a → Type 0) where
      -- what g ensures: Φ of the outcome and of the arguments' last values
      open 𝓛 use {H}

      abbrev En : (κs : Lfts (suc m)) → Rec → Denots (Types κs) → Res → SProp 𝓤
      En κs h a r = ex 𝓤 (λ (ws : Unit {0} × Fins κs (slots hs) (keeps hs) a). sep 𝓤 (sem 𝓛 (fsep ftrue (lasts_of κs (slots hs) (keeps hs) a ws.1))) (fact 𝓤 (Φ κs h a r ws.1)))

      abbrev give : (κs : Lfts (suc m)) → Shares (suc m) → Denots (Types κs) → Item 𝓤
      give κs qs a = raw (toks 𝓛 m κs.1 qs.1) ⊛ ‵ (owns (Types κs) a (spelled κs hs a))

      -- g, called at what is lent, meets its contract
      abbrev pub Asked : Calls 𝓤 H → Type 1
      Asked C = (κs : Lfts (suc m)) (qs : Shares (suc m)) (h : Rec) (a : Denots (Types κs))
          → ent 𝓤 (sep 𝓤 (sep 𝓤 (toks 𝓛 m κs.1 qs.1) (sem 𝓛 (owns (Row ∷ Types κs) (h, a) (LL.vals L.N L.laws h, spelled κs hs a)))) (emp 𝓤))
          (C g (LL.val L.N L.laws h ∷ listed τs (words κs hs a)) (λ v. mean 𝓛 (After 𝓛 (raw (toks 𝓛 m κs.1 qs.1)) (En κs h a) v)))

      abbrev pub Says : Type 1
      Says = (κs : Lfts (suc m)) (x : MutBor Rec) (a : Denots (Types κs)) (gh : (c κs (x, a)).ghost) (r : Res) (ws : Fins κs (slots hs) (keeps hs) a) → Φ κs x.now a r ws
          → ent 𝓤 (emp 𝓤) ((c κs (x, a)).ensures gh (L.result r) (at_exit Lent κs (x, a) (L.rec r, ws)))

      module _ (says-it : Says) (C : Calls 𝓤 H) (Λ : Loops 𝓤 H) (fm : FmC 𝓤 H 𝓛.laws C) (asks : Asked C) where
        exits : (κs : Lfts (suc m)) (qs : Shares (suc m)) (bounds : AllOutlive (suc m) [] κs) (x : MutBor Rec) (a : Denots (Types κs)) (gh : (c κs (x, a)).ghost) (r : Res) → Is Result (L.result r) (mach_res (L.result r) ∷ [])
            → ent 𝓤 (⋆ 𝓛 (‵ (fobs x.ghost_name (Row.coded.code (L.rec r))) ∷ ‵ (fbor κs.0 (Inside (mem Row) x.ref_ptr.0 x.ref_ptr.1 x.ghost_name)) ∷ ‵ (flft κs.0 qs.0) ∷ (raw (toks 𝓛 m κs.1 qs.1) ⊛ raw (En κs x.now a r)) ∷ []))
            ((walk_of 𝓛 Lent (stay_ref (0 ∷ []) tt (plain (λ _. Row)), dropped hs) c).post ((κs, qs, bounds, (x, a), (mut_vals x, spelled κs hs a)), gh) (mach_res (L.result r)))
        exits κs qs bounds x a gh r fits =
            qed 𝓛 (‵ (fobs x.ghost_name (Row.coded.code (L.rec r))) ∷ ‵ (fbor κs.0 (Inside (mem Row) x.ref_ptr.0 x.ref_ptr.1 x.ghost_name)) ∷ ‵ (flft κs.0 qs.0) ∷ (raw (toks 𝓛 m κs.1 qs.1) ⊛ raw (En κs x.now a r)) ∷ []) ∵
            move ! (3 ∷ []) $ split ! $ move ! (1 ∷ []) $ use1 𝓛 (some (λ (ws : Unit {0} × Fins κs (slots hs) (keeps hs) a). ‵ (fsep ftrue (lasts_of κs (slots hs) (keeps hs) a ws.1)) ⊛ raw (fact 𝓤 (Φ κs x.now a r ws.1)))) (id⊢ 𝓤 _) $ pick ! (λ ws.
            split ! $ move ! (1 ∷ []) $ heard ! (Φ κs x.now a r ws.1) (λ e. fsplit ! $ drop ! $ use1 𝓛 (‵ (has_of κs (slots hs) (keeps hs) (dropped hs) a ws.1 (spelled κs hs a))) (have_last κs 𝓛 hs a ws.1 (spelled κs hs a)) $
            -- [had of the arguments; the others' tokens; obs; the borrow; the token]
            suffices ! _ (ends_at 𝓛 Lent (stay_ref (0 ∷ []) tt (plain (λ _. Row)), dropped hs) c ((κs, qs, bounds, (x, a), (mut_vals x, spelled κs hs a)), gh) (mach_res (L.result r)) (L.result r) (L.rec r, ws.1) (tt, fit_all κs hs a ws.1)) $
            use0 𝓛 (raw ((c κs (x, a)).ensures gh (L.result r) (at_exit Lent κs (x, a) (L.rec r, ws.1)))) (says-it κs x a gh r ws.1 e) $ owned ! Result (Is Result) (LL.makes L.R L.result_plains 𝓛) (L.result r) _ fits $
            -- [the result; the clause; had; the others' tokens; obs; the borrow; the token]
            move ! (4 ∷ 5 ∷ 2 ∷ []) $ feq_i ! (List Val) (mut_vals x) (mut_vals x) refl $ fjoin3 ! $ fjoin ! $ move ! (0 ∷ 1 ∷ []) $ join ! $ move ! (3 ∷ 2 ∷ []) $ join ! $ join ! $ done !))

        walks : Triple 𝓤 (WpFn 𝓤 H C Λ fn) (walk_of 𝓛 Lent (stay_ref (0 ∷ []) tt (plain (λ _. Row)), dropped hs) c)
        walks = walked 𝓛 Lent (stay_ref (0 ∷ []) tt (plain (λ _. Row)), dropped hs) c (WpFn 𝓤 H C Λ fn) (λ κs. (mut_vals, spelling κs hs)) (λ κs. (mut_Tells (named 0) κs.0 Row, telling κs hs))
            (λ κs qs bounds a gh are. via 𝓤 _ (fst∗ 𝓤 _ ((c κs a).requires gh)) (
            subst (λ (us : List Val). ent 𝓤 (on_entry 𝓛 Lent.signature κs qs a (mut_vals a.0, spelled κs hs a.1)) (WpFn 𝓤 H C Λ fn (vptr a.0.ref_ptr.0 a.0.ref_ptr.1 ∷ us)
            ((walk_of 𝓛 Lent (stay_ref (0 ∷ []) tt (plain (λ _. Row)), dropped hs) c).post ((κs, qs, bounds, a, (mut_vals a.0, spelled κs hs a.1)), gh)))) (sym (flat_is κs hs a.1)) (
            qed 𝓛 ((‵ (flft κs.0 qs.0) ⊛ raw (toks 𝓛 m κs.1 qs.1)) ∷ ‵ (owns (MutRef (named 0) κs.0 Row ∷ Types κs) a (mut_vals a.0, spelled κs hs a.1)) ∷ []) ∵
            split ! $ move ! (2 ∷ []) $ fsplit ! $ fsplit3 ! $ drop ! $ move ! (4 ∷ 2 ∷ []) $ join ! $ move ! (1 ∷ 2 ∷ 3 ∷ []) $
            enter ! C Λ fn (vptr a.0.ref_ptr.0 a.0.ref_ptr.1 ∷ listed τs (words κs hs a.1)) _ $
            ran C Λ fm κs a.1 are.1 κs.0 qs.0 a.0.ref_ptr.0 a.0.ref_ptr.1 a.0.ghost_name a.0.now
            (give κs qs a.1) (raw (toks 𝓛 m κs.1 qs.1)) (En κs a.0.now a.1) _ (λ was. via 𝓤 _ (in_order 𝓤 (sem 𝓛 (Row.own_val a.0.now (LL.vals L.N L.laws a.0.now))) (toks 𝓛 m κs.1 qs.1) (sem 𝓛 (owns (Types κs) a.1 (spelled κs hs a.1)))) (asks κs qs a.0.now a.1)) (exits κs qs bounds a.0 a.1 gh))))

      pub lent_meets : Says → (𝓣 : Tables 𝓤 H) → Asked 𝓣.C → Meets 𝓛 Lent.signature (WpFn 𝓤 H 𝓣.C 𝓣.Λ fn) (closing 𝓛 Lent c)
      lent_meets says-it 𝓣 asks = walk_Meets 𝓛 Lent (stay_ref (0 ∷ []) tt (plain (λ _. Row)), dropped hs) (Goes-ref 𝓛 (suc m) 0 tt (plain (λ _. Row)), go_dropped 𝓛 hs) c
          (WpFn 𝓤 H 𝓣.C 𝓣.Λ fn) (WpFn-mono 𝓤 H 𝓛.laws 𝓣 fn) (walks says-it 𝓣.C 𝓣.Λ (fm_of 𝓤 H 𝓛.laws 𝓣) asks)

  -- a buffer before the other arguments
  module _ (m j : ℕ) (ok : AllWithin (suc m) (j ∷ [])) (hs : List (Handed (suc m))) where
    abbrev pub buf_fn : Callee → ℕ → ℕ → ℕ → ℕ → ℕ → ℕ → Fn
    buf_fn g p io it ip is iu = record { lifetimes = suc m; outlives = []; ty_params = []; givens = 0; params = p; locals = buf_locals j (tys hs); body = buf_body g (tys hs) io it ip is iu }

    pub with_buffer : {M : Type 1} {𝓤 : Ura M} (𝓛 : Logic 𝓤) (g : Callee) (p io it ip is iu : ℕ) → Buf-placed 𝓛 j (tys hs) io it ip is iu → Ran m (bytes_mut j ok ∷ hs) 𝓛 g (buf_fn g p io it ip is iu)
    with_buffer 𝓛 g p io it ip is iu placed C Λ fm κs a are =
        lend_buf 𝓛 C Λ fm g j (tys hs) a.0.ref_ptr (length a.0.now) are.0.0.1.0 (words κs hs a.1) (all_good κs 𝓛 hs a.1 are.1) io it ip is iu placed
