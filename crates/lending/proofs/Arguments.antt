-- The arguments of an exported function that it hands on as they came: numbers, octets, slices, structs by value and a record behind `&mut`, any number of
-- them. What the walks of `Lent.antt` and `Passed.antt` need of them is proved here once, by going down the list. Assumes nothing.
use mathlib.Core.Path.{◌≡◌, refl, ap, sym, subst}
use Prim.Native.Nat.{ℕ, zero, suc}
use mathlib.Core.List.{[], ◌∷◌, List}
use seplogic.Ra.Ura.{Ura}
use base.Fraction.{full_share}
use lib.Dec.{T as Holds}
use lib.ListN.{get_or, length}
use mir.Syntax.{Ty, ty_int, ty_ref, mut, imm, named, Width, w8, w16, w32, w64, w128, Local, local, value_local, Opd as Operand, copy, place, Step as PStep}
use mir.Val.{Val, vint, vptr, WT, has_ty}
use base.Logic.{ent, emp, id⊢, via, mono_r}
use base.Fml.{Fml, ftrue, fsep, fat, froom, fdies}
use prog.Wp.{Env, Spot, no_local}
use types.Logic.{Logic, sem}
use types.Kit.{Item, Goal, Sq, Go, allocs, passes, frees, ⋆, ‵, ◌$◌, !, qed, by, move, drop, fsplit, fjoin}
use types.Run.{Walks, Finds, Opd, Opds, look, init, forget, stop, from, load, and_then, no_more, alloc1, pass1, pass0, free1}
use contract.Lifetimes.{Lfts}
use denote.RattleType.{Denots, Valss, flat}
use denote.Laws.{Is, Ises, Are, Tells, Tellss, Spells, valss}
use denote.Plain.{UInt, uint_Tells}
use denote.Array.{Array}
use denote.Slice.{slice_ty, slice_val, shr_slice_Tells, mut_slice_Tells}
use denote.Builtin.{u8}
use denote.Ref.{mut_Tells, shr_Tells}
use denote.Signature.{Slot, AllWithin, meet_at, plain, types_at, mut_ref_to, shr_ref_to, shr_slice_of, mut_slice_of}
use denote.Exit.{yes, left}
use denote.Triple.End.{Kepts, Fins, lasts_of}
use denote.Triple.Walked.{Stay, Stays, fits_of, has_of, AllGo}
use denote.Memory.{pointee}
use denote.Steps.{nothing}
use denote.Struct.Laws as LL
use denote.Struct.Struct.{layout}
use denote.Struct.Declared.{Declared, shape, row}

-- ---- the arguments: their types, the cells of their locals, their machine values
abbrev pub Spots : List Ty → Type 0
Spots [] = Unit {0}
Spots (τ ∷ τs) = ℕ × Spots τs

abbrev pub Words : List Ty → Type 0
Words [] = Unit {0}
Words (τ ∷ τs) = Val × Words τs

abbrev pub listed : (τs : List Ty) → Words τs → List Val
listed [] us = []
listed (τ ∷ τs) us = us.0 ∷ listed τs us.1

abbrev pub Good : (τs : List Ty) → Words τs → Type 0
Good [] us = Unit {0}
Good (τ ∷ τs) us = (Holds (has_ty τ us.0) × WT us.0) × Good τs us.1

abbrev pub envs : (τs : List Ty) → Spots τs → List (Ty × ℕ) → List (Ty × ℕ)
envs [] bs E = E
envs (τ ∷ τs) bs E = (τ, bs.0) ∷ envs τs bs.1 E

abbrev pub locals : List Ty → List Local → List Local
locals [] ls = ls
locals (τ ∷ τs) ls = local τ value_local ∷ locals τs ls

abbrev pub operands : ℕ → List Ty → List Operand
operands i [] = []
operands i (τ ∷ τs) = copy (place i []) ∷ operands (suc i) τs

abbrev pub Spotted : Ty × ℕ → List (Ty × ℕ) → ℕ → (τs : List Ty) → Spots τs → Type 0
Spotted z E i [] bs = Unit {0}
Spotted z E i (τ ∷ τs) bs = (get_or E i z ≡ (τ, bs.0)) × Spotted z E (suc i) τs bs.1

abbrev pub Rooms : (τs : List Ty) → Spots τs → Fml
Rooms [] bs = ftrue
Rooms (τ ∷ τs) bs = fsep (froom τ bs.0 0) (fsep (fdies τ bs.0) (Rooms τs bs.1))

abbrev pub Cells : (τs : List Ty) → Spots τs → Words τs → Fml
Cells [] bs us = ftrue
Cells (τ ∷ τs) bs us = fsep (fat full_share τ bs.0 0 us.0) (fsep (fdies τ bs.0) (Cells τs bs.1 us.1))

module _ {M : Type 1} {𝓤 : Ura M} (𝓛 : Logic 𝓤) where
  open 𝓛 use {H}

  pub alloc_args : (τs : List Ty) {ls : List Local} {Kt : Env 𝓤 H → Goal 𝓤 H} {Γ : List (Item 𝓤)}
      → ((bs : Spots τs) → Sq 𝓛 (‵ (Rooms τs bs) ∷ Γ) (allocs ls (λ E. Kt (envs τs bs E)))) → Sq 𝓛 Γ (allocs (locals τs ls) Kt)
  alloc_args [] k = nothing ! $ k tt
  alloc_args (τ ∷ τs) k = alloc1 ! (λ b. alloc_args τs (λ bs. move ! (2 ∷ 0 ∷ []) $ fjoin ! $ move ! (1 ∷ 0 ∷ []) $ fjoin ! $ k (b, bs)))

  pub pass_args : (τs : List Ty) (bs : Spots τs) (us : Words τs) → Good τs us → (E : Env 𝓤 H) {g : Goal 𝓤 H} {Γ : List (Item 𝓤)}
      → Sq 𝓛 (‵ (Cells τs bs us) ∷ Γ) g → Sq 𝓛 (‵ (Rooms τs bs) ∷ Γ) (passes (envs τs bs E) (listed τs us) g)
  pass_args [] bs us good E s = pass0 ! $ s
  pass_args (τ ∷ τs) bs us good E s =
      fsplit ! $ pass1 ! (init ! 0 refl good.0) $ move ! (1 ∷ []) $ fsplit ! $ move ! (1 ∷ []) $
      pass_args τs bs.1 us.1 good.1 E (move ! (1 ∷ 0 ∷ []) $ fjoin ! $ move ! (1 ∷ 0 ∷ []) $ fjoin ! $ s)

  pub free_args : (τs : List Ty) (bs : Spots τs) (us : Words τs) {E : Env 𝓤 H} {g : Goal 𝓤 H} {Γ : List (Item 𝓤)}
      → Sq 𝓛 Γ (frees E g) → Sq 𝓛 (‵ (Cells τs bs us) ∷ Γ) (frees (envs τs bs E) g)
  free_args [] bs us s = drop ! $ s
  free_args (τ ∷ τs) bs us s = fsplit ! $ forget ! 0 refl $ move ! (1 ∷ []) $ fsplit ! $ move ! (2 ∷ 0 ∷ []) $ free1 ! $ free_args τs bs.1 us.1 s

  pub found : {Γ : List (Item 𝓤)} {E : Env 𝓤 H} {i : ℕ} {st : List PStep} {sp : Spot 𝓤 H} {e : Ty × ℕ} → get_or E i (no_local 𝓤 H) ≡ e → Walks (Go {0}) 𝓛 Γ E (e.0, e.1, zero) st sp → Finds (Go {0}) 𝓛 Γ E (place i st) sp
  found {Γ} {E} {i} {st} {sp} eq w = from ! (subst (λ (z : Ty × ℕ). Walks (Go {0}) 𝓛 Γ E (z.0, z.1, zero) st sp) (sym eq) w)

  -- the operands are read out of the arguments' cells
  pub read_args : (τs : List Ty) (bs : Spots τs) (us : Words τs) (i : ℕ) {E : Env 𝓤 H} {Γ : List (Item 𝓤)} → Spotted (no_local 𝓤 H) E i τs bs
      → Opds (Go {0}) 𝓛 (‵ (Cells τs bs us) ∷ Γ) E (operands i τs) (listed τs us)
  read_args [] bs us i at = no_more !
  read_args (τ ∷ τs) bs us i {E} {Γ} at = and_then ! (record { go = λ Kt h. via 𝓤 _ one (first.go Kt (via 𝓤 _ one' h)) }) (record { go = λ Kt h. via 𝓤 _ rest ((read_args τs bs.1 us.1 (suc i) {Γ = ‵ (fdies τ bs.0) ∷ ‵ (fat full_share τ bs.0 0 us.0) ∷ Γ} at.1).go Kt (via 𝓤 _ rest' h)) })
    where
      first : Opd (Go {0}) 𝓛 (‵ (fat full_share τ bs.0 0 us.0) ∷ ‵ (fsep (fdies τ bs.0) (Cells τs bs.1 us.1)) ∷ Γ) E (copy (place i [])) us.0
      first = load ! (found at.0 (stop !)) (look ! 0 refl)

      one : ent 𝓤 (⋆ 𝓛 (‵ (Cells (τ ∷ τs) bs us) ∷ Γ)) (⋆ 𝓛 (‵ (fat full_share τ bs.0 0 us.0) ∷ ‵ (fsep (fdies τ bs.0) (Cells τs bs.1 us.1)) ∷ Γ))
      one = qed 𝓛 (‵ (Cells (τ ∷ τs) bs us) ∷ Γ) (fsplit ! $ by ! (id⊢ 𝓤 _))

      one' : ent 𝓤 (⋆ 𝓛 (‵ (fat full_share τ bs.0 0 us.0) ∷ ‵ (fsep (fdies τ bs.0) (Cells τs bs.1 us.1)) ∷ Γ)) (⋆ 𝓛 (‵ (Cells (τ ∷ τs) bs us) ∷ Γ))
      one' = qed 𝓛 (‵ (fat full_share τ bs.0 0 us.0) ∷ ‵ (fsep (fdies τ bs.0) (Cells τs bs.1 us.1)) ∷ Γ) (fjoin ! $ by ! (id⊢ 𝓤 _))

      rest : ent 𝓤 (⋆ 𝓛 (‵ (Cells (τ ∷ τs) bs us) ∷ Γ)) (⋆ 𝓛 (‵ (Cells τs bs.1 us.1) ∷ ‵ (fdies τ bs.0) ∷ ‵ (fat full_share τ bs.0 0 us.0) ∷ Γ))
      rest = qed 𝓛 (‵ (Cells (τ ∷ τs) bs us) ∷ Γ) (fsplit ! $ move ! (1 ∷ []) $ fsplit ! $ move ! (1 ∷ []) $ by ! (id⊢ 𝓤 _))

      rest' : ent 𝓤 (⋆ 𝓛 (‵ (Cells τs bs.1 us.1) ∷ ‵ (fdies τ bs.0) ∷ ‵ (fat full_share τ bs.0 0 us.0) ∷ Γ)) (⋆ 𝓛 (‵ (Cells (τ ∷ τs) bs us) ∷ Γ))
      rest' = qed 𝓛 (‵ (Cells τs bs.1 us.1) ∷ ‵ (fdies τ bs.0) ∷ ‵ (fat full_share τ bs.0 0 us.0) ∷ Γ) (move ! (1 ∷ 0 ∷ []) $ fjoin ! $ move ! (1 ∷ 0 ∷ []) $ fjoin ! $ by ! (id⊢ 𝓤 _))

  pub second : {i : Item 𝓤} {F : Fml} {Γ : List (Item 𝓤)} {E : Env 𝓤 H} {xs : List Operand} {vs : List Val} → Opds (Go {0}) 𝓛 (‵ F ∷ i ∷ Γ) E xs vs → Opds (Go {0}) 𝓛 (i ∷ ‵ F ∷ Γ) E xs vs
  second {i} {F} {Γ} os = record { go = λ Kt h. via 𝓤 _ (qed 𝓛 (i ∷ ‵ F ∷ Γ) (move ! (1 ∷ 0 ∷ []) $ by ! (id⊢ 𝓤 (⋆ 𝓛 (‵ F ∷ i ∷ Γ))))) (os.go Kt (via 𝓤 _ (qed 𝓛 (‵ F ∷ i ∷ Γ) (move ! (1 ∷ 0 ∷ []) $ by ! (id⊢ 𝓤 (⋆ 𝓛 (i ∷ ‵ F ∷ Γ))))) h)) }

-- ---- an argument that is handed on: its slot in the signature, its MIR type and its machine value
pub record Handed (n : ℕ) : Type 3 where
  pub slot : Slot n
  pub ty : Ty
  pub val : (κs : Lfts n) → (slot.row κs).Denot → Val
  pub tells : (κs : Lfts n) → Tells (slot.row κs) (Is (slot.row κs)) (λ x. val κs x ∷ [])
  pub typed : {M : Type 1} {𝓤 : Ura M} → (𝓛 : Logic 𝓤) → (κs : Lfts n) (x : (slot.row κs).Denot) → Is (slot.row κs) x (val κs x ∷ []) → Holds (has_ty ty (val κs x)) × WT (val κs x)

pub num_ty : (w : Width) (x : ℕ) → Holds (has_ty (ty_int w) (vint w x))
num_ty w8 x = tt
num_ty w16 x = tt
num_ty w32 x = tt
num_ty w64 x = tt
num_ty w128 x = tt

module _ {n : ℕ} where
  -- a number; a `&[u8; k]`, a `&[u8]` and a `&mut [u8]` at the signature's lifetime j
  abbrev pub num : Width → Handed n
  num w = record { slot = plain (λ _. UInt w); ty = ty_int w; val = λ κs x. vint w x; tells = λ κs. uint_Tells w; typed = λ 𝓛 κs x p. (num_ty w x, record { fits = p.1 }) }

  abbrev pub octets : (j : ℕ) (ok : AllWithin n (j ∷ [])) (k : ℕ) → Handed n
  octets j ok k = record {
    slot = shr_ref_to (j ∷ []) ok (plain (λ _. Array u8 k));
    ty = ty_ref (named j) imm (pointee (Array u8 k).written);
    val = λ κs x. vptr x.ref_ptr.0 x.ref_ptr.1;
    tells = λ κs. shr_Tells (named j) (meet_at n (j ∷ []) ok κs) (Array u8 k);
    typed = λ 𝓛 κs x p. (tt, tt);
  }

  abbrev pub bytes : (j : ℕ) (ok : AllWithin n (j ∷ [])) → Handed n
  bytes j ok = record {
    slot = shr_slice_of (j ∷ []) ok (plain (λ _. u8));
    ty = slice_ty (ty_ref (named j) imm (pointee u8.written));
    val = λ κs x. slice_val x.ref_ptr (length x.now);
    tells = λ κs. shr_slice_Tells (named j) (meet_at n (j ∷ []) ok κs) u8;
    typed = λ 𝓛 κs x p. (tt, (tt, (record { fits = p.0.1.0 }, tt)));
  }

  abbrev pub bytes_mut : (j : ℕ) (ok : AllWithin n (j ∷ [])) → Handed n
  bytes_mut j ok = record {
    slot = mut_slice_of (j ∷ []) ok (plain (λ _. u8));
    ty = slice_ty (ty_ref (named j) mut (pointee u8.written));
    val = λ κs x. slice_val x.ref_ptr (length x.now);
    tells = λ κs. mut_slice_Tells (named j) (meet_at n (j ∷ []) ok κs) u8;
    typed = λ 𝓛 κs x p. (tt, (tt, (record { fits = p.0.1.0 }, tt)));
  }

  -- a struct by value, and a `&mut` to one
  abbrev pub struct : (T : Declared) → LL.Laws T → Handed n
  struct T laws = record {
    slot = plain (λ _. row T);
    ty = layout (shape T);
    val = λ κs x. LL.val T laws x;
    tells = λ κs. LL.tells T laws;
    typed = λ {M} {𝓤} 𝓛 κs x p. ((LL.lawful T laws 𝓛).typed x _ p).0;
  }

  abbrev pub struct_mut : (j : ℕ) (ok : AllWithin n (j ∷ [])) (T : Declared) → Handed n
  struct_mut j ok T = record {
    slot = mut_ref_to (j ∷ []) ok (plain (λ _. row T));
    ty = ty_ref (named j) mut (pointee (row T).written);
    val = λ κs x. vptr x.ref_ptr.0 x.ref_ptr.1;
    tells = λ κs. mut_Tells (named j) (meet_at n (j ∷ []) ok κs) (row T);
    typed = λ 𝓛 κs x p. (tt, tt);
  }

  abbrev pub slots : List (Handed n) → List (Slot n)
  slots [] = []
  slots (g ∷ hs) = g.slot ∷ slots hs

  abbrev pub keeps : (hs : List (Handed n)) → Kepts (slots hs)
  keeps [] = tt
  keeps (g ∷ hs) = (yes, keeps hs)

  abbrev pub tys : List (Handed n) → List Ty
  tys [] = []
  tys (g ∷ hs) = g.ty ∷ tys hs

  -- at exit there is had of an argument what is said of it
  abbrev pub said_of : (s : Slot n) → Stay s yes
  said_of s = record { fit = λ κs x f. Unit {0}; has = λ κs x f vs. left ((s.row κs).exit yes) x f }

  abbrev pub dropped : (hs : List (Handed n)) → Stays (slots hs) (keeps hs)
  dropped [] = tt
  dropped (g ∷ hs) = (said_of g.slot, dropped hs)

  module _ (κs : Lfts n) where
    abbrev pub GivenTo : List (Handed n) → Type 0
    GivenTo hs = Denots (types_at (slots hs) κs)

    abbrev pub words : (hs : List (Handed n)) → GivenTo hs → Words (tys hs)
    words [] a = tt
    words (g ∷ hs) a = (g.val κs a.0, words hs a.1)

    abbrev pub spelling : (hs : List (Handed n)) → Spells (types_at (slots hs) κs)
    spelling [] = tt
    spelling (g ∷ hs) = ((λ x. g.val κs x ∷ []), spelling hs)

    abbrev pub spelled : (hs : List (Handed n)) → GivenTo hs → Valss (types_at (slots hs) κs)
    spelled hs a = valss (types_at (slots hs) κs) (spelling hs) a

    pub telling : (hs : List (Handed n)) → Tellss (types_at (slots hs) κs) (Ises (types_at (slots hs) κs)) (spelling hs)
    telling [] = tt
    telling (g ∷ hs) = (g.tells κs, telling hs)

    pub flat_is : (hs : List (Handed n)) (a : GivenTo hs) → flat (types_at (slots hs) κs) (spelled hs a) ≡ listed (tys hs) (words hs a)
    flat_is [] a = refl
    flat_is (g ∷ hs) a = ap (λ (us : List Val). g.val κs a.0 ∷ us) (flat_is hs a.1)

    pub all_good : {M : Type 1} {𝓤 : Ura M} → (𝓛 : Logic 𝓤) → (hs : List (Handed n)) (a : GivenTo hs) → Are (types_at (slots hs) κs) (Ises (types_at (slots hs) κs)) a (spelled hs a) → Good (tys hs) (words hs a)
    all_good 𝓛 [] a are = tt
    all_good 𝓛 (g ∷ hs) a are = (g.typed 𝓛 κs a.0 are.0, all_good 𝓛 hs a.1 are.1)

    pub fit_all : (hs : List (Handed n)) (a : GivenTo hs) (ws : Fins κs (slots hs) (keeps hs) a) → fits_of κs (slots hs) (keeps hs) (dropped hs) a ws
    fit_all [] a ws = tt
    fit_all (g ∷ hs) a ws = (tt, fit_all hs a.1 ws.1)

    pub have_last : {M : Type 1} {𝓤 : Ura M} (𝓛 : Logic 𝓤) (hs : List (Handed n)) (a : GivenTo hs) (ws : Fins κs (slots hs) (keeps hs) a) (vss : Valss (types_at (slots hs) κs))
        → ent 𝓤 (sem 𝓛 (lasts_of κs (slots hs) (keeps hs) a ws)) (sem 𝓛 (has_of κs (slots hs) (keeps hs) (dropped hs) a ws vss))
    have_last {𝓤 = 𝓤} 𝓛 [] a ws vss = id⊢ 𝓤 (emp 𝓤)
    have_last {𝓤 = 𝓤} 𝓛 (g ∷ hs) a ws vss = mono_r 𝓤 (sem 𝓛 (left ((g.slot.row κs).exit yes) a.0 ws.0)) (have_last 𝓛 hs a.1 ws.1 vss.1)

  pub go_dropped : {M : Type 1} {𝓤 : Ura M} (𝓛 : Logic 𝓤) (hs : List (Handed n)) → AllGo 𝓛 n (slots hs) (keeps hs) (dropped hs)
  go_dropped 𝓛 [] = tt
  go_dropped 𝓛 (g ∷ hs) = ((λ κs x f vs ok. 𝓛.laws.⇛_intro (sem 𝓛 (left ((g.slot.row κs).exit yes) x f))), go_dropped 𝓛 hs)
