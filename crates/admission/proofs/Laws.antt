-- The tests by kind are the model's.
use mathlib.Core.Logic.{◌⊎◌, inl, inr}
use mathlib.Core.Path.{◌≡◌, refl, sym, ap, ◌∙◌}
use Prim.Native.Nat.{ℕ, ◌+◌, ◌*◌, ◌≤◌, ◌<◌}
use mathlib.Core.Bool.{Bool, true, false, not, cond, beq, or-false, ◌&&◌, ◌||◌}
use mathlib.Core.List.{List}
use native.Mathlib.Omega.{arith}
use native.Mathlib.Decide.{dec_le}
use lib.Dec.{leb, ltb, eqb}
use lib.ListN.{get_or}
use borrow.Author.Tests.{le-leb, leb-false}
use Rattle.units.specs.Units.{elapsed_of}
use Rattle.refusals.specs.Refusals.{number_of}
use Rattle.refusals.specs.declared.Refusal.{Refusal}
use Rattle.refusals.proofs.Laws.{never_zero}
use Rattle.sheet.specs.Settings.{C}
use Rattle.sheet.specs.declared.Settings.{Settings}
use Rattle.model.specs.State.{thread, State, Thread}
use Rattle.model.specs.Slices.{round_robin}
use Rattle.model.specs.Event.{stamp_of, names_thread, well_formed, too_long, wrong_thread, wrong_place, wrong_readiness, refused_event}
use Rattle.model.specs.Arrays.{Columns, with_flag_columns, state_of}
use Rattle.model.specs.declared.Clock.{Clock}
use Rattle.lists.proofs.Tests.{neither, passes, clash}
use Rattle.model.proofs.Table.{thread_at_law}
use Rattle.event.specs.declared.kinds.Action.{Action}
use Rattle.event.specs.declared.kinds.Action.TheVariants.{Unknown, Tick, Create, Ready, Block, SetPriority, End, Resume}
use Rattle.event.specs.Kinds.{kind_number}
use Rattle.event.specs.Bytes.{bytes_of}
use Rattle.event.specs.declared.Event.{Event}
use Rattle.admission.specs.Tests.{late, missing_in, create_refused, ready_refused, block_refused, readiness_refused, other_refused}

-- an action that is no resume has another kind
pub other_kind : (a : Action) → (a ≡ Resume → ⊥) → eqb (kind_number a) 7 ≡ false
other_kind Unknown h = refl
other_kind Tick h = refl
other_kind Create h = refl
other_kind Ready h = refl
other_kind Block h = refl
other_kind SetPriority h = refl
other_kind End h = refl
other_kind Resume h = absurd (h refl)

-- ---- readiness, behind the test that the thread exists

module _ (e : List ℕ) (t : ℕ) where
  pub there : 0 ≡ other_refused e t → missing_in e t ≡ false
  unfolding other_refused
  there z = (passes (missing_in e t) 11 0 tt (sym z)).0

  pub inside : 0 ≡ other_refused e t → t < 64
  inside z = leb-false 64 t (neither (leb 64 t) (not (eqb (get_or e t 0) 1)) (there z)).0

  module _ (r : List ℕ) (wanted : Bool) where
    pub refused_first : (x : Refusal) → number_of x ≡ other_refused e t → number_of x ≡ readiness_refused e r t wanted
    unfolding other_refused ready_refused block_refused
    refused_first x f = f ∙ go (missing_in e t) wanted (sym (ap (λ (m : ℕ). eqb m 0) f) ∙ never_zero x)
      where
        go : (b w : Bool) → eqb (cond b 11 0) 0 ≡ false
            → ◌≡◌ {A = ℕ} (cond b 11 0) (cond w (cond b 11 (cond (not (eqb (get_or r t 0) 1)) 13 0)) (cond b 11 (cond (eqb (get_or r t 0) 1) 13 0)))
        go true true z = refl
        go true false z = refl
        go false w z = clash refl z

    by_flag : 0 ≡ other_refused e t → readiness_refused e r t wanted ≡ cond (not (beq (eqb (get_or r t 0) 1) wanted)) 13 0
    unfolding ready_refused block_refused
    by_flag z = rw (there z) (go (eqb (get_or r t 0) 1) wanted)
      where
        go : (x w : Bool) → ◌≡◌ {A = ℕ} (cond w (cond (not x) 13 0) (cond x 13 0)) (cond (not (beq x w)) 13 0)
        go true true = refl
        go true false = refl
        go false true = refl
        go false false = refl

    pub otherwise : 0 ≡ other_refused e t → not (beq (eqb (get_or r t 0) 1) wanted) ≡ true → 13 ≡ readiness_refused e r t wanted
    otherwise z i = sym (by_flag z ∙ rw i)

    pub as_wanted : 0 ≡ other_refused e t → not (beq (eqb (get_or r t 0) 1) wanted) ≡ false → 0 ≡ readiness_refused e r t wanted
    as_wanted z i = sym (by_flag z ∙ rw i)

module _ (c : Settings) (k : Clock) (e r : List ℕ) (x : Event) (form : well_formed (bytes_of x) ≡ true) (st : x.stamp ≡ stamp_of (bytes_of x)) (u : List ℕ) (others : Columns) (q : List ℕ) where
  abbrev ts : Columns
  ts = with_flag_columns others e r

  abbrev s : State
  s = state_of c u k ts q

  abbrev b : List ℕ
  b = bytes_of x

  abbrev t : ℕ
  t = x.thread

  abbrev after : ℕ
  after = cond (wrong_thread s b) 11 (cond (wrong_place s b) 12 (cond (wrong_readiness s b) 13 0))

  long_is : too_long s b ≡ late (kind_number x.action) x.stamp k.stamp k.since.0 (C c)
  unfolding too_long late
  long_is = ap (λ (z : ℕ). not (eqb (kind_number x.action) 7) && ltb (2 * C c) (k.since.0 + elapsed_of z k.stamp)) (sym st)

  base : refused_event s b ≡ cond (too_long s b) 10 after
  unfolding refused_event
  base = rw form

  pub is_late : (z : Bool) → z ≡ late (kind_number x.action) x.stamp k.stamp k.since.0 (C c) → z ≡ true → 10 ≡ refused_event s b
  is_late z d f = sym (base ∙ rw (long_is, ← d, f))

  rest : (z : Bool) → z ≡ late (kind_number x.action) x.stamp k.stamp k.since.0 (C c) → z ≡ false → refused_event s b ≡ after
  rest z d f = base ∙ rw (long_is, ← d, f)

  exists_is : (f : Bool → Bool) → (leb 64 t || f (thread s t).exists) ≡ (leb 64 t || f (eqb (get_or e t 0) 1))
  exists_is f = go (dec_le 64 t)
    where
      go : Dec (64 ≤ t) → (leb 64 t || f (thread s t).exists) ≡ (leb 64 t || f (eqb (get_or e t 0) 1))
      go (yes h) = rw (le-leb 64 t h)
      go (no h) = let low : t < 64 = omega arith in ap (λ (y : Thread). leb 64 t || f y.exists) (thread_at_law ts t low)

  -- behind a test of the thread's number its flag may be read
  ready_is : (g : Bool → Bool) (f : Bool → ℕ) → cond (leb 64 t || g (eqb (get_or e t 0) 1)) 11 (f (thread s t).ready) ≡ cond (leb 64 t || g (eqb (get_or e t 0) 1)) 11 (f (eqb (get_or r t 0) 1))
  ready_is g f = go (dec_le 64 t)
    where
      go : Dec (64 ≤ t) → cond (leb 64 t || g (eqb (get_or e t 0) 1)) 11 (f (thread s t).ready) ≡ cond (leb 64 t || g (eqb (get_or e t 0) 1)) 11 (f (eqb (get_or r t 0) 1))
      go (yes h) = rw (le-leb 64 t h)
      go (no h) = let low : t < 64 = omega arith in ap (λ (y : Thread). cond (leb 64 t || g (eqb (get_or e t 0) 1)) 11 (f y.ready)) (thread_at_law ts t low)

  module _ (z : Bool) (d : z ≡ late (kind_number x.action) x.stamp k.stamp k.since.0 (C c)) (f : z ≡ false) where
    pub at_create : kind_number x.action ≡ 2 → create_refused e c.count t x.partition x.mask x.policy ≡ refused_event s b
    unfolding create_refused wrong_thread wrong_place wrong_readiness names_thread
    at_create i = sym (rest z d f ∙ rw i (ap (λ (y : Bool). cond y 11 (cond (leb c.count x.partition || eqb x.mask 0 || ltb round_robin x.policy) 12 0)) (exists_is (λ y. y))))

    pub at_ready : kind_number x.action ≡ 3 → ready_refused e r t ≡ refused_event s b
    unfolding ready_refused wrong_thread wrong_place wrong_readiness names_thread
    at_ready i = sym (rest z d f ∙ rw (i, or-false (thread s t).ready) (ap (λ (y : Bool). cond y 11 (cond (thread s t).ready 13 0)) (exists_is not) ∙ ready_is not (λ y. cond y 13 0)))

    pub at_block : kind_number x.action ≡ 4 → block_refused e r t ≡ refused_event s b
    unfolding block_refused wrong_thread wrong_place wrong_readiness names_thread
    at_block i = sym (rest z d f ∙ rw i (ap (λ (y : Bool). cond y 11 (cond (not (thread s t).ready) 13 0)) (exists_is not) ∙ ready_is not (λ y. cond (not y) 13 0)))

    pub at_other : (x.action ≡ SetPriority) ⊎ (x.action ≡ End) → other_refused e t ≡ refused_event s b
    unfolding other_refused wrong_thread wrong_place wrong_readiness names_thread
    at_other (inl i) = sym (rest z d f ∙ rw (ap kind_number i) (ap (λ (y : Bool). cond y 11 0) (exists_is not)))
    at_other (inr i) = sym (rest z d f ∙ rw (ap kind_number i) (ap (λ (y : Bool). cond y 11 0) (exists_is not)))

    pub at_none : (x.action ≡ Unknown) ⊎ ((x.action ≡ Tick) ⊎ (x.action ≡ Resume)) → 0 ≡ refused_event s b
    unfolding wrong_thread wrong_place wrong_readiness names_thread
    at_none (inl i) = sym (rest z d f ∙ rw (ap kind_number i))
    at_none (inr (inl i)) = sym (rest z d f ∙ rw (ap kind_number i))
    at_none (inr (inr i)) = sym (rest z d f ∙ rw (ap kind_number i))
