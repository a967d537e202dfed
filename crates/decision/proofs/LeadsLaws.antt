-- The leads are right again: after a thread joined, after a partition was walked anew, after a thread left or went to the tail, after a priority
-- changed.
use mathlib.Core.Logic.{◌≢◌}
use mathlib.Core.Path.{◌≡◌, refl, sym, ap, ap₂, subst, ◌∙◌}
use Prim.Native.Nat.{ℕ, ◌+◌, ◌≤◌, ◌<◌}
use mathlib.Core.Bool.{Bool, true, false, not, cond, ◌&&◌, ◌||◌, and-true, and-false, or-true, or-false}
use mathlib.Core.List.{List, [], ◌∷◌, ◌++◌, append-nil}
use lib.ListN.{length, get_or, set, take, replicate, length-set}
use lib.Seq.{get_or-set_same, get_or-set_other, get_or-append_seam}
use Rattle.std.proofs.lemmas.List.{get_or-take, get_or-replicate, length-append, length-replicate, length-take}
use lib.Dec.{eqb, ltb}
use native.Mathlib.Omega.{arith}
use native.Mathlib.Decide.{ℕ_discrete}
use borrow.Author.Tests.{eq-eqb, ne_eqb, eqb-true, eqb-false, not-true, lt-ltb, le-ltb}
use Rattle.std.proofs.lemmas.List.{set-get_or}
use Rattle.lists.specs.Lists.{any, keep, first, member, cons_if}
use Rattle.lists.proofs.Tests.{clash, both}
use Rattle.lists.proofs.All.{member_keep, keep_append, keep_both, without_none}
use Rattle.lists.proofs.Loops.{keep_more}
use Rattle.sets.specs.Bits.{in_set, Put, TakenOut, Only, Marked, Lowest}
use Rattle.sets.proofs.Laws as bits
use Rattle.model.specs.State.{allows, may_run}
use Rattle.model.specs.Step.{leaves, to_tail, to_head, requeued}
use Rattle.decision.specs.Leads.{top_of, any_of, level_of, lead_in, raised_by, tops_of, firsts_of, numbers, runnable}
use Rattle.decision.specs.Keeping.{Right, RightAt, KeptIn, Stale, Left, Changed, Lined, Joins}
use Rattle.decision.specs.declared.leads.Lead.{Lead}
use Rattle.decision.proofs.LeadsArray.{tops_set, firsts_set, lead_at, top_at}
use Rattle.decision.proofs.ListLeads.{lead_more, lead_stop, keep_same, lead_same, lead_left, level_left, lead_tail, level_tail, changed_any, changed_above, changed_level, changed_first, changed_other}

-- ---- one partition

-- there are threads exactly where the level is above 0
level_any : (f : ℕ → ℕ) (l : List ℕ) → not (eqb (level_of f l) 0) ≡ any_of l
unfolding level_of
level_any f l = go (any_of l)
  where
    go : (z : Bool) → not (eqb (cond z (top_of f l + 1) 0) 0) ≡ z
    go true = ap not (ne_eqb (top_of f l + 1) 0 (λ e. let w : ⊥ = omega arith in absurd w))
    go false = refl

module _ (f : ℕ → ℕ) (l tops firsts : List ℕ) (set' p a b : ℕ) where
  -- another partition's numbers were stored, and it alone is put in the set or taken out
  pub right_other : (set₀ q : ℕ) → q ≢ p → in_set set' q ≡ in_set set₀ q → Right f l tops firsts set₀ q → Right f l (set tops p a) (set firsts p b) set' q
  right_other set₀ q n e r = record {
    top = get_or-set_other tops p q a 0 n ∙ r.top;
    thread = get_or-set_other firsts p q b 0 n ∙ r.thread;
    competes = e ∙ r.competes;
  }

  -- its own were
  pub right_here : length tops ≡ 16 → length firsts ≡ 16 → p < 16 → (record { top = a; first = b }) ≡ lead_in f l → in_set set' p ≡ any_of l
      → Right f l (set tops p a) (set firsts p b) set' p
  right_here w v h e c = record {
    top = get_or-set_same tops p a 0 (omega (arith, w, h)) ∙ ap (λ (x : Lead). x.top) e;
    thread = get_or-set_same firsts p b 0 (omega (arith, v, h)) ∙ ap (λ (x : Lead). x.first) e;
    competes = c;
  }

right_as : (f g : ℕ → ℕ) (l k tops firsts : List ℕ) (set₀ p : ℕ) → lead_in g k ≡ lead_in f l → any_of k ≡ any_of l → Right f l tops firsts set₀ p → Right g k tops firsts set₀ p
right_as f g l k tops firsts set₀ p e s r = record {
  top = r.top ∙ sym (ap (λ (x : Lead). x.top) e);
  thread = r.thread ∙ sym (ap (λ (x : Lead). x.first) e);
  competes = r.competes ∙ sym s;
}

-- ---- a thread joins

module _ (core : ℕ) (ps ms : List ℕ) (p : ℕ) where
  abbrev mine : ℕ → Bool
  mine t = may_run (get_or ps t 0) (get_or ms t 0) p core

  pub runnable_out : (line : List ℕ) (t : ℕ) → mine t ≡ false → runnable core ps ms p (line ++ (t ∷ [])) ≡ runnable core ps ms p line
  unfolding runnable
  runnable_out line t e = keep_more mine line t ∙ ap (λ (z : Bool). keep mine line ++ cons_if z t []) e ∙ append-nil (keep mine line)

  pub runnable_in : (line : List ℕ) (t : ℕ) → mine t ≡ true → runnable core ps ms p (line ++ (t ∷ [])) ≡ runnable core ps ms p line ++ (t ∷ [])
  unfolding runnable
  runnable_in line t e = keep_more mine line t ∙ ap (λ (z : Bool). keep mine line ++ cons_if z t []) e

  -- a thread that is not the partition's, or that the core may not run
  outside : (line : List ℕ) (t : ℕ) → mine t ≡ false → member t (runnable core ps ms p line) ≡ false
  unfolding runnable
  outside line t e = member_keep mine line t ∙ ap (λ (z : Bool). member t line && z) e ∙ and-false (member t line)

  outside_left : (line : List ℕ) (t : ℕ) → mine t ≡ false → leaves (runnable core ps ms p line) t ≡ runnable core ps ms p line
  unfolding leaves
  outside_left line t e = without_none (runnable core ps ms p line) t (outside line t e)

  runnable_head : (line : List ℕ) (t : ℕ) → runnable core ps ms p (t ∷ line) ≡ cons_if (mine t) t (runnable core ps ms p line)
  unfolding runnable keep
  runnable_head line t = refl

  pub runnable_join : (a b : List ℕ) → runnable core ps ms p (a ++ b) ≡ runnable core ps ms p a ++ runnable core ps ms p b
  unfolding runnable
  runnable_join a b = keep_append mine a b

module _ (core : ℕ) (ps ns ms tops firsts : List ℕ) (set₀ t : ℕ) where
  -- a partition that the thread is not of, or may not run it here, has what it had
  not_mine : (q : ℕ) → (get_or ps t 0 ≢ q) → may_run (get_or ps t 0) (get_or ms t 0) q core ≡ false
  not_mine q n = ap (λ (z : Bool). z && allows (get_or ms t 0) core) (ne_eqb (get_or ps t 0) q n)

  unmoved : (line : List ℕ) (q : ℕ) → may_run (get_or ps t 0) (get_or ms t 0) q core ≡ false → RightAt core ps ns ms line tops firsts set₀ q
      → RightAt core ps ns ms (line ++ (t ∷ [])) tops firsts set₀ q
  unmoved line q e r = subst (λ (l : List ℕ). Right (numbers ns) l tops firsts set₀ q) (sym (runnable_out core ps ms q line t e)) r

  pub join_none : allows (get_or ms t 0) core ≡ false → Joins core ps ns ms t tops firsts set₀ tops firsts set₀
  join_none e line k = record {
    wide = k.wide;
    long = k.long;
    right = λ q b. unmoved line q (ap (λ (z : Bool). eqb (get_or ps t 0) q && z) e ∙ and-false (eqb (get_or ps t 0) q)) (k.right q b);
  }

  module _ (low : get_or ps t 0 < 16) (ok : allows (get_or ms t 0) core ≡ true) (set' : ℕ) (put : Put 16 set₀ (get_or ps t 0) set') where
    yes_mine : may_run (get_or ps t 0) (get_or ms t 0) (get_or ps t 0) core ≡ true
    yes_mine = rw (eq-eqb (get_or ps t 0) (get_or ps t 0) refl, ok)

    grown : (line : List ℕ) → runnable core ps ms (get_or ps t 0) (line ++ (t ∷ [])) ≡ runnable core ps ms (get_or ps t 0) line ++ (t ∷ [])
    grown line = runnable_in core ps ms (get_or ps t 0) line t yes_mine

    in_set_law : in_set set' (get_or ps t 0) ≡ true
    in_set_law = put (get_or ps t 0) low ∙ ap (λ (z : Bool). in_set set₀ (get_or ps t 0) || z) (eq-eqb (get_or ps t 0) (get_or ps t 0) refl) ∙ or-true (in_set set₀ (get_or ps t 0))

    others_in : (q : ℕ) → q < 16 → get_or ps t 0 ≢ q → in_set set' q ≡ in_set set₀ q
    others_in q b n = put q b ∙ ap (λ (z : Bool). in_set set₀ q || z) (ne_eqb q (get_or ps t 0) (λ e. n (sym e))) ∙ or-false (in_set set₀ q)

    some_there : (l : List ℕ) → any_of (l ++ (t ∷ [])) ≡ true
    unfolding any
    some_there [] = refl
    some_there (x ∷ l) = refl

    -- it leads its partition, or its lead stays
    pub join_raised : (x : Lead) → x ≡ raised_by (record { top = get_or tops (get_or ps t 0) 0; first = get_or firsts (get_or ps t 0) 0 }) (get_or ns t 0) t
        → Joins core ps ns ms t tops firsts set₀ (set tops (get_or ps t 0) x.top) (set firsts (get_or ps t 0) x.first) set'
    join_raised x e line k = record {
      wide = length-set tops p x.top ∙ k.wide;
      long = length-set firsts p x.first ∙ k.long;
      right = λ q b. at q b (ℕ_discrete p q);
    }
      where
        p : ℕ
        p = get_or ps t 0

        l : List ℕ
        l = runnable core ps ms p line

        old : ◌≡◌ {A = Lead} (record { top = get_or tops p 0; first = get_or firsts p 0 }) (lead_in (numbers ns) l)
        old i = record { top = (k.right p low).top i; first = (k.right p low).thread i }

        new : x ≡ lead_in (numbers ns) (l ++ (t ∷ []))
        new = e ∙ ap (λ (y : Lead). raised_by y (get_or ns t 0) t) old ∙ sym (lead_more (numbers ns) l t)

        at : (q : ℕ) → q < 16 → Dec (p ≡ q) → RightAt core ps ns ms (line ++ (t ∷ [])) (set tops p x.top) (set firsts p x.first) set' q
        at q b (yes e) =
            subst (λ (j : ℕ). RightAt core ps ns ms (line ++ (t ∷ [])) (set tops p x.top) (set firsts p x.first) set' j) e
            (subst (λ (m : List ℕ). Right (numbers ns) m (set tops p x.top) (set firsts p x.first) set' p) (sym (grown line))
            (right_here (numbers ns) (l ++ (t ∷ [])) tops firsts set' p x.top x.first k.wide k.long low new (in_set_law ∙ sym (some_there l))))
        at q b (no n) =
            right_other (numbers ns) (runnable core ps ms q (line ++ (t ∷ []))) tops firsts set' p x.top x.first set₀ q (λ e. n (sym e)) (others_in q b n)
            (unmoved line q (not_mine q n) (k.right q b))

-- the same of the leads as they are kept
pub joined : (core : ℕ) (ps ns ms : List ℕ) (leads : List Lead) (set₀ t : ℕ) → get_or ps t 0 < 16 → allows (get_or ms t 0) core ≡ true
    → (set' : ℕ) → Put 16 set₀ (get_or ps t 0) set' → (x : Lead)
    → x ≡ raised_by (get_or leads (get_or ps t 0) (record { top = 0; first = 0 })) (get_or ns t 0) t
    → Joins core ps ns ms t (tops_of leads) (firsts_of leads) set₀ (tops_of (set leads (get_or ps t 0) x)) (firsts_of (set leads (get_or ps t 0) x)) set'
joined core ps ns ms leads set₀ t low ok set' put x e =
    rw (tops_set leads (get_or ps t 0) x, firsts_set leads (get_or ps t 0) x)
    (join_raised core ps ns ms (tops_of leads) (firsts_of leads) set₀ t low ok set' put x
    (e ∙ ap (λ (y : Lead). raised_by y (get_or ns t 0) t) (lead_at leads (get_or ps t 0))))

-- where the thread leads, and where it does not
pub leads_now : (old : Lead) (priority t : ℕ) → old.top < priority + 1 → record { top = priority + 1; first = t } ≡ raised_by old priority t
unfolding raised_by
leads_now old priority t h = rw (lt-ltb old.top (priority + 1) h)

leads_still : (old : Lead) (priority t : ℕ) → priority + 1 ≤ old.top → old ≡ raised_by old priority t
unfolding raised_by
leads_still old priority t h = rw (le-ltb old.top (priority + 1) h)

-- where it does not, its partition competes already
pub joined_still : (core : ℕ) (ps ns ms : List ℕ) (leads : List Lead) (set₀ t : ℕ) → get_or ps t 0 < 16 → allows (get_or ms t 0) core ≡ true
    → get_or ns t 0 + 1 ≤ (get_or leads (get_or ps t 0) (record { top = 0; first = 0 })).top
    → Joins core ps ns ms t (tops_of leads) (firsts_of leads) set₀ (tops_of leads) (firsts_of leads) set₀
joined_still core ps ns ms leads set₀ t low ok below line k =
    rw (set-get_or leads p d) at (joined core ps ns ms leads set₀ t low ok set₀ put (get_or leads p d) (leads_still (get_or leads p d) (get_or ns t 0) t below) line k)
  where
    p : ℕ
    p = get_or ps t 0

    d : Lead
    d = record { top = 0; first = 0 }

    r : RightAt core ps ns ms line (tops_of leads) (firsts_of leads) set₀ (get_or ps t 0)
    r = k.right (get_or ps t 0) low

    some : in_set set₀ p ≡ true
    some = r.competes ∙ sym (level_any (numbers ns) (runnable core ps ms p line)) ∙ ap not (ne_eqb (level_of (numbers ns) (runnable core ps ms p line)) 0 (λ z. let w : ⊥ = omega (arith, below, z, r.top, top_at leads p) in absurd w))

    put : Put 16 set₀ p set₀
    put i b = at (eqb i p) refl
      where
        at : (z : Bool) → eqb i p ≡ z → in_set set₀ i ≡ (in_set set₀ i || z)
        at true e = rw (eqb-true i p e, some)
        at false e = sym (or-false (in_set set₀ i))

-- ---- nobody is queued

pub kept_none : (core : ℕ) (ps ns ms : List ℕ) → KeptIn core ps ns ms [] (replicate 16 0) (replicate 16 255) 0
unfolding runnable keep level_of any first
kept_none core ps ns ms = record {
  wide = length-replicate {A = ℕ} 16 0;
  long = length-replicate {A = ℕ} 16 255;
  right = λ p b. record { top = get_or-replicate {A = ℕ} 16 p 0 0 b; thread = get_or-replicate {A = ℕ} 16 p 255 0 b; competes = bits.none p };
}

-- ---- a partition is walked anew

module _ (core : ℕ) (ps ns ms line tops firsts : List ℕ) (set₀ left : ℕ) where
  pub stale_none : left ≡ 0 → Stale core ps ns ms line tops firsts set₀ left → KeptIn core ps ns ms line tops firsts set₀
  stale_none z s = record {
    wide = s.wide;
    long = s.long;
    right = λ p b. s.right p b (ap (λ (k : ℕ). in_set k p) z ∙ bits.none p);
  }

  pub stale_step : (p next set' : ℕ) (x : Lead) → Lowest 16 left p → TakenOut 16 left p next → x ≡ lead_in (numbers ns) (runnable core ps ms p line)
      → Marked 16 set₀ p (not (eqb x.top 0)) set' → Stale core ps ns ms line tops firsts set₀ left
      → Stale core ps ns ms line (set tops p x.top) (set firsts p x.first) set' next
  stale_step p next set' x l t e m s = record {
    wide = length-set tops p x.top ∙ s.wide;
    long = length-set firsts p x.first ∙ s.long;
    right = λ q b f. at q b f (ℕ_discrete q p);
    below = λ q b f. low q b f (ℕ_discrete q p);
  }
    where
      marked : in_set set' p ≡ any_of (runnable core ps ms p line)
      marked =
          m p l.inside ∙ ap (λ (z : Bool). cond z (not (eqb x.top 0)) (in_set set₀ p)) (eq-eqb p p refl)
          ∙ ap (λ (y : Lead). not (eqb y.top 0)) e ∙ level_any (numbers ns) (runnable core ps ms p line)

      left_of_law : (q : ℕ) → q < 16 → q ≢ p → in_set next q ≡ in_set left q
      left_of_law q b n = t q b ∙ ap (λ (z : Bool). in_set left q && not z) (ne_eqb q p n) ∙ and-true (in_set left q)

      at : (q : ℕ) → q < 16 → in_set next q ≡ false → Dec (q ≡ p) → RightAt core ps ns ms line (set tops p x.top) (set firsts p x.first) set' q
      at q b f (yes w) =
          subst (λ (j : ℕ). RightAt core ps ns ms line (set tops p x.top) (set firsts p x.first) set' j) (sym w)
          (right_here (numbers ns) (runnable core ps ms p line) tops firsts set' p x.top x.first s.wide s.long l.inside e marked)
      at q b f (no n) =
          right_other (numbers ns) (runnable core ps ms q line) tops firsts set' p x.top x.first set₀ q n
          (m q b ∙ ap (λ (z : Bool). cond z (not (eqb x.top 0)) (in_set set₀ q)) (ne_eqb q p n)) (s.right q b (sym (left_of_law q b n) ∙ f))

      low : (q : ℕ) → q < 16 → in_set next q ≡ true → Dec (q ≡ p) → level_of (numbers ns) (runnable core ps ms q line) ≤ get_or (set tops p x.top) q 0
      low q b f (yes w) = clash f (ap (λ (j : ℕ). in_set next j) w ∙ t p l.inside ∙ ap (λ (z : Bool). in_set left p && not z) (eq-eqb p p refl) ∙ and-false (in_set left p))
      low q b f (no n) = rw (get_or-set_other tops p q x.top 0 n) (s.below q b (sym (left_of_law q b n) ∙ f))

-- the walk of one partition, along the line: of it some threads were seen
module _ (core : ℕ) (ps ns ms : List ℕ) (p : ℕ) where
  abbrev walked : List ℕ → Lead
  walked seen = lead_in (numbers ns) (runnable core ps ms p seen)

  pub walk_none : ◌≡◌ {A = Lead} (record { top = 0; first = 255 }) (walked [])
  unfolding runnable keep level_of any first
  walk_none = refl

  pub walk_past : (seen : List ℕ) (t : ℕ) (x : Lead) → may_run (get_or ps t 0) (get_or ms t 0) p core ≡ false → x ≡ walked seen → x ≡ walked (seen ++ (t ∷ []))
  walk_past seen t x e f = f ∙ ap (lead_in (numbers ns)) (sym (runnable_out core ps ms p seen t e))

  pub walk_here : (seen : List ℕ) (t : ℕ) (x y : Lead) → may_run (get_or ps t 0) (get_or ms t 0) p core ≡ true → x ≡ walked seen
      → y ≡ raised_by x (get_or ns t 0) t → y ≡ walked (seen ++ (t ∷ []))
  walk_here seen t x y e f g =
      g ∙ ap (λ (z : Lead). raised_by z (get_or ns t 0) t) f ∙ sym (lead_more (numbers ns) (runnable core ps ms p seen) t)
      ∙ ap (lead_in (numbers ns)) (sym (runnable_in core ps ms p seen t e))

  -- no later thread is above the number that is reached
  pub walk_stop : (seen rest : List ℕ) (c : ℕ) (x : Lead) → x ≡ walked seen → x.top ≡ c → level_of (numbers ns) (runnable core ps ms p (seen ++ rest)) ≤ c
      → x ≡ walked (seen ++ rest)
  walk_stop seen rest c x e f low =
      let split : runnable core ps ms p (seen ++ rest) ≡ runnable core ps ms p seen ++ runnable core ps ms p rest = runnable_join core ps ms p seen rest in
      let top : level_of (numbers ns) (runnable core ps ms p seen) ≡ c = sym (ap (λ (z : Lead). z.top) e) ∙ f in
      e ∙ sym (ap (lead_in (numbers ns)) split ∙ lead_stop (numbers ns) (runnable core ps ms p seen) (runnable core ps ms p rest) (rw (top, ← split) low))

-- what is seen next is a thread's number
pub next_inside : (ps q : List ℕ) (queued core : ℕ) → Lined ps q queued core → (seen left rest : List ℕ) (t : ℕ) → seen ++ left ≡ take queued q → left ≡ t ∷ rest
    → t < 64
next_inside ps q queued core h seen left rest t e f =
    let g : seen ++ (t ∷ rest) ≡ take queued q = ap (λ (l : List ℕ). seen ++ l) (sym f) ∙ e in
    let n : length seen < queued = omega (arith, ap length g, length-append seen (t ∷ rest), length-take queued q) in
    let s : get_or q (length seen) 0 ≡ t =
    sym (get_or-take queued q (length seen) 0 n) ∙ ap (λ (l : List ℕ). get_or l (length seen) 0) (sym g) ∙ get_or-append_seam seen t rest 0 in
    subst (λ (x : ℕ). x < 64) s (h.entries (length seen) n)

-- ---- a thread left

-- they depend on the numbers of the queued threads alone
pub kept_as : (core : ℕ) (ps ns ms ps₀ ns₀ ms₀ line tops firsts : List ℕ) (set₀ : ℕ)
    → ((u : ℕ) → member u line ≡ true → (get_or ps u 0 ≡ get_or ps₀ u 0) × (get_or ns u 0 ≡ get_or ns₀ u 0) × (get_or ms u 0 ≡ get_or ms₀ u 0))
    → KeptIn core ps₀ ns₀ ms₀ line tops firsts set₀ → KeptIn core ps ns ms line tops firsts set₀
unfolding runnable
kept_as core ps ns ms ps₀ ns₀ ms₀ line tops firsts set₀ same k = record { wide = k.wide; long = k.long; right = right }
  where
    right : (q : ℕ) → q < 16 → RightAt core ps ns ms line tops firsts set₀ q
    right q b =
        let l = runnable core ps₀ ms₀ q line in
        let e : runnable core ps ms q line ≡ l =
        keep_same (mine core ps ms q) (mine core ps₀ ms₀ q) line (λ u m. ap₂ (λ (x y : ℕ). may_run x y q core) (same u m).0 (same u m).2) in
        let f : lead_in (numbers ns) l ≡ lead_in (numbers ns₀) l =
        lead_same (numbers ns) (numbers ns₀) l (λ u m. (same u (both (member u line) (mine core ps₀ ms₀ q u) (sym (member_keep (mine core ps₀ ms₀ q) line u) ∙ m)).0).1) in
        right_as (numbers ns₀) (numbers ns) l (runnable core ps ms q line) tops firsts set₀ q (ap (lead_in (numbers ns)) e ∙ f) (ap any_of e) (k.right q b)

-- what the line says after a thread left it, whatever became of the thread's own numbers
module _ (core : ℕ) (ps ns ms ps₀ ns₀ ms₀ : List ℕ) (t : ℕ) (same : (u : ℕ) → u ≢ t → (get_or ps u 0 ≡ get_or ps₀ u 0) × (get_or ns u 0 ≡ get_or ns₀ u 0) × (get_or ms u 0 ≡ get_or ms₀ u 0)) where
  runnable_left : (q : ℕ) (line : List ℕ) → runnable core ps ms q (leaves line t) ≡ leaves (runnable core ps₀ ms₀ q line) t
  unfolding runnable leaves
  runnable_left q line =
      keep_both (λ u. not (eqb u t)) (mine core ps ms q) (λ u. not (eqb u t) && mine core ps ms q u) (λ u. refl) line
      ∙ sym (keep_both (mine core ps₀ ms₀ q) (λ u. not (eqb u t)) (λ u. not (eqb u t) && mine core ps ms q u) (λ u. at u (ℕ_discrete u t)) line)
    where
      at : (u : ℕ) → Dec (u ≡ t) → (not (eqb u t) && mine core ps ms q u) ≡ (mine core ps₀ ms₀ q u && not (eqb u t))
      at u (yes e) = rw (eq-eqb u t e) (sym (and-false (mine core ps₀ ms₀ q u)))
      at u (no n) =
          let (a, b, c) = same u n in
          rw (ne_eqb u t n) (ap₂ (λ (x y : ℕ). may_run x y q core) a c ∙ sym (and-true (mine core ps₀ ms₀ q u)))

  lead_as : (l : List ℕ) → lead_in (numbers ns) (leaves l t) ≡ lead_in (numbers ns₀) (leaves l t)
  unfolding leaves
  lead_as l = lead_same (numbers ns) (numbers ns₀) (leaves l t) (λ u m. at u m)
    where
      at : (u : ℕ) → member u (keep (λ v. not (eqb v t)) l) ≡ true → get_or ns u 0 ≡ get_or ns₀ u 0
      at u m =
          let (a, b) = both (member u l) (not (eqb u t)) (sym (member_keep (λ v. not (eqb v t)) l u) ∙ m) in
          (same u (eqb-false u t (not-true (eqb u t) b))).1

  not_of : (q : ℕ) (line : List ℕ) → get_or ps₀ t 0 ≢ q → leaves (runnable core ps₀ ms₀ q line) t ≡ runnable core ps₀ ms₀ q line
  not_of q line n = outside_left core ps₀ ms₀ q line t (ap (λ (z : Bool). z && allows (get_or ms₀ t 0) core) (ne_eqb (get_or ps₀ t 0) q n))

  pub left_kept : (line tops firsts : List ℕ) (set₀ : ℕ) → get_or ps₀ t 0 < 16 → KeptIn core ps₀ ns₀ ms₀ line tops firsts set₀
      → Left core ps ns ms (leaves line t) tops firsts set₀ (get_or ps₀ t 0) t
  left_kept line tops firsts set₀ low k = record {
    wide = k.wide;
    long = k.long;
    others = λ q b n.
        let e : lead_in (numbers ns) (runnable core ps ms q (leaves line t)) ≡ lead_in (numbers ns₀) (runnable core ps₀ ms₀ q line) =
        ap (lead_in (numbers ns)) (runnable_left q line) ∙ lead_as (runnable core ps₀ ms₀ q line) ∙ ap (lead_in (numbers ns₀)) (not_of q line (λ w. n (sym w))) in
        let f : any_of (runnable core ps ms q (leaves line t)) ≡ any_of (runnable core ps₀ ms₀ q line) =
        ap any_of (runnable_left q line ∙ not_of q line (λ w. n (sym w))) in
        right_as (numbers ns₀) (numbers ns) (runnable core ps₀ ms₀ q line) (runnable core ps ms q (leaves line t)) tops firsts set₀ q e f (k.right q b);
    same = λ n.
        let l = runnable core ps₀ ms₀ p line in
        let (e, f) = lead_left (numbers ns₀) l t (λ w. n ((k.right p low).thread ∙ w)) in
        right_as (numbers ns₀) (numbers ns) l (runnable core ps ms p (leaves line t)) tops firsts set₀ p
        (ap (lead_in (numbers ns)) (runnable_left p line) ∙ lead_as l ∙ e) (ap any_of (runnable_left p line) ∙ f) (k.right p low);
    below =
        let l = runnable core ps₀ ms₀ p line in
        let e : level_of (numbers ns) (runnable core ps ms p (leaves line t)) ≡ level_of (numbers ns₀) (leaves l t) =
        ap (λ (x : Lead). x.top) (ap (lead_in (numbers ns)) (runnable_left p line) ∙ lead_as l) in
        rw (e, (k.right p low).top) (level_left (numbers ns₀) l t);
  }
    where
      p : ℕ
      p = get_or ps₀ t 0

-- what the line says after a thread went to its tail
module _ (core : ℕ) (ps ns ms line tops firsts : List ℕ) (set₀ t : ℕ) (queued : member t line ≡ true) where
  abbrev home : ℕ
  home = get_or ps t 0

  left_first : home < 16 → KeptIn core ps ns ms line tops firsts set₀ → Left core ps ns ms (leaves line t) tops firsts set₀ home t
  left_first low k = left_kept core ps ns ms ps ns ms t (λ u n. (refl, refl, refl)) line tops firsts set₀ low k

  queued_here : mine core ps ms home t ≡ true → member t (runnable core ps ms home line) ≡ true
  unfolding runnable
  queued_here e = member_keep (mine core ps ms home) line t ∙ rw (queued, e)

  pub tail_kept : home < 16 → KeptIn core ps ns ms line tops firsts set₀ → Left core ps ns ms (to_tail line t) tops firsts set₀ home t
  tail_kept low k = record {
    wide = k.wide;
    long = k.long;
    others = λ q b n. unmoved core ps ns ms tops firsts set₀ t (leaves line t) q (not_mine core ps ns ms tops firsts set₀ t q (λ e. n (sym e))) ((left_first low k).others q b n);
    same = λ n. own (mine core ps ms home t) refl n;
    below = high (mine core ps ms home t) refl;
  }
    where
      l : List ℕ
      l = runnable core ps ms home line

      -- where the core may run it, it goes to the tail of its partition's threads
      moved : mine core ps ms home t ≡ true → runnable core ps ms home (to_tail line t) ≡ to_tail l t
      moved e =
          runnable_in core ps ms home (leaves line t) t e
          ∙ ap (λ (x : List ℕ). x ++ (t ∷ [])) (runnable_left core ps ns ms ps ns ms t (λ u n. (refl, refl, refl)) home line)

      own : (z : Bool) → mine core ps ms home t ≡ z → get_or firsts home 0 ≢ t → RightAt core ps ns ms (to_tail line t) tops firsts set₀ home
      own false e n = unmoved core ps ns ms tops firsts set₀ t (leaves line t) home e ((left_first low k).same n)
      own true e n =
          let (x, y) = lead_tail (numbers ns) l t (queued_here e) (λ w. n ((k.right home low).thread ∙ w)) in
          right_as (numbers ns) (numbers ns) l (runnable core ps ms home (to_tail line t)) tops firsts set₀ home
          (ap (lead_in (numbers ns)) (moved e) ∙ x) (ap any_of (moved e) ∙ y) (k.right home low)

      high : (z : Bool) → mine core ps ms home t ≡ z → level_of (numbers ns) (runnable core ps ms home (to_tail line t)) ≤ get_or tops home 0
      high false e = rw (runnable_out core ps ms home (leaves line t) t e) (left_first low k).below
      high true e = rw (moved e, (k.right home low).top) (level_tail (numbers ns) l t (queued_here e))

-- ---- a priority changed

-- what a partition may run, after it
module _ (core : ℕ) (ps ms line : List ℕ) (t q m n : ℕ) where
  abbrev of_q : List ℕ
  of_q = runnable core ps ms q line

  gone : runnable core ps ms q (leaves line t) ≡ leaves of_q t
  gone = runnable_left core ps [] ms ps [] ms t (λ u d. (refl, refl, refl)) q line

  -- the thread goes to the tail or to the head of these too
  requeued_in : mine core ps ms q t ≡ true → runnable core ps ms q (requeued true m n t line) ≡ requeued true m n t of_q
  unfolding requeued
  requeued_in e = go (ltb m n) (ltb n m)
    where
      head : runnable core ps ms q (to_head line t) ≡ t ∷ runnable core ps ms q (leaves line t)
      head = runnable_head core ps ms q (leaves line t) t ∙ ap (λ (z : Bool). cons_if z t (runnable core ps ms q (leaves line t))) e

      go : (x y : Bool) → runnable core ps ms q (cond x (to_tail line t) (cond y (to_head line t) line)) ≡ cond x (to_tail of_q t) (cond y (to_head of_q t) of_q)
      go true y = runnable_in core ps ms q (leaves line t) t e ∙ ap (λ (l : List ℕ). l ++ (t ∷ [])) gone
      go false true = head ∙ ap (λ (l : List ℕ). t ∷ l) gone
      go false false = refl

  -- or it is none of them
  requeued_out : mine core ps ms q t ≡ false → runnable core ps ms q (requeued true m n t line) ≡ of_q
  unfolding requeued
  requeued_out e = go (ltb m n) (ltb n m)
    where
      rest : runnable core ps ms q (leaves line t) ≡ of_q
      rest = gone ∙ outside_left core ps ms q line t e

      head : runnable core ps ms q (to_head line t) ≡ runnable core ps ms q (leaves line t)
      head = runnable_head core ps ms q (leaves line t) t ∙ ap (λ (z : Bool). cons_if z t (runnable core ps ms q (leaves line t))) e

      go : (x y : Bool) → runnable core ps ms q (cond x (to_tail line t) (cond y (to_head line t) line)) ≡ of_q
      go true y = runnable_out core ps ms q (leaves line t) t e ∙ rest
      go false true = head ∙ rest
      go false false = refl

module _ (core : ℕ) (ps ns ms line tops firsts : List ℕ) (set₀ t : ℕ) (h : Changed core ps ns ms line tops firsts set₀ t) where
  abbrev p : ℕ
  p = get_or ps t 0

  abbrev l : List ℕ
  l = runnable core ps ms p h.old_line

  abbrev f : ℕ → ℕ
  f = numbers ns

  abbrev g : ℕ → ℕ
  g = numbers h.old

  was : Right g l tops firsts set₀ p
  was = h.kept.right p h.partition

  -- where the thread is none of them
  unchanged : (q : ℕ) → q < 16 → mine core ps ms q t ≡ false → RightAt core ps ns ms line tops firsts set₀ q
  unchanged q b e =
      let k = runnable core ps ms q h.old_line in
      let as_was : runnable core ps ms q line ≡ k = ap (runnable core ps ms q) h.moved ∙ requeued_out core ps ms h.old_line t q (g t) (f t) e in
      right_as g f k (runnable core ps ms q line) tops firsts set₀ q
      (ap (lead_in f) as_was ∙ lead_same f g k (λ u m. h.others u (λ w. clash m (subst (λ (v : ℕ). member v k ≡ false) (sym w) (outside core ps ms q h.old_line t e))))) (ap any_of as_was) (h.kept.right q b)

  other : (q : ℕ) → q < 16 → q ≢ p → RightAt core ps ns ms line tops firsts set₀ q
  other q b n = unchanged q b (not_mine core ps ns ms tops firsts set₀ t q (λ e. n (sym e)))

  pub change_none : allows (get_or ms t 0) core ≡ false → KeptIn core ps ns ms line tops firsts set₀
  change_none e = record {
    wide = h.kept.wide;
    long = h.kept.long;
    right = λ q b. unchanged q b (ap (λ (z : Bool). eqb (get_or ps t 0) q && z) e ∙ and-false (eqb (get_or ps t 0) q));
  }

  module _ (ok : allows (get_or ms t 0) core ≡ true) where
    mine_own : mine core ps ms p t ≡ true
    mine_own = rw (eq-eqb p p refl, ok)

    there : member t l ≡ true
    unfolding runnable
    there = member_keep (mine core ps ms p) h.old_line t ∙ rw (h.queued, mine_own)

    now_is : runnable core ps ms p line ≡ requeued true (g t) (f t) t l
    now_is = ap (runnable core ps ms p) h.moved ∙ requeued_in core ps ms h.old_line t p (g t) (f t) mine_own

    any_is : any_of (runnable core ps ms p line) ≡ any_of l
    any_is = ap any_of now_is ∙ changed_any f g l t there h.others

    -- the lead stays
    stays : lead_in f (requeued true (g t) (f t) t l) ≡ lead_in g l → KeptIn core ps ns ms line tops firsts set₀
    stays e = record { wide = h.kept.wide; long = h.kept.long; right = λ q b. at q b (ℕ_discrete q p) }
      where
        at : (q : ℕ) → q < 16 → Dec (q ≡ p) → RightAt core ps ns ms line tops firsts set₀ q
        at q b (yes w) =
            subst (λ (j : ℕ). RightAt core ps ns ms line tops firsts set₀ j) (sym w)
            (right_as g f l (runnable core ps ms p line) tops firsts set₀ p (ap (lead_in f) now_is ∙ e) any_is was)
        at q b (no n) = other q b n

    -- it leads
    pub change_up : get_or tops p 0 < get_or ns t 0 + 1 → KeptIn core ps ns ms line (set tops p (get_or ns t 0 + 1)) (set firsts p t) set₀
    change_up up = record {
      wide = length-set tops p (get_or ns t 0 + 1) ∙ h.kept.wide;
      long = length-set firsts p t ∙ h.kept.long;
      right = λ q b. at q b (ℕ_discrete q p);
    }
      where
        new : ◌≡◌ {A = Lead} (record { top = get_or ns t 0 + 1; first = t }) (lead_in f (runnable core ps ms p line))
        new = sym (ap (lead_in f) now_is ∙ changed_above f g l t there h.others (omega (arith, up, was.top)))

        at : (q : ℕ) → q < 16 → Dec (q ≡ p) → RightAt core ps ns ms line (set tops p (get_or ns t 0 + 1)) (set firsts p t) set₀ q
        at q b (yes e) =
            subst (λ (j : ℕ). RightAt core ps ns ms line (set tops p (get_or ns t 0 + 1)) (set firsts p t) set₀ j) (sym e)
            (right_here f (runnable core ps ms p line) tops firsts set₀ p (get_or ns t 0 + 1) t h.kept.wide h.kept.long h.partition new
            (was.competes ∙ sym any_is))
        at q b (no n) = right_other f (runnable core ps ms q line) tops firsts set₀ p (get_or ns t 0 + 1) t set₀ q n refl (other q b n)

    -- it was not the first, and is not above it
    pub change_other : get_or ns t 0 + 1 ≤ get_or tops p 0 → get_or firsts p 0 ≢ t → KeptIn core ps ns ms line tops firsts set₀
    change_other low n = stays (changed_other f g l t there h.others (λ e. n (was.thread ∙ e)) (omega (arith, low, was.top)))

    -- it was the first, and has the priority that it had
    pub change_same : get_or firsts p 0 ≡ t → get_or ns t 0 + 1 ≡ get_or tops p 0 → KeptIn core ps ns ms line tops firsts set₀
    change_same e s = stays (changed_first f g l t there h.others (sym was.thread ∙ e) (s ∙ was.top))

    -- otherwise its partition is to be walked anew
    pub change_stale : get_or ns t 0 + 1 ≤ get_or tops p 0 → (stale : ℕ) → Only 16 p stale → Stale core ps ns ms line tops firsts set₀ stale
    change_stale low stale o = record {
      wide = h.kept.wide;
      long = h.kept.long;
      right = λ q b z. other q b (λ e. clash (o q b ∙ eq-eqb q p e) z);
      below = λ q b z.
          subst (λ (j : ℕ). level_of f (runnable core ps ms j line) ≤ get_or tops j 0) (sym (eqb-true q p (sym (o q b) ∙ z)))
          (rw (now_is, was.top) (changed_level f g l t there h.others (omega (arith, low, was.top))));
    }
