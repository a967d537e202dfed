-- A ledger that goes on from given periods is what became of these and what was charged, added up period by period.
use mathlib.Core.Path.{◌≡◌, refl, ap, ◌∙◌}
use Prim.Native.Nat.{ℕ, zero, suc, ◌+◌, ◌<◌}
use mathlib.Core.Bool.{Bool, true, false, not, cond}
use mathlib.Core.List.{List, [], ◌∷◌}
use lib.ListN.{length, take}
use lib.Dec.{eqb}
use native.Mathlib.Omega.{arith}
use native.Mathlib.Nat.{not-suc-le-zero}
use Rattle.lists.specs.Lists.{sum}
use Rattle.model.specs.Event
use Rattle.model.specs.Event.{kind_of}
use Rattle.model.specs.Run.{Entry}
use Rattle.guarantee.specs.Demand3.{accepted, Last, last_of, charge_of}
use Rattle.guarantee.specs.Ledger.{add_first, ledger, held_after, HeldAndCharged}

-- charges zs and given periods ks
abbrev plus : List ℕ → List ℕ → List ℕ
plus [] ks = ks
plus (z ∷ zs) [] = z ∷ zs
plus (z ∷ zs) (k ∷ ks) = (k + z) ∷ plus zs ks

add_plus : (x : ℕ) (zs ks : List ℕ) → 0 < length zs → add_first x (plus zs ks) ≡ plus (add_first x zs) ks
add_plus x [] ks h = absurd (not-suc-le-zero h)
add_plus x (z ∷ zs) [] h = refl
add_plus x (z ∷ zs) (k ∷ ks) h = let e : k + z + x ≡ k + (z + x) = omega arith in ap (λ (n : ℕ). n ∷ plus zs ks) e

sum_plus : (w : ℕ) (zs ks : List ℕ) → sum (take w (plus zs ks)) ≡ sum (take w ks) + sum (take w zs)
sum_plus zero zs ks = refl
sum_plus (suc w) [] ks = omega arith
sum_plus (suc w) (z ∷ zs) [] = omega arith
sum_plus (suc w) (z ∷ zs) (k ∷ ks) = omega (arith, sum_plus w zs ks)

longer : (x : ℕ) (zs : List ℕ) → 0 < length zs → 0 < length (add_first x zs)
longer x [] h = h
longer x (z ∷ zs) h = h

ledger_plus : (p : ℕ) (es : List Entry) (l : Last) (zs ks : List ℕ) → 0 < length zs
    → ledger p l (plus zs ks) es ≡ plus (ledger p l zs es) (held_after ks es)
unfolding ledger held_after
ledger_plus p [] l zs ks h = refl
ledger_plus p (e ∷ es) l zs ks h =
    go (accepted e) (eqb (kind_of e.event) Event.resume) (eqb (kind_of e.event) Event.tick) (λ k a b. ledger_plus p es k a b)
  where
    x : ℕ
    x = charge_of p l e

    new : Last
    new = last_of e

    added : add_first x (plus zs ks) ≡ plus (add_first x zs) ks
    added = add_plus x zs ks h

    go : (z y t : Bool)
        → ((k : Last) (a b : List ℕ) → 0 < length a → ledger p k (plus a b) es ≡ plus (ledger p k a es) (held_after b es))
        → cond (not z) (ledger p l (plus zs ks) es)
        (cond y (ledger p new (0 ∷ []) es) (cond t (ledger p new (0 ∷ add_first x (plus zs ks)) es) (ledger p new (add_first x (plus zs ks)) es)))
        ≡ plus
        (cond (not z) (ledger p l zs es)
        (cond y (ledger p new (0 ∷ []) es) (cond t (ledger p new (0 ∷ add_first x zs) es) (ledger p new (add_first x zs) es))))
        (cond (not z) (held_after ks es) (cond y (held_after [] es) (cond t (held_after (0 ∷ ks) es) (held_after ks es))))
    go false y t ih = ih l zs ks h
    go true true t ih = ih new (0 ∷ []) [] (omega arith)
    go true false true ih =
        ap (λ (a : List ℕ). ledger p new (0 ∷ a) es) added ∙ ih new (0 ∷ add_first x zs) (0 ∷ ks) (omega arith)
    go true false false ih = ap (λ (a : List ℕ). ledger p new a es) added ∙ ih new (add_first x zs) ks (longer x zs h)

pub held_and_charged : HeldAndCharged
held_and_charged w p l [] h es = absurd (not-suc-le-zero h)
held_and_charged w p l (y ∷ ys) h es =
    let same : y ≡ y + 0 = omega arith in
    ap (λ (n : ℕ). sum (take w (ledger p l (n ∷ ys) es))) same
    ∙ ap (λ (a : List ℕ). sum (take w a)) (ledger_plus p es l (0 ∷ []) (y ∷ ys) (omega arith))
    ∙ sum_plus w (ledger p l (0 ∷ []) es) (held_after (y ∷ ys) es)
