-- Clearing rows, one row more.
use mathlib.Core.Path.{◌≡◌, ap₂, ◌∙◌}
use mathlib.Core.List.{List, ◌++◌, append_assoc}
use Prim.Native.Nat.{ℕ, ◌+◌, ◌*◌}
use native.Mathlib.Omega.{arith}
use native.Mathlib.Nat.{suc-mul}
use native.Mathlib.Numerals.{add-one}
use lib.ListN.{take, drop, replicate, length-replicate, replicate-append-replicate}
use lib.Seq.{take_at, drop_at, drop-drop}

abbrev zeros : ℕ → List ℕ
zeros n = replicate n 0

-- p rows of w numbers are cleared, and the next is
pub cleared_more : (w p n : ℕ) (h now row : List ℕ) → n ≡ w → row ≡ zeros w → now ≡ zeros (p * w) ++ drop (p * w) h
    → take (p * w) now ++ (row ++ drop n (drop (p * w) now)) ≡ zeros ((p + 1) * w) ++ drop ((p + 1) * w) h
cleared_more w p n h now row k r e =
    ap₂ (λ (a b : List ℕ). a ++ b) front (ap₂ (λ (a b : List ℕ). a ++ b) r back)
    ∙ rw (← append_assoc (zeros (p * w)) (zeros w) (drop (p * w + w) h), joined, ← next)
  where
    front : take (p * w) now ≡ zeros (p * w)
    front = rw e (take_at (zeros (p * w)) (drop (p * w) h) (p * w) (length-replicate (p * w) 0))

    back : drop n (drop (p * w) now) ≡ drop (p * w + w) h
    back = rw (e, k, drop_at (zeros (p * w)) (drop (p * w) h) (p * w) (length-replicate (p * w) 0)) (drop-drop w (p * w) h)

    joined : zeros (p * w) ++ zeros w ≡ zeros (p * w + w)
    joined = replicate-append-replicate {A = ℕ} (p * w) w 0

    next : (p + 1) * w ≡ p * w + w
    next = rw (add-one, suc-mul p w) (omega arith)
