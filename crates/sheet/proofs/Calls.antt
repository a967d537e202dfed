-- A list that calls of a closure made, one for each index.
use mathlib.Core.Path.{◌≡◌, sym, ap, ◌∙◌}
use mathlib.Core.List.{List, map}
use Prim.Native.Nat.{ℕ, zero, suc, ◌+◌, ◌≤◌, ◌<◌}
use native.Mathlib.Omega.{arith}
use native.Mathlib.Decide.{ℕ_discrete}
use lib.ListN.{get_or}
use lib.Seq.{ext_get_or}
use denote.Param.Members.{Mut, Called}
use Rattle.std.specs.Array.{IsFromFnResultFrom, IsFromFnResult}
use Rattle.lists.specs.Lists.{below}
use Rattle.lists.proofs.Tables.{table_length, table_at}

-- each call gives h of its index, and what the closure has captured stays as S says
module _ {F B : Type 0} (g : Mut F (ℕ × Unit {0}) B) (S : F → Type 0) (h : ℕ → B)
    (each : (s t : F) (k : ℕ) (y : B) → S s → Called g s (k, tt) y t → (y ≡ h k) × S t) where
  made_at : (n i : ℕ) (f : F) (ys : List B) → S f → IsFromFnResultFrom g f ys i n → (k : ℕ) (d : B) → i ≤ k → k < i + n → get_or ys k d ≡ h k
  made_at zero i f ys s m k d a b = let z : ⊥ = omega arith in absurd z
  made_at (suc n) i f ys s (q, y, at, call, rest) k d a b =
      let e = each f q i y s call in
      go (ℕ_discrete k i) (λ w. made_at n (i + 1) q ys e.1 rest k d w (omega arith)) e.0
    where
      go : Dec (k ≡ i) → (i + 1 ≤ k → get_or ys k d ≡ h k) → y ≡ h i → get_or ys k d ≡ h k
      go (yes w) ih e = ap (λ (j : ℕ). get_or ys j d) w ∙ at.1 d ∙ e ∙ ap h (sym w)
      go (no w) ih e = ih (omega arith)

  -- then the list is the table of h
  pub made_table : (n : ℕ) (f : F) (ys : List B) → S f → IsFromFnResult g f ys n → ys ≡ map h (below n)
  made_table n f ys s m =
      ext_get_or (h 0) ys (map h (below n)) (m.long ∙ sym (table_length h n))
      (λ i b. let room : i < n = omega (arith, m.long, b) in made_at n 0 f ys s m.each i (h 0) (omega arith) (omega arith) ∙ sym (table_at h n i (h 0) room))
