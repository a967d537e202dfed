-- Laws of the ready queue by itself.
use mathlib.Core.Logic.{◌≢◌}
use mathlib.Core.Path.{◌≡◌, refl, sym, ap, ◌∙◌}
use mathlib.Core.Bool.{true, false, not, or-false}
use mathlib.Core.List.{List, [], ◌∷◌, ◌++◌, append_assoc, append-nil}
use Prim.Native.Nat.{ℕ, zero, suc, ◌+◌, ◌-◌, ◌<◌, ◌≤◌}
use native.Mathlib.Numerals.{add-one}
use native.Mathlib.Omega.{arith}
use native.Mathlib.Decide.{dec_le}
use native.Mathlib.Nat.{not-suc-le-zero}
use lib.Dec.{eqb}
use borrow.Author.Tests.{eq-eqb, ne_eqb, eqb-false, not-true}
use lib.ListN.{length, get_or, take, drop, set, replicate, length-append, length-take, length-drop, length-replicate, take-append-drop, get_or-append}
use lib.Seq.{length-take-le, take-suc, take_all, drop-length, drop-cons, append_snoc, set_at, take_at, drop_at, drop-drop, take-append-add, take-append_seam, get_or-append-add, get_or-drop, take-append-le, drop-append-le, get_or-take}
use Rattle.std.specs.List.{copy_within}
use Rattle.lists.specs.Lists.{any, member, keep, distinct}
use Rattle.lists.proofs.Tests.{both, neither, clash}
use Rattle.lists.proofs.All.{without_none}
use Rattle.lists.proofs.Loops.{any_take, member_here}
use Rattle.lists.proofs.Tables.{zeros_after}
use Rattle.model.specs.Step.{leaves, to_tail, to_head}
use Rattle.model.specs.Facts.{Stored}
use Rattle.threads.specs.Entries.{Queue, queue_in, queue_from, QueueStored, FirstAt, without, removed}

abbrev zeros : ℕ → List ℕ
zeros n = replicate n 0

pub queue_eq : {a b : List ℕ} {m n : ℕ} → a ≡ b → m ≡ n → queue_in a m ≡ queue_in b n
queue_eq p q = λ i. queue_in (p i) (q i)

-- a queue with zeros after its threads is stored
pub queue_stored : (es : List ℕ) (n : ℕ) → length es ≡ 64 → Stored es n → QueueStored es n
unfolding queue_from
queue_stored es n h s = queue_eq (zeros_after es n 64 h s.few s.zeros) (sym (length-take-le n es (omega (arith, h, s.few))))

-- what is stored of a list
first_of : (es : List ℕ) (n : ℕ) (l : List ℕ) → queue_in es n ≡ queue_from l → take n es ≡ l
unfolding queue_from
first_of es n l e =
    ap (λ (k : ℕ). take k es) (ap (λ (x : Queue). x.length) e)
    ∙ ap (take (length l)) (ap (λ (x : Queue). x.entries) e) ∙ take-append_seam l (zeros (64 - length l))

stored_of : (es : List ℕ) (n : ℕ) (l : List ℕ) → queue_in es n ≡ queue_from l → QueueStored es n
stored_of es n l e = e ∙ sym (ap queue_from (first_of es n l e))

zeros_open : (n : ℕ) → n < 64 → zeros (64 - n) ≡ 0 ∷ zeros (64 - (n + 1))
zeros_open n h =
    let e : 64 - n ≡ suc (64 - (n + 1)) = omega arith in
    rw e

module _ (es : List ℕ) (n : ℕ) (s : QueueStored es n) where
  pub counted : length (take n es) ≡ n
  unfolding queue_from
  counted = sym (ap (λ (k : Queue). k.length) s)

  whole : es ≡ take n es ++ zeros (64 - n)
  unfolding queue_from
  whole = ap (λ (k : Queue). k.entries) s ∙ rw counted

  pub sixty_four : n ≤ 64 → length es ≡ 64
  sixty_four h = ap length whole ∙ simp (length-append, length-replicate) (omega (arith, counted))

  -- one more at the tail
  pub appended : (t : ℕ) → n < 64 → queue_in (set es n t) (n + 1) ≡ queue_from (take n es ++ (t ∷ []))
  unfolding queue_from
  appended t h =
      let ts = take n es in
      let rest = zeros (64 - (n + 1)) in
      let long : length (ts ++ (t ∷ [])) ≡ n + 1 = length-append ts (t ∷ []) ∙ omega (arith, counted) in
      let open-es : es ≡ ts ++ 0 ∷ rest = whole ∙ ap (λ x. ts ++ x) (zeros_open n h) in
      queue_eq (ap (λ x. set x n t) open-es ∙ set_at ts 0 rest t n counted ∙ sym (append_snoc ts t rest) ∙ rw long) (sym long)

-- ---- entries that move up

-- each entry but the first moves up, and the last one stands twice
closed_up : (m : List ℕ) → 0 < length m → copy_within m 1 (length m) 0 ≡ drop 1 m ++ (get_or m (length m - 1) 0 ∷ [])
closed_up m h =
    let u : suc (length m - 1) ≡ length m = omega arith in
    let e : take (length m - 1) (drop 1 m) ≡ drop 1 m = take_all (length m - 1) (drop 1 m) (rw (length-drop 1 m) (omega arith)) in
    let d : drop (0 + (length m - 1)) m ≡ get_or m (length m - 1) 0 ∷ [] =
    ap (λ (i : ℕ). drop i m) (omega arith) ∙ drop-cons m (length m - 1) 0 (omega arith)
    ∙ ap (λ (r : List ℕ). get_or m (length m - 1) 0 ∷ r) (ap (λ (i : ℕ). drop i m) u ∙ drop-length m) in
    rw (e, d)

-- the entries from a place to the last of n are replaced by others, and a zero is stored where the last one stood
abbrev pub closed_by : List ℕ → ℕ → ℕ → List ℕ → List ℕ
closed_by l n at x = set (take at l ++ (x ++ drop (n - at) (drop at l))) (n - 1) 0

-- the place is left out, and those behind it move up
pub moved_up : (l : List ℕ) (n at : ℕ) → at < n → n ≤ length l
    → closed_by l n at (copy_within (take (n - at) (drop at l)) 1 (length (take (n - at) (drop at l))) 0) ≡ removed l n at
unfolding removed
moved_up l n at h k =
    let left = take at l in
    let m = take (n - at) (drop at l) in
    let y = get_or m (length m - 1) 0 in
    let j = n - (at + 1) in
    let b = take j (drop (at + 1) l) in
    let u : n - at ≡ suc j = omega arith in
    let from : drop at l ≡ get_or l at 0 ∷ drop (at + 1) l = rw add-one (drop-cons l at 0 (omega arith)) in
    let parts : m ≡ get_or l at 0 ∷ b = ap (λ (i : ℕ). take i (drop at l)) u ∙ ap (take (suc j)) from in
    let some : 0 < length m = rw parts (omega arith) in
    let r : drop (n - at) (drop at l) ≡ drop n l = drop-drop (n - at) at l ∙ ap (λ (i : ℕ). drop i l) (omega arith) in
    let p : length left ≡ at = length-take-le at l (omega arith) in
    let f : length (left ++ b) ≡ n - 1 = simp (length-append, length-take, length-drop) (omega arith) in
    let e : n - 1 ≡ length left + j = omega (arith, p) in
    let t : take (n - 1) (without l at) ≡ left ++ b = ap (λ (i : ℕ). take i (without l at)) e ∙ take-append-add left (drop (at + 1) l) j in
    ap (closed_by l n at) (closed_up m some ∙ ap (λ (x : List ℕ). drop 1 x ++ (y ∷ [])) parts)
    ∙ ap (λ (x : List ℕ). set (left ++ (b ++ (y ∷ []) ++ x)) (n - 1) 0) r
    ∙ ap (λ (x : List ℕ). set (left ++ x) (n - 1) 0) (append_snoc b y (drop n l))
    ∙ ap (λ (x : List ℕ). set x (n - 1) 0) (sym (append_assoc left b (y ∷ drop n l)))
    ∙ set_at (left ++ b) y (drop n l) 0 (n - 1) f
    ∙ ap (λ (x : List ℕ). x ++ 0 ∷ drop n l) (sym t)

long : (l : List ℕ) (at : ℕ) → at < length l → length (without l at) + 1 ≡ length l
long l at h = simp (length-append, length-take, length-drop) (omega arith)

-- ---- leaving

-- in a list without repeats, a place that holds t is the first one
first_here : (l : List ℕ) (t i : ℕ) → distinct l ≡ true → i < length l → t ≡ get_or l i 0 → member t (take i l) ≡ false
unfolding distinct any
first_here [] t i d h e = absurd (not-suc-le-zero h)
first_here (x ∷ l) t zero d h e = refl
first_here (x ∷ l) t (suc i) d h e =
    let parts : (not (member x l) ≡ true) × (distinct l ≡ true) = both (not (member x l)) (distinct l) d in
    let mine : member t l ≡ true = rw (take_all (length l) l (omega arith)) at (member_here l t i (length l) (omega arith) (omega arith) e) in
    let other : eqb t x ≡ false = ne_eqb t x (λ q. clash mine (rw q (not-true (member x l) parts.0))) in
    rw other (first_here l t i parts.1 (omega arith) e)

pub first_at : (es : List ℕ) (n t i : ℕ) → n ≤ length es → distinct (take n es) ≡ true → i < n → t ≡ get_or es i 0 → FirstAt (take n es) t i
first_at es n t i few once h e =
    let c : length (take n es) ≡ n = length-take-le n es few in
    let there : t ≡ get_or (take n es) i 0 = e ∙ sym (get_or-take n es i 0 h) in
    record { inside = omega (arith, c); none_before = first_here (take n es) t i once (omega (arith, c)) there; here = λ z. there }

-- a list without repeats, without what stands at a place
leaves_at : (l : List ℕ) (t i : ℕ) → distinct l ≡ true → member t (take i l) ≡ false → i < length l → t ≡ get_or l i 0 → leaves l t ≡ take i l ++ drop (suc i) l
unfolding leaves keep distinct any
leaves_at [] t i d m h e = absurd (not-suc-le-zero h)
leaves_at (x ∷ l) t zero d m h e =
    let out : member t l ≡ false = rw e (not-true (member x l) (both (not (member x l)) (distinct l) d).0) in
    rw (eq-eqb x t (sym e)) (without_none l t out)
leaves_at (x ∷ l) t (suc i) d m h e =
    let n : (eqb t x ≡ false) × (member t (take i l) ≡ false) = neither (eqb t x) (member t (take i l)) m in
    let ih = leaves_at l t i (both (not (member x l)) (distinct l) d).1 n.1 (omega arith) e in
    rw (ne_eqb x t (λ q. eqb-false t x n.0 (sym q))) (ap (λ (r : List ℕ). x ∷ r) ih)

pub stays : (es : List ℕ) (n t : ℕ) → QueueStored es n → member t (take n es) ≡ false → queue_in es n ≡ queue_from (leaves (take n es) t)
unfolding leaves
stays es n t s out = s ∙ ap queue_from (sym (without_none (take n es) t out))

module _ (es : List ℕ) (n t i : ℕ) (s : QueueStored es n) (f : FirstAt (take n es) t i) where
  -- what is left of the threads, and of what is stored, where the one that was found is left out
  left : i < n → distinct (take n es) ≡ true → leaves (take n es) t ≡ without (take n es) i
  left h once =
      let inside : i < length (take n es) = omega (arith, counted es n s) in
      leaves_at (take n es) t i once f.none_before inside (f.here inside) ∙ rw (← add-one i)

  fewer : i < n → length (without (take n es) i) + 1 ≡ n
  fewer h = let inside : i < length (take n es) = omega (arith, counted es n s) in long (take n es) i inside ∙ counted es n s

  apart : i < n → without es i ≡ without (take n es) i ++ zeros (64 - n)
  apart h =
      let l = take n es in
      let zs = zeros (64 - n) in
      let inside : i < length l = omega (arith, counted es n s) in
      ap (λ x. without x i) (whole es n s)
      ∙ rw (take-append-le i l zs (omega arith), drop-append-le (i + 1) l zs (omega arith)) (sym (append_assoc (take i l) (drop (i + 1) l) zs))

  pub gone : i < n → n ≤ 64 → distinct (take n es) ≡ true → queue_in (removed es n i) (n - 1) ≡ queue_from (leaves (take n es) t)
  unfolding queue_from removed
  gone h few once =
      let l = take n es in
      let zs = zeros (64 - n) in
      let w : length (without l i) ≡ n - 1 = omega (arith, fewer h) in
      let head : take (n - 1) (without es i) ≡ without l i = ap (take (n - 1)) (apart h) ∙ take_at (without l i) zs (n - 1) w in
      let tail : drop n es ≡ zs = ap (drop n) (whole es n s) ∙ drop_at l zs n (counted es n s) in
      let e : n - 1 + 1 ≡ n = omega arith in
      let more : 0 ∷ zs ≡ zeros (64 - (n - 1)) = sym (zeros_open (n - 1) (omega arith) ∙ rw e) in
      rw (left h once) (queue_eq (ap (λ x. x ++ (0 ∷ drop n es)) head ∙ ap (λ x. without l i ++ (0 ∷ x)) tail ∙ ap (λ x. without l i ++ x) more ∙ rw w) (sym w))

  -- taken out, and put at the tail
  pub put_last : i < n → n ≤ 64 → distinct (take n es) ≡ true → queue_in (set (removed es n i) (n - 1) t) n ≡ queue_from (to_tail (take n es) t)
  put_last h few once =
      let left = gone h few once in
      let e : n ≡ n - 1 + 1 = omega arith in
      ap (queue_in (set (removed es n i) (n - 1) t)) e
      ∙ appended (removed es n i) (n - 1) (stored_of (removed es n i) (n - 1) (leaves (take n es) t) left) t (omega arith)
      ∙ ap (λ (l : List ℕ). queue_from (l ++ (t ∷ []))) (first_of (removed es n i) (n - 1) (leaves (take n es) t) left)

  -- at the tail already
  pub last_stays : i + 1 ≡ n → distinct (take n es) ≡ true → queue_in es n ≡ queue_from (to_tail (take n es) t)
  last_stays e once =
      let l = take n es in
      let c : length l ≡ n = counted es n s in
      let inside : i < length l = omega (arith, c) in
      let none : drop (i + 1) l ≡ [] = ap (λ (m : ℕ). drop m l) (e ∙ sym c) ∙ drop-length l in
      let before : leaves l t ≡ take i l = left (omega arith) once ∙ ap (λ x. take i l ++ x) none ∙ append-nil (take i l) in
      let all : take (suc i) l ≡ l = take_all (suc i) l (omega (arith, c)) in
      let same : to_tail l t ≡ l = ap (λ x. x ++ (t ∷ [])) before ∙ ap (λ x. take i l ++ (x ∷ [])) (f.here inside) ∙ sym (take-suc l i 0 inside) ∙ all in
      s ∙ ap queue_from (sym same)

  -- left out, and put at the head
  pub put_first : i < n → distinct (take n es) ≡ true → queue_in (t ∷ without es i) n ≡ queue_from (to_head (take n es) t)
  unfolding queue_from
  put_first h once =
      let w : suc (length (without (take n es) i)) ≡ n = omega (arith, fewer h) in
      rw (left h once) (queue_eq (ap (λ x. t ∷ x) (apart h) ∙ rw w) (sym w))

-- ---- finding

-- one of the first n: there is a first one
pub some_first : (l : List ℕ) (t n : ℕ) → member t (take n l) ≡ true → 0 < n
unfolding any
some_first l t zero m = clash m refl
some_first l t (suc n) m = omega arith

-- one that stands at the tail
pub at_tail : (es : List ℕ) (n t : ℕ) → QueueStored es n → n ≤ 64 → distinct (take n es) ≡ true → member t (take n es) ≡ true → get_or es (n - 1) 0 ≡ t
    → queue_in es n ≡ queue_from (to_tail (take n es) t)
at_tail es n t s few once m e =
    let some = some_first es t n m in
    let full = sixty_four es n s few in
    last_stays es n t (n - 1) s (first_at es n t (n - 1) (omega arith) once (omega arith) (sym e)) (omega arith) once
