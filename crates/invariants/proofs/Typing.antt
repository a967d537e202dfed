-- A sound state of the right lengths is typed: its numbers are within their types.
use mathlib.Core.Path.{◌≡◌, refl, ap}
use Prim.Native.Nat.{ℕ, zero, suc, ◌+◌, ◌-◌, ◌^◌, ◌≤◌, ◌<◌}
use mathlib.Core.Bool.{Bool, true}
use mathlib.Core.List.{List, [], ◌∷◌}
use lib.ListN.{length, get_or, drop, get_or-eq_default}
use lib.Seq.{get_or-take, get_or-drop}
use lib.Dec.{eqb, ltb}
use borrow.Author.Tests.{eqb-true, ltb-true, lt-ltb}
use native.Mathlib.Omega.{arith}
use native.Mathlib.Decide.{dec_lt, ℕ_discrete}
use Rattle.lists.specs.Lists.{all}
use Rattle.lists.proofs.Tests.{both}
use Rattle.lists.proofs.All.{member_all}
use Rattle.units.specs.declared.Cycles.{Cycles}
use Rattle.model.specs.State.{thread, queue_of, used, wanted, State}
use Rattle.model.specs.Typed.{Lengths, SettingsTyped, ThreadTyped, Words, Bytes, Typed}
use Rattle.model.specs.Facts.{Settled, Sound}
use Rattle.model.proofs.Bounds.{used_most}

all_get_d : (f : ℕ → Bool) (l : List ℕ) (d : ℕ) → f d ≡ true → all f l ≡ true → (i : ℕ) → f (get_or l i d) ≡ true
unfolding all
all_get_d f [] d e a i = e
all_get_d f (x ∷ l) d e a zero = (both (f x) (all f l) a).0
all_get_d f (x ∷ l) d e a (suc i) = all_get_d f l d e (both (f x) (all f l) a).1 i

module _ (s : State) (h : List ℕ) (g : Sound s h) (len : Lengths s) (fits : wanted s ≤ length h) where
  abbrev k : Settled s h
  k = g.settled

  queue_bytes : Bytes s.queue
  queue_bytes i = go (dec_lt i s.queued)
    where
      go : Dec (i < s.queued) → get_or s.queue i 0 < 256
      go (yes b) =
          let x : ltb (get_or (queue_of s) i 0) 64 ≡ true = all_get_d (λ t. ltb t 64) (queue_of s) 0 refl (member_all _ (queue_of s) (λ t m. lt-ltb _ _ (k.queue.inside t m))) i in
          let y : get_or (queue_of s) i 0 < 64 = ltb-true _ _ x in
          omega (arith, get_or-take s.queued s.queue i 0 b)
      go (no b) =
          let x : 0 ≡ get_or (drop s.queued s.queue) (i - s.queued) 0 = eqb-true _ _ (all_get_d (eqb 0) (drop s.queued s.queue) 0 refl k.stored.zeros (i - s.queued)) in
          let w : i ≡ s.queued + (i - s.queued) = omega arith in
          rw w (omega (arith, get_or-drop s.queued s.queue (i - s.queued) 0))

  totals_words : (p : ℕ) → used s p < 2 ^ 32
  totals_words p = go (dec_lt p s.settings.count) (dec_lt p 16)
    where
      go : Dec (p < s.settings.count) → Dec (p < 16) → used s p < 2 ^ 32
      go (yes a) z = omega (arith, used_most s.settings s.used s.slot.0 s.since.0 h k.limits fits k.books p a)
      go (no a) (yes z) = omega (arith, k.rest.no_total p z (omega arith))
      go (no a) (no z) =
          let out : used s p ≡ 0 = ap (λ (c : Cycles). c.0) (get_or-eq_default s.used (record { 0 = 0 }) {n = p} (rw len.used (omega arith))) in
          omega arith

  running_word : s.running < 2 ^ 32
  running_word = go (ℕ_discrete s.running 255)
    where
      go : Dec (s.running ≡ 255) → s.running < 2 ^ 32
      go (yes e) = omega arith
      go (no n) = omega (arith, k.queue.inside s.running (g.runs.queued n))

  pub typed_of : SettingsTyped s.settings → s.stamp < 2 ^ 32 → ((t : ℕ) → ThreadTyped (thread s t)) → Words h → Typed s h
  typed_of c stamp ts w = record {
    state = record {
      lengths = len;
      settings = c;
      totals = totals_words;
      stamp = stamp;
      slot = omega (arith, k.books.inside, k.limits.window_high);
      since = omega (arith, k.books.since_high, k.limits.tick_high);
      threads = ts;
      queue = queue_bytes;
      queued = omega (arith, k.stored.few);
      running = running_word;
    };
    history = w;
  }
