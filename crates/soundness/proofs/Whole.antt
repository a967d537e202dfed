-- All the parts are the model's soundness, with flags of 0 and 1.
use Rattle.std.proofs.Common.{◌≡◌, ℕ, ◌*◌, Bool, true, false, cond, ◌&&◌, ◌||◌, eqb, ltb, leb, List, sym, refl, ◌∙◌}
use mathlib.Core.Bool.{and-false}
use lib.Bits.{bit_or}
use Rattle.lists.specs.Lists.{below, all}
use Rattle.lists.proofs.Tests.{both, and, same}
use Rattle.lists.proofs.Union.{or_none}
use Rattle.sheet.specs.Settings.{W, C, within_limits}
use Rattle.sheet.specs.declared.Settings.{Settings}
use Rattle.model.specs.State.{thread}
use Rattle.model.specs.Arrays.{Columns, thread_in, plain, flags_fit}
use Rattle.model.specs.Sound as Model
use Rattle.model.specs.Sound.{sound_rest, sound_history, sound_thread, sound_queue, sound_running}
use Rattle.model.specs.declared.Clock.{Clock}
use Rattle.soundness.specs.Sums.{books_agree}
use Rattle.soundness.specs.Records.{sound_records}
use Rattle.soundness.specs.Queue.{holds_ready}
use Rattle.soundness.specs.Refused.{rest_zero, running_fits, sound_in}
use Rattle.soundness.proofs.Views.{view, rest_is, books_is, threads_are, queue_is, running_is}

-- ---- one partition more of those past the last

pub none_past : (p count x y bits v : ℕ) → v ≡ cond (ltb p count) 0 (bit_or x y) → eqb (bit_or bits v) 0 ≡ (eqb bits 0 && (ltb p count || (eqb x 0 && eqb y 0)))
none_past p count x y bits v e = rw (← or_none bits v, e) (go (ltb p count))
  where
    go : (z : Bool) → (eqb bits 0 && eqb (cond z 0 (bit_or x y)) 0) ≡ (eqb bits 0 && (z || (eqb x 0 && eqb y 0)))
    go true = refl
    go false = rw (← or_none x y)

-- ---- the whole

module _ (c : Settings) (u : List ℕ) (k : Clock) (ts : Columns) (q h : List ℕ) where
  abbrev books : Bool
  books = books_agree h u (W c) c.count k.slot.0 (2 * C c) k.since.0

  abbrev early : Bool
  early = leb k.since.0 (2 * C c)

  abbrev runs : Bool
  runs = running_fits ts.ready ts.masks k.running c.core

  abbrev every : Bool
  every = all (λ t. sound_thread c.count (thread_in ts t)) (below 64)

  abbrev tested : Bool
  tested = sound_records c.count ts && holds_ready ts.ready q k.queued && (early && rest_zero c u && runs && books)

  to : within_limits c ≡ true → tested ≡ true → sound_in c u k ts q h ≡ true
  unfolding Model.sound sound_records
  to limits x =
      let (x₁, x₂) = both (sound_records c.count ts && holds_ready ts.ready q k.queued) (early && rest_zero c u && runs && books) x in
      let (records, queue) = both (sound_records c.count ts) (holds_ready ts.ready q k.queued) x₁ in
      let (flags, proper) = both (flags_fit ts) every records in
      let (_, plain-r) = both (plain ts.exists) (plain ts.ready) flags in
      let (x₃, history) = both (early && rest_zero c u && runs) books x₂ in
      let (x₄, running) = both (early && rest_zero c u) runs x₃ in
      let (since, rest) = both early (rest_zero c u) x₄ in
      and flags
      (and (and (and (and (and limits
      (rest_is c u k ts q ∙ rest))
      (books_is c u k ts q h ∙ and since history))
      (threads_are c u k ts q ∙ proper))
      (queue_is c u k ts q plain-r proper ∙ queue))
      (running_is c u k ts q queue ∙ running))

  from : sound_in c u k ts q h ≡ true → tested ≡ true
  unfolding Model.sound sound_records
  from x =
      let s = view c u k ts q in
      let threads : Bool = all (λ t. sound_thread c.count (thread s t)) (below 64) in
      let (flags, y) = both (flags_fit ts) (Model.sound s h) x in
      let (_, plain-r) = both (plain ts.exists) (plain ts.ready) flags in
      let (y₁, running) = both (within_limits c && sound_rest s && sound_history s h && threads && sound_queue s) (sound_running s) y in
      let (y₂, queue) = both (within_limits c && sound_rest s && sound_history s h && threads) (sound_queue s) y₁ in
      let (y₃, proper) = both (within_limits c && sound_rest s && sound_history s h) threads y₂ in
      let (y₄, history) = both (within_limits c && sound_rest s) (sound_history s h) y₃ in
      let (_, rest) = both (within_limits c) (sound_rest s) y₄ in
      let proper' : every ≡ true = sym (threads_are c u k ts q) ∙ proper in
      let queue' : holds_ready ts.ready q k.queued ≡ true = sym (queue_is c u k ts q plain-r proper') ∙ queue in
      let (since, history') = both early books (sym (books_is c u k ts q h) ∙ history) in
      and (and (and flags proper') queue')
      (and (and (and since (sym (rest_is c u k ts q) ∙ rest))
      (sym (running_is c u k ts q queue') ∙ running))
      history')

  whole : within_limits c ≡ true → tested ≡ sound_in c u k ts q h
  whole limits = same tested (sound_in c u k ts q h) (to limits) from

  -- the three ways out
  module _ (limits : within_limits c ≡ true) where
    pub bad_records : {a : Bool} → a ≡ sound_records c.count ts → a ≡ false → false ≡ sound_in c u k ts q h
    bad_records x y =
        let z : sound_records c.count ts ≡ false = sym x ∙ y in
        rw z at (whole limits)

    pub bad_queue : {a : Bool} → a ≡ holds_ready ts.ready q k.queued → a ≡ false → false ≡ sound_in c u k ts q h
    bad_queue x y =
        let z : holds_ready ts.ready q k.queued ≡ false = sym x ∙ y in
        rw (z, and-false (sound_records c.count ts)) at (whole limits)

    pub last_parts : {a b : Bool} {f g i : Bool} → a ≡ sound_records c.count ts → a ≡ true → b ≡ holds_ready ts.ready q k.queued → b ≡ true
        → f ≡ rest_zero c u → g ≡ runs → i ≡ books → (early && f && g && i) ≡ sound_in c u k ts q h
    last_parts x₁ y₁ x₂ y₂ x₃ x₄ x₅ =
        let z₁ : sound_records c.count ts ≡ true = sym x₁ ∙ y₁ in
        let z₂ : holds_ready ts.ready q k.queued ≡ true = sym x₂ ∙ y₂ in
        rw (x₃, x₄, x₅) (rw (z₁, z₂) at (whole limits))
