-- `sound` is the model's soundness with flags of 0 and 1, for settings within their limits and a history long enough.
use Rattle.std.proofs.Common.{arith}
use Rattle.sheet.proofs.Within.{limits_of}
use Rattle.model.specs.Arrays.{columns_seen}
use Rattle.soundness.proofs.Whole.{bad_records, bad_queue, last_parts}
use Rattle.soundness.proofs.sound.Goals as goal

pub overflow_cast-settings : goal.overflow_cast-settings
overflow_cast-settings c = omega (arith, (limits_of c.args.settings.now c.requires.0).count_high)

pub sound_threads-requires : goal.sound_threads-requires
sound_threads-requires c = (limits_of c.args.settings.now c.requires.0).count_low

pub returns-then-not-sound_threads : goal.returns-then-not-sound_threads
returns-then-not-sound_threads c =
    let a = c.args in
    let x = a.state.now in
    bad_records a.settings.now x.used.now a.clock.now (columns_seen x) x.queue.now x.history.now c.requires.0 c.sound_threads.ensures c.if-not-sound_threads.true

pub returns-then-not-sound_queue : goal.returns-then-not-sound_queue
returns-then-not-sound_queue c =
    let a = c.args in
    let x = a.state.now in
    bad_queue a.settings.now x.used.now a.clock.now (columns_seen x) x.queue.now x.history.now c.requires.0 c.sound_queue.ensures c.if-not-sound_queue.true

pub twice-most-requires : goal.twice-most-requires
twice-most-requires c = omega (arith, (limits_of c.args.settings.now c.requires.0).tick_high)

pub running_fits-requires : goal.running_fits-requires
running_fits-requires c = (limits_of c.args.settings.now c.requires.0).core

pub invariant_of-history : goal.invariant_of-history
invariant_of-history c =
    let limits = limits_of c.args.settings.now c.requires.0 in
    record { few = limits.count_high; short = limits.window_high; inside = c.requires.1 }

pub books_agree-requires : goal.books_agree-requires
books_agree-requires c = omega (arith, (limits_of c.args.settings.now c.requires.0).tick_high)

pub returns : goal.returns
returns c =
    let a = c.args in
    let x = a.state.now in
    let most = c.twice-most.ensures in
    rw most (last_parts a.settings.now x.used.now a.clock.now (columns_seen x) x.queue.now x.history.now
    c.requires.0
    c.sound_threads.ensures c.if-not-sound_threads.false
    c.sound_queue.ensures c.if-not-sound_queue.false
    c.rest_zero.ensures c.running_fits.ensures (rw most at c.books_agree.ensures))
