-- `refused_state` is the number by which a state is refused.
use Rattle.std.proofs.Common.{sym, ◌∙◌}
use Rattle.soundness.proofs.Limits.{limits_hold, limits_fail, refused_settings_law, refused_short, refused_sound, refused_unsound}
use Rattle.soundness.proofs.refused_state.Goals as goal

pub returns-then-is_err : goal.returns-then-is_err
returns-then-is_err c =
    let a = c.args in
    refused_settings_law a.settings.now a.clock.now a.state.now (limits_fail a.settings.now c.limits.result (sym c.is_err.ensures.value ∙ c.if-is_err.true) c.limits.ensures)

pub returns-then-state-wanted : goal.returns-then-state-wanted
returns-then-state-wanted c =
    let a = c.args in
    let within = limits_hold a.settings.now c.limits.result (sym c.is_err.ensures.value ∙ c.if-is_err.false) c.limits.ensures in
    refused_short a.settings.now a.clock.now a.state.now within c.if-state-wanted.true

pub sound-requires : goal.sound-requires
sound-requires c =
    let within = limits_hold c.args.settings.now c.limits.result (sym c.is_err.ensures.value ∙ c.if-is_err.false) c.limits.ensures in
    (within, c.if-state-wanted.false)

pub returns-then-sound : goal.returns-then-sound
returns-then-sound c =
    let a = c.args in
    let within = limits_hold a.settings.now c.limits.result (sym c.is_err.ensures.value ∙ c.if-is_err.false) c.limits.ensures in
    refused_sound a.settings.now a.clock.now a.state.now within c.if-state-wanted.false c.sound.ensures c.if-sound.true

pub returns-else-sound : goal.returns-else-sound
returns-else-sound c =
    let a = c.args in
    let within = limits_hold a.settings.now c.limits.result (sym c.is_err.ensures.value ∙ c.if-is_err.false) c.limits.ensures in
    refused_unsound a.settings.now a.clock.now a.state.now within c.if-state-wanted.false c.sound.ensures c.if-sound.false
