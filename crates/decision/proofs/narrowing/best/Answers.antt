use mathlib.Core.Path.{refl, sym, subst}
use Prim.Native.Nat.{ℕ}
use Rattle.units.specs.declared.Comparison.{Comparison}
use Rattle.decision.proofs.NarrowingLaws.{Passed, passed_start, passed_value, passed_all}
use Rattle.decision.proofs.narrowing.best.Goals as goal

pub loop-q-init : goal.loop-q-init
loop-q-init g c of are =
    let R : ℕ → ℕ → Comparison = λ p q. g.V.Rank.against (of p) (of q) in
    let first = c.lowest-p in (
      first.result,
      sym (are first.result c.value.result first.ensures.inside c.value.ensures),
      subst (λ s. Passed R c.args.among s.0 c.only.result first.result) (sym c.into_iter-q-iterator.ensures.into_iter_gives)
          (passed_start R (g.met.V.Rank.ordered of) c.args.among first.result c.rest.result c.only.result first.ensures (c.rest.ensures.1 first.result first.ensures) c.only.ensures),
    )

pub loop-q-preserved : goal.loop-q-preserved
loop-q-preserved g c of are =
    let R : ℕ → ℕ → Comparison = λ p q. g.V.Rank.against (of p) (of q) in
    let turn = c.loop-q in
    let next = c.in-Some.ensures.steps in
    let q = c.in-Some.q in
    let (b, e, h) = turn.invariant of are in
    passed_value R (g.met.V.Rank.ordered of) _ g.V.Rank.against of (λ p q. refl) c.args.among turn.q-iterator.0 turn.level.kept b q c.next.new.self.0
    turn.level.value _ _ _ h next.0 (next.1.1 q next.0) e (sym (are q _ next.0.inside c.value-in-loop-q.ensures)) c.with-level.ensures

pub returns : goal.returns
returns g c of are =
    let R : ℕ → ℕ → Comparison = λ p q. g.V.Rank.against (of p) (of q) in
    let turn = c.loop-q in
    let (b, e, h) = turn.invariant of are in
    passed_all R (g.met.V.Rank.ordered of) c.args.among turn.q-iterator.0 turn.level.kept b c.in-None.ensures.steps.0 h
