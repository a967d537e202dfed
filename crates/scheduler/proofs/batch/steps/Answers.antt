use mathlib.Core.Path.{◌≡◌, refl, sym, ap, ap₂, subst, ◌∙◌}
use mathlib.Core.List.{List, ◌++◌}
use Prim.Native.Nat.{ℕ, ◌+◌, ◌-◌, ◌*◌}
use native.Mathlib.Omega.{arith}
use lib.ListN.{drop}
use Rattle.std.proofs.Common.{rules}
use Rattle.std.specs.Iterator.Adapters.{enumerate_steps, take_steps}
use Rattle.std.specs.Slice.Iter.{chunks_steps}
use Rattle.model.specs.Run.{run, after}
use Rattle.model.specs.Answers.{line_of, text_of}
use Rattle.model.specs.Stream.{events_in, lines_of}
use Rattle.scheduler.specs.Effects.{saved_of}
use Rattle.scheduler.proofs.SchedulerLaws.{taken_arrays}
use Rattle.scheduler.proofs.Cutting.{first_cut, none_left, next_cut}
use Rattle.scheduler.proofs.Longer.{nothing_taken, nothing_written, state_next, lines_next, line_put, run_lines_length}
use Rattle.scheduler.proofs.batch.steps.Goals as goal

pub loop-i-init : goal.loop-i-init
loop-i-init c =
    let a = c.args in
    let v = saved_of a.settings a.state.now a.clock in
    let e = a.events.now in
    let (none, cut) = first_cut c.into_iter-i-iterator.ensures.into_iter_gives c.enumerate-i-items.ensures.source c.enumerate-i-items.ensures.count
    c.take.ensures.source c.take.ensures.count c.chunks.ensures.rest c.chunks.ensures.size in
    record {
      cut = cut;
      after = nothing_taken v e ∙ ap (λ (k : ℕ). after v (events_in e k)) (sym none);
      lines = nothing_written v e a.out.now ∙ ap (λ (k : ℕ). lines_of (run v (events_in e k)) ++ drop (12 * k) a.out.now) (sym none);
      whole = c.requires.0;
      priced = refl;
      loan = search rules;
    }

pub loop-i-preserved : goal.loop-i-preserved
loop-i-preserved c =
    let a = c.args in
    let v = saved_of a.settings a.state.now a.clock in
    let e = a.events.now in
    let p = c.loop-i in
    let inv = p.invariant in
    let f = c.step-answer in
    let i = p.i-iterator.count in
    let x = saved_of a.settings p.state p.clock in
    let text = text_of (line_of f.result.verdict) in
    let (at, part, more, cut) = next_cut inv.cut c.next.new.self c.in-Some.i c.in-Some.event
    (subst (λ r. enumerate_steps (take_steps chunks_steps) p.i-iterator r c.next.new.self) c.in-Some.is c.next.ensures.steps) in
    let put = line_put (lines_of (run v (events_in e i))) text p.out a.out.now _ c.in-Some.i (12 * c.in-Some.i + 12 - 12 * c.in-Some.i)
    (run_lines_length v e i ∙ ap (λ (k : ℕ). 12 * k) (sym at)) (inv.lines ∙ ap (λ (k : ℕ). lines_of (run v (events_in e i)) ++ drop (12 * k) a.out.now) (sym at)) (omega arith) c.write.ensures in
    let next : c.in-Some.i + 1 ≡ c.next.new.self.count = omega (arith, at, more) in
    record {
      cut = cut;
      after = f.ensures.answered.after ∙ state_next v e i x _ inv.after part ∙ ap (λ (k : ℕ). after v (events_in e k)) (sym more);
      lines = put ∙ ap₂ (λ (l : List ℕ) (k : ℕ). l ++ drop (12 * k) a.out.now)
          (lines_next v e i x _ inv.after part text (ap text_of f.ensures.answered.line) ∙ ap (λ (k : ℕ). lines_of (run v (events_in e k))) (sym more)) next;
      whole = f.ensures.answered.whole;
      priced = f.ensures.priced ∙ inv.priced;
      loan = search rules;
    }

pub step-answer-requires : goal.step-answer-requires
step-answer-requires c = c.loop-i.invariant.whole

all : (c : goal.In-None) → c.loop-i.i-iterator.count ≡ c.args.n
all c =
    none_left c.loop-i.invariant.cut c.next.new.self c.requires.1
    (subst (λ r. enumerate_steps (take_steps chunks_steps) c.loop-i.i-iterator r c.next.new.self) c.in-None.is c.next.ensures.steps)

pub returns-clause-after : goal.returns-clause-after
returns-clause-after c =
    let a = c.args in
    c.loop-i.invariant.after ∙ ap (λ (k : ℕ). after (saved_of a.settings a.state.now a.clock) (events_in a.events.now k)) (all c)

pub returns-clause-lines : goal.returns-clause-lines
returns-clause-lines c =
    let a = c.args in
    c.loop-i.invariant.lines
    ∙ ap (λ (k : ℕ). lines_of (run (saved_of a.settings a.state.now a.clock) (events_in a.events.now k)) ++ drop (12 * k) a.out.now) (all c)

pub returns-clause-sound : goal.returns-clause-sound
returns-clause-sound c = taken_arrays c.loop-i.invariant.whole

pub returns-clause-priced : goal.returns-clause-priced
returns-clause-priced c = c.loop-i.invariant.priced

pub returns-clause-loan : goal.returns-clause-loan
returns-clause-loan c = c.loop-i.invariant.loan
