-- The records of the events, as an iterator over chunks cuts them.
use mathlib.Core.Path.{◌≡◌, refl, sym, ap, ◌∙◌}
use Prim.Native.Nat.{ℕ, ◌+◌, ◌*◌, ◌≤◌, min}
use mathlib.Core.List.{List, ◌++◌}
use lib.ListN.{length, take, drop, length-drop}
use lib.Seq.{take_at, drop_at, drop-drop}
use native.Mathlib.Omega.{arith}
use native.Mathlib.Decide.{ℕ_discrete}
use denote.Ref.{Bor}
use Rattle.std.specs.Prelude.{Some, None}
use Rattle.std.proofs.lemmas.List.{take_min, drop_min}
use Rattle.std.specs.declared.iter.Enumerate.{Enumerate}
use Rattle.std.specs.declared.iter.Take.{Take}
use Rattle.std.specs.declared.slice.Chunks.{Chunks}
use Rattle.std.specs.Iterator.Adapters.{enumerate_source, enumerate_count, enumerate_steps, take_source, take_count, take_steps}
use Rattle.std.specs.Slice.Iter.{chunks_rest, chunks_size, chunks_steps}
use Rattle.model.specs.Stream.{event_at, event_count}

-- what is left is what follows the records that are counted, up to n of them
pub record Cut (events : List ℕ) (n : ℕ) (s : Enumerate (Take (Chunks ℕ))) : Type 0 where
  pub left : take_count (enumerate_source s) + enumerate_count s ≡ n
  pub rest : chunks_rest (take_source (enumerate_source s)) ≡ drop (12 * enumerate_count s) events
  pub size : chunks_size (take_source (enumerate_source s)) ≡ 12

-- of those made as the run makes them none is cut
pub first_cut : {events : List ℕ} {n : ℕ} {s e : Enumerate (Take (Chunks ℕ))} {t : Take (Chunks ℕ)} {k : Chunks ℕ} → s ≡ e → enumerate_source e ≡ t → enumerate_count e ≡ 0
    → take_source t ≡ k → take_count t ≡ n → chunks_rest k ≡ events → chunks_size k ≡ 12 → (enumerate_count s ≡ 0) × Cut events n s
first_cut {events} same inner none source count rest size =
    let first = ap enumerate_count same ∙ none in
    let taken = ap enumerate_source same ∙ inner in (
      first,
      record {
        left = omega (arith, first, ap take_count taken ∙ count);
        rest = ap (λ (x : Take (Chunks ℕ)). chunks_rest (take_source x)) taken ∙ ap chunks_rest source ∙ rest ∙ ap (λ (i : ℕ). drop (12 * i) events) (sym first);
        size = ap (λ (x : Take (Chunks ℕ)). chunks_size (take_source x)) taken ∙ ap chunks_size source ∙ size;
      },
    )

module _ {events : List ℕ} {n : ℕ} {s : Enumerate (Take (Chunks ℕ))} (g : Cut events n s) (t : Enumerate (Take (Chunks ℕ))) where
  abbrev i : ℕ
  i = enumerate_count s

  pub none_left : n ≤ event_count events → enumerate_steps (take_steps chunks_steps) s None t → i ≡ n
  none_left enough d = go (ℕ_discrete (take_count (enumerate_source s)) 0)
    where
      go : Dec (take_count (enumerate_source s) ≡ 0) → i ≡ n
      go (yes e) = omega (arith, g.left)
      go (no e) = omega (arith, g.left, enough, (d.0 (omega arith)).1, ap (length {A = ℕ}) g.rest, length-drop (12 * i) events)

  pub next_cut : (j : ℕ) (e : Bor (List ℕ)) → enumerate_steps (take_steps chunks_steps) s (Some (j, e)) t
      → (j ≡ i) × (e.now ≡ event_at events i) × (enumerate_count t ≡ i + 1) × Cut events n t
  next_cut j e d = (
    d.1,
    sym (take_at e.now rest' (length e.now) refl) ∙ ap (take (length e.now)) (sym joined) ∙ ap (λ (k : ℕ). take k rest) short ∙ take_min 12 rest ∙ ap (take 12) g.rest,
    d.2,
    record {
      left = omega (arith, d.2, d.0.1, g.left);
      rest = sym (drop_at e.now rest' (length e.now) refl) ∙ ap (drop (length e.now)) (sym joined) ∙ ap (λ (k : ℕ). drop k rest) short ∙ drop_min 12 rest ∙ ap (drop 12) g.rest
          ∙ drop-drop 12 (12 * i) events ∙ ap (λ (k : ℕ). drop k events) (omega (arith, d.2));
      size = d.0.0.0 ∙ g.size;
    },
  )
    where
      rest : List ℕ
      rest = chunks_rest (take_source (enumerate_source s))

      rest' : List ℕ
      rest' = chunks_rest (take_source (enumerate_source t))

      joined : rest ≡ e.now ++ rest'
      joined = d.0.0.1.0

      short : length e.now ≡ min 12 (length rest)
      short = d.0.0.1.1 ∙ ap (λ (k : ℕ). min k (length rest)) g.size
