-- A fresh start, in the arrays that hold it.
use mathlib.Core.Path.{◌≡◌, refl, sym, ap, subst, ◌∙◌}
use Prim.Native.Nat.{ℕ, zero, suc, ◌*◌, ◌≤◌, ◌<◌}
use mathlib.Core.Bool.{true, false}
use mathlib.Core.List.{List, [], ◌∷◌, ◌++◌, map}
use lib.Dec.{eqb, leb}
use lib.ListN.{length, get_or, drop, replicate, length-replicate, get_or-replicate}
use lib.Seq.{ext_get_or}
use borrow.Author.Tests.{lt-ltb, le-ltb}
use Rattle.lists.specs.Lists.{below}
use Rattle.lists.proofs.All.{below_all}
use Rattle.lists.proofs.Tables.{table_of, table_length, table_at}
use Rattle.lists.proofs.Tests.{and}
use Rattle.refusals.specs.Refusals.{number_of}
use Rattle.refusals.specs.declared.Refusal.{Refusal}
use Rattle.refusals.specs.declared.Refusal.TheVariants.{Buffer}
use Rattle.refusals.proofs.Laws.{never_zero}
use Rattle.sheet.specs.Settings.{W}
use Rattle.sheet.specs.Sheet as Sheet
use Rattle.sheet.specs.declared.Settings.{Settings}
use Rattle.model.specs.State.{cycles, absent}
use Rattle.model.specs.Arrays.{Columns, columns, thread_in, threads_in, plain}
use Rattle.model.specs.Doors.{refused_start}
use Rattle.model.specs.Event.{refused_state}
use Rattle.model.specs.Lent.{Lent, lent, settings_from, lent_settings, lent_clock, state_in, saved_in}
use Rattle.model.proofs.Accepted.{of_fit}
use Rattle.model.proofs.Flags.{as_state}
use Rattle.invariants.proofs.Fresh.{start_good}
use Rattle.model.specs.Run.{fresh}
use Rattle.model.specs.Step.{Saved}
use Rattle.doors.specs.Doors.{Begun}
use Rattle.doors.specs.Inner.{Fresh}
use Rattle.doors.proofs.Lending.{not_zero}

-- ---- no threads

abbrev zeros_of : ℕ → List ℕ
zeros_of n = replicate n 0

abbrev zeros : List ℕ
zeros = zeros_of 64

none : (n i : ℕ) → get_or (zeros_of n) i 0 ≡ 0
none zero i = refl
none (suc n) zero = refl
none (suc n) (suc i) = none n i

abbrev empty : Columns
empty = columns zeros zeros zeros zeros zeros zeros zeros

none_plain : plain zeros ≡ true
unfolding plain
none_plain = below_all (λ t. leb (get_or zeros t 0) 1) 64 (λ i b. rw (none 64 i) refl)

no_threads : threads_in empty ≡ replicate 64 absent
unfolding threads_in
no_threads =
    ext_get_or absent _ (replicate 64 absent) (table_length _ 64 ∙ sym (length-replicate 64 absent)) (λ i b.
    let low : i < 64 = rw (table_length (thread_in empty) 64) at b in
    table_at _ 64 i absent low ∙ rw (none 64 i) (sym (get_or-replicate 64 i absent absent low)))

no_cycles : map cycles (replicate 16 0) ≡ replicate 16 (cycles 0)
no_cycles = refl

-- ---- the state

module _ (c : Settings) (h h' a b : List ℕ) (e : settings_from a b ≡ c) (f : h' ≡ replicate (c.count * W c) 0 ++ drop (c.count * W c) h) where
  pub begun : Fresh c h (lent a b (replicate 16 0) (0 ∷ 0 ∷ 0 ∷ 0 ∷ 255 ∷ []) empty zeros h')
  begun = record {
    after = λ i. record {
      state = record {
        settings = e i;
        used = no_cycles i;
        stamp = 0;
        slot = record { 0 = 0 };
        since = record { 0 = 0 };
        threads = no_threads i;
        queue = replicate 64 0;
        queued = 0;
        running = 255;
      };
      history = f i;
    };
    flags = and none_plain none_plain;
  }

-- ---- the door

module _ (x : Lent) (sheet : List ℕ) where
  start_sheet : (r : Refusal) → Sheet.refused_sheet sheet ≡ number_of r → refused_start sheet x.history ≡ number_of r
  unfolding refused_start
  start_sheet r e = rw (e, never_zero r)

  start_short : Sheet.refused_sheet sheet ≡ 0 → length x.history < (Sheet.settings_of sheet).count * W (Sheet.settings_of sheet) → refused_start sheet x.history ≡ 7
  unfolding refused_start
  start_short e l = rw (e, lt-ltb _ _ l)

  start_fits : Sheet.refused_sheet sheet ≡ 0 → (Sheet.settings_of sheet).count * W (Sheet.settings_of sheet) ≤ length x.history → refused_start sheet x.history ≡ 0
  unfolding refused_start
  start_fits e l = rw (e, le-ltb _ _ l)

  refused : (r : Refusal) → number_of r ≡ refused_start sheet x.history → Begun x sheet (number_of r) x
  refused r e = record {
    refusal = e;
    after = λ z. absurd (not_zero r z);
    taken = λ z. absurd (not_zero r z);
    still = λ _. refl;
  }

  pub begun_sheet : (r : Refusal) → number_of r ≡ Sheet.refused_sheet sheet → Begun x sheet (number_of r) x
  begun_sheet r e = refused r (sym (start_sheet r (sym e)))

  -- ---- an accepted sheet, of which c was read

  module _ (c : Settings) (none_refused : Sheet.refused_sheet sheet ≡ 0) (i : c ≡ Sheet.settings_read sheet) where
    is_read : c ≡ Sheet.settings_of sheet
    unfolding Sheet.settings_read
    is_read = i ∙ rw none_refused

    pub begun_short : length x.history < c.count * W c → Begun x sheet 7 x
    begun_short l = refused Buffer (sym (start_short none_refused (subst (λ (j : Settings). length x.history < j.count * W j) is_read l)))

    pub begun_yes : c.count * W c ≤ length x.history → (y : Lent) → Fresh c x.history y → Begun x sheet 0 y
    begun_yes l y d =
        let room : (Sheet.settings_of sheet).count * W (Sheet.settings_of sheet) ≤ length x.history =
        subst (λ (j : Settings). j.count * W j ≤ length x.history) is_read l in
        let z = start_fits none_refused room in
        let same : saved_in y ≡ fresh (Sheet.settings_of sheet) x.history = d.after ∙ ap (λ (j : Settings). fresh j x.history) is_read in
        let fine : refused_state (state_in y) y.history ≡ 0 =
        subst (λ (v : Saved). refused_state v.state v.history ≡ 0) (sym same) (of_fit _ _ (start_good sheet x.history z).fit) in
        record {
          refusal = sym z;
          after = λ _. same;
          taken = λ _. as_state (lent_settings y) y.used (lent_clock y) y.threads y.queue y.history d.flags ∙ fine;
          still = λ n. absurd (n refl);
        }

-- the same answer, told otherwise
pub begun_as : {x : Lent} {sheet : List ℕ} {m n : ℕ} {y : Lent} → m ≡ n → Begun x sheet n y → Begun x sheet m y
begun_as {x} {sheet} {m} {n} {y} e d = subst (λ (i : ℕ). Begun x sheet i y) (sym e) d
