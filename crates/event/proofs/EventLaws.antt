-- A well-formed record is the record of the event that is read from it.
use mathlib.Core.Path.{◌≡◌, sym, ap, ◌∙◌}
use Rattle.std.specs.Prelude.{Result, Ok, Err}
use Prim.Native.Nat.{ℕ, ◌+◌, ◌*◌, ◌/◌, ◌%◌, ◌≤◌, ◌<◌}
use mathlib.Core.Bool.{true, false, not, cond, ◌&&◌, ◌||◌}
use mathlib.Core.List.{List, [], ◌∷◌}
use native.Mathlib.Omega.{arith}
use lib.ListN.{length}
use borrow.Author.Tests.{eqb-true, eq-eqb, ne_eqb, leb-true, not-false}
use lib.Dec.{leb, eqb}
use Rattle.lists.specs.Lists.{below}
use Rattle.lists.proofs.Tables.{table_of}
use Rattle.lists.proofs.Tests.{both, clash, passes}
use Rattle.refusals.specs.Refusals.{number_of, outcome_of}
use Rattle.refusals.specs.declared.Refusal.{Refusal}
use Rattle.refusals.specs.declared.Refusal.TheVariants.{Length, Kind}
use Rattle.refusals.proofs.Laws.{never_zero}
use Rattle.model.specs.Event.{byte, kind_of, stamp_of, known, well_formed, names_thread, names_place, names_priority, blank}
use Rattle.model.specs.Typed.{Bytes}
use Rattle.event.specs.Kinds.{kind_number, uses_of}
use Rattle.event.specs.declared.kinds.Uses.{Uses}
use Rattle.event.specs.declared.kinds.Action.{Action}
use Rattle.event.specs.Bytes.{bytes_of, formed_by, refused_form, DecodedFrom}
use Rattle.event.specs.declared.Event.{Event}

-- a list of twelve, by its numbers
twelve : (b : List ℕ) → length b ≡ 12
    → b ≡ byte b 0 ∷ byte b 1 ∷ byte b 2 ∷ byte b 3 ∷ byte b 4 ∷ byte b 5 ∷ byte b 6 ∷ byte b 7 ∷ byte b 8 ∷ byte b 9 ∷ byte b 10 ∷ byte b 11 ∷ []
unfolding below
twelve b h = table_of b 12 0 h

low : (x n : ℕ) → x < 256 → x ≡ (x + 256 * n) % 256
low x n h = omega arith

-- what the form says
module _ (b : List ℕ) (f : well_formed b ≡ true) where
  parts : (known (kind_of b) ≡ true) × (byte b 10 ≡ 0) × (byte b 11 ≡ 0)
  unfolding well_formed
  parts =
      let k = kind_of b in
      let a₁ = known k in
      let a₂ = a₁ && (names_thread k || blank b 1) in
      let a₃ = a₂ && (names_place k || blank b 2) in
      let a₄ = a₃ && (names_priority k || blank b 3) in
      let a₅ = a₄ && (names_place k || blank b 8) in
      let a₆ = a₅ && (names_place k || blank b 9) in
      let (x, z₁₁) = both (a₆ && blank b 10) (blank b 11) f in
      let (x₆, z₁₀) = both a₆ (blank b 10) x in
      let (x₅, _) = both a₅ (names_place k || blank b 9) x₆ in
      let (x₄, _) = both a₄ (names_place k || blank b 8) x₅ in
      let (x₃, _) = both a₃ (names_priority k || blank b 3) x₄ in
      let (x₂, _) = both a₂ (names_place k || blank b 2) x₃ in
      let (x₁, _) = both a₁ (names_thread k || blank b 1) x₂ in
      (x₁, eqb-true (byte b 10) 0 z₁₀, eqb-true (byte b 11) 0 z₁₁)

  pub kind_read : (a : Action) → kind_number a ≡ cond (known (kind_of b)) (kind_of b) 0 → kind_of b ≡ kind_number a
  kind_read a e = sym (e ∙ rw parts.0)

  pub read_back : (a : Action) (stamp : ℕ) → length b ≡ 12 → Bytes b → kind_number a ≡ cond (known (kind_of b)) (kind_of b) 0 → stamp ≡ stamp_of b
      → b ≡ bytes_of (record { action = a; stamp = stamp; thread = byte b 1; partition = byte b 2; priority = byte b 3; mask = byte b 8; policy = byte b 9 })
  unfolding stamp_of
  read_back a stamp h y k s =
      let k₀ = kind_read a k in
      let e₄ : byte b 4 ≡ stamp % 256 = omega (arith, s, y 4, y 5, y 6, y 7) in
      let q₅ : stamp / 256 ≡ byte b 5 + 256 * (byte b 6 + 256 * byte b 7) = omega (arith, s, y 4, y 5, y 6, y 7) in
      let q₆ : stamp / 65536 ≡ byte b 6 + 256 * byte b 7 = omega (arith, s, y 4, y 5, y 6, y 7) in
      let e₅ : byte b 5 ≡ stamp / 256 % 256 = rw q₅ (low (byte b 5) (byte b 6 + 256 * byte b 7) (y 5)) in
      let e₆ : byte b 6 ≡ stamp / 65536 % 256 = rw q₆ (low (byte b 6) (byte b 7) (y 6)) in
      let e₇ : byte b 7 ≡ stamp / 16777216 = omega (arith, s, y 4, y 5, y 6, y 7) in
      let (_, z₁₀, z₁₁) = parts in
      twelve b h ∙ (λ i. k₀ i ∷ byte b 1 ∷ byte b 2 ∷ byte b 3 ∷ e₄ i ∷ e₅ i ∷ e₆ i ∷ e₇ i ∷ byte b 8 ∷ byte b 9 ∷ z₁₀ i ∷ z₁₁ i ∷ [])

-- the kind of a well-formed record
pub known_form : (b : List ℕ) → well_formed b ≡ true → (1 ≤ kind_of b) × (kind_of b ≤ 7)
unfolding known
known_form b f =
    let (lo, hi) = both (leb 1 (kind_of b)) (leb (kind_of b) 7) (parts b f).0 in
    (leb-true 1 (kind_of b) lo, leb-true (kind_of b) 7 hi)

-- ---- what was decoded

formed_is : (b : List ℕ) (u : Uses) → u ≡ uses_of (kind_of b) → formed_by u b ≡ well_formed b
unfolding formed_by well_formed uses_of
formed_is b u e = rw e

-- a refusal by number n, of bytes that are refused by it
refused_as : (b : List ℕ) (r : Refusal) → refused_form b ≡ number_of r → DecodedFrom b (Err r)
refused_as b r f =
    let no : (e : Event) → Err r ≡ Ok e → ⊥ = λ e q. clash (ap (λ (d : Result Event Refusal). eqb (outcome_of d) 0) q) (never_zero r) in
    record { refusal = sym f; bytes = λ e q. absurd (no e q); stamp = λ e q. absurd (no e q) }

pub decoded_length : (b : List ℕ) → (length b ≡ 12 → ⊥) → DecodedFrom b (Err Length)
unfolding refused_form
decoded_length b n = refused_as b Length (rw (ne_eqb (length b) 12 n))

same_event : {x y : Event} → ◌≡◌ {A = Result Event Refusal} (Ok x) (Ok y) → x ≡ y
same_event q = cc

module _ (b : List ℕ) (h : length b ≡ 12) (u : Uses) (e : u ≡ uses_of (kind_of b)) where
  pub decoded_form : formed_by u b ≡ false → DecodedFrom b (Err Kind)
  unfolding refused_form
  decoded_form f = refused_as b Kind (let w = sym (formed_is b u e) ∙ f in rw (eq-eqb (length b) 12 h, w))

  abbrev read : Action → ℕ → Event
  read a stamp = record { action = a; stamp = stamp; thread = byte b 1; partition = byte b 2; priority = byte b 3; mask = byte b 8; policy = byte b 9 }

  pub decoded_event : (a : Action) (stamp : ℕ) → formed_by u b ≡ true → Bytes b → kind_number a ≡ cond (known (kind_of b)) (kind_of b) 0 → stamp ≡ stamp_of b
      → DecodedFrom b (Ok (read a stamp))
  unfolding refused_form
  decoded_event a stamp f y k s =
      let w = sym (formed_is b u e) ∙ f in
      record {
        refusal = rw (eq-eqb (length b) 12 h, w);
        bytes = λ x q. read_back b w a stamp h y k s ∙ ap bytes_of (same_event q);
        stamp = λ x q. sym (ap (λ (v : Event). v.stamp) (same_event q)) ∙ s;
      }

-- bytes that are not refused
pub formed_bytes : (b : List ℕ) → refused_form b ≡ 0 → (length b ≡ 12) × (well_formed b ≡ true)
unfolding refused_form
formed_bytes b z =
    let (x, z₁) = passes (not (eqb (length b) 12)) 14 (cond (not (well_formed b)) 9 0) tt z in
    let (y, _) = passes (not (well_formed b)) 9 0 tt z₁ in
    (eqb-true (length b) 12 (not-false _ x), not-false _ y)
