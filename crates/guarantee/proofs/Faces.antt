-- Demands 2 and 3 look at the events' bytes and at the lines that answered them, and not at the states that they left: of two lists of entries that
-- are alike in the former they say the same.
use mathlib.Core.Path.{◌≡◌, refl, sym, ap, ap₂, subst, ◌∙◌}
use Prim.Native.Nat.{ℕ, ◌+◌, ◌≤◌, ◌<◌}
use mathlib.Core.Bool.{Bool, true, not, cond, ◌&&◌, ◌||◌}
use mathlib.Core.List.{List, [], ◌∷◌, ◌++◌, map, map-map, map-append}
use lib.ListN.{length, take, length-map}
use lib.IntN.{pos}
use Rattle.std.proofs.lemmas.List.{take-map}
use lib.Signed.{◌≤ℤ◌}
use lib.Dec.{eqb}
use native.Mathlib.Omega.{arith}
use Rattle.lists.specs.Lists.{below, any, keep}
use Rattle.lists.proofs.All.{keep_map}
use Rattle.model.specs.Event
use Rattle.model.specs.Event.{kind_of, thread_of}
use Rattle.model.specs.State.{State}
use Rattle.model.specs.Step.{Saved}
use Rattle.model.specs.Run.{Entry}
use Rattle.sheet.specs.Settings.{C}
use Rattle.sheet.specs.declared.Settings.{Settings}
use Rattle.guarantee.specs.Demand3.{accepted, is_kind, Last, last_of, elapsed_since, charge_of, charged_to, full_ticks, Stretch, Known, told_by, known_after, known_at, waits_in, waits, bound, Served}
use Rattle.guarantee.specs.Ledger.{add_first, ledger}

-- ---- a list whose image is in parts is in parts

module _ {A B : Type 0} (f : A → B) where
  record At (l : List A) (a : List B) (y : B) (b : List B) : Type 0 where
    pub first : List A
    pub here : A
    pub rest : List A
    pub whole : l ≡ first ++ (here ∷ rest)
    pub first_is : map f first ≡ a
    pub here_is : f here ≡ y
    pub rest_is : map f rest ≡ b

  at : (l : List A) (a : List B) (y : B) (b : List B) → map f l ≡ a ++ (y ∷ b) → At l a y b
  at [] [] y b e = let z : ◌≡◌ {A = ℕ} 0 1 = cc in let none : ⊥ = omega arith in absurd none
  at [] (x ∷ a) y b e = let z : ◌≡◌ {A = ℕ} 0 1 = cc in let none : ⊥ = omega arith in absurd none
  at (x ∷ l) [] y b e = record { first = []; here = x; rest = l; whole = refl; first_is = refl; here_is = cc; rest_is = cc }
  at (x ∷ l) (z ∷ a) y b e = from (at l a y b (cc))
    where
      from : At l a y b → At (x ∷ l) (z ∷ a) y b
      from p = record {
        first = x ∷ p.first;
        here = p.here;
        rest = p.rest;
        whole = ap (λ (k : List A). x ∷ k) p.whole;
        first_is = let h : map f p.first ≡ a = p.first_is in cc;
        here_is = p.here_is;
        rest_is = p.rest_is;
      }

-- ---- what is seen of an entry: all but the state that it left, for which v stands

module _ (v : Saved) where
  abbrev pub face : Entry → Entry
  face e = record { event = e.event; answer = record { refusal = e.answer.refusal; decision = e.answer.decision; after = v } }

  abbrev faces : List Entry → List Entry
  faces es = map face es

  charged_seen : (p : ℕ) (l : Last) (es : List Entry) → charged_to p l (faces es) ≡ charged_to p l es
  unfolding charged_to charge_of
  charged_seen p l [] = refl
  charged_seen p l (e ∷ es) =
      ap₂ (λ (a b : ℕ). cond (accepted e) (charge_of p l e + a) b) (charged_seen p (last_of e) es) (charged_seen p l es)

  full_seen : (c n : ℕ) (l : Last) (es : List Entry) → full_ticks c n l (faces es) ≡ full_ticks c n l es
  unfolding full_ticks
  full_seen c n l [] = refl
  full_seen c n l (e ∷ es) = λ i.
      cond (not (accepted e)) (full_seen c n l es i)
      (cond (eqb (kind_of e.event) Event.tick) (eqb (n + elapsed_since l e) c && full_seen c 0 (last_of e) es i)
      (full_seen c (n + elapsed_since l e) (last_of e) es i))

  ticks_seen : (es : List Entry) → length (keep (is_kind Event.tick) (faces es)) ≡ length (keep (is_kind Event.tick) es)
  ticks_seen es = ap length (keep_map (is_kind Event.tick) face es) ∙ length-map (keep (is_kind Event.tick) es) face

  any_seen : (k : ℕ) (es : List Entry) → any (is_kind k) (faces es) ≡ any (is_kind k) es
  unfolding any
  any_seen k [] = refl
  any_seen k (e ∷ es) = ap (λ (z : Bool). is_kind k e || z) (any_seen k es)

  known_seen : (t : ℕ) (k : Known) (es : List Entry) → known_after t k (faces es) ≡ known_after t k es
  unfolding known_after
  known_seen t k [] = refl
  known_seen t k (e ∷ es) = known_seen t (cond (accepted e && eqb (thread_of e.event) t) (told_by e.event k) k) es

  waits_seen : (s : State) (p : ℕ) (es : List Entry) → waits s (faces es) p ≡ waits s es p
  unfolding waits
  waits_seen s p es = ap (λ (f : ℕ → Bool). any f (below 64)) (λ i t. waits_in p s.settings.core (known_seen t (known_at s t) es i))

  kept_seen : {A : Type 0} (f : Entry → A) → ((e : Entry) → f (face e) ≡ f e) → (es : List Entry)
      → map f (keep accepted (faces es)) ≡ map f (keep accepted es)
  kept_seen f h es =
      ap (map f) (keep_map accepted face es) ∙ map-map f face (keep accepted es) ∙ ap (λ (g : Entry → _). map g (keep accepted es)) (λ i e. h e i)

  ledger_seen : (p : ℕ) (l : Last) (ys : List ℕ) (es : List Entry) → ledger p l ys (faces es) ≡ ledger p l ys es
  unfolding ledger charge_of
  ledger_seen p l ys [] = refl
  ledger_seen p l ys (e ∷ es) = λ i.
      cond (not (accepted e)) (ledger_seen p l ys es i)
      (cond (eqb (kind_of e.event) Event.resume) (ledger_seen p (last_of e) (0 ∷ []) es i)
      (cond (eqb (kind_of e.event) Event.tick) (ledger_seen p (last_of e) (0 ∷ add_first (charge_of p l e) ys) es i)
      (ledger_seen p (last_of e) (add_first (charge_of p l e) ys) es i)))

  -- so what looks at faces alone is the same of two lists that look alike
  alike : {X : Type 0} (f : List Entry → X) → ((l : List Entry) → f (faces l) ≡ f l) → {ds es : List Entry} → faces ds ≡ faces es → f ds ≡ f es
  alike f h {ds} {es} e = sym (h ds) ∙ ap f e ∙ h es

  -- where a list looks like one with a stretch in it, it has one that looks like that
  record Found (es before : List Entry) (opening : Entry) (within : List Entry) (closing : Entry) : Type 0 where
    pub before' : List Entry
    pub opening' : Entry
    pub within' : List Entry
    pub closing' : Entry
    pub later' : List Entry
    pub whole : es ≡ before' ++ (opening' ∷ (within' ++ (closing' ∷ later')))
    pub b : faces before' ≡ faces before
    pub o : face opening' ≡ face opening
    pub w : faces within' ≡ faces within
    pub d : face closing' ≡ face closing

  found : (es before : List Entry) (opening : Entry) (within : List Entry) (closing : Entry) (later : List Entry)
      → faces es ≡ faces (before ++ (opening ∷ (within ++ (closing ∷ later)))) → Found es before opening within closing
  found es before opening within closing later same = outer (at face es (faces before) (face opening) (faces rest) cut)
    where
      rest : List Entry
      rest = within ++ (closing ∷ later)

      cut : faces es ≡ faces before ++ (face opening ∷ faces rest)
      cut = same ∙ map-append face before (opening ∷ rest)

      inner : (x : At face es (faces before) (face opening) (faces rest)) → At face x.rest (faces within) (face closing) (faces later)
          → Found es before opening within closing
      inner x y = record {
        before' = x.first;
        opening' = x.here;
        within' = y.first;
        closing' = y.here;
        later' = y.rest;
        whole = x.whole ∙ ap (λ (k : List Entry). x.first ++ (x.here ∷ k)) y.whole;
        b = x.first_is;
        o = x.here_is;
        w = y.first_is;
        d = y.here_is;
      }

      outer : At face es (faces before) (face opening) (faces rest) → Found es before opening within closing
      outer x = inner x (at face x.rest (faces within) (face closing) (faces later) (x.rest_is ∙ map-append face within (closing ∷ later)))

  module _ (s : State) (es before : List Entry) (opening : Entry) (within : List Entry) (closing : Entry)
      (f : Found es before opening within closing) where
    abbrev c : Settings
    c = s.settings

    abbrev stretch : List Entry
    stretch = within ++ (closing ∷ [])

    abbrev stretch' : List Entry
    stretch' = f.within' ++ (f.closing' ∷ [])

    last_too : last_of f.opening' ≡ last_of opening
    last_too = ap last_of f.o

    stretch_faces : faces stretch' ≡ faces stretch
    stretch_faces =
        map-append face f.within' (f.closing' ∷ []) ∙ ap₂ (λ (a : List Entry) (x : Entry). a ++ (x ∷ [])) f.w f.d
        ∙ sym (map-append face within (closing ∷ []))

    until_faces : (n : ℕ) → faces (f.before' ++ (f.opening' ∷ take n f.within')) ≡ faces (before ++ (opening ∷ take n within))
    until_faces n =
        let some : faces (take n f.within') ≡ faces (take n within) =
        sym (take-map face n f.within') ∙ ap (take n) f.w ∙ take-map face n within in
        map-append face f.before' (f.opening' ∷ take n f.within') ∙ (λ i. f.b i ++ (f.o i ∷ some i))
        ∙ sym (map-append face before (opening ∷ take n within))

    within_length : length f.within' ≡ length within
    within_length = sym (length-map f.within' face) ∙ ap length f.w ∙ length-map within face

    stretch_too : Stretch c opening within closing → Stretch c f.opening' f.within' f.closing'
    stretch_too st = record {
      opens = ap (is_kind Event.tick) f.o ∙ st.opens;
      closes = ap (is_kind Event.tick) f.d ∙ st.closes;
      ticks = alike (λ l. length (keep (is_kind Event.tick) l)) ticks_seen stretch_faces ∙ st.ticks;
      no_resume = alike (any (is_kind Event.resume)) (any_seen Event.resume) f.w ∙ st.no_resume;
      full =
          ap (λ (l : Last). full_ticks (C c) 0 l stretch') last_too
          ∙ alike (full_ticks (C c) 0 (last_of opening)) (full_seen (C c) 0 (last_of opening)) stretch_faces
          ∙ st.full;
    }

    waits_too : (p : ℕ) → ((n : ℕ) → n ≤ length within → waits s (before ++ (opening ∷ take n within)) p ≡ true)
        → (n : ℕ) → n ≤ length f.within' → waits s (f.before' ++ (f.opening' ∷ take n f.within')) p ≡ true
    waits_too p h n k = alike (λ l. waits s l p) (waits_seen s p) (until_faces n) ∙ h n (rw (← within_length) k)

    charged_too : (p : ℕ) → charged_to p (last_of f.opening') stretch' ≡ charged_to p (last_of opening) stretch
    charged_too p =
        ap (λ (l : Last). charged_to p l stretch') last_too ∙ alike (charged_to p (last_of opening)) (charged_seen p (last_of opening)) stretch_faces

    served_found : Served s es → Stretch c opening within closing → (p : ℕ) → p < c.count
        → ((n : ℕ) → n ≤ length within → waits s (before ++ (opening ∷ take n within)) p ≡ true)
        → bound c p ≤ℤ pos (charged_to p (last_of opening) stretch)
    served_found served st p inside waiting =
        subst (λ (n : ℕ). bound c p ≤ℤ pos n) (charged_too p)
        (served f.before' f.opening' f.within' f.closing' f.later' f.whole (stretch_too st) p inside (waits_too p waiting))

  pub events_alike : (es fs : List Entry) → faces es ≡ faces fs → map (λ e. e.event) (keep accepted es) ≡ map (λ e. e.event) (keep accepted fs)
  events_alike es fs = alike (λ l. map (λ e. e.event) (keep accepted l)) (kept_seen (λ e. e.event) (λ e. refl))

  pub decisions_alike : (es fs : List Entry) → faces es ≡ faces fs
      → map (λ e. e.answer.decision) (keep accepted es) ≡ map (λ e. e.answer.decision) (keep accepted fs)
  decisions_alike es fs = alike (λ l. map (λ e. e.answer.decision) (keep accepted l)) (kept_seen (λ e. e.answer.decision) (λ e. refl))

  pub ledger_alike : (p : ℕ) (l : Last) (ys : List ℕ) (es fs : List Entry) → faces es ≡ faces fs → ledger p l ys es ≡ ledger p l ys fs
  ledger_alike p l ys es fs = alike (ledger p l ys) (ledger_seen p l ys)

  pub served_alike : (s : State) (es fs : List Entry) → faces es ≡ faces fs → Served s es → Served s fs
  served_alike s es fs same served before opening within closing later e =
      served_found s es before opening within closing (found es before opening within closing later (same ∙ ap faces e)) served
