-- THE TESTS: the runs of Runs give their lines, the threads of Places stand where they must, the ties of Ties are won by whom they must, the sheets
-- of Editions say what they must and are written back, its given states have budget where they must, and the numbers of Refusals are the paper's, by
-- computation.
use mathlib.Core.Path.{◌≡◌, refl}
use mathlib.Core.List.{[], ◌∷◌, map}
use lib.ListN.{take, drop}
use lib.IntN.{pos, negsuc}
use Rattle.model.specs.Doors.{decision}
use Rattle.cases.specs.Written.{line, refusal}
use Rattle.cases.specs.Computed.{lines, remains}
use Rattle.cases.specs.Runs.{computed, expected, runs, slices, changes, ties, editions}
use Rattle.cases.specs.Places.{line_after, places}
use Rattle.cases.specs.Ties.{answers_of, lines_of, given}
use Rattle.cases.specs.Editions
use Rattle.cases.specs.Refusals.{computed_of, papers_of, kinds, reserved, states, soundness, events, sheets, doors, buffer, zeros, lent, lent_as, lent_in, left, none}

every_run : map computed runs ≡ map expected runs
unfolding lines
every_run = refl

every_slice : map computed slices ≡ map expected slices
unfolding lines
every_slice = refl

every_change : map computed changes ≡ map expected changes
unfolding lines
every_change = refl

every_tie : map computed ties ≡ map expected ties
unfolding lines
every_tie = refl

every_edition : map computed editions ≡ map expected editions
unfolding lines
every_edition = refl

every_place : map line_after places ≡ map (λ p. p.line) places
unfolding lines
every_place = refl

every_given_tie : map answers_of given ≡ map lines_of given
unfolding remains
every_given_tie = refl

every_kind : computed_of kinds ≡ papers_of kinds
unfolding lines
every_kind = refl

every_reserved_byte : computed_of reserved ≡ papers_of reserved
unfolding lines
every_reserved_byte = refl

every_state : computed_of states ≡ papers_of states
unfolding lines
every_state = refl

every_clause : computed_of soundness ≡ papers_of soundness
unfolding lines
every_clause = refl

every_event : computed_of events ≡ papers_of events
unfolding lines
every_event = refl

every_sheet : computed_of sheets ≡ papers_of sheets
unfolding remains
every_sheet = refl

every_stated_edition : map Editions.read_of Editions.sheets ≡ map Editions.wanted_of Editions.sheets
unfolding remains
every_stated_edition = refl

every_given_edition : map (λ x. decision (Editions.lent_for x)) Editions.given ≡ map (λ x. line 0 x.mode 0 0) Editions.given
unfolding remains
every_given_edition = refl

-- what is written into a buffer: `W 00 000002`; `S 01 000050`, and what was there before
first_record : take 12 buffer ≡ 87 ∷ 32 ∷ 48 ∷ 48 ∷ 32 ∷ 48 ∷ 48 ∷ 48 ∷ 48 ∷ 48 ∷ 50 ∷ 10 ∷ []
unfolding lines
first_record = refl

last_record : drop 60 buffer ≡ 83 ∷ 32 ∷ 48 ∷ 49 ∷ 32 ∷ 48 ∷ 48 ∷ 48 ∷ 48 ∷ 53 ∷ 48 ∷ 10 ∷ 7 ∷ 7 ∷ []
unfolding lines
last_record = refl

-- the remaining door: 995 of 1000 remain; partition 1 has all; there is no partition 2; 500 too many were used
remaining : map (remains (lent 1 5 (5 ∷ zeros 3))) (0 ∷ 1 ∷ 2 ∷ []) ≡ left (pos 995) ∷ left (pos 1000) ∷ none 12 ∷ []
unfolding remains
remaining = refl

overrun : remains (lent 1 1500 (1500 ∷ zeros 3)) 0 ≡ left (negsuc 499)
unfolding remains
overrun = refl

every_door : computed_of doors ≡ papers_of doors
unfolding remains
every_door = refl

-- the edition leaves what remains as it is
in_edition_2 : map (remains (lent_in 2 1 5 (5 ∷ zeros 3))) (0 ∷ 1 ∷ []) ≡ left (pos 995) ∷ left (pos 1000) ∷ []
unfolding remains
in_edition_2 = refl

-- the decision door
decisions : map decision (lent 1 5 (5 ∷ zeros 3) ∷ lent 1 5 (5 ∷ zeros 2) ∷ lent 2 5 (5 ∷ zeros 3) ∷ lent_as 1 1 1 5 (5 ∷ zeros 3) ∷ lent_as 1 1 0 5 (5 ∷ zeros 3) ∷ [])
    ≡ line 0 1 0 0 ∷ refusal 7 ∷ refusal 8 ∷ line 0 1 0 0 ∷ refusal 8 ∷ []
unfolding remains
decisions = refl

-- an edition outside its limits, 8 before 7 too
editions_refused : map decision (lent_in 2 0 5 (5 ∷ zeros 3) ∷ lent_in 1 2 5 (5 ∷ zeros 3) ∷ lent_in 2 0 5 (5 ∷ zeros 2) ∷ lent_in 2 1 5 (5 ∷ zeros 2) ∷ [])
    ≡ refusal 8 ∷ refusal 8 ∷ refusal 8 ∷ refusal 7 ∷ []
unfolding remains
editions_refused = refl
