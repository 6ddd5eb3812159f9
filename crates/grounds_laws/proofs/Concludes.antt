-- A literal is concluded by closed classes, in at most two steps more.
--     conclusion             the conclusion that is said for literal j
--     Concluded              steps, and a conclusion of a literal by them
--     equal-made             entries with one label
--     differ-made            a stated difference with one label
-- Assumes nothing.
use mathlib.Core.Bool.{Bool, true, false, not}
use mathlib.Core.List.{List}
use mathlib.Core.Path.{◌≡◌, refl, ap, ◌∙◌, subst, subst₂}
use Prim.Native.Nat.{ℕ, suc, ◌+◌, ◌≤◌, ◌<◌}
use native.Mathlib.Omega.{arith}
use lib.Dec.{eqb, ltb}
use borrow.Author.Tests.{eqb-true, eq-eqb, ltb-true, ltb-false, not-false}
use lib.ListN.{length}
use Rattle.meaning.specs.Context.{term_at, left_at, right_at, Context, differences}
use Rattle.meaning.specs.Rules.{Literal, equal, unequal, Clause}
use Rattle.meaning.specs.Values.{number_at}
use Rattle.meaning.specs.Grounds.{Conclusion, Cites, Concludes}
use Rattle.meaning.specs.Checking.{numbered, Ends}
use Rattle.meaning.proofs.Entries.{entry_row}
use Rattle.meaning.proofs.Cited.{Ready, length-numbered, numbered-left, numbered-right}
use Rattle.meaning.proofs.Verdicts.{false-ends}
use Rattle.grounds_numbers.specs.Limits.{most_entries}
use Rattle.grounds_steps.specs.Steps.{most_each}
use Rattle.grounds_laws.specs.Draft.{count_in, Written}
use Rattle.grounds_laws.specs.Classes.{label_in, State, same}
use Rattle.grounds_laws.specs.Rounds.{one_label}
use Rattle.grounds_laws.specs.Concluding.{parted, place_same, Said, said_equal, said_same}
use Rattle.grounds_laws.proofs.Builds.{Run, all, term, steps, Grown, Made, number-term, number-inside}
use Rattle.grounds_laws.proofs.Joins.{Sound, same-made}
use Rattle.grounds_laws.proofs.Complete.{side-term, side-inside}

abbrev pub conclusion : ℕ → Said → Conclusion
conclusion j s = record { literal = suc j; first = s.first; difference = s.difference }

module _ (c : Context) (k : Clause) (a : List ℕ) (ns : List ℕ) (ready : Ready c k a ns) where
  abbrev N : ℕ
  N = all c k a ns ready

  abbrev rows : ℕ
  rows = length c.rows

  abbrev diffs : List (ℕ × ℕ)
  diffs = numbered ns (differences c)

  abbrev side : ℕ → ℕ
  side p = number_at ns (rows + p)

  row-term : (x : ℕ) → x < rows → term c k a ns ready (number_at ns x) ≡ term_at c.rows x
  row-term x h =
      number-term c k a ns ready x (omega arith) ∙ entry_row c.rows a ready.formed.fit.ordered k.patterns ready.chosen x h

  -- ---- the sides of stated difference j

  abbrev left : ℕ → ℕ
  left j = left_at diffs j

  abbrev right : ℕ → ℕ
  right j = right_at diffs j

  pub record Sides (j : ℕ) : Type 0 where
    pub inside : j < length (differences c)
    pub left_in : left j < N
    pub right_in : right j < N
    pub left_own : number_at ns (left j) ≡ left j
    pub left_term : term c k a ns ready (left j) ≡ term_at c.rows (left_at (differences c) j)
    pub right_term : term c k a ns ready (right j) ≡ term_at c.rows (right_at (differences c) j)

  pub sides : (j : ℕ) → j < length (differences c) → Sides j
  sides j h =
      record {
        inside = h;
        left_in = rw l (number-inside c k a ns ready (left_at (differences c) j) (omega (arith, b.0)));
        right_in = rw r (number-inside c k a ns ready (right_at (differences c) j) (omega (arith, b.1)));
        left_own = rw l (ready.faithful.settled (left_at (differences c) j) (omega (arith, b.0)));
        left_term = ap (term c k a ns ready) l ∙ row-term (left_at (differences c) j) b.0;
        right_term = ap (term c k a ns ready) r ∙ row-term (right_at (differences c) j) b.1;
      }
    where
      b : (left_at (differences c) j < rows) × (right_at (differences c) j < rows)
      b = ready.formed.fit.apart j h

      l : left j ≡ number_at ns (left_at (differences c) j)
      l = numbered-left ns (differences c) j h

      r : right j ≡ number_at ns (right_at (differences c) j)
      r = numbered-right ns (differences c) j h

  -- the first stated difference with one label, where there is one
  same_place : (table : List ℕ) (j : ℕ) → j < length (differences c) → label_in table (left j) ≡ label_in table (right j)
      → (place_same table diffs < length (differences c)) × (label_in table (left (place_same table diffs)) ≡ label_in table (right (place_same table diffs)))
  unfolding place_same parted one_label
  same_place table j h e = (inside, eqb-true _ _ (not-false (one at) (ends.fails (omega (arith, inside, length-numbered ns (differences c))))))
    where
      one : ℕ → Bool
      one i = eqb (label_in table (left i)) (label_in table (right i))

      at : ℕ
      at = place_same table diffs

      ends : Ends (parted table diffs) (length diffs) at
      ends = false-ends (parted table diffs) (length diffs)

      low : at ≤ j
      low = go (ltb j at) refl
        where
          go : (b : Bool) → ltb j at ≡ b → at ≤ j
          go true q =
              let t : not (one j) ≡ true = ends.before j (ltb-true j at q) in
              absurd (let o : not true ≡ true = subst (λ (b : Bool). not b ≡ true) (eq-eqb _ _ e) t in let z : ◌≡◌ {A = ℕ} 0 1 = cc in omega arith)
          go false q = ltb-false j at q

      inside : at < length (differences c)
      inside = omega (arith, low)

  -- ---- a literal, by the classes of a run

  module _ (few : length c.rows + length k.patterns ≤ most_entries) (run : Run c k a) where
    -- literal j, counted from 0
    pub record Concluded (before : List ℕ) (j : ℕ) (l : Literal) (s : Said) : Type 0 where
      pub grown : Grown c k a ns ready run before s.cells 2
      pub concludes : Concludes c k a (steps c k a ns ready run s.cells) (suc j) (conclusion j s) l

    module _ (state : State) (w : Sound c k a ns ready run state) (room : count_in state.cells + 2 ≤ most_each) (j : ℕ) where
      pub equal-made : (p q : ℕ) → p < length k.patterns → q < length k.patterns → run.owner ≡ 0
          → label_in state.table (side p) ≡ label_in state.table (side q)
          → Concluded state.cells j (equal p q) (said_equal state.cells state.table (side p) (side q))
      unfolding said_equal
      equal-made p q hp hq o e =
          record {
            grown = m.grown;
            concludes = subst₂ (Cites c k a (steps c k a ns ready run u.cells) 0 u.number) (side-term c k a ns ready p hp) (side-term c k a ns ready q hq)
                (subst (λ (i : ℕ). Cites c k a (steps c k a ns ready run u.cells) i u.number (term c k a ns ready (side p)) (term c k a ns ready (side q))) o m.shows);
          }
        where
          u : Written
          u = same state.cells state.table (side p) (side q)

          m : Made c k a ns ready run state.cells u 2 (side p) (side q)
          m =
              same-made c k a ns ready run state w (side p) (side q) (omega (arith, side-inside c k a ns ready p hp)) (side-inside c k a ns ready p hp)
              (side-inside c k a ns ready q hq)
              (ready.faithful.settled (rows + p) (omega arith))
              e
              room

      pub differ-made : (p q i : ℕ) → run.owner ≡ suc j → i < length (differences c) → label_in state.table (left i) ≡ label_in state.table (right i)
          → Concluded state.cells j (unequal p q) (said_same state.cells state.table diffs)
      unfolding said_same
      differ-made p q i o h e =
          record {
            grown = m.grown;
            concludes = record {
              left = term_at c.rows (left_at (differences c) at);
              right = term_at c.rows (right_at (differences c) at);
              pair = record { place = at; counted = omega arith; inside = b.inside; left = refl; right = refl };
              cites = subst₂ (Cites c k a (steps c k a ns ready run u.cells) (suc j) u.number) b.left_term b.right_term
                  (subst (λ (i : ℕ). Cites c k a (steps c k a ns ready run u.cells) i u.number (term c k a ns ready (left at)) (term c k a ns ready (right at))) o m.shows);
            };
          }
        where
          at : ℕ
          at = place_same state.table diffs

          found : (at < length (differences c)) × (label_in state.table (left at) ≡ label_in state.table (right at))
          found = same_place state.table i h e

          b : Sides at
          b = sides at found.0

          u : Written
          u = same state.cells state.table (left at) (right at)

          m : Made c k a ns ready run state.cells u 2 (left at) (right at)
          m = same-made c k a ns ready run state w (left at) (right at) (omega (arith, b.left_in)) b.left_in b.right_in b.left_own found.1 room
