-- The definitions tried at small inputs: what the right versions give, and that wrong ones are shut out.
--     some-..    what is printed, or written, for an input
--     no-..      a wrong version does not give what the definitions ask
-- Assumes nothing.
use mathlib.Core.List.{List, [], ◌∷◌, ◌++◌}
use mathlib.Core.Path.{◌≡◌, refl, ap}
use Prim.Native.Nat.{ℕ, ◌%◌}
use native.Mathlib.Omega.{arith}
use lib.ListN.{length, get_or}
use Rattle.meaning.specs.Context.{Row, Context, same, differ, differences_of, equations_of}
use Rattle.meaning.specs.Equality.{Representatives, given, reflexive, symmetric}
use Rattle.meaning.specs.Columns.{statement_of}
use Rattle.meaning.specs.Writing.{digit_of, hex, frame, rows_text, statements_text, context_text, joins, sooner, insert, sorted, normal_of}
use Rattle.meaning.specs.Text.{Refusal}
use Rattle.meaning.specs.Replies.{breach, none, refused, refusal, printed, code_of, values_of, Normal, Normalised, Leaves, fits, short, stays, normal, Written, wrote, unwritten}
use Rattle.runs.specs.Runs.{each, rows_of, statements_of}
use Rattle.normaliser.specs.Normals.{normal_text}

-- ---- printed lines

pub some-breach : printed (breach (0 ∷ 1 ∷ [])) ≡ 48 ∷ 56 ∷ 48 ∷ 50 ∷ 48 ∷ 48 ∷ 48 ∷ 49 ∷ 10 ∷ []
unfolding printed code_of values_of frame hex digit_of
some-breach = refl

pub no-swapped-digits : printed none ≡ 57 ∷ 48 ∷ 10 ∷ [] → ⊥
unfolding printed code_of values_of frame hex digit_of
no-swapped-digits e = let z : ◌≡◌ {A = ℕ} 48 57 = ap (λ (l : List ℕ). get_or l 0 0) e in omega arith

pub no-low-first : printed (refused (refusal 1 2)) ≡ frame (10 ∷ 1 ∷ 2 ∷ 0 ∷ 0 ∷ 0 ∷ []) → ⊥
unfolding printed code_of values_of frame hex digit_of
no-low-first e = let z : ◌≡◌ {A = ℕ} 48 50 = ap (λ (l : List ℕ). get_or l 5 0) e in omega arith

pub no-count-left-out : printed (breach (0 ∷ 1 ∷ [])) ≡ frame (8 ∷ 0 ∷ 1 ∷ []) → ⊥
unfolding printed code_of values_of frame hex digit_of
no-count-left-out e = let z : ◌≡◌ {A = ℕ} 50 48 = ap (λ (l : List ℕ). get_or l 3 0) e in omega arith

-- ---- the lent space

-- a refusal leaves every byte, and so does an empty text
refused-stays : (lent after : List ℕ) (n : Normalised) (a : Written) (x : Refusal) → a ≡ unwritten x → Leaves lent n a after → after ≡ lent
refused-stays lent after n a x e (fits t h) = absurd (let z : ◌≡◌ {A = ℕ} 0 1 = cc in omega arith)
refused-stays lent after n a x e (short t h) = refl
refused-stays lent after n a x e (stays r) = refl

empty-stays : (lent after : List ℕ) (n : Normalised) (a : Written) → n ≡ normal [] → Leaves lent n a after → after ≡ lent
empty-stays lent after n a e (fits t h) = let f : t ≡ [] = cc in rw f
empty-stays lent after n a e (short t h) = refl
empty-stays lent after n a e (stays r) = refl

-- a refusal 10 after a byte was written
pub no-early-byte : (text : List ℕ) → Leaves (1 ∷ []) (normal text) (unwritten (refusal 10 0)) (0 ∷ []) → ⊥
no-early-byte text l =
    let z : ◌≡◌ {A = ℕ} 0 1 = ap (λ (m : List ℕ). get_or m 0 0) (refused-stays (1 ∷ []) (0 ∷ []) (normal text) (unwritten (refusal 10 0)) (refusal 10 0) refl l) in omega arith

-- a byte behind an empty text is changed
pub no-later-byte : Leaves (1 ∷ []) (normal []) (wrote 0) (0 ∷ []) → ⊥
no-later-byte l =
    let z : ◌≡◌ {A = ℕ} 0 1 = ap (λ (m : List ℕ). get_or m 0 0) (empty-stays (1 ∷ []) (0 ∷ []) (normal []) (wrote 0) refl l) in omega arith

-- an empty text needs no space
pub some-empty : Leaves [] (normal []) (wrote 0) []
some-empty = fits [] (omega arith)

-- ---- the normal text: three constants, each with a line of 9 bytes

abbrev constants : List Row
constants = record { symbol = 0; args = [] } ∷ record { symbol = 1; args = [] } ∷ record { symbol = 2; args = [] } ∷ []

-- the same as a run, six numbers a row
abbrev rows : List ℕ
rows = (0 ∷ 0 ∷ 0 ∷ 0 ∷ 0 ∷ 0 ∷ []) ++ (1 ∷ 0 ∷ 0 ∷ 0 ∷ 0 ∷ 0 ∷ []) ++ (2 ∷ 0 ∷ 0 ∷ 0 ∷ 0 ∷ 0 ∷ [])

-- the normal text of some statements about them, by a table
abbrev written : List ℕ → List ℕ → List ℕ
written table said = normal_text rows said table

pub some-sorted : written (0 ∷ 1 ∷ 2 ∷ []) (3 ∷ 2 ∷ 1 ∷ 3 ∷ 0 ∷ 1 ∷ []) ≡ rows_text constants ++ statements_text (differ 0 1 ∷ differ 1 2 ∷ [])
unfolding normal_text context_text normal_of each rows_of statements_of statement_of differences_of joins sorted insert sooner
some-sorted = refl

pub no-unsorted : written (0 ∷ 1 ∷ 2 ∷ []) (3 ∷ 2 ∷ 1 ∷ 3 ∷ 0 ∷ 1 ∷ []) ≡ rows_text constants ++ statements_text (differ 1 2 ∷ differ 0 1 ∷ []) → ⊥
unfolding normal_text context_text normal_of each rows_of statements_of statement_of differences_of joins sorted insert sooner rows_text statements_text frame hex digit_of
no-unsorted e = let z : ◌≡◌ {A = ℕ} 48 49 = ap (λ (l : List ℕ). get_or l 30 0) e in omega arith

pub no-repeat : written (0 ∷ 1 ∷ 2 ∷ []) (3 ∷ 0 ∷ 1 ∷ 3 ∷ 1 ∷ 0 ∷ []) ≡ rows_text constants ++ statements_text (differ 0 1 ∷ differ 0 1 ∷ []) → ⊥
unfolding normal_text context_text normal_of each rows_of statements_of statement_of differences_of joins sorted insert sooner rows_text statements_text frame hex digit_of
no-repeat e = let z : ◌≡◌ {A = ℕ} 34 41 = ap length e in omega arith

pub no-swapped-sides : written (0 ∷ 0 ∷ 2 ∷ []) (2 ∷ 0 ∷ 1 ∷ []) ≡ rows_text constants ++ statements_text (same 1 0 ∷ []) → ⊥
unfolding normal_text context_text normal_of each rows_of statements_of statement_of differences_of joins sorted insert sooner rows_text statements_text frame hex digit_of
no-swapped-sides e = let z : ◌≡◌ {A = ℕ} 48 49 = ap (λ (l : List ℕ). get_or l 30 0) e in omega arith

-- ---- representatives: rows 0 and 1 are equal, and the higher one does not stand for them

abbrev joined : Context
joined = record { rows = record { symbol = 0; args = [] } ∷ record { symbol = 1; args = [] } ∷ []; statements = same 0 1 ∷ [] }

first-stands : (rep : ℕ → ℕ) → Representatives joined rep → (rep 0 ≡ 0) × (rep 1 ≡ 0)
unfolding equations_of
first-stands rep r = (
  omega (arith, (r 0 (omega arith)).least 0 (omega arith) reflexive),
  omega (arith, (r 1 (omega arith)).least 0 (omega arith) (symmetric (given (0, omega arith, refl, refl)))),
)

pub no-last-row : Normal joined (context_text (normal_of (λ i. 1) joined)) → ⊥
unfolding context_text normal_of differences_of joins sorted rows_text statements_text frame hex digit_of
no-last-row w =
    let r : (w.0 0 ≡ 0) × (w.0 1 ≡ 0) = first-stands w.0 w.1 in
    let e : ◌≡◌ {A = ℕ} 49 (digit_of (w.0 1 % 16)) = ap (λ (l : List ℕ). get_or l 21 0) (rw (joins, r.0, r.1) at w.2) in
    let z : ◌≡◌ {A = ℕ} 49 48 = rw r.1 at e in
    omega arith
