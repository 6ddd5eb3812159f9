-- The lines of a text, from the digits that a line begins with.
--     digits-on     digits join the line that is being read
--     feed-ends     a line feed ends it
--     from_cons     so does any byte that is no line feed
--     byte-begins   what was read of a line is how the line begins
--     all-nowhere   among digits no byte fails
--     fails-after   a byte that is no digit, after digits, is the first that fails
-- Assumes nothing.
use mathlib.Core.Bool.{Bool, true, false}
use mathlib.Core.List.{List, [], ◌∷◌, ◌++◌, append_assoc, append-nil}
use mathlib.Core.Path.{◌≡◌, refl, ap, subst, ◌∙◌}
use Prim.Native.Nat.{ℕ, zero, suc, ◌+◌, ◌<◌, ◌≤◌}
use native.Mathlib.Nat.{le_of_suc-le-suc, not-suc-le-zero, add-zero}
use native.Mathlib.Omega.{arith}
use lib.Dec.{eqb, ltb}
use lib.ListN.{length, get_or, take, drop}
use borrow.Author.Tests.{lt-ltb, le-ltb, ne_eqb}
use Rattle.meaning.specs.Text as M
use Rattle.meaning.specs.Text.{Line, lines_from, digit, first_failing, nowhere, linefeed}

abbrev pub AllDigits : List ℕ → Type 0
AllDigits l = (k : ℕ) → k < length l → digit (get_or l k 0) < 16

abbrev pub is_digit : ℕ → Bool
is_digit b = ltb (digit b) 16

no-feed : (b : ℕ) → digit b < 16 → eqb b linefeed ≡ false
unfolding digit
no-feed b h = ne_eqb b 10 (λ e. let g : digit 10 < 16 = subst (λ (x : ℕ). digit x < 16) e h in omega arith)

pub from_cons : (l : List ℕ) (b : ℕ) (t : List ℕ) → eqb b linefeed ≡ false → lines_from l (b ∷ t) ≡ lines_from (l ++ (b ∷ [])) t
unfolding lines_from
from_cons [] b t e = rw (e, lines_from)
from_cons (a ∷ l) b t e = rw (e, lines_from)

pub feed-ends : (l u : List ℕ) → lines_from l (10 ∷ u) ≡ record { bytes = l; ended = true } ∷ lines_from [] u
unfolding lines_from
feed-ends [] u = refl
feed-ends (a ∷ l) u = refl

pub digits-on : (n : ℕ) (l t : List ℕ) → n ≤ length t → AllDigits (take n t) → lines_from l t ≡ lines_from (l ++ take n t) (drop n t)
digits-on zero l t h d = rw append-nil
digits-on (suc n) l [] h d = absurd (not-suc-le-zero h)
digits-on (suc n) l (b ∷ t) h d =
    from_cons l b t (no-feed b (d 0 (omega arith)))
    ∙ digits-on n (l ++ (b ∷ [])) t (le_of_suc-le-suc h) (λ k g. d (suc k) (omega arith))
    ∙ rw append_assoc

pub record Begins (l u : List ℕ) : Type 0 where
  pub rest : List ℕ
  pub feed : Bool
  pub later : List Line
  pub lines : lines_from l u ≡ record { bytes = l ++ rest; ended = feed } ∷ later

rest-begins : (a : ℕ) (l u : List ℕ) → Begins (a ∷ l) u
unfolding lines_from
rest-begins a l [] = record { rest = []; feed = false; later = []; lines = rw append-nil }
rest-begins a l (b ∷ u) = go (eqb b linefeed) refl (rest-begins a (l ++ (b ∷ [])) u)
  where
    go : (t : Bool) → eqb b linefeed ≡ t → Begins (a ∷ (l ++ (b ∷ []))) u → Begins (a ∷ l) (b ∷ u)
    go true e r = record { rest = []; feed = true; later = lines_from [] u; lines = rw (e, lines_from, append-nil) }
    go false e r =
        record {
          rest = b ∷ r.rest;
          feed = r.feed;
          later = r.later;
          lines = from_cons (a ∷ l) b u e ∙ r.lines ∙ rw append_assoc;
        }

pub byte-begins : (l : List ℕ) (b : ℕ) (u : List ℕ) → Begins (l ++ (b ∷ [])) u
byte-begins [] b u = rest-begins b [] u
byte-begins (a ∷ l) b u = rest-begins a (l ++ (b ∷ [])) u

pub all-nowhere : (i : ℕ) (l : List ℕ) → AllDigits l → first_failing is_digit i l ≡ nowhere
unfolding first_failing
all-nowhere i [] d = refl
all-nowhere i (b ∷ l) d = rw (lt-ltb (digit b) 16 (d 0 (omega arith)), first_failing) (all-nowhere (suc i) l (λ k h. d (suc k) (omega arith)))

pub fails-after : (i : ℕ) (l : List ℕ) (b : ℕ) (y : List ℕ) → AllDigits l → 16 ≤ digit b → first_failing is_digit i (l ++ (b ∷ y)) ≡ M.at (i + length l)
unfolding first_failing
fails-after i [] b y d h = rw (le-ltb (digit b) 16 h, first_failing, add-zero)
fails-after i (a ∷ l) b y d h =
    let e : suc i + length l ≡ i + suc (length l) = omega arith in
    rw (lt-ltb (digit a) 16 (d 0 (omega arith)), first_failing) (fails-after (suc i) l b y (λ k g. d (suc k) (omega arith)) h ∙ ap M.at e)
