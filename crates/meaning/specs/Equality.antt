-- When two terms are equal, when they are kept apart, when a context contradicts itself, and what a closing promises.
--     Same, Equal          derivable: given, reflexive, symmetric, transitive, congruent
--     Apart                kept apart: a stated difference, in either orientation, up to equality
--     Adding, EqualAdding  what is stated and the equation of two terms; what is derivable from that
--     Clash, FirstClash    a stated difference with equal sides; the first one
--     Lowest, Promise      a row's representative; what a closing promises of a table of n places
-- Assumes nothing.
use Rattle.std.specs.Prelude.{List, ◌≡◌, ◌⊎◌, ℕ, ◌≤◌, ◌<◌, length, get_or}
use Rattle.meaning.specs.Context.{Term, Terms, node, stop, more, Row, term_at, Context, equations, differences, left_at, right_at}

-- the least congruence over all ground terms that contains E
mutual
  pub data Same (E : Term → Term → Type 0) : Term → Term → Type 0 where
    given : {s t : Term} → E s t → Same E s t
    reflexive : {s : Term} → Same E s s
    symmetric : {s t : Term} → Same E s t → Same E t s
    transitive : {s t u : Term} → Same E s t → Same E t u → Same E s u
    congruent : {f : ℕ} {ss ts : Terms} → Sames E ss ts → Same E (node f ss) (node f ts)

  pub data Sames (E : Term → Term → Type 0) : Terms → Terms → Type 0 where
    same_stop : Sames E stop stop
    same_more : {s t : Term} {ss ts : Terms} → Same E s t → Sames E ss ts → Sames E (more s ss) (more t ts)

-- s and t are the terms of the two rows of some pair
abbrev pub Stated : List Row → List (ℕ × ℕ) → Term → Term → Type 0
Stated rows pairs s t =
    (k : ℕ) × (k < length pairs) × (s ≡ term_at rows (left_at pairs k)) × (t ≡ term_at rows (right_at pairs k))

abbrev pub Equal : List Row → List (ℕ × ℕ) → Term → Term → Type 0
Equal rows eqs = Same (Stated rows eqs)

abbrev pub Apart : List Row → List (ℕ × ℕ) → List (ℕ × ℕ) → Term → Term → Type 0
Apart rows eqs diffs s t =
    (k : ℕ)
    × (k < length diffs)
    × ((Equal rows eqs s (term_at rows (left_at diffs k)) × Equal rows eqs t (term_at rows (right_at diffs k)))
    ⊎ (Equal rows eqs t (term_at rows (left_at diffs k)) × Equal rows eqs s (term_at rows (right_at diffs k))))

abbrev pub EqualIn : Context → Term → Term → Type 0
EqualIn c = Equal c.rows (equations c)

abbrev pub ApartIn : Context → Term → Term → Type 0
ApartIn c = Apart c.rows (equations c) (differences c)

-- the stated equations and t = u
pub data Adding (rows : List Row) (eqs : List (ℕ × ℕ)) (t u : Term) : Term → Term → Type 0 where
  stated : {p q : Term} → Stated rows eqs p q → Adding rows eqs t u p q
  added : Adding rows eqs t u t u

abbrev pub EqualAdding : Context → Term → Term → Term → Term → Type 0
EqualAdding c t u = Same (Adding c.rows (equations c) t u)

-- the sides of the stated difference n, counted from 0, are equal
abbrev pub Clash : Context → ℕ → Type 0
Clash c n =
    (n < length (differences c)) × EqualIn c (term_at c.rows (left_at (differences c) n)) (term_at c.rows (right_at (differences c) n))

abbrev pub FirstClash : Context → ℕ → Type 0
FirstClash c n = Clash c n × ((m : ℕ) → m < n → Clash c m → ⊥)

abbrev pub Consistent : Context → Type 0
Consistent c = (m : ℕ) → Clash c m → ⊥

-- row r is the lowest row equal to row i
pub record Lowest (c : Context) (i r : ℕ) : Type 0 where
  pub row : r < length c.rows
  pub equal : EqualIn c (term_at c.rows i) (term_at c.rows r)
  pub least : (j : ℕ) → j < length c.rows → EqualIn c (term_at c.rows i) (term_at c.rows j) → r ≤ j

abbrev pub Representatives : Context → (ℕ → ℕ) → Type 0
Representatives c rep = (i : ℕ) → i < length c.rows → Lowest c i (rep i)

abbrev pub rep_at : List ℕ → ℕ → ℕ
rep_at table i = get_or table i 0

-- each row's place holds its representative, and each other place its own number
pub record Promise (c : Context) (n : ℕ) (table : List ℕ) : Type 0 where
  pub long : length table ≡ n
  pub rows : Representatives c (rep_at table)
  pub others : (i : ℕ) → length c.rows ≤ i → i < n → rep_at table i ≡ i
