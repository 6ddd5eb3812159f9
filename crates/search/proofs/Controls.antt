-- Searches that are not right: each is shut out by an example on which it would have to be.
--     Search, Right          a search for the first breach by a table; it gives what the definitions give
--     lacking, no-lacking    none at once where a symbol of the clause has no context row: f(x) = f(b) over the rows a, b
--     by_row, no-by-row       values numbered by row, where an equal row is looked for among the rows before it: x, y, f(y), f(x), f(x) over the row a
--     last, no_last          the rows tried from the last to the first: x = x over the rows a, b
--     stated, no-stated      a literal x unequal y that asks of the stated differences alone: x unequal a where f(a) and f(b) differ
--     one_way, no-one-way     a literal x unequal y read in one orientation alone, the lesser number first: the same x unequal a, where b differs from a
-- Assumes nothing.
use mathlib.Core.Bool.{Bool, true, false, ◌||◌, ◌&&◌}
use mathlib.Core.List.{List, [], ◌∷◌, ◌++◌}
use mathlib.Core.Path.{◌≡◌, refl, sym, ◌∙◌}
use Prim.Native.Nat.{ℕ, ◌+◌}
use native.Mathlib.Omega.{arith}
use lib.Dec.{eqb, ltb}
use lib.ListN.{length, set}
use Rattle.meaning.specs.Context.{Row, differ, Context, equations_of, differences_of, differences}
use Rattle.meaning.specs.Equality.{rep_at}
use Rattle.meaning.specs.Rules.{Pattern, variable, apply, equal, unequal, Clause, variables, Found, found, nothing}
use Rattle.meaning.specs.ByTable.{apart_by, same_list}
use Rattle.meaning.specs.Following.{follows_by, differ_by}
use Rattle.meaning.specs.Values.{Numbering, pattern_at, number_of, step, number, stages, numbers, unread, met, is_over, held, rows_at, levels, levels_from, level_of, highest}
use Rattle.meaning.specs.FirstBy.{holds_by, all_hold_by, lowest, or_else, try_all, seek, breaks, first_by}
use Rattle.meaning.specs.Closing.{move, total, close, agree, rounds, round, rows_pass, row_pass, stated_pass, upto, unite, unite_if, count}
use Rattle.plan.specs.Planning.{up_to}
use Rattle.search.specs.Finding.{found_by}

abbrev pub Search : Type 0
Search = Context → List ℕ → Clause → Found

abbrev pub Right : Search → Type 0
Right find = (c : Context) (table : List ℕ) (k : Clause) → find c table k ≡ found_by c table k

abbrev constant : ℕ → Row
constant f = record { symbol = f; args = [] }

abbrev stating : List Row → Context
stating rows = record { rows = rows; statements = [] }

-- ---- a symbol that has no context row

unfoldable pub has_symbol : ℕ → List Row → Bool
has_symbol f [] = false
has_symbol f (r ∷ rows) = eqb f r.symbol || has_symbol f rows

unfoldable pub lacking : List Row → List Pattern → Bool
lacking rows [] = false
lacking rows (variable v ∷ ps) = lacking rows ps
lacking rows (apply f l ∷ ps) = let rest : Bool = lacking rows ps in elim (has_symbol f rows) [ true ↦ rest | false ↦ true ]

-- f(x) = f(b)
abbrev beside_b : Clause
beside_b =
    record {
      patterns = variable 0 ∷ apply 2 [] ∷ apply 3 (0 ∷ []) ∷ apply 3 (1 ∷ []) ∷ [];
      literals = equal 2 3 ∷ [];
    }

b-found : found_by (stating (constant 1 ∷ constant 2 ∷ [])) (0 ∷ 1 ∷ []) beside_b ≡ found (1 ∷ [])
unfolding first_by seek try_all or_else lowest breaks all_hold_by holds_by numbers stages number step number_of met is_over held rows_at levels levels_from level_of highest same_list variables
b-found = refl

b-lacks : lacking (constant 1 ∷ constant 2 ∷ []) beside_b.patterns ≡ true
unfolding lacking has_symbol
b-lacks = refl

pub no-lacking : (find : Search) → ((c : Context) (table : List ℕ) (k : Clause) → lacking c.rows k.patterns ≡ true → find c table k ≡ nothing) → Right find → ⊥
no-lacking find n r =
    let e : nothing ≡ found (1 ∷ []) =
    sym (n (stating (constant 1 ∷ constant 2 ∷ [])) (0 ∷ 1 ∷ []) beside_b b-lacks) ∙ r (stating (constant 1 ∷ constant 2 ∷ [])) (0 ∷ 1 ∷ []) beside_b ∙ b-found in
    let z : ◌≡◌ {A = ℕ} 0 1 = cc in
    omega arith

-- ---- values numbered by row

unfoldable pub before : ℕ → List ℕ → List ℕ
before r [] = []
before r (q ∷ l) = let rest : List ℕ = before r l in elim (ltb q r) [ true ↦ q ∷ rest | false ↦ rest ]

module _ (rows : List Row) (rep : ℕ → ℕ) (ps : List Pattern) (given : List ℕ) where
  -- of the rows read only those before row r are looked at
  unfoldable pub step_by_row : Numbering → ℕ → Numbering
  step_by_row s r =
      record {
        numbers = set s.numbers r (number_of rows rep 65536 ps given (record { numbers = s.numbers; done = before r s.done }) (65536 + r) (pattern_at ps r));
        done = s.done ++ (r ∷ []);
      }

  unfoldable pub number_by_row : Numbering → List ℕ → Numbering
  number_by_row s [] = s
  number_by_row s (r ∷ rs) = number_by_row (step_by_row s r) rs

unfoldable pub by_row : Search
by_row c table k =
    let rows : List Row = c.rows in
    let rep : ℕ → ℕ = rep_at table in
    seek (λ a. all_hold_by (differ_by c) (number_by_row rows rep k.patterns a (unread rows rep 65536 k.patterns a) (up_to (levels k.patterns) 5)).numbers k.literals)
    (lowest rep 0 (length rows)) (variables k.patterns) []

-- f(x) = f(x), f(y) = f(x)
abbrev twice : Clause
twice =
    record {
      patterns = variable 0 ∷ variable 1 ∷ apply 3 (1 ∷ []) ∷ apply 3 (0 ∷ []) ∷ apply 3 (0 ∷ []) ∷ [];
      literals = equal 4 3 ∷ equal 2 3 ∷ [];
    }

twice_found : found_by (stating (constant 1 ∷ [])) (0 ∷ []) twice ≡ found (0 ∷ 0 ∷ [])
unfolding first_by seek try_all or_else lowest breaks all_hold_by holds_by numbers stages number step number_of met is_over held rows_at levels levels_from level_of highest same_list variables
twice_found = refl

twice-missed : by_row (stating (constant 1 ∷ [])) (0 ∷ []) twice ≡ nothing
unfolding by_row before step_by_row number_by_row up_to seek try_all or_else lowest all_hold_by holds_by number_of met is_over held rows_at levels levels_from level_of highest same_list variables
twice-missed = refl

pub no-by-row : Right by_row → ⊥
no-by-row r =
    let e : nothing ≡ found (0 ∷ 0 ∷ []) = sym twice-missed ∙ r (stating (constant 1 ∷ [])) (0 ∷ []) twice ∙ twice_found in
    let z : ◌≡◌ {A = ℕ} 0 1 = cc in
    omega arith

-- ---- the last breach

unfoldable pub falling : List ℕ → List ℕ
falling [] = []
falling (x ∷ l) = falling l ++ (x ∷ [])

unfoldable pub last : Search
last c table k =
    seek (breaks (differ_by c) c.rows (rep_at table) 65536 k) (falling (lowest (rep_at table) 0 (length c.rows))) (variables k.patterns) []

-- x = x
abbrev itself : Clause
itself = record { patterns = variable 0 ∷ []; literals = equal 0 0 ∷ [] }

itself-first : found_by (stating (constant 1 ∷ constant 2 ∷ [])) (0 ∷ 1 ∷ []) itself ≡ found (0 ∷ [])
unfolding first_by seek try_all or_else lowest breaks all_hold_by holds_by numbers stages number step number_of met is_over held rows_at levels levels_from level_of highest same_list variables
itself-first = refl

itself-last : last (stating (constant 1 ∷ constant 2 ∷ [])) (0 ∷ 1 ∷ []) itself ≡ found (1 ∷ [])
unfolding last falling seek try_all or_else lowest breaks all_hold_by holds_by numbers stages number step number_of met is_over held rows_at levels levels_from level_of highest same_list variables
itself-last = refl

pub no_last : Right last → ⊥
no_last r =
    let e : found (1 ∷ []) ≡ found (0 ∷ []) = sym itself-last ∙ r (stating (constant 1 ∷ constant 2 ∷ [])) (0 ∷ 1 ∷ []) itself ∙ itself-first in
    let z : ◌≡◌ {A = ℕ} 1 0 = cc in
    omega arith

-- ---- the stated differences alone

unfoldable pub stated : Search
stated c table k = first_by (apart_by (rep_at table) (differences c)) c.rows (rep_at table) 65536 k

abbrev images : Context
images =
    record {
      rows = constant 1 ∷ constant 2 ∷ record { symbol = 3; args = 0 ∷ [] } ∷ record { symbol = 3; args = 1 ∷ [] } ∷ [];
      statements = differ 2 3 ∷ [];
    }

-- x unequal a
abbrev beside_a : Clause
beside_a = record { patterns = variable 0 ∷ apply 1 [] ∷ []; literals = unequal 0 1 ∷ [] }

a-found : found_by images (0 ∷ 1 ∷ 2 ∷ 3 ∷ []) beside_a ≡ found (1 ∷ [])
unfolding differ_by follows_by equations_of differences_of close rounds round rows_pass row_pass stated_pass upto unite_if agree unite count move total first_by seek try_all or_else lowest breaks all_hold_by holds_by numbers stages number step number_of met is_over held rows_at levels levels_from level_of highest same_list variables
a-found = refl

a-missed : stated images (0 ∷ 1 ∷ 2 ∷ 3 ∷ []) beside_a ≡ nothing
unfolding stated apart_by differences_of first_by seek try_all or_else lowest breaks all_hold_by holds_by numbers stages number step number_of met is_over held rows_at levels levels_from level_of highest same_list variables
a-missed = refl

pub no-stated : Right stated → ⊥
no-stated r =
    let e : nothing ≡ found (1 ∷ []) = sym a-missed ∙ r images (0 ∷ 1 ∷ 2 ∷ 3 ∷ []) beside_a ∙ a-found in
    let z : ◌≡◌ {A = ℕ} 0 1 = cc in
    omega arith

-- ---- one orientation alone

unfoldable pub rising : (ℕ → ℕ → Bool) → ℕ → ℕ → Bool
rising differs n m = ltb n m && differs n m

unfoldable pub one_way : Search
one_way c table k = first_by (rising (differ_by c)) c.rows (rep_at table) 65536 k

a-one-way : one_way images (0 ∷ 1 ∷ 2 ∷ 3 ∷ []) beside_a ≡ nothing
unfolding one_way rising differ_by follows_by equations_of differences_of close rounds round rows_pass row_pass stated_pass upto unite_if agree unite count move total first_by seek try_all or_else lowest breaks all_hold_by holds_by numbers stages number step number_of met is_over held rows_at levels levels_from level_of highest same_list variables
a-one-way = refl

pub no-one-way : Right one_way → ⊥
no-one-way r =
    let e : nothing ≡ found (1 ∷ []) = sym a-one-way ∙ r images (0 ∷ 1 ∷ 2 ∷ 3 ∷ []) beside_a ∙ a-found in
    let z : ◌≡◌ {A = ℕ} 0 1 = cc in
    omega arith
