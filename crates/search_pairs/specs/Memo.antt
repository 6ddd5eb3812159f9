-- The memo of what was asked: two sets for each class, which pairs are known, and which of those differ.
--     memo_size               how many words it has
--     known_at, differs_at     the sets, one behind the other in a run
--     Knows                  whether two classes differ, where it is known
--     Memo                   each pair that is known has the right answer
--     is_pair                 two numbers are those of a pair, either way round
--     Sought, Paired         a pair put into sets, either way round
--     Places, Noted          one answer noted
--     Asking, Recalled       two numbers asked for, with a memo
-- Assumes nothing.
use Rattle.std.specs.Prelude.{Bool, true, false, Option, None, Some, ◌&&◌, ◌||◌, List, [], ◌∷◌, ◌≡◌, ◌⊎◌, ℕ, ◌+◌, ◌*◌, ◌<◌, ◌≤◌, length}
use Rattle.meaning.specs.ByTable.{apart_by}
use Rattle.meaning.specs.Following.{differ_by}
use Rattle.runs.specs.Runs.{row_count, context_of}
use Rattle.bits.specs.Sets.{has}
use Rattle.search_pairs.specs.Ready.{words_for, most_words, Ready}
use Rattle.search_pairs.specs.Steps.{Laid, Inside, sets_size, Blank, Asked}

abbrev pub memo_size : ℕ → ℕ
memo_size n = (n + n) * words_for n

abbrev pub known_at : ℕ → List ℕ → ℕ → ℕ → Bool
known_at n known a b = has known (a * words_for n) b

abbrev pub differs_at : ℕ → List ℕ → ℕ → ℕ → Bool
differs_at n known a b = has known ((n + a) * words_for n) b

-- what is known of two classes: whether they differ
abbrev pub Knows : ℕ → List ℕ → ℕ → ℕ → Option Bool → Type 0
Knows n known x y None = known_at n known x y ≡ false
Knows n known x y (Some r) = (known_at n known x y ≡ true) × (r ≡ differs_at n known x y)

-- of a pair that is not known nothing is said
pub record Memo (rows table sets known : List ℕ) : Type 0 where
  pub long : length known ≡ memo_size (row_count rows)
  pub clear : (a b : ℕ) → a < row_count rows → b < row_count rows → known_at (row_count rows) known a b ≡ false → differs_at (row_count rows) known a b ≡ false
  pub so : (said : List ℕ) → Ready rows said table sets → (a b : ℕ) → a < row_count rows → b < row_count rows → known_at (row_count rows) known a b ≡ true
      → differs_at (row_count rows) known a b ≡ differ_by (context_of rows said) a b

abbrev pub is_pair : ℕ → ℕ → ℕ → ℕ → Bool
is_pair x y a b = apart_by (λ v. v) ((x, y) ∷ []) a b

-- n sets from a number on stand in a memo of a length
pub record Sought (n len base x y : ℕ) : Type 0 where
  pub few : words_for n ≤ most_words
  pub long : len ≡ memo_size n
  pub low : base ≤ n
  pub left : x < n
  pub right : y < n

pub record Paired (n base x y : ℕ) (old new : List ℕ) : Type 0 where
  pub long : length new ≡ length old
  pub here : (a b : ℕ) → a < n → b < n → has new ((base + a) * words_for n) b ≡ (has old ((base + a) * words_for n) b || is_pair x y a b)
  pub others : (s b : ℕ) → b < n → (s < base) ⊎ (base + n ≤ s) → has new (s * words_for n) b ≡ has old (s * words_for n) b

pub record Places (n len x y : ℕ) : Type 0 where
  pub few : words_for n ≤ most_words
  pub long : len ≡ memo_size n
  pub left : x < n
  pub right : y < n

pub record Noted (n x y : ℕ) (r : Bool) (old new : List ℕ) : Type 0 where
  pub long : length new ≡ length old
  pub known : (a b : ℕ) → a < n → b < n → known_at n new a b ≡ (known_at n old a b || is_pair x y a b)
  pub differs : (a b : ℕ) → a < n → b < n → differs_at n new a b ≡ (differs_at n old a b || (r && is_pair x y a b))

-- two of n classes
pub record Asking (n : ℕ) (rows table sets labels work known : List ℕ) (x y : ℕ) : Type 0 where
  pub count : n ≡ row_count rows
  pub laid : Laid rows
  pub inside : Inside (row_count rows) table
  pub room : sets_size (row_count rows) ≤ length sets
  pub blank : Blank (row_count rows) labels work
  pub memo : Memo rows table sets known
  pub left : x < row_count rows
  pub right : y < row_count rows

-- the answer, and a memo that is right again
pub record Recalled (rows table sets : List ℕ) (x y : ℕ) (labels work known : List ℕ) (b : Bool) : Type 0 where
  pub asked : Asked rows table sets x y labels work b
  pub memo : Memo rows table sets known
