-- What `ask_anew` and `ask` answer, tried at small contexts whose sets are ready.
--     some-stated      two constants that are stated to differ do, either way round, and neither differs from itself
--     some-followed    f(a) = p, f(b) = q, and p and q differ: a and b do; a and p do not
--     some-lent        what is asked of rows, statements, classes, sets, labels, marks and memo is there for that context
--     some-recalled    with the memo the answer is the same
--     no-one-live      only the sides of the difference live: not the sets of that context, since a is under f(a), whose class is live
-- Assumes nothing.
use mathlib.Core.Bool.{Bool, true, false, ◌&&◌}
use mathlib.Core.List.{List, [], ◌∷◌}
use mathlib.Core.Path.{◌≡◌, refl}
use Prim.Native.Nat.{ℕ, zero, suc, ◌≤◌, ◌<◌}
use native.Mathlib.Omega.{arith}
use lib.Dec.{eqb, ltb}
use lib.ListN.{length, get_or}
use borrow.Author.Tests.{eqb-true, ltb-true}
use Rattle.meaning.specs.Context.{equations_of, differences_of}
use Rattle.meaning.specs.Columns.{statement_of}
use Rattle.meaning.specs.ByTable.{clash_of, clash_from, apart_by, same_list}
use Rattle.meaning.specs.Closing.{move, total, close, agree, rounds, round, rows_pass, row_pass, stated_pass, upto, unite, unite_if, count}
use Rattle.meaning.specs.Following.{follows_by, differ_by}
use Rattle.meaning.specs.Equality.{rep_at}
use Rattle.meaning.proofs.Logic.{false-true, and-true-left, and-true-right}
use Rattle.runs.specs.Fit.{Every, NamedAt}
use Rattle.runs.specs.Runs.{each, row_count, said_count, count_in, left_in, right_in, rows_of, statements_of}
use Rattle.bits.specs.Sets.{bit_at, has}
use Rattle.search_pairs.specs.Ready.{Ready}
use Rattle.search_pairs.specs.Steps.{Laid, Inside, sets_size, Blank, Asked}
use Rattle.search_pairs.specs.Memo.{Memo, Recalled}
use Rattle.search_pairs.proofs.Recalling.{memo-blank}
use Rattle.search_pairs.proofs.Tested.{every, every-at, below_by, within_by, ordered_by, over_by, beside_by, sides_by, under_by, same_bool, apart_is_by, fits_by, prepared_by, ready_by}

unfoldable zero_by : List ℕ → Bool
zero_by [] = true
zero_by (x ∷ l) = eqb x 0 && zero_by l

-- whatever the answer is, it is this one
abbrev Answers : List ℕ → List ℕ → List ℕ → ℕ → ℕ → Bool → Type 0
Answers rows table sets i j r = (labels work : List ℕ) (b : Bool) → Asked rows table sets i j labels work b → b ≡ r

-- ---- a, b, and the difference of the two

abbrev rows₁ : List ℕ
rows₁ = 1 ∷ 0 ∷ 0 ∷ 0 ∷ 0 ∷ 0 ∷ 2 ∷ 0 ∷ 0 ∷ 0 ∷ 0 ∷ 0 ∷ []

abbrev said₁ : List ℕ
said₁ = 3 ∷ 0 ∷ 1 ∷ []

abbrev table₁ : List ℕ
table₁ = 0 ∷ 1 ∷ []

-- nothing over or beside; each kept apart from the other; both live
abbrev sets₁ : List ℕ
sets₁ = 0 ∷ 0 ∷ 0 ∷ 0 ∷ 2 ∷ 1 ∷ 3 ∷ []

ready₁ : Ready rows₁ said₁ table₁ sets₁
unfolding every below_by within_by ordered_by over_by beside_by sides_by under_by same_bool apart_is_by fits_by prepared_by apart_by clash_of clash_from statement_of equations_of differences_of rows_of statements_of each same_list close rounds round rows_pass row_pass stated_pass upto unite_if agree unite count move total bit_at has
ready₁ = ready_by rows₁ said₁ table₁ sets₁ refl refl refl refl

pub some-stated : Ready rows₁ said₁ table₁ sets₁
    × (Answers rows₁ table₁ sets₁ 0 1 true × (Answers rows₁ table₁ sets₁ 1 0 true × (Answers rows₁ table₁ sets₁ 0 0 false × Answers rows₁ table₁ sets₁ 0 2 false)))
unfolding differ_by follows_by statement_of equations_of differences_of rows_of statements_of each same_list close rounds round rows_pass row_pass stated_pass upto unite_if agree unite count move total
some-stated = (
  ready₁,
  (λ l w b a. a.so said₁ ready₁, (λ l w b a. a.so said₁ ready₁, (λ l w b a. a.so said₁ ready₁, λ l w b a. a.so said₁ ready₁))),
)

-- ---- a, b, p, q, f(a) = p and f(b) = q, and the difference of p and q

abbrev rows₂ : List ℕ
rows₂ =
    1 ∷ 0 ∷ 0 ∷ 0 ∷ 0 ∷ 0 ∷ 2 ∷ 0 ∷ 0 ∷ 0 ∷ 0 ∷ 0 ∷ 3 ∷ 0 ∷ 0 ∷ 0 ∷ 0 ∷ 0 ∷ 4 ∷ 0 ∷ 0 ∷ 0 ∷ 0 ∷ 0 ∷ 5 ∷ 1 ∷ 0 ∷ 0 ∷ 0 ∷ 0 ∷ 5 ∷ 1 ∷ 1 ∷ 0 ∷ 0 ∷ 0 ∷ []

abbrev said₂ : List ℕ
said₂ = 2 ∷ 4 ∷ 2 ∷ 2 ∷ 5 ∷ 3 ∷ 3 ∷ 2 ∷ 3 ∷ []

abbrev table₂ : List ℕ
table₂ = 0 ∷ 1 ∷ 2 ∷ 3 ∷ 2 ∷ 3 ∷ []

-- row 4 over a and row 5 over b; a and b beside each other; p and q kept apart; all four live
abbrev sets₂ : ℕ → List ℕ
sets₂ live = 16 ∷ 32 ∷ 0 ∷ 0 ∷ 0 ∷ 0 ∷ 3 ∷ 3 ∷ 0 ∷ 0 ∷ 0 ∷ 0 ∷ 0 ∷ 0 ∷ 8 ∷ 4 ∷ 0 ∷ 0 ∷ live ∷ []

ready₂ : Ready rows₂ said₂ table₂ (sets₂ 15)
unfolding every below_by within_by ordered_by over_by beside_by sides_by under_by same_bool apart_is_by fits_by prepared_by apart_by clash_of clash_from statement_of equations_of differences_of rows_of statements_of each same_list close rounds round rows_pass row_pass stated_pass upto unite_if agree unite count move total bit_at has
ready₂ = ready_by rows₂ said₂ table₂ (sets₂ 15) refl refl refl refl

pub some-followed : Ready rows₂ said₂ table₂ (sets₂ 15) × (Answers rows₂ table₂ (sets₂ 15) 0 1 true × Answers rows₂ table₂ (sets₂ 15) 0 2 false)
unfolding differ_by follows_by statement_of equations_of differences_of rows_of statements_of each same_list close rounds round rows_pass row_pass stated_pass upto unite_if agree unite count move total
some-followed = (ready₂, (λ l w b a. a.so said₂ ready₂, λ l w b a. a.so said₂ ready₂))

-- own labels, nothing marked, and a blank memo
abbrev labels₂ : List ℕ
labels₂ = 0 ∷ 1 ∷ 2 ∷ 3 ∷ 4 ∷ 5 ∷ []

abbrev known₂ : List ℕ
known₂ = 0 ∷ 0 ∷ 0 ∷ 0 ∷ 0 ∷ 0 ∷ 0 ∷ 0 ∷ 0 ∷ 0 ∷ 0 ∷ 0 ∷ []

zeros : (l : List ℕ) → zero_by l ≡ true → (j : ℕ) → get_or l j 0 ≡ 0
unfolding zero_by
zeros [] e j = refl
zeros (x ∷ l) e zero = eqb-true x 0 (and-true-left (eqb x 0) (zero_by l) e)
zeros (x ∷ l) e (suc j) = zeros l (and-true-right (eqb x 0) (zero_by l) e) j

laid₂ : Laid rows₂
unfolding every
laid₂ =
    record {
      room = omega arith;
      few = λ i h. le-of-lt-suc (ltb-true (count_in rows₂ i) 5 (every-at 6 (λ i. ltb (count_in rows₂ i) 5) refl i h));
      ordered = ready₂.fit.ordered;
    }
  where
    le-of-lt-suc : {a : ℕ} → a < 5 → a ≤ 4
    le-of-lt-suc h = omega arith

named₂ : Every 3 (NamedAt said₂ 6)
unfolding every
named₂ =
    record {
      each = λ k h.
          record {
            left = ltb-true (left_in said₂ k) 6 (every-at 3 (λ k. ltb (left_in said₂ k) 6) refl k h);
            right = ltb-true (right_in said₂ k) 6 (every-at 3 (λ k. ltb (right_in said₂ k) 6) refl k h);
          };
    }

inside₂ : Inside 6 table₂
unfolding every
inside₂ = record { each = λ i h. ltb-true (rep_at table₂ i) 6 (every-at 6 (λ i. ltb (rep_at table₂ i) 6) refl i h) }

blank₂ : Blank 6 labels₂ (0 ∷ 0 ∷ [])
unfolding every zero_by
blank₂ =
    record {
      space = record { few = omega arith; labels-long = refl; work-long = refl };
      own = λ a h. eqb-true (rep_at labels₂ a) a (every-at 6 (λ a. eqb (rep_at labels₂ a) a) refl a h);
      none = zeros (0 ∷ 0 ∷ []) refl;
    }

memo₂ : Memo rows₂ table₂ (sets₂ 15) known₂
unfolding zero_by
memo₂ = memo-blank rows₂ table₂ (sets₂ 15) known₂ (record { long = refl; words = zeros known₂ refl })

pub some-lent : Laid rows₂
    × (Every (said_count said₂) (NamedAt said₂ (row_count rows₂))
    × (Inside (row_count rows₂) table₂
    × ((length (sets₂ 15) ≡ sets_size (row_count rows₂)) × (Blank (row_count rows₂) labels₂ (0 ∷ 0 ∷ []) × Memo rows₂ table₂ (sets₂ 15) known₂))))
some-lent = (laid₂, (named₂, (inside₂, (refl, (blank₂, memo₂)))))

pub some-recalled : (labels work known : List ℕ) (b : Bool) → Recalled rows₂ table₂ (sets₂ 15) 0 1 labels work known b → b ≡ true
unfolding differ_by follows_by statement_of equations_of differences_of rows_of statements_of each same_list close rounds round rows_pass row_pass stated_pass upto unite_if agree unite count move total
some-recalled labels work known b r = r.asked.so said₂ ready₂

pub no-one-live : Ready rows₂ said₂ table₂ (sets₂ 12) → ⊥
unfolding statement_of differences_of rows_of statements_of each bit_at has
no-one-live ready = false-true (ready.prepared.live.under 4 0 (omega arith) (omega arith) refl) refl
