-- Steps of a column, numbered anew and written as words behind those written before.
--     new_of, new_in         a number's new one, 0 where it has none; what a step's number becomes
--     word_of, two_in        a step's owner, kind and sides in a word; two numbers in a word
--     Out, out_of, steps_in  new numbers, and the words of steps, of which the first ones are written; made of these; the steps that they hold
--     forgotten            shared steps keep their new numbers, and the others have none
--     written              one step more
--     send_one, sent        a step that is marked and has no new number; so many of a column
--     batch                what one step of a column rests on
--     Small                the places of the steps of a column are of 16 bits
-- Assumes nothing.
use Rattle.std.specs.Prelude.{true, false, List, ℕ, ◌+◌, ◌*◌, ◌-◌, ◌≤◌, ◌<◌, eqb, ltb, length, get_or, set, take}
use Rattle.meaning.specs.Grounds.{Step}
use Rattle.grounds_steps.specs.Steps.{words_of, steps_of}
use Rattle.grounds_laws.specs.Limits.{draft_size}
use Rattle.grounds_laws.specs.Draft.{ref_of, count_in, owner_at, cell_in}
use Rattle.grounds_laws.specs.Classes.{upto}
use Rattle.grounds_batches.specs.Marking.{kept, marked_for}

-- ---- words of 64 bits

-- step 0 is none
unfoldable pub new_of : List ℕ → ℕ → ℕ
new_of news r = elim (eqb r 0) [ true ↦ 0 | false ↦ get_or news r 0 ]

-- kinds 1 and 2 cite no step
unfoldable pub new_in : List ℕ → ℕ → ℕ → ℕ
new_in news kind r = elim (ltb 2 kind) [ true ↦ new_of news r | false ↦ r ]

abbrev pub word_of : ℕ → ℕ → ℕ → ℕ → ℕ → ℕ → ℕ
word_of owner kind mark row mark' row' =
    owner * 72057594037927936 + kind * 281474976710656 + mark * 1099511627776 + row * 16777216 + mark' * 65536 + row'

abbrev pub two_in : ℕ → ℕ → ℕ
two_in a b = a * 4294967296 + b

abbrev pub word_in : ℕ → ℕ → ℕ → ℕ → ℕ → ℕ
word_in rows owner kind x y = word_of owner kind (ref_of rows x).mark (ref_of rows x).row (ref_of rows y).mark (ref_of rows y).row

abbrev pub numbers_word : List ℕ → ℕ → ℕ → ℕ → ℕ
numbers_word news kind a b = two_in (new_in news kind a) (new_in news kind b)

-- ---- one batch

-- a place for each number of a column, and three words for each step, of which so many are written
pub record Out : Type 0 where
  pub news : List ℕ
  pub next : ℕ
  pub steps : List (List ℕ)

abbrev pub out_of : List ℕ → ℕ → List (List ℕ) → Out
out_of news next steps = record { news = news; next = next; steps = steps }

unfoldable pub steps_in : Out → List Step
steps_in o = steps_of (take o.next o.steps)

-- the number of step i, counted from 0, where it is not shared
unfoldable pub forget_one : ℕ → ℕ → List ℕ → List ℕ
forget_one from i news = elim (ltb i from) [ true ↦ news | false ↦ set news (i + 1) 0 ]

unfoldable pub forgotten : ℕ → List ℕ → List ℕ
forgotten from news = upto (length news - 1) (forget_one from) news

-- step i of a column
unfoldable pub written : ℕ → ℕ → ℕ → List ℕ → ℕ → Out → Out
written rows from owner cells i o =
    record {
      news = set o.news (i + 1) (o.next + 1);
      next = o.next + 1;
      steps = set o.steps o.next
          (words_of (word_in rows (owner_at from owner i) (cell_in cells i 1) (cell_in cells i 2) (cell_in cells i 3))
          (numbers_word o.news (cell_in cells i 1) (cell_in cells i 4) (cell_in cells i 5))
          (numbers_word o.news (cell_in cells i 1) (cell_in cells i 6) (cell_in cells i 7)));
    }

unfoldable pub send_one : ℕ → ℕ → ℕ → List ℕ → List ℕ → ℕ → Out → Out
send_one rows from owner cells marks i o =
    elim (kept marks (i + 1)) [
      | true ↦ elim (eqb (get_or o.news (i + 1) 0) 0) [ true ↦ written rows from owner cells i o | false ↦ o ]
      | false ↦ o
    ]

-- the first n
unfoldable pub sent : ℕ → ℕ → ℕ → List ℕ → List ℕ → ℕ → Out → Out
sent rows from owner cells marks n o = upto n (send_one rows from owner cells marks) o

unfoldable pub resent : ℕ → Out → Out
resent from o = out_of (forgotten from o.news) o.next o.steps

-- the first steps of a column are shared, and the others an owner's; step s, and what it rests on
unfoldable pub batch : ℕ → ℕ → ℕ → List ℕ → ℕ → Out → Out
batch rows from owner cells s o = sent rows from owner cells (marked_for cells s) (count_in cells) (resent from o)

-- the places of each step of a column are of 16 bits
pub record Small (cells : List ℕ) : Type 0 where
  pub places : (i : ℕ) → i < count_in cells → (j : ℕ) → 0 < j → j ≤ draft_size → cell_in cells i j < 65536
