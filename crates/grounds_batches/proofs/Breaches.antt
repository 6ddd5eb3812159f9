-- From an assignment that breaks the rule, and the keys and numbers of its entries, to grounds that are accepted.
--     breach-chosen               a breach gives each variable a context row
--     filled-ready, filled-keys   the runs of all entries hold faithful numbers and their keys
--     breach-shared, breach-said  the closed classes of shared steps; what is said for each literal
--     DrawnTo                     after so many literals: all that is written follows, is needed, and shows these
--     breach-start, breach-next   before the first; after one more, where its column holds numbers of 16 bits
--     breach-drawn                after all of them
--     breach-accepted             what is written then is accepted
--     breach-few, breach-used     it is at most 16 times 7,020 steps, and each is cited
--     breach-each                 each owner has at most 7,050 of them: the shared ones are written once, and two more for each equal literal
--     breach-written              the words that are written hold them
--     breach-rest, breach-long    every later place is as before, and the run keeps its length
-- Assumes nothing.
use mathlib.Core.List.{List}
use mathlib.Core.Path.{◌≡◌, ap, sym, ◌∙◌}
use Prim.Native.Nat.{ℕ, zero, suc, ◌+◌, ◌≤◌, ◌<◌}
use native.Mathlib.Omega.{arith}
use lib.ListN.{length, get_or, take, drop, length-take}
use Rattle.meaning.specs.Context.{Row, row_at, Context, equations, differences}
use Rattle.meaning.specs.Rules.{variables, range_of, Clause, AllHold, Breach}
use Rattle.meaning.specs.Formed.{Formed}
use Rattle.meaning.specs.Values.{number_at}
use Rattle.meaning.specs.Grounds.{Conclusion, conclusion_for, literal_at, instances_of, Each, Verified, accepted}
use Rattle.meaning.specs.Checking.{entries, key_of, numbered}
use Rattle.meaning.proofs.Lists.{below_at}
use Rattle.meaning.proofs.Table.{length-terms}
use Rattle.meaning.proofs.Entries.{length-map, length-entries}
use Rattle.meaning.proofs.Cited.{Ready}
use Rattle.runs.specs.Limits.{most_rows, most_patterns, most_literals}
use Rattle.runs.specs.Runs.{count_in as arg_count, rows_of}
use Rattle.runs.proofs.Saying.{rows-at}
use Rattle.grounds_steps.specs.Steps.{most_each, steps_of}
use Rattle.grounds_numbers.specs.Limits.{most_entries}
use Rattle.grounds_numbers.specs.Keys.{places_in}
use Rattle.grounds_numbers.specs.Entries.{Filled}
use Rattle.grounds_laws.specs.Draft.{count_in}
use Rattle.grounds_laws.specs.Classes.{State, upto}
use Rattle.grounds_laws.specs.Rounds.{blank, started, stated, rounds}
use Rattle.grounds_laws.specs.Concluding.{said, resumed}
use Rattle.grounds_laws.proofs.Drafts.{Under}
use Rattle.grounds_laws.proofs.Passes.{Keys}
use Rattle.grounds_laws.proofs.Literal.{Closed, closed-shared, shared-few, SaidFor, said-literal, hold_at}
use Rattle.grounds_batches.specs.Sending.{steps_in, Small}
use Rattle.grounds_batches.specs.Drawing.{Drawn, blank_drawn, drawn_to, drawn, end_written, Used, owned_by}
use Rattle.grounds_batches.proofs.Owned.{passing-most}
use Rattle.grounds_batches.proofs.Owners.{Shared}
use Rattle.grounds_batches.proofs.Draws.{Drawing, drawing-start, drawing-next, drawing-accepted}

pub breach-chosen : (c : Context) (k : Clause) (a : List ℕ) → Breach c (range_of c) k a
    → Each (variables k.patterns) (λ v. (v < length a) × (get_or a v 0 < length c.rows))
breach-chosen c k a breach v h =
    let l : v < length a = omega (arith, breach.long) in (l, omega (arith, length-terms c.rows, below_at (length (range_of c)) a breach.inside v l))

-- places past the variables are not read
module _ (c : Context) (k : Clause) (a : List ℕ) (formed : Formed c k)
    (chosen : Each (variables k.patterns) (λ v. (v < length a) × (get_or a v 0 < length c.rows))) (hold : AllHold c (instances_of c k a) k.literals) (keys numbers : List ℕ)
    (filled : Filled (entries c.rows a k.patterns) keys numbers (length c.rows + length k.patterns)) (few_rows : length c.rows ≤ most_rows)
    (few_patterns : length k.patterns ≤ most_patterns) (few_literals : length k.literals ≤ most_literals) where
  abbrev all : ℕ
  all = length c.rows + length k.patterns

  pub few : length c.rows + length k.patterns ≤ most_entries
  few = omega (arith, few_rows, few_patterns)

  pub filled-ready : Ready c k a numbers
  filled-ready = record { formed = formed; chosen = chosen; faithful = filled.faithful }

  abbrev ks : List Row
  ks = rows_of keys

  key-args : (x : ℕ) → x < all → length (row_at (entries c.rows a k.patterns) x).args ≡ length (take (arg_count keys x) (places_in keys x))
  unfolding key_of
  key-args x h =
      sym (length-map (number_at numbers) (row_at (entries c.rows a k.patterns) x).args) ∙ ap (λ (r : Row). length r.args) (sym (filled.keyed x h).so)

  pub filled-keys : Keys c k a numbers filled-ready few ks
  filled-keys =
      record {
        keys = λ x h.
            rows-at keys x (omega (arith, filled.keys-long, length-entries c.rows a k.patterns)) ∙ (filled.keyed x h).so;
        four = λ x h. omega (arith, key-args x h, length-take (arg_count keys x) (places_in keys x), (filled.keyed x h).few);
      }

  abbrev diffs : List (ℕ × ℕ)
  diffs = numbered numbers (differences c)

  -- ---- the shared steps, and each literal by itself

  abbrev final : State
  final = rounds all ks most_each (stated all (numbered numbers (equations c)) (started numbers all blank))

  pub breach-shared : Closed c k a numbers filled-ready few ks filled-keys final
  breach-shared = closed-shared c k a numbers filled-ready few ks filled-keys

  pub breach-shared-few : count_in final.cells ≤ 7018
  breach-shared-few = shared-few c k a numbers filled-ready few ks filled-keys final breach-shared

  pub breach-said : (j : ℕ) → j < length k.literals → (cells : List ℕ) → Under (count_in final.cells) final.cells cells
      → SaidFor c k a numbers filled-ready few ks filled-keys final breach-shared j (literal_at k.literals j)
      (said all ks numbers (length c.rows) diffs (literal_at k.literals j) (resumed final cells))
  breach-said j h cells u =
      said-literal c k a numbers filled-ready few ks filled-keys final breach-shared cells u j h (hold_at c (instances_of c k a) k.literals hold j h)

  -- ---- all literals, in a run of words

  module _ (steps : List (List ℕ)) (room : 112320 ≤ length steps) where
    abbrev to : ℕ → Drawn
    to j =
        drawn_to all ks numbers (length c.rows) diffs final k.literals j
        (blank_drawn final.cells steps)

    abbrev pub DrawnTo : ℕ → Drawn → Type 0
    DrawnTo = Drawing c k a final steps

    -- the column of literal j
    abbrev pub SmallAt : ℕ → Type 0
    SmallAt j = Small (said all ks numbers (length c.rows) diffs (literal_at k.literals j) (resumed final (to j).cells)).cells

    pub breach-start : DrawnTo 0 (to 0)
    unfolding drawn_to upto
    breach-start =
        drawing-start c k a numbers filled-ready few ks filled-keys few_rows few_patterns few_literals hold final breach-shared steps room

    pub breach-next : (j : ℕ) → j < length k.literals → SmallAt j → DrawnTo j (to j) → DrawnTo (suc j) (to (suc j))
    unfolding drawn_to upto
    breach-next j h small w =
        drawing-next c k a numbers filled-ready few ks filled-keys few_rows few_patterns few_literals hold final breach-shared steps room j h
        (to j)
        w
        small

    drawn-to : ((j : ℕ) → j < length k.literals → SmallAt j) → (j : ℕ) → j ≤ length k.literals → DrawnTo j (to j)
    drawn-to small zero h = breach-start
    drawn-to small (suc j) h = breach-next j (omega arith) (small j (omega arith)) (drawn-to small j (omega arith))

    abbrev end : Drawn
    end = drawn all ks numbers (length c.rows) diffs final k.literals steps

    pub breach-drawn : ((j : ℕ) → j < length k.literals → SmallAt j) → DrawnTo (length k.literals) end
    unfolding drawn
    breach-drawn small = drawn-to small (length k.literals) (omega arith)

    module _ (w : DrawnTo (length k.literals) end) where
      pub breach-accepted : (ds : List Conclusion) → ((j : ℕ) → j < length k.literals → conclusion_for (suc j) ds ≡ end_written end j)
          → Verified c k a (steps_in end.out) ds accepted
      breach-accepted =
          drawing-accepted c k a numbers filled-ready few ks filled-keys few_rows few_patterns few_literals hold final breach-shared steps room
          end
          w

      pub breach-counted : length (steps_in end.out) ≡ end.out.next
      breach-counted = w.counted

      pub breach-few : end.out.next ≤ 112320
      breach-few = omega (arith, w.most, few_literals)

      pub breach-each : (o : ℕ) → owned_by o (steps_in end.out) ≤ 7050
      breach-each zero = omega (arith, w.shares, passing-most (Shared end.out.news) (count_in final.cells), breach-shared-few, few_literals)
      breach-each (suc i) = omega (arith, w.owns i)

      pub breach-used : (p : ℕ) → p < end.out.next → Used (steps_in end.out) (end_written end) (length k.literals) p
      breach-used = w.used

      pub breach-written : (n : ℕ) → n ≡ end.out.next → steps_of (take n end.out.steps) ≡ steps_in end.out
      unfolding steps_in
      breach-written n e = rw e

      -- every later place is as before
      pub breach-rest : (n : ℕ) → n ≡ end.out.next → drop n end.out.steps ≡ drop n steps
      breach-rest n e = rw e w.rest

      pub breach-long : length end.out.steps ≡ length steps
      breach-long = w.long
