-- A search that tries each literal as soon as its variables are set gives what the plain search gives, whatever the table and the clause are.
--     Sought                   the assignments that the plain search looks through and that pass its test
--     dead                     a choice of the first variables under which a literal that is ready fails
--     dead-cuts                such a choice begins no assignment that passes, and a whole choice that is not dead passes
--     start_box                 the representatives, for every variable
--     pruned-first             with any pruning that keeps its promise the search gives what the plain search gives
--     search_from, first-from   the search from an assignment on gives the first from there on that is sought
--     first-from-all           a pruning that keeps every member serves for every assignment to start from
-- Assumes nothing.
use mathlib.Core.Bool.{Bool, true, false, not, ◌&&◌}
use mathlib.Core.List.{List, [], ◌∷◌, ◌++◌}
use mathlib.Core.Path.{◌≡◌, refl, ◌∙◌}
use mathlib.Core.Logic.{⊎_elim, ◌↔◌}
use Prim.Native.Nat.{ℕ, ◌+◌}
use native.Mathlib.Omega.{arith}
use borrow.Author.Tests.{le-leb, not-true, not-false}
use lib.Dec.{leb}
use lib.ListN.{length, get_or, length-append, get_or-append, replicate, length-replicate}
use Rattle.meaning.specs.Context.{Row}
use Rattle.meaning.specs.Rules.{Pattern, Literal, Clause, variables, Found, First}
use Rattle.meaning.specs.Formed.{left_of, right_of}
use Rattle.meaning.specs.Values.{levels, stages, numbers}
use Rattle.meaning.specs.FirstBy.{holds_by, all_hold_by, breaks, first_by}
use Rattle.meaning.specs.Pruning.{fails}
use Rattle.meaning.proofs.Logic.{false-true, and_both, and_none, and-true-left, and-true-right, or_cases, or-none}
use Rattle.meaning.proofs.Order.{first_one, same_first}
use Rattle.meaning.proofs.Box.{Box, AllIn, Open, Good, good-replicate, open-replicate}
use Rattle.meaning.proofs.Search.{search, Cuts, Prunes, search-first}
use Rattle.meaning.proofs.Prunings.{KeepsAll}
use Rattle.meaning.proofs.From.{AtOrAfter, not_before, search-from, search-all-from}
use Rattle.meaning.proofs.Seek.{seek-first, starts, starts-rising}
use Rattle.meaning.proofs.Prefix.{levels-most, ready, holds-prefix}

-- the rows that are their own representatives, for every variable
abbrev pub start_box : List Row → (ℕ → ℕ) → Clause → Box
start_box rows rep k = replicate (variables k.patterns) (starts rows rep)

module _ (differs : ℕ → ℕ → Bool) (rows : List Row) (rep : ℕ → ℕ) (offset : ℕ) (k : Clause) where
  abbrev pub Sought : List ℕ → Type 0
  Sought a = (length a ≡ variables k.patterns) × AllIn (starts rows rep) a × (breaks differs rows rep offset k a ≡ true)

  -- a literal whose variables are all chosen fails
  unfoldable pub dead : List ℕ → Bool
  dead chosen = fails differs (ready (length chosen) (levels k.patterns)) (stages rows rep offset k.patterns chosen (length chosen)).numbers k.literals

  abbrev ps : List Pattern
  ps = k.patterns

  fails-none : (chosen rest : List ℕ) → length (chosen ++ rest) ≡ variables ps → (ls : List Literal)
      → fails differs (ready (length chosen) (levels ps)) (stages rows rep offset ps chosen (length chosen)).numbers ls ≡ true
      → all_hold_by differs (numbers rows rep offset ps (chosen ++ rest)) ls ≡ true → ⊥
  unfolding fails all_hold_by
  fails-none chosen rest h [] e w = false-true e refl
  fails-none chosen rest h (l ∷ ls) e w =
      ⊎_elim here (λ f. fails-none chosen rest h ls f (and-true-right (holds_by differs ns l) (all_hold_by differs ns ls) w))
      (or_cases (ready (length chosen) (levels ps) l && not (holds_by differs ms l)) (fails differs (ready (length chosen) (levels ps)) ms ls) e)
    where
      ns : List ℕ
      ns = numbers rows rep offset ps (chosen ++ rest)

      ms : List ℕ
      ms = (stages rows rep offset ps chosen (length chosen)).numbers

      here : (ready (length chosen) (levels ps) l && not (holds_by differs ms l)) ≡ true → ⊥
      here f =
          let r : ready (length chosen) (levels ps) l ≡ true = and-true-left (ready (length chosen) (levels ps) l) (not (holds_by differs ms l)) f in
          let n : holds_by differs ms l ≡ false = not-true (holds_by differs ms l) (and-true-right (ready (length chosen) (levels ps) l) (not (holds_by differs ms l)) f) in
          let g : length (chosen ++ rest) ≡ length chosen + length rest = length-append chosen rest in
          false-true (and-true-left (holds_by differs ns l) (all_hold_by differs ns ls) w)
          (holds-prefix rows rep offset ps (chosen ++ rest) chosen (length chosen) (get_or-append chosen rest 0) differs (omega arith) l r ∙ n)

  all-ready : (l : Literal) → ready (variables ps) (levels ps) l ≡ true
  unfolding ready
  all-ready l =
      and_both (leb (get_or (levels ps) (left_of l) 0) (variables ps)) (leb (get_or (levels ps) (right_of l) 0) (variables ps))
      (le-leb (get_or (levels ps) (left_of l) 0) (variables ps) (levels-most ps (left_of l)))
      (le-leb (get_or (levels ps) (right_of l) 0) (variables ps) (levels-most ps (right_of l)))

  fails-all : (ns : List ℕ) (ls : List Literal) → fails differs (ready (variables ps) (levels ps)) ns ls ≡ false → all_hold_by differs ns ls ≡ true
  unfolding fails all_hold_by
  fails-all ns [] e = refl
  fails-all ns (l ∷ ls) e =
      let asks : Literal → Bool = ready (variables ps) (levels ps) in
      let two : ((asks l && not (holds_by differs ns l)) ≡ false) × (fails differs asks ns ls ≡ false) =
      or-none (asks l && not (holds_by differs ns l)) (fails differs asks ns ls) e in
      and_both (holds_by differs ns l) (all_hold_by differs ns ls)
      (not-false (holds_by differs ns l) (and_none (asks l) (not (holds_by differs ns l)) two.0 (all-ready l)))
      (fails-all ns ls two.1)

  dead-leaf : (a : List ℕ) → length a ≡ variables ps → dead a ≡ false → breaks differs rows rep offset k a ≡ true
  unfolding dead breaks numbers
  dead-leaf a h e = fails-all (numbers rows rep offset ps a) k.literals (rw h at e)

  pub dead-cuts : Cuts Sought (variables ps) (starts rows rep) dead
  unfolding dead breaks
  dead-cuts =
      record {
        cut = λ chosen e rest s. fails-none chosen rest s.0 k.literals e s.2;
        leaf = λ a h i e. (h, i, dead-leaf a h e);
      }

  module _ (So : List ℕ → Type 0) (part : (a : List ℕ) → So a → Sought a) where
    -- what is sought stands in the box of all representatives
    start-open : (a : List ℕ) → So a ↔ Open So [] (start_box rows rep k) a
    start-open a = (λ s. (open-replicate So (variables ps) (starts rows rep) a).0 ((part a s).0, (part a s).1, s), λ o. o.so)

    start_first : (r : Found) → First (Open So [] (start_box rows rep k)) r → First So r
    start_first r f = same_first start-open r f

  start-long : length (start_box rows rep k) ≡ variables ps
  start-long = length-replicate (variables ps) (starts rows rep)

  start-good : Good (starts rows rep) (start_box rows rep k)
  start-good = good-replicate (variables ps) (starts rows rep) (starts-rising rows rep)

  pub pruned-first : (prune : List ℕ → Box → Box) → Prunes Sought (starts rows rep) prune
      → search dead prune (variables k.patterns) [] (start_box rows rep k) ≡ first_by differs rows rep offset k
  unfolding first_by
  pruned-first prune p =
      first_one Sought (variables ps) (λ a s. s.0) (search dead prune (variables ps) [] (start_box rows rep k)) (first_by differs rows rep offset k)
      (start_first Sought (λ a s. s) (search dead prune (variables ps) [] (start_box rows rep k))
      (search-first Sought (variables ps) (starts rows rep) dead prune dead-cuts p (start_box rows rep k) start-long start-good))
      (seek-first (breaks differs rows rep offset k) (starts rows rep) (starts-rising rows rep) (variables ps))

  -- the search that leaves out what comes before an assignment
  unfoldable pub search_from : (List ℕ → Box → Box) → List ℕ → Found
  search_from prune from = search dead (λ chosen box. not_before from chosen (prune chosen box)) (variables k.patterns) [] (start_box rows rep k)

  module _ (prune : List ℕ → Box → Box) (from : List ℕ) (whole : length from ≡ variables k.patterns) where
    pub first-from : Prunes (AtOrAfter Sought from) (starts rows rep) prune → First (AtOrAfter Sought from) (search_from prune from)
    unfolding search_from
    first-from p =
        start_first (AtOrAfter Sought from) (λ a s. s.0) (search_from prune from)
        (search-from Sought (variables ps) (starts rows rep) dead prune from whole dead-cuts p (start_box rows rep k) start-long start-good)

    pub first-from-all : KeepsAll Sought (starts rows rep) prune → First (AtOrAfter Sought from) (search_from prune from)
    unfolding search_from
    first-from-all p =
        start_first (AtOrAfter Sought from) (λ a s. s.0) (search_from prune from)
        (search-all-from Sought (variables ps) (starts rows rep) dead prune from whole dead-cuts p (start_box rows rep k) start-long start-good)
