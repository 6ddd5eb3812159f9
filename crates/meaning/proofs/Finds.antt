-- The searches over a closed table find the first breach, where the test of an assignment is right about those of representatives.
--     answers_one              two answers to one clause are equal
--     first-representatives    a first breach uses representatives only
--     RightTest                a test that passes just the breaches among the assignments of representatives
--     LowBreach, low-sought    a breach made of representatives; these are what the search seeks
--     starts-below             assignments of representatives stay inside the range
--     low-covers               for each breach there is one of representatives that is no later
--     first-breach             the plain search gives the first breach, or nothing just where there is none
--     search-breach            so does the search that tries literals early, with any pruning that keeps its promise
--     breach-from              the search from an assignment on gives the first breach from there on that is made of representatives
--     breach-from-all          a pruning that keeps every such breach serves for every assignment to start from
-- Assumes nothing.
use mathlib.Core.Bool.{Bool, true}
use mathlib.Core.List.{List, [], ◌∷◌, map}
use mathlib.Core.Path.{◌≡◌, sym, subst}
use mathlib.Core.Logic.{⊎_elim, ◌↔◌}
use Prim.Native.Nat.{ℕ, ◌<◌}
use native.Mathlib.Omega.{arith}
use lib.ListN.{length}
use Rattle.meaning.specs.Context.{Context, equations}
use Rattle.meaning.specs.Rules.{Clause, variables, instances, AllHold, range_of, choice, Below, Breach, Found, found, First, Answers}
use Rattle.meaning.specs.FirstBy.{breaks, first_by}
use Rattle.meaning.proofs.Table.{length-terms}
use Rattle.meaning.proofs.Model.{Closed}
use Rattle.meaning.proofs.Order.{Covers, covers-first, covers-trans, keeps-covers, same_first, first_one}
use Rattle.meaning.proofs.Box.{mem_below, Box, AllIn}
use Rattle.meaning.proofs.Search.{Prunes, search}
use Rattle.meaning.proofs.Prunings.{KeepsAll, keeps-all-covers, keeps-all-part, prunes-same}
use Rattle.meaning.proofs.From.{AtOrAfter}
use Rattle.meaning.proofs.Swap.{Lower, breach-low, low-upto}
use Rattle.meaning.proofs.Seek.{seek-first, starts, starts-rising, lowest-below, lowest-has}
use Rattle.meaning.proofs.Pruned.{Sought, dead, start_box, search_from, pruned-first, first-from}

pub answers_one : (c : Context) (k : Clause) (r s : Found) → Answers c k r → Answers c k s → r ≡ s
answers_one c k r s p q = first_one (Breach c (range_of c) k) (variables k.patterns) (λ a b. b.long) r s p q

-- a test of assignments that is right about those of representatives
abbrev pub RightTest : Context → Clause → (ℕ → ℕ) → (List ℕ → Bool) → Type 0
RightTest c k rep test =
    (a : List ℕ) → length a ≡ variables k.patterns → AllIn (starts c.rows rep) a
    → AllHold c (instances k.patterns (choice (range_of c) a)) k.literals ↔ (test a ≡ true)

-- a breach made of representatives
abbrev pub LowBreach : Context → Clause → (ℕ → ℕ) → List ℕ → Type 0
LowBreach c k rep a = Breach c (range_of c) k a × AllIn (starts c.rows rep) a

all-below : (n : ℕ) (rows a : List ℕ) → Below n rows → AllIn rows a → Below n a
all-below n rows [] b i = tt
all-below n rows (x ∷ a) b i = (mem_below n x rows b i.0, all-below n rows a b i.1)

pub starts-below : (c : Context) (rep : ℕ → ℕ) (a : List ℕ) → AllIn (starts c.rows rep) a → Below (length (range_of c)) a
starts-below c rep a i =
    all-below (length (range_of c)) (starts c.rows rep) a (lowest-below rep (length (range_of c)) 0 (length c.rows) (omega (arith, length-terms c.rows))) i

module _ (c : Context) (k : Clause) (rep : ℕ → ℕ) (closed : Closed c.rows (equations c) rep) where
  closed-lower : Lower c (range_of c) rep
  closed-lower =
      record {
        lower = λ i h. closed.low i (omega (arith, length-terms c.rows));
        same = λ i h. closed.sound i (omega (arith, length-terms c.rows));
      }

  pub first-representatives : (a : List ℕ) → Answers c k (found a) → map rep a ≡ a
  first-representatives a f =
      ⊎_elim (λ e. e) (λ w. absurd (f.1 (map rep a) (breach-low c (range_of c) rep closed-lower k a f.0) w))
      (low-upto c (range_of c) rep closed-lower k a f.0.inside)

  all-starts : (a : List ℕ) → Below (length (range_of c)) a → AllIn (starts c.rows rep) (map rep a)
  all-starts [] b = tt
  all-starts (x ∷ a) b =
      let h : x < length c.rows = omega (arith, b.0, length-terms c.rows) in
      (lowest-has rep (rep x) 0 (length c.rows) (omega arith) (omega (arith, closed.low x h)) (closed.settled x h), all-starts a b.1)

  -- each breach, its rows replaced by their representatives, is a breach and no later
  pub low-covers : Covers (Breach c (range_of c) k) (LowBreach c k rep)
  low-covers =
      record {
        part = λ a w. w.0;
        cover = λ a b. (
          map rep a,
          (breach-low c (range_of c) rep closed-lower k a b, all-starts a b.inside),
          low-upto c (range_of c) rep closed-lower k a b.inside,
        );
      }

  module _ (differs : ℕ → ℕ → Bool) (offset : ℕ) (right : RightTest c k rep (breaks differs c.rows rep offset k)) where
    pub low-sought : (a : List ℕ) → LowBreach c k rep a ↔ Sought differs c.rows rep offset k a
    low-sought a = (
      λ w. (w.0.long, w.1, (right a w.0.long w.1).0 w.0.holds),
      λ w. (record { long = w.0; inside = starts-below c rep a w.1; holds = (right a w.0 w.1).1 w.2 }, w.1),
    )

    pub first-breach : Answers c k (first_by differs c.rows rep offset k)
    unfolding first_by
    first-breach =
        covers-first (covers-trans low-covers (keeps-covers low-sought)) (first_by differs c.rows rep offset k)
        (seek-first (breaks differs c.rows rep offset k) (starts c.rows rep) (starts-rising c.rows rep) (variables k.patterns))

    pub search-breach : (prune : List ℕ → Box → Box) → Prunes (LowBreach c k rep) (starts c.rows rep) prune
        → Answers c k (search (dead differs c.rows rep offset k) prune (variables k.patterns) [] (start_box c.rows rep k))
    search-breach prune p =
        subst (Answers c k) (sym (pruned-first differs c.rows rep offset k prune (prunes-same (Sought differs c.rows rep offset k) low-sought p))) first-breach

    module _ (prune : List ℕ → Box → Box) (from : List ℕ) (whole : length from ≡ variables k.patterns) where
      low-from : (a : List ℕ) → AtOrAfter (LowBreach c k rep) from a ↔ AtOrAfter (Sought differs c.rows rep offset k) from a
      low-from a = (λ w. ((low-sought a).0 w.0, w.1), λ w. ((low-sought a).1 w.0, w.1))

      pub breach-from : Prunes (AtOrAfter (LowBreach c k rep) from) (starts c.rows rep) prune
          → First (AtOrAfter (LowBreach c k rep) from) (search_from differs c.rows rep offset k prune from)
      breach-from p =
          same_first low-from (search_from differs c.rows rep offset k prune from)
          (first-from differs c.rows rep offset k prune from whole (prunes-same (AtOrAfter (Sought differs c.rows rep offset k) from) low-from p))

      pub breach-from-all : KeepsAll (LowBreach c k rep) (starts c.rows rep) prune
          → First (AtOrAfter (LowBreach c k rep) from) (search_from differs c.rows rep offset k prune from)
      breach-from-all p = breach-from (keeps-all-covers (keeps-all-part (AtOrAfter (LowBreach c k rep) from) (λ a w. w.0) p))
